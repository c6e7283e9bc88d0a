-- What is written to a writer of cells.
use Rattle.std.specs.Prelude.{◌≡◌, ℕ, ◌+◌, List, [], ◌++◌}
use Rattle.cc2_ask.specs.Fields.{number_bytes}
use Rattle.cc2_value.specs.Cells.{Key, field, name}
use Rattle.cc2_resolved_cells.specs.Bytes.{KeyPrefix, cells_behind, key_bytes}
use Rattle.cc2_resolved_cells.specs.Cells.{ResolvedCell}
use Rattle.cc2_resolved_cells.specs.Short.{AreShortBehind}
use Rattle.cc2_resolved_cells.specs.declared.writer.CellWriter.{CellWriter}
use Rattle.cc2_resolved_cells.specs.declared.writer.KeyKind.{KeyKind}
use Rattle.cc2_resolved_cells.specs.declared.writer.KeyKind.TheVariants as kind

abbrev pub key_of_kind : KeyKind → List ℕ → Key
key_of_kind kind.Field text = field text
key_of_kind kind.Name text = name text

abbrev pub kind_byte : KeyKind → ℕ
kind_byte kind.Field = 102
kind_byte kind.Name = 110

-- no key is in front
abbrev pub root : KeyPrefix
root = record { depth = 0; bytes = [] }

-- the key after those in front
abbrev pub with_key : Key → KeyPrefix → KeyPrefix
with_key k front = record { depth = front.depth + 1; bytes = front.bytes ++ key_bytes k }

abbrev pub front_of : CellWriter → KeyPrefix
front_of w = record { depth = w.depth; bytes = w.path.items }

-- the bytes of a cell's path that ends with the key
abbrev pub opening : Key → KeyPrefix → List ℕ
opening k front = number_bytes (front.depth + 1) ++ (front.bytes ++ key_bytes k)

-- these cells are written after the others, behind the keys in front, which stay; each number and length fits four bytes
pub record AreWritten (cells : List ResolvedCell) (old new : CellWriter) : Type 0 where
  pub bytes : new.bytes.items ≡ old.bytes.items ++ cells_behind (front_of old) cells
  pub front : front_of new ≡ front_of old
  pub short : AreShortBehind old.depth cells
