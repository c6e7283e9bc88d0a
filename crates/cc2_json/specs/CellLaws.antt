-- The cell of a value's own place.
use Rattle.std.specs.Prelude.{◌≡◌, [], Bool, List, true, false, is_some, refl}
use Rattle.std.proofs.Common.{ap}
use Rattle.cc2_value.specs.Cells.{Word, is_entry}
use Rattle.cc2_value.specs.Shown.{Field, place_at, table_at}
use Rattle.cc2_leaf.specs.Env.{env_at}
use Rattle.cc2_leaf.specs.Lists.{words_cell}
use Rattle.cc2_leaf.specs.Wholes.{whole_cell}
use Rattle.cc2_leaf.specs.declared.env.EnvConfigValue.{EnvConfigValue}
use Rattle.cc2_leaf.specs.declared.env.EnvConfigValue.TheVariants as variable
use Rattle.cc2_leaf.specs.declared.repr.Repr.{Repr}
use Rattle.cc2_leaf.specs.declared.repr.Repr.TheVariants as repr
use Rattle.cc2_leaf.specs.declared.string_or_array.StringOrArray.{StringOrArray}
use Rattle.cc2_leaf.specs.declared.string_or_array.StringOrArray.TheVariants as whole

pub words_kept : (r : Repr) (words : List Word) → is_entry (words_cell r words) ≡ false
words_kept repr.Text words = refl
words_kept repr.Array words = refl

pub whole_kept : (w : StringOrArray) → is_entry (whole_cell w) ≡ false
whole_kept (whole.String text) = refl
whole_kept (whole.Array texts) = refl

pub env_own : (v : EnvConfigValue) → is_some (env_at v []) ≡ true
env_own (variable.Value text) = refl
env_own (variable.Table value force relative) = refl

pub entry_own : {A : Type 0} (member : Bool) (fs : List (Field A)) (a : A) → member ≡ true → is_some (table_at member fs a []) ≡ true
entry_own member fs a is = ap (λ m. is_some (place_at m)) is
