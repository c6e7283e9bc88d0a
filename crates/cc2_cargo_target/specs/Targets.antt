-- The targets that Cargo 1.95 builds for: those that are asked for, else those of `build.target`, else the host.
-- Cargo Reference, Configuration, `build.target`; Cargo Book, cargo build, `--target`.
use Rattle.std.specs.Prelude.{ℕ, Bool, true, false, ◌==◌, bytes_eq, codes, eqb, if◌then◌else◌, length, List, [], ◌∷◌, ◌++◌, map, Option, Some, None, Result, Ok, Err}
use Rattle.std.specs.List.{ends_with, list_any}
use Rattle.std.specs.Str.{trim}
use Rattle.cc2_error.specs.Causes.{Refusal, plain, refused_text}
use Rattle.cc2_error.specs.Commands.{Command}
use Rattle.cc2_base.specs.ToldPrograms.{Answers}
use Rattle.cc2_base.specs.declared.machine.Machine.{Machine}
use Rattle.cc2_rustc.specs.AskedVersions.{rustc_host}
use Rattle.cc2_value.specs.Cells.{Word}
use Rattle.cc2_cargo.specs.Raw.{Path, RawCell}
use Rattle.cc2_cargo_settings.specs.TextOrList.{text_or_list_at}
use Rattle.cc2_cargo_settings.specs.Values.{on_ok}
use Rattle.cc2_cargo_target.specs.Flags.{set_texts}

-- what a target is asked for by: the host, or a triple
pub data Requested : Type 0 where
  host : Requested
  triple : List ℕ → Requested

-- why a text is no triple: Cargo accepts no empty one, and the path of a specification on the nightly channel alone
abbrev pub misnamed : List ℕ → Option (List ℕ)
misnamed text =
    if length text == 0 then Some (codes "target was empty")
    else if ends_with eqb text (codes ".json") then Some (codes "`.json` target specs require -Zjson-target-spec")
    else None

abbrev pub unless_misnamed : List ℕ → Option (List ℕ) → Result Requested Refusal
unless_misnamed text None = Ok (triple text)
unless_misnamed text (Some reason) = Err (plain (refused_text reason))

-- `host-tuple` is the host, and every other text a triple, without the white space around it
abbrev pub request_of : List ℕ → Result Requested Refusal
request_of text = if bytes_eq text (codes "host-tuple") then Ok host else unless_misnamed (trim text) (misnamed (trim text))

-- these, and then those
abbrev pub requested_then : List Requested → Result (List Requested) Refusal → Result (List Requested) Refusal
requested_then rs (Ok others) = Ok (rs ++ others)
requested_then rs (Err refusal) = Err refusal

-- what each of these texts asks for, or the first error
abbrev pub all_requested : List (List ℕ) → Result (List Requested) Refusal
all_requested [] = Ok []
all_requested (text ∷ texts) = on_ok (λ r. requested_then (r ∷ []) (all_requested texts)) (request_of text)

abbrev pub is_host : Requested → Bool
is_host host = true
is_host (triple text) = false

-- the host is among them, or there are none
abbrev pub need_host : List Requested → Bool
need_host [] = true
need_host (r ∷ rs) = list_any is_host (r ∷ rs)

abbrev pub triple_of : List ℕ → Requested → List ℕ
triple_of h host = h
triple_of h (triple text) = text

-- their triples, with this host; where there are none that of the host
abbrev pub triples_with : List ℕ → List Requested → List (List ℕ)
triples_with h [] = h ∷ []
triples_with h (r ∷ rs) = map (triple_of h) (r ∷ rs)

-- their triples; rustc is asked for the host where it is needed
abbrev pub triples_of : Result (List ℕ) Refusal → List Requested → Result (List (List ℕ)) Refusal
triples_of found rs = if need_host rs then on_ok (λ h. Ok (triples_with h rs)) found else Ok (triples_with [] rs)

-- these texts, or else those of `build.target`
abbrev pub texts_or : List (List ℕ) → Option (List Word) → List (List ℕ)
texts_or [] set = set_texts set
texts_or (text ∷ texts) set = text ∷ texts

-- the triples of the targets: `build.target` is read whether it counts or not
abbrev pub targets_of : (Path → Option RawCell) → Machine → Command → Answers → List (List ℕ) → Result (List (List ℕ)) Refusal
targets_of look machine rustc answers texts =
    on_ok (λ set. on_ok (λ rs. triples_of (rustc_host false answers rustc) rs) (all_requested (texts_or texts set)))
    (text_or_list_at look machine (codes "build" ∷ (codes "target" ∷ [])) (codes "CARGO_BUILD_TARGET"))
