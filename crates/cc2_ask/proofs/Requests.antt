-- Requests, taken record by record.
use Rattle.std.proofs.Common.{◌≡◌, ◌≢◌, ℕ, zero, suc, List, [], ◌∷◌, length, Option, Some, None, Err, refl, sym, ap, ◌∙◌}
use Rattle.std.proofs.lemmas.Option.{none-some}
use Rattle.std.specs.Prelude.{option_map, option_and_then}
use Rattle.cc2_ask.specs.Records.{Record, record_at, records_in}
use Rattle.cc2_ask.specs.Givens.{Given, nothing, given_behind, given_of, with_record}
use Rattle.cc2_ask.specs.Views.{AddsAll, IsRefused, IsRead, record_view}
use Rattle.cc2_ask.specs.declared.fault.Fault.{Fault}
use Rattle.cc2_ask.specs.declared.fault.Fault.TheVariants.{Memory, Malformed}

abbrev with_more : ℕ → Record × List ℕ → Option (List Record)
with_more n front = option_map (λ records. front.0 ∷ records) (records_in n front.1)

one_more : (g : Given) (r : Record) (records : Option (List Record))
    → given_behind (with_record g r) records ≡ given_behind g (option_map (λ rs. r ∷ rs) records)
one_more g r None = refl
one_more g r (Some rs) = refl

in_front : (n : ℕ) (bytes rest : List ℕ) (r : Record) → record_at bytes ≡ Some (r, rest)
    → records_in (suc n) bytes ≡ with_more n (r, rest)
in_front n [] rest r is = absurd (none-some (r, rest) is)
in_front n (b ∷ bytes) rest r is = ap (option_and_then (with_more n)) is

-- one record more was taken
pub taken_one : (n : ℕ) (g : Given) (bytes rest : List ℕ) (r : Record) → record_at bytes ≡ Some (r, rest)
    → given_behind (with_record g r) (records_in n rest) ≡ given_behind g (records_in (suc n) bytes)
taken_one n g bytes rest r is =
    one_more g r (records_in n rest) ∙ ap (given_behind g) (sym (in_front n bytes rest r is))

-- there is none to take
pub none_taken : (n : ℕ) (g : Given) (bytes : List ℕ) → bytes ≢ [] → record_at bytes ≡ None
    → given_behind g (records_in (suc n) bytes) ≡ None
none_taken n g [] more is = absurd (more refl)
none_taken n g (b ∷ bytes) more is = ap (λ front. given_behind g (option_and_then (with_more n) front)) is

-- all were taken
pub all_taken : (n : ℕ) (g : Given) (bytes : List ℕ) → bytes ≡ [] → given_behind g (records_in n bytes) ≡ Some g
all_taken zero g bytes is = ap (λ bs. given_behind g (records_in zero bs)) is
all_taken (suc n) g bytes is = ap (λ bs. given_behind g (records_in (suc n) bs)) is

-- bytes are left where no record may come any more
pub too_many : (g : Given) (bytes : List ℕ) → bytes ≢ [] → given_behind g (records_in zero bytes) ≡ None
too_many g [] more = absurd (more refl)
too_many g (b ∷ bytes) more = refl

-- there is none to take, as a reader says
pub refused : (n : ℕ) (g now : Given) (bytes rest : List ℕ) (fault : Fault) → bytes ≢ []
    → IsRead record_view (record_at bytes) (Err fault) rest → AddsAll (given_behind g (records_in (suc n) bytes)) now (Err fault)
refused n g now bytes rest Memory more is = tt
refused n g now bytes rest Malformed more is = none_taken n g bytes more is

-- all of a request
pub of_request : (bytes left : List ℕ) (g : Given) → g ≡ nothing → left ≡ bytes
    → given_behind g (records_in (length bytes) left) ≡ given_of bytes
of_request bytes left g none all =
    ap (λ known. given_behind known (records_in (length bytes) left)) none
    ∙ ap (λ bs. given_behind nothing (records_in (length bytes) bs)) all

-- all of a request is read, or refused as its records are
pub read_or_refused : (all given : Option Given) (now : Given) (fault : Fault) → all ≡ given → AddsAll all now (Err fault)
    → IsRefused given fault
read_or_refused all given now Memory same is = tt
read_or_refused all given now Malformed same is = sym same ∙ is
