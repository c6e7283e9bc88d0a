use Rattle.std.proofs.Common.{◌≡◌, ◌++◌, ℕ, List, [], ◌∷◌, Some, Result, Ok, Err, OnOk, length, slice_set, ap, ◌∙◌, arith}
use Rattle.std.proofs.lemmas.Grind.{common_steps}
use Rattle.std.proofs.Math.Seq.{set-append_seam}
use Rattle.cc2_de.proofs.load.read_next.Goals as goal

-- what holds of an Ok follows from what holds of it
on_ok : {T E P Q : Type 0} (r : Result T E) → (P → Q) → OnOk r P → OnOk r Q
on_ok (Ok x) f h = f h
on_ok (Err e) f h = h

-- the last one of a list is set
last_set : {A : Type 0} (xs was : List A) (x y : A) (n : ℕ) → xs ≡ was ++ x ∷ [] → n ≡ length was → slice_set xs n y ≡ was ++ y ∷ []
last_set xs was x y n pushed at =
    ap (λ zs. slice_set zs n y) pushed ∙ ap (λ m. slice_set (was ++ x ∷ []) m y) at ∙ set-append_seam was x [] y

pub returns-in-Some-clause-ok : goal.returns-in-Some-clause-ok
returns-in-Some-clause-ok g c fs told =
    let was = c.args.list.now.items in
    let at : c.len-place.result ≡ length was = grind (arith, common_steps) in
    on_ok c.read_file.result
    (λ of_file. (
      c.read_file.new.config,
      last_set c.push.new.self.items was (Some c.empty.result) (Some c.read_file.new.config) c.len-place.result c.in_ok-push.ensures.items at,
      of_file,
    )) (c.read_file.ensures.ok fs told)
