-- From the files of single paths to all of them.
use Rattle.std.proofs.Common.{◌≡◌, ◌⊎◌, ◌+◌, ℕ, suc, Bool, false, length, List, [], ◌∷◌, ◌++◌, Contains, append_assoc, arith, subst, refl, sym, ap, ◌∙◌, inl, inr}
use Rattle.std.proofs.lemmas.List.{append-nil, length-append}
use Rattle.std.proofs.lemmas.List.Elements.{Contains-append_right}
use Rattle.cc2_base.specs.Told.{Tree}
use Rattle.cc2_cargo.specs.declared.load.LoadFault.TheVariants as fault
use Rattle.cc2_cargo.specs.declared.expand.FileFault.{FileFault}
use Rattle.cc2_cargo.specs.declared.expand.FileFault.TheVariants as file_fault
use Rattle.cc2_cargo.specs.Loads.{AreFileLayers, IsRawLoadCause, Layer, turned}
use Rattle.cc2_cargo.specs.Expanding.{AreExpanded, IsExpandCause, ConfigFile}

turned_length : (of_override : Bool) (turn : ℕ) (files : List ConfigFile) → length (turned of_override turn files) ≡ length files
turned_length of_override turn [] = refl
turned_length of_override turn (s ∷ ss) = ap suc (turned_length of_override turn ss)

-- one path more
pub all_more : (fs : Tree) (turn : ℕ) (paths : List (List ℕ)) (layers : List Layer) (path : List ℕ) (more : List ConfigFile) → AreFileLayers fs turn paths layers
    → AreExpanded fs path more → AreFileLayers fs turn (paths ++ path ∷ []) (layers ++ turned false (turn + length layers) more)
all_more fs turn [] layers path more none one =
    let same : turn + length layers ≡ turn = ap (λ (ls : List Layer). turn + length ls) none ∙ omega arith in
    let are : layers ++ turned false (turn + length layers) more ≡ turned false turn more ++ [] =
    (λ i. none i ++ turned false (same i) more) ∙ sym (append-nil (turned false turn more)) in
    (more, [], are, one, refl)
all_more fs turn (first ∷ paths) layers path more (ss, ts, is, own, others) one =
    let count : length layers ≡ length ss + length ts =
    ap length is ∙ length-append (turned false turn ss) ts ∙ ap (λ n. n + length ts) (turned_length false turn ss) in
    let after : turn + length layers ≡ (turn + length ss) + length ts = ap (λ n. turn + n) count ∙ omega arith in
    let last = turned false ((turn + length ss) + length ts) more in
    let are : layers ++ turned false (turn + length layers) more ≡ turned false turn ss ++ (ts ++ last) =
    (λ i. is i ++ turned false (after i) more) ∙ append_assoc (turned false turn ss) ts last in
    (ss, ts ++ last, are, own, all_more fs (turn + length ss) paths ts path more others one)

-- why a path's files aren't read, as one among others
pub path_cause : (fs : Tree) (paths done : List (List ℕ)) (path : List ℕ) (left : List (List ℕ)) (why : FileFault) → paths ≡ done ++ path ∷ left
    → (why ≡ file_fault.Memory) ⊎ IsExpandCause fs path why → IsRawLoadCause fs paths (fault.File why)
path_cause fs paths done path left why is (inl memory) = inl memory
path_cause fs paths done path left why is (inr cause) =
    inr (path, subst (λ ps. Contains ps path) (sym is) (Contains-append_right done (path ∷ left) path (0, omega arith, refl)), cause)
