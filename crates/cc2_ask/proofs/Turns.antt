-- How many replies may still ask about paths gets less.
use Rattle.std.proofs.Common.{◌≡◌, ◌<◌, ◌≤◌, ℕ, Bool, true, false, List, [], ◌∷◌, ◌||◌, Some, refl, ap, arith, if◌then◌else◌, bytes_eq}
use Rattle.std.proofs.lemmas.Bool.{false≢true}
use Rattle.std.proofs.lemmas.Slice.Eq.{bytes_eq-Decides}
use Rattle.cc2_ask.specs.Records.{Known}
use Rattle.cc2_ask.specs.Givens.{KnownPaths, with_path}
use Rattle.cc2_ask.specs.Needs.{is_listed, left_in, left_of}

left_at : (known : KnownPaths) (k : Known) → List ℕ → Bool → ℕ
left_at known k q same = left_of (if same then Some k else known q)

-- at the path it is less
less_at : (known : KnownPaths) (p q : List ℕ) (k : Known) → left_of (Some k) < left_of (known p) → bytes_eq p q ≡ true
    → left_of (with_path p k known q) < left_of (known q)
unfolding left_at
less_at known p q k h same =
    let is : p ≡ q = (bytes_eq-Decides p q).0 same in
    let now : left_of (with_path p k known q) ≡ left_of (Some k) = ap (left_at known k q) same in
    let was : left_of (known p) ≡ left_of (known q) = ap (λ path. left_of (known path)) is in
    omega (arith, now, was, h)

no_more : (known : KnownPaths) (p q : List ℕ) (k : Known) → left_of (Some k) < left_of (known p) → (b : Bool) → bytes_eq p q ≡ b
    → left_of (with_path p k known q) ≤ left_of (known q)
unfolding left_at
no_more known p q k h true same = let l : left_of (with_path p k known q) < left_of (known q) = less_at known p q k h same in omega arith
no_more known p q k h false same =
    let now : left_of (with_path p k known q) ≡ left_of (known q) = ap (left_at known k q) same in
    omega (arith, now)

-- of any paths it is no more
pub no_more_in : (known : KnownPaths) (p : List ℕ) (k : Known) (paths : List (List ℕ)) → left_of (Some k) < left_of (known p)
    → left_in (with_path p k known) paths ≤ left_in known paths
no_more_in known p k [] h = omega arith
no_more_in known p k (q ∷ qs) h =
    let here : left_of (with_path p k known q) ≤ left_of (known q) = no_more known p q k h (bytes_eq p q) refl in
    let there : left_in (with_path p k known) qs ≤ left_in known qs = no_more_in known p k qs h in
    omega arith

less_by : (known : KnownPaths) (p : List ℕ) (k : Known) (q : List ℕ) (qs : List (List ℕ)) → left_of (Some k) < left_of (known p)
    → (is_listed p qs ≡ true → left_in (with_path p k known) qs < left_in known qs)
    → (b : Bool) → bytes_eq p q ≡ b → (b || is_listed p qs) ≡ true → left_in (with_path p k known) (q ∷ qs) < left_in known (q ∷ qs)
less_by known p k q qs h more true same listed =
    let here : left_of (with_path p k known q) < left_of (known q) = less_at known p q k h same in
    let there : left_in (with_path p k known) qs ≤ left_in known qs = no_more_in known p k qs h in
    omega arith
less_by known p k q qs h more false same listed =
    let here : left_of (with_path p k known q) ≤ left_of (known q) = no_more known p q k h false same in
    let there : left_in (with_path p k known) qs < left_in known qs = more listed in
    omega arith

-- of paths that have this one it is less
pub less_in : (known : KnownPaths) (p : List ℕ) (k : Known) (paths : List (List ℕ)) → left_of (Some k) < left_of (known p)
    → is_listed p paths ≡ true → left_in (with_path p k known) paths < left_in known paths
less_in known p k [] h listed = absurd (false≢true listed)
less_in known p k (q ∷ qs) h listed = less_by known p k q qs h (less_in known p k qs h) (bytes_eq p q) refl listed
