-- What a provider's words mean, wherever they were set.
use Rattle.std.proofs.Common.{◌≡◌, Bool, true, false, ℕ, List, [], ◌∷◌, Option, Some, None, Err, String, Global, ◌<◌, length, arith, refl, sym, ap, if◌then◌else◌}
use Rattle.cc2_value.specs.Cells.{Origin, Word, Provider, builtin}
use Rattle.cc2_value.specs.Values.{words_of}
use Rattle.cc2_value.specs.Ways.{extra_words}
use Rattle.cc2_value.specs.declared.value.Value.{Value}
use Rattle.cc2_leaf.specs.Lists.{words_at}
use Rattle.cc2_leaf.specs.Made.{faults_of}
use Rattle.cc2_leaf.specs.Providers.{is_builtin, is_from_stdout, builtin_made, stdout_made, other_made, other_named, setting_made, provider_made}
use Rattle.cc2_leaf.proofs.Making.{FaultsAgree}

-- the faults of a name and its arguments, by whether it is built in and whether it is that of a program's output
same_fault : (array : Bool) (origin : Option Origin) (text : List ℕ) (texts : List (List ℕ)) (b s : Bool)
    → faults_of (setting_made array
    (if b then builtin_made text (words_at None texts) else if s then stdout_made array (words_at None texts)
    else other_made array (record { text = text; origin = None }) (words_at None texts)))
    ≡ faults_of (setting_made array
    (if b then builtin_made text (words_at origin texts) else if s then stdout_made array (words_at origin texts)
    else other_made array (record { text = text; origin = origin }) (words_at origin texts)))
same_fault array origin text [] true s = refl
same_fault array origin text (t ∷ ts) true s = refl
same_fault array origin text [] false true = refl
same_fault array origin text (t ∷ ts) false true = refl
same_fault array origin text [] false false = refl
same_fault array origin text (t ∷ ts) false false = refl

pub provider_agrees : FaultsAgree provider_made
provider_agrees array origin [] = refl
provider_agrees array origin (text ∷ texts) = same_fault array origin text texts (is_builtin text) (is_from_stdout text)

abbrev text_in : Option (Provider × List ℕ) → List ℕ
text_in None = []
text_in (Some x) = x.1

-- a built-in name with arguments
pub too_many : (b array : Bool) (name : Word) (args : List (Value (String Global))) (p : Provider) (text : List ℕ)
    → ◌≡◌ {A = Option (Provider × List ℕ)} (Some (p, text)) (if b then Some (builtin name.text, name.text) else None) → 0 < length args
    → (if b then builtin_made name.text (words_of args) else other_named array name (words_of args)) ≡ Err (extra_words text)
too_many true array name [] p text is some = absurd (omega (arith, some))
too_many true array name (arg ∷ args) p text is some = ap (λ (t : List ℕ). Err (extra_words t)) (sym (ap text_in is))
too_many false array name args p text is some = cc
