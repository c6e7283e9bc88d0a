-- Which key of `[target]` is which tree as Cargo reads it: its tokens, and their grammar (Cargo Reference, "Configuration";
-- Rust Reference, "Conditional compilation"). One comma separates two predicates, and one may follow the last.
use Rattle.std.specs.Prelude.{◌≡◌, ◌≢◌, ℕ, List, [], ◌∷◌, ◌++◌, codes, ◌⊎◌}
use Rattle.cc2_cfg.specs.Lexing.{Fronts}
use Rattle.cc2_cfg.specs.Tokens.{Lexeme, IsRun, NoWordByteFirst, Operator, Word, Quoted, Fun, Equals, Open, Close, Comma, OpAll, OpAny, OpNot, wrapped}
use Rattle.cc2_cfg.specs.Grammar.{Tree, Trees, Flag, Pair, AllOf, AnyOf, NotOf, NoTrees, MoreTrees}

-- a word with the prefix `r#`, or a token that the grammar of `cc2_cfg` has too
pub data CargoToken : Type 0 where
  Raw : List ℕ → CargoToken
  Plain : Lexeme → CargoToken

-- the text is `r#`, the word, which is as long as possible, and then rest
pub record RawFronts (text w rest : List ℕ) : Type 0 where
  pub valid : IsRun w
  pub ends : NoWordByteFirst rest
  pub whole : text ≡ codes "r#" ++ (w ++ rest)

-- the text is the token and then rest; it doesn't begin with `r#`
pub record PlainFronts (text : List ℕ) (t : Lexeme) (rest : List ℕ) : Type 0 where
  pub shared : Fronts text t rest
  pub not_raw : (other : List ℕ) → text ≢ codes "r#" ++ other

-- the text is the token and then rest
abbrev pub IsFront : List ℕ → CargoToken → List ℕ → Type 0
IsFront text (Raw w) rest = RawFronts text w rest
IsFront text (Plain t) rest = PlainFronts text t rest

-- spaces alone, or nothing
abbrev pub IsSpaces : List ℕ → Type 0
IsSpaces [] = Unit {0}
IsSpaces (b ∷ bs) = (b ≡ 32) × IsSpaces bs

-- the text is spaces, the token, and then rest
pub record TokenFirst (text : List ℕ) (token : CargoToken) (rest : List ℕ) : Type 0 where
  pub space : List ℕ
  pub front : List ℕ
  pub spaces : IsSpaces space
  pub whole : text ≡ space ++ front
  pub first : IsFront front token rest

-- the text is the tokens' spellings in order, with any spaces before, between and after
abbrev pub SpellsTokens : List ℕ → List CargoToken → Type 0
SpellsTokens text [] = IsSpaces text
SpellsTokens text (token ∷ tokens) = (rest : List ℕ) × TokenFirst text token rest × SpellsTokens rest tokens

-- a word of this name, with or without the prefix `r#`
abbrev pub IsName : List ℕ → CargoToken → Type 0
IsName w token = (token ≡ Plain (Word w)) ⊎ (token ≡ Raw w)

-- a function's name, and these tokens in parentheses
abbrev pub applied : Operator → List CargoToken → List CargoToken
applied f inner = Plain (Fun f) ∷ (Plain Open ∷ (inner ++ Plain Close ∷ []))

abbrev mutual
  -- the tokens are this predicate
  pub IsPredicate : Tree → List CargoToken → Type 0
  IsPredicate (Flag w) tokens = (name : CargoToken) × IsName w name × (tokens ≡ name ∷ [])
  IsPredicate (Pair key v) tokens = (name : CargoToken) × IsName key name × (tokens ≡ name ∷ (Plain Equals ∷ (Plain (Quoted v) ∷ [])))
  IsPredicate (AllOf trees) tokens = (inner : List CargoToken) × IsList trees inner × (tokens ≡ applied OpAll inner)
  IsPredicate (AnyOf trees) tokens = (inner : List CargoToken) × IsList trees inner × (tokens ≡ applied OpAny inner)
  IsPredicate (NotOf tree) tokens = (inner : List CargoToken) × IsPredicate tree inner × (tokens ≡ applied OpNot inner)

  -- empty, or predicates with one comma between two and at most one after the last
  pub IsList : Trees → List CargoToken → Type 0
  IsList NoTrees tokens = tokens ≡ []
  IsList (MoreTrees tree trees) tokens = (first : List CargoToken) × (others : List CargoToken)
      × IsPredicate tree first × IsOthers trees others × (tokens ≡ first ++ others)

  -- what follows a predicate in a list
  pub IsOthers : Trees → List CargoToken → Type 0
  IsOthers NoTrees tokens = (tokens ≡ []) ⊎ (tokens ≡ Plain Comma ∷ [])
  IsOthers (MoreTrees tree trees) tokens = (first : List CargoToken) × (others : List CargoToken)
      × IsPredicate tree first × IsOthers trees others × (tokens ≡ Plain Comma ∷ (first ++ others))

-- the text between `cfg(` and `)` has this tree
pub record IsInnerTree (inner : List ℕ) (tree : Tree) : Type 0 where
  pub tokens : List CargoToken
  pub spelled : SpellsTokens inner tokens
  pub predicate : IsPredicate tree tokens

-- the key is `cfg(`, a text with this tree, and `)`
pub record IsCargoTree (key : List ℕ) (tree : Tree) : Type 0 where
  pub inner : List ℕ
  pub whole : key ≡ wrapped inner
  pub tree_inside : IsInnerTree inner tree

-- the text has no tree
abbrev pub NoInnerTree : List ℕ → Type 0
NoInnerTree inner = (tree : Tree) → IsInnerTree inner tree → ⊥

-- the key has no tree
abbrev pub NoCargoTree : List ℕ → Type 0
NoCargoTree key = (tree : Tree) → IsCargoTree key tree → ⊥
