-- From one step of reading a file and what it includes to all of them.
use Rattle.std.proofs.Common.{◌≡◌, ◌⊎◌, ℕ, List, [], ◌∷◌, ◌++◌, map, reverse, Global, Vec, string_bytes, refl, sym, ap, ◌∙◌, subst, inl, inr, Result, Ok, Err, IfOk, IfErr, String}
use Rattle.std.proofs.lemmas.List.{append-nil, reverse-append, map-append}
use Rattle.cc2_base.specs.Told.{Tree}
use Rattle.toml.specs.Data.{Members}
use Rattle.cc2_cargo.specs.declared.include.Include.{Include as CodeInclude}
use Rattle.cc2_cargo.specs.declared.include.IncludeFault.{IncludeFault}
use Rattle.cc2_cargo.specs.declared.expand.ConfigFile.{ConfigFile as CodeFile}
use Rattle.cc2_cargo.specs.declared.expand.FileFault.{FileFault}
use Rattle.cc2_cargo.specs.declared.expand.FileFault.TheVariants as fault
use Rattle.cc2_cargo.specs.Includes.{Include, include_view, includes_in}
use Rattle.cc2_cargo.specs.Expanding.{AreExpanded, AreExpansions, AreIncluded, AreNewAfter, ConfigFile, Expansions, IsExpandCause, IsFileTable, IsIncludesCause, IsReachedFrom}
use Rattle.cc2_cargo.specs.Expanding.{IsWanted, LeadsTo, StopsAt, config_file}
use Rattle.cc2_cargo.specs.Expanding.{expansion, files_in, expanded_files, no_expansions, required}
use Rattle.cc2_cargo.specs.Readings.{Advances, Reaches, ReadingState, start, state_before, state_of}
use Rattle.cc2_cargo.proofs.Reached.{IsAllRead, all_read, comes}

-- one step more
pub reaches_more : (fs : Tree) (s : ReadingState) (us : List ReadingState) (t v : ReadingState) → Reaches fs s us t → Advances fs t v → Reaches fs s (us ++ v ∷ []) v
reaches_more fs s [] t v same step = (subst (λ x. Advances fs x v) (sym same) step, refl)
reaches_more fs s (u ∷ us) t v (first, rest) step = (first, reaches_more fs u us t v rest step)

turned_more : {A B : Type 0} (f : A → B) (xs : List A) (x : A) → reverse (map f (xs ++ x ∷ [])) ≡ f x ∷ reverse (map f xs)
turned_more f xs x = ap reverse (map-append f xs (x ∷ [])) ∙ reverse-append (map f xs) (f x ∷ [])

-- the next file is the last on the stack
pub taken_off : (read : Vec CodeFile Global) (next left : Vec CodeInclude Global) (i : CodeInclude) → next.items ≡ left.items ++ i ∷ []
    → state_of read next ≡ state_before read i left
taken_off read next left i is =
    ap (λ ns. record { read = map config_file read.items; next = ns }) (ap (λ es. reverse (map include_view es)) is ∙ turned_more include_view left.items i)

pub started : (read : Vec CodeFile Global) (next : Vec CodeInclude Global) → read.items ≡ [] → start (reverse (map include_view next.items)) ≡ state_of read next
started read next empty j = record { read = map config_file (sym empty j); next = reverse (map include_view next.items) }

pub ended : (read : Vec CodeFile Global) (next : Vec CodeInclude Global) → next.items ≡ []
    → state_of read next ≡ record { read = map config_file read.items; next = [] }
ended read next empty = ap (λ es. record { read = map config_file read.items; next = reverse (map include_view es) }) empty

-- all files are read
pub all_included : (fs : Tree) (next : List Include) (us : List ReadingState) (files : List ConfigFile)
    → Reaches fs (start next) us (record { read = files; next = [] }) → AreIncluded fs next files
all_included fs next us files reached = (all.expansions, all.are, all.read, subst (λ ss. AreNewAfter [] ss) (sym all.read) all.new)
  where
    all : IsAllRead fs (start next) (record { read = files; next = [] })
    all = all_read fs (start next) us (record { read = files; next = [] }) reached refl

-- those of one path
pub one_expanded : (fs : Tree) (path : List ℕ) (files : List ConfigFile) → AreIncluded fs (required path ∷ []) files → AreExpanded fs path files
one_expanded fs path files (no_expansions, are, is, new) = absurd are
one_expanded fs path files (expansion t no_expansions, are, is, new) = (t, are.0, is ∙ append-nil (expanded_files t), new)
one_expanded fs path files (expansion t (expansion u us), are, is, new) = absurd are.1

-- why the reading stops
pub stops_there : (fs : Tree) (path : List ℕ) (why : FileFault) → IsIncludesCause fs (required path ∷ []) why → IsExpandCause fs path why
stops_there fs path why cause = go r.before r.stronger r.is r.are r.files
  where
    r : IsReachedFrom fs (required path ∷ []) cause.read cause.include
    r = cause.reached

    go : (before : List Include) (ts : Expansions) → required path ∷ [] ≡ before ++ r.via ∷ r.behind → AreExpansions fs before ts
        → cause.read ≡ files_in ts ++ r.others → IsExpandCause fs path why
    go [] no_expansions is are files =
        record {
          turns = r.turns;
          include = cause.include;
          read = cause.read;
          leads = subst (λ ss. LeadsTo fs (required path) r.turns cause.include ss) (sym files)
              (subst (λ x. LeadsTo fs x r.turns cause.include r.others) (sym (heads is)) r.leads);
          wanted = cause.wanted;
          stops = cause.stops;
        }
      where
        heads : required path ∷ [] ≡ r.via ∷ r.behind → required path ≡ r.via
        heads e = cc
    go [] (expansion t us) is are files = absurd are
    go (x ∷ []) ts is are files = cc
    go (x ∷ (y ∷ xs)) ts is are files = cc

-- what is read of one path alone
pub one_ok : (fs : Tree) (path : List ℕ) (next : List Include) (r : Result (Vec CodeFile Global) FileFault) → next ≡ required path ∷ []
    → IfOk r (λ list. AreIncluded fs next (map config_file list.items)) → IfOk r (λ list. AreExpanded fs path (map config_file list.items))
one_ok fs path next (Ok list) is h = one_expanded fs path (map config_file list.items) (subst (λ js. AreIncluded fs js (map config_file list.items)) is h)
one_ok fs path next (Err why) is h = h

-- and why it isn't read
pub one_refused : (fs : Tree) (path : List ℕ) (next : List Include) (r : Result (Vec CodeFile Global) FileFault) → next ≡ required path ∷ []
    → IfErr r (λ why. (why ≡ fault.Memory) ⊎ IsIncludesCause fs next why) → IfErr r (λ why. (why ≡ fault.Memory) ⊎ IsExpandCause fs path why)
one_refused fs path next (Ok list) is h = h
one_refused fs path next (Err why) is (inl memory) = inl memory
one_refused fs path next (Err why) is (inr cause) = inr (stops_there fs path why (subst (λ js. IsIncludesCause fs js why) is cause))

pub stopped : (fs : Tree) (next : List Include) (us : List ReadingState) (read : Vec CodeFile Global) (i : CodeInclude) (left : Vec CodeInclude Global)
    (why : FileFault) → Reaches fs (start next) us (state_before read i left)
    → (why ≡ fault.Memory) ⊎ (IsWanted fs (include_view i) × StopsAt fs (map config_file read.items) (include_view i) why)
    → (why ≡ fault.Memory) ⊎ IsIncludesCause fs next why
stopped fs next us read i left why reached (inl memory) = inl memory
stopped fs next us read i left why reached (inr (wanted, stops)) =
    let c = comes fs (include_view i) (start next) us (state_before read i left) (reverse (map include_view left.items)) reached refl in
    inr record {
      include = include_view i;
      read = map config_file read.items;
      reached = subst (λ ss. IsReachedFrom fs next ss (include_view i)) (sym c.read) c.reached;
      wanted = wanted;
      stops = stops;
    }

-- a wrong `include` stops the reading
pub include_stops : (fs : Tree) (read : List ConfigFile) (i : Include) (ms : Members) (why : FileFault) → IsWanted fs i → IsFileTable fs i.path ms
    → (why ≡ fault.Memory) ⊎ ((cause : IncludeFault) × (file : String Global) × (why ≡ fault.Include file cause) × (string_bytes file ≡ i.path)
    × (includes_in ms ≡ Err cause))
    → (why ≡ fault.Memory) ⊎ (IsWanted fs i × StopsAt fs read i why)
include_stops fs read i ms why wanted at (inl memory) = inl memory
include_stops fs read i ms why wanted at (inr (cause, file, is, named, listed)) = inr (wanted, inr (inl (file, cause, ms, is, named, at, listed)))
