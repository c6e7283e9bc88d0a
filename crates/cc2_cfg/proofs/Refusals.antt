-- What a refused text gives.
use Rattle.std.proofs.Common.{◌≢◌, ℕ, ◌≤◌, List, length, sym, ◌∙◌, subst}
use Rattle.std.specs.Str.{IsCharBoundary}
use Rattle.cc2_cfg.specs.Tokens.{IsBlank, IsStripped}
use Rattle.cc2_cfg.specs.Refusing.{NoTree, IsRefusal, IsFaultAt}
use Rattle.cc2_error.specs.declared.cfg_error.Reason.{Reason}
use Rattle.cc2_error.specs.declared.cfg_error.Reason.TheVariants.{Empty}
use Rattle.cc2_error.specs.declared.cfg_error.CfgError.{CfgError}
use Rattle.cc2_error.specs.declared.cfg_error.CfgError.TheVariants.{Memory, Parse}
use Rattle.cc2_cfg.proofs.Accepting.{stripped-same, blank-refused}

-- of a text that isn't blank
pub refusal-seen : (text inner : List ℕ) (reason : Reason) (e : CfgError) → IsFaultAt inner reason e → IsStripped text inner → (IsBlank inner → ⊥) → reason ≢ Empty → NoTree text → IsRefusal text e
refusal-seen text inner reason Memory at strip some seen none = tt
refusal-seen text inner reason (Parse e) at strip some seen none = record {
  no_tree = none;
  original = subst (λ (z : List ℕ). IsStripped text z) (sym at.original_is) strip;
  ordered = at.ordered;
  within = subst (λ (z : List ℕ). e.span.end ≤ length z) (sym at.original_is) at.within;
  first = subst (λ (z : List ℕ). IsCharBoundary z e.span.start) (sym at.original_is) at.first;
  last = subst (λ (z : List ℕ). IsCharBoundary z e.span.end) (sym at.original_is) at.last;
  empty = λ h. absurd (seen (sym at.reason_is ∙ h));
  blank = λ h. absurd (some (subst (λ (z : List ℕ). IsBlank z) (stripped-same text h.0 inner h.1 strip) h.2));
}

-- and of one that is
pub refusal-blank : (text inner : List ℕ) (e : CfgError) → IsFaultAt inner Empty e → IsStripped text inner → IsBlank inner → IsRefusal text e
refusal-blank text inner Memory at strip blank = tt
refusal-blank text inner (Parse e) at strip blank = record {
  no_tree = blank-refused text inner strip blank;
  original = subst (λ (z : List ℕ). IsStripped text z) (sym at.original_is) strip;
  ordered = at.ordered;
  within = subst (λ (z : List ℕ). e.span.end ≤ length z) (sym at.original_is) at.within;
  first = subst (λ (z : List ℕ). IsCharBoundary z e.span.start) (sym at.original_is) at.first;
  last = subst (λ (z : List ℕ). IsCharBoundary z e.span.end) (sym at.original_is) at.last;
  empty = λ h. (inner, strip, blank);
  blank = λ h. at.reason_is;
}
