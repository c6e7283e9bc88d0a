-- A piece at the last of some keys is a position of them.
use Rattle.std.proofs.Common.{◌≡◌, ℕ, List, Option, Some, None, Result, Ok, Err, IfOk, IfSome, subst, sym}
use Rattle.cc2_error.specs.declared.error.NoMemory.{NoMemory}
use Rattle.cc2_reports.specs.declared.location.Span.{Span}
use Rattle.cc2_reports.specs.Positions.{IsAtKey, IsPosition, last_of}

pub position_at : (text key : List ℕ) (keys : List (List ℕ)) (found : Result (Option Span) NoMemory) → last_of keys ≡ Some key
    → IfOk found (λ f. IfSome f (IsAtKey text key)) → IfOk found (λ f. IfSome f (IsPosition text keys))
position_at text key keys (Ok (Some s)) is at = (at.piece, subst (λ o. IfSome o (λ k. IsAtKey text k s)) (sym is) at)
position_at text key keys (Ok None) is at = tt
position_at text key keys (Err e) is at = tt
