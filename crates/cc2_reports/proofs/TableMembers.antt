-- A table has as many members as its map has entries.
use Rattle.std.proofs.Common.{◌≡◌, suc, List, [], ◌∷◌, length, refl, ap, String}
use Rattle.std.specs.declared.alloc.Global.{Global}
use Rattle.toml.specs.View.{members_view}
use Rattle.toml.specs.declared.value.Value.{Value}
use Rattle.cc2_reports.specs.Positions.{member_count}

pub member_count-is : (entries : List (String Global × Value)) → member_count (members_view entries) ≡ length entries
member_count-is [] = refl
member_count-is (e ∷ es) = ap suc (member_count-is es)
