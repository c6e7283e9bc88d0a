-- Being the same command is an equivalence, and holds exactly where the commands are equal.
use Rattle.std.specs.Prelude.{◌≡◌, bytes_eq}
use Rattle.std.specs.Bool.{Decides}
use Rattle.std.specs.Cmp.{IsEquivalence, and_equiv, on_equiv}
use Rattle.std.specs.Cmp.Lexicographic.{lists_equiv, nat_list_eq_equiv, pointwise}
use Rattle.std.proofs.Common.{ap, refl}
use Rattle.std.proofs.lemmas.Bool.{and_parts, and_from}
use Rattle.std.proofs.lemmas.Slice.Eq.{bytes_eq-Decides, slice_eq-Decides}
use Rattle.cc2_error.specs.Commands.{Command, same_command}

pub same_command_equiv : IsEquivalence same_command
same_command_equiv = and_equiv (on_equiv (λ c. c.program) nat_list_eq_equiv) (on_equiv (λ c. c.args) (lists_equiv nat_list_eq_equiv))

pub same_command-Decides : (c d : Command) → Decides (same_command c d) (c ≡ d)
same_command-Decides c d =
    let program : Decides (bytes_eq c.program d.program) (c.program ≡ d.program) = bytes_eq-Decides c.program d.program in
    let args : Decides (pointwise bytes_eq c.args d.args) (c.args ≡ d.args) = slice_eq-Decides bytes_eq-Decides c.args d.args _ refl in (
      λ test. let parts = and_parts _ _ test in λ i. record { program = program.0 parts.0 i; args = args.0 parts.1 i },
      λ same. and_from _ _ (program.1 (ap (λ e. e.program) same)) (args.1 (ap (λ e. e.args) same)),
    )
