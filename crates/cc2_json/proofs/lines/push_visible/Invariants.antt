use Rattle.std.proofs.Common.{◌≡◌, ◌++◌, length}
use Rattle.cc2_json.specs.TomlLines.{printable}
use Rattle.cc2_json.proofs.lines.push_visible.Given as goal

abbrev pub invariant-bytes : goal.invariant-bytes
invariant-bytes l = l.out.items ++ printable l.rest ≡ l.fn.out.items ++ printable l.fn.text

abbrev pub decreases-bytes : goal.decreases-bytes
decreases-bytes l = length l.rest
