-- Faults of values, as errors report them.
use Rattle.std.proofs.Common.{◌≡◌, [], Some, ap, inl, inr}
use Rattle.toml.specs.Data.{Members}
use Rattle.cc2_error.specs.Causes.{refusal_of, memory}
use Rattle.cc2_error.specs.declared.error.Error.{Error}
use Rattle.cc2_value.specs.Ways.{IsFaultBehind}
use Rattle.cc2_de.specs.Config.{config_faults}
use Rattle.cc2_findings.specs.Values.{IsRefusal}

-- a refusal that isn't out of memory names a fault
pub refused : (ms : Members) (e : Error) → IsFaultBehind [] (config_faults ms) e → ((refusal_of e).cause ≡ memory → ⊥) → IsRefusal ms (Some e)
refused ms e (inl wants) other = absurd (other (ap (λ r. r.cause) wants))
refused ms e (inr flawed) other = flawed
