use Rattle.std.proofs.lemmas.Map.Text.{text_keys}
use Rattle.std.proofs.Common.{◌<◌, arith, string_bytes, sym, subst}
use Rattle.std.proofs.Math.Path.{fun_ext}
use Rattle.cc2_ask.specs.Givens.{KnownPaths}
use Rattle.cc2_ask.specs.Needs.{left_in}
use Rattle.cc2_ask.specs.Views.{known_view, paths_of}
use Rattle.cc2_ask.proofs.Turns.{less_in}
use Rattle.cc2_ask.proofs.known.KnownPaths.put.Goals as goal

pub returns : goal.returns
returns c =
    let is = fun_ext (λ q. grind (arith, text_keys)) in record {
      known = is;
      fewer = λ paths listed h.
          subst (λ (now : KnownPaths). left_in now paths < left_in (paths_of c.args.self.now) paths) (sym is)
          (less_in (paths_of c.args.self.now) (string_bytes c.args.path) (known_view c.args.known) paths h listed);
    }
