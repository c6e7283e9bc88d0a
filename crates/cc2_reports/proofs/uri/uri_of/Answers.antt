use Rattle.std.proofs.Common.{◌∙◌, ◌++◌, ap}
use Rattle.percent_encoding.specs.Iter.{encoded_text}
use Rattle.cc2_reports.specs.Uris.{scheme_of}
use Rattle.cc2_reports.proofs.Uris.{encoded_is}
use Rattle.cc2_reports.proofs.uri.uri_of.Goals as goal

pub returns : goal.returns
returns c =
    c.in_ok-append_to.ensures.ok
    ∙ (ap (λ s. s ++ encoded_text c.utf8_percent_encode.result) (c.in_ok-uri.ensures.ok ∙ c.scheme_of.ensures)
    ∙ ap (λ e. scheme_of c.args.path.now ++ e) (c.utf8_percent_encode.ensures.text ∙ encoded_is c.escaped.result c.args.path.now c.escaped.ensures))
