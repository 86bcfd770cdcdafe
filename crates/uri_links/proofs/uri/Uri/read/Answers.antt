use Rattle.std.proofs.Common.{Ok, ap, sym, ◌∙◌}
use Rattle.uri_links.specs.Allowed.{is_reference}
use Rattle.uri_links.specs.Faults.{unless}
use Rattle.uri_links.proofs.FaultLemmas.{reading_none}
use Rattle.uri_links.proofs.ReferenceLemmas.{bytes_same}
use Rattle.uri_links.proofs.uri.Uri.read.Goals as goal

pub made-requires : goal.made-requires
made-requires c =
    let good = reading_none c.args.text.now (sym c.in_default.ensures) in
    ap is_reference (bytes_same c.args.text.now c.as_str.result.now c.as_str.ensures.bytes good) ∙ good

pub returns : goal.returns
returns c =
    let none = sym c.in_default.ensures in
    let good = reading_none c.args.text.now none in
    ap (λ o. unless o c.args.text.now) none ∙ ap Ok (sym (c.in_ok-made.ensures ∙ bytes_same c.args.text.now c.as_str.result.now c.as_str.ensures.bytes good))
