use Rattle.std.proofs.Common.{true, false, sym, ◌∙◌}
use Rattle.uri_links.proofs.FaultLemmas.{reading_by}
use Rattle.uri_links.proofs.ReferenceLemmas.{reference_bytes}
use Rattle.uri_links.proofs.uri.reading_fault.Goals as goal

pub returns-then-is_reference : goal.returns-then-is_reference
returns-then-is_reference c =
    let same = reference_bytes c.args.text.now c.as_str-text.result.now c.as_str-text.ensures.bytes c.as_str-text.ensures.characters in
    sym (reading_by c.args.text.now c.as_str-text.result.now true c.as_str-text.ensures.bytes c.if-text-gt-URI_BYTES.false
    (sym same ∙ (sym c.is_reference.ensures ∙ c.if-is_reference.true)))

pub returns-else-is_reference : goal.returns-else-is_reference
returns-else-is_reference c =
    let same = reference_bytes c.args.text.now c.as_str-text.result.now c.as_str-text.ensures.bytes c.as_str-text.ensures.characters in
    sym (reading_by c.args.text.now c.as_str-text.result.now false c.as_str-text.ensures.bytes c.if-text-gt-URI_BYTES.false
    (sym same ∙ (sym c.is_reference.ensures ∙ c.if-is_reference.false)))
