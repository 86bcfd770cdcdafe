use Rattle.std.proofs.Common.{◌≡◌, Some, ap, sym, ◌∙◌}
use Rattle.std.specs.Option.{option_copied}
use Rattle.uri_links.specs.Allowed.{is_reference}
use Rattle.uri_links.specs.Parts.{parts}
use Rattle.uri_links.specs.Split.{before, after, hash}
use Rattle.uri_links.proofs.PartsLemmas.{parts-front, fragment-parts}
use Rattle.uri_links.proofs.ReferenceLemmas.{front_reference, fragment_chars}
use Rattle.uri_links.proofs.resolution.split_fragment.Goals as goal

pub made-requires : goal.made-requires
made-requires c =
    ap is_reference (c.split_at_mark.ensures.front ∙ ap (before hash) c.as_str.ensures.same) ∙ front_reference c.args.uri.now c.as_str.ensures.reference

pub returns-in_ok-of-in-Some-clause-fragment : goal.returns-in_ok-of-in-Some-clause-fragment
returns-in_ok-of-in-Some-clause-fragment c =
    let stands : Some c.in-Some.fragment.now ≡ after hash c.args.uri.now =
    ap option_copied (sym c.in-Some.is) ∙ (c.split_at_mark.ensures.back ∙ ap (after hash) c.as_str.ensures.same) in
    ap Some (c.in_ok-of-in-Some.ensures ∙ fragment_chars c.args.uri.now c.in-Some.fragment.now c.as_str.ensures.reference (sym stands))
    ∙ (stands ∙ sym (fragment-parts c.args.uri.now))

pub returns-in_ok-of-in-Some-clause-others : goal.returns-in_ok-of-in-Some-clause-others
returns-in_ok-of-in-Some-clause-others c =
    ap parts (c.in_ok-front.ensures ∙ (c.split_at_mark.ensures.front ∙ ap (before hash) c.as_str.ensures.same)) ∙ parts-front c.args.uri.now

pub returns-in-None-clause-fragment : goal.returns-in-None-clause-fragment
returns-in-None-clause-fragment c =
    ap option_copied (sym c.in-None.is) ∙ (c.split_at_mark.ensures.back ∙ (ap (after hash) c.as_str.ensures.same ∙ sym (fragment-parts c.args.uri.now)))

pub returns-in-None-clause-others : goal.returns-in-None-clause-others
returns-in-None-clause-others c =
    ap parts (c.in_ok-front.ensures ∙ (c.split_at_mark.ensures.front ∙ ap (before hash) c.as_str.ensures.same)) ∙ parts-front c.args.uri.now
