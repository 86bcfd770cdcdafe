use Rattle.std.proofs.Common.{sym, Some, None}
use Rattle.std.proofs.lemmas.Str.Pattern.{split_parts}
use Rattle.uri_links.proofs.SplitLemmas.{before-split, after-split, before-none, after-none, none_at}
use Rattle.uri_links.proofs.parts.split_at_mark.Goals as goal

pub returns-in-Some-clause-front : goal.returns-in-Some-clause-front
returns-in-Some-clause-front c =
    let p = split_parts c.args.mark c.args.text.now (Some (c.in-Some.front, c.in-Some.back)) c.in-Some.ensures.cases c.requires in
    sym (before-split c.args.mark c.args.text.now c.in-Some.front.now c.in-Some.back.now p.0 (none_at c.args.mark c.in-Some.front.now p.1))

pub returns-in-Some-clause-back : goal.returns-in-Some-clause-back
returns-in-Some-clause-back c =
    let p = split_parts c.args.mark c.args.text.now (Some (c.in-Some.front, c.in-Some.back)) c.in-Some.ensures.cases c.requires in
    sym (after-split c.args.mark c.args.text.now c.in-Some.front.now c.in-Some.back.now p.0 (none_at c.args.mark c.in-Some.front.now p.1))

pub returns-in-None-clause-front : goal.returns-in-None-clause-front
returns-in-None-clause-front c =
    let p = split_parts c.args.mark c.args.text.now None c.in-None.ensures.cases c.requires in
    sym (before-none c.args.mark c.args.text.now (none_at c.args.mark c.args.text.now p))

pub returns-in-None-clause-back : goal.returns-in-None-clause-back
returns-in-None-clause-back c =
    let p = split_parts c.args.mark c.args.text.now None c.in-None.ensures.cases c.requires in
    sym (after-none c.args.mark c.args.text.now (none_at c.args.mark c.args.text.now p))
