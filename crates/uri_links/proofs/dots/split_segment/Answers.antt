use Rattle.std.proofs.Common.{sym, ◌∙◌, Some, None, lit<}
use Rattle.std.proofs.lemmas.Str.Pattern.{find_char, strip_prefix_char}
use Rattle.uri_links.specs.Split.{slash}
use Rattle.uri_links.proofs.SplitLemmas.{none_at}
use Rattle.uri_links.proofs.DotsLemmas.{segment_to, segment_all, segment_bare}
use Rattle.uri_links.proofs.dots.split_segment.Goals as goal

pub returns-in-Some-find-clause-segment : goal.returns-in-Some-find-clause-segment
returns-in-Some-find-clause-segment c =
    let p = find_char 47 c.in-Some.inner.now (Some c.in-Some-find.at) c.in-Some-find.ensures.cases (lit< tt) in
    c.split_at.ensures.front ∙ sym (segment_to c.args.path.now c.in-Some.inner.now c.in-Some-find.at (strip_prefix_char 47 c.args.path.now (Some c.in-Some.inner) c.in-Some.ensures.cases (lit< tt)) p.0 p.1 p.2).0

pub returns-in-Some-find-clause-after : goal.returns-in-Some-find-clause-after
returns-in-Some-find-clause-after c =
    let p = find_char 47 c.in-Some.inner.now (Some c.in-Some-find.at) c.in-Some-find.ensures.cases (lit< tt) in
    c.split_at.ensures.back ∙ sym (segment_to c.args.path.now c.in-Some.inner.now c.in-Some-find.at (strip_prefix_char 47 c.args.path.now (Some c.in-Some.inner) c.in-Some.ensures.cases (lit< tt)) p.0 p.1 p.2).1

pub returns-in-None-find-clause-segment : goal.returns-in-None-find-clause-segment
returns-in-None-find-clause-segment c =
    let p = find_char 47 c.in-Some.inner.now None c.in-None-find.ensures.cases (lit< tt) in
    sym (segment_all c.args.path.now c.in-Some.inner.now (strip_prefix_char 47 c.args.path.now (Some c.in-Some.inner) c.in-Some.ensures.cases (lit< tt)) (none_at slash c.in-Some.inner.now p)).0

pub returns-in-None-find-clause-after : goal.returns-in-None-find-clause-after
returns-in-None-find-clause-after c =
    let p = find_char 47 c.in-Some.inner.now None c.in-None-find.ensures.cases (lit< tt) in
    sym (segment_all c.args.path.now c.in-Some.inner.now (strip_prefix_char 47 c.args.path.now (Some c.in-Some.inner) c.in-Some.ensures.cases (lit< tt)) (none_at slash c.in-Some.inner.now p)).1

pub returns-in-None-clause-segment : goal.returns-in-None-clause-segment
returns-in-None-clause-segment c = c.split_before_slash.ensures.front ∙ sym (segment_bare c.args.path.now (strip_prefix_char 47 c.args.path.now None c.in-None.ensures.cases (lit< tt))).0

pub returns-in-None-clause-after : goal.returns-in-None-clause-after
returns-in-None-clause-after c = c.split_before_slash.ensures.back ∙ sym (segment_bare c.args.path.now (strip_prefix_char 47 c.args.path.now None c.in-None.ensures.cases (lit< tt))).1
