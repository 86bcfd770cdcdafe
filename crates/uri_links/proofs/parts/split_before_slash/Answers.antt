use Rattle.std.proofs.Common.{sym, ◌∙◌, Some, None, lit<}
use Rattle.std.proofs.lemmas.Str.Pattern.{find_char}
use Rattle.uri_links.proofs.SplitLemmas.{before-found, from-found, before-none, from-none, none_at}
use Rattle.uri_links.proofs.parts.split_before_slash.Goals as goal

pub returns-in-Some-clause-front : goal.returns-in-Some-clause-front
returns-in-Some-clause-front c =
    let p = find_char 47 c.args.text.now (Some c.in-Some.at) c.in-Some.ensures.cases (lit< tt) in
    c.split_at.ensures.front ∙ sym (before-found 47 c.args.text.now c.in-Some.at p.0 p.1 p.2)

pub returns-in-Some-clause-back : goal.returns-in-Some-clause-back
returns-in-Some-clause-back c =
    let p = find_char 47 c.args.text.now (Some c.in-Some.at) c.in-Some.ensures.cases (lit< tt) in
    c.split_at.ensures.back ∙ sym (from-found 47 c.args.text.now c.in-Some.at p.0 p.1 p.2)

pub returns-in-None-clause-front : goal.returns-in-None-clause-front
returns-in-None-clause-front c =
    let p = find_char 47 c.args.text.now None c.in-None.ensures.cases (lit< tt) in
    sym (before-none 47 c.args.text.now (none_at 47 c.args.text.now p))

pub returns-in-None-clause-back : goal.returns-in-None-clause-back
returns-in-None-clause-back c =
    let p = find_char 47 c.args.text.now None c.in-None.ensures.cases (lit< tt) in
    sym (from-none 47 c.args.text.now (none_at 47 c.args.text.now p))
