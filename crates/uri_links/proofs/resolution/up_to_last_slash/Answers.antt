use Rattle.std.proofs.Common.{◌≡◌, suc, ◌+◌, ap, take, sym, ◌∙◌, Some, None, lit<, arith}
use Rattle.std.proofs.lemmas.Str.Pattern.{rfind_char}
use Rattle.uri_links.specs.Split.{slash}
use Rattle.uri_links.proofs.SplitLemmas.{up_to_last-found, up_to_last-none, none_at}
use Rattle.uri_links.proofs.resolution.up_to_last_slash.Goals as goal

pub returns-in-Some : goal.returns-in-Some
returns-in-Some c =
    let p = rfind_char slash c.args.path.now (Some c.in-Some.at) c.in-Some.ensures.cases (lit< tt) in
    let next : c.in-Some.at + 1 ≡ suc c.in-Some.at = omega arith in
    c.split_at.ensures.front ∙ (ap (λ n. take n c.args.path.now) next ∙ sym (up_to_last-found slash c.args.path.now c.in-Some.at p.0 p.1 p.2))

pub returns-in-None : goal.returns-in-None
returns-in-None c =
    let p = rfind_char slash c.args.path.now None c.in-None.ensures.cases (lit< tt) in
    sym (up_to_last-none slash c.args.path.now (none_at slash c.args.path.now p))
