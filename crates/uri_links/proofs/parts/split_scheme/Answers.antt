use Rattle.std.proofs.Common.{sym, ◌∙◌, Some, None, lit<}
use Rattle.std.proofs.lemmas.Str.Pattern.{split_parts, contains_char}
use Rattle.std.proofs.lemmas.Bool.{false≢true}
use Rattle.uri_links.specs.Split.{colon, slash}
use Rattle.uri_links.proofs.SplitLemmas.{none_at, has-found}
use Rattle.uri_links.proofs.PartsLemmas.{scheme-found, scheme-none, none-without_colon, none-behind_slash}
use Rattle.uri_links.proofs.parts.split_scheme.Goals as goal

pub returns-then-contains-clause-scheme : goal.returns-then-contains-clause-scheme
returns-then-contains-clause-scheme c =
    let p = split_parts 58 c.args.body.now (Some (c.in-Some.scheme, c.in-Some.hier)) c.in-Some.ensures.cases (lit< tt) in
    let s = (contains_char 47 c.in-Some.scheme.now c.contains.result c.contains.ensures.cases (lit< tt)).0 c.if-contains.true in
    let none = none-behind_slash c.args.body.now c.in-Some.scheme.now c.in-Some.hier.now p.0 (none_at colon c.in-Some.scheme.now p.1) (has-found slash c.in-Some.scheme.now s.0 s.1 s.2) in
    sym (scheme-none c.args.body.now none).0

pub returns-then-contains-clause-hier : goal.returns-then-contains-clause-hier
returns-then-contains-clause-hier c =
    let p = split_parts 58 c.args.body.now (Some (c.in-Some.scheme, c.in-Some.hier)) c.in-Some.ensures.cases (lit< tt) in
    let s = (contains_char 47 c.in-Some.scheme.now c.contains.result c.contains.ensures.cases (lit< tt)).0 c.if-contains.true in
    let none = none-behind_slash c.args.body.now c.in-Some.scheme.now c.in-Some.hier.now p.0 (none_at colon c.in-Some.scheme.now p.1) (has-found slash c.in-Some.scheme.now s.0 s.1 s.2) in
    sym (scheme-none c.args.body.now none).1

pub returns-else-contains-clause-scheme : goal.returns-else-contains-clause-scheme
returns-else-contains-clause-scheme c =
    let p = split_parts 58 c.args.body.now (Some (c.in-Some.scheme, c.in-Some.hier)) c.in-Some.ensures.cases (lit< tt) in
    let stands = (contains_char 47 c.in-Some.scheme.now c.contains.result c.contains.ensures.cases (lit< tt)).1 in
    let none = none_at slash c.in-Some.scheme.now (λ k l e. false≢true (sym c.if-contains.false ∙ stands k l e)) in
    sym (scheme-found c.args.body.now c.in-Some.scheme.now c.in-Some.hier.now p.0 (none_at colon c.in-Some.scheme.now p.1) none).0

pub returns-else-contains-clause-hier : goal.returns-else-contains-clause-hier
returns-else-contains-clause-hier c =
    let p = split_parts 58 c.args.body.now (Some (c.in-Some.scheme, c.in-Some.hier)) c.in-Some.ensures.cases (lit< tt) in
    let stands = (contains_char 47 c.in-Some.scheme.now c.contains.result c.contains.ensures.cases (lit< tt)).1 in
    let none = none_at slash c.in-Some.scheme.now (λ k l e. false≢true (sym c.if-contains.false ∙ stands k l e)) in
    sym (scheme-found c.args.body.now c.in-Some.scheme.now c.in-Some.hier.now p.0 (none_at colon c.in-Some.scheme.now p.1) none).1

pub returns-in-None-clause-scheme : goal.returns-in-None-clause-scheme
returns-in-None-clause-scheme c =
    let p = split_parts 58 c.args.body.now None c.in-None.ensures.cases (lit< tt) in
    sym (scheme-none c.args.body.now (none-without_colon c.args.body.now (none_at colon c.args.body.now p))).0

pub returns-in-None-clause-hier : goal.returns-in-None-clause-hier
returns-in-None-clause-hier c =
    let p = split_parts 58 c.args.body.now None c.in-None.ensures.cases (lit< tt) in
    sym (scheme-none c.args.body.now (none-without_colon c.args.body.now (none_at colon c.args.body.now p))).1
