use Rattle.std.proofs.Common.{◌≡◌, ◌∙◌, Some, ap, sym}
use Rattle.std.specs.Option.{option_copied}
use Rattle.uri_links.specs.Resolution.{resolve}
use Rattle.linker.specs.Readings.{place_of}
use Rattle.linker.proofs.ScopeLemmas.{ByKey, read_is, placed, at_own, at_other}
use Rattle.linker.proofs.scope.at_uri.Goals as goal

pub returns-in-Some : goal.returns-in-Some
returns-in-Some c = λ docs own scope readable.
    let means = resolve c.args.scope.now.base.now c.args.uri.now in
    let q : ByKey = record { docs = docs; set = c.args.scope.now.set.now; x = c.args.scope.now.place; own = own; key = means; name = option_copied c.args.name } in
    let read : c.args.uri.now ≡ c.in-Ok.reference = read_is c.args.uri.now c.in-Ok.reference readable c.in-Ok.ensures in
    let key : c.text.result.now ≡ means = c.text.ensures.same ∙ c.in_ok-key.ensures.resolved ∙ (λ i. resolve (c.uri.ensures.same i) (sym read i)) in
    let found : Some c.in-Some.place ≡ place_of q.set means = c.in-Some.ensures ∙ ap (place_of q.set) key in
    c.within.ensures docs q.x own scope.known ∙ at_own q c.in-Some.place found c.if-place-scope.true

pub returns : goal.returns
returns c = λ docs own scope readable.
    let means = resolve c.args.scope.now.base.now c.args.uri.now in
    let q : ByKey = record { docs = docs; set = c.args.scope.now.set.now; x = c.args.scope.now.place; own = own; key = means; name = option_copied c.args.name } in
    let read : c.args.uri.now ≡ c.in-Ok.reference = read_is c.args.uri.now c.in-Ok.reference readable c.in-Ok.ensures in
    let key : c.text.result.now ≡ means = c.text.ensures.same ∙ c.in_ok-key.ensures.resolved ∙ (λ i. resolve (c.uri.ensures.same i) (sym read i)) in
    let found : Some c.in-Some.place ≡ place_of q.set means = c.in-Some.ensures ∙ ap (place_of q.set) key in
    c.outside.ensures docs own scope (placed q.set means c.in-Some.place found) ∙ at_other q c.in-Some.place found c.if-place-scope.false
