use Rattle.std.proofs.Common.{◌<◌, ◌≤◌, ◌≡◌, ◌∙◌, length, refl, sym, ap, subst, arith}
use Rattle.std.specs.List.{find}
use Rattle.std.proofs.lemmas.Option.{slice_get_read}
use Rattle.grammar_tree.specs.DocSets.{HasDistinctKeys, is_under}
use Rattle.grammar_tree.proofs.Keyed.{place, keys_after_remove, found_there, found_nowhere}
use Rattle.grammar_tree.proofs.doc_set.DocSet.remove.Goals as goal

pub invariant_of-self : goal.invariant_of-self
invariant_of-self c =
    let docs = c.self.inside.docs.items in
    let lt : c.place_of-at.result < length docs = omega (arith, c.len.ensures, c.if-at-len.true) in
    subst HasDistinctKeys (sym c.remove.ensures.items) (keys_after_remove docs c.place_of-at.result lt c.self.invariant)

pub returns-then-at-len-clause-taken : goal.returns-then-at-len-clause-taken
returns-then-at-len-clause-taken c =
    let key = c.args.key.now in
    let docs = c.self.inside.docs.items in
    let at = c.place_of-at.result in
    let e : at ≡ place key docs = c.place_of-at.ensures ∙ ap (place key) c.as_slice.ensures.value in
    let lt : at < length docs = omega (arith, c.len.ensures, c.if-at-len.true) in
    found_there key docs at c.remove.result e (slice_get_read docs (length docs) at c.remove.result refl lt c.remove.ensures.value) ∙ ap (find (is_under key)) c.self.view_is

pub returns-else-at-len-clause-taken : goal.returns-else-at-len-clause-taken
returns-else-at-len-clause-taken c =
    let key = c.args.key.now in
    let docs = c.self.inside.docs.items in
    let at = c.place_of-at.result in
    let e : at ≡ place key docs = c.place_of-at.ensures ∙ ap (place key) c.as_slice.ensures.value in
    let le : length docs ≤ at = omega (arith, c.len.ensures, c.if-at-len.false) in
    sym (found_nowhere key docs at e le) ∙ ap (find (is_under key)) c.self.view_is
