use Rattle.std.proofs.Common.{◌<◌, ◌≤◌, ◌≡◌, ◌∙◌, ◌++◌, ◌∷◌, [], None, length, set, sym, ap, subst, arith}
use Rattle.std.specs.Prelude.{is_ok, IfOk, OnErr}
use Rattle.std.specs.List.{find}
use Rattle.grammar_tree.specs.DocSets.{HasDistinctKeys, is_under, put}
use Rattle.grammar_tree.proofs.Keyed.{place, put-replaces, keys_after_replace, keys_after_push, found_there, found_nowhere, either}
use Rattle.grammar_tree.proofs.doc_set.DocSet.put.Goals as goal
use Rattle.grammar_tree.proofs.doc_set.DocSet.put.Goals.{in-Ok, in-Err}

pub invariant_of-self : goal.invariant_of-self
invariant_of-self c =
    let doc = c.args.doc in
    let docs = c.self.inside.docs.items in
    let at = c.place_of-at.result in
    let e : at ≡ place doc.key docs = c.place_of-at.ensures ∙ ap (place doc.key) c.as_slice.ensures.value in
    let lt : place doc.key docs < length docs = omega (arith, e, c.len.ensures, c.if-at-len.true) in
    subst HasDistinctKeys (sym c.replace_at.ensures.after) (subst (λ k. HasDistinctKeys (set docs k doc)) (sym e) (keys_after_replace doc docs lt c.self.invariant))

pub returns-then-at-len-clause-ok : goal.returns-then-at-len-clause-ok
returns-then-at-len-clause-ok c =
    let doc = c.args.doc in
    let docs = c.self.inside.docs.items in
    let at = c.place_of-at.result in
    let e : at ≡ place doc.key docs = c.place_of-at.ensures ∙ ap (place doc.key) c.as_slice.ensures.value in
    let lt : place doc.key docs < length docs = omega (arith, e, c.len.ensures, c.if-at-len.true) in
    c.replace_at.ensures.after ∙ ap (λ k. set docs k doc) e ∙ put-replaces doc docs lt ∙ ap (put doc) c.self.view_is

pub returns-then-at-len-clause-former : goal.returns-then-at-len-clause-former
returns-then-at-len-clause-former c =
    let doc = c.args.doc in
    let docs = c.self.inside.docs.items in
    let at = c.place_of-at.result in
    let e : at ≡ place doc.key docs = c.place_of-at.ensures ∙ ap (place doc.key) c.as_slice.ensures.value in
    found_there doc.key docs at c.replace_at.result e c.replace_at.ensures.former ∙ ap (find (is_under doc.key)) c.self.view_is

pub invariant_of-self-2 : goal.invariant_of-self-2
invariant_of-self-2 c =
    let doc = c.args.doc in
    let docs = c.self.inside.docs.items in
    let e : c.place_of-at.result ≡ place doc.key docs = c.place_of-at.ensures ∙ ap (place doc.key) c.as_slice.ensures.value in
    let le : length docs ≤ place doc.key docs = omega (arith, e, c.len.ensures, c.if-at-len.false) in
    either HasDistinctKeys (is_ok c.push.result) (docs ++ doc ∷ []) docs c.push.new.self.items c.push.ensures.items (keys_after_push doc docs le c.self.invariant) c.self.invariant

pub returns-clause-former : goal.returns-clause-former
returns-clause-former c =
    let doc = c.args.doc in
    let docs = c.self.inside.docs.items in
    let at = c.place_of-at.result in
    let e : at ≡ place doc.key docs = c.place_of-at.ensures ∙ ap (place doc.key) c.as_slice.ensures.value in
    let le : length docs ≤ at = omega (arith, c.len.ensures, c.if-at-len.false) in
    let none : None ≡ find (is_under doc.key) c.args.self.now = sym (found_nowhere doc.key docs at e le) ∙ ap (find (is_under doc.key)) c.self.view_is in
    elim c.match-push.branch [
      | in-Ok w ↦ subst (λ r. IfOk r (λ former. former ≡ find (is_under doc.key) c.args.self.now)) (sym w.result-is) none
      | in-Err w ↦ subst (λ r. IfOk r (λ former. former ≡ find (is_under doc.key) c.args.self.now)) (sym w.result-is) tt
    ]

pub returns-clause-absent : goal.returns-clause-absent
returns-clause-absent c =
    let doc = c.args.doc in
    let docs = c.self.inside.docs.items in
    let at = c.place_of-at.result in
    let e : at ≡ place doc.key docs = c.place_of-at.ensures ∙ ap (place doc.key) c.as_slice.ensures.value in
    let le : length docs ≤ at = omega (arith, c.len.ensures, c.if-at-len.false) in
    let none : find (is_under doc.key) c.args.self.now ≡ None = ap (find (is_under doc.key)) (sym c.self.view_is) ∙ found_nowhere doc.key docs at e le in
    elim c.match-push.branch [
      | in-Ok w ↦ subst (λ r. OnErr r (find (is_under doc.key) c.args.self.now ≡ None)) (sym w.result-is) tt
      | in-Err w ↦ subst (λ r. OnErr r (find (is_under doc.key) c.args.self.now ≡ None)) (sym w.result-is) none
    ]
