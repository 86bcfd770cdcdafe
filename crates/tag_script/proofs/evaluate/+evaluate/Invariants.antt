use Rattle.std.proofs.Common.{◌≡◌, map, IsTrue}
use Rattle.std.specs.Prelude.{drop}
use Rattle.tag_script.specs.Evaluation.{meaning, key_meant, chained, stepped}
use Rattle.tag_script.specs.code.Seen.{seen, IsTested}
use Rattle.tag_script.specs.code.Literals.{each_kept, no_items, members_kept, no_members}
use Rattle.tag_script.proofs.evaluate.+evaluate.Given as goal

-- the rest of the expressions, behind the items so far, gives what all of them give
abbrev pub invariant-evaluate_each-loop-expr : goal.invariant-evaluate_each-loop-expr
invariant-evaluate_each-loop-expr l = each_kept (map meaning (drop l.expr-index l.exprs)) l.env l.parts ≡ each_kept (map meaning l.exprs) l.env no_items

-- the rest of the pairs, behind the members so far, gives what all of them give
abbrev pub invariant-evaluate_members-loop-at : goal.invariant-evaluate_members-loop-at
invariant-evaluate_members-loop-at l =
    members_kept l.places (map (λ pair. (pair.0, meaning pair.1)) (drop l.at l.pairs)) l.at l.env l.parts
    ≡ members_kept l.places (map (λ pair. (pair.0, meaning pair.1)) l.pairs) 0 l.env no_members

-- the rest of the operators, from the value so far, gives what all of them give
abbrev pub invariant-evaluate_chain-loop-link : goal.invariant-evaluate_chain-loop-link
invariant-evaluate_chain-loop-link l = record {
  gives : chained (map (λ link. (link.0, meaning link.1)) (drop l.link-index l.links)) l.env (seen l.value) ≡ chained (map (λ link. (link.0, meaning link.1)) l.links) l.env (seen l.fn.first);
  fits : IsTrue l.fits → IsTested (seen l.value);
}

abbrev pub invariant-evaluate_path-loop-key : goal.invariant-evaluate_path-loop-key
invariant-evaluate_path-loop-key l = stepped (map key_meant (drop l.key-index l.path)) l.env (seen l.value) ≡ stepped (map key_meant l.path) l.env (seen l.fn.whole)
