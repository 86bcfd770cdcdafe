use Rattle.std.proofs.Common.{◌<◌, ◌∷◌, ◌++◌, ◌==◌, [], length, ap, ◌∙◌, arith}
use Rattle.std.specs.Prelude.{slice_set, slice_index_or}
use Rattle.std.proofs.lemmas.List.{get_or_read}
use Rattle.std.proofs.lemmas.Bool.{eq-eqb, ne_eqb}
use Rattle.self_derivation.proofs.Tallies.{pushed_if, not_pushed_if}
use Rattle.self_derivation.proofs.SearchLemmas.{counted_one}
use Rattle.self_derivation.proofs.empty.Search.count.Goals as goal
use Rattle.self_derivation.proofs.empty.Search.count.Goals.{then-missing-eq1+in_ok-push, else-missing-eq1}

pub returns : goal.returns
returns c =
    let n = c.args.n in
    let v = c.index-missing.result.now in
    let sized : n < length c.self.inside.missing.items = omega (arith, c.requires, ap (λ s. length s.missing) c.self.view_is) in
    let told = ap (λ s. s.told) c.self.view_is in
    let missing = ap (λ s. slice_set s.missing n c.saturating_sub.result) c.self.view_is ∙ ap (λ k. slice_set c.args.self.now.missing n k) c.saturating_sub.ensures in
    let read = get_or_read c.self.inside.missing.items n v sized c.index-missing.ensures 1 ∙ ap (λ s. slice_index_or s.missing n 1) c.self.view_is in
    counted_one n v c.args.self.now _ (record {
      within = c.requires;
      read = read;
      told = elim c.if-missing-eq1.branch [
        | then-missing-eq1+in_ok-push w ↦ ap (λ i. i.told.items) w.self-inside-is ∙ told
        | else-missing-eq1 w ↦ ap (λ i. i.told.items) w.self-inside-is ∙ told
      ];
      missing = elim c.if-missing-eq1.branch [
        | then-missing-eq1+in_ok-push w ↦ ap (λ i. slice_set i.missing.items n c.saturating_sub.result) w.self-inside-is ∙ missing
        | else-missing-eq1 w ↦ ap (λ i. slice_set i.missing.items n c.saturating_sub.result) w.self-inside-is ∙ missing
      ];
      left = elim c.if-missing-eq1.branch [
        | then-missing-eq1+in_ok-push w ↦ pushed_if n (v == 1) _ _ (eq-eqb v 1 w.if-missing-eq1.true)
            (ap (λ i. i.left.items) w.self-inside-is ∙ w.in_ok-push.ensures.items ∙ ap (λ s. s.left ++ n ∷ []) c.self.view_is)
        | else-missing-eq1 w ↦ not_pushed_if n (v == 1) _ _ (ne_eqb v 1 w.if-missing-eq1.false) (ap (λ i. i.left.items) w.self-inside-is ∙ ap (λ s. s.left) c.self.view_is)
      ];
    })
