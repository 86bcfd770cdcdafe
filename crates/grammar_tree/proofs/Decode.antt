-- A tree is decoded from its choices: two derivations of one node over prefixes of one list of words,
-- whose choices are prefixes of one list, are the same.
use Rattle.std.proofs.Common.{ℕ, suc, ◌+◌, ◌-◌, ◌≡◌, ◌≤◌, List, [], ◌∷◌, ◌++◌, Option, Some, None, true, length, map, refl, sym, ap, ◌∙◌, subst, append_assoc, arith}
use Rattle.std.specs.Prelude.{slice_get}
use Rattle.std.proofs.lemmas.List.{append_cancel_left}
use Rattle.std.proofs.lemmas.Bool.Decides.{nat_tests}
use Rattle.vg_base.specs.declared.numbers.NodeIx.{NodeIx}
use Rattle.grammar_tree.specs.declared.linked.Node.TheVariants as node
use Rattle.grammar_tree.specs.declared.parse_tree.ParseTree.{ParseTree}
use Rattle.grammar_tree.specs.declared.parse_tree.ParseTree.TheVariants as tree
use Rattle.grammar_tree.specs.Links.{Rules}
use Rattle.grammar_tree.specs.Derives.{Words, IsAtMost, Derives, by_token, by_seq, by_alt, by_rep, by_ref, by_tag, by_null, by_garbage, DerivesEach, no_part, part, DerivesTurns, no_turn, turn}
use Rattle.grammar_tree.specs.Choices.{choices, chosen_by, parts_chosen, turns_chosen, choice_if, is_open, garbage_chosen}
use Rattle.grammar_tree.proofs.Views.{at_node, chosen_token, chosen_seq, chosen_alt, chosen_rep, chosen_ref, chosen_tag, chosen_null, chosen_garbage}

-- the same words and value, with the same words and choices after it
pub record Same (A : Type 0) (w1 w2 x1 x2 : Words) (a1 a2 : A) (r1 r2 : List ℕ) : Type 0 where
  pub words : w1 ≡ w2
  pub after : x1 ≡ x2
  pub value : a1 ≡ a2
  pub rest : r1 ≡ r2

swap : (a1 b1 a2 b2 r1 r2 : List ℕ) → a1 ≡ b1 → a2 ≡ b2 → a1 ++ r1 ≡ a2 ++ r2 → b1 ++ r1 ≡ b2 ++ r2
swap a1 b1 a2 b2 r1 r2 e1 e2 h = ap (λ c. c ++ r1) (sym e1) ∙ h ∙ ap (λ c. c ++ r2) e2

cancel : (w1 w2 x1 x2 : Words) → w1 ≡ w2 → w1 ++ x1 ≡ w2 ++ x2 → x1 ≡ x2
cancel w1 w2 x1 x2 e h = append_cancel_left w1 x1 x2 (h ∙ ap (λ w. w ++ x2) (sym e))

-- a run of words, by its length
same_run : (w1 x1 w2 x2 : Words) (r1 r2 : List ℕ) → w1 ++ x1 ≡ w2 ++ x2 → garbage_chosen w1 ++ r1 ≡ garbage_chosen w2 ++ r2 → Same Words w1 w2 x1 x2 w1 w2 r1 r2
same_run [] x1 [] x2 r1 r2 ew ec = record { words = refl; after = ew; value = refl; rest = append_cancel_left (0 ∷ []) r1 r2 ec }
same_run [] x1 (w ∷ w2) x2 r1 r2 ew ec = cc
same_run (w ∷ w1) x1 [] x2 r1 r2 ew ec = cc
same_run (v ∷ w1) x1 (w ∷ w2) x2 r1 r2 ew ec =
    let ew' : w1 ++ x1 ≡ w2 ++ x2 = cc in
    let ec' : garbage_chosen w1 ++ r1 ≡ garbage_chosen w2 ++ r2 = cc in
    let s = same_run w1 x1 w2 x2 r1 r2 ew' ec' in
    let first : v ≡ w = cc in
    let whole : v ∷ w1 ≡ w ∷ w2 = cc (s.words) in
    record { words = whole; after = s.after; value = whole; rest = s.rest }

-- past the least and below the most there is a choice
pub open_here : (least : ℕ) (most : Option ℕ) (turns : ℕ) → least ≤ turns → IsAtMost most (turns + 1) → is_open least most turns ≡ true
open_here least None turns lo hi = grind (arith, nat_tests)
open_here least (Some most) turns lo hi = grind (arith, nat_tests)

pub fewer : (most : Option ℕ) (j k : ℕ) → j ≤ k → IsAtMost most k → IsAtMost most j
fewer None j k le h = tt
fewer (Some most) j k le h = omega arith

-- one list stops where the other goes on
never : (least : ℕ) (most : Option ℕ) (turns more : ℕ) (r1 r2 : List ℕ) → least ≤ turns → IsAtMost most (turns + suc more) → choice_if (is_open least most turns) 1 ++ r1 ≡ choice_if (is_open least most turns) 0 ++ r2 → ⊥
never least most turns more r1 r2 lo hi ec =
    let o = open_here least most turns lo (fewer most (turns + 1) (turns + suc more) (omega arith) hi) in
    let ec' : 1 ∷ r1 ≡ 0 ∷ r2 = subst (λ b. choice_if b 1 ++ r1 ≡ choice_if b 0 ++ r2) o ec in cc

module _ (L : Rules) where
  mutual
    pub decode : (n : NodeIx) (w1 x1 w2 x2 : Words) (t1 t2 : ParseTree) (r1 r2 : List ℕ) → Derives L n w1 t1 → Derives L n w2 t2 →
        w1 ++ x1 ≡ w2 ++ x2 → choices L n t1 ++ r1 ≡ choices L n t2 ++ r2 → Same ParseTree w1 w2 x1 x2 t1 t2 r1 r2
    decode n w1 x1 w2 x2 t1 t2 r1 r2 (by_token e q) d2 ew ec =
        let c = at_node L n w2 t2 (node.Token w1) e d2 in
        let k = swap _ _ _ _ r1 r2 (chosen_token L n t1 w1 w1 e q) (chosen_token L n t2 w1 w2 e c.1) ec in
        record { words = sym c.0; after = cancel w1 w2 x1 x2 (sym c.0) ew; value = q ∙ ap tree.Token (sym c.0) ∙ sym c.1; rest = k }
    decode n w1 x1 w2 x2 t1 t2 r1 r2 (by_seq ps ts e q d) d2 ew ec =
        let c = at_node L n w2 t2 (node.Seq ps) e d2 in
        let k = swap _ _ _ _ r1 r2 (chosen_seq L n t1 ps ts e q) (chosen_seq L n t2 ps c.0 e c.1) ec in
        let s = decode_each ps w1 x1 w2 x2 ts c.0 r1 r2 d c.2 ew k in
        record { words = s.words; after = s.after; value = q ∙ ap tree.Seq s.value ∙ sym c.1; rest = s.rest }
    decode n w1 x1 w2 x2 t1 t2 r1 r2 (by_alt ps j p u e g q d) d2 ew ec =
        let c = at_node L n w2 t2 (node.Alt ps) e d2 in
        let k = swap _ _ _ _ r1 r2 (chosen_alt L n t1 ps j p u e g q) (chosen_alt L n t2 ps c.0 c.1 c.2 e c.3 c.4) ec in
        let same : j ≡ c.0 = cc in
        let part : c.1 ≡ p = cc (sym g ∙ ap (slice_get ps) same ∙ c.3) in
        let inner : choices L p u ++ r1 ≡ choices L p c.2 ++ r2 = subst (λ m. choices L p u ++ r1 ≡ choices L m c.2 ++ r2) part (cc) in
        let s = decode p w1 x1 w2 x2 u c.2 r1 r2 d (subst (λ m. Derives L m w2 c.2) part c.5) ew inner in
        record { words = s.words; after = s.after; value = q ∙ ap (λ i. tree.Alt i u) same ∙ ap (tree.Alt c.0) s.value ∙ sym c.4; rest = s.rest }
    decode n w1 x1 w2 x2 t1 t2 r1 r2 (by_rep least most p ts e q lo hi d) d2 ew ec =
        let c = at_node L n w2 t2 (node.Rep least most p) e d2 in
        let k = swap _ _ _ _ r1 r2 (chosen_rep L n t1 least most p ts e q) (chosen_rep L n t2 least most p c.0 e c.1) ec in
        let s = decode_turns least most p 0 least least w1 x1 w2 x2 ts c.0 r1 r2 (omega arith) (fewer most _ _ (omega arith) hi) (omega (arith, c.2)) (fewer most _ _ (omega arith) c.3) d c.4 ew k in
        record { words = s.words; after = s.after; value = q ∙ ap tree.Rep s.value ∙ sym c.1; rest = s.rest }
    decode n w1 x1 w2 x2 t1 t2 r1 r2 (by_ref r rule u e g q d) d2 ew ec =
        let c = at_node L n w2 t2 (node.Ref r) e d2 in
        let same : c.0 ≡ rule = cc (sym c.2 ∙ g) in
        let k = swap _ _ _ _ r1 r2 (chosen_ref L n t1 r rule u e g q) (chosen_ref L n t2 r c.0 c.1 e c.2 c.3) ec in
        let k' : choices L rule.body u ++ r1 ≡ choices L rule.body c.1 ++ r2 = subst (λ m. choices L rule.body u ++ r1 ≡ choices L m.body c.1 ++ r2) same k in
        let s = decode rule.body w1 x1 w2 x2 u c.1 r1 r2 d (subst (λ m. Derives L m.body w2 c.1) same c.4) ew k' in
        record { words = s.words; after = s.after; value = q ∙ ap (tree.Rule r) s.value ∙ sym c.3; rest = s.rest }
    decode n w1 x1 w2 x2 t1 t2 r1 r2 (by_tag tag e z q) d2 ew ec =
        let c = at_node L n w2 t2 (node.Tag tag) e d2 in
        let k = swap _ _ _ _ r1 r2 (chosen_tag L n t1 tag e q) (chosen_tag L n t2 tag e c.1) ec in
        record { words = z ∙ sym c.0; after = cancel w1 w2 x1 x2 (z ∙ sym c.0) ew; value = q ∙ sym c.1; rest = k }
    decode n w1 x1 w2 x2 t1 t2 r1 r2 (by_null e z q) d2 ew ec =
        let c = at_node L n w2 t2 node.Null e d2 in
        let k = swap _ _ _ _ r1 r2 (chosen_null L n t1 e q) (chosen_null L n t2 e c.1) ec in
        record { words = z ∙ sym c.0; after = cancel w1 w2 x1 x2 (z ∙ sym c.0) ew; value = q ∙ sym c.1; rest = k }
    decode n w1 x1 w2 x2 t1 t2 r1 r2 (by_garbage e q) d2 ew ec =
        let c = at_node L n w2 t2 node.Garbage e d2 in
        let k = swap _ _ _ _ r1 r2 (chosen_garbage L n t1 w1 e q) (chosen_garbage L n t2 w2 e c) ec in
        let s = same_run w1 x1 w2 x2 r1 r2 ew k in
        record { words = s.words; after = s.after; value = q ∙ ap tree.Garbage s.value ∙ sym c; rest = s.rest }

    pub decode_each : (ps : List NodeIx) (w1 x1 w2 x2 : Words) (ts1 ts2 : List ParseTree) (r1 r2 : List ℕ) → DerivesEach L ps w1 ts1 → DerivesEach L ps w2 ts2 →
        w1 ++ x1 ≡ w2 ++ x2 → parts_chosen ps (map (chosen_by L) ts1) ++ r1 ≡ parts_chosen ps (map (chosen_by L) ts2) ++ r2 → Same (List ParseTree) w1 w2 x1 x2 ts1 ts2 r1 r2
    decode_each _ w1 x1 w2 x2 _ _ r1 r2 (no_part z1) (no_part z2) ew ec =
        record { words = z1 ∙ sym z2; after = cancel w1 w2 x1 x2 (z1 ∙ sym z2) ew; value = refl; rest = ec }
    decode_each _ w1 x1 w2 x2 _ _ r1 r2 (part {p = p} {ps = ps} {t = t1} {ts = ts1} u1 v1 z1 d1 ds1) (part {t = t2} {ts = ts2} u2 v2 z2 d2 ds2) ew ec =
        let ew' : u1 ++ (v1 ++ x1) ≡ u2 ++ (v2 ++ x2) = sym (append_assoc u1 v1 x1) ∙ ap (λ w. w ++ x1) (sym z1) ∙ ew ∙ ap (λ w. w ++ x2) z2 ∙ append_assoc u2 v2 x2 in
        let ec' : choices L p t1 ++ (parts_chosen ps (map (chosen_by L) ts1) ++ r1) ≡ choices L p t2 ++ (parts_chosen ps (map (chosen_by L) ts2) ++ r2) =
        sym (append_assoc (choices L p t1) _ r1) ∙ ec ∙ append_assoc (choices L p t2) _ r2 in
        let s = decode p u1 (v1 ++ x1) u2 (v2 ++ x2) t1 t2 _ _ d1 d2 ew' ec' in
        let s' = decode_each ps v1 x1 v2 x2 ts1 ts2 r1 r2 ds1 ds2 s.after s.rest in
        record { words = z1 ∙ ap (λ w. w ++ v1) s.words ∙ ap (λ w. u2 ++ w) s'.words ∙ sym z2; after = s'.after; value = ap (λ t. t ∷ ts1) s.value ∙ ap (λ ts. t2 ∷ ts) s'.value; rest = s'.rest }

    pub decode_turns : (least : ℕ) (most : Option ℕ) (p : NodeIx) (turns f1 f2 : ℕ) (w1 x1 w2 x2 : Words) (ts1 ts2 : List ParseTree) (r1 r2 : List ℕ) →
        least ≤ turns + length ts1 → IsAtMost most (turns + length ts1) → least ≤ turns + length ts2 → IsAtMost most (turns + length ts2) →
        DerivesTurns L p f1 w1 ts1 → DerivesTurns L p f2 w2 ts2 → w1 ++ x1 ≡ w2 ++ x2 →
        turns_chosen least most p turns (map (chosen_by L) ts1) ++ r1 ≡ turns_chosen least most p turns (map (chosen_by L) ts2) ++ r2 → Same (List ParseTree) w1 w2 x1 x2 ts1 ts2 r1 r2
    decode_turns least most p turns f1 f2 w1 x1 w2 x2 _ _ r1 r2 lo1 hi1 lo2 hi2 (no_turn z1) (no_turn z2) ew ec =
        record { words = z1 ∙ sym z2; after = cancel w1 w2 x1 x2 (z1 ∙ sym z2) ew; value = refl; rest = append_cancel_left _ r1 r2 ec }
    decode_turns least most p turns f1 f2 w1 x1 w2 x2 _ _ r1 r2 lo1 hi1 lo2 hi2 (no_turn z1) (turn {ts = ts2} u2 v2 z2 ne2 d2 ds2) ew ec =
        absurd (never least most turns (length ts2) r1 _ (omega arith) hi2 (ec ∙ append_assoc (choice_if (is_open least most turns) 0) _ r2))
    decode_turns least most p turns f1 f2 w1 x1 w2 x2 _ _ r1 r2 lo1 hi1 lo2 hi2 (turn {ts = ts1} u1 v1 z1 ne1 d1 ds1) (no_turn z2) ew ec =
        absurd (never least most turns (length ts1) r2 _ (omega arith) hi1 (sym ec ∙ append_assoc (choice_if (is_open least most turns) 0) _ r1))
    decode_turns least most p turns f1 f2 w1 x1 w2 x2 _ _ r1 r2 lo1 hi1 lo2 hi2 (turn {t = t1} {ts = ts1} u1 v1 z1 ne1 d1 ds1) (turn {t = t2} {ts = ts2} u2 v2 z2 ne2 d2 ds2) ew ec =
        let ew' : u1 ++ (v1 ++ x1) ≡ u2 ++ (v2 ++ x2) = sym (append_assoc u1 v1 x1) ∙ ap (λ w. w ++ x1) (sym z1) ∙ ew ∙ ap (λ w. w ++ x2) z2 ∙ append_assoc u2 v2 x2 in
        let m = choice_if (is_open least most turns) 0 in
        let c1 = turns_chosen least most p (turns + 1) (map (chosen_by L) ts1) in
        let c2 = turns_chosen least most p (turns + 1) (map (chosen_by L) ts2) in
        let ec' : choices L p t1 ++ (c1 ++ r1) ≡ choices L p t2 ++ (c2 ++ r2) =
        sym (append_assoc (choices L p t1) c1 r1) ∙ append_cancel_left m _ _ (sym (append_assoc m _ r1) ∙ ec ∙ append_assoc m _ r2) ∙ append_assoc (choices L p t2) c2 r2 in
        let s = decode p u1 (v1 ++ x1) u2 (v2 ++ x2) t1 t2 _ _ d1 d2 ew' ec' in
        let s' = decode_turns least most p (turns + 1) (f1 - 1) (f2 - 1) v1 x1 v2 x2 ts1 ts2 r1 r2 (omega arith) (fewer most _ _ (omega arith) hi1) (omega arith) (fewer most _ _ (omega arith) hi2) ds1 ds2 s.after s.rest in
        record { words = z1 ∙ ap (λ w. w ++ v1) s.words ∙ ap (λ w. u2 ++ w) s'.words ∙ sym z2; after = s'.after; value = ap (λ t. t ∷ ts1) s.value ∙ ap (λ ts. t2 ∷ ts) s'.value; rest = s'.rest }
