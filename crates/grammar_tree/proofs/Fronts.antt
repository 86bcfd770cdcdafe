-- Parts and turns one after another. One more at the end (`each_more`, `turns_more`) and the last one taken off again
-- (`last_part`, `last_turn`) are lemmas of words; `Spans` moves between words and places, and so each front is one part or
-- turn more than the front before it (`part_more`, `part_less`, `turn_more`, `turn_less`). The laws at the end follow by cases.
use Rattle.std.proofs.Common.{ℕ, zero, suc, ◌+◌, ◌-◌, ◌<◌, ◌≤◌, ◌≡◌, ◌≢◌, List, [], ◌∷◌, ◌++◌, Option, Some, None, length, take, refl, sym, ap, ◌∙◌, subst, arith, append_assoc, length-append}
use Rattle.std.specs.Prelude.{slice_get, slice_range}
use Rattle.std.proofs.lemmas.List.{append-nil}
use Rattle.std.proofs.lemmas.Option.{slice_get_within, get_or_from_slice_get}
use Rattle.vg_base.specs.declared.numbers.NodeIx.{NodeIx}
use Rattle.vg_base.specs.declared.numbers.RuleIx.{RuleIx}
use Rattle.grammar_tree.specs.declared.linked.Node.{Node}
use Rattle.grammar_tree.specs.declared.linked.Node.TheVariants as node
use Rattle.grammar_tree.specs.declared.linked.LinkedRule.{LinkedRule}
use Rattle.grammar_tree.specs.declared.parse_tree.ParseTree.{ParseTree}
use Rattle.grammar_tree.specs.declared.parse_tree.ParseTree.TheVariants as tree
use Rattle.grammar_tree.specs.Links.{Rules, IsLinked, node_at, rule_at, parts}
use Rattle.grammar_tree.specs.Derives.{Words, IsAtMost, Derives, by_seq, by_rep, DerivesEach, no_part, part, DerivesTurns, no_turn, turn}
use Rattle.grammar_tree.specs.Reached.{DerivesSpan, Front, Follows, Reached, at_start, at_alternative, at_reference, at_front}
use Rattle.grammar_tree.specs.SpanLaws.{NoStepNoWord, OneMorePart, OneMoreTurn, FollowersGoOn, AllPartsDerive, EnoughTurnsDerive, ReachedIsInRange}
use Rattle.grammar_tree.proofs.Decode.{fewer}
use Rattle.grammar_tree.proofs.Spans.{span_cut, span_empty, span_join, span_length}
use Rattle.grammar_tree.proofs.Views.{at_node}

module _ (L : Rules) where
  pub each_more : (ps : List NodeIx) (u v : Words) (ts : List ParseTree) (p : NodeIx) (t : ParseTree) →
      DerivesEach L ps u ts → Derives L p v t → DerivesEach L (ps ++ p ∷ []) (u ++ v) (ts ++ t ∷ [])
  each_more _ u v _ p t (no_part z) d = part v [] (ap (λ w. w ++ v) z ∙ sym (append-nil v)) d (no_part refl)
  each_more _ u v _ p t (part {ps = ps} {ts = ts} front rest z e es) d =
      part front (rest ++ v) (ap (λ w. w ++ v) z ∙ append_assoc front rest v) e (each_more ps rest v ts p t es d)

  pub turns_more : (p : NodeIx) (free : ℕ) (u v : Words) (ts : List ParseTree) (t : ParseTree) →
      DerivesTurns L p free u ts → (free ≤ length ts → v ≢ []) → Derives L p v t → DerivesTurns L p free (u ++ v) (ts ++ t ∷ [])
  turns_more p free u v _ t (no_turn z) full d = turn v [] (ap (λ w. w ++ v) z ∙ sym (append-nil v)) (λ e. full (omega arith)) d (no_turn refl)
  turns_more p free u v _ t (turn {ts = ts} front rest z ok e es) full d =
      turn front (rest ++ v) (ap (λ w. w ++ v) z ∙ append_assoc front rest v) ok e (turns_more p (free - 1) rest v ts t es (λ le. full (omega arith)) d)

  -- the last part, and what stands before it
  pub record LastPart (ps : List NodeIx) (p : NodeIx) (ws : Words) : Type 0 where
    pub front : Words
    pub rest : Words
    pub words : ws ≡ front ++ rest
    pub trees : List ParseTree
    pub before : DerivesEach L ps front trees
    pub tree : ParseTree
    pub last : Derives L p rest tree

  last_part : (ps : List NodeIx) (p : NodeIx) (ws : Words) (ts : List ParseTree) → DerivesEach L (ps ++ p ∷ []) ws ts → LastPart ps p ws
  last_part [] p ws _ (part {t = t} u v z d (no_part e)) =
      record {
        front = [];
        rest = u;
        words = z ∙ ap (λ w. u ++ w) e ∙ append-nil u;
        trees = [];
        before = no_part refl;
        tree = t;
        last = d;
      }
  last_part (q ∷ ps) p ws _ (part {t = t} {ts = ts} u v z d ds) =
      let more = last_part ps p v ts ds in
      record {
        front = u ++ more.front;
        rest = more.rest;
        words = z ∙ ap (λ w. u ++ w) more.words ∙ sym (append_assoc u more.front more.rest);
        trees = t ∷ more.trees;
        before = part u more.front refl d more.before;
        tree = more.tree;
        last = more.last;
      }

  -- the last turn, and what stands before it
  pub record LastTurn (p : NodeIx) (free k : ℕ) (ws : Words) : Type 0 where
    pub front : Words
    pub rest : Words
    pub words : ws ≡ front ++ rest
    pub trees : List ParseTree
    pub many : length trees ≡ k
    pub before : DerivesTurns L p free front trees
    pub full : free ≤ k → rest ≢ []
    pub tree : ParseTree
    pub last : Derives L p rest tree

  last_turn : (p : NodeIx) (free k : ℕ) (ws : Words) (ts : List ParseTree) → length ts ≡ suc k → DerivesTurns L p free ws ts → LastTurn p free k ws
  last_turn p free k ws _ many (no_turn z) = absurd (omega arith)
  last_turn p free zero ws _ many (turn {t = t} {ts = ts} u v z full d ds) = at ts (omega arith) ds
    where
      at : (ts : List ParseTree) → length ts ≡ 0 → DerivesTurns L p (free - 1) v ts → LastTurn p free zero ws
      at _ none (no_turn e) =
          record {
            front = [];
            rest = u;
            words = z ∙ ap (λ w. u ++ w) e ∙ append-nil u;
            trees = [];
            many = refl;
            before = no_turn refl;
            full = λ le. full (omega arith);
            tree = t;
            last = d;
          }
      at _ none (turn a b y ok e es) = absurd (omega arith)
  last_turn p free (suc k) ws _ many (turn {t = t} {ts = ts} u v z full d ds) =
      let more = last_turn p (free - 1) k v ts (omega arith) ds in
      record {
        front = u ++ more.front;
        rest = more.rest;
        words = z ∙ ap (λ w. u ++ w) more.words ∙ sym (append_assoc u more.front more.rest);
        trees = t ∷ more.trees;
        many = ap suc more.many;
        before = turn u more.front refl full d more.before;
        full = λ le. more.full (omega arith);
        tree = more.tree;
        last = more.last;
      }

-- the first parts and the next one
take_next : (ps : List NodeIx) (k : ℕ) (p : NodeIx) → slice_get ps k ≡ Some p → take (k + 1) ps ≡ take k ps ++ p ∷ []
take_next [] k p g = absurd (cc)
take_next (q ∷ ps) zero p g = let same : q ≡ p = cc in ap (λ x. x ∷ []) same
take_next (q ∷ ps) (suc k) p g =
    let e : suc k + 1 ≡ suc (k + 1) = omega arith in
    ap (λ x. take x (q ∷ ps)) e ∙ ap (λ xs. q ∷ xs) (take_next ps k p g)

take_all : {X : Type 0} (xs : List X) → take (length xs) xs ≡ xs
take_all [] = refl
take_all (x ∷ xs) = ap (λ ys. x ∷ ys) (take_all xs)

next_there : (ps : List NodeIx) (k : ℕ) → k < length ps → (p : NodeIx) × (slice_get ps k ≡ Some p)
next_there [] k lt = absurd (omega arith)
next_there (q ∷ ps) zero lt = (q, refl)
next_there (q ∷ ps) (suc k) lt = next_there ps k (omega arith)

module _ (L : Rules) (ws : Words) where
  -- words that are cut where two spans meet
  join : (i m j : ℕ) → i ≤ m → m ≤ j → slice_range ws i m ++ slice_range ws m j ≡ slice_range ws i j
  join i m j le le' = sym (span_join ws i m j le le')

  some_between : (m j : ℕ) → m ≤ j → j ≤ length ws → m ≢ j → slice_range ws m j ≢ []
  some_between m j le within other e = other (omega (arith, ap length e, span_length ws m j le within))

  part_more : (ps : List NodeIx) (k i j m : ℕ) (p : NodeIx) → slice_get ps k ≡ Some p → Front L ws (node.Seq ps) k i m → DerivesSpan L ws p m j → Front L ws (node.Seq ps) (k + 1) i j
  part_more ps k i j m p g front span = record {
    order = omega (arith, front.order, span.order);
    within = span.within;
    derive = (
      omega (arith, slice_get_within ps k p g),
      (
        front.derive.1.0 ++ span.derives.0 ∷ [],
        subst (λ w. DerivesEach L (take (k + 1) ps) w (front.derive.1.0 ++ span.derives.0 ∷ [])) (join i m j front.order span.order)
            (subst (λ qs. DerivesEach L qs (slice_range ws i m ++ slice_range ws m j) (front.derive.1.0 ++ span.derives.0 ∷ [])) (sym (take_next ps k p g))
            (each_more L (take k ps) (slice_range ws i m) (slice_range ws m j) front.derive.1.0 p span.derives.0 front.derive.1.1 span.derives.1)),
      ),
    );
  }

  part_less : (ps : List NodeIx) (k i j : ℕ) → Front L ws (node.Seq ps) (k + 1) i j →
      (m : ℕ) × (p : NodeIx) × (slice_get ps k ≡ Some p) × Front L ws (node.Seq ps) k i m × DerivesSpan L ws p m j
  part_less ps k i j front =
      let next = next_there ps k (omega (arith, front.derive.0)) in
      let same : take (k + 1) ps ≡ take k ps ++ next.0 ∷ [] = take_next ps k next.0 next.1 in
      let each : DerivesEach L (take k ps ++ next.0 ∷ []) (slice_range ws i j) front.derive.1.0 =
      subst (λ qs. DerivesEach L qs (slice_range ws i j) front.derive.1.0) same front.derive.1.1 in
      let c = last_part L (take k ps) next.0 (slice_range ws i j) front.derive.1.0 each in
      let cut = span_cut ws i j c.front c.rest front.order front.within c.words in (
        cut.place,
        next.0,
        next.1,
        record {
          order = cut.after;
          within = omega (arith, cut.before, front.within);
          derive = (omega (arith, front.derive.0), (c.trees, subst (λ w. DerivesEach L (take k ps) w c.trees) cut.is_front c.before));
        },
        record { order = cut.before; within = front.within; derives = (c.tree, subst (λ w. Derives L next.0 w c.tree) cut.is_rest c.last) },
      )

  module _ (least : ℕ) (most : Option ℕ) (p : NodeIx) where
    turn_more : (k i j m : ℕ) → IsAtMost most (k + 1) → (least ≤ k → m ≢ j) → Front L ws (node.Rep least most p) k i m → DerivesSpan L ws p m j → Front L ws (node.Rep least most p) (k + 1) i j
    turn_more k i j m hi full front span = record {
      order = omega (arith, front.order, span.order);
      within = span.within;
      derive = (
        hi,
        (
          front.derive.1.0 ++ span.derives.0 ∷ [],
          length-append front.derive.1.0 (span.derives.0 ∷ []) ∙ ap (λ n. n + 1) front.derive.1.1,
          subst (λ w. DerivesTurns L p least w (front.derive.1.0 ++ span.derives.0 ∷ [])) (join i m j front.order span.order)
              (turns_more L p least (slice_range ws i m) (slice_range ws m j) front.derive.1.0 span.derives.0 front.derive.1.2
              (λ le. some_between m j span.order span.within (full (omega (arith, front.derive.1.1)))) span.derives.1),
        ),
      );
    }

    turn_less : (k i j : ℕ) → Front L ws (node.Rep least most p) (k + 1) i j →
        (m : ℕ) × IsAtMost most (k + 1) × (least ≤ k → m ≢ j) × Front L ws (node.Rep least most p) k i m × DerivesSpan L ws p m j
    turn_less k i j front =
        let c = last_turn L p least k (slice_range ws i j) front.derive.1.0 (omega (arith, front.derive.1.1)) front.derive.1.2 in
        let cut = span_cut ws i j c.front c.rest front.order front.within c.words in (
          cut.place,
          front.derive.0,
          λ le same. c.full le (cut.is_rest ∙ ap (λ m. slice_range ws m j) same ∙ span_empty ws j),
          record {
            order = cut.after;
            within = omega (arith, cut.before, front.within);
            derive = (fewer most k (k + 1) (omega arith) front.derive.0, (c.trees, c.many, subst (λ w. DerivesTurns L p least w c.trees) cut.is_front c.before));
          },
          record { order = cut.before; within = front.within; derives = (c.tree, subst (λ w. Derives L p w c.tree) cut.is_rest c.last) },
        )

pub one_more_part : OneMorePart
one_more_part L ws ps k i j = (part_less L ws ps k i j, λ h. part_more L ws ps k i j h.0 h.1 h.2 h.3 h.4)

pub one_more_turn : OneMoreTurn
one_more_turn L ws least most p k i j = (turn_less L ws least most p k i j, λ h. turn_more L ws least most p k i j h.0 h.1 h.2 h.3 h.4)

pub followers_go_on : FollowersGoOn
followers_go_on L ws (node.Seq ps) p k i m j follows front span word = part_more L ws ps k i j m p follows front span
followers_go_on L ws (node.Rep least most q) p k i m j follows front span word =
    turn_more L ws least most q k i j m follows.1 (λ le. word) front (subst (λ n. DerivesSpan L ws n m j) (sym follows.0) span)
followers_go_on L ws (node.Token words) p k i m j follows front span word = absurd follows
followers_go_on L ws (node.Alt ps) p k i m j follows front span word = absurd follows
followers_go_on L ws (node.Ref r) p k i m j follows front span word = absurd follows
followers_go_on L ws (node.Tag tag) p k i m j follows front span word = absurd follows
followers_go_on L ws node.Null p k i m j follows front span word = absurd follows
followers_go_on L ws node.Void p k i m j follows front span word = absurd follows
followers_go_on L ws node.Garbage p k i m j follows front span word = absurd follows

module _ (L : Rules) where
  no_parts_no_word : (ps : List NodeIx) (us : Words) (ts : List ParseTree) → ps ≡ [] → DerivesEach L ps us ts → us ≡ []
  no_parts_no_word _ us _ e (no_part z) = z
  no_parts_no_word _ us _ e (part u v z d ds) = absurd (cc)

  no_turns_no_word : (p : NodeIx) (free : ℕ) (us : Words) (ts : List ParseTree) → length ts ≡ 0 → DerivesTurns L p free us ts → us ≡ []
  no_turns_no_word p free us _ e (no_turn z) = z
  no_turns_no_word p free us _ e (turn u v z full d ds) = absurd (omega arith)

  none_between : (ws : Words) (i j : ℕ) → i ≤ j → j ≤ length ws → slice_range ws i j ≡ [] → i ≡ j
  none_between ws i j le within e = omega (arith, ap length e, span_length ws i j le within)

  nothing_yet : (ws : Words) (i j : ℕ) → i ≡ j → slice_range ws i j ≡ []
  nothing_yet ws i j e = ap (λ k. slice_range ws k j) e ∙ span_empty ws j

any_most : (most : Option ℕ) → IsAtMost most 0
any_most None = tt
any_most (Some most) = omega arith

pub no_step_no_word : NoStepNoWord
no_step_no_word L ws (node.Seq ps) i j steps = (
  λ front. (none_between L ws i j front.order front.within (no_parts_no_word L (take 0 ps) (slice_range ws i j) front.derive.1.0 refl front.derive.1.1), front.within),
  λ h. record { order = omega (arith, h.0); within = h.1; derive = (omega arith, ([], no_part (nothing_yet L ws i j h.0))) },
)
no_step_no_word L ws (node.Rep least most p) i j steps = (
  λ front. (none_between L ws i j front.order front.within (no_turns_no_word L p least (slice_range ws i j) front.derive.1.0 front.derive.1.1 front.derive.1.2), front.within),
  λ h. record { order = omega (arith, h.0); within = h.1; derive = (any_most most, ([], refl, no_turn (nothing_yet L ws i j h.0))) },
)
no_step_no_word L ws (node.Token words) i j steps = absurd steps
no_step_no_word L ws (node.Alt ps) i j steps = absurd steps
no_step_no_word L ws (node.Ref r) i j steps = absurd steps
no_step_no_word L ws (node.Tag tag) i j steps = absurd steps
no_step_no_word L ws node.Null i j steps = absurd steps
no_step_no_word L ws node.Void i j steps = absurd steps
no_step_no_word L ws node.Garbage i j steps = absurd steps

pub all_parts_derive : AllPartsDerive
all_parts_derive L ws n ps i j e = (
  λ span.
      let c = at_node L n (slice_range ws i j) span.derives.0 (node.Seq ps) e span.derives.1 in
      record {
        order = span.order;
        within = span.within;
        derive = (omega arith, (c.0, subst (λ qs. DerivesEach L qs (slice_range ws i j) c.0) (sym (take_all ps)) c.2));
      },
  λ front. record {
    order = front.order;
    within = front.within;
    derives = (
      tree.Seq front.derive.1.0,
      by_seq ps front.derive.1.0 e refl (subst (λ qs. DerivesEach L qs (slice_range ws i j) front.derive.1.0) (take_all ps) front.derive.1.1),
    );
  },
)

pub enough_turns_derive : EnoughTurnsDerive
enough_turns_derive L ws n least most p i j e = (
  λ span.
      let c = at_node L n (slice_range ws i j) span.derives.0 (node.Rep least most p) e span.derives.1 in
      (length c.0, c.2, record { order = span.order; within = span.within; derive = (c.3, (c.0, refl, c.4)) }),
  λ h. record {
    order = h.2.order;
    within = h.2.within;
    derives = (
      tree.Rep h.2.derive.1.0,
      by_rep least most p h.2.derive.1.0 e refl (omega (arith, h.1, h.2.derive.1.1)) (subst (IsAtMost most) (sym h.2.derive.1.1) h.2.derive.0) h.2.derive.1.2,
    );
  },
)

module _ (L : Rules) (ws : Words) (r : RuleIx) (linked : IsLinked L) where
  body_below : (q : RuleIx) (rule : LinkedRule) → rule_at L q ≡ Some rule → rule.body.0 < length L.nodes
  body_below q rule e = subst (λ (x : LinkedRule). x.body.0 < length L.nodes) (get_or_from_slice_get L.rules q.0 rule rule e) (linked.bodies q.0 rule (slice_get_within L.rules q.0 rule e))

  part_below : (n : NodeIx) (x : Node) → node_at L n ≡ Some x → (k : ℕ) (p : NodeIx) → slice_get (parts x) k ≡ Some p → p.0 < length L.nodes
  part_below n x e k p g = subst (λ part. part.0 < length L.nodes) (get_or_from_slice_get (parts x) k p p g) (linked.rises n.0 x e k p (slice_get_within (parts x) k p g)).1

  follower_below : (n : NodeIx) (x : Node) → node_at L n ≡ Some x → (k : ℕ) (p : NodeIx) → Follows x k p → p.0 < length L.nodes
  follower_below n (node.Seq ps) e k p f = part_below n (node.Seq ps) e k p f
  follower_below n (node.Rep least most q) e k p f = subst (λ (m : NodeIx). m.0 < length L.nodes) f.0 (part_below n (node.Rep least most q) e 0 q refl)
  follower_below n (node.Token words) e k p f = absurd f
  follower_below n (node.Alt ps) e k p f = absurd f
  follower_below n (node.Ref q) e k p f = absurd f
  follower_below n (node.Tag tag) e k p f = absurd f
  follower_below n node.Null e k p f = absurd f
  follower_below n node.Void e k p f = absurd f
  follower_below n node.Garbage e k p f = absurd f

  in_range : (n : NodeIx) (i : ℕ) → Reached L ws r n i → (n.0 < length L.nodes) × (i ≤ length ws)
  in_range n i (at_start rule e same first) =
      (subst (λ (m : NodeIx). m.0 < length L.nodes) (sym same) (body_below r rule e), omega (arith, first))
  in_range n i (at_alternative above ps k there e g) = (part_below above (node.Alt ps) e k n g, (in_range above i there).1)
  in_range n i (at_reference above q rule there e g same) =
      (subst (λ (m : NodeIx). m.0 < length L.nodes) (sym same) (body_below q rule g), (in_range above i there).1)
  in_range n i (at_front above x k j there e follows front) = (follower_below above x e k n follows, front.within)

pub reached_is_in_range : ReachedIsInRange
reached_is_in_range L ws r n i linked there = in_range L ws r linked n i there
