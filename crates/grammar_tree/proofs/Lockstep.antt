-- Comparing trees level by level compares their choices.
use Rattle.std.proofs.Common.{min, drop, get_or, leb, drop-cons, ℕ, suc, ◌+◌, ◌-◌, ◌<◌, ◌≤◌, ◌≡◌, ◌⊎◌, true, false, List, [], ◌∷◌, ◌++◌, Option, Some, length, map, refl, sym, ap, ◌∙◌, subst, inl, inr, arith, append_assoc, append-nil}
use Rattle.std.specs.Prelude.{slice_get}
use Rattle.std.specs.declared.cmp.Ordering.{Ordering}
use Rattle.std.specs.declared.cmp.Ordering.TheVariants.{Less, Equal, Greater}
use Rattle.std.specs.Ordering.{nat_cmp, ordering_then, MatchOrdering}
use Rattle.std.specs.Cmp.{nat_cmp_is}
use Rattle.std.proofs.lemmas.Cmp.{ranked}
use Rattle.std.proofs.lemmas.Bool.Decides.{leb_tells}
use Rattle.std.proofs.Math.ListN.{drop_of_length-le}
use Rattle.vg_base.specs.declared.numbers.NodeIx.{NodeIx}
use Rattle.vg_base.specs.declared.numbers.RuleIx.{RuleIx}
use Rattle.grammar_tree.specs.declared.linked.Node.TheVariants as node
use Rattle.grammar_tree.specs.declared.parse_tree.ParseTree.{ParseTree, out-ParseTree}
use Rattle.grammar_tree.specs.declared.parse_tree.ParseTree.TheOpen.{ParseTree-F}
use Rattle.grammar_tree.specs.declared.parse_tree.ParseTree.TheVariants as tree
use Rattle.grammar_tree.specs.Links.{Rules, rule_at}
use Rattle.grammar_tree.specs.Derives.{Words, IsAtMost, Derives, DerivesEach, no_part, part, DerivesTurns, no_turn, turn}
use Rattle.grammar_tree.specs.Choices.{choices, chosen_by, parts_chosen, turns_chosen, choice_if, is_open, garbage_chosen}
use Rattle.grammar_tree.specs.Firsts.{choice_cmp}
use Rattle.grammar_tree.specs.Comparing.{ComparesTrees, ComparesFronts}
use Rattle.grammar_tree.proofs.Decode.{decode, open_here, fewer}
use Rattle.grammar_tree.proofs.Orders.{Differs, Differs-Less, Differs-Greater, same-Equal, Apart, less, same, greater, shorter, longer, apart}
use Rattle.grammar_tree.proofs.Views.{at_node, at_tree, chosen_seq, chosen_alt, chosen_rep, chosen_ref, chosen_garbage}

-- ---- lists

-- the lists are one, or differ at a place, where the order tells which is less
abbrev Compares : List ℕ → List ℕ → Ordering → Type 0
Compares xs ys Less = Differs xs ys
Compares xs ys Equal = xs ≡ ys
Compares xs ys Greater = Differs ys xs

compares_is : (o : Ordering) (xs ys : List ℕ) → Compares xs ys o → o ≡ choice_cmp xs ys
compares_is Less xs ys h = sym (Differs-Less xs ys h)
compares_is Equal xs ys h = sym (same-Equal xs ys h)
compares_is Greater xs ys h = sym (Differs-Greater xs ys h)

differs_more : (xs ys a b : List ℕ) → Differs xs ys → Differs (xs ++ a) (ys ++ b)
differs_more [] ys a b h = absurd h
differs_more (x ∷ xs) [] a b h = absurd h
differs_more (x ∷ xs) (y ∷ ys) a b (inl h) = inl h
differs_more (x ∷ xs) (y ∷ ys) a b (inr h) = inr (h.0, differs_more xs ys a b h.1)

differs_under : (c xs ys : List ℕ) → Differs xs ys → Differs (c ++ xs) (c ++ ys)
differs_under [] xs ys h = h
differs_under (x ∷ c) xs ys h = inr (refl, differs_under c xs ys h)

more : (o : Ordering) (xs ys a b : List ℕ) → (o ≡ Equal → ⊥) → Compares xs ys o → Compares (xs ++ a) (ys ++ b) o
more Less xs ys a b ne h = differs_more xs ys a b h
more Equal xs ys a b ne h = absurd (ne refl)
more Greater xs ys a b ne h = differs_more ys xs b a h

under : (o : Ordering) (c d xs ys : List ℕ) → c ≡ d → Compares xs ys o → Compares (c ++ xs) (d ++ ys) o
under Less c d xs ys e h = subst (λ k. Differs (c ++ xs) (k ++ ys)) e (differs_under c xs ys h)
under Equal c d xs ys e h = ap (λ k. k ++ xs) e ∙ ap (λ k. d ++ k) h
under Greater c d xs ys e h = subst (λ k. Differs (k ++ ys) (c ++ xs)) e (differs_under c ys xs h)

told : (o : Ordering) (a b c d : List ℕ) → a ≡ c → b ≡ d → o ≡ choice_cmp c d → o ≡ choice_cmp a b
told o a b c d e f h = h ∙ ap (λ k. choice_cmp k d) (sym e) ∙ ap (choice_cmp a) (sym f)

-- ---- parts and turns

-- where the fronts are equal the longer list of turns comes first
abbrev pub Decided : Ordering → ℕ → ℕ → Ordering → Type 0
Decided Equal own other o = o ≡ nat_cmp other own
Decided decided own other o = o ≡ decided

pub decided_itself : (o : Ordering) (a b : ℕ) → (o ≡ Equal → ⊥) → Decided o a b o
decided_itself Less a b ne = refl
decided_itself Equal a b ne = absurd (ne refl)
decided_itself Greater a b ne = refl

module _ (L : Rules) where
  mutual_words : (u1 v1 u2 v2 w1 x1 w2 x2 : Words) → w1 ≡ u1 ++ v1 → w2 ≡ u2 ++ v2 → w1 ++ x1 ≡ w2 ++ x2 → u1 ++ (v1 ++ x1) ≡ u2 ++ (v2 ++ x2)
  mutual_words u1 v1 u2 v2 w1 x1 w2 x2 z1 z2 e = sym (append_assoc u1 v1 x1) ∙ ap (λ w. w ++ x1) (sym z1) ∙ e ∙ ap (λ w. w ++ x2) z2 ∙ append_assoc u2 v2 x2

  -- trees over fronts of one list have choices that are one list, or differ at a place
  compared : (p : NodeIx) (u1 y1 u2 y2 : Words) (t u : ParseTree) (o : Ordering) → ComparesTrees t u o → Derives L p u1 t → Derives L p u2 u → u1 ++ y1 ≡ u2 ++ y2 → Compares (choices L p t) (choices L p u) o
  compared p u1 y1 u2 y2 t u o f d e ew = at (apart (choices L p t) (choices L p u))
    where
      is : (a : Ordering) → choice_cmp (choices L p t) (choices L p u) ≡ a → a ≡ o
      is a h = sym (f L p u1 y1 u2 y2 d e ew ∙ h)

      at : Apart (choices L p t) (choices L p u) → Compares (choices L p t) (choices L p u) o
      at (less h) = subst (Compares (choices L p t) (choices L p u)) (is Less (Differs-Less _ _ h)) h
      at (same h) = subst (Compares (choices L p t) (choices L p u)) (is Equal (same-Equal _ _ h)) h
      at (greater h) = subst (Compares (choices L p t) (choices L p u)) (is Greater (Differs-Greater _ _ h)) h
      at (shorter h) = absurd (h.1 (decode L p u1 y1 u2 y2 t u h.0 [] d e ew (h.2 ∙ sym (append-nil _))).rest)
      at (longer h) = absurd (h.1 (sym (decode L p u1 y1 u2 y2 t u [] h.0 d e ew (append-nil _ ∙ sym h.2)).rest))

  -- after equal first trees the words go on alike
  after : (p : NodeIx) (u1 y1 u2 y2 : Words) (t u : ParseTree) → Derives L p u1 t → Derives L p u2 u → u1 ++ y1 ≡ u2 ++ y2 → choices L p t ≡ choices L p u → y1 ≡ y2
  after p u1 y1 u2 y2 t u d e ew h = (decode L p u1 y1 u2 y2 t u [] [] d e ew (ap (λ c. c ++ []) h)).after

  pub compares_each : (ps : List NodeIx) (ts us : List ParseTree) (o : Ordering) (w1 x1 w2 x2 : Words) → DerivesEach L ps w1 ts → DerivesEach L ps w2 us → ComparesFronts ts us o → w1 ++ x1 ≡ w2 ++ x2 →
      Compares (parts_chosen ps (map (chosen_by L) ts)) (parts_chosen ps (map (chosen_by L) us)) o
  compares_each _ _ _ o w1 x1 w2 x2 (no_part z1) (no_part z2) f e = subst (Compares [] []) (sym f) refl
  compares_each _ _ _ o w1 x1 w2 x2 (part {p = p} {ps = ps} {t = t} {ts = ts} u1 v1 z1 d ds) (part {t = u} {ts = us} u2 v2 z2 e es) (inl f) ew =
      more o (choices L p t) (choices L p u) _ _ f.0 (compared p u1 (v1 ++ x1) u2 (v2 ++ x2) t u o f.1 d e (mutual_words u1 v1 u2 v2 w1 x1 w2 x2 z1 z2 ew))
  compares_each _ _ _ o w1 x1 w2 x2 (part {p = p} {ps = ps} {t = t} {ts = ts} u1 v1 z1 d ds) (part {t = u} {ts = us} u2 v2 z2 e es) (inr f) ew =
      let words = mutual_words u1 v1 u2 v2 w1 x1 w2 x2 z1 z2 ew in
      let equal = compared p u1 (v1 ++ x1) u2 (v2 ++ x2) t u Equal f.0 d e words in
      let rest = after p u1 (v1 ++ x1) u2 (v2 ++ x2) t u d e words equal in
      under o (choices L p t) (choices L p u) _ _ equal (compares_each ps ts us o v1 x1 v2 x2 ds es f.1 rest)

  open_first : (least : ℕ) (most : Option ℕ) (turns k : ℕ) (r1 r2 : List ℕ) → least ≤ turns → IsAtMost most (turns + suc k) →
      Differs (choice_if (is_open least most turns) 0 ++ r1) (choice_if (is_open least most turns) 1 ++ r2)
  open_first least most turns k r1 r2 lo hi =
      subst (λ b. Differs (choice_if b 0 ++ r1) (choice_if b 1 ++ r2)) (sym (open_here least most turns lo (fewer most (turns + 1) (turns + suc k) (omega arith) hi))) (inl (omega arith))

  one_less : (f o : Ordering) (a b : ℕ) → Decided f (suc a) (suc b) o → Decided f a b o
  one_less Less o a b h = h
  one_less Equal o a b h = nat_cmp_is b a o (at o (ranked (suc b) (suc a) o h))
    where
      at : (o : Ordering) → MatchOrdering o (suc b < suc a) (suc b ≡ suc a) (suc a < suc b) → MatchOrdering o (b < a) (b ≡ a) (a < b)
      at Less h = omega arith
      at Equal h = omega arith
      at Greater h = omega arith
  one_less Greater o a b h = h

  -- one list stops where the other goes on
  stops : (f o : Ordering) (k : ℕ) (xs ys : List ℕ) → f ≡ Equal → Decided f 0 (suc k) o → Differs ys xs → Compares xs ys o
  stops f o k xs ys e dec h =
      let d : o ≡ nat_cmp (suc k) 0 = subst (λ f. Decided f 0 (suc k) o) e dec in
      let g : o ≡ Greater = d ∙ sym (nat_cmp_is (suc k) 0 Greater (omega arith)) in subst (Compares xs ys) (sym g) h

  goes_on : (f o : Ordering) (k : ℕ) (xs ys : List ℕ) → f ≡ Equal → Decided f (suc k) 0 o → Differs xs ys → Compares xs ys o
  goes_on f o k xs ys e dec h =
      let d : o ≡ nat_cmp 0 (suc k) = subst (λ f. Decided f (suc k) 0 o) e dec in
      let g : o ≡ Less = d ∙ sym (nat_cmp_is 0 (suc k) Less (omega arith)) in subst (Compares xs ys) (sym g) h

  decided_is : (f o : Ordering) (a b : ℕ) → (f ≡ Equal → ⊥) → Decided f a b o → o ≡ f
  decided_is Less o a b ne h = h
  decided_is Equal o a b ne h = absurd (ne refl)
  decided_is Greater o a b ne h = h

  pub compares_turns : (least : ℕ) (most : Option ℕ) (p : NodeIx) (turns f1 f2 : ℕ) (ts us : List ParseTree) (f o : Ordering) → Decided f (length ts) (length us) o →
      (w1 x1 w2 x2 : Words) → least ≤ turns + length ts → IsAtMost most (turns + length ts) → least ≤ turns + length us → IsAtMost most (turns + length us) →
      DerivesTurns L p f1 w1 ts → DerivesTurns L p f2 w2 us → ComparesFronts ts us f → w1 ++ x1 ≡ w2 ++ x2 →
      Compares (turns_chosen least most p turns (map (chosen_by L) ts)) (turns_chosen least most p turns (map (chosen_by L) us)) o
  compares_turns least most p turns f1 f2 _ _ f o dec w1 x1 w2 x2 lo1 hi1 lo2 hi2 (no_turn z1) (no_turn z2) fr ew =
      let d : o ≡ nat_cmp 0 0 = subst (λ f. Decided f 0 0 o) fr dec in
      let g : o ≡ Equal = d ∙ sym (nat_cmp_is 0 0 Equal refl) in subst (Compares _ _) (sym g) refl
  compares_turns least most p turns f1 f2 _ _ f o dec w1 x1 w2 x2 lo1 hi1 lo2 hi2 (no_turn z1) (turn {t = u} {ts = us} u2 v2 z2 ok2 e es) fr ew =
      stops f o (length us) _ _ fr dec (subst (Differs _) (append-nil _) (open_first least most turns (length us) _ [] (omega arith) hi2))
  compares_turns least most p turns f1 f2 _ _ f o dec w1 x1 w2 x2 lo1 hi1 lo2 hi2 (turn {t = t} {ts = ts} u1 v1 z1 ok1 d ds) (no_turn z2) fr ew =
      goes_on f o (length ts) _ _ fr dec (subst (Differs _) (append-nil _) (open_first least most turns (length ts) _ [] (omega arith) hi1))
  compares_turns least most p turns f1 f2 _ _ f o dec w1 x1 w2 x2 lo1 hi1 lo2 hi2 (turn {t = t} {ts = ts} u1 v1 z1 ok1 d ds) (turn {t = u} {ts = us} u2 v2 z2 ok2 e es) (inl fr) ew =
      subst (Compares _ _) (sym (decided_is f o _ _ fr.0 dec)) (under f _ _ _ _ refl
      (more f (choices L p t) (choices L p u) _ _ fr.0 (compared p u1 (v1 ++ x1) u2 (v2 ++ x2) t u f fr.1 d e (mutual_words u1 v1 u2 v2 w1 x1 w2 x2 z1 z2 ew))))
  compares_turns least most p turns f1 f2 _ _ f o dec w1 x1 w2 x2 lo1 hi1 lo2 hi2 (turn {t = t} {ts = ts} u1 v1 z1 ok1 d ds) (turn {t = u} {ts = us} u2 v2 z2 ok2 e es) (inr fr) ew =
      let words = mutual_words u1 v1 u2 v2 w1 x1 w2 x2 z1 z2 ew in
      let equal = compared p u1 (v1 ++ x1) u2 (v2 ++ x2) t u Equal fr.0 d e words in
      let rest = after p u1 (v1 ++ x1) u2 (v2 ++ x2) t u d e words equal in
      let next = compares_turns least most p (turns + 1) (f1 - 1) (f2 - 1) ts us f o (one_less f o (length ts) (length us) dec) v1 x1 v2 x2
      (omega arith) (fewer most _ _ (omega arith) hi1) (omega arith) (fewer most _ _ (omega arith) hi2) ds es fr.1 rest in
      under o (choice_if (is_open least most turns) 0) _ _ _ refl (under o (choices L p t) (choices L p u) _ _ equal next)

-- ---- the levels of two trees

module _ (t u : ParseTree) where
  pub compares_Seq : (ts us : List ParseTree) (o : Ordering) → t ≡ tree.Seq ts → u ≡ tree.Seq us → ComparesFronts ts us o → ComparesTrees t u o
  compares_Seq ts us o q q' f L n w1 x1 w2 x2 d e ew =
      let a = at_tree L n w1 t d (ParseTree-F.Seq ts) (ap out-ParseTree q ∙ tree.outs-Seq ts) in
      let b = at_tree L n w2 u e (ParseTree-F.Seq us) (ap out-ParseTree q' ∙ tree.outs-Seq us) in
      let same : a.0 ≡ b.0 = cc (sym a.1 ∙ b.1) in
      told o _ _ _ _ (chosen_seq L n t a.0 ts a.1 q) (chosen_seq L n u a.0 us (b.1 ∙ ap (λ ps. Some (node.Seq ps)) (sym same)) q')
      (compares_is o _ _ (compares_each L a.0 ts us o w1 x1 w2 x2 a.2 (subst (λ ps. DerivesEach L ps w2 us) (sym same) b.2) f ew))

  pub compares_Rep : (ts us : List ParseTree) (f o : Ordering) → t ≡ tree.Rep ts → u ≡ tree.Rep us → ComparesFronts ts us f → Decided f (length ts) (length us) o → ComparesTrees t u o
  compares_Rep ts us f o q q' fr dec L n w1 x1 w2 x2 d e ew =
      let a = at_tree L n w1 t d (ParseTree-F.Rep ts) (ap out-ParseTree q ∙ tree.outs-Rep ts) in
      let b = at_node L n w2 u (node.Rep a.0 a.1 a.2) a.3 e in
      let same : us ≡ b.0 = rep_inj us b.0 (sym q' ∙ b.1) in
      told o _ _ _ _ (chosen_rep L n t a.0 a.1 a.2 ts a.3 q) (chosen_rep L n u a.0 a.1 a.2 us a.3 q')
      (compares_is o _ _ (compares_turns L a.0 a.1 a.2 0 a.0 a.0 ts us f o dec w1 x1 w2 x2 (omega (arith, a.4)) (fewer a.1 _ _ (omega arith) a.5)
      (omega (arith, b.2, ap length same)) (fewer a.1 _ _ (omega (arith, ap length same)) b.3) a.6 (subst (λ us. DerivesTurns L a.2 a.0 w2 us) (sym same) b.4) fr ew))
    where
      rep_inj : (xs ys : List ParseTree) → tree.Rep xs ≡ tree.Rep ys → xs ≡ ys
      rep_inj xs ys e = let h : ParseTree-F.Rep xs ≡ ParseTree-F.Rep ys = sym (tree.outs-Rep xs) ∙ ap out-ParseTree e ∙ tree.outs-Rep ys in cc

  pub compares_Alt : (j k : ℕ) (t' u' : ParseTree) (o : Ordering) → t ≡ tree.Alt j t' → u ≡ tree.Alt k u' → j ≡ k → ComparesTrees t' u' o → ComparesTrees t u o
  compares_Alt j k t' u' o q q' eq f L n w1 x1 w2 x2 d e ew =
      let a = at_tree L n w1 t d (ParseTree-F.Alt j t') (ap out-ParseTree q ∙ tree.outs-Alt j t') in
      let b = at_tree L n w2 u e (ParseTree-F.Alt k u') (ap out-ParseTree q' ∙ tree.outs-Alt k u') in
      let same : a.0 ≡ b.0 = cc (sym a.2 ∙ b.2) in
      let part : b.1 ≡ a.1 = cc (sym b.3 ∙ ap (λ ps. slice_get ps k) (sym same) ∙ ap (slice_get a.0) (sym eq) ∙ a.3) in
      let inner = f L a.1 w1 x1 w2 x2 a.4 (subst (λ m. Derives L m w2 u') part b.4) ew in
      told o _ _ (j ∷ choices L a.1 t') (j ∷ choices L a.1 u') (chosen_alt L n t a.0 j a.1 t' a.2 a.3 q)
      (chosen_alt L n u b.0 k b.1 u' b.2 b.3 q' ∙ ap (λ i. i ∷ choices L b.1 u') (sym eq) ∙ ap (λ m. j ∷ choices L m u') part)
      (inner ∙ ap (λ here. ordering_then here (choice_cmp (choices L a.1 t') (choices L a.1 u'))) (nat_cmp_is j j Equal refl))

  pub compares_taken : (j k : ℕ) (t' u' : ParseTree) (o : Ordering) → t ≡ tree.Alt j t' → u ≡ tree.Alt k u' → o ≡ nat_cmp j k → (j ≡ k → ⊥) → ComparesTrees t u o
  compares_taken j k t' u' o q q' eq ne L n w1 x1 w2 x2 d e ew =
      let a = at_tree L n w1 t d (ParseTree-F.Alt j t') (ap out-ParseTree q ∙ tree.outs-Alt j t') in
      let b = at_tree L n w2 u e (ParseTree-F.Alt k u') (ap out-ParseTree q' ∙ tree.outs-Alt k u') in
      told o _ _ (j ∷ choices L a.1 t') (k ∷ choices L b.1 u') (chosen_alt L n t a.0 j a.1 t' a.2 a.3 q) (chosen_alt L n u b.0 k b.1 u' b.2 b.3 q')
      (compares_is o (j ∷ choices L a.1 t') (k ∷ choices L b.1 u') (at o (ranked j k o eq) (choices L a.1 t') (choices L b.1 u')))
    where
      at : (o : Ordering) → MatchOrdering o (j < k) (j ≡ k) (k < j) → (xs ys : List ℕ) → Compares (j ∷ xs) (k ∷ ys) o
      at Less h xs ys = inl h
      at Equal h xs ys = absurd (ne h)
      at Greater h xs ys = inl h

  pub compares_Rule : (r s : RuleIx) (t' u' : ParseTree) (o : Ordering) → t ≡ tree.Rule r t' → u ≡ tree.Rule s u' → ComparesTrees t' u' o → ComparesTrees t u o
  compares_Rule r s t' u' o q q' f L n w1 x1 w2 x2 d e ew =
      let a = at_tree L n w1 t d (ParseTree-F.Rule r t') (ap out-ParseTree q ∙ tree.outs-Rule r t') in
      let b = at_tree L n w2 u e (ParseTree-F.Rule s u') (ap out-ParseTree q' ∙ tree.outs-Rule s u') in
      let same : r ≡ s = cc (sym a.1 ∙ b.1) in
      let rule : b.0 ≡ a.0 = cc (sym b.2 ∙ ap (rule_at L) (sym same) ∙ a.2) in
      let inner = f L a.0.body w1 x1 w2 x2 a.3 (subst (λ m. Derives L m.body w2 u') rule b.3) ew in
      told o _ _ _ _ (chosen_ref L n t r a.0 t' a.1 a.2 q) (chosen_ref L n u s b.0 u' b.1 b.2 q' ∙ ap (λ m. choices L m.body u') rule) inner

  runs : (o : Ordering) (ws vs : Words) → MatchOrdering o (length ws < length vs) (length ws ≡ length vs) (length vs < length ws) → Compares (garbage_chosen ws) (garbage_chosen vs) o
  runs Less [] [] h = absurd (omega arith)
  runs Less [] (v ∷ vs) h = inl (omega arith)
  runs Less (w ∷ ws) [] h = absurd (omega arith)
  runs Less (w ∷ ws) (v ∷ vs) h = inr (refl, runs Less ws vs (omega arith))
  runs Equal [] [] h = refl
  runs Equal [] (v ∷ vs) h = absurd (omega arith)
  runs Equal (w ∷ ws) [] h = absurd (omega arith)
  runs Equal (w ∷ ws) (v ∷ vs) h = ap (λ c. 1 ∷ c) (runs Equal ws vs (omega arith))
  runs Greater [] [] h = absurd (omega arith)
  runs Greater [] (v ∷ vs) h = absurd (omega arith)
  runs Greater (w ∷ ws) [] h = inl (omega arith)
  runs Greater (w ∷ ws) (v ∷ vs) h = inr (refl, runs Greater ws vs (omega arith))

  pub compares_Garbage : (ws vs : Words) (o : Ordering) → t ≡ tree.Garbage ws → u ≡ tree.Garbage vs → o ≡ nat_cmp (length ws) (length vs) → ComparesTrees t u o
  compares_Garbage ws vs o q q' eq L n w1 x1 w2 x2 d e ew =
      let a = at_tree L n w1 t d (ParseTree-F.Garbage ws) (ap out-ParseTree q ∙ tree.outs-Garbage ws) in
      told o _ _ _ _ (chosen_garbage L n t ws a.0 q) (chosen_garbage L n u vs a.0 q') (compares_is o _ _ (runs o ws vs (ranked (length ws) (length vs) o eq)))

-- ---- the lists of trees, from a place on

fronts_at : (ts us : List ParseTree) (k : ℕ) (t u : ParseTree) (o : Ordering) → k < length ts → k < length us → t ≡ get_or ts k t → u ≡ get_or us k u →
    ComparesFronts (t ∷ drop (suc k) ts) (u ∷ drop (suc k) us) o → ComparesFronts (drop k ts) (drop k us) o
fronts_at ts us k t u o a b e f h =
    let p : drop k ts ≡ t ∷ drop (suc k) ts = drop-cons ts k t a ∙ ap (λ x. x ∷ drop (suc k) ts) (sym e) in
    let q : drop k us ≡ u ∷ drop (suc k) us = drop-cons us k u b ∙ ap (λ x. x ∷ drop (suc k) us) (sym f) in
    subst (λ xs. ComparesFronts xs (drop k us) o) (sym p) (subst (λ ys. ComparesFronts (t ∷ drop (suc k) ts) ys o) (sym q) h)

pub fronts_more : (ts us : List ParseTree) (k : ℕ) (t u : ParseTree) (o : Ordering) → k < length ts → k < length us → t ≡ get_or ts k t → u ≡ get_or us k u →
    ComparesTrees t u Equal → ComparesFronts (drop (k + 1) ts) (drop (k + 1) us) o → ComparesFronts (drop k ts) (drop k us) o
fronts_more ts us k t u o a b e f h r =
    let s : k + 1 ≡ suc k = omega arith in
    fronts_at ts us k t u o a b e f (inr (h, subst (λ n. ComparesFronts (drop n ts) (drop n us) o) s r))

pub fronts_stop : (ts us : List ParseTree) (k : ℕ) (t u : ParseTree) (o : Ordering) → k < length ts → k < length us → t ≡ get_or ts k t → u ≡ get_or us k u →
    (o ≡ Equal → ⊥) → ComparesTrees t u o → ComparesFronts (drop k ts) (drop k us) o
fronts_stop ts us k t u o a b e f ne h = fronts_at ts us k t u o a b e f (inl (ne, h))

pub fronts_end : (ts us : List ParseTree) (k : ℕ) → min (length ts) (length us) ≤ k → ComparesFronts (drop k ts) (drop k us) Equal
fronts_end ts us k le = at (leb_tells (length ts) k)
  where
    right : (xs : List ParseTree) → ComparesFronts xs [] Equal
    right [] = refl
    right (x ∷ xs) = refl

    at : ((leb (length ts) k ≡ true) × (length ts ≤ k)) ⊎ ((leb (length ts) k ≡ false) × (k < length ts)) → ComparesFronts (drop k ts) (drop k us) Equal
    at (inl a) = subst (λ xs. ComparesFronts xs (drop k us) Equal) (sym (drop_of_length-le ts a.1)) refl
    at (inr a) = subst (λ ys. ComparesFronts (drop k ts) ys Equal) (sym (drop_of_length-le us (omega (arith, a.1)))) (right (drop k ts))
