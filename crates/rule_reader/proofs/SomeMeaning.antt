-- A tree that is written has faults, or means something: what the walk of the code finds, built without the code, kind by kind.
use Rattle.std.proofs.Common.{◌≡◌, ◌⊎◌, inl, inr, ℕ, Bool, true, false, List, [], ◌∷◌, ◌++◌, Option, Some, None, map, refl, subst}
use Rattle.std.specs.Prelude.{MatchBool, not}
use Rattle.vg_base.specs.First.{sooner}
use Rattle.vg_base.specs.Faults.{doc_fault_order}
use Rattle.vg_base.specs.declared.doc_fault.DocKind.{DocKind}
use Rattle.vg_base.specs.declared.doc_fault.DocKind.TheVariants.{RepeatOrder, RepeatLarge, BadWeight, BadKey, BadUri, BadScript}
use Rattle.vg_base.specs.declared.doc_fault.DocFault.{DocFault}
use Rattle.vg_base.specs.declared.mode.Mode.{Mode}
use Rattle.vg_base.specs.declared.mode.Mode.TheVariants.{Voice, Dtmf}
use Rattle.vg_base.specs.declared.script.Script.{Script}
use Rattle.abnf_lexer.specs.declared.lexemes.Spanned.{Spanned}
use Rattle.abnf_lexer.proofs.InsideForms.{some_inside}
use Rattle.token_forms.specs.Keys.{AreKeys}
use Rattle.script_reader.specs.Reading.{IsScript}
use Rattle.grammar_tree.specs.declared.expansion.Expansion.{Expansion}
use Rattle.grammar_tree.specs.declared.expansion.Expansion.TheVariants as e
use Rattle.grammar_tree.specs.declared.expansion.Goal.{Goal}
use Rattle.abnf_parser.specs.declared.written.Written as tree
use Rattle.abnf_parser.specs.declared.written.Written.{Written, roll-Written}
use Rattle.abnf_parser.specs.declared.written.Written.TheVariants as w
use Rattle.abnf_parser.specs.declared.written.Written.TheOpen.{Written-F}
use Rattle.abnf_parser.specs.declared.written.Written.TheFolds.{map-Written, ind-Written}
use Rattle.rule_reader.specs.declared.context.Context.{Context}
use Rattle.rule_reader.specs.declared.leaves.times.Turns.{Turns}
use Rattle.rule_reader.specs.Leaves.{leaves, HasInside}
use Rattle.rule_reader.specs.Numbers.{number_of, most_of, IsWeight}
use Rattle.rule_reader.specs.References.{named, IsGoal}
use Rattle.rule_reader.specs.LeafFaults.{WeightFaults, TimesFaults, IsBadKey, IsBadScript}
use Rattle.rule_reader.specs.Meaning as meaning
use Rattle.rule_reader.specs.Meaning.{IsToken, IsScriptOf, EachMeans, repeated}
use Rattle.rule_reader.specs.code.Contexts.{is_scripted}
use Rattle.rule_reader.specs.code.Turns.{TurnsAre}
use Rattle.rule_reader.specs.code.Walks.{IsShown, IsTurned, EachShown, PartsShown, told, Adds, IsReadAs, Walked, PartsWalked, leaves_of}
use Rattle.rule_reader.proofs.LeafLists.{of_token, of_name, of_uri_ref, of_tag, of_sequence, of_alternatives, of_weighted, of_optional, of_repeated}
use Rattle.rule_reader.proofs.Insides.{formed}
use Rattle.rule_reader.proofs.Told.{adds_none, adds_one, adds_both, loud, told_unless}
use Rattle.rule_reader.proofs.ReadLeaves.{token_read, reference_read, name_read, tag_read, words_read, keys_read, script_read, unscripted, scripted, goal_read, no_goal_read}
use Rattle.rule_reader.proofs.ReadTimes.{times_read}
use Rattle.rule_reader.proofs.Walks.{front_none, back_none, faults_both, front_shown, nothing_read, sequence_read, alternatives_read, optional_read, weighted_read, repeated_read, no_part_read}
use Rattle.rule_reader.proofs.Decisions.{some_words, decide_keys, decide_goal, decide_script, decide_weight, decide_chance, decide_below, decide_past}

-- ---- one fault or none

-- the first fault behind one that may be told
abbrev pub after : Bool → Spanned → DocKind → Option DocFault → Option DocFault
after true span kind old = sooner doc_fault_order old (Some (record { place = span.place; kind = kind }))
after false span kind old = old

pub adds_after : (b : Bool) (span : Spanned) (kind : DocKind) (old : Option DocFault) → Adds (told b span kind) old (after b span kind old)
adds_after true span kind old = adds_one old (record { place = span.place; kind = kind })
adds_after false span kind old = adds_none old

-- what is decided, as a test answers it
pub tested : {P : Type 0} → P ⊎ (P → ⊥) → (b : Bool) × MatchBool b P (P → ⊥)
tested (inl p) = (true, p)
tested (inr n) = (false, n)

pub either : {P Q : Type 0} → P ⊎ (P → ⊥) → Q ⊎ (Q → ⊥) → (P ⊎ Q) ⊎ (P ⊎ Q → ⊥)
either (inl p) q = inl (inl p)
either (inr n) (inl q) = inl (inr q)
either {P} {Q} (inr n) (inr m) = inr none
  where
    none : P ⊎ Q → ⊥
    none (inl p) = n p
    none (inr q) = m q

-- ---- what stands there

pub stands_inside : (text : List ℕ) (span : Spanned) → IsShown text span → (inside : List ℕ) × HasInside text span inside
stands_inside text span h =
    let form = formed text span h.piece.slice (h.piece, h.shows, refl) in
    let i = some_inside span.kind h.piece.slice form.0 form.1 in
    (i.0, (h.piece.slice, (h.piece, h.shows, refl), (i.1, i.2)))

module _ (text : List ℕ) (context : Context) where
  -- the tree means something, behind the faults before it
  abbrev pub SomeWalked : Written → Option DocFault → Type 0
  SomeWalked y old = (new : Option DocFault) × (x : Expansion) × Walked text context y old new x

  -- ---- leaves

  some_token : (span : Spanned) (old : Option DocFault) → IsShown text span → SomeWalked (w.Token span) old
  some_token span old h = let i = stands_inside text span h in at i.0 i.1 context.mode refl
    where
      keys_at : (inside : List ℕ) → HasInside text span inside → context.mode ≡ Dtmf
          → ((keys : List (List ℕ)) × AreKeys keys inside) ⊎ ((keys : List (List ℕ)) → AreKeys keys inside → ⊥) → SomeWalked (w.Token span) old
      keys_at inside has m (inl k) = (old, e.Token k.0, token_read span has (keys_read context span m k.1))
      keys_at inside has m (inr none) =
          let new = after true span BadKey old in
          (new, e.Null, token_read span has (loud (IsBadKey context inside) span BadKey (IsToken context inside) old new e.Null (m, none) (adds_after true span BadKey old)))

      at : (inside : List ℕ) → HasInside text span inside → (m : Mode) → context.mode ≡ m → SomeWalked (w.Token span) old
      at inside has Voice m = let ws = some_words inside in (old, e.Token ws.0, token_read span has (words_read context span m ws.1))
      at inside has Dtmf m = keys_at inside has m (decide_keys inside)

  some_name : (span : Spanned) (old : Option DocFault) → IsShown text span → SomeWalked (w.Name span) old
  some_name span old h = let i = stands_inside text span h in (old, named span.place i.0, name_read span i.0 i.1 refl)

  some_reference : (span : Spanned) (old : Option DocFault) → IsShown text span → SomeWalked (w.UriRef span) old
  some_reference span old h = let i = stands_inside text span h in at i.0 i.1 (decide_goal i.0)
    where
      at : (inside : List ℕ) → HasInside text span inside → ((g : Goal) × IsGoal inside g) ⊎ ((g : Goal) → IsGoal inside g → ⊥) → SomeWalked (w.UriRef span) old
      at inside has (inl g) = (old, e.Ref (record { place = span.place; goal = g.0 }), reference_read span has (goal_read span g.0 g.1))
      at inside has (inr none) = (after true span BadUri old, e.Null, reference_read span has (no_goal_read span none (adds_after true span BadUri old)))

  some_tag : (span : Spanned) (old : Option DocFault) → IsShown text span → SomeWalked (w.Tag span) old
  some_tag span old h = let i = stands_inside text span h in at i.0 i.1 (is_scripted context.format) refl
    where
      script_at : (inside : List ℕ) → HasInside text span inside → is_scripted context.format ≡ true
          → ((script : Script) × IsScript inside script) ⊎ ((script : Script) → IsScript inside script → ⊥) → SomeWalked (w.Tag span) old
      script_at inside has f (inl s) = (old, _, tag_read span has (script_read context span s.0 f s.1))
      script_at inside has f (inr none) =
          let new = after true span BadScript old in (
            new,
            _,
            tag_read span has
                (loud (IsBadScript context inside) span BadScript (IsScriptOf context.format inside) old new None (scripted context.format f, none) (adds_after true span BadScript old)),
          )

      at : (inside : List ℕ) → HasInside text span inside → (b : Bool) → is_scripted context.format ≡ b → SomeWalked (w.Tag span) old
      at inside has true f = script_at inside has f (decide_script inside)
      at inside has false f = (old, _, tag_read span has (unscripted context span f))

  some_weight : (span : Spanned) (old : Option DocFault) → IsShown text span → (mid : Option DocFault) × IsReadAs (WeightFaults text span) (λ (u : Unit {0}). Unit {0}) old mid tt
  some_weight span old h =
      let i = stands_inside text span h in
      let good = tested (decide_weight i.0) in (
        after (not good.0) span BadWeight old,
        record {
          faults = told (not good.0) span BadWeight;
          are = (i.0, i.1, told_unless (IsWeight i.0) good.0 span BadWeight good.1);
          adds = adds_after (not good.0) span BadWeight old;
          is = λ n. tt;
        },
      )

  some_times : (span : Spanned) (old : Option DocFault) → IsTurned text span → (mid : Option DocFault) × (turns : Turns) × IsReadAs (TimesFaults text span) (TurnsAre text span) old mid turns
  some_times span old h =
      let order = tested (decide_below (most_of h.least h.most) (number_of h.least)) in
      let large = tested (either (decide_past (Some (number_of h.least))) (decide_past (most_of h.least h.most))) in
      let good = tested (decide_chance h.chance) in
      let first = after order.0 span RepeatOrder old in
      let second = after large.0 span RepeatLarge first in
      let turns : Turns = record { least = number_of h.least; most = most_of h.least h.most } in (
        after (not good.0) span BadWeight second,
        turns,
        times_read span h.has (record { order_is = order.1; large_is = large.1; good_is = good.1 })
            (adds_after order.0 span RepeatOrder old, (adds_after large.0 span RepeatLarge first, adds_after (not good.0) span BadWeight second))
            (λ n. record { least_is = refl; most_is = refl }),
      )

  -- ---- trees

  abbrev IsSome : Written → Type 0
  IsSome y = (old : Option DocFault) → EachShown text (leaves y) → SomeWalked y old

  -- a tree, with this shown of it
  abbrev With : Type 0
  With = (y : Written) × IsSome y

  abbrev plain : With → Written
  plain y = y.0

  part_first : {old mid new : Option DocFault} {x : Expansion} {xs : List Expansion} (p : Written) (ps : List Written) → Walked text context p old mid x → PartsWalked text context ps mid new xs
      → PartsWalked text context (p ∷ ps) old new (x ∷ xs)
  part_first {old} {mid} {new} p ps h k = record {
    faults = h.faults ++ k.faults;
    are = faults_both text context (leaves p) (leaves_of ps) h.faults k.faults h.are k.are;
    adds = adds_both h.faults k.faults old mid new h.adds k.adds;
    is = λ n. meaning.part (h.is (front_none h.faults k.faults n)) (k.is (back_none h.faults k.faults n));
  }

  some_parts : (ys : List With) (old : Option DocFault) → PartsShown text (map plain ys) → (new : Option DocFault) × (xs : List Expansion) × PartsWalked text context (map plain ys) old new xs
  some_parts [] old h = (old, [], no_part_read)
  some_parts (y ∷ ys) old h =
      let shown = front_shown text (leaves y.0) (leaves_of (map plain ys)) h in
      let one = y.1 old shown.0 in
      let more = some_parts ys one.0 shown.1 in
      (more.0, one.1 ∷ more.1, part_first y.0 (map plain ys) one.2 more.2)

  -- one kind after another
  in_token : (span : Spanned) → IsSome (w.Token span)
  in_token span old h = some_token span old (subst (EachShown text) (of_token span) h).0

  in_name : (span : Spanned) → IsSome (w.Name span)
  in_name span old h = some_name span old (subst (EachShown text) (of_name span) h).0

  in_uri_ref : (span : Spanned) → IsSome (w.UriRef span)
  in_uri_ref span old h = some_reference span old (subst (EachShown text) (of_uri_ref span) h).0

  in_tag : (span : Spanned) → IsSome (w.Tag span)
  in_tag span old h = some_tag span old (subst (EachShown text) (of_tag span) h).0

  in_nothing : IsSome w.Nothing
  in_nothing old h = (old, e.Null, nothing_read)

  in_sequence : (ys : List With) → IsSome (w.Sequence (map plain ys))
  in_sequence ys old h =
      let all = some_parts ys old (subst (EachShown text) (of_sequence (map plain ys)) h) in
      (all.0, e.Seq all.1, sequence_read (map plain ys) all.2)

  in_alternatives : (ys : List With) → IsSome (w.Alternatives (map plain ys))
  in_alternatives ys old h =
      let all = some_parts ys old (subst (EachShown text) (of_alternatives (map plain ys)) h) in
      (all.0, e.Alt all.1, alternatives_read (map plain ys) all.2)

  in_weighted : (span : Spanned) (y : With) → IsSome (w.Weighted span (plain y))
  in_weighted span y old h =
      let shown = subst (EachShown text) (of_weighted span y.0) h in
      let weight = some_weight span old shown.0 in
      let inner = y.1 weight.0 shown.1 in
      (inner.0, inner.1, weighted_read span y.0 weight.1 inner.2)

  in_optional : (y : With) → IsSome (w.Optional (plain y))
  in_optional y old h =
      let inner = y.1 old (subst (EachShown text) (of_optional y.0) h) in
      (inner.0, e.Rep 0 (Some 1) inner.1, optional_read y.0 inner.2)

  in_repeated : (span : Spanned) (y : With) → IsSome (w.Repeated span (plain y))
  in_repeated span y old h =
      let shown = subst (EachShown text) (of_repeated span y.0) h in
      let times = some_times span old shown.0 in
      let inner = y.1 times.0 shown.1 in
      let turns = times.1 in
      (inner.0, repeated turns.least turns.most inner.1, repeated_read span y.0 times.2 inner.2 refl)

  level : (y : Written-F With) → IsSome (roll-Written (map-Written With Written plain y))
  unfolding tree.roll-Written denote.Hole.Carrier.roll
  level (Written-F.Token span) = in_token span
  level (Written-F.Name span) = in_name span
  level (Written-F.UriRef span) = in_uri_ref span
  level (Written-F.Tag span) = in_tag span
  level Written-F.Nothing = in_nothing
  level (Written-F.Sequence ys) = in_sequence ys
  level (Written-F.Alternatives ys) = in_alternatives ys
  level (Written-F.Weighted span y) = in_weighted span y
  level (Written-F.Optional y) = in_optional y
  level (Written-F.Repeated span y) = in_repeated span y

  pub some_walked : (y : Written) → IsSome y
  some_walked = ind-Written IsSome (λ x y is. subst (λ z. IsSome (roll-Written z)) is (level y))
