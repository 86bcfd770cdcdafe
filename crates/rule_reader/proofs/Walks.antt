-- A tree is read by its parts: the faults of the parts one after another, and what the whole means.
use Rattle.std.proofs.Common.{◌≡◌, ℕ, zero, suc, ◌<◌, ◌+◌, List, [], ◌∷◌, ◌++◌, map, length, take, get_or, Option, Some, None, refl, sym, ap, subst, ◌∙◌, append_assoc, arith}
use Rattle.std.specs.Prelude.{All}
use Rattle.std.specs.List.{flat_map, AllByRecursion}
use Rattle.std.proofs.lemmas.List.{append-nil, map-append, take_more}
use Rattle.std.proofs.lemmas.Grind.{flat_map-append}
use Rattle.vg_base.specs.declared.doc_fault.DocFault.{DocFault}
use Rattle.abnf_lexer.specs.declared.lexemes.Spanned.{Spanned}
use Rattle.grammar_tree.specs.declared.expansion.Expansion.{Expansion}
use Rattle.grammar_tree.specs.declared.expansion.Expansion.TheVariants as e
use Rattle.abnf_parser.specs.declared.written.Written.{Written}
use Rattle.abnf_parser.specs.declared.written.Written.TheVariants as w
use Rattle.rule_reader.specs.declared.context.Context.{Context}
use Rattle.rule_reader.specs.declared.leaves.times.Turns.{Turns}
use Rattle.rule_reader.specs.Leaves.{Leaf, weight, times, leaves}
use Rattle.rule_reader.specs.LeafFaults.{LeafFaults, WeightFaults, TimesFaults, EachFaults}
use Rattle.rule_reader.specs.Meaning as meaning
use Rattle.abnf_parser.specs.declared.written.WrittenRule.{WrittenRule}
use Rattle.grammar_tree.specs.declared.document.Rule.{Rule}
use Rattle.rule_reader.specs.DocumentFaults.{BodiesFaults}
use Rattle.rule_reader.specs.Meaning.{repeated, Means, EachMeans, RuleMeans, RulesMean}
use Rattle.rule_reader.specs.code.Turns.{TurnsAre}
use Rattle.rule_reader.specs.code.Walks.{IsTurned, IsShown, LeafShown, EachShown, Adds, IsReadAs, Walked, leaves_of, PartsShown, BodyShown, PartsWalked, RuleRead, RulesRead}
use Rattle.rule_reader.proofs.LeafLists.{of_nothing, of_sequence, of_alternatives, of_weighted, of_optional, of_repeated}
use Rattle.rule_reader.proofs.Told.{adds_none, adds_both}

-- ---- lists

pub front_none : (fs gs : List DocFault) → fs ++ gs ≡ [] → fs ≡ []
front_none [] gs h = refl
front_none (f ∷ fs) gs h = absurd cc

pub back_none : (fs gs : List DocFault) → fs ++ gs ≡ [] → gs ≡ []
back_none [] gs h = h
back_none (f ∷ fs) gs h = absurd cc

module _ (text : List ℕ) (context : Context) where
  pub faults_both : (xs ys : List Leaf) (fs gs : List DocFault) → EachFaults text context xs fs → EachFaults text context ys gs → EachFaults text context (xs ++ ys) (fs ++ gs)
  faults_both [] ys fs gs h k = subst (λ (l : List DocFault). EachFaults text context ys (l ++ gs)) (sym h) k
  faults_both (x ∷ xs) ys fs gs h k = (h.0, h.1 ++ gs, h.2, faults_both xs ys h.1 gs h.3 k, ap (λ (l : List DocFault). l ++ gs) h.4 ∙ append_assoc h.0 h.1 gs)

  means_more : (ps : List Written) (xs : List Expansion) (p : Written) (x : Expansion) → EachMeans text context ps xs → Means text context p x → EachMeans text context (ps ++ p ∷ []) (xs ++ x ∷ [])
  means_more ps xs p x meaning.no_part m = meaning.part m meaning.no_part
  means_more ps xs p x (meaning.part h hs) m = meaning.part h (means_more _ _ p x hs m)

-- ---- trees

pub nothing_read : {text : List ℕ} {context : Context} {found : Option DocFault} → Walked text context w.Nothing found found e.Null
nothing_read {text} {context} {found} =
    record { faults = []; are = subst (λ (ls : List Leaf). EachFaults text context ls []) (sym of_nothing) refl; adds = adds_none found; is = λ n. meaning.nothing refl }

pub sequence_read : {text : List ℕ} {context : Context} {old new : Option DocFault} {xs : List Expansion} (parts : List Written) → PartsWalked text context parts old new xs
    → Walked text context (w.Sequence parts) old new (e.Seq xs)
sequence_read {text} {context} {xs = xs} parts h =
    record { faults = h.faults; are = subst (λ (ls : List Leaf). EachFaults text context ls h.faults) (sym (of_sequence parts)) h.are; adds = h.adds; is = λ n. meaning.sequence xs refl (h.is n) }

pub alternatives_read : {text : List ℕ} {context : Context} {old new : Option DocFault} {xs : List Expansion} (parts : List Written) → PartsWalked text context parts old new xs
    → Walked text context (w.Alternatives parts) old new (e.Alt xs)
alternatives_read {text} {context} {xs = xs} parts h =
    record { faults = h.faults; are = subst (λ (ls : List Leaf). EachFaults text context ls h.faults) (sym (of_alternatives parts)) h.are; adds = h.adds; is = λ n. meaning.alternatives xs refl (h.is n) }

pub optional_read : {text : List ℕ} {context : Context} {old new : Option DocFault} {x : Expansion} (inner : Written) → Walked text context inner old new x
    → Walked text context (w.Optional inner) old new (e.Rep 0 (Some 1) x)
optional_read {text} {context} {x = x} inner h =
    record { faults = h.faults; are = subst (λ (ls : List Leaf). EachFaults text context ls h.faults) (sym (of_optional inner)) h.are; adds = h.adds; is = λ n. meaning.optional x refl (h.is n) }

pub weighted_read : {text : List ℕ} {context : Context} {old mid new : Option DocFault} {x : Expansion} (span : Spanned) (inner : Written)
    → IsReadAs (WeightFaults text span) (λ (u : Unit {0}). Unit {0}) old mid tt → Walked text context inner mid new x → Walked text context (w.Weighted span inner) old new x
weighted_read {text} {context} {old} {mid} {new} span inner h k = record {
  faults = h.faults ++ k.faults;
  are = subst (λ (ls : List Leaf). EachFaults text context ls (h.faults ++ k.faults)) (sym (of_weighted span inner)) (h.faults, k.faults, h.are, k.are, refl);
  adds = adds_both h.faults k.faults old mid new h.adds k.adds;
  is = λ n. meaning.weighted (k.is (back_none h.faults k.faults n));
}

pub repeated_read : {text : List ℕ} {context : Context} {old mid new : Option DocFault} {turns : Turns} {y x : Expansion} (span : Spanned) (inner : Written)
    → IsReadAs (TimesFaults text span) (TurnsAre text span) old mid turns → Walked text context inner mid new y → x ≡ repeated turns.least turns.most y
    → Walked text context (w.Repeated span inner) old new x
repeated_read {text} {context} {old} {mid} {new} {turns} {y} {x} span inner h k same = record {
  faults = h.faults ++ k.faults;
  are = subst (λ (ls : List Leaf). EachFaults text context ls (h.faults ++ k.faults)) (sym (of_repeated span inner)) (h.faults, k.faults, h.are, k.are, refl);
  adds = adds_both h.faults k.faults old mid new h.adds k.adds;
  is = λ n.
      let t = h.is (front_none h.faults k.faults n) in
      meaning.turns y (t.0, t.1, t.2, t.3, same ∙ (λ i. repeated (t.4.least_is i) (t.4.most_is i) y)) (k.is (back_none h.faults k.faults n));
}

-- ---- parts, one more at the end

pub no_part_read : {text : List ℕ} {context : Context} {found : Option DocFault} → PartsWalked text context [] found found []
no_part_read {text} {context} {found} = record { faults = []; are = refl; adds = adds_none found; is = λ n. meaning.no_part }

one_more : (parts : List Written) (part : Written) → leaves_of (parts ++ part ∷ []) ≡ leaves_of parts ++ leaves part
one_more parts part =
    ap (flat_map (λ (ls : List Leaf). ls)) (map-append leaves parts (part ∷ []))
    ∙ (flat_map-append (λ (ls : List Leaf). ls) (map leaves parts) (leaves part ∷ [])
    ∙ ap (λ (ls : List Leaf). leaves_of parts ++ ls) (append-nil (leaves part)))

pub part_read : {text : List ℕ} {context : Context} {old mid new : Option DocFault} {xs : List Expansion} {x : Expansion} (parts : List Written) (part : Written)
    → PartsWalked text context parts old mid xs → Walked text context part mid new x → PartsWalked text context (parts ++ part ∷ []) old new (xs ++ x ∷ [])
part_read {text} {context} {old} {mid} {new} {xs} {x} parts part h k = record {
  faults = h.faults ++ k.faults;
  are = subst (λ (ls : List Leaf). EachFaults text context ls (h.faults ++ k.faults)) (sym (one_more parts part)) (faults_both text context (leaves_of parts) (leaves part) h.faults k.faults h.are k.are);
  adds = adds_both h.faults k.faults old mid new h.adds k.adds;
  is = λ n. means_more text context parts xs part x (h.is (front_none h.faults k.faults n)) (k.is (back_none h.faults k.faults n));
}

-- ---- where the leaves stand

pub front_shown : (text : List ℕ) (xs ys : List Leaf) → EachShown text (xs ++ ys) → EachShown text xs × EachShown text ys
front_shown text [] ys h = (tt, h)
front_shown text (x ∷ xs) ys h = let more = front_shown text xs ys h.1 in ((h.0, more.0), more.1)

pub parts_each : (text : List ℕ) (parts : List Written) → PartsShown text parts → All (BodyShown text) parts
parts_each text [] h k d below = absurd (omega arith)
parts_each text (p ∷ parts) h zero d below = (front_shown text (leaves p) (leaves_of parts) h).0
parts_each text (p ∷ parts) h (suc k) d below = parts_each text parts (front_shown text (leaves p) (leaves_of parts) h).1 k d (omega arith)

-- ---- rules, one more at the end

bodies_more : (text : List ℕ) (context : Context) (ws : List WrittenRule) (w : WrittenRule) (fs gs : List DocFault) → BodiesFaults text context ws fs → EachFaults text context (leaves w.body) gs
    → BodiesFaults text context (ws ++ w ∷ []) (fs ++ gs)
bodies_more text context [] w fs gs h k = (gs, [], k, refl, ap (λ (l : List DocFault). l ++ gs) h ∙ sym (append-nil gs))
bodies_more text context (v ∷ ws) w fs gs h k =
    (h.0, h.1 ++ gs, h.2, bodies_more text context ws w h.1 gs h.3 k, ap (λ (l : List DocFault). l ++ gs) h.4 ∙ append_assoc h.0 h.1 gs)

rules_more : (text : List ℕ) (context : Context) (ws : List WrittenRule) (w : WrittenRule) (rs : List Rule) (r : Rule) → RulesMean text context ws rs → RuleMeans text context w r
    → RulesMean text context (ws ++ w ∷ []) (rs ++ r ∷ [])
rules_more text context [] w [] r h k = (k, tt)
rules_more text context [] w (s ∷ rs) r h k = absurd h
rules_more text context (v ∷ ws) w [] r h k = absurd h
rules_more text context (v ∷ ws) w (s ∷ rs) r h k = (h.0, rules_more text context ws w rs r h.1 k)

pub rule_more : {text : List ℕ} {context : Context} {old mid new : Option DocFault} {rs : List Rule} {r : Rule} (ws : List WrittenRule) (w : WrittenRule)
    → RulesRead text context ws old mid rs → RuleRead text context w mid new r → RulesRead text context (ws ++ w ∷ []) old new (rs ++ r ∷ [])
rule_more {text} {context} {old} {mid} {new} {rs} {r} ws w h k = record {
  faults = h.faults ++ k.faults;
  are = bodies_more text context ws w h.faults k.faults h.are k.are;
  adds = adds_both h.faults k.faults old mid new h.adds k.adds;
  is = λ n. rules_more text context ws w rs r (h.is (front_none h.faults k.faults n)) (k.is (back_none h.faults k.faults n));
}
