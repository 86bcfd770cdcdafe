-- Keys, and sets of documents under keys.
use Rattle.std.proofs.Common.{arith, ◌≡◌, ◌⊎◌, ℕ, zero, suc, ◌+◌, ◌<◌, ◌≤◌, true, List, [], ◌∷◌, take, length, get_or, Option, Some, None, sym, ap, subst, ◌∙◌, cond, All}
use Rattle.std.proofs.Math.Seq.{take-suc}
use Rattle.std.proofs.lemmas.List.Elements.{All-append}
use Rattle.uri_links.specs.Faults.{key_fault, reading_fault}
use Rattle.uri_links.specs.declared.fault.UriFault.TheVariants.{NotAbsolute}
use Rattle.uri_links.proofs.FaultLemmas.{key_none, key_from_none}
use Rattle.grammar_tree.specs.declared.doc_set.DocText.{DocText}
use Rattle.grammar_tree.specs.DocSets.{HasDistinctKeys}
use Rattle.rule_reader.specs.Sets.{IsKey, IsKeyed}
use Rattle.import_closure.specs.code.Keyed.{HaveKeys}

pub key_by_fault : (key : List ℕ) → key_fault key ≡ None → IsKey key
key_by_fault key none = let h = key_none key none in record { readable = h.0; absolute = h.1 }

pub fault_of_key : (key : List ℕ) → IsKey key → key_fault key ≡ None
fault_of_key key h = key_from_none key h.readable ∙ ap (λ b. cond b None (Some NotAbsolute)) h.absolute

pub no_doc : HaveKeys []
no_doc = record { each = λ k d lt. absurd (omega (arith, lt)) }

pub one_more : (docs : List DocText) (i : ℕ) (doc : DocText) → i < length docs → doc ≡ get_or docs i doc → IsKey doc.key → HaveKeys (take i docs) → HaveKeys (take (i + 1) docs)
one_more docs i doc lt is key h =
    let next : i + 1 ≡ suc i = omega arith in
    record {
      each = subst (λ l. All (λ (d : DocText). IsKey d.key) l) (sym (ap (λ j. take j docs) next ∙ take-suc docs i doc lt))
          (All-append (λ (d : DocText). IsKey d.key) (take i docs) (get_or docs i doc ∷ []) h.each last);
    }
  where
    last : All (λ (d : DocText). IsKey d.key) (get_or docs i doc ∷ [])
    last zero d below = subst (λ (d : DocText). IsKey d.key) is key
    last (suc k) d below = absurd (omega arith)

pub one_bad : (docs : List DocText) (i : ℕ) (doc : DocText) → i < length docs → doc ≡ get_or docs i doc → (IsKey doc.key → ⊥) → HaveKeys docs → ⊥
one_bad docs i doc lt is bad all = bad (subst (λ (d : DocText). IsKey d.key) (sym is) (all.each i doc lt))

pub is_keyed : (set : List DocText) → length set ≤ 64 → HasDistinctKeys set → HaveKeys set → IsKeyed set
is_keyed set few distinct keys = record { few = few; keys = keys.each; distinct = distinct }

pub keys_of_set : (set : List DocText) → IsKeyed set → HaveKeys set
keys_of_set set keyed = record { each = keyed.keys }
