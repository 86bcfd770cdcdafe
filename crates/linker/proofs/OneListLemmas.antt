-- The readings of a set are one list, so the faults of a publish are one list, and its version is one.
use Rattle.std.proofs.Common.{◌≡◌, inl, inr, ℕ, suc, ◌+◌, ◌<◌, List, [], ◌∷◌, ◌++◌, Option, Some, None, length, refl, sym, ap, subst, ◌∙◌, arith}
use Rattle.std.specs.Prelude.{slice_get}
use Rattle.std.proofs.lemmas.Option.{slice_get_within, slice_get-get_or}
use Rattle.vg_base.specs.declared.numbers.DocIx.{DocIx}
use Rattle.vg_base.specs.declared.doc_fault.DocFault.{DocFault}
use Rattle.vg_base.specs.declared.link_fault.LinkKind.{LinkKind}
use Rattle.grammar_tree.specs.declared.doc_set.DocText.{DocText}
use Rattle.grammar_tree.specs.declared.document.Doc.{Doc}
use Rattle.grammar_tree.specs.declared.document.ReadDoc.{ReadDoc}
use Rattle.grammar_tree.specs.declared.document.ReadDoc.TheVariants as read
use Rattle.grammar_tree.specs.Links.{Rules}
use Rattle.grammar_tree.specs.Size.{size_of}
use Rattle.rule_reader.proofs.OneReading.{not_both, one_first_fault}
use Rattle.rule_reader.proofs.OneMeaning.{one_doc}
use Rattle.linker.specs.declared.set_fault.SetFault.{SetFault}
use Rattle.linker.specs.Readings.{Readings, IsReadAs, HasReading, HaveReadings, staged}
use Rattle.linker.specs.Numbers.{Definition}
use Rattle.linker.specs.SetFaults.{Told, over, LateFaults, AreFaults}
use Rattle.linker.specs.Versions.{Linkage, built}
use Rattle.linker.specs.Linking.{HasFaults, IsBuilt}

-- ---- readings

-- a text reads as one document, or has one first fault
reading_once : (text : List ℕ) (r s : ReadDoc) → IsReadAs text r → IsReadAs text s → r ≡ s
reading_once text (read.Good a) (read.Good b) h k = ap (λ (d : Doc). read.Good d) (one_doc text a b h k)
reading_once text (read.Good a) (read.Bad g) h k = absurd (not_both text a g h k)
reading_once text (read.Bad f) (read.Good b) h k = absurd (not_both text b f k h)
reading_once text (read.Bad f) (read.Bad g) h k = ap (λ (d : DocFault). read.Bad d) (one_first_fault text f g h k)

-- lists with the same items at all places are one
same_lists : {X : Type 0} (xs ys : List X) → ((k : ℕ) → slice_get xs k ≡ slice_get ys k) → xs ≡ ys
same_lists [] [] h = refl
same_lists [] (y ∷ ys) h = let both : None ≡ Some y = h 0 in absurd (cc)
same_lists (x ∷ xs) [] h = let both : Some x ≡ None = h 0 in absurd (cc)
same_lists (x ∷ xs) (y ∷ ys) h =
    let first : Some x ≡ Some y = h 0 in
    let rest : xs ≡ ys = same_lists xs ys (λ k. h (suc k)) in
    cc

-- a place beyond one list is beyond another that is as long
module _ {X : Type 0} (xs ys : List X) (long : length xs ≡ length ys) where
  beyond_both : (k : ℕ) (y : X) → slice_get xs k ≡ None → slice_get ys k ≡ Some y → ⊥
  beyond_both k y none some =
      let lt : k < length xs = omega (arith, slice_get_within ys k y some) in
      let both : Some _ ≡ None = sym (slice_get-get_or xs k y lt) ∙ none in
      absurd (cc)

module _ (set : List DocText) (entries : List DocIx) (a b : Readings) (h : HaveReadings set entries a) (k : HaveReadings set entries b) where
  -- what one list of readings has, another has
  reading_kept : (x : ℕ) (r : ReadDoc) → slice_get a x ≡ Some (Some r) → slice_get b x ≡ Some (Some r)
  reading_kept x r is =
      let one : HasReading set a x = h.each x (h.others x r is) in
      let other : HasReading set b x = k.each x (h.others x r is) in
      let mine : Some (Some r) ≡ Some (Some one.reading) = sym is ∙ one.is_there in
      let doc : Some other.doc ≡ Some one.doc = sym other.is_staged ∙ one.is_staged in
      let same_doc : other.doc ≡ one.doc = cc in
      let same : other.reading ≡ one.reading =
      reading_once one.doc.text other.reading one.reading (subst (λ d. IsReadAs d.text other.reading) same_doc other.reads) one.reads in
      other.is_there ∙ cc

module _ (set : List DocText) (entries : List DocIx) (a b : Readings) (h : HaveReadings set entries a) (k : HaveReadings set entries b) where
  pub one_readings : a ≡ b
  one_readings = same_lists a b (λ x. at x (slice_get a x) (slice_get b x) refl refl)
    where
      at : (x : ℕ) (one other : Option (Option ReadDoc)) → slice_get a x ≡ one → slice_get b x ≡ other → slice_get a x ≡ slice_get b x
      at x None None p q = p ∙ sym q
      at x (Some (Some r)) other p q = p ∙ sym (reading_kept set entries a b h k x r p)
      at x one (Some (Some s)) p q = reading_kept set entries b a k h x s q ∙ sym q
      at x (Some None) (Some None) p q = p ∙ sym q
      at x (Some None) None p q = absurd (beyond_both b a (k.sized ∙ sym h.sized) x None q p)
      at x None (Some None) p q = absurd (beyond_both a b (h.sized ∙ sym k.sized) x None p q)

-- ---- faults

module _ (P : Type 0) (d : Definition) (kind : LinkKind) where
  told_once : (xs ys : List SetFault) → Told P d kind xs → Told P d kind ys → xs ≡ ys
  told_once xs ys (inl h) (inl k) = h.1 ∙ sym k.1
  told_once xs ys (inl h) (inr k) = absurd (k.0 h.0)
  told_once xs ys (inr h) (inl k) = absurd (h.0 k.0)
  told_once xs ys (inr h) (inr k) = h.1 ∙ sym k.1

-- late faults of definitions are one list
abbrev OneLate : Rules → (r before : ℕ) → List Definition → Type 0
OneLate L r before ds = (xs ys : List SetFault) → LateFaults L r before ds xs → LateFaults L r before ds ys → xs ≡ ys

late_once : (L : Rules) (r before : ℕ) (ds : List Definition) → OneLate L r before ds
late_once L r before [] xs ys h k = h ∙ sym k
late_once L r before (d ∷ ds) xs ys (own, others, told, late, whole) (own', others', told', late', whole') =
    let first : own ≡ own' = told_once _ d _ own own' told told' in
    let rest : others ≡ others' = late_once L (r + 1) (before + size_of d.rule.body) ds others others' late late' in
    whole ∙ (λ i. first i ++ (over before d ++ rest i)) ∙ sym whole'

module _ (set : List DocText) (docs : Readings) (entries : List (List ℕ)) where
  faults_once : (xs ys : List SetFault) → AreFaults set docs entries xs → AreFaults set docs entries ys → xs ≡ ys
  faults_once xs ys (inl h) (inl k) = h.1 ∙ sym k.1
  faults_once xs ys (inl h) (inr k) = absurd (h.0 k.0)
  faults_once xs ys (inr h) (inl k) = absurd (k.0 h.0)
  faults_once xs ys (inr h) (inr k) = late_once _ 0 0 _ xs ys h.1 k.1

-- ---- the laws

module _ (set : List DocText) (entries : List (List ℕ)) where
  pub faults_are_one : (one other : List SetFault) → HasFaults set entries one → HasFaults set entries other → one ≡ other
  faults_are_one one other (docs, have, are) (docs', have', are') =
      faults_once set docs' entries one other
      (subst (λ (d : Readings). AreFaults set d entries one) (one_readings set (staged set entries) docs docs' have have') are) are'

  pub versions_are_one : (one other : Linkage) → IsBuilt set entries one → IsBuilt set entries other → one.number ≡ other.number → one ≡ other
  versions_are_one one other (docs, have, is) (docs', have', is') same =
      let docs_same : docs ≡ docs' = one_readings set (staged set entries) docs docs' have have' in
      is ∙ (λ i. built set (docs_same i) (same i)) ∙ sym is'
