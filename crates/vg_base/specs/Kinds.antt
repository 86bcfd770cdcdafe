-- The numbers of kinds tell the kinds apart, so their order by number agrees with their equality.
use Rattle.std.specs.Prelude.{◌≡◌, ℕ, suc, refl}
use Rattle.std.proofs.Common.{sym, ◌∙◌, eqb}
use Rattle.std.specs.Cmp.{IsPartialOrder, on_total, nat_cmp_total, po, unsigned_ties}
use Rattle.std.specs.Ordering.{nat_cmp, on, eq_by_cmp, as_partial_cmp}
use lib.Dec.{eqb-suc-suc}
use denote.Enum.Bare.{sameb}
use denote.Enum.Declared.{Declared, tag_of}
use Rattle.vg_base.specs.declared.doc_fault.DocKind.{DocKind}
use Rattle.vg_base.specs.declared.doc_fault.DocKind.TheVariants.{NoHeader}
use Rattle.vg_base.specs.contracts.doc_fault.DocKind as doc
use Rattle.vg_base.specs.declared.link_fault.LinkKind.{LinkKind}
use Rattle.vg_base.specs.declared.link_fault.LinkKind.TheVariants.{NoDocument}
use Rattle.vg_base.specs.contracts.link_fault.LinkKind as link
use Rattle.vg_base.specs.Faults.{doc_kind_number, link_kind_number}

-- kinds that are numbered from 1 in the order in which they are declared
module _ (D : Declared) (number : D.D → ℕ) (counted : (k : D.D) → number k ≡ suc (tag_of D k)) where
  ties : (x y : D.D) → sameb D x y ≡ eq_by_cmp (on number nat_cmp) x y
  ties x y = sym (eqb-suc-suc (tag_of D x) (tag_of D y)) ∙ ((λ i. eqb (sym (counted x) i) (sym (counted y) i)) ∙ unsigned_ties (number x) (number y))

  ordered : IsPartialOrder (sameb D) (as_partial_cmp (on number nat_cmp))
  ordered = po (on_total number nat_cmp_total) ties

doc_counted : (k : DocKind) → doc_kind_number k ≡ suc (tag_of doc.the_type k)
doc_counted NoHeader = refl
doc_counted _ = refl

pub doc_ties : (x y : DocKind) → sameb doc.the_type x y ≡ eq_by_cmp (on doc_kind_number nat_cmp) x y
doc_ties = ties doc.the_type doc_kind_number doc_counted

pub doc_ordered : IsPartialOrder (sameb doc.the_type) (as_partial_cmp (on doc_kind_number nat_cmp))
doc_ordered = ordered doc.the_type doc_kind_number doc_counted

link_counted : (k : LinkKind) → link_kind_number k ≡ suc (tag_of link.the_type k)
link_counted NoDocument = refl
link_counted _ = refl

pub link_ties : (x y : LinkKind) → sameb link.the_type x y ≡ eq_by_cmp (on link_kind_number nat_cmp) x y
link_ties = ties link.the_type link_kind_number link_counted

pub link_ordered : IsPartialOrder (sameb link.the_type) (as_partial_cmp (on link_kind_number nat_cmp))
link_ordered = ordered link.the_type link_kind_number link_counted
