-- The kinds of faults, with the number and the printed name of each, and the order in which faults are told.
use Rattle.std.specs.Prelude.{ℕ, List, codes}
use Rattle.std.specs.Ordering.{nat_cmp, on, then_cmp}
use Rattle.std.specs.declared.cmp.Ordering.{Ordering}
use Rattle.vg_base.specs.declared.doc_fault.DocKind.{DocKind}
use Rattle.vg_base.specs.declared.doc_fault.DocKind.TheVariants as doc
use Rattle.vg_base.specs.declared.doc_fault.DocFault.{DocFault}
use Rattle.vg_base.specs.declared.link_fault.LinkFault.{LinkFault}
use Rattle.vg_base.specs.declared.link_fault.LinkKind.{LinkKind}
use Rattle.vg_base.specs.declared.link_fault.LinkKind.TheVariants as link
use Rattle.vg_base.specs.Places.{place_order}

abbrev pub doc_kind_number : DocKind → ℕ
doc_kind_number doc.NoHeader = 1
doc_kind_number doc.Version = 2
doc_kind_number doc.Encoding = 3
doc_kind_number doc.BadCharacter = 4
doc_kind_number doc.Unclosed = 5
doc_kind_number doc.Unexpected = 6
doc_kind_number doc.DeclaredTwice = 7
doc_kind_number doc.RuleTwice = 8
doc_kind_number doc.Reserved = 9
doc_kind_number doc.RepeatOrder = 10
doc_kind_number doc.RepeatLarge = 11
doc_kind_number doc.BadWeight = 12
doc_kind_number doc.BadKey = 13
doc_kind_number doc.BadUri = 14
doc_kind_number doc.TagFormat = 15
doc_kind_number doc.BadScript = 16
doc_kind_number doc.RootMissing = 17
doc_kind_number doc.Deep = 18
doc_kind_number doc.Large = 19

abbrev pub doc_kind_name : DocKind → List ℕ
doc_kind_name doc.NoHeader = codes "NoHeader"
doc_kind_name doc.Version = codes "Version"
doc_kind_name doc.Encoding = codes "Encoding"
doc_kind_name doc.BadCharacter = codes "BadCharacter"
doc_kind_name doc.Unclosed = codes "Unclosed"
doc_kind_name doc.Unexpected = codes "Unexpected"
doc_kind_name doc.DeclaredTwice = codes "DeclaredTwice"
doc_kind_name doc.RuleTwice = codes "RuleTwice"
doc_kind_name doc.Reserved = codes "Reserved"
doc_kind_name doc.RepeatOrder = codes "RepeatOrder"
doc_kind_name doc.RepeatLarge = codes "RepeatLarge"
doc_kind_name doc.BadWeight = codes "BadWeight"
doc_kind_name doc.BadKey = codes "BadKey"
doc_kind_name doc.BadUri = codes "BadUri"
doc_kind_name doc.TagFormat = codes "TagFormat"
doc_kind_name doc.BadScript = codes "BadScript"
doc_kind_name doc.RootMissing = codes "RootMissing"
doc_kind_name doc.Deep = codes "Deep"
doc_kind_name doc.Large = codes "Large"

abbrev pub link_kind_number : LinkKind → ℕ
link_kind_number link.NoDocument = 1
link_kind_number link.NoRule = 2
link_kind_number link.NotPublic = 3
link_kind_number link.NoRoot = 4
link_kind_number link.ModeDiffers = 5
link_kind_number link.SelfDerive = 6
link_kind_number link.NodesOver = 7

abbrev pub link_kind_name : LinkKind → List ℕ
link_kind_name link.NoDocument = codes "NoDocument"
link_kind_name link.NoRule = codes "NoRule"
link_kind_name link.NotPublic = codes "NotPublic"
link_kind_name link.NoRoot = codes "NoRoot"
link_kind_name link.ModeDiffers = codes "ModeDiffers"
link_kind_name link.SelfDerive = codes "SelfDerive"
link_kind_name link.NodesOver = codes "NodesOver"

-- the order of faults: by place, then by the kind's number
abbrev pub doc_fault_order : DocFault → DocFault → Ordering
doc_fault_order = then_cmp (on (λ f. f.place) place_order) (on (λ f. doc_kind_number f.kind) nat_cmp)

abbrev pub link_fault_order : LinkFault → LinkFault → Ordering
link_fault_order = then_cmp (on (λ f. f.place) place_order) (on (λ f. link_kind_number f.kind) nat_cmp)
