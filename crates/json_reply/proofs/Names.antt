-- Names tell kinds: a kind is the first of all of them that has its name.
use Rattle.std.proofs.Common.{◌≡◌, ℕ, List, [], ◌∷◌, if◌then◌else◌, refl}
use Rattle.std.specs.Str.{bytes_eq}
use Rattle.vg_base.specs.Faults.{doc_kind_name, link_kind_name}
use Rattle.vg_base.specs.declared.doc_fault.DocKind.{DocKind}
use Rattle.vg_base.specs.declared.doc_fault.DocKind.TheVariants as doc
use Rattle.vg_base.specs.declared.link_fault.LinkKind.{LinkKind}
use Rattle.vg_base.specs.declared.link_fault.LinkKind.TheVariants as link
use Rattle.uri_links.specs.Faults.{fault_name}
use Rattle.uri_links.specs.declared.fault.UriFault.{UriFault}
use Rattle.uri_links.specs.declared.fault.UriFault.TheVariants as uri
use Rattle.tag_script.specs.Kinds.{tag_kind_name}
use Rattle.tag_script.specs.declared.tag_kind.TagKind.{TagKind}
use Rattle.tag_script.specs.declared.tag_kind.TagKind.TheVariants as tag
use Rattle.linker.specs.Kinds.{fault_kind_name}
use Rattle.linker.specs.declared.set_fault.FaultKind.{FaultKind}
use Rattle.linker.specs.declared.set_fault.FaultKind.TheVariants.{Doc, Link}
use Rattle.json_reply.specs.Names.{refusal_name}
use Rattle.json_reply.specs.declared.refusal.Refusal.{Refusal}
use Rattle.json_reply.specs.declared.refusal.Refusal.TheVariants as refusal

-- the first of these kinds that has the name, or else the other
abbrev named : {K : Type 0} → (K → List ℕ) → K → List K → List ℕ → K
named name other [] text = other
named name other (k ∷ ks) text = if bytes_eq text (name k) then k else named name other ks text

abbrev pub uri_fault_in : List ℕ → UriFault
uri_fault_in = named fault_name uri.NotUri (uri.NotUri ∷ uri.UriLong ∷ uri.NotAbsolute ∷ [])

pub uri_fault_back : (fault : UriFault) → uri_fault_in (fault_name fault) ≡ fault
uri_fault_back uri.NotUri = refl
uri_fault_back _ = refl

abbrev pub tag_kind_in : List ℕ → TagKind
tag_kind_in = named tag_kind_name tag.Unknown (tag.Unknown ∷ tag.Kind ∷ tag.Range ∷ tag.Fraction ∷ tag.TextLong ∷ tag.Wide ∷ tag.DeepValue ∷ [])

pub tag_kind_back : (kind : TagKind) → tag_kind_in (tag_kind_name kind) ≡ kind
tag_kind_back tag.Unknown = refl
tag_kind_back _ = refl

abbrev pub refusal_in : List ℕ → Refusal
refusal_in =
    named refusal_name refusal.Refused (refusal.LineLong ∷ refusal.BadJson ∷ refusal.NotCommand ∷ refusal.SessionThere ∷ refusal.NoSession
    ∷ refusal.SessionsFull ∷ refusal.NotUri ∷ refusal.DocsFull ∷ refusal.TextOver ∷ refusal.NotStaged ∷ refusal.NoDocument
    ∷ refusal.NoRule ∷ refusal.NotPublic ∷ refusal.NoRoot ∷ refusal.ActivationsFull ∷ refusal.NotActive ∷ refusal.WordsOver
    ∷ refusal.BadKey ∷ [])

pub refusal_back : (why : Refusal) → refusal_in (refusal_name why) ≡ why
refusal_back refusal.Refused = refl
refusal_back _ = refl

abbrev pub fault_kind_in : List ℕ → FaultKind
fault_kind_in =
    named fault_kind_name (Doc doc.Large) (Doc doc.NoHeader ∷ Doc doc.Version ∷ Doc doc.Encoding ∷ Doc doc.BadCharacter ∷ Doc doc.Unclosed
    ∷ Doc doc.Unexpected ∷ Doc doc.DeclaredTwice ∷ Doc doc.RuleTwice ∷ Doc doc.Reserved ∷ Doc doc.RepeatOrder ∷ Doc doc.RepeatLarge
    ∷ Doc doc.BadWeight ∷ Doc doc.BadKey ∷ Doc doc.BadUri ∷ Doc doc.TagFormat ∷ Doc doc.BadScript ∷ Doc doc.RootMissing ∷ Doc doc.Deep
    ∷ Link link.NoDocument ∷ Link link.NoRule ∷ Link link.NotPublic ∷ Link link.NoRoot ∷ Link link.ModeDiffers ∷ Link link.SelfDerive
    ∷ Link link.NodesOver ∷ [])

doc_kind_back : (kind : DocKind) → fault_kind_in (doc_kind_name kind) ≡ Doc kind
doc_kind_back doc.Large = refl
doc_kind_back _ = refl

link_kind_back : (kind : LinkKind) → fault_kind_in (link_kind_name kind) ≡ Link kind
link_kind_back link.NoDocument = refl
link_kind_back _ = refl

pub fault_kind_back : (kind : FaultKind) → fault_kind_in (fault_kind_name kind) ≡ kind
fault_kind_back (Doc kind) = doc_kind_back kind
fault_kind_back (Link kind) = link_kind_back kind
