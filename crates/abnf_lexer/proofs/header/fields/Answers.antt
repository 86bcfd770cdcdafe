use Rattle.std.proofs.Common.{◌≡◌, Bool, not, Option, subst, ap, ◌∙◌}
use Rattle.vg_base.specs.declared.doc_fault.DocFault.{DocFault}
use Rattle.vg_base.specs.declared.doc_fault.DocKind.{DocKind}
use Rattle.vg_base.specs.declared.doc_fault.DocKind.TheVariants.{Version, Encoding, Unexpected}
use Rattle.vg_base.specs.Faults.{doc_fault_order}
use Rattle.vg_base.specs.First.{IsFirst}
use Rattle.vg_base.specs.Places.{Walked}
use Rattle.vg_base.specs.Runs.{begins}
use Rattle.abnf_lexer.specs.Faults.{told}
use Rattle.abnf_lexer.specs.Header.{past_field, field, is_version, is_encoding, is_semicolon, version_faults, encoding_faults, end_faults}
use Rattle.abnf_lexer.proofs.header.fields.Goals as goal

-- a test of where a cursor stands
at_walk : (kind : DocKind) (test : Walked → Bool) (there here : Walked) (b : Bool) (r : Option DocFault) → there ≡ here → b ≡ test there
    → IsFirst doc_fault_order (told (not b) there.passed kind) r → IsFirst doc_fault_order (told (not (test here)) here.passed kind) r
at_walk kind test there here b r e t h =
    subst (λ (w : Walked). IsFirst doc_fault_order (told (not (test w)) w.passed kind) r) e (subst (λ x. IsFirst doc_fault_order (told (not x) there.passed kind) r) t h)

pub returns-clause-fault : goal.returns-clause-fault
returns-clause-fault c =
    let start : Walked = c.args.cursor.now in
    let second : c.pass_field-2.new.cursor ≡ past_field (past_field start) = c.pass_field-2.ensures ∙ ap past_field c.pass_field.ensures in
    let version = at_walk Version (λ w. is_version (field w)) start start c.is_version.result c.told-version.result (λ _. start) (c.is_version.ensures ∙ ap is_version c.field.ensures) c.told-version.ensures in
    let encoding = at_walk Encoding (λ w. is_encoding (field w)) c.pass_field.new.cursor (past_field start) c.is_encoding.result c.told-encoding.result c.pass_field.ensures (c.is_encoding.ensures ∙ ap is_encoding c.field-2.ensures) c.told-encoding.ensures in
    let end = at_walk Unexpected (λ w. begins is_semicolon w.rest) c.pass_field-2.new.cursor (past_field (past_field start)) c.begins_semicolon.result c.told-end.result second (c.begins_semicolon.ensures ∙ ap (begins is_semicolon) c.rest.ensures) c.told-end.ensures in
    c.sooner-2.ensures.joins (version_faults start) _ version (c.sooner.ensures.joins (encoding_faults (past_field start)) (end_faults (past_field (past_field start))) encoding end)
