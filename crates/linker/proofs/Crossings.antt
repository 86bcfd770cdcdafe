-- Versions may go from thread to thread, and be read by several threads at once: field by field, since the check's own search gives up.
use denote.Param.Send.{IsSend, IsSync, sendable, recorded_send, recorded_sync, struct_send, struct_sync}
use denote.Struct.Declared.{shape as fields}
use Rattle.std.proofs.option.Option.TheSendSync as Option
use Rattle.sqlite_items.proofs.items.Items.TheSendSync as Items
use Rattle.vg_base.proofs.text.Text.TheSendSync as Text
use Rattle.vg_base.proofs.text_map.TextMap.TheSendSync as TextMap
use Rattle.vg_base.proofs.mode.Mode.TheSendSync as Mode
use Rattle.vg_base.proofs.format.Format.TheSendSync as Format
use Rattle.vg_base.proofs.numbers.RuleIx.TheSendSync as RuleIx
use Rattle.vg_base.proofs.numbers.VersionNo.TheSendSync as VersionNo
use Rattle.vg_base.specs.contracts.format.Format as FormatRow
use Rattle.vg_base.specs.contracts.numbers.RuleIx as RuleIxRow
use Rattle.grammar_tree.proofs.Crossings.{linked_send, linked_sync}
use Rattle.linker.proofs.tables.NamedRule.TheSendSync as NamedRule
use Rattle.linker.specs.contracts.tables.NamedRule as NamedRuleRow
use Rattle.linker.specs.contracts.version.VersionDoc as VersionDoc
use Rattle.linker.specs.contracts.version.Version as Version

format_send : IsSend FormatRow.the_row
format_send = recorded_send _ _ _ (FormatRow.the_type).to_one Format.the_field_send

rule_send : IsSend RuleIxRow.the_row
rule_send = recorded_send _ _ _ (RuleIxRow.the_type).to_one RuleIx.the_field_send

named_send : IsSend NamedRuleRow.the_row
named_send = recorded_send _ _ _ (NamedRuleRow.the_type).to_one NamedRule.the_field_send

doc_send : IsSend VersionDoc.the_row
doc_send = recorded_send _ _ _ (VersionDoc.the_type).to_one (struct_send (fields VersionDoc.the_type) (Text.the_send, (Mode.the_field_send, (Option.the_field_send _ format_send, (Option.the_field_send _ rule_send, tt)))))

pub version_send : IsSend Version.the_row
version_send = search (doc_send, linked_send, named_send, TextMap.the_send, Items.the_send, VersionNo.the_field_send, sendable) depth 30

format_sync : IsSync FormatRow.the_row
format_sync = recorded_sync _ _ _ (FormatRow.the_type).to_one Format.the_field_sync

rule_sync : IsSync RuleIxRow.the_row
rule_sync = recorded_sync _ _ _ (RuleIxRow.the_type).to_one RuleIx.the_field_sync

named_sync : IsSync NamedRuleRow.the_row
named_sync = recorded_sync _ _ _ (NamedRuleRow.the_type).to_one NamedRule.the_field_sync

doc_sync : IsSync VersionDoc.the_row
doc_sync = recorded_sync _ _ _ (VersionDoc.the_type).to_one (struct_sync (fields VersionDoc.the_type) (Text.the_sync, (Mode.the_field_sync, (Option.the_field_sync _ format_sync, (Option.the_field_sync _ rule_sync, tt)))))

pub version_sync : IsSync Version.the_row
version_sync = search (doc_sync, linked_sync, named_sync, TextMap.the_sync, Items.the_sync, VersionNo.the_field_sync, sendable) depth 30
