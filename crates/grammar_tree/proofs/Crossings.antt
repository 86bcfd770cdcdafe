-- Trees of grammars may go from thread to thread, and be read by several threads at once. The check's own search gives up
-- at these types by their size, so each is cut into its fields here. A crate above whose types hold one of these lists the
-- lemma of that type for `search`: `node_send`, `expansion_send`, `doc_send`, `read_doc_send`, `linked_send`, and the same of `_sync`.
use denote.Param.Send.{IsSend, IsSync, sendable, recorded_send, recorded_sync, enum_send, enum_sync, struct_send, struct_sync}
use denote.Enum.Declared.{shape}
use denote.Struct.Declared.{shape as fields}
use Rattle.std.proofs.option.Option.TheSendSync as Option
use Rattle.sqlite_items.proofs.items.Items.TheSendSync as Items
use Rattle.sqlite_items.proofs.boxed.Boxed.TheSendSync as Boxed
use Rattle.vg_base.proofs.text.Text.TheSendSync as Text
use Rattle.vg_base.proofs.place.Place.TheSendSync as Place
use Rattle.vg_base.proofs.word.Word.TheSendSync as Word
use Rattle.vg_base.proofs.numbers.NodeIx.TheSendSync as NodeIx
use Rattle.vg_base.proofs.numbers.RuleIx.TheSendSync as RuleIx
use Rattle.vg_base.proofs.script.UnOp.TheSendSync as UnOp
use Rattle.vg_base.proofs.script.BinOp.TheSendSync as BinOp
use Rattle.vg_base.proofs.script.AssignOp.TheSendSync as AssignOp
use Rattle.vg_base.proofs.script.Root.TheSendSync as Root
use Rattle.vg_base.proofs.script.Expr.TheLaws.TheKnot as expr
use Rattle.vg_base.proofs.script.Stmt.TheLaws.TheKnot as stmt
use Rattle.vg_base.specs.contracts.script.Stmt as Stmt
use Rattle.vg_base.specs.contracts.script.Script as Script
use Rattle.grammar_tree.proofs.expansion.Reference.TheSendSync as Reference
use Rattle.grammar_tree.proofs.expansion.Expansion.TheLaws.TheKnot as expansion
use Rattle.grammar_tree.specs.contracts.expansion.TagNode as TagNode
use Rattle.grammar_tree.specs.contracts.expansion.Expansion as Expansion
use Rattle.grammar_tree.specs.contracts.linked.Node as Node
use Rattle.grammar_tree.specs.contracts.document.Rule as Rule
use Rattle.grammar_tree.specs.contracts.document.Doc as Doc
use Rattle.grammar_tree.specs.contracts.document.ReadDoc as ReadDoc
use Rattle.grammar_tree.specs.contracts.linked.Linked as Linked
use Rattle.grammar_tree.proofs.linked.LinkedRule.TheSendSync as LinkedRule
use Rattle.vg_base.proofs.doc_fault.DocFault.TheSendSync as DocFault
use Rattle.vg_base.proofs.mode.Mode.TheSendSync as Mode
use Rattle.vg_base.proofs.format.Format.TheSendSync as Format
use Rattle.sqlite_items.specs.contracts.items.Items as ItemsRow
use Rattle.vg_base.specs.contracts.format.Format as FormatRow
use Rattle.vg_base.specs.contracts.word.Word as WordRow
use Rattle.vg_base.specs.contracts.numbers.NodeIx as NodeIxRow

stmt_send : IsSend Stmt.the_row
stmt_send = search (stmt.send-Stmt, expr.send-Expr, expr.send-Key, Items.the_send, Boxed.the_send, Option.the_field_send, Option.the_send, Text.the_send, UnOp.the_field_send, BinOp.the_field_send, AssignOp.the_field_send, Root.the_field_send, sendable) depth 30

stmt_sync : IsSync Stmt.the_row
stmt_sync = search (stmt.sync-Stmt, expr.sync-Expr, expr.sync-Key, Items.the_sync, Boxed.the_sync, Option.the_field_sync, Option.the_sync, Text.the_sync, UnOp.the_field_sync, BinOp.the_field_sync, AssignOp.the_field_sync, Root.the_field_sync, sendable) depth 30

script_send : IsSend Script.the_row
script_send = recorded_send _ _ _ (Script.the_type).to_one (struct_send (fields Script.the_type) (Items.the_send _ stmt_send, tt))

script_sync : IsSync Script.the_row
script_sync = recorded_sync _ _ _ (Script.the_type).to_one (struct_sync (fields Script.the_type) (Items.the_sync _ stmt_sync, tt))

pub tag_send : IsSend (TagNode.the_field).row
tag_send = struct_send (fields TagNode.the_type) (Place.the_field_send, (Text.the_send, (Option.the_field_send _ script_send, tt)))

pub tag_sync : IsSync (TagNode.the_field).row
tag_sync = struct_sync (fields TagNode.the_type) (Place.the_field_sync, (Text.the_sync, (Option.the_field_sync _ script_sync, tt)))

index_send : IsSend NodeIxRow.the_row
index_send = recorded_send _ _ _ (NodeIxRow.the_type).to_one NodeIx.the_field_send

words_send : IsSend (ItemsRow.the_row WordRow.the_row)
words_send = Items.the_send _ Word.the_send

pub node_send : IsSend Node.the_row
node_send =
    recorded_send _ _ _ (Node.the_type).to_one
    (enum_send (shape Node.the_type) (
      (words_send, tt),
      (
        (Items.the_send _ index_send, tt),
        (
          (Items.the_send _ index_send, tt),
          (
            (search sendable, (search sendable, (NodeIx.the_field_send, tt))),
            ((RuleIx.the_field_send, tt), ((tag_send, tt), (tt, (tt, (tt, tt))))),
          ),
        ),
      ),
    ))

pub expansion_send : IsSend (Expansion.the_field).row
expansion_send = expansion.send-Expansion words_send Items.the_send (search sendable) (search sendable) Boxed.the_send Reference.the_field_send tag_send

format_send : IsSend FormatRow.the_row
format_send = recorded_send _ _ _ (FormatRow.the_type).to_one Format.the_field_send

rule_send : IsSend Rule.the_row
rule_send = recorded_send _ _ _ (Rule.the_type).to_one (struct_send (fields Rule.the_type) (Place.the_field_send, (search sendable, (Text.the_send, (expansion_send, tt)))))

pub doc_send : IsSend (Doc.the_field).row
doc_send = struct_send (fields Doc.the_type) (Mode.the_field_send, (Option.the_field_send _ Text.the_send, (Option.the_field_send _ format_send, (Option.the_field_send _ Text.the_send, (Items.the_send _ rule_send, tt)))))

index_sync : IsSync NodeIxRow.the_row
index_sync = recorded_sync _ _ _ (NodeIxRow.the_type).to_one NodeIx.the_field_sync

words_sync : IsSync (ItemsRow.the_row WordRow.the_row)
words_sync = Items.the_sync _ Word.the_sync

pub node_sync : IsSync Node.the_row
node_sync =
    recorded_sync _ _ _ (Node.the_type).to_one
    (enum_sync (shape Node.the_type) (
      (words_sync, tt),
      (
        (Items.the_sync _ index_sync, tt),
        (
          (Items.the_sync _ index_sync, tt),
          (
            (search sendable, (search sendable, (NodeIx.the_field_sync, tt))),
            ((RuleIx.the_field_sync, tt), ((tag_sync, tt), (tt, (tt, (tt, tt))))),
          ),
        ),
      ),
    ))

pub expansion_sync : IsSync (Expansion.the_field).row
expansion_sync = expansion.sync-Expansion words_sync Items.the_sync (search sendable) (search sendable) Boxed.the_sync Reference.the_field_sync tag_sync

format_sync : IsSync FormatRow.the_row
format_sync = recorded_sync _ _ _ (FormatRow.the_type).to_one Format.the_field_sync

rule_sync : IsSync Rule.the_row
rule_sync = recorded_sync _ _ _ (Rule.the_type).to_one (struct_sync (fields Rule.the_type) (Place.the_field_sync, (search sendable, (Text.the_sync, (expansion_sync, tt)))))

pub doc_sync : IsSync (Doc.the_field).row
doc_sync = struct_sync (fields Doc.the_type) (Mode.the_field_sync, (Option.the_field_sync _ Text.the_sync, (Option.the_field_sync _ format_sync, (Option.the_field_sync _ Text.the_sync, (Items.the_sync _ rule_sync, tt)))))

pub read_doc_send : IsSend ReadDoc.the_row
read_doc_send = search (doc_send, DocFault.the_field_send, sendable) depth 30

pub linked_send : IsSend Linked.the_row
linked_send = search (node_send, Items.the_send, LinkedRule.the_field_send, sendable) depth 30

pub read_doc_sync : IsSync ReadDoc.the_row
read_doc_sync = search (doc_sync, DocFault.the_field_sync, sendable) depth 30

pub linked_sync : IsSync Linked.the_row
linked_sync = search (node_sync, Items.the_sync, LinkedRule.the_field_sync, sendable) depth 30
