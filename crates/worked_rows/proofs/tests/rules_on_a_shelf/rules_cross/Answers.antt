-- A shelf crosses threads as its rules do.
use denote.Param.Send.{sendable}
use Rattle.version_shelf.proofs.shelf.Shelf.TheSendSync as Shelf
use Rattle.grammar_tree.proofs.Crossings.{linked_send, linked_sync}
use Rattle.worked_rows.proofs.tests.rules_on_a_shelf.rules_cross.Goals as goal

pub crosses-requires-send-T : goal.crosses-requires-send-T
crosses-requires-send-T c κs = search (linked_send, linked_sync, Shelf.the_send, sendable) depth 30

pub crosses-requires-sync-T : goal.crosses-requires-sync-T
crosses-requires-sync-T c κs = search (linked_send, linked_sync, Shelf.the_sync, sendable) depth 30
