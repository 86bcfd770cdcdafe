-- Linked rules go from thread to thread, and are shared by them.
use denote.Param.Send.{sendable}
use Rattle.grammar_tree.proofs.Crossings.{linked_send, linked_sync}
use Rattle.worked_rows.proofs.tests.rules_on_a_shelf.threads_share_a_shelf_of_rules.Goals as goal

pub publish_beside-requires-send-V : goal.publish_beside-requires-send-V
publish_beside-requires-send-V g c κs = search (linked_send, sendable) depth 30

pub publish_beside-requires-sync-V : goal.publish_beside-requires-sync-V
publish_beside-requires-sync-V g c κs = search (linked_sync, sendable) depth 30
