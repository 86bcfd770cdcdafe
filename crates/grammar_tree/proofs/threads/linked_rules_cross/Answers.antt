use denote.Param.Send.{sendable}
use Rattle.grammar_tree.proofs.Crossings.{linked_send, linked_sync}
use Rattle.grammar_tree.proofs.threads.linked_rules_cross.Goals as goal

pub crosses-requires-send-T : goal.crosses-requires-send-T
crosses-requires-send-T c κs = search (linked_send, sendable)

pub crosses-requires-sync-T : goal.crosses-requires-sync-T
crosses-requires-sync-T c κs = search (linked_sync, sendable)
