use denote.Param.Send.{sendable}
use Rattle.grammar_tree.proofs.Crossings.{node_send, node_sync}
use Rattle.grammar_tree.proofs.threads.nodes_cross.Goals as goal

pub crosses-requires-send-T : goal.crosses-requires-send-T
crosses-requires-send-T c κs = search (node_send, sendable)

pub crosses-requires-sync-T : goal.crosses-requires-sync-T
crosses-requires-sync-T c κs = search (node_sync, sendable)
