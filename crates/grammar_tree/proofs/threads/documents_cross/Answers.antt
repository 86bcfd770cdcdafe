use denote.Param.Send.{sendable}
use Rattle.grammar_tree.proofs.Crossings.{doc_send, doc_sync, read_doc_send, read_doc_sync}
use Rattle.grammar_tree.proofs.threads.documents_cross.Goals as goal

pub crosses-requires-send-T : goal.crosses-requires-send-T
crosses-requires-send-T c κs = search (doc_send, sendable)

pub crosses-requires-sync-T : goal.crosses-requires-sync-T
crosses-requires-sync-T c κs = search (doc_sync, sendable)

pub crosses-requires-2-send-T : goal.crosses-requires-2-send-T
crosses-requires-2-send-T c κs = search (read_doc_send, sendable)

pub crosses-requires-2-sync-T : goal.crosses-requires-2-sync-T
crosses-requires-2-sync-T c κs = search (read_doc_sync, sendable)
