use denote.Param.Send.{sendable}
use Rattle.linker.proofs.Crossings.{version_send, version_sync}
use Rattle.linker.proofs.threads.versions_cross.Goals as goal

pub crosses-requires-send-T : goal.crosses-requires-send-T
crosses-requires-send-T c κs = search (version_send, sendable)

pub crosses-requires-sync-T : goal.crosses-requires-sync-T
crosses-requires-sync-T c κs = search (version_sync, sendable)
