use denote.Param.Send.{sendable}
use Rattle.std.proofs.Crossing.{crosses}
use Rattle.hs_node.proofs.Threads.{node_send, node_sync}
use Rattle.hs_node.proofs.shared.derivations_are_shared.Goals as goal

pub is_shared-requires-4-send-T : goal.is_shared-requires-4-send-T
is_shared-requires-4-send-T c κs = search (sendable, crosses, node_send) depth 20 fits 5000

pub is_shared-requires-4-sync-T : goal.is_shared-requires-4-sync-T
is_shared-requires-4-sync-T c κs = search (sendable, crosses, node_sync) depth 20 fits 5000

pub is_shared-requires-5-send-T : goal.is_shared-requires-5-send-T
is_shared-requires-5-send-T c κs = search (sendable, crosses, node_send) depth 20 fits 5000

pub is_shared-requires-5-sync-T : goal.is_shared-requires-5-sync-T
is_shared-requires-5-sync-T c κs = search (sendable, crosses, node_sync) depth 20 fits 5000
