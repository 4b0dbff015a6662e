use denote.Param.Send.{sendable}
use Rattle.graphjet.proofs.SendLemmas.{file_keeper_send}
use Rattle.graphjet.proofs.serve.Goals as goal

pub run_serve-status-requires-send-P-Kept : goal.run_serve-status-requires-send-P-Kept
run_serve-status-requires-send-P-Kept g c κs within = search (sendable, file_keeper_send) depth 9
