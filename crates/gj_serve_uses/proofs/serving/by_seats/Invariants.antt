use Rattle.std.proofs.Common.{false}
use Rattle.gj_serve.specs.MemoryDoors.{faults_at}
use Rattle.gj_serve_uses.proofs.serving.by_seats.Given as goal

abbrev pub ghosts-over_door-T-Stating : goal.ghosts-over_door-T-Stating
ghosts-over_door-T-Stating g a = record { stated = 2; opening = faults_at a.door; steady = false; passes = 2 }

abbrev pub ghosts-over_door-T-Ledger : goal.ghosts-over_door-T-Ledger
ghosts-over_door-T-Ledger g a = record { name = a.tickets.taken.name; parts = a.tickets.taken.parts }

abbrev pub ghosts-over_door-B-Ledger : goal.ghosts-over_door-B-Ledger
ghosts-over_door-B-Ledger g a = record { name = a.tickets.out.name; parts = a.tickets.out.parts }

abbrev pub ghosts-over_door-O-Ledger : goal.ghosts-over_door-O-Ledger
ghosts-over_door-O-Ledger g a = record { name = a.tickets.overs.name; parts = a.tickets.overs.parts }

abbrev pub ghosts-over_door-E-Ledger : goal.ghosts-over_door-E-Ledger
ghosts-over_door-E-Ledger g a = record { name = a.tickets.entered.name; parts = a.tickets.entered.parts }
