use Rattle.gj_service.proofs.opened.serve_index.Given as goal

-- the ledgers that were just made, and what the door is like as it opens
abbrev pub ghosts-serve_listening-T-Stating : goal.ghosts-serve_listening-T-Stating
ghosts-serve_listening-T-Stating g a = record { stated = a.plan.sessions; opening = g.D.Door.faults a.door; steady = g.D.Door.steady a.door; passes = a.plan.workers }

abbrev pub ghosts-serve_listening-T-Ledger : goal.ghosts-serve_listening-T-Ledger
ghosts-serve_listening-T-Ledger g a = record { name = a.tickets.taken.name; parts = a.tickets.taken.parts }

abbrev pub ghosts-serve_listening-B-Ledger : goal.ghosts-serve_listening-B-Ledger
ghosts-serve_listening-B-Ledger g a = record { name = a.tickets.out.name; parts = a.tickets.out.parts }

abbrev pub ghosts-serve_listening-O-Ledger : goal.ghosts-serve_listening-O-Ledger
ghosts-serve_listening-O-Ledger g a = record { name = a.tickets.overs.name; parts = a.tickets.overs.parts }

abbrev pub ghosts-serve_listening-E-Ledger : goal.ghosts-serve_listening-E-Ledger
ghosts-serve_listening-E-Ledger g a = record { name = a.tickets.entered.name; parts = a.tickets.entered.parts }
