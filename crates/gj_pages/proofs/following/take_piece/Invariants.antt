use Rattle.std.proofs.Common.{◌≡◌, ℕ, ◌++◌, List, length}
use Rattle.gj_base.specs.declared.history.Shown.{Shown}
use Rattle.gj_pages.specs.Loop.{GoesOn}
use Rattle.gj_base.specs.Streams.{Outgoing, outgoing}
use Rattle.gj_pages.proofs.following.take_piece.Given as goal

abbrev pub invariant-lines : goal.invariant-lines
invariant-lines g l = (done : List ℕ) × (l.piece ≡ done ++ l.rest)
    × ((a : Shown) (o : Outgoing) (bytes : List ℕ)
    → GoesOn a l.fn.follower o (outgoing (g.O.Sink.tells l.fn.out) (g.O.Sink.written l.fn.out) (g.O.Sink.faults l.fn.out) (g.O.Sink.sure l.fn.out)) bytes l.fn.line
    → GoesOn a l.follower o (outgoing (g.O.Sink.tells l.out) (g.O.Sink.written l.out) (g.O.Sink.faults l.out) (g.O.Sink.sure l.out)) (bytes ++ done) l.line)

abbrev pub decreases-lines : goal.decreases-lines
decreases-lines g l = length l.rest
