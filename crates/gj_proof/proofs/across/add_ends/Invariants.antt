use Rattle.std.proofs.Common.{◌≡◌, ◌||◌, ℕ, nat_eq, take}
use Rattle.std.specs.HashSet.{contains}
use Rattle.gj_base.specs.Ends.{ends, leads_to}
use Rattle.gj_proof.proofs.across.add_ends.Given as goal

abbrev pub invariant-loop-i : goal.invariant-loop-i
invariant-loop-i g l =
    let edges = ends (g.G.Graph.shown l.graph).items l.side l.id l.mask in
    (v : ℕ) → contains nat_eq l.set v ≡ (contains nat_eq l.fn.set v || leads_to (take l.i edges) v)
