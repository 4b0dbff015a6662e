use Rattle.std.proofs.Common.{◌≡◌, sym, subst}
use Rattle.gj_base.specs.declared.history.Shown.{Shown}
use Rattle.gj_base.specs.History.{IsWindow, StandsFor, empty_shown, end_of}
use Rattle.gj_follow.specs.Follows.{part}
use Rattle.gj_follow.proofs.FollowLemmas.{none_stands}
use Rattle.gj_follow.proofs.follower.Follower.new.Goals as goal

pub returns-clause-stands : goal.returns-clause-stands
returns-clause-stands g c h =
    let empty : g.W.Graph.shown c.in_ok-graph.graph ≡ empty_shown c.args.conf c.args.start = c.in_ok-graph.ensures in
    let P : Shown → Type 0 = λ w. StandsFor w (part h c.args.start (end_of w)) in
    subst P (sym empty) (none_stands c.args.conf c.args.start h (subst IsWindow empty (g.met.W.Graph.is_window c.in_ok-graph.graph)))
