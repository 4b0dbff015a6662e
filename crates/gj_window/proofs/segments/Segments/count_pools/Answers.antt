use Rattle.std.proofs.Common.{◌≡◌, ◌∙◌, ◌++◌, length, ap}
use Rattle.gj_base.specs.Ends.{ends}
use Rattle.gj_window.specs.Segments.{Segmented}
use Rattle.gj_window.proofs.PartLemmas.{parts_count}
use Rattle.gj_window.proofs.segments.Segments.count_pools.Goals as goal

pub returns-clause-exact : goal.returns-clause-exact
returns-clause-exact c =
    parts_count c.self.inside.older.items c.self.inside.newest.items c.args.side c.args.id c.args.mask _ _ c.count_in_pool.ensures.exact c.count_in_pool-2.ensures.exact
    ∙ ap (λ (u : Segmented). length (ends (u.older ++ u.newest) c.args.side c.args.id c.args.mask)) c.self.view_is
