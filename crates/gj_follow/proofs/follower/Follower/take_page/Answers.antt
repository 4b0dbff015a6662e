use Rattle.std.proofs.Common.{◌≡◌, ap, ◌∙◌, sym, subst}
use Rattle.gj_base.specs.declared.history.Shown.{Shown}
use Rattle.gj_base.specs.History.{IsWindow, end_of, StandsFor}
use Rattle.gj_follow.specs.Follows.{after_page, part, reach_one}
use Rattle.gj_follow.proofs.FollowLemmas.{after_end, after_stands, reach_later}
use Rattle.gj_follow.proofs.follower.Follower.take_page.Goals as goal

pub returns-clause-end : goal.returns-clause-end
returns-clause-end g c =
    let same : g.W.Graph.shown c.self.inside.graph ≡ c.args.self.now = c.self.view_is in
    let is : IsWindow c.args.self.now = subst IsWindow same c.self.invariant in
    let shows : g.W.Graph.shown c.add_news.new.graph ≡ after_page c.args.self.now c.args.page.now = c.add_news.ensures.shows ∙ ap (λ (w : Shown). after_page w c.args.page.now) same in
    ap end_of shows ∙ after_end c.args.self.now c.args.page.now is

pub returns-clause-later : goal.returns-clause-later
returns-clause-later g c =
    let same : g.W.Graph.shown c.self.inside.graph ≡ c.args.self.now = c.self.view_is in
    let is : IsWindow c.args.self.now = subst IsWindow same c.self.invariant in
    let shows : g.W.Graph.shown c.add_news.new.graph ≡ after_page c.args.self.now c.args.page.now = c.add_news.ensures.shows ∙ ap (λ (w : Shown). after_page w c.args.page.now) same in
    rw (ap end_of shows ∙ after_end c.args.self.now c.args.page.now is) (reach_later (end_of c.args.self.now) c.args.page.now)

pub returns-clause-stands : goal.returns-clause-stands
returns-clause-stands g c h start first of stands =
    let same : g.W.Graph.shown c.self.inside.graph ≡ c.args.self.now = c.self.view_is in
    let is : IsWindow c.args.self.now = subst IsWindow same c.self.invariant in
    let shows : g.W.Graph.shown c.add_news.new.graph ≡ after_page c.args.self.now c.args.page.now = c.add_news.ensures.shows ∙ ap (λ (w : Shown). after_page w c.args.page.now) same in
    let P : Shown → Type 0 = λ w. StandsFor w (part h start (reach_one (end_of c.args.self.now) c.args.page.now)) in
    subst P (sym shows) (after_stands c.args.self.now h start c.args.page.now is first of stands)
