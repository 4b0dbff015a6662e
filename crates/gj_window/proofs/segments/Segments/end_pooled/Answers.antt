use Rattle.std.proofs.Common.{◌≡◌, ◌<◌, ◌≤◌, ◌∙◌, ◌++◌, ℕ, length, slice_get, Some, ap, sym, subst}
use Rattle.gj_base.specs.Ends.{ends}
use Rattle.gj_window.specs.Segments.{Segmented}
use Rattle.gj_window.proofs.PartLemmas.{parts_left, parts_right, parts_rest}
use Rattle.gj_window.proofs.segments.Segments.end_pooled.Goals as goal

pub end_in-requires-else-i-before : goal.end_in-requires-else-i-before
end_in-requires-else-i-before c =
    let s = c.self.inside in
    let P : ℕ → Type 0 = λ n. c.args.i < n in
    parts_rest s.older.items s.newest.items c.args.side c.args.id c.args.mask c.args.i _ c.count_in_pool-before.ensures.exact c.if-i-before.false
    (subst P (sym (ap (λ (u : Segmented). length (ends (u.older ++ u.newest) c.args.side c.args.id c.args.mask)) c.self.view_is)) c.requires)

pub returns-then-i-before : goal.returns-then-i-before
returns-then-i-before c =
    let s = c.self.inside in
    sym (ap (λ (u : Segmented). slice_get (ends (u.older ++ u.newest) c.args.side c.args.id c.args.mask) c.args.i) c.self.view_is)
    ∙ parts_left s.older.items s.newest.items c.args.side c.args.id c.args.mask c.args.i _ c.end_in.ensures

pub returns-else-i-before : goal.returns-else-i-before
returns-else-i-before c =
    let s = c.self.inside in
    sym (ap (λ (u : Segmented). slice_get (ends (u.older ++ u.newest) c.args.side c.args.id c.args.mask) c.args.i) c.self.view_is)
    ∙ parts_right s.older.items s.newest.items c.args.side c.args.id c.args.mask c.args.i _ _ c.count_in_pool-before.ensures.exact c.if-i-before.false c.end_in-else-i-before.ensures
