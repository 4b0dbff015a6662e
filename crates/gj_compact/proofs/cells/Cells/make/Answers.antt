use Rattle.std.proofs.Common.{◌≡◌, ◌≤◌, length, take, ap, arith, sym, ◌∙◌}
use Rattle.gj_base.specs.declared.kind.Kind.TheVariants.{Click}
use Rattle.gj_compact.specs.Cells.{Celled, joined}
use Rattle.gj_compact.proofs.CellLemmas.{length-joined, front-joined, front_fits}
use Rattle.gj_compact.proofs.cells.Cells.make.Goals as goal

pub returns-clause-front : goal.returns-clause-front
returns-clause-front c = λ n less inside.
    let vs = c.self.inside.vertices.items in
    let ks = c.self.inside.kinds.items in
    let ats = c.self.inside.moments.items in
    let long : length (joined vs ks ats) ≡ length vs = length-joined vs ks ats c.self.invariant.kinds c.self.invariant.moments in
    let in_vs : n ≤ length vs = omega (arith, inside, long, ap (λ (x : Celled). length x.ends) c.self.view_is) in
    front-joined vs c.fit.new.column.items ks c.fit-2.new.column.items ats c.fit-3.new.column.items n
    (front_fits vs c.fit.new.column.items 0 c.args.count n c.fit.ensures.items less in_vs)
    (front_fits ks c.fit-2.new.column.items Click c.args.count n c.fit-2.ensures.items less (omega (arith, in_vs, c.self.invariant.kinds)))
    (front_fits ats c.fit-3.new.column.items 0 c.args.count n c.fit-3.ensures.items less (omega (arith, in_vs, c.self.invariant.moments)))
    ∙ ap (λ (x : Celled). take n x.ends) c.self.view_is

pub returns-clause-long : goal.returns-clause-long
returns-clause-long c = length-joined c.fit.new.column.items c.fit-2.new.column.items c.fit-3.new.column.items (c.fit-2.ensures.len ∙ sym c.fit.ensures.len) (c.fit-3.ensures.len ∙ sym c.fit.ensures.len) ∙ c.fit.ensures.len
