use Rattle.std.proofs.Common.{◌≡◌, ◌-◌, ℕ, List, length, take, drop, count_by, ap, sym, ◌∙◌, arith}
use Rattle.gj_base.specs.declared.kind.Kind.{Kind}
use Rattle.gj_base.specs.Kinds.{has_kind}
use Rattle.gj_compact.specs.declared.edge.End.{End}
use Rattle.gj_compact.specs.Cells.{Celled}
use Rattle.gj_compact.proofs.CellLemmas.{length-joined}
use Rattle.gj_compact.proofs.SpanLemmas.{AreColumns, count_ever}
use Rattle.gj_compact.proofs.cells.Cells.scan_count.Goals as goal

pub count_between-requires-clause-inside : goal.count_between-requires-clause-inside
count_between-requires-clause-inside c =
    let vs : List ℕ = c.self.inside.vertices.items in
    let ks : List Kind = c.self.inside.kinds.items in
    let ats : List ℕ = c.self.inside.moments.items in
    let cells : List End = c.args.self.now.ends in
    let long : length ks ≡ length cells = c.self.invariant.kinds ∙ (sym (length-joined vs ks ats c.self.invariant.kinds c.self.invariant.moments) ∙ ap (λ (x : Celled). length x.ends) c.self.view_is) in
    omega (arith, c.requires.inside, long, ap length c.deref.ensures.value)

pub returns-then-not_before-eq0-clause-exact : goal.returns-then-not_before-eq0-clause-exact
returns-then-not_before-eq0-clause-exact c =
    let vs : List ℕ = c.self.inside.vertices.items in
    let ks : List Kind = c.self.inside.kinds.items in
    let ats : List ℕ = c.self.inside.moments.items in
    let cells : List End = c.args.self.now.ends in
    let ever : c.args.mask.not_before ≡ 0 = sym c.not_before.ensures.exact ∙ c.if-not_before-eq0.true in
    let columns : AreColumns vs ks ats cells = record { view = (ap (λ (x : Celled). x.ends) c.self.view_is); kinds = c.self.invariant.kinds; moments = c.self.invariant.moments } in
    c.count_between.ensures.exact
    ∙ (ap (λ (l : List Kind). count_by (has_kind c.args.mask) (take (c.args.to - c.args.from) (drop c.args.from l))) c.deref.ensures.value
    ∙ sym (count_ever c.args.mask vs ks ats cells c.args.from c.args.to columns ever))
