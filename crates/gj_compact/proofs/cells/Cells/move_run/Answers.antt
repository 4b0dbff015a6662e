use Rattle.std.proofs.Common.{◌≡◌, ◌+◌, ℕ, List, length, take, drop, ap, sym, ◌∙◌, arith}
use Rattle.std.proofs.lemmas.List.{with_items_is}
use Rattle.gj_base.specs.declared.kind.Kind.{Kind}
use Rattle.gj_compact.specs.Cells.{Celled}
use Rattle.gj_compact.proofs.CellLemmas.{length-joined, run-joined, front-joined, back-joined}
use Rattle.gj_compact.proofs.cells.Cells.move_run.Goals as goal

pub move_part-requires-clause-to : goal.move_part-requires-clause-to
move_part-requires-clause-to c =
    let long = length-joined c.self.inside.vertices.items c.self.inside.kinds.items c.self.inside.moments.items c.self.invariant.kinds c.self.invariant.moments in
    omega (arith, c.requires.to, ap (λ (x : Celled). length x.ends) c.self.view_is, long, ap length c.deref_mut.ensures.value)

pub move_part-requires-clause-from : goal.move_part-requires-clause-from
move_part-requires-clause-from c =
    let long = length-joined c.self.inside.vertices.items c.self.inside.kinds.items c.self.inside.moments.items c.self.invariant.kinds c.self.invariant.moments in
    omega (arith, c.requires.from, ap (λ (x : Celled). length x.ends) c.self.view_is, long, ap length c.deref_mut.ensures.value)

pub move_part-requires-2-clause-to : goal.move_part-requires-2-clause-to
move_part-requires-2-clause-to c =
    let long = length-joined c.self.inside.vertices.items c.self.inside.kinds.items c.self.inside.moments.items c.self.invariant.kinds c.self.invariant.moments in
    omega (arith, c.requires.to, ap (λ (x : Celled). length x.ends) c.self.view_is, long, c.self.invariant.kinds, ap length c.deref_mut-2.ensures.value)

pub move_part-requires-2-clause-from : goal.move_part-requires-2-clause-from
move_part-requires-2-clause-from c =
    let long = length-joined c.self.inside.vertices.items c.self.inside.kinds.items c.self.inside.moments.items c.self.invariant.kinds c.self.invariant.moments in
    omega (arith, c.requires.from, ap (λ (x : Celled). length x.ends) c.self.view_is, long, c.self.invariant.kinds, ap length c.deref_mut-2.ensures.value)

pub move_part-requires-3-clause-to : goal.move_part-requires-3-clause-to
move_part-requires-3-clause-to c =
    let long = length-joined c.self.inside.vertices.items c.self.inside.kinds.items c.self.inside.moments.items c.self.invariant.kinds c.self.invariant.moments in
    omega (arith, c.requires.to, ap (λ (x : Celled). length x.ends) c.self.view_is, long, c.self.invariant.moments, ap length c.deref_mut-3.ensures.value)

pub move_part-requires-3-clause-from : goal.move_part-requires-3-clause-from
move_part-requires-3-clause-from c =
    let long = length-joined c.self.inside.vertices.items c.self.inside.kinds.items c.self.inside.moments.items c.self.invariant.kinds c.self.invariant.moments in
    omega (arith, c.requires.from, ap (λ (x : Celled). length x.ends) c.self.view_is, long, c.self.invariant.moments, ap length c.deref_mut-3.ensures.value)

pub returns-clause-copied : goal.returns-clause-copied
returns-clause-copied c =
    let vs : List ℕ = c.move_part.new.column in
    let ks : List Kind = c.move_part-2.new.column in
    let ats : List ℕ = c.move_part-3.new.column in
    let evs = with_items_is c.self.inside.vertices vs (omega (arith, c.move_part.auto.column, c.deref_mut.ensures.len)) in
    let eks = with_items_is c.self.inside.kinds ks (omega (arith, c.move_part-2.auto.column, c.deref_mut-2.ensures.len)) in
    let eats = with_items_is c.self.inside.moments ats (omega (arith, c.move_part-3.auto.column, c.deref_mut-3.ensures.len)) in
    rw (evs, eks, eats) (
    run-joined c.self.inside.vertices.items vs c.self.inside.kinds.items ks c.self.inside.moments.items ats c.args.to c.args.from c.args.len
    (c.move_part.ensures.copied ∙ ap (λ (l : List ℕ). take c.args.len (drop c.args.from l)) c.deref_mut.ensures.value)
    (c.move_part-2.ensures.copied ∙ ap (λ (l : List Kind). take c.args.len (drop c.args.from l)) c.deref_mut-2.ensures.value)
    (c.move_part-3.ensures.copied ∙ ap (λ (l : List ℕ). take c.args.len (drop c.args.from l)) c.deref_mut-3.ensures.value)
    ∙ ap (λ (x : Celled). take c.args.len (drop c.args.from x.ends)) c.self.view_is)

pub returns-clause-before : goal.returns-clause-before
returns-clause-before c =
    let vs : List ℕ = c.move_part.new.column in
    let ks : List Kind = c.move_part-2.new.column in
    let ats : List ℕ = c.move_part-3.new.column in
    let evs = with_items_is c.self.inside.vertices vs (omega (arith, c.move_part.auto.column, c.deref_mut.ensures.len)) in
    let eks = with_items_is c.self.inside.kinds ks (omega (arith, c.move_part-2.auto.column, c.deref_mut-2.ensures.len)) in
    let eats = with_items_is c.self.inside.moments ats (omega (arith, c.move_part-3.auto.column, c.deref_mut-3.ensures.len)) in
    rw (evs, eks, eats) (
    front-joined c.self.inside.vertices.items vs c.self.inside.kinds.items ks c.self.inside.moments.items ats c.args.to
    (c.move_part.ensures.before ∙ ap (take c.args.to) c.deref_mut.ensures.value)
    (c.move_part-2.ensures.before ∙ ap (take c.args.to) c.deref_mut-2.ensures.value)
    (c.move_part-3.ensures.before ∙ ap (take c.args.to) c.deref_mut-3.ensures.value)
    ∙ ap (λ (x : Celled). take c.args.to x.ends) c.self.view_is)

pub returns-clause-after : goal.returns-clause-after
returns-clause-after c =
    let vs : List ℕ = c.move_part.new.column in
    let ks : List Kind = c.move_part-2.new.column in
    let ats : List ℕ = c.move_part-3.new.column in
    let evs = with_items_is c.self.inside.vertices vs (omega (arith, c.move_part.auto.column, c.deref_mut.ensures.len)) in
    let eks = with_items_is c.self.inside.kinds ks (omega (arith, c.move_part-2.auto.column, c.deref_mut-2.ensures.len)) in
    let eats = with_items_is c.self.inside.moments ats (omega (arith, c.move_part-3.auto.column, c.deref_mut-3.ensures.len)) in
    let at : ℕ = c.args.to + c.args.len in
    rw (evs, eks, eats) (
    back-joined c.self.inside.vertices.items vs c.self.inside.kinds.items ks c.self.inside.moments.items ats at
    (c.move_part.ensures.after ∙ ap (drop at) c.deref_mut.ensures.value)
    (c.move_part-2.ensures.after ∙ ap (drop at) c.deref_mut-2.ensures.value)
    (c.move_part-3.ensures.after ∙ ap (drop at) c.deref_mut-3.ensures.value)
    ∙ ap (λ (x : Celled). drop at x.ends) c.self.view_is)

pub returns-clause-long : goal.returns-clause-long
returns-clause-long c =
    let vs : List ℕ = c.move_part.new.column in
    let ks : List Kind = c.move_part-2.new.column in
    let ats : List ℕ = c.move_part-3.new.column in
    let evs = with_items_is c.self.inside.vertices vs (omega (arith, c.move_part.auto.column, c.deref_mut.ensures.len)) in
    let eks = with_items_is c.self.inside.kinds ks (omega (arith, c.move_part-2.auto.column, c.deref_mut-2.ensures.len)) in
    let eats = with_items_is c.self.inside.moments ats (omega (arith, c.move_part-3.auto.column, c.deref_mut-3.ensures.len)) in
    let was = length-joined c.self.inside.vertices.items c.self.inside.kinds.items c.self.inside.moments.items c.self.invariant.kinds c.self.invariant.moments in
    let lv : length vs ≡ length c.self.inside.vertices.items = omega (arith, c.move_part.auto.column, ap length c.deref_mut.ensures.value) in
    let lk : length ks ≡ length c.self.inside.kinds.items = omega (arith, c.move_part-2.auto.column, ap length c.deref_mut-2.ensures.value) in
    let la : length ats ≡ length c.self.inside.moments.items = omega (arith, c.move_part-3.auto.column, ap length c.deref_mut-3.ensures.value) in
    rw (evs, eks, eats) (length-joined vs ks ats (lk ∙ (c.self.invariant.kinds ∙ sym lv)) (la ∙ (c.self.invariant.moments ∙ sym lv)) ∙ (lv ∙ (sym was ∙ ap (λ (x : Celled). length x.ends) c.self.view_is)))
