use Rattle.std.proofs.Common.{◌≡◌, ℕ, ◌<◌, List, length, slice_index_or, rules, arith, subst}
use Rattle.gj_serve.specs.Passes.{DeskServed}
use Rattle.gj_serve.proofs.GivenLemmas.{are_served_later}
use Rattle.gj_serve.specs.declared.desks.Desk.{Desk}
use Rattle.gj_service.specs.Desks.{IsServedDesk}
use Rattle.gj_service.proofs.DeskLemmas.{all_changed}
use Rattle.gj_service.proofs.closing.serve_desks.Goals as goal

pub clear-passes-requires-clause-served : goal.clear-passes-requires-clause-served
clear-passes-requires-clause-served g c =
    let X : Type 0 = Desk g.row.W.Denot g.row.J.Denot g.row.T.Denot g.row.B.Denot g.row.O.Denot g.row.E.Denot in
    let old : List X = c.args.desks.items in
    let new : List X = c.serve_all.new.desks in
    let same : length new ≡ length old = search rules in
    let all : c.args.desks.len ≡ length old = search rules in
    let served : (i : ℕ) (d : X) → i < length old → DeskServed (slice_index_or old i d).seat (slice_index_or new i d).seat (slice_index_or new i d).pass
    = subst (λ (xs : List X). (i : ℕ) (d : X) → i < length xs → DeskServed (slice_index_or xs i d).seat (slice_index_or new i d).seat (slice_index_or new i d).pass)
    c.as_mut_slice.ensures.value c.serve_all.ensures in
    all_changed (λ (d : X). IsServedDesk d.seat.posted d.pass) old new c.args.desks.len all same
    (λ k d lt. (
    let s = served k d lt in
    let fresh = c.requires.fresh k d lt in
    record { all_back = s.all_back; told = s.told; entered = omega (arith, s.entered, fresh.posted) }))

pub returns-clause-given : goal.returns-clause-given
returns-clause-given g c =
    are_served_later _ _ _ _ _ _ _ _ _ _ _ _ c.confirm.ensures.begins c.into_door-door.ensures.given
