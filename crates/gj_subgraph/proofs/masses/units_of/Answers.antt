use Rattle.std.proofs.Common.{◌≡◌, ◌+◌, ◌-◌, ◌*◌, suc, sum, ◌∙◌, ap, sym, arith, rules, length}
use Rattle.std.proofs.lemmas.List.Folds.{sum_by-replicate}
use Rattle.gj_subgraph.specs.Masses.{spread, starting, half_step}
use Rattle.gj_subgraph.specs.Numbers.{units_in}
use Rattle.gj_subgraph.proofs.MassLemmas.{spread_one, spread_none, start_is}
use Rattle.gj_subgraph.proofs.masses.units_of.Goals as goal

pub loop-i-init : goal.loop-i-init
loop-i-init c =
    let users = c.args.users.now in
    let posts = c.args.posts.now in
    let begun = c.as_slice.ensures.value ∙ c.in_ok-start.ensures.exact in
    let total = ap (λ xs. sum xs) begun ∙ sum_by-replicate (λ x. x) c.len.result 1048576 in
    let named : c.len.result ≡ length users.names.items = search rules in
    let first = start_is users.side.items users.names.items c.as_slice.result.now c.len.result c.requires.users.names named begun in
    let units = c.in_ok-units.ensures.exact ∙ ap (λ f. half_step users.side.items posts.side.items f) first in
    record {
      len = c.in_ok-units.ensures.len;
      small = omega (arith, total, c.in_ok-units.ensures.kept, c.requires.few, c.len.ensures);
      left = ap (λ f. spread (2 * (c.args.iterations - 1)) posts.side.items users.side.items f) units
          ∙ sym (spread_one (2 * c.args.iterations - 1) (2 * (c.args.iterations - 1)) users.side.items posts.side.items (starting users.side.items) (omega arith));
    }

pub loop-i-preserved : goal.loop-i-preserved
loop-i-preserved c =
    let users = c.args.users.now in
    let posts = c.args.posts.now in
    let n = c.args.iterations - (c.loop-i._i + 1) in
    let back = c.in_ok-back.ensures.exact ∙ ap (λ xs. half_step posts.side.items users.side.items (units_in posts.names.items xs)) c.as_slice-in-loop-i.ensures.value in
    let units = c.in_ok-units-2.ensures.exact ∙ ap (λ xs. half_step users.side.items posts.side.items (units_in users.names.items xs)) c.as_slice-in-loop-i-2.ensures.value
    ∙ ap (λ f. half_step users.side.items posts.side.items f) back in
    let before = units_in posts.names.items c.loop-i.units.items in
    let two = spread_one (2 * (c.args.iterations - c.loop-i._i)) (suc (2 * n)) posts.side.items users.side.items before (omega arith) in
    let one = spread_one (suc (2 * n)) (2 * n) users.side.items posts.side.items (half_step posts.side.items users.side.items before) (omega arith) in
    let same = ap (λ xs. sum xs) c.as_slice-in-loop-i.ensures.value in
    let same_back = ap (λ xs. sum xs) c.as_slice-in-loop-i-2.ensures.value in
    record {
      len = c.in_ok-units-2.ensures.len;
      small = omega (arith, same, same_back, c.in_ok-back.ensures.kept, c.in_ok-units-2.ensures.kept, c.loop-i.invariant.small);
      left = ap (λ f. spread (2 * n) posts.side.items users.side.items f) units ∙ sym one ∙ sym two ∙ c.loop-i.invariant.left;
    }

pub returns-clause-exact : goal.returns-clause-exact
returns-clause-exact c =
    let none : 2 * (c.args.iterations - c.loop-i._i) ≡ 0 = omega arith in
    sym (spread_none (2 * (c.args.iterations - c.loop-i._i)) c.args.posts.now.side.items c.args.users.now.side.items (units_in c.args.posts.now.names.items c.loop-i.units.items) none)
    ∙ c.loop-i.invariant.left
