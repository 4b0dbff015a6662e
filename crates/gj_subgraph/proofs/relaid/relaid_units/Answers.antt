use Rattle.std.proofs.Common.{rules, ◌≡◌, ◌+◌, ◌-◌, ◌*◌, suc, sum, ◌∙◌, ap, sym, arith, length}
use Rattle.std.proofs.lemmas.List.Folds.{sum_by-replicate}
use Rattle.gj_subgraph.specs.Masses.{spread, starting, half_step}
use Rattle.gj_subgraph.specs.Numbers.{units_in}
use Rattle.gj_subgraph.proofs.MassLemmas.{spread_one, spread_none, start_is}
use Rattle.gj_subgraph.proofs.RegroupLemmas.{half_step_same}
use Rattle.gj_subgraph.proofs.RelaidLemmas.{known_name, names_same, same_posts, same_users, same_start}
use Rattle.gj_subgraph.proofs.relaid.relaid_units.Goals as goal

pub matched-requires-clause-known : goal.matched-requires-clause-known
matched-requires-clause-known c =
    let users = c.args.users.now in
    let posts = c.args.posts.now in
    let back_posts = c.args.back_posts.now in
    let back_users = c.args.back_users.now in
    known_name posts.names.items back_posts.names.items
    (names_same posts.side.items posts.names.items back_posts.side.items back_posts.names.items c.requires.posts.names c.requires.back_posts.names
    (λ v. same_posts users.side.items posts.side.items back_posts.side.items back_users.side.items v c.requires.relaid))

pub matched-requires-2-clause-known : goal.matched-requires-2-clause-known
matched-requires-2-clause-known c =
    let users = c.args.users.now in
    let posts = c.args.posts.now in
    let back_posts = c.args.back_posts.now in
    let back_users = c.args.back_users.now in
    known_name back_users.names.items users.names.items
    (λ v. sym (names_same users.side.items users.names.items back_users.side.items back_users.names.items c.requires.users.names c.requires.back_users.names
    (λ v. same_users users.side.items posts.side.items back_posts.side.items back_users.side.items v c.requires.relaid) v))

pub loop-i-init : goal.loop-i-init
loop-i-init c =
    let users = c.args.users.now in
    let posts = c.args.posts.now in
    let begun = c.as_slice.ensures.value ∙ c.in_ok-start.ensures.exact in
    let total = ap (λ xs. sum xs) begun ∙ sum_by-replicate (λ x. x) c.len.result 1048576 in
    let named : c.len.result ≡ length users.names.items = search rules in
    let first = start_is users.side.items users.names.items c.as_slice.result.now c.len.result c.requires.users.names named begun in
    let units = c.in_ok-units.ensures.exact ∙ ap (λ f. half_step users.side.items posts.side.items f) first in
    record {
      len = c.in_ok-units.ensures.len;
      small = omega (arith, total, c.in_ok-units.ensures.kept, c.requires.few, c.len.ensures);
      left = λ near far by_users by_posts.
          ap (λ f. spread (2 * (c.args.iterations - 1)) far near f)
          (units ∙ half_step_same users.side.items posts.side.items near far (starting users.side.items) by_users
          ∙ ap (λ f. half_step near far f) (same_start users.side.items posts.side.items near far by_users))
          ∙ sym (spread_one (2 * c.args.iterations - 1) (2 * (c.args.iterations - 1)) near far (starting near) (omega arith));
    }

pub loop-i-preserved : goal.loop-i-preserved
loop-i-preserved c =
    let n = c.args.iterations - (c.loop-i._i + 1) in
    let same = ap (λ xs. sum xs) c.as_slice-in-loop-i-3.ensures.value in
    record {
      len = c.in_ok-units-2.ensures.len;
      small = omega (arith, same, c.in_ok-units-2.ensures.kept, c.loop-i.invariant.small);
      left = λ near far by_users by_posts.
          let before = units_in c.args.posts.now.names.items c.loop-i.units.items in
          let units = c.in_ok-units-2.ensures.exact near far by_users by_posts
          ∙ ap (λ xs. half_step near far (half_step far near (units_in c.args.posts.now.names.items xs))) c.as_slice-in-loop-i-3.ensures.value in
          let two = spread_one (2 * (c.args.iterations - c.loop-i._i)) (suc (2 * n)) far near before (omega arith) in
          let one = spread_one (suc (2 * n)) (2 * n) near far (half_step far near before) (omega arith) in
          ap (λ f. spread (2 * n) far near f) units ∙ sym one ∙ sym two ∙ c.loop-i.invariant.left near far by_users by_posts;
    }

pub returns-clause-exact : goal.returns-clause-exact
returns-clause-exact c = λ near far by_users by_posts.
    let none : 2 * (c.args.iterations - c.loop-i._i) ≡ 0 = omega arith in
    sym (spread_none (2 * (c.args.iterations - c.loop-i._i)) far near (units_in c.args.posts.now.names.items c.loop-i.units.items) none)
    ∙ c.loop-i.invariant.left near far by_users by_posts
