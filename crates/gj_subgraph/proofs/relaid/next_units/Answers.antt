use Rattle.std.proofs.Common.{◌∙◌, ap, sym, arith, sum, length}
use Rattle.gj_subgraph.specs.Masses.{half_step}
use Rattle.gj_subgraph.specs.Numbers.{units_in}
use Rattle.gj_subgraph.proofs.RegroupLemmas.{half_step_same}
use Rattle.gj_subgraph.proofs.RelaidLemmas.{same_posts, same_users, turned}
use Rattle.gj_subgraph.proofs.relaid.next_units.Goals as goal

pub half_step-requires-clause-small : goal.half_step-requires-clause-small
half_step-requires-clause-small c =
    let posts = c.args.posts.now in
    let back_posts = c.args.back_posts.now in
    let out = turned posts.side.items posts.names.items c.args.units.now back_posts.side.items back_posts.names.items c.args.to_posts.now c.in_ok-start.start.items
    c.requires.posts.names c.requires.back_posts.names
    (λ v. same_posts c.args.users.now.side.items posts.side.items back_posts.side.items c.args.back_users.now.side.items v c.requires.relaid)
    c.requires.to_posts c.requires.units c.in_ok-start.ensures.len c.in_ok-start.ensures.exact in
    let slice = ap (λ xs. sum xs) c.as_slice.ensures.value in
    let same = out.1 in
    omega (arith, slice, same, c.requires.small)

pub half_step-requires-2-clause-small : goal.half_step-requires-2-clause-small
half_step-requires-2-clause-small c =
    let posts = c.args.posts.now in
    let users = c.args.users.now in
    let back_posts = c.args.back_posts.now in
    let back_users = c.args.back_users.now in
    let out = turned posts.side.items posts.names.items c.args.units.now back_posts.side.items back_posts.names.items c.args.to_posts.now c.in_ok-start.start.items
    c.requires.posts.names c.requires.back_posts.names
    (λ v. same_posts users.side.items posts.side.items back_posts.side.items back_users.side.items v c.requires.relaid)
    c.requires.to_posts c.requires.units c.in_ok-start.ensures.len c.in_ok-start.ensures.exact in
    let again = turned back_users.side.items back_users.names.items c.as_slice-2.result.now users.side.items users.names.items c.args.to_users.now c.in_ok-again.again.items
    c.requires.back_users.names c.requires.users.names
    (λ v. sym (same_users users.side.items posts.side.items back_posts.side.items back_users.side.items v c.requires.relaid))
    c.requires.to_users (ap (λ xs. length xs) c.as_slice-2.ensures.value ∙ c.in_ok-back.ensures.len) c.in_ok-again.ensures.len c.in_ok-again.ensures.exact in
    let one = ap (λ xs. sum xs) c.as_slice.ensures.value in
    let two = ap (λ xs. sum xs) c.as_slice-2.ensures.value in
    let three = ap (λ xs. sum xs) c.as_slice-3.ensures.value in
    let out_sum = out.1 in
    let again_sum = again.1 in
    omega (arith, one, two, three, out_sum, again_sum, c.in_ok-back.ensures.kept, c.requires.small)

pub returns-clause-kept : goal.returns-clause-kept
returns-clause-kept c =
    let posts = c.args.posts.now in
    let users = c.args.users.now in
    let back_posts = c.args.back_posts.now in
    let back_users = c.args.back_users.now in
    let out = turned posts.side.items posts.names.items c.args.units.now back_posts.side.items back_posts.names.items c.args.to_posts.now c.in_ok-start.start.items
    c.requires.posts.names c.requires.back_posts.names
    (λ v. same_posts users.side.items posts.side.items back_posts.side.items back_users.side.items v c.requires.relaid)
    c.requires.to_posts c.requires.units c.in_ok-start.ensures.len c.in_ok-start.ensures.exact in
    let again = turned back_users.side.items back_users.names.items c.as_slice-2.result.now users.side.items users.names.items c.args.to_users.now c.in_ok-again.again.items
    c.requires.back_users.names c.requires.users.names
    (λ v. sym (same_users users.side.items posts.side.items back_posts.side.items back_users.side.items v c.requires.relaid))
    c.requires.to_users (ap (λ xs. length xs) c.as_slice-2.ensures.value ∙ c.in_ok-back.ensures.len) c.in_ok-again.ensures.len c.in_ok-again.ensures.exact in
    c.in_ok-out.ensures.kept ∙ ap (λ xs. sum xs) c.as_slice-3.ensures.value ∙ again.1 ∙ ap (λ xs. sum xs) c.as_slice-2.ensures.value
    ∙ c.in_ok-back.ensures.kept ∙ ap (λ xs. sum xs) c.as_slice.ensures.value ∙ out.1

pub returns-clause-exact : goal.returns-clause-exact
returns-clause-exact c = λ near far by_users by_posts.
    let posts = c.args.posts.now in
    let users = c.args.users.now in
    let back_posts = c.args.back_posts.now in
    let back_users = c.args.back_users.now in
    let out = turned posts.side.items posts.names.items c.args.units.now back_posts.side.items back_posts.names.items c.args.to_posts.now c.in_ok-start.start.items
    c.requires.posts.names c.requires.back_posts.names
    (λ v. same_posts users.side.items posts.side.items back_posts.side.items back_users.side.items v c.requires.relaid)
    c.requires.to_posts c.requires.units c.in_ok-start.ensures.len c.in_ok-start.ensures.exact in
    let again = turned back_users.side.items back_users.names.items c.as_slice-2.result.now users.side.items users.names.items c.args.to_users.now c.in_ok-again.again.items
    c.requires.back_users.names c.requires.users.names
    (λ v. sym (same_users users.side.items posts.side.items back_posts.side.items back_users.side.items v c.requires.relaid))
    c.requires.to_users (ap (λ xs. length xs) c.as_slice-2.ensures.value ∙ c.in_ok-back.ensures.len) c.in_ok-again.ensures.len c.in_ok-again.ensures.exact in
    let begun = ap (λ xs. units_in back_posts.names.items xs) c.as_slice.ensures.value ∙ out.0 in
    let back = ap (λ xs. units_in back_users.names.items xs) c.as_slice-2.ensures.value ∙ c.in_ok-back.ensures.exact
    ∙ half_step_same back_posts.side.items back_users.side.items far near (units_in back_posts.names.items c.as_slice.result.now) by_posts
    ∙ ap (λ f. half_step far near f) begun in
    let next = ap (λ xs. units_in users.names.items xs) c.as_slice-3.ensures.value ∙ again.0 ∙ back in
    c.in_ok-out.ensures.exact ∙ half_step_same users.side.items posts.side.items near far (units_in users.names.items c.as_slice-3.result.now) by_users
    ∙ ap (λ f. half_step near far f) next
