use Rattle.std.proofs.Common.{◌≡◌, ◌+◌, ◌∙◌, ℕ, List, [], ◌∷◌, nat_eq, unwrap_or, ap, sym, rules, arith, subst, zero-add}
use Rattle.std.specs.Cmp.{nat_eq_equiv}
use Rattle.std.specs.HashMap.{IsUnique}
use Rattle.std.specs.List.{IsDistinct}
use Rattle.std.specs.Map.{keys_of}
use Rattle.std.specs.Map.Iter.{deref_pair}
use Rattle.std.proofs.lemmas.Map.Iter.{hash_map_turn, rest_more, rest_all}
use Rattle.std.proofs.lemmas.Map.Keys.{IsDistinct-tail}
use Rattle.gj_base.specs.Tally.{is_tally, number_at}
use Rattle.gj_count.specs.Sums.{no_sums, sums_at, weight_in}
use Rattle.gj_count.specs.declared.post_sums.PostSums.{PostSums}
use Rattle.gj_count.proofs.MapLemmas.{weight_to_come, weight_in_none, is_tally-put_if, put_next}
use Rattle.gj_count.proofs.counting.weights_in.Goals as goal

pub loop-post-init : goal.loop-post-init
loop-post-init c =
    let map = c.args.sums.now in
    let least = c.args.least in
    let all : c.into_iter-post-iterator.result ≡ map.entries = search rules in
    let unique : IsUnique nat_eq map = search rules in
    record {
      tally = ap is_tally c.new-weights.ensures;
      distinct = subst (λ (es : List (ℕ × PostSums)). IsDistinct nat_eq (keys_of es)) (sym all) unique;
      numbers = λ p. ap (λ w. number_at w p + weight_to_come least c.into_iter-post-iterator.result p) c.new-weights.ensures
          ∙ (ap (λ es. 0 + weight_to_come least es p) all ∙ zero-add (weight_to_come least map.entries p));
    }

pub loop-post-preserved : goal.loop-post-preserved
loop-post-preserved c =
    let map = c.args.sums.now in
    let least = c.args.least in
    let post : ℕ = c.in-Some.post.now in
    let sums : PostSums = c.in-Some.of_post.now in
    let rest : List (ℕ × PostSums) = c.next.new.self in
    let front : c.loop-post.post-iterator ≡ (post, sums) ∷ rest =
    rest_more deref_pair c.loop-post.post-iterator rest c.next.result (c.in-Some.post, c.in-Some.of_post) c.in-Some.is c.next.ensures.steps in
    let found = hash_map_turn deref_pair c.loop-post.yielded c.into_iter-post-iterator.result c.loop-post.post-iterator c.next.new.self c.next.result (c.in-Some.post, c.in-Some.of_post) c.loop-post.yielded_by c.in-Some.is c.next.ensures.steps nat_eq_equiv map (search rules) (search rules) in
    let distinct : IsDistinct nat_eq (keys_of ((post, sums) ∷ rest)) =
    subst (λ (es : List (ℕ × PostSums)). IsDistinct nat_eq (keys_of es)) front c.loop-post.invariant.distinct in
    let put = c.in_ok-put_weight.ensures in
    record {
      tally = ap is_tally put ∙ is_tally-put_if c.loop-post.weights post (weight_in least sums) c.loop-post.invariant.tally;
      distinct = IsDistinct-tail nat_eq post (keys_of rest) distinct;
      numbers = λ p. ap (λ w. number_at w p + weight_to_come least rest p) put
          ∙ put_next least c.loop-post.weights post sums rest (λ q. weight_in least (sums_at map q)) distinct (ap (λ o. weight_in least (unwrap_or o no_sums)) found.1)
          (λ q. ap (λ es. number_at c.loop-post.weights q + weight_to_come least es q) (sym front) ∙ c.loop-post.invariant.numbers q) p;
    }

pub returns : goal.returns
returns c =
    let least = c.args.least in
    let none : c.loop-post.post-iterator ≡ [] = rest_all deref_pair c.loop-post.post-iterator c.next.new.self c.next.result c.in-None.is c.next.ensures.steps in
    record {
      tally = c.loop-post.invariant.tally;
      numbers = λ p.
          let whole = c.loop-post.invariant.numbers p in
          let over : weight_to_come least c.loop-post.post-iterator p ≡ 0 = ap (λ es. weight_to_come least es p) none ∙ weight_in_none least in
          omega arith;
    }
