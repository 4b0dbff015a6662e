use Rattle.std.proofs.Common.{◌≡◌, ℕ, ◌+◌, true, nat_eq}
use Rattle.std.specs.List.{IsDistinct}
use Rattle.std.specs.Map.{keys_of}
use Rattle.gj_base.specs.Tally.{is_tally, number_at}
use Rattle.gj_count.specs.Sums.{sums_at, weight_in}
use Rattle.gj_count.proofs.MapLemmas.{weight_to_come}
use Rattle.gj_count.proofs.counting.weights_in.Given as goal

abbrev pub invariant-loop-post : goal.invariant-loop-post
invariant-loop-post l = record {
  tally : is_tally l.weights ≡ true;
  distinct : IsDistinct nat_eq (keys_of l.post-iterator);
  numbers : (p : ℕ) → number_at l.weights p + weight_to_come l.least l.post-iterator p ≡ weight_in l.least (sums_at l.sums p);
}
