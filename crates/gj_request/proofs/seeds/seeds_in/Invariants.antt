use Rattle.std.proofs.Common.{◌≡◌, IsTrue, length, drop}
use Rattle.serde_json.specs.View.{items_view}
use Rattle.gj_base.specs.Asks.{are_distinct, are_ids, are_weights}
use Rattle.gj_request.specs.Counts.{add_seed, no_seeds}
use Rattle.gj_request.specs.Forms.{each}
use Rattle.gj_request.specs.SeenIds.{HasThese}
use Rattle.gj_request.proofs.seeds.seeds_in.Given as goal

-- the seeds so far and those that are left are all
abbrev pub invariant-loop-value : goal.invariant-loop-value
invariant-loop-value l =
    record {
      same : HasThese l.seen l.seeds.users;
      exact : each (add_seed l.name) l.seeds (items_view (drop l.value-index l.list)) ≡ each (add_seed l.name) no_seeds (items_view l.list);
      len : length l.seeds.users ≡ l.value-index;
      weights_len : length l.seeds.weights ≡ l.value-index;
      distinct : IsTrue (are_distinct l.seeds.users);
      ids : IsTrue (are_ids l.seeds.users);
      weights : IsTrue (are_weights l.seeds.weights);
    }
