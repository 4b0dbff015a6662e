-- What comes of a workload. Own: the walks, and the numbers that are told of them.
use Rattle.std.specs.Prelude.{ℕ, zero, suc, ◌+◌, ◌-◌, ◌/◌, ◌%◌, ◌≤◌, false, List, [], ◌∷◌, length, slice_get, Option, option_map}
use Rattle.gj_base.specs.declared.item.Item.{Item}
use Rattle.gj_base.specs.declared.history.History.{History}
use Rattle.gj_base.specs.declared.history.Shown.{Shown}
use Rattle.gj_base.specs.Asks.{WalkQuery}
use Rattle.gj_base.specs.Configuration.{Configuration}
use Rattle.gj_base.specs.Draw.{words}
use Rattle.gj_base.specs.History.{base, windowed, entries_by, empty_history, extend}
use Rattle.gj_base.specs.Kinds.{all_kinds}
use Rattle.gj_base.specs.Tally.{sum_of}
use Rattle.gj_walk.specs.Walk.{visits_of}
use Rattle.gj_proof.specs.Ranking.{ranked_of}
use Rattle.rand_core.specs.Pcg32Seed.{pcg32_seed}
use Rattle.rand_pcg.specs.Pcg.{pcg64, pcg64_of_seed}
use Rattle.gj_load.specs.Workload.{interaction, items_from}
use Rattle.gj_load.specs.declared.totals.Totals.{Totals}

-- the history of these interactions
abbrev pub history_of : List Item → History
history_of items = extend (empty_history 0) (entries_by 0 items)

-- the history of a beginning of a workload is kept
abbrev pub KeepsBeginning : (History → Type 0) → ℕ → ℕ → Type 0
KeepsBeginning keeps number count = (posted : ℕ) × (posted ≤ count) × keeps (history_of (items_from number posted))

-- what the walk of this number asks for: 1000 steps from the user of one interaction
abbrev pub walk_query : ℕ → ℕ → ℕ → WalkQuery
walk_query number count walk = record {
  seeds = (interaction number (walk % count)).user ∷ [];
  steps = 1000;
  seed = walk;
  mask = all_kinds;
  reset = 0;
  top = 1;
  proof = 0;
  hide = false;
  since = 0;
}

-- the visits of a walk over the window of these interactions, by the first 1000 words of its number
unfoldable pub visits_in : List Item → ℕ → ℕ → ℕ → List (ℕ × ℕ)
visits_in window number count walk =
    visits_of window (walk_query number count walk) (words pcg64 1000 (pcg64_of_seed (pcg32_seed 32 walk)))

-- the visits of the first walks
unfoldable pub visits_sum : List Item → ℕ → ℕ → ℕ → ℕ
visits_sum window number count zero = 0
visits_sum window number count (suc walk) = visits_sum window number count walk + sum_of (visits_in window number count walk)

-- the best post of a walk, with its visits
unfoldable pub best_in : List Item → ℕ → ℕ → ℕ → Option (ℕ × ℕ)
best_in window number count walk =
    option_map (λ r. (r.id, r.number))
    (slice_get (ranked_of window (walk_query number count walk).seeds (visits_in window number count walk) false 1) 0)

-- the totals of a workload
unfoldable pub totals_of : Configuration → ℕ → ℕ → Totals
totals_of conf number count =
    let window = (windowed conf.capacity conf.segments 0 (items_from number count)).items in
    record {
      accepted = count;
      batches = (count + 4095) / 4096;
      length = count;
      base = base conf.capacity conf.segments count;
      window = count - base conf.capacity conf.segments count;
      visits = visits_sum window number count 100;
      best = best_in window number count 99;
    }
