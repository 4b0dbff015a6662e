use Rattle.std.proofs.Common.{◌≡◌, [], length, drop}
use Rattle.serde_json.specs.View.{items_view}
use Rattle.gj_follow.specs.Reading.{items_after}
use Rattle.gj_follow.proofs.reading.items_in.Given as goal

-- the interactions so far and those that are left are all
abbrev pub invariant-loop-value : goal.invariant-loop-value
invariant-loop-value l =
    record { exact : items_after l.items (items_view (drop l.value-index l.list)) ≡ items_after [] (items_view l.list); len : length l.items ≡ l.value-index }
