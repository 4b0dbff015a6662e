use Rattle.std.proofs.Common.{◌≡◌, [], length, drop}
use Rattle.serde_json.specs.View.{items_view}
use Rattle.gj_request.specs.Forms.{each}
use Rattle.gj_request.specs.Tables.{add_item}
use Rattle.gj_request.proofs.items.items_in.Given as goal

-- the interactions so far and those that are left are all
abbrev pub invariant-loop-value : goal.invariant-loop-value
invariant-loop-value l =
    record { exact : each (add_item l.name) l.items (items_view (drop l.value-index l.list)) ≡ each (add_item l.name) [] (items_view l.list); len : length l.items ≡ l.value-index }
