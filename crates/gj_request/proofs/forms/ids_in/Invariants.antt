use Rattle.std.proofs.Common.{◌≡◌, IsTrue, [], length, drop}
use Rattle.serde_json.specs.View.{items_view}
use Rattle.gj_base.specs.Asks.{are_distinct, are_ids}
use Rattle.gj_request.specs.SeenIds.{HasThese}
use Rattle.gj_request.specs.Forms.{add_id, each}
use Rattle.gj_request.proofs.forms.ids_in.Given as goal

-- the identifiers so far and those that are left are all
abbrev pub invariant-loop-value : goal.invariant-loop-value
invariant-loop-value l =
    record { same : HasThese l.seen l.ids; exact : each (add_id l.name) l.ids (items_view (drop l.value-index l.list)) ≡ each (add_id l.name) [] (items_view l.list); len : length l.ids ≡ l.value-index; distinct : IsTrue (are_distinct l.ids); ids : IsTrue (are_ids l.ids) }
