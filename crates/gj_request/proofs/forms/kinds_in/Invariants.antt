use Rattle.std.proofs.Common.{◌≡◌, drop}
use Rattle.serde_json.specs.View.{items_view}
use Rattle.gj_request.specs.Forms.{add_kind, each, kinds_in}
use Rattle.gj_request.proofs.forms.kinds_in.Given as goal

-- the kinds so far and those that are left are all
abbrev pub invariant-loop-value : goal.invariant-loop-value
invariant-loop-value l = each (add_kind l.name) l.mask (items_view (drop l.value-index l.others)) ≡ kinds_in l.name (items_view l.list)
