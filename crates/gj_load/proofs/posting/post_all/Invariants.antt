use Rattle.std.proofs.Common.{◌≡◌, ◌+◌, ◌*◌, ◌/◌, ◌-◌, ◌≤◌, min}
use Rattle.gj_base.specs.History.{conf_of}
use Rattle.gj_load.specs.Totals.{history_of}
use Rattle.gj_load.specs.Workload.{number_after, items_from}
use Rattle.gj_load.proofs.posting.post_all.Given as goal

abbrev pub invariant-loop-done : goal.invariant-loop-done
invariant-loop-done g l = record {
  keeps : g.I.Index.keeps l.index (history_of (items_from l.number l.done));
  number : l.x ≡ number_after l.number l.done;
  posted : l.done ≡ min l.count (l.batches * 4096);
  few : l.batches ≤ (l.count + 4095) / 4096;
  conf : conf_of (g.I.Index.viewed l.index) ≡ conf_of (g.I.Index.viewed l.fn.index);
  faults : g.I.Index.faults l.index ≡ g.I.Index.faults l.fn.index;
}

abbrev pub decreases-loop-done : goal.decreases-loop-done
decreases-loop-done g l = l.count - l.done
