-- What a noted index owes its trait.
use Rattle.std.specs.Prelude.{◌≡◌, ◌≤◌, ℕ, List}
use Rattle.std.proofs.Common.{arith}
use Rattle.gj_base.specs.declared.history.History.{History}
use Rattle.gj_base.specs.declared.history.Shown.{Shown}
use Rattle.gj_base.specs.History.{IsWindow, StandsFor, end_of, length_of}
use Rattle.gj_base.proofs.Windows.{stands_end}
use Rattle.gj_once.specs.declared.verdict.LastBatch.{LastBatch}
use Rattle.gj_once.specs.Judging.{last_of}

-- what ends in the view ends in each history that is kept
pub within_each : (w : Shown) (h : History) (lasts : List LastBatch) (producer : ℕ) → IsWindow w → StandsFor w h
    → (last_of lasts producer).receipt.to ≤ end_of w → (last_of lasts producer).receipt.to ≤ length_of h
within_each w h lasts producer is stands within =
    let e : end_of w ≡ length_of h = stands_end w h is.configuration.segments_low stands in omega arith
