-- The lines that the program writes of its own. Own: the texts.
use Rattle.std.specs.Prelude.{ℕ, List, [], ◌++◌, codes, Option, Some, None}
use Rattle.std.specs.Fmt.{decimal}
use Rattle.gj_base.specs.declared.keeper.KeptConf.{KeptConf}
use Rattle.gj_load.specs.declared.totals.Totals.{Totals}
use Rattle.gj_program.specs.declared.run_status.RunStatus.{RunStatus}
use Rattle.gj_program.specs.declared.run_status.RunStatus.TheVariants.{Done, Usage, ReadFault, WriteFault, StoreFault, Truncated, Memory, DoorFault, StoppedEarly, TooManyReads, ConfDiffers, KeptRow, NoPlace}

-- words and a number
abbrev pub numbered : List ℕ → ℕ → List ℕ
numbered words number = words ++ decimal number

-- words and a configuration
unfoldable pub conf_text : List ℕ → KeptConf → List ℕ
conf_text words conf =
    numbered words conf.version ++ (numbered (codes " capacity ") conf.capacity ++ numbered (codes " segments ") conf.segments)

-- the kept configuration and the asked one
unfoldable pub kept_line : KeptConf → KeptConf → List ℕ
kept_line kept asked = conf_text (codes "kept version ") kept ++ (conf_text (codes ", asked version ") asked ++ codes "\n")

-- the index of a row
unfoldable pub row_line : ℕ → List ℕ
row_line row = numbered (codes "kept row ") row ++ codes "\n"

-- the line that says why a run ended so
abbrev pub line_of : RunStatus → List ℕ
line_of Done = []
line_of Usage = codes "usage: graphjet replay|serve|load|follow [options]\n"
line_of ReadFault = codes "read fault\n"
line_of WriteFault = codes "write fault\n"
line_of StoreFault = codes "store fault\n"
line_of Truncated = codes "truncated input\n"
line_of Memory = codes "out of memory\n"
line_of DoorFault = codes "door fault\n"
line_of StoppedEarly = codes "stopped early\n"
line_of TooManyReads = codes "too many reads\n"
line_of (ConfDiffers kept asked) = kept_line kept asked
line_of (KeptRow row) = row_line row
line_of NoPlace = codes "no reader place\n"

-- a line of a number
unfoldable pub number_line : List ℕ → ℕ → List ℕ
number_line words number = numbered words number ++ codes "\n"

-- the line of the best post and its visits
unfoldable pub best_line : Option (ℕ × ℕ) → List ℕ
best_line None = codes "best none\n"
best_line (Some best) = numbered (codes "best ") best.0 ++ number_line (codes " ") best.1

-- the lines of the history
unfoldable pub history_lines : Totals → List ℕ
history_lines t =
    number_line (codes "accepted ") t.accepted
    ++ (number_line (codes "batches ") t.batches
    ++ (number_line (codes "length ") t.length
    ++ (number_line (codes "base ") t.base ++ number_line (codes "window ") t.window)))

-- the summary of a workload: eight lines
unfoldable pub summary_of : Totals → List ℕ
summary_of t = history_lines t ++ (codes "walks 100\n" ++ (number_line (codes "visits ") t.visits ++ best_line t.best))
