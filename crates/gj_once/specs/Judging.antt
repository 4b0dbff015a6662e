-- Which batches of a producer are new. Own: numbers count from 1, and none is left out.
use Rattle.std.specs.Prelude.{ℕ, ◌+◌, ◌-◌, List, replicate, slice_index_or, slice_set, ◌==◌, nat_lt, if◌then◌else◌}
use Rattle.gj_base.specs.declared.item.Receipt.{Receipt}
use Rattle.gj_once.specs.declared.verdict.LastBatch.{LastBatch}
use Rattle.gj_once.specs.declared.verdict.Verdict.{Verdict}
use Rattle.gj_once.specs.declared.verdict.Verdict.TheVariants.{Fresh, Repeat, Old, Skipped}

-- no batch
abbrev pub no_batch : LastBatch
no_batch = record { number = 0; receipt = record { from = 0; to = 0 } }

-- the last batch that is noted of a producer; the first producer is 1
abbrev pub last_of : List LastBatch → ℕ → LastBatch
last_of lasts producer = slice_index_or lasts (producer - 1) no_batch

-- no batch is noted of any producer
unfoldable pub nothing_noted : List LastBatch
nothing_noted = replicate 1024 no_batch

-- what a number says of its producer's batch
unfoldable pub judged : List LastBatch → ℕ → ℕ → Verdict
judged lasts producer number =
    let last = last_of lasts producer in
    if number == last.number + 1 then Fresh else
    (if number == last.number then Repeat last.receipt else
    (if nat_lt number last.number then Old last.number else Skipped last.number))

-- what is noted once a producer's batch of this number took these places
abbrev pub noting : List LastBatch → ℕ → ℕ → Receipt → List LastBatch
noting lasts producer number receipt = slice_set lasts (producer - 1) (record { number = number; receipt = receipt })
