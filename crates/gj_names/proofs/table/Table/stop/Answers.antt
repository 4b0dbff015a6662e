use Rattle.std.proofs.Common.{arith, inl, inr}
use Rattle.std.proofs.lemmas.Bool.{cases_lt}
use Rattle.gj_names.proofs.Probing.{first_slot_below, some_slot_is_free}
use Rattle.gj_names.proofs.table.Table.stop.Goals as goal

pub scan-requires-in-None-clause-inside : goal.scan-requires-in-None-clause-inside
scan-requires-in-None-clause-inside c =
    omega (arith, first_slot_below _ _ c.args.id c.requires.table.sized.whole, c.first_slot-first.ensures)

-- the two runs together pass each slot
pub unreachable-requires : goal.unreachable-requires
unreachable-requires c =
    some_slot_is_free _ _ _ c.requires.table c.requires.spare
    (λ j below. elim (cases_lt j c.first_slot-first.result) [
      | inl before ↦ (c.in-None-scan.ensures.none j (omega arith) before).0
      | inr after ↦ (c.in-None.ensures.none j after (omega arith)).0
    ])

pub returns-in-Some-scan-clause-inside : goal.returns-in-Some-scan-clause-inside
returns-in-Some-scan-clause-inside c =
    omega (arith, first_slot_below _ _ c.args.id c.requires.table.sized.whole, c.first_slot-first.ensures, c.in-Some-scan.ensures.within.1)
