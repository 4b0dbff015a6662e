-- What contracts see of a seat.
use Rattle.std.specs.Prelude.{ℕ, ◌+◌, min}
use Rattle.gj_base.specs.declared.history.History.{History}
use Rattle.gj_once.specs.declared.verdict.Verdict.{Verdict}
use Rattle.gj_once.specs.declared.verdict.Verdict.TheVariants.{Fresh, Repeat, Old, Skipped}

-- how often a seat looked, was refused a look, was refused a post by each cause that is no want of memory, and had a noted
-- batch judged each way
pub record Numbers : Type 0 where
  pub looks : ℕ
  pub refused : ℕ
  pub store : ℕ
  pub full : ℕ
  pub apart : ℕ
  pub judged_fresh : ℕ
  pub judged_repeat : ℕ
  pub judged_old : ℕ
  pub judged_skipped : ℕ

-- a seat: its number, what it saw, how many interactions it posted, and its other numbers
pub record SeatView : Type 0 where
  pub number : ℕ
  pub front : History
  pub posted : ℕ
  pub numbers : Numbers

-- the numbers of a new seat
abbrev pub no_numbers : Numbers
no_numbers = record { looks = 0; refused = 0; store = 0; full = 0; apart = 0; judged_fresh = 0; judged_repeat = 0; judged_old = 0; judged_skipped = 0 }

-- one more, up to the last value of a u64
abbrev pub raised : ℕ → ℕ
raised n = min (n + 1) 18446744073709551615

-- the numbers after one more look
abbrev pub looked : Numbers → Numbers
looked n = record { looks = raised n.looks; refused = n.refused; store = n.store; full = n.full; apart = n.apart; judged_fresh = n.judged_fresh; judged_repeat = n.judged_repeat; judged_old = n.judged_old; judged_skipped = n.judged_skipped }

-- after one more refused look
abbrev pub not_looked : Numbers → Numbers
not_looked n = record { looks = n.looks; refused = raised n.refused; store = n.store; full = n.full; apart = n.apart; judged_fresh = n.judged_fresh; judged_repeat = n.judged_repeat; judged_old = n.judged_old; judged_skipped = n.judged_skipped }

-- after one more post that a fault of the keeper refused
abbrev pub not_stored : Numbers → Numbers
not_stored n = record { looks = n.looks; refused = n.refused; store = raised n.store; full = n.full; apart = n.apart; judged_fresh = n.judged_fresh; judged_repeat = n.judged_repeat; judged_old = n.judged_old; judged_skipped = n.judged_skipped }

-- after one more post that a full history refused
abbrev pub not_fitted : Numbers → Numbers
not_fitted n = record { looks = n.looks; refused = n.refused; store = n.store; full = raised n.full; apart = n.apart; judged_fresh = n.judged_fresh; judged_repeat = n.judged_repeat; judged_old = n.judged_old; judged_skipped = n.judged_skipped }

-- after one more post that was refused since seat and writer do not fit
abbrev pub not_met : Numbers → Numbers
not_met n = record { looks = n.looks; refused = n.refused; store = n.store; full = n.full; apart = raised n.apart; judged_fresh = n.judged_fresh; judged_repeat = n.judged_repeat; judged_old = n.judged_old; judged_skipped = n.judged_skipped }

-- after one more noted batch that was judged so
abbrev pub after_verdict : Verdict → Numbers → Numbers
after_verdict Fresh n = record { looks = n.looks; refused = n.refused; store = n.store; full = n.full; apart = n.apart; judged_fresh = raised n.judged_fresh; judged_repeat = n.judged_repeat; judged_old = n.judged_old; judged_skipped = n.judged_skipped }
after_verdict (Repeat receipt) n = record { looks = n.looks; refused = n.refused; store = n.store; full = n.full; apart = n.apart; judged_fresh = n.judged_fresh; judged_repeat = raised n.judged_repeat; judged_old = n.judged_old; judged_skipped = n.judged_skipped }
after_verdict (Old last) n = record { looks = n.looks; refused = n.refused; store = n.store; full = n.full; apart = n.apart; judged_fresh = n.judged_fresh; judged_repeat = n.judged_repeat; judged_old = raised n.judged_old; judged_skipped = n.judged_skipped }
after_verdict (Skipped last) n = record { looks = n.looks; refused = n.refused; store = n.store; full = n.full; apart = n.apart; judged_fresh = n.judged_fresh; judged_repeat = n.judged_repeat; judged_old = n.judged_old; judged_skipped = raised n.judged_skipped }
