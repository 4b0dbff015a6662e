-- What each answer does to the numbers of a seat, and which answers come after the look of a post.
use Rattle.std.specs.Prelude.{ℕ, Result, Ok, Err}
use Rattle.gj_base.specs.Causes.{one_more}
use Rattle.gj_base.specs.declared.item.Receipt.{Receipt}
use Rattle.gj_publish.specs.declared.refusal.NoLook.{NoLook}
use Rattle.gj_publish.specs.declared.refusal.PostError.{PostError}
use Rattle.gj_publish.specs.declared.refusal.PostError.TheVariants as refused
use Rattle.gj_publish.specs.Seats.{Numbers, looked, not_looked, not_stored, not_fitted, not_met}

-- a look that is answered raises the looks, and a refused one the refused looks
abbrev pub after_look : {T : Type 0} → Result T NoLook → Numbers → Numbers
after_look (Ok t) numbers = looked numbers
after_look (Err why) numbers = not_looked numbers

-- after a post that is refused so
abbrev pub after_error : PostError → Numbers → Numbers
after_error refused.Memory numbers = looked numbers
after_error (refused.KeptUnseen r) numbers = looked numbers
after_error refused.Store numbers = not_stored (looked numbers)
after_error (refused.Full n) numbers = not_fitted numbers
after_error (refused.NoLook why) numbers = not_looked numbers
after_error (refused.Apart seen shown posted counted) numbers = not_met (looked numbers)

-- a post looks once, unless it is refused before, and each refusal but want of memory has its number
abbrev pub after_post : Result Receipt PostError → Numbers → Numbers
after_post (Ok r) numbers = looked numbers
after_post (Err why) numbers = after_error why numbers

-- P, if a post that is refused so went on after its look
abbrev pub IfMet : PostError → Type 0 → Type 0
IfMet refused.Memory P = P
IfMet (refused.KeptUnseen r) P = P
IfMet refused.Store P = P
IfMet (refused.Full n) P = Unit {0}
IfMet (refused.NoLook why) P = Unit {0}
IfMet (refused.Apart seen shown posted counted) P = Unit {0}

-- where a post went on after its look, P holds
abbrev pub OnMet : Result Receipt PostError → Type 0 → Type 0
OnMet (Ok r) P = P
OnMet (Err why) P = IfMet why P

-- the look was refused, or seat and writer do not fit
abbrev pub IsUnmet : PostError → Type 0
IsUnmet refused.Memory = ⊥
IsUnmet (refused.KeptUnseen r) = ⊥
IsUnmet refused.Store = ⊥
IsUnmet (refused.Full n) = ⊥
IsUnmet (refused.NoLook why) = Unit {0}
IsUnmet (refused.Apart seen shown posted counted) = Unit {0}

-- the count of the keeper's faults after a post that is refused so: one more where a call of it failed
abbrev pub faults_told : ℕ → PostError → ℕ
faults_told count refused.Memory = count
faults_told count (refused.KeptUnseen r) = count
faults_told count refused.Store = one_more count
faults_told count (refused.Full n) = count
faults_told count (refused.NoLook why) = count
faults_told count (refused.Apart seen shown posted counted) = count

-- after a post with this answer
abbrev pub faults_after_post : ℕ → Result Receipt PostError → ℕ
faults_after_post count (Ok r) = count
faults_after_post count (Err why) = faults_told count why
