-- Answers: their bytes, and what each says.
use Rattle.std.specs.Prelude.{◌≡◌, ◌⊎◌, ℕ, Bool, true, false, List}
use Rattle.gj_http.specs.Response.{bytes_of}
use Rattle.gj_reply.specs.Bodies.{body_of}
use Rattle.gj_reply.specs.Statuses.{status_of}
use Rattle.gj_reply.specs.FixedTexts.{fixed_text}
use Rattle.gj_reply.specs.declared.fixed.Fixed.{Fixed}
use Rattle.gj_reply.specs.declared.fixed.Fixed.TheVariants.{Accepted, NotAccepted, NoLook, Memory}
use Rattle.gj_reply.specs.declared.status.Status.TheVariants.{Unavailable}
use Rattle.gj_reply.specs.declared.reply.Reply.{Reply}
use Rattle.gj_reply.specs.declared.reply.Reply.TheVariants.{Posted, Repeated, Old, Skipped, Full, Store, Apart}
use Rattle.gj_session.specs.declared.outcome.Outcome.{Outcome}
use Rattle.gj_session.specs.declared.outcome.Outcome.TheVariants.{Says, Stands}

-- the bytes of an answer
unfoldable pub outcome_bytes : Outcome → Bool → List ℕ
outcome_bytes (Says reply) close = bytes_of (status_of reply) (body_of reply) close
outcome_bytes (Stands which) close = bytes_of Unavailable (fixed_text which) close

-- the answer is this reply, or the fixed one where it finds no memory
abbrev pub IsReply : Reply → Fixed → Outcome → Type 0
IsReply reply lack outcome = (outcome ≡ Says reply) ⊎ (outcome ≡ Stands lack)

-- a fixed reply of want of memory, where nothing has entered
abbrev pub IsLack : Fixed → Type 0
IsLack Memory = Unit {0}
IsLack NotAccepted = Unit {0}
IsLack _ = ⊥

-- the fixed reply that takes an answer's place where its text finds no memory
abbrev pub lack_after : Outcome → Fixed → Fixed
lack_after (Says (Posted from length)) lack = Accepted
lack_after (Says _) lack = lack
lack_after (Stands which) lack = which

-- the same for what is answered to a numbered batch: a batch that may have entered before is not called unaccepted
abbrev pub noted_lack : Outcome → Fixed
noted_lack (Says (Posted from length)) = Accepted
noted_lack (Says (Repeated from length)) = Memory
noted_lack (Says (Apart seen shown posted counted)) = Memory
noted_lack (Says _) = NotAccepted
noted_lack (Stands which) = which

-- the same for what is answered to a query
abbrev pub query_lack : Outcome → Fixed → Fixed
query_lack (Says reply) lack = lack
query_lack (Stands which) lack = which

-- the answer is the store's fault
abbrev pub is_store : Outcome → Bool
is_store (Says Store) = true
is_store _ = false

-- the answer is want of room
abbrev pub is_full : Outcome → Bool
is_full (Says (Full n)) = true
is_full _ = false

-- the answer is that the seat and the writer do not agree
abbrev pub is_apart : Outcome → Bool
is_apart (Says (Apart seen shown posted counted)) = true
is_apart _ = false

-- the answer is that a look was refused
abbrev pub is_no_look : Outcome → Bool
is_no_look (Stands NoLook) = true
is_no_look _ = false

-- the answer is that the batch had entered before
abbrev pub is_repeated : Outcome → Bool
is_repeated (Says (Repeated from length)) = true
is_repeated _ = false

-- the answer is that a later batch has entered
abbrev pub is_old : Outcome → Bool
is_old (Says (Old last)) = true
is_old _ = false

-- the answer is that an earlier batch is missing
abbrev pub is_skipped : Outcome → Bool
is_skipped (Says (Skipped last)) = true
is_skipped _ = false

-- a reply to a message that asks for nothing, or to a query: no count is of it
abbrev pub Uncounted : Reply → Type 0
Uncounted (Posted from length) = ⊥
Uncounted (Repeated from length) = ⊥
Uncounted (Old last) = ⊥
Uncounted (Skipped last) = ⊥
Uncounted Store = ⊥
Uncounted (Full n) = ⊥
Uncounted (Apart seen shown posted counted) = ⊥
Uncounted _ = Unit {0}
