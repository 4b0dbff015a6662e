-- What a seat answers: to a query by one look, and to a batch by one post.
use Rattle.std.specs.Prelude.{List, [], Result, Ok, Err}
use Rattle.gj_base.specs.declared.item.Item.{Item}
use Rattle.gj_base.specs.declared.item.Receipt.{Receipt}
use Rattle.gj_once.specs.declared.noted_index.Noted.{Noted}
use Rattle.gj_once.specs.declared.noted_index.Noted.TheVariants.{New, Repeated}
use Rattle.gj_publish.specs.Seats.{Numbers, looked, not_looked}
use Rattle.gj_publish.specs.declared.refusal.NotedError.{NotedError}
use Rattle.gj_publish.specs.declared.refusal.NotedError.TheVariants as noted
use Rattle.gj_publish.specs.declared.refusal.PostError.{PostError}
use Rattle.gj_publish.specs.declared.refusal.PostError.TheVariants as posts
use Rattle.gj_reply.specs.declared.fixed.Fixed.TheVariants as fixed
use Rattle.gj_reply.specs.declared.reply.Reply.{Reply}
use Rattle.gj_reply.specs.declared.reply.Reply.TheVariants as replies
use Rattle.gj_session.specs.declared.hall.AnswerError.{AnswerError}
use Rattle.gj_session.specs.declared.hall.AnswerError.TheVariants as errors
use Rattle.gj_session.specs.declared.outcome.Outcome.{Outcome}
use Rattle.gj_session.specs.declared.outcome.Outcome.TheVariants.{Says, Stands}

-- the numbers of a seat after it answered a query
abbrev pub after_answer : Result Reply AnswerError → Numbers → Numbers
after_answer (Ok reply) numbers = looked numbers
after_answer (Err errors.Memory) numbers = looked numbers
after_answer (Err errors.NoLook) numbers = not_looked numbers

-- what is answered to a post that was refused
abbrev pub outcome_of_refusal : PostError → Outcome
outcome_of_refusal posts.Memory = Stands fixed.NotAccepted
outcome_of_refusal (posts.KeptUnseen receipt) = Stands fixed.Accepted
outcome_of_refusal posts.Store = Says replies.Store
outcome_of_refusal (posts.Full n) = Says (replies.Full n)
outcome_of_refusal (posts.NoLook why) = Stands fixed.NoLook
outcome_of_refusal (posts.Apart seen shown posted counted) = Says (replies.Apart seen shown posted counted)

-- what is answered to a post
abbrev pub outcome_of : Result Receipt PostError → Outcome
outcome_of (Ok receipt) = Says (replies.Posted receipt.from receipt.to)
outcome_of (Err why) = outcome_of_refusal why

-- what is answered to the post of a numbered batch
abbrev pub outcome_of_noted : Result Noted NotedError → Outcome
outcome_of_noted (Ok (New receipt)) = Says (replies.Posted receipt.from receipt.to)
outcome_of_noted (Ok (Repeated receipt)) = Says (replies.Repeated receipt.from receipt.to)
outcome_of_noted (Err (noted.Post why)) = outcome_of_refusal why
outcome_of_noted (Err (noted.RepeatUnseen receipt)) = Stands fixed.Memory
outcome_of_noted (Err (noted.Old last)) = Says (replies.Old last)
outcome_of_noted (Err (noted.Skipped last)) = Says (replies.Skipped last)

-- the items that have entered where this is answered to them
abbrev pub entered_items : List Item → Outcome → List Item
entered_items items (Says (replies.Posted from length)) = items
entered_items items (Stands fixed.Accepted) = items
entered_items items _ = []
