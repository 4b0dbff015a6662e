-- What is answered to a post that an index made.
use Rattle.std.specs.Prelude.{Result, Ok, Err}
use Rattle.gj_base.specs.declared.index.IndexError.{IndexError}
use Rattle.gj_base.specs.declared.index.IndexError.TheVariants as refused
use Rattle.gj_base.specs.declared.item.Receipt.{Receipt}
use Rattle.gj_once.specs.declared.noted_index.Noted.{Noted}
use Rattle.gj_once.specs.declared.noted_index.Noted.TheVariants.{New, Repeated}
use Rattle.gj_once.specs.declared.noted_index.OnceError.{OnceError}
use Rattle.gj_once.specs.declared.noted_index.OnceError.TheVariants as noted
use Rattle.gj_reply.specs.declared.fixed.Fixed.TheVariants as fixed
use Rattle.gj_reply.specs.declared.reply.Reply.TheVariants as replies
use Rattle.gj_session.specs.declared.outcome.Outcome.{Outcome}
use Rattle.gj_session.specs.declared.outcome.Outcome.TheVariants.{Says, Stands}

-- to the post of a batch that was refused
abbrev pub said_to_refusal : IndexError → Outcome
said_to_refusal refused.Memory = Stands fixed.NotAccepted
said_to_refusal refused.Store = Says replies.Store
said_to_refusal (refused.Full n) = Says (replies.Full n)

-- to the post of a batch
abbrev pub said_to : Result Receipt IndexError → Outcome
said_to (Ok receipt) = Says (replies.Posted receipt.from receipt.to)
said_to (Err why) = said_to_refusal why

-- to the post of a numbered batch
abbrev pub said_to_noted : Result Noted OnceError → Outcome
said_to_noted (Ok (New receipt)) = Says (replies.Posted receipt.from receipt.to)
said_to_noted (Ok (Repeated receipt)) = Says (replies.Repeated receipt.from receipt.to)
said_to_noted (Err (noted.Index why)) = said_to_refusal why
said_to_noted (Err (noted.Old last)) = Says (replies.Old last)
said_to_noted (Err (noted.Skipped last)) = Says (replies.Skipped last)
