-- A session over a link that is finished: of its room nothing is said then.
use Rattle.std.proofs.Common.{inl, inr, ℕ, List, arith}
use Rattle.gj_session.specs.Runs.{Exchange}
use Rattle.gj_session.specs.Sessions.{IsOpen, Ends, Replayed}
use Rattle.gj_base.specs.Streams.{Incoming, Outgoing, Wrote, WrotePart}
use Rattle.gj_session.specs.declared.outcome.End.{End}
use Rattle.gj_session.specs.declared.outcome.End.TheVariants.{Finished, Closed, Truncated, Stopped, ReadFault, WriteFault, Turns}

-- with the room that there was at first
abbrev Finishes : Outgoing → Outgoing → Outgoing
Finishes a b = record { tells = b.tells; written = b.written; faults = b.faults; sure = a.sure }

wrote_finishes : (a b : Outgoing) (bytes : List ℕ) → Wrote a b bytes → Wrote a (Finishes a b) bytes
wrote_finishes a b bytes x = record { told = x.told; all = x.all; same = x.same; spent = omega arith }

part_finishes : (a b : Outgoing) (bytes whole : List ℕ) → WrotePart a b bytes whole → WrotePart a (Finishes a b) bytes whole
part_finishes a b bytes whole x = record { told = x.told; count = x.count; part = x.part; all = x.all; failed = x.failed; spent = x.spent }

open_finishes : (a b : Outgoing) (es : List Exchange) (rest : List ℕ) → IsOpen a b es rest → IsOpen a (Finishes a b) es rest
open_finishes a b es rest x = record { quiet = x.quiet; more = x.more; wrote = wrote_finishes a b _ x.wrote }

ends_finishes : (end : End) (a b : Outgoing) (es : List Exchange) (rest : List ℕ) → Ends end a b es rest → Ends end a (Finishes a b) es rest
ends_finishes Finished a b es rest x = (open_finishes a b es rest x.0, x.1)
ends_finishes Truncated a b es rest x = (open_finishes a b es rest x.0, x.1)
ends_finishes ReadFault a b es rest x = open_finishes a b es rest x
ends_finishes Turns a b es rest x = open_finishes a b es rest x
ends_finishes Closed a b es rest x = (x.0, wrote_finishes a b _ x.1)
ends_finishes (Stopped why) a b es rest x =
    (x.0, (x.1.0, record { outcome = x.1.1.outcome; reply = x.1.1.reply; wrote = wrote_finishes a b _ x.1.1.wrote }))
ends_finishes WriteFault a b es rest (inl x) =
    inl (record { done = x.done; last = x.last; parts = x.parts; quiet = x.quiet; wrote = part_finishes a b _ _ x.wrote })
ends_finishes WriteFault a b es rest (inr x) =
    inr (record { why = x.why; refused = x.refused; quiet = x.quiet; outcome = x.outcome; reply = x.reply; wrote = part_finishes a b _ _ x.wrote })

pub finishes : (ran : List Exchange → Type 0) (i j : Incoming) (a b : Outgoing) (turns : ℕ) (end : End) → Replayed ran i j a b turns end
    → Replayed ran i j a (record { tells = b.tells; written = b.written; faults = b.faults; sure = a.sure }) turns end
finishes ran i j a b turns end x = record {
  bytes = x.bytes;
  reads = x.reads;
  took = x.took;
  few = x.few;
  turned = x.turned;
  all = x.all;
  failed = x.failed;
  ended = record { exchanges = x.ended.exchanges; rest = x.ended.rest; answered = x.ended.answered; ends = ends_finishes end a b x.ended.exchanges x.ended.rest x.ended.ends };
}
