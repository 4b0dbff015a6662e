-- The laws of a seat that answers messages.
use Rattle.std.specs.Prelude.{◌≡◌, ℕ, Bool, false, List, Result, Ok, Err, refl}
use Rattle.std.proofs.Common.{inl, arith}
use Rattle.gj_base.specs.Asks.{NotedBatch}
use Rattle.gj_base.specs.Causes.{RoseBy}
use Rattle.gj_base.specs.Configuration.{Configuration}
use Rattle.gj_base.specs.declared.ask.Ask.{Ask}
use Rattle.gj_base.specs.declared.ask.Ask.TheVariants as asks
use Rattle.gj_base.specs.declared.item.Item.{Item}
use Rattle.gj_publish.specs.Seats.{SeatView, Numbers}
use Rattle.gj_reply.specs.declared.fixed.Fixed.{Fixed}
use Rattle.gj_reply.specs.declared.fixed.Fixed.TheVariants as fixed
use Rattle.gj_reply.specs.declared.reply.Reply.{Reply}
use Rattle.gj_reply.specs.declared.reply.Reply.TheVariants as replies
use Rattle.gj_session.specs.AnsweringLaws.{begins_itself, lacked_ask, batch_stands, noted_stands, Uncounts, uncounts, uncounts_lack, rose_none}
use Rattle.gj_session.specs.IndexRuns.{one_if}
use Rattle.gj_session.specs.Outcomes.{IsReply, IsLack, Uncounted, lack_after, noted_lack, is_store, is_full, is_apart, is_no_look, is_repeated, is_old, is_skipped}
use Rattle.gj_session.specs.SeatRuns.{mark_of, is_look, is_fresh, CountedOne, SameSeat, SeatAnswers}
use Rattle.gj_base.specs.Streams.{Made}
use Rattle.gj_session.specs.declared.outcome.Outcome.{Outcome}
use Rattle.gj_session.specs.declared.outcome.Outcome.TheVariants.{Says, Stands}

-- none was made
pub made_none : (b : Bool) (f : ℕ) → b ≡ false → Made (one_if b) f f
made_none b f e = rw e (record { low = omega arith; high = omega arith })

-- the numbers stay
pub counted_none : (n : Numbers) (ask : Result Ask Reply) (outcome : Outcome) → Uncounts outcome → is_look ask outcome ≡ false → is_fresh ask outcome ≡ false → CountedOne n n ask outcome
counted_none n ask outcome un unseen stale = record {
  looks = rose_none (is_look ask outcome) n.looks unseen;
  refused = made_none (is_no_look outcome) n.refused un.no_look;
  store = rose_none (is_store outcome) n.store un.store;
  full = rose_none (is_full outcome) n.full un.full;
  apart = rose_none (is_apart outcome) n.apart un.apart;
  fresh = rose_none (is_fresh ask outcome) n.judged_fresh stale;
  repeated = rose_none (is_repeated outcome) n.judged_repeat un.repeated;
  old = rose_none (is_old outcome) n.judged_old un.old;
  skipped = rose_none (is_skipped outcome) n.judged_skipped un.skipped;
}

-- a fixed reply of want of memory shows no look
pub no_look_shown : (ask : Ask) (lack : Fixed) → IsLack lack → is_look (Ok ask) (Stands lack) ≡ false
no_look_shown (asks.Query query) lack is = refl
no_look_shown (asks.Items batch) fixed.Memory is = refl
no_look_shown (asks.Items batch) fixed.NotAccepted is = refl
no_look_shown (asks.Items batch) fixed.Accepted is = absurd is
no_look_shown (asks.Items batch) fixed.NoLook is = absurd is
no_look_shown (asks.Noted batch) fixed.Memory is = refl
no_look_shown (asks.Noted batch) fixed.NotAccepted is = refl
no_look_shown (asks.Noted batch) fixed.Accepted is = absurd is
no_look_shown (asks.Noted batch) fixed.NoLook is = absurd is

-- and no fresh batch
not_fresh : (ask : Ask) (lack : Fixed) → IsLack lack → is_fresh (Ok ask) (Stands lack) ≡ false
not_fresh (asks.Query query) lack is = refl
not_fresh (asks.Items batch) lack is = refl
not_fresh (asks.Noted batch) fixed.Memory is = refl
not_fresh (asks.Noted batch) fixed.NotAccepted is = refl
not_fresh (asks.Noted batch) fixed.Accepted is = absurd is
not_fresh (asks.Noted batch) fixed.NoLook is = absurd is

pub same_seat : (s : SeatView) → SameSeat s s
same_seat s = record { number = refl; later = begins_itself s.front }

pub seat_refused : (conf : Configuration) (s : SeatView) (reply : Reply) (lack : Fixed) (outcome : Outcome) → Uncounted reply → IsLack lack → IsReply reply lack outcome
    → SeatAnswers conf s s (Err reply) lack outcome
seat_refused conf s reply lack outcome plain is reply_is = record {
  same = same_seat s;
  answers = (reply_is, refl);
  few = inl refl;
  counts = counted_none s.numbers (Err reply) outcome (uncounts reply lack outcome plain is reply_is) refl refl;
}

pub seat_lacked : (conf : Configuration) (s : SeatView) (ask : Ask) (lack : Fixed) → IsLack lack → SeatAnswers conf s s (Ok ask) lack (Stands lack)
seat_lacked conf s ask lack is = record {
  same = same_seat s;
  answers = lacked_ask conf false s.number (mark_of s) ask lack is;
  few = inl refl;
  counts = counted_none s.numbers (Ok ask) (Stands lack) (uncounts_lack lack is) (no_look_shown ask lack is) (not_fresh ask lack is);
}

-- a number rose, or not
less : (n f g : ℕ) → RoseBy n f g → RoseBy 0 f g
less n f g x = omega arith

-- what a fixed reply shows, the answer in whose place it stands shows too
stands_counts : (a b : Numbers) (batch : List Item) (outcome : Outcome) → CountedOne a b (Ok (asks.Items batch)) outcome
    → CountedOne a b (Ok (asks.Items batch)) (Stands (lack_after outcome fixed.NotAccepted))
stands_counts a b batch (Stands which) x = x
stands_counts a b batch (Says (replies.Posted from to)) x = record { looks = x.looks; refused = x.refused; store = x.store; full = x.full; apart = x.apart; fresh = x.fresh; repeated = x.repeated; old = x.old; skipped = x.skipped }
stands_counts a b batch (Says _) x = record {
  looks = less _ a.looks b.looks x.looks;
  refused = x.refused;
  store = less _ a.store b.store x.store;
  full = less _ a.full b.full x.full;
  apart = less _ a.apart b.apart x.apart;
  fresh = x.fresh;
  repeated = less _ a.judged_repeat b.judged_repeat x.repeated;
  old = less _ a.judged_old b.judged_old x.old;
  skipped = less _ a.judged_skipped b.judged_skipped x.skipped;
}

noted_counts : (a b : Numbers) (batch : NotedBatch) (outcome : Outcome) → CountedOne a b (Ok (asks.Noted batch)) outcome
    → CountedOne a b (Ok (asks.Noted batch)) (Stands (noted_lack outcome))
noted_counts a b batch (Stands which) x = x
noted_counts a b batch (Says (replies.Posted from to)) x = record { looks = x.looks; refused = x.refused; store = x.store; full = x.full; apart = x.apart; fresh = x.fresh; repeated = x.repeated; old = x.old; skipped = x.skipped }
noted_counts a b batch (Says _) x = record {
  looks = less _ a.looks b.looks x.looks;
  refused = x.refused;
  store = less _ a.store b.store x.store;
  full = less _ a.full b.full x.full;
  apart = less _ a.apart b.apart x.apart;
  fresh = x.fresh;
  repeated = less _ a.judged_repeat b.judged_repeat x.repeated;
  old = less _ a.judged_old b.judged_old x.old;
  skipped = less _ a.judged_skipped b.judged_skipped x.skipped;
}

pub seat_stands : (conf : Configuration) (a b : SeatView) (batch : List Item) (outcome : Outcome) → SeatAnswers conf a b (Ok (asks.Items batch)) fixed.NotAccepted outcome
    → SeatAnswers conf a b (Ok (asks.Items batch)) fixed.NotAccepted (Stands (lack_after outcome fixed.NotAccepted))
seat_stands conf a b batch outcome x = record {
  same = x.same;
  answers = (batch_stands false a.number (mark_of a) batch outcome (mark_of b) x.answers.0, x.answers.1);
  few = x.few;
  counts = stands_counts a.numbers b.numbers batch outcome x.counts;
}

pub seat_noted_stands : (conf : Configuration) (a b : SeatView) (batch : NotedBatch) (outcome : Outcome) → SeatAnswers conf a b (Ok (asks.Noted batch)) fixed.NotAccepted outcome
    → SeatAnswers conf a b (Ok (asks.Noted batch)) fixed.NotAccepted (Stands (noted_lack outcome))
seat_noted_stands conf a b batch outcome x = record {
  same = x.same;
  answers = noted_stands false a.number (mark_of a) batch outcome (mark_of b) x.answers;
  few = x.few;
  counts = noted_counts a.numbers b.numbers batch outcome x.counts;
}
