-- The messages at the front of bytes, answered one after another, and how a session over them ends.
use Rattle.std.proofs.Common.{◌≡◌, ◌⊎◌, inl, inr, ℕ, ◌∙◌, ◌||◌, Bool, true, false, List, [], ◌∷◌, ◌++◌, Option, Some, None, if◌then◌else◌, refl, ap, sym, subst, append_assoc, append-nil}
use Rattle.std.proofs.lemmas.List.Folds.{list_any-append}
use Rattle.std.proofs.lemmas.List.{map-append}
use Rattle.std.proofs.lemmas.Grind.{flat_map-append}
use Rattle.gj_http.specs.Calls.{InFront}
use Rattle.gj_http.specs.Cut.{IsMessage, IsRefused, NeedsMore}
use Rattle.gj_http.specs.Request.{Request}
use Rattle.gj_http.specs.declared.message.Refused.{Refused}
use Rattle.gj_reply.specs.declared.fixed.Fixed.{Fixed}
use Rattle.gj_reply.specs.declared.fixed.Fixed.TheVariants.{Memory}
use Rattle.gj_session.specs.Heard.{framing_reply}
use Rattle.gj_session.specs.Loop.{GoesOn, AfterAnswer, Answered, RefusalEnds, IsByMessages}
use Rattle.gj_session.specs.Outcomes.{IsReply, outcome_bytes}
use Rattle.gj_session.specs.Runs.{Exchange, messages_of, Leads, exchange_bytes, transcript}
use Rattle.gj_session.specs.Sessions.{any_closes, ClosesLast, WroteRefusal, CutAnswer, CutRefusal, IsOpen, Ends, Exchanges, Ended}
use Rattle.gj_base.specs.Streams.{Outgoing, Wrote, WrotePart}
use Rattle.gj_session.specs.declared.outcome.Outcome.{Outcome}
use Rattle.gj_session.specs.declared.outcome.Outcome.TheVariants.{Stands}
use Rattle.gj_session.specs.declared.outcome.End.{End}
use Rattle.gj_session.specs.declared.outcome.End.TheVariants.{Finished, Closed, Truncated, Stopped, ReadFault, WriteFault, Turns}
use Rattle.gj_base.proofs.StreamLemmas.{wrote_none, wrote_then, part_then}

-- the law of messages in front of messages
abbrev pub Joins : Type 0
Joins = (bytes held rest : List ℕ) (messages later : List Request) → InFront bytes messages held → InFront held later rest → InFront bytes (messages ++ later) rest

-- and that of more bytes
abbrev pub FeedsOn : Type 0
FeedsOn = (bytes held piece : List ℕ) (messages : List Request) → InFront bytes messages held → InFront (bytes ++ piece) messages (held ++ piece)

leads_then : (S : Type 0) (step : S → Request → Outcome → S → Type 0) (k0 k1 k2 : S) (a b : List Exchange) → Leads S step k0 k1 a → Leads S step k1 k2 b → Leads S step k0 k2 (a ++ b)
leads_then S step k0 k1 k2 [] b x y = subst (λ (k : S). Leads S step k k2 b) x y
leads_then S step k0 k1 k2 (e ∷ a) b x y = (x.0, (x.1.0, leads_then S step x.0 k1 k2 a b x.1.1 y))

closes_then : (a b : List Exchange) → any_closes a ≡ false → any_closes b ≡ false → any_closes (a ++ b) ≡ false
closes_then a b x y = list_any-append (λ (e : Exchange). e.message.close) a b ∙ ap (λ (t : Bool). t || any_closes b) x ∙ y

transcript_then : (a b : List Exchange) → transcript (a ++ b) ≡ transcript a ++ transcript b
transcript_then a b = flat_map-append exchange_bytes a b

-- answers after answers
answers_then : (o0 o1 o2 : Outgoing) (a b : List Exchange) → Wrote o0 o1 (transcript a) → Wrote o1 o2 (transcript b) → Wrote o0 o2 (transcript (a ++ b))
answers_then o0 o1 o2 a b x y = subst (Wrote o0 o2) (sym (transcript_then a b)) (wrote_then o0 o1 o2 (transcript a) (transcript b) x y)

-- a part after answers
cut_then : (o0 o1 o2 : Outgoing) (a b : List Exchange) (whole : List ℕ) → Wrote o0 o1 (transcript a) → WrotePart o1 o2 (transcript b) whole → WrotePart o0 o2 (transcript (a ++ b)) whole
cut_then o0 o1 o2 a b whole x y =
    subst (λ (w : List ℕ). WrotePart o0 o2 w whole) (sym (transcript_then a b)) (part_then o0 o1 o2 (transcript a) (transcript b) whole x y)

-- exchanges over bytes, and then over what follows them
exchanges_then : Joins → (S : Type 0) (step : S → Request → Outcome → S → Type 0) (k0 k1 k2 : S) (bytes mid rest : List ℕ) (a b : List Exchange)
    → Exchanges (Leads S step k0 k1) bytes a mid → Exchanges (Leads S step k1 k2) mid b rest → Exchanges (Leads S step k0 k2) bytes (a ++ b) rest
exchanges_then join S step k0 k1 k2 bytes mid rest a b x y = record {
  front = subst (λ (ms : List Request). InFront bytes ms rest) (sym (map-append (λ (e : Exchange). e.message) a b)) (join bytes mid rest (messages_of a) (messages_of b) x.front y.front);
  run = leads_then S step k0 k1 k2 a b x.run y.run;
}

-- no exchange yet
pub goes_none : (S : Type 0) (step : S → Request → Outcome → S → Type 0) (k : S) (o : Outgoing) (bytes : List ℕ) → GoesOn (Leads S step k k) o o bytes bytes
goes_none S step k o bytes = record {
  exchanges = [];
  answered = record { front = refl; run = refl };
  quiet = refl;
  wrote = wrote_none o;
}

-- the session goes on over what follows
pub goes_goes : Joins → (S : Type 0) (step : S → Request → Outcome → S → Type 0) (k0 k1 k2 : S) (o0 o1 o2 : Outgoing) (bytes mid rest : List ℕ)
    → GoesOn (Leads S step k0 k1) o0 o1 bytes mid → GoesOn (Leads S step k1 k2) o1 o2 mid rest → GoesOn (Leads S step k0 k2) o0 o2 bytes rest
goes_goes join S step k0 k1 k2 o0 o1 o2 bytes mid rest x y = record {
  exchanges = x.exchanges ++ y.exchanges;
  answered = exchanges_then join S step k0 k1 k2 bytes mid rest x.exchanges y.exchanges x.answered y.answered;
  quiet = closes_then x.exchanges y.exchanges x.quiet y.quiet;
  wrote = answers_then o0 o1 o2 x.exchanges y.exchanges x.wrote y.wrote;
}

-- more bytes come
pub goes_fed : FeedsOn → (S : Type 0) (step : S → Request → Outcome → S → Type 0) (k0 k1 : S) (o0 o1 : Outgoing) (bytes rest more : List ℕ)
    → GoesOn (Leads S step k0 k1) o0 o1 bytes rest → GoesOn (Leads S step k0 k1) o0 o1 (bytes ++ more) (rest ++ more)
goes_fed feed S step k0 k1 o0 o1 bytes rest more x = record {
  exchanges = x.exchanges;
  answered = record {
    front = feed bytes rest more (messages_of x.exchanges) x.answered.front;
    run = x.answered.run;
  };
  quiet = x.quiet;
  wrote = x.wrote;
}

open_then : (o0 o1 o2 : Outgoing) (rest : List ℕ) (a b : List Exchange) → any_closes a ≡ false → Wrote o0 o1 (transcript a) → IsOpen o1 o2 b rest → IsOpen o0 o2 (a ++ b) rest
open_then o0 o1 o2 rest a b quiet x y = record {
  quiet = closes_then a b quiet y.quiet;
  more = y.more;
  wrote = answers_then o0 o1 o2 a b x y.wrote;
}

cut_answer_then : (o0 o1 o2 : Outgoing) (a b : List Exchange) → any_closes a ≡ false → Wrote o0 o1 (transcript a) → CutAnswer o1 o2 b → CutAnswer o0 o2 (a ++ b)
cut_answer_then o0 o1 o2 a b quiet x y = record {
  done = a ++ y.done;
  last = y.last;
  parts = ap (λ (es : List Exchange). a ++ es) y.parts ∙ sym (append_assoc a y.done (y.last ∷ []));
  quiet = closes_then a y.done quiet y.quiet;
  wrote = cut_then o0 o1 o2 a y.done (exchange_bytes y.last) x y.wrote;
}

cut_refusal_then : (o0 o1 o2 : Outgoing) (rest : List ℕ) (a b : List Exchange) → any_closes a ≡ false → Wrote o0 o1 (transcript a) → CutRefusal o1 o2 b rest → CutRefusal o0 o2 (a ++ b) rest
cut_refusal_then o0 o1 o2 rest a b quiet x y = record {
  why = y.why;
  refused = y.refused;
  quiet = closes_then a b quiet y.quiet;
  outcome = y.outcome;
  reply = y.reply;
  wrote = cut_then o0 o1 o2 a b (outcome_bytes y.outcome true) x y.wrote;
}

closes_last_then : (a b : List Exchange) → any_closes a ≡ false → ClosesLast b → ClosesLast (a ++ b)
closes_last_then a b quiet y = record {
  done = a ++ y.done;
  last = y.last;
  parts = ap (λ (es : List Exchange). a ++ es) y.parts ∙ sym (append_assoc a y.done (y.last ∷ []));
  quiet = closes_then a y.done quiet y.quiet;
  closes = y.closes;
}

refusal_then : (o0 o1 o2 : Outgoing) (a b : List Exchange) (why : Refused) → Wrote o0 o1 (transcript a) → WroteRefusal o1 o2 b why → WroteRefusal o0 o2 (a ++ b) why
refusal_then o0 o1 o2 a b why x y =
    let bytes = outcome_bytes y.outcome true in
    record {
      outcome = y.outcome;
      reply = y.reply;
      wrote = subst (Wrote o0 o2) (sym (append_assoc (transcript a) (transcript b) bytes) ∙ ap (λ (w : List ℕ). w ++ bytes) (sym (transcript_then a b)))
          (wrote_then o0 o1 o2 (transcript a) (transcript b ++ bytes) x y.wrote);
    }

ends_then : (end : End) (o0 o1 o2 : Outgoing) (rest : List ℕ) (a b : List Exchange) → any_closes a ≡ false → Wrote o0 o1 (transcript a)
    → Ends end o1 o2 b rest → Ends end o0 o2 (a ++ b) rest
ends_then Finished o0 o1 o2 rest a b quiet x y = (open_then o0 o1 o2 rest a b quiet x y.0, y.1)
ends_then Truncated o0 o1 o2 rest a b quiet x y = (open_then o0 o1 o2 rest a b quiet x y.0, y.1)
ends_then ReadFault o0 o1 o2 rest a b quiet x y = open_then o0 o1 o2 rest a b quiet x y
ends_then Turns o0 o1 o2 rest a b quiet x y = open_then o0 o1 o2 rest a b quiet x y
ends_then Closed o0 o1 o2 rest a b quiet x y = (closes_last_then a b quiet y.0, answers_then o0 o1 o2 a b x y.1)
ends_then (Stopped why) o0 o1 o2 rest a b quiet x y = (closes_then a b quiet y.0, (y.1.0, refusal_then o0 o1 o2 a b why x y.1.1))
ends_then WriteFault o0 o1 o2 rest a b quiet x (inl y) = inl (cut_answer_then o0 o1 o2 a b quiet x y)
ends_then WriteFault o0 o1 o2 rest a b quiet x (inr y) = inr (cut_refusal_then o0 o1 o2 rest a b quiet x y)

-- the session ends over what follows
pub goes_ended : Joins → (S : Type 0) (step : S → Request → Outcome → S → Type 0) (k0 k1 k2 : S) (o0 o1 o2 : Outgoing) (bytes mid : List ℕ) (end : End)
    → GoesOn (Leads S step k0 k1) o0 o1 bytes mid → Ended (Leads S step k1 k2) o1 o2 mid end → Ended (Leads S step k0 k2) o0 o2 bytes end
goes_ended join S step k0 k1 k2 o0 o1 o2 bytes mid end x y = record {
  exchanges = x.exchanges ++ y.exchanges;
  rest = y.rest;
  answered = exchanges_then join S step k0 k1 k2 bytes mid y.rest x.exchanges y.exchanges x.answered y.answered;
  ends = ends_then end o0 o1 o2 y.rest x.exchanges y.exchanges x.quiet x.wrote y.ends;
}

one_exchange : (S : Type 0) (step : S → Request → Outcome → S → Type 0) (k0 k1 : S) (bytes rest : List ℕ) (m : Request) (o : Outcome)
    → IsMessage bytes m rest → step k0 m o k1
    → Exchanges (Leads S step k0 k1) bytes (record { message = m; outcome = o } ∷ []) rest
one_exchange S step k0 k1 bytes rest m o is steps = record {
  front = (rest, (is, refl));
  run = (k1, (steps, refl));
}

wrote_one : (a b : Outgoing) (m : Request) (o : Outcome) → Wrote a b (outcome_bytes o m.close) → Wrote a b (transcript (record { message = m; outcome = o } ∷ []))
wrote_one a b m o x = subst (Wrote a b) (sym (append-nil (outcome_bytes o m.close))) x

-- one message was answered, and the session goes on
pub one_goes : (S : Type 0) (step : S → Request → Outcome → S → Type 0) (k0 k1 : S) (o0 o1 : Outgoing) (bytes rest : List ℕ) (m : Request)
    → IsMessage bytes m rest → Answered (λ o. step k0 m o k1) o0 o1 m.close None → GoesOn (Leads S step k0 k1) o0 o1 bytes rest
one_goes S step k0 k1 o0 o1 bytes rest m is a = record {
  exchanges = record { message = m; outcome = a.outcome } ∷ [];
  answered = one_exchange S step k0 k1 bytes rest m a.outcome is a.answers;
  quiet = ap (λ (t : Bool). t || false) a.after.0;
  wrote = wrote_one o0 o1 m a.outcome a.after.1;
}

one_ends : (end : End) (o0 o1 : Outgoing) (rest : List ℕ) (m : Request) (o : Outcome)
    → AfterAnswer (Some end) m.close o0 o1 (outcome_bytes o m.close) → Ends end o0 o1 (record { message = m; outcome = o } ∷ []) rest
one_ends Closed o0 o1 rest m o l = (
  record { done = []; last = record { message = m; outcome = o }; parts = refl; quiet = refl; closes = l.0 },
  wrote_one o0 o1 m o l.1,
)
one_ends WriteFault o0 o1 rest m o l = inl (record { done = []; last = record { message = m; outcome = o }; parts = refl; quiet = refl; wrote = l })
one_ends Finished o0 o1 rest m o l = absurd l
one_ends Truncated o0 o1 rest m o l = absurd l
one_ends (Stopped _) o0 o1 rest m o l = absurd l
one_ends ReadFault o0 o1 rest m o l = absurd l
one_ends Turns o0 o1 rest m o l = absurd l

-- one message was answered, and the session ended
pub one_ended : (S : Type 0) (step : S → Request → Outcome → S → Type 0) (k0 k1 : S) (o0 o1 : Outgoing) (bytes rest : List ℕ) (m : Request) (end : End)
    → IsMessage bytes m rest → Answered (λ o. step k0 m o k1) o0 o1 m.close (Some end) → Ended (Leads S step k0 k1) o0 o1 bytes end
one_ended S step k0 k1 o0 o1 bytes rest m end is a = record {
  exchanges = record { message = m; outcome = a.outcome } ∷ [];
  rest = rest;
  answered = one_exchange S step k0 k1 bytes rest m a.outcome is a.answers;
  ends = one_ends end o0 o1 rest m a.outcome a.after;
}

refusal_ends : (end : End) (o0 o1 : Outgoing) (rest : List ℕ) (why : Refused) → IsRefused rest why → RefusalEnds end o0 o1 why → Ends end o0 o1 [] rest
refusal_ends (Stopped which) o0 o1 rest why is r = (
  refl,
  (
    subst (IsRefused rest) (sym r.0) is,
    record { outcome = r.1.0; reply = subst (λ (x : Refused). IsReply (framing_reply x) Memory r.1.0) (sym r.0) r.1.1.0; wrote = r.1.1.1 },
  ),
)
refusal_ends WriteFault o0 o1 rest why is r = inr (record { why = why; refused = is; quiet = refl; outcome = r.0; reply = r.1.0; wrote = r.1.1 })
refusal_ends Finished o0 o1 rest why is r = absurd r
refusal_ends Truncated o0 o1 rest why is r = absurd r
refusal_ends Closed o0 o1 rest why is r = absurd r
refusal_ends ReadFault o0 o1 rest why is r = absurd r
refusal_ends Turns o0 o1 rest why is r = absurd r

-- the bytes were refused
pub refused_ended : (S : Type 0) (step : S → Request → Outcome → S → Type 0) (k : S) (o0 o1 : Outgoing) (bytes : List ℕ) (why : Refused) (end : End)
    → IsRefused bytes why → RefusalEnds end o0 o1 why → Ended (Leads S step k k) o0 o1 bytes end
refused_ended S step k o0 o1 bytes why end is r = record {
  exchanges = [];
  rest = bytes;
  answered = record { front = refl; run = refl };
  ends = refusal_ends end o0 o1 bytes why is r;
}

-- the session ends between reads, or for want of them
pub open_ended : (S : Type 0) (step : S → Request → Outcome → S → Type 0) (k0 k1 : S) (o0 o1 : Outgoing) (bytes rest : List ℕ) (end : End)
    → (x : GoesOn (Leads S step k0 k1) o0 o1 bytes rest) → NeedsMore rest
    → (IsOpen o0 o1 x.exchanges rest → Ends end o0 o1 x.exchanges rest) → Ended (Leads S step k0 k1) o0 o1 bytes end
open_ended S step k0 k1 o0 o1 bytes rest end x more how = record {
  exchanges = x.exchanges;
  rest = rest;
  answered = x.answered;
  ends = how (record { quiet = x.quiet; more = more; wrote = x.wrote });
}

-- a message was answered by its outcome, or by the fixed reply in its place
pub answered_by : (may : Outcome → Type 0) (o0 o1 : Outgoing) (close : Bool) (result : Option End) (outcome final : Outcome) (lack : Fixed)
    → may outcome → may (Stands lack) → ((final ≡ outcome) ⊎ (final ≡ Stands lack))
    → AfterAnswer result close o0 o1 (outcome_bytes final close) → Answered may o0 o1 close result
answered_by may o0 o1 close result outcome final lack says stands (inl e) after = record {
  outcome = outcome;
  answers = says;
  after = subst (λ (o : Outcome). AfterAnswer result close o0 o1 (outcome_bytes o close)) e after;
}
answered_by may o0 o1 close result outcome final lack says stands (inr e) after = record {
  outcome = Stands lack;
  answers = stands;
  after = subst (λ (o : Outcome). AfterAnswer result close o0 o1 (outcome_bytes o close)) e after;
}

-- the answer was written whole
pub after_whole : (close : Bool) (result : Option End) (o0 o1 : Outgoing) (bytes : List ℕ) → result ≡ (if close then Some Closed else None)
    → Wrote o0 o1 bytes → AfterAnswer result close o0 o1 bytes
after_whole true result o0 o1 bytes e wrote = subst (λ (r : Option End). AfterAnswer r true o0 o1 bytes) (sym e) (refl, wrote)
after_whole false result o0 o1 bytes e wrote = subst (λ (r : Option End). AfterAnswer r false o0 o1 bytes) (sym e) (refl, wrote)

pub after_by_messages : (end : End) (close : Bool) (o0 o1 : Outgoing) (bytes : List ℕ) → AfterAnswer (Some end) close o0 o1 bytes → IsByMessages end
after_by_messages Closed close o0 o1 bytes l = tt
after_by_messages WriteFault close o0 o1 bytes l = tt
after_by_messages Finished close o0 o1 bytes l = l
after_by_messages Truncated close o0 o1 bytes l = l
after_by_messages (Stopped _) close o0 o1 bytes l = tt
after_by_messages ReadFault close o0 o1 bytes l = l
after_by_messages Turns close o0 o1 bytes l = l

pub refusal_by_messages : (end : End) (o0 o1 : Outgoing) (why : Refused) → RefusalEnds end o0 o1 why → IsByMessages end
refusal_by_messages (Stopped _) o0 o1 why r = tt
refusal_by_messages WriteFault o0 o1 why r = tt
refusal_by_messages Finished o0 o1 why r = r
refusal_by_messages Truncated o0 o1 why r = r
refusal_by_messages Closed o0 o1 why r = tt
refusal_by_messages ReadFault o0 o1 why r = r
refusal_by_messages Turns o0 o1 why r = r
