-- The turns of a session, and the whole of it.
use Rattle.std.proofs.Common.{◌≡◌, ℕ, ◌+◌, ◌<◌, ◌∙◌, IsTrue, List, [], ◌∷◌, ◌++◌, length, refl, ap, sym, subst, arith, append-nil, length-append}
use Rattle.gj_base.specs.Stream.{Reading}
use Rattle.gj_http.specs.Cut.{NeedsMore}
use Rattle.gj_http.specs.Request.{Request}
use Rattle.gj_session.specs.Loop.{GoesOn, InSession, TookPiece, TookNone, EndsInput, IsByMessages}
use Rattle.gj_session.specs.Runs.{Exchange, Leads}
use Rattle.gj_session.specs.Sessions.{IsOpen, Ends, Ended, IsAll, IsTurned, FailedReads, Replayed}
use Rattle.gj_base.specs.Streams.{Incoming, Outgoing, FailedOnce, TookAll, Took}
use Rattle.gj_session.specs.declared.outcome.Outcome.{Outcome}
use Rattle.gj_session.specs.declared.outcome.End.{End}
use Rattle.gj_session.specs.declared.outcome.End.TheVariants.{Finished, Closed, Truncated, Stopped, ReadFault, WriteFault, Turns}
use Rattle.gj_session.proofs.GoingLemmas.{Joins, FeedsOn, goes_none, goes_goes, goes_fed, goes_ended, open_ended}
use Rattle.gj_base.proofs.StreamLemmas.{took_none, took_then}

-- nothing was taken yet
pub session_none : (S : Type 0) (step : S → Request → Outcome → S → Type 0) (k : S) (i : Incoming) (o : Outgoing) (rest : List ℕ) → NeedsMore [] → rest ≡ []
    → InSession (Leads S step k k) i i o o rest 0
session_none S step k i o rest more e = record {
  bytes = [];
  took = took_none i;
  same = refl;
  goes = subst (λ (r : List ℕ). GoesOn (Leads S step k k) o o [] r) (sym e) (goes_none S step k o []);
  more = subst NeedsMore (sym e) more;
  many = omega arith;
}

-- what was taken and answered, and then a piece
goes_piece : FeedsOn → (S : Type 0) (step : S → Request → Outcome → S → Type 0) (k0 k1 : S) (i0 i1 i2 : Incoming) (o0 o1 : Outgoing) (held holds : List ℕ) (at n : ℕ)
    → (x : InSession (Leads S step k0 k1) i0 i1 o0 o1 held at) → (fed : TookPiece i1 i2 held holds n) → GoesOn (Leads S step k0 k1) o0 o1 (x.bytes ++ fed.piece) holds
goes_piece feed S step k0 k1 i0 i1 i2 o0 o1 held holds at n x fed =
    subst (GoesOn (Leads S step k0 k1) o0 o1 (x.bytes ++ fed.piece)) (sym fed.fed) (goes_fed feed S step k0 k1 o0 o1 x.bytes held fed.piece x.goes)

-- a piece was taken, and the messages in what is held were answered
pub session_more : Joins → FeedsOn → (S : Type 0) (step : S → Request → Outcome → S → Type 0) (k0 k1 k2 : S) (i0 i1 i2 : Incoming) (o0 o1 o2 : Outgoing) (held holds rest : List ℕ) (at n : ℕ)
    → InSession (Leads S step k0 k1) i0 i1 o0 o1 held at → TookPiece i1 i2 held holds n → (n ≡ 0 → ⊥)
    → GoesOn (Leads S step k1 k2) o1 o2 holds rest → NeedsMore rest → InSession (Leads S step k0 k2) i0 i2 o0 o2 rest (at + 1)
session_more join feed S step k0 k1 k2 i0 i1 i2 o0 o1 o2 held holds rest at n x fed some goes more = record {
  bytes = x.bytes ++ fed.piece;
  took = took_then i0 i1 i2 x.bytes fed.piece at 1 x.took fed.took;
  same = fed.same ∙ x.same;
  goes = goes_goes join S step k0 k1 k2 o0 o1 o2 (x.bytes ++ fed.piece) holds rest (goes_piece feed S step k0 k1 i0 i1 i2 o0 o1 held holds at n x fed) goes;
  more = more;
  many = (let count = fed.count in omega (arith, length-append x.bytes fed.piece, x.many));
}

by_messages_all : (end : End) (left : List ℕ) → IsByMessages end → IsAll end left
by_messages_all Closed left h = tt
by_messages_all (Stopped _) left h = tt
by_messages_all WriteFault left h = tt
by_messages_all Finished left h = absurd h
by_messages_all Truncated left h = absurd h
by_messages_all ReadFault left h = tt
by_messages_all Turns left h = tt

by_messages_turned : (end : End) (reads turns : ℕ) (bytes : List ℕ) → IsByMessages end → IsTurned end reads turns bytes
by_messages_turned Closed reads turns bytes h = tt
by_messages_turned (Stopped _) reads turns bytes h = tt
by_messages_turned WriteFault reads turns bytes h = tt
by_messages_turned Finished reads turns bytes h = tt
by_messages_turned Truncated reads turns bytes h = tt
by_messages_turned ReadFault reads turns bytes h = tt
by_messages_turned Turns reads turns bytes h = absurd h

by_messages_same : (end : End) (f g : ℕ) → IsByMessages end → g ≡ f → FailedReads end f g
by_messages_same Closed f g h e = e
by_messages_same (Stopped _) f g h e = e
by_messages_same WriteFault f g h e = e
by_messages_same Finished f g h e = e
by_messages_same Truncated f g h e = e
by_messages_same ReadFault f g h e = absurd h
by_messages_same Turns f g h e = e

-- a piece was taken, and a message or a refusal in what is held ended the session
pub replayed_messages : Joins → FeedsOn → (S : Type 0) (step : S → Request → Outcome → S → Type 0) (k0 k1 k2 : S) (i0 i1 i2 : Incoming) (o0 o1 o2 : Outgoing) (held holds : List ℕ) (at n turns : ℕ) (end : End)
    → InSession (Leads S step k0 k1) i0 i1 o0 o1 held at → TookPiece i1 i2 held holds n → at < turns
    → Ended (Leads S step k1 k2) o1 o2 holds end → IsByMessages end → Replayed (Leads S step k0 k2) i0 i2 o0 o2 turns end
replayed_messages join feed S step k0 k1 k2 i0 i1 i2 o0 o1 o2 held holds at n turns end x fed turn ended by = record {
  bytes = x.bytes ++ fed.piece;
  reads = at + 1;
  took = took_then i0 i1 i2 x.bytes fed.piece at 1 x.took fed.took;
  few = omega arith;
  turned = by_messages_turned end (at + 1) turns (x.bytes ++ fed.piece) by;
  all = λ t. by_messages_all end i2.stream.left by;
  failed = by_messages_same end i0.faults i2.faults by (fed.same ∙ x.same);
  ended = goes_ended join S step k0 k1 k2 o0 o1 o2 (x.bytes ++ fed.piece) holds end (goes_piece feed S step k0 k1 i0 i1 i2 o0 o1 held holds at n x fed) ended;
}

-- a read failed
pub replayed_fault : (S : Type 0) (step : S → Request → Outcome → S → Type 0) (k0 k1 : S) (i0 i1 i2 : Incoming) (o0 o1 : Outgoing) (held : List ℕ) (at turns : ℕ)
    → InSession (Leads S step k0 k1) i0 i1 o0 o1 held at → TookNone i1 i2 → at < turns
    → Replayed (Leads S step k0 k1) i0 i2 o0 o1 turns ReadFault
replayed_fault S step k0 k1 i0 i1 i2 o0 o1 held at turns x none turn = record {
  bytes = x.bytes;
  reads = at + 1;
  took = subst (λ (b : List ℕ). Took i0 i2 b (at + 1)) (append-nil x.bytes) (took_then i0 i1 i2 x.bytes [] at 1 x.took none.took);
  few = omega arith;
  turned = tt;
  all = λ t. tt;
  failed = subst (λ (f : ℕ). FailedOnce f i2.faults) x.same none.failed;
  ended = open_ended S step k0 k1 o0 o1 x.bytes held ReadFault x.goes x.more (λ o. o);
}

-- as many reads were made as were allowed
pub replayed_turns : (S : Type 0) (step : S → Request → Outcome → S → Type 0) (k0 k1 : S) (i0 i1 : Incoming) (o0 o1 : Outgoing) (held : List ℕ) (at turns : ℕ)
    → InSession (Leads S step k0 k1) i0 i1 o0 o1 held at → at ≡ turns
    → Replayed (Leads S step k0 k1) i0 i1 o0 o1 turns Turns
replayed_turns S step k0 k1 i0 i1 o0 o1 held at turns x here = record {
  bytes = x.bytes;
  reads = at;
  took = x.took;
  few = omega arith;
  turned = (here, omega (arith, x.many));
  all = λ t. tt;
  failed = x.same;
  ended = open_ended S step k0 k1 o0 o1 x.bytes held Turns x.goes x.more (λ o. o);
}

ends_input : (end : End) (o0 o1 : Outgoing) (held : List ℕ) (es : List Exchange) → EndsInput end held → IsOpen o0 o1 es held → Ends end o0 o1 es held
ends_input Finished o0 o1 held es how o = (o, how)
ends_input Truncated o0 o1 held es how o = (o, how)
ends_input Closed o0 o1 held es how o = absurd how
ends_input (Stopped _) o0 o1 held es how o = absurd how
ends_input ReadFault o0 o1 held es how o = absurd how
ends_input WriteFault o0 o1 held es how o = absurd how
ends_input Turns o0 o1 held es how o = absurd how

input_all : (end : End) (held left : List ℕ) → EndsInput end held → left ≡ [] → IsAll end left
input_all Finished held left how e = e
input_all Truncated held left how e = e
input_all Closed held left how e = tt
input_all (Stopped _) held left how e = tt
input_all ReadFault held left how e = tt
input_all WriteFault held left how e = tt
input_all Turns held left how e = tt

input_turned : (end : End) (held : List ℕ) (reads turns : ℕ) (bytes : List ℕ) → EndsInput end held → IsTurned end reads turns bytes
input_turned Finished held reads turns bytes how = tt
input_turned Truncated held reads turns bytes how = tt
input_turned Closed held reads turns bytes how = tt
input_turned (Stopped _) held reads turns bytes how = tt
input_turned ReadFault held reads turns bytes how = tt
input_turned WriteFault held reads turns bytes how = tt
input_turned Turns held reads turns bytes how = absurd how

input_same : (end : End) (held : List ℕ) (f g : ℕ) → EndsInput end held → g ≡ f → FailedReads end f g
input_same Finished held f g how e = e
input_same Truncated held f g how e = e
input_same Closed held f g how e = e
input_same (Stopped _) held f g how e = e
input_same ReadFault held f g how e = absurd how
input_same WriteFault held f g how e = e
input_same Turns held f g how e = e

empty_by_length : (xs : List ℕ) → length xs ≡ 0 → xs ≡ []
empty_by_length [] e = refl
empty_by_length (x ∷ xs) e = absurd (omega arith)

nothing_left : (mid last : Reading) (piece : List ℕ) → TookAll mid last piece → mid.left ≡ [] → last.left ≡ []
nothing_left mid last piece took e = (let lengths = ap length (sym took.left ∙ e) in let none : length last.left ≡ 0 = omega (arith, lengths, length-append piece last.left) in empty_by_length last.left none)

-- the input ended
pub replayed_input : (S : Type 0) (step : S → Request → Outcome → S → Type 0) (k0 k1 : S) (i0 i1 i2 : Incoming) (o0 o1 : Outgoing) (held holds : List ℕ) (at n turns : ℕ) (end : End)
    → InSession (Leads S step k0 k1) i0 i1 o0 o1 held at → TookPiece i1 i2 held holds n → n ≡ 0 → at < turns
    → EndsInput end holds → Replayed (Leads S step k0 k1) i0 i2 o0 o1 turns end
replayed_input S step k0 k1 i0 i1 i2 o0 o1 held holds at n turns end x fed none turn how =
    let empty : fed.piece ≡ [] = empty_by_length fed.piece (fed.count ∙ none) in
    let same : holds ≡ held = fed.fed ∙ ap (λ (p : List ℕ). held ++ p) empty ∙ append-nil held in
    let here : EndsInput end held = subst (EndsInput end) same how in
    record {
      bytes = x.bytes ++ fed.piece;
      reads = at + 1;
      took = took_then i0 i1 i2 x.bytes fed.piece at 1 x.took fed.took;
      few = omega arith;
      turned = input_turned end held (at + 1) turns (x.bytes ++ fed.piece) here;
      all = λ t. (let here_told = subst IsTrue (sym x.took.told) t in input_all end held i2.stream.left here (nothing_left i1.stream i2.stream fed.piece (fed.took.all here_told) (fed.end here_told none)));
      failed = input_same end held i0.faults i2.faults here (fed.same ∙ x.same);
      ended = subst (λ (b : List ℕ). Ended (Leads S step k0 k1) o0 o1 b end) (sym (ap (λ (p : List ℕ). x.bytes ++ p) empty ∙ append-nil x.bytes))
          (open_ended S step k0 k1 o0 o1 x.bytes held end x.goes x.more (ends_input end o0 o1 held x.goes.exchanges here));
    }

-- what was run is known otherwise
pub replayed_as : (r q : List Exchange → Type 0) (i0 i1 : Incoming) (o0 o1 : Outgoing) (turns : ℕ) (end : End)
    → ((es : List Exchange) → r es → q es) → Replayed r i0 i1 o0 o1 turns end → Replayed q i0 i1 o0 o1 turns end
replayed_as r q i0 i1 o0 o1 turns end how x = record {
  bytes = x.bytes;
  reads = x.reads;
  took = x.took;
  few = x.few;
  turned = x.turned;
  all = x.all;
  failed = x.failed;
  ended = record {
    exchanges = x.ended.exchanges;
    rest = x.ended.rest;
    answered = record { front = x.ended.answered.front; run = how x.ended.exchanges x.ended.answered.run };
    ends = x.ended.ends;
  };
}
