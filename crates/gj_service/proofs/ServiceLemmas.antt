-- The lines of a service, put together.
use Rattle.std.proofs.Common.{◌≡◌, ◌⊎◌, inl, inr, true, false, Bool, ℕ, ◌+◌, ◌∙◌, IsTrue, List, ◌++◌, length, take, refl, sym, ap, subst, arith, append_assoc, length-append}
use Rattle.std.proofs.lemmas.List.{take-append-le}
use Rattle.std.proofs.Math.Seq.{take-append-add}
use Rattle.gj_base.specs.Streams.{AppendsPart, Outgoing, Wrote}
use Rattle.gj_base.proofs.StreamLemmas.{wrote_then}
use Rattle.gj_serve.specs.declared.ends.DoorEnd.{DoorEnd}
use Rattle.gj_serve.specs.declared.ends.DoorEnd.TheVariants.{Spent, Closed, Fault}
use Rattle.gj_service.specs.Lines.{WroteBeginning, last_line, ready_line}
use Rattle.std.specs.Prelude.{Option, None}
use Rattle.gj_base.specs.declared.history.History.{History}
use Rattle.gj_base.specs.Configuration.{Configuration}
use Rattle.gj_base.specs.Kept.{Kept}
use Rattle.gj_keep.specs.Openings.{IsLeft, IsPrepared, MayRefuse}
use Rattle.gj_keep.specs.declared.opening.OpenError.{OpenError}
use Rattle.gj_keep.specs.declared.opening.OpenError.TheVariants as why
use Rattle.gj_service.specs.Services.{DoorAt, IsOpened, IsUnserved, Judges, Service, Writes, end_of}
use Rattle.gj_service.specs.declared.end.ServiceEnd.{ServiceEnd}
use Rattle.gj_service.specs.declared.end.ServiceEnd.TheVariants as services
use Rattle.gj_service.specs.declared.plan.Plan.{Plan}

-- a beginning of the first part is one of both
part_cut : (w0 w1 a b : List ℕ) → AppendsPart w0 w1 a → AppendsPart w0 w1 (a ++ b)
part_cut w0 w1 a b (k, short, is) =
    (k, omega (arith, short, length-append a b), is ∙ ap (λ (w : List ℕ). w0 ++ w) (sym (take-append-le k a b (omega (arith, short)))))

-- a beginning of the second part, after the first
part_after : (w0 w1 w2 a b : List ℕ) → w1 ≡ w0 ++ a → AppendsPart w1 w2 b → AppendsPart w0 w2 (a ++ b)
part_after w0 w1 w2 a b e (k, short, is) = (
  length a + k,
  omega (arith, short, length-append a b),
  is ∙ ap (λ (w : List ℕ). w ++ take k b) e ∙ append_assoc w0 a (take k b) ∙ ap (λ (w : List ℕ). w0 ++ w) (sym (take-append-add a b k)),
)

-- the first of two pieces was cut
pub beginning_cut : (o p : Outgoing) (a b : List ℕ) → WroteBeginning o p a → WroteBeginning o p (a ++ b)
beginning_cut o p a b x = record {
  told = x.told;
  part = λ t. part_cut o.written p.written a b (x.part t);
  failed = x.failed;
  spent = (let lengths = length-append a b in omega (arith, lengths, x.spent));
}

-- the second of two pieces was cut
pub beginning_after : (o p q : Outgoing) (a b : List ℕ) → Wrote o p a → WroteBeginning p q b → WroteBeginning o q (a ++ b)
beginning_after o p q a b x y = record {
  told = y.told ∙ x.told;
  part = λ t. part_after o.written p.written q.written a b (x.all t) (y.part (subst IsTrue (sym x.told) t));
  failed = (let same = x.same in let rose = y.failed in omega (arith, same, rose));
  spent = (let lengths = length-append a b in omega (arith, lengths, x.spent, y.spent));
}

-- both lines were written, whatever end was met
pub writes_whole : (end : DoorEnd) (port n m : ℕ) (o p q : Outgoing) → Wrote o p (ready_line port) → Wrote p q (last_line n m) → Writes (end_of end true) port n m o q
writes_whole Spent port n m o p q x y = wrote_then o p q (ready_line port) (last_line n m) x y
writes_whole Closed port n m o p q x y = wrote_then o p q (ready_line port) (last_line n m) x y
writes_whole Fault port n m o p q x y = inr (inl (wrote_then o p q (ready_line port) (last_line n m) x y))

-- the last line was cut
pub writes_part : (end : DoorEnd) (port n m : ℕ) (o p q : Outgoing) → Wrote o p (ready_line port) → WroteBeginning p q (last_line n m) → Writes (end_of end false) port n m o q
writes_part Spent port n m o p q x y = beginning_after o p q (ready_line port) (last_line n m) x y
writes_part Closed port n m o p q x y = beginning_after o p q (ready_line port) (last_line n m) x y
writes_part Fault port n m o p q x y = inr (inr (record { mid = p; first = x; cut = y }))

pub done_of : (end : DoorEnd) (wrote : Bool) → end_of end wrote ≡ services.Done → (end ≡ Spent) ⊎ (end ≡ Closed)
done_of Spent true e = inl refl
done_of Closed true e = inr refl
done_of Spent false e = cc
done_of Closed false e = cc
done_of Fault wrote e = cc

pub fault_of : (end : DoorEnd) (wrote : Bool) → end_of end wrote ≡ services.DoorFault → end ≡ Fault
fault_of Spent true e = cc
fault_of Closed true e = cc
fault_of Spent false e = cc
fault_of Closed false e = cc
fault_of Fault wrote e = refl

pub served_of : (end : DoorEnd) (wrote : Bool) → end_of end wrote ≡ services.Memory → ⊥
served_of Spent true e = cc
served_of Closed true e = cc
served_of Spent false e = cc
served_of Closed false e = cc
served_of Fault wrote e = cc

-- what was written says that the index was opened
pub opened_by : (end : ServiceEnd) (port n m : ℕ) (o p : Outgoing) → Writes end port n m o p → IsOpened end
opened_by services.Done port n m o p w = tt
opened_by services.WriteFault port n m o p w = tt
opened_by services.DoorFault port n m o p w = tt
opened_by services.Memory port n m o p w = tt
opened_by (services.Refused error) port n m o p w = absurd w

-- where the index was opened, no refusal was due
pub judges_opened : (refusal : Option OpenError) (end : ServiceEnd) → IsOpened end → refusal ≡ None → Judges refusal end
judges_opened refusal services.Done o e = e
judges_opened refusal services.WriteFault o e = e
judges_opened refusal services.DoorFault o e = e
judges_opened refusal services.Memory o e = e
judges_opened refusal (services.Refused error) o e = absurd o

-- a refusal of the opening is right
pub judges_refused : (refusal : Option OpenError) (error : OpenError) → ((error ≡ why.Place → ⊥) → MayRefuse refusal error) → Judges refusal (services.Refused error)
judges_refused refusal why.Place may = tt
judges_refused refusal why.Memory may = may (λ e. cc)
judges_refused refusal why.Store may = may (λ e. cc)
judges_refused refusal (why.ConfDiffers kept asked) may = may (λ e. cc)
judges_refused refusal (why.KeptRow row) may = may (λ e. cc)

pub unserved_memory : (end : ServiceEnd) → IsOpened end → IsUnserved end → end ≡ services.Memory
unserved_memory services.Memory o u = refl
unserved_memory services.Done o u = absurd u
unserved_memory services.WriteFault o u = absurd u
unserved_memory services.DoorFault o u = absurd u
unserved_memory (services.Refused error) o u = absurd o

pub opened_not_refused : (end : ServiceEnd) (error : OpenError) → IsOpened end → end ≡ services.Refused error → ⊥
opened_not_refused services.Done error o e = cc
opened_not_refused services.WriteFault error o e = cc
opened_not_refused services.DoorFault error o e = cc
opened_not_refused services.Memory error o e = cc
opened_not_refused (services.Refused error') error o e = o

-- a store that an opening prepared is left
pub left_prepared : (conf : Configuration) (a b c : Kept) → IsPrepared conf a b → c ≡ b → IsLeft conf a c
left_prepared conf a b c x e = record { tells = ap (λ (k : Kept). k.tells) e ∙ x.tells; bare = ap (λ (k : Kept). k.bare) e ∙ x.bare; kept = λ yes. inr (e ∙ x.kept yes) }

-- a service, where more is known of its first and its last history
pub service_as : (plan : Plan) (opens opens' left left' : History → Type 0) {heard : History → Type 0} (a b : DoorAt) (o p : Outgoing) (end : ServiceEnd)
    → ((h : History) → opens h → opens' h) → ((h : History) → left h → left' h) → Service plan opens left heard a b o p end → Service plan opens' left' heard a b o p end
service_as plan opens opens' left left' a b o p end first last x = record {
  opening = x.opening;
  opened = first x.opening x.opened;
  last = x.last;
  begins = x.begins;
  entered_is = x.entered_is;
  bounded = x.bounded;
  sessions = x.sessions;
  kept = last x.last x.kept;
  told = x.told;
}
