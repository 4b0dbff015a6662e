-- A service over a keeper, and the stores from which the keeper comes; and what its status tells of its end.
use Rattle.std.proofs.Common.{◌≡◌, ◌⊎◌, inl, inr, ℕ, ◌∙◌, ◌+◌, ◌<◌, ◌≤◌, ◌^◌, Bool, true, false, IsTrue, List, length, refl, ap, sym, subst, arith}
use Rattle.std.specs.Prelude.{Option, Some, None, IfSome, if◌then◌else◌}
use Rattle.gj_base.specs.declared.history.History.{History}
use Rattle.gj_base.specs.Causes.{Rose}
use Rattle.gj_base.specs.Configuration.{Configuration}
use Rattle.gj_base.specs.History.{empty_history, length_of}
use Rattle.gj_base.specs.Kept.{Kept}
use Rattle.gj_keep.specs.Books.{Keeps, told_rows}
use Rattle.gj_keep.specs.Openings.{IsLeft, due, opening_of, prepared}
use Rattle.gj_keep.specs.Rows.{opened}
use Rattle.gj_keep.specs.declared.opening.OpenError.{OpenError}
use Rattle.gj_keep.specs.declared.opening.OpenError.TheVariants as why
use Rattle.gj_service.specs.Services.{DoorAt, HasRoom, IsOpened, IsUnserved, Judges, Service, TellsConf, TellsRow}
use Rattle.gj_service.specs.declared.end.ServiceEnd.{ServiceEnd}
use Rattle.gj_service.specs.declared.end.ServiceEnd.TheVariants as ends
use Rattle.gj_service.specs.declared.plan.Plan.{Plan}
use Rattle.gj_service.proofs.ServiceLemmas.{service_as}
use Rattle.gj_base.specs.Streams.{Outgoing}
use Rattle.gj_words.specs.Tasks.{Serving}
use Rattle.gj_program.proofs.ReplayLemmas.{keeps_home}
use Rattle.gj_program.specs.Replays.{StoresAt}
use Rattle.gj_program.specs.Serves.{Accepts, DoesServe, IsServable, IsTurnedAway, IsUntaken, Serves, status_of_service}
use Rattle.gj_program.specs.declared.run_status.RunStatus.{RunStatus}
use Rattle.gj_program.specs.declared.run_status.RunStatus.TheVariants.{Done, Usage, WriteFault, StoreFault, Memory, DoorFault, ConfDiffers, KeptRow, NoPlace}

not_bare : (bare tells : Bool) → (bare ≡ true → tells ≡ false) → tells ≡ true → bare ≡ false
not_bare true tells untold is = absurd (cc (untold refl))
not_bare false tells untold is = refl

-- what an opening knew of its history, where the keeper tells its rows
pub known_told : (kept : Kept) (h : History) → kept.tells ≡ true → (IsTrue kept.bare → kept.tells ≡ false) → IfSome (opening_of kept) (λ o. o ≡ h) → h ≡ opened (told_rows kept)
known_told kept h tells untold is =
    let bare = not_bare kept.bare kept.tells untold tells in
    let P : Bool × Bool → Type 0 = λ z. IfSome (if z.0 then Some (empty_history 0) else (if z.1 then Some (opened (told_rows kept)) else None)) (λ o. o ≡ h) in
    let there : P (false, true) = subst P (λ i. (bare i, tells i)) is in
    sym there

-- a service over a keeper is one over the stores from which it came, and where it is at home again
pub serves_home : {heard : Configuration → History → Type 0} (conf : Configuration) (path : List ℕ) (plan : Plan) (old new kept kept' : Kept) (f f' : ℕ) (sure sure' : Bool) (d e : DoorAt) (o p : Outgoing) (end : ServiceEnd)
    → (IsTrue old.tells → kept ≡ old) → new.tells ≡ old.tells → (IsTrue old.tells → new ≡ kept') → (IsTrue kept.bare → kept.tells ≡ false)
    → (IsOpened end → Service plan (λ h. IfSome (opening_of kept) (λ x. x ≡ h)) (Keeps conf kept') (heard conf) d e o p end)
    → (IsUnserved end → IsLeft conf kept kept')
    → (IsTrue kept.tells → Judges (due conf kept) end) → TellsConf conf end → TellsRow conf end
    → Serves conf (Some path) plan (record { stored = old; faults = f; steady = sure }) (record { stored = new; faults = f'; steady = sure' }) d e heard o p end
serves_home conf path plan old new kept kept' f f' sure sure' d e o p end out told home untold service left judged differs bad = record {
  service = λ is.
      service_as plan _ _ _ _ d e o p end
      (λ h k yes. (let same = out yes in known_told kept h (ap (λ (x : Kept). x.tells) same ∙ yes) untold k ∙ ap (λ (x : Kept). opened (told_rows x)) same))
      (λ h. keeps_home conf old new kept' h told home)
      (service is);
  judged = λ yes. (let is = out yes in subst (λ (x : Kept). Judges (due conf x) end) is (judged (ap (λ (x : Kept). x.tells) is ∙ yes)));
  differs = differs;
  bad = bad;
  kept = λ no yes. (
      let is = out yes in
      let at = home yes in
      elim ((left no).kept (ap (λ (x : Kept). x.tells) is ∙ yes)) [
        | inl e ↦ inl (at ∙ e ∙ is)
        | inr e ↦ inr (at ∙ e ∙ ap (prepared conf) is)
      ]);
}

-- before the keeper nothing is done
pub serves_not : {heard : Configuration → History → Type 0} (conf : Configuration) (path : List ℕ) (plan : Plan) (a b : StoresAt) (d : DoorAt) (o : Outgoing) (error : OpenError) → b.stored ≡ a.stored
    → ((refusal : Option OpenError) → Judges refusal (ends.Refused error)) → TellsConf conf (ends.Refused error) → TellsRow conf (ends.Refused error) → Serves conf (Some path) plan a b d d heard o o (ends.Refused error)
serves_not conf path plan a b d o error same may differs bad = record { service = λ is. absurd is; judged = λ yes. may (due conf a.stored); differs = differs; bad = bad; kept = λ no yes. inl same }

serves_lack : {heard : Configuration → History → Type 0} (conf : Configuration) (store : Option (List ℕ)) (plan : Plan) (a : StoresAt) (d : DoorAt) (o : Outgoing) → Serves conf store plan a a d d heard o o (ends.Refused why.Memory)
serves_lack conf None plan a d o = record { service = λ is. absurd is; judged = (tt, λ e. cc); differs = λ x y e. cc; bad = λ x e. cc; kept = λ no yes. inl refl }
serves_lack conf (Some path) plan a d o = record { service = λ is. absurd is; judged = λ yes. tt; differs = λ x y e. cc; bad = λ x e. cc; kept = λ no yes. inl refl }

-- memory was wanting for the words
pub does_lack : (heard : Configuration → History → Type 0) (asked : Option Serving) (a : StoresAt) (d : DoorAt) (o : Outgoing) → DoesServe asked a a d d heard o o Memory
does_lack heard None a d o = inr refl
does_lack heard (Some s) a d o = (ends.Refused why.Memory, refl, serves_lack s.conf s.store _ a d o)

pub does_usage : (heard : Configuration → History → Type 0) (asked : Option Serving) (a : StoresAt) (d : DoorAt) (o : Outgoing) → asked ≡ None → DoesServe asked a a d d heard o o Usage
does_usage heard None a d o e = inl refl
does_usage heard (Some s) a d o e = cc

-- what a status tells of the end
pub end_of_write : (end : ServiceEnd) → status_of_service end ≡ WriteFault → end ≡ ends.WriteFault
end_of_write ends.Done e = cc
end_of_write ends.WriteFault e = refl
end_of_write ends.DoorFault e = cc
end_of_write ends.Memory e = cc
end_of_write (ends.Refused why.Memory) e = cc
end_of_write (ends.Refused why.Store) e = cc
end_of_write (ends.Refused (why.ConfDiffers kept asked)) e = cc
end_of_write (ends.Refused (why.KeptRow row)) e = cc
end_of_write (ends.Refused why.Place) e = cc

pub end_of_door : (end : ServiceEnd) → status_of_service end ≡ DoorFault → end ≡ ends.DoorFault
end_of_door ends.Done e = cc
end_of_door ends.WriteFault e = cc
end_of_door ends.DoorFault e = refl
end_of_door ends.Memory e = cc
end_of_door (ends.Refused why.Memory) e = cc
end_of_door (ends.Refused why.Store) e = cc
end_of_door (ends.Refused (why.ConfDiffers kept asked)) e = cc
end_of_door (ends.Refused (why.KeptRow row)) e = cc
end_of_door (ends.Refused why.Place) e = cc

pub end_of_store : (end : ServiceEnd) → status_of_service end ≡ StoreFault → end ≡ ends.Refused why.Store
end_of_store ends.Done e = cc
end_of_store ends.WriteFault e = cc
end_of_store ends.DoorFault e = cc
end_of_store ends.Memory e = cc
end_of_store (ends.Refused why.Memory) e = cc
end_of_store (ends.Refused why.Store) e = refl
end_of_store (ends.Refused (why.ConfDiffers kept asked)) e = cc
end_of_store (ends.Refused (why.KeptRow row)) e = cc
end_of_store (ends.Refused why.Place) e = cc

pub end_of_place : (end : ServiceEnd) → status_of_service end ≡ NoPlace → end ≡ ends.Refused why.Place
end_of_place ends.Done e = cc
end_of_place ends.WriteFault e = cc
end_of_place ends.DoorFault e = cc
end_of_place ends.Memory e = cc
end_of_place (ends.Refused why.Memory) e = cc
end_of_place (ends.Refused why.Store) e = cc
end_of_place (ends.Refused (why.ConfDiffers kept asked)) e = cc
end_of_place (ends.Refused (why.KeptRow row)) e = cc
end_of_place (ends.Refused why.Place) e = refl

pub never_usage : (end : ServiceEnd) → status_of_service end ≡ Usage → ⊥
never_usage ends.Done e = cc
never_usage ends.WriteFault e = cc
never_usage ends.DoorFault e = cc
never_usage ends.Memory e = cc
never_usage (ends.Refused why.Memory) e = cc
never_usage (ends.Refused why.Store) e = cc
never_usage (ends.Refused (why.ConfDiffers kept asked)) e = cc
never_usage (ends.Refused (why.KeptRow row)) e = cc
never_usage (ends.Refused why.Place) e = cc

pub unserved_of : (end : ServiceEnd) → IsUntaken (status_of_service end) → IsUnserved end
unserved_of ends.Done u = absurd u
unserved_of ends.WriteFault u = absurd u
unserved_of ends.DoorFault u = absurd u
unserved_of ends.Memory u = tt
unserved_of (ends.Refused error) u = tt

pub refused_of : (end : ServiceEnd) → IsTurnedAway (status_of_service end) → (error : OpenError) × (end ≡ ends.Refused error)
refused_of ends.Done u = absurd u
refused_of ends.WriteFault u = absurd u
refused_of ends.DoorFault u = absurd u
refused_of ends.Memory u = absurd u
refused_of (ends.Refused error) u = (error, refl)

write_rose : {heard : History → Type 0} (plan : Plan) (opens left : History → Type 0) (d e : DoorAt) (o p : Outgoing) (end : ServiceEnd) → end ≡ ends.WriteFault
    → Service plan opens left heard d e o p end → Rose o.faults p.faults
write_rose plan opens left d e o p ends.WriteFault is s = s.told.wrote.failed
write_rose plan opens left d e o p ends.Done is s = cc
write_rose plan opens left d e o p ends.DoorFault is s = cc
write_rose plan opens left d e o p ends.Memory is s = cc
write_rose plan opens left d e o p (ends.Refused error) is s = cc

is_opened : (end : ServiceEnd) → (end ≡ ends.WriteFault) ⊎ (end ≡ ends.DoorFault) → IsOpened end
is_opened ends.Done is = tt
is_opened ends.WriteFault is = tt
is_opened ends.DoorFault is = tt
is_opened ends.Memory is = tt
is_opened (ends.Refused error) (inl e) = cc
is_opened (ends.Refused error) (inr e) = cc

-- the causes of faults
pub serves_write : {heard : Configuration → History → Type 0} (conf : Configuration) (store : Option (List ℕ)) (plan : Plan) (a b : StoresAt) (d e : DoorAt) (o p : Outgoing) (end : ServiceEnd) → Serves conf store plan a b d e heard o p end
    → status_of_service end ≡ WriteFault → Rose o.faults p.faults
serves_write conf store plan a b d e o p end x is =
    let at = end_of_write end is in
    write_rose plan _ _ d e o p end at (x.service (is_opened end (inl at)))

pub serves_door : {heard : Configuration → History → Type 0} (conf : Configuration) (store : Option (List ℕ)) (plan : Plan) (a b : StoresAt) (d e : DoorAt) (o p : Outgoing) (end : ServiceEnd) → Serves conf store plan a b d e heard o p end
    → status_of_service end ≡ DoorFault → Rose d.faults e.faults
serves_door conf store plan a b d e o p end x is =
    let at = end_of_door end is in
    (x.service (is_opened end (inr at))).told.fault at

no_write : {heard : History → Type 0} (plan : Plan) (opens left : History → Type 0) (d e : DoorAt) (o p : Outgoing) (end : ServiceEnd) → HasRoom plan.port o.sure
    → end ≡ ends.WriteFault → Service plan opens left heard d e o p end → ⊥
no_write plan opens left d e o p ends.WriteFault room is s =
    let few = s.told.few in
    let bounded = s.bounded in
    let spent = s.told.wrote.spent in
    let fits = room e.handed (length_of s.last) few (omega (arith, bounded)) in
    omega (arith, spent, fits)
no_write plan opens left d e o p ends.Done room is s = cc
no_write plan opens left d e o p ends.DoorFault room is s = cc
no_write plan opens left d e o p ends.Memory room is s = cc
no_write plan opens left d e o p (ends.Refused error) room is s = cc

accepted : (conf : Configuration) (store : Option (List ℕ)) (stored : Kept) (end : ServiceEnd) → Accepts store conf stored → IsServable store conf stored end → Judges None end
accepted conf None stored end taken judged = judged.0
accepted conf (Some path) stored end taken judged = subst (λ (r : Option OpenError). Judges r end) taken.1 (judged taken.0)

completes : (end : ServiceEnd) → Judges None end → (end ≡ ends.DoorFault → ⊥) → (end ≡ ends.Refused why.Store → ⊥) → (end ≡ ends.WriteFault → ⊥)
    → (status_of_service end ≡ Done) ⊎ ((status_of_service end ≡ Memory) ⊎ (status_of_service end ≡ NoPlace))
completes ends.Done j door store write = inl refl
completes ends.WriteFault j door store write = absurd (write refl)
completes ends.DoorFault j door store write = absurd (door refl)
completes ends.Memory j door store write = inr (inl refl)
completes (ends.Refused why.Memory) j door store write = inr (inl refl)
completes (ends.Refused why.Store) j door store write = absurd (store refl)
completes (ends.Refused (why.ConfDiffers kept asked)) j door store write = cc j
completes (ends.Refused (why.KeptRow row)) j door store write = cc j
completes (ends.Refused why.Place) j door store write = inr (inr refl)

-- where nothing fails, and an opening accepts the store, all is served, or memory or a reader's place is wanting
pub serves_all : {heard : Configuration → History → Type 0} (conf : Configuration) (store : Option (List ℕ)) (plan : Plan) (a b : StoresAt) (d e : DoorAt) (o p : Outgoing) (end : ServiceEnd) → Serves conf store plan a b d e heard o p end
    → Accepts store conf a.stored → HasRoom plan.port o.sure → (end ≡ ends.DoorFault → ⊥) → (end ≡ ends.Refused why.Store → ⊥)
    → (status_of_service end ≡ Done) ⊎ ((status_of_service end ≡ Memory) ⊎ (status_of_service end ≡ NoPlace))
serves_all conf store plan a b d e o p end x taken room door fault =
    completes end (accepted conf store a.stored end taken x.judged) door fault
    (λ is. no_write plan _ _ d e o p end room is (x.service (is_opened end (inl is))))
