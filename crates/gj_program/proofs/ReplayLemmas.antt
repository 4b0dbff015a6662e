-- A replay over a keeper, and the stores from which the keeper comes.
use Rattle.std.proofs.Common.{◌≡◌, inl, inr, ℕ, ◌∙◌, ◌+◌, ◌-◌, ◌^◌, ◌≤◌, min, max, Bool, true, false, IsTrue, List, refl, ap, sym, subst, arith}
use Rattle.std.specs.Prelude.{Some}
use Rattle.gj_base.specs.declared.history.History.{History}
use Rattle.gj_base.specs.declared.keeper.KeptConf.{KeptConf}
use Rattle.gj_base.specs.declared.keeper.KeptItem.{KeptItem}
use Rattle.gj_base.specs.Causes.{RoseBy}
use Rattle.gj_base.specs.Configuration.{Configuration}
use Rattle.gj_base.specs.History.{StandsFor, conf_of, empty_history}
use Rattle.gj_base.specs.Kept.{Kept}
use Rattle.gj_keep.specs.Books.{Holds, Keeps, told_rows}
use Rattle.gj_keep.specs.Openings.{IsLeft, due, prepared}
use Rattle.gj_keep.specs.Rows.{good, opened}
use Rattle.gj_keep.specs.declared.opening.OpenError.{OpenError}
use Rattle.gj_keep.specs.declared.opening.OpenError.TheVariants as open_error
use Rattle.gj_once.specs.declared.verdict.LastBatch.{LastBatch}
use Rattle.gj_session.proofs.LoopLemmas.{replayed_as}
use Rattle.gj_once.specs.Judging.{nothing_noted}
use Rattle.gj_session.specs.Marks.{mark_at}
use Rattle.gj_session.specs.IndexRuns.{IndexAt, IndexRan}
use Rattle.gj_session.specs.Runs.{Exchange, Run}
use Rattle.gj_base.specs.Streams.{Incoming, Outgoing}
use Rattle.gj_program.specs.Replays.{Ran, Headline, OpensOver, Judges, Replays, TellsConf, TellsRow}
use Rattle.gj_program.specs.Statuses.{is_session, status_of_refusal}
use Rattle.gj_program.specs.declared.run_status.RunStatus.{RunStatus}
use Rattle.gj_program.specs.declared.run_status.RunStatus.TheVariants.{ConfDiffers, KeptRow, Usage}

-- the history with which an index over a keeper begins
pub pick_opening : (conf : Configuration) (kept : Kept) (P : History → Type 0) → ((rows : List KeptItem) × IsTrue (good conf rows) × P (opened rows))
    → (IsTrue kept.tells → P (opened (told_rows kept))) → (IsTrue kept.bare → P (empty_history 0)) → (IsTrue kept.bare → kept.tells ≡ false)
    → (h : History) × (P h × OpensOver kept h)
pick_opening conf kept P rows told bare untold = by_tells kept.tells kept.bare refl refl
  where
    by_bare : (b : Bool) → kept.tells ≡ false → kept.bare ≡ b → (h : History) × (P h × OpensOver kept h)
    by_bare true t b = (empty_history 0, (bare b, record { told = λ yes. cc; bare = λ yes. refl }))
    by_bare false t b = (opened rows.0, (rows.2, record { told = λ yes. cc; bare = λ yes. cc }))

    by_tells : (t b : Bool) → kept.tells ≡ t → kept.bare ≡ b → (h : History) × (P h × OpensOver kept h)
    by_tells true b t e = (opened (told_rows kept), (told t, record { told = λ yes. refl; bare = λ yes. (let no = untold yes in cc) }))
    by_tells false b t e = by_bare b t e

-- a run over an index of which nothing was noted is one from each history that it kept
pub ran_from : (conf : Configuration) (opening : History) (a b : IndexAt) (left : History → Type 0) (exchanges : List Exchange)
    → conf_of a.viewed ≡ conf → a.noted ≡ nothing_noted → StandsFor a.viewed opening → a.keeps opening → ((h : History) → b.keeps h → left h)
    → IndexRan a b exchanges → Ran conf opening left a.faults b.faults a.steady exchanges
ran_from conf opening a b left exchanges same fresh stands kept ends ran = record {
  runs = λ seat.
      let x = ran.runs opening seat stands in
      let Leads : Configuration → List LastBatch → Type 0 = λ c lasts. Run c true seat (mark_at seat opening lasts) (mark_at seat x.0 b.noted) exchanges in
      (x.0, b.noted, (subst (λ (lasts : List LastBatch). Leads conf lasts) fresh (subst (λ (c : Configuration). Leads c a.noted) same x.1.0), ends x.0 (x.1.1.keeps kept)));
  stores = ran.stores;
  steady = λ sure. (ran.steady sure).0;
}

-- a run, where more is known of what it left and of the counts
pub ran_as : (conf : Configuration) (opening : History) (left left' : History → Type 0) (a b a' b' : ℕ) (sure sure' : Bool) (exchanges : List Exchange)
    → ((h : History) → left h → left' h) → ((n : ℕ) → RoseBy n a b → RoseBy n a' b') → (IsTrue sure' → IsTrue sure)
    → Ran conf opening left a b sure exchanges → Ran conf opening left' a' b' sure' exchanges
ran_as conf opening left left' a b a' b' sure sure' exchanges ends rose still ran = record {
  runs = λ seat. (let x = ran.runs seat in (x.0, x.1, (x.2.0, ends x.0 x.2.1)));
  stores = rose _ ran.stores;
  steady = λ s. ran.steady (still s);
}

pub rose_same : (n a b a' b' : ℕ) → a ≡ a' → b ≡ b' → RoseBy n a b → RoseBy n a' b'
rose_same n a b a' b' e f r = omega arith

-- the count of the stores rises with that of their keeper, once it is home
pub rose_home : (n before now old own new : ℕ) → old ≤ own + before → new ≡ max old (min (own + now) (2 ^ 64 - 1)) → RoseBy n before now → RoseBy n old new
rose_home n before now old own new known count rose = omega arith

-- what the keeper keeps, the stores keep once it is home
pub keeps_home : (conf : Configuration) (old new kept : Kept) (h : History) → new.tells ≡ old.tells → (IsTrue old.tells → new ≡ kept)
    → Keeps conf kept h → Keeps conf new h
keeps_home conf old new kept h told same keeps = λ yes.
    let is : new ≡ kept = same (sym told ∙ yes) in
    let tells : kept.tells ≡ true = ap (λ (k : Kept). k.tells) (sym is) ∙ yes in
    subst (λ (k : Kept). Holds conf k h) (sym is) (keeps tells)

-- a replay over a keeper is one over the stores from which it came, and where it is at home again
pub replays_home : (conf : Configuration) (path : List ℕ) (old new : Kept) (kept kept' : Kept) (f f' k k' own : ℕ) (sure sure' steady : Bool) (i j : Incoming) (o p : Outgoing) (status : RunStatus)
    → (IsTrue old.tells → kept ≡ old) → new.tells ≡ old.tells → (IsTrue old.tells → new ≡ kept')
    → f ≤ own + k → f' ≡ max f (min (own + k') (2 ^ 64 - 1))
    → (IsTrue sure → IsTrue steady)
    → (IsTrue (is_session status) → Headline conf (OpensOver kept) (Keeps conf kept') k k' steady i j o p status)
    → (is_session status ≡ false → IsLeft conf kept kept')
    → (IsTrue kept.tells → Judges (due conf kept) status) → TellsConf conf status → TellsRow conf status → (status ≡ Usage → ⊥)
    → Replays conf (Some path) (record { stored = old; faults = f; steady = sure }) (record { stored = new; faults = f'; steady = sure' }) i j o p status
replays_home conf path old new kept kept' f f' k k' own sure sure' steady i j o p status out told home known count still session left judged differs bad asked = record {
  session = λ s. (let h = session s in record {
    opening = h.opening;
    opened = λ yes. (let is = out yes in h.opened.told (ap (λ (x : Kept). x.tells) is ∙ yes) ∙ ap (λ (x : Kept). opened (told_rows x)) is);
    end = h.end;
    status_is = h.status_is;
    replayed = replayed_as _ _ i j o p 1099511627776 h.end
        (λ es ran. ran_as conf h.opening (Keeps conf kept') (Keeps conf new) k k' f f' steady sure es (λ x. keeps_home conf old new kept' x told home) (λ n. rose_home n k k' f own f' known count) still ran)
        h.replayed;
    by_input = h.by_input;
  });
  judged = λ yes. (let is = out yes in subst (λ (x : Kept). Judges (due conf x) status) is (judged (ap (λ (x : Kept). x.tells) is ∙ yes)));
  differs = differs;
  bad = bad;
  asked = asked;
  kept = λ no yes. (
      let is = out yes in
      let at = home yes in
      elim ((left no).kept (ap (λ (x : Kept). x.tells) is ∙ yes)) [
        | inl e ↦ inl (at ∙ e ∙ is)
        | inr e ↦ inr (at ∙ e ∙ ap (prepared conf) is)
      ]);
}

-- a status that tells two configurations, or a row, comes of a refusal that does
pub conf_told : (refusal : OpenError) (kept now : KeptConf) → status_of_refusal refusal ≡ ConfDiffers kept now → refusal ≡ open_error.ConfDiffers kept now
conf_told open_error.Memory kept now e = cc
conf_told open_error.Store kept now e = cc
conf_told (open_error.ConfDiffers old asked) kept now e = cc
conf_told (open_error.KeptRow row) kept now e = cc
conf_told open_error.Place kept now e = cc

pub row_told : (refusal : OpenError) (row : ℕ) → status_of_refusal refusal ≡ KeptRow row → refusal ≡ open_error.KeptRow row
row_told open_error.Memory row e = cc
row_told open_error.Store row e = cc
row_told (open_error.ConfDiffers old asked) row e = cc
row_told (open_error.KeptRow bad) row e = cc
row_told open_error.Place row e = cc
