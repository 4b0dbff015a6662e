-- What an opening makes of a store, and what it finds there.
use Rattle.std.proofs.Common.{◌≡◌, ℕ, ◌+◌, ◌≤◌, ◌==◌, ◌&&◌, ◌||◌, Bool, true, false, List, length, Option, Some, None, refl, sym, ap, ◌∙◌, subst, inl, inr, if◌then◌else◌}
use Rattle.std.specs.Option.{is_none}
use Rattle.std.specs.Bool.{IsTrue}
use Rattle.std.proofs.lemmas.Bool.{and_parts, and_from, or_cases, eqb-true, eq-eqb, both_ways}
use Rattle.gj_base.specs.declared.keeper.KeptConf.{KeptConf}
use Rattle.gj_base.specs.declared.keeper.KeptItem.{KeptItem}
use Rattle.gj_base.specs.declared.history.History.{History}
use Rattle.gj_base.specs.declared.history.Shown.{Shown}
use Rattle.gj_base.specs.Configuration.{Configuration}
use Rattle.gj_base.specs.History.{StandsFor}
use Rattle.gj_base.specs.Kept.{Kept, next_place, rows_under}
use Rattle.gj_keep.specs.declared.opening.OpenError.{OpenError}
use Rattle.gj_keep.specs.declared.opening.OpenError.TheVariants.{ConfDiffers, KeptRow, Place}
use Rattle.gj_keep.specs.Rows.{first_bad, first_place, good, opened}
use Rattle.gj_keep.specs.Books.{BookKeeps, Holds, IsStore, Keeps, KeepsFrom, asked, suits, told_rows}
use Rattle.gj_keep.specs.Openings.{IsLeft, IsPrepared, MayRefuse, Shows, due, prepared, row_refusal, conf_refusal}
use Rattle.gj_keep.proofs.StoreLemmas.{sound_of, sound_next}
use Rattle.gj_keep.proofs.HistoryLemmas.{keeps_first, keeps_opened, length_kept, opened_length, stands_again, window_opened}

-- a refusal that may come whatever is due is of no kind that must be due
pub plain_place : (why : OpenError) → MayRefuse None why → why ≡ Place → ⊥
plain_place why may e = subst (MayRefuse None) e may

none_some : (e : OpenError) → None ≡ Some e → ⊥
none_some e is = cc

pub plain_row : (why : OpenError) → MayRefuse None why → (row : ℕ) → why ≡ KeptRow row → ⊥
plain_row why may row e = none_some (KeptRow row) (subst (MayRefuse None) e may)

pub plain_conf : (why : OpenError) → MayRefuse None why → (old now : KeptConf) → why ≡ ConfDiffers old now → ⊥
plain_conf why may old now e = none_some (ConfDiffers old now) (subst (MayRefuse None) e may)

-- what the kept configuration is after an opening
suited_conf : (conf : Configuration) (kept : KeptConf) → suits conf (Some kept) ≡ true → (t : Bool) → (kept.version == 1) ≡ t
    → (if t then Some (record { version = 2; capacity = kept.capacity; segments = kept.segments }) else Some kept) ≡ Some (asked conf)
suited_conf conf kept is true first =
    let parts = and_parts (kept.version == 1 || kept.version == 2) (kept.capacity == conf.capacity && kept.segments == conf.segments) is in
    let both = and_parts (kept.capacity == conf.capacity) (kept.segments == conf.segments) parts.1 in
    λ i. Some (record { version = 2; capacity = eqb-true kept.capacity conf.capacity both.0 i; segments = eqb-true kept.segments conf.segments both.1 i })
suited_conf conf kept is false first =
    let parts = and_parts (kept.version == 1 || kept.version == 2) (kept.capacity == conf.capacity && kept.segments == conf.segments) is in
    let both = and_parts (kept.capacity == conf.capacity) (kept.segments == conf.segments) parts.1 in
    let second : kept.version == 2 ≡ true = elim (or_cases (kept.version == 1) (kept.version == 2) parts.0) [
      | inl one ↦ absurd (both_ways (kept.version == 1) first one)
      | inr two ↦ two
    ] in
    λ i. Some (record { version = eqb-true kept.version 2 second i; capacity = eqb-true kept.capacity conf.capacity both.0 i; segments = eqb-true kept.segments conf.segments both.1 i })

prepared_conf : (conf : Configuration) (bare tells : Bool) (rows : List KeptItem) (kept : Option KeptConf) → suits conf kept ≡ true
    → (prepared conf (record { bare = bare; tells = tells; conf = kept; rows = rows })).conf ≡ Some (asked conf)
prepared_conf conf bare tells rows None is = refl
prepared_conf conf bare tells rows (Some kept) is = suited_conf conf kept is (kept.version == 1) refl

prepared_rows : (conf : Configuration) (bare tells : Bool) (rows : List KeptItem) (kept : Option KeptConf)
    → (prepared conf (record { bare = bare; tells = tells; conf = kept; rows = rows })).rows ≡ rows_under kept rows
prepared_rows conf bare tells rows None = refl
prepared_rows conf bare tells rows (Some kept) = refl

pub conf_after : (conf : Configuration) (old : Kept) → suits conf old.conf ≡ true → (prepared conf old).conf ≡ Some (asked conf)
conf_after conf old is = prepared_conf conf old.bare old.tells old.rows old.conf is

pub rows_after : (conf : Configuration) (old : Kept) → (prepared conf old).rows ≡ told_rows old
rows_after conf old = prepared_rows conf old.bare old.tells old.rows old.conf

-- the asked configuration suits, and is of the second version
asked_suits : (conf : Configuration) → suits conf (Some (asked conf)) ≡ true
asked_suits conf = and_from (conf.capacity == conf.capacity) (conf.segments == conf.segments) (eq-eqb conf.capacity conf.capacity refl) (eq-eqb conf.segments conf.segments refl)

-- a prepared store keeps what it kept
pub keeps_prepared : (conf : Configuration) (old new : Kept) (h : History) → IsPrepared conf old new → Keeps conf old h → Keeps conf new h
keeps_prepared conf old new h is keeps tells =
    let told : IsTrue old.tells = subst IsTrue is.tells tells in
    let held : Holds conf old h = keeps told in
    let at : new.conf ≡ Some (asked conf) = ap (λ (k : Kept). k.conf) (is.kept told) ∙ conf_after conf old held.suited in
    let rows : new.rows ≡ told_rows old = ap (λ (k : Kept). k.rows) (is.kept told) ∙ rows_after conf old in
    let now : told_rows new ≡ told_rows old = ap (λ (c : Option KeptConf). rows_under c new.rows) at ∙ rows in
    let P : List KeptItem → Type 0 = λ rs. KeepsFrom conf.capacity conf.segments held.from rs h in
    record {
      suited = ap (suits conf) at ∙ asked_suits conf;
      sound = ap (good conf) now ∙ held.sound;
      from = held.from;
      rows_are = subst P (sym now) held.rows_are;
    }

pub keeps_left : (conf : Configuration) (old new : Kept) (h : History) → IsLeft conf old new → Keeps conf old h → Keeps conf new h
keeps_left conf old new h is keeps tells =
    let told : IsTrue old.tells = subst IsTrue is.tells tells in
    elim (is.kept told) [
      | inl same ↦ subst (λ (k : Kept). Keeps conf k h) (sym same) keeps tells
      | inr done ↦ keeps_prepared conf old new h (record { tells = is.tells; bare = is.bare; kept = λ _. done }) keeps tells
    ]

pub left_prepared : (conf : Configuration) (old new : Kept) → IsPrepared conf old new → IsLeft conf old new
left_prepared conf old new is = record { tells = is.tells; bare = is.bare; kept = λ told. inr (is.kept told) }

bad_none : (o : Option ℕ) → is_none o ≡ true → row_refusal o ≡ None
bad_none None is = refl
bad_none (Some n) is = cc

-- where a history is kept, no refusal is due
pub due_none : (conf : Configuration) (kept : Kept) (h : History) → Holds conf kept h → due conf kept ≡ None
due_none conf kept h held =
    ap (λ (t : Bool). if t then row_refusal (first_bad conf (told_rows kept)) else conf_refusal conf kept.conf) held.suited ∙ bad_none (first_bad conf (told_rows kept)) held.sound

pub plain_again : (conf : Configuration) (kept : Kept) (h : History) (why : OpenError) → Holds conf kept h → MayRefuse (due conf kept) why → MayRefuse None why
plain_again conf kept h why held may = subst (λ (o : Option OpenError). MayRefuse o why) (due_none conf kept h held) may

-- what the book's store is after an opening
pub store_opened : (conf : Configuration) (old new : Kept) (rows : List KeptItem) (n : ℕ) → IsTrue old.tells → IsPrepared conf old new → suits conf old.conf ≡ true
    → rows ≡ told_rows old → good conf rows ≡ true → n ≡ first_place rows + length rows → IsStore conf (first_place rows) n new
store_opened conf old new rows n told is suited read sound e =
    let now : new.rows ≡ rows = ap (λ (k : Kept). k.rows) (is.kept told) ∙ (rows_after conf old ∙ sym read) in
    let next = sound_next conf rows (sound_of conf rows sound) in
    let P : List KeptItem → Type 0 = λ rs. (IsTrue (good conf rs)) × (first_place rows ≡ first_place rs) × (n ≡ first_place rs + length rs) in
    record {
      of_conf = ap (λ (k : Kept). k.conf) (is.kept told) ∙ conf_after conf old suited;
      sound = ap (good conf) now ∙ sound;
      first_is = ap first_place (sym now);
      length_is = e ∙ (sym next ∙ ap next_place (sym now));
    }

-- the book keeps the history of the rows that were read
pub keeps_read : (conf : Configuration) (old new : Kept) (rows : List KeptItem) (first n faults : ℕ) (steady : Bool) → IsPrepared conf old new
    → (IsTrue old.tells → rows ≡ told_rows old) → good conf rows ≡ true → first ≡ first_place rows → n ≡ first_place rows + length rows
    → BookKeeps (record { conf = conf; first = first; length = n; kept = new; faults = faults; steady = steady }) (opened rows)
keeps_read conf old new rows first n faults steady is read sound e at = record {
  length_is = opened_length rows ∙ sym at;
  rows_are = λ tells.
      let told : IsTrue old.tells = subst IsTrue is.tells tells in
      let now : rows ≡ new.rows = read told ∙ (sym (rows_after conf old) ∙ sym (ap (λ (k : Kept). k.rows) (is.kept told))) in
      let P : ℕ × List KeptItem → Type 0 = λ z. KeepsFrom conf.capacity conf.segments z.0 z.1 (opened rows) in
      subst P (λ i. (sym e i, now i)) (keeps_opened conf rows sound);
}

-- and each history that the store kept
pub keeps_again : (conf : Configuration) (old new : Kept) (rows : List KeptItem) (first n faults : ℕ) (steady : Bool) (h : History) → 1 ≤ conf.segments → IsPrepared conf old new
    → Holds conf old h → rows ≡ told_rows old → first ≡ first_place rows → n ≡ first_place rows + length rows
    → BookKeeps (record { conf = conf; first = first; length = n; kept = new; faults = faults; steady = steady }) h
keeps_again conf old new rows first n faults steady h some is held read e at =
    let kept : KeepsFrom conf.capacity conf.segments held.from rows h = (let P : List KeptItem → Type 0 = λ rs. KeepsFrom conf.capacity conf.segments held.from rs h in subst P (sym read) held.rows_are) in record {
      length_is = length_kept conf.capacity conf.segments held.from rows h some kept ∙ sym at;
      rows_are = λ tells.
          let told : IsTrue old.tells = subst IsTrue is.tells tells in
          let now : rows ≡ new.rows = read ∙ (sym (rows_after conf old) ∙ sym (ap (λ (k : Kept). k.rows) (is.kept told))) in
          let P : ℕ × List KeptItem → Type 0 = λ z. KeepsFrom conf.capacity conf.segments z.0 z.1 h in
          subst P (λ i. (sym e i, now i)) (keeps_first conf.capacity conf.segments held.from rows h some kept);
    }

-- a graph of the rows stands for each history that the store kept
pub shows_again : (w : Shown) (conf : Configuration) (old : Kept) (rows : List KeptItem) (h : History) → 1 ≤ conf.segments → Holds conf old h → rows ≡ told_rows old
    → Shows w conf (opened rows) → StandsFor w h
shows_again w conf old rows h some held read shows =
    let kept : KeepsFrom conf.capacity conf.segments held.from rows h = (let P : List KeptItem → Type 0 = λ rs. KeepsFrom conf.capacity conf.segments held.from rs h in subst P (sym read) held.rows_are) in
    stands_again w conf rows h shows.1 (window_opened conf.capacity conf.segments held.from rows h some kept) shows.0
