-- What an opening makes of a store, and which refusal is due.
use Rattle.std.specs.Prelude.{◌≡◌, ◌⊎◌, ℕ, IsTrue, List, Option, Some, None, is_none, if◌then◌else◌}
use Rattle.gj_base.specs.declared.keeper.KeptConf.{KeptConf}
use Rattle.gj_base.specs.declared.keeper.KeptItem.{KeptItem}
use Rattle.gj_base.specs.declared.history.History.{History}
use Rattle.gj_base.specs.Causes.{one_more}
use Rattle.gj_base.specs.Configuration.{Configuration}
use Rattle.gj_base.specs.declared.history.Shown.{Shown}
use Rattle.gj_base.specs.History.{StandsFor, conf_of, empty_history}
use Rattle.gj_base.specs.Kept.{Kept, with_conf, migrated}
use Rattle.gj_keep.specs.declared.opening.OpenError.{OpenError}
use Rattle.gj_keep.specs.declared.opening.OpenError.TheVariants.{Memory, Store, ConfDiffers, KeptRow, Place}
use Rattle.gj_keep.specs.Books.{asked, suits, told_rows}
use Rattle.gj_keep.specs.Rows.{first_bad, opened}

-- what an opening makes of a store before it reads the rows: a store without a configuration gets the asked one, and one of version 1 is migrated
abbrev pub prepared : Configuration → Kept → Kept
prepared conf kept = if is_none kept.conf then with_conf kept (asked conf) else migrated kept

-- this is the first bad one of some rows
abbrev pub IsBadRow : Configuration → ℕ → Type 0
IsBadRow conf row = (rows : List KeptItem) × (first_bad conf rows ≡ Some row)

-- the refusal for the first bad row
abbrev pub row_refusal : Option ℕ → Option OpenError
row_refusal None = None
row_refusal (Some row) = Some (KeptRow row)

-- the refusal for the kept configuration
abbrev pub conf_refusal : Configuration → Option KeptConf → Option OpenError
conf_refusal conf None = None
conf_refusal conf (Some kept) = if suits conf (Some kept) then None else Some (ConfDiffers kept (asked conf))

-- the refusal that is due over what a keeper tells: for the configuration, and where that suits for the first bad row
abbrev pub due : Configuration → Kept → Option OpenError
due conf kept = if suits conf kept.conf then row_refusal (first_bad conf (told_rows kept)) else conf_refusal conf kept.conf

-- the refusal may come: want of memory and a fault of the store always, another where it is due. An opening of a book asks for no reader's place
abbrev pub MayRefuse : Option OpenError → OpenError → Type 0
MayRefuse refusal Memory = Unit {0}
MayRefuse refusal Store = Unit {0}
MayRefuse refusal (ConfDiffers kept now) = refusal ≡ Some (ConfDiffers kept now)
MayRefuse refusal (KeptRow row) = refusal ≡ Some (KeptRow row)
MayRefuse refusal Place = ⊥

-- the count of faults after a refusal
abbrev pub faults_at : OpenError → ℕ → ℕ
faults_at Memory before = before
faults_at Store before = one_more before
faults_at (ConfDiffers kept now) before = before
faults_at (KeptRow row) before = before
faults_at Place before = before

-- the store is prepared, where it is told; whether it is told or bare stays
pub record IsPrepared (conf : Configuration) (old new : Kept) : Type 0 where
  pub tells : new.tells ≡ old.tells
  pub bare : new.bare ≡ old.bare
  pub kept : IsTrue old.tells → new ≡ prepared conf old

-- the store is as it was, or prepared
pub record IsLeft (conf : Configuration) (old new : Kept) : Type 0 where
  pub tells : new.tells ≡ old.tells
  pub bare : new.bare ≡ old.bare
  pub kept : IsTrue old.tells → (new ≡ old) ⊎ (new ≡ prepared conf old)

-- a graph of this configuration stands for the history
abbrev pub Shows : Shown → Configuration → History → Type 0
Shows w conf h = StandsFor w h × (conf_of w ≡ conf)

-- the history that an opening over such a keeper begins with, where that is known before the rows are read
abbrev pub opening_of : Kept → Option History
opening_of kept = if kept.bare then Some (empty_history 0) else (if kept.tells then Some (opened (told_rows kept)) else None)
