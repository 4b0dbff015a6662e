-- One post: what it brings into the history.
use Rattle.std.proofs.Common.{◌≡◌, ◌+◌, ◌^◌, ◌<◌, ℕ, List, [], length, refl, ap, sym, subst, ◌∙◌, append-nil, Result, Ok, Err, IfErr, add-zero}
use Rattle.gj_base.specs.Asks.{NotedBatch}
use Rattle.gj_base.specs.History.{IsWindow, end_of, entries_by, extend, more}
use Rattle.gj_base.specs.declared.history.History.{History}
use Rattle.gj_base.specs.declared.history.Shown.{Shown}
use Rattle.gj_base.specs.declared.index.IndexError.{IndexError}
use Rattle.gj_base.specs.declared.index.IndexError.TheVariants as errors
use Rattle.gj_base.specs.declared.item.Entry.{Entry}
use Rattle.gj_base.specs.declared.item.Item.{Item}
use Rattle.gj_once.specs.declared.noted_index.Noted.{Noted}
use Rattle.gj_once.specs.declared.noted_index.Noted.TheVariants.{New, Repeated}
use Rattle.gj_once.specs.declared.noted_index.OnceError.{OnceError}
use Rattle.gj_once.specs.declared.noted_index.OnceError.TheVariants as refused
use Rattle.gj_once.specs.declared.posting.Call.{Call}
use Rattle.gj_once.specs.declared.posting.Call.TheVariants as asked
use Rattle.gj_once.specs.NotedPosts.{OnNew, OnOther}
use Rattle.gj_once.specs.PostLists.{FullWhere, entering, items_in, told_of}
use Rattle.gj_once.proofs.WithinLemmas.{longer_end}

-- a history with no entry more
pub extend_none : (h : History) → extend h [] ≡ h
extend_none h = ap (λ (es : List Entry). let k : History = record { first = h.first; entries = es } in k) (append-nil h.entries)

pub end_new : (w v : Shown) (call : Call) (items : List Item) → IsWindow w → items_in call ≡ items → v ≡ more w items → end_of v ≡ end_of w + length (items_in call)
end_new w v call items is same shows =
    let P : List Item → Type 0 = λ xs. end_of v ≡ end_of w + length xs in
    subst P (sym same) (ap end_of shows ∙ longer_end w items is)

end_other : (w v : Shown) → v ≡ w → end_of v ≡ end_of w + 0
end_other w v stays = ap end_of stays ∙ sym (add-zero (end_of w))

-- a full history is told where there is no room
pub full_plain : (before : ℕ) (items : List Item) (error : IndexError) → ((n : ℕ) → error ≡ errors.Full n → (n ≡ before) × (2 ^ 48 < before + length items))
    → FullWhere before items (Err (refused.Index error))
full_plain before items errors.Memory told = tt
full_plain before items errors.Store told = tt
full_plain before items (errors.Full n) told = told n refl

pub full_noted : (before : ℕ) (items : List Item) (answer : Result Noted OnceError)
    → IfErr answer (λ error. (n : ℕ) → error ≡ refused.Index (errors.Full n) → (n ≡ before) × (2 ^ 48 < before + length items)) → FullWhere before items answer
full_noted before items (Ok noted) told = tt
full_noted before items (Err (refused.Index errors.Memory)) told = tt
full_noted before items (Err (refused.Index errors.Store)) told = tt
full_noted before items (Err (refused.Index (errors.Full n))) told = told n refl
full_noted before items (Err (refused.Old last)) told = tt
full_noted before items (Err (refused.Skipped last)) told = tt

-- where the view ends after the post of a numbered batch
pub noted_end : (w v : Shown) (batch : NotedBatch) (call : Call) (result : Result Noted OnceError) → call ≡ asked.Noted batch → IsWindow w
    → OnNew result (v ≡ more w batch.items) → OnOther result (v ≡ w) → end_of v ≡ end_of w + length (entering call (told_of result))
noted_end w v batch call (Ok (New r)) same is shows stays = end_new w v call batch.items is (ap items_in same) shows
noted_end w v batch call (Ok (Repeated r)) same is shows stays = end_other w v stays
noted_end w v batch call (Err why) same is shows stays = end_other w v stays

-- which histories are kept after it
pub noted_keeps : (K L : History → Type 0) (batch : NotedBatch) (call : Call) (result : Result Noted OnceError) → call ≡ asked.Noted batch
    → ((h : History) (seat : ℕ) → K h → OnNew result (L (extend h (entries_by seat batch.items))))
    → ((h : History) → K h → OnOther result (L h))
    → (h : History) (seat : ℕ) → K h → L (extend h (entries_by seat (entering call (told_of result))))
noted_keeps K L batch call (Ok (New r)) same new other h seat kept =
    let P : List Item → Type 0 = λ xs. L (extend h (entries_by seat xs)) in
    subst P (sym (ap items_in same)) (new h seat kept)
noted_keeps K L batch call (Ok (Repeated r)) same new other h seat kept = subst L (sym (extend_none h)) (other h kept)
noted_keeps K L batch call (Err why) same new other h seat kept = subst L (sym (extend_none h)) (other h kept)
