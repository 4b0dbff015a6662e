-- Tokens that are taken one after another.
use Rattle.std.proofs.Common.{◌≡◌, ℕ, List, [], ◌∷◌, ◌++◌, Option, Some, None, IfSome, sym, ap, subst, ◌∙◌, append_assoc, append-nil}
use Rattle.json.specs.Json.{object, no_items, item, no_members, member}
use Rattle.json.specs.Token.{Token, begin_object, end_object, end_array, key}
use Rattle.json.specs.Tree.{json_tokens, items_tokens, members_tokens}
use Rattle.gj_base.specs.Interaction.{Interaction}
use Rattle.gj_base.specs.declared.ask.Ask.{Ask}
use Rattle.gj_request.specs.Plain.{IsWhole, no_fields, TakesField, TakesFields}
use Rattle.gj_request.specs.PlainItems.{AreAll, no_parts, TakesPart, TakesItem, TakesItems}
use Rattle.gj_request.specs.declared.plain.BatchParts.{BatchParts}
use Rattle.gj_request.specs.declared.plain_items.Parts.{Parts}

pub if_some : {A : Type 0} (o : Option A) (P Q : A → Type 0) → ((a : A) → P a → Q a) → IfSome o P → IfSome o Q
if_some None P Q more h = h
if_some (Some a) P Q more h = more a h

-- what completes the parts from here on completes the element from its start
abbrev pub GoesOn : List Token → List Token → Parts → Type 0
GoesOn start now parts = (x : Interaction) (rest : List Token) → TakesItem parts now x rest → TakesItem no_parts start x rest

pub part_taken : (start old mid new : List Token) (parts more : Parts) (name : List ℕ) (value : Token) → old ≡ key name ∷ mid → mid ≡ value ∷ new → TakesPart parts name value more
    → GoesOn start old parts → GoesOn start new more
part_taken start old mid new parts more name value p q part goes x rest t =
    goes x rest (member name part.0 t.0, p ∙ ap (λ ts. key name ∷ ts) (q ∙ rw part.1 (ap (λ ts. value ∷ ts) t.1)), (more, part.2, t.2))

pub item_taken : (start old new : List Token) (parts : Parts) (x : Interaction) → old ≡ end_object ∷ new → AreAll parts x → GoesOn start old parts → TakesItem no_parts start x new
item_taken start old new parts x p all goes = goes x new (no_members, p, all)

-- elements from here on follow those that were taken
abbrev pub GoOn : List Token → List Token → List Interaction → Type 0
GoOn start now xs = (more : List Interaction) (rest : List Token) → TakesItems now more rest → TakesItems start (xs ++ more) rest

pub more_taken : (start old mid new : List Token) (xs : List Interaction) (x : Interaction) → old ≡ begin_object ∷ mid → TakesItem no_parts mid x new → GoOn start old xs → GoOn start new (xs ++ x ∷ [])
more_taken start old mid new xs x p one goes more rest t =
    let fields = members_tokens one.0 in
    let tokens : old ≡ (begin_object ∷ fields ++ items_tokens t.0) ++ rest = p ∙ ap (λ ts. begin_object ∷ ts) (one.1 ∙ ap (λ ts. fields ++ ts) t.1 ∙ sym (append_assoc fields (items_tokens t.0) rest)) in
    subst (λ all. TakesItems start all rest) (sym (append_assoc xs (x ∷ []) more)) (goes (x ∷ more) rest (item (object one.0) t.0, tokens, (one.2, t.2)))

pub items_taken : (start old new : List Token) (xs : List Interaction) → old ≡ end_array ∷ new → GoOn start old xs → TakesItems start xs new
items_taken start old new xs p goes = subst (λ all. TakesItems start all new) (append-nil xs) (goes [] new (no_items, p, tt))

-- what completes the fields from here on completes the batch from its start
abbrev pub FieldsGoOn : List Token → List Token → BatchParts → Type 0
FieldsGoOn start now parts = (ask : Ask) (rest : List Token) → TakesFields parts now ask rest → TakesFields no_fields start ask rest

pub field_taken : (start old mid new : List Token) (parts more : BatchParts) (name : List ℕ) → old ≡ key name ∷ mid → TakesField parts name mid more new → FieldsGoOn start old parts → FieldsGoOn start new more
field_taken start old mid new parts more name p field go ask rest t =
    let value = json_tokens field.0 in
    let tokens : mid ≡ (value ++ members_tokens t.0) ++ rest = field.1 ∙ ap (λ ts. value ++ ts) t.1 ∙ sym (append_assoc value (members_tokens t.0) rest) in
    go ask rest (member name field.0 t.0, p ∙ ap (λ ts. key name ∷ ts) tokens, (more, field.2, t.2))

pub fields_taken : (start old new : List Token) (parts : BatchParts) (ask : Ask) → old ≡ end_object ∷ new → IsWhole parts ask → FieldsGoOn start old parts → TakesFields no_fields start ask new
fields_taken start old new parts ask p whole go = go ask new (no_members, p, whole)
