-- A batch in the plain form is what its tree asks for.
use Rattle.std.proofs.Common.{◌≡◌, ℕ, ◌≤◌, true, List, [], Option, Some, None, Ok, refl, sym, ap, subst, ◌∙◌, inl, inr, arith, bytes_eq, false, append-nil, length, le-leb}
use Rattle.std.specs.Prelude.{map, option_and_then, option_map}
use Rattle.std.specs.Str.{IsUtf8}
use Rattle.json.specs.Json as json
use Rattle.json.specs.Lex.{tokens}
use Rattle.json.specs.Token.{Token}
use Rattle.json.specs.Tree as tree
use Rattle.json.proofs.Printed.Trees.{value-json_tokens}
use Rattle.serde_json.specs.Data.{Data, array, number, unsigned, object, Items, Members, no_members, put}
use Rattle.serde_json.specs.Events.{items_len}
use Rattle.serde_json.specs.Find.{get_member}
use Rattle.serde_json.specs.Read.{of_json, of_members, read, max_depth}
use Rattle.serde_json.proofs.Views.{get_member-put, get_member-put_other}
use Rattle.gj_base.specs.declared.ask.Ask.{Ask}
use Rattle.gj_base.specs.declared.ask.Route.TheVariants as routes
use Rattle.gj_base.specs.Interaction.{Interaction}
use Rattle.gj_request.specs.Forms.{each}
use Rattle.gj_request.specs.Names.{name_text}
use Rattle.gj_request.specs.Plain.{AddsNumber, AddsItems, AddsField, IsWhole, Completes, no_fields, IsPlain}
use Rattle.gj_request.specs.Requests.{asked, batch_of}
use Rattle.gj_request.specs.Tables.{Row, are_known, field, needed, object_of, add_item, items_of, batch_rows}
use Rattle.gj_request.specs.Tables as tables
use Rattle.gj_request.specs.declared.name.Name.{Name}
use Rattle.gj_request.specs.declared.name.Name.TheVariants as names
use Rattle.gj_request.specs.declared.plain.BatchParts.{BatchParts}
use Rattle.gj_request.proofs.DigitsLemmas.{number_of-digits}
use Rattle.gj_request.proofs.PlainLemmas.{HasNumber, apart, known_put, number_stays}
use Rattle.gj_request.proofs.PlainItemsLemmas.{number_said, items_plain}
use Rattle.gj_request.proofs.TreeLemmas.{tree_of-some}

-- what an object has under the name of the interactions
abbrev HasItems : Members → List ℕ → Option (List Interaction) → Type 0
HasItems found name None = get_member name found ≡ None
HasItems found name (Some items) = (ds : Items) × (get_member name found ≡ Some (array ds)) × (each (add_item names.Items) [] ds ≡ Ok items) × (items_len ds ≡ length items)

abbrev known_names : List Name
known_names = map (λ (row : Row). row.name) batch_rows

record Holds (found : Members) (parts : BatchParts) : Type 0 where
  items : HasItems found (name_text names.Items) parts.items
  producer : HasNumber found (name_text names.Producer) parts.producer
  number : HasNumber found (name_text names.Number) parts.number
  known : are_known known_names found ≡ true

items_stay : (found : Members) (a b : Name) (d : Data) (o : Option (List Interaction)) → bytes_eq (name_text a) (name_text b) ≡ false → HasItems found (name_text a) o → HasItems (put (name_text b) d found) (name_text a) o
items_stay found a b d None differ h = get_member-put_other (name_text a) (name_text b) d found (apart a b differ) ∙ h
items_stay found a b d (Some items) differ h = (h.0, get_member-put_other (name_text a) (name_text b) d found (apart a b differ) ∙ h.1, h.2, h.3)

holds_number : (found : Members) (old new : BatchParts) (name : List ℕ) (n : ℕ) → n ≤ 9223372036854775807 → Holds found old → AddsNumber old name n new → Holds (put name (number (unsigned n)) found) new
holds_number found old new name n le h (inl a) =
    rw (a.0, a.2) (record {
      items = items_stay found names.Items names.Producer (number (unsigned n)) old.items refl h.items;
      producer = (get_member-put (name_text names.Producer) (number (unsigned n)) found, le);
      number = number_stays found names.Number names.Producer (number (unsigned n)) old.number refl h.number;
      known = known_put known_names (name_text names.Producer) (number (unsigned n)) found refl h.known;
    })
holds_number found old new name n le h (inr a) =
    rw (a.0, a.2) (record {
      items = items_stay found names.Items names.Number (number (unsigned n)) old.items refl h.items;
      producer = number_stays found names.Producer names.Number (number (unsigned n)) old.producer refl h.producer;
      number = (get_member-put (name_text names.Number) (number (unsigned n)) found, le);
      known = known_put known_names (name_text names.Number) (number (unsigned n)) found refl h.known;
    })

holds_items : (found : Members) (old new : BatchParts) (name : List ℕ) (ds : Items) (items : List Interaction) → each (add_item names.Items) [] ds ≡ Ok items → items_len ds ≡ length items → Holds found old → AddsItems old name items new
    → Holds (put name (array ds) found) new
holds_items found old new name ds items read len h a =
    rw (a.0, a.2) (record {
      items = (ds, get_member-put (name_text names.Items) (array ds) found, read, len);
      producer = number_stays found names.Producer names.Items (array ds) old.producer refl h.producer;
      number = number_stays found names.Number names.Items (array ds) old.number refl h.number;
      known = known_put known_names (name_text names.Items) (array ds) found refl h.known;
    })

-- one field more
holds_more : (found : Members) (old new : BatchParts) (name : List ℕ) (value : json.Json) → Holds found old → AddsField old name value new → (d : Data) × (of_json value ≡ Some d) × Holds (put name d found) new × (tree.depth value ≤ 2)
holds_more found old new name json.null h a = absurd a
holds_more found old new name (json.boolean b) h a = absurd a
holds_more found old new name (json.number text) h a =
    (number (unsigned a.0), ap (option_map number) (number_of-digits text a.0 a.1), holds_number found old new name a.0 a.1.2 h a.2, omega arith)
holds_more found old new name (json.string text) h a = absurd a
holds_more found old new name (json.array values) h a =
    let p = items_plain names.Items values a.0 a.1 in
    (array p.0, ap (option_map array) p.1, holds_items found old new name p.0 a.0 (p.2 []) p.3 h a.2, omega (arith, p.4))
holds_more found old new name (json.object fields) h a = absurd a

items_said : (found : Members) (items : List Interaction) → HasItems found (name_text names.Items) (Some items) → 1 ≤ length items → length items ≤ 4096 → field (needed names.Items tables.items) (object found) ≡ Ok items
unfolding field items_of
items_said found items h low high = rw (h.1, h.3, le-leb _ _ low, le-leb _ _ high, h.2)

batch_read : (found : Members) (parts : BatchParts) (ask : Ask) → Holds found parts → IsWhole parts ask → batch_of (object found) ≡ Ok ask
unfolding batch_of object_of
batch_read found parts ask h whole =
    let batch = whole.2 in
    let items = items_said found whole.0 (subst (HasItems found (name_text names.Items)) whole.1 h.items) batch.0 batch.1 in
    let producer = number_said found names.Producer 1024 parts.producer _ h.producer refl batch.2 in
    let n = number_said found names.Number 281474976710656 parts.number _ h.number refl batch.3 in
    rw (h.known, items, producer, n) batch.4

fields_read : (fields : json.Members) (parts : BatchParts) (found : Members) (ask : Ask) → Holds found parts → Completes parts fields ask
    → (all : Members) × (of_members fields found ≡ Some all) × (batch_of (object all) ≡ Ok ask) × (tree.members_depth fields ≤ 2)
fields_read json.no_members parts found ask h whole = (found, refl, batch_read found parts ask h whole, omega arith)
fields_read (json.member k value fields) parts found ask h more =
    let first = holds_more found parts more.0 k value h more.1 in
    let rest = fields_read fields more.0 (put k first.0 found) ask first.2 more.2 in
    (rest.0, rw first.1 rest.1, rest.2, omega (arith, first.3, rest.3))

none_holds : Holds no_members no_fields
none_holds = record { items = refl; producer = refl; number = refl; known = refl }

abbrev whole : Option (json.Json × List Token) → Option Data
whole found = option_and_then of_json (option_and_then (λ p. json.if_last p.0 p.1) found)

-- tokens in the plain form read as the tree of their batch, which is what the text asks for
pub plain_asked : (text : List ℕ) (ask : Ask) → IsUtf8 text → IsPlain (tokens text) ask → asked routes.Interactions None text ≡ Ok ask
unfolding asked
plain_asked text ask utf8 plain =
    let batch = fields_read plain.0 no_fields no_members ask none_holds plain.2 in
    let value = json.object plain.0 in
    let deep : tree.depth value ≤ max_depth = omega (arith, batch.3) in
    let reads : read text ≡ Some (object batch.0) =
    ap whole (ap (json.value max_depth) (plain.1 ∙ sym (append-nil _)) ∙ value-json_tokens value max_depth [] deep) ∙ ap (option_map object) batch.1 in
    rw (tree_of-some text (object batch.0) utf8 reads) batch.2
