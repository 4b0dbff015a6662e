-- Tokens in the plain form are those of a JSON value that reads as their interactions.
use Rattle.std.proofs.Common.{◌≡◌, ℕ, ◌≤◌, Bool, true, false, List, Option, Some, None, refl, sym, ap, ◌∙◌, inl, inr, bytes_eq, Ordering, Less, Equal, Greater}
use Rattle.std.specs.Prelude.{◌&&◌, option_map, map}
use Rattle.std.specs.Ordering.{nat_cmp, match_ordering}
use Rattle.std.specs.Cmp.Lexicographic.{slice_cmp}
use Rattle.std.proofs.lemmas.Bool.{false≢true}
use Rattle.std.proofs.lemmas.Slice.Eq.{bytes_eq-Decides}
use Rattle.json.specs.Json as json
use Rattle.json.specs.Tree as tree
use Rattle.serde_json.specs.Data.{Data, number, string, unsigned, Members, no_members, member, put}
use Rattle.serde_json.specs.Find.{get_member}
use Rattle.serde_json.specs.Read.{of_json}
use Rattle.serde_json.proofs.Views.{get_member-put, get_member-put_other}
use Rattle.gj_base.specs.declared.kind.Kind.{Kind}
use Rattle.gj_base.specs.Kinds.{kind_name}
use Rattle.gj_request.specs.Names.{name_text}
use Rattle.gj_request.specs.Tables.{Row, is_known, are_known, item_rows}
use Rattle.gj_request.specs.PlainItems.{AddsNumber, AddsKind, AddsPart}
use Rattle.gj_request.specs.declared.name.Name.{Name}
use Rattle.gj_request.specs.declared.name.Name.TheVariants as names
use Rattle.gj_request.specs.declared.plain_items.Parts.{Parts}
use Rattle.gj_request.proofs.DigitsLemmas.{number_of-digits}
use Rattle.gj_request.proofs.SeedLemmas.{both}

known_by : (known : List Name) (o : Ordering) (a b c : Members) → are_known known a ≡ true → are_known known b ≡ true → are_known known c ≡ true → are_known known (match_ordering o a b c) ≡ true
known_by known Less a b c p q r = p
known_by known Equal a b c p q r = q
known_by known Greater a b c p q r = r

and : (a b : Bool) → a ≡ true → b ≡ true → (a && b) ≡ true
and a b p q = rw (p, q) refl

-- a name that is known, put among known ones
pub known_put : (known : List Name) (name : List ℕ) (d : Data) (ms : Members) → is_known known name ≡ true → are_known known ms ≡ true → are_known known (put name d ms) ≡ true
known_put known name d no_members is h = and _ _ is refl
known_put known name d (member other e ms) is h =
    let parts = both _ _ h in
    known_by known (slice_cmp nat_cmp name other) _ _ _ (and _ _ is h) h (and _ _ parts.0 (known_put known name d ms is parts.1))

-- what an object has under the name of a number, and of a kind
abbrev pub HasNumber : Members → List ℕ → Option ℕ → Type 0
HasNumber found name None = get_member name found ≡ None
HasNumber found name (Some n) = (get_member name found ≡ Some (number (unsigned n))) × (n ≤ 9223372036854775807)

abbrev pub HasKind : Members → List ℕ → Option Kind → Type 0
HasKind found name None = get_member name found ≡ None
HasKind found name (Some kind) = get_member name found ≡ Some (string (kind_name kind))

abbrev known_names : List Name
known_names = map (λ (row : Row). row.name) item_rows

pub record Holds (found : Members) (parts : Parts) : Type 0 where
  pub user : HasNumber found (name_text names.User) parts.user
  pub post : HasNumber found (name_text names.Post) parts.post
  pub kind : HasKind found (name_text names.Kind) parts.kind
  pub at : HasNumber found (name_text names.At) parts.at
  pub known : are_known known_names found ≡ true

pub apart : (a b : Name) → bytes_eq (name_text a) (name_text b) ≡ false → name_text a ≡ name_text b → ⊥
apart a b differ e = false≢true (sym differ ∙ (bytes_eq-Decides (name_text a) (name_text b)).1 e)

pub number_stays : (found : Members) (a b : Name) (d : Data) (o : Option ℕ) → bytes_eq (name_text a) (name_text b) ≡ false → HasNumber found (name_text a) o → HasNumber (put (name_text b) d found) (name_text a) o
number_stays found a b d None differ h = get_member-put_other (name_text a) (name_text b) d found (apart a b differ) ∙ h
number_stays found a b d (Some n) differ h = (get_member-put_other (name_text a) (name_text b) d found (apart a b differ) ∙ h.0, h.1)

kind_stays : (found : Members) (a b : Name) (d : Data) (o : Option Kind) → bytes_eq (name_text a) (name_text b) ≡ false → HasKind found (name_text a) o → HasKind (put (name_text b) d found) (name_text a) o
kind_stays found a b d None differ h = get_member-put_other (name_text a) (name_text b) d found (apart a b differ) ∙ h
kind_stays found a b d (Some kind) differ h = get_member-put_other (name_text a) (name_text b) d found (apart a b differ) ∙ h

holds_number : (found : Members) (old new : Parts) (name : List ℕ) (n : ℕ) → n ≤ 9223372036854775807 → Holds found old → AddsNumber old name n new → Holds (put name (number (unsigned n)) found) new
holds_number found old new name n le h (inl a) =
    rw (a.0, a.2) (record {
      user = (get_member-put (name_text names.User) (number (unsigned n)) found, le);
      post = number_stays found names.Post names.User (number (unsigned n)) old.post refl h.post;
      kind = kind_stays found names.Kind names.User (number (unsigned n)) old.kind refl h.kind;
      at = number_stays found names.At names.User (number (unsigned n)) old.at refl h.at;
      known = known_put known_names (name_text names.User) (number (unsigned n)) found refl h.known;
    })
holds_number found old new name n le h (inr (inl a)) =
    rw (a.0, a.2) (record {
      user = number_stays found names.User names.Post (number (unsigned n)) old.user refl h.user;
      post = (get_member-put (name_text names.Post) (number (unsigned n)) found, le);
      kind = kind_stays found names.Kind names.Post (number (unsigned n)) old.kind refl h.kind;
      at = number_stays found names.At names.Post (number (unsigned n)) old.at refl h.at;
      known = known_put known_names (name_text names.Post) (number (unsigned n)) found refl h.known;
    })
holds_number found old new name n le h (inr (inr a)) =
    rw (a.0, a.2) (record {
      user = number_stays found names.User names.At (number (unsigned n)) old.user refl h.user;
      post = number_stays found names.Post names.At (number (unsigned n)) old.post refl h.post;
      kind = kind_stays found names.Kind names.At (number (unsigned n)) old.kind refl h.kind;
      at = (get_member-put (name_text names.At) (number (unsigned n)) found, le);
      known = known_put known_names (name_text names.At) (number (unsigned n)) found refl h.known;
    })

holds_kind : (found : Members) (old new : Parts) (name : List ℕ) (kind : Kind) → Holds found old → AddsKind old name kind new → Holds (put name (string (kind_name kind)) found) new
holds_kind found old new name kind h a =
    rw (a.0, a.2) (record {
      user = number_stays found names.User names.Kind (string (kind_name kind)) old.user refl h.user;
      post = number_stays found names.Post names.Kind (string (kind_name kind)) old.post refl h.post;
      kind = get_member-put (name_text names.Kind) (string (kind_name kind)) found;
      at = number_stays found names.At names.Kind (string (kind_name kind)) old.at refl h.at;
      known = known_put known_names (name_text names.Kind) (string (kind_name kind)) found refl h.known;
    })

-- one field more
pub holds_more : (found : Members) (old new : Parts) (name : List ℕ) (value : json.Json) → Holds found old → AddsPart old name value new → (d : Data) × (of_json value ≡ Some d) × Holds (put name d found) new × (tree.depth value ≡ 0)
holds_more found old new name json.null h a = absurd a
holds_more found old new name (json.boolean b) h a = absurd a
holds_more found old new name (json.number text) h a =
    (number (unsigned a.0), ap (option_map number) (number_of-digits text a.0 a.1), holds_number found old new name a.0 a.1.2 h a.2, refl)
holds_more found old new name (json.string text) h a =
    (string text, refl, rw a.1 (holds_kind found old new name a.0 h a.2), refl)
holds_more found old new name (json.array values) h a = absurd a
holds_more found old new name (json.object fields) h a = absurd a
