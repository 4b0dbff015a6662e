-- An element in the plain form is the interaction that its tree says.
use Rattle.std.proofs.Common.{◌≡◌, ℕ, suc, ◌≤◌, List, [], ◌∷◌, ◌++◌, length, Option, Some, None, Ok, unwrap_or, refl, sym, ap, subst, ◌∙◌, arith, append_assoc, append-nil, le-leb}
use Rattle.std.specs.Prelude.{option_map}
use Rattle.json.specs.Json as json
use Rattle.json.specs.Tree as tree
use Rattle.serde_json.specs.Data.{Data, object, Items, no_items, item, Members, no_members, put}
use Rattle.serde_json.specs.Events.{items_len}
use Rattle.serde_json.specs.Read.{of_json, of_items, of_members}
use Rattle.gj_base.specs.declared.kind.Kind.{Kind}
use Rattle.gj_base.specs.declared.kind.Kind.TheVariants.{Click, Favorite, Retweet, Reply, Tweet}
use Rattle.gj_base.specs.Interaction.{Interaction}
use Rattle.gj_base.specs.Kinds.{kind_name}
use Rattle.gj_request.specs.Forms.{kind_named, number_of, kind_of, each, number, id, kind}
use Rattle.gj_request.specs.Names.{name_text}
use Rattle.gj_request.specs.PlainItems.{AreAll, Completes, no_parts, IsPlainItem, ArePlain}
use Rattle.gj_request.specs.Tables.{field, needed, optional, object_of, item_of, add_item}
use Rattle.gj_request.specs.declared.name.Name.{Name}
use Rattle.gj_request.specs.declared.name.Name.TheVariants as names
use Rattle.gj_request.specs.declared.plain_items.Parts.{Parts}
use Rattle.gj_request.proofs.PlainLemmas.{HasNumber, HasKind, Holds, holds_more}

id_said : (found : Members) (name : Name) (n : ℕ) → HasNumber found (name_text name) (Some n) → field (needed name id) (object found) ≡ Ok n
unfolding field number_of
id_said found name n h = let low : 0 ≤ n = omega arith in rw (h.0, le-leb _ _ low, le-leb _ _ h.1)

kind_found : (kind : Kind) → kind_named (kind_name kind) ≡ Some kind
kind_found Click = refl
kind_found Favorite = refl
kind_found Retweet = refl
kind_found Reply = refl
kind_found Tweet = refl

kind_said : (found : Members) (name : Name) (k : Kind) → HasKind found (name_text name) (Some k) → field (needed name kind) (object found) ≡ Ok k
unfolding field kind_of
kind_said found name k h = rw (h, kind_found k)

-- a number with a default of 0
pub number_said : (found : Members) (name : Name) (most : ℕ) (o : Option ℕ) (n : ℕ) → HasNumber found (name_text name) o → unwrap_or o 0 ≡ n → n ≤ most → field (optional name (number 0 most) 0) (object found) ≡ Ok n
unfolding field number_of
number_said found name most None n h e le = rw h (ap Ok e)
number_said found name most (Some m) n h e le = let low : 0 ≤ m = omega arith in rw (h.0, le-leb _ _ low, e, le-leb _ _ le)

number_fits : (found : Members) (name : List ℕ) (o : Option ℕ) (n : ℕ) → HasNumber found name o → unwrap_or o 0 ≡ n → n ≤ 9223372036854775807
number_fits found name None n h e = omega (arith, e)
number_fits found name (Some m) n h e = omega (arith, e, h.1)

item_read : (name : Name) (found : Members) (parts : Parts) (x : Interaction) → Holds found parts → AreAll parts x → item_of name (object found) ≡ Ok x
unfolding item_of object_of
item_read name found parts x h all =
    let user = id_said found names.User x.user (subst (HasNumber found (name_text names.User)) all.0 h.user) in
    let post = id_said found names.Post x.post (subst (HasNumber found (name_text names.Post)) all.1 h.post) in
    let k = kind_said found names.Kind x.kind (subst (HasKind found (name_text names.Kind)) all.2 h.kind) in
    let at = number_said found names.At _ parts.at x.at h.at all.3 (number_fits found (name_text names.At) parts.at x.at h.at all.3) in
    rw (h.known, user, post, k, at)

fields_read : (name : Name) (fields : json.Members) (parts : Parts) (found : Members) (x : Interaction) → Holds found parts → Completes parts fields x
    → (all : Members) × (of_members fields found ≡ Some all) × (item_of name (object all) ≡ Ok x) × (tree.members_depth fields ≡ 0)
fields_read name json.no_members parts found x h all = (found, refl, item_read name found parts x h all, refl)
fields_read name (json.member k value fields) parts found x h more =
    let first = holds_more found parts more.0 k value h more.1 in
    let rest = fields_read name fields more.0 (put k first.0 found) x first.2 more.2 in
    (rest.0, rw first.1 rest.1, rest.2, rw (first.3, rest.3))

none_holds : Holds no_members no_parts
none_holds = record { user = refl; post = refl; kind = refl; at = refl; known = refl }

item_plain : (name : Name) (value : json.Json) (x : Interaction) → IsPlainItem value x → (d : Data) × (of_json value ≡ Some d) × (item_of name d ≡ Ok x) × (tree.depth value ≡ 1)
item_plain name json.null x h = absurd h
item_plain name (json.boolean b) x h = absurd h
item_plain name (json.number text) x h = absurd h
item_plain name (json.string text) x h = absurd h
item_plain name (json.array values) x h = absurd h
item_plain name (json.object fields) x h =
    let r = fields_read name fields no_parts no_members x none_holds h in
    (object r.0, ap (option_map object) r.1, r.2, ap suc r.3)

pub items_plain : (name : Name) (values : json.Items) (xs : List Interaction) → ArePlain values xs
    → (ds : Items) × (of_items values ≡ Some ds) × ((so_far : List Interaction) → each (add_item name) so_far ds ≡ Ok (so_far ++ xs)) × (items_len ds ≡ length xs) × (tree.items_depth values ≤ 1)
unfolding add_item
items_plain name json.no_items [] h = (no_items, refl, λ so_far. ap Ok (sym (append-nil so_far)), refl, omega arith)
items_plain name json.no_items (x ∷ xs) h = absurd h
items_plain name (json.item value values) [] h = absurd h
items_plain name (json.item value values) (x ∷ xs) h =
    let first = item_plain name value x h.0 in
    let rest = items_plain name values xs h.1 in
    (item first.0 rest.0, rw first.1 (ap (option_map (item first.0)) rest.1), λ so_far. rw first.2 (rest.2 (so_far ++ x ∷ []) ∙ ap Ok (append_assoc so_far (x ∷ []) xs)), ap suc rest.3, omega (arith, first.3, rest.4))
