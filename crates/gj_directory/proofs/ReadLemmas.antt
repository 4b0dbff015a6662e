-- What a side tells of a vertex.
use Rattle.std.proofs.Common.{◌≡◌, ◌≢◌, ℕ, ◌<◌, ◌∙◌, ◌&&◌, ◌||◌, eqb, cond, Bool, List, [], ◌∷◌, length, map, filter, count_by, get_or, slice_get, option_map, Option, Some, None, true, false, refl, arith, sym, subst, ap, inl, inr}
use Rattle.std.specs.Prelude.{All}
use Rattle.std.specs.List.{list_any}
use Rattle.std.proofs.lemmas.Bool.{cases_eq, cases_Bool, eq-eqb, ne_eqb}
use Rattle.std.proofs.lemmas.List.{length-map}
use Rattle.std.proofs.lemmas.List.Elements.{All-head, All-tail, All-nil, All-cons, All-same, All-filter, All-get_or}
use Rattle.std.proofs.lemmas.List.Sums.{length-filter}
use Rattle.std.proofs.lemmas.Option.{slice_get-map, get_or_from_slice_get}
use borrow.Author.Tests.{eqb-true}
use Rattle.gj_base.specs.declared.item.Item.{Item}
use Rattle.gj_base.specs.declared.kind.Kind.{Kind}
use Rattle.gj_base.specs.declared.mask.Mask.{Mask}
use Rattle.gj_base.specs.declared.side.Side.{Side}
use Rattle.gj_base.specs.declared.side.Side.TheVariants.{User, Post}
use Rattle.gj_base.specs.Ends.{ends, is_eligible, end_across, vertex_on, other_side, leads_to}
use Rattle.gj_base.specs.Firsts.{place_of, number_in, HasNoRepeat}
use Rattle.gj_base.specs.Kinds.{all_kinds, lets}
use Rattle.gj_base.specs.Numbered.{named_by}
use Rattle.gj_base.proofs.EndsLemmas as base
use Rattle.gj_base.proofs.FirstLemmas.{number_in-at, place_of-at, place_of-Some}
use Rattle.gj_base.proofs.MaskedLemmas.{lets-all}
use Rattle.gj_compact.specs.declared.edge.Edge.{Edge}
use Rattle.gj_compact.specs.declared.edge.End.{End}
use Rattle.gj_compact.specs.Blocks.{lets_through, reaches}
use Rattle.gj_compact.specs.Lanes.{Laned, run_of}
use Rattle.gj_compact.specs.Turns.{plain, near, across, ends_of}
use Rattle.gj_compact.proofs.TurnLemmas.{ends_none, ends_yes, ends_no}
use Rattle.gj_names.specs.Named.{Named}
use Rattle.gj_directory.specs.Sides.{IsSide, AreNamed, items_of}

-- the identifiers of a side
abbrev pub ids_on : Side → List ℕ → List ℕ → List ℕ
ids_on User users posts = users
ids_on Post users posts = posts

-- where an end leads, by the identifiers across
abbrev pub name_end : List ℕ → End → ℕ × Kind
name_end far e = (get_or far e.vertex 0, e.kind)

near_named : (side : Side) (users posts : List ℕ) (x : Edge) → vertex_on side (named_by users posts (plain x)) ≡ get_or (ids_on side users posts) (near side x) 0
near_named User users posts x = refl
near_named Post users posts x = refl

far_named : (side : Side) (users posts : List ℕ) (x : Edge) → end_across side (named_by users posts (plain x)) ≡ name_end (ids_on (other_side side) users posts) (across side x)
far_named User users posts x = refl
far_named Post users posts x = refl

across_lets : (mask : Mask) (side : Side) (x : Edge) → lets_through mask (across side x) ≡ lets mask x.kind x.at
across_lets mask User x = refl
across_lets mask Post x = refl

-- an interaction at the vertex is eligible where the mask lets it through
at_named : (side : Side) (users posts : List ℕ) (id : ℕ) (mask : Mask) (x : Edge) (passes : Bool) → vertex_on side (named_by users posts (plain x)) ≡ id → lets mask x.kind x.at ≡ passes
    → is_eligible side id mask (named_by users posts (plain x)) ≡ passes
at_named side users posts id mask x passes e let_is =
    let t : eqb (vertex_on side (named_by users posts (plain x))) id ≡ true = eq-eqb (vertex_on side (named_by users posts (plain x))) id e in
    rw (t, let_is) refl

off_named : (side : Side) (users posts : List ℕ) (id : ℕ) (mask : Mask) (x : Edge) → vertex_on side (named_by users posts (plain x)) ≢ id → is_eligible side id mask (named_by users posts (plain x)) ≡ false
off_named side users posts id mask x e =
    let t : eqb (vertex_on side (named_by users posts (plain x))) id ≡ false = ne_eqb (vertex_on side (named_by users posts (plain x))) id e in
    rw t refl

filter_yes : (mask : Mask) (end : End) (rest : List End) → lets_through mask end ≡ true → filter (lets_through mask) (end ∷ rest) ≡ end ∷ filter (lets_through mask) rest
filter_yes mask end rest e = rw e refl

filter_no : (mask : Mask) (end : End) (rest : List End) → lets_through mask end ≡ false → filter (lets_through mask) (end ∷ rest) ≡ filter (lets_through mask) rest
filter_no mask end rest e = rw e refl

-- the ends of a vertex by its identifier are those by its number that the mask lets through, named
pub ends-edges : (users posts : List ℕ) (side : Side) (v : ℕ) (mask : Mask) (edges : List Edge) → HasNoRepeat (ids_on side users posts) → v < length (ids_on side users posts)
    → AreNamed (ids_on side users posts) side edges
    → ends (items_of users posts edges) side (get_or (ids_on side users posts) v 0) mask ≡ map (name_end (ids_on (other_side side) users posts)) (filter (lets_through mask) (ends_of edges side v))
ends-edges users posts side v mask [] distinct below named = rw (base.ends_none side (get_or (ids_on side users posts) v 0) mask, ends_none side v) refl
ends-edges users posts side v mask (x ∷ xs) distinct below named =
    let ids = ids_on side users posts in
    let far = ids_on (other_side side) users posts in
    let id = get_or ids v 0 in
    let y : Item = named_by users posts (plain x) in
    let rest = ends-edges users posts side v mask xs distinct below (All-tail (λ (edge : Edge). near side edge < length ids) x xs named) in
    let known : near side x < length ids = All-head (λ (edge : Edge). near side edge < length ids) x xs named in
    let n = near_named side users posts x in
    elim (cases_eq (near side x) v) [
      | inl e ↦
          let here : vertex_on side y ≡ id = n ∙ ap (λ (k : ℕ). get_or ids k 0) e in
          let own = ap (λ (l : List End). map (name_end far) (filter (lets_through mask) l)) (ends_yes x xs side v e) in
          elim (cases_Bool (lets mask x.kind x.at)) [
            | inl passes ↦
                base.ends_yes y (items_of users posts xs) side id mask (at_named side users posts id mask x true here passes)
                ∙ (ap (λ (l : List (ℕ × Kind)). end_across side y ∷ l) rest
                ∙ (ap (λ (z : ℕ × Kind). z ∷ map (name_end far) (filter (lets_through mask) (ends_of xs side v))) (far_named side users posts x)
                ∙ sym (own ∙ ap (map (name_end far)) (filter_yes mask (across side x) (ends_of xs side v) (across_lets mask side x ∙ passes)))))
            | inr stays ↦
                base.ends_no y (items_of users posts xs) side id mask (at_named side users posts id mask x false here stays)
                ∙ (rest ∙ sym (own ∙ ap (map (name_end far)) (filter_no mask (across side x) (ends_of xs side v) (across_lets mask side x ∙ stays))))
          ]
      | inr ne ↦
          let there : vertex_on side y ≢ id = λ (q : vertex_on side y ≡ id).
          ne (sym (number_in-at ids (near side x) distinct known) ∙ (ap (number_in ids) (sym n ∙ q) ∙ number_in-at ids v distinct below)) in
          base.ends_no y (items_of users posts xs) side id mask (off_named side users posts id mask x there)
          ∙ (rest ∙ sym (ap (λ (l : List End). map (name_end far) (filter (lets_through mask) l)) (ends_no x xs side v ne)))
    ]

-- an identifier without a number has no ends
pub ends-unnamed : (users posts : List ℕ) (side : Side) (id : ℕ) (mask : Mask) (edges : List Edge) → HasNoRepeat (ids_on side users posts) → place_of (ids_on side users posts) id ≡ None
    → AreNamed (ids_on side users posts) side edges → ends (items_of users posts edges) side id mask ≡ []
ends-unnamed users posts side id mask [] distinct none named = base.ends_none side id mask
ends-unnamed users posts side id mask (x ∷ xs) distinct none named =
    let ids = ids_on side users posts in
    let y : Item = named_by users posts (plain x) in
    let known : near side x < length ids = All-head (λ (edge : Edge). near side edge < length ids) x xs named in
    let n = near_named side users posts x in
    let there : vertex_on side y ≢ id = λ (q : vertex_on side y ≡ id). absurd (cc (none, place_of-at ids id (near side x) distinct known (sym n ∙ q))) in
    base.ends_no y (items_of users posts xs) side id mask (off_named side users posts id mask x there)
    ∙ ends-unnamed users posts side id mask xs distinct none (All-tail (λ (edge : Edge). near side edge < length ids) x xs named)

pub let_all : (run : List End) → filter (lets_through all_kinds) run ≡ run
let_all [] = refl
let_all (e ∷ run) = filter_yes all_kinds e run (lets-all e.kind e.at) ∙ ap (λ (l : List End). e ∷ l) (let_all run)

pub count_all : (run : List End) → count_by (lets_through all_kinds) run ≡ length run
count_all run = sym (length-filter (lets_through all_kinds) run) ∙ ap length (let_all run)

-- a mask that is found the same as another is that one
pub all_mask : (mask all : Mask) → all ≡ all_kinds → (eqb mask.bits all.bits && eqb mask.not_before all.not_before) ≡ true → mask ≡ all_kinds
all_mask mask all is same =
    let both = split_and (eqb mask.bits all.bits) (eqb mask.not_before all.not_before) same in
    let bits : mask.bits ≡ all.bits = eqb-true mask.bits all.bits both.0 in
    let from : mask.not_before ≡ all.not_before = eqb-true mask.not_before all.not_before both.1 in
    ap (λ (n : ℕ). let m : Mask = record { bits = n; not_before = mask.not_before } in m) bits
    ∙ (ap (λ (n : ℕ). let m : Mask = record { bits = all.bits; not_before = n } in m) from ∙ is)
  where
    split_and : (a b : Bool) → (a && b) ≡ true → (a ≡ true) × (b ≡ true)
    split_and true b e = (refl, e)
    split_and false b e = cc

-- how many ends a side tells
pub side_count : (names : Named) (users posts : List ℕ) (lane : Laned) (side : Side) (full fresh : List Edge) (v : ℕ) (mask : Mask) → names.ids ≡ ids_on side users posts
    → IsSide names lane side full fresh → v < length names.ids
    → count_by (lets_through mask) (run_of lane.runs v) ≡ length (ends (items_of users posts full) side (get_or names.ids v 0) mask)
side_count names users posts lane side full fresh v mask same so below =
    let ids = ids_on side users posts in
    let far = ids_on (other_side side) users posts in
    let distinct : HasNoRepeat ids = subst HasNoRepeat same so.distinct in
    let named : AreNamed ids side full = subst (λ (l : List ℕ). AreNamed l side full) same so.known_full in
    let is = ends-edges users posts side v mask full distinct (omega (arith, below, ap length same)) named in
    sym (ap length (ap (λ (l : List ℕ). ends (items_of users posts full) side (get_or l v 0) mask) same ∙ is)
    ∙ (length-map (filter (lets_through mask) (ends_of full side v)) (name_end far)
    ∙ (length-filter (lets_through mask) (ends_of full side v) ∙ ap (count_by (lets_through mask)) (sym (so.runs v (omega (arith, below, so.within)))))))

pub side_notes : (names : Named) (users posts : List ℕ) (lane : Laned) (side : Side) (full fresh : List Edge) (v : ℕ) → names.ids ≡ ids_on side users posts
    → IsSide names lane side full fresh → v < length names.ids
    → get_or lane.fresh v 0 ≡ length (ends (items_of users posts fresh) side (get_or names.ids v 0) all_kinds)
side_notes names users posts lane side full fresh v same so below =
    let ids = ids_on side users posts in
    let far = ids_on (other_side side) users posts in
    let distinct : HasNoRepeat ids = subst HasNoRepeat same so.distinct in
    let named : AreNamed ids side fresh = subst (λ (l : List ℕ). AreNamed l side fresh) same so.known_fresh in
    let is = ends-edges users posts side v all_kinds fresh distinct (omega (arith, below, ap length same)) named in
    so.notes v (omega (arith, below, so.within))
    ∙ sym (ap length (ap (λ (l : List ℕ). ends (items_of users posts fresh) side (get_or l v 0) all_kinds) same ∙ is)
    ∙ (length-map (filter (lets_through all_kinds) (ends_of fresh side v)) (name_end far) ∙ ap length (let_all (ends_of fresh side v))))

pub side_end : (names : Named) (users posts : List ℕ) (lane : Laned) (side : Side) (full fresh : List Edge) (v i : ℕ) (mask : Mask) (e : End) → names.ids ≡ ids_on side users posts
    → IsSide names lane side full fresh → v < length names.ids → slice_get (filter (lets_through mask) (run_of lane.runs v)) i ≡ Some e
    → slice_get (ends (items_of users posts full) side (get_or names.ids v 0) mask) i ≡ Some (name_end (ids_on (other_side side) users posts) e)
side_end names users posts lane side full fresh v i mask e same so below is =
    let ids = ids_on side users posts in
    let far = ids_on (other_side side) users posts in
    let distinct : HasNoRepeat ids = subst HasNoRepeat same so.distinct in
    let named : AreNamed ids side full = subst (λ (l : List ℕ). AreNamed l side full) same so.known_full in
    ap (λ (l : List (ℕ × Kind)). slice_get l i)
    (ap (λ (l : List ℕ). ends (items_of users posts full) side (get_or l v 0) mask) same ∙ ends-edges users posts side v mask full distinct (omega (arith, below, ap length same)) named)
    ∙ (slice_get-map (name_end far) (filter (lets_through mask) (ends_of full side v)) i
    ∙ (ap (λ (l : List End). option_map (name_end far) (slice_get (filter (lets_through mask) l) i)) (sym (so.runs v (omega (arith, below, so.within)))) ∙ ap (option_map (name_end far)) is))

pub side_absent : (names : Named) (users posts : List ℕ) (lane : Laned) (side : Side) (full fresh : List Edge) (id : ℕ) (mask : Mask) → names.ids ≡ ids_on side users posts
    → IsSide names lane side full fresh → place_of names.ids id ≡ None
    → (ends (items_of users posts full) side id mask ≡ []) × (ends (items_of users posts fresh) side id mask ≡ [])
side_absent names users posts lane side full fresh id mask same so none =
    let ids = ids_on side users posts in
    let distinct : HasNoRepeat ids = subst HasNoRepeat same so.distinct in
    let gone : place_of ids id ≡ None = ap (λ (l : List ℕ). place_of l id) (sym same) ∙ none in (
      ends-unnamed users posts side id mask full distinct gone (subst (λ (l : List ℕ). AreNamed l side full) same so.known_full),
      ends-unnamed users posts side id mask fresh distinct gone (subst (λ (l : List ℕ). AreNamed l side fresh) same so.known_fresh),
    )

far_near : (side : Side) (x : Edge) → (across side x).vertex ≡ near (other_side side) x
far_near User x = refl
far_near Post x = refl

-- where ends lead is known
ends-known : (far : List ℕ) (side : Side) (v : ℕ) (edges : List Edge) → AreNamed far (other_side side) edges → All (λ (e : End). e.vertex < length far) (ends_of edges side v)
ends-known far side v [] named = All-same (λ (e : End). e.vertex < length far) (ends_of [] side v) [] (ends_none side v) (All-nil (λ (e : End). e.vertex < length far))
ends-known far side v (x ∷ xs) named =
    let P = λ (edge : Edge). near (other_side side) edge < length far in
    let Q = λ (e : End). e.vertex < length far in
    let rest = ends-known far side v xs (All-tail P x xs named) in
    let here : (across side x).vertex < length far = omega (arith, All-head P x xs named, far_near side x) in
    elim (cases_eq (near side x) v) [
      | inl e ↦ All-same Q (ends_of (x ∷ xs) side v) (across side x ∷ ends_of xs side v) (ends_yes x xs side v e) (All-cons Q (across side x) (ends_of xs side v) here rest)
      | inr ne ↦ All-same Q (ends_of (x ∷ xs) side v) (ends_of xs side v) (ends_no x xs side v ne) rest
    ]

pub end_known : (names : Named) (far : List ℕ) (lane : Laned) (side : Side) (full fresh : List Edge) (v i : ℕ) (mask : Mask) (e : End) → IsSide names lane side full fresh → AreNamed far (other_side side) full
    → v < length names.ids → i < count_by (lets_through mask) (run_of lane.runs v) → slice_get (filter (lets_through mask) (run_of lane.runs v)) i ≡ Some e → e.vertex < length far
end_known names far lane side full fresh v i mask e so named below inside is =
    let Q = λ (d : End). d.vertex < length far in
    let run = run_of lane.runs v in
    let all : All Q run = All-same Q run (ends_of full side v) (so.runs v (omega (arith, below, so.within))) (ends-known far side v full named) in
    let some : All Q (filter (lets_through mask) run) = All-filter (lets_through mask) Q run all in
    let here : get_or (filter (lets_through mask) run) i e ≡ e = get_or_from_slice_get (filter (lets_through mask) run) i e e is in
    let lt = All-get_or Q (filter (lets_through mask) run) i e (omega (arith, inside, length-filter (lets_through mask) run)) some in
    omega (arith, lt, ap (λ (d : End). d.vertex) here)

-- one of the ends leads to the vertex with the number that was found, if one was
abbrev pub reached : Option ℕ → Mask → List End → Bool
reached (Some vertex) mask run = list_any (reaches vertex mask) run
reached None mask run = false

-- an identifier is the one that was found exactly where its number is
same_named : (far : List ℕ) (other vertex w : ℕ) → HasNoRepeat far → place_of far other ≡ Some vertex → w < length far → eqb (get_or far w 0) other ≡ eqb w vertex
same_named far other vertex w distinct found below =
    let facts = place_of-Some far other vertex found in
    elim (cases_eq w vertex) [
      | inl e ↦ eq-eqb (get_or far w 0) other (ap (λ (k : ℕ). get_or far k 0) e ∙ facts.1) ∙ sym (eq-eqb w vertex e)
      | inr ne ↦
          let off : get_or far w 0 ≢ other = λ (q : get_or far w 0 ≡ other). (let there = place_of-at far other w distinct below q in ne (cc (found, there))) in
          ne_eqb (get_or far w 0) other off ∙ sym (ne_eqb w vertex ne)
    ]

led_case : (b passes any : Bool) (far : List ℕ) (other : ℕ) (e : End) (run : List End) → eqb (get_or far e.vertex 0) other ≡ b → leads_to (map (name_end far) run) other ≡ any
    → leads_to (map (name_end far) (cond passes (e ∷ run) run)) other ≡ ((b && passes) || any)
led_case true true any far other e run is rest = rw is refl
led_case false true any far other e run is rest = rw is rest
led_case true false any far other e run is rest = rest
led_case false false any far other e run is rest = rest

led : (far : List ℕ) (other : ℕ) (found : Option ℕ) (mask : Mask) (run : List End) → HasNoRepeat far → found ≡ place_of far other → All (λ (e : End). e.vertex < length far) run
    → leads_to (map (name_end far) (filter (lets_through mask) run)) other ≡ reached found mask run
led far other (Some vertex) mask [] distinct is known = refl
led far other None mask [] distinct is known = refl
led far other (Some vertex) mask (e ∷ run) distinct is known =
    let Q = λ (d : End). d.vertex < length far in
    led_case (eqb e.vertex vertex) (lets_through mask e) (list_any (reaches vertex mask) run) far other e (filter (lets_through mask) run)
    (same_named far other vertex e.vertex distinct (sym is) (All-head Q e run known)) (led far other (Some vertex) mask run distinct is (All-tail Q e run known))
led far other None mask (e ∷ run) distinct is known =
    let Q = λ (d : End). d.vertex < length far in
    let off : get_or far e.vertex 0 ≢ other = λ (q : get_or far e.vertex 0 ≡ other). absurd (cc (is, place_of-at far other e.vertex distinct (All-head Q e run known) q)) in
    led_case false (lets_through mask e) false far other e (filter (lets_through mask) run)
    (ne_eqb (get_or far e.vertex 0) other off) (led far other None mask run distinct is (All-tail Q e run known))

pub side_led : (names : Named) (users posts : List ℕ) (lane : Laned) (side : Side) (full fresh : List Edge) (v : ℕ) (mask : Mask) (other : ℕ) (found : Option ℕ) → names.ids ≡ ids_on side users posts
    → IsSide names lane side full fresh → HasNoRepeat (ids_on (other_side side) users posts) → AreNamed (ids_on (other_side side) users posts) (other_side side) full
    → v < length names.ids → found ≡ place_of (ids_on (other_side side) users posts) other
    → leads_to (ends (items_of users posts full) side (get_or names.ids v 0) mask) other ≡ reached found mask (run_of lane.runs v)
side_led names users posts lane side full fresh v mask other found same so apart across_named below is =
    let ids = ids_on side users posts in
    let far = ids_on (other_side side) users posts in
    let distinct : HasNoRepeat ids = subst HasNoRepeat same so.distinct in
    let named : AreNamed ids side full = subst (λ (l : List ℕ). AreNamed l side full) same so.known_full in
    ap (λ (l : List (ℕ × Kind)). leads_to l other)
    (ap (λ (l : List ℕ). ends (items_of users posts full) side (get_or l v 0) mask) same ∙ ends-edges users posts side v mask full distinct (omega (arith, below, ap length same)) named)
    ∙ (led far other found mask (ends_of full side v) apart is (ends-known far side v full across_named)
    ∙ ap (reached found mask) (sym (so.runs v (omega (arith, below, so.within)))))
