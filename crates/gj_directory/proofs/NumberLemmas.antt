-- Vertices numbered anew, interaction by interaction.
use Rattle.std.proofs.Common.{◌≡◌, ℕ, ◌+◌, ◌<◌, ◌≤◌, ◌∙◌, eqb, cond, List, [], ◌∷◌, ◌++◌, length, map, take, drop, set, get_or, count_by, Some, refl, arith, sym, subst, ap, inl, inr}
use Rattle.std.proofs.lemmas.Bool.{cases_eq, eq-eqb, ne_eqb}
use Rattle.std.proofs.lemmas.List.{length-set, length-map, get_or-map, get_or-drop, map-append, take_more, take_more_set, take_all, drop-drop, drop-set-lt}
use Rattle.std.proofs.lemmas.List.Elements.{All-from_get_or}
use Rattle.std.proofs.lemmas.List.Sums.{sum_by-cons}
use Rattle.gj_base.specs.declared.item.Item.{Item}
use Rattle.gj_base.specs.declared.kind.Kind.TheVariants.{Click}
use Rattle.gj_base.specs.declared.side.Side.{Side}
use Rattle.gj_base.specs.declared.side.Side.TheVariants.{User, Post}
use Rattle.gj_base.specs.Ends.{other_side}
use Rattle.gj_base.specs.Firsts.{place_of, with_id}
use Rattle.gj_base.proofs.FirstLemmas.{length-with_id, place_of-Some}
use Rattle.gj_compact.specs.declared.edge.Edge.{Edge}
use Rattle.gj_compact.specs.Lanes.{Laned, noted, emptied}
use Rattle.gj_compact.specs.Turns.{near, ends_of}
use Rattle.gj_compact.proofs.TurnLemmas.{ends_none, ends_yes, ends_no}
use Rattle.gj_names.specs.Named.{Named, IsNamed}
use Rattle.gj_directory.specs.Sides.{IsSide, AreNamed, with_near, items_from}
use Rattle.gj_directory.proofs.SideLemmas.{side_noted, side_empty, named_at}
use Rattle.gj_directory.proofs.NameLemmas.{items_more, from-append}

-- the first interactions are numbered anew, and noted
pub record RenumberedTo (names : Named) (lane : Laned) (ids : List ℕ) (side : Side) (edges old : List Edge) (i : ℕ) : Type 0 where
  pub held : IsSide names lane side [] (take i edges)
  pub long : length edges ≡ length old
  pub rest : drop i edges ≡ drop i old
  pub far : map (near (other_side side)) (take i edges) ≡ map (near (other_side side)) (take i old)
  pub items : (across : List ℕ) → items_from side names.ids across (take i edges) ≡ items_from side ids across (take i old)
  pub few : length names.ids ≤ i

-- before the first
pub renumbered_none : (names : Named) (lane lane' : Laned) (ids : List ℕ) (side : Side) (edges : List Edge) (room : ℕ) → names.ids ≡ [] → names.room ≡ room
    → length lane.runs ≡ room → lane' ≡ emptied lane → RenumberedTo names lane' ids side edges edges 0
renumbered_none names lane lane' ids side edges room none room_is wide new =
    record {
      held = side_empty names lane' side (length lane.runs) none (room_is ∙ sym wide) (ap (λ (l : Laned). l.runs) new) (ap (λ (l : Laned). l.fresh) new);
      long = refl;
      rest = refl;
      far = refl;
      items = λ across. refl_items side names.ids ids across;
      few = omega (arith, ap length none);
    }
  where
    refl_items : (side : Side) (ids' ids across : List ℕ) → items_from side ids' across [] ≡ items_from side ids across []
    refl_items User ids' ids across = refl
    refl_items Post ids' ids across = refl

near_new : (side : Side) (x : Edge) (v : ℕ) → near side (with_near side x v) ≡ v
near_new User x v = refl
near_new Post x v = refl

far_new : (side : Side) (x : Edge) (v : ℕ) → near (other_side side) (with_near side x v) ≡ near (other_side side) x
far_new User x v = refl
far_new Post x v = refl

-- the same interaction by the new number
item_new : (side : Side) (ids' ids across : List ℕ) (x : Edge) (v : ℕ) → get_or ids' v 0 ≡ get_or ids (near side x) 0
    → items_from side ids' across (with_near side x v ∷ []) ≡ items_from side ids across (x ∷ [])
item_new User ids' ids across x v same = rw same refl
item_new Post ids' ids across x v same = rw same refl

-- the next interaction is still as it was
pub next_old : (names : Named) (lane : Laned) (ids : List ℕ) (side : Side) (edges old : List Edge) (i : ℕ) (d : Edge) → RenumberedTo names lane ids side edges old i → get_or edges i d ≡ get_or old i d
next_old names lane ids side edges old i d so =
    let at : i + 0 ≡ i = omega arith in
    ap (λ (n : ℕ). get_or edges n d) (sym at) ∙ (sym (get_or-drop i edges 0 d)
    ∙ (ap (λ (l : List Edge). get_or l 0 d) so.rest ∙ (get_or-drop i old 0 d ∙ ap (λ (n : ℕ). get_or old n d) at)))

pub renumbered_more : (names names' : Named) (lane lane' : Laned) (ids : List ℕ) (side : Side) (edges edges' old : List Edge) (i : ℕ) (x y : Edge) (id v : ℕ)
    → RenumberedTo names lane ids side edges old i → i < length edges → x ≡ get_or edges i x → id ≡ get_or ids (near side x) 0
    → names'.ids ≡ with_id names.ids id → place_of names'.ids id ≡ Some v → v < length names'.ids → names'.room ≡ names.room → IsNamed names'
    → lane' ≡ noted lane v → y ≡ with_near side x v → edges' ≡ set edges i y → RenumberedTo names' lane' ids side edges' old (i + 1)
renumbered_more names names' lane lane' ids side edges edges' old i x y id v so below is id_is ids_are found in_range room lawful new y_is edges_are =
    let own : near side y ≡ v = ap (near side) y_is ∙ near_new side x v in
    let other : near (other_side side) y ≡ near (other_side side) x = ap (near (other_side side)) y_is ∙ far_new side x v in
    let before = take i edges in
    let done : take (i + 1) edges' ≡ before ++ y ∷ [] = ap (take (i + 1)) edges_are ∙ take_more_set edges i y below in
    let was : x ≡ get_or old i x = is ∙ next_old names lane ids side edges old i x so in
    let next : take (i + 1) old ≡ take i old ++ x ∷ [] = take_more old i x (omega (arith, below, so.long)) ∙ ap (λ (e : Edge). take i old ++ e ∷ []) (sym was) in
    let name : get_or names'.ids v 0 ≡ get_or ids (near side x) 0 = (place_of-Some names'.ids id v found).1 ∙ id_is in
    let f = near (other_side side) in
    record {
      held = subst (λ (l : List Edge). IsSide names' lane' side [] l) (sym done)
          (side_noted names names' lane lane' side [] before y id v so.held ids_are own in_range room lawful new);
      long = ap length edges_are ∙ (length-set edges i y ∙ so.long);
      rest = ap (drop (i + 1)) edges_are ∙ (drop-set-lt (i + 1) edges i y (omega arith)
          ∙ (sym (drop-drop 1 i edges) ∙ (ap (drop 1) so.rest ∙ drop-drop 1 i old)));
      far = ap (map f) done ∙ (map-append f before (y ∷ [])
          ∙ (ap (λ (l : List ℕ). l ++ f y ∷ []) so.far ∙ (ap (λ (n : ℕ). map f (take i old) ++ n ∷ []) other
          ∙ sym (ap (map f) next ∙ map-append f (take i old) (x ∷ [])))));
      items = λ across.
          let kept : items_from side names'.ids across before ≡ items_from side names.ids across before =
          ap (λ (l : List ℕ). items_from side l across before) ids_are ∙ items_more side names.ids across id before so.held.known_fresh in
          ap (items_from side names'.ids across) done ∙ (from-append side names'.ids across before (y ∷ [])
          ∙ (ap (λ (l : List Item). l ++ items_from side names'.ids across (y ∷ [])) (kept ∙ so.items across)
          ∙ (ap (λ (l : List Item). items_from side ids across (take i old) ++ l) (ap (λ (e : Edge). items_from side names'.ids across (e ∷ [])) y_is ∙ item_new side names'.ids ids across x v name)
          ∙ sym (ap (items_from side ids across) next ∙ from-append side ids across (take i old) (x ∷ [])))));
      few = omega (arith, so.few, ap length ids_are, (length-with_id names.ids id).1);
    }

-- the ends of a vertex are as many as it stands among the numbers
ends-count : (side : Side) (v : ℕ) (edges : List Edge) → length (ends_of edges side v) ≡ count_by (λ (n : ℕ). eqb n v) (map (near side) edges)
ends-count side v [] = ap length (ends_none side v)
ends-count side v (x ∷ xs) =
    let rest = ends-count side v xs in
    let more = sum_by-cons (λ (n : ℕ). cond (eqb n v) 1 0) (near side x) (map (near side) xs) in
    elim (cases_eq (near side x) v) [
      | inl e ↦
          let one : ◌≡◌ {A = ℕ} (cond (eqb (near side x) v) 1 0) 1 = ap {B = ℕ} (λ b. cond b 1 0) (eq-eqb (near side x) v e) in
          omega (arith, rest, more, one, ap length (ends_yes x xs side v e))
      | inr ne ↦
          let none : ◌≡◌ {A = ℕ} (cond (eqb (near side x) v) 1 0) 0 = ap {B = ℕ} (λ b. cond b 1 0) (ne_eqb (near side x) v ne) in
          omega (arith, rest, more, none, ap length (ends_no x xs side v ne))
    ]

-- what is known stays known where the numbers stay
pub known_as : (ids : List ℕ) (side : Side) (edges edges' : List Edge) → map (near side) edges' ≡ map (near side) edges → AreNamed ids side edges → AreNamed ids side edges'
known_as ids side edges edges' same known =
    let long : length edges' ≡ length edges = sym (length-map edges' (near side)) ∙ (ap length same ∙ length-map edges (near side)) in
    let d : Edge = record { user = 0; post = 0; kind = Click; at = 0 } in
    All-from_get_or (λ (edge : Edge). near side edge < length ids) edges' d
    (λ i h.
    let h' : i < length edges = omega (arith, h, long) in
    let e : near side (get_or edges' i d) ≡ near side (get_or edges i d) =
    sym (get_or-map (near side) edges' i d 0 h) ∙ (ap (λ (l : List ℕ). get_or l i 0) same ∙ get_or-map (near side) edges i d 0 h') in
    omega (arith, named_at ids side edges i d h' known, e))

-- what is noted of a side stays where the numbers of the other change
pub side_kept : (names : Named) (lane : Laned) (side : Side) (fresh fresh' : List Edge) → IsSide names lane side [] fresh → map (near side) fresh' ≡ map (near side) fresh
    → IsSide names lane side [] fresh'
side_kept names lane side fresh fresh' so same =
    let long : length fresh' ≡ length fresh = sym (length-map fresh' (near side)) ∙ (ap length same ∙ length-map fresh (near side)) in
    record {
      wide = so.wide;
      within = so.within;
      distinct = so.distinct;
      known_full = so.known_full;
      known_fresh = known_as names.ids side fresh fresh' same so.known_fresh;
      runs = so.runs;
      notes = λ v h. so.notes v h ∙ (ends-count side v fresh ∙ (ap (count_by (λ (n : ℕ). eqb n v)) (sym same) ∙ sym (ends-count side v fresh')));
      total_full = so.total_full;
      total_fresh = omega (arith, so.total_fresh, long);
    }

-- all interactions renumbered
pub renumbered_all : (names : Named) (lane : Laned) (ids : List ℕ) (side : Side) (edges old : List Edge) (i : ℕ) → RenumberedTo names lane ids side edges old i → length edges ≤ i
    → IsSide names lane side [] edges × (map (near (other_side side)) edges ≡ map (near (other_side side)) old)
    × ((across : List ℕ) → items_from side names.ids across edges ≡ items_from side ids across old)
renumbered_all names lane ids side edges old i so past =
    let new = take_all i edges past in
    let was = take_all i old (omega (arith, past, so.long)) in (
      subst (λ (l : List Edge). IsSide names lane side [] l) new so.held,
      ap (map (near (other_side side))) (sym new) ∙ (so.far ∙ ap (map (near (other_side side))) was),
      λ across. ap (items_from side names.ids across) (sym new) ∙ (so.items across ∙ ap (items_from side ids across) was),
    )
