-- What a note, a settling, a rotation and new numbers change of one side.
use Rattle.std.proofs.Common.{◌≡◌, ℕ, ◌+◌, ◌<◌, ◌≤◌, ◌∙◌, List, [], ◌∷◌, ◌++◌, length, map, take, drop, set, get_or, replicate, refl, arith, sym, subst, ap, inl, inr}
use Rattle.std.specs.List.{sum_by}
use Rattle.std.proofs.lemmas.Bool.{cases_eq}
use Rattle.std.proofs.lemmas.List.{length_push, length-set, length-map, length-replicate, get_or-replicate, get_or-map, get_or-set_same, get_or-set_other, get_or_append_left, drop_at, take_at, take-append-drop, length-append}
use Rattle.std.proofs.lemmas.List.Elements.{All-append, All-push, All-weaker, All-get_or, All-drop, All-take, All-nil, All-same}
use Rattle.std.proofs.lemmas.List.Sums.{sum_by-set, sum_by-cons}
use Rattle.gj_base.specs.declared.side.Side.{Side}
use Rattle.gj_base.specs.Firsts.{with_id}
use Rattle.gj_base.proofs.FirstLemmas.{length-with_id}
use Rattle.gj_compact.specs.declared.edge.Edge.{Edge}
use Rattle.gj_compact.specs.declared.edge.End.{End}
use Rattle.gj_compact.specs.Lanes.{Laned, run_of, total_of, sum_of, noted, opened, wanted}
use Rattle.gj_compact.specs.Turns.{near, across, ends_of, AreKnown, HasRoom, BeginsWith}
use Rattle.gj_compact.proofs.NoteLemmas.{total-nil, sum-nil}
use Rattle.gj_compact.proofs.TurnLemmas.{ends_none, ends-append, ends_push_yes, ends_push_no}
use Rattle.gj_names.specs.Named.{Named, IsNamed}
use Rattle.gj_directory.specs.Sides.{IsSide, CanNote, AreNamed}
use Rattle.gj_directory.proofs.PartLemmas.{length-ends}

named_more : (ids ids' : List ℕ) (side : Side) (edges : List Edge) → length ids ≤ length ids' → AreNamed ids side edges → AreNamed ids' side edges
named_more ids ids' side edges grows named =
    All-weaker (λ (edge : Edge). near side edge < length ids) (λ (edge : Edge). near side edge < length ids') (λ (edge : Edge) (h : near side edge < length ids). omega arith) edges named

pub named_both : (ids : List ℕ) (side : Side) (xs ys : List Edge) → AreNamed ids side xs → AreNamed ids side ys → AreNamed ids side (xs ++ ys)
named_both ids side xs ys a b = All-append (λ (edge : Edge). near side edge < length ids) xs ys a b

named_rest : (ids : List ℕ) (side : Side) (xs ys : List Edge) → AreNamed ids side (xs ++ ys) → AreNamed ids side ys
named_rest ids side xs ys named =
    All-same (λ (edge : Edge). near side edge < length ids) ys (drop (length xs) (xs ++ ys)) (sym (drop_at xs ys (length xs) refl))
    (All-drop (λ (edge : Edge). near side edge < length ids) (length xs) (xs ++ ys) named)

pub named_at : (ids : List ℕ) (side : Side) (edges : List Edge) (i : ℕ) (d : Edge) → i < length edges → AreNamed ids side edges → near side (get_or edges i d) < length ids
named_at ids side edges i d h named = All-get_or (λ (edge : Edge). near side edge < length ids) edges i d h named

pub named_all : (ids : List ℕ) (side : Side) (n : ℕ) (edges : List Edge) → AreNamed ids side (take n edges) → AreNamed ids side (drop n edges) → AreNamed ids side edges
named_all ids side n edges first rest = subst (λ (l : List Edge). AreNamed ids side l) (take-append-drop n edges) (named_both ids side (take n edges) (drop n edges) first rest)

-- one more may be noted
pub can_note : (names : Named) (lane : Laned) (side : Side) (full fresh : List Edge) → IsSide names lane side full fresh → length names.ids < names.room → length fresh < 8388608 → CanNote names lane
can_note names lane side full fresh so spare few = record { wide = so.wide; spare = spare; few = omega (arith, so.total_fresh, few) }

-- an interaction that comes
pub side_noted : (names names' : Named) (lane lane' : Laned) (side : Side) (full fresh : List Edge) (x : Edge) (id u : ℕ) → IsSide names lane side full fresh
    → names'.ids ≡ with_id names.ids id → near side x ≡ u → u < length names'.ids → names'.room ≡ names.room → IsNamed names' → lane' ≡ noted lane u
    → IsSide names' lane' side full (fresh ++ x ∷ [])
side_noted names names' lane lane' side full fresh x id u so ids_are is below room lawful new =
    let grows : length names.ids ≤ length names'.ids = omega (arith, ap length ids_are, (length-with_id names.ids id).0) in
    let runs' = ap (λ (l : Laned). l.runs) new in
    let notes' = ap (λ (l : Laned). l.fresh) new in
    let in_notes : u < length lane.fresh = omega (arith, below, lawful.within, room, so.wide.fresh) in
    record {
      wide = record {
        runs = ap length runs' ∙ (so.wide.runs ∙ sym room);
        fresh = ap length notes' ∙ (length-set lane.fresh u (get_or lane.fresh u 0 + 1) ∙ (so.wide.fresh ∙ sym room));
      };
      within = lawful.within;
      distinct = lawful.distinct;
      known_full = named_more names.ids names'.ids side full grows so.known_full;
      known_fresh = All-push (λ (edge : Edge). near side edge < length names'.ids) fresh x (named_more names.ids names'.ids side fresh grows so.known_fresh) (omega (arith, below, is));
      runs = λ v h. ap (λ (l : List (List End)). run_of l v) runs' ∙ so.runs v (omega (arith, h, room));
      notes = λ v h.
          let was = so.notes v (omega (arith, h, room)) in
          ap (λ (l : List ℕ). get_or l v 0) notes' ∙ elim (cases_eq v u) [
            | inl e ↦
                let at = ap (λ (n : ℕ). get_or (set lane.fresh u (get_or lane.fresh u 0 + 1)) n 0) e ∙ get_or-set_same lane.fresh u (get_or lane.fresh u 0 + 1) 0 in_notes in
                let more = ap length (ends_push_yes fresh x side v (is ∙ sym e)) in
                omega (arith, at, was, more, length_push (ends_of fresh side v) (across side x), ap (λ (n : ℕ). get_or lane.fresh n 0) e)
            | inr ne ↦
                let at = get_or-set_other lane.fresh u v (get_or lane.fresh u 0 + 1) 0 ne in
                let more = ap length (ends_push_no fresh x side v (λ (q : near side x ≡ v). ne (sym q ∙ is))) in
                omega (arith, at, was, more)
          ];
      total_full = ap total_of runs' ∙ so.total_full;
      total_fresh = omega (arith, so.total_fresh, ap (sum_by (λ (n : ℕ). n)) notes', sum_by-set (λ (n : ℕ). n) lane.fresh u (get_or lane.fresh u 0 + 1) 0 in_notes, length_push fresh x);
    }

-- the same, where both parts are read anew
pub side_noted_at : (names names' : Named) (lane lane' : Laned) (side : Side) (full full' fresh fresh' : List Edge) (x : Edge) (id u : ℕ) → IsSide names lane side full fresh
    → names'.ids ≡ with_id names.ids id → near side x ≡ u → u < length names'.ids → names'.room ≡ names.room → IsNamed names' → lane' ≡ noted lane u
    → full' ≡ full → fresh' ≡ fresh ++ x ∷ [] → IsSide names' lane' side full' fresh'
side_noted_at names names' lane lane' side full full' fresh fresh' x id u so ids_are is below room lawful new full_is fresh_is =
    subst (λ (l : List Edge). IsSide names' lane' side l fresh') (sym full_is)
    (subst (λ (l : List Edge). IsSide names' lane' side full l) (sym fresh_is)
    (side_noted names names' lane lane' side full fresh x id u so ids_are is below room lawful new))

zero_notes : (xs : List ℕ) → sum_by (λ (n : ℕ). n) (map {B = ℕ} (λ (n : ℕ). 0) xs) ≡ 0
zero_notes [] = refl
zero_notes (x ∷ xs) = omega (arith, zero_notes xs, sum_by-cons (λ (n : ℕ). n) 0 (map {B = ℕ} (λ (n : ℕ). 0) xs))

-- what the opening wants, and what the filling may rest on
pub side_wanted : (names : Named) (lane : Laned) (side : Side) (full fresh : List Edge) → IsSide names lane side full fresh → wanted lane ≡ length full + length fresh
side_wanted names lane side full fresh so = omega (arith, so.total_full, so.total_fresh)

pub known_part : (names : Named) (lane lane' : Laned) (side : Side) (full fresh part rest : List Edge) → IsSide names lane side full fresh → fresh ≡ part ++ rest
    → length lane'.runs ≡ length lane.runs → AreKnown lane' side part
known_part names lane lane' side full fresh part rest so split long = λ i d h.
    let inside : i < length fresh = omega (arith, h, ap length split, length-append part rest) in
    let same : get_or fresh i d ≡ get_or part i d = ap (λ (l : List Edge). get_or l i d) split ∙ get_or_append_left part rest d i h in
    omega (arith, named_at names.ids side fresh i d inside so.known_fresh, so.within, so.wide.runs, long, ap (near side) same)

pub known_rest : (names : Named) (lane lane' : Laned) (side : Side) (full fresh part rest : List Edge) → IsSide names lane side full fresh → fresh ≡ part ++ rest
    → length lane'.runs ≡ length lane.runs → AreKnown lane' side rest
known_rest names lane lane' side full fresh part rest so split long = λ i d h.
    let named : AreNamed names.ids side rest = named_rest names.ids side part rest (subst (λ (l : List Edge). AreNamed names.ids side l) split so.known_fresh) in
    omega (arith, named_at names.ids side rest i d h named, so.within, so.wide.runs, long)

pub room_part : (names : Named) (lane lane' : Laned) (side : Side) (full fresh part rest : List Edge) → IsSide names lane side full fresh → fresh ≡ part ++ rest
    → lane' ≡ opened lane → HasRoom lane' side part
room_part names lane lane' side full fresh part rest so split new = λ v h.
    let h' : v < names.room = omega (arith, h, ap (λ (l : Laned). length l.runs) new, so.wide.runs) in
    omega (arith, so.notes v h', ap (λ (l : Laned). get_or l.spare v 0) new, ap (λ (l : List Edge). length (ends_of l side v)) split, length-ends part rest side v)

-- nothing is noted once a lane is open
pub none_noted : (lane ready filled : Laned) → ready ≡ opened lane → filled.fresh ≡ ready.fresh → (sum_of filled.fresh ≡ 0) × (length filled.fresh ≡ length lane.fresh)
none_noted lane ready filled new same =
    let none : filled.fresh ≡ map {B = ℕ} (λ (n : ℕ). 0) lane.fresh = same ∙ ap (λ (l : Laned). l.fresh) new in
    (ap (sum_by (λ (n : ℕ). n)) none ∙ zero_notes lane.fresh, ap length none ∙ length-map lane.fresh (λ (n : ℕ). let z : ℕ = 0 in z))

-- some of the others laid out, and what is left noted anew
pub side_settled : (names : Named) (lane ready filled lane' : Laned) (side : Side) (full fresh part rest : List Edge) → IsSide names lane side full fresh → fresh ≡ part ++ rest → ready ≡ opened lane
    → ((v : ℕ) → v < length ready.runs → run_of filled.runs v ≡ run_of ready.runs v ++ ends_of part side v) → length filled.runs ≡ length ready.runs → filled.fresh ≡ ready.fresh
    → total_of filled.runs ≡ total_of ready.runs + length part
    → ((v : ℕ) → v < length filled.runs → get_or lane'.fresh v 0 ≡ get_or filled.fresh v 0 + length (ends_of rest side v)) → sum_of lane'.fresh ≡ sum_of filled.fresh + length rest
    → length lane'.fresh ≡ length filled.fresh → lane'.runs ≡ filled.runs → IsSide names lane' side (full ++ part) rest
side_settled names lane ready filled lane' side full fresh part rest so split new runs long same total notes sum wide kept =
    let opens = ap (λ (l : Laned). l.runs) new in
    let none : filled.fresh ≡ map {B = ℕ} (λ (n : ℕ). 0) lane.fresh = same ∙ ap (λ (l : Laned). l.fresh) new in
    let zeros = none_noted lane ready filled new same in
    let known : AreNamed names.ids side (part ++ rest) = subst (λ (l : List Edge). AreNamed names.ids side l) split so.known_fresh in
    let first : AreNamed names.ids side part =
    All-same (λ (edge : Edge). near side edge < length names.ids) part (take (length part) (part ++ rest)) (sym (take_at part rest (length part) refl))
    (All-take (λ (edge : Edge). near side edge < length names.ids) (length part) (part ++ rest) known) in
    record {
      wide = record {
        runs = ap length kept ∙ (long ∙ (ap length opens ∙ so.wide.runs));
        fresh = wide ∙ (zeros.1 ∙ so.wide.fresh);
      };
      within = so.within;
      distinct = so.distinct;
      known_full = named_both names.ids side full part so.known_full first;
      known_fresh = named_rest names.ids side part rest known;
      runs = λ v h.
          let h' : v < length ready.runs = omega (arith, h, ap length opens, so.wide.runs) in
          ap (λ (l : List (List End)). run_of l v) kept ∙ (runs v h' ∙ (ap (λ (l : List (List End)). run_of l v ++ ends_of part side v) opens
          ∙ (ap (λ (l : List End). l ++ ends_of part side v) (so.runs v h) ∙ sym (ends-append full part side v))));
      notes = λ v h.
          let h' : v < length filled.runs = omega (arith, h, long, ap length opens, so.wide.runs) in
          let lt : v < length lane.fresh = omega (arith, h, so.wide.fresh) in
          let nothing : get_or filled.fresh v 0 ≡ 0 = ap (λ (l : List ℕ). get_or l v 0) none ∙ get_or-map (λ (n : ℕ). let z : ℕ = 0 in z) lane.fresh v 0 0 lt in
          omega (arith, notes v h', nothing);
      total_full = omega (arith, ap total_of kept, total, ap total_of opens, so.total_full, length-append full part);
      total_fresh = omega (arith, sum, zeros.0);
    }

-- the oldest taken away
pub side_begins : (names : Named) (lane : Laned) (side : Side) (gone rest full fresh : List Edge) → IsSide names lane side full fresh → full ≡ gone ++ rest → BeginsWith lane side gone
side_begins names lane side gone rest full fresh so split = λ v h.
    let all : run_of lane.runs v ≡ ends_of gone side v ++ ends_of rest side v =
    so.runs v (omega (arith, h, so.wide.runs)) ∙ (ap (λ (l : List Edge). ends_of l side v) split ∙ ends-append gone rest side v) in
    ap (take (length (ends_of gone side v))) all ∙ take_at (ends_of gone side v) (ends_of rest side v) (length (ends_of gone side v)) refl

pub side_gone : (names : Named) (lane : Laned) (side : Side) (gone rest full fresh : List Edge) → IsSide names lane side full fresh → full ≡ gone ++ rest → AreKnown lane side gone
side_gone names lane side gone rest full fresh so split = λ i d h.
    let lt : i < length full = omega (arith, h, ap length split, length-append gone rest) in
    let e : get_or full i d ≡ get_or gone i d = ap (λ (l : List Edge). get_or l i d) split ∙ get_or_append_left gone rest d i h in
    omega (arith, named_at names.ids side full i d lt so.known_full, so.within, so.wide.runs, ap (near side) e)

pub side_shed : (names : Named) (lane lane' : Laned) (side : Side) (gone rest full fresh : List Edge) → IsSide names lane side full fresh → full ≡ gone ++ rest
    → ((v : ℕ) → v < length lane.runs → run_of lane'.runs v ≡ drop (length (ends_of gone side v)) (run_of lane.runs v)) → length lane'.runs ≡ length lane.runs
    → lane'.fresh ≡ lane.fresh → total_of lane'.runs + length gone ≡ total_of lane.runs → IsSide names lane' side rest fresh
side_shed names lane lane' side gone rest full fresh so split runs long notes total = record {
  wide = record { runs = long ∙ so.wide.runs; fresh = ap length notes ∙ so.wide.fresh };
  within = so.within;
  distinct = so.distinct;
  known_full = named_rest names.ids side gone rest (subst (λ (l : List Edge). AreNamed names.ids side l) split so.known_full);
  known_fresh = so.known_fresh;
  runs = λ v h.
      let h' : v < length lane.runs = omega (arith, h, so.wide.runs) in
      let all : run_of lane.runs v ≡ ends_of gone side v ++ ends_of rest side v = so.runs v h ∙ (ap (λ (l : List Edge). ends_of l side v) split ∙ ends-append gone rest side v) in
      runs v h' ∙ (ap (drop (length (ends_of gone side v))) all ∙ drop_at (ends_of gone side v) (ends_of rest side v) (length (ends_of gone side v)) refl);
  notes = λ v h. ap (λ (l : List ℕ). get_or l v 0) notes ∙ so.notes v h;
  total_full = omega (arith, total, so.total_full, ap length split, length-append gone rest);
  total_fresh = ap (sum_by (λ (n : ℕ). n)) notes ∙ so.total_fresh;
}

-- a side without interactions
pub side_empty : (names : Named) (lane : Laned) (side : Side) (room : ℕ) → names.ids ≡ [] → names.room ≡ room → lane.runs ≡ replicate room [] → lane.fresh ≡ replicate room 0 → IsSide names lane side [] []
side_empty names lane side room none room_is runs notes = record {
  wide = record {
    runs = ap length runs ∙ (length-replicate room [] ∙ sym room_is);
    fresh = ap length notes ∙ (length-replicate room 0 ∙ sym room_is);
  };
  within = omega (arith, ap length none);
  distinct = rw none (λ i j d lt below. absurd (omega arith));
  known_full = All-nil (λ (edge : Edge). near side edge < length names.ids);
  known_fresh = All-nil (λ (edge : Edge). near side edge < length names.ids);
  runs = λ v h. ap (λ (l : List (List End)). run_of l v) runs ∙ (get_or-replicate room v [] [] (omega (arith, h, room_is)) ∙ sym (ends_none side v));
  notes = λ v h. ap (λ (l : List ℕ). get_or l v 0) notes ∙ (get_or-replicate room v 0 0 (omega (arith, h, room_is)) ∙ sym (ap length (ends_none side v)));
  total_full = ap total_of runs ∙ total-nil room;
  total_fresh = ap sum_of notes ∙ sum-nil room;
}

-- the same side, where both parts are read anew
pub side_moved : (names : Named) (lane : Laned) (side : Side) (full full' fresh fresh' : List Edge) → full' ≡ full → fresh' ≡ fresh → IsSide names lane side full fresh → IsSide names lane side full' fresh'
side_moved names lane side full full' fresh fresh' full_is fresh_is so =
    subst (λ (l : List Edge). IsSide names lane side l fresh') (sym full_is) (subst (λ (l : List Edge). IsSide names lane side full l) (sym fresh_is) so)
