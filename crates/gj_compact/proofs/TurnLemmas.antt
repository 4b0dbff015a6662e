-- Interaction by interaction.
use Rattle.std.proofs.Common.{◌≡◌, ◌≢◌, ℕ, ◌+◌, ◌-◌, ◌<◌, ◌∙◌, eqb, true, false, List, [], ◌∷◌, ◌++◌, length, map, filter, take, drop, set, get_or, refl, arith, sym, ap, inl, inr, append_assoc}
use Rattle.std.proofs.lemmas.Bool.{cases_eq, cases_lt, eq-eqb, ne_eqb}
use Rattle.std.proofs.lemmas.List.{append-nil, length-take, length-drop, drop-take, drop-drop, drop_more, take_more, get_or-set_same, get_or-set_other, length_push, length-set, get_or_past, map-append}
use Rattle.std.proofs.lemmas.List.Sums.{sum_by-set}
use Rattle.std.proofs.lemmas.List.Elements.{filter-append}
use Rattle.gj_base.specs.declared.side.Side.{Side}
use Rattle.gj_compact.specs.declared.edge.Edge.{Edge}
use Rattle.gj_compact.specs.declared.edge.End.{End}
use Rattle.gj_compact.specs.Lanes.{Laned, run_of, total_of, pushed, popped}
use Rattle.gj_compact.specs.Turns.{near, across, is_at, ends_of, HasRoom, BeginsWith}

pub ends_none : (side : Side) (v : ℕ) → ends_of [] side v ≡ []
unfolding ends_of
ends_none side v = refl

pub ends_yes : (x : Edge) (xs : List Edge) (side : Side) (v : ℕ) → near side x ≡ v → ends_of (x ∷ xs) side v ≡ across side x ∷ ends_of xs side v
unfolding ends_of
ends_yes x xs side v e = let t : eqb (near side x) v ≡ true = eq-eqb (near side x) v e in rw t refl

pub ends_no : (x : Edge) (xs : List Edge) (side : Side) (v : ℕ) → near side x ≢ v → ends_of (x ∷ xs) side v ≡ ends_of xs side v
unfolding ends_of
ends_no x xs side v e = let t : eqb (near side x) v ≡ false = ne_eqb (near side x) v e in rw t refl

pub ends-append : (xs ys : List Edge) (side : Side) (v : ℕ) → ends_of (xs ++ ys) side v ≡ ends_of xs side v ++ ends_of ys side v
unfolding ends_of
ends-append xs ys side v = ap (map (across side)) (filter-append (is_at side v) xs ys) ∙ map-append (across side) (filter (is_at side v) xs) (filter (is_at side v) ys)

pub ends_push_yes : (xs : List Edge) (x : Edge) (side : Side) (v : ℕ) → near side x ≡ v → ends_of (xs ++ x ∷ []) side v ≡ ends_of xs side v ++ across side x ∷ []
ends_push_yes xs x side v e = ends-append xs (x ∷ []) side v ∙ ap (λ (l : List End). ends_of xs side v ++ l) (ends_yes x [] side v e ∙ ap (λ (l : List End). across side x ∷ l) (ends_none side v))

pub ends_push_no : (xs : List Edge) (x : Edge) (side : Side) (v : ℕ) → near side x ≢ v → ends_of (xs ++ x ∷ []) side v ≡ ends_of xs side v
ends_push_no xs x side v e = ends-append xs (x ∷ []) side v ∙ (ap (λ (l : List End). ends_of xs side v ++ l) (ends_no x [] side v e ∙ ends_none side v) ∙ append-nil (ends_of xs side v))

-- after the first edges of a segment
pub record FilledTo (old lane : Laned) (side : Side) (edges : List Edge) (i : ℕ) : Type 0 where
  pub runs : (v : ℕ) → v < length old.runs → run_of lane.runs v ≡ run_of old.runs v ++ ends_of (take i edges) side v
  pub long : length lane.runs ≡ length old.runs
  pub fresh : lane.fresh ≡ old.fresh
  pub size : lane.room ≡ old.room
  pub total : total_of lane.runs ≡ total_of old.runs + i
  pub room : HasRoom lane side (drop i edges)
  pub spare : (v : ℕ) → v < length old.runs → get_or lane.spare v 0 + length (ends_of (take i edges) side v) ≡ get_or old.spare v 0

pub filled_none : (old : Laned) (side : Side) (edges : List Edge) → HasRoom old side edges → FilledTo old old side edges 0
filled_none old side edges room = record {
  runs = λ v h. sym (ap (λ (l : List End). run_of old.runs v ++ l) (ends_none side v) ∙ append-nil (run_of old.runs v));
  long = refl;
  fresh = refl;
  size = refl;
  total = omega arith;
  room = room;
  spare = λ v h. omega (arith, ap length (ends_none side v));
}

-- the next one has room
pub filled_room : (old lane : Laned) (side : Side) (edges : List Edge) (i : ℕ) (x : Edge) → FilledTo old lane side edges i → i < length edges → x ≡ get_or edges i x
    → near side x < length lane.runs → 0 < get_or lane.spare (near side x) 0
filled_room old lane side edges i x so below is within =
    let front : drop i edges ≡ x ∷ drop (i + 1) edges = drop_more edges i x below ∙ ap (λ (y : Edge). y ∷ drop (i + 1) edges) (sym is) in
    let e = ap (λ (l : List Edge). length (ends_of l side (near side x))) front in
    let f = ap length (ends_yes x (drop (i + 1) edges) side (near side x) refl) in
    omega (arith, so.room (near side x) within, e, f)

pub filled_more : (old lane lane' : Laned) (side : Side) (edges : List Edge) (i : ℕ) (x : Edge) → FilledTo old lane side edges i → i < length edges → x ≡ get_or edges i x
    → near side x < length lane.runs → lane' ≡ pushed lane (near side x) (across side x) → FilledTo old lane' side edges (i + 1)
filled_more old lane lane' side edges i x so below is within new =
    let u = near side x in
    let front : drop i edges ≡ x ∷ drop (i + 1) edges = drop_more edges i x below ∙ ap (λ (y : Edge). y ∷ drop (i + 1) edges) (sym is) in
    let last : take (i + 1) edges ≡ take i edges ++ x ∷ [] = take_more edges i x below ∙ ap (λ (y : Edge). take i edges ++ y ∷ []) (sym is) in
    let some = filled_room old lane side edges i x so below is within in
    let in_spare : u < length lane.spare = elim (cases_lt u (length lane.spare)) [
      | inl lt ↦ lt
      | inr ge ↦ let z = get_or_past lane.spare u 0 ge in absurd (omega (arith, z, some))
    ] in
    let runs' = ap (λ (l : Laned). l.runs) new in
    let spare' = ap (λ (l : Laned). l.spare) new in
    record {
      runs = λ v h. ap (λ (l : List (List End)). run_of l v) runs' ∙ elim (cases_eq v u) [
        | inl e ↦
            let at : get_or (set lane.runs u (run_of lane.runs u ++ across side x ∷ [])) v [] ≡ run_of lane.runs u ++ across side x ∷ [] =
            ap (λ (n : ℕ). get_or (set lane.runs u (run_of lane.runs u ++ across side x ∷ [])) n []) e ∙ get_or-set_same lane.runs u _ [] within in
            let old_u : run_of lane.runs u ≡ run_of old.runs u ++ ends_of (take i edges) side u = so.runs u (omega (arith, within, so.long)) in
            at ∙ (ap (λ (l : List End). l ++ across side x ∷ []) old_u ∙ (append_assoc (run_of old.runs u) (ends_of (take i edges) side u) (across side x ∷ [])
            ∙ (ap (λ (l : List End). run_of old.runs u ++ l) (sym (ap (λ (l : List Edge). ends_of l side u) last ∙ ends_push_yes (take i edges) x side u refl))
            ∙ ap (λ (n : ℕ). run_of old.runs n ++ ends_of (take (i + 1) edges) side n) (sym e))))
        | inr ne ↦
            get_or-set_other lane.runs u v _ [] ne ∙ (so.runs v h
            ∙ ap (λ (l : List End). run_of old.runs v ++ l) (sym (ap (λ (l : List Edge). ends_of l side v) last ∙ ends_push_no (take i edges) x side v (λ (q : near side x ≡ v). ne (sym q)))))
      ];
      long = ap length runs' ∙ (length-set lane.runs u _ ∙ so.long);
      fresh = ap (λ (l : Laned). l.fresh) new ∙ so.fresh;
      size = ap (λ (l : Laned). l.room) new ∙ so.size;
      total = omega (arith, so.total, ap total_of runs', sum_by-set (λ (run : List End). length run) lane.runs u (run_of lane.runs u ++ across side x ∷ []) [] within, length_push (run_of lane.runs u) (across side x));
      room = λ v h.
          let was = so.room v (omega (arith, h, ap length runs', length-set lane.runs u (run_of lane.runs u ++ across side x ∷ []))) in
          let e = ap (λ (l : Laned). get_or l.spare v 0) new in
          let f = ap (λ (l : List Edge). length (ends_of l side v)) front in
          elim (cases_eq v u) [
            | inl q ↦
                let g = ap length (ends_yes x (drop (i + 1) edges) side v (sym q)) in
                let s = ap (λ (n : ℕ). get_or (set lane.spare u (get_or lane.spare u 0 - 1)) n 0) q ∙ get_or-set_same lane.spare u (get_or lane.spare u 0 - 1) 0 in_spare in
                let t = ap (λ (n : ℕ). get_or lane.spare n 0) q in
                omega (arith, was, e, f, g, s, t)
            | inr ne ↦
                let g = ap length (ends_no x (drop (i + 1) edges) side v (λ (q : near side x ≡ v). ne (sym q))) in
                let s = get_or-set_other lane.spare u v (get_or lane.spare u 0 - 1) 0 ne in
                omega (arith, was, e, f, g, s)
          ];
      spare = λ v h.
          let was = so.spare v h in
          let e = ap (λ (l : Laned). get_or l.spare v 0) new in
          let f = ap (λ (l : List Edge). length (ends_of l side v)) last in
          elim (cases_eq v u) [
            | inl q ↦
                let g = ap length (ends_push_yes (take i edges) x side v (sym q)) ∙ length_push (ends_of (take i edges) side v) (across side x) in
                let s = ap (λ (n : ℕ). get_or (set lane.spare u (get_or lane.spare u 0 - 1)) n 0) q ∙ get_or-set_same lane.spare u (get_or lane.spare u 0 - 1) 0 in_spare in
                let t = ap (λ (n : ℕ). get_or lane.spare n 0) q in
                omega (arith, was, e, f, g, s, t, some)
            | inr ne ↦
                let g = ap length (ends_push_no (take i edges) x side v (λ (q : near side x ≡ v). ne (sym q))) in
                let s = get_or-set_other lane.spare u v (get_or lane.spare u 0 - 1) 0 ne in
                omega (arith, was, e, f, g, s)
          ];
    }

-- after the first edges of the oldest segment
pub record ShedTo (old lane : Laned) (side : Side) (edges : List Edge) (i : ℕ) : Type 0 where
  pub runs : (v : ℕ) → v < length old.runs → run_of lane.runs v ≡ drop (length (ends_of (take i edges) side v)) (run_of old.runs v)
  pub long : length lane.runs ≡ length old.runs
  pub fresh : lane.fresh ≡ old.fresh
  pub size : lane.room ≡ old.room
  pub total : total_of lane.runs + i ≡ total_of old.runs
  pub begins : BeginsWith lane side (drop i edges)

pub shed_none : (old : Laned) (side : Side) (edges : List Edge) → BeginsWith old side edges → ShedTo old old side edges 0
shed_none old side edges begins = record {
  runs = λ v h. sym (ap (λ (l : List End). drop (length l) (run_of old.runs v)) (ends_none side v));
  long = refl;
  fresh = refl;
  size = refl;
  total = omega arith;
  begins = begins;
}

-- the next one begins its vertex
pub shed_first : (old lane : Laned) (side : Side) (edges : List Edge) (i : ℕ) (x : Edge) → ShedTo old lane side edges i → i < length edges → x ≡ get_or edges i x
    → near side x < length lane.runs
    → take (1 + length (ends_of (drop (i + 1) edges) side (near side x))) (run_of lane.runs (near side x)) ≡ across side x ∷ ends_of (drop (i + 1) edges) side (near side x)
shed_first old lane side edges i x so below is within =
    let u = near side x in
    let front : drop i edges ≡ x ∷ drop (i + 1) edges = drop_more edges i x below ∙ ap (λ (y : Edge). y ∷ drop (i + 1) edges) (sym is) in
    let e : ends_of (drop i edges) side u ≡ across side x ∷ ends_of (drop (i + 1) edges) side u = ap (λ (l : List Edge). ends_of l side u) front ∙ ends_yes x (drop (i + 1) edges) side u refl in
    let n : 1 + length (ends_of (drop (i + 1) edges) side u) ≡ length (ends_of (drop i edges) side u) = omega (arith, ap length e) in
    ap (λ (k : ℕ). take k (run_of lane.runs u)) n ∙ (so.begins u within ∙ e)

pub shed_any : (old lane : Laned) (side : Side) (edges : List Edge) (i : ℕ) (x : Edge) → ShedTo old lane side edges i → i < length edges → x ≡ get_or edges i x
    → near side x < length lane.runs → 0 < length (run_of lane.runs (near side x))
shed_any old lane side edges i x so below is within =
    let first = shed_first old lane side edges i x so below is within in
    omega (arith, ap length first, length-take (1 + length (ends_of (drop (i + 1) edges) side (near side x))) (run_of lane.runs (near side x)))

pub shed_more : (old lane lane' : Laned) (side : Side) (edges : List Edge) (i : ℕ) (x : Edge) → ShedTo old lane side edges i → i < length edges → x ≡ get_or edges i x
    → near side x < length lane.runs → lane' ≡ popped lane (near side x) → ShedTo old lane' side edges (i + 1)
shed_more old lane lane' side edges i x so below is within new =
    let u = near side x in
    let first = shed_first old lane side edges i x so below is within in
    let front : drop i edges ≡ x ∷ drop (i + 1) edges = drop_more edges i x below ∙ ap (λ (y : Edge). y ∷ drop (i + 1) edges) (sym is) in
    let last : take (i + 1) edges ≡ take i edges ++ x ∷ [] = take_more edges i x below ∙ ap (λ (y : Edge). take i edges ++ y ∷ []) (sym is) in
    let runs' = ap (λ (l : Laned). l.runs) new in
    let at : (v : ℕ) → v ≡ u → run_of lane'.runs v ≡ drop 1 (run_of lane.runs u) =
    λ v e. ap (λ (l : List (List End)). run_of l v) runs' ∙ (ap (λ (n : ℕ). get_or (set lane.runs u (drop 1 (run_of lane.runs u))) n []) e ∙ get_or-set_same lane.runs u _ [] within)
    in
    let off : (v : ℕ) → v ≢ u → run_of lane'.runs v ≡ run_of lane.runs v =
    λ v ne. ap (λ (l : List (List End)). run_of l v) runs' ∙ get_or-set_other lane.runs u v _ [] ne
    in
    record {
      runs = λ v h. elim (cases_eq v u) [
        | inl e ↦
            let old_u = so.runs u (omega (arith, within, so.long)) in
            let more : length (ends_of (take (i + 1) edges) side u) ≡ length (ends_of (take i edges) side u) + 1 =
            ap length (ap (λ (l : List Edge). ends_of l side u) last ∙ ends_push_yes (take i edges) x side u refl) ∙ length_push (ends_of (take i edges) side u) (across side x) in
            at v e ∙ (ap (drop 1) old_u ∙ (drop-drop 1 (length (ends_of (take i edges) side u)) (run_of old.runs u)
            ∙ (ap (λ (n : ℕ). drop n (run_of old.runs u)) (sym more) ∙ ap (λ (n : ℕ). drop (length (ends_of (take (i + 1) edges) side n)) (run_of old.runs n)) (sym e))))
        | inr ne ↦
            let same : ends_of (take (i + 1) edges) side v ≡ ends_of (take i edges) side v =
            ap (λ (l : List Edge). ends_of l side v) last ∙ ends_push_no (take i edges) x side v (λ (q : near side x ≡ v). ne (sym q)) in
            off v ne ∙ (so.runs v h ∙ ap (λ (l : List End). drop (length l) (run_of old.runs v)) (sym same))
      ];
      long = ap length runs' ∙ (length-set lane.runs u _ ∙ so.long);
      fresh = ap (λ (l : Laned). l.fresh) new ∙ so.fresh;
      size = ap (λ (l : Laned). l.room) new ∙ so.size;
      total =
          let any = shed_any old lane side edges i x so below is within in
          omega (arith, so.total, ap total_of runs', sum_by-set (λ (run : List End). length run) lane.runs u (drop 1 (run_of lane.runs u)) [] within, length-drop 1 (run_of lane.runs u), any);
      begins = λ v h.
          let h' : v < length lane.runs = omega (arith, h, ap length runs', length-set lane.runs u (drop 1 (run_of lane.runs u))) in
          elim (cases_eq v u) [
            | inl e ↦
                ap (take (length (ends_of (drop (i + 1) edges) side v))) (at v e)
                ∙ (ap (λ (n : ℕ). take (length (ends_of (drop (i + 1) edges) side n)) (drop 1 (run_of lane.runs u))) e
                ∙ (sym (drop-take 1 (length (ends_of (drop (i + 1) edges) side u)) (run_of lane.runs u)) ∙ (ap (drop 1) first ∙ ap (λ (n : ℕ). ends_of (drop (i + 1) edges) side n) (sym e))))
            | inr ne ↦
                let same : ends_of (drop i edges) side v ≡ ends_of (drop (i + 1) edges) side v =
                ap (λ (l : List Edge). ends_of l side v) front ∙ ends_no x (drop (i + 1) edges) side v (λ (q : near side x ≡ v). ne (sym q)) in
                ap (take (length (ends_of (drop (i + 1) edges) side v))) (off v ne)
                ∙ (ap (λ (l : List End). take (length l) (run_of lane.runs v)) (sym same) ∙ (so.begins v h' ∙ same))
          ];
    }
