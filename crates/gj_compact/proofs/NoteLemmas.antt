-- What is announced, interaction by interaction.
use Rattle.std.proofs.Common.{◌≡◌, ℕ, zero, suc, ◌+◌, ◌<◌, ◌≤◌, ◌∙◌, List, [], ◌∷◌, ◌++◌, length, take, get_or, set, replicate, refl, arith, sym, ap, inl, inr}
use Rattle.std.proofs.lemmas.Bool.{cases_eq}
use Rattle.std.proofs.lemmas.List.{take_more, get_or-set_same, get_or-set_other, length_push, length-set}
use Rattle.std.proofs.lemmas.List.Sums.{sum_by-set, sum_by-cons, get_or-le-sum_by}
use Rattle.gj_base.specs.declared.side.Side.{Side}
use Rattle.gj_compact.specs.declared.edge.Edge.{Edge}
use Rattle.gj_compact.specs.declared.edge.End.{End}
use Rattle.gj_compact.specs.Lanes.{Laned, noted, sum_of, total_of}
use Rattle.gj_compact.specs.Turns.{near, across, ends_of}
use Rattle.gj_compact.proofs.TurnLemmas.{ends_none, ends_push_yes, ends_push_no}

-- after the first interactions
pub record NotedTo (old lane : Laned) (side : Side) (edges : List Edge) (i : ℕ) : Type 0 where
  pub fresh : (v : ℕ) → v < length old.runs → get_or lane.fresh v 0 ≡ get_or old.fresh v 0 + length (ends_of (take i edges) side v)
  pub total : sum_of lane.fresh ≡ sum_of old.fresh + i
  pub wide : length lane.fresh ≡ length old.fresh
  pub runs : lane.runs ≡ old.runs
  pub spare : lane.spare ≡ old.spare
  pub size : lane.room ≡ old.room

pub noted_none : (old : Laned) (side : Side) (edges : List Edge) → NotedTo old old side edges 0
noted_none old side edges = record {
  fresh = λ v h. omega (arith, ap length (ends_none side v));
  total = omega arith;
  wide = refl;
  runs = refl;
  spare = refl;
  size = refl;
}

-- no vertex has more notes than all together
pub notes_few : (notes : List ℕ) (v : ℕ) → v < length notes → get_or notes v 0 ≤ sum_of notes
notes_few notes v h = get_or-le-sum_by (λ (n : ℕ). n) notes v 0 h

pub noted_more : (old lane lane' : Laned) (side : Side) (edges : List Edge) (i : ℕ) (x : Edge) → NotedTo old lane side edges i → i < length edges → x ≡ get_or edges i x
    → length old.fresh ≡ length old.runs → near side x < length lane.runs → lane' ≡ noted lane (near side x) → NotedTo old lane' side edges (i + 1)
noted_more old lane lane' side edges i x so below is wide within new =
    let u = near side x in
    let last : take (i + 1) edges ≡ take i edges ++ x ∷ [] = take_more edges i x below ∙ ap (λ (y : Edge). take i edges ++ y ∷ []) (sym is) in
    let in_fresh : u < length lane.fresh = omega (arith, within, so.wide, wide, ap length so.runs) in
    let fresh' : lane'.fresh ≡ set lane.fresh u (get_or lane.fresh u 0 + 1) = ap (λ (l : Laned). l.fresh) new in
    record {
      fresh = λ v h. ap (λ (l : List ℕ). get_or l v 0) fresh' ∙ elim (cases_eq v u) [
        | inl e ↦
            let at : get_or (set lane.fresh u (get_or lane.fresh u 0 + 1)) v 0 ≡ get_or lane.fresh u 0 + 1 =
            ap (λ (n : ℕ). get_or (set lane.fresh u (get_or lane.fresh u 0 + 1)) n 0) e ∙ get_or-set_same lane.fresh u _ 0 in_fresh in
            let more : length (ends_of (take (i + 1) edges) side u) ≡ length (ends_of (take i edges) side u) + 1 =
            ap length (ap (λ (l : List Edge). ends_of l side u) last ∙ ends_push_yes (take i edges) x side u refl) ∙ length_push (ends_of (take i edges) side u) (across side x) in
            let was = so.fresh v h in
            let here = ap (λ (n : ℕ). get_or lane.fresh n 0) e in
            let same = ap (λ (n : ℕ). length (ends_of (take i edges) side n)) e in
            let same' = ap (λ (n : ℕ). length (ends_of (take (i + 1) edges) side n)) e in
            omega (arith, at, more, was, here, same, same')
        | inr ne ↦
            let other = get_or-set_other lane.fresh u v (get_or lane.fresh u 0 + 1) 0 ne in
            let same : ends_of (take (i + 1) edges) side v ≡ ends_of (take i edges) side v =
            ap (λ (l : List Edge). ends_of l side v) last ∙ ends_push_no (take i edges) x side v (λ (q : near side x ≡ v). ne (sym q)) in
            omega (arith, other, so.fresh v h, ap length same)
      ];
      total = omega (arith, so.total, ap sum_of fresh', sum_by-set (λ (n : ℕ). n) lane.fresh u (get_or lane.fresh u 0 + 1) 0 in_fresh);
      wide = ap length fresh' ∙ (length-set lane.fresh u _ ∙ so.wide);
      runs = ap (λ (l : Laned). l.runs) new ∙ so.runs;
      spare = ap (λ (l : Laned). l.spare) new ∙ so.spare;
      size = ap (λ (l : Laned). l.room) new ∙ so.size;
    }

pub total-nil : (n : ℕ) → total_of (replicate n []) ≡ 0
total-nil zero = refl
total-nil (suc n) = omega (arith, sum_by-cons (λ (run : List End). length run) [] (replicate n []), total-nil n)

pub sum-nil : (n : ℕ) → sum_of (replicate n 0) ≡ 0
sum-nil zero = refl
sum-nil (suc n) = omega (arith, sum_by-cons (λ (k : ℕ). k) 0 (replicate n 0), sum-nil n)
