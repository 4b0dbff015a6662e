-- The ends of interactions that lie in two slices.
use Rattle.std.proofs.Common.{◌≡◌, ℕ, ◌+◌, ◌<◌, ◌≤◌, ◌∙◌, List, ◌++◌, length, take, drop, get_or, refl, arith, sym, ap, append_assoc}
use Rattle.std.proofs.lemmas.List.{length-append, get_or-append-add, take-take, take_at, drop_at, drop-take, drop-drop}
use Rattle.gj_base.specs.declared.side.Side.{Side}
use Rattle.gj_compact.specs.declared.edge.Edge.{Edge}
use Rattle.gj_compact.specs.declared.edge.End.{End}
use Rattle.gj_compact.specs.Lanes.{Laned, run_of}
use Rattle.gj_compact.specs.Turns.{near, ends_of, AreKnown, HasRoom, BeginsWith}
use Rattle.gj_compact.proofs.TurnLemmas.{ends-append}

pub length-ends : (xs ys : List Edge) (side : Side) (v : ℕ) → length (ends_of (xs ++ ys) side v) ≡ length (ends_of xs side v) + length (ends_of ys side v)
length-ends xs ys side v = ap length (ends-append xs ys side v) ∙ length-append (ends_of xs side v) (ends_of ys side v)

pub known_back : (lane lane' : Laned) (side : Side) (xs ys : List Edge) → AreKnown lane side (xs ++ ys) → length lane'.runs ≡ length lane.runs → AreKnown lane' side ys
known_back lane lane' side xs ys known long = λ i d h.
    let inside : length xs + i < length (xs ++ ys) = omega (arith, h, length-append xs ys) in
    omega (arith, known (length xs + i) d inside, ap (near side) (get_or-append-add xs ys i d), long)

pub room_front : (lane : Laned) (side : Side) (xs ys : List Edge) → HasRoom lane side (xs ++ ys) → HasRoom lane side xs
room_front lane side xs ys room = λ v h. omega (arith, room v h, length-ends xs ys side v)

pub room_back : (lane lane' : Laned) (side : Side) (xs ys : List Edge) → HasRoom lane side (xs ++ ys) → length lane'.runs ≡ length lane.runs
    → ((v : ℕ) → v < length lane.runs → get_or lane'.spare v 0 + length (ends_of xs side v) ≡ get_or lane.spare v 0) → HasRoom lane' side ys
room_back lane lane' side xs ys room long spare = λ v h.
    let h' : v < length lane.runs = omega (arith, h, long) in
    omega (arith, room v h', spare v h', length-ends xs ys side v)

pub runs_both : (lane lane' lane'' : Laned) (side : Side) (xs ys : List Edge) (v : ℕ) → run_of lane'.runs v ≡ run_of lane.runs v ++ ends_of xs side v
    → run_of lane''.runs v ≡ run_of lane'.runs v ++ ends_of ys side v → run_of lane''.runs v ≡ run_of lane.runs v ++ ends_of (xs ++ ys) side v
runs_both lane lane' lane'' side xs ys v first second =
    second ∙ (ap (λ (l : List End). l ++ ends_of ys side v) first ∙ (append_assoc (run_of lane.runs v) (ends_of xs side v) (ends_of ys side v)
    ∙ ap (λ (l : List End). run_of lane.runs v ++ l) (sym (ends-append xs ys side v))))

-- a run that begins with the ends of all begins with those of the first ones
pub begins_front : (lane : Laned) (side : Side) (xs ys : List Edge) → BeginsWith lane side (xs ++ ys) → BeginsWith lane side xs
begins_front lane side xs ys begins = λ v h.
    let n = length (ends_of xs side v) in
    let few : n ≤ length (ends_of (xs ++ ys) side v) = omega (arith, length-ends xs ys side v) in
    sym (take-take n (length (ends_of (xs ++ ys) side v)) (run_of lane.runs v) few)
    ∙ (ap (take n) (begins v h ∙ ends-append xs ys side v) ∙ take_at (ends_of xs side v) (ends_of ys side v) n refl)

pub begins_back : (lane lane' : Laned) (side : Side) (xs ys : List Edge) → BeginsWith lane side (xs ++ ys) → length lane'.runs ≡ length lane.runs
    → ((v : ℕ) → v < length lane.runs → run_of lane'.runs v ≡ drop (length (ends_of xs side v)) (run_of lane.runs v)) → BeginsWith lane' side ys
begins_back lane lane' side xs ys begins long runs = λ v h.
    let h' : v < length lane.runs = omega (arith, h, long) in
    let n = length (ends_of xs side v) in
    let m = length (ends_of ys side v) in
    let all : take (n + m) (run_of lane.runs v) ≡ ends_of xs side v ++ ends_of ys side v =
    ap (λ (k : ℕ). take k (run_of lane.runs v)) (sym (length-ends xs ys side v)) ∙ (begins v h' ∙ ends-append xs ys side v) in
    ap (take m) (runs v h') ∙ (sym (drop-take n m (run_of lane.runs v)) ∙ (ap (drop n) all ∙ drop_at (ends_of xs side v) (ends_of ys side v) n refl))

pub shed_both : (lane lane' lane'' : Laned) (side : Side) (xs ys : List Edge) (v : ℕ) → run_of lane'.runs v ≡ drop (length (ends_of xs side v)) (run_of lane.runs v)
    → run_of lane''.runs v ≡ drop (length (ends_of ys side v)) (run_of lane'.runs v) → run_of lane''.runs v ≡ drop (length (ends_of (xs ++ ys) side v)) (run_of lane.runs v)
shed_both lane lane' lane'' side xs ys v first second =
    second ∙ (ap (drop (length (ends_of ys side v))) first ∙ (drop-drop (length (ends_of ys side v)) (length (ends_of xs side v)) (run_of lane.runs v)
    ∙ ap (λ (k : ℕ). drop k (run_of lane.runs v)) (sym (length-ends xs ys side v))))
