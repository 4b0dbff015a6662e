-- A compact segment, as its readers see it.
use Rattle.std.proofs.Common.{◌≡◌, ℕ, Bool, true, false, None, ◌+◌, ◌<◌, ◌≤◌, ◌∙◌, eqb, List, [], ◌∷◌, length, map, filter, take, get_or, slice_get, option_map, Some, replicate, refl, arith, sym, ap, inl, inr, vec_capacity}
use Rattle.std.proofs.lemmas.Bool.{eq-eqb, ne_eqb, cases_eq}
use Rattle.std.proofs.lemmas.List.{length-map, length-take, get_or-map, get_or-replicate, get_or-take, take_more}
use Rattle.std.proofs.lemmas.List.Sums.{length-filter, count_by-le-length}
use Rattle.std.proofs.lemmas.Option.{slice_get-map}
use Rattle.gj_base.specs.declared.side.Side.{Side}
use Rattle.gj_base.specs.declared.side.Side.TheVariants.{User, Post}
use Rattle.gj_base.specs.declared.item.Item.{Item}
use Rattle.gj_base.specs.declared.kind.Kind.{Kind}
use Rattle.gj_base.specs.Ends.{ends, vertex_on}
use Rattle.gj_base.specs.Firsts.{place_of, with_id, HasNoRepeat}
use Rattle.gj_base.specs.Kinds.{all_kinds}
use Rattle.gj_base.specs.Numbered.{numbered, numbered_by, named_by, vertices_of, dated_ends, dated_across}
use Rattle.gj_base.proofs.FirstLemmas.{place_of-none, with_id-absent, length-firsts}
use Rattle.gj_base.proofs.MaskedLemmas.{length-dated}
use Rattle.gj_base.proofs.NumberedEnds.{numbered-below, named-numbered}
use Rattle.gj_compact.specs.declared.edge.Edge.{Edge}
use Rattle.gj_compact.specs.declared.edge.End.{End}
use Rattle.gj_compact.specs.declared.compact_segment.CompactSegment.TheInside.{Inside}
use Rattle.gj_compact.specs.Sums.{AreCounts, edge_kind}
use Rattle.gj_compact.specs.Compact.{IsCompact, IsPart, IsRoomy, HasEnds, shown_by, items_of, part_on}
use Rattle.gj_compact.specs.Lanes.{Laned, run_of, total_of, sum_of, wanted}
use Rattle.gj_compact.specs.Turns.{plain, near, across, is_at, ends_of}
use Rattle.gj_compact.proofs.TurnLemmas.{ends_none}
use Rattle.gj_compact.proofs.NoteLemmas.{total-nil}

-- an end with its moment, as a segment's readers see it
abbrev pub dated : End → ℕ × Kind × ℕ
dated end = (end.vertex, end.kind, end.at)

near-plain : (side : Side) (x : Edge) → near side x ≡ vertex_on side (plain x)
near-plain User x = refl
near-plain Post x = refl

across-plain : (side : Side) (x : Edge) → dated (across side x) ≡ dated_across side (plain x)
across-plain User x = refl
across-plain Post x = refl

-- the ends of a vertex are those of the interactions by numbers
pub ends-plain : (edges : List Edge) (side : Side) (v : ℕ) → map dated (ends_of edges side v) ≡ dated_ends (map plain edges) side v
unfolding ends_of dated_ends
ends-plain [] side v = refl
ends-plain (x ∷ edges) side v =
    let rest = ends-plain edges side v in
    let a = across-plain side x in
    elim (cases_eq (near side x) v) [
      | inl is ↦
          let t : eqb (near side x) v ≡ true = eq-eqb (near side x) v is in
          let u : eqb (vertex_on side (plain x)) v ≡ true = eq-eqb (vertex_on side (plain x)) v (sym (near-plain side x) ∙ is) in
          rw (t, u, a, rest) refl
      | inr ne ↦
          let t : eqb (near side x) v ≡ false = ne_eqb (near side x) v ne in
          let u : eqb (vertex_on side (plain x)) v ≡ false = ne_eqb (vertex_on side (plain x)) v (λ (e : vertex_on side (plain x) ≡ v). ne (near-plain side x ∙ e)) in
          rw (t, u, rest) refl
    ]

pub length-numbered : (items : List Item) → length (numbered items) ≡ length items
unfolding numbered
length-numbered items = length-map items (numbered_by (vertices_of items User) (vertices_of items Post))

pub few-vertices : (items : List Item) (side : Side) → length (vertices_of items side) ≤ length items
few-vertices items side = omega (arith, length-firsts (map (vertex_on side) items), length-map items (vertex_on side))

-- the next vertex of a numbering goes last
pub with_id-next : (ids : List ℕ) (v : ℕ) → HasNoRepeat ids → v < length ids → with_id (take v ids) (get_or ids v 0) ≡ take (v + 1) ids
with_id-next ids v distinct below =
    let absent : place_of (take v ids) (get_or ids v 0) ≡ None =
    place_of-none (take v ids) (get_or ids v 0)
    (λ p h (e : get_or (take v ids) p 0 ≡ get_or ids v 0).
    let before : p < v = omega (arith, h, length-take v ids) in
    distinct p v 0 before below (sym (get_or-take v ids p 0 before) ∙ e)) in
    with_id-absent (take v ids) (get_or ids v 0) absent ∙ sym (take_more ids v 0 below)

pub shown_length : (s : Inside) → length (shown_by s).items ≡ length s.edges.items
shown_length s = length-map (map plain s.edges.items) (named_by s.users.ids.ids s.posts.ids.ids) ∙ length-map s.edges.items plain

pub side_part : (s : Inside) (side : Side) → IsCompact s → IsPart (part_on side s.users s.posts) side (shown_by s).items s.edges.items s.room
side_part s User is = is.users
side_part s Post is = is.posts

-- each vertex has a run
pub side_room : (s : Inside) (side : Side) (v : ℕ) → IsCompact s → v < length (vertices_of (shown_by s).items side)
    → (v < s.room) × (v < length (part_on side s.users s.posts).lane.runs)
side_room s side v is below =
    let part = side_part s side is in
    let few = few-vertices (shown_by s).items side in
    let long = shown_length s in
    (omega (arith, below, few, long, is.few), omega (arith, below, few, long, is.few, part.roomy.long))

pub shown_run : (s : Inside) (side : Side) (v : ℕ) → IsCompact s → v < length (vertices_of (shown_by s).items side)
    → map dated (run_of (part_on side s.users s.posts).lane.runs v) ≡ dated_ends (numbered (shown_by s).items) side v
shown_run s side v is below =
    let part = side_part s side is in
    let room = (side_room s side v is below).0 in
    ap (map dated) (part.ends v room) ∙ (ends-plain s.edges.items side v ∙ ap (λ (l : List Item). dated_ends l side v) is.numbers)

pub shown_degree : (s : Inside) (side : Side) (v : ℕ) → IsCompact s → v < length (vertices_of (shown_by s).items side)
    → length (run_of (part_on side s.users s.posts).lane.runs v) ≡ length (ends (numbered (shown_by s).items) side v all_kinds)
shown_degree s side v is below =
    sym (length-map (run_of (part_on side s.users s.posts).lane.runs v) dated)
    ∙ (ap length (shown_run s side v is below) ∙ length-dated (numbered (shown_by s).items) side v)

filter_few : {A : Type 0} (p : A → Bool) (xs : List A) → length (filter p xs) ≤ length xs
filter_few p xs = omega (arith, length-filter p xs, count_by-le-length p xs)

ends_few : (edges : List Edge) (side : Side) (v : ℕ) → length (ends_of edges side v) ≤ length edges
unfolding ends_of
ends_few edges side v = omega (arith, length-map (filter (is_at side v) edges) (across side), filter_few (is_at side v) edges)

pub shown_few : (s : Inside) (side : Side) (v : ℕ) → IsCompact s → v < length (vertices_of (shown_by s).items side)
    → length (run_of (part_on side s.users s.posts).lane.runs v) ≤ 65536
shown_few s side v is below =
    let part = side_part s side is in
    let room = (side_room s side v is below).0 in
    omega (arith, ap length (part.ends v room), ends_few s.edges.items side v, is.few, is.fits)

pub shown_edge : (s : Inside) (side : Side) (v i : ℕ) (end : End) → IsCompact s → v < length (vertices_of (shown_by s).items side)
    → slice_get (run_of (part_on side s.users s.posts).lane.runs v) i ≡ Some end
    → slice_get (dated_ends (numbered (shown_by s).items) side v) i ≡ Some (dated end)
shown_edge s side v i end is below here =
    ap (λ (l : List (ℕ × Kind × ℕ)). slice_get l i) (sym (shown_run s side v is below))
    ∙ (slice_get-map dated (run_of (part_on side s.users s.posts).lane.runs v) i ∙ ap (option_map dated) here)

-- what stands for these interactions shows them
pub shown_is : (users posts : List ℕ) (edges : List Edge) (items : List Item) → map plain edges ≡ numbered items → users ≡ vertices_of items User → posts ≡ vertices_of items Post
    → items_of users posts edges ≡ items
shown_is users posts edges items numbers u p = rw (numbers, u, p) (named-numbered items)

pub compact_of : (s : Inside) (items : List Item) → 1 ≤ s.room → s.room ≤ 65536 → length items ≤ s.room → s.room ≤ vec_capacity s.edges
    → map plain s.edges.items ≡ numbered items → s.users.ids.ids ≡ vertices_of items User → s.posts.ids.ids ≡ vertices_of items Post
    → HasEnds s.users User s.edges.items s.room → HasEnds s.posts Post s.edges.items s.room → IsRoomy s.users s.room → IsRoomy s.posts s.room
    → AreCounts s.kinds (map edge_kind s.edges.items) → IsCompact s
compact_of s items any fits few held numbers u p user_ends post_ends users posts counted =
    let shown = shown_is s.users.ids.ids s.posts.ids.ids s.edges.items items numbers u p in
    record {
      any = any;
      fits = fits;
      few = omega (arith, few, ap length shown, shown_length s);
      held = held;
      numbers = numbers ∙ ap numbered (sym shown);
      counted = counted;
      users = record { roomy = users; named = u ∙ ap (λ (l : List Item). vertices_of l User) (sym shown); ends = user_ends };
      posts = record { roomy = posts; named = p ∙ ap (λ (l : List Item). vertices_of l Post) (sym shown); ends = post_ends };
    }

-- the vertices of interactions by numbers are below those of the side
pub known_by : (edges : List Edge) (items : List Item) (side : Side) (i : ℕ) (d : Edge) → map plain edges ≡ numbered items → i < length edges
    → near side (get_or edges i d) < length (vertices_of items side)
known_by edges items side i d numbers below =
    let long : length edges ≡ length items = sym (length-map edges plain) ∙ (ap length numbers ∙ length-numbered items) in
    let there : plain (get_or edges i d) ≡ get_or (numbered items) i (plain d) =
    sym (get_or-map plain edges i d (plain d) below) ∙ ap (λ (l : List Item). get_or l i (plain d)) numbers in
    let lt = numbered-below items side i (plain d) (omega (arith, below, long)) in
    omega (arith, lt, near-plain side (get_or edges i d), ap (vertex_on side) there)

-- a lane that was emptied and got its notes opens within its room
pub wanted_noted : (n : ℕ) (lane : Laned) (k : ℕ) → lane.runs ≡ replicate n [] → sum_of lane.fresh ≡ k → wanted lane ≡ k
wanted_noted n lane k runs notes = omega (arith, ap total_of runs, total-nil n, notes)

-- the ends of no interaction
pub run_none : (room v : ℕ) (side : Side) (runs : List (List End)) → runs ≡ replicate room [] → v < room → run_of runs v ≡ ends_of [] side v
run_none room v side runs are h = ap (λ (l : List (List End)). run_of l v) are ∙ (get_or-replicate room v [] [] h ∙ sym (ends_none side v))

pub numbered-nil : numbered [] ≡ []
unfolding numbered
numbered-nil = refl
