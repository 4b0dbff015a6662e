-- What a directory tells.
use Rattle.std.proofs.Common.{◌≡◌, ℕ, ◌-◌, ◌<◌, ◌≤◌, ◌∙◌, List, [], ◌∷◌, ◌++◌, length, map, take, drop, filter, count_by, get_or, slice_get, Option, Some, None, IfSome, inl, inr, refl, arith, sym, subst, ap}
use Rattle.std.specs.Prelude.{All}
use Rattle.std.proofs.lemmas.List.{length-map, length-take, length-drop, get_or-map}
use Rattle.std.proofs.lemmas.List.Elements.{All-get_or, All-same, All-drop, All-push}
use Rattle.std.proofs.lemmas.List.Sums.{count_by-le-length, length-filter}
use Rattle.std.proofs.lemmas.Option.{slice_get_cases}
use Rattle.gj_base.specs.declared.item.Item.{Item}
use Rattle.gj_base.specs.declared.kind.Kind.{Kind}
use Rattle.gj_base.specs.declared.mask.Mask.{Mask}
use Rattle.gj_base.specs.declared.side.Side.{Side}
use Rattle.gj_base.specs.declared.side.Side.TheVariants.{User, Post}
use Rattle.gj_base.specs.Ends.{ends, passes, leads_to}
use Rattle.gj_base.specs.Firsts.{place_of}
use Rattle.gj_base.specs.Kinds.{all_kinds}
use Rattle.gj_base.specs.Numbered.{named_by}
use Rattle.gj_base.proofs.FirstLemmas.{place_of-Some}
use Rattle.gj_compact.specs.declared.edge.Edge.{Edge}
use Rattle.gj_compact.specs.declared.edge.End.{End}
use Rattle.gj_compact.specs.Blocks.{lets_through}
use Rattle.gj_compact.specs.Lanes.{run_of}
use Rattle.gj_compact.specs.Turns.{plain}
use Rattle.gj_directory.specs.declared.directory.Directory.TheInside.{Inside}
use Rattle.gj_directory.specs.declared.half.Half.{Half}
use Rattle.gj_directory.specs.Directories.{Directed, held, ids_of}
use Rattle.gj_directory.specs.Showing.{directed_of, half_on, IsItem, IsDirectory}
use Rattle.gj_directory.specs.Sides.{items_of}
use Rattle.gj_directory.proofs.CountLemmas.{passes-named}
use Rattle.gj_directory.proofs.NameLemmas.{items_held, items-length}
use Rattle.gj_directory.proofs.ReadLemmas.{side_count, side_notes, side_end, side_absent, side_led, end_known, reached}

-- the half of the side of a directory
abbrev pub own_half : Inside → Side → Half
own_half d side = half_on side d.users d.posts

-- and that of the other
abbrev pub far_half : Inside → Side → Half
far_half d side = half_on side d.posts d.users

pub own_ids : (d : Inside) (shown : Directed) (side : Side) → directed_of d ≡ shown → (own_half d side).names.ids ≡ ids_of shown side
own_ids d shown User view = ap (λ (s : Directed). s.users) view
own_ids d shown Post view = ap (λ (s : Directed). s.posts) view

-- a number that is known has a run
pub own_run : (d : Inside) (side : Side) (v : ℕ) → IsDirectory d → v < length (own_half d side).names.ids → v < length (own_half d side).lane.runs
own_run d User v is below = omega (arith, below, is.users.within, is.users.wide.runs)
own_run d Post v is below = omega (arith, below, is.posts.within, is.posts.wide.runs)

count_own : (d : Inside) (side : Side) (v : ℕ) (mask : Mask) → IsDirectory d → v < length (own_half d side).names.ids
    → count_by (lets_through mask) (run_of (own_half d side).lane.runs v) ≡ length (ends (directed_of d).full side (get_or (ids_of (directed_of d) side) v 0) mask)
count_own d User v mask is below = side_count d.users.names d.users.names.ids d.posts.names.ids d.users.lane User (take d.full d.edges.items) (drop d.full d.edges.items) v mask refl is.users below
count_own d Post v mask is below = side_count d.posts.names d.users.names.ids d.posts.names.ids d.posts.lane Post (take d.full d.edges.items) (drop d.full d.edges.items) v mask refl is.posts below

pub count_told : (d : Inside) (shown : Directed) (side : Side) (v : ℕ) (mask : Mask) → IsDirectory d → directed_of d ≡ shown → v < length (ids_of shown side)
    → count_by (lets_through mask) (run_of (own_half d side).lane.runs v) ≡ length (ends shown.full side (get_or (ids_of shown side) v 0) mask)
count_told d shown side v mask is view below =
    count_own d side v mask is (omega (arith, below, ap length (own_ids d shown side view)))
    ∙ ap (λ (s : Directed). length (ends s.full side (get_or (ids_of s side) v 0) mask)) view

notes_own : (d : Inside) (side : Side) (v : ℕ) → IsDirectory d → v < length (own_half d side).names.ids
    → get_or (own_half d side).lane.fresh v 0 ≡ length (ends (directed_of d).fresh side (get_or (ids_of (directed_of d) side) v 0) all_kinds)
notes_own d User v is below = side_notes d.users.names d.users.names.ids d.posts.names.ids d.users.lane User (take d.full d.edges.items) (drop d.full d.edges.items) v refl is.users below
notes_own d Post v is below = side_notes d.posts.names d.users.names.ids d.posts.names.ids d.posts.lane Post (take d.full d.edges.items) (drop d.full d.edges.items) v refl is.posts below

pub notes_told : (d : Inside) (shown : Directed) (side : Side) (v : ℕ) → IsDirectory d → directed_of d ≡ shown → v < length (ids_of shown side)
    → get_or (own_half d side).lane.fresh v 0 ≡ length (ends shown.fresh side (get_or (ids_of shown side) v 0) all_kinds)
notes_told d shown side v is view below =
    notes_own d side v is (omega (arith, below, ap length (own_ids d shown side view)))
    ∙ ap (λ (s : Directed). length (ends s.fresh side (get_or (ids_of s side) v 0) all_kinds)) view

end_own : (d : Inside) (side : Side) (v i : ℕ) (mask : Mask) (e : End) → IsDirectory d → v < length (own_half d side).names.ids
    → slice_get (filter (lets_through mask) (run_of (own_half d side).lane.runs v)) i ≡ Some e
    → slice_get (ends (directed_of d).full side (get_or (ids_of (directed_of d) side) v 0) mask) i ≡ Some (get_or (far_half d side).names.ids e.vertex 0, e.kind)
end_own d User v i mask e is below here = side_end d.users.names d.users.names.ids d.posts.names.ids d.users.lane User (take d.full d.edges.items) (drop d.full d.edges.items) v i mask e refl is.users below here
end_own d Post v i mask e is below here = side_end d.posts.names d.users.names.ids d.posts.names.ids d.posts.lane Post (take d.full d.edges.items) (drop d.full d.edges.items) v i mask e refl is.posts below here

pub end_told : (d : Inside) (shown : Directed) (side : Side) (v i : ℕ) (mask : Mask) (e : End) → IsDirectory d → directed_of d ≡ shown → v < length (ids_of shown side)
    → slice_get (filter (lets_through mask) (run_of (own_half d side).lane.runs v)) i ≡ Some e
    → slice_get (ends shown.full side (get_or (ids_of shown side) v 0) mask) i ≡ Some (get_or (far_half d side).names.ids e.vertex 0, e.kind)
end_told d shown side v i mask e is view below here =
    ap (λ (s : Directed). slice_get (ends s.full side (get_or (ids_of s side) v 0) mask) i) (sym view)
    ∙ end_own d side v i mask e is (omega (arith, below, ap length (own_ids d shown side view))) here

pub far_known : (d : Inside) (side : Side) (v i : ℕ) (mask : Mask) (e : End) → IsDirectory d → v < length (own_half d side).names.ids
    → i < count_by (lets_through mask) (run_of (own_half d side).lane.runs v) → slice_get (filter (lets_through mask) (run_of (own_half d side).lane.runs v)) i ≡ Some e
    → e.vertex < length (far_half d side).names.ids
far_known d User v i mask e is below inside here = end_known d.users.names d.posts.names.ids d.users.lane User (take d.full d.edges.items) (drop d.full d.edges.items) v i mask e is.users is.posts.known_full below inside here
far_known d Post v i mask e is below inside here = end_known d.posts.names d.users.names.ids d.posts.lane Post (take d.full d.edges.items) (drop d.full d.edges.items) v i mask e is.posts is.users.known_full below inside here

-- what stands at an index of which something is told
pub told_in : {X : Type 0} (xs : List X) (i : ℕ) (P : X → Type 0) → i < length xs → IfSome (slice_get xs i) P → (x : X) × (slice_get xs i ≡ Some x) × P x
told_in {X} xs i P below is = elim (slice_get_cases xs i).1 [
  | inl held ↦ (held.0, held.2, subst (λ (found : Option X). IfSome found P) held.2 is)
  | inr past ↦ absurd (omega (arith, past.0, below))
]

-- the vertex that was read of an end is known, and the end leads to it
pub vertex_told : (d : Inside) (shown : Directed) (own : Half) (side : Side) (v i place : ℕ) (mask : Mask) → IsDirectory d → directed_of d ≡ shown → own ≡ own_half d side
    → v < length (ids_of shown side) → i < length (ends shown.full side (get_or (ids_of shown side) v 0) mask)
    → IfSome (slice_get (filter (lets_through mask) (run_of own.lane.runs v)) i) (λ (e : End). place ≡ e.vertex)
    → (place < length (far_half d side).names.ids)
    × IfSome (slice_get (ends shown.full side (get_or (ids_of shown side) v 0) mask) i) (λ (end : ℕ × Kind). get_or (far_half d side).names.ids place 0 ≡ end.0)
vertex_told d shown own side v i place mask is view half known below read =
    let run = run_of (own_half d side).lane.runs v in
    let Led : End → Type 0 = λ (e : End). place ≡ e.vertex in
    let named : v < length (own_half d side).names.ids = omega (arith, known, ap length (own_ids d shown side view)) in
    let inside : i < count_by (lets_through mask) run = omega (arith, below, count_told d shown side v mask is view known) in
    let here : IfSome (slice_get (filter (lets_through mask) run) i) Led = rw half at read in
    let e = told_in (filter (lets_through mask) run) i Led (omega (arith, inside, length-filter (lets_through mask) run)) here in (
      omega (arith, far_known d side v i mask e.0 is named inside e.1, e.2),
      rw (end_told d shown side v i mask e.0 is view known e.1) (ap (λ (n : ℕ). get_or (far_half d side).names.ids n 0) e.2),
    )

absent_own : (d : Inside) (side : Side) (id : ℕ) (mask : Mask) → IsDirectory d → place_of (own_half d side).names.ids id ≡ None
    → (ends (directed_of d).full side id mask ≡ []) × (ends (directed_of d).fresh side id mask ≡ [])
absent_own d User id mask is none = side_absent d.users.names d.users.names.ids d.posts.names.ids d.users.lane User (take d.full d.edges.items) (drop d.full d.edges.items) id mask refl is.users none
absent_own d Post id mask is none = side_absent d.posts.names d.users.names.ids d.posts.names.ids d.posts.lane Post (take d.full d.edges.items) (drop d.full d.edges.items) id mask refl is.posts none

pub absent_told : (d : Inside) (shown : Directed) (side : Side) (id : ℕ) (mask : Mask) → IsDirectory d → directed_of d ≡ shown → place_of (own_half d side).names.ids id ≡ None
    → (ends shown.full side id mask ≡ []) × (ends shown.fresh side id mask ≡ [])
absent_told d shown side id mask is view none =
    subst (λ (s : Directed). (ends s.full side id mask ≡ []) × (ends s.fresh side id mask ≡ [])) view (absent_own d side id mask is none)

pub found_told : (ids : List ℕ) (id : ℕ) (found : Option ℕ) → found ≡ place_of ids id → IfSome found (λ v. (v < length ids) × (get_or ids v 0 ≡ id))
found_told ids id (Some v) is = place_of-Some ids id v (sym is)
found_told ids id None is = tt

-- all interactions that are shown
pub held_is : (d : Inside) → held (directed_of d) ≡ items_of d.users.names.ids d.posts.names.ids d.edges.items
held_is d = items_held d.users.names.ids d.posts.names.ids d.full d.edges.items

pub length-held : (d : Inside) (shown : Directed) → directed_of d ≡ shown → length (held shown) ≡ length d.edges.items
length-held d shown view = sym (ap (λ (s : Directed). length (held s)) view) ∙ (ap length (held_is d) ∙ items-length d.users.names.ids d.posts.names.ids d.edges.items)

pub item_sane : (d : Inside) (i : ℕ) (x : Edge) → IsDirectory d → i < length d.edges.items → x ≡ get_or d.edges.items i x → IsItem (named_by d.users.names.ids d.posts.names.ids (plain x))
item_sane d i x is below at =
    let users = d.users.names.ids in
    let posts = d.posts.names.ids in
    let edges : List Edge = d.edges.items in
    let y : Item = named_by users posts (plain x) in
    let all : All IsItem (items_of users posts edges) = All-same IsItem (items_of users posts edges) (held (directed_of d)) (sym (held_is d)) is.sane in
    let long = items-length users posts edges in
    let some = All-get_or IsItem (items_of users posts edges) i y (omega (arith, below, long)) all in
    let here : get_or (items_of users posts edges) i y ≡ y =
    get_or-map (named_by users posts) (map plain edges) i (plain x) y (omega (arith, below, length-map edges plain))
    ∙ ap (named_by users posts) (get_or-map plain edges i x (plain x) below ∙ ap plain (sym at)) in
    subst IsItem here some

-- the counted ones among all that are shown
pub passes_told : (d : Inside) (shown : Directed) (mask : Mask) → directed_of d ≡ shown → count_by (passes mask) (map plain d.edges.items) ≡ count_by (passes mask) (held shown)
passes_told d shown mask view =
    sym (passes-named mask d.users.names.ids d.posts.names.ids d.edges.items)
    ∙ (ap (count_by (passes mask)) (sym (held_is d)) ∙ ap (λ (s : Directed). count_by (passes mask) (held s)) view)

pub passes_few : (mask : Mask) (edges : List Edge) → count_by (passes mask) (map plain edges) ≤ length edges
passes_few mask edges = omega (arith, count_by-le-length (passes mask) (map plain edges), length-map edges plain)

pub length-full : (d : Inside) (shown : Directed) → directed_of d ≡ shown → d.full ≤ length d.edges.items → length shown.full ≡ d.full
length-full d shown view within =
    let e = ap (λ (s : Directed). length s.full) view in
    omega (arith, e, items-length d.users.names.ids d.posts.names.ids (take d.full d.edges.items), length-take d.full d.edges.items)

pub length-fresh : (d : Inside) (shown : Directed) → directed_of d ≡ shown → length shown.fresh ≡ length d.edges.items - d.full
length-fresh d shown view =
    let e = ap (λ (s : Directed). length s.fresh) view in
    omega (arith, e, items-length d.users.names.ids d.posts.names.ids (drop d.full d.edges.items), length-drop d.full d.edges.items)

-- both identifiers and the moment of each are in their range
abbrev pub AreSane : List ℕ → List ℕ → ℕ → List Edge → Type 0
AreSane users posts n edges = All IsItem (items_of users posts (take n edges) ++ items_of users posts (drop n edges))

sane_from : (users posts : List ℕ) (n : ℕ) (edges : List Edge) → All IsItem (items_of users posts edges) → AreSane users posts n edges
sane_from users posts n edges all = All-same IsItem (items_of users posts (take n edges) ++ items_of users posts (drop n edges)) (items_of users posts edges) (items_held users posts n edges) all

sane_of : (users posts : List ℕ) (n : ℕ) (edges : List Edge) → AreSane users posts n edges → All IsItem (items_of users posts edges)
sane_of users posts n edges all =
    All-same IsItem (items_of users posts edges) (items_of users posts (take n edges) ++ items_of users posts (drop n edges)) (sym (items_held users posts n edges)) all

-- as they were
pub sane_same : (users posts users' posts' : List ℕ) (n n' : ℕ) (edges edges' : List Edge) → items_of users' posts' edges' ≡ items_of users posts edges → AreSane users posts n edges → AreSane users' posts' n' edges'
sane_same users posts users' posts' n n' edges edges' same all =
    sane_from users' posts' n' edges' (All-same IsItem (items_of users' posts' edges') (items_of users posts edges) same (sane_of users posts n edges all))

-- without the first ones
pub sane_drop : (users posts users' posts' : List ℕ) (n n' k : ℕ) (edges edges' : List Edge) → items_of users' posts' edges' ≡ drop k (items_of users posts edges) → AreSane users posts n edges → AreSane users' posts' n' edges'
sane_drop users posts users' posts' n n' k edges edges' same all =
    sane_from users' posts' n' edges' (All-same IsItem (items_of users' posts' edges') (drop k (items_of users posts edges)) same
    (All-drop IsItem k (items_of users posts edges) (sane_of users posts n edges all)))

-- with one more
pub sane_push : (users posts users' posts' : List ℕ) (n n' : ℕ) (edges edges' : List Edge) (x : Item) → items_of users' posts' edges' ≡ items_of users posts edges ++ x ∷ [] → IsItem x → AreSane users posts n edges
    → AreSane users' posts' n' edges'
sane_push users posts users' posts' n n' edges edges' x same sane all =
    sane_from users' posts' n' edges' (All-same IsItem (items_of users' posts' edges') (items_of users posts edges ++ x ∷ []) same
    (All-push IsItem (items_of users posts edges) x (sane_of users posts n edges all) sane))

led_own : (d : Inside) (side : Side) (v : ℕ) (mask : Mask) (other : ℕ) (found : Option ℕ) → IsDirectory d → v < length (own_half d side).names.ids → found ≡ place_of (far_half d side).names.ids other
    → leads_to (ends (directed_of d).full side (get_or (ids_of (directed_of d) side) v 0) mask) other ≡ reached found mask (run_of (own_half d side).lane.runs v)
led_own d User v mask other found is below are =
    side_led d.users.names d.users.names.ids d.posts.names.ids d.users.lane User (take d.full d.edges.items) (drop d.full d.edges.items) v mask other found refl
    is.users is.posts.distinct is.posts.known_full below are
led_own d Post v mask other found is below are =
    side_led d.posts.names d.users.names.ids d.posts.names.ids d.posts.lane Post (take d.full d.edges.items) (drop d.full d.edges.items) v mask other found refl
    is.posts is.users.distinct is.users.known_full below are

-- whether the vertex has an end that leads to another, by the other's number
pub led_told : (d : Inside) (shown : Directed) (own far : Half) (side : Side) (v : ℕ) (mask : Mask) (other : ℕ) (found : Option ℕ) → IsDirectory d → directed_of d ≡ shown
    → own ≡ own_half d side → far ≡ far_half d side → v < length (ids_of shown side) → found ≡ place_of far.names.ids other
    → reached found mask (run_of own.lane.runs v) ≡ leads_to (ends shown.full side (get_or (ids_of shown side) v 0) mask) other
led_told d shown own far side v mask other found is view half across below are =
    let named : v < length (own_half d side).names.ids = omega (arith, below, ap length (own_ids d shown side view)) in
    ap (λ (h : Half). reached found mask (run_of h.lane.runs v)) half
    ∙ (sym (led_own d side v mask other found is named (are ∙ ap (λ (h : Half). place_of h.names.ids other) across))
    ∙ ap (λ (s : Directed). leads_to (ends s.full side (get_or (ids_of s side) v 0) mask) other) view)
