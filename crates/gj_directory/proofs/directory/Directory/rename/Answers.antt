use Rattle.std.proofs.Common.{◌≡◌, ◌∙◌, ℕ, List, take, drop, arith, ap, sym}
use Rattle.gj_base.specs.declared.side.Side.TheVariants.{User, Post}
use Rattle.gj_compact.specs.declared.edge.Edge.{Edge}
use Rattle.gj_names.specs.Named.{Named}
use Rattle.gj_directory.specs.Directories.{Directed}
use Rattle.gj_directory.specs.Sides.{items_of}
use Rattle.gj_directory.proofs.CountLemmas.{counts_same}
use Rattle.gj_directory.proofs.NameLemmas.{items-take, items-drop}
use Rattle.gj_directory.proofs.NumberLemmas.{known_as, side_kept}
use Rattle.gj_directory.proofs.ShowLemmas.{sane_same}
use Rattle.gj_directory.proofs.SideLemmas.{named_all}
use Rattle.gj_directory.proofs.directory.Directory.rename.Goals as goal

pub renumber-requires-clause-known : goal.renumber-requires-clause-known
renumber-requires-clause-known c =
    let old = c.self.invariant in
    named_all c.self.inside.users.names.ids User c.self.inside.full c.self.inside.edges.items old.users.known_full old.users.known_fresh

pub renumber-requires-2-clause-known : goal.renumber-requires-2-clause-known
renumber-requires-2-clause-known c =
    let old = c.self.invariant in
    known_as c.self.inside.posts.names.ids Post c.self.inside.edges.items c.renumber.new.edges.items c.renumber.ensures.far
    (named_all c.self.inside.posts.names.ids Post c.self.inside.full c.self.inside.edges.items old.posts.known_full old.posts.known_fresh)

pub settle-requires-clause-held : goal.settle-requires-clause-held
settle-requires-clause-held c =
    side_kept c.renumber.new.self.names c.renumber.new.self.lane User c.renumber.new.edges.items c.renumber-2.new.edges.items c.renumber.ensures.held c.renumber-2.ensures.far

-- the interactions are as they were, whatever they are numbered by
all_same : (u0 p0 u1 p1 : List ℕ) (users posts : Named) (e0 e1 e2 : List Edge) → users.ids ≡ u1 → posts.ids ≡ p1
    → ((far : List ℕ) → items_of u1 far e1 ≡ items_of u0 far e0) → ((far : List ℕ) → items_of far p1 e2 ≡ items_of far p0 e1)
    → items_of users.ids posts.ids e2 ≡ items_of u0 p0 e0
all_same u0 p0 u1 p1 users posts e0 e1 e2 users_are posts_are first second =
    ap (λ (l : List ℕ). items_of l posts.ids e2) users_are ∙ (ap (λ (l : List ℕ). items_of u1 l e2) posts_are ∙ (second u1 ∙ first p0))

pub invariant_of-self : goal.invariant_of-self
invariant_of-self c =
    let old = c.self.invariant in
    let n = c.self.inside.full in
    let u0 = c.self.inside.users.names.ids in
    let p0 = c.self.inside.posts.names.ids in
    let e0 : List Edge = c.self.inside.edges.items in
    let e1 : List Edge = c.renumber.new.edges.items in
    let e2 : List Edge = c.renumber-2.new.edges.items in
    let users = c.settle.new.self.names in
    let posts = c.settle-2.new.self.names in
    let same = all_same u0 p0 c.renumber.new.self.names.ids c.renumber-2.new.self.names.ids users posts e0 e1 e2
    (ap (λ (m : Named). m.ids) c.settle.ensures.names) (ap (λ (m : Named). m.ids) c.settle-2.ensures.names) c.renumber.ensures.items c.renumber-2.ensures.items in
    let users_room = ap (λ (m : Named). m.room) c.settle.ensures.names ∙ c.renumber.ensures.names in
    let posts_room = ap (λ (m : Named). m.room) c.settle-2.ensures.names ∙ c.renumber-2.ensures.names in
    record {
      users = c.settle.ensures.held;
      posts = c.settle-2.ensures.held;
      within = omega (arith, old.within, c.renumber.ensures.long, c.renumber-2.ensures.long);
      few = omega (arith, old.few, c.renumber.ensures.long, c.renumber-2.ensures.long, c.settle.ensures.room, c.renumber.ensures.size);
      small = omega (arith, old.small, c.settle.ensures.room, c.renumber.ensures.size);
      same = omega (arith, old.same, c.settle.ensures.room, c.renumber.ensures.size, c.settle-2.ensures.room, c.renumber-2.ensures.size);
      named = omega (arith, old.named, users_room, posts_room);
      reserved = omega (arith, old.reserved, c.settle.ensures.room, c.renumber.ensures.size, c.renumber.ensures.reserved, c.renumber-2.ensures.reserved);
      saved = omega (arith, old.saved, users_room, c.renumber.ensures.capacity, c.renumber-2.ensures.capacity);
      counted = counts_same c.self.inside.counts u0 p0 users.ids posts.ids e0 e2 old.counted same;
      sane = sane_same u0 p0 users.ids posts.ids n n e0 e2 same old.sane;
    }

pub returns-clause-full : goal.returns-clause-full
returns-clause-full c =
    let n = c.self.inside.full in
    let u0 = c.self.inside.users.names.ids in
    let p0 = c.self.inside.posts.names.ids in
    let e0 : List Edge = c.self.inside.edges.items in
    let e1 : List Edge = c.renumber.new.edges.items in
    let e2 : List Edge = c.renumber-2.new.edges.items in
    let users = c.settle.new.self.names in
    let posts = c.settle-2.new.self.names in
    let same = all_same u0 p0 c.renumber.new.self.names.ids c.renumber-2.new.self.names.ids users posts e0 e1 e2
    (ap (λ (m : Named). m.ids) c.settle.ensures.names) (ap (λ (m : Named). m.ids) c.settle-2.ensures.names) c.renumber.ensures.items c.renumber-2.ensures.items in
    items-take users.ids posts.ids n e2 ∙ (ap (take n) same ∙ (sym (items-take u0 p0 n e0) ∙ ap (λ (s : Directed). s.full) c.self.view_is))

pub returns-clause-fresh : goal.returns-clause-fresh
returns-clause-fresh c =
    let n = c.self.inside.full in
    let u0 = c.self.inside.users.names.ids in
    let p0 = c.self.inside.posts.names.ids in
    let e0 : List Edge = c.self.inside.edges.items in
    let e1 : List Edge = c.renumber.new.edges.items in
    let e2 : List Edge = c.renumber-2.new.edges.items in
    let users = c.settle.new.self.names in
    let posts = c.settle-2.new.self.names in
    let same = all_same u0 p0 c.renumber.new.self.names.ids c.renumber-2.new.self.names.ids users posts e0 e1 e2
    (ap (λ (m : Named). m.ids) c.settle.ensures.names) (ap (λ (m : Named). m.ids) c.settle-2.ensures.names) c.renumber.ensures.items c.renumber-2.ensures.items in
    items-drop users.ids posts.ids n e2 ∙ (ap (drop n) same ∙ (sym (items-drop u0 p0 n e0) ∙ ap (λ (s : Directed). s.fresh) c.self.view_is))
