use Rattle.std.proofs.Common.{◌≡◌, ◌++◌, ◌+◌, ◌-◌, ◌∙◌, ℕ, List, take, drop, arith, ap, sym}
use Rattle.std.proofs.lemmas.List.{drop-drop}
use Rattle.gj_base.specs.declared.item.Item.{Item}
use Rattle.gj_compact.specs.declared.edge.Edge.{Edge}
use Rattle.gj_names.specs.Named.{Named}
use Rattle.gj_directory.specs.Directories.{Directed}
use Rattle.gj_directory.specs.Sides.{items_of}
use Rattle.gj_directory.proofs.ListLemmas.{take_between}
use Rattle.gj_directory.proofs.NameLemmas.{items-append, items-take, items-drop}
use Rattle.gj_directory.proofs.ShowLemmas.{length-fresh, sane_same}
use Rattle.gj_directory.proofs.directory.Directory.settle.Goals as goal

-- the interactions by the names that stayed
same_names : (users posts users' posts' : Named) (edges : List Edge) → users' ≡ users → posts' ≡ posts → items_of users'.ids posts'.ids edges ≡ items_of users.ids posts.ids edges
same_names users posts users' posts' edges u p = ap (λ (n : Named). items_of n.ids posts'.ids edges) u ∙ ap (λ (n : Named). items_of users.ids n.ids edges) p

pub invariant_of-self : goal.invariant_of-self
invariant_of-self c =
    let old = c.self.invariant in
    let edges : List Edge = c.self.inside.edges.items in
    let n = c.self.inside.full in
    let users = c.self.inside.users.names in
    let posts = c.self.inside.posts.names in
    let same = same_names users posts c.settle.new.self.names c.settle-2.new.self.names edges c.settle.ensures.names c.settle-2.ensures.names in
    record {
      users = c.settle.ensures.held;
      posts = c.settle-2.ensures.held;
      within = omega (arith, old.within, c.requires, length-fresh c.self.inside c.args.self.now c.self.view_is);
      few = omega (arith, old.few, c.settle.ensures.room);
      small = omega (arith, old.small, c.settle.ensures.room);
      same = omega (arith, old.same, c.settle.ensures.room, c.settle-2.ensures.room);
      named = omega (arith, old.named, ap (λ (m : Named). m.room) c.settle.ensures.names, ap (λ (m : Named). m.room) c.settle-2.ensures.names);
      reserved = omega (arith, old.reserved, c.settle.ensures.room);
      saved = omega (arith, old.saved, ap (λ (m : Named). m.room) c.settle.ensures.names);
      counted = old.counted;
      sane = sane_same users.ids posts.ids c.settle.new.self.names.ids c.settle-2.new.self.names.ids n (n + c.args.count) edges edges same old.sane;
    }

pub returns-clause-full : goal.returns-clause-full
returns-clause-full c =
    let edges : List Edge = c.self.inside.edges.items in
    let n = c.self.inside.full in
    let k = c.args.count in
    let users = c.self.inside.users.names in
    let posts = c.self.inside.posts.names in
    let more : n + k - n ≡ k = omega arith in
    let parts : take (n + k) edges ≡ take n edges ++ take k (drop n edges) =
    take_between edges n (n + k) (omega arith) ∙ ap (λ (m : ℕ). take n edges ++ take m (drop n edges)) more in
    same_names users posts c.settle.new.self.names c.settle-2.new.self.names (take (n + k) edges) c.settle.ensures.names c.settle-2.ensures.names
    ∙ (ap (items_of users.ids posts.ids) parts ∙ (items-append users.ids posts.ids (take n edges) (take k (drop n edges))
    ∙ (ap (λ (l : List Item). items_of users.ids posts.ids (take n edges) ++ l) (items-take users.ids posts.ids k (drop n edges))
    ∙ ap (λ (s : Directed). s.full ++ take k s.fresh) c.self.view_is)))

pub returns-clause-fresh : goal.returns-clause-fresh
returns-clause-fresh c =
    let edges : List Edge = c.self.inside.edges.items in
    let n = c.self.inside.full in
    let k = c.args.count in
    let users = c.self.inside.users.names in
    let posts = c.self.inside.posts.names in
    same_names users posts c.settle.new.self.names c.settle-2.new.self.names (drop (n + k) edges) c.settle.ensures.names c.settle-2.ensures.names
    ∙ (ap (items_of users.ids posts.ids) (sym (drop-drop k n edges)) ∙ (items-drop users.ids posts.ids k (drop n edges) ∙ ap (λ (s : Directed). drop k s.fresh) c.self.view_is))
