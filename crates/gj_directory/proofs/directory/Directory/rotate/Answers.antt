use Rattle.std.proofs.Common.{◌≡◌, ◌≤◌, ◌-◌, ◌∙◌, List, length, take, drop, arith, ap}
use Rattle.std.proofs.lemmas.List.{length-drop}
use Rattle.gj_base.specs.declared.side.Side.TheVariants.{User, Post}
use Rattle.gj_compact.specs.declared.edge.Edge.{Edge}
use Rattle.gj_names.specs.Named.{Named}
use Rattle.gj_directory.specs.Directories.{Directed}
use Rattle.gj_directory.specs.Sides.{items_of}
use Rattle.gj_directory.proofs.ListLemmas.{front_rest, back_rest}
use Rattle.gj_directory.proofs.NameLemmas.{items-drop}
use Rattle.gj_directory.proofs.ShowLemmas.{length-full, sane_drop}
use Rattle.gj_directory.proofs.SideLemmas.{side_moved}
use Rattle.gj_directory.proofs.directory.Directory.rotate.Goals as goal

-- the interactions by the names that stayed
same_names : (users posts users' posts' : Named) (edges : List Edge) → users' ≡ users → posts' ≡ posts → items_of users'.ids posts'.ids edges ≡ items_of users.ids posts.ids edges
same_names users posts users' posts' edges u p = ap (λ (n : Named). items_of n.ids posts'.ids edges) u ∙ ap (λ (n : Named). items_of users.ids n.ids edges) p

pub invariant_of-self : goal.invariant_of-self
invariant_of-self c =
    let old = c.self.invariant in
    let edges : List Edge = c.self.inside.edges.items in
    let edges' : List Edge = c.drop_front.new.edges.items in
    let n = c.self.inside.full in
    let k = c.args.count in
    let users = c.self.inside.users.names in
    let posts = c.self.inside.posts.names in
    let fits : k ≤ n = omega (arith, c.requires, length-full c.self.inside c.args.self.now c.self.view_is old.within) in
    let front : take (n - k) edges' ≡ drop k (take n edges) = ap (take (n - k)) c.drop_front.ensures.items ∙ front_rest edges n k fits in
    let back : drop (n - k) edges' ≡ drop n edges = ap (drop (n - k)) c.drop_front.ensures.items ∙ back_rest edges n k fits in
    let size = ap length c.drop_front.ensures.items ∙ length-drop k edges in
    let same = same_names users posts c.shed.new.self.names c.shed-2.new.self.names edges' c.shed.ensures.names c.shed-2.ensures.names
    ∙ (ap (items_of users.ids posts.ids) c.drop_front.ensures.items ∙ items-drop users.ids posts.ids k edges) in
    record {
      users = side_moved c.shed.new.self.names c.shed.new.self.lane User (drop k (take n edges)) (take (n - k) edges') (drop n edges) (drop (n - k) edges') front back c.shed.ensures.held;
      posts = side_moved c.shed-2.new.self.names c.shed-2.new.self.lane Post (drop k (take n edges)) (take (n - k) edges') (drop n edges) (drop (n - k) edges') front back c.shed-2.ensures.held;
      within = omega (arith, old.within, size);
      few = omega (arith, old.few, size, c.shed.ensures.room);
      small = omega (arith, old.small, c.shed.ensures.room);
      same = omega (arith, old.same, c.shed.ensures.room, c.shed-2.ensures.room);
      named = omega (arith, old.named, ap (λ (m : Named). m.room) c.shed.ensures.names, ap (λ (m : Named). m.room) c.shed-2.ensures.names);
      reserved = omega (arith, old.reserved, c.shed.ensures.room, c.drop_front.ensures.capacity);
      saved = omega (arith, old.saved, ap (λ (m : Named). m.room) c.shed.ensures.names);
      counted = c.drop_front.ensures.counted;
      sane = sane_drop users.ids posts.ids c.shed.new.self.names.ids c.shed-2.new.self.names.ids n (n - k) k edges edges' same old.sane;
    }

pub returns-clause-full : goal.returns-clause-full
returns-clause-full c =
    let old = c.self.invariant in
    let edges : List Edge = c.self.inside.edges.items in
    let edges' : List Edge = c.drop_front.new.edges.items in
    let n = c.self.inside.full in
    let k = c.args.count in
    let users = c.self.inside.users.names in
    let posts = c.self.inside.posts.names in
    let fits : k ≤ n = omega (arith, c.requires, length-full c.self.inside c.args.self.now c.self.view_is old.within) in
    let front : take (n - k) edges' ≡ drop k (take n edges) = ap (take (n - k)) c.drop_front.ensures.items ∙ front_rest edges n k fits in
    same_names users posts c.shed.new.self.names c.shed-2.new.self.names (take (n - k) edges') c.shed.ensures.names c.shed-2.ensures.names
    ∙ (ap (items_of users.ids posts.ids) front ∙ (items-drop users.ids posts.ids k (take n edges) ∙ ap (λ (s : Directed). drop k s.full) c.self.view_is))
