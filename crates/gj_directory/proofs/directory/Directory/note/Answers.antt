use Rattle.std.proofs.Common.{◌<◌, ◌++◌, ◌∙◌, [], ◌∷◌, ℕ, List, length, take, drop, refl, arith, ap}
use Rattle.std.proofs.lemmas.List.{take-append-le, drop-append-le, length_push}
use Rattle.gj_base.specs.declared.item.Item.{Item}
use Rattle.gj_base.specs.declared.side.Side.TheVariants.{User, Post}
use Rattle.gj_base.specs.Firsts.{with_id}
use Rattle.gj_compact.specs.declared.edge.Edge.{Edge}
use Rattle.gj_compact.specs.Lanes.{Laned}
use Rattle.gj_directory.specs.Directories.{Directed}
use Rattle.gj_directory.specs.Sides.{items_of}
use Rattle.gj_directory.proofs.CountLemmas.{counts_more}
use Rattle.gj_directory.proofs.NameLemmas.{items_same, items_noted}
use Rattle.gj_directory.proofs.ShowLemmas.{length-held, sane_push}
use Rattle.gj_directory.proofs.SideLemmas.{side_noted_at, named_all}
use Rattle.gj_directory.proofs.directory.Directory.note.Goals as goal

pub invariant_of-self : goal.invariant_of-self
invariant_of-self c =
    let old = c.self.invariant in
    let edges : List Edge = c.self.inside.edges.items in
    let edges' : List Edge = c.push_back_reserved.new.self.items in
    let n = c.self.inside.full in
    let users = c.self.inside.users.names in
    let posts = c.self.inside.posts.names in
    let item : Item = record { user = c.item.inside.user; post = c.item.inside.post; kind = c.item.inside.kind; at = c.item.inside.at } in
    let edge : Edge = record { user = c.note-user.result; post = c.note-post.result; kind = c.item.inside.kind; at = c.item.inside.at } in
    let pushed = c.push_back_reserved.ensures.items in
    let front = ap (take n) pushed ∙ take-append-le n edges (edge ∷ []) old.within in
    let rest = ap (drop n) pushed ∙ drop-append-le n edges (edge ∷ []) old.within in
    let size = ap length pushed ∙ length_push edges edge in
    let few : length edges < c.self.inside.users.lane.room =
    omega (arith, c.requires.room, length-held c.self.inside c.args.self.now c.self.view_is, ap (λ (s : Directed). s.room) c.self.view_is) in
    let users_room = ap (λ (l : Laned). l.room) c.note-user.ensures.lane in
    let posts_room = ap (λ (l : Laned). l.room) c.note-post.ensures.lane in
    let ku = named_all users.ids User n edges old.users.known_full old.users.known_fresh in
    let kp = named_all posts.ids Post n edges old.posts.known_full old.posts.known_fresh in
    let noted = ap (items_of c.note-user.new.self.names.ids c.note-post.new.self.names.ids) pushed
    ∙ items_noted users.ids c.note-user.new.self.names.ids posts.ids c.note-post.new.self.names.ids edges c.note-user.result c.note-post.result item
    c.note-user.ensures.ids c.note-user.ensures.place c.note-post.ensures.ids c.note-post.ensures.place ku kp in
    record {
      users = side_noted_at users c.note-user.new.self.names c.self.inside.users.lane c.note-user.new.self.lane User (take n edges) (take n edges') (drop n edges) (drop n edges') edge c.item.inside.user c.note-user.result old.users
          c.note-user.ensures.ids refl c.note-user.ensures.in_range c.note-user.ensures.room c.note-user.ensures.lawful c.note-user.ensures.lane front rest;
      posts = side_noted_at posts c.note-post.new.self.names c.self.inside.posts.lane c.note-post.new.self.lane Post (take n edges) (take n edges') (drop n edges) (drop n edges') edge c.item.inside.post c.note-post.result old.posts
          c.note-post.ensures.ids refl c.note-post.ensures.in_range c.note-post.ensures.room c.note-post.ensures.lawful c.note-post.ensures.lane front rest;
      within = omega (arith, old.within, size);
      few = omega (arith, size, few, users_room);
      small = omega (arith, old.small, users_room);
      same = omega (arith, old.same, users_room, posts_room);
      named = omega (arith, old.named, c.note-user.ensures.room, c.note-post.ensures.room);
      reserved = omega (arith, old.reserved, c.push_back_reserved.ensures.capacity, users_room);
      saved = omega (arith, old.saved, c.note-user.ensures.room);
      counted = counts_more c.self.inside.counts c.more-self-inside.result edges edges' edge old.counted pushed c.more-self-inside.ensures;
      sane = sane_push users.ids posts.ids c.note-user.new.self.names.ids c.note-post.new.self.names.ids n n edges edges' item noted c.item.invariant old.sane;
    }

pub returns-clause-full : goal.returns-clause-full
returns-clause-full c =
    let old = c.self.invariant in
    let edges : List Edge = c.self.inside.edges.items in
    let n = c.self.inside.full in
    let users = c.self.inside.users.names in
    let posts = c.self.inside.posts.names in
    let edge : Edge = record { user = c.note-user.result; post = c.note-post.result; kind = c.item.inside.kind; at = c.item.inside.at } in
    let front = ap (take n) c.push_back_reserved.ensures.items ∙ take-append-le n edges (edge ∷ []) old.within in
    let ids_are = ap (λ (l : List ℕ). items_of l c.note-post.new.self.names.ids (take n edges)) c.note-user.ensures.ids in
    ap (items_of c.note-user.new.self.names.ids c.note-post.new.self.names.ids) front
    ∙ (ids_are ∙ (ap (λ (l : List ℕ). items_of (with_id users.ids c.item.inside.user) l (take n edges)) c.note-post.ensures.ids
    ∙ (items_same users.ids posts.ids c.item.inside.user c.item.inside.post (take n edges) old.users.known_full old.posts.known_full ∙ ap (λ (s : Directed). s.full) c.self.view_is)))

pub returns-clause-fresh : goal.returns-clause-fresh
returns-clause-fresh c =
    let old = c.self.invariant in
    let edges : List Edge = c.self.inside.edges.items in
    let n = c.self.inside.full in
    let users = c.self.inside.users.names in
    let posts = c.self.inside.posts.names in
    let item : Item = record { user = c.item.inside.user; post = c.item.inside.post; kind = c.item.inside.kind; at = c.item.inside.at } in
    let edge : Edge = record { user = c.note-user.result; post = c.note-post.result; kind = c.item.inside.kind; at = c.item.inside.at } in
    let rest = ap (drop n) c.push_back_reserved.ensures.items ∙ drop-append-le n edges (edge ∷ []) old.within in
    ap (items_of c.note-user.new.self.names.ids c.note-post.new.self.names.ids) rest
    ∙ (items_noted users.ids c.note-user.new.self.names.ids posts.ids c.note-post.new.self.names.ids (drop n edges) c.note-user.result c.note-post.result item
    c.note-user.ensures.ids c.note-user.ensures.place c.note-post.ensures.ids c.note-post.ensures.place old.users.known_fresh old.posts.known_fresh
    ∙ (ap (λ (s : Directed). s.fresh ++ item ∷ []) c.self.view_is ∙ ap (λ (x : Item). c.args.self.now.fresh ++ x ∷ []) c.item.view_is))
