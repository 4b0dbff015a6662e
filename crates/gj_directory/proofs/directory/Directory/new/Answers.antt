use Rattle.std.proofs.Common.{[], List, length, arith, ap, sym, subst, ◌∙◌}
use Rattle.std.proofs.lemmas.List.Elements.{All-nil, All-same}
use Rattle.gj_base.specs.declared.side.Side.TheVariants.{User, Post}
use Rattle.gj_compact.specs.declared.edge.Edge.{Edge}
use Rattle.gj_directory.specs.Showing.{IsItem}
use Rattle.gj_directory.specs.Sides.{IsSide, items_of}
use Rattle.gj_directory.proofs.CountLemmas.{counts_none}
use Rattle.gj_directory.proofs.directory.Directory.new.Goals as goal

pub invariant_of-result : goal.invariant_of-result
invariant_of-result c =
    let none = c.in-Ok.ensures.items in
    let users = c.in_ok-users.users in
    let posts = c.in_ok-posts.posts in
    record {
      users = subst (λ (l : List Edge). IsSide users.names users.lane User [] l) (sym none) (c.in_ok-users.ensures.empty User);
      posts = subst (λ (l : List Edge). IsSide posts.names posts.lane Post [] l) (sym none) (c.in_ok-posts.ensures.empty Post);
      within = omega arith;
      few = omega (arith, ap length none);
      small = omega (arith, c.in_ok-users.ensures.room, c.requires.room);
      same = c.in_ok-posts.ensures.room ∙ sym c.in_ok-users.ensures.room;
      named = c.in_ok-posts.ensures.names ∙ sym c.in_ok-users.ensures.names;
      reserved = omega (arith, c.in_ok-users.ensures.room, c.in-Ok.ensures.capacity);
      saved = omega (arith, c.in_ok-users.ensures.names, c.in-Ok-with_capacity.ensures.capacity);
      counted = counts_none c.in-Ok.edges.items none;
      sane = All-same IsItem (items_of users.names.ids posts.names.ids c.in-Ok.edges.items) [] (ap (items_of users.names.ids posts.names.ids) none) (All-nil IsItem);
    }
