use Rattle.std.proofs.Common.{◌≡◌, ◌<◌, ◌≤◌, ◌+◌, ◌-◌, ◌*◌, ◌∙◌, ◌++◌, ℕ, List, length, drop, arith, sym, ap}
use Rattle.std.proofs.lemmas.List.{length-drop}
use Rattle.gj_base.specs.declared.item.Item.{Item}
use Rattle.gj_base.specs.Configuration.{Configuration}
use Rattle.gj_window.specs.Segments.{Segmented, items_of}
use Rattle.gj_window.proofs.NumberLemmas.{room_less, some_whole}
use Rattle.gj_window.proofs.PartLemmas.{dropped}
use Rattle.gj_window.proofs.segments.Segments.drop_oldest.Goals as goal

pub invariant_of-self : goal.invariant_of-self
invariant_of-self c =
    let s = c.self.inside in
    let i = c.self.invariant in
    let old = c.lay_out_one.new.self in
    let some : s.conf.capacity ≤ length s.directory.full =
    omega (arith, c.lay_out_one.ensures.some, ap (λ (u : Segmented). length u.full) c.self.view_is, ap (λ (u : Segmented). u.conf.capacity) c.self.view_is) in
    let whole : 1 ≤ s.whole = some_whole s.conf.capacity s.whole (length s.directory.full) some i.aligned i.conf.capacity_low in
    let less = room_less s.conf.capacity s.whole whole in
    let left : length c.rotate.new.self.full ≡ length s.directory.full - c.capacity.result = ap length c.rotate.ensures.full ∙ length-drop c.capacity.result s.directory.full in
    record {
      conf = i.conf;
      tied = c.rotate.ensures.fresh ∙ i.tied;
      older_room = i.older_room;
      newest_room = i.newest_room;
      aligned = omega (arith, left, less, i.aligned, c.capacity.ensures.exact);
      older_full = i.older_full;
      newest_few = i.newest_few;
      few = i.few;
      within = omega (arith, left, i.within);
      room = c.rotate.ensures.room ∙ i.room;
      names = omega (arith, c.rotate.ensures.room, c.rotate.ensures.names, i.names);
      users = λ begun. omega (arith, i.users begun, ap length c.rotate.ensures.users, c.rotate.ensures.names);
      posts = λ begun. omega (arith, i.posts begun, ap length c.rotate.ensures.posts, c.rotate.ensures.names);
    }

pub returns-clause-left : goal.returns-clause-left
returns-clause-left c =
    let s = c.self.inside in
    let e = c.self.view_is in
    let old = c.args.self.now in
    let some : c.capacity.result ≤ length s.directory.full =
    omega (arith, c.lay_out_one.ensures.some, c.capacity.ensures.exact, ap (λ (u : Segmented). length u.full) e, ap (λ (u : Segmented). u.conf.capacity) e) in
    let same : s.directory.full ++ s.older.items ≡ old.full ++ old.older = ap (λ (u : Segmented). u.full ++ u.older) e ∙ c.lay_out_one.ensures.same in
    let newest : s.newest.items ≡ old.newest = ap (λ (u : Segmented). u.newest) e ∙ c.lay_out_one.ensures.newest in
    let count : c.capacity.result ≡ old.conf.capacity =
    c.capacity.ensures.exact ∙ (ap (λ (u : Segmented). u.conf.capacity) e ∙ ap (λ (conf : Configuration). conf.capacity) c.lay_out_one.ensures.conf) in
    dropped s.directory.full s.older.items s.newest.items old.full old.older old.newest c.rotate.new.self.full c.capacity.result c.rotate.ensures.full some same newest
    ∙ ap (λ (k : ℕ). drop k (items_of old)) count
