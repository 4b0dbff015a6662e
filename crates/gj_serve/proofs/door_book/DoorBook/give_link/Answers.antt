use Rattle.std.proofs.Common.{IsTrue, rules, subst}
use Rattle.gj_serve.proofs.GivenLemmas.{are_served_more}
use Rattle.gj_serve.proofs.door_book.DoorBook.give_link.Goals as goal

pub invariant_of-self : goal.invariant_of-self
invariant_of-self g c = record {
  named = search rules;
  few = search rules;
  counted = search rules;
  within = search rules;
  handed = search rules;
  back = search rules;
  added = search rules;
  given = are_served_more c.args.self.now.front c.args.seen c.keep_later.new.kept
      (IsTrue (g.D.Door.tells c.args.self.now.door)) (IsTrue (g.D.Door.tells c.give_back.new.self)) (g.D.Door.back c.args.self.now.door) (g.D.Door.back c.give_back.new.self)
      (g.D.Door.given c.args.self.now.door) (g.D.Door.given c.give_back.new.self) c.args.done c.keep_later.ensures.kept c.keep_later.ensures.seen
      (subst IsTrue c.give_back.ensures.told) c.give_back.ensures.back c.give_back.ensures.given c.args.self.now.given c.requires.served;
  «open» = search rules;
  met = search rules;
  spent = search rules;
  closed = search rules;
  later = search rules;
  fault = search rules;
  steady = search rules;
}
