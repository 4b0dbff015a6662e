use Rattle.std.proofs.Common.{◌≡◌, rules}
use Rattle.std.proofs.lemmas.List.Elements.{All-push}
use Rattle.gj_serve.specs.Passes.{Tallies, no_tallies}
use Rattle.gj_serve.proofs.opening.open_door.Goals as goal

pub loop-preserved : goal.loop-preserved
loop-preserved g c = record {
  made = search rules;
  room = search rules;
  unused = rw c.push_reserved.ensures.items (All-push (λ (p : Tallies). p ≡ no_tallies) c.loop.made.items _ c.loop.invariant.unused (search rules));
  taken = search rules;
  out = search rules;
  overs = search rules;
  entered = search rules;
  totals = search rules;
}
