use Rattle.std.proofs.Common.{◌≡◌, ◌∙◌, ap, sym, arith}
use Rattle.gj_service.specs.Lines.{last_line, ready_line}
use Rattle.gj_service.proofs.ServiceLemmas.{beginning_cut}
use Rattle.gj_service.proofs.listening.serve_listening.Goals as goal

pub returns-in-Err-send_ready-clause-told : goal.returns-in-Err-send_ready-clause-told
returns-in-Err-send_ready-clause-told g c =
    let door : c.into_door.result.0 ≡ c.args.door = c.into_door.ensures.door ∙ c.in-Ok.ensures.book in
    let handed : g.D.Door.handed c.into_door.result.0 ≡ 0 = ap g.D.Door.handed door ∙ c.requires.fresh.0 in
    let back : g.D.Door.back c.into_door.result.0 ≡ 0 = ap g.D.Door.back door ∙ c.requires.fresh.1 in
    record {
      wrote = beginning_cut _ _ (ready_line c.args.plan.port) (last_line _ _) c.in-Err-send_ready.ensures;
      all_back = back ∙ sym handed;
      few = omega (arith, handed);
      within = omega (arith, handed);
      done = λ e. cc;
      fault = λ e. cc;
    }
