use Rattle.gj_service.proofs.ServiceLemmas.{writes_part}
use Rattle.gj_service.proofs.lines.send_end.Goals as goal

pub returns-in-Err-clause-wrote : goal.returns-in-Err-clause-wrote
returns-in-Err-clause-wrote g c = λ first port w.
    rw (c.end_after-in-Err.ensures) (writes_part c.args.door port c.args.sessions c.args.length first _ _ w (c.in-Err.ensures))
