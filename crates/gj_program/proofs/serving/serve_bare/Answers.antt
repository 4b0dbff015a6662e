use Rattle.std.proofs.Common.{◌≡◌, inl, sym, refl, arith}
use Rattle.gj_service.proofs.ServiceLemmas.{service_as}
use Rattle.gj_program.proofs.serving.serve_bare.Goals as goal

pub returns-clause-does : goal.returns-clause-does
returns-clause-does g c = λ a. let over = c.serve_over-end.ensures in record {
  service = λ is. service_as _ _ _ _ _ _ _ _ _ _ (λ h k. sym k) (λ h k. tt) (over.service is);
  judged = (over.bare refl, λ e. (let rose = over.store e in absurd (omega (arith, rose))));
  differs = over.differs;
  bad = over.bad;
  kept = λ no yes. inl refl;
}
