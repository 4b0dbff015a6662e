use Rattle.gj_request.proofs.TakenLemmas.{FieldsGoOn}
use Rattle.gj_request.proofs.plain.read_fields.Given as goal

abbrev pub invariant-loop : goal.invariant-loop
invariant-loop l = FieldsGoOn l.fn.reader l.reader l.parts
