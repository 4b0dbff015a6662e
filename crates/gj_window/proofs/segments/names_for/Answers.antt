use Rattle.std.proofs.Common.{arith}
use Rattle.gj_window.proofs.segments.names_for.Goals as goal

pub returns-clause-room : goal.returns-clause-room
returns-clause-room c = omega (arith, c.room-room.ensures.exact, c.capacity.ensures.exact)

pub returns-clause-fits : goal.returns-clause-fits
returns-clause-fits c = omega (arith, c.room-room.ensures.in_range, c.capacity.ensures.in_range.capacity_high)

pub overflow_add-result : goal.overflow_add-result
overflow_add-result c = omega (arith, c.room-room.ensures.in_range)

pub overflow_add-result-2 : goal.overflow_add-result-2
overflow_add-result-2 c = omega (arith, c.room-room.ensures.in_range, c.capacity.ensures.in_range.capacity_high)

pub overflow_mul-result : goal.overflow_mul-result
overflow_mul-result c = omega (arith, c.capacity.ensures.in_range.capacity_high)
