use Rattle.std.proofs.Common.{ℕ, List, ◌≤◌, length, ap, subst, sym}
use Rattle.gj_http.specs.Held.{Held}
use Rattle.gj_http.proofs.BoundLemmas.{NeedsMore-length}
use Rattle.gj_http.proofs.framer.Framer.take_next.Goals as goal

pub make_room-requires : goal.make_room-requires
make_room-requires c =
    subst (λ (b : List ℕ). length b ≤ 1056768) (sym (ap (λ (h : Held). h.bytes) c.self.view_is)) (NeedsMore-length _ c.in-Partial.ensures.0)
