-- What was taken and written, put together.
use Rattle.std.proofs.Common.{◌≡◌, ℕ, ◌+◌, ◌-◌, ◌≤◌, ◌∙◌, IsTrue, List, [], ◌++◌, length, take, drop, take-add, length-take, refl, ap, sym, subst, arith, append_assoc, append-nil, length-append}
use Rattle.std.proofs.lemmas.List.{length-drop, take_all}
use Rattle.gj_base.specs.Stream.{Reading}
use Rattle.gj_base.specs.Streams.{Incoming, Outgoing, FailedOnce, Made, TookAll, Took, Wrote, WrotePart}

pub made_none : (f : ℕ) → Made 0 f f
made_none f = record { low = omega arith; high = omega arith }

pub made_then : (n m f g h : ℕ) → Made n f g → Made m g h → Made (n + m) f h
made_then n m f g h x y = record { low = omega (arith, x.low, x.high, y.low, y.high); high = omega (arith, x.high, y.high) }

pub took_all_then : (first mid last : Reading) (a b : List ℕ) → TookAll first mid a → TookAll mid last b → TookAll first last (a ++ b)
took_all_then first mid last a b x y = record {
  taken = y.taken ∙ ap (λ (w : List ℕ). w ++ b) x.taken ∙ append_assoc first.taken a b;
  left = x.left ∙ ap (λ (w : List ℕ). a ++ w) y.left ∙ sym (append_assoc a b last.left);
}

pub took_none : (a : Incoming) → Took a a [] 0
took_none a = record {
  told = refl;
  all = λ t. record { taken = sym (append-nil a.stream.taken); left = refl };
  made = made_none a.reads;
}

pub took_then : (a b c : Incoming) (x y : List ℕ) (n m : ℕ) → Took a b x n → Took b c y m → Took a c (x ++ y) (n + m)
took_then a b c x y n m p q = record {
  told = q.told ∙ p.told;
  all = λ t. took_all_then a.stream b.stream c.stream x y (p.all t) (q.all (subst IsTrue (sym p.told) t));
  made = made_then n m a.reads b.reads c.reads p.made q.made;
}

pub wrote_none : (a : Outgoing) → Wrote a a []
wrote_none a = record { told = refl; all = λ t. sym (append-nil a.written); same = refl; spent = omega arith }

pub wrote_then : (a b c : Outgoing) (x y : List ℕ) → Wrote a b x → Wrote b c y → Wrote a c (x ++ y)
wrote_then a b c x y p q = record {
  told = q.told ∙ p.told;
  all = λ t. q.all (subst IsTrue (sym p.told) t) ∙ ap (λ (w : List ℕ). w ++ y) (p.all t) ∙ append_assoc a.written x y;
  same = q.same ∙ p.same;
  spent = (let lengths = length-append x y in omega (arith, lengths, p.spent, q.spent));
}

failed_then : (f g h : ℕ) → g ≡ f → FailedOnce g h → FailedOnce f h
failed_then f g h e x = subst (λ (n : ℕ). FailedOnce n h) e x

pub part_then : (a b c : Outgoing) (x y whole : List ℕ) → Wrote a b x → WrotePart b c y whole → WrotePart a c (x ++ y) whole
part_then a b c x y whole p q = record {
  told = q.told ∙ p.told;
  count = q.count;
  part = q.part;
  all = λ t. q.all (subst IsTrue (sym p.told) t)
      ∙ ap (λ (w : List ℕ). (w ++ y) ++ take q.count whole) (p.all t)
      ∙ ap (λ (w : List ℕ). w ++ take q.count whole) (append_assoc a.written x y);
  failed = failed_then a.faults b.faults c.faults p.same q.failed;
  spent = (let lengths = length-append x y in omega (arith, lengths, p.spent, q.spent));
}

-- n bytes more of a piece were written
pub wrote_more : (w0 w1 w2 bytes : List ℕ) (at n : ℕ) → w1 ≡ w0 ++ take at bytes
    → w2 ≡ w1 ++ take n (take (length bytes - at) (drop at bytes)) → w2 ≡ w0 ++ take (at + n) bytes
wrote_more w0 w1 w2 bytes at n before e =
    let whole : take (length bytes - at) (drop at bytes) ≡ drop at bytes = take_all _ _ (omega (arith, length-drop at bytes)) in
    e ∙ rw (whole, before, append_assoc, take-add at n bytes) refl

-- a piece after a first part
pub wrote_piece : (a b c : Outgoing) (bytes : List ℕ) (at n : ℕ) → at ≤ length bytes → Wrote a b (take at bytes) → c.tells ≡ b.tells
    → (IsTrue b.tells → c.written ≡ b.written ++ take n (take (length bytes - at) (drop at bytes))) → c.faults ≡ b.faults → b.sure ≤ c.sure + n
    → n ≤ length (take (length bytes - at) (drop at bytes)) → Wrote a c (take (at + n) bytes)
wrote_piece a b c bytes at n within x told all same spent few =
    let rest = length-take (length bytes - at) (drop at bytes) in
    let left = length-drop at bytes in
    let first = length-take at bytes in
    let both = length-take (at + n) bytes in
    record {
      told = told ∙ x.told;
      all = λ t. wrote_more a.written b.written c.written bytes at n (x.all t) (all (subst IsTrue (sym x.told) t));
      same = same ∙ x.same;
      spent = omega (arith, rest, left, first, both, x.spent);
    }
