use Rattle.std.proofs.Common.{◌≡◌, ◌+◌, ◌∙◌, ap}
use Rattle.gj_base.specs.declared.history.History.{History}
use Rattle.gj_keep.specs.Rows.{opened}
use Rattle.gj_publish.specs.Seats.{SeatView, no_numbers}
use Rattle.gj_publish.proofs.opening.parts_of.Goals as goal

pub returns : goal.returns
returns g c =
    let o : History = opened c.args.rows.now.value.items in
    let is = c.in_ok-seats.ensures in
    let front : c.front-front.result ≡ o = c.front-front.ensures ∙ ap (λ s. s.history) c.in_ok-begun.ensures.scribe in record {
      copies = (c.in_ok-copies.ensures.ok.0, c.in_ok-copies.ensures.ok.1 ∙ front);
      scribe = c.in_ok-begun.ensures.scribe;
      ledger = (c.open-ledger.ensures.total, c.in_ok-begun.ensures.counted);
      once = c.in_ok-begun.ensures.once;
      all = is.all;
      each = λ i d low. let V : History → SeatView = λ f. record { number = i + 1; front = f; posted = 0; numbers = no_numbers } in is.each i d low ∙ ap V front;
      same = is.same;
      err = tt;
      place = tt;
      others = tt;
      later = is.later;
    }
