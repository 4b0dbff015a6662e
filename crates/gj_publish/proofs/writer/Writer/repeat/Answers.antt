use Rattle.std.proofs.Common.{◌≡◌, ◌≤◌, refl, sym, ap, ◌∙◌, subst, arith}
use Rattle.gj_base.specs.declared.item.Receipt.{Receipt}
use Rattle.gj_base.specs.History.{Begins, length_of}
use Rattle.gj_publish.specs.Writers.{all_shown}
use Rattle.gj_publish.proofs.Histories.{begins_same}
use Rattle.gj_publish.proofs.Unmet.{unmet_no}
use Rattle.gj_publish.proofs.writer.Writer.repeat.Goals as goal

pub returns-in-Err : goal.returns-in-Err
returns-in-Err g c =
    let is = c.in-Err.ensures in record {
      answers = is.unmet;
      repeated = tt;
      repeat_unseen = λ r e. cc e;
      began = tt;
      err = refl;
      no_look = λ why e. is.no_look why (cc e);
      short = λ seen shown e. is.short seen shown (cc e);
      apart = λ seen shown posted counted e. let it = is.apart seen shown posted counted (cc e) in (refl, it.0, it.1, it.2, it.3, it.4, it.5);
      together = unmet_no c.in-Err.why _ is.unmet;
      told = unmet_no c.in-Err.why _ is.unmet;
      within = unmet_no c.in-Err.why _ is.unmet;
      front = is.front;
      numbers = is.numbers;
      others = is.others;
    }

pub returns-then-not-show_owed : goal.returns-then-not-show_owed
returns-then-not-show_owed g c =
    let met = c.in-Ok.ensures in
    let is = c.show_owed.ensures.same in
    let same : c.show_owed.new.self ≡ c.args.self.now = λ i. record { start = is.3 i; published = c.if-not-show_owed.ensures.shown i; accepted = is.0 i; noted = is.1 i; ready = is.2 i; kept = is.4 i; faults = is.5 i; steady = is.6 i } in record {
      answers = refl;
      repeated = tt;
      repeat_unseen = λ r e. let its : c.args.receipt ≡ r = cc e in (same, subst (λ (q : Receipt). q.to ≤ length_of c.args.self.now.accepted) its c.requires.within);
      began = tt;
      err = same;
      no_look = λ why e. cc e;
      short = λ seen shown e. cc e;
      apart = λ seen shown posted counted e. cc e;
      together = met.ok.1;
      told = begins_same c.args.self.now.published c.meet.new.seat.front (sym met.ok.0);
      within = omega (arith, ap length_of met.ok.0);
      front = met.front;
      numbers = met.numbers;
      others = met.others;
    }

pub returns : goal.returns
returns g c =
    let met = c.in-Ok.ensures in
    let is = c.show_owed.ensures.same in
    let all : c.show_owed.new.self ≡ all_shown c.args.self.now = λ i. record { start = is.3 i; published = c.if-not-show_owed.ensures.shown i; accepted = is.0 i; noted = is.1 i; ready = is.2 i; kept = is.4 i; faults = is.5 i; steady = is.6 i } in
    let shown : c.self.inside.shown ≡ c.args.self.now.accepted = ap (λ v. v.published) c.self.view_is ∙ c.if-not-show_owed.ensures.shown in
    let seen : c.catch_up.new.self.front ≡ c.args.self.now.accepted = ap (λ v. v.front) c.catch_up.ensures ∙ shown in
    let posted : c.catch_up.new.self.posted ≡ c.args.seat.now.posted = ap (λ v. v.posted) c.catch_up.ensures ∙ met.others.1 in
    let told : Begins c.args.self.now.published c.catch_up.new.self.front = subst (Begins c.args.self.now.published) (sym seen) c.length.ensures.prefix in
    let front : Begins c.args.seat.now.front c.catch_up.new.self.front = subst (Begins c.args.seat.now.front) (sym seen) met.began in record {
      answers = refl;
      repeated = (all, seen, omega (arith, ap length_of seen, c.requires.within), posted);
      repeat_unseen = tt;
      began = met.began;
      err = tt;
      no_look = tt;
      short = tt;
      apart = tt;
      together = met.ok.1;
      told = told;
      within = tt;
      front = front;
      numbers = ap (λ v. v.numbers) c.catch_up.ensures ∙ met.numbers;
      others = (ap (λ v. v.number) c.catch_up.ensures ∙ met.others.0, posted);
    }
