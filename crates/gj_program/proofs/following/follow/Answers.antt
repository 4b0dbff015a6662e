use Rattle.std.proofs.Common.{◌≡◌, ◌∙◌, ℕ, ap, arith, subst, sym}
use Rattle.gj_base.specs.History.{StandsFor, empty_shown, end_of}
use Rattle.gj_follow.specs.Follows.{part, reach}
use Rattle.gj_pages.specs.Answers.{pages_in}
use Rattle.gj_pages.specs.Lines.{lines_of}
use Rattle.gj_program.proofs.FollowLemmas.{end_of_read, end_of_turns, end_of_write, follows_not}
use Rattle.gj_program.proofs.following.follow.Goals as goal

pub returns-in_default-clause-does : goal.returns-in_default-clause-does
returns-in_default-clause-does g c = follows_not c.args.conf c.args.start _ _

pub returns-clause-does : goal.returns-clause-does
returns-clause-does g c =
    let is : c.in-Ok.follower ≡ empty_shown c.args.conf c.args.start = c.in-Ok.ensures.exact in
    let begins : end_of (empty_shown c.args.conf c.args.start) ≡ c.args.start = omega arith in
    let lines = c.follow_lines.ensures in
    let left = c.follow_lines.new.follower in
    let pages = pages_in (lines_of (g.S.Source.stream c.args.input.now).left) in
    record {
      end = c.follow_lines.result;
      status_is = c.status_of_follow.ensures.exact;
      left = left;
      followed = rw is at lines.followed;
      by_input = lines.by_input;
      wrote = rw is at lines.wrote;
      stands = λ h told e low all.
          subst (λ (n : ℕ). StandsFor left (part h c.args.start (reach n pages))) (ap end_of is ∙ begins)
          (lines.stands h c.args.start told e low all (c.in-Ok.ensures.stands h));
    }

pub returns-clause-local : goal.returns-clause-local
returns-clause-local g c = c.status_of_follow.ensures.local

pub returns-clause-causes : goal.returns-clause-causes
returns-clause-causes g c =
    let is = sym c.status_of_follow.ensures.exact in
    let lines = c.follow_lines.ensures in
    record {
      read = λ e. lines.read_cause (end_of_read _ (is ∙ e));
      write = λ e. lines.write_cause (end_of_write _ (is ∙ e));
      steady = λ sure e. lines.steady sure (end_of_read _ (is ∙ e));
      short = λ told few e. lines.short told (omega (arith, few)) (end_of_turns _ (is ∙ e));
    }

pub returns-clause-room : goal.returns-clause-room
returns-clause-room g c = λ told e. c.follow_lines.ensures.room told (end_of_write _ (sym c.status_of_follow.ensures.exact ∙ e))
