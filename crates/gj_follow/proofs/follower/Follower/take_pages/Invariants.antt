use Rattle.std.proofs.Common.{◌≡◌, ℕ, ◌≤◌, drop}
use Rattle.std.specs.List.{All}
use Rattle.gj_base.specs.declared.history.History.{History}
use Rattle.gj_base.specs.History.{StandsFor, end_of}
use Rattle.gj_follow.specs.Follows.{IsOf, after_pages, part, reach}
use Rattle.gj_follow.proofs.follower.Follower.take_pages.Given as goal

-- what was reached, and that it stands for this much of every history of the pages
abbrev pub invariant-loop-page : goal.invariant-loop-page
invariant-loop-page g l =
    record {
      shows : after_pages l.self (drop l.page-index l.pages) ≡ after_pages l.initial.self l.pages;
      reaches : reach (end_of l.self) (drop l.page-index l.pages) ≡ reach (end_of l.initial.self) l.pages;
      later : end_of l.initial.self ≤ end_of l.self;
      stands : (h : History) (start : ℕ) → h.first ≤ start → All (IsOf h) l.pages → StandsFor l.initial.self (part h start (end_of l.initial.self)) → StandsFor l.self (part h start (end_of l.self));
    }
