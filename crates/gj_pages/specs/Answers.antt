-- What a follower answers to lines. Own: the texts.
use Rattle.std.specs.Prelude.{ℕ, List, [], ◌∷◌, ◌++◌, codes, Option, Some, None, Result, Ok, Err}
use Rattle.std.specs.Fmt.{decimal}
use Rattle.std.specs.List.{filter_map}
use Rattle.gj_base.specs.declared.history.Shown.{Shown}
use Rattle.gj_base.specs.History.{end_of}
use Rattle.gj_follow.specs.Follows.{after_pages, reach, taken}
use Rattle.gj_follow.specs.Pages.{Paged}
use Rattle.gj_follow.specs.Reading.{reading_of, tree_of}
use Rattle.gj_follow.specs.declared.follower.PageTaken.{PageTaken}
use Rattle.gj_follow.specs.declared.follower.PageTaken.TheVariants.{Added, Old, Ahead}
use Rattle.gj_follow.specs.declared.reading.PageRefusal.{PageRefusal}
use Rattle.gj_pages.specs.Lines.{lines_of}

-- the page that was read
abbrev pub page_read : Result Paged PageRefusal → Option Paged
page_read (Ok page) = Some page
page_read (Err why) = None

-- the page that a line is; none where it has no reading as JSON or the wrong shape
abbrev pub page_in : List ℕ → Option Paged
page_in line = page_read (reading_of (tree_of line))

-- the pages that lines are, in their order
abbrev pub pages_in : List (List ℕ) → List Paged
pages_in lines = filter_map page_in lines

-- a line of a number
abbrev pub number_line : List ℕ → ℕ → List ℕ
number_line words number = words ++ (decimal number ++ codes "\n")

-- the answer by what became of a page
abbrev pub taken_line : PageTaken → List ℕ
taken_line (Added items) = number_line (codes "added ") items
taken_line Old = codes "old\n"
taken_line Ahead = codes "ahead\n"

-- the answer to a page, or to a line that is none, at the length n
abbrev pub answer_at : ℕ → Option Paged → List ℕ
answer_at n None = codes "bad\n"
answer_at n (Some page) = taken_line (taken n page)

-- the answers to lines from the length n on, each at the length that the pages in the lines before it reach
abbrev pub answers : ℕ → List (List ℕ) → List ℕ
answers n [] = []
answers n (line ∷ lines) = answer_at n (page_in line) ++ answers (reach n (pages_in (line ∷ []))) lines

-- the line at the end of the input
abbrev pub last_line : Shown → List ℕ
last_line shown = codes "length " ++ (decimal (end_of shown) ++ number_line (codes " base ") shown.first)

-- all that is written for an input that ends between lines
abbrev pub text_of : Shown → List ℕ → List ℕ
text_of shown input = answers (end_of shown) (lines_of input) ++ last_line (after_pages shown (pages_in (lines_of input)))
