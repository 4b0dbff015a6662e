-- What the end of a run says of its input, its faults and its reads.
use Rattle.std.proofs.Common.{◌≡◌, ◌≢◌, inl, inr, ℕ, ◌+◌, ◌<◌, ◌≤◌, ◌∙◌, ◌||◌, cond, Bool, true, false, IsTrue, List, [], ◌∷◌, ◌++◌, length, take, refl, ap, sym, subst, arith, append-nil, length-append, length-take}
use Rattle.std.specs.List.{All, list_any}
use Rattle.gj_base.specs.declared.history.History.{History}
use Rattle.gj_base.specs.declared.history.Shown.{Shown}
use Rattle.gj_base.specs.Causes.{Rose, RoseBy}
use Rattle.gj_base.specs.History.{StandsFor, end_of}
use Rattle.gj_base.specs.Stream.{Reading}
use Rattle.gj_follow.specs.Follows.{IsOf, after_pages, part, reach}
use Rattle.gj_pages.specs.Answers.{answer_at, answers, last_line, page_in, pages_in, text_of}
use Rattle.gj_pages.specs.Following.{AreAll, BeforeLong, Ended, Ends, FailedReads, Followed, IsAll, IsByInput, IsTurned}
use Rattle.gj_pages.specs.Lines.{end_by, end_of_rest, has_long, is_long, lines_of, rest_of}
use Rattle.gj_base.specs.Streams.{Incoming, Outgoing, TookAll, Wrote, WrotePart}
use Rattle.gj_pages.specs.declared.end.FollowEnd.{FollowEnd}
use Rattle.gj_pages.specs.declared.end.FollowEnd.TheVariants.{Done, Truncated, LongLine, TooManyReads, ReadFault, WriteFault, Memory}
use Rattle.gj_pages.proofs.LineLemmas.{any_long, has_long_parts, long_more}

-- what the end says of what went out
pub record GoneOut (end : FollowEnd) (a b : Outgoing) : Type 0 where
  pub told : b.tells ≡ a.tells
  pub later : a.faults ≤ b.faults
  pub rose : end ≡ WriteFault → Rose a.faults b.faults
  pub same : end ≢ WriteFault → b.faults ≡ a.faults
  pub room : IsTrue a.tells → end ≡ WriteFault → a.sure + length a.written ≤ length b.written

gone_whole : (end : FollowEnd) (a b : Outgoing) (bytes : List ℕ) → end ≢ WriteFault → Wrote a b bytes → GoneOut end a b
gone_whole end a b bytes never x = record {
  told = x.told;
  later = omega (arith, x.same);
  rose = λ e. absurd (never e);
  same = λ _. x.same;
  room = λ t e. absurd (never e);
}

gone_part : (a b : Outgoing) (bytes whole : List ℕ) → WrotePart a b bytes whole → GoneOut WriteFault a b
gone_part a b bytes whole x = record {
  told = x.told;
  later = x.failed.later;
  rose = λ e. omega (arith, x.failed.once);
  same = λ never. absurd (never refl);
  room = λ t e. (let all = ap length (x.all t) in
      omega (arith, all, length-append (a.written ++ bytes) (take x.count whole), length-append a.written bytes, length-take x.count whole, x.part, x.spent));
}

pub gone : (end : FollowEnd) (n : ℕ) (s : Shown) (a b : Outgoing) (bytes : List ℕ) (lines : List (List ℕ)) → Ends end n s a b bytes lines → GoneOut end a b
gone Done n s a b bytes lines x = gone_whole Done a b (answers n lines ++ last_line s) (λ e. cc) x.2
gone Truncated n s a b bytes lines x = gone_whole Truncated a b (answers n lines) (λ e. cc) x.2
gone LongLine n s a b bytes lines x = gone_whole LongLine a b (answers n lines) (λ e. cc) x.1
gone TooManyReads n s a b bytes lines x = gone_whole TooManyReads a b (answers n lines) (λ e. cc) x.1
gone ReadFault n s a b bytes lines x = gone_whole ReadFault a b (answers n lines) (λ e. cc) x.1
gone WriteFault n s a b bytes lines (inl x) = gone_part a b (answers n x.done) (answer_at (reach n (pages_in x.done)) (page_in x.last)) x.wrote
gone WriteFault n s a b bytes lines (inr x) = gone_part a b (answers n lines) (last_line s) x.wrote
gone Memory n s a b bytes lines x = gone_whole Memory a b (answers n lines) (λ e. cc) x

-- what the end says of what came in
pub record ComeIn (end : FollowEnd) (a b : Incoming) (turns : ℕ) : Type 0 where
  pub told : b.tells ≡ a.tells
  pub later : a.faults ≤ b.faults
  pub rose : end ≡ ReadFault → Rose a.faults b.faults
  pub same : end ≢ ReadFault → b.faults ≡ a.faults
  pub reads : b.reads ≤ a.reads + turns
  pub turned : end ≡ TooManyReads → RoseBy turns a.reads b.reads
  pub short : IsTrue a.tells → length a.stream.left < turns → end ≢ TooManyReads

-- the part of it that is of the faults
record Faults (end : FollowEnd) (f g : ℕ) : Type 0 where
  pub later : f ≤ g
  pub rose : end ≡ ReadFault → Rose f g
  pub same : end ≢ ReadFault → g ≡ f

no_faults : (end : FollowEnd) (f g : ℕ) → end ≢ ReadFault → g ≡ f → Faults end f g
no_faults end f g never e = record { later = omega (arith, e); rose = λ is. absurd (never is); same = λ _. e }

faults_by : (end : FollowEnd) (f g : ℕ) → FailedReads end f g → Faults end f g
faults_by ReadFault f g x = record { later = x.later; rose = λ e. omega (arith, x.once); same = λ never. absurd (never refl) }
faults_by Done f g x = no_faults Done f g (λ e. cc) x
faults_by Truncated f g x = no_faults Truncated f g (λ e. cc) x
faults_by LongLine f g x = no_faults LongLine f g (λ e. cc) x
faults_by TooManyReads f g x = no_faults TooManyReads f g (λ e. cc) x
faults_by WriteFault f g x = no_faults WriteFault f g (λ e. cc) x
faults_by Memory f g x = no_faults Memory f g (λ e. cc) x

turned_by : (end : FollowEnd) (reads turns : ℕ) (bytes : List ℕ) → IsTurned end reads turns bytes → end ≡ TooManyReads → (reads ≡ turns) × (turns ≤ length bytes)
turned_by end reads turns bytes x e = (let here : IsTurned TooManyReads reads turns bytes = subst (λ (y : FollowEnd). IsTurned y reads turns bytes) e x in here)

pub come : (s t : Shown) (a b : Incoming) (c d : Outgoing) (turns : ℕ) (end : FollowEnd) → Followed s t a b c d turns end → ComeIn end a b turns
come s t a b c d turns end x =
    let faults = faults_by end a.faults b.faults x.failed in
    record {
      told = x.took.told;
      later = faults.later;
      rose = faults.rose;
      same = faults.same;
      reads = omega (arith, x.took.made.high, x.few);
      turned = λ e. (let all = (turned_by end x.reads turns x.bytes x.turned e).0 in subst (λ (n : ℕ). RoseBy n a.reads b.reads) all x.took.made.low);
      short = λ t few e.
          let all = (turned_by end x.reads turns x.bytes x.turned e).1 in
          let left = ap length (x.took.all t).left in
          omega (arith, all, left, few, length-append x.bytes b.stream.left);
    }

-- the bytes are the whole input
whole : (bytes : List ℕ) (before after : Reading) → TookAll before after bytes → after.left ≡ [] → before.left ≡ bytes
whole bytes before after took none = took.left ∙ ap (λ (t : List ℕ). bytes ++ t) none ∙ append-nil bytes

-- the end of a text without a longer line
end_short : (text : List ℕ) → has_long text ≡ false → end_by text ≡ end_of_rest (rest_of text)
end_short text short = ap (λ (b : Bool). cond b LongLine (end_of_rest (rest_of text))) short

truncated_by : (rest : List ℕ) → (rest ≡ [] → ⊥) → Truncated ≡ end_of_rest rest
truncated_by [] some = absurd (some refl)
truncated_by (x ∷ rest) some = refl

by_bytes : (end : FollowEnd) (n : ℕ) (s : Shown) (a b : Outgoing) (bytes : List ℕ) (lines : List (List ℕ)) (before after : Reading)
    → IsByInput end → Ends end n s a b bytes lines → TookAll before after bytes → IsAll end after.left → end ≡ end_by before.left
by_bytes Done n s a b bytes lines before after by x took none =
    ap end_of_rest (sym x.1) ∙ sym (end_short bytes x.0.short) ∙ ap end_by (sym (whole bytes before after took none))
by_bytes Truncated n s a b bytes lines before after by x took none =
    truncated_by (rest_of bytes) x.1 ∙ sym (end_short bytes x.0.short) ∙ ap end_by (sym (whole bytes before after took none))
by_bytes LongLine n s a b bytes lines before after by x took none =
    let here : has_long bytes ≡ true = sym (has_long_parts bytes) ∙ ap (list_any is_long) x.0.parts ∙ any_long lines x.0.longer x.0.others x.0.long in
    let there : has_long before.left ≡ true = ap has_long took.left ∙ long_more bytes after.left here in
    ap (λ (b : Bool). cond b LongLine (end_of_rest (rest_of before.left))) (sym there)
by_bytes TooManyReads n s a b bytes lines before after by x took none = absurd by
by_bytes ReadFault n s a b bytes lines before after by x took none = absurd by
by_bytes WriteFault n s a b bytes lines before after by x took none = absurd by
by_bytes Memory n s a b bytes lines before after by x took none = absurd by

-- the end is a function of the whole input
pub ends_by_input : (s t : Shown) (i j : Incoming) (a b : Outgoing) (turns : ℕ) (end : FollowEnd) → Followed s t i j a b turns end → IsTrue i.tells → IsByInput end → end ≡ end_by i.stream.left
ends_by_input s t i j a b turns end x tells by = by_bytes end (end_of s) t a b x.bytes x.ended.lines i.stream j.stream by x.ended.ends (x.took.all tells) (x.all tells)

-- what is known where the whole input was taken and answered
pub record AllDone (s t : Shown) (input : List ℕ) (a b : Outgoing) : Type 0 where
  pub wrote : IsTrue a.tells → b.written ≡ a.written ++ text_of s input
  pub stands : (h : History) (start : ℕ) → h.first ≤ start → All (IsOf h) (pages_in (lines_of input)) → StandsFor s (part h start (end_of s))
      → StandsFor t (part h start (reach (end_of s) (pages_in (lines_of input))))

done_bytes : (s t : Shown) (i j : Incoming) (a b : Outgoing) (turns : ℕ) → Followed s t i j a b turns Done → IsTrue i.tells → AllDone s t i.stream.left a b
done_bytes s t i j a b turns x tells =
    let e : i.stream.left ≡ x.bytes = whole x.bytes i.stream j.stream (x.took.all tells) (x.all tells) in
    let lines : lines_of i.stream.left ≡ x.ended.lines = ap lines_of e ∙ x.ended.ends.0.all in
    let text : answers (end_of s) x.ended.lines ++ last_line t ≡ text_of s i.stream.left =
    ap (λ (w : Shown). answers (end_of s) x.ended.lines ++ last_line w) x.ended.grown.shows
    ∙ ap (λ (ls : List (List ℕ)). answers (end_of s) ls ++ last_line (after_pages s (pages_in ls))) (sym lines) in
    record {
      wrote = λ told. x.ended.ends.2.all told ∙ ap (λ (w : List ℕ). a.written ++ w) text;
      stands = λ h start first of stands.
          let P : List (List ℕ) → Type 0 = λ ls. StandsFor t (part h start (reach (end_of s) (pages_in ls))) in
          let Q : List (List ℕ) → Type 0 = λ ls. All (IsOf h) (pages_in ls) in
          subst P (sym lines) (x.ended.grown.stands h start first (subst Q lines of) stands);
    }

pub all_done : (s t : Shown) (i j : Incoming) (a b : Outgoing) (turns : ℕ) (end : FollowEnd) → Followed s t i j a b turns end → IsTrue i.tells → end ≡ Done → AllDone s t i.stream.left a b
all_done s t i j a b turns end x tells e = done_bytes s t i j a b turns (subst (Followed s t i j a b turns) e x) tells
