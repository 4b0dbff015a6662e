-- The reads of a follower, and the whole of its run.
use Rattle.std.proofs.Common.{◌≡◌, inr, ℕ, ◌+◌, ◌<◌, ◌≤◌, ◌∙◌, ◌||◌, Bool, false, IsTrue, List, [], ◌∷◌, ◌++◌, length, refl, ap, sym, subst, arith, append-nil, length-append}
use Rattle.std.specs.List.{list_any}
use Rattle.gj_base.specs.declared.history.Shown.{Shown}
use Rattle.gj_base.specs.History.{end_of}
use Rattle.gj_base.specs.Stream.{Reading}
use Rattle.gj_pages.specs.Answers.{answers, last_line}
use Rattle.gj_pages.specs.Following.{AreAll, Ended, Ends, FailedReads, Followed, IsAll, IsTurned}
use Rattle.gj_pages.specs.Lines.{has_long, is_long, lines_of, rest_of}
use Rattle.gj_pages.specs.Loop.{AtEnd, GoesOn, InRun, IsByLine, TookNone, TookPiece}
use Rattle.gj_base.specs.Streams.{Incoming, Outgoing, FailedOnce, TookAll, Took, Wrote, WrotePart}
use Rattle.gj_pages.specs.declared.end.FollowEnd.{FollowEnd}
use Rattle.gj_pages.specs.declared.end.FollowEnd.TheVariants.{Done, Truncated, LongLine, TooManyReads, ReadFault, WriteFault, Memory}
use Rattle.gj_pages.proofs.GoingLemmas.{goes_none}
use Rattle.gj_pages.proofs.LineLemmas.{not_long}
use Rattle.gj_base.proofs.StreamLemmas.{part_then, took_none, took_then, wrote_then}

-- no read was made yet
pub run_none : (a : Shown) (i : Incoming) (o : Outgoing) (held : List ℕ) → length held ≤ 0 → InRun a a i i o o held 0
run_none a i o held none = record {
  bytes = [];
  took = took_none i;
  same = refl;
  goes = goes_none a o held (empty_by_length held (omega arith));
  many = omega arith;
}
  where
    empty_by_length : (xs : List ℕ) → length xs ≡ 0 → xs ≡ []
    empty_by_length [] e = refl
    empty_by_length (x ∷ xs) e = absurd (omega arith)

-- a piece was taken, and its lines answered
pub run_more : (a b c : Shown) (i j k : Incoming) (o p q : Outgoing) (held holds piece : List ℕ) (at : ℕ) → InRun a b i j o p held at → TookPiece j k piece → (length piece ≡ 0 → ⊥)
    → ((a : Shown) (o : Outgoing) (bytes : List ℕ) → GoesOn a b o p bytes held → GoesOn a c o q (bytes ++ piece) holds) → InRun a c i k o q holds (at + 1)
run_more a b c i j k o p q held holds piece at x fed some goes = record {
  bytes = x.bytes ++ piece;
  took = took_then i j k x.bytes piece at 1 x.took fed.took;
  same = fed.same ∙ x.same;
  goes = goes a o x.bytes x.goes;
  many = omega (arith, length-append x.bytes piece, x.many);
}

line_all : (end : FollowEnd) (left : List ℕ) → IsByLine end → IsAll end left
line_all LongLine left h = tt
line_all WriteFault left h = tt
line_all Memory left h = tt
line_all Done left h = absurd h
line_all Truncated left h = absurd h
line_all ReadFault left h = tt
line_all TooManyReads left h = tt

line_turned : (end : FollowEnd) (reads turns : ℕ) (bytes : List ℕ) → IsByLine end → IsTurned end reads turns bytes
line_turned LongLine reads turns bytes h = tt
line_turned WriteFault reads turns bytes h = tt
line_turned Memory reads turns bytes h = tt
line_turned Done reads turns bytes h = tt
line_turned Truncated reads turns bytes h = tt
line_turned ReadFault reads turns bytes h = tt
line_turned TooManyReads reads turns bytes h = absurd h

line_same : (end : FollowEnd) (f g : ℕ) → IsByLine end → g ≡ f → FailedReads end f g
line_same LongLine f g h e = e
line_same WriteFault f g h e = e
line_same Memory f g h e = e
line_same Done f g h e = e
line_same Truncated f g h e = e
line_same ReadFault f g h e = absurd h
line_same TooManyReads f g h e = e

-- a piece was taken, and a line in it ended the run
pub followed_line : (a b c : Shown) (i j k : Incoming) (o p q : Outgoing) (held piece : List ℕ) (at turns : ℕ) (end : FollowEnd) → InRun a b i j o p held at → TookPiece j k piece → at < turns
    → ((a : Shown) (o : Outgoing) (bytes : List ℕ) → GoesOn a b o p bytes held → Ended a c o q (bytes ++ piece) end) → IsByLine end → Followed a c i k o q turns end
followed_line a b c i j k o p q held piece at turns end x fed turn ended by = record {
  bytes = x.bytes ++ piece;
  reads = at + 1;
  took = took_then i j k x.bytes piece at 1 x.took fed.took;
  few = omega arith;
  turned = line_turned end (at + 1) turns (x.bytes ++ piece) by;
  all = λ t. line_all end k.stream.left by;
  failed = line_same end i.faults k.faults by (fed.same ∙ x.same);
  ended = ended a o x.bytes x.goes;
}

-- the lines are all, and none is long
all_of : (a b : Shown) (o p : Outgoing) (bytes held : List ℕ) → (x : GoesOn a b o p bytes held) → AreAll bytes x.lines
all_of a b o p bytes held x = record {
  all = x.are;
  short =
      ap (λ (ls : List (List ℕ)). list_any is_long ls || is_long (rest_of bytes)) x.are ∙ ap (λ (t : Bool). t || is_long (rest_of bytes)) x.short
      ∙ ap is_long x.rest ∙ not_long held x.few;
}

-- where a follower goes on, it may end so
ends_here : (end : FollowEnd) (a b : Shown) (o p q : Outgoing) (bytes held : List ℕ) → (x : GoesOn a b o p bytes held)
    → ((lines : List (List ℕ)) → AreAll bytes lines → Wrote o p (answers (end_of a) lines) → Ends end (end_of a) b o q bytes lines) → Ended a b o q bytes end
ends_here end a b o p q bytes held x how = record {
  lines = x.lines;
  later = [];
  front = x.are ∙ sym (append-nil x.lines);
  short = x.short;
  grown = x.grown;
  ends = how x.lines (all_of a b o p bytes held x) x.wrote;
}

-- a read failed
pub followed_fault : (a b : Shown) (i j k : Incoming) (o p : Outgoing) (held : List ℕ) (at turns : ℕ) → InRun a b i j o p held at → TookNone j k → at < turns
    → Followed a b i k o p turns ReadFault
followed_fault a b i j k o p held at turns x none turn = record {
  bytes = x.bytes;
  reads = at + 1;
  took = subst (λ (t : List ℕ). Took i k t (at + 1)) (append-nil x.bytes) (took_then i j k x.bytes [] at 1 x.took none.took);
  few = omega arith;
  turned = tt;
  all = λ t. tt;
  failed = subst (λ (f : ℕ). FailedOnce f k.faults) x.same none.failed;
  ended = ends_here ReadFault a b o p p x.bytes held x.goes (λ lines all wrote. (all, wrote));
}

-- as many reads were made as are allowed
pub followed_turns : (a b : Shown) (i j : Incoming) (o p : Outgoing) (held : List ℕ) (at turns : ℕ) → InRun a b i j o p held at → at ≡ turns
    → Followed a b i j o p turns TooManyReads
followed_turns a b i j o p held at turns x here = record {
  bytes = x.bytes;
  reads = at;
  took = x.took;
  few = omega arith;
  turned = (here, omega (arith, x.many));
  all = λ t. tt;
  failed = x.same;
  ended = ends_here TooManyReads a b o p p x.bytes held x.goes (λ lines all wrote. (all, wrote));
}

-- no memory was found for the line's room
pub followed_lack : (a : Shown) (i : Incoming) (o : Outgoing) (turns : ℕ) → Followed a a i i o o turns Memory
followed_lack a i o turns = record {
  bytes = [];
  reads = 0;
  took = took_none i;
  few = omega arith;
  turned = tt;
  all = λ t. tt;
  failed = refl;
  ended = ends_here Memory a a o o o [] [] (goes_none a o [] refl) (λ lines all wrote. wrote);
}

end_all : (end : FollowEnd) (b : Shown) (p q : Outgoing) (held left : List ℕ) → AtEnd end b p q held → left ≡ [] → IsAll end left
end_all Done b p q held left h e = e
end_all Truncated b p q held left h e = e
end_all WriteFault b p q held left h e = tt
end_all LongLine b p q held left h e = tt
end_all Memory b p q held left h e = tt
end_all ReadFault b p q held left h e = tt
end_all TooManyReads b p q held left h e = tt

end_turned : (end : FollowEnd) (b : Shown) (p q : Outgoing) (held : List ℕ) (reads turns : ℕ) (bytes : List ℕ) → AtEnd end b p q held → IsTurned end reads turns bytes
end_turned Done b p q held reads turns bytes h = tt
end_turned Truncated b p q held reads turns bytes h = tt
end_turned WriteFault b p q held reads turns bytes h = tt
end_turned LongLine b p q held reads turns bytes h = tt
end_turned Memory b p q held reads turns bytes h = tt
end_turned ReadFault b p q held reads turns bytes h = tt
end_turned TooManyReads b p q held reads turns bytes h = absurd h

end_same : (end : FollowEnd) (b : Shown) (p q : Outgoing) (held : List ℕ) (f g : ℕ) → AtEnd end b p q held → g ≡ f → FailedReads end f g
end_same Done b p q held f g h e = e
end_same Truncated b p q held f g h e = e
end_same WriteFault b p q held f g h e = e
end_same LongLine b p q held f g h e = e
end_same Memory b p q held f g h e = e
end_same ReadFault b p q held f g h e = absurd h
end_same TooManyReads b p q held f g h e = e

-- what a follower writes where its input ends
end_ends : (end : FollowEnd) (n : ℕ) (b : Shown) (o p q : Outgoing) (bytes held : List ℕ) (lines : List (List ℕ)) → rest_of bytes ≡ held → AtEnd end b p q held
    → AreAll bytes lines → Wrote o p (answers n lines) → Ends end n b o q bytes lines
end_ends Done n b o p q bytes held lines rest h all wrote = (all, rest ∙ h.0, wrote_then o p q (answers n lines) (last_line b) wrote h.1)
end_ends Truncated n b o p q bytes held lines rest h all wrote = (all, λ none. h.0 (sym rest ∙ none), subst (λ (s : Outgoing). Wrote o s (answers n lines)) (sym h.1) wrote)
end_ends WriteFault n b o p q bytes held lines rest h all wrote = inr (record {
  all = all;
  between = rest ∙ h.0;
  wrote = subst (λ (t : List ℕ). WrotePart o q t (last_line b)) (append-nil (answers n lines)) (part_then o p q (answers n lines) [] (last_line b) wrote h.1);
})
end_ends LongLine n b o p q bytes held lines rest h all wrote = absurd h
end_ends Memory n b o p q bytes held lines rest h all wrote = absurd h
end_ends ReadFault n b o p q bytes held lines rest h all wrote = absurd h
end_ends TooManyReads n b o p q bytes held lines rest h all wrote = absurd h

nothing_left : (mid last : Reading) (piece : List ℕ) → piece ≡ [] → TookAll mid last piece → mid.left ≡ [] → last.left ≡ []
nothing_left mid last piece none took e = ap (λ (t : List ℕ). t ++ last.left) (sym none) ∙ sym took.left ∙ e

-- the input ended
pub followed_end : (a b : Shown) (i j k : Incoming) (o p q : Outgoing) (held piece : List ℕ) (at turns : ℕ) (end : FollowEnd) → InRun a b i j o p held at → TookPiece j k piece → piece ≡ [] → at < turns
    → AtEnd end b p q held → Followed a b i k o q turns end
followed_end a b i j k o p q held piece at turns end x fed none turn how = record {
  bytes = x.bytes;
  reads = at + 1;
  took = subst (λ (t : List ℕ). Took i k t (at + 1)) (append-nil x.bytes) (took_then i j k x.bytes [] at 1 x.took (subst (λ (t : List ℕ). Took j k t 1) none fed.took));
  few = omega arith;
  turned = end_turned end b p q held (at + 1) turns x.bytes how;
  all = λ t. (let here = subst IsTrue (sym x.took.told) t in
      end_all end b p q held k.stream.left how (nothing_left j.stream k.stream piece none (fed.took.all here) (fed.end here none)));
  failed = end_same end b p q held i.faults k.faults how (fed.same ∙ x.same);
  ended = ends_here end a b o p q x.bytes held x.goes (λ lines all wrote. end_ends end (end_of a) b o p q x.bytes held lines x.goes.rest how all wrote);
}
