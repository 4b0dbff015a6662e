use Rattle.std.proofs.Common.{◌≡◌, ℕ, take, ap, ◌∙◌, inl, sym, refl}
use Rattle.std.proofs.lemmas.List.{take_min, take_rest}
use Rattle.gj_http.specs.Cut.{empty_lines, reach, head_end}
use Rattle.gj_http.proofs.FrontLemmas.{head_length_is}
use Rattle.gj_http.proofs.HintLemmas.{wants_here, hint_seen, passed_seen, search_hint}
use Rattle.gj_http.proofs.front.look.Goals as goal

pub returns-then-bytes-hint : goal.returns-then-bytes-hint
returns-then-bytes-hint c = (wants_here c.args.bytes.now c.args.hint c.requires c.if-bytes-hint.true, c.requires)

pub lines_in-start-requires : goal.lines_in-start-requires
lines_in-start-requires c =
    let same : take c.min.result c.args.bytes.now ≡ reach c.args.bytes.now = ap (λ (k : ℕ). take k c.args.bytes.now) c.min.ensures ∙ take_min 8192 c.args.bytes.now in
    hint_seen c.args.bytes.now _ c.args.hint same c.requires

pub head_end_in-requires-clause-end : goal.head_end_in-requires-clause-end
head_end_in-requires-clause-end c =
    let seen = take c.min.result c.args.bytes.now in
    let same : seen ≡ reach c.args.bytes.now = ap (λ (k : ℕ). take k c.args.bytes.now) c.min.ensures ∙ take_min 8192 c.args.bytes.now in
    passed_seen seen _ c.lines_in-start.result c.args.hint (hint_seen c.args.bytes.now seen c.args.hint same c.requires)
    c.lines_in-start.ensures.exact (take_rest seen c.lines_in-start.result)

pub look_past-requires-clause-start : goal.look_past-requires-clause-start
look_past-requires-clause-start c =
    let same : take c.min.result c.args.bytes.now ≡ reach c.args.bytes.now = ap (λ (k : ℕ). take k c.args.bytes.now) c.min.ensures ∙ take_min 8192 c.args.bytes.now in
    c.lines_in-start.ensures.exact ∙ ap empty_lines same

pub look_past-requires-clause-size : goal.look_past-requires-clause-size
look_past-requires-clause-size c =
    let seen = take c.min.result c.args.bytes.now in
    let same : seen ≡ reach c.args.bytes.now = ap (λ (k : ℕ). take k c.args.bytes.now) c.min.ensures ∙ take_min 8192 c.args.bytes.now in
    head_length_is c.args.bytes.now seen _ _ same c.lines_in-start.ensures.exact
    (ap head_end (sym (take_rest seen c.lines_in-start.result)) ∙ sym c.in-Some.ensures.exact)

pub returns-then-bytes-lt-MAX_HEAD : goal.returns-then-bytes-lt-MAX_HEAD
returns-then-bytes-lt-MAX_HEAD c =
    let seen = take c.min.result c.args.bytes.now in
    let same : seen ≡ reach c.args.bytes.now = ap (λ (k : ℕ). take k c.args.bytes.now) c.min.ensures ∙ take_min 8192 c.args.bytes.now in
    let open_ended = head_length_is c.args.bytes.now seen _ _ same c.lines_in-start.ensures.exact
    (ap head_end (sym (take_rest seen c.lines_in-start.result)) ∙ sym c.in-None.ensures.exact) in (
      inl (record { open_ended = open_ended; short = c.if-bytes-lt-MAX_HEAD.true }),
      search_hint c.args.bytes.now _ c.if-bytes-lt-MAX_HEAD.true (c.lines_in-start.ensures.exact ∙ ap empty_lines same)
          c.saturating_sub.ensures refl open_ended,
    )

pub returns-else-bytes-lt-MAX_HEAD : goal.returns-else-bytes-lt-MAX_HEAD
returns-else-bytes-lt-MAX_HEAD c =
    let seen = take c.min.result c.args.bytes.now in
    let same : seen ≡ reach c.args.bytes.now = ap (λ (k : ℕ). take k c.args.bytes.now) c.min.ensures ∙ take_min 8192 c.args.bytes.now in
    inl (record {
      why_is = refl;
      open_ended = head_length_is c.args.bytes.now seen _ _ same c.lines_in-start.ensures.exact
          (ap head_end (sym (take_rest seen c.lines_in-start.result)) ∙ sym c.in-None.ensures.exact);
      full = c.if-bytes-lt-MAX_HEAD.false;
    })
