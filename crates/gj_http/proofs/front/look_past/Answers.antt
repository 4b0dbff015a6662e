use Rattle.std.proofs.Common.{◌≡◌, ◌+◌, ◌-◌, Ok, arith, refl, sym, ap, ◌∙◌}
use Rattle.gj_http.proofs.BoundLemmas.{head_length-within, body_length-le}
use Rattle.gj_http.proofs.SpanLemmas.{begins_with, refused_from_bad, needs_more_from_short, found_from_whole}
use Rattle.gj_http.proofs.HintLemmas.{body_hint}
use Rattle.gj_http.proofs.front.look_past.Goals as goal

pub overflow_add-end : goal.overflow_add-end
overflow_add-end c =
    let ok = c.in-Ok.ensures.ok in
    omega (
      arith,
      (head_length-within c.args.bytes.now c.args.size c.requires.size).0,
      c.requires.start,
      body_length-le ok.0 c.in-Ok.asked.length ok.2.stated,
    )

pub returns-in-Err : goal.returns-in-Err
returns-in-Err c =
    refused_from_bad c.args.bytes.now c.args.start c.args.size c.in-Err.why c.requires.start c.requires.size c.in-Err.ensures.err

pub returns-then-bytes-end : goal.returns-then-bytes-end
returns-then-bytes-end c =
    let ok = c.in-Ok.ensures.ok in
    let n = c.args.start + c.args.size in
    let rest : n + c.in-Ok.asked.length - n ≡ c.in-Ok.asked.length = omega arith in (
      needs_more_from_short c.args.bytes.now c.args.start c.args.size c.in-Ok.asked ok.0 c.requires.start c.requires.size ok.1 ok.2 (omega arith),
      body_hint c.args.bytes.now c.args.hint _ ok.0 n c.requires.known refl refl
          (begins_with c.args.bytes.now c.args.start c.args.size ok.0 c.requires.start c.requires.size ok.1) (ok.2.stated ∙ ap Ok (sym rest))
          c.requires.within,
    )

pub returns-else-bytes-end : goal.returns-else-bytes-end
returns-else-bytes-end c =
    let ok = c.in-Ok.ensures.ok in
    let call = c.spans_past.ensures in
    found_from_whole c.args.bytes.now c.args.start c.args.size c.in-Ok.asked ok.0 _ c.requires.start c.requires.size c.requires.within
    ok.1 ok.2 (omega arith) call.method call.path_start call.path_end call.body_start call.body_end call.close
