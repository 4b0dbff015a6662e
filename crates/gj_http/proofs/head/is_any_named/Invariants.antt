use Rattle.std.proofs.Common.{◌≡◌, drop, map}
use Rattle.httparse.specs.Spans.{header_bytes}
use Rattle.gj_http.specs.Heads.{values}
use Rattle.gj_http.proofs.head.is_any_named.Given as goal

abbrev pub invariant-loop-field : goal.invariant-loop-field
invariant-loop-field l =
    values l.word (map (header_bytes l.head) (drop l.field-index l.fields)) ≡ values l.word (map (header_bytes l.head) l.fields)
