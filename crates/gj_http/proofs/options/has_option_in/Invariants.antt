use Rattle.std.proofs.Common.{◌≡◌, drop, map}
use Rattle.httparse.specs.Spans.{header_bytes}
use Rattle.gj_http.specs.Heads.{has_option}
use Rattle.gj_http.proofs.options.has_option_in.Given as goal

abbrev pub invariant-loop-field : goal.invariant-loop-field
invariant-loop-field l =
    has_option l.word (map (header_bytes l.head) (drop l.field-index l.fields)) ≡ has_option l.word (map (header_bytes l.head) l.fields)
