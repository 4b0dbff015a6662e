use Rattle.std.proofs.Common.{◌≡◌, drop, map, length, ◌++◌}
use Rattle.std.specs.Option.{IfSome, option_map, option_to_list}
use Rattle.httparse.specs.Spans.{header_bytes, span_bytes, IsWithin}
use Rattle.gj_http.specs.Heads.{values}
use Rattle.gj_http.proofs.head.only_named.Given as goal

abbrev pub invariant-loop-field : goal.invariant-loop-field
invariant-loop-field l = record {
  within : IfSome l.one (IsWithin (length l.head));
  so_far : option_to_list (option_map (span_bytes l.head) l.one) ++ values l.word (map (header_bytes l.head) (drop l.field-index l.fields))
      ≡ values l.word (map (header_bytes l.head) l.fields);
}
