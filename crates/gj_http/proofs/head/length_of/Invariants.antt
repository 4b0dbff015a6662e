use Rattle.std.proofs.Common.{◌≡◌, ◌≤◌, drop, true}
use Rattle.std.specs.List.{list_all}
use Rattle.std.specs.Char.{is_ascii_digit}
use Rattle.std.specs.Str.Parse.{digits_value_after, digits_value}
use Rattle.gj_http.proofs.head.length_of.Given as goal

abbrev pub invariant-loop-b : goal.invariant-loop-b
invariant-loop-b l = record {
  digits : list_all is_ascii_digit (drop l.b-index l.value) ≡ true;
  so_far : digits_value_after 10 l.length (drop l.b-index l.value) ≡ digits_value 10 l.value;
  small : l.length ≤ 1048576;
}
