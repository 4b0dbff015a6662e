use Rattle.std.proofs.Common.{◌≡◌, ◌++◌, drop, take}
use Rattle.gj_http.specs.Heads.{path_of}
use Rattle.gj_http.proofs.head.path_length.Given as goal

abbrev pub invariant-loop-i : goal.invariant-loop-i
invariant-loop-i l = take l.i l.target ++ path_of (drop l.i l.target) ≡ path_of l.target
