-- The bodies of the fixed replies. Own: their texts.
use Rattle.std.specs.Prelude.{ℕ, List, codes}
use Rattle.gj_reply.specs.declared.fixed.Fixed.{Fixed}
use Rattle.gj_reply.specs.declared.fixed.Fixed.TheVariants.{Memory, NotAccepted, Accepted, NoLook}

-- the body of a fixed reply
abbrev pub fixed_text : Fixed → List ℕ
fixed_text Memory = codes "{\"error\":\"memory\"}"
fixed_text NotAccepted = codes "{\"error\":\"memory\",\"accepted\":false}"
fixed_text Accepted = codes "{\"error\":\"memory\",\"accepted\":true}"
fixed_text NoLook = codes "{\"error\":\"no_look\"}"
