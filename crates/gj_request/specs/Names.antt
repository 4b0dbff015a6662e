-- The names of fields, in lower case.
use Rattle.std.specs.Prelude.{ℕ, List, codes}
use Rattle.gj_request.specs.declared.name.Name.{Name}
use Rattle.gj_request.specs.declared.name.Name.TheVariants.{Items, User, Post, Kind, At, Seeds, Steps, Seed, Kinds, Reset, Top, Proof, Hide, Since, NotBefore, Iterations, Weight, Least, Producer, Number, From, Body, Unknown, Id}

-- the text of a name
abbrev pub name_text : Name → List ℕ
name_text Items = codes "items"
name_text User = codes "user"
name_text Post = codes "post"
name_text Kind = codes "kind"
name_text At = codes "at"
name_text Seeds = codes "seeds"
name_text Steps = codes "steps"
name_text Seed = codes "seed"
name_text Kinds = codes "kinds"
name_text Reset = codes "reset"
name_text Top = codes "top"
name_text Proof = codes "proof"
name_text Hide = codes "hide"
name_text Since = codes "since"
name_text NotBefore = codes "not_before"
name_text Iterations = codes "iterations"
name_text Weight = codes "weight"
name_text Least = codes "least"
name_text Producer = codes "producer"
name_text Number = codes "number"
name_text From = codes "from"
name_text Body = codes "body"
name_text Unknown = codes "unknown"
name_text Id = codes "id"
