-- Arrays of a reply's text, and their members.
use Rattle.std.specs.Prelude.{ℕ, zero, suc, List, [], ◌∷◌, ◌++◌, codes, map}
use Rattle.std.specs.List.{flat_map}
use Rattle.std.specs.Fmt.{decimal}
use Rattle.gj_base.specs.Interaction.{Interaction}
use Rattle.gj_base.specs.Kinds.{kind_name}
use Rattle.gj_proof.specs.declared.ranked.Ranked.{Ranked}
use Rattle.gj_reply.specs.declared.edge.EdgeOf.{EdgeOf}
use Rattle.gj_similar.specs.Scored.{Scored}

-- the members with a comma in front of each
abbrev pub with_commas : List (List ℕ) → List ℕ
with_commas members = flat_map (λ member. codes "," ++ member) members

-- the members with a comma between each two
abbrev pub joined : List (List ℕ) → List ℕ
joined [] = []
joined (first ∷ others) = first ++ with_commas others

-- the array of the members
abbrev pub array : List (List ℕ) → List ℕ
array members = codes "[" ++ joined members ++ codes "]"

-- a post of a ranking, with the name and the amount of what it is ranked by
abbrev pub ranked_text : List ℕ → Ranked → List ℕ
ranked_text measure ranked =
    codes "{\"post\":" ++ decimal ranked.id ++ measure ++ decimal ranked.number ++ codes ",\"proof\":"
    ++ array (map decimal ranked.proof) ++ codes "}"

-- a similar post
abbrev pub score_text : Scored → List ℕ
score_text score =
    codes "{\"post\":" ++ decimal score.post ++ codes ",\"co\":" ++ decimal score.co ++ codes ",\"degree\":"
    ++ decimal score.degree ++ codes "}"

-- a recent interaction, with the name of the side that it leads to
abbrev pub edge_text : List ℕ → EdgeOf → List ℕ
edge_text across edge = across ++ decimal edge.id ++ codes ",\"kind\":\"" ++ kind_name edge.kind ++ codes "\"}"

-- an interaction of the history
abbrev pub item_text : Interaction → List ℕ
item_text item =
    codes "{\"user\":" ++ decimal item.user ++ codes ",\"post\":" ++ decimal item.post ++ codes ",\"kind\":\""
    ++ kind_name item.kind ++ codes "\",\"at\":" ++ decimal item.at ++ codes "}"

-- the comma in front of the member at a place
abbrev pub comma_at : ℕ → List ℕ
comma_at zero = []
comma_at (suc n) = codes ","
