-- The body of each reply: ASCII without spaces, the names in a fixed order, the numbers in decimal. Own: the texts.
use Rattle.std.specs.Prelude.{ℕ, List, ◌++◌, codes, map}
use Rattle.std.specs.Fmt.{decimal}
use Rattle.gj_proof.specs.declared.ranked.Ranked.{Ranked}
use Rattle.gj_request.specs.Names.{name_text}
use Rattle.gj_base.specs.Configuration.{Configuration}
use Rattle.gj_base.specs.Interaction.{Interaction}
use Rattle.gj_reply.specs.Arrays.{array, ranked_text, score_text, edge_text, item_text}
use Rattle.gj_reply.specs.declared.edge.EdgeOf.{EdgeOf}
use Rattle.gj_reply.specs.declared.reply.KindCounts.{KindCounts}
use Rattle.gj_reply.specs.declared.reply.Reply.{Reply}
use Rattle.gj_reply.specs.declared.reply.Reply.TheVariants.{Posted, Repeated, Old, Skipped, Full, Behind, Store, Apart, Walk, Subgraph, Similar, Count, User, Post, Stats, Log, Gone, Ahead, BadJson, BadField, BadRange, NoRoute, OnlyGet, OnlyPost, BadHead, HeadLong, Coded, BadLength, BodyLong}
use Rattle.gj_similar.specs.Scored.{Scored}

-- the body of a post
abbrev pub posted_text : ℕ → ℕ → List ℕ
posted_text from length = codes "{\"from\":" ++ decimal from ++ codes ",\"length\":" ++ decimal length ++ codes "}"

-- the body of a batch that entered before
abbrev pub repeated_text : ℕ → ℕ → List ℕ
repeated_text from length =
    codes "{\"from\":" ++ decimal from ++ codes ",\"length\":" ++ decimal length ++ codes ",\"repeated\":true}"

-- the body of a ranking, by visits, by units or by weight
abbrev pub ranking_text : List ℕ → ℕ → List Ranked → List ℕ
ranking_text measure length results =
    codes "{\"length\":" ++ decimal length ++ codes ",\"results\":" ++ array (map (ranked_text measure) results)
    ++ codes "}"

-- the body of a similarity
abbrev pub similar_text : ℕ → List Scored → List ℕ
similar_text length results =
    codes "{\"length\":" ++ decimal length ++ codes ",\"results\":" ++ array (map score_text results) ++ codes "}"

-- the body of a vertex: which side it is on and which side it leads to
abbrev pub vertex_text : List ℕ → List ℕ → ℕ → ℕ → ℕ → List EdgeOf → List ℕ
vertex_text side across length id degree recent =
    codes "{\"length\":" ++ decimal length ++ side ++ decimal id ++ codes ",\"degree\":" ++ decimal degree
    ++ codes ",\"recent\":" ++ array (map (edge_text across) recent) ++ codes "}"

-- the counts of the kinds
abbrev pub kinds_text : KindCounts → List ℕ
kinds_text kinds =
    codes "{\"click\":" ++ decimal kinds.click ++ codes ",\"favorite\":" ++ decimal kinds.favorite
    ++ codes ",\"retweet\":" ++ decimal kinds.retweet ++ codes ",\"reply\":" ++ decimal kinds.reply
    ++ codes ",\"tweet\":" ++ decimal kinds.tweet ++ codes "}"

-- the numbers of a configuration
abbrev pub conf_text : Configuration → List ℕ
conf_text conf = codes ",\"capacity\":" ++ decimal conf.capacity ++ codes ",\"segments\":" ++ decimal conf.segments

-- the body of the window's numbers
abbrev pub stats_text : ℕ → ℕ → Configuration → KindCounts → List ℕ
stats_text length base conf kinds =
    codes "{\"length\":" ++ decimal length ++ codes ",\"base\":" ++ decimal base ++ conf_text conf
    ++ codes ",\"kinds\":" ++ kinds_text kinds ++ codes "}"

-- the body of a page of the history
abbrev pub log_text : ℕ → ℕ → List Interaction → List ℕ
log_text length from items =
    codes "{\"length\":" ++ decimal length ++ codes ",\"from\":" ++ decimal from ++ codes ",\"items\":"
    ++ array (map item_text items) ++ codes "}"

-- the body of a place before the window
abbrev pub gone_text : ℕ → ℕ → List ℕ
gone_text length base =
    codes "{\"error\":\"gone\",\"length\":" ++ decimal length ++ codes ",\"base\":" ++ decimal base ++ codes "}"

-- the body of a writer and a published history that do not agree
abbrev pub apart_text : ℕ → ℕ → ℕ → ℕ → List ℕ
apart_text seen shown posted counted =
    codes "{\"error\":\"apart\",\"seen\":" ++ decimal seen ++ codes ",\"shown\":" ++ decimal shown
    ++ codes ",\"posted\":" ++ decimal posted ++ codes ",\"counted\":" ++ decimal counted ++ codes "}"

-- the body of a reply
abbrev pub body_of : Reply → List ℕ
body_of (Posted from length) = posted_text from length
body_of (Repeated from length) = repeated_text from length
body_of (Walk length results) = ranking_text (codes ",\"visits\":") length results
body_of (Subgraph length results) = ranking_text (codes ",\"units\":") length results
body_of (Similar length results) = similar_text length results
body_of (Count length results) = ranking_text (codes ",\"weight\":") length results
body_of (User length id degree recent) =
    vertex_text (codes ",\"user\":") (codes "{\"post\":") length id degree recent
body_of (Post length id degree recent) =
    vertex_text (codes ",\"post\":") (codes "{\"user\":") length id degree recent
body_of (Stats length base conf kinds) = stats_text length base conf kinds
body_of (Log length from items) = log_text length from items
body_of (Old last) = codes "{\"error\":\"old\",\"last\":" ++ decimal last ++ codes "}"
body_of (Skipped last) = codes "{\"error\":\"skipped\",\"last\":" ++ decimal last ++ codes "}"
body_of (Gone length base) = gone_text length base
body_of (Ahead length) = codes "{\"error\":\"ahead\",\"length\":" ++ decimal length ++ codes "}"
body_of (Behind length) = codes "{\"error\":\"behind\",\"length\":" ++ decimal length ++ codes "}"
body_of (Full length) = codes "{\"error\":\"full\",\"length\":" ++ decimal length ++ codes "}"
body_of Store = codes "{\"error\":\"store\"}"
body_of (Apart seen shown posted counted) = apart_text seen shown posted counted
body_of BadJson = codes "{\"error\":\"json\"}"
body_of (BadField name) = codes "{\"error\":\"field\",\"name\":\"" ++ name_text name ++ codes "\"}"
body_of (BadRange name) = codes "{\"error\":\"range\",\"name\":\"" ++ name_text name ++ codes "\"}"
body_of NoRoute = codes "{\"error\":\"route\"}"
body_of OnlyGet = codes "{\"error\":\"method\"}"
body_of OnlyPost = codes "{\"error\":\"method\"}"
body_of BadHead = codes "{\"error\":\"head\"}"
body_of HeadLong = codes "{\"error\":\"head_long\"}"
body_of Coded = codes "{\"error\":\"coded\"}"
body_of BadLength = codes "{\"error\":\"length\"}"
body_of BodyLong = codes "{\"error\":\"body_long\"}"
