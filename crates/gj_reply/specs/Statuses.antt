-- The status of each reply. Own: which status a refusal has.
use Rattle.gj_reply.specs.declared.reply.Reply.{Reply}
use Rattle.gj_reply.specs.declared.reply.Reply.TheVariants.{Posted, Repeated, Old, Skipped, Full, Behind, Store, Apart, Walk, Subgraph, Similar, Count, User, Post, Stats, Log, Gone, Ahead, BadJson, BadField, BadRange, NoRoute, OnlyGet, OnlyPost, BadHead, HeadLong, Coded, BadLength, BodyLong}
use Rattle.gj_reply.specs.declared.status.Status.{Status}
use Rattle.gj_reply.specs.declared.status.Status.TheVariants.{Ok as Answered, BadRequest, NotFound, OnlyGet as MethodGet, OnlyPost as MethodPost, Conflict, TooLarge, HeadLong as HeadTooLong, NotImplemented, Unavailable}

-- the status of a reply
abbrev pub status_of : Reply → Status
status_of (Posted from length) = Answered
status_of (Repeated from length) = Answered
status_of (Walk length results) = Answered
status_of (Subgraph length results) = Answered
status_of (Similar length results) = Answered
status_of (Count length results) = Answered
status_of (User length id degree recent) = Answered
status_of (Post length id degree recent) = Answered
status_of (Stats length base conf kinds) = Answered
status_of (Log length from items) = Answered
status_of (Old last) = Conflict
status_of (Skipped last) = Conflict
status_of (Gone length base) = Conflict
status_of (Ahead length) = Conflict
status_of (Behind length) = Conflict
status_of (Full length) = Conflict
status_of Store = Unavailable
status_of (Apart seen shown posted counted) = Unavailable
status_of BadJson = BadRequest
status_of (BadField name) = BadRequest
status_of (BadRange name) = BadRequest
status_of NoRoute = NotFound
status_of OnlyGet = MethodGet
status_of OnlyPost = MethodPost
status_of BadHead = BadRequest
status_of HeadLong = HeadTooLong
status_of Coded = NotImplemented
status_of BadLength = BadRequest
status_of BodyLong = TooLarge
