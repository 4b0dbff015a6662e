-- The bytes of a response. After RFC 9112 for the lines, and RFC 9110 and 6585 for the names of the statuses.
-- Own: which fields a response has.
use Rattle.std.specs.Prelude.{ℕ, List, [], ◌++◌, Bool, true, false, codes, length}
use Rattle.std.specs.Fmt.{decimal}
use Rattle.gj_reply.specs.declared.status.Status.{Status}
use Rattle.gj_reply.specs.declared.status.Status.TheVariants.{Ok as Answered, BadRequest, NotFound, OnlyGet, OnlyPost, Conflict, TooLarge, HeadLong, NotImplemented, Unavailable}

-- the number and the name of a status
abbrev pub status_text : Status → List ℕ
status_text Answered = codes "200 OK"
status_text BadRequest = codes "400 Bad Request"
status_text NotFound = codes "404 Not Found"
status_text OnlyGet = codes "405 Method Not Allowed"
status_text OnlyPost = codes "405 Method Not Allowed"
status_text Conflict = codes "409 Conflict"
status_text TooLarge = codes "413 Content Too Large"
status_text HeadLong = codes "431 Request Header Fields Too Large"
status_text NotImplemented = codes "501 Not Implemented"
status_text Unavailable = codes "503 Service Unavailable"

-- whether the connection ends with this response
abbrev pub connection_text : Bool → List ℕ
connection_text true = codes "close"
connection_text false = codes "keep-alive"

-- the line that says which method the path's route takes, where the status asks for it
abbrev pub allow_line : Status → List ℕ
allow_line OnlyGet = codes "Allow: GET\r\n"
allow_line OnlyPost = codes "Allow: POST\r\n"
allow_line Answered = []
allow_line BadRequest = []
allow_line NotFound = []
allow_line Conflict = []
allow_line TooLarge = []
allow_line HeadLong = []
allow_line NotImplemented = []
allow_line Unavailable = []

-- the lines up to and with the empty one
abbrev pub head_of : Status → ℕ → Bool → List ℕ
head_of status size close =
    codes "HTTP/1.1 " ++ status_text status ++ codes "\r\n"
    ++ codes "Content-Type: application/json\r\n"
    ++ codes "Content-Length: " ++ decimal size ++ codes "\r\n"
    ++ codes "Connection: " ++ connection_text close ++ codes "\r\n"
    ++ allow_line status
    ++ codes "\r\n"

-- the head, and the body
abbrev pub bytes_of : Status → List ℕ → Bool → List ℕ
bytes_of status body close = head_of status (length body) close ++ body
