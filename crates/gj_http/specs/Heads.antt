-- What the head of a request says. After RFC 9110 and RFC 9112; own: the two limits.
use Rattle.std.specs.Prelude.{ℕ, ◌≤◌, Bool, ◌&&◌, ◌||◌, not, ◌==◌, nat_lt, nat_le, List, [], ◌∷◌, length, map, codes, if◌then◌else◌, Result, Ok, Err}
use Rattle.std.specs.List.{list_any, list_all, slice_split}
use Rattle.std.specs.Char.{is_ascii_digit}
use Rattle.std.specs.Str.{bytes_eq, str_eq_ignore_ascii_case}
use Rattle.std.specs.Str.Parse.{digits_value}
use Rattle.httparse.specs.Grammar.{RequestHead, ReadsRequest, trim_ows}
use Rattle.httparse.specs.Spans.{name_and_value}
use Rattle.gj_http.specs.Request.{Request}
use Rattle.gj_http.specs.declared.message.Method.{Method}
use Rattle.gj_http.specs.declared.message.Method.TheVariants.{Get, Post, Other}
use Rattle.gj_http.specs.declared.message.Refused.{Refused}
use Rattle.gj_http.specs.declared.message.Refused.TheVariants.{Coded, Length, BodyLong}

-- the bytes as a whole are the head, which has at most 64 field lines
pub record IsHead (bytes : List ℕ) (head : RequestHead) : Type 0 where
  pub reads : ReadsRequest bytes head []
  pub few : length head.fields ≤ 64

-- a field line: its name, and its value without spaces and tabs at the ends
abbrev pub Line : Type 0
Line = List ℕ × List ℕ

-- the text is the word, without regard to ASCII case
abbrev pub is_word : List ℕ → List ℕ → Bool
is_word word text = str_eq_ignore_ascii_case text word

-- the values of the lines that the word names
abbrev pub values : List ℕ → List Line → List (List ℕ)
values word [] = []
values word (line ∷ lines) = if is_word word line.0 then line.1 ∷ values word lines else values word lines

-- one ASCII digit or more, and nothing else
abbrev pub is_number : List ℕ → Bool
is_number text = list_all is_ascii_digit text && nat_lt 0 (length text)

-- the length that the value of the one `Content-Length` states
abbrev pub stated_length : List ℕ → Result ℕ Refused
stated_length value =
    if is_number value
    then (if nat_le (digits_value 10 value) 1048576 then Ok (digits_value 10 value) else Err BodyLong)
    else Err Length

-- the length that the values of all `Content-Length` state; without one the body is empty
abbrev pub one_length : List (List ℕ) → Result ℕ Refused
one_length [] = Ok 0
one_length (value ∷ []) = stated_length value
one_length (_ ∷ _ ∷ _) = Err Length

-- the length of the body
abbrev pub length_by : List Line → Result ℕ Refused
length_by lines =
    if nat_lt 0 (length (values (codes "transfer-encoding") lines))
    then Err Coded
    else one_length (values (codes "content-length") lines)

-- a part of the value, between its commas and without spaces and tabs at the ends, is the word
abbrev pub has_part : List ℕ → List ℕ → Bool
has_part word value = list_any (λ part. is_word word (trim_ows part)) (slice_split (λ b. b == 44) value)

-- an option of a `Connection` is the word
abbrev pub has_option : List ℕ → List Line → Bool
has_option word lines = list_any (has_part word) (values (codes "connection") lines)

-- the connection ends after the reply: by an option, by the version without an option, or by the method
abbrev pub closes : List ℕ → ℕ → List Line → Bool
closes name minor lines =
    has_option (codes "close") lines
    || (minor == 0 && not (has_option (codes "keep-alive") lines))
    || bytes_eq name (codes "HEAD")

-- the method of that name
abbrev pub method_of : List ℕ → Method
method_of name = if bytes_eq name (codes "GET") then Get else (if bytes_eq name (codes "POST") then Post else Other)

-- the field lines of the head
abbrev pub lines_of : RequestHead → List Line
lines_of head = map name_and_value head.fields

-- the length of the body that the head states
unfoldable pub body_length : RequestHead → Result ℕ Refused
body_length head = length_by (lines_of head)

-- the target up to its first `?`
abbrev pub path_of : List ℕ → List ℕ
path_of [] = []
path_of (b ∷ target) = if b == 63 then [] else b ∷ path_of target

-- the request of the head with the body
unfoldable pub request_of : RequestHead → List ℕ → Request
request_of head body = record {
  method = method_of head.method;
  path = path_of head.target;
  body = body;
  close = closes head.method head.minor (lines_of head);
}
