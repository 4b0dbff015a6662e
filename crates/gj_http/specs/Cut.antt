-- How the bytes of a connection are cut into messages.
use Rattle.std.specs.Prelude.{◌≡◌, ℕ, ◌+◌, ◌<◌, ◌≤◌, ◌⊎◌, ◌&&◌, not, ◌==◌, List, [], ◌∷◌, length, take, drop, if◌then◌else◌, Option, Some, None, option_map, Ok, Err}
use Rattle.httparse.specs.Grammar.{RequestHead}
use Rattle.gj_http.specs.Request.{Request}
use Rattle.gj_http.specs.Heads.{IsHead, body_length, request_of}
use Rattle.gj_http.specs.declared.message.Refused.{Refused}
use Rattle.gj_http.specs.declared.message.Refused.TheVariants.{Head, HeadLong}

-- how many bytes the empty line at the front has, `\n` or `\r\n`; 0 where none stands there
abbrev pub empty_line : List ℕ → ℕ
empty_line [] = 0
empty_line (a ∷ []) = if a == 10 then 1 else 0
empty_line (a ∷ b ∷ _) = if a == 10 then 1 else (if a == 13 && b == 10 then 2 else 0)

-- how many bytes the empty lines at the front have
abbrev pub empty_lines : List ℕ → ℕ
empty_lines [] = 0
empty_lines (a ∷ []) = if a == 10 then 1 else 0
empty_lines (a ∷ b ∷ bytes) =
    if a == 10 then 1 + empty_lines (b ∷ bytes) else (if a == 13 && b == 10 then 2 + empty_lines bytes else 0)

-- how many bytes the end of a head at the front has: the end of a line, and an empty line; 0 where none stands there
abbrev pub close_of_head : List ℕ → ℕ
close_of_head [] = 0
close_of_head (b ∷ bytes) = if b == 10 && not (empty_line bytes == 0) then 1 + empty_line bytes else 0

-- how many bytes there are up to and with the first end of a head
abbrev pub head_end : List ℕ → Option ℕ
head_end [] = None
head_end (b ∷ bytes) =
    if close_of_head (b ∷ bytes) == 0 then option_map (λ n. 1 + n) (head_end bytes) else Some (close_of_head (b ∷ bytes))

-- the bytes among which a head has to end, empty lines before it counted
abbrev pub reach : List ℕ → List ℕ
reach bytes = take 8192 bytes

-- how many bytes the head has, where it ends within the reach
unfoldable pub head_length : List ℕ → Option ℕ
head_length bytes = head_end (drop (empty_lines (reach bytes)) (reach bytes))

-- after the empty lines, what the head of that many bytes has, and what follows it
unfoldable pub head_bytes : List ℕ → ℕ → List ℕ
head_bytes bytes n = take n (drop (empty_lines (reach bytes)) bytes)

unfoldable pub after_head : List ℕ → ℕ → List ℕ
after_head bytes n = drop (empty_lines (reach bytes) + n) bytes

-- the bytes begin with the whole head, and tail follows it
pub record BeginsWith (bytes : List ℕ) (head : RequestHead) (tail : List ℕ) : Type 0 where
  pub size : ℕ
  pub ends : head_length bytes ≡ Some size
  pub is_head : IsHead (head_bytes bytes size) head
  pub follows : tail ≡ after_head bytes size

-- a whole message stands at the front, and rest follows it
pub record IsMessage (bytes : List ℕ) (request : Request) (rest : List ℕ) : Type 0 where
  pub head : RequestHead
  pub tail : List ℕ
  pub count : ℕ
  pub begins : BeginsWith bytes head tail
  pub stated : body_length head ≡ Ok count
  pub whole : count ≤ length tail
  pub request_is : request ≡ request_of head (take count tail)
  pub rest_is : rest ≡ drop count tail

-- the reach is full and no head ends in it
pub record IsHeadLong (bytes : List ℕ) (why : Refused) : Type 0 where
  pub why_is : why ≡ HeadLong
  pub open_ended : head_length bytes ≡ None
  pub full : 8192 ≤ length bytes

-- the bytes up to the head's end are no head
pub record IsNoHead (bytes : List ℕ) (why : Refused) : Type 0 where
  pub why_is : why ≡ Head
  pub size : ℕ
  pub ends : head_length bytes ≡ Some size
  pub no_head : (head : RequestHead) → ¬ (IsHead (head_bytes bytes size) head)

-- the head states no length of a body that is taken
pub record StatesNone (bytes : List ℕ) (why : Refused) : Type 0 where
  pub head : RequestHead
  pub tail : List ℕ
  pub begins : BeginsWith bytes head tail
  pub stated : body_length head ≡ Err why

-- no message stands at the front, whatever follows
abbrev pub IsRefused : List ℕ → Refused → Type 0
IsRefused bytes why = IsHeadLong bytes why ⊎ (IsNoHead bytes why ⊎ StatesNone bytes why)

-- no head ends in the bytes, and the reach is not full
pub record LacksHead (bytes : List ℕ) : Type 0 where
  pub open_ended : head_length bytes ≡ None
  pub short : length bytes < 8192

-- the head is there, and its body is not there in full
pub record LacksBody (bytes : List ℕ) : Type 0 where
  pub head : RequestHead
  pub tail : List ℕ
  pub count : ℕ
  pub begins : BeginsWith bytes head tail
  pub stated : body_length head ≡ Ok count
  pub short : length tail < count

-- what stands at the front depends on bytes that follow
abbrev pub NeedsMore : List ℕ → Type 0
NeedsMore bytes = LacksHead bytes ⊎ LacksBody bytes

-- the messages from the front in order, then the refusal or none; rest begins after the last whole message
abbrev pub Cuts : List ℕ → List Request → Option Refused → List ℕ → Type 0
Cuts bytes [] None rest = NeedsMore bytes × (rest ≡ bytes)
Cuts bytes [] (Some why) rest = IsRefused bytes why × (rest ≡ bytes)
Cuts bytes (first ∷ messages) refusal rest =
    (after : List ℕ) × (IsMessage bytes first after × Cuts after messages refusal rest)

-- empty lines only
abbrev pub IsBetween : List ℕ → Type 0
IsBetween bytes = empty_lines bytes ≡ length bytes
