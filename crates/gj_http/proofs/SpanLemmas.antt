-- What stands at the front, from where its parts were found.
use Rattle.std.proofs.Common.{◌≡◌, ℕ, ◌+◌, ◌-◌, ◌<◌, ◌≤◌, List, length, drop, take, slice_range, Some, sym, ap, subst, ◌∙◌, arith, length-drop, length-take, inl, inr}
use Rattle.std.proofs.lemmas.List.{take-take, drop-drop, drop-take}
use Rattle.std.specs.Str.{IsUtf8}
use Rattle.httparse.specs.Grammar.{RequestHead}
use Rattle.httparse.specs.Spans.{span_bytes}
use Rattle.gj_http.specs.Heads.{IsHead, request_of, method_of, path_of, closes, lines_of}
use Rattle.gj_http.specs.Cut.{empty_lines, reach, head_length, head_bytes, after_head, BeginsWith, IsRefused, NeedsMore}
use Rattle.gj_http.specs.Fronts.{Shows, IsBad, IsWhole}
use Rattle.gj_http.specs.declared.head.Asked.{Asked}
use Rattle.gj_http.specs.declared.front.MessageSpans.{MessageSpans}
use Rattle.gj_http.specs.declared.message.Refused.{Refused}

head_bytes_is : (bytes : List ℕ) (start size : ℕ) → start ≡ empty_lines (reach bytes)
    → slice_range bytes start (start + size) ≡ head_bytes bytes size
unfolding head_bytes
head_bytes_is bytes start size is =
    let n : start + size - start ≡ size = omega arith in
    ap (λ (k : ℕ). take k (drop start bytes)) n ∙ ap (λ (k : ℕ). take size (drop k bytes)) is

pub begins_with : (bytes : List ℕ) (start size : ℕ) (h : RequestHead) → start ≡ empty_lines (reach bytes) → head_length bytes ≡ Some size
    → IsHead (slice_range bytes start (start + size)) h → BeginsWith bytes h (drop (start + size) bytes)
unfolding after_head
begins_with bytes start size h is ends head = record {
  size = size;
  ends = ends;
  is_head = subst (λ (b : List ℕ). IsHead b h) (head_bytes_is bytes start size is) head;
  follows = ap (λ (k : ℕ). drop (k + size) bytes) is;
}

pub refused_from_bad : (bytes : List ℕ) (start size : ℕ) (why : Refused) → start ≡ empty_lines (reach bytes) → head_length bytes ≡ Some size
    → IsBad (slice_range bytes start (start + size)) why → IsRefused bytes why
refused_from_bad bytes start size why is ends (inl none) =
    inr (inl (record {
      why_is = none.0;
      size = size;
      ends = ends;
      no_head = λ h head. none.1 h (subst (λ (b : List ℕ). IsHead b h) (sym (head_bytes_is bytes start size is)) head);
    }))
refused_from_bad bytes start size why is ends (inr some) =
    inr (inr (record {
      head = some.0;
      tail = drop (start + size) bytes;
      begins = begins_with bytes start size some.0 is ends some.1;
      stated = some.2;
    }))

pub needs_more_from_short : (bytes : List ℕ) (start size : ℕ) (asked : Asked) (h : RequestHead)
    → start ≡ empty_lines (reach bytes) → head_length bytes ≡ Some size
    → IsHead (slice_range bytes start (start + size)) h → Shows (slice_range bytes start (start + size)) asked h
    → length bytes - (start + size) < asked.length → NeedsMore bytes
needs_more_from_short bytes start size asked h is ends head shown short =
    inr (record {
      head = h;
      tail = drop (start + size) bytes;
      count = asked.length;
      begins = begins_with bytes start size h is ends head;
      stated = shown.stated;
      short = omega (arith, short, length-drop (start + size) bytes);
    })

-- a span of a part, moved to the whole
span_bytes-moved : (bytes : List ℕ) (start size s e : ℕ) → s ≤ e → e ≤ length (slice_range bytes start (start + size))
    → slice_range bytes (start + s) (start + e) ≡ slice_range (slice_range bytes start (start + size)) s e
span_bytes-moved bytes start size s e ordered within =
    let n : start + size - start ≡ s + (size - s) = omega (arith, length-take (start + size - start) (drop start bytes)) in
    let fits : e - s ≤ size - s = omega (arith, length-take (start + size - start) (drop start bytes)) in
    let k : start + e - (start + s) ≡ e - s = omega arith in
    ap (λ (x : ℕ). take x (drop (start + s) bytes)) k
    ∙ sym (
    ap (λ (x : ℕ). take (e - s) (drop s (take x (drop start bytes)))) n
    ∙ ap (take (e - s)) (drop-take s (size - s) (drop start bytes))
    ∙ take-take (e - s) (size - s) (drop s (drop start bytes)) fits
    ∙ ap (take (e - s)) (drop-drop s start bytes)
    )

pub found_from_whole : (bytes : List ℕ) (start size : ℕ) (asked : Asked) (h : RequestHead) (found : MessageSpans)
    → start ≡ empty_lines (reach bytes) → head_length bytes ≡ Some size → start + size ≤ length bytes
    → IsHead (slice_range bytes start (start + size)) h → Shows (slice_range bytes start (start + size)) asked h
    → asked.length ≤ length bytes - (start + size)
    → found.method ≡ asked.method → found.path.start ≡ start + asked.path.start → found.path.end ≡ start + asked.path.end
    → found.body.start ≡ start + size → found.body.end ≡ start + size + asked.length → found.close ≡ asked.close
    → IsWhole bytes found
unfolding request_of
found_from_whole bytes start size asked h found is ends fits head shown there method from to body rest close =
    let part = slice_range bytes start (start + size) in
    let size_is : length part ≡ size = omega (arith, length-take (start + size - start) (drop start bytes), length-drop start bytes) in
    let moved : span_bytes bytes found.path ≡ span_bytes part asked.path =
    (λ i. slice_range bytes (from i) (to i))
    ∙ span_bytes-moved bytes start size asked.path.start asked.path.end shown.within.0 shown.within.1 in
    let n : start + size + asked.length - (start + size) ≡ asked.length = omega arith in
    let content : span_bytes bytes found.body ≡ take asked.length (drop (start + size) bytes) =
    (λ i. slice_range bytes (body i) (rest i)) ∙ ap (λ (k : ℕ). take k (drop (start + size) bytes)) n in
    let path : span_bytes bytes found.path ≡ path_of h.target = moved ∙ shown.path in
    let way : found.method ≡ method_of h.method = method ∙ shown.method in
    let shut : found.close ≡ closes h.method h.minor (lines_of h) = close ∙ shown.close in
    record {
      path = (omega (arith, shown.within.0), omega (arith, shown.within.1));
      text = subst IsUtf8 (sym moved) shown.text;
      body = (omega arith, omega arith);
      message = record {
        head = h;
        tail = drop (start + size) bytes;
        count = asked.length;
        begins = begins_with bytes start size h is ends head;
        stated = shown.stated;
        whole = omega (arith, length-drop (start + size) bytes);
        request_is = λ i. record { method = way i; path = path i; body = content i; close = shut i };
        rest_is = ap (λ (k : ℕ). drop k bytes) rest ∙ sym (drop-drop asked.length (start + size) bytes);
      };
    }
