-- What the parts of a head say.
use Rattle.std.proofs.Common.{◌≡◌, ℕ, ◌+◌, ◌-◌, ◌*◌, ◌<◌, ◌≤◌, Bool, true, false, if◌then◌else◌, List, [], ◌∷◌, length, drop, take, map, slice_range, get_or, Result, Ok, Err, sym, ap, subst, ◌∙◌, arith, leb, length-take, inl, inr}
use Rattle.std.specs.Str.{IsUtf8, IsCharBoundary}
use Rattle.std.specs.Str.Parse.{digits_value, digits_value_after}
use Rattle.std.specs.Char.{digit_value, is_ascii_digit}
use Rattle.std.specs.List.{list_all}
use Rattle.std.specs.Result.{IfOk, IfErr}
use Rattle.std.proofs.lemmas.Bool.{cases_lt, lt-leb, leb-true, lt-ltb, le-ltb, and_parts, cond-true, cond-false}
use Rattle.std.proofs.lemmas.List.{take-take, drop_more, length-map}
use Rattle.std.proofs.lemmas.Str.{IsUtf8-take, IsCharBoundary-before_ascii, IsCharBoundary-end}
use Rattle.httparse.specs.Grammar.{RequestHead}
use Rattle.httparse.specs.Spans.{IsRequestAt, IsWithin, header_bytes, name_and_value, span_bytes}
use Rattle.httparse.specs.declared.spans.HeaderSpan.{HeaderSpan}
use Rattle.httparse.specs.declared.spans.RequestSpans.{RequestSpans}
use Rattle.gj_http.specs.Heads.{IsHead, is_number, stated_length, length_by, body_length, closes, method_of, path_of}
use Rattle.gj_http.specs.Fronts.{Shows, IsBad}
use Rattle.gj_http.specs.declared.head.Asked.{Asked}
use Rattle.gj_http.specs.declared.message.Refused.{Refused}
use Rattle.gj_http.specs.declared.message.Refused.TheVariants.{BodyLong, Length}

IsUtf8-take_mark : (t : List ℕ) (n : ℕ) → IsUtf8 t → n ≤ length t → (n < length t → get_or t n 0 ≡ 63) → IsUtf8 (take n t)
IsUtf8-take_mark t n text within mark =
    elim (cases_lt n (length t)) [
      | inl inside ↦ IsUtf8-take t n text (IsCharBoundary-before_ascii t n inside (omega (arith, mark inside)))
      | inr past ↦
          let whole : n ≡ length t = omega arith in
          IsUtf8-take t n text (subst (IsCharBoundary t) (sym whole) (IsCharBoundary-end t))
    ]

-- a text up to its first mark is text
pub IsUtf8-part : (head : List ℕ) (start end n : ℕ) (t : List ℕ) → t ≡ slice_range head start end → IsUtf8 (slice_range head start end)
    → n ≤ length t → (n < length t → get_or t n 0 ≡ 63) → IsUtf8 (slice_range head start (start + n))
IsUtf8-part head start end n t is text within mark =
    let few : n ≤ end - start = omega (arith, ap length is, length-take (end - start) (drop start head)) in
    let size : start + n - start ≡ n = omega arith in
    let front : take n t ≡ slice_range head start (start + n) =
    ap (take n) is ∙ take-take n (end - start) (drop start head) few ∙ ap (λ (k : ℕ). take k (drop start head)) (sym size) in
    subst IsUtf8 front (IsUtf8-take_mark t n (subst IsUtf8 (sym is) text) within mark)

digits_value_after-grows : (digits : List ℕ) (n : ℕ) → n ≤ digits_value_after 10 n digits
digits_value_after-grows [] n = omega arith
digits_value_after-grows (d ∷ digits) n = omega (arith, digits_value_after-grows digits (n * 10 + digit_value d))

-- an ASCII digit's value
digit_value_is : (d : ℕ) → is_ascii_digit d ≡ true → digit_value d ≡ d - 48
digit_value_is d is =
    let low = leb-true 48 d (and_parts _ _ is).0 in
    let high = leb-true d 57 (and_parts _ _ is).1 in
    cond-false _ _ _ (le-ltb d 48 low) ∙ cond-true _ _ _ (lt-ltb d 58 (omega arith))

stated_by : (value : List ℕ) (t u : Bool) → is_number value ≡ t → leb (digits_value 10 value) 1048576 ≡ u
    → stated_length value ≡ (if t then (if u then Ok (digits_value 10 value) else Err BodyLong) else Err Length)
stated_by value t u number small =
    ap (λ (x : Bool). if x then (if leb (digits_value 10 value) 1048576 then Ok (digits_value 10 value) else Err BodyLong) else Err Length) number
    ∙ ap (λ (x : Bool). if t then (if x then Ok (digits_value 10 value) else Err BodyLong) else Err Length) small

-- digits whose number has passed the limit state a length that is too long
pub stated_length_long : (value : List ℕ) (i n : ℕ) → is_number value ≡ true → i < length value
    → list_all is_ascii_digit (drop i value) ≡ true
    → digits_value_after 10 n (drop i value) ≡ digits_value 10 value
    → 1048576 < n * 10 + (get_or value i 0 - 48) → Err BodyLong ≡ stated_length value
stated_length_long value i n number inside digits so_far past =
    let digit = digit_value_is (get_or value i 0) (and_parts _ _ (sym (ap (list_all is_ascii_digit) (drop_more value i 0 inside)) ∙ digits)).0 in
    let first = ap (digits_value_after 10 n) (drop_more value i 0 inside) in
    let grows = digits_value_after-grows (drop (i + 1) value) (n * 10 + digit_value (get_or value i 0)) in
    let long : 1048576 < digits_value 10 value = omega (arith, first, so_far, grows, digit) in
    sym (stated_by value true false number (lt-leb _ _ long))

-- what the parts of a head ask for is what the head asks for
pub shows : (head : List ℕ) (fields : List HeaderSpan) (spans : RequestSpans) (h : RequestHead) (r : Result Asked Refused)
    → IsRequestAt head fields spans h
    → IfOk r (λ asked. IsWithin (length head) asked.path)
    → IfOk r (λ asked. IsUtf8 (span_bytes head asked.path))
    → IfOk r (λ asked. asked.method ≡ method_of (span_bytes head spans.method))
    → IfOk r (λ asked. span_bytes head asked.path ≡ path_of (span_bytes head spans.path))
    → IfOk r (λ asked. length_by (map (header_bytes head) (take spans.headers fields)) ≡ Ok asked.length)
    → IfOk r (λ asked. asked.close ≡ closes (span_bytes head spans.method) spans.version (map (header_bytes head) (take spans.headers fields)))
    → IfOk r (λ asked. Shows head asked h)
unfolding body_length
shows head fields spans h (Err why) at within text method path stated close = tt
shows head fields spans h (Ok asked) at within text method path stated close = record {
  within = within;
  text = text;
  method = method ∙ ap method_of at.method;
  path = path ∙ ap path_of at.path;
  stated = sym (ap length_by at.fields) ∙ stated;
  close = close ∙ (λ i. closes (at.method i) (at.version i) (at.fields i));
}

-- a head whose fields were found has few enough of them
pub few_fields : (head : List ℕ) (fields : List HeaderSpan) (spans : RequestSpans) (h : RequestHead)
    → IsRequestAt head fields spans h → length fields ≡ 64 → length h.fields ≤ 64
few_fields head fields spans h at room =
    omega (
      arith,
      ap length at.fields,
      length-map (take spans.headers fields) (header_bytes head),
      length-map h.fields name_and_value,
      length-take spans.headers fields,
    )

pub ok_shows : (head : List ℕ) (h : RequestHead) (r : Result Asked Refused) → IsHead head h → IfOk r (λ asked. Shows head asked h)
    → IfOk r (λ asked. (k : RequestHead) × IsHead head k × Shows head asked k)
ok_shows head h (Ok asked) is shown = (h, is, shown)
ok_shows head h (Err why) is shown = tt

pub err_bad : (head : List ℕ) (fields : List HeaderSpan) (spans : RequestSpans) (h : RequestHead) (r : Result Asked Refused)
    → IsHead head h → IsRequestAt head fields spans h
    → IfErr r (λ why. length_by (map (header_bytes head) (take spans.headers fields)) ≡ Err why) → IfErr r (IsBad head)
unfolding body_length
err_bad head fields spans h (Ok asked) is at stated = tt
err_bad head fields spans h (Err why) is at stated = inr (h, is, sym (ap length_by at.fields) ∙ stated)
