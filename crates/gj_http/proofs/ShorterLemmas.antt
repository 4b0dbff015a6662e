-- What follows a message is shorter.
use Rattle.std.proofs.Common.{◌≡◌, ℕ, ◌+◌, ◌-◌, ◌<◌, ◌==◌, Bool, true, false, List, [], ◌∷◌, length, drop, Option, Some, None, option_map, if◌then◌else◌, refl, ap, ◌∙◌, arith, inl}
use Rattle.std.proofs.lemmas.List.{length-drop}
use Rattle.std.proofs.lemmas.Bool.{eqb-false}
use Rattle.gj_http.specs.Cut.{IsMessage, NeedsMore, head_end, head_length, close_of_head, after_head, reach, empty_lines}
use Rattle.gj_http.specs.Request.{Request}
use Rattle.gj_http.proofs.BoundLemmas.{head_length-within}

end_positive : (none : Bool) (close n : ℕ) (o : Option ℕ) → (close == 0) ≡ none → (if none then option_map (λ k. 1 + k) o else Some close) ≡ Some n → 0 < n
end_positive true close n None e is = cc
end_positive true close n (Some k) e is = (let next : 1 + k ≡ n = cc in omega arith)
end_positive false close n o e is = (let here : close ≡ n = cc in let some = eqb-false close 0 e in omega arith)

head_end-positive : (bytes : List ℕ) (n : ℕ) → head_end bytes ≡ Some n → 0 < n
head_end-positive [] n is = cc
head_end-positive (b ∷ bytes) n is = end_positive (close_of_head (b ∷ bytes) == 0) (close_of_head (b ∷ bytes)) n (head_end bytes) refl is

head_length-positive : (bytes : List ℕ) (n : ℕ) → head_length bytes ≡ Some n → 0 < n
unfolding head_length
head_length-positive bytes n is = head_end-positive (drop (empty_lines (reach bytes)) (reach bytes)) n is

length-after_head : (bytes : List ℕ) (n : ℕ) → length (after_head bytes n) ≡ length bytes - (empty_lines (reach bytes) + n)
unfolding after_head
length-after_head bytes n = length-drop (empty_lines (reach bytes) + n) bytes

pub IsMessage-shorter : (bytes : List ℕ) (request : Request) (rest : List ℕ) → IsMessage bytes request rest → length rest < length bytes
IsMessage-shorter bytes request rest is =
    let size = is.begins.size in
    let some = head_length-positive bytes size is.begins.ends in
    let within = head_length-within bytes size is.begins.ends in
    let tail : length is.tail ≡ length bytes - (empty_lines (reach bytes) + size) = ap length is.begins.follows ∙ length-after_head bytes size in
    let left : length rest ≡ length is.tail - is.count = ap length is.rest_is ∙ length-drop is.count is.tail in
    omega (arith, within.1)

pub empty_more : NeedsMore []
unfolding head_length
empty_more = inl (record { open_ended = refl; short = omega arith })
