-- The JSON value that a text is.
use Rattle.std.proofs.Common.{◌≡◌, ℕ, Bool, true, false, List, Some, None, refl, cond}
use Rattle.std.proofs.lemmas.Str.{IsUtf8-from_is_utf8, is_utf8-from_IsUtf8}
use Rattle.std.specs.Str.{IsUtf8, is_utf8}
use Rattle.serde_json.specs.Data.{Data}
use Rattle.serde_json.specs.Read.{read}
use Rattle.gj_follow.specs.Reading.{tree_of}

pub tree_of-some : (text : List ℕ) (tree : Data) → IsUtf8 text → read text ≡ Some tree → tree_of text ≡ Some tree
unfolding tree_of
tree_of-some text tree utf8 reads = rw (is_utf8-from_IsUtf8 text utf8) reads

none_at : (text : List ℕ) (b : Bool) → is_utf8 text ≡ b → (IsUtf8 text → read text ≡ None) → cond b (read text) None ≡ None
none_at text true is none = none (IsUtf8-from_is_utf8 text is)
none_at text false is none = refl

pub tree_of-none : (text : List ℕ) → (IsUtf8 text → read text ≡ None) → tree_of text ≡ None
unfolding tree_of
tree_of-none text none = none_at text (is_utf8 text) refl none
