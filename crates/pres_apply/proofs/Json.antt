-- Which value the bytes of a line are.
use Rattle.std.proofs.Common.{◌≡◌, ℕ, Bool, true, false, List, Some, None, refl, IsUtf8}
use Rattle.std.proofs.lemmas.Str.{is_utf8-from_IsUtf8, IsUtf8-from_is_utf8}
use Rattle.std.specs.Str.{is_utf8}
use Rattle.serde_json.specs.Data.{Data}
use Rattle.serde_json.specs.Read.{read}
use Rattle.pres_apply.specs.Replies.{data_of}

pub data_some : (line : List ℕ) (d : Data) → IsUtf8 line → read line ≡ Some d → data_of line ≡ Some d
unfolding data_of
data_some line d h e = rw (is_utf8-from_IsUtf8 line h) e

chosen : (line : List ℕ) (b : Bool) → is_utf8 line ≡ b → (IsUtf8 line → read line ≡ None) → data_of line ≡ None
unfolding data_of
chosen line true e h = rw e (h (IsUtf8-from_is_utf8 line e))
chosen line false e h = rw e

pub data_none : (line : List ℕ) → (IsUtf8 line → read line ≡ None) → data_of line ≡ None
data_none line h = chosen line (is_utf8 line) refl h
