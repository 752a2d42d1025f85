-- Lines of a text, and what is answered to all of them.
use Rattle.std.specs.Prelude.{◌≡◌, ◌==◌, ◌≤◌, ℕ, Bool, false, nat_lt, List, [], ◌∷◌, ◌++◌, length, Option, IfSome}
use Rattle.std.specs.Io.KnownBytes.{Appends, Consumes}
use Rattle.std.specs.List.{list_any, slice_split}
use Rattle.pres_wire.specs.UpForms.{longest_text}
use Rattle.pres_apply.specs.Replies.{ApplyState, start, reply, next, tree_line}

-- the pieces between line feeds, also the one after the last
unfoldable pub lines_of : List ℕ → List (List ℕ)
lines_of text = slice_split (λ b. b == 10) text

unfoldable pub replies : ApplyState → List (List ℕ) → List ℕ
replies s [] = []
replies s (l ∷ ls) = reply s l ++ replies (next s l) ls

unfoldable pub end_of : ApplyState → List (List ℕ) → ApplyState
end_of s [] = s
end_of s (l ∷ ls) = end_of (next s l) ls

-- the state after a whole input
abbrev pub end_state : List ℕ → ApplyState
end_state input = end_of start (lines_of input)

-- what is written for a whole input: the replies to its lines, and the tree
abbrev pub output_of : List ℕ → List ℕ
output_of input = replies start (lines_of input) ++ tree_line (end_state input)

-- What was written for the whole input, none of whose lines was refused.
abbrev pub Finished : Option (List ℕ) → Option (List ℕ) → Option (List ℕ) → Type 0
Finished input before after = IfSome input (λ bytes. Appends before after (output_of bytes) × ((end_state bytes).refused ≡ false))

-- The input is read as far as `rest`, and what was written is the replies to the lines that ended there.
pub record Reached (input rest before after : Option (List ℕ)) : Type 0 where
  pub seen : List ℕ
  pub done : List (List ℕ)
  pub last : List ℕ
  pub read : Consumes input rest seen
  pub lines : lines_of seen ≡ done ++ last ∷ []
  pub written : Appends before after (replies start done)

-- The same, where at least this many bytes were read.
pub record ReachedPast (least : ℕ) (input rest before after : Option (List ℕ)) : Type 0 where
  pub reached : Reached input rest before after
  pub long : least ≤ length reached.seen

-- the bytes that one read may bring
abbrev pub room : ℕ
room = 65536

-- What was written is the replies to the lines that ended in all that was read, but for what is left
-- over of the last read.
pub record Stopped (input rest before after : Option (List ℕ)) : Type 0 where
  pub seen : List ℕ
  pub left_over : List ℕ
  pub done : List (List ℕ)
  pub last : List ℕ
  pub read : Consumes input rest (seen ++ left_over)
  pub short : length left_over ≤ room
  pub lines : lines_of seen ≡ done ++ last ∷ []
  pub written : Appends before after (replies start done)

-- ---- inside a run

-- what is kept of an unfinished line: all of it, or that it is too long
abbrev pub KeepsLine : List ℕ → List ℕ → Bool → Type 0
KeepsLine line bytes cut = (cut ≡ nat_lt longest_text (length line)) × (cut ≡ false → bytes ≡ line)

-- the bytes have no line feed
unfoldable pub IsFeedless : List ℕ → Type 0
IsFeedless bytes = list_any (λ b. b == 10) bytes ≡ false

-- The text is these lines and a last one, which is kept, and the lines have been taken.
pub record TakesLines (old new : ApplyState) (whole bytes : List ℕ) (cut : Bool) (said : List ℕ) : Type 0 where
  pub done : List (List ℕ)
  pub last : List ℕ
  pub whole_is : lines_of whole ≡ done ++ last ∷ []
  pub feedless : IsFeedless last
  pub holds : KeepsLine last bytes cut
  pub state : new ≡ end_of old done
  pub text : said ≡ replies old done

-- The replies are those to the lines that end in the line so far and a first part of the piece.
pub record AnswersSome (old : ApplyState) (line piece said : List ℕ) : Type 0 where
  pub front : List ℕ
  pub back : List ℕ
  pub done : List (List ℕ)
  pub last : List ℕ
  pub split : piece ≡ front ++ back
  pub lines : lines_of (line ++ front) ≡ done ++ last ∷ []
  pub text : said ≡ replies old done

-- The lines that end in the line so far and the piece but for its rest have been taken.
pub record Midway (old new : ApplyState) (line piece rest bytes : List ℕ) (cut : Bool) (before out : List ℕ) : Type 0 where
  pub front : List ℕ
  pub done : List (List ℕ)
  pub last : List ℕ
  pub split : piece ≡ front ++ rest
  pub lines : lines_of (line ++ front) ≡ done ++ last ∷ []
  pub feedless : IsFeedless last
  pub holds : KeepsLine last bytes cut
  pub state : new ≡ end_of old done
  pub text : out ≡ before ++ replies old done

-- What was read, at least this many bytes, and written so far, and the state then.
pub record Going (input rest before after : Option (List ℕ)) (s : ApplyState) (bytes : List ℕ) (cut : Bool) (least : ℕ) : Type 0 where
  pub seen : List ℕ
  pub said : List ℕ
  pub read : Consumes input rest seen
  pub long : least ≤ length seen
  pub written : Appends before after said
  pub takes : TakesLines start s seen bytes cut said
