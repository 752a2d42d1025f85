-- What is known of each session's ring, by session.
use Rattle.std.specs.Prelude.{◌≡◌, ◌&&◌, ℕ, Bool, true, false, not, if◌then◌else◌, List, [], ◌∷◌, filter, length, Option, Some, None, is_some, unwrap_or, IfSome, IsSomeAnd}
use Rattle.std.specs.Option.{option_map, option_or}
use Rattle.std.specs.declared.cmp.Ordering.TheVariants.{Less}
use Rattle.std.specs.FinMap.Entries.{find}
use Rattle.pres_ids.specs.declared.id.SessionId.{SessionId}
use Rattle.pres_ids.specs.declared.id.Why.{Why}
use Rattle.pres_ids.specs.declared.id.Why.TheVariants as why
use Rattle.pres_ids.specs.Ids.{same_session}
use Rattle.pres_wire.specs.declared.down.Down.{Down}
use Rattle.pres_fan.specs.Listeners.{session_cmp}
use Rattle.pres_ring.specs.RingEnds.{FeedState}

-- what was put on the session's ring, none where nothing more is put; and why it is still to end, where its end was refused
pub record SessionLine : Type 0 where
  pub sent : Option (List Down)
  pub mark : Option Why

-- the line of each session that has one, in order of the sessions
abbrev pub Lines : Type 0
Lines = List (SessionId × SessionLine)

abbrev pub line_at : SessionId → Lines → Option SessionLine
line_at s lines = find session_cmp s lines

abbrev pub has_line : SessionId → Lines → Bool
has_line s lines = is_some (line_at s lines)

-- ---- kinds of lines

-- nothing is put on it yet, and nothing says that the session is to end
abbrev pub blank : SessionLine
blank = record { sent = None; mark = None }

-- the line of a session whose ring this is
abbrev pub fed : FeedState → SessionLine
fed feed = record { sent = feed.sent; mark = None }

-- nothing is put on it, and it isn't marked
abbrev pub is_slow : SessionLine → Bool
is_slow l = not (is_some l.sent) && not (is_some l.mark)

-- nothing more is put on it, and it is marked, where it wasn't yet
abbrev pub struck : Why → SessionLine → SessionLine
struck w l = record { sent = None; mark = Some (unwrap_or l.mark w) }

-- the same line, marked
abbrev pub marked : Why → SessionLine → SessionLine
marked w l = record { sent = l.sent; mark = Some w }

-- the first session in order whose line is slow
abbrev pub first_slow : Lines → Option SessionId
first_slow [] = None
first_slow (e ∷ lines) = if is_slow e.1 then Some e.0 else first_slow lines

-- the first line that is slow is marked as slow
abbrev pub mark_first_slow : Lines → Lines
mark_first_slow [] = []
mark_first_slow (e ∷ lines) = if is_slow e.1 then (e.0, marked why.Slow e.1) ∷ lines else e ∷ mark_first_slow lines

-- the first session in order whose line is marked, and why it is to end
abbrev pub first_marked : Lines → Option (SessionId × Why)
first_marked [] = None
first_marked (e ∷ lines) = option_or (option_map (λ w. (e.0, w)) e.1.mark) (first_marked lines)

-- the line of s is such a one, and none of a session before it in order is
pub record IsFirst (such : SessionLine → Bool) (s : SessionId) (lines : Lines) : Type 0 where
  pub is : IsSomeAnd (line_at s lines) (λ l. such l ≡ true)
  pub none_before : (t : SessionId) → session_cmp t s ≡ Less → IfSome (line_at t lines) (λ l. such l ≡ false)

-- s is the first session in order whose line is slow
abbrev pub IsFirstSlow : SessionId → Lines → Type 0
IsFirstSlow s lines = IsFirst is_slow s lines

-- the session is the first in order whose line is marked, for this reason
pub record IsFirstMarked (e : SessionId × Why) (lines : Lines) : Type 0 where
  pub first : IsFirst (λ l. is_some l.mark) e.0 lines
  pub why : IsSomeAnd (line_at e.0 lines) (λ l. l.mark ≡ Some e.1)

-- how many lines have no mark
abbrev pub unmarked : Lines → ℕ
unmarked lines = length (filter (λ e. not (is_some e.1.mark)) lines)

-- ---- how lines change

-- the line of one session is changed, and each other one is as before
abbrev pub ChangesAt : SessionId → (Option SessionLine → Option SessionLine) → Lines → Lines → Type 0
ChangesAt session change old new = (s : SessionId) → line_at s new ≡ (if same_session s session then change (line_at s old) else line_at s old)

-- a line, a blank one where there was none
abbrev pub kept_or_blank : Option SessionLine → Option SessionLine
kept_or_blank line = Some (unwrap_or line blank)
