-- How a line is kept: at a place, which has the session's feed.
use Rattle.std.specs.Prelude.{◌≡◌, Option, Some, None, IfSome, List, map}
use Rattle.std.specs.BTreeMap.{BTreeMap, get}
use Rattle.pres_ids.specs.declared.id.SessionId.{SessionId}
use Rattle.pres_wire.specs.declared.down.Down.{Down}
use Rattle.pres_fan.specs.Listeners.{session_cmp}
use Rattle.pres_ring.specs.RingEnds.{FeedState}
use Rattle.pres_ring.specs.declared.session_feed.SessionFeed.{SessionFeed}
use Rattle.pres_ring.specs.Lines.{SessionLine, Lines, first_slow}

-- what the place's feed has put, none without one
abbrev pub sent_on : Option FeedState → Option (List Down)
sent_on None = None
sent_on (Some feed) = feed.sent

abbrev pub line_of : SessionFeed → SessionLine
line_of p = record { sent = sent_on p.feed; mark = p.mark }

-- the lines that are kept at these places
abbrev pub lines_of : List (SessionId × SessionFeed) → Lines
lines_of places = map (λ e. (e.0, line_of e.1)) places

-- the feed is the session's
abbrev pub IsOwn : SessionId → SessionFeed → Type 0
IsOwn s p = IfSome p.feed (λ feed. feed.session ≡ s)

-- each feed is that of the session at whose place it stands
abbrev pub AreOwn : BTreeMap SessionId SessionFeed → Type 0
AreOwn places = (s : SessionId) → IfSome (get session_cmp places s) (IsOwn s)

-- none of the lines is slow
abbrev pub AreFast : BTreeMap SessionId SessionFeed → Type 0
AreFast places = first_slow (lines_of places.entries) ≡ None
