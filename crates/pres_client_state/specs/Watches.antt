-- The paths that a client listens to, and what it shows of them.
use Rattle.std.specs.Prelude.{ℕ, Bool, true, false, List, map, filter, not, Option, Some, None}
use Rattle.std.specs.FinMap.Entries.{find, put}
use Rattle.pres_tree.specs.declared.scalar.Scalar.{Scalar}
use Rattle.pres_tree.specs.Paths.{Path, path_cmp, same_path}
use Rattle.pres_tree.specs.Rows.{Rows}
use Rattle.pres_client_state.specs.declared.queued.Queued.{Queued}
use Rattle.pres_client_state.specs.declared.queued.Queued.TheVariants as queued
use Rattle.pres_client_state.specs.declared.watch.Watch.{Watch}
use Rattle.pres_client_state.specs.declared.watch.Shown.{Shown}
use Rattle.pres_client_state.specs.declared.watch.Shown.TheVariants as shown

-- the paths that are listened to, in path order
abbrev pub Watches : Type 0
Watches = List (Path × Watch)

abbrev pub watch_of : Path → Watches → Option Watch
watch_of p ws = find path_cmp p ws

abbrev pub with_watch : Path → Watch → Watches → Watches
with_watch p w ws = put path_cmp p w ws

abbrev pub without_watch : Path → Watches → Watches
without_watch p ws = filter (λ e. not (same_path p e.0)) ws

-- a path of which nothing is shown yet, for the request
abbrev pub fresh : ℕ → Watch
fresh k = record { request = k; shown = shown.Nothing }

-- the session is left: what it showed stays, at the number that it was left at
abbrev pub kept : ℕ → Shown → Shown
kept seen shown.Nothing = shown.Nothing
kept seen (shown.Kept z v) = shown.Kept z v
kept seen (shown.Live v) = shown.Kept seen v

abbrev pub frozen : ℕ → Watches → Watches
frozen seen ws = map (λ e. (e.0, record e.1 { shown = kept seen e.1.shown })) ws

-- the session sent a value of the path, where that is listened to
abbrev pub tell : Path → Rows Scalar → Watches → Watches
tell p v ws = tell_at (watch_of p ws) where
  tell_at : Option Watch → Watches
  tell_at None = ws
  tell_at (Some w) = with_watch p (record w { shown = shown.Live v }) ws

abbrev pub is_shown_live : Shown → Bool
is_shown_live shown.Nothing = false
is_shown_live (shown.Kept z v) = false
is_shown_live (shown.Live v) = true

-- this session sent a value of the path
abbrev pub is_live : Option Watch → Bool
is_live None = false
is_live (Some w) = is_shown_live w.shown

-- the number and the value that are shown; what this session sent holds at the number of the last message taken
abbrev pub shown_at : ℕ → Shown → Option (ℕ × Rows Scalar)
shown_at seen shown.Nothing = None
shown_at seen (shown.Kept z v) = Some (z, v)
shown_at seen (shown.Live v) = Some (seen, v)

abbrev pub watched_at : ℕ → Option Watch → Option (ℕ × Rows Scalar)
watched_at seen None = None
watched_at seen (Some w) = shown_at seen w.shown

-- listens to a path
abbrev pub on_of : Path × Watch → Queued
on_of e = queued.On e.1.request e.0
