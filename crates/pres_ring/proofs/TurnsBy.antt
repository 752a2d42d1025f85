-- What turns make by the sum: which are messages, who opens, who ends.
use Rattle.std.proofs.Common.{refl, sym, ◌∙◌, ap, subst, ◌≡◌, ℕ, List, [], ◌∷◌, length, true, cond, true≢false, is_some, None, Option, Some}
use Rattle.std.specs.List.{list_any}
use Rattle.std.specs.Option.{option_map}
use Rattle.std.specs.FinMap.Entries.{find}
use Rattle.pres_ids.specs.declared.id.SessionId.{SessionId}
use Rattle.pres_ids.specs.declared.id.Why.{Why}
use Rattle.pres_ids.specs.declared.id.Why.TheVariants as why
use Rattle.pres_ids.specs.Ids.{ClientId, client_cmp, stamp_of}
use Rattle.pres_wire.specs.declared.up.Up.{Up}
use Rattle.pres_wire.specs.Messages.{session_in}
use Rattle.pres_log.specs.declared.entry.Entry.{Entry}
use Rattle.pres_server.specs.declared.input.Input.{Input}
use Rattle.pres_server.specs.declared.input.Input.TheVariants as input
use Rattle.pres_server.specs.ServerStates.{late_client}
use Rattle.pres_server.specs.Turns.{Decision, quiet, makes}
use Rattle.pres_server.specs.InternalParts.{is_live, session_with, end_by, hello_by, message_by, ends_live, ends_of, wanted_by, limited_by}
use Rattle.pres_server.specs.Sums.{Sum, OpenSession, live_of, part_in, paths_in, is_open_in}
use Rattle.pres_server.specs.SumStates.{SumState}
use Rattle.pres_server.specs.SumTurns.{moment_by}
use Rattle.pres_server.proofs.Clients.{session_itself}
use Rattle.pres_server.proofs.Turning.{stamp_itself}
use Rattle.pres_history.specs.Sessions.{ends}
use Rattle.pres_history.proofs.Steps.{or_false}
use Rattle.pres_ring.specs.Laws.{IsEnding}
use Rattle.pres_ring.specs.LawsByTheSum.{HelloIsNotQuietBy, OnlyHelloOpensBy, AcceptsOneBy, NextIsNotQuietBy, MadeIsNextBy, end_in, LostEndsBy, SlowEndsBy, EndsAtRestartBy, RestartEndsBy}
use Rattle.pres_ring.proofs.Made.{IfMakes, IsLoud, same_made}
use Rattle.pres_ring.proofs.MadeBy.{made_within, made, not_quiet, IsUnasked, live_made, of_made, late_made, IsSaid, message_said, hello_loud, next_loud}

-- ---- what is made

abbrev within : Sum → Decision → Decision
within sum d = limited_by sum.number (length sum.sessions) d

made_in : (P : List Entry → Type 0) (sum : Sum) (d : Decision) (es : List Entry) → IfMakes P d → within sum d ≡ makes es → P es
made_in P sum d es h e = made P sum.number (length sum.sessions) d es h e

said : (sum : Sum) (m : ℕ) (u : Up) (es : List Entry) → within sum (message_by (part_in sum (session_in u).client) (paths_in sum (session_in u)) sum.tree m u) ≡ makes es → IsSaid (part_in sum (session_in u).client).live u es
said sum m u es e =
    let p = part_in sum (session_in u).client in
    made_in (IsSaid p.live u) sum (message_by p (paths_in sum (session_in u)) sum.tree m u) es (message_said p (paths_in sum (session_in u)) sum.tree m u) e

pub hello_is_not_quiet : (state : SumState) (s : SessionId) (now : ℕ) → HelloIsNotQuietBy state s now
hello_is_not_quiet state s now =
    let sum = state.sum in
    let m = moment_by sum now in
    let p = part_in sum s.client in
    not_quiet sum.number (length sum.sessions) (hello_by p sum.tree m s) (hello_loud p sum.tree m s)

-- what is made for another input than a message
unasked : (state : SumState) (i : Input) (m : ℕ) (es : List Entry) → IfMakes IsUnasked (wanted_by (part_in state.sum) (paths_in state.sum) state.heard state.sum.tree m i) → within state.sum (wanted_by (part_in state.sum) (paths_in state.sum) state.heard state.sum.tree m i) ≡ makes es → IsUnasked es
unasked state i m es h e = made_in IsUnasked state.sum (wanted_by (part_in state.sum) (paths_in state.sum) state.heard state.sum.tree m i) es h e

pub only_hello_opens : (s : SessionId) (state : SumState) (i : Input) (now : ℕ) (es : List Entry) → OnlyHelloOpensBy s state i now es
only_hello_opens s state (input.Up u) now es e = (said state.sum (moment_by state.sum now) u es e).1 s
only_hello_opens s state (input.Lost t) now es e =
    let m = moment_by state.sum now in
    (unasked state (input.Lost t) m es (live_made (part_in state.sum t.client).live state.sum.tree m why.Lost t) e).1 s
only_hello_opens s state (input.Slow t) now es e =
    let m = moment_by state.sum now in
    (unasked state (input.Slow t) m es (live_made (part_in state.sum t.client).live state.sum.tree m why.Slow t) e).1 s
only_hello_opens s state (input.Restart c) now es e =
    let m = moment_by state.sum now in
    (unasked state (input.Restart c) m es (of_made (part_in state.sum c).live state.sum.tree m why.Restart c) e).1 s
only_hello_opens s state input.Tick now es e =
    let m = moment_by state.sum now in
    (unasked state input.Tick m es (late_made (part_in state.sum) state.sum.tree m (late_client m state.heard)) e).1 s

pub accepts_one : (state : SumState) (i : Input) (now : ℕ) (es : List Entry) → AcceptsOneBy state i now es
accepts_one state (input.Up u) now es e = (said state.sum (moment_by state.sum now) u es e).0
accepts_one state (input.Lost t) now es e =
    let m = moment_by state.sum now in
    (unasked state (input.Lost t) m es (live_made (part_in state.sum t.client).live state.sum.tree m why.Lost t) e).0
accepts_one state (input.Slow t) now es e =
    let m = moment_by state.sum now in
    (unasked state (input.Slow t) m es (live_made (part_in state.sum t.client).live state.sum.tree m why.Slow t) e).0
accepts_one state (input.Restart c) now es e =
    let m = moment_by state.sum now in
    (unasked state (input.Restart c) m es (of_made (part_in state.sum c).live state.sum.tree m why.Restart c) e).0
accepts_one state input.Tick now es e =
    let m = moment_by state.sum now in
    (unasked state input.Tick m es (late_made (part_in state.sum) state.sum.tree m (late_client m state.heard)) e).0

pub next_is_not_quiet : (state : SumState) (u : Up) (now : ℕ) → NextIsNotQuietBy state u now
next_is_not_quiet state u now k =
    let sum = state.sum in
    let m = moment_by sum now in
    let p = part_in sum (session_in u).client in
    not_quiet sum.number (length sum.sessions) (message_by p (paths_in sum (session_in u)) sum.tree m u) (next_loud p (paths_in sum (session_in u)) sum.tree m u k)

pub made_is_next : (state : SumState) (u : Up) (now : ℕ) (es : List Entry) → MadeIsNextBy state u now es
made_is_next state u now es h e = (said state.sum (moment_by state.sum now) u es e).2 h

-- ---- ends

ending : (s : SessionId) (sum : Sum) (e : Entry) (d : Decision) → d ≡ makes (e ∷ []) → ends s e ≡ true → IsEnding s e (within sum d)
ending s sum e d p h = record { not_quiet = not_quiet sum.number (length sum.sessions) d (subst IsLoud (sym p) tt); alone = alone; ended = λ es k. ap (list_any (ends s)) (alone es k) ∙ or_false (ends s e) ∙ h } where
  alone : (es : List Entry) → within sum d ≡ makes es → es ≡ e ∷ []
  alone es k = same_made es (e ∷ []) (sym (made_within sum.number (length sum.sessions) d es k) ∙ p)

live_ends : (sum : Sum) (m : ℕ) (w : Why) (s : SessionId) → is_open_in s sum ≡ true → IsEnding s (end_in sum m w s) (within sum (ends_live (part_in sum s.client).live sum.tree m w s))
live_ends sum m w s o =
    ending s sum (end_in sum m w s) (ends_live (part_in sum s.client).live sum.tree m w s)
    (ap (λ b. cond b (makes (end_in sum m w s ∷ [])) quiet) o) (session_itself s)

pub lost_ends : (state : SumState) (s : SessionId) (now : ℕ) → LostEndsBy state s now
lost_ends state s now o = live_ends state.sum (moment_by state.sum now) why.Lost s o

pub slow_ends : (state : SumState) (s : SessionId) (now : ℕ) → SlowEndsBy state s now
slow_ends state s now o = live_ends state.sum (moment_by state.sum now) why.Slow s o

pub restart_ends : (state : SumState) (c : ClientId) (now : ℕ) → RestartEndsBy state c now
restart_ends state c now h = by (find client_cmp c state.sum.sessions) refl h where
  sum : Sum
  sum = state.sum

  m : ℕ
  m = moment_by sum now

  by : (o : Option OpenSession) → find client_cmp c sum.sessions ≡ o → is_some o ≡ true → (s : SessionId) × EndsAtRestartBy state c now s
  by None k there = absurd (true≢false (sym there))
  by (Some x) k there =
      let s : SessionId = session_with c x.stamp in
      let live : (part_in sum c).live ≡ Some (live_of x) = ap (option_map live_of) k in (
        s,
        (
          refl,
          ap (λ l. is_live l (stamp_of s)) live ∙ stamp_itself x.stamp,
          ending s sum (end_in sum m why.Restart s) (ends_of (part_in sum c).live sum.tree m why.Restart c)
              (ap (λ l. ends_of l sum.tree m why.Restart c) live ∙ ap (λ l. makes (end_by l sum.tree m None why.Restart s ∷ [])) (sym live)) (session_itself s),
        ),
      )
