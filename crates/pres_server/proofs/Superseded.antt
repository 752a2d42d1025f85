-- What the sum says of an index after an end and the newer session that takes its place.
use Rattle.std.proofs.Common.{refl, sym, ◌∙◌, ap, ◌≡◌, ℕ, List, [], ◌∷◌, fold, map, Bool, true, false, cond, Option, Some, None, is_some}
use Rattle.std.specs.Option.{option_map}
use Rattle.std.specs.BTreeMap.{get, Updates}
use Rattle.std.specs.FinMap.Entries.{find, put}
use Rattle.pres_tree.specs.declared.scalar.Scalar.{Scalar}
use Rattle.pres_tree.specs.Rows.{Rows, InOrder}
use Rattle.pres_tree.specs.Writes.{write}
use Rattle.pres_tree.proofs.Found.{in_order-after, same_rows}
use Rattle.pres_tree.proofs.Last.{last_write_decides}
use Rattle.pres_write.specs.declared.basic.Basic.{Basic}
use Rattle.pres_write.specs.Basics.{applied, write_of}
use Rattle.pres_ids.specs.declared.id.SessionId.{SessionId}
use Rattle.pres_ids.specs.declared.id.Why.{Why}
use Rattle.pres_ids.specs.Ids.{ClientId, client_cmp, same_client, stamp_of}
use Rattle.pres_fan.specs.declared.listeners.Listener.{Listener}
use Rattle.pres_fan.specs.Listeners.{without_session, touched}
use Rattle.pres_log.specs.declared.entry.Entry.{Entry}
use Rattle.pres_log.specs.declared.entry.Entry.TheVariants as entry
use Rattle.pres_server.specs.declared.index.Index.{Index}
use Rattle.pres_server.specs.declared.client_sessions.ClientSessions.{ClientSessions}
use Rattle.pres_server.specs.InternalSessions.{began}
use Rattle.pres_server.specs.InternalIndex.{session_at, gone_at, Carries}
use Rattle.pres_server.specs.Sums.{Sum, OpenSessions, began as starts, pushed, carried, sum_after}
use Rattle.pres_server.specs.InternalSums.{open_of, Agrees}
use Rattle.pres_server.proofs.Clients.{same_by_cmp}
use Rattle.pres_server.proofs.Pushed.{nobody_touched}
use Rattle.pres_server.proofs.Keyed.{others, find_put, find_others}
use Rattle.pres_server.proofs.SumSteps.{agrees_carried}

-- ---- an entry that writes nothing

applied_none : (u : Rows Scalar) → InOrder u → applied u [] ≡ u
applied_none u o = same_rows (applied u []) u (in_order-after u []) o (λ x. last_write_decides (write [] u ∷ []) x)

-- the tree after due writes stays as it is
due_then_none : (u : Rows Scalar) (due : List Basic) → applied (applied u due) [] ≡ applied u due
due_then_none u due = applied_none (applied u due) (in_order-after u (map write_of due))

-- nobody is pushed anything
none_pushed : (sessions : OpenSessions) (listeners : List Listener) → fold pushed sessions (touched [] listeners) ≡ sessions
none_pushed sessions listeners = ap (fold pushed sessions) (nobody_touched [] listeners refl)

-- ---- both

-- the places after them
pub record Supersedes (t : SessionId) (m : ℕ) (old new : ClientSessions) : Type 0 where
  pub live : Updates client_cmp old.live new.live t.client (Some (began (stamp_of t) m))
  pub gone : new.gone ≡ old.gone

pub superseded : (sum : Sum) (z m : ℕ) (s : SessionId) (q : Option ℕ) (why : Why) (due : List Basic) (t : SessionId) (old mid new : Index)
    → Agrees old sum → s.client ≡ t.client → Carries due old mid → Supersedes t m mid.places new.places
    → new.retry ≡ mid.retry → new.listeners ≡ without_session s mid.listeners → new.tree ≡ mid.tree → Agrees new (sum_after (entry.Open t) (sum_after (entry.Ended s q why due) sum))
superseded sum z m s q why due t old mid new agrees client carries places retry listeners tree_same = record {
  sessions = λ c.
      ap (λ es. find client_cmp c (put client_cmp t.client (starts (stamp_of t)) es)) (none_pushed (others s.client (carried e sum).sessions) (without_session s sum.listeners))
      ∙ find_put t.client (starts (stamp_of t)) (others s.client (carried e sum).sessions) c
      ∙ open_now c (same_client t.client c) refl;
  gone = λ c. find_others t.client (put client_cmp s.client (stamp_of s) sum.gone) c ∙ gone_now c (same_client t.client c) refl;
  rows = a.rows ∙ sym retry;
  listeners = ap (without_session s) a.listeners ∙ sym listeners;
  tree = due_then_none sum.tree due ∙ a.tree ∙ sym tree_same;
} where
  e : Entry
  e = entry.Ended s q why due

  a : Agrees mid (carried e sum)
  a = agrees_carried e old mid sum agrees carries

  session_now : (c : ClientId) (b : Bool) → same_client t.client c ≡ b → session_at new c ≡ cond b (Some (began (stamp_of t) m)) (session_at mid c)
  session_now c b h = places.live.0 c ∙ ap (λ x. cond x (Some (began (stamp_of t) m)) (session_at mid c)) (same_by_cmp t.client c ∙ h)

  other : (c : ClientId) → same_client t.client c ≡ false → same_client s.client c ≡ false
  other c h = ap (λ x. same_client x c) client ∙ h

  open_now : (c : ClientId) (b : Bool) → same_client t.client c ≡ b → cond b (Some (starts (stamp_of t))) (find client_cmp c (others s.client (carried e sum).sessions)) ≡ option_map open_of (session_at new c)
  open_now c true h = ap (option_map open_of) (sym (session_now c true h))
  open_now c false h =
      find_others s.client (carried e sum).sessions c
      ∙ ap (λ b. cond b None (find client_cmp c (carried e sum).sessions)) (other c h)
      ∙ a.sessions c
      ∙ ap (option_map open_of) (sym (session_now c false h))

  gone_now : (c : ClientId) (b : Bool) → same_client t.client c ≡ b → cond b None (find client_cmp c (put client_cmp s.client (stamp_of s) sum.gone)) ≡ cond (is_some (session_at new c)) None (gone_at new c)
  gone_now c true h = sym (ap (λ o. cond (is_some o) None (gone_at new c)) (session_now c true h))
  gone_now c false h =
      find_put s.client (stamp_of s) sum.gone c
      ∙ ap (λ b. cond b (Some (stamp_of s)) (find client_cmp c sum.gone)) (other c h)
      ∙ a.gone c
      ∙ (λ i. cond (is_some (sym (session_now c false h) i)) None (get client_cmp (sym places.gone i) c))
