-- What the index says after one entry more.
use Rattle.std.proofs.Common.{refl, sym, ◌∙◌, ap, subst, ◌≡◌, ℕ, ◌+◌, ◌-◌, ◌<◌, ◌≤◌, List, length, Bool, true, false, cond, arith, Option, Some, None, slice_get, ◌==◌, unwrap_or, All}
use Rattle.std.specs.Option.{option_map}
use Rattle.std.specs.BTreeMap.{Updates}
use Rattle.std.proofs.lemmas.Bool.Decides.{nat_tests}
use Rattle.pres_tree.specs.declared.scalar.Scalar.{Scalar}
use Rattle.pres_tree.specs.Rows.{Rows}
use Rattle.pres_write.specs.declared.basic.Basic.{Basic}
use Rattle.pres_plan.specs.declared.row.PlanRow.{PlanRow}
use Rattle.pres_plan.specs.Plans.{most_rows, due}
use Rattle.pres_ids.specs.declared.id.SessionId.{SessionId}
use Rattle.pres_ids.specs.Ids.{ClientId, client_cmp, same_client, stamp_of}
use Rattle.pres_session.specs.declared.gone.Gone.{Gone}
use Rattle.pres_retry.specs.declared.table.Row.{Row}
use Rattle.pres_retry.specs.Tables.{row}
use Rattle.pres_retry.specs.Verdicts.{verdict, row_status, again, fresh, gap}
use Rattle.pres_log.specs.declared.entry.Entry.{Entry}
use Rattle.pres_log.specs.Logs.{tree}
use Rattle.pres_server.specs.declared.index.Index.{Index}
use Rattle.pres_server.specs.Sessions.{session_of}
use Rattle.pres_server.specs.InternalParts.{LivePart, IsAsked, plan_after, comes_after}
use Rattle.pres_server.specs.InternalSessions.{Session, last_stamp, live_part, live_after, MayLeaveAt, AreDueAt, MayOpen}
use Rattle.pres_server.specs.InternalIndex.{session_at, gone_at, Steps}
use Rattle.pres_server.proofs.Clients.{same_by_cmp}

-- ---- what a client's part says of its place

pub due_by : (live : Option Session) (l : LivePart) → option_map live_part live ≡ Some l → (rows : List Basic) (tree : Rows Scalar) (m : ℕ) → rows ≡ due tree m l.plan → AreDueAt live rows
due_by None l k rows tree m h = absurd (cc)
due_by (Some session) l k rows tree m h =
    let p : session.plan ≡ l.plan = ap (λ (o : Option LivePart). (unwrap_or o l).plan) k in
    (tree, m, h ∙ ap (due tree m) (sym p))

pub leaves_by : (live : Option Session) (l : LivePart) → option_map live_part live ≡ Some l → (q : ℕ) (e : Entry) → q ≡ l.count + 1 → IsAsked (Some l) → length (plan_after e l.plan) ≤ most_rows → MayLeaveAt live q e
leaves_by None l k q e n asked few = absurd (cc)
leaves_by (Some session) l k q e n asked few =
    let p : l.plan ≡ session.plan = ap (λ (o : Option LivePart). (unwrap_or o l).plan) (sym k) in
    record {
      later = subst (λ (x : ℕ × List PlanRow). All (λ row. row.q < x.0) x.1) (λ i. (sym n i, p i)) asked;
      few = subst (λ rows. length (plan_after e rows) ≤ most_rows) p few;
    }

pub may_open : (index : Index) (s : SessionId) → option_map live_part (session_at index s.client) ≡ None → comes_after (last_stamp (session_at index s.client) (gone_at index s.client)) (stamp_of s) ≡ true → MayOpen index.places s
may_open index s l k =
    let none : session_at index s.client ≡ None = by (session_at index s.client) l in
    record { nobody = none; newer = ap (λ live. comes_after (last_stamp live (gone_at index s.client)) (stamp_of s)) (sym none) ∙ k } where
      by : (live : Option Session) → option_map live_part live ≡ None → live ≡ None
      by None h = refl
      by (Some session) h = absurd (cc)

not_next : (n k : ℕ) → n ≤ k → (n == k + 1) ≡ false
not_next n k h = grind (arith, nat_tests)

not_zero : (n : ℕ) → 1 ≤ n → (n == 0) ≡ false
not_zero n h = grind (arith, nat_tests)

pub is_again : (n : ℕ) (rows : List Row) (kept : Row) → 1 ≤ n → n ≤ length rows → slice_get rows (n - 1) ≡ Some kept → verdict n rows ≡ again kept
is_again n rows kept low high k =
    (λ i. cond (not_zero n low i) gap (cond (not_next n (length rows) high i) fresh (row_status (slice_get rows (n - 1)))))
    ∙ ap row_status k

-- ---- the parts after the entry

pub live_new : (z m : ℕ) (old new : Index) (e : Entry) → Steps z m old new e → (c : ClientId) (b : Bool) → same_client (session_of e).client c ≡ b
    → session_at new c ≡ cond b (live_after m e (session_at old (session_of e).client)) (session_at old c)
live_new z m old new e st c b h =
    st.live.0 c ∙ ap (λ t. cond t (live_after m e (session_at old (session_of e).client)) (session_at old c)) (same_by_cmp (session_of e).client c ∙ h)

-- who is gone: a map in which the client's entry is changed, and one that stays
pub gone_changed : (old new : Index) (k : ClientId) (g : Option Gone) → Updates client_cmp old.places.gone new.places.gone k g → (c : ClientId) (b : Bool) → same_client k c ≡ b → gone_at new c ≡ cond b g (gone_at old c)
gone_changed old new k g st c b h = st.0 c ∙ ap (λ t. cond t g (gone_at old c)) (same_by_cmp k c ∙ h)
