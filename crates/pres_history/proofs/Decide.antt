-- What a client's part answers is what the log asks for, and what it makes may come.
use Rattle.std.proofs.Common.{refl, sym, ◌∙◌, ap, subst, ◌≡◌, ◌≢◌, ℕ, ◌+◌, ◌-◌, ◌^◌, ◌≤◌, List, [], ◌∷◌, ◌++◌, length, map, Bool, true, false, cond, ◌||◌, ◌&&◌, ◌==◌, nat_lt, nat_le, append_assoc, arith, length-append, Option, Some, None, slice_get, unwrap_or, inl, inr}
use Rattle.std.specs.List.{list_any, list_all}
use Rattle.std.proofs.lemmas.Bool.{and_parts, eqb-true}
use Rattle.std.proofs.lemmas.Bool.Decides.{nat_tests}
use Rattle.std.proofs.lemmas.Option.{slice_get_past, slice_get_cases}
use Rattle.pres_tree.specs.declared.scalar.Scalar.{Scalar}
use Rattle.pres_tree.specs.Paths.{Path}
use Rattle.pres_fan.specs.Listeners.{most_paths, add_path}
use Rattle.pres_tree.specs.Rows.{Rows}
use Rattle.pres_write.specs.declared.op.Op.{Op}
use Rattle.pres_write.specs.Outcomes.{resolved}
use Rattle.pres_ids.specs.declared.id.SessionId.{SessionId}
use Rattle.pres_ids.specs.declared.id.Why.{Why}
use Rattle.pres_ids.specs.declared.id.Why.TheVariants as why
use Rattle.pres_wire.specs.declared.up.Up.{Up}
use Rattle.pres_wire.specs.declared.up.Up.TheVariants as up
use Rattle.pres_wire.specs.declared.down.Limit.TheVariants as limit
use Rattle.pres_wire.specs.Messages.{session_in}
use Rattle.pres_write.specs.Unconditionals.{puts_of}
use Rattle.pres_plan.specs.Plans.{most_rows, due}
use Rattle.pres_ids.specs.Ids.{ClientId, same_session, is_earlier, stamp_of}
use Rattle.pres_retry.specs.declared.table.Row.{Row}
use Rattle.pres_retry.specs.Verdicts.{fresh, gap, verdict, row_status}
use Rattle.pres_log.specs.declared.entry.Entry.{Entry}
use Rattle.pres_log.specs.declared.entry.Entry.TheVariants as entry
use Rattle.pres_log.specs.declared.fault.Fault.TheVariants as fault
use Rattle.pres_log.specs.Logs.{entries, tree}
use Rattle.pres_server.specs.declared.input.Input.{Input}
use Rattle.pres_server.specs.declared.input.Input.TheVariants as input
use Rattle.pres_server.specs.Sessions.{session_of}
use Rattle.pres_server.specs.Batches.{IsPlain, Supersedes}
use Rattle.pres_server.specs.ServerStates.{late_client}
use Rattle.pres_server.specs.Turns.{Decision, refused, quiet, makes, op_by, within_rows, within_paths}
use Rattle.pres_server.specs.InternalParts.{LivePart, open_step, listed, session_with, same_stamp, is_live, said_by, plan_in, plan_after, end_by, leaves_by, listens_by, hello_by, message_by, ends_live, ends_of, ends_late_by, wanted_by, open_steps, limited_by}
use Rattle.pres_server.proofs.Clients.{client_itself, session_itself}
use Rattle.pres_server.proofs.Turning.{from_one, stamp_itself}
use Rattle.pres_history.specs.Sessions.{opens, is_open, is_newest, count, open_sessions_of, open_sessions, last_of}
use Rattle.pres_history.specs.Outcomes.{rows_for, ops}
use Rattle.pres_history.specs.Listening.{listened}
use Rattle.pres_history.specs.LegalLog.{MayCome, MayComeTogether, LeavesRoom, IsEndNumber}
use Rattle.pres_history.specs.SessionPlans.{plan, due_at}
use Rattle.pres_history.specs.ServerStates.{ServerState}
use Rattle.pres_history.specs.Turns.{in_order, if_open, end_of, opening, ends_if_open, ends_first, ends_late, leaves, listens, hello, message, limited, wanted}
use Rattle.pres_history.specs.InternalInvariants.{MayComeUncounted}
use Rattle.pres_history.specs.InternalParts.{part_of, live_in, Sound}
use Rattle.pres_history.proofs.Steps.{or_false, open_listed, in_open}
use Rattle.pres_history.proofs.PlanSteps.{plan_own}
use Rattle.pres_history.proofs.ListenSteps.{listened_own}
use Rattle.pres_history.proofs.Parts.{only_open, ended_own, no_more}
use Rattle.pres_history.proofs.AfterEntry.{sound_after, open_after}

-- a session is open where it is the one that its client's part has
pub live_is : (s : SessionId) (es : List Entry) → Sound es → is_open s es ≡ is_live (part_of s.client es).live (stamp_of s)
live_is s es sound =
    sym (open_listed s es)
    ∙ ap (list_any (same_session s)) (sound.one_open s.client)
    ∙ by (live_in (open_sessions_of s.client es) es) where
      by : (l : Option LivePart) → list_any (same_session s) (listed s.client l) ≡ is_live l (stamp_of s)
      by None = refl
      by (Some l) = or_false (same_session s (session_with s.client l.stamp)) ∙ ap (λ b. b && s.incarnation == l.stamp.incarnation && s.attempt == l.stamp.attempt) (client_itself s.client)

said_is : (s : SessionId) (q : ℕ) (d : Decision) (es : List Entry) → Sound es → if_open es s (in_order es s q d) ≡ said_by (part_of s.client es).live s q d
said_is s q d es sound = elim (is_open s es) as (λ b. is_open s es ≡ b → cond b (in_order es s q d) (refused fault.Session) ≡ said_by (part_of s.client es).live s q d) [
  | true ↦ λ o.
      let l : LivePart = record { stamp = (stamp_of s); count = count s es; plan = plan s es } in
      let same : same_stamp (stamp_of s) (stamp_of s) ≡ true = stamp_itself (stamp_of s) in
      ap (λ b. cond b (in_order es s q d) (refused fault.Session)) (sym same) ∙ ap (λ xs. said_by (live_in xs es) s q d) (sym (only_open s es sound o))
  | false ↦ λ o. by (part_of s.client es).live (sym (live_is s es sound) ∙ o)
] refl where
  by : (l : Option LivePart) → is_live l (stamp_of s) ≡ false → refused fault.Session ≡ said_by l s q d
  by None e = refl
  by (Some l) e = ap (λ b. cond b (cond (nat_le q l.count) quiet (cond (q == l.count + 1) d (refused fault.Order))) (refused fault.Session)) (sym e)

-- write n of a client that has made this many
abbrev op_by_count : ℕ → Rows Scalar → ℕ → SessionId → ℕ → ℕ → Op → Decision
op_by_count ops tree m s q n op =
    cond (n == 0) (refused fault.Order) (cond (n == ops + 1) (makes (entry.Op s q n op (resolved tree m op) ∷ [])) (cond (nat_lt ops n) (refused fault.Order) (makes (entry.Again s q n ∷ []))))

op_is : (rows : List Row) (t : Rows Scalar) (m : ℕ) (s : SessionId) (q n : ℕ) (op : Op) → op_by (verdict n rows) t m s q n op ≡ op_by_count (length rows) t m s q n op
op_is rows t m s q n op = elim (n == 0) as (λ z. (n == 0) ≡ z → op_by (cond z gap (cond (n == length rows + 1) fresh (row_status (slice_get rows (n - 1))))) t m s q n op
    ≡ cond z (refused fault.Order) (cond (n == length rows + 1) (makes (entry.Op s q n op (resolved t m op) ∷ [])) (cond (nat_lt (length rows) n) (refused fault.Order) (makes (entry.Again s q n ∷ []))))) [
      | true ↦ λ _. refl
      | false ↦ λ z. elim (n == length rows + 1) as (λ b. op_by (cond b fresh (row_status (slice_get rows (n - 1)))) t m s q n op
          ≡ cond b (makes (entry.Op s q n op (resolved t m op) ∷ [])) (cond (nat_lt (length rows) n) (refused fault.Order) (makes (entry.Again s q n ∷ [])))) [
            | true ↦ refl
            | false ↦ elim (nat_lt (length rows) n) as (λ b. nat_lt (length rows) n ≡ b → op_by (row_status (slice_get rows (n - 1))) t m s q n op ≡ cond b (refused fault.Order) (makes (entry.Again s q n ∷ []))) [
              | true ↦ λ h. ap (λ o. op_by (row_status o) t m s q n op) (slice_get_past rows (n - 1) (past (length rows) n h))
              | false ↦ λ h. elim (slice_get_cases rows (n - 1)).1 [
                | inl here ↦ ap (λ o. op_by (row_status o) t m s q n op) here.2
                | inr end ↦ absurd (within (length rows) n h (from_one n z) end.0)
              ]
            ] refl
          ]
    ] refl where
      past : (k n : ℕ) → nat_lt k n ≡ true → k ≤ n - 1
      past k n h = grind (arith, nat_tests)

      within : (k n : ℕ) → nat_lt k n ≡ false → 1 ≤ n → k ≤ n - 1 → ⊥
      within k n h low end = grind (arith, nat_tests)

-- where the session is open, another answer to its next message makes no difference elsewhere
said_alike : (l : Option LivePart) (s : SessionId) (q : ℕ) (d e : Decision) → (is_live l (stamp_of s) ≡ true → d ≡ e) → said_by l s q d ≡ said_by l s q e
said_alike None s q d e h = refl
said_alike (Some l) s q d e h = by (same_stamp (stamp_of s) l.stamp) h where
  by : (b : Bool) → (b ≡ true → d ≡ e) → cond b (cond (nat_le q l.count) quiet (cond (q == l.count + 1) d (refused fault.Order))) (refused fault.Session)
      ≡ cond b (cond (nat_le q l.count) quiet (cond (q == l.count + 1) e (refused fault.Order))) (refused fault.Session)
  by true k = ap (λ x. cond (nat_le q l.count) quiet (cond (q == l.count + 1) x (refused fault.Order))) (k refl)
  by false k = refl

-- what an open session's next message asks for, said of the log and by its part
said_same : (s : SessionId) (q : ℕ) (d e : Decision) (es : List Entry) → Sound es → (is_open s es ≡ true → d ≡ e) → if_open es s (in_order es s q d) ≡ said_by (part_of s.client es).live s q e
said_same s q d e es sound h = said_is s q d es sound ∙ said_alike (part_of s.client es).live s q d e (λ k. h (live_is s es sound ∙ k))

end_is : (es : List Entry) (m : ℕ) (q : Option ℕ) (w : Why) (s : SessionId) → Sound es → is_open s es ≡ true → end_of es m q w s ≡ end_by (part_of s.client es).live (tree es) m q w s
end_is es m q w s sound o = ap (λ xs. entry.Ended s q w (due (tree es) m (plan_in (live_in xs es)))) (sym (only_open s es sound o))

leaves_is : (es : List Entry) (e : Entry) (q : ℕ) → Sound es → is_open (session_of e) es ≡ true → leaves es e (session_of e) q ≡ leaves_by (part_of (session_of e).client es).live e (session_of e) q
leaves_is es e q sound o =
    let s = session_of e in
    ap (λ rows. within_rows (length rows) e s q)
    (plan_own s es e (and_parts (list_any (opens s) es) _ o).0 (session_itself s) ∙ ap (λ xs. plan_after e (plan_in (live_in xs es))) (sym (only_open s es sound o)))

-- the open session of a client's part
open_there : (c : ClientId) (es : List Entry) (l : LivePart) → Sound es → (part_of c es).live ≡ Some l → is_open (session_with c l.stamp) es ≡ true
open_there c es l sound k =
    let t : SessionId = session_with c l.stamp in
    (in_open t c es (ap (list_any (same_session t)) (sound.one_open c ∙ ap (listed c) k) ∙ ap (λ b. b || false) (session_itself t))).1

ends_listed : (es : List Entry) (m : ℕ) (w : Why) (c : ClientId) → Sound es → map (end_of es m None w) (open_sessions_of c es) ≡ map (end_by (part_of c es).live (tree es) m None w) (listed c (part_of c es).live)
ends_listed es m w c sound = ap (map (end_of es m None w)) (sound.one_open c) ∙ by (part_of c es).live refl where
  by : (l : Option LivePart) → (part_of c es).live ≡ l → map (end_of es m None w) (listed c l) ≡ map (end_by (part_of c es).live (tree es) m None w) (listed c l)
  by None k = refl
  by (Some l) k = ap (λ e. e ∷ []) (end_is es m None w (session_with c l.stamp) sound (open_there c es l sound k))

hello_is : (s : SessionId) (m : ℕ) (es : List Entry) → Sound es → hello es m s ≡ hello_by (part_of s.client es) (tree es) m s
hello_is s m es sound =
    λ i. cond (sound.newest s i) (makes (ends_listed es m why.Superseded s.client sound i ++ entry.Open s ∷ [])) (refused (fault.Old (unwrap_or (last_of s.client es) (stamp_of s))))

ends_is : (es : List Entry) (m : ℕ) (w : Why) (s : SessionId) → Sound es → ends_if_open es m w s ≡ ends_live (part_of s.client es).live (tree es) m w s
ends_is es m w s sound = by (is_open s es) refl where
  made : Decision
  made = makes (end_by (part_of s.client es).live (tree es) m None w s ∷ [])

  by : (b : Bool) → is_open s es ≡ b → cond b (makes (end_of es m None w s ∷ [])) quiet ≡ ends_live (part_of s.client es).live (tree es) m w s
  by true o = ap (λ e. makes (e ∷ [])) (end_is es m None w s sound o) ∙ ap (λ b. cond b made quiet) (sym o ∙ live_is s es sound)
  by false o = ap (λ b. cond b made quiet) (sym o ∙ live_is s es sound)

first_is : (es : List Entry) (m : ℕ) (w : Why) (c : ClientId) → Sound es → ends_first es m w (open_sessions_of c es) ≡ ends_of (part_of c es).live (tree es) m w c
first_is es m w c sound = ap (ends_first es m w) (sound.one_open c) ∙ by (part_of c es).live refl where
  by : (l : Option LivePart) → (part_of c es).live ≡ l → ends_first es m w (listed c l) ≡ ends_of l (tree es) m w c
  by None k = refl
  by (Some l) k =
      let t : SessionId = session_with c l.stamp in
      ap (λ e. makes (e ∷ [])) (end_is es m None w t sound (open_there c es l sound k)) ∙ ap (λ live. makes (end_by live (tree es) m None w t ∷ [])) k

late_is : (es : List Entry) (m : ℕ) (o : Option ClientId) → Sound es → ends_late es m o ≡ ends_late_by (λ c. part_of c es) (tree es) m o
late_is es m None sound = refl
late_is es m (Some c) sound = first_is es m why.Lease c sound

-- what an open session listens to, and nothing for another
abbrev pub listens_in : List Entry → SessionId → List Path
listens_in es s = cond (is_open s es) (listened s es) []

listens_is : (es : List Entry) (s : SessionId) (q : ℕ) (path : Path) → is_open s es ≡ true → listens es s q path ≡ listens_by (listens_in es s) s q path
listens_is es s q path o =
    ap (λ paths. within_paths (length paths) s q path)
    (listened_own s es (entry.On s q path) (and_parts (list_any (opens s) es) _ o).0 (session_itself s) ∙ ap (λ b. add_path path (cond b (listened s es) [])) (sym o))

message_is : (es : List Entry) (m : ℕ) (u : Up) → Sound es → message es m u ≡ message_by (part_of (session_in u).client es) (listens_in es (session_in u)) (tree es) m u
message_is es m (up.Hello s) sound = hello_is s m es sound
message_is es m (up.Op s q n op) sound = said_is s q _ es sound
message_is es m (up.Left s q op) sound = said_same s q _ _ es sound (λ o. leaves_is es (entry.Left s q (puts_of op)) q sound o)
message_is es m (up.Cancel s q path) sound = said_same s q _ _ es sound (λ o. leaves_is es (entry.Cancelled s q path) q sound o)
message_is es m (up.On s q path) sound = said_same s q _ _ es sound (λ o. listens_is es s q path o)
message_is es m (up.Off s q path) sound = said_is s q _ es sound
message_is es m (up.Bye s q) sound = said_same s q _ _ es sound (λ o. ap (λ e. makes (e ∷ [])) (end_is es m (Some q) why.Bye s sound o))
message_is es m (up.Beat s) sound = ap (λ b. cond b quiet (refused fault.Session)) (live_is s es sound)

pub wanted_is : (state : ServerState) (m : ℕ) (i : Input) → Sound (entries state.log) → wanted state m i ≡ wanted_by (λ c. part_of c (entries state.log)) (listens_in (entries state.log)) state.heard (tree (entries state.log)) m i
wanted_is state m (input.Up u) sound = message_is (entries state.log) m u sound
wanted_is state m (input.Lost s) sound = ends_is (entries state.log) m why.Lost s sound
wanted_is state m (input.Slow s) sound = ends_is (entries state.log) m why.Slow s sound
wanted_is state m (input.Restart c) sound = first_is (entries state.log) m why.Restart c sound
wanted_is state m input.Tick sound = late_is (entries state.log) m (late_client m state.heard) sound

-- entries that may come together, but for the limit on open sessions
abbrev pub MayComeTogetherUncounted : List Entry → ℕ → List Entry → Type 0
MayComeTogetherUncounted es m (e ∷ []) = IsPlain e × MayComeUncounted es m e
MayComeTogetherUncounted es m (e ∷ f ∷ []) = Supersedes e f × MayComeUncounted es m e × MayComeUncounted (es ++ e ∷ []) m f
MayComeTogetherUncounted es m _ = ⊥

abbrev pub Allowed : List Entry → ℕ → Decision → Type 0
Allowed es m (makes xs) = MayComeTogetherUncounted es m xs
Allowed es m other = Unit {0}

hello_allowed : (es : List Entry) (m : ℕ) (s : SessionId) → Sound es → Allowed es m (hello es m s)
hello_allowed es m s sound = elim (is_newest s es) as (λ b. is_newest s es ≡ b → Allowed es m (cond b (opening es m s) (refused (fault.Old (unwrap_or (last_of s.client es) (stamp_of s)))))) [
  | true ↦ λ new. by new (part_of s.client es).live refl
  | false ↦ λ _. tt
] refl where
  opens_after : List SessionId → Type 0
  opens_after xs = MayComeTogetherUncounted es m (map (end_of es m None why.Superseded) xs ++ entry.Open s ∷ [])

  by : is_newest s es ≡ true → (l : Option LivePart) → (part_of s.client es).live ≡ l → opens_after (open_sessions_of s.client es)
  by new None k = let none = sound.one_open s.client ∙ ap (listed s.client) k in subst opens_after (sym none) (tt, (new, none))
  by new (Some l) k =
      let t : SessionId = session_with s.client l.stamp in
      let o = open_there s.client es l sound k in
      let e : Entry = end_of es m None why.Superseded t in
      subst opens_after (sym (sound.one_open s.client ∙ ap (listed s.client) k))
      ((refl, refl), (o, refl, refl), (ap (list_all (λ x. is_earlier (stamp_of x) (stamp_of s))) (no_more s.client es e refl) ∙ new, ended_own es t None why.Superseded (due_at es m t) sound o))

said_allowed : (es : List Entry) (m : ℕ) (s : SessionId) (q : ℕ) (d : Decision) → (is_open s es ≡ true → q ≡ count s es + 1 → Allowed es m d) → Allowed es m (if_open es s (in_order es s q d))
said_allowed es m s q d h = elim (is_open s es) as (λ b. is_open s es ≡ b → Allowed es m (cond b (in_order es s q d) (refused fault.Session))) [
  | true ↦ λ o. elim (nat_le q (count s es)) as (λ b. Allowed es m (cond b quiet (cond (q == count s es + 1) d (refused fault.Order)))) [
    | true ↦ tt
    | false ↦ elim (q == count s es + 1) as (λ b. (q == count s es + 1) ≡ b → Allowed es m (cond b d (refused fault.Order))) [
      | true ↦ λ e. h o (eqb-true q (count s es + 1) e)
      | false ↦ λ _. tt
    ] refl
  ]
  | false ↦ λ _. tt
] refl

op_allowed : (es : List Entry) (m : ℕ) (s : SessionId) (q n : ℕ) (op : Op) → is_open s es ≡ true → q ≡ count s es + 1 → Allowed es m (op_by_count (ops s.client es) (tree es) m s q n op)
op_allowed es m s q n op o k = elim (n == 0) as (λ z. (n == 0) ≡ z → Allowed es m (cond z (refused fault.Order) (cond (n == ops s.client es + 1) (makes (entry.Op s q n op (resolved (tree es) m op) ∷ [])) (cond (nat_lt (ops s.client es) n) (refused fault.Order) (makes (entry.Again s q n ∷ [])))))) [
  | true ↦ λ _. tt
  | false ↦ λ z. elim (n == ops s.client es + 1) as (λ b. (n == ops s.client es + 1) ≡ b → Allowed es m (cond b (makes (entry.Op s q n op (resolved (tree es) m op) ∷ [])) (cond (nat_lt (ops s.client es) n) (refused fault.Order) (makes (entry.Again s q n ∷ []))))) [
    | true ↦ λ e. (tt, ((o, k), eqb-true n (ops s.client es + 1) e, refl))
    | false ↦ λ _. elim (nat_lt (ops s.client es) n) as (λ b. nat_lt (ops s.client es) n ≡ b → Allowed es m (cond b (refused fault.Order) (makes (entry.Again s q n ∷ [])))) [
      | true ↦ λ _. tt
      | false ↦ λ e. (tt, ((o, k), from_one n z, high n (ops s.client es) e))
    ] refl
  ] refl
] refl where
  high : (a b : ℕ) → nat_lt b a ≡ false → a ≤ b
  high a b e = grind (arith, nat_tests)

-- an action that is left, or denied
leaves_allowed : (es : List Entry) (m : ℕ) (e : Entry) (s : SessionId) (q n : ℕ) → is_open s es ≡ true → q ≡ count s es + 1 → IsPlain e → (n ≤ most_rows → MayComeUncounted es m e) → Allowed es m (within_rows n e s q)
leaves_allowed es m e s q n o k plain h = by (nat_le n most_rows) refl where
  few : nat_le n most_rows ≡ true → n ≤ most_rows
  few b = grind (arith, nat_tests)

  by : (b : Bool) → nat_le n most_rows ≡ b → Allowed es m (makes (cond b e (entry.Denied s q limit.Plan) ∷ []))
  by true b = (plain, h (few b))
  by false b = (tt, (o, k))

-- an On, or its denial
listens_allowed : (es : List Entry) (m : ℕ) (s : SessionId) (q n : ℕ) (path : Path) → is_open s es ≡ true → q ≡ count s es + 1 → (n ≤ most_paths → MayComeUncounted es m (entry.On s q path)) → Allowed es m (within_paths n s q path)
listens_allowed es m s q n path o k h = by (nat_le n most_paths) refl where
  few : nat_le n most_paths ≡ true → n ≤ most_paths
  few b = grind (arith, nat_tests)

  by : (b : Bool) → nat_le n most_paths ≡ b → Allowed es m (makes (cond b (entry.On s q path) (entry.Denied s q limit.Listens) ∷ []))
  by true b = (tt, h (few b))
  by false b = (tt, (o, k))

ends_allowed : (es : List Entry) (m : ℕ) (w : Why) (s : SessionId) → w ≢ why.Superseded → IsEndNumber s None w es → Allowed es m (ends_if_open es m w s)
ends_allowed es m w s plain none = elim (is_open s es) as (λ b. is_open s es ≡ b → Allowed es m (cond b (makes (end_of es m None w s ∷ [])) quiet)) [
  | true ↦ λ o. (plain, (o, none, refl))
  | false ↦ λ _. tt
] refl

first_allowed : (es : List Entry) (m : ℕ) (w : Why) (c : ClientId) → Sound es → w ≢ why.Superseded → ((s : SessionId) → IsEndNumber s None w es) → Allowed es m (ends_first es m w (open_sessions_of c es))
first_allowed es m w c sound plain none = by (part_of c es).live refl where
  by : (l : Option LivePart) → (part_of c es).live ≡ l → Allowed es m (ends_first es m w (open_sessions_of c es))
  by None k = subst (λ xs. Allowed es m (ends_first es m w xs)) (sym (sound.one_open c ∙ ap (listed c) k)) tt
  by (Some l) k =
      subst (λ xs. Allowed es m (ends_first es m w xs)) (sym (sound.one_open c ∙ ap (listed c) k)) (plain, (open_there c es l sound k, none (session_with c l.stamp), refl))

late_allowed : (es : List Entry) (m : ℕ) (o : Option ClientId) → Sound es → Allowed es m (ends_late es m o)
late_allowed es m None sound = tt
late_allowed es m (Some c) sound = first_allowed es m why.Lease c sound (λ e. absurd (cc)) (λ s. refl)

message_allowed : (es : List Entry) (m : ℕ) (u : Up) → Sound es → Allowed es m (message es m u)
message_allowed es m (up.Hello s) sound = hello_allowed es m s sound
message_allowed es m (up.Op s q n op) sound =
    said_allowed es m s q (op_by (verdict n (rows_for s.client es)) (tree es) m s q n op) (λ o k. subst (Allowed es m) (sym (op_is (rows_for s.client es) (tree es) m s q n op)) (op_allowed es m s q n op o k))
message_allowed es m (up.Left s q op) sound =
    let e : Entry = entry.Left s q (puts_of op) in
    said_allowed es m s q (leaves es e s q) (λ o k. leaves_allowed es m e s q (length (plan s (es ++ e ∷ []))) o k tt (λ few. ((o, k), few)))
message_allowed es m (up.Cancel s q path) sound =
    let e : Entry = entry.Cancelled s q path in
    said_allowed es m s q (leaves es e s q) (λ o k. leaves_allowed es m e s q (length (plan s (es ++ e ∷ []))) o k tt (λ few. ((o, k), few)))
message_allowed es m (up.On s q path) sound =
    said_allowed es m s q (listens es s q path) (λ o k. listens_allowed es m s q (length (listened s (es ++ entry.On s q path ∷ []))) path o k (λ few. ((o, k), few)))
message_allowed es m (up.Off s q path) sound = said_allowed es m s q (makes (entry.Off s q path ∷ [])) (λ o k. (tt, (o, k)))
message_allowed es m (up.Bye s q) sound = said_allowed es m s q (makes (end_of es m (Some q) why.Bye s ∷ [])) (λ o k. ((λ e. absurd (cc)), (o, ap Some k, refl)))
message_allowed es m (up.Beat s) sound = elim (is_open s es) as (λ b. Allowed es m (cond b quiet (refused fault.Session))) [ true ↦ tt | false ↦ tt ]

pub wanted_allowed : (state : ServerState) (m : ℕ) (i : Input) → Sound (entries state.log) → Allowed (entries state.log) m (wanted state m i)
wanted_allowed state m (input.Up u) sound = message_allowed (entries state.log) m u sound
wanted_allowed state m (input.Lost s) sound = ends_allowed (entries state.log) m why.Lost s (λ e. absurd (cc)) refl
wanted_allowed state m (input.Slow s) sound = ends_allowed (entries state.log) m why.Slow s (λ e. absurd (cc)) refl
wanted_allowed state m (input.Restart c) sound = first_allowed (entries state.log) m why.Restart c sound (λ e. absurd (cc)) (λ s. refl)
wanted_allowed state m input.Tick sound = late_allowed (entries state.log) m (late_client m state.heard) sound

-- the open sessions after several entries
pub opens_are : (es : List Entry) (m : ℕ) (xs : List Entry) → Sound es → MayComeTogetherUncounted es m xs → length (open_sessions (es ++ xs)) ≡ open_steps xs (length (open_sessions es))
opens_are es m [] sound t = absurd t
opens_are es m (e ∷ []) sound t = open_after es m e sound t.1
opens_are es m (e ∷ f ∷ []) sound t =
    ap (λ l. length (open_sessions l)) (sym (append_assoc es (e ∷ []) (f ∷ [])))
    ∙ open_after (es ++ e ∷ []) m f (sound_after es m e sound t.1) t.2
    ∙ ap (open_step f) (open_after es m e sound t.1)
opens_are es m (e ∷ f ∷ g ∷ more) sound t = absurd t

pub limited_is : (es : List Entry) (m : ℕ) (d : Decision) → Sound es → Allowed es m d → limited es d ≡ limited_by (length es) (length (open_sessions es)) d
limited_is es m (makes xs) sound t =
    λ i. cond (nat_lt (2 ^ 52 - 1) (length-append es xs i + opens_are es m xs sound t i)) (refused fault.Spent) (cond (nat_lt 1024 (opens_are es m xs sound t i)) (refused fault.Full) (makes xs))
limited_is es m quiet sound t = refl
limited_is es m (refused c) sound t = refl

pub together : (es : List Entry) (m : ℕ) (xs : List Entry) → MayComeTogetherUncounted es m xs → length (open_sessions (es ++ xs)) ≤ 1024 → MayComeTogether es m xs
together es m [] t h = absurd t
together es m (e ∷ []) t h = (t.0, full es e t.1 h) where
  full : (bs : List Entry) (x : Entry) → MayComeUncounted bs m x → length (open_sessions (bs ++ x ∷ [])) ≤ 1024 → MayCome bs m x
  full bs (entry.Open s) g k = (g.0, g.1, k)
  full bs (entry.Op s q n op outcome) g k = g
  full bs (entry.Again s q n) g k = g
  full bs (entry.Left s q puts) g k = g
  full bs (entry.Cancelled s q path) g k = g
  full bs (entry.Denied s q v) g k = g
  full bs (entry.On s q path) g k = g
  full bs (entry.Off s q path) g k = g
  full bs (entry.Ended s q w rows) g k = g
together es m (e ∷ f ∷ []) t h = (t.0, first_of e f t.0 t.1, full (es ++ e ∷ []) f t.2 (subst (λ l. length (open_sessions l) ≤ 1024) (sym (append_assoc es (e ∷ []) (f ∷ []))) h)) where
  full : (bs : List Entry) (x : Entry) → MayComeUncounted bs m x → length (open_sessions (bs ++ x ∷ [])) ≤ 1024 → MayCome bs m x
  full bs (entry.Open s) g k = (g.0, g.1, k)
  full bs (entry.Op s q n op outcome) g k = g
  full bs (entry.Again s q n) g k = g
  full bs (entry.Left s q puts) g k = g
  full bs (entry.Cancelled s q path) g k = g
  full bs (entry.Denied s q v) g k = g
  full bs (entry.On s q path) g k = g
  full bs (entry.Off s q path) g k = g
  full bs (entry.Ended s q w rows) g k = g

  first_of : (x y : Entry) → Supersedes x y → MayComeUncounted es m x → MayCome es m x
  first_of (entry.Open s) y p g = absurd p
  first_of (entry.Op s q n op outcome) y p g = g
  first_of (entry.Again s q n) y p g = g
  first_of (entry.Left s q puts) y p g = g
  first_of (entry.Cancelled s q path) y p g = g
  first_of (entry.Denied s q v) y p g = g
  first_of (entry.On s q path) y p g = g
  first_of (entry.Off s q path) y p g = g
  first_of (entry.Ended s q w rows) y p g = g
together es m (e ∷ f ∷ g ∷ more) t h = absurd t

-- what a turn makes may come, and leaves room
abbrev pub AllowedFully : List Entry → ℕ → Decision → Type 0
AllowedFully es m (makes xs) = MayComeTogether es m xs × LeavesRoom (es ++ xs) × MayComeTogetherUncounted es m xs
AllowedFully es m other = Unit {0}

pub limited_allowed : (es : List Entry) (m : ℕ) (d : Decision) → Allowed es m d → AllowedFully es m (limited es d)
limited_allowed es m quiet t = tt
limited_allowed es m (refused c) t = tt
limited_allowed es m (makes xs) t =
    elim (nat_lt (2 ^ 52 - 1) (length (es ++ xs) + length (open_sessions (es ++ xs)))) as (λ b. nat_lt (2 ^ 52 - 1) (length (es ++ xs) + length (open_sessions (es ++ xs))) ≡ b → AllowedFully es m (cond b (refused fault.Spent) (cond (nat_lt 1024 (length (open_sessions (es ++ xs)))) (refused fault.Full) (makes xs)))) [
      | true ↦ λ _. tt
      | false ↦ λ room. elim (nat_lt 1024 (length (open_sessions (es ++ xs)))) as (λ b. nat_lt 1024 (length (open_sessions (es ++ xs))) ≡ b → AllowedFully es m (cond b (refused fault.Full) (makes xs))) [
        | true ↦ λ _. tt
        | false ↦ λ few. (together es m xs t (at_most 1024 (length (open_sessions (es ++ xs))) few), at_most (2 ^ 52 - 1) (length (es ++ xs) + length (open_sessions (es ++ xs))) room, t)
      ] refl
    ] refl where
      at_most : (a b : ℕ) → nat_lt a b ≡ false → b ≤ a
      at_most a b e = grind (arith, nat_tests)
