-- What an input makes, whatever the limits: which entries, and that some inputs are not passed over.
use Rattle.std.proofs.Common.{refl, ◌∙◌, ap, subst, ◌≡◌, ◌≢◌, ℕ, ◌+◌, ◌-◌, ◌^◌, ◌==◌, nat_lt, nat_le, List, [], ◌∷◌, ◌++◌, map, filter, length, Bool, true, false, cond, ◌||◌, true≢false, arith, length-append, Some, None, Option, unwrap_or}
use Rattle.std.specs.List.{list_any}
use Rattle.std.proofs.lemmas.Bool.{eqb-true}
use Rattle.std.proofs.lemmas.Bool.Decides.{nat_tests}
use Rattle.std.proofs.lemmas.List.Elements.{filter-append}
use Rattle.pres_tree.specs.declared.scalar.Scalar.{Scalar}
use Rattle.pres_tree.specs.Paths.{Path}
use Rattle.pres_tree.specs.Rows.{Rows}
use Rattle.pres_write.specs.declared.op.Op.{Op}
use Rattle.pres_write.specs.Outcomes.{resolved}
use Rattle.pres_write.specs.Unconditionals.{puts_of}
use Rattle.pres_plan.specs.Plans.{most_rows}
use Rattle.pres_fan.specs.Listeners.{most_paths}
use Rattle.pres_retry.specs.Verdicts.{verdict, WriteStatus, fresh, again, gap}
use Rattle.pres_ids.specs.declared.id.SessionId.{SessionId}
use Rattle.pres_ids.specs.declared.id.Why.{Why}
use Rattle.pres_ids.specs.declared.id.Why.TheVariants as why
use Rattle.pres_ids.specs.Ids.{ClientId, same_session, stamp_of}
use Rattle.pres_wire.specs.declared.up.Up.{Up}
use Rattle.pres_wire.specs.declared.up.Up.TheVariants as up
use Rattle.pres_wire.specs.declared.down.Limit.TheVariants as limit
use Rattle.pres_log.specs.declared.entry.Entry.{Entry}
use Rattle.pres_log.specs.declared.entry.Entry.TheVariants as entry
use Rattle.pres_log.specs.declared.fault.Fault.TheVariants as fault
use Rattle.pres_log.specs.Logs.{tree}
use Rattle.pres_server.specs.declared.input.Input.TheVariants as input
use Rattle.pres_history.specs.Sessions.{opens, is_open, is_newest, count, last_of, open_sessions, open_sessions_of}
use Rattle.pres_history.specs.Outcomes.{rows_for}
use Rattle.pres_history.specs.SessionPlans.{plan}
use Rattle.pres_history.specs.Listening.{listened}
use Rattle.pres_server.specs.Turns.{Decision, refused, quiet, makes, within_rows, within_paths, op_by}
use Rattle.pres_history.specs.Turns.{end_of, ends_if_open, ends_first, ends_late, in_order, if_open, hello, leaves, listens, message, limited}
use Rattle.pres_history.proofs.Since.{any-append}
use Rattle.pres_history.proofs.Steps.{or_false}
use Rattle.pres_history.proofs.LegalLogs.{filter_small}
use Rattle.pres_ring.specs.AcceptedMessages.{accepts, accepted, is_hello, is_hello_of, HasNextNumber, IsNextMessage}
use Rattle.pres_ring.specs.Laws.{AcceptedAdds, AcceptedIsFew}

-- ---- the limits

pub same_made : (xs ys : List Entry) → makes xs ≡ makes ys → xs ≡ ys
same_made xs ys e = cc e

pub made_within : (bs : List Entry) (d : Decision) (es : List Entry) → limited bs d ≡ makes es → d ≡ makes es
made_within bs quiet es e = e
made_within bs (refused f) es e = e
made_within bs (makes xs) es e = by (nat_lt (2 ^ 52 - 1) (length (bs ++ xs) + length (open_sessions (bs ++ xs)))) (nat_lt 1024 (length (open_sessions (bs ++ xs)))) e where
  by : (a b : Bool) → cond a (refused fault.Spent) (cond b (refused fault.Full) (makes xs)) ≡ makes es → makes xs ≡ makes es
  by true b h = absurd (cc h)
  by false true h = absurd (cc h)
  by false false h = h

quiet_within : (bs : List Entry) (d : Decision) → limited bs d ≡ quiet → d ≡ quiet
quiet_within bs quiet e = e
quiet_within bs (refused f) e = e
quiet_within bs (makes xs) e = by (nat_lt (2 ^ 52 - 1) (length (bs ++ xs) + length (open_sessions (bs ++ xs)))) (nat_lt 1024 (length (open_sessions (bs ++ xs)))) e where
  by : (a b : Bool) → cond a (refused fault.Spent) (cond b (refused fault.Full) (makes xs)) ≡ quiet → makes xs ≡ quiet
  by true b h = absurd (cc h)
  by false true h = absurd (cc h)
  by false false h = h

-- what is made, where something is
abbrev pub IfMakes : (List Entry → Type 0) → Decision → Type 0
IfMakes P (makes es) = P es
IfMakes P other = Unit {0}

pub made : (P : List Entry → Type 0) (bs : List Entry) (d : Decision) (es : List Entry) → IfMakes P d → limited bs d ≡ makes es → P es
made P bs d es h e = subst (IfMakes P) (made_within bs d es e) h

-- not passed over
abbrev pub IsLoud : Decision → Type 0
IsLoud quiet = ⊥
IsLoud other = Unit {0}

pub not_quiet : (bs : List Entry) (d : Decision) → IsLoud d → limited bs d ≢ quiet
not_quiet bs d l e = subst IsLoud (quiet_within bs d e) l

-- ---- how many messages

pub accepted_adds : (xs ys : List Entry) → AcceptedAdds xs ys
accepted_adds xs ys = ap length (filter-append accepts xs ys) ∙ length-append (filter accepts xs) (filter accepts ys)

pub accepted_is_few : (es : List Entry) → AcceptedIsFew es
accepted_is_few es = filter_small accepts es

-- ---- ends

abbrev pub all_ended : List Entry → ℕ → List SessionId → List Entry
all_ended bs m ts = map (end_of bs m None why.Superseded) ts

-- they open no session, and were not asked for
pub ended_opens : (s : SessionId) (bs : List Entry) (m : ℕ) (ts : List SessionId) → list_any (opens s) (all_ended bs m ts) ≡ false
ended_opens s bs m [] = refl
ended_opens s bs m (t ∷ ts) = ended_opens s bs m ts

ended_accepted : (bs : List Entry) (m : ℕ) (ts : List SessionId) → accepted (all_ended bs m ts) ≡ 0
ended_accepted bs m [] = refl
ended_accepted bs m (t ∷ ts) = ended_accepted bs m ts

-- what is made for another input than a message
abbrev IsUnasked : List Entry → Type 0
IsUnasked es = (accepted es ≡ 0) × ((s : SessionId) → list_any (opens s) es ≡ false)

end_made : (bs : List Entry) (m : ℕ) (w : Why) (s : SessionId) → IfMakes IsUnasked (ends_if_open bs m w s)
end_made bs m w s = by (is_open s bs) where
  by : (b : Bool) → IfMakes IsUnasked (cond b (makes (end_of bs m None w s ∷ [])) quiet)
  by true = (refl, λ t. refl)
  by false = tt

first_made : (bs : List Entry) (m : ℕ) (w : Why) (ts : List SessionId) → IfMakes IsUnasked (ends_first bs m w ts)
first_made bs m w [] = tt
first_made bs m w (t ∷ ts) = (refl, λ s. refl)

late_made : (bs : List Entry) (m : ℕ) (o : Option ClientId) → IfMakes IsUnasked (ends_late bs m o)
late_made bs m None = tt
late_made bs m (Some c) = first_made bs m why.Lease (open_sessions_of c bs)

-- ---- messages

-- what is made for a message
abbrev pub IsSaid : List Entry → Up → List Entry → Type 0
IsSaid bs u es = (accepted es ≡ 1) × ((s : SessionId) → list_any (opens s) es ≡ is_hello_of s (input.Up u)) × (is_hello u ≡ false → IsNextMessage u bs)

said_made : (P : List Entry → Type 0) (bs : List Entry) (s : SessionId) (q : ℕ) (d : Decision) → (is_open s bs ≡ true → q ≡ count s bs + 1 → IfMakes P d) → IfMakes P (if_open bs s (in_order bs s q d))
said_made P bs s q d h = by (is_open s bs) refl (nat_le q (count s bs)) (q == count s bs + 1) refl where
  by : (o : Bool) → is_open s bs ≡ o → (a b : Bool) → (q == count s bs + 1) ≡ b → IfMakes P (cond o (cond a quiet (cond b d (refused fault.Order))) (refused fault.Session))
  by false o a b k = tt
  by true o true b k = tt
  by true o false true k = h o (eqb-true q (count s bs + 1) k)
  by true o false false k = tt

pub op_made : (P : List Entry → Type 0) (t : WriteStatus) (tree : Rows Scalar) (m : ℕ) (s : SessionId) (q n : ℕ) (op : Op)
    → P (entry.Op s q n op (resolved tree m op) ∷ []) → P (entry.Again s q n ∷ []) → IfMakes P (op_by t tree m s q n op)
op_made P fresh tree m s q n op a b = a
op_made P (again row) tree m s q n op a b = b
op_made P gap tree m s q n op a b = tt

pub rows_made : (P : List Entry → Type 0) (n : ℕ) (e : Entry) (s : SessionId) (q : ℕ) → P (e ∷ []) → P (entry.Denied s q limit.Plan ∷ []) → IfMakes P (within_rows n e s q)
rows_made P n e s q a d = by (nat_le n most_rows) where
  by : (b : Bool) → P (cond b e (entry.Denied s q limit.Plan) ∷ [])
  by true = a
  by false = d

pub paths_made : (P : List Entry → Type 0) (n : ℕ) (s : SessionId) (q : ℕ) (path : Path) → P (entry.On s q path ∷ []) → P (entry.Denied s q limit.Listens ∷ []) → IfMakes P (within_paths n s q path)
paths_made P n s q path a d = by (nat_le n most_paths) where
  by : (b : Bool) → P (cond b (entry.On s q path) (entry.Denied s q limit.Listens) ∷ [])
  by true = a
  by false = d

-- a Hello ends the open session of its client, and opens its own
pub hello_made : (bs : List Entry) (m : ℕ) (s : SessionId) → IfMakes (λ es. (is_newest s bs ≡ true) × (es ≡ all_ended bs m (open_sessions_of s.client bs) ++ entry.Open s ∷ [])) (hello bs m s)
hello_made bs m s = by (is_newest s bs) refl where
  xs : List Entry
  xs = all_ended bs m (open_sessions_of s.client bs) ++ entry.Open s ∷ []

  by : (b : Bool) → is_newest s bs ≡ b → IfMakes (λ es. (is_newest s bs ≡ true) × (es ≡ xs)) (cond b (makes xs) (refused (fault.Old (unwrap_or (last_of s.client bs) (stamp_of s)))))
  by true k = (k, refl)
  by false k = tt

hello_said : (bs : List Entry) (m : ℕ) (s : SessionId) → IfMakes (IsSaid bs (up.Hello s)) (hello bs m s)
hello_said bs m s = by (is_newest s bs) where
  ts : List SessionId
  ts = open_sessions_of s.client bs

  by : (b : Bool) → IfMakes (IsSaid bs (up.Hello s)) (cond b (makes (all_ended bs m ts ++ entry.Open s ∷ [])) (refused (fault.Old (unwrap_or (last_of s.client bs) (stamp_of s)))))
  by true = (
    accepted_adds (all_ended bs m ts) (entry.Open s ∷ []) ∙ ap (λ n. n + 1) (ended_accepted bs m ts),
    (λ t. any-append (opens t) (all_ended bs m ts) (entry.Open s ∷ []) ∙ ap (λ b. b || (same_session t s || false)) (ended_opens t bs m ts) ∙ or_false (same_session t s)),
    (λ h. absurd (true≢false h)),
  )
  by false = tt

message_said : (bs : List Entry) (m : ℕ) (u : Up) → IfMakes (IsSaid bs u) (message bs m u)
message_said bs m (up.Hello s) = hello_said bs m s
message_said bs m (up.Op s q n op) =
    let u : Up = up.Op s q n op in
    said_made (IsSaid bs u) bs s q (op_by (verdict n (rows_for s.client bs)) (tree bs) m s q n op)
    (λ o k. op_made (IsSaid bs u) (verdict n (rows_for s.client bs)) (tree bs) m s q n op (refl, (λ t. refl), λ h. (o, ap Some k)) (refl, (λ t. refl), λ h. (o, ap Some k)))
message_said bs m (up.Left s q op) =
    let u : Up = up.Left s q op in
    let e : Entry = entry.Left s q (puts_of op) in
    said_made (IsSaid bs u) bs s q (leaves bs e s q)
    (λ o k. rows_made (IsSaid bs u) (length (plan s (bs ++ e ∷ []))) e s q (refl, (λ t. refl), λ h. (o, ap Some k)) (refl, (λ t. refl), λ h. (o, ap Some k)))
message_said bs m (up.Cancel s q path) =
    let u : Up = up.Cancel s q path in
    let e : Entry = entry.Cancelled s q path in
    said_made (IsSaid bs u) bs s q (leaves bs e s q)
    (λ o k. rows_made (IsSaid bs u) (length (plan s (bs ++ e ∷ []))) e s q (refl, (λ t. refl), λ h. (o, ap Some k)) (refl, (λ t. refl), λ h. (o, ap Some k)))
message_said bs m (up.On s q path) =
    let u : Up = up.On s q path in
    said_made (IsSaid bs u) bs s q (listens bs s q path)
    (λ o k. paths_made (IsSaid bs u) (length (listened s (bs ++ entry.On s q path ∷ []))) s q path (refl, (λ t. refl), λ h. (o, ap Some k)) (refl, (λ t. refl), λ h. (o, ap Some k)))
message_said bs m (up.Off s q path) =
    said_made (IsSaid bs (up.Off s q path)) bs s q (makes (entry.Off s q path ∷ [])) (λ o k. (refl, (λ t. refl), λ h. (o, ap Some k)))
message_said bs m (up.Bye s q) =
    said_made (IsSaid bs (up.Bye s q)) bs s q (makes (end_of bs m (Some q) why.Bye s ∷ [])) (λ o k. (refl, (λ t. refl), λ h. (o, ap Some k)))
message_said bs m (up.Beat s) = by (is_open s bs) where
  by : (b : Bool) → IfMakes (IsSaid bs (up.Beat s)) (cond b quiet (refused fault.Session))
  by true = tt
  by false = tt

pub said : (bs : List Entry) (m : ℕ) (u : Up) (es : List Entry) → limited bs (message bs m u) ≡ makes es → IsSaid bs u es
said bs m u es e = made (IsSaid bs u) bs (message bs m u) es (message_said bs m u) e

pub unasked_lost : (bs : List Entry) (m : ℕ) (w : Why) (s : SessionId) (es : List Entry) → limited bs (ends_if_open bs m w s) ≡ makes es → IsUnasked es
unasked_lost bs m w s es e = made IsUnasked bs (ends_if_open bs m w s) es (end_made bs m w s) e

pub unasked_first : (bs : List Entry) (m : ℕ) (w : Why) (ts : List SessionId) (es : List Entry) → limited bs (ends_first bs m w ts) ≡ makes es → IsUnasked es
unasked_first bs m w ts es e = made IsUnasked bs (ends_first bs m w ts) es (first_made bs m w ts) e

pub unasked_late : (bs : List Entry) (m : ℕ) (o : Option ClientId) (es : List Entry) → limited bs (ends_late bs m o) ≡ makes es → IsUnasked es
unasked_late bs m o es e = made IsUnasked bs (ends_late bs m o) es (late_made bs m o) e

-- ---- what is not passed over

pub hello_loud : (bs : List Entry) (m : ℕ) (s : SessionId) → IsLoud (hello bs m s)
hello_loud bs m s = by (is_newest s bs) where
  by : (b : Bool) → IsLoud (cond b (makes (all_ended bs m (open_sessions_of s.client bs) ++ entry.Open s ∷ [])) (refused (fault.Old (unwrap_or (last_of s.client bs) (stamp_of s)))))
  by true = tt
  by false = tt

pub op_loud : (t : WriteStatus) (tree : Rows Scalar) (m : ℕ) (s : SessionId) (q n : ℕ) (op : Op) → IsLoud (op_by t tree m s q n op)
op_loud fresh tree m s q n op = tt
op_loud (again row) tree m s q n op = tt
op_loud gap tree m s q n op = tt

pub passed_by : (q c : ℕ) → q ≡ c + 1 → nat_le q c ≡ true → ⊥
passed_by q c k h = grind (arith, nat_tests)

pub same_some : (a b : ℕ) → Some a ≡ Some b → a ≡ b
same_some a b e = cc e

said_loud : (bs : List Entry) (s : SessionId) (q : ℕ) (d : Decision) → Some q ≡ Some (count s bs + 1) → IsLoud d → IsLoud (if_open bs s (in_order bs s q d))
said_loud bs s q d k l = by (is_open s bs) (nat_le q (count s bs)) refl (q == count s bs + 1) where
  by : (o a : Bool) → nat_le q (count s bs) ≡ a → (b : Bool) → IsLoud (cond o (cond a quiet (cond b d (refused fault.Order))) (refused fault.Session))
  by false a h b = tt
  by true true h b = absurd (passed_by q (count s bs) (same_some q (count s bs + 1) k) h)
  by true false h true = l
  by true false h false = tt

pub next_loud : (bs : List Entry) (m : ℕ) (u : Up) → HasNextNumber u bs → IsLoud (message bs m u)
next_loud bs m (up.Hello s) k = absurd (cc k)
next_loud bs m (up.Op s q n op) k = said_loud bs s q (op_by (verdict n (rows_for s.client bs)) (tree bs) m s q n op) k (op_loud (verdict n (rows_for s.client bs)) (tree bs) m s q n op)
next_loud bs m (up.Left s q op) k = said_loud bs s q (leaves bs (entry.Left s q (puts_of op)) s q) k tt
next_loud bs m (up.Cancel s q path) k = said_loud bs s q (leaves bs (entry.Cancelled s q path) s q) k tt
next_loud bs m (up.On s q path) k = said_loud bs s q (listens bs s q path) k tt
next_loud bs m (up.Off s q path) k = said_loud bs s q (makes (entry.Off s q path ∷ [])) k tt
next_loud bs m (up.Bye s q) k = said_loud bs s q (makes (end_of bs m (Some q) why.Bye s ∷ [])) k tt
next_loud bs m (up.Beat s) k = absurd (cc k)
