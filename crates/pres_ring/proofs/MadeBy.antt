-- What an input makes by the sum, whatever the limits: which entries, and that some inputs are not passed over.
use Rattle.std.proofs.Common.{refl, sym, ◌∙◌, ap, subst, ◌≡◌, ◌≢◌, ℕ, ◌+◌, ◌^◌, ◌-◌, ◌==◌, nat_lt, nat_le, List, [], ◌∷◌, ◌++◌, map, length, Bool, true, false, cond, ◌||◌, true≢false, Some, None, Option, unwrap_or}
use Rattle.std.specs.List.{list_any}
use Rattle.std.proofs.lemmas.Bool.{eqb-true}
use Rattle.pres_tree.specs.declared.scalar.Scalar.{Scalar}
use Rattle.pres_tree.specs.Paths.{Path}
use Rattle.pres_tree.specs.Rows.{Rows}
use Rattle.pres_write.specs.Unconditionals.{puts_of}
use Rattle.pres_fan.specs.Listeners.{add_path}
use Rattle.pres_retry.specs.Verdicts.{verdict}
use Rattle.pres_ids.specs.declared.id.SessionId.{SessionId}
use Rattle.pres_ids.specs.declared.id.Why.{Why}
use Rattle.pres_ids.specs.declared.id.Why.TheVariants as why
use Rattle.pres_ids.specs.Ids.{ClientId, same_session, stamp_of}
use Rattle.pres_wire.specs.declared.up.Up.{Up}
use Rattle.pres_wire.specs.declared.up.Up.TheVariants as up
use Rattle.pres_wire.specs.Messages.{session_in, q_in}
use Rattle.pres_log.specs.declared.entry.Entry.{Entry}
use Rattle.pres_log.specs.declared.entry.Entry.TheVariants as entry
use Rattle.pres_log.specs.declared.fault.Fault.TheVariants as fault
use Rattle.pres_server.specs.declared.input.Input.TheVariants as input
use Rattle.pres_server.specs.Turns.{Decision, refused, quiet, makes, op_by}
use Rattle.pres_server.specs.InternalParts.{LivePart, Part, comes_after, same_stamp, is_live, count_in, listed, plan_in, plan_after, said_by, end_by, hello_by, leaves_by, listens_by, message_by, ends_live, ends_of, ends_late_by, open_steps, limited_by}
use Rattle.pres_history.specs.Sessions.{opens}
use Rattle.pres_history.proofs.Since.{any-append}
use Rattle.pres_history.proofs.Steps.{or_false}
use Rattle.pres_ring.specs.AcceptedMessages.{accepted, is_hello, is_hello_of}
use Rattle.pres_ring.proofs.Made.{IfMakes, IsLoud, accepted_adds, op_made, rows_made, paths_made, op_loud, passed_by, same_some}

-- ---- the limits

pub made_within : (n c : ℕ) (d : Decision) (es : List Entry) → limited_by n c d ≡ makes es → d ≡ makes es
made_within n c quiet es e = e
made_within n c (refused f) es e = e
made_within n c (makes xs) es e = by (nat_lt (2 ^ 52 - 1) (n + length xs + open_steps xs c)) (nat_lt 1024 (open_steps xs c)) e where
  by : (a b : Bool) → cond a (refused fault.Spent) (cond b (refused fault.Full) (makes xs)) ≡ makes es → makes xs ≡ makes es
  by true b h = absurd (cc h)
  by false true h = absurd (cc h)
  by false false h = h

quiet_within : (n c : ℕ) (d : Decision) → limited_by n c d ≡ quiet → d ≡ quiet
quiet_within n c quiet e = e
quiet_within n c (refused f) e = e
quiet_within n c (makes xs) e = by (nat_lt (2 ^ 52 - 1) (n + length xs + open_steps xs c)) (nat_lt 1024 (open_steps xs c)) e where
  by : (a b : Bool) → cond a (refused fault.Spent) (cond b (refused fault.Full) (makes xs)) ≡ quiet → makes xs ≡ quiet
  by true b h = absurd (cc h)
  by false true h = absurd (cc h)
  by false false h = absurd (cc h)

pub made : (P : List Entry → Type 0) (n c : ℕ) (d : Decision) (es : List Entry) → IfMakes P d → limited_by n c d ≡ makes es → P es
made P n c d es h e = subst (IfMakes P) (made_within n c d es e) h

pub not_quiet : (n c : ℕ) (d : Decision) → IsLoud d → limited_by n c d ≢ quiet
not_quiet n c d l e = subst IsLoud (quiet_within n c d e) l

-- ---- ends

-- the ends of these sessions, for which nobody asked
abbrev pub all_ended : Option LivePart → Rows Scalar → ℕ → List SessionId → List Entry
all_ended live tree m ts = map (end_by live tree m None why.Superseded) ts

pub ended_opens : (s : SessionId) (live : Option LivePart) (tree : Rows Scalar) (m : ℕ) (ts : List SessionId) → list_any (opens s) (all_ended live tree m ts) ≡ false
ended_opens s live tree m [] = refl
ended_opens s live tree m (t ∷ ts) = ended_opens s live tree m ts

ended_accepted : (live : Option LivePart) (tree : Rows Scalar) (m : ℕ) (ts : List SessionId) → accepted (all_ended live tree m ts) ≡ 0
ended_accepted live tree m [] = refl
ended_accepted live tree m (t ∷ ts) = ended_accepted live tree m ts

-- what is made for another input than a message
abbrev pub IsUnasked : List Entry → Type 0
IsUnasked es = (accepted es ≡ 0) × ((s : SessionId) → list_any (opens s) es ≡ false)

pub live_made : (live : Option LivePart) (tree : Rows Scalar) (m : ℕ) (w : Why) (s : SessionId) → IfMakes IsUnasked (ends_live live tree m w s)
live_made live tree m w s = by (is_live live (stamp_of s)) where
  by : (b : Bool) → IfMakes IsUnasked (cond b (makes (end_by live tree m None w s ∷ [])) quiet)
  by true = (refl, λ t. refl)
  by false = tt

pub of_made : (live : Option LivePart) (tree : Rows Scalar) (m : ℕ) (w : Why) (c : ClientId) → IfMakes IsUnasked (ends_of live tree m w c)
of_made None tree m w c = tt
of_made (Some l) tree m w c = (refl, λ t. refl)

pub late_made : (part : ClientId → Part) (tree : Rows Scalar) (m : ℕ) (o : Option ClientId) → IfMakes IsUnasked (ends_late_by part tree m o)
late_made part tree m None = tt
late_made part tree m (Some c) = of_made (part c).live tree m why.Lease c

-- ---- messages

-- the message is the next one of this open session
abbrev pub IsNextOf : Option LivePart → Up → Type 0
IsNextOf live u = (count : ℕ) × (count_in live (stamp_of (session_in u)) ≡ Some count) × (q_in u ≡ Some (count + 1))

-- what is made for a message
abbrev pub IsSaid : Option LivePart → Up → List Entry → Type 0
IsSaid live u es = (accepted es ≡ 1) × ((s : SessionId) → list_any (opens s) es ≡ is_hello_of s (input.Up u)) × (is_hello u ≡ false → IsNextOf live u)

said_made : (P : List Entry → Type 0) (live : Option LivePart) (s : SessionId) (q : ℕ) (d : Decision) → ((count : ℕ) → count_in live (stamp_of s) ≡ Some count → q ≡ count + 1 → IfMakes P d) → IfMakes P (said_by live s q d)
said_made P None s q d h = tt
said_made P (Some l) s q d h = by (same_stamp (stamp_of s) l.stamp) refl (nat_le q l.count) (q == l.count + 1) refl where
  by : (o : Bool) → same_stamp (stamp_of s) l.stamp ≡ o → (a b : Bool) → (q == l.count + 1) ≡ b → IfMakes P (cond o (cond a quiet (cond b d (refused fault.Order))) (refused fault.Session))
  by false o a b k = tt
  by true o true b k = tt
  by true o false true k = h l.count (ap (λ x. cond x (Some l.count) None) o) (eqb-true q (l.count + 1) k)
  by true o false false k = tt

-- a Hello ends the open session of its client, and opens its own
pub hello_made : (p : Part) (tree : Rows Scalar) (m : ℕ) (s : SessionId)
    → IfMakes (λ es. (comes_after p.last (stamp_of s) ≡ true) × (es ≡ all_ended p.live tree m (listed s.client p.live) ++ entry.Open s ∷ [])) (hello_by p tree m s)
hello_made p tree m s = by (comes_after p.last (stamp_of s)) refl where
  xs : List Entry
  xs = all_ended p.live tree m (listed s.client p.live) ++ entry.Open s ∷ []

  by : (b : Bool) → comes_after p.last (stamp_of s) ≡ b → IfMakes (λ es. (comes_after p.last (stamp_of s) ≡ true) × (es ≡ xs)) (cond b (makes xs) (refused (fault.Old (unwrap_or p.last (stamp_of s)))))
  by true k = (k, refl)
  by false k = tt

hello_said : (p : Part) (tree : Rows Scalar) (m : ℕ) (s : SessionId) → IfMakes (IsSaid p.live (up.Hello s)) (hello_by p tree m s)
hello_said p tree m s = by (comes_after p.last (stamp_of s)) where
  xs : List Entry
  xs = all_ended p.live tree m (listed s.client p.live)

  by : (b : Bool) → IfMakes (IsSaid p.live (up.Hello s)) (cond b (makes (xs ++ entry.Open s ∷ [])) (refused (fault.Old (unwrap_or p.last (stamp_of s)))))
  by true = (
    accepted_adds xs (entry.Open s ∷ []) ∙ ap (λ n. n + 1) (ended_accepted p.live tree m (listed s.client p.live)),
    (λ t. any-append (opens t) xs (entry.Open s ∷ []) ∙ ap (λ b. b || (same_session t s || false)) (ended_opens t p.live tree m (listed s.client p.live)) ∙ or_false (same_session t s)),
    (λ h. absurd (true≢false h)),
  )
  by false = tt

pub message_said : (p : Part) (paths : List Path) (tree : Rows Scalar) (m : ℕ) (u : Up) → IfMakes (IsSaid p.live u) (message_by p paths tree m u)
message_said p paths tree m (up.Hello s) = hello_said p tree m s
message_said p paths tree m (up.Op s q n op) =
    let u : Up = up.Op s q n op in
    said_made (IsSaid p.live u) p.live s q (op_by (verdict n p.rows) tree m s q n op)
    (λ c o k. op_made (IsSaid p.live u) (verdict n p.rows) tree m s q n op (refl, (λ t. refl), λ h. (c, o, ap Some k)) (refl, (λ t. refl), λ h. (c, o, ap Some k)))
message_said p paths tree m (up.Left s q op) =
    let u : Up = up.Left s q op in
    let e : Entry = entry.Left s q (puts_of op) in
    said_made (IsSaid p.live u) p.live s q (leaves_by p.live e s q)
    (λ c o k. rows_made (IsSaid p.live u) (length (plan_after e (plan_in p.live))) e s q (refl, (λ t. refl), λ h. (c, o, ap Some k)) (refl, (λ t. refl), λ h. (c, o, ap Some k)))
message_said p paths tree m (up.Cancel s q path) =
    let u : Up = up.Cancel s q path in
    let e : Entry = entry.Cancelled s q path in
    said_made (IsSaid p.live u) p.live s q (leaves_by p.live e s q)
    (λ c o k. rows_made (IsSaid p.live u) (length (plan_after e (plan_in p.live))) e s q (refl, (λ t. refl), λ h. (c, o, ap Some k)) (refl, (λ t. refl), λ h. (c, o, ap Some k)))
message_said p paths tree m (up.On s q path) =
    let u : Up = up.On s q path in
    said_made (IsSaid p.live u) p.live s q (listens_by paths s q path)
    (λ c o k. paths_made (IsSaid p.live u) (length (add_path path paths)) s q path (refl, (λ t. refl), λ h. (c, o, ap Some k)) (refl, (λ t. refl), λ h. (c, o, ap Some k)))
message_said p paths tree m (up.Off s q path) =
    said_made (IsSaid p.live (up.Off s q path)) p.live s q (makes (entry.Off s q path ∷ [])) (λ c o k. (refl, (λ t. refl), λ h. (c, o, ap Some k)))
message_said p paths tree m (up.Bye s q) =
    said_made (IsSaid p.live (up.Bye s q)) p.live s q (makes (end_by p.live tree m (Some q) why.Bye s ∷ [])) (λ c o k. (refl, (λ t. refl), λ h. (c, o, ap Some k)))
message_said p paths tree m (up.Beat s) = by (is_live p.live (stamp_of s)) where
  by : (b : Bool) → IfMakes (IsSaid p.live (up.Beat s)) (cond b quiet (refused fault.Session))
  by true = tt
  by false = tt

-- ---- what is not passed over

pub hello_loud : (p : Part) (tree : Rows Scalar) (m : ℕ) (s : SessionId) → IsLoud (hello_by p tree m s)
hello_loud p tree m s = by (comes_after p.last (stamp_of s)) where
  by : (b : Bool) → IsLoud (cond b (makes (all_ended p.live tree m (listed s.client p.live) ++ entry.Open s ∷ [])) (refused (fault.Old (unwrap_or p.last (stamp_of s)))))
  by true = tt
  by false = tt

said_loud : (live : Option LivePart) (s : SessionId) (q count : ℕ) (d : Decision) → count_in live (stamp_of s) ≡ Some count → Some q ≡ Some (count + 1) → IsLoud d → IsLoud (said_by live s q d)
said_loud None s q count d c k l = tt
said_loud (Some x) s q count d c k l = by (same_stamp (stamp_of s) x.stamp) c (nat_le q x.count) refl (q == x.count + 1) where
  by : (o : Bool) → cond o (Some x.count) None ≡ Some count → (a : Bool) → nat_le q x.count ≡ a → (b : Bool) → IsLoud (cond o (cond a quiet (cond b d (refused fault.Order))) (refused fault.Session))
  by false c a h b = tt
  by true c true h b = absurd (passed_by q x.count (same_some q (count + 1) k ∙ ap (λ n. n + 1) (sym (same_some x.count count c))) h)
  by true c false h true = l
  by true c false h false = tt

pub next_loud : (p : Part) (paths : List Path) (tree : Rows Scalar) (m : ℕ) (u : Up) → IsNextOf p.live u → IsLoud (message_by p paths tree m u)
next_loud p paths tree m (up.Hello s) k = absurd (cc k.2)
next_loud p paths tree m (up.Op s q n op) k = said_loud p.live s q k.0 (op_by (verdict n p.rows) tree m s q n op) k.1 k.2 (op_loud (verdict n p.rows) tree m s q n op)
next_loud p paths tree m (up.Left s q op) k = said_loud p.live s q k.0 (leaves_by p.live (entry.Left s q (puts_of op)) s q) k.1 k.2 tt
next_loud p paths tree m (up.Cancel s q path) k = said_loud p.live s q k.0 (leaves_by p.live (entry.Cancelled s q path) s q) k.1 k.2 tt
next_loud p paths tree m (up.On s q path) k = said_loud p.live s q k.0 (listens_by paths s q path) k.1 k.2 tt
next_loud p paths tree m (up.Off s q path) k = said_loud p.live s q k.0 (makes (entry.Off s q path ∷ [])) k.1 k.2 tt
next_loud p paths tree m (up.Bye s q) k = said_loud p.live s q k.0 (makes (end_by p.live tree m (Some q) why.Bye s ∷ [])) k.1 k.2 tt
next_loud p paths tree m (up.Beat s) k = absurd (cc k.2)
