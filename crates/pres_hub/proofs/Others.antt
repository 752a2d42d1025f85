-- What the turn of a message makes: one entry of its own session, which is answered. It leaves how many messages of each other
-- session were accepted, and counts one more of its own, where that is still open.
use Rattle.std.proofs.Common.{refl, sym, ◌∙◌, ap, subst, ◌≡◌, ◌<◌, ◌≤◌, ◌+◌, ◌^◌, ◌-◌, ℕ, List, [], ◌∷◌, ◌++◌, append-nil, length, get_or, slice_get, Bool, true, false, cond, ◌&&◌, true≢false, nat_le, ◌==◌, Option, Some, None, IfSome, arith}
use Rattle.std.specs.Option.{option_map}
use Rattle.std.specs.FinMap.Entries.{find}
use Rattle.std.proofs.lemmas.Option.{slice_get-get_or}
use Rattle.pres_tree.specs.declared.scalar.Scalar.{Scalar}
use Rattle.pres_tree.specs.Paths.{Path}
use Rattle.pres_tree.specs.Rows.{Rows, value_at}
use Rattle.pres_write.specs.declared.op.Op.{Op}
use Rattle.pres_write.specs.Outcomes.{resolved, kept_of}
use Rattle.pres_write.specs.Unconditionals.{puts_of}
use Rattle.pres_ids.specs.declared.id.SessionId.{SessionId}
use Rattle.pres_ids.specs.declared.id.Why.TheVariants as why
use Rattle.pres_ids.specs.Ids.{client_cmp, same_client, same_session, stamp_of}
use Rattle.pres_wire.specs.declared.down.Down.{Down}
use Rattle.pres_wire.specs.declared.down.Down.TheVariants as down
use Rattle.pres_wire.specs.declared.down.Limit.TheVariants as limit
use Rattle.pres_wire.specs.declared.up.Up.{Up}
use Rattle.pres_wire.specs.declared.up.Up.TheVariants as up
use Rattle.pres_wire.specs.Messages.{session_in}
use Rattle.pres_retry.specs.declared.table.Row.{Row}
use Rattle.pres_retry.specs.Verdicts.{verdict}
use Rattle.pres_fan.specs.Listeners.{add_path}
use Rattle.pres_log.specs.declared.entry.Entry.{Entry}
use Rattle.pres_log.specs.declared.entry.Entry.TheVariants as entry
use Rattle.pres_log.specs.declared.fault.Fault.TheVariants as fault
use Rattle.pres_server.specs.declared.input.Input.TheVariants as input
use Rattle.pres_server.specs.Sessions.{session_of}
use Rattle.pres_server.specs.Answering.{Unnumbered}
use Rattle.pres_server.specs.Turns.{Decision, refused, quiet, makes, op_by}
use Rattle.pres_server.specs.InternalParts.{LivePart, Part, message_next, reply_next, same_stamp, is_live, count_in, plan_in, plan_after, said_by, end_by, leaves_by, listens_by, message_by}
use Rattle.pres_server.specs.InternalSums.{MayEnter, MayEnterAll}
use Rattle.pres_server.specs.Sums.{Sum, OpenSession, live_of, part_in, paths_in, is_open_in, accepted_in, sent_by, changed, carried, answered, sum_after, sum_after_all}
use Rattle.pres_server.specs.SumStates.{SumState}
use Rattle.pres_server.specs.SumAnswers.{entry_pushes, own_by, answers_by}
use Rattle.pres_server.specs.SumTurns.{FollowsSum, turn_by, moment_by, batch_by, after_commit}
use Rattle.pres_server.specs.Histories.{Keeps, IsSum, IsOpenSession}
use Rattle.pres_server.proofs.Clients.{client_same, client_sym, client_itself, session_same, session_itself}
use Rattle.pres_server.proofs.Keyed.{find_others, find_changed}
use Rattle.pres_server.proofs.Touching.{part_carried}
use Rattle.pres_server.proofs.KeptSums.{enters, next_open, some_live, sum_holds}
use Rattle.pres_history.specs.Sessions.{opens}
use Rattle.pres_ring.specs.AcceptedMessages.{is_hello}
use Rattle.pres_ring.proofs.Made.{IfMakes, op_made, rows_made, paths_made}
use Rattle.pres_ring.proofs.MadeBy.{made}
use Rattle.pres_ring.proofs.TurnsBy.{made_is_next}
use Rattle.pres_ring.proofs.OpenSteps.{open_carried}
use Rattle.pres_dispatch.specs.Groups.{is_told}
use Rattle.pres_dispatch.proofs.Behind.{follows_by}

-- ---- what is made for a message

said_made : (P : List Entry → Type 0) (live : Option LivePart) (s : SessionId) (q : ℕ) (d : Decision) → IfMakes P d → IfMakes P (said_by live s q d)
said_made P None s q d h = tt
said_made P (Some l) s q d h = by (same_stamp (stamp_of s) l.stamp) (nat_le q l.count) (q == l.count + 1) where
  by : (o a b : Bool) → IfMakes P (cond o (cond a quiet (cond b d (refused fault.Order))) (refused fault.Session))
  by false a b = tt
  by true true b = tt
  by true false true = h
  by true false false = tt

-- one entry of the session, which opens none
abbrev pub Single : SessionId → List Entry → Type 0
Single s es = (e : Entry) × (es ≡ e ∷ []) × (session_of e ≡ s) × ((t : SessionId) → opens t e ≡ false)

message_single : (p : Part) (paths : List Path) (tree : Rows Scalar) (m : ℕ) (u : Up) → is_hello u ≡ false → IfMakes (Single (session_in u)) (message_by p paths tree m u)
message_single p paths tree m (up.Hello s) h = absurd (true≢false h)
message_single p paths tree m (up.Op s q n op) h =
    said_made (Single s) p.live s q (op_by (verdict n p.rows) tree m s q n op)
    (op_made (Single s) (verdict n p.rows) tree m s q n op (entry.Op s q n op (resolved tree m op), refl, refl, λ t. refl) (entry.Again s q n, refl, refl, λ t. refl))
message_single p paths tree m (up.Left s q op) h =
    let e : Entry = entry.Left s q (puts_of op) in
    said_made (Single s) p.live s q (leaves_by p.live e s q) (rows_made (Single s) (length (plan_after e (plan_in p.live))) e s q (e, refl, refl, λ t. refl) (entry.Denied s q limit.Plan, refl, refl, λ t. refl))
message_single p paths tree m (up.Cancel s q path) h =
    let e : Entry = entry.Cancelled s q path in
    said_made (Single s) p.live s q (leaves_by p.live e s q) (rows_made (Single s) (length (plan_after e (plan_in p.live))) e s q (e, refl, refl, λ t. refl) (entry.Denied s q limit.Plan, refl, refl, λ t. refl))
message_single p paths tree m (up.On s q path) h =
    said_made (Single s) p.live s q (listens_by paths s q path)
    (paths_made (Single s) (length (add_path path paths)) s q path (entry.On s q path, refl, refl, λ t. refl) (entry.Denied s q limit.Listens, refl, refl, λ t. refl))
message_single p paths tree m (up.Off s q path) h =
    said_made (Single s) p.live s q (makes (entry.Off s q path ∷ [])) (entry.Off s q path, refl, refl, λ t. refl)
message_single p paths tree m (up.Bye s q) h =
    let e : Entry = end_by p.live tree m (Some q) why.Bye s in
    said_made (Single s) p.live s q (makes (e ∷ [])) (e, refl, refl, λ t. refl)
message_single p paths tree m (up.Beat s) h = by (is_live p.live (stamp_of s)) where
  by : (b : Bool) → IfMakes (Single s) (cond b quiet (refused fault.Session))
  by true = tt
  by false = tt

-- ---- how many messages of a session were accepted, after an entry

stamp_same : (a b : SessionId) → same_client a.client b.client ≡ true → same_session a b ≡ same_stamp (stamp_of a) (stamp_of b)
stamp_same a b h = ap (λ x. x && a.incarnation == b.incarnation && a.attempt == b.attempt) h

-- the stamp of an open session is its own
other_stamp : (t u : SessionId) (o : OpenSession) → same_client t.client u.client ≡ true → same_session t u ≡ false → same_stamp (stamp_of u) o.stamp ≡ true → same_stamp (stamp_of t) o.stamp ≡ false
other_stamp t u o c apart own = by (same_stamp (stamp_of t) o.stamp) refl where
  here : SessionId
  here = record { client = u.client; incarnation = o.stamp.incarnation; attempt = o.stamp.attempt }

  is : u ≡ here
  is = session_same u here (ap (λ x. x && u.incarnation == o.stamp.incarnation && u.attempt == o.stamp.attempt) (client_itself u.client) ∙ own)

  by : (b : Bool) → same_stamp (stamp_of t) o.stamp ≡ b → b ≡ false
  by false h = refl
  by true h = sym (stamp_same t here c ∙ h) ∙ ap (same_session t) (sym is) ∙ apart

abbrev counted : Option OpenSession → SessionId → Option ℕ
counted o t = count_in (option_map live_of o) (stamp_of t)

-- the writes of an entry count nothing
counted_carried : (e : Entry) (sum : Sum) → Keeps sum → (t : SessionId) → counted (find client_cmp t.client (carried e sum).sessions) t ≡ accepted_in t sum
counted_carried e sum k t = ap (λ (p : Part). count_in p.live (stamp_of t)) (part_carried e sum k t.client)

-- an answer counts one, of the session that has the stamp
one_more : (o : Option OpenSession) (e : Entry) (t : SessionId) → counted (option_map (answered e) o) t ≡ option_map (λ n. n + 1) (counted o t)
one_more None e t = refl
one_more (Some o) e t = by (same_stamp (stamp_of t) o.stamp) where
  by : (b : Bool) → cond b (Some (o.count + 1)) None ≡ option_map (λ n. n + 1) (cond b (Some o.count) None)
  by true = refl
  by false = refl

-- of another session of the client it counts none
none_more : (o : Option OpenSession) (e : Entry) (t u : SessionId) → same_client t.client u.client ≡ true → same_session t u ≡ false → is_live (option_map live_of o) (stamp_of u) ≡ true
    → (counted (option_map (answered e) o) t ≡ None) × (counted o t ≡ None)
none_more None e t u c apart own = absurd (true≢false (sym own))
none_more (Some o) e t u c apart own =
    let other = other_stamp t u o c apart own in
    (ap (λ b. cond b (Some (o.count + 1)) None) other, ap (λ b. cond b (Some o.count) None) other)

module _ (sum : Sum) (m : ℕ) (e : Entry) (k : Keeps sum) (live : is_open_in (session_of e) sum ≡ true) where
  abbrev u : SessionId
  u = session_of e

  own_live : (t : SessionId) → same_client t.client u.client ≡ true → is_live (option_map live_of (find client_cmp t.client (carried e sum).sessions)) (stamp_of u) ≡ true
  own_live t c =
      ap (λ x. is_live (option_map live_of (find client_cmp x (carried e sum).sessions)) (stamp_of u)) (client_same t.client u.client c) ∙ open_carried e sum k u ∙ live

  -- an answer of it, for another session, and for its own
  answered_other : (t : SessionId) → same_session t u ≡ false → counted (find client_cmp t.client (changed u.client (answered e) (carried e sum).sessions)) t ≡ accepted_in t sum
  answered_other t apart =
      ap (λ o. counted o t) (find_changed u.client (answered e) (carried e sum).sessions t.client)
      ∙ by (same_client u.client t.client) refl
      ∙ counted_carried e sum k t where
        o : Option OpenSession
        o = find client_cmp t.client (carried e sum).sessions

        by : (b : Bool) → same_client u.client t.client ≡ b → counted (cond b (option_map (answered e) o) o) t ≡ counted o t
        by false h = refl
        by true h =
            let c : same_client t.client u.client ≡ true = client_sym t.client u.client ∙ h in
            let none = none_more o e t u c apart (own_live t c) in
            none.0 ∙ sym none.1

  answered_own : counted (find client_cmp u.client (changed u.client (answered e) (carried e sum).sessions)) u ≡ option_map (λ n. n + 1) (accepted_in u sum)
  answered_own =
      let o : Option OpenSession = find client_cmp u.client (carried e sum).sessions in
      ap (λ x. counted x u) (find_changed u.client (answered e) (carried e sum).sessions u.client ∙ ap (λ b. cond b (option_map (answered e) o) o) (client_itself u.client))
      ∙ one_more o e u
      ∙ ap (option_map (λ n. n + 1)) (counted_carried e sum k u)

  -- an end of it
  ended_other : (t : SessionId) → same_session t u ≡ false → counted (cond (same_client u.client t.client) None (find client_cmp t.client (carried e sum).sessions)) t ≡ accepted_in t sum
  ended_other t apart = by (same_client u.client t.client) refl ∙ counted_carried e sum k t where
    o : Option OpenSession
    o = find client_cmp t.client (carried e sum).sessions

    by : (b : Bool) → same_client u.client t.client ≡ b → counted (cond b None o) t ≡ counted o t
    by false h = refl
    by true h =
        let c : same_client t.client u.client ≡ true = client_sym t.client u.client ∙ h in
        sym (none_more o e t u c apart (own_live t c)).1

-- the session of an entry that opens none is open
entry_live : (sum : Sum) (m : ℕ) (e : Entry) → MayEnter sum m e → ((t : SessionId) → opens t e ≡ false) → is_open_in (session_of e) sum ≡ true
entry_live sum m (entry.Open t) f o = absurd (true≢false (sym (session_itself t) ∙ o t))
entry_live sum m (entry.Op t q n op outcome) f o = next_open t q (part_in sum t.client).live f.0
entry_live sum m (entry.Again t q n) f o = next_open t q (part_in sum t.client).live f.0
entry_live sum m (entry.Left t q puts) f o = next_open t q (part_in sum t.client).live f.0
entry_live sum m (entry.Cancelled t q path) f o = next_open t q (part_in sum t.client).live f.0
entry_live sum m (entry.Denied t q w) f o = next_open t q (part_in sum t.client).live f
entry_live sum m (entry.On t q path) f o = next_open t q (part_in sum t.client).live f.0
entry_live sum m (entry.Off t q path) f o = next_open t q (part_in sum t.client).live f
entry_live sum m (entry.Ended t q w rows) f o = f.0

entry_other : (sum : Sum) (e : Entry) → Keeps sum → is_open_in (session_of e) sum ≡ true → ((t : SessionId) → opens t e ≡ false) → (t : SessionId) → same_session t (session_of e) ≡ false → accepted_in t (sum_after e sum) ≡ accepted_in t sum
entry_other sum (entry.Open s) k live o t apart = absurd (true≢false (sym (session_itself s) ∙ o s))
entry_other sum (entry.Op s q n op outcome) k live o t apart = answered_other sum 0 (entry.Op s q n op outcome) k live t apart
entry_other sum (entry.Again s q n) k live o t apart = answered_other sum 0 (entry.Again s q n) k live t apart
entry_other sum (entry.Left s q puts) k live o t apart = answered_other sum 0 (entry.Left s q puts) k live t apart
entry_other sum (entry.Cancelled s q path) k live o t apart = answered_other sum 0 (entry.Cancelled s q path) k live t apart
entry_other sum (entry.Denied s q w) k live o t apart = answered_other sum 0 (entry.Denied s q w) k live t apart
entry_other sum (entry.On s q path) k live o t apart = answered_other sum 0 (entry.On s q path) k live t apart
entry_other sum (entry.Off s q path) k live o t apart = answered_other sum 0 (entry.Off s q path) k live t apart
entry_other sum (entry.Ended s q w rows) k live o t apart =
    let e = entry.Ended s q w rows in
    ap (λ x. counted x t) (find_others s.client (carried e sum).sessions t.client) ∙ ended_other sum 0 e k live t apart

-- it has had one more, where it is still open
record OneMore (before after : Option ℕ) : Type 0 where
  one : (n : ℕ) → IfSome before (λ count. count ≡ n) → IfSome after (λ count. count ≡ n + 1)

more_by : (before after : Option ℕ) → after ≡ option_map (λ n. n + 1) before → OneMore before after
more_by None after is = record { one = λ n h. subst (λ o. IfSome o (λ count. count ≡ n + 1)) (sym is) tt }
more_by (Some c) after is = record { one = λ n h. subst (λ o. IfSome o (λ count. count ≡ n + 1)) (sym is) (ap (λ x. x + 1) h) }

none_by : (before after : Option ℕ) → after ≡ None → OneMore before after
none_by before after is = record { one = λ n h. subst (λ o. IfSome o (λ count. count ≡ n + 1)) (sym is) tt }

entry_own : (sum : Sum) (e : Entry) → Keeps sum → is_open_in (session_of e) sum ≡ true → ((t : SessionId) → opens t e ≡ false) → OneMore (accepted_in (session_of e) sum) (accepted_in (session_of e) (sum_after e sum))
entry_own sum (entry.Open s) k live o = absurd (true≢false (sym (session_itself s) ∙ o s))
entry_own sum (entry.Op s q n op outcome) k live o = more_by _ _ (answered_own sum 0 (entry.Op s q n op outcome) k live)
entry_own sum (entry.Again s q n) k live o = more_by _ _ (answered_own sum 0 (entry.Again s q n) k live)
entry_own sum (entry.Left s q puts) k live o = more_by _ _ (answered_own sum 0 (entry.Left s q puts) k live)
entry_own sum (entry.Cancelled s q path) k live o = more_by _ _ (answered_own sum 0 (entry.Cancelled s q path) k live)
entry_own sum (entry.Denied s q w) k live o = more_by _ _ (answered_own sum 0 (entry.Denied s q w) k live)
entry_own sum (entry.On s q path) k live o = more_by _ _ (answered_own sum 0 (entry.On s q path) k live)
entry_own sum (entry.Off s q path) k live o = more_by _ _ (answered_own sum 0 (entry.Off s q path) k live)
entry_own sum (entry.Ended s q w rows) k live o =
    let e = entry.Ended s q w rows in
    none_by (accepted_in s sum) (accepted_in s (sum_after e sum))
    (ap (λ x. counted x s) (find_others s.client (carried e sum).sessions s.client ∙ ap (λ b. cond b None (find client_cmp s.client (carried e sum).sessions)) (client_itself s.client)))

-- ---- its answer

told_last : (xs ys : List Down) → is_told ys ≡ true → is_told (xs ++ ys) ≡ true
told_last [] ys h = h
told_last (x ∷ xs) ys h = refl

told_next : (n : ℕ) (o : Option ℕ) (m : Unnumbered) → o ≡ Some n → is_told (message_next o m) ≡ true
told_next n o m is = ap (λ x. is_told (message_next x m)) is

-- how many messages were sent to an open session
sent_there : (e : Entry) (sum : Sum) → Keeps sum → (t : SessionId) → is_open_in t sum ≡ true → (n : ℕ) × (sent_by t.client (carried e sum).sessions ≡ Some n)
sent_there e sum k t live =
    let here = some_live (find client_cmp t.client (carried e sum).sessions) (stamp_of t) (open_carried e sum k t ∙ live) in
    (here.0.sent, ap (option_map (λ (session : OpenSession). session.sent)) here.1)

row_there : (rows : List Row) (n : ℕ) → 1 ≤ n → n ≤ length rows → (row : Row) × (slice_get rows (n - 1) ≡ Some row)
row_there [] n low high = absurd (omega (arith, low, high))
row_there (r ∷ rs) n low high = (get_or (r ∷ rs) (n - 1) r, slice_get-get_or (r ∷ rs) (n - 1) r (omega (arith, low, high)))

own_told : (sum : Sum) (m : ℕ) (e : Entry) → Keeps sum → MayEnter sum m e → is_open_in (session_of e) sum ≡ true → ((t : SessionId) → opens t e ≡ false) → is_told (own_by sum e) ≡ true
own_told sum m (entry.Open s) k f live o = absurd (true≢false (sym (session_itself s) ∙ o s))
own_told sum m (entry.Op s q n op outcome) k f live o =
    let sent = sent_there (entry.Op s q n op outcome) sum k s live in
    told_next sent.0 (sent_by s.client (carried (entry.Op s q n op outcome) sum).sessions) (λ r. down.Reply s r (sum.number + 1) q n (sum.number + 1) (kept_of outcome)) sent.1
own_told sum m (entry.Again s q n) k f live o =
    let sent = sent_there (entry.Again s q n) sum k s live in
    let row = row_there (part_in sum s.client).rows n f.1 f.2 in
    ap (λ x. is_told (reply_next s (sum.number + 1) q n (sent_by s.client (carried (entry.Again s q n) sum).sessions) x)) row.1
    ∙ told_next sent.0 (sent_by s.client (carried (entry.Again s q n) sum).sessions) (λ r. down.Reply s r (sum.number + 1) q n row.0.done row.0.kept) sent.1
own_told sum m (entry.Left s q puts) k f live o =
    let sent = sent_there (entry.Left s q puts) sum k s live in
    told_next sent.0 (sent_by s.client (carried (entry.Left s q puts) sum).sessions) (λ r. down.Armed s r (sum.number + 1) q) sent.1
own_told sum m (entry.Cancelled s q path) k f live o =
    let sent = sent_there (entry.Cancelled s q path) sum k s live in
    told_next sent.0 (sent_by s.client (carried (entry.Cancelled s q path) sum).sessions) (λ r. down.Armed s r (sum.number + 1) q) sent.1
own_told sum m (entry.Denied s q w) k f live o =
    let sent = sent_there (entry.Denied s q w) sum k s live in
    told_next sent.0 (sent_by s.client (carried (entry.Denied s q w) sum).sessions) (λ r. down.Denied s r (sum.number + 1) q w) sent.1
own_told sum m (entry.On s q path) k f live o =
    let sent = sent_there (entry.On s q path) sum k s live in
    told_next sent.0 (sent_by s.client (carried (entry.On s q path) sum).sessions) (λ r. down.Snap s r (sum.number + 1) q path (value_at path (carried (entry.On s q path) sum).tree)) sent.1
own_told sum m (entry.Off s q path) k f live o =
    let sent = sent_there (entry.Off s q path) sum k s live in
    told_next sent.0 (sent_by s.client (carried (entry.Off s q path) sum).sessions) (λ r. down.OffDone s r (sum.number + 1) q) sent.1
own_told sum m (entry.Ended s q w rows) k f live o =
    let sent = sent_there (entry.Ended s q w rows) sum k s live in
    told_next sent.0 (sent_by s.client (carried (entry.Ended s q w rows) sum).sessions) (λ r. down.Gone s r (sum.number + 1) w) sent.1

-- ---- the turn of a message

small : (o : Option OpenSession) (t : SessionId) (number n : ℕ) → IfSome o (IsOpenSession number) → counted o t ≡ Some n → n ≤ number
small None t number n is h = absurd (cc h)
small (Some o) t number n is h = by (same_stamp (stamp_of t) o.stamp) h where
  by : (b : Bool) → cond b (Some o.count) None ≡ Some n → n ≤ number
  by true h = let same : o.count ≡ n = cc h in let low = is.count in omega (arith, same, low)
  by false h = absurd (cc h)

module _ (s : SumState) (summed : IsSum s.sum) (m : Up) (plain : is_hello m ≡ false) (now : ℕ) (es : List Entry) (k : turn_by s (input.Up m) now ≡ makes es) where
  abbrev pub after : SumState
  after = after_commit s (moment_by s.sum now) es

  follows : FollowsSum s.sum (batch_by s.sum (moment_by s.sum now) es)
  follows = follows_by s summed (input.Up m) now es k

  pub after_summed : IsSum after.sum
  after_summed = sum_holds s.sum (batch_by s.sum (moment_by s.sum now) es) summed follows

  single : Single (session_in m) es
  single =
      let p = part_in s.sum (session_in m).client in
      let paths = paths_in s.sum (session_in m) in
      made (Single (session_in m)) s.sum.number (length s.sum.sessions) (message_by p paths s.sum.tree (moment_by s.sum now) m) es (message_single p paths s.sum.tree (moment_by s.sum now) m plain) k

  may : MayEnter s.sum (moment_by s.sum now) single.0
  may = (subst (λ l. MayEnterAll s.sum (moment_by s.sum now) l) single.1 (enters s.sum (moment_by s.sum now) es follows.allowed)).0

  live : is_open_in (session_of single.0) s.sum ≡ true
  live = entry_live s.sum (moment_by s.sum now) single.0 may single.3

  -- by one entry
  counted_by : (t : SessionId) → accepted_in t after.sum ≡ accepted_in t (sum_after single.0 s.sum)
  counted_by t = ap (λ l. accepted_in t (sum_after_all l s.sum)) single.1

  -- another session has had as many messages as before
  pub other_count : (t : SessionId) → same_session t (session_in m) ≡ false → accepted_in t after.sum ≡ accepted_in t s.sum
  other_count t apart = counted_by t ∙ entry_other s.sum single.0 summed.keeps live single.3 t (ap (same_session t) single.2 ∙ apart)

  -- its own has had one more, where it is still open
  pub own_more : (n : ℕ) → IfSome (accepted_in (session_in m) s.sum) (λ count. count ≡ n) → IfSome (accepted_in (session_in m) after.sum) (λ count. count ≡ n + 1)
  own_more n h =
      subst (λ o. IfSome o (λ count. count ≡ n + 1)) (sym (counted_by (session_in m)))
      (subst (λ t. IfSome (accepted_in t (sum_after single.0 s.sum)) (λ count. count ≡ n + 1)) single.2
      ((entry_own s.sum single.0 summed.keeps live single.3).one n (subst (λ t. IfSome (accepted_in t s.sum) (λ count. count ≡ n)) (sym single.2) h)))

  -- and has had few
  pub own_count : (q : ℕ) → IfSome (accepted_in (session_in m) s.sum) (λ n. n ≡ q) → q < 2 ^ 52
  own_count q abreast =
      let next = made_is_next s m now es plain k in
      let is : next.0 ≡ q = subst (λ o. IfSome o (λ n. n ≡ q)) next.1 abreast in
      let low = small (find client_cmp (session_in m).client s.sum.sessions) (session_in m) s.sum.number next.0 (summed.keeps.each (session_in m).client) next.1 in
      let room = summed.room in
      omega (arith, is, low, room)

  -- what is made is answered
  pub made_told : is_told (answers_by s.sum es) ≡ true
  made_told =
      ap (λ l. is_told (answers_by s.sum l)) single.1
      ∙ ap is_told (append-nil (entry_pushes s.sum single.0 ++ own_by s.sum single.0))
      ∙ told_last (entry_pushes s.sum single.0) (own_by s.sum single.0) (own_told s.sum (moment_by s.sum now) single.0 summed.keeps may live single.3)
