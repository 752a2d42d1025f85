-- What a client makes: the list of a session's messages, and the writes of its start.
use Rattle.std.proofs.Common.{if◌then◌else◌, refl, sym, ◌∙◌, ap, subst, ◌≡◌, ◌+◌, ◌<◌, ℕ, zero, suc, Bool, true, false, List, [], ◌∷◌, ◌++◌, map, length, drop, slice_get, ◌⊎◌, inl, inr, Option, Some, None, arith, unwrap_or, append-nil}
use Rattle.std.specs.Option.{is_none}
use Rattle.std.specs.List.{Contains, AllByRecursion}
use Rattle.std.proofs.lemmas.List.Elements.{Contains-append_left}
use Rattle.pres_ids.specs.declared.id.SessionId.{SessionId}
use Rattle.pres_tree.specs.Paths.{Path}
use Rattle.pres_write.specs.declared.op.Op.{Op}
use Rattle.pres_write.specs.declared.unconditional.Unconditional.TheVariants as unconditional
use Rattle.pres_write.specs.Updates.{update_of}
use Rattle.pres_write.specs.declared.op.Op.TheVariants as op
use Rattle.pres_write.specs.Transactions.{comparison}
use Rattle.pres_wire.specs.declared.up.Up.{Up}
use Rattle.pres_wire.specs.declared.up.Up.TheVariants as up
use Rattle.pres_wire.specs.Messages.{session_in, q_in}
use Rattle.pres_client_state.specs.declared.ask.Ask.{Ask}
use Rattle.pres_client_state.specs.Watches.{watch_of}
use Rattle.pres_client_state.specs.Asks.{ask_of}
use Rattle.pres_client.specs.declared.call.Answer.{Answer}
use Rattle.pres_client.specs.declared.call.Answer.TheVariants as answer
use Rattle.pres_client.specs.declared.call.Call.{Call}
use Rattle.pres_client.specs.declared.call.Call.TheVariants as call
use Rattle.pres_client.specs.Clients.{ClientState, is_online, base_of}
use Rattle.pres_client.specs.Calls.{refusal}
use Rattle.pres_client.specs.Sends.{SendList, Unnumbered, numbered, op_messages, on_messages, opening, made_one, wrote_one, answered_one, made_by, made_step, kept_while, made}
use Rattle.pres_client.specs.Steps.{ClientStep, calls, receives, hands_out_sends, hands_out_notices, after, run}
use Rattle.pres_world.proofs.Stands.{none_or_some, get_push}
use Rattle.pres_world.proofs.Backed.{get_last}
use Rattle.pres_world.proofs.Writes.{AllFit, Fits, fits_on, pushed_fit}

-- the messages are of the session, and the k-th has q = k
abbrev pub InList : SessionId → List Up → Type 0
InList s ms = (i : ℕ) (m : Up) → slice_get ms i ≡ Some m → (q_in m ≡ Some (i + 1)) × (session_in m ≡ s)

-- so it is with a message more
abbrev IsOf : SessionId → Unnumbered → Type 0
IsOf s u = (q : ℕ) → (q_in (u q) ≡ Some q) × (session_in (u q) ≡ s)

in_push : (s : SessionId) (ms : List Up) (u : Unnumbered) → InList s ms → IsOf s u → InList s (ms ++ u (length ms + 1) ∷ [])
in_push s ms u h f i m get = by (get_push ms (u (length ms + 1)) i m get) where
  by : ((i < length ms) × (slice_get ms i ≡ Some m)) ⊎ ((i ≡ length ms) × (u (length ms + 1) ≡ m)) → (q_in m ≡ Some (i + 1)) × (session_in m ≡ s)
  by (inl x) = h i m x.1
  by (inr x) = (ap q_in (sym x.1) ∙ (f (length ms + 1)).0 ∙ ap (λ n. Some (n + 1)) (sym x.0), ap session_in (sym x.1) ∙ (f (length ms + 1)).1)

numbered_in : (s : SessionId) (k : ℕ) (us : List Unnumbered) → AllByRecursion (IsOf s) us → (i : ℕ) (m : Up) → slice_get (numbered k us) i ≡ Some m → (q_in m ≡ Some (i + k)) × (session_in m ≡ s)
numbered_in s k [] h i m get = absurd (none_or_some m get)
numbered_in s k (u ∷ us) h zero m get = let is : u k ≡ m = some_is (u k) m get in let count : k ≡ 0 + k = omega arith in (ap q_in (sym is) ∙ (h.0 k).0 ∙ ap Some count, ap session_in (sym is) ∙ (h.0 k).1) where
  some_is : (x y : Up) → Some x ≡ Some y → x ≡ y
  some_is x y e = grind arith
numbered_in s k (u ∷ us) h (suc i) m get =
    let rest = numbered_in s (k + 1) us h.1 i m get in
    let count : i + (k + 1) ≡ suc i + k = omega arith in
    (rest.0 ∙ ap Some count, rest.1)

ops_in : (s : SessionId) (n : ℕ) (os : List Op) → AllByRecursion (IsOf s) (op_messages s n os)
ops_in s n [] = tt
ops_in s n (o ∷ os) = ((λ q. (refl, refl)), ops_in s (n + 1) os)

ons_in : (s : SessionId) (ps : List Path) (us : List Unnumbered) → AllByRecursion (IsOf s) us → AllByRecursion (IsOf s) (on_messages s ps ++ us)
ons_in s [] us h = h
ons_in s (p ∷ ps) us h = ((λ q. (refl, refl)), ons_in s ps us h)

pub opening_in : (d : ClientState) (t : SendList) → InList d.session (opening d t).messages
opening_in d t i m get = numbered_in d.session 1 (on_messages d.session (map (λ e. e.0) d.watches) ++ op_messages d.session (base_of d + d.answered + 1) (drop d.answered t.writes)) (ons_in d.session (map (λ e. e.0) d.watches) _ (ops_in d.session (base_of d + d.answered + 1) (drop d.answered t.writes))) i m get

-- the list stays, or the client is Online and it has a message more
abbrev pub Grown : ClientState → SendList → SendList → Type 0
Grown c t u = (u.messages ≡ t.messages) ⊎ ((f : Unnumbered) × (is_online c.phase ≡ true) × (u.messages ≡ t.messages ++ f (length t.messages + 1) ∷ []) × IsOf c.session f)

-- an Online client counts its writes on from somewhere
abbrev pub HasBase : ClientState → Type 0
HasBase c = is_online c.phase ≡ true → (x : ℕ) × (c.base ≡ Some x)

-- what a step makes: the list stays or has a message more, there may be writes more, and each message still has the write
-- with its number
pub record Makes (c : ClientState) (t u : SendList) : Type 0 where
  pub grown : Grown c t u
  pub more : List Op
  pub writes : u.writes ≡ t.writes ++ more
  pub fit : HasBase c → AllFit c.base t.writes t.messages → AllFit c.base u.writes u.messages

nothing : (c : ClientState) (t : SendList) → Makes c t t
nothing c t = record { grown = inl refl; more = []; writes = sym (append-nil t.writes); fit = λ has h. h }

-- a message without a write
plain : (c : ClientState) (t : SendList) (f : Unnumbered) → IsOf c.session f → ((q : ℕ) (b : Option ℕ) (ws : List Op) → Fits b ws (f q)) → Makes c t (made_one c t f)
plain c t f its none = by (is_online c.phase) refl where
  by : (b : Bool) → is_online c.phase ≡ b → Makes c t (if b then record t { messages = t.messages ++ f (length t.messages + 1) ∷ [] } else t)
  by true e = record { grown = inr (f, e, refl, its); more = []; writes = sym (append-nil t.writes); fit = λ has h. pushed_fit c.base t.writes t.messages (f (length t.messages + 1)) h (none (length t.messages + 1) c.base t.writes) }
  by false e = nothing c t

one_write : (c : ClientState) (t : SendList) (o : Op) → Makes c t (wrote_one c t o)
one_write c t o = record { grown = grown (is_online c.phase) refl; more = o ∷ []; writes = refl; fit = λ has h. fit has h (is_online c.phase) refl } where
  f : Unnumbered
  f = λ q. up.Op c.session q (base_of c + length t.writes + 1) o

  grown : (b : Bool) → is_online c.phase ≡ b → Grown c t (if b then record t { messages = t.messages ++ f (length t.messages + 1) ∷ [] } else t)
  grown true e = inr (f, e, refl, λ q. (refl, refl))
  grown false e = inl refl

  fit : HasBase c → AllFit c.base t.writes t.messages → (b : Bool) → is_online c.phase ≡ b → AllFit c.base (t.writes ++ o ∷ []) (if b then record t { messages = t.messages ++ f (length t.messages + 1) ∷ [] } else t).messages
  fit has h true on =
      let x = has on in
      let is : base_of c ≡ x.0 = ap (λ b. unwrap_or b 0) x.1 in
      pushed_fit c.base (t.writes ++ o ∷ []) t.messages _ (λ m there. fits_on c.base t.writes (o ∷ []) m (h m there)) (record { base = x.0; known = x.1; place = length t.writes; count = ap (λ b. b + length t.writes + 1) is; write = get_last t.writes o })
  fit has h false on = λ m there. fits_on c.base t.writes (o ∷ []) m (h m there)

answered_makes : (c : ClientState) (t : SendList) (given : Answer) (o : Option Ask) → Makes c t (answered_one c t given o)
answered_makes c t given None = nothing c t
answered_makes c t answer.Abort (Some a) = nothing c t
answered_makes c t (answer.New new) (Some a) = one_write c t (op.Tx (comparison a.path a.value new))

listen_makes : (c : ClientState) (t : SendList) (p : Path) (b : Bool) → Makes c t (if b then made_one c t (λ q. up.On c.session q p) else t)
listen_makes c t p true = plain c t (λ q. up.On c.session q p) (λ q. (refl, refl)) (λ q b ws. tt)
listen_makes c t p false = nothing c t

unlisten_makes : (c : ClientState) (t : SendList) (p : Path) (b : Bool) → Makes c t (if b then t else made_one c t (λ q. up.Off c.session q p))
unlisten_makes c t p true = nothing c t
unlisten_makes c t p false = plain c t (λ q. up.Off c.session q p) (λ q. (refl, refl)) (λ q b ws. tt)

call_makes : (c : ClientState) (t : SendList) (k : Call) → Makes c t (made_by c t k)
call_makes c t (call.Set p draft) = one_write c t (op.Set (p, draft))
call_makes c t (call.Update p places) = one_write c t (op.Update (update_of p places.items))
call_makes c t (call.Remove p) = one_write c t (op.Set (p, []))
call_makes c t (call.Transact p) = nothing c t
call_makes c t (call.Answer k given) = answered_makes c t given (ask_of k c.asks)
call_makes c t (call.OnDisconnectSet p draft) = plain c t (λ q. up.Left c.session q (unconditional.Set (p, draft))) (λ q. (refl, refl)) (λ q b ws. tt)
call_makes c t (call.OnDisconnectUpdate p places) = plain c t (λ q. up.Left c.session q (unconditional.Update (update_of p places.items))) (λ q. (refl, refl)) (λ q b ws. tt)
call_makes c t (call.OnDisconnectRemove p) = plain c t (λ q. up.Left c.session q (unconditional.Set (p, []))) (λ q. (refl, refl)) (λ q b ws. tt)
call_makes c t (call.OnDisconnectCancel p) = plain c t (λ q. up.Cancel c.session q p) (λ q. (refl, refl)) (λ q b ws. tt)
call_makes c t (call.Listen p) = listen_makes c t p (is_none (watch_of p c.watches))
call_makes c t (call.Unlisten p) = unlisten_makes c t p (is_none (watch_of p c.watches))
call_makes c t call.GoOnline = nothing c t
call_makes c t call.GoOffline = plain c t (λ q. up.Bye c.session q) (λ q. (refl, refl)) (λ q b ws. tt)
call_makes c t call.Lost = nothing c t
call_makes c t call.Beat = nothing c t
call_makes c t call.Resend = nothing c t

pub step_makes : (c : ClientState) (t : SendList) (s : ClientStep) → Makes c t (made_step c t s)
step_makes c t (calls k) = by (is_none (refusal c k)) where
  by : (b : Bool) → Makes c t (if b then made_by c t k else t)
  by true = call_makes c t k
  by false = nothing c t
step_makes c t (receives m) = nothing c t
step_makes c t hands_out_sends = nothing c t
step_makes c t hands_out_notices = nothing c t

-- ---- what was made, step by step

pub run_then : (c : ClientState) (xs ys : List ClientStep) → run c (xs ++ ys) ≡ run (run c xs) ys
run_then c [] ys = refl
run_then c (s ∷ xs) ys = run_then (after c s) xs ys

pub made_then : (c : ClientState) (t : SendList) (xs ys : List ClientStep) → made c t (xs ++ ys) ≡ made (run c xs) (made c t xs) ys
made_then c t [] ys = refl
made_then c t (s ∷ xs) ys = made_then (after c s) (kept_while c (after c s) (made_step c t s)) xs ys

-- nothing is made where the client isn't Online after the step, or was before it
pub kept_if : (c d : ClientState) (t : SendList) (b : Bool) → is_online d.phase ≡ b → (b ≡ true → is_online c.phase ≡ true) → kept_while c d t ≡ t
kept_if c d t true e was = ap (λ x. if x then (if is_online c.phase then t else opening d t) else t) e ∙ ap (λ x. if x then t else opening d t) (was refl)
kept_if c d t false e was = ap (λ x. if x then (if is_online c.phase then t else opening d t) else t) e

pub opened_if : (c d : ClientState) (t : SendList) → is_online d.phase ≡ true → is_online c.phase ≡ false → kept_while c d t ≡ opening d t
opened_if c d t e f = ap (λ x. if x then (if is_online c.phase then t else opening d t) else t) e ∙ ap (λ x. if x then t else opening d t) f

-- ---- lists

pub get_contained : {A : Type 0} (xs : List A) (x : A) → Contains xs x → (i : ℕ) × (slice_get xs i ≡ Some x)
get_contained [] x (k, less, is) = absurd (omega (arith, less))
get_contained (y ∷ xs) x (zero, less, is) = (zero, ap Some is)
get_contained (y ∷ xs) x (suc k, less, is) = let rest = get_contained xs x (k, omega (arith, less), is) in (suc rest.0, rest.1)

-- a longer list of the session
pub grown_in : (c : ClientState) (t u : SendList) (s : SessionId) → (is_online c.phase ≡ true → s ≡ c.session) → Grown c t u → InList s t.messages → InList s u.messages
grown_in c t u s is (inl same) h = subst (InList s) (sym same) h
grown_in c t u s is (inr x) h =
    let its = is x.1 in
    subst (λ r. InList r u.messages) (sym its) (subst (InList c.session) (sym x.2) (in_push c.session t.messages x.0 (subst (λ r. InList r t.messages) its h) x.3))

pub grown_front : (c : ClientState) (t u : SendList) → Grown c t u → (m : Up) → Contains t.messages m → Contains u.messages m
grown_front c t u (inl same) m h = subst (λ l. Contains l m) (sym same) h
grown_front c t u (inr x) m h = subst (λ l. Contains l m) (sym x.2) (Contains-append_left t.messages (x.0 (length t.messages + 1) ∷ []) m h)

-- what stands in the list is of the session
pub listed_of : (s : SessionId) (ms : List Up) (m : Up) → InList s ms → Contains ms m → session_in m ≡ s
listed_of s ms m h there = let at = get_contained ms m there in (h at.0 m at.1).1

-- and one number is one message
pub listed_once : (s : SessionId) (ms : List Up) (m k : Up) (q : ℕ) → InList s ms → Contains ms m → Contains ms k → q_in m ≡ Some q → q_in k ≡ Some q → m ≡ k
listed_once s ms m k q h there here mq kq =
    let at = get_contained ms m there in
    let by = get_contained ms k here in
    let i : at.0 + 1 ≡ q = number (at.0 + 1) q (sym (h at.0 m at.1).0 ∙ mq) in
    let j : by.0 + 1 ≡ q = number (by.0 + 1) q (sym (h by.0 k by.1).0 ∙ kq) in
    let same : at.0 ≡ by.0 = omega (arith, i, j) in
    message_is m k (sym at.1 ∙ ap (slice_get ms) same ∙ by.1) where
      number : (x y : ℕ) → Some x ≡ Some y → x ≡ y
      number x y e = ap (λ o. unwrap_or o x) e

      message_is : (x y : Up) → Some x ≡ Some y → x ≡ y
      message_is x y e = ap (λ o. unwrap_or o x) e
