-- An index that takes in entries, all of them or none.
use Rattle.std.proofs.Common.{refl, sym, ◌∙◌, ap, subst, ◌≡◌, ℕ, ◌+◌, List, [], ◌∷◌, length, Bool, true, false, cond, true≢false, Option, Some, None, IsSome, is_some, Result, Ok, Err, OnErr}
use Rattle.std.specs.Option.{option_map}
use Rattle.std.specs.BTreeMap.{get, Updates}
use Rattle.pres_tree.specs.Rows.{IsValue}
use Rattle.pres_write.proofs.Applied.{applied_nothing}
use Rattle.pres_ids.specs.declared.id.Stamp.{Stamp}
use Rattle.pres_ids.specs.Ids.{ClientId, client_cmp, same_client, stamp_of}
use Rattle.pres_retry.specs.Tables.{Table, rows_of}
use Rattle.pres_log.specs.declared.entry.Entry.{Entry}
use Rattle.pres_log.specs.declared.entry.Entry.TheVariants as entry
use Rattle.pres_log.specs.Logs.{writes_of}
use Rattle.pres_server.specs.declared.index.Index.{Index}
use Rattle.pres_server.specs.declared.client_sessions.ClientSessions.{ClientSessions}
use Rattle.pres_server.specs.InternalSessions.{Session, last_stamp, live_part}
use Rattle.pres_server.specs.InternalPushes.{after_pushes}
use Rattle.pres_server.specs.InternalIndex.{session_at, gone_at, retry_after, Carries, Steps, MayTake}
use Rattle.pres_server.specs.InternalGrowth.{IsAlike, MayKeep, FindsOpen, HasPlace, IsSilent}
use Rattle.pres_server.proofs.Clients.{client_same, same_by_cmp}
use Rattle.pres_server.proofs.Pushed.{nobody_touched}
use Rattle.pres_server.specs.InternalSums.{open_of, sum_in, Agrees, MayEnter, MayTakeFrom}
use Rattle.pres_server.specs.Sums.{Sum, sum_after}
use Rattle.pres_server.specs.InternalParts.{Part, is_live}
use Rattle.pres_server.proofs.SumSteps.{part_agrees, agrees_in, first_carries, rest_from}

-- ---- as it was

pub alike_then : (a b c : Index) → IsAlike a b → IsAlike b c → IsAlike a c
alike_then a b c k l = record { says = λ sum h. l.says sum (k.says sum h) }

pub alike_tree : (old new : Index) → IsAlike old new → new.tree ≡ old.tree
alike_tree old new k = sym (k.says (sum_in 0 0 0 old) (agrees_in 0 0 0 old)).tree

pub may_take_alike : (sum : Sum) (z m : ℕ) (more : List Entry) (old new : Index) → IsAlike old new → MayTakeFrom sum z m more old → MayTakeFrom sum z m more new
may_take_alike sum z m more old new a f = record { agrees = a.says sum f.agrees; keeps = f.keeps; next = f.next; in_turn = f.in_turn; room = f.room }

-- the index with these places
abbrev pub placed : ClientSessions → Index → Index
placed places index = record { places = places; retry = index.retry; listeners = index.listeners; tree = index.tree }

-- what an open session hides makes no difference
hidden : (live : Option Session) (g h : Option Stamp) → last_stamp live g ≡ last_stamp live h → cond (is_some live) None g ≡ cond (is_some live) None h
hidden None g h e = e
hidden (Some session) g h e = refl

-- whose sessions are those that were
pub places_alike : (old : Index) (places : ClientSessions) → ((c : ClientId) → get client_cmp places.live c ≡ session_at old c)
    → ((c : ClientId) → last_stamp (session_at old c) (get client_cmp places.gone c) ≡ last_stamp (session_at old c) (gone_at old c)) → IsAlike old (placed places old)
places_alike old places live gone = record {
  says = λ sum a. record {
    sessions = λ c. a.sessions c ∙ ap (option_map open_of) (sym (live c));
    gone = λ c. a.gone c ∙ sym (hidden (session_at old c) (get client_cmp places.gone c) (gone_at old c) (gone c)) ∙ ap (λ o. cond (is_some o) None (get client_cmp places.gone c)) (sym (live c));
    rows = a.rows;
    listeners = a.listeners;
    tree = a.tree;
  };
}

-- a client whose session is open is told by it, and not by who is gone
told_by_live : (live : Option Session) (g h : Option Stamp) → IsSome live → last_stamp live g ≡ last_stamp live h
told_by_live None g h some = absurd (true≢false (sym some))
told_by_live (Some session) g h some = refl

pub room_alike : (old : Index) (places : ClientSessions) (k : ClientId) → IsSome (session_at old k) → places.live ≡ old.places.live
    → ((c : ClientId) → same_client k c ≡ false → get client_cmp places.gone c ≡ gone_at old c) → IsAlike old (placed places old)
room_alike old places k some live others = places_alike old places (λ c. ap (λ m. get client_cmp m c) live) (λ c. by c (same_client k c) refl) where
  by : (c : ClientId) (b : Bool) → same_client k c ≡ b → last_stamp (session_at old c) (get client_cmp places.gone c) ≡ last_stamp (session_at old c) (gone_at old c)
  by c true e = told_by_live (session_at old c) (get client_cmp places.gone c) (gone_at old c) (subst (λ d. IsSome (session_at old d)) (client_same k c e) some)
  by c false e = ap (last_stamp (session_at old c)) (others c e)

pub same_alike : (old : Index) (places : ClientSessions) (k : ClientId) → Updates client_cmp old.places.live places.live k (session_at old k) → places.gone ≡ old.places.gone → IsAlike old (placed places old)
same_alike old places k live gone = places_alike old places (λ c. live.0 c ∙ ap (λ b. cond b (session_at old k) (session_at old c)) (same_by_cmp k c) ∙ by c (same_client k c) refl) (λ c. ap (λ m. last_stamp (session_at old c) (get client_cmp m c)) gone) where
  by : (c : ClientId) (b : Bool) → same_client k c ≡ b → cond b (session_at old k) (session_at old c) ≡ session_at old c
  by c true e = ap (session_at old) (client_same k c e)
  by c false e = refl

-- ---- what is asked before an entry's writes are carried out

some_open : (live : Option Session) (t : Stamp) → is_live (option_map live_part live) t ≡ true → IsSome live
some_open None t h = absurd (true≢false (sym h))
some_open (Some session) t h = refl

pub finds_open : (sum : Sum) (m : ℕ) (e : Entry) (index : Index) → Agrees index sum → MayEnter sum m e → FindsOpen index e
finds_open sum m (entry.Open s) index a f = tt
finds_open sum m (entry.Op s q n op outcome) index a f = tt
finds_open sum m (entry.Again s q n) index a f = tt
finds_open sum m (entry.Left s q puts) index a f = tt
finds_open sum m (entry.Cancelled s q path) index a f = tt
finds_open sum m (entry.Denied s q why) index a f = tt
finds_open sum m (entry.On s q path) index a f = tt
finds_open sum m (entry.Off s q path) index a f = tt
finds_open sum m (entry.Ended s q why rows) index a f =
    some_open (session_at index s.client) (stamp_of s) (ap (λ (p : Part). is_live p.live (stamp_of s)) (sym (part_agrees index sum a s.client)) ∙ f.0)

pub may_keep : (sum : Sum) (m : ℕ) (e : Entry) (index : Index) → Agrees index sum → MayEnter sum m e → MayKeep index e
may_keep sum m (entry.Open s) index a f = tt
may_keep sum m (entry.Op s q n op outcome) index a f = f.1 ∙ ap (λ table. length (rows_of s.client table) + 1) a.rows
may_keep sum m (entry.Again s q n) index a f = tt
may_keep sum m (entry.Left s q puts) index a f = tt
may_keep sum m (entry.Cancelled s q path) index a f = tt
may_keep sum m (entry.Denied s q why) index a f = tt
may_keep sum m (entry.On s q path) index a f = tt
may_keep sum m (entry.Off s q path) index a f = tt
may_keep sum m (entry.Ended s q why rows) index a f = tt

pub place_kept : (old new : Index) (e : Entry) → new.places.gone ≡ old.places.gone → HasPlace old e → HasPlace new e
place_kept old new (entry.Open s) h k = tt
place_kept old new (entry.Op s q n op outcome) h k = tt
place_kept old new (entry.Again s q n) h k = tt
place_kept old new (entry.Left s q puts) h k = tt
place_kept old new (entry.Cancelled s q path) h k = tt
place_kept old new (entry.Denied s q why) h k = tt
place_kept old new (entry.On s q path) h k = tt
place_kept old new (entry.Off s q path) h k = tt
place_kept old new (entry.Ended s q why rows) h k = subst (λ m. IsSome (get client_cmp m s.client)) (sym h) k

-- ---- one entry more

-- the index with these answers
abbrev pub answering : Table → Index → Index
answering table index = record { places = index.places; retry = table; listeners = index.listeners; tree = index.tree }

-- the index between, before the answer of the entry is kept
pub carried_before : (z : ℕ) (e : Entry) (old mid : Index) → Carries (writes_of e) (answering (retry_after z e old.retry) old) mid → Carries (writes_of e) old (answering old.retry mid)
carried_before z e old mid k = record { live = k.live; gone = k.gone; retry = refl; listeners = k.listeners; tree = k.tree }

quiet_alike : (old mid : Index) → IsValue old.tree → Carries [] old mid → IsAlike old mid
quiet_alike old mid v k = record {
  says = λ sum a. record {
    sessions = λ c. a.sessions c ∙ ap (option_map open_of) (sym (live c));
    gone = λ c. a.gone c ∙ (λ i. cond (is_some (sym (live c) i)) None (get client_cmp (sym k.gone i) c));
    rows = a.rows ∙ sym k.retry;
    listeners = a.listeners ∙ sym k.listeners;
    tree = a.tree ∙ sym (k.tree ∙ applied_nothing old.tree v);
  };
} where
  live : (c : ClientId) → session_at mid c ≡ session_at old c
  live c = k.live c ∙ ap (λ t. after_pushes (session_at old) t c) (nobody_touched [] old.listeners refl)

-- an entry that writes nothing and keeps no answer changes nothing so far
pub silent_alike : (z : ℕ) (e : Entry) (old mid : Index) → IsSilent e → IsValue old.tree → Carries (writes_of e) (answering (retry_after z e old.retry) old) mid → IsAlike old mid
silent_alike z (entry.Open s) old mid silent v k = quiet_alike old mid v k
silent_alike z (entry.Op s q n op outcome) old mid silent v k = absurd silent
silent_alike z (entry.Again s q n) old mid silent v k = quiet_alike old mid v k
silent_alike z (entry.Left s q puts) old mid silent v k = quiet_alike old mid v k
silent_alike z (entry.Cancelled s q path) old mid silent v k = quiet_alike old mid v k
silent_alike z (entry.Denied s q why) old mid silent v k = quiet_alike old mid v k
silent_alike z (entry.On s q path) old mid silent v k = quiet_alike old mid v k
silent_alike z (entry.Off s q path) old mid silent v k = quiet_alike old mid v k
silent_alike z (entry.Ended s q why rows) old mid silent v k = absurd silent

-- what the rest of an entry asks
pub may_settle : (sum : Sum) (z m : ℕ) (e : Entry) (more : List Entry) (old mid : Index) → MayTakeFrom sum z m (e ∷ more) old → Carries (writes_of e) (answering (retry_after z e old.retry) old) mid → MayTake (answering old.retry mid) e
may_settle sum z m e more old mid f k = (first_carries sum z m (e ∷ more) e more old refl f).entry (answering old.retry mid) (carried_before z e old mid k)

pub grown : (sum : Sum) (z m : ℕ) (e : Entry) (old mid new : Index) → MayTakeFrom sum z m (e ∷ []) old → Carries (writes_of e) (answering (retry_after z e old.retry) old) mid → Steps z m (answering old.retry mid) new e → Agrees new (sum_after e sum)
grown sum z m e old mid new f k st = (rest_from sum z m (e ∷ []) e [] old (answering old.retry mid) new refl f (carried_before z e old mid k) st).agrees

-- what is refused to an entry that changed nothing so far
pub alike_where : {A E : Type 0} {P : Type 0} {old new last : Index} (r : Result A E) → (P → IsAlike old new → IsAlike last new) → OnErr r P → OnErr r (IsAlike old new) → OnErr r (IsAlike last new)
alike_where (Ok a) f p k = tt
alike_where (Err e) f p k = f p k
