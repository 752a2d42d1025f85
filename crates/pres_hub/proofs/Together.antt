-- Requests of different seats, whose turns are done one after another: each message is taken at its place.
use Rattle.std.proofs.Common.{refl, sym, ◌∙◌, ap, subst, ◌≡◌, ◌≤◌, ◌<◌, ◌+◌, ◌-◌, ◌^◌, ℕ, List, [], ◌∷◌, ◌++◌, map, take, drop, length, Bool, true, false, true≢false, ◌⊎◌, inl, inr, Option, Some, None, Result, Ok, Err, IfSome, arith}
use Rattle.std.specs.List.{flat_map, AllByRecursion}
use Rattle.std.proofs.lemmas.List.{map-append}
use Rattle.pres_ids.specs.declared.id.SessionId.{SessionId}
use Rattle.pres_ids.specs.Ids.{same_session}
use Rattle.pres_ids.specs.Numbers.{greatest_number}
use Rattle.pres_wire.specs.declared.down.Down.{Down}
use Rattle.pres_wire.specs.declared.up.Up.{Up}
use Rattle.pres_wire.specs.Messages.{session_in}
use Rattle.pres_log.specs.declared.entry.Entry.{Entry}
use Rattle.pres_server.specs.declared.input.Input.{Input}
use Rattle.pres_server.specs.declared.input.Input.TheVariants as input
use Rattle.pres_server.specs.Turns.{Decision, refused, quiet, makes}
use Rattle.pres_server.specs.Sums.{accepted_in}
use Rattle.pres_server.specs.SumStates.{SumState}
use Rattle.pres_server.specs.SumTurns.{turn_by, moment_by, after_commit, after_hearing}
use Rattle.pres_server.specs.Histories.{IsSum, History, with_batches}
use Rattle.pres_server.proofs.Clients.{session_same}
use Rattle.pres_ring.specs.AcceptedMessages.{is_hello}
use Rattle.pres_ring.specs.Lines.{Lines}
use Rattle.pres_faults.specs.declared.engine_fault.EngineFault.{EngineFault}
use Rattle.pres_faults.specs.declared.engine_fault.EngineFault.TheVariants as fault
use Rattle.pres_keeper.specs.Engines.{Runs}
use Rattle.pres_keeper.specs.EngineTurns.{IsDone, IsTurnDone, IsTurnRefused, history_turned, history_left}
use Rattle.pres_keeper.specs.EngineGroups.{TurnResult, TurnPart, alone, unkept, gone, inputs_in, results_in, all_refused}
use Rattle.pres_dispatch.specs.Groups.{Turned, is_told, turned_of, ArePartsPut, history_parts}
use Rattle.pres_dispatch.proofs.Behind.{follows_by}
use Rattle.pres_accounting.specs.Seats.{SeatState}
use Rattle.pres_hub.specs.CoreCalls.{IsTaken, HasSameCount, accepted_of, accepted_by}
use Rattle.pres_hub.specs.CoreGroups.{RequestState, AnswerState, messages_of, inputs_of, places, IsTakenBy, seat_after, noted, outcome_of, AreHeard, AreAnswered, accepted_all}
use Rattle.pres_hub.specs.InternalGroups.{AreApart, one_if, seat_by, seat_from, answer_of, answers_of, told_in, FitIn, AllFit, waiting_of}
use Rattle.pres_hub.proofs.Counted.{Accepted, said_accepted, few_accepted}
use Rattle.pres_hub.proofs.SayAnswered.{grown}
use Rattle.pres_hub.proofs.Others.{other_count, own_more, own_count, made_told, after_summed}
use Rattle.pres_hub.proofs.Ends.{turn_left}

-- the server takes all of these messages of the seat
abbrev pub TakesAll : SumState → SeatState → List Up → Type 0
TakesAll s seat ms = AllByRecursion (λ m. IsTakenBy seat m s) ms

-- so it is with each request
abbrev pub AllTaken : SumState → List RequestState → Type 0
AllTaken s rs = AllByRecursion (λ r. TakesAll s r.seat r.messages) rs

-- these are of other sessions than the seat's
abbrev pub AllApart : SeatState → List RequestState → Type 0
AllApart seat rs = AllByRecursion (λ r. same_session r.seat.session seat.session ≡ false) rs

-- the seat with so many messages more
abbrev pub more_by : SeatState → ℕ → SeatState
more_by seat n = record { session = seat.session; q = seat.q + n; seen = seat.seen; made = seat.made + n }

-- ---- what stays after a turn

-- the sum is all that counts
moved : (seat : SeatState) (x : Up) (s t : SumState) (n : ℕ) → t.sum ≡ s.sum → n ≡ 0 → IsTakenBy seat x s → IsTakenBy (more_by seat n) x t
moved seat x s t n same none is =
    let q : seat.q ≡ seat.q + n = omega (arith, none) in
    record {
      runs = refl;
      own = is.own;
      fresh = subst (λ sum. seat.seen ≤ sum.number) (sym same) is.fresh;
      abreast =
          subst (λ sum. IfSome (accepted_in (session_in x) sum) (λ count. count ≡ seat.q + n)) (sym same)
          (subst (λ m. IfSome (accepted_in (session_in x) s.sum) (λ count. count ≡ m)) q is.abreast);
    }

moved_other : (seat : SeatState) (x : Up) (s t : SumState) → t.sum ≡ s.sum → IsTakenBy seat x s → IsTakenBy seat x t
moved_other seat x s t same is = record {
  runs = refl;
  own = is.own;
  fresh = subst (λ sum. seat.seen ≤ sum.number) (sym same) is.fresh;
  abreast = subst (λ sum. IfSome (accepted_in (session_in x) sum) (λ count. count ≡ seat.q)) (sym same) is.abreast;
}

-- a message of one seat names another session than that of another
others : (x m : Up) (a b : SessionId) → same_session (session_in x) a ≡ true → same_session (session_in m) b ≡ true → same_session a b ≡ false → same_session (session_in x) (session_in m) ≡ false
others x m a b own own_m apart = (λ i. same_session (session_same (session_in x) a own i) (session_same (session_in m) b own_m i)) ∙ apart

-- two of one seat name one session
same_named : (x m : Up) (a : SessionId) → same_session (session_in x) a ≡ true → same_session (session_in m) a ≡ true → session_in m ≡ session_in x
same_named x m a own own_m = session_same (session_in m) a own_m ∙ sym (session_same (session_in x) a own)

module _ (s : SumState) (summed : IsSum s.sum) (seat : SeatState) (m : Up) (taken : IsTakenBy seat m s) (now : ℕ) where
  -- what is made leaves messages of another seat, and those of this one, which has one more
  module _ (es : List Entry) (k : turn_by s (input.Up m) now ≡ makes es) where
    abbrev later : SumState
    later = after_commit s (moment_by s.sum now) es

    rises : s.sum.number < later.sum.number
    rises = grown s (moment_by s.sum now) es (follows_by s summed (input.Up m) now es k)

    made_other : (other : SeatState) (x : Up) → same_session other.session seat.session ≡ false → IsTakenBy other x s → IsTakenBy other x later
    made_other other x apart is =
        let more : s.sum.number < later.sum.number = rises in
        let fresh : other.seen ≤ s.sum.number = is.fresh in
        let same = other_count s summed m taken.own.0 now es k (session_in x) (others x m other.session seat.session is.own.1 taken.own.1 apart) in
        record {
          runs = refl;
          own = is.own;
          fresh = omega (arith, more, fresh);
          abreast = subst (λ o. IfSome o (λ count. count ≡ other.q)) (sym same) is.abreast;
        }

    made_own : (x : Up) (n : ℕ) → n ≡ 1 → IsTakenBy seat x s → IsTakenBy (more_by seat n) x later
    made_own x n one is =
        let more : s.sum.number < later.sum.number = rises in
        let fresh : seat.seen ≤ s.sum.number = is.fresh in
        let q : seat.q + 1 ≡ seat.q + n = omega (arith, one) in
        record {
          runs = refl;
          own = is.own;
          fresh = omega (arith, more, fresh);
          abreast =
              subst (λ t. IfSome (accepted_in t later.sum) (λ count. count ≡ seat.q + n)) (same_named x m seat.session is.own.1 taken.own.1)
              (subst (λ j. IfSome (accepted_in (session_in m) later.sum) (λ count. count ≡ j)) q (own_more s summed m taken.own.0 now es k seat.q taken.abreast));
        }

  -- a turn that is done
  pub record Stepped (next : Option SumState) (outs : List Down) : Type 0 where
    pub server : SumState
    pub is : next ≡ Some server
    pub summed_on : IsSum server.sum
    pub own : (x : Up) → IsTakenBy seat x s → IsTakenBy (more_by seat (accepted_of (Some s) m now)) x server
    pub other : (away : SeatState) (x : Up) → same_session away.session seat.session ≡ false → IsTakenBy away x s → IsTakenBy away x server
    -- it answers something where the message was accepted
    pub told : one_if (is_told outs) ≡ accepted_of (Some s) m now
    -- and then its number is small
    pub fits : is_told outs ≡ true → seat.q < greatest_number

  pub stepped : (next : Option SumState) (outs : List Down) → IsTurnDone (Some s) (input.Up m) now next outs → Stepped next outs
  stepped next outs done = by (turn_by s (input.Up m) now) refl done where
    by : (d : Decision) → turn_by s (input.Up m) now ≡ d → IsDone d s (moment_by s.sum now) (input.Up m) next outs → Stepped next outs
    by (refused f) k h = absurd h
    by quiet k h = record {
      server = after_hearing s (moment_by s.sum now) (input.Up m);
      is = h.0;
      summed_on = summed;
      own = λ x is. moved seat x s (after_hearing s (moment_by s.sum now) (input.Up m)) (accepted_of (Some s) m now) refl (ap accepted_by k) is;
      other = λ away x apart is. moved_other away x s (after_hearing s (moment_by s.sum now) (input.Up m)) refl is;
      told = ap (λ l. one_if (is_told l)) h.1 ∙ sym (ap accepted_by k);
      fits = λ t. absurd (true≢false (sym t ∙ ap is_told h.1));
    }
    by (makes es) k h = record {
      server = after_commit s (moment_by s.sum now) es;
      is = h.0;
      summed_on = after_summed s summed m taken.own.0 now es k;
      own = λ x is. made_own es k x (accepted_of (Some s) m now) (ap accepted_by k) is;
      other = λ away x apart is. made_other es k away x apart is;
      told = ap (λ l. one_if (is_told l)) h.1 ∙ ap one_if (made_told s summed m taken.own.0 now es k) ∙ sym (ap accepted_by k);
      fits = λ t. let few : seat.q < 2 ^ 52 = own_count s summed m taken.own.0 now es k seat.q taken.abreast in omega (arith, few);
    }

-- ---- turns one after another

-- the server stays, or goes down
abbrev pub Stays : Option SumState → Option SumState → Type 0
Stays a b = (b ≡ a) ⊎ (b ≡ None)

stays_on : (P : SumState → Type 0) (a b : Option SumState) → Stays a b → Runs P a → Runs P b
stays_on P a b (inl same) h = subst (Runs P) (sym same) h
stays_on P a b (inr none) h = subst (Runs P) (sym none) tt

stays_twice : (a b c : Option SumState) → Stays a b → Stays b c → Stays a c
stays_twice a b c (inl same) (inl more) = inl (more ∙ same)
stays_twice a b c (inl same) (inr none) = inr none
stays_twice a b c (inr down) (inl more) = inr (more ∙ down)
stays_twice a b c (inr down) (inr none) = inr none

-- a turn that begins at this server comes to this
abbrev pub IsStep : ℕ → Input → Option SumState → Option SumState → Turned → Type 0
IsStep now i place next (Ok told) = (outs : List Down) × IsTurnDone place i now next outs × (told ≡ is_told outs)
IsStep now i place next (Err f) = next ≡ place

-- each begins where those before it leave the server, unless that is down by then
abbrev pub Steps : ℕ → List Input → List (Option SumState) → List Turned → Option SumState → Option SumState → Type 0
Steps now [] [] [] a b = Stays a b
Steps now (i ∷ is) (place ∷ places) (t ∷ ts) a b = Stays a place × (next : Option SumState) × IsStep now i place next t × Steps now is places ts next b
Steps now _ _ _ a b = ⊥

steps_from : (now : ℕ) (is : List Input) (ps : List (Option SumState)) (ts : List Turned) (a c b : Option SumState) → Stays a c → Steps now is ps ts c b → Steps now is ps ts a b
steps_from now [] [] [] a c b stays steps = stays_twice a c b stays steps
steps_from now (i ∷ is) (p ∷ ps) (t ∷ ts) a c b stays steps = (stays_twice a c p stays steps.0, steps.1, steps.2, steps.3)
steps_from now [] [] (t ∷ ts) a c b stays steps = absurd steps
steps_from now [] (p ∷ ps) ts a c b stays steps = absurd steps
steps_from now (i ∷ is) [] ts a c b stays steps = absurd steps
steps_from now (i ∷ is) (p ∷ ps) [] a c b stays steps = absurd steps

-- several that are refused together
refused_steps : (now : ℕ) (f : EngineFault) (a b : Option SumState) (inputs more : List Input) (ps : List (Option SumState)) (results : List TurnResult) → Steps now more ps (map turned_of results) a b
    → Steps now (inputs ++ more) (map (λ _. a) inputs ++ ps) (map turned_of (all_refused f inputs ++ results)) a b
refused_steps now f a b [] more ps results steps = steps
refused_steps now f a b (i ∷ is) more ps results steps = (inl refl, a, refl, refused_steps now f a b is more ps results steps)

pub parts_steps : (parts : List TurnPart) (now : ℕ) (a b : Option SumState) (before after : Lines) (put : ArePartsPut parts now a b before after)
    → Steps now (flat_map inputs_in parts) (places parts now a b before after put) (map turned_of (flat_map results_in parts)) a b
parts_steps [] now a b before after put = inl put.0
parts_steps (alone i (Ok outs) ∷ later) now a b before after put = (inl refl, put.0, (outs, put.2.0, refl), parts_steps later now put.0 b put.1 after put.3)
parts_steps (alone i (Err f) ∷ later) now a b before after put =
    (inl refl, a, refl, steps_from now (flat_map inputs_in later) (places later now put.0 b put.1 after put.3) (map turned_of (flat_map results_in later)) a put.0 b (turn_left i now a put.0 f put.2.0) (parts_steps later now put.0 b put.1 after put.3))
parts_steps (unkept inputs f ∷ later) now a b before after put =
    refused_steps now (fault.Keeper f) a b inputs (flat_map inputs_in later) (places later now put.0 b put.1 after put.3) (flat_map results_in later)
    (steps_from now (flat_map inputs_in later) (places later now put.0 b put.1 after put.3) (map turned_of (flat_map results_in later)) a put.0 b (inl put.2.3) (parts_steps later now put.0 b put.1 after put.3))
parts_steps (gone inputs ∷ later) now a b before after put =
    refused_steps now fault.Down a b inputs (flat_map inputs_in later) (places later now put.0 b put.1 after put.3) (flat_map results_in later)
    (steps_from now (flat_map inputs_in later) (places later now put.0 b put.1 after put.3) (map turned_of (flat_map results_in later)) a put.0 b (inr put.2.2) (parts_steps later now put.0 b put.1 after put.3))

-- ---- the messages of one seat

all_on : {X : Type 0} (P Q : X → Type 0) → ((x : X) → P x → Q x) → (xs : List X) → AllByRecursion P xs → AllByRecursion Q xs
all_on P Q f [] all = tt
all_on P Q f (x ∷ xs) all = (f x all.0, all_on P Q f xs all.1)

-- requests of other seats are still taken
still_all : (seat : SeatState) (s t : SumState) → ((away : SeatState) (x : Up) → same_session away.session seat.session ≡ false → IsTakenBy away x s → IsTakenBy away x t) → (rs : List RequestState) → AllApart seat rs → AllTaken s rs → AllTaken t rs
still_all seat s t on [] apart all = tt
still_all seat s t on (r ∷ rs) apart all = (all_on (λ m. IsTakenBy r.seat m s) (λ m. IsTakenBy r.seat m t) (λ m. on r.seat m apart.0) r.messages all.0, still_all seat s t on rs apart.1 all.1)

-- what comes of the messages of a seat, while those of these requests wait behind them
pub record Heard (now : ℕ) (seat : SeatState) (ms : List Up) (rest : List Input) (rs : List RequestState) (ps : List (Option SumState)) (ts : List Turned) (b : Option SumState) : Type 0 where
  pub after : SeatState
  pub heard : AreHeard now seat ms (take (length ms) ps) (take (length ms) ts) after
  pub is : after ≡ seat_from seat (take (length ms) ts)
  pub many : length ms ≤ length ts
  pub fits : FitIn seat.q (take (length ms) ts)
  pub middle : Option SumState
  pub steps : Steps now rest (drop (length ms) ps) (drop (length ms) ts) middle b
  pub summed : Runs (λ s. IsSum s.sum) middle
  pub taken : Runs (λ s. AllTaken s rs) middle

module _ (now : ℕ) (b : Option SumState) (rest : List Input) (rs : List RequestState) where
  -- one that is refused, before the others
  heard_refused : (seat : SeatState) (m : Up) (ms : List Up) (p : Option SumState) (ps : List (Option SumState)) (f : EngineFault) (ts : List Turned) → Runs (IsTakenBy seat m) p → Heard now seat ms rest rs ps ts b → Heard now seat (m ∷ ms) rest rs (p ∷ ps) (Err f ∷ ts) b
  heard_refused seat m ms p ps f ts taken h = record {
    after = h.after;
    heard = (taken, h.heard);
    is = h.is;
    many = let many = h.many in omega (arith, many);
    fits = h.fits;
    middle = h.middle;
    steps = h.steps;
    summed = h.summed;
    taken = h.taken;
  }

  -- one that is done
  heard_done : (seat : SeatState) (m : Up) (ms : List Up) (s : SumState) (ps : List (Option SumState)) (told : Bool) (ts : List Turned) → IsTakenBy seat m s → one_if told ≡ accepted_of (Some s) m now → (told ≡ true → seat.q < greatest_number)
      → Heard now (more_by seat (accepted_of (Some s) m now)) ms rest rs ps ts b → Heard now seat (m ∷ ms) rest rs (Some s ∷ ps) (Ok told ∷ ts) b
  heard_done seat m ms s ps told ts taken n fits h = record {
    after = h.after;
    heard = (taken, h.heard);
    is = h.is ∙ ap (λ j. seat_from (more_by seat j) (take (length ms) ts)) (sym n);
    many = let many = h.many in omega (arith, many);
    fits = (fits, subst (λ j. FitIn (seat.q + j) (take (length ms) ts)) (sym n) h.fits);
    middle = h.middle;
    steps = h.steps;
    summed = h.summed;
    taken = h.taken;
  }

  first_taken : (seat : SeatState) (m : Up) (ms : List Up) (o : Option SumState) → Runs (λ s. TakesAll s seat (m ∷ ms)) o → Runs (IsTakenBy seat m) o
  first_taken seat m ms None h = tt
  first_taken seat m ms (Some s) h = h.0

  rest_taken : (seat : SeatState) (m : Up) (ms : List Up) (o : Option SumState) → Runs (λ s. TakesAll s seat (m ∷ ms)) o → Runs (λ s. TakesAll s seat ms) o
  rest_taken seat m ms None h = tt
  rest_taken seat m ms (Some s) h = h.1

  pub heard_all : (ms : List Up) (seat : SeatState) (ps : List (Option SumState)) (ts : List Turned) (a : Option SumState) → Steps now (map input.Up ms ++ rest) ps ts a b → Runs (λ s. IsSum s.sum) a → Runs (λ s. TakesAll s seat ms) a
      → Runs (λ s. AllTaken s rs) a → AllApart seat rs → Heard now seat ms rest rs ps ts b
  heard_all [] seat ps ts a steps summed all later apart =
      record { after = seat; heard = refl; is = refl; many = omega arith; fits = tt; middle = a; steps = steps; summed = summed; taken = later }
  heard_all (m ∷ ms) seat [] ts a steps summed all later apart = absurd steps
  heard_all (m ∷ ms) seat (p ∷ ps) [] a steps summed all later apart = absurd steps
  heard_all (m ∷ ms) seat (p ∷ ps) (Err f ∷ ts) a steps summed all later apart =
      let stays : Stays a p = steps.0 in
      let here : Runs (λ s. TakesAll s seat (m ∷ ms)) p = stays_on (λ s. TakesAll s seat (m ∷ ms)) a p stays all in
      heard_refused seat m ms p ps f ts (first_taken seat m ms p here)
      (heard_all ms seat ps ts steps.1 steps.3 (subst (Runs (λ s. IsSum s.sum)) (sym steps.2) (stays_on (λ s. IsSum s.sum) a p stays summed))
      (subst (Runs (λ s. TakesAll s seat ms)) (sym steps.2) (rest_taken seat m ms p here)) (subst (Runs (λ s. AllTaken s rs)) (sym steps.2) (stays_on (λ s. AllTaken s rs) a p stays later)) apart)
  heard_all (m ∷ ms) seat (None ∷ ps) (Ok told ∷ ts) a steps summed all later apart = absurd steps.2.1
  heard_all (m ∷ ms) seat (Some s ∷ ps) (Ok told ∷ ts) a steps summed all later apart =
      let stays : Stays a (Some s) = steps.0 in
      let here : TakesAll s seat (m ∷ ms) = stays_on (λ x. TakesAll x seat (m ∷ ms)) a (Some s) stays all in
      let k = stepped s (stays_on (λ x. IsSum x.sum) a (Some s) stays summed) seat m here.0 now steps.1 steps.2.0 steps.2.1 in
      let n : ℕ = accepted_of (Some s) m now in
      let is : told ≡ is_told steps.2.0 = steps.2.2 in
      heard_done seat m ms s ps told ts here.0 (ap one_if is ∙ k.told) (λ t. k.fits (sym is ∙ t))
      (heard_all ms (more_by seat n) ps ts steps.1 steps.3 (subst (Runs (λ x. IsSum x.sum)) (sym k.is) k.summed_on)
      (subst (Runs (λ x. TakesAll x (more_by seat n) ms)) (sym k.is) (all_on (λ x. IsTakenBy seat x s) (λ x. IsTakenBy (more_by seat n) x k.server) k.own ms here.1))
      (subst (Runs (λ x. AllTaken x rs)) (sym k.is) (still_all seat s k.server k.other rs apart (stays_on (λ x. AllTaken x rs) a (Some s) stays later))) apart)

-- ---- the messages of all seats

-- what comes of requests whose turns began at these places
pub record Carried (now : ℕ) (rs : List RequestState) (ps : List (Option SumState)) (ts : List Turned) : Type 0 where
  pub answered : (number : ℕ) → AreAnswered now number rs ps ts (answers_of number (waiting_of rs) ts)
  pub fits : AllFit (waiting_of rs) ts

first_of : (r : RequestState) (rs : List RequestState) (o : Option SumState) → Runs (λ s. AllTaken s (r ∷ rs)) o → Runs (λ s. TakesAll s r.seat r.messages) o
first_of r rs None h = tt
first_of r rs (Some s) h = h.0

rest_of : (r : RequestState) (rs : List RequestState) (o : Option SumState) → Runs (λ s. AllTaken s (r ∷ rs)) o → Runs (λ s. AllTaken s rs) o
rest_of r rs None h = tt
rest_of r rs (Some s) h = h.1

pub carried : (now : ℕ) (b : Option SumState) (rs : List RequestState) (ps : List (Option SumState)) (ts : List Turned) (a : Option SumState) → Steps now (inputs_of rs) ps ts a b → Runs (λ s. IsSum s.sum) a → Runs (λ s. AllTaken s rs) a → AreApart rs
    → Carried now rs ps ts
carried now b [] [] [] a steps summed all apart = record { answered = λ number. tt; fits = refl }
carried now b [] [] (t ∷ ts) a steps summed all apart = absurd steps
carried now b [] (p ∷ ps) ts a steps summed all apart = absurd steps
carried now b (r ∷ rs) ps ts a steps summed all apart =
    let n : ℕ = length r.messages in
    let parted : Steps now (map input.Up r.messages ++ inputs_of rs) ps ts a b = subst (λ is. Steps now is ps ts a b) (map-append input.Up r.messages (messages_of rs)) steps in
    let h = heard_all now b (inputs_of rs) rs r.messages r.seat ps ts a parted summed (first_of r rs a all) (rest_of r rs a all) apart.0 in
    let on = carried now b rs (drop n ps) (drop n ts) h.middle h.steps h.summed h.taken apart.1 in
    record {
      answered = λ number. (
        record { seat = h.after; heard = h.heard; said = refl; seat_is = ap (noted number (map (outcome_of number) (take n ts))) (sym h.is) },
        on.answered number,
      );
      fits = (h.many, h.fits, on.fits);
    }

-- ---- how many are accepted

-- each turn answers something where it accepts its message
pub all_told : (now : ℕ) (b : Option SumState) (ms : List Up) (ps : List (Option SumState)) (ts : List Turned) (a : Option SumState) → Steps now (map input.Up ms) ps ts a b → Runs (λ s. IsSum s.sum) a → AllByRecursion (λ m. is_hello m ≡ false) ms → told_in ts ≡ accepted_all now ms ps ts
all_told now b [] [] [] a steps summed plain = refl
all_told now b [] [] (t ∷ ts) a steps summed plain = absurd steps
all_told now b [] (p ∷ ps) ts a steps summed plain = absurd steps
all_told now b (m ∷ ms) [] ts a steps summed plain = absurd steps
all_told now b (m ∷ ms) (p ∷ ps) [] a steps summed plain = absurd steps
all_told now b (m ∷ ms) (p ∷ ps) (Err f ∷ ts) a steps summed plain =
    all_told now b ms ps ts steps.1 steps.3 (subst (Runs (λ s. IsSum s.sum)) (sym steps.2) (stays_on (λ s. IsSum s.sum) a p steps.0 summed)) plain.1
all_told now b (m ∷ ms) (None ∷ ps) (Ok told ∷ ts) a steps summed plain = absurd steps.2.1
all_told now b (m ∷ ms) (Some s ∷ ps) (Ok told ∷ ts) a steps summed plain =
    by (turn_by s (input.Up m) now) refl steps.2.1 (λ on. all_told now b ms ps ts steps.1 steps.3 on plain.1) where
      here : IsSum s.sum
      here = stays_on (λ x. IsSum x.sum) a (Some s) steps.0 summed

      is : told ≡ is_told steps.2.0
      is = steps.2.2

      joined : one_if told ≡ accepted_of (Some s) m now → told_in ts ≡ accepted_all now ms ps ts → one_if told + told_in ts ≡ accepted_of (Some s) m now + accepted_all now ms ps ts
      joined first more = λ j. first j + more j

      by : (d : Decision) → turn_by s (input.Up m) now ≡ d → IsDone d s (moment_by s.sum now) (input.Up m) steps.1 steps.2.0 → (Runs (λ x. IsSum x.sum) steps.1 → told_in ts ≡ accepted_all now ms ps ts)
          → one_if told + told_in ts ≡ accepted_of (Some s) m now + accepted_all now ms ps ts
      by (refused f) k h rest = absurd h
      by quiet k h rest = joined (ap one_if is ∙ ap (λ l. one_if (is_told l)) h.1 ∙ sym (ap accepted_by k)) (rest (subst (Runs (λ x. IsSum x.sum)) (sym h.0) here))
      by (makes es) k h rest =
          joined (ap one_if is ∙ ap (λ l. one_if (is_told l)) h.1 ∙ ap one_if (made_told s here m plain.0 now es k) ∙ sym (ap accepted_by k))
          (rest (subst (Runs (λ x. IsSum x.sum)) (sym h.0) (after_summed s here m plain.0 now es k)))

head_is : (y z : Input) (ys zs : List Input) → y ∷ ys ≡ z ∷ zs → z ≡ y
head_is y z ys zs e = cc e

tail_is : (y z : Input) (ys zs : List Input) → y ∷ ys ≡ z ∷ zs → ys ≡ zs
tail_is y z ys zs e = cc e

-- a turn that isn't done leaves the server and the history, or no server
after_refusal : (P : History → SumState → Type 0) (a b : Option SumState) (i : Input) (now : ℕ) (f : EngineFault) (history : History) → IsTurnRefused a i now b f → Runs (P history) a → Runs (P (history_left history a i now f)) b
after_refusal P a b i now (fault.Refused f) history is h = subst (Runs (P history)) (sym is.0) h
after_refusal P a b i now fault.Memory history is h = subst (Runs (P history)) (sym is.0) h
after_refusal P a b i now (fault.Keeper f) history is h = subst (Runs (P history)) (sym is.0) h
after_refusal P a b i now fault.Down history is h = subst (Runs (P (history_left history a i now fault.Down))) (sym is.0) tt

-- a server that did a turn runs
done_runs : (s : SumState) (i : Input) (now : ℕ) (b : Option SumState) (outs : List Down) → IsTurnDone (Some s) i now b outs → (t : SumState) × (b ≡ Some t)
done_runs s i now b outs done = by (turn_by s i now) done where
  by : (d : Decision) → IsDone d s (moment_by s.sum now) i b outs → (t : SumState) × (b ≡ Some t)
  by (refused f) h = absurd h
  by quiet h = (after_hearing s (moment_by s.sum now) i, h.0)
  by (makes es) h = (after_commit s (moment_by s.sum now) es, h.0)

-- this many were accepted since the start then, which are few
pub record AcceptedThen (start count : ℕ) (end : History) (b : Option SumState) : Type 0 where
  pub few : count < 2 ^ 53
  pub accepted : Runs (Accepted start count end) b

module _ (now start : ℕ) where
  -- those that are refused together count nothing
  refused_count : (f : EngineFault) (a b : Option SumState) (count : ℕ) (end : History) (inputs more : List Input) (ms : List Up) (ps : List (Option SumState)) (results : List TurnResult) → map input.Up ms ≡ inputs ++ more
      → ((xs : List Up) → map input.Up xs ≡ more → AcceptedThen start (count + accepted_all now xs ps (map turned_of results)) end b)
      → AcceptedThen start (count + accepted_all now ms (map (λ _. a) inputs ++ ps) (map turned_of (all_refused f inputs ++ results))) end b
  refused_count f a b count end [] more ms ps results e on = on ms e
  refused_count f a b count end (i ∷ is) more [] ps results e on = absurd (cc e)
  refused_count f a b count end (i ∷ is) more (m ∷ ms) ps results e on = refused_count f a b count end is more ms ps results (tail_is (input.Up m) i (map input.Up ms) (is ++ more) e) on

  pub accepted_parts : (parts : List TurnPart) (ms : List Up) (count : ℕ) (history : History) (a b : Option SumState) (before after : Lines) (put : ArePartsPut parts now a b before after) → map input.Up ms ≡ flat_map inputs_in parts
      → Runs (Accepted start count history) a → count < 2 ^ 53
      → AcceptedThen start (count + accepted_all now ms (places parts now a b before after put) (map turned_of (flat_map results_in parts))) (history_parts history parts now a b before after put) b
  accepted_parts [] [] count history a b before after put e h few =
      let same : count ≡ count + 0 = omega arith in
      record { few = subst (λ n. n < 2 ^ 53) same few; accepted = subst (Runs (Accepted start (count + 0) history)) (sym put.0) (subst (λ n. Runs (Accepted start n history) a) same h) }
  accepted_parts [] (m ∷ ms) count history a b before after put e h few = absurd (cc e)
  accepted_parts (alone i r ∷ later) [] count history a b before after put e h few = absurd (cc e)
  accepted_parts (alone i (Ok outs) ∷ later) (m ∷ ms) count history None b before after put e h few = absurd put.2.0
  accepted_parts (alone i (Ok outs) ∷ later) (m ∷ ms) count history (Some s) b before after put e h few =
      let is : i ≡ input.Up m = head_is (input.Up m) i (map input.Up ms) (flat_map inputs_in later) e in
      let n : ℕ = accepted_of (Some s) m now in
      let done : IsTurnDone (Some s) (input.Up m) now put.0 outs = subst (λ j. IsTurnDone (Some s) j now put.0 outs) is put.2.0 in
      let acc : Runs (Accepted start (count + n) (history_turned history (Some s) i now)) put.0 =
      subst (λ j. Runs (Accepted start (count + n) (history_turned history (Some s) j now)) put.0) (sym is) (said_accepted start count history (Some s) put.0 m now outs done h) in
      let t = done_runs s (input.Up m) now put.0 outs done in
      let few_now : count + n < 2 ^ 53 = few_accepted start (count + n) (history_turned history (Some s) i now) t.0 (subst (Runs (Accepted start (count + n) (history_turned history (Some s) i now))) t.1 acc) in
      let on = accepted_parts later ms (count + n) (history_turned history (Some s) i now) put.0 b put.1 after put.3 (tail_is (input.Up m) i (map input.Up ms) (flat_map inputs_in later) e) acc few_now in
      let more : ℕ = accepted_all now ms (places later now put.0 b put.1 after put.3) (map turned_of (flat_map results_in later)) in
      let sum : count + n + more ≡ count + (n + more) = omega arith in
      subst (λ j. AcceptedThen start j (history_parts history (alone i (Ok outs) ∷ later) now (Some s) b before after put) b) sum on
  accepted_parts (alone i (Err f) ∷ later) (m ∷ ms) count history a b before after put e h few =
      accepted_parts later ms count (history_left history a i now f) put.0 b put.1 after put.3 (tail_is (input.Up m) i (map input.Up ms) (flat_map inputs_in later) e)
      (after_refusal (λ l s. Accepted start count l s) a put.0 i now f history put.2.0 h) few
  accepted_parts (unkept inputs f ∷ later) ms count history a b before after put e h few =
      refused_count (fault.Keeper f) a b count (history_parts history (unkept inputs f ∷ later) now a b before after put) inputs (flat_map inputs_in later) ms (places later now put.0 b put.1 after put.3) (flat_map results_in later) e
      (λ xs d. accepted_parts later xs count history put.0 b put.1 after put.3 d (subst (Runs (Accepted start count history)) (sym put.2.3) h) few)
  accepted_parts (gone inputs ∷ later) ms count history a b before after put e h few =
      refused_count fault.Down a b count (history_parts history (gone inputs ∷ later) now a b before after put) inputs (flat_map inputs_in later) ms (places later now put.0 b put.1 after put.3) (flat_map results_in later) e
      (λ xs d. accepted_parts later xs count (with_batches history put.2.0) put.0 b put.1 after put.3 d (subst (Runs (Accepted start count (with_batches history put.2.0))) (sym put.2.2) tt) few)
