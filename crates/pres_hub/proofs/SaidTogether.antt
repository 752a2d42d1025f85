-- Requests that were said together: what holds of the core after them.
use Rattle.std.proofs.Common.{refl, sym, ◌∙◌, ap, subst, ◌≡◌, ◌≤◌, ◌<◌, ◌+◌, ◌^◌, ℕ, List, [], ◌∷◌, ◌++◌, map, length, slice_index_or, zero, suc, Bool, true, false, true≢false, Option, Some, None, is_some, arith}
use Rattle.std.specs.List.{flat_map, All, AllByRecursion}
use Rattle.pres_wire.specs.declared.up.Up.{Up}
use Rattle.pres_wire.specs.declared.up.Up.TheVariants as up
use Rattle.pres_server.specs.declared.input.Input.{Input}
use Rattle.pres_server.specs.declared.input.Input.TheVariants as input
use Rattle.pres_server.specs.SumStates.{SumState}
use Rattle.pres_server.specs.Histories.{IsSum, History}
use Rattle.pres_ring.specs.AcceptedMessages as messages
use Rattle.pres_ring.specs.Lines.{Lines}
use Rattle.pres_keeper.specs.Engines.{EngineState, Runs}
use Rattle.pres_keeper.specs.EngineGroups.{inputs_in}
use Rattle.pres_dispatch.specs.Dispatches.{DispatcherState, Histories, is_hello, Stands, AreEnded, history_ended, histories_ended}
use Rattle.pres_dispatch.specs.Groups.{Turned, AreTurned, history_all, histories_all, TurnsStand}
use Rattle.pres_dispatch.proofs.Growing.{Adds, both_added, adds_twice, parts_adds, ended_adds}
use Rattle.pres_accounting.specs.Seats.{SeatState}
use Rattle.pres_accounting.specs.declared.tally.Counts.{Counts}
use Rattle.pres_hub.specs.Cores.{CoreState, AreCoreHistories, GoesOn, dispatched}
use Rattle.pres_hub.specs.CoreCalls.{IsTaken}
use Rattle.pres_hub.specs.CoreGroups.{RequestState, AnswerState, messages_of, inputs_of, places_in, AreAnswered, accepted_all, AreSaidTogether, histories_together, together, AreSaid}
use Rattle.pres_hub.specs.InternalGroups.{WaitingState, waiting_of, FitsIn, FitTogether, answers_of, told_in, AllFit}
use Rattle.pres_hub.proofs.Counted.{Accepted, ended_accepted}
use Rattle.pres_hub.proofs.CoreHistories.{SomeCoreHistories, stands_of, accepted_of_histories, core_histories, from_some, few_runs, sums_of}
use Rattle.pres_hub.proofs.Together.{TakesAll, AllTaken, Carried, carried, Steps, parts_steps, all_told, AcceptedThen, accepted_parts}
use Rattle.pres_hub.proofs.Gathered.{one_part}

-- ---- what the requests say

plain_up : (m : Up) → messages.is_hello m ≡ false → is_hello (input.Up m) ≡ false
plain_up (up.Hello s) h = absurd (true≢false h)
plain_up (up.Op s q n op) h = refl
plain_up (up.Bye s q) h = refl
plain_up (up.Left s q op) h = refl
plain_up (up.Cancel s q p) h = refl
plain_up (up.Beat s) h = refl
plain_up (up.On s q p) h = refl
plain_up (up.Off s q p) h = refl

all_both : {X : Type 0} (P : X → Type 0) (xs ys : List X) → AllByRecursion P xs → AllByRecursion P ys → AllByRecursion P (xs ++ ys)
all_both P [] ys a b = b
all_both P (x ∷ xs) ys a b = (a.0, all_both P xs ys a.1 b)

module _ {A : Type 0} (run : EngineState A) where
  plain_of : (seat : SeatState) (ms : List Up) → AllByRecursion (λ m. IsTaken seat m run.server run.number) ms → AllByRecursion (λ m. messages.is_hello m ≡ false) ms
  plain_of seat [] all = tt
  plain_of seat (m ∷ ms) all = (all.0.own.0, plain_of seat ms all.1)

  pub plain_messages : (rs : List RequestState) → AllByRecursion (FitsIn run) rs → AllByRecursion (λ m. messages.is_hello m ≡ false) (messages_of rs)
  plain_messages [] all = tt
  plain_messages (r ∷ rs) all = all_both (λ m. messages.is_hello m ≡ false) r.messages (messages_of rs) (plain_of r.seat r.messages all.0.taken) (plain_messages rs all.1)

  plain_all : (ms : List Up) → AllByRecursion (λ m. messages.is_hello m ≡ false) ms → AllByRecursion (λ i. is_hello i ≡ false) (map input.Up ms)
  plain_all [] all = tt
  plain_all (m ∷ ms) all = (plain_up m all.0, plain_all ms all.1)

  at_each : (xs : List Input) → AllByRecursion (λ i. is_hello i ≡ false) xs → All (λ i. is_hello i ≡ false) xs
  at_each [] all k d h = absurd (omega (arith, h))
  at_each (x ∷ xs) all k d h = elim k as (λ j. j < length (x ∷ xs) → is_hello (slice_index_or (x ∷ xs) j d) ≡ false) [
    | zero ↦ λ l. all.0
    | suc j ↦ λ l. at_each xs all.1 j d (omega (arith, l))
  ] h

  pub plain_inputs : (rs : List RequestState) (inputs : List Input) → inputs ≡ inputs_of rs → FitTogether run rs → All (λ i. is_hello i ≡ false) inputs
  plain_inputs rs inputs is fit = subst (All (λ i. is_hello i ≡ false)) (sym is) (at_each (inputs_of rs) (plain_all (messages_of rs) (plain_messages rs fit.each)))

  -- a server takes the first message of a request
  one_of : (r : RequestState) → FitsIn run r → (r.seat.seen ≤ run.number) × (is_some run.server ≡ true)
  one_of r fits = by r.messages fits.taken fits.some where
    by : (ms : List Up) → AllByRecursion (λ m. IsTaken r.seat m run.server run.number) ms → 0 < length ms → (r.seat.seen ≤ run.number) × (is_some run.server ≡ true)
    by [] all some = absurd (omega (arith, some))
    by (m ∷ ms) all some = (all.0.fresh, all.0.runs)

  pub all_fresh : (rs : List RequestState) (waiting : List WaitingState) (number : ℕ) → waiting ≡ waiting_of rs → FitTogether run rs → run.number ≤ number → AllByRecursion (λ (w : WaitingState). w.seat.seen ≤ number) waiting
  all_fresh rs waiting number is fit rises = subst (AllByRecursion (λ (w : WaitingState). w.seat.seen ≤ number)) (sym is) (each rs fit.each) where
    each : (xs : List RequestState) → AllByRecursion (FitsIn run) xs → AllByRecursion (λ (w : WaitingState). w.seat.seen ≤ number) (waiting_of xs)
    each [] all = tt
    each (x ∷ xs) all = let fresh : x.seat.seen ≤ run.number = (one_of x all.0).0 in (omega (arith, fresh, rises), each xs all.1)

  takes_of : (s : SumState) (seat : SeatState) (ms : List Up) → run.number ≡ s.sum.number → AllByRecursion (λ m. IsTaken seat m (Some s) run.number) ms → TakesAll s seat ms
  takes_of s seat [] c all = tt
  takes_of s seat (m ∷ ms) c all = (record { runs = refl; own = all.0.own; fresh = subst (λ n. seat.seen ≤ n) c all.0.fresh; abreast = all.0.abreast }, takes_of s seat ms c all.1)

  -- each message is taken, by this server
  abbrev Each : Option SumState → List RequestState → Type 0
  Each o xs = AllByRecursion (λ r. AllByRecursion (λ m. IsTaken r.seat m o run.number) r.messages) xs

  each_taken : (xs : List RequestState) → AllByRecursion (FitsIn run) xs → Each run.server xs
  each_taken [] all = tt
  each_taken (x ∷ xs) all = (all.0.taken, each_taken xs all.1)

  all_taken : (s : SumState) → run.number ≡ s.sum.number → (xs : List RequestState) → Each (Some s) xs → AllTaken s xs
  all_taken s c [] all = tt
  all_taken s c (x ∷ xs) all = (takes_of s x.seat x.messages c all.0, all_taken s c xs all.1)

  taken_by : (rs : List RequestState) → AllByRecursion (FitsIn run) rs → Runs (λ s. run.number ≡ s.sum.number) run.server → Runs (λ s. AllTaken s rs) run.server
  taken_by rs all counted = by run.server counted (each_taken rs all) where
    by : (o : Option SumState) → Runs (λ s. run.number ≡ s.sum.number) o → Each o rs → Runs (λ s. AllTaken s rs) o
    by None c each = tt
    by (Some s) c each = all_taken s c rs each

  some_runs : (rs : List RequestState) (waiting : List WaitingState) → waiting ≡ waiting_of rs → 0 < length waiting → FitTogether run rs → is_some run.server ≡ true
  some_runs [] waiting is some fit = let none = ap length is in absurd (omega (arith, none, some))
  some_runs (x ∷ xs) waiting is some fit = (one_of x fit.each.0).1

on_some : (P : Type 0) (o : Option SumState) → is_some o ≡ true → Runs (λ _. P) o → P
on_some P None is h = absurd (true≢false (sym is))
on_some P (Some s) is h = h

-- ---- the turns

module _ {A : Type 0} (works : A → Type 0) (keeps : A → History → Type 0) (outlasts : A → History → Type 0) (old : CoreState A) (some : SomeCoreHistories works keeps old) (counted : Runs (λ s. old.run.number ≡ s.sum.number) old.run.server)
    (rs : List RequestState) (waiting : List WaitingState) (inputs : List Input) (waiting_are : waiting ≡ waiting_of rs) (inputs_are : inputs ≡ inputs_of rs)
    (fit : FitTogether old.run rs) (many : 0 < length waiting) (now : ℕ) (turned : List Turned) (mid : DispatcherState A) where
  few : old.counts.accepted < 2 ^ 53
  few = on_some (old.counts.accepted < 2 ^ 53) old.run.server (some_runs old.run rs waiting waiting_are many fit) (few_runs works keeps old some)

  abbrev AllTurned : Type 0
  AllTurned = AreTurned (inputs_of rs) turned now old.run.server mid.run.server old.lines mid.lines

  steps_by : (all : AllTurned) → Steps now (inputs_of rs) (places_in all) turned old.run.server mid.run.server
  steps_by all =
      subst (λ is. Steps now is (places_in all) turned old.run.server mid.run.server) (sym all.in_order)
      (subst (λ ts. Steps now (flat_map inputs_in all.parts) (places_in all) ts old.run.server mid.run.server) (sym all.each) (parts_steps all.parts now old.run.server mid.run.server old.lines mid.lines all.put))

  carried_by : (all : AllTurned) → Carried now rs (places_in all) turned
  carried_by all =
      carried now mid.run.server rs (places_in all) turned old.run.server (steps_by all) (sums_of works keeps old some) (taken_by old.run rs fit.each counted) fit.apart

  told_by : (all : AllTurned) → told_in turned ≡ accepted_all now (messages_of rs) (places_in all) turned
  told_by all = all_told now mid.run.server (messages_of rs) (places_in all) turned old.run.server (steps_by all) (sums_of works keeps old some) (plain_messages old.run rs fit.each)

  accepted_by : (all : AllTurned) (h : Histories) → AreCoreHistories works keeps h old → AcceptedThen old.start (old.counts.accepted + told_in turned) (history_all h.since_start all) mid.run.server
  accepted_by all h k =
      subst (λ n. AcceptedThen old.start (old.counts.accepted + n) (history_all h.since_start all) mid.run.server) (sym (told_by all))
      (subst (λ ts. AcceptedThen old.start (old.counts.accepted + accepted_all now (messages_of rs) (places_in all) ts) (history_all h.since_start all) mid.run.server) (sym all.each)
      (accepted_parts now old.start all.parts (messages_of rs) old.counts.accepted h.since_start old.run.server mid.run.server old.lines mid.lines all.put all.in_order (accepted_of_histories works keeps h old k) few))

  module _ (over : AreTurned inputs turned now old.run.server mid.run.server old.lines mid.lines) where
    all : AllTurned
    all = subst (λ is. AreTurned is turned now old.run.server mid.run.server old.lines mid.lines) inputs_are over

    pub few_told : old.counts.accepted + told_in turned < 2 ^ 53
    few_told = from_some works keeps old (old.counts.accepted + told_in turned < 2 ^ 53) some (λ h k. (accepted_by all h k).few)

    pub told_fits : AllFit waiting turned
    told_fits = subst (λ ws. AllFit ws turned) (sym waiting_are) (carried_by all).fits

    module _ (new : CoreState A) (start : new.start ≡ old.start) (counts : new.counts ≡ record { accepted = old.counts.accepted + told_in turned; seats = old.counts.seats; out = old.counts.out }) (number : ℕ) (number_is : number ≡ new.run.number)
        (stand : (h : Histories) → Stands works keeps h (dispatched old) → TurnsStand works keeps outlasts inputs now (dispatched old) mid h turned)
        (ended : AreEnded now mid.run.server new.run.server mid.lines new.lines)
        (goes : (h : Histories) → Stands works keeps h mid → (e : AreEnded now mid.run.server new.run.server mid.lines new.lines) × Stands works keeps (histories_ended h e) (dispatched new)) where
      abbrev given : List AnswerState
      given = answers_of number waiting turned

      given_is : answers_of new.run.number (waiting_of rs) turned ≡ given
      given_is = (λ i. answers_of (sym number_is i) (sym waiting_are i) turned)

      abbrev said_with : (t : AllTurned) → AreEnded now mid.run.server new.run.server mid.lines new.lines → AreSaidTogether rs given now old new
      said_with t e = record {
        middle = mid.run.server;
        lines = mid.lines;
        turned = turned;
        all = t;
        ended = e;
        each = subst (AreAnswered now new.run.number rs (places_in t) turned) given_is ((carried_by t).answered new.run.number);
        counts_are = counts ∙ ap (λ n. record { accepted = old.counts.accepted + n; seats = old.counts.seats; out = old.counts.out }) (told_by t);
        start_is = start;
      }

      histories_said : (h : Histories) → AreCoreHistories works keeps h old → (said : AreSaidTogether rs given now old new) × AreCoreHistories works keeps (histories_together h said) new
      histories_said h k =
          let t = subst (λ is. TurnsStand works keeps outlasts is now (dispatched old) mid h turned) inputs_are (stand h (stands_of works keeps h old k)) in
          let l : Histories = histories_all h t.all in
          let e = goes l t.stands in
          let count : ℕ = old.counts.accepted + told_in turned in
          let acc = ended_accepted old.start count now l.since_start mid.run.server new.run.server mid.lines new.lines e.0 (accepted_by t.all h k).accepted in
          let end : History = history_ended l.since_start e.0 in (
            said_with t.all e.0,
            core_histories works keeps (histories_ended l e.0) new e.1
                (subst (λ n. Runs (Accepted n new.counts.accepted end) new.run.server) (sym start) (subst (λ n. Runs (Accepted old.start n end) new.run.server) (sym (ap (λ (c : Counts). c.accepted) counts)) acc)),
          )

      pub said_together : AreSaid works keeps rs given now old new
      said_together = one_part works keeps (together rs given) now old new (said_with all ended, histories_said)

      pub goes_together : GoesOn works keeps old new
      goes_together h k =
          let s = histories_said h k in
          let change : History → History = λ history. history_ended (history_all history s.0.all) s.0.ended in
          let adds : Adds change =
          adds_twice (λ history. history_all history s.0.all) (λ history. history_ended history s.0.ended) (parts_adds s.0.all.parts now old.run.server s.0.middle old.lines s.0.lines s.0.all.put)
          (ended_adds now s.0.middle new.run.server s.0.lines new.lines s.0.ended) in
          (adds.0, subst (λ x. AreCoreHistories works keeps x new) (both_added change h adds) s.1)
