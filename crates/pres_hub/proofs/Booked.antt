-- What seats are answered, one after another.
use Rattle.std.proofs.Common.{refl, sym, ◌∙◌, ap, subst, ◌≡◌, ◌<◌, ◌≤◌, ◌+◌, ◌-◌, ◌^◌, ℕ, zero, suc, List, [], ◌∷◌, ◌++◌, append_assoc, append-nil, take, drop, length, replicate, Bool, true, false, ◌||◌, map, Result, Ok, Err, arith}
use Rattle.std.specs.Prelude.{IfOk, IfErr, OnErr}
use Rattle.std.specs.List.{AllByRecursion, list_any}
use Rattle.pres_ids.specs.Numbers.{greatest_number}
use Rattle.pres_wire.specs.declared.up.Up.{Up}
use Rattle.pres_faults.specs.declared.hub_fault.HubFault.TheVariants.{Memory}
use Rattle.pres_accounting.specs.Seats.{SeatState}
use Rattle.pres_accounting.specs.declared.tally.Counts.{Counts}
use Rattle.pres_server.specs.declared.input.Input.TheVariants as input
use Rattle.pres_server.specs.Histories.{History}
use Rattle.pres_dispatch.specs.Groups.{Turned}
use Rattle.pres_hub.specs.Cores.{CoreState}
use Rattle.pres_hub.specs.CoreTurns.{CarriesOn, StandsStill}
use Rattle.pres_hub.specs.CoreCalls.{IsSayAnswered, IsSayRefused}
use Rattle.pres_hub.specs.CoreGroups.{Outcome, RequestState, AnswerState, outcome_of, unheard_answer, IsSaidOn, AreSaidAlone}
use Rattle.pres_hub.specs.InternalGroups.{WaitingState, one_if, told_in, seat_by, seat_from, answer_of, answers_of, FitIn, AllFit, unheard_of, waiting_of}

-- the counts with this many accepted messages more
abbrev pub with_accepted : Counts → ℕ → Counts
with_accepted counts more = record { accepted = counts.accepted + more; seats = counts.seats; out = counts.out }

pub none_any : {X : Type 0} (p : X → Bool) (xs : List X) → list_any p xs ≡ false → AllByRecursion (λ x. p x ≡ false) xs
none_any p [] h = tt
none_any p (x ∷ xs) h = by (p x) refl h (none_any p xs) where
  by : (b : Bool) → p x ≡ b → (b || list_any p xs) ≡ false → (list_any p xs ≡ false → AllByRecursion (λ y. p y ≡ false) xs) → AllByRecursion (λ y. p y ≡ false) (x ∷ xs)
  by true k e rest = absurd (cc e)
  by false k e rest = (k, rest e)

-- ---- refused for memory

const_all : {X Y : Type 0} (y : Y) (xs : List X) → replicate (length xs) y ≡ map (λ _. y) xs
const_all y [] = refl
const_all y (x ∷ xs) = ap (λ l. y ∷ l) (const_all y xs)

pub unheard_all : (rs : List RequestState) → map unheard_of (waiting_of rs) ≡ map unheard_answer rs
unheard_all [] = refl
unheard_all (r ∷ rs) = λ i. (record { seat = r.seat; said = const_all {Y = Outcome} (Err Memory) r.messages i }) ∷ unheard_all rs i

-- ---- the messages of a seat, by the outcomes of their turns

pub take_less : {X : Type 0} (n : ℕ) (x : X) (xs : List X) → 0 < n → take n (x ∷ xs) ≡ x ∷ take (n - 1) xs
take_less zero x xs h = absurd (omega (arith, h))
take_less (suc n) x xs h = let less : n ≡ suc n - 1 = omega arith in ap (λ k. x ∷ take k xs) less

pub drop_less : {X : Type 0} (n : ℕ) (x : X) (xs : List X) → 0 < n → drop n (x ∷ xs) ≡ drop (n - 1) xs
drop_less zero x xs h = absurd (omega (arith, h))
drop_less (suc n) x xs h = let less : n ≡ suc n - 1 = omega arith in ap (λ k. drop k xs) less

-- what was booked so far, with what is left, makes all
pub record Booking (number : ℕ) (first : SeatState) (all : List Turned) (counts : Counts) (seat : SeatState) (said : List Outcome) (left : List Turned) (tally : Counts) : Type 0 where
  pub few : tally.accepted + told_in left < 2 ^ 53
  pub fits : FitIn seat.q left
  pub fresh : seat.seen ≤ number
  pub seat_is : seat_from seat left ≡ seat_from first all
  pub said_is : said ++ map (outcome_of number) left ≡ map (outcome_of number) all
  pub tally_is : with_accepted tally (told_in left) ≡ with_accepted counts (told_in all)

pub booked_none : (number : ℕ) (seat : SeatState) (all : List Turned) (tally : Counts) (said : List Outcome) → said ≡ [] → tally.accepted + told_in all < 2 ^ 53 → FitIn seat.q all → seat.seen ≤ number → Booking number seat all tally seat said all tally
booked_none number seat all tally said none few fits fresh = record { few = few; fits = fits; fresh = fresh; seat_is = refl; said_is = ap (λ l. l ++ map (outcome_of number) all) none; tally_is = refl }

pub may_book : (number : ℕ) (first : SeatState) (all : List Turned) (counts : Counts) (seat : SeatState) (said : List Outcome) (t : Turned) (left : List Turned) (tally : Counts) → Booking number first all counts seat said (t ∷ left) tally
    → (tally.accepted < 2 ^ 53) × (t ≡ Ok true → seat.q < greatest_number)
may_book number first all counts seat said (Ok told) left tally b = (let few = b.few in omega (arith, few), λ h. b.fits.0 (cc h))
may_book number first all counts seat said (Err f) left tally b = (let few = b.few in omega (arith, few), λ h. absurd (cc h))

pub booked_more : (number : ℕ) (first : SeatState) (all : List Turned) (counts : Counts) (seat next : SeatState) (said : List Outcome) (t : Turned) (left : List Turned) (tally later : Counts) (more : List Outcome) → Booking number first all counts seat said (t ∷ left) tally
    → next ≡ seat_by seat t → later ≡ with_accepted tally (told_in (t ∷ [])) → more ≡ said ++ outcome_of number t ∷ [] → Booking number first all counts next more left later
booked_more number first all counts seat next said t left tally later more b seat_is tally_is said_is =
    subst (λ (x : SeatState). Booking number first all counts x more left later) (sym seat_is)
    (subst (λ (x : Counts). Booking number first all counts (seat_by seat t) more left x) (sym tally_is)
    (subst (λ (x : List Outcome). Booking number first all counts (seat_by seat t) x left (with_accepted tally (told_in (t ∷ [])))) (sym said_is) (by t b))) where
      by : (t : Turned) → Booking number first all counts seat said (t ∷ left) tally → Booking number first all counts (seat_by seat t) (said ++ outcome_of number t ∷ []) left (with_accepted tally (told_in (t ∷ [])))
      by (Ok told) b =
          let few = b.few in
          let sum : tally.accepted + (one_if told + 0) + told_in left ≡ tally.accepted + (one_if told + told_in left) = omega arith in
          record {
            few = subst (λ n. n < 2 ^ 53) (sym sum) few;
            fits = b.fits.1;
            fresh = b.fresh;
            seat_is = b.seat_is;
            said_is = append_assoc said (outcome_of number (Ok told) ∷ []) (map (outcome_of number) left) ∙ b.said_is;
            tally_is = ap (λ n. record { accepted = n; seats = tally.seats; out = tally.out }) sum ∙ b.tally_is;
          }
      by (Err f) b =
          let few = b.few in
          let sum : tally.accepted + 0 + told_in left ≡ tally.accepted + told_in left = omega arith in
          record {
            few = subst (λ n. n < 2 ^ 53) (sym sum) few;
            fits = b.fits;
            fresh = b.fresh;
            seat_is = b.seat_is;
            said_is = append_assoc said (outcome_of number (Err f) ∷ []) (map (outcome_of number) left) ∙ b.said_is;
            tally_is = ap (λ n. record { accepted = n; seats = tally.seats; out = tally.out }) sum ∙ b.tally_is;
          }

-- all of them are booked
pub booked_all : (number : ℕ) (first : SeatState) (all : List Turned) (counts : Counts) (seat : SeatState) (said : List Outcome) (left : List Turned) (tally : Counts) → Booking number first all counts seat said left tally → left ≡ []
    → (seat ≡ seat_from first all) × (said ≡ map (outcome_of number) all) × (tally ≡ with_accepted counts (told_in all))
booked_all number first all counts seat said left tally b none =
    let done : Booking number first all counts seat said [] tally = subst (λ (x : List Turned). Booking number first all counts seat said x tally) none b in
    let same : tally.accepted ≡ tally.accepted + 0 = omega arith in (
      done.seat_is,
      sym (append-nil said) ∙ done.said_is,
      (λ i. record { accepted = same i; seats = tally.seats; out = tally.out }) ∙ done.tally_is,
    )

told_parts : (n : ℕ) (ts : List Turned) → told_in (take n ts) + told_in (drop n ts) ≡ told_in ts
told_parts zero ts = omega arith
told_parts (suc n) [] = refl
told_parts (suc n) (Ok told ∷ ts) = let rest = told_parts n ts in omega (arith, rest)
told_parts (suc n) (Err f ∷ ts) = told_parts n ts

pub few_first : (count n : ℕ) (ts : List Turned) → count + told_in ts < 2 ^ 53 → count + told_in (take n ts) < 2 ^ 53
few_first count n ts few = let parts = told_parts n ts in omega (arith, few, parts)

-- ---- the messages of all seats

-- what was booked so far, with what is left, makes all
pub record BookingAll (number : ℕ) (waiting : List WaitingState) (all : List Turned) (counts : Counts) (before : List AnswerState) (rest : List WaitingState) (left : List Turned) (tally : Counts) (answers : List AnswerState) : Type 0 where
  pub few : tally.accepted + told_in left < 2 ^ 53
  pub fits : AllFit rest left
  pub fresh : AllByRecursion (λ (w : WaitingState). w.seat.seen ≤ number) rest
  pub answers_are : answers ++ answers_of number rest left ≡ before ++ answers_of number waiting all
  pub tally_is : with_accepted tally (told_in left) ≡ with_accepted counts (told_in all)

pub all_none : (number : ℕ) (waiting rest : List WaitingState) (all left : List Turned) (counts : Counts) (before : List AnswerState) → rest ≡ waiting → left ≡ all → counts.accepted + told_in all < 2 ^ 53 → AllFit waiting all
    → AllByRecursion (λ (w : WaitingState). w.seat.seen ≤ number) waiting → BookingAll number waiting all counts before rest left counts before
all_none number waiting rest all left counts before rest_is left_is few fits fresh =
    subst (λ (ws : List WaitingState). BookingAll number waiting all counts before ws left counts before) (sym rest_is)
    (subst (λ (ts : List Turned). BookingAll number waiting all counts before waiting ts counts before) (sym left_is) (record { few = few; fits = fits; fresh = fresh; answers_are = refl; tally_is = refl }))

pub all_next : (number : ℕ) (waiting : List WaitingState) (all : List Turned) (counts : Counts) (before : List AnswerState) (here rest : List WaitingState) (w : WaitingState) (left later : List Turned) (tally next : Counts) (answers more : List AnswerState) (a : AnswerState)
    → BookingAll number waiting all counts before here left tally answers → here ≡ w ∷ rest → a ≡ answer_of number w.seat (take w.count left) → later ≡ drop w.count left → next ≡ with_accepted tally (told_in (take w.count left)) → more ≡ answers ++ a ∷ []
    → BookingAll number waiting all counts before rest later next more
all_next number waiting all counts before here rest w left later tally next answers more a b here_is a_is later_is next_is more_is =
    subst (λ (ts : List Turned). BookingAll number waiting all counts before rest ts next more) (sym later_is)
    (subst (λ (t : Counts). BookingAll number waiting all counts before rest (drop w.count left) t more) (sym next_is)
    (subst (λ (x : List AnswerState). BookingAll number waiting all counts before rest (drop w.count left) (with_accepted tally (told_in (take w.count left))) x) (sym (more_is ∙ ap (λ (x : AnswerState). answers ++ x ∷ []) a_is))
    (by (subst (λ (ws : List WaitingState). BookingAll number waiting all counts before ws left tally answers) here_is b)))) where
      parts : tally.accepted + told_in (take w.count left) + told_in (drop w.count left) ≡ tally.accepted + told_in left
      parts = let both = told_parts w.count left in omega (arith, both)

      by : BookingAll number waiting all counts before (w ∷ rest) left tally answers → BookingAll number waiting all counts before rest (drop w.count left) (with_accepted tally (told_in (take w.count left))) (answers ++ answer_of number w.seat (take w.count left) ∷ [])
      by k = record {
        few = subst (λ n. n < 2 ^ 53) (sym parts) k.few;
        fits = k.fits.2;
        fresh = k.fresh.1;
        answers_are = append_assoc answers (answer_of number w.seat (take w.count left) ∷ []) (answers_of number rest (drop w.count left)) ∙ k.answers_are;
        tally_is = ap (λ n. record { accepted = n; seats = tally.seats; out = tally.out }) parts ∙ k.tally_is;
      }

-- all of them are booked
pub all_done : (number : ℕ) (waiting : List WaitingState) (all : List Turned) (counts : Counts) (before : List AnswerState) (rest : List WaitingState) (left : List Turned) (tally : Counts) (answers : List AnswerState) → BookingAll number waiting all counts before rest left tally answers → rest ≡ []
    → (answers ≡ before ++ answers_of number waiting all) × (tally ≡ with_accepted counts (told_in all))
all_done number waiting all counts before rest left tally answers b none =
    let done : BookingAll number waiting all counts before [] left tally answers = subst (λ (ws : List WaitingState). BookingAll number waiting all counts before ws left tally answers) none b in
    let same : tally.accepted ≡ tally.accepted + told_in left = let no = ap told_in done.fits in omega (arith, no) in (
      sym (append-nil answers) ∙ done.answers_are,
      (λ i. record { accepted = same i; seats = tally.seats; out = tally.out }) ∙ done.tally_is,
    )

-- ---- messages by themselves

module _ {A : Type 0} (works : A → Type 0) (keeps : A → History → Type 0) where
  pub said_on : (seat after : SeatState) (m : Up) (r : Outcome) (now : ℕ) (old new : CoreState A)
      → IfOk r (λ said. said.number ≡ new.run.number)
      → IfOk r (λ said. IsSayAnswered m now old.run.server new.run.server old.lines new.lines old.run.number said.number seat after old.counts new.counts)
      → IfErr r (IsSayRefused seat m old.run.number now old.run.server new.run.server)
      → OnErr r ((new.counts ≡ old.counts) × (after ≡ seat)) → OnErr r (new.run.number ≡ old.run.number) → OnErr r (new.lines ≡ old.lines) → new.start ≡ old.start
      → IfOk r (λ _. CarriesOn works keeps (input.Up m) now old new) → OnErr r (StandsStill works keeps old new) → IsSaidOn works keeps seat m r after now old new
  said_on seat after m (Ok said) now old new number heard refused kept stays lines start carries still = (((number, heard), start), carries)
  said_on seat after m (Err e) now old new number heard refused kept stays lines start carries still = (((refused, kept.0, kept.1, stays, lines), start), still)

  -- the seat stays that of its session
  pub said_session : (seat after : SeatState) (m : Up) (r : Outcome) (now : ℕ) (old new : CoreState A)
      → IfOk r (λ said. IsSayAnswered m now old.run.server new.run.server old.lines new.lines old.run.number said.number seat after old.counts new.counts)
      → OnErr r ((new.counts ≡ old.counts) × (after ≡ seat)) → after.session ≡ seat.session
  said_session seat after m (Ok said) now old new heard kept = ap (λ (t : SeatState). t.session) heard.seat_is
  said_session seat after m (Err e) now old new heard kept = ap (λ (t : SeatState). t.session) kept.1

  -- one more at the end
  pub more_alone : (ms : List Up) (said : List Outcome) (seat next after : SeatState) (m : Up) (r : Outcome) (now : ℕ) (a b c : CoreState A) → AreSaidAlone works keeps seat ms said next now a b → IsSaidOn works keeps next m r after now b c
      → AreSaidAlone works keeps seat (ms ++ m ∷ []) (said ++ r ∷ []) after now a c
  more_alone [] [] seat next after m r now a b c h is =
      (after, c, subst (λ (s : SeatState). IsSaidOn works keeps s m r after now a c) h.0 (subst (λ (x : CoreState A). IsSaidOn works keeps next m r after now x c) h.1 is), (refl, refl))
  more_alone [] (x ∷ xs) seat next after m r now a b c h is = absurd h
  more_alone (y ∷ ys) [] seat next after m r now a b c h is = absurd h
  more_alone (y ∷ ys) (x ∷ xs) seat next after m r now a b c h is = (h.0, h.1, h.2, more_alone ys xs h.0 next after m r now h.1 b c h.3 is)

  -- the messages so far, of those of a request
  pub record SoFar (seat : SeatState) (all rest : List Up) (said : List Outcome) (next : SeatState) (now : ℕ) (a b : CoreState A) : Type 0 where
    pub done : List Up
    pub parted : all ≡ done ++ rest
    pub alone : AreSaidAlone works keeps seat done said next now a b

  pub none_so_far : (seat : SeatState) (all : List Up) (said : List Outcome) (now : ℕ) (a : CoreState A) → said ≡ [] → SoFar seat all all said seat now a a
  none_so_far seat all said now a none = record { done = []; parted = refl; alone = subst (λ l. AreSaidAlone works keeps seat [] l seat now a a) (sym none) (refl, refl) }

  pub more_so_far : (seat next after : SeatState) (all here rest : List Up) (m : Up) (said more : List Outcome) (r : Outcome) (now : ℕ) (a b c : CoreState A) → SoFar seat all here said next now a b → here ≡ m ∷ rest → more ≡ said ++ r ∷ []
      → IsSaidOn works keeps next m r after now b c → SoFar seat all rest more after now a c
  more_so_far seat next after all here rest m said more r now a b c s is grows said_now = record {
    done = s.done ++ m ∷ [];
    parted = s.parted ∙ ap (λ l. s.done ++ l) is ∙ sym (append_assoc s.done (m ∷ []) rest);
    alone = subst (λ l. AreSaidAlone works keeps seat (s.done ++ m ∷ []) l after now a c) (sym grows) (more_alone s.done said seat next after m r now a b c s.alone said_now);
  }

  pub all_so_far : (seat next : SeatState) (all rest : List Up) (said : List Outcome) (now : ℕ) (a b : CoreState A) → SoFar seat all rest said next now a b → rest ≡ [] → AreSaidAlone works keeps seat all said next now a b
  all_so_far seat next all rest said now a b s none = subst (λ l. AreSaidAlone works keeps seat l said next now a b) (sym (s.parted ∙ ap (λ l. s.done ++ l) none ∙ append-nil s.done)) s.alone
