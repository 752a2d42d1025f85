-- Requests that fit together, one after another.
use Rattle.std.proofs.Common.{refl, sym, ◌∙◌, ap, subst, ◌≡◌, ◌<◌, ℕ, List, [], ◌∷◌, ◌++◌, append_assoc, append-nil, map, length, false, arith}
use Rattle.std.specs.List.{AllByRecursion, flat_map}
use Rattle.std.proofs.lemmas.List.{map-append}
use Rattle.pres_ids.specs.Ids.{same_session}
use Rattle.pres_wire.specs.declared.up.Up.{Up}
use Rattle.pres_accounting.specs.Seats.{SeatState}
use Rattle.pres_server.specs.declared.input.Input.{Input}
use Rattle.pres_server.specs.declared.input.Input.TheVariants as input
use Rattle.pres_server.specs.Histories.{History}
use Rattle.pres_keeper.specs.Engines.{EngineState}
use Rattle.pres_hub.specs.CoreGroups.{RequestState, AnswerState, SayPart, alone, messages_of, inputs_of, requests_in, answers_in, IsSaidPart, AreSaidParts, AreSaid, AreSaidFirst}
use Rattle.pres_hub.specs.InternalGroups.{WaitingState, waits, waiting_of, AreApart, FitsIn, FitTogether, Gathers}
use Rattle.pres_hub.specs.Cores.{CoreState}

map_more : {A B : Type 0} (f : A → B) (xs : List A) (x : A) → map f (xs ++ x ∷ []) ≡ map f xs ++ f x ∷ []
map_more f [] x = refl
map_more f (y ∷ ys) x = ap (λ l. f y ∷ l) (map_more f ys x)

pub all_more : {X : Type 0} (P : X → Type 0) (xs : List X) (x : X) → AllByRecursion P xs → P x → AllByRecursion P (xs ++ x ∷ [])
all_more P [] x all is = (is, tt)
all_more P (y ∷ ys) x all is = (all.0, all_more P ys x all.1 is)

apart_more : (rs : List RequestState) (x : RequestState) → AreApart rs → AllByRecursion (λ (w : WaitingState). same_session x.seat.session w.seat.session ≡ false) (waiting_of rs) → AreApart (rs ++ x ∷ [])
apart_more [] x apart none = (tt, tt)
apart_more (r ∷ rs) x apart none = (all_more (λ t. same_session t.seat.session r.seat.session ≡ false) rs x apart.0 none.0, apart_more rs x apart.1 none.1)

flat_more : {X Y : Type 0} (f : X → List Y) (xs ys : List X) → flat_map f (xs ++ ys) ≡ flat_map f xs ++ flat_map f ys
flat_more f [] ys = refl
flat_more f (x ∷ xs) ys = ap (λ l. f x ++ l) (flat_more f xs ys) ∙ sym (append_assoc (f x) (flat_map f xs) (flat_map f ys))

inputs_more : (rs : List RequestState) (x : RequestState) → inputs_of (rs ++ x ∷ []) ≡ inputs_of rs ++ map input.Up x.messages
inputs_more rs x =
    ap (map input.Up) (flat_more (λ (r : RequestState). r.messages) rs (x ∷ []) ∙ ap (λ l. messages_of rs ++ l) (append-nil x.messages)) ∙ map-append input.Up (messages_of rs) x.messages

module _ {A : Type 0} (run : EngineState A) where
  pub gathers_none : (requests : List RequestState) → Gathers run requests requests [] []
  gathers_none requests = record { taken = []; queue = refl; waiting_are = refl; inputs_are = refl; fit = record { each = tt; apart = tt } }

  pub gathers_more : (requests here left : List RequestState) (x : RequestState) (waiting : List WaitingState) (inputs : List Input) → Gathers run requests here waiting inputs → here ≡ x ∷ left → FitsIn run x
      → AllByRecursion (λ (w : WaitingState). same_session x.seat.session w.seat.session ≡ false) waiting → Gathers run requests left (waiting ++ waits x ∷ []) (inputs ++ map input.Up x.messages)
  gathers_more requests here left x waiting inputs g is fits none = record {
    taken = g.taken ++ x ∷ [];
    queue = g.queue ∙ ap (λ l. g.taken ++ l) is ∙ sym (append_assoc g.taken (x ∷ []) left);
    waiting_are = ap (λ l. l ++ waits x ∷ []) g.waiting_are ∙ sym (map_more waits g.taken x);
    inputs_are = ap (λ l. l ++ map input.Up x.messages) g.inputs_are ∙ sym (inputs_more g.taken x);
    fit = record {
      each = all_more (FitsIn run) g.taken x g.fit.each fits;
      apart = apart_more g.taken x g.fit.apart (subst (AllByRecursion (λ (w : WaitingState). same_session x.seat.session w.seat.session ≡ false)) g.waiting_are none);
    };
  }

  pub gathers_added : (requests here left : List RequestState) (x : RequestState) (waiting more : List WaitingState) (inputs further : List Input) (seat : SeatState) (ms : List Up) (count : ℕ) → Gathers run requests here waiting inputs → here ≡ x ∷ left → FitsIn run x
      → AllByRecursion (λ (w : WaitingState). same_session x.seat.session w.seat.session ≡ false) waiting → record { seat = seat; messages = ms } ≡ x → count ≡ length ms → more ≡ waiting ++ record { seat = seat; count = count } ∷ [] → further ≡ inputs ++ map input.Up ms
      → Gathers run requests left more further
  gathers_added requests here left x waiting more inputs further seat ms count g is fits none seen many more_is further_is =
      subst (λ (ws : List WaitingState). Gathers run requests left ws further)
      (sym (more_is ∙ ap (λ (w : WaitingState). waiting ++ w ∷ []) ((λ i. record { seat = seat; count = many i }) ∙ ap waits seen)))
      (subst (λ (ins : List Input). Gathers run requests left (waiting ++ waits x ∷ []) ins) (sym (further_is ∙ ap (λ (r : RequestState). inputs ++ map input.Up r.messages) seen))
      (gathers_more requests here left x waiting inputs g is fits none))

  pub gathers_back : (requests here back : List RequestState) (waiting : List WaitingState) (inputs : List Input) → Gathers run requests here waiting inputs → back ≡ here → Gathers run requests back waiting inputs
  gathers_back requests here back waiting inputs g is = subst (λ l. Gathers run requests l waiting inputs) (sym is) g

-- ---- messages that are said, one part after another

module _ {A : Type 0} (works : A → Type 0) (keeps : A → History → Type 0) where
  parts_then : (ps qs : List SayPart) (now : ℕ) (a b c : CoreState A) → AreSaidParts works keeps ps now a b → AreSaidParts works keeps qs now b c → AreSaidParts works keeps (ps ++ qs) now a c
  parts_then [] qs now a b c first more = subst (λ x. AreSaidParts works keeps qs now x c) first more
  parts_then (p ∷ ps) qs now a b c first more = (first.0, first.1, parts_then ps qs now first.0 b c first.2 more)

  pub one_part : (p : SayPart) (now : ℕ) (a b : CoreState A) → IsSaidPart works keeps p now a b → AreSaid works keeps (requests_in p) (answers_in p) now a b
  one_part p now a b is = record { parts = p ∷ []; in_order = sym (append-nil (requests_in p)); each = sym (append-nil (answers_in p)); said = (b, is, refl) }

  pub none_said : (now : ℕ) (a : CoreState A) → AreSaid works keeps [] [] now a a
  none_said now a = record { parts = []; in_order = refl; each = refl; said = refl }

  pub said_then : (rs qs : List RequestState) (given later : List AnswerState) (now : ℕ) (a b c : CoreState A) → AreSaid works keeps rs given now a b → AreSaid works keeps qs later now b c → AreSaid works keeps (rs ++ qs) (given ++ later) now a c
  said_then rs qs given later now a b c first more = record {
    parts = first.parts ++ more.parts;
    in_order = (λ i. first.in_order i ++ more.in_order i) ∙ sym (flat_more requests_in first.parts more.parts);
    each = (λ i. first.each i ++ more.each i) ∙ sym (flat_more answers_in first.parts more.parts);
    said = parts_then first.parts more.parts now a b c first.said more.said;
  }

  -- ---- the first of a queue

  pub first_none : (rs : List RequestState) (before : List AnswerState) (now : ℕ) (a : CoreState A) → AreSaidFirst works keeps rs before now a a rs before
  first_none rs before now a = record { taken = []; answers = []; queue = refl; told = sym (append-nil before); said = none_said now a }

  pub first_then : (rs mid left : List RequestState) (before told after : List AnswerState) (now : ℕ) (a b c : CoreState A) → AreSaidFirst works keeps rs before now a b mid told → AreSaidFirst works keeps mid told now b c left after → AreSaidFirst works keeps rs before now a c left after
  first_then rs mid left before told after now a b c first more = record {
    taken = first.taken ++ more.taken;
    answers = first.answers ++ more.answers;
    queue = first.queue ∙ ap (λ l. first.taken ++ l) more.queue ∙ sym (append_assoc first.taken more.taken left);
    told = more.told ∙ ap (λ l. l ++ more.answers) first.told ∙ append_assoc before first.answers more.answers;
    said = said_then first.taken more.taken first.answers more.answers now a b c first.said more.said;
  }

  -- all of it
  pub first_all : (rs left : List RequestState) (before after : List AnswerState) (now : ℕ) (a b : CoreState A) → AreSaidFirst works keeps rs before now a b left after → left ≡ [] → (given : List AnswerState) × (after ≡ before ++ given) × AreSaid works keeps rs given now a b
  first_all rs left before after now a b first none =
      (first.answers, first.told, subst (λ l. AreSaid works keeps l first.answers now a b) (sym (first.queue ∙ ap (λ l. first.taken ++ l) none ∙ append-nil first.taken)) first.said)

  -- ---- the first of a queue, after those that fit together were gathered

  no_seats : (rs : List RequestState) (waiting : List WaitingState) → waiting ≡ waiting_of rs → length waiting ≡ 0 → rs ≡ []
  no_seats [] waiting is none = refl
  no_seats (x ∷ xs) waiting is none = let some = ap length is in absurd (omega (arith, some, none))

  pub first_alone : (run : EngineState A) (rs here left : List RequestState) (waiting : List WaitingState) (inputs : List Input) (x : RequestState) (a : AnswerState) (before after : List AnswerState) (now : ℕ) (old new : CoreState A) → Gathers run rs here waiting inputs → length waiting ≡ 0 → here ≡ x ∷ left
      → after ≡ before ++ a ∷ [] → IsSaidPart works keeps (alone x a) now old new → AreSaidFirst works keeps rs before now old new left after
  first_alone run rs here left waiting inputs x a before after now old new g none is told said = record {
    taken = x ∷ [];
    answers = a ∷ [];
    queue = g.queue ∙ ap (λ l. l ++ here) (no_seats g.taken waiting g.waiting_are none) ∙ is;
    told = told;
    said = one_part (alone x a) now old new said;
  }

  pub first_together : (run : EngineState A) (rs left : List RequestState) (waiting : List WaitingState) (inputs : List Input) (before after : List AnswerState) (now : ℕ) (old new : CoreState A) → Gathers run rs left waiting inputs
      → ((taken : List RequestState) → waiting ≡ waiting_of taken → inputs ≡ inputs_of taken → FitTogether run taken → (given : List AnswerState) × (after ≡ before ++ given) × AreSaid works keeps taken given now old new)
      → AreSaidFirst works keeps rs before now old new left after
  first_together run rs left waiting inputs before after now old new g said =
      let k = said g.taken g.waiting_are g.inputs_are g.fit in
      record { taken = g.taken; answers = k.0; queue = g.queue; told = k.1; said = k.2 }

pub none_left : {X : Type 0} (xs : List X) → length xs ≡ 0 → xs ≡ []
none_left [] h = refl
none_left (x ∷ xs) h = absurd (omega (arith, h))
