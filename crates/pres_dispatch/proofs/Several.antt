-- Several turns, whose answers are put on the lines one turn after another.
use Rattle.std.proofs.Common.{refl, sym, ◌∙◌, ap, subst, ◌≡◌, ℕ, ◌<◌, ◌⊎◌, List, [], ◌∷◌, ◌++◌, length, length-append, map, suc, false, arith, Option, Some, None, Ok, Err}
use Rattle.std.specs.List.{flat_map, All}
use Rattle.pres_server.specs.declared.input.Input.{Input}
use Rattle.pres_server.specs.SumStates.{SumState}
use Rattle.pres_server.specs.Histories.{History, with_batches}
use Rattle.pres_ring.specs.Lines.{Lines, line_at}
use Rattle.pres_faults.specs.declared.engine_fault.EngineFault.{EngineFault}
use Rattle.pres_faults.specs.declared.engine_fault.EngineFault.TheVariants as fault
use Rattle.pres_keeper.proofs.Nulls.{number_made}
use Rattle.pres_keeper.specs.Engines.{EngineState, Runs, IsHistoryOf}
use Rattle.pres_keeper.specs.EngineTurns.{IsTurnRefused, history_left}
use Rattle.pres_keeper.specs.EngineGroups.{TurnResult, TurnPart, alone, unkept, gone, inputs_in, results_in, all_refused, IsPart, AreParts, AreTurns, KeepsOn, TurnsLead}
use Rattle.pres_dispatch.specs.Dispatches.{DispatcherState, Histories, is_hello, StandsBehind, Stands, SomeStands, StayMarked}
use Rattle.pres_dispatch.specs.Groups.{ArePut, AreDelivered, MayDeliver, IsPartPut, ArePartsPut, AreTurned, history_part, history_parts, history_all, histories_all, TurnsStand, turned_of}
use Rattle.pres_dispatch.proofs.Answered.{Told, with_told, told_after}
use Rattle.pres_dispatch.proofs.Standing.{told_by, some_there, from_some}
use Rattle.pres_dispatch.proofs.Marks.{stay_same, stay_twice, stays_put}

-- ---- what is put on the lines

delivered_parts : (xs ys : List TurnResult) (before after : Lines) → AreDelivered (xs ++ ys) before after → (middle : Lines) × AreDelivered xs before middle × AreDelivered ys middle after
delivered_parts [] ys before after d = (before, refl, d)
delivered_parts (Ok outs ∷ xs) ys before after d = let rest = delivered_parts xs ys d.0 after d.2 in (rest.0, (d.0, d.1, rest.1), rest.2)
delivered_parts (Err f ∷ xs) ys before after d = delivered_parts xs ys before after d

may_then : (xs ys : List TurnResult) (lines : Lines) → MayDeliver xs lines → ((after : Lines) → AreDelivered xs lines after → MayDeliver ys after) → MayDeliver (xs ++ ys) lines
may_then [] ys lines may then = then lines refl
may_then (Ok outs ∷ xs) ys lines may then = (may.0, λ after put. may_then xs ys after (may.1 after put) (λ last d. then last (after, put, d)))
may_then (Err f ∷ xs) ys lines may then = may_then xs ys lines may then

-- the first of them, and then the others
pub may_next : (x : TurnResult) (xs : List TurnResult) (before after : Lines) → MayDeliver (x ∷ xs) before → AreDelivered (x ∷ []) before after → MayDeliver xs after
may_next (Ok outs) xs before after may d = may.1 after (subst (ArePut outs before) (sym d.2) d.1)
may_next (Err f) xs before after may d = subst (MayDeliver xs) (sym d) may

pub delivered_next : (x : TurnResult) (xs : List TurnResult) (before middle after : Lines) → AreDelivered (x ∷ []) before middle → AreDelivered xs middle after → AreDelivered (x ∷ xs) before after
delivered_next (Ok outs) xs before middle after d rest = (middle, subst (ArePut outs before) (sym d.2) d.1, rest)
delivered_next (Err f) xs before middle after d rest = subst (λ l. AreDelivered xs l after) d rest

may_refused : (f : EngineFault) (inputs : List Input) (lines : Lines) → MayDeliver (all_refused f inputs) lines
may_refused f [] lines = tt
may_refused f (i ∷ is) lines = may_refused f is lines

same_refused : (f : EngineFault) (inputs : List Input) (before after : Lines) → AreDelivered (all_refused f inputs) before after → after ≡ before
same_refused f [] before after d = d
same_refused f (i ∷ is) before after d = same_refused f is before after d

-- messages change no mark
pub delivered_marks : (xs : List TurnResult) (before after : Lines) → AreDelivered xs before after → StayMarked before after
delivered_marks [] before after d = subst (StayMarked before) (sym d) (stay_same before)
delivered_marks (Ok outs ∷ xs) before after d =
    stay_twice before d.0 after (λ s. stays_put s outs (line_at s before) (line_at s d.0) (d.1.0 s)) (delivered_marks xs d.0 after d.2)
delivered_marks (Err f ∷ xs) before after d = delivered_marks xs before after d

-- ---- inputs none of which is a Hello

abbrev pub ArePlain : List Input → Type 0
ArePlain [] = Unit {0}
ArePlain (i ∷ is) = (is_hello i ≡ false) × ArePlain is

pub all_plain : (inputs : List Input) → All (λ i. is_hello i ≡ false) inputs → ArePlain inputs
all_plain [] all = tt
all_plain (i ∷ is) all = (all 0 i (omega arith), all_plain is (λ k d h. all (suc k) d (omega (arith, h))))

plain_first : (xs ys : List Input) → ArePlain (xs ++ ys) → ArePlain xs
plain_first [] ys plain = tt
plain_first (i ∷ xs) ys plain = (plain.0, plain_first xs ys plain.1)

plain_rest : (xs ys : List Input) → ArePlain (xs ++ ys) → ArePlain ys
plain_rest [] ys plain = plain
plain_rest (i ∷ xs) ys plain = plain_rest xs ys plain.1

-- ---- a part

refused_told : (a b : Option SumState) (i : Input) (now : ℕ) (f : EngineFault) (history : History) (lines : Lines) → IsTurnRefused a i now b f → Runs (Told history lines) a → Runs (Told (history_left history a i now f) lines) b
refused_told a b i now (fault.Refused f) history lines is t = subst (Runs (Told history lines)) (sym is.0) t
refused_told a b i now fault.Memory history lines is t = subst (Runs (Told history lines)) (sym is.0) t
refused_told a b i now (fault.Keeper f) history lines is t = subst (Runs (Told history lines)) (sym is.0) t
refused_told a b i now fault.Down history lines is t = subst (Runs (Told (history_left history a i now fault.Down) lines)) (sym is.0) tt

-- the answers of a part continue what was put on the lines
part_may : (p : TurnPart) (now : ℕ) (a b : Option SumState) (kept end history : History) (lines : Lines) → ArePlain (inputs_in p) → IsPart p now a kept b end → Runs (Told history lines) a → MayDeliver (results_in p) lines
part_may (alone i (Ok outs)) now None b kept end history lines plain is t = absurd is.0
part_may (alone i (Ok outs)) now (Some s) b kept end history lines plain is t = (λ u. with_told history s lines t now i plain.0 b outs is.0 u, λ after put. tt)
part_may (alone i (Err f)) now a b kept end history lines plain is t = tt
part_may (unkept inputs f) now a b kept end history lines plain is t = may_refused (fault.Keeper f) inputs lines
part_may (gone inputs) now a b kept end history lines plain is t = may_refused fault.Down inputs lines

-- once they are put, the part did this to the server and the lines, and the kept history is the one after it
part_put : (p : TurnPart) (now : ℕ) (a b : Option SumState) (kept end : History) (before after : Lines) → IsPart p now a kept b end → AreDelivered (results_in p) before after
    → (put : IsPartPut p now a b before after) × (history_part kept p now a b before after put ≡ end)
part_put (alone i (Ok outs)) now a b kept end before after is d = ((is.0, subst (ArePut outs before) (sym d.2) d.1), sym is.1)
part_put (alone i (Err f)) now a b kept end before after is d = ((is.0, d), sym is.1)
part_put (unkept inputs f) now a b kept end before after is d = ((is.0, is.1, is.2, is.3, same_refused (fault.Keeper f) inputs before after d), sym is.4)
part_put (gone inputs) now a b kept end before after is d = ((is.0, is.1, is.2, same_refused fault.Down inputs before after d), sym is.3)

-- and the history since the start tells the lines after it
part_told : (p : TurnPart) (now : ℕ) (a b : Option SumState) (history : History) (before after : Lines) → ArePlain (inputs_in p) → (put : IsPartPut p now a b before after) → Runs (Told history before) a
    → Runs (Told (history_part history p now a b before after put) after) b
part_told (alone i (Ok outs)) now None b history before after plain put t = absurd put.0
part_told (alone i (Ok outs)) now (Some s) b history before after plain put t = told_after history s before t now i plain.0 b outs put.0 after put.1.0
part_told (alone i (Err f)) now a b history before after plain put t = subst (λ x. Runs (Told (history_left history a i now f) x) b) (sym put.1) (refused_told a b i now f history before put.0 t)
part_told (unkept inputs f) now a b history before after plain put t = subst (Runs (Told history after)) (sym put.3) (subst (λ x. Runs (Told history x) a) (sym put.4) t)
part_told (gone inputs) now a b history before after plain put t = subst (Runs (Told (with_batches history put.0) after)) (sym put.2) tt

-- ---- one after another

pub parts_may : (ps : List TurnPart) (now : ℕ) (a b : Option SumState) (kept end history : History) (lines : Lines) → ArePlain (flat_map inputs_in ps) → AreParts ps now a kept b end → Runs (Told history lines) a → MayDeliver (flat_map results_in ps) lines
parts_may [] now a b kept end history lines plain lead t = tt
parts_may (p ∷ ps) now a b kept end history lines plain lead t =
    let first = plain_first (inputs_in p) (flat_map inputs_in ps) plain in
    may_then (results_in p) (flat_map results_in ps) lines (part_may p now a lead.0 kept lead.1 history lines first lead.2 t)
    (λ after d.
    let x = part_put p now a lead.0 kept lead.1 lines after lead.2 d in
    parts_may ps now lead.0 b lead.1 end (history_part history p now a lead.0 lines after x.0) after (plain_rest (inputs_in p) (flat_map inputs_in ps) plain) lead.3
    (part_told p now a lead.0 history lines after first x.0 t))

pub parts_put : (ps : List TurnPart) (now : ℕ) (a b : Option SumState) (kept end : History) (before after : Lines) → AreParts ps now a kept b end → AreDelivered (flat_map results_in ps) before after
    → (put : ArePartsPut ps now a b before after) × (history_parts kept ps now a b before after put ≡ end)
parts_put [] now a b kept end before after lead d = ((lead.0, d), sym lead.1)
parts_put (p ∷ ps) now a b kept end before after lead d =
    let k = delivered_parts (results_in p) (flat_map results_in ps) before after d in
    let x = part_put p now a lead.0 kept lead.1 before k.0 lead.2 k.1 in
    let y = parts_put ps now lead.0 b lead.1 end k.0 after lead.3 k.2 in
    ((lead.0, k.0, x.0, y.0), ap (λ l. history_parts l ps now lead.0 b k.0 after y.0) x.1 ∙ y.1)

pub parts_told : (ps : List TurnPart) (now : ℕ) (a b : Option SumState) (history : History) (before after : Lines) → ArePlain (flat_map inputs_in ps) → (put : ArePartsPut ps now a b before after) → Runs (Told history before) a
    → Runs (Told (history_parts history ps now a b before after put) after) b
parts_told [] now a b history before after plain put t = subst (Runs (Told history after)) (sym put.0) (subst (λ x. Runs (Told history x) a) (sym put.1) t)
parts_told (p ∷ ps) now a b history before after plain put t =
    parts_told ps now put.0 b (history_part history p now a put.0 before put.1 put.2) put.1 after (plain_rest (inputs_in p) (flat_map inputs_in ps) plain) put.3
    (part_told p now a put.0 history before put.1 (plain_first (inputs_in p) (flat_map inputs_in ps) plain) put.2 t)

-- ---- a server that is down stays down

none_turn : (i : Input) (now : ℕ) (b : Option SumState) (f : EngineFault) → IsTurnRefused None i now b f → b ≡ None
none_turn i now b (fault.Refused f) is = absurd is.1
none_turn i now b fault.Memory is = absurd is.1
none_turn i now b (fault.Keeper f) is = absurd is.1
none_turn i now b fault.Down is = is.0

none_part : (p : TurnPart) (now : ℕ) (b : Option SumState) (before after : Lines) → IsPartPut p now None b before after → b ≡ None
none_part (alone i (Ok outs)) now b before after put = absurd put.0
none_part (alone i (Err f)) now b before after put = none_turn i now b f put.0
none_part (unkept inputs f) now b before after put = absurd put.1
none_part (gone inputs) now b before after put = absurd put.1

pub none_parts : (ps : List TurnPart) (now : ℕ) (a b : Option SumState) (before after : Lines) → ArePartsPut ps now a b before after → a ≡ None → b ≡ None
none_parts [] now a b before after put down = put.0 ∙ down
none_parts (p ∷ ps) now a b before after put down =
    none_parts ps now put.0 b put.1 after put.3 (none_part p now put.0 before put.1 (subst (λ o. IsPartPut p now o put.0 before put.1) down put.2))

-- ---- as many as there are inputs

refused_many : (f : EngineFault) (inputs : List Input) → length (all_refused f inputs) ≡ length inputs
refused_many f [] = refl
refused_many f (i ∷ is) = let rest = refused_many f is in omega arith

part_many : (p : TurnPart) → length (results_in p) ≡ length (inputs_in p)
part_many (alone i r) = refl
part_many (unkept inputs f) = refused_many (fault.Keeper f) inputs
part_many (gone inputs) = refused_many fault.Down inputs

parts_many : (ps : List TurnPart) → length (flat_map results_in ps) ≡ length (flat_map inputs_in ps)
parts_many [] = refl
parts_many (p ∷ ps) =
    let first = part_many p in
    let rest = parts_many ps in
    let a = length-append (results_in p) (flat_map results_in ps) in
    let b = length-append (inputs_in p) (flat_map inputs_in ps) in
    omega arith

pub turns_many : (inputs : List Input) (results : List TurnResult) (now : ℕ) (a b : Option SumState) (history end : History) → AreTurns inputs results now a history b end → length results ≡ length inputs
turns_many inputs results now a b history end turns = ap length turns.each ∙ parts_many turns.parts ∙ sym (ap length turns.in_order)

-- ---- the turns of an engine, whose answers were put on the lines

module _ {A : Type 0} (works : A → Type 0) (keeps : A → History → Type 0) (outlasts : A → History → Type 0) (old : DispatcherState A) (engine : EngineState A) (inputs : List Input) (now : ℕ) (results : List TurnResult) (plain : ArePlain inputs)
    (led : (history : History) → IsHistoryOf history old.run.server → TurnsLead (KeepsOn works keeps outlasts old.run.keeper engine.keeper engine.server history) old.run.server history inputs now engine.server results) where
  told_of : (histories : Histories) → Stands works keeps histories old → Runs (Told histories.since_start old.lines) old.run.server
  told_of histories stands = by old.run.server stands where
    by : (o : Option SumState) → Runs (λ s. StandsBehind works keeps old s histories) o → Runs (Told histories.since_start old.lines) o
    by None h = tt
    by (Some s) h = told_by works keeps old s histories h

  leads_of : (histories : Histories) → Stands works keeps histories old → IsHistoryOf histories.kept old.run.server
  leads_of histories stands = by old.run.server stands where
    by : (o : Option SumState) → Runs (λ s. StandsBehind works keeps old s histories) o → IsHistoryOf histories.kept o
    by None h = tt
    by (Some s) h = h.explains.kept

  lead_of : (histories : Histories) → Stands works keeps histories old
      → TurnsLead (KeepsOn works keeps outlasts old.run.keeper engine.keeper engine.server histories.kept) old.run.server histories.kept inputs now engine.server results
  lead_of histories stands = led histories.kept (leads_of histories stands)

  pub may_deliver : SomeStands works keeps old → MayDeliver results old.lines
  may_deliver some = from_some works keeps old (MayDeliver results old.lines) (λ histories stands.
      let l = lead_of histories stands in
      subst (λ rs. MayDeliver rs old.lines) (sym l.turns.each)
      (parts_may l.turns.parts now old.run.server engine.server histories.kept l.end histories.since_start old.lines (subst ArePlain l.turns.in_order plain) l.turns.lead (told_of histories stands))) some

  pub as_many : SomeStands works keeps old → length results ≡ length inputs
  as_many some = from_some works keeps old (length results ≡ length inputs) (λ histories stands.
      let l = lead_of histories stands in
      turns_many inputs results now old.run.server engine.server histories.kept l.end l.turns) some

  module _ (after : Lines) (delivered : AreDelivered results old.lines after) where
    abbrev Turned : Type 0
    Turned = AreTurned inputs (map turned_of results) now old.run.server engine.server old.lines after

    turned_with : (history end : History) → AreTurns inputs results now old.run.server history engine.server end → (all : Turned) × (history_all history all ≡ end)
    turned_with history end turns =
        let put = parts_put turns.parts now old.run.server engine.server history end old.lines after turns.lead (subst (λ rs. AreDelivered rs old.lines after) turns.each delivered) in
        (record { parts = turns.parts; in_order = turns.in_order; each = ap (map turned_of) turns.each; put = put.0 }, put.1)

    pub are_turned : SomeStands works keeps old → Turned
    are_turned some = from_some works keeps old Turned (λ histories stands. let l = lead_of histories stands in (turned_with histories.kept l.end l.turns).0) some

    module _ (worked : works engine.keeper → works old.run.keeper) (counted : Runs (λ s. engine.number ≡ s.sum.number) engine.server) where
      abbrev pub turned_to : DispatcherState A
      turned_to = record { run = engine; lines = after }

      pub turns_stand : (histories : Histories) → Stands works keeps histories old → TurnsStand works keeps outlasts inputs now old turned_to histories (map turned_of results)
      turns_stand histories stands = record {
        all = t.0;
        stands = subst (λ e. Stands works keeps (record { kept = e; since_start = history_all histories.since_start t.0 }) turned_to) (sym t.1) (over old.run.server engine.server stands told l.leads down counted);
        durable = subst (λ (e : History). outlasts old.run.keeper histories.kept ⊎ (length histories.kept.log < length e.log) → Runs (λ _. outlasts engine.keeper e) engine.server) (sym t.1) (lasts old.run.server stands down);
      } where
        l : TurnsLead (KeepsOn works keeps outlasts old.run.keeper engine.keeper engine.server histories.kept) old.run.server histories.kept inputs now engine.server results
        l = lead_of histories stands

        t : (all : Turned) × (history_all histories.kept all ≡ l.end)
        t = turned_with histories.kept l.end l.turns

        told : Runs (Told (history_all histories.since_start t.0) after) engine.server
        told = parts_told t.0.parts now old.run.server engine.server histories.since_start old.lines after (subst ArePlain t.0.in_order plain) t.0.put (told_of histories stands)

        down : old.run.server ≡ None → engine.server ≡ None
        down = none_parts t.0.parts now old.run.server engine.server old.lines after t.0.put

        over : (o n : Option SumState) → Runs (λ s. StandsBehind works keeps old s histories) o → Runs (Told (history_all histories.since_start t.0) after) n → IsHistoryOf l.end n → (o ≡ None → n ≡ None)
            → Runs (λ s. engine.number ≡ s.sum.number) n → Runs (λ s. StandsBehind works keeps turned_to s (record { kept = l.end; since_start = history_all histories.since_start t.0 })) n
        over o None h x leads down c = tt
        over None (Some s) h x leads down c = absurd (cc (down refl))
        over (Some s) (Some y) h x leads down c = record {
          explains = record { kept = leads; since_start = x.leads; closed = x.closed };
          kept = record { held = λ w. l.held.kept w (h.kept.held (worked w)); counted = c ∙ number_made l.end y.sum leads };
          told = x.carried;
        }

        lasts : (o : Option SumState) → Runs (λ s. StandsBehind works keeps old s histories) o → (o ≡ None → engine.server ≡ None) → outlasts old.run.keeper histories.kept ⊎ (length histories.kept.log < length l.end.log)
            → Runs (λ _. outlasts engine.keeper l.end) engine.server
        lasts None h down k = subst (Runs (λ _. outlasts engine.keeper l.end)) (sym (down refl)) tt
        lasts (Some s) h down k = l.held.durable h.kept.held k

      pub some_turned : SomeStands works keeps old → SomeStands works keeps turned_to
      some_turned some = from_some works keeps old (SomeStands works keeps turned_to) (λ histories stands. let t = turns_stand histories stands in some_there works keeps (histories_all histories t.all) turned_to t.stands) some
