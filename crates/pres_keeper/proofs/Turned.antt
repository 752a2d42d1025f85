-- Several turns, one after another.
use Rattle.std.proofs.Common.{refl, sym, ◌∙◌, ap, subst, ◌≡◌, ℕ, ◌<◌, ◌≤◌, ◌⊎◌, inl, inr, Bool, true, false, nat_lt, List, [], ◌∷◌, ◌++◌, append_assoc, append-nil, length, arith, Option, Some, None, Ok, Err}
use Rattle.std.specs.List.{flat_map}
use Rattle.std.proofs.lemmas.Bool.Decides.{nat_tests}
use Rattle.std.specs.Result.{IfOk, IfErr, OnOk, MatchResult}
use Rattle.pres_log.specs.declared.entry.Batch.{Batch}
use Rattle.pres_log.specs.Logs.{Log}
use Rattle.pres_server.specs.declared.input.Input.{Input}
use Rattle.pres_server.specs.Turns.{Decision, refused, quiet, makes, is_made}
use Rattle.pres_server.specs.Sums.{Sum, sum_with}
use Rattle.pres_server.specs.SumStates.{SumState}
use Rattle.pres_server.specs.Histories.{History, with_batch, with_batches}
use Rattle.pres_server.specs.SumAnswers.{answers_by}
use Rattle.pres_server.specs.SumTurns.{turn_by, moment_by, after_commit}
use Rattle.pres_server.specs.Groups.{MakesBatch, MakeBatches, state_from, answers_each}
use Rattle.pres_faults.specs.declared.engine_fault.EngineFault.{EngineFault}
use Rattle.pres_faults.specs.declared.engine_fault.EngineFault.TheVariants as why
use Rattle.pres_faults.specs.declared.saved_fault.SavedFault.{SavedFault}
use Rattle.pres_keeper.specs.Keepers.{IsOfStore}
use Rattle.pres_keeper.specs.Engines.{Runs, IsHistoryOf}
use Rattle.pres_keeper.specs.EngineTurns.{IsDone, IsTurnDone, IsTurnRefused, history_made, history_turned, history_left}
use Rattle.pres_keeper.specs.EngineTurns as engine
use Rattle.pres_keeper.proofs.Behind.{no_batches, batches_more}
use Rattle.pres_keeper.specs.EngineGroups.{TurnResult, TurnPart, alone, unkept, gone, inputs_in, results_in, answered, refusals, all_refused, IsPart, AreParts, AreTurns, KeepsOn, TurnsLead, TurnsFirst}

flat_more : {A B : Type 0} (f : A → List B) (xs ys : List A) → flat_map f (xs ++ ys) ≡ flat_map f xs ++ flat_map f ys
flat_more f [] ys = refl
flat_more f (x ∷ xs) ys = ap (λ l. f x ++ l) (flat_more f xs ys) ∙ sym (append_assoc (f x) (flat_map f xs) (flat_map f ys))

-- ---- one after another

parts_then : (ps qs : List TurnPart) (now : ℕ) (a b c : Option SumState) (history mid end : History) → AreParts ps now a history b mid → AreParts qs now b mid c end → AreParts (ps ++ qs) now a history c end
parts_then [] qs now a b c history mid end first more = subst (λ (x : Option SumState × History). AreParts qs now x.0 x.1 c end) (λ i. (first.0 i, first.1 i)) more
parts_then (p ∷ ps) qs now a b c history mid end first more = (first.0, first.1, first.2, parts_then ps qs now first.0 b c first.1 mid end first.3 more)

pub turns_then : (is js : List Input) (rs qs : List TurnResult) (now : ℕ) (a b c : Option SumState) (history mid end : History) → AreTurns is rs now a history b mid → AreTurns js qs now b mid c end → AreTurns (is ++ js) (rs ++ qs) now a history c end
turns_then is js rs qs now a b c history mid end first more = record {
  parts = first.parts ++ more.parts;
  in_order = (λ i. first.in_order i ++ more.in_order i) ∙ sym (flat_more inputs_in first.parts more.parts);
  each = (λ i. first.each i ++ more.each i) ∙ sym (flat_more results_in first.parts more.parts);
  lead = parts_then first.parts more.parts now a b c history mid end first.lead more.lead;
}

-- ---- none, and one part

pub no_turns : (now : ℕ) (a : Option SumState) (history : History) → AreTurns [] [] now a history a history
no_turns now a history = record { parts = []; in_order = refl; each = refl; lead = (refl, refl) }

pub one_part : (p : TurnPart) (now : ℕ) (a b : Option SumState) (history end : History) → IsPart p now a history b end → AreTurns (inputs_in p) (results_in p) now a history b end
one_part p now a b history end is = record {
  parts = p ∷ [];
  in_order = sym (append-nil (inputs_in p));
  each = sym (append-nil (results_in p));
  lead = (b, end, is, (refl, refl));
}

-- ---- a group that is done

-- the turn of a batch is done
made_done : (s : SumState) (history : History) (input : Input) (now : ℕ) (b : Batch) → MakesBatch s input now b
    → IsPart (alone input (Ok (answers_by s.sum b.entries))) now (Some s) history (Some (after_commit s b.moment b.entries)) (with_batch history b)
made_done s history input now b made =
    let moment = moment_by s.sum now in
    let same : b.moment ≡ moment = ap (λ (x : Batch). x.moment) made.is in (
      subst (λ d. IsDone d s moment input (Some (after_commit s b.moment b.entries)) (answers_by s.sum b.entries)) (sym made.turn)
          (ap (λ m. Some (after_commit s m b.entries)) same, refl),
      ap (with_batch history) made.is ∙ ap (history_made history s.sum moment) (sym made.turn),
    )

-- those of its batches, one after another
pub group_done : (inputs : List Input) (batches : Log) (s : SumState) (history : History) (now : ℕ) → MakeBatches s inputs now batches
    → AreTurns inputs (answered (answers_each s.sum batches)) now (Some s) history (Some (state_from s batches)) (with_batches history batches)
group_done [] [] s history now made = subst (λ l. AreTurns [] [] now (Some s) history (Some s) l) (sym (no_batches history)) (no_turns now (Some s) history)
group_done [] (b ∷ batches) s history now made = absurd made
group_done (input ∷ inputs) [] s history now made = absurd made
group_done (input ∷ inputs) (b ∷ batches) s history now made =
    let next = after_commit s b.moment b.entries in
    let result : TurnResult = Ok (answers_by s.sum b.entries) in
    let more = answered (answers_each next.sum batches) in
    let end = Some (state_from next batches) in
    turns_then (input ∷ []) inputs (result ∷ []) more now (Some s) (Some next) end history (with_batch history b) (with_batches history (b ∷ batches))
    (one_part (alone input result) now (Some s) (Some next) history (with_batch history b) (made_done s history input now b made.0))
    (subst (λ l. AreTurns inputs more now (Some next) (with_batch history b) end l) (batches_more history b batches) (group_done inputs batches next (with_batch history b) now made.1))

-- an input makes a batch each
pub as_many : (inputs : List Input) (batches : Log) (s : SumState) (now : ℕ) → MakeBatches s inputs now batches → length inputs ≡ length batches
as_many [] [] s now made = refl
as_many [] (b ∷ batches) s now made = absurd made
as_many (input ∷ inputs) [] s now made = absurd made
as_many (input ∷ inputs) (b ∷ batches) s now made = let rest = as_many inputs batches (after_commit s b.moment b.entries) now made.1 in omega arith

pub refused_each : (inputs : List Input) (f : EngineFault) → refusals (length inputs) f ≡ all_refused f inputs
refused_each [] f = refl
refused_each (input ∷ inputs) f = ap (λ l. Err f ∷ l) (refused_each inputs f)

-- ---- what the keeper holds

runs_all : (P : Type 0) → P → (o : Option SumState) → Runs (λ _. P) o
runs_all P p None = tt
runs_all P p (Some s) = p

module _ {A : Type 0} (works : A → Type 0) (keeps : A → History → Type 0) (outlasts : A → History → Type 0) where
  -- what is kept goes on, over two steps
  pub keeps_then : (x y z : A) (b c : Option SumState) (history mid end : History) → (works y → works x) → (works z → works y)
      → KeepsOn works keeps outlasts x y b history mid → KeepsOn works keeps outlasts y z c mid end → KeepsOn works keeps outlasts x z c history end
  keeps_then x y z b c history mid end w v first more = record {
    kept = λ work k. more.kept work (first.kept (v work) k);
    durable = λ k l. more.durable (λ work. first.kept work (k (w work))) (reach k l);
    lasts = λ k l. more.lasts (λ work. first.kept work (k (w work))) (reach k l);
  } where
    held : (o : Option SumState) → Runs (λ _. outlasts y mid) o → (o ≡ None → outlasts y mid) → outlasts y mid
    held None runs down = down refl
    held (Some s) runs down = runs

    before : (works x → keeps x history) → outlasts x history ⊎ (length history.log < length mid.log) → outlasts y mid
    before k l = held b (first.durable k l) (first.lasts k l)

    reach : (works x → keeps x history) → outlasts x history ⊎ (length history.log < length end.log) → outlasts y mid ⊎ (length mid.log < length end.log)
    reach k (inl o) = inl (before k (inl o))
    reach k (inr l) = elim (near (length history.log) (length mid.log) (length end.log) l) [
      | inl h ↦ inl (before k (inr h))
      | inr h ↦ inr h
    ] where
      near : (a b n : ℕ) → a < n → (a < b) ⊎ (b < n)
      near a b n h = by (nat_lt a b) refl where
        by : (c : Bool) → nat_lt a b ≡ c → (a < b) ⊎ (b < n)
        by true e = inl (grind (arith, nat_tests))
        by false e = let low : b ≤ a = grind (arith, nat_tests) in inr (omega arith)

  -- ---- a turn alone

  made_lasts : (x y : A) (d : Decision) (history : History) (sum : Sum) (m : ℕ) → (is_made d ≡ true → outlasts y (history_made history sum m d)) → (outlasts x history → outlasts y history)
      → outlasts x history ⊎ (length history.log < length (history_made history sum m d).log) → outlasts y (history_made history sum m d)
  made_lasts x y (makes es) history sum m f g l = f refl
  made_lasts x y quiet history sum m f g (inl o) = g o
  made_lasts x y quiet history sum m f g (inr l) = absurd (omega arith)
  made_lasts x y (refused e) history sum m f g (inl o) = g o
  made_lasts x y (refused e) history sum m f g (inr l) = absurd (omega arith)

  same_lasts : (x y : A) (history : History) → (outlasts x history → outlasts y history) → outlasts x history ⊎ (length history.log < length history.log) → outlasts y history
  same_lasts x y history g (inl h) = g h
  same_lasts x y history g (inr l) = absurd (omega arith)

  -- the history is as before
  pub same_history : (x y : A) (o : Option SumState) (history : History) → (works y → keeps x history → keeps y history) → (outlasts x history → outlasts y history) → KeepsOn works keeps outlasts x y o history history
  same_history x y o history kept lasts = record {
    kept = kept;
    durable = λ k l. runs_all (outlasts y history) (same_lasts x y history lasts l) o;
    lasts = λ k l _. same_lasts x y history lasts l;
  }

  -- what `turn` says, as one turn among several
  pub alone_turn : (x y : A) (a b : Option SumState) (input : Input) (now : ℕ) (r : TurnResult) (history : History)
      → IfOk r (IsTurnDone a input now b) → IfErr r (IsTurnRefused a input now b) → IsHistoryOf history a
      → OnOk r (IsHistoryOf (history_turned history a input now) b)
      → (works y → keeps x history → MatchResult r (λ _. keeps y (history_turned history a input now)) (λ e. keeps y (history_left history a input now e)))
      → ((works x → keeps x history) → engine.MakesBatch a input now → OnOk r (outlasts y (history_turned history a input now)))
      → ((works x → keeps x history) → engine.MakesBatch a input now → IfErr r (λ e. e ≡ why.Down → outlasts y (history_turned history a input now)))
      → (outlasts x history → outlasts y history)
      → TurnsLead (KeepsOn works keeps outlasts x y b history) a history (input ∷ []) now b (r ∷ [])
  alone_turn x y None b input now (Ok outs) history done fails leads_to leads kept durable down lasts = absurd done
  alone_turn x y (Some s) b input now (Ok outs) history done fails leads_to leads kept durable down lasts = record {
    end = history_turned history (Some s) input now;
    turns = one_part (alone input (Ok outs)) now (Some s) b history (history_turned history (Some s) input now) (done, refl);
    leads = leads;
    held = record {
      kept = kept;
      durable = λ k l. runs_all _ (made_lasts x y (turn_by s input now) history s.sum (moment_by s.sum now) (λ m. durable k m) lasts l) b;
      lasts = λ k l _. made_lasts x y (turn_by s input now) history s.sum (moment_by s.sum now) (λ m. durable k m) lasts l;
    };
  }
  alone_turn x y a b input now (Err (why.Refused f)) history done fails leads_to leads kept durable down lasts = record {
    end = history;
    turns = one_part (alone input (Err (why.Refused f))) now a b history history (fails, refl);
    leads = subst (IsHistoryOf history) (sym fails.0) leads_to;
    held = same_history x y b history kept lasts;
  }
  alone_turn x y a b input now (Err why.Memory) history done fails leads_to leads kept durable down lasts = record {
    end = history;
    turns = one_part (alone input (Err why.Memory)) now a b history history (fails, refl);
    leads = subst (IsHistoryOf history) (sym fails.0) leads_to;
    held = same_history x y b history kept lasts;
  }
  alone_turn x y a b input now (Err (why.Keeper f)) history done fails leads_to leads kept durable down lasts = record {
    end = history;
    turns = one_part (alone input (Err (why.Keeper f))) now a b history history (fails, refl);
    leads = subst (IsHistoryOf history) (sym fails.0) leads_to;
    held = same_history x y b history kept lasts;
  }
  alone_turn x y None b input now (Err why.Down) history done fails leads_to leads kept durable down lasts = record {
    end = history;
    turns = one_part (alone input (Err why.Down)) now None b history history (fails, refl);
    leads = subst (IsHistoryOf history) (sym fails.0) tt;
    held = same_history x y b history kept lasts;
  }
  alone_turn x y (Some s) b input now (Err why.Down) history done fails leads_to leads kept durable down lasts = record {
    end = history_turned history (Some s) input now;
    turns = one_part (alone input (Err why.Down)) now (Some s) b history (history_turned history (Some s) input now) (fails, refl);
    leads = subst (IsHistoryOf (history_turned history (Some s) input now)) (sym fails.0) tt;
    held = record {
      kept = kept;
      durable = λ k l. runs_all _ (made_lasts x y (turn_by s input now) history s.sum (moment_by s.sum now) (λ m. down k m refl) lasts l) b;
      lasts = λ k l _. made_lasts x y (turn_by s input now) history s.sum (moment_by s.sum now) (λ m. down k m refl) lasts l;
    };
  }

-- ---- what was done of a queue

module _ {A : Type 0} (works : A → Type 0) (keeps : A → History → Type 0) (outlasts : A → History → Type 0) where
  -- nothing so far
  pub none_first : (x : A) (a : Option SumState) (history : History) (inputs : List Input) (before : List TurnResult) (now : ℕ) → IsHistoryOf history a
      → TurnsFirst (KeepsOn works keeps outlasts x x a history) a history inputs before now a inputs before
  none_first x a history inputs before now leads_to = record {
    taken = [];
    results = [];
    queue = refl;
    told = sym (append-nil before);
    turns = record {
      end = history;
      turns = no_turns now a history;
      leads = leads_to;
      held = same_history works keeps outlasts x x a history (λ _ k. k) (λ o. o);
    };
  }

  -- and some more of it
  pub more_first : (x y z : A) (a b c : Option SumState) (history : History) (inputs left rest : List Input) (before told all : List TurnResult) (now : ℕ) → (works y → works x) → (works z → works y)
      → (first : TurnsFirst (KeepsOn works keeps outlasts x y b history) a history inputs before now b left told)
      → TurnsFirst (KeepsOn works keeps outlasts y z c first.turns.end) b first.turns.end left told now c rest all
      → TurnsFirst (KeepsOn works keeps outlasts x z c history) a history inputs before now c rest all
  more_first x y z a b c history inputs left rest before told all now w v first more = record {
    taken = first.taken ++ more.taken;
    results = first.results ++ more.results;
    queue = first.queue ∙ ap (λ l. first.taken ++ l) more.queue ∙ sym (append_assoc first.taken more.taken rest);
    told = more.told ∙ ap (λ l. l ++ more.results) first.told ∙ append_assoc before first.results more.results;
    turns = record {
      end = more.turns.end;
      turns = turns_then first.taken more.taken first.results more.results now a b c history first.turns.end more.turns.end first.turns.turns more.turns.turns;
      leads = more.turns.leads;
      held = keeps_then works keeps outlasts x y z b c history first.turns.end more.turns.end w v first.turns.held more.turns.held;
    };
  }

  -- the first ones are the first of a longer queue
  pub first_of : (x y : A) (a b : Option SumState) (history : History) (inputs some rest : List Input) (before after : List TurnResult) (now : ℕ) → inputs ≡ some ++ rest
      → TurnsFirst (KeepsOn works keeps outlasts x y b history) a history some before now b [] after
      → TurnsFirst (KeepsOn works keeps outlasts x y b history) a history inputs before now b rest after
  first_of x y a b history inputs some rest before after now e first = record {
    taken = first.taken;
    results = first.results;
    queue = e ∙ ap (λ l. l ++ rest) (first.queue ∙ append-nil first.taken);
    told = first.told;
    turns = first.turns;
  }

  -- all of it is done
  pub all_first : (x y : A) (a b : Option SumState) (history : History) (inputs : List Input) (after : List TurnResult) (now : ℕ)
      → TurnsFirst (KeepsOn works keeps outlasts x y b history) a history inputs [] now b [] after
      → TurnsLead (KeepsOn works keeps outlasts x y b history) a history inputs now b after
  all_first x y a b history inputs after now first =
      let taken : first.taken ≡ inputs = sym (first.queue ∙ append-nil first.taken) in
      let results : first.results ≡ after = sym first.told in
      subst (λ (p : List Input × List TurnResult). TurnsLead (KeepsOn works keeps outlasts x y b history) a history p.0 now b p.1) (λ i. (taken i, results i)) first.turns

  -- ---- a group

  -- one that is done
  pub done_group : (x y : A) (s : SumState) (b : Option SumState) (history : History) (batches : Log) (inputs : List Input) (before after : List TurnResult) (now : ℕ) → MakeBatches s inputs now batches
      → b ≡ Some (state_from s batches) → after ≡ before ++ answered (answers_each s.sum batches) → IsHistoryOf (with_batches history batches) b
      → (works y → keeps x history → keeps y (with_batches history batches)) → ((works x → keeps x history) → outlasts y (with_batches history batches))
      → TurnsFirst (KeepsOn works keeps outlasts x y b history) (Some s) history inputs before now b [] after
  done_group x y s b history batches inputs before after now made server told leads kept durable = record {
    taken = inputs;
    results = answered (answers_each s.sum batches);
    queue = sym (append-nil inputs);
    told = told;
    turns = record {
      end = with_batches history batches;
      turns = subst (λ (o : Option SumState). AreTurns inputs (answered (answers_each s.sum batches)) now (Some s) history o (with_batches history batches)) (sym server) (group_done inputs batches s history now made);
      leads = leads;
      held = record { kept = kept; durable = λ k l. runs_all (outlasts y (with_batches history batches)) (durable k) b; lasts = λ k l _. durable k };
    };
  }

  -- one that is refused
  pub refused_group : (x y : A) (s : SumState) (b : Option SumState) (history : History) (batches : Log) (inputs : List Input) (before after : List TurnResult) (now : ℕ) (fault : SavedFault) → MakeBatches s inputs now batches
      → IsOfStore fault → b ≡ Some s → after ≡ before ++ refusals (length batches) (why.Keeper fault) → IsHistoryOf history (Some s)
      → (works y → keeps x history → keeps y history) → (outlasts x history → outlasts y history)
      → TurnsFirst (KeepsOn works keeps outlasts x y b history) (Some s) history inputs before now b [] after
  refused_group x y s b history batches inputs before after now fault made store server told leads_to kept lasts = record {
    taken = inputs;
    results = all_refused (why.Keeper fault) inputs;
    queue = sym (append-nil inputs);
    told = told ∙ ap (λ l. before ++ l) (ap (λ n. refusals n (why.Keeper fault)) (sym (as_many inputs batches s now made)) ∙ refused_each inputs (why.Keeper fault));
    turns = record {
      end = history;
      turns = one_part (unkept inputs fault) now (Some s) b history history (batches, made, store, server, refl);
      leads = subst (IsHistoryOf history) (sym server) leads_to;
      held = same_history works keeps outlasts x y b history kept lasts;
    };
  }

  -- one that is kept, but memory is refused then
  pub gone_group : (x y : A) (s : SumState) (b : Option SumState) (history : History) (batches : Log) (inputs : List Input) (before after : List TurnResult) (now : ℕ) → MakeBatches s inputs now batches
      → b ≡ None → after ≡ before ++ refusals (length batches) why.Down
      → (works y → keeps x history → keeps y (with_batches history batches)) → ((works x → keeps x history) → outlasts y (with_batches history batches))
      → TurnsFirst (KeepsOn works keeps outlasts x y b history) (Some s) history inputs before now b [] after
  gone_group x y s b history batches inputs before after now made server told kept durable = record {
    taken = inputs;
    results = all_refused why.Down inputs;
    queue = sym (append-nil inputs);
    told = told ∙ ap (λ l. before ++ l) (ap (λ n. refusals n why.Down) (sym (as_many inputs batches s now made)) ∙ refused_each inputs why.Down);
    turns = record {
      end = with_batches history batches;
      turns = one_part (gone inputs) now (Some s) b history (with_batches history batches) (batches, made, server, refl);
      leads = subst (IsHistoryOf (with_batches history batches)) (sym server) tt;
      held = record { kept = kept; durable = λ k l. runs_all (outlasts y (with_batches history batches)) (durable k) b; lasts = λ k l _. durable k };
    };
  }

-- as many answers as batches
pub each_counted : (batches : Log) (sum : Sum) → length (answers_each sum batches) ≡ length batches
each_counted [] sum = refl
each_counted (b ∷ batches) sum = let rest = each_counted batches (sum_with sum b) in omega arith
