-- What holds of an engine after a call.
use Rattle.std.proofs.Common.{◌≡◌, ℕ, Option, Some, sym, subst}
use Rattle.pres_server.specs.SumStates.{SumState}
use Rattle.pres_server.specs.Histories.{IsSum, History, LeadsTo, begun_at}
use Rattle.pres_keeper.specs.Keepers.{SomeHistory, KeepsOneNull}
use Rattle.pres_keeper.specs.Engines.{Runs, EngineInvariant}
use Rattle.pres_keeper.proofs.Behind.{leads_begun}

module _ {A : Type 0} (ready : A → Type 0) (works : A → Type 0) (keeps : A → History → Type 0) where
  -- this server runs
  pub runs_so : (keeper : A) (s : SumState) (server : Option SumState) (number base : ℕ) → server ≡ Some s → ready keeper → SomeHistory (λ history. works keeper → keeps keeper history) s.sum → IsSum s.sum → KeepsOneNull s.sum → number ≡ s.sum.number
      → EngineInvariant ready works keeps (record { keeper = keeper; server = server; number = number; base_number = base })
  runs_so keeper s server number base is is_ready kept summed nulls counted = record {
    is_ready = is_ready;
    kept = subst (Runs (λ s. SomeHistory (λ history. works keeper → keeps keeper history) s.sum)) (sym is) kept;
    summed = subst (Runs (λ s. IsSum s.sum)) (sym is) summed;
    nulls = subst (Runs (λ s. KeepsOneNull s.sum)) (sym is) nulls;
    counted = subst (Runs (λ s. number ≡ s.sum.number)) (sym is) counted;
  }

  -- a history that begins at the server's sum leads there
  pub kept_anew : (old new : A) (s : SumState) (server : Option SumState) → server ≡ Some s → Runs (λ s. IsSum s.sum) server → Runs (λ s. SomeHistory (λ history. works old → keeps old history) s.sum) server
      → (works new → works old) → ((history : History) → works new → keeps old history → LeadsTo history s.sum → keeps new (begun_at s.sum))
      → Runs (λ s. SomeHistory (λ history. works new → keeps new history) s.sum) server
  kept_anew old new s server is summed kept worked ok =
      let was : SomeHistory (λ history. works old → keeps old history) s.sum = subst (Runs (λ s. SomeHistory (λ history. works old → keeps old history) s.sum)) is kept in
      let anew : SomeHistory (λ history. works new → keeps new history) s.sum = record {
        history = begun_at s.sum;
        leads = leads_begun s.sum (subst (Runs (λ s. IsSum s.sum)) is summed);
        held = λ w. ok was.history w (was.held (worked w)) was.leads;
      } in
      subst (Runs (λ s. SomeHistory (λ history. works new → keeps new history) s.sum)) (sym is) anew
