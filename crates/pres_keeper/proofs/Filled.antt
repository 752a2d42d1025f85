-- Inputs that join a group, one after another.
use Rattle.std.proofs.Common.{refl, sym, ◌∙◌, ap, subst, ◌≡◌, ℕ, List, [], ◌∷◌, ◌++◌, append_assoc, append-nil}
use Rattle.pres_log.specs.declared.entry.Batch.{Batch}
use Rattle.pres_log.specs.Logs.{Log}
use Rattle.pres_server.specs.declared.input.Input.{Input}
use Rattle.pres_server.specs.SumStates.{SumState}
use Rattle.pres_server.specs.SumTurns.{after_commit}
use Rattle.pres_server.specs.Groups.{PendingGroup, MakesBatch, MakeBatches, Joins, state_from, server_after, begun, joined}
use Rattle.pres_keeper.specs.EngineGroups.{Fills}

state_then : (first more : Log) (s : SumState) → state_from s (first ++ more) ≡ state_from (state_from s first) more
state_then [] more s = refl
state_then (b ∷ first) more s = state_then first more (after_commit s b.moment b.entries)

made_more : (inputs : List Input) (batches : Log) (s : SumState) (input : Input) (now : ℕ) (b : Batch) → MakeBatches s inputs now batches → MakesBatch (state_from s batches) input now b
    → MakeBatches s (inputs ++ input ∷ []) now (batches ++ b ∷ [])
made_more [] [] s input now b made more = (more, tt)
made_more [] (a ∷ batches) s input now b made more = absurd made
made_more (i ∷ inputs) [] s input now b made more = absurd made
made_more (i ∷ inputs) (a ∷ batches) s input now b made more = (made.0, made_more inputs batches (after_commit s a.moment a.entries) input now b made.1 more)

-- none so far
pub fills_none : (group : PendingGroup) (inputs : List Input) (now : ℕ) → Fills group inputs now group inputs
fills_none group inputs now = record {
  taken = [];
  batches = [];
  queue = refl;
  made = tt;
  group = λ i. record { state = group.state; batches = sym (append-nil group.batches) i };
}

-- and one more
pub fills_more : (old mid new : PendingGroup) (inputs left rest : List Input) (input : Input) (now : ℕ) → Fills old inputs now mid left → left ≡ input ∷ rest → Joins mid input now new → Fills old inputs now new rest
fills_more old mid new inputs left rest input now f next joins =
    let b = joins.0 in
    let there : server_after mid ≡ state_from (server_after old) f.batches = ap server_after f.group ∙ state_then old.batches f.batches old.state in
    record {
      taken = f.taken ++ input ∷ [];
      batches = f.batches ++ b ∷ [];
      queue = f.queue ∙ ap (λ l. f.taken ++ l) next ∙ sym (append_assoc f.taken (input ∷ []) rest);
      made = made_more f.taken f.batches (server_after old) input now b f.made (subst (λ s. MakesBatch s input now b) there joins.1);
      group = joins.2 ∙ ap (λ g. joined g b) f.group ∙ (λ i. record { state = old.state; batches = append_assoc old.batches f.batches (b ∷ []) i });
    }

-- one that doesn't is left
pub fills_left : (old mid new : PendingGroup) (inputs left rest : List Input) (now : ℕ) → Fills old inputs now mid left → left ≡ rest → new ≡ mid → Fills old inputs now new rest
fills_left old mid new inputs left rest now f l m = subst (λ (x : PendingGroup × List Input). Fills old inputs now x.0 x.1) (λ i. (sym m i, l i)) f

-- the batches of a group that begins with one input are those of all that joined
pub all_made : (s : SumState) (begin first all : PendingGroup) (input : Input) (inputs left : List Input) (now : ℕ) → begin ≡ begun s → Joins begin input now first → (f : Fills first inputs now all left)
    → (all.state ≡ s) × MakeBatches s (input ∷ f.taken) now all.batches
all_made s begin first all input inputs left now e joins f =
    let b = joins.0 in
    let is : first ≡ record { state = s; batches = b ∷ [] } = joins.2 ∙ ap (λ g. joined g b) e in
    let made : MakesBatch s input now b = subst (λ g. MakesBatch (server_after g) input now b) e joins.1 in
    let later : MakeBatches (after_commit s b.moment b.entries) f.taken now f.batches = subst (λ g. MakeBatches (server_after g) f.taken now f.batches) is f.made in
    let batches : all.batches ≡ b ∷ f.batches = ap (λ (g : PendingGroup). g.batches) f.group ∙ ap (λ (g : PendingGroup). g.batches ++ f.batches) is in (
      ap (λ (g : PendingGroup). g.state) f.group ∙ ap (λ (g : PendingGroup). g.state) is,
      subst (MakeBatches s (input ∷ f.taken) now) (sym batches) (made, later),
    )
