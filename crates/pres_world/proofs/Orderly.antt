-- Writes, sessions and their ends stand in order in every legal log.
use Rattle.std.proofs.Common.{refl, sym, ◌∙◌, ap, subst, ◌≡◌, ℕ, zero, suc, List, Some, arith, slice_get, take}
use Rattle.pres_log.specs.declared.entry.Entry.TheVariants as entry
use Rattle.pres_log.specs.Logs.{Log, entries, entries_before, item_at}
use Rattle.pres_history.specs.LegalLog.{IsLegal}
use Rattle.pres_history.proofs.LegalLogs.{ends_are_due}
use Rattle.std.specs.List.{AllByRecursion}
use Rattle.pres_history.specs.SessionPlans.{plan}
use Rattle.pres_world.specs.Orderly.{WritesStand, SessionsStand, EndsStand, CancelsStand}
use Rattle.pres_world.proofs.Cancelled.{IsOther, cancels_stand}
use Rattle.pres_world.proofs.Backed.{contained}
use Rattle.pres_world.proofs.Stands.{none_or_some, stands_may, ends_once, op_once, op_order}
use Rattle.pres_world.proofs.SessionOrder.{earlier_first}

-- an item that is numbered from 1 on, and its place
pub place : {A : Type 0} (xs : List A) (k : ℕ) (x : A) → item_at xs k ≡ Some x → (i : ℕ) × (k ≡ suc i) × (slice_get xs i ≡ Some x)
place xs zero x at = absurd (none_or_some x at)
place xs (suc i) x at = (i, refl, at)

pub writes_stand : (log : Log) → IsLegal log → WritesStand log
writes_stand log legal = record {
  once = λ s t j k q p n o o' r r' a b same.
      let x = place (entries log) j _ a in
      let y = place (entries log) k _ b in
      x.1 ∙ ap suc (op_once (entries log) (stands_may log legal) s t x.0 y.0 q p n o o' r r' x.2 y.2 same) ∙ sym y.1;
  in_order = λ s t j k q p n m o o' r r' a b same less.
      let x = place (entries log) j _ a in
      let y = place (entries log) k _ b in
      let is = op_order (entries log) (stands_may log legal) s t x.0 y.0 q p n m o o' r r' x.2 y.2 same less in
      let xs = x.1 in
      let ys = y.1 in
      omega (arith, is, xs, ys);
}

pub sessions_stand : (log : Log) → IsLegal log → SessionsStand log
sessions_stand log legal j k e f a b same earlier =
    let u = place (entries log) j e a in
    let v = place (entries log) k f b in
    let is = earlier_first log legal u.0 v.0 e f u.2 v.2 same earlier in
    let us = u.1 in
    let vs = v.1 in
    omega (arith, is, us, vs)

pub ends_stand : (log : Log) → IsLegal log → EndsStand log
ends_stand log legal = record {
  once = λ s j k q q' y y' rows rows' a b.
      let u = place (entries log) j _ a in
      let v = place (entries log) k _ b in
      u.1 ∙ ap suc (ends_once (entries log) (stands_may log legal) s u.0 v.0 q q' y y' rows rows' u.2 v.2) ∙ sym v.1;
  are_due = λ earlier later batch s q y rows more is first. ends_are_due earlier later batch (subst IsLegal (sym is) legal) s q y rows more first;
  come_first = λ s j k q y rows e a b same earlier. sessions_stand log legal j k (entry.Ended s q y rows) e a b same earlier;
}

pub cancels_undone : (log : Log) → IsLegal log → CancelsStand log
cancels_undone log legal s j k q p e y rows row a b there is =
    let u = place (entries log) j _ a in
    let v = place (entries log) k _ b in
    let before : take v.0 (entries log) ≡ entries_before log k = let ks = v.1 in ap (λ n. take n (entries log)) (omega (arith, ks)) in
    contained (IsOther q p) (plan s (entries_before log k)) row (subst (λ es. AllByRecursion (IsOther q p) (plan s es)) before (cancels_stand log legal s u.0 v.0 q p e y rows u.2 v.2)) there is
