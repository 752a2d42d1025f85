-- The orders of sessions and listeners are total, and tie what is equal alone.
use Rattle.std.proofs.Common.{refl, sym, ◌∙◌, ap, ◌≡◌, true, false, ◌&&◌, ◌==◌, true≢false, Ordering, Less, Equal, Greater, is_eq}
use Rattle.std.specs.Ordering.{nat_cmp, ordering_then, eq_by_cmp}
use Rattle.std.specs.Cmp.{IsTotalOrder, then_total, on_total, nat_cmp_total, tied_itself}
use Rattle.std.specs.Cmp.Lexicographic.{nat_list_cmp_total, bytes_decides}
use Rattle.std.specs.FinMap.{IsAntisymmetric, slice_cmp-IsAntisymmetric, nat_cmp-IsAntisymmetric}
use Rattle.std.proofs.lemmas.Bool.{and_parts, and_from, eqb-true, eq-eqb, false_from_ne_true}
use Rattle.pres_tree.specs.Falls.{path_total, path_same as path_apart}
use Rattle.pres_tree.proofs.PathOrder.{path_decides}
use Rattle.pres_ids.specs.Ids.{same_client, same_session, client_cmp}
use Rattle.pres_ids.specs.declared.id.SessionId.{SessionId}
use Rattle.pres_fan.specs.declared.listeners.Listener.{Listener}
use Rattle.pres_fan.specs.Listeners.{session_cmp, listener_cmp, same_listener}

-- two orders one after the other tie what both tie
pub then_ties : (a b : Ordering) → ordering_then a b ≡ Equal → (a ≡ Equal) × (b ≡ Equal)
then_ties Less b e = absurd (true≢false (sym (ap is_eq e)))
then_ties Equal b e = (refl, e)
then_ties Greater b e = absurd (true≢false (sym (ap is_eq e)))

-- ---- sessions

pub session_total : IsTotalOrder session_cmp
session_total = then_total (on_total (λ (s : SessionId). s.client) nat_list_cmp_total) (then_total (on_total (λ (s : SessionId). s.incarnation) nat_cmp_total) (on_total (λ (s : SessionId). s.attempt) nat_cmp_total))

pub session_apart : IsAntisymmetric session_cmp
session_apart s t e =
    let a = then_ties (client_cmp s.client t.client) _ e in
    let b = then_ties (nat_cmp s.incarnation t.incarnation) _ a.1 in
    let c = slice_cmp-IsAntisymmetric nat_cmp-IsAntisymmetric s.client t.client a.0 in
    let n = nat_cmp-IsAntisymmetric s.incarnation t.incarnation b.0 in
    let m = nat_cmp-IsAntisymmetric s.attempt t.attempt b.1 in
    λ i. record { client = c i; incarnation = n i; attempt = m i }

pub session_same : (s t : SessionId) → same_session s t ≡ true → s ≡ t
session_same s t e =
    let a = and_parts (same_client s.client t.client && s.incarnation == t.incarnation) _ e in
    let b = and_parts (same_client s.client t.client) _ a.0 in
    let c = (bytes_decides s.client t.client).0 b.0 in
    let n = eqb-true s.incarnation t.incarnation b.1 in
    let m = eqb-true s.attempt t.attempt a.1 in
    λ i. record { client = c i; incarnation = n i; attempt = m i }

pub session_itself : (s : SessionId) → same_session s s ≡ true
session_itself s = and_from _ _ (and_from _ _ ((bytes_decides s.client s.client).1 refl) (eq-eqb s.incarnation s.incarnation refl)) (eq-eqb s.attempt s.attempt refl)

-- the test of sessions is the tie of their order
pub same_by_cmp : (s t : SessionId) → eq_by_cmp session_cmp s t ≡ same_session s t
same_by_cmp s t = elim (same_session s t) as (λ b. same_session s t ≡ b → eq_by_cmp session_cmp s t ≡ b) [
  | true ↦ λ e. ap (λ x. eq_by_cmp session_cmp x t) (session_same s t e) ∙ ap is_eq (tied_itself session_total t)
  | false ↦ λ e. false_from_ne_true _ (λ k. true≢false (sym (ap (same_session s) (sym (session_apart s t (tie _ k))) ∙ session_itself s) ∙ e))
] refl where
  tie : (o : Ordering) → is_eq o ≡ true → o ≡ Equal
  tie Less h = absurd (true≢false (sym h))
  tie Equal h = refl
  tie Greater h = absurd (true≢false (sym h))

-- ---- listeners

pub listener_total : IsTotalOrder listener_cmp
listener_total = then_total (on_total (λ (l : Listener). l.session) session_total) (on_total (λ (l : Listener). l.path) path_total)

pub listener_apart : IsAntisymmetric listener_cmp
listener_apart k l e =
    let a = then_ties (session_cmp k.session l.session) _ e in
    let s = session_apart k.session l.session a.0 in
    let p = path_apart k.path l.path a.1 in
    λ i. record { session = s i; path = p i }

pub listener_same : (k l : Listener) → same_listener k l ≡ true → k ≡ l
listener_same k l e =
    let a = and_parts (same_session k.session l.session) _ e in
    let s = session_same k.session l.session a.0 in
    let p = (path_decides k.path l.path).0 a.1 in
    λ i. record { session = s i; path = p i }

pub listener_itself : (l : Listener) → same_listener l l ≡ true
listener_itself l = and_from _ _ (session_itself l.session) ((path_decides l.path l.path).1 refl)
