-- Clients and sessions that are compared.
use Rattle.std.proofs.Common.{refl, sym, ◌∙◌, ap, ◌≡◌, true, false, ◌&&◌, true≢false, ◌==◌, Ordering, Less, Equal, Greater, is_eq}
use Rattle.std.specs.Cmp.Lexicographic.{bytes_decides, nat_list_cmp_total}
use Rattle.std.proofs.lemmas.Bool.{and_parts, and_from, eqb-true, eq-eqb}
use Rattle.pres_ids.specs.declared.id.SessionId.{SessionId}
use Rattle.pres_ids.specs.Ids.{ClientId, same_client, same_session, client_cmp}
use Rattle.std.specs.Cmp.{IsTotalOrder, tied_itself}
use Rattle.std.specs.Ordering.{eq_by_cmp}
use Rattle.std.specs.FinMap.{IsAntisymmetric, slice_cmp-IsAntisymmetric, nat_cmp-IsAntisymmetric}

-- sessions and clients that the tests call the same are equal
pub client_same : (k l : ClientId) → same_client k l ≡ true → k ≡ l
client_same k l e = (bytes_decides k l).0 e

pub client_itself : (k : ClientId) → same_client k k ≡ true
client_itself k = (bytes_decides k k).1 refl

pub client_sym : (k l : ClientId) → same_client k l ≡ same_client l k
client_sym k l = elim (same_client k l) as (λ b. same_client k l ≡ b → b ≡ same_client l k) [
  | true ↦ λ e. sym (client_itself l) ∙ ap (same_client l) (sym (client_same k l e))
  | false ↦ λ e. elim (same_client l k) as (λ b. same_client l k ≡ b → false ≡ b) [
    | true ↦ λ f. sym e ∙ ap (same_client k) (client_same l k f) ∙ client_itself k
    | false ↦ λ f. refl
  ] refl
] refl

pub session_same : (s t : SessionId) → same_session s t ≡ true → s ≡ t
session_same s t e =
    let a = and_parts (same_client s.client t.client && s.incarnation == t.incarnation) _ e in
    let b = and_parts (same_client s.client t.client) _ a.0 in
    let c = client_same s.client t.client b.0 in
    let n = eqb-true s.incarnation t.incarnation b.1 in
    let m = eqb-true s.attempt t.attempt a.1 in
    λ i. record { client = c i; incarnation = n i; attempt = m i }

pub session_itself : (s : SessionId) → same_session s s ≡ true
session_itself s = and_from _ _ (and_from _ _ (client_itself s.client) (eq-eqb s.incarnation s.incarnation refl)) (eq-eqb s.attempt s.attempt refl)

-- ---- the order of clients

pub clients_total : IsTotalOrder client_cmp
clients_total = nat_list_cmp_total

pub clients_apart : IsAntisymmetric client_cmp
clients_apart = slice_cmp-IsAntisymmetric nat_cmp-IsAntisymmetric

pub same_by_cmp : (k l : ClientId) → eq_by_cmp client_cmp k l ≡ same_client k l
same_by_cmp k l = elim (same_client k l) as (λ b. same_client k l ≡ b → eq_by_cmp client_cmp k l ≡ b) [
  | true ↦ λ e. ap (λ x. eq_by_cmp client_cmp x l) (client_same k l e) ∙ ap is_eq (tied_itself clients_total l)
  | false ↦ λ e. elim (eq_by_cmp client_cmp k l) as (λ b. eq_by_cmp client_cmp k l ≡ b → b ≡ false) [
    | true ↦ λ f. absurd (true≢false (sym (ap (same_client k) (sym (clients_apart k l (tie (client_cmp k l) f))) ∙ client_itself k) ∙ e))
    | false ↦ λ f. refl
  ] refl
] refl where
  tie : (o : Ordering) → is_eq o ≡ true → o ≡ Equal
  tie Less h = absurd (true≢false (sym h))
  tie Equal h = refl
  tie Greater h = absurd (true≢false (sym h))

-- ---- the sessions after an entry

abbrev pub by_client : SessionId → ClientId × SessionId
by_client s = (s.client, s)
