-- Pushes one after another.
use Rattle.std.proofs.Common.{refl, sym, ◌∙◌, ap, subst, ◌≡◌, ℕ, List, [], ◌∷◌, ◌++◌, map, filter, length, Bool, true, false, cond, ◌==◌, append_assoc, arith}
use Rattle.std.specs.List.Sorted.{IsStrictlySortedBy}
use Rattle.std.specs.Ordering.{is_lt, eq_by_cmp}
use Rattle.std.specs.BTreeMap.{get, Updates}
use Rattle.std.proofs.lemmas.Bool.{and_from, eqb-true}
use Rattle.std.proofs.lemmas.Map.Keys.{sorted_head, sorted_tail}
use Rattle.pres_tree.specs.declared.scalar.Scalar.{Scalar}
use Rattle.pres_tree.specs.Paths.{Path, path_cmp}
use Rattle.pres_tree.specs.Rows.{Rows}
use Rattle.pres_write.specs.Basics.{BasicWrite}
use Rattle.pres_wire.specs.declared.down.Down.{Down}
use Rattle.pres_ids.specs.Ids.{ClientId, client_cmp, same_client}
use Rattle.pres_wire.specs.Values.{Rising}
use Rattle.pres_fan.specs.declared.listeners.Listener.{Listener}
use Rattle.pres_fan.specs.Listeners.{is_touched, by_session, touched}
use Rattle.pres_server.specs.declared.client_sessions.ClientSessions.{ClientSessions}
use Rattle.pres_server.specs.Answering.{shown}
use Rattle.pres_server.specs.InternalSessions.{sent_one}
use Rattle.pres_server.specs.InternalPushes.{TouchedSession, Standing, standing, after_push, push_to, pushes}
use Rattle.pres_server.proofs.Clients.{client_same}
use Rattle.pres_server.proofs.Clients.{same_by_cmp}

-- what stands at paths that rise
pub shown_rises : (tree : Rows Scalar) (paths : List Path) → IsStrictlySortedBy path_cmp paths → Rising (map (shown tree) paths)
shown_rises tree [] h = refl
shown_rises tree (p ∷ []) h = refl
shown_rises tree (p ∷ q ∷ paths) h = and_from _ _ (ap is_lt (sorted_head path_cmp p (q ∷ paths) h).0) (shown_rises tree (q ∷ paths) (sorted_tail path_cmp p (q ∷ paths) h))

-- the places after the Push are those that the map says
pub stands_after : (t : TouchedSession) (old new : ClientSessions) → Updates client_cmp old.live new.live t.0.client (sent_one (get client_cmp old.live t.0.client)) → standing new ≡ after_push (standing old) t
stands_after t old new step = λ i c. each c i where
  each : (c : ClientId) → standing new c ≡ after_push (standing old) t c
  each c = step.0 c ∙ by (same_client t.0.client c) refl where
    by : (b : Bool) → same_client t.0.client c ≡ b → cond (eq_by_cmp client_cmp t.0.client c) (sent_one (standing old t.0.client)) (standing old c) ≡ after_push (standing old) t c
    by true k =
        ap (λ b. cond b (sent_one (standing old t.0.client)) (standing old c)) (same_by_cmp t.0.client c ∙ k)
        ∙ ap (λ x. sent_one (standing old x)) (client_same t.0.client c k)
        ∙ sym (ap (λ b. cond b (sent_one (standing old c)) (standing old c)) k)
    by false k =
        ap (λ b. cond b (sent_one (standing old t.0.client)) (standing old c)) (same_by_cmp t.0.client c ∙ k)
        ∙ sym (ap (λ b. cond b (sent_one (standing old c)) (standing old c)) k)

-- what is left to be sent
pub pushed_next : (z : ℕ) (tree : Rows Scalar) (live : Standing) (t : TouchedSession) (more : List TouchedSession) (outs next : List Down) (m : Down) → push_to z tree live t ≡ m ∷ [] → next ≡ outs ++ m ∷ []
    → next ++ pushes z tree (after_push live t) more ≡ outs ++ pushes z tree live (t ∷ more)
pushed_next z tree live t more outs next m k e =
    let rest : List Down = pushes z tree (after_push live t) more in
    subst (λ l. l ++ rest ≡ outs ++ (push_to z tree live t ++ rest)) (sym (e ∙ ap (λ l. outs ++ l) (sym k))) (append_assoc outs (push_to z tree live t) rest)

-- no writes touch nobody
none_hit : (listeners : List Listener) → filter (λ l. is_touched [] l.path) listeners ≡ []
none_hit [] = refl
none_hit (l ∷ listeners) = none_hit listeners

pub nobody_touched : (writes : List BasicWrite) (listeners : List Listener) → writes ≡ [] → touched writes listeners ≡ []
nobody_touched writes listeners e = ap (λ ws. touched ws listeners) e ∙ ap by_session (none_hit listeners)

pub no_writes : (writes : List BasicWrite) → (length writes == 0) ≡ true → writes ≡ []
no_writes writes h = by writes (eqb-true (length writes) 0 h) where
  by : (ws : List BasicWrite) → length ws ≡ 0 → ws ≡ []
  by [] e = refl
  by (w ∷ ws) e = absurd (omega (arith, e))
