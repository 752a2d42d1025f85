use Rattle.std.proofs.Common.{◌≡◌, ◌≤◌, ◌∙◌, ap, sym, ℕ, List, length, Bool, true, cond, nat_le, arith, IsTrue, ◌↔◌}
use Rattle.std.proofs.lemmas.Bool.Decides.{nat_tests}
use Rattle.pres_tree.specs.Paths.{Path}
use Rattle.pres_ids.specs.declared.id.SessionId.{SessionId}
use Rattle.pres_fan.specs.declared.listeners.Listener.{Listener}
use Rattle.pres_fan.specs.Listeners.{IsListeners, most_paths, paths_of, add_path, with_listener}
use Rattle.pres_fan.proofs.Places.{with_step}
use Rattle.pres_server.proofs.Clients.{session_itself}
use Rattle.pres_server.proofs.index.Index.may_listen.Goals as goal

-- what the session listens to with one path more
one_more : (s : SessionId) (path : Path) (listeners : List Listener) → IsListeners listeners → paths_of s (with_listener s path listeners) ≡ add_path path (paths_of s listeners)
one_more s path listeners held = with_step s path s listeners held ∙ ap (λ b. cond b (add_path path (paths_of s listeners)) (paths_of s listeners)) (session_itself s)

few : (n : ℕ) (b : Bool) → b ≡ nat_le n most_paths → IsTrue b ↔ (n ≤ most_paths)
few n b e = (λ h. let k : nat_le n most_paths ≡ true = sym e ∙ h in grind (arith, nat_tests), λ h. let k : nat_le n most_paths ≡ true = grind (arith, nat_tests) in e ∙ k)

pub returns-then-comes_next : goal.returns-then-comes_next
returns-then-comes_next c _ =
    let s = c.args.session.now in
    let room = few _ c.may_listen.result (c.may_listen.ensures.room ∙ ap (λ (paths : List Path). nat_le (length paths) most_paths) (one_more s c.args.path.now c.args.self.now.listeners c.may_listen.ensures.listeners)) in
    (λ h. (c.comes_next.ensures.0 c.if-comes_next.true, room.0 h), λ h. room.1 h.1)
