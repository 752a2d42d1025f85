-- What a check refuses stays refused.
use Rattle.std.proofs.Common.{◌≡◌, ◌∙◌, ap, ℕ, sym, subst, List, [], ◌∷◌, length, Bool, cond, nat_le, Ok, Err, Option, Some, Result}
use Rattle.std.proofs.lemmas.Bool.{false≢true}
use Rattle.std.specs.Prelude.{IfSome}
use Rattle.std.specs.Result.{IsErr, IsErrAnd}
use Rattle.pres_ids.specs.declared.id.SessionId.{SessionId}
use Rattle.pres_wire.specs.declared.down.Limit.TheVariants as limit
use Rattle.pres_tree.specs.Paths.{Path}
use Rattle.pres_fan.specs.declared.listeners.Listener.{Listener}
use Rattle.pres_fan.specs.Listeners.{IsListeners, most_paths, paths_of, add_path, with_listener}
use Rattle.pres_fan.proofs.Places.{with_step}
use Rattle.pres_log.specs.declared.entry.Entry.TheVariants as entry
use Rattle.pres_log.specs.declared.fault.Fault.{Fault}
use Rattle.pres_server.specs.declared.turn.TurnEffect.{TurnEffect}
use Rattle.pres_server.specs.Turns.{Decision, IsRefusal, Decides, makes}
use Rattle.pres_server.specs.InternalParts.{LivePart, limited_by, listens_by}
use Rattle.pres_server.proofs.Clients.{session_itself}

-- a result that gives the refusal of a call on
pub refused_by : (from : Option SessionId) (d : Decision) (r : Result TurnEffect Fault) (f : Fault) → IsErr r × IsErrAnd r (λ x. x ≡ f) → IsRefusal d f → Decides from d r
refused_by from d (Ok s) f h q = absurd (false≢true h.0)
refused_by from d (Err x) f h q = subst (IsRefusal d) (sym h.1) q

-- what is decided of a decision is so of the same one
pub decided_as : (from : Option SessionId) (n o : ℕ) (d e : Decision) (r : Result TurnEffect Fault) → d ≡ e → Decides from (limited_by n o e) r → Decides from (limited_by n o d) r
decided_as from n o d e r same h = subst (λ x. Decides from (limited_by n o x) r) (sym same) h

-- the open session that is handed back
pub session_of : {S : Type 0} (part : S → LivePart) (live : Option LivePart) (found : Option S) (it : S) → IfSome found (λ x. live ≡ Some (part x)) → found ≡ Some it → live ≡ Some (part it)
session_of part live found it h is = subst (λ o. IfSome o (λ x. live ≡ Some (part x))) is h

-- a session that may listen to one path more does, and another is denied
pub listens_more : (s : SessionId) (q : ℕ) (path : Path) (listeners : List Listener) (b : Bool) → IsListeners listeners → b ≡ nat_le (length (paths_of s (with_listener s path listeners))) most_paths
    → makes (cond b (entry.On s q path) (entry.Denied s q limit.Listens) ∷ []) ≡ listens_by (paths_of s listeners) s q path
listens_more s q path listeners b held k =
    ap (λ x. makes (cond x (entry.On s q path) (entry.Denied s q limit.Listens) ∷ []))
    (k
    ∙ ap (λ paths. nat_le (length paths) most_paths)
    (with_step s path s listeners held ∙ ap (λ x. cond x (add_path path (paths_of s listeners)) (paths_of s listeners)) (session_itself s)))
