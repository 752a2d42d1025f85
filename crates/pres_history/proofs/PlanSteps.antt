-- The plan of a session after one more entry.
use Rattle.std.proofs.Common.{sym, ◌∙◌, ap, ◌≡◌, List, [], ◌∷◌, ◌++◌, true, false, cond, append-nil}
use Rattle.std.specs.List.{list_any, flat_map}
use Rattle.std.proofs.lemmas.Grind.{flat_map-append}
use Rattle.pres_ids.specs.declared.id.SessionId.{SessionId}
use Rattle.pres_ids.specs.Ids.{same_session}
use Rattle.pres_plan.specs.declared.row.PlanRow.{PlanRow}
use Rattle.pres_plan.specs.Plans.{puts, cancels, plan_of}
use Rattle.pres_plan.proofs.Grows.{plan_grows}
use Rattle.pres_log.specs.declared.entry.Entry.{Entry}
use Rattle.pres_log.specs.declared.entry.Entry.TheVariants as entry
use Rattle.pres_server.specs.Sessions.{session_of}
use Rattle.pres_server.specs.InternalParts.{plan_after}
use Rattle.pres_history.specs.Sessions.{opens, own}
use Rattle.pres_history.specs.SessionPlans.{actions_in, actions, plan}
use Rattle.pres_history.proofs.Steps.{own-append}

more_actions : (s : SessionId) (es : List Entry) (e : Entry) → list_any (opens s) es ≡ true → same_session s (session_of e) ≡ true → actions s (es ++ e ∷ []) ≡ actions s es ++ actions_in e
more_actions s es e o k =
    ap (flat_map actions_in) (own-append s es e o ∙ ap (λ b. own s es ++ cond b (e ∷ []) []) k)
    ∙ flat_map-append actions_in (own s es) (e ∷ [])
    ∙ ap (λ l. actions s es ++ l) (append-nil (actions_in e))

planned : (old : List PlanRow) (e : Entry) → plan_of (old ++ actions_in e) ≡ plan_after e (plan_of old)
planned old (entry.Open s) = ap plan_of (append-nil old)
planned old (entry.Op s q n op outcome) = ap plan_of (append-nil old)
planned old (entry.Again s q n) = ap plan_of (append-nil old)
planned old (entry.Left s q places) = sym (plan_grows old (puts q places))
planned old (entry.Cancelled s q path) = sym (plan_grows old (cancels q path))
planned old (entry.Denied s q why) = ap plan_of (append-nil old)
planned old (entry.On s q path) = ap plan_of (append-nil old)
planned old (entry.Off s q path) = ap plan_of (append-nil old)
planned old (entry.Ended s q why rows) = ap plan_of (append-nil old)

-- an entry of its own changes what the session leaves by what it asks for
pub plan_own : (s : SessionId) (es : List Entry) (e : Entry) → list_any (opens s) es ≡ true → same_session s (session_of e) ≡ true → plan s (es ++ e ∷ []) ≡ plan_after e (plan s es)
plan_own s es e o k = ap plan_of (more_actions s es e o k) ∙ planned (actions s es) e

-- and one of another session changes nothing
pub plan_other : (s : SessionId) (es : List Entry) (e : Entry) → list_any (opens s) es ≡ true → same_session s (session_of e) ≡ false → plan s (es ++ e ∷ []) ≡ plan s es
plan_other s es e o k = ap (λ l. plan_of (flat_map actions_in l)) (own-append s es e o ∙ ap (λ b. own s es ++ cond b (e ∷ []) []) k ∙ append-nil (own s es))
