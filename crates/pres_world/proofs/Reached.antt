-- Events, one after the other.
use Rattle.std.proofs.Common.{◌≡◌, ◌∙◌, refl, sym, ap, subst, List, [], ◌∷◌, ◌++◌, length, append_assoc, append-nil, arith}
use Rattle.pres_world.specs.declared.event.Event.{Event}
use Rattle.pres_world.specs.declared.fault.WorldFault.{WorldFault}
use Rattle.pres_world.specs.Worlds.{World, IsStep, IsRefused, RunsTo, IsCutShort}

-- one more after them
reaches_more : (w u v : World) (done : List Event) (e : Event) → RunsTo w done u → IsStep u e v → RunsTo w (done ++ e ∷ []) v
reaches_more w u v [] e h k = (v, subst (λ x. IsStep x e v) h k, refl)
reaches_more w u v (d ∷ done) e h k = (h.0, h.1, reaches_more h.0 u v done e h.2 k)

-- the events so far, and those that are to come
pub record Reached (w u : World) (all rest : List Event) : Type 0 where
  pub done : List Event
  pub reaches : RunsTo w done u
  pub parts : done ++ rest ≡ all

pub begun : (w : World) (all rest : List Event) → rest ≡ all → Reached w w all rest
begun w all rest is = record { done = []; reaches = refl; parts = is }

pub one_more : (w u v : World) (all rest later : List Event) (e : Event) → Reached w u all rest → rest ≡ e ∷ later → IsStep u e v → Reached w v all later
one_more w u v all rest later e h is k = record {
  done = h.done ++ e ∷ [];
  reaches = reaches_more w u v h.done e h.reaches k;
  parts = append_assoc h.done (e ∷ []) later ∙ ap (λ es. h.done ++ es) (sym is) ∙ h.parts;
}

pub cut_short : (w u v : World) (all rest later : List Event) (e : Event) (f : WorldFault) → Reached w u all rest → rest ≡ e ∷ later → IsRefused u e v f → IsCutShort w all v f
cut_short w u v all rest later e f h is k = record {
  done = h.done;
  refused = e;
  later = later;
  parts = sym h.parts ∙ ap (λ es. h.done ++ es) is;
  reached = u;
  reaches = h.reaches;
  refusal = k;
}

pub all_reached : (w u : World) (all rest : List Event) → Reached w u all rest → length rest ≡ 0 → RunsTo w all u
all_reached w u all [] h none = subst (λ es. RunsTo w es u) (sym (append-nil h.done) ∙ h.parts) h.reaches
all_reached w u all (e ∷ rest) h none = absurd (omega (arith, none))
