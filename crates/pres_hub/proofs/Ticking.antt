-- The histories after the ends of a tick, in its loops.
use Rattle.std.proofs.Common.{refl, sym, subst, ◌≡◌, ℕ, suc, true, [], ◌∷◌, Option, Some, None, is_some, IfSome, inl, inr}
use Rattle.pres_ids.specs.declared.id.SessionId.{SessionId}
use Rattle.pres_ids.specs.declared.id.Why.{Why}
use Rattle.pres_server.specs.declared.input.Input.TheVariants as input
use Rattle.pres_server.specs.SumStates.{SumState}
use Rattle.pres_server.specs.Histories.{History}
use Rattle.pres_ring.specs.Lines.{Lines, IsFirstMarked}
use Rattle.pres_dispatch.specs.Dispatches.{Histories}
use Rattle.pres_hub.specs.Cores.{CoreState, AreCoreHistories, end_by}
use Rattle.pres_faults.specs.declared.hub_fault.HubFault.{HubFault}
use Rattle.pres_faults.specs.declared.hub_fault.HubFault.TheVariants as fault
use Rattle.pres_hub.specs.CoreCalls.{AreMarkedEnded, AreLateEnded, IsEndRefused, IsEventRefused, StopsAtMark, NoneMarked}
use Rattle.pres_hub.specs.CoreTurns.{histories_carried, histories_marked, histories_late, histories_at_mark, CarriesOn, StandsStill, EndsMarkedOn, EndsLateOn, StopsAtMarkOn, StopsLateOn, TickStopsOn}

module _ {A : Type 0} (works : A → Type 0) (keeps : A → History → Type 0) (now : ℕ) where
  -- ---- marked sessions

  -- histories that stood then go on to some that stand here, by ends before which those from here on can stand
  abbrev pub MarkedSince : CoreState A → CoreState A → Type 0
  MarkedSince old here =
      (first : Histories) → AreCoreHistories works keeps first old → (on : Histories) × AreCoreHistories works keeps on here
      × ((after : Option SumState) (behind : Lines) (h : AreMarkedEnded now here.run.server after here.lines behind)
      → (e : AreMarkedEnded now old.run.server after old.lines behind) × (histories_marked first now e.0 old.run.server after old.lines behind e.1 ≡ histories_marked on now h.0 here.run.server after here.lines behind h.1))

  pub marked_first : (old : CoreState A) → MarkedSince old old
  marked_first old first stands = (first, stands, λ after behind h. (h, refl))

  pub marked_next : (old here new : CoreState A) (e : SessionId × Why) → MarkedSince old here → IsFirstMarked e here.lines → CarriesOn works keeps (end_by e.1 e.0) now here new → MarkedSince old new
  marked_next old here new e since is carries first stands =
      let k = since first stands in
      let c = carries k.0 k.1 in
      (histories_carried k.0 c.0, c.1, λ after behind h. k.2 after behind (e ∷ h.0, (is, new.run.server, new.lines, c.0, h.1)))

  pub marked_last : (old here : CoreState A) → MarkedSince old here → EndsMarkedOn works keeps now old here
  marked_last old here since first stands =
      let k = since first stands in
      let e = k.2 here.run.server here.lines ([], (refl, refl)) in
      (e.0, subst (λ l. AreCoreHistories works keeps l here) (sym e.1) k.1)

  pub marked_stops : (old here new : CoreState A) (next : SessionId × Why) (e : HubFault) → MarkedSince old here → IsFirstMarked next here.lines
      → IsEndRefused (end_by next.1 next.0) now here.run.server new.run.server e → new.lines ≡ here.lines → StandsStill works keeps here new → StopsAtMarkOn works keeps now old new e
  marked_stops old here new next e since is refused lines still first stands =
      let k = since first stands in
      let m = k.2 here.run.server here.lines ([], (refl, refl)) in
      let stop : StopsAtMark now old.run.server new.run.server old.lines here.lines e = record { middle = here.run.server; ended = m.0; next = next; first = is; refused = refused } in
      subst (λ l. (s : StopsAtMark now old.run.server new.run.server old.lines l e) × AreCoreHistories works keeps (histories_at_mark first s) new) (sym lines)
      (stop, subst (λ l. AreCoreHistories works keeps l new) (sym m.1) (still k.0 k.1))

  -- memory is refused for the id of the first session that is marked
  pub marked_uncopied : (old here : CoreState A) (found : Option (SessionId × Why)) → MarkedSince old here → is_some found ≡ true → IfSome found (λ e. IsFirstMarked e here.lines) → StopsAtMarkOn works keeps now old here fault.Memory
  marked_uncopied old here None since is there = absurd (cc is)
  marked_uncopied old here (Some next) since is there = marked_stops old here here next fault.Memory since there refl refl (λ first stands. stands)

  -- ---- leases

  abbrev pub LateSince : CoreState A → CoreState A → Type 0
  LateSince old here =
      (first : Histories) → AreCoreHistories works keeps first old → (on : Histories) × AreCoreHistories works keeps on here
      × ((after : Option SumState) (behind : Lines) (h : AreLateEnded now here.run.server after here.lines behind)
      → (e : AreLateEnded now old.run.server after old.lines behind) × (histories_late first now e.0 old.run.server after old.lines behind e.1 ≡ histories_late on now h.0 here.run.server after here.lines behind h.1))

  pub late_first : (old : CoreState A) → LateSince old old
  late_first old first stands = (first, stands, λ after behind h. (h, refl))

  pub late_next : (old here new : CoreState A) → LateSince old here → CarriesOn works keeps input.Tick now here new → LateSince old new
  late_next old here new since carries first stands =
      let k = since first stands in
      let c = carries k.0 k.1 in
      (histories_carried k.0 c.0, c.1, λ after behind h. k.2 after behind (suc h.0, (new.run.server, new.lines, c.0, h.1)))

  pub late_last : (old here : CoreState A) → LateSince old here → EndsLateOn works keeps now old here
  late_last old here since first stands =
      let k = since first stands in
      let e = k.2 here.run.server here.lines (0, (refl, refl)) in
      (e.0, subst (λ l. AreCoreHistories works keeps l here) (sym e.1) k.1)

  pub late_stops : (old here new : CoreState A) (e : HubFault) → LateSince old here → IsEventRefused input.Tick now here.run.server new.run.server e → new.lines ≡ here.lines → StandsStill works keeps here new
      → StopsLateOn works keeps now old new e
  late_stops old here new e since refused lines still first stands =
      let k = since first stands in
      let l = k.2 here.run.server here.lines (0, (refl, refl)) in
      subst
      (λ behind. (last : Option SumState) × (ended : AreLateEnded now old.run.server last old.lines behind)
      × IsEventRefused input.Tick now last new.run.server e × AreCoreHistories works keeps (histories_late first now ended.0 old.run.server last old.lines behind ended.1) new)
      (sym lines) (here.run.server, l.0, refused, subst (λ x. AreCoreHistories works keeps x new) (sym l.1) (still k.0 k.1))

  -- ---- a tick that stops

  pub tick_at_mark : (old new : CoreState A) (e : HubFault) → StopsAtMarkOn works keeps now old new e → TickStopsOn works keeps now old new e
  tick_at_mark old new e stops first stands =
      let s = stops first stands in
      (inl s.0, s.1)

  pub tick_at_lease : (old middle new : CoreState A) (e : HubFault) → EndsMarkedOn works keeps now old middle → NoneMarked middle.lines → StopsLateOn works keeps now middle new e → TickStopsOn works keeps now old new e
  tick_at_lease old middle new e marked none stops first stands =
      let m = marked first stands in
      let s = stops (histories_marked first now m.0.0 old.run.server middle.run.server old.lines middle.lines m.0.1) m.1 in
      (inr (record { middle = middle.run.server; lines = middle.lines; ended = m.0; none_marked = none; last = s.0; late = s.1; refused = s.2 }), s.3)
