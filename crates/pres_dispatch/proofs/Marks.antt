-- Lines that are marked stay so while they are there.
use Rattle.std.proofs.Common.{refl, sym, ◌∙◌, ap, subst, ◌≡◌, Bool, true, false, List, Option, Some, None, IfSome, IfNone, is_some, option_map, if◌then◌else◌}
use Rattle.std.specs.List.{list_any}
use Rattle.pres_ids.specs.declared.id.SessionId.{SessionId}
use Rattle.pres_ids.specs.declared.id.Why.{Why}
use Rattle.pres_ids.specs.declared.id.Why.TheVariants as why
use Rattle.pres_ids.specs.Ids.{same_session}
use Rattle.pres_wire.specs.declared.down.Down.{Down}
use Rattle.pres_ring.specs.Transcripts.{those_for, is_gone_for}
use Rattle.pres_ring.specs.Lines.{SessionLine, Lines, line_at, marked, ChangesAt}
use Rattle.pres_ring.specs.Deliveries.{LineAfter, LeavesOrIsPut}
use Rattle.pres_dispatch.specs.Dispatches.{StaysMarked, StayMarked}

pub stays_same : (line : Option SessionLine) → StaysMarked line line
stays_same None = refl
stays_same (Some l) = λ h. h

pub stays_twice : (a b c : Option SessionLine) → StaysMarked a b → StaysMarked b c → StaysMarked a c
stays_twice None b c first second = subst (λ x. StaysMarked x c) first second
stays_twice (Some l) None c first second = λ h. subst (λ x. IfSome x (λ new. is_some new.mark ≡ true)) (sym second) tt
stays_twice (Some l) (Some m) c first second = λ h. second (first h)

pub stay_same : (lines : Lines) → StayMarked lines lines
stay_same lines s = stays_same (line_at s lines)

pub stay_twice : (a b c : Lines) → StayMarked a b → StayMarked b c → StayMarked a c
stay_twice a b c first second s = stays_twice (line_at s a) (line_at s b) (line_at s c) (first s) (second s)

-- messages change no mark
pub stays_put : (s : SessionId) (ms : List Down) (before after : Option SessionLine) → LineAfter s ms before after → StaysMarked before after
stays_put s ms None after h = h
stays_put s ms (Some l) after h = λ mark. by (list_any (is_gone_for s) ms) h mark where
  by : (gone : Bool) → LeavesOrIsPut gone l (those_for s ms) after → is_some l.mark ≡ true → IfSome after (λ new. is_some new.mark ≡ true)
  by true left mark = subst (λ x. IfSome x (λ new. is_some new.mark ≡ true)) (sym left) tt
  by false put mark = subst (λ x. IfSome x (λ new. is_some new.mark ≡ true)) (sym put.1) (ap is_some put.2 ∙ mark)

-- a line that is marked again has a mark
pub stays_changed : (t : SessionId) (w : Why) (before after : Lines) → ChangesAt t (option_map (marked w)) before after → StayMarked before after
stays_changed t w before after changes s = subst (StaysMarked (line_at s before)) (sym (changes s)) (by (same_session s t) (line_at s before)) where
  by : (same : Bool) (line : Option SessionLine) → StaysMarked line (if same then option_map (marked w) line else line)
  by true None = refl
  by true (Some l) = λ h. refl
  by false line = stays_same line

-- the first one that is slow is marked, or there is none
pub stays_slow : {A : Type 0} (found : Option SessionId) (r : Option A) (before after : Lines) → is_some r ≡ is_some found
    → IfSome found (λ s. ChangesAt s (option_map (marked why.Slow)) before after) → IfNone r (after ≡ before) → StayMarked before after
stays_slow (Some s) r before after same changes none = stays_changed s why.Slow before after changes
stays_slow None None before after same changes none = subst (StayMarked before) (sym none) (stay_same before)
stays_slow None (Some x) before after same changes none = absurd (cc same)
