-- What a change of the map is to the lines.
use Rattle.std.proofs.Common.{refl, sym, ◌∙◌, ap, subst, ◌≡◌, Bool, true, false, cond, true≢false, Option, Some, None, is_some, IfSome, List, [], ◌∷◌, is_eq, option_map}
use Rattle.std.specs.Map.{lookup}
use Rattle.std.specs.BTreeMap.{BTreeMap, get, is_at, Updates}
use Rattle.std.proofs.lemmas.Bool.{false_from_ne_true}
use Rattle.pres_ids.specs.declared.id.SessionId.{SessionId}
use Rattle.pres_ids.specs.Ids.{same_session}
use Rattle.pres_fan.specs.Listeners.{session_cmp}
use Rattle.pres_fan.proofs.Orders.{session_same, session_itself, same_by_cmp}
use Rattle.pres_ring.specs.declared.session_feed.SessionFeed.{SessionFeed}
use Rattle.pres_ring.specs.Lines.{SessionLine, Lines, line_at, has_line, blank, kept_or_blank, ChangesAt}
use Rattle.pres_ring.specs.InternalFeeds.{line_of, lines_of, IsOwn, AreOwn}

pub line_at_place : (s : SessionId) (es : List (SessionId × SessionFeed)) → line_at s (lines_of es) ≡ option_map line_of (lookup (is_at (session_cmp s)) es)
line_at_place s [] = refl
line_at_place s (e ∷ es) = by (is_eq (session_cmp s e.0)) (line_at_place s es) where
  by : (b : Bool) → line_at s (lines_of es) ≡ option_map line_of (lookup (is_at (session_cmp s)) es)
      → cond b (Some (line_of e.1)) (line_at s (lines_of es)) ≡ option_map line_of (cond b (Some e.1) (lookup (is_at (session_cmp s)) es))
  by true h = refl
  by false h = h

pub some_line : (s : SessionId) (es : List (SessionId × SessionFeed)) → is_some (lookup (is_at (session_cmp s)) es) ≡ has_line s (lines_of es)
some_line s es = by (lookup (is_at (session_cmp s)) es) ∙ ap is_some (sym (line_at_place s es)) where
  by : (o : Option SessionFeed) → is_some o ≡ is_some (option_map line_of o)
  by None = refl
  by (Some p) = refl

-- another session is not found
apart : (s t : SessionId) → same_session s t ≡ false → is_at (session_cmp t) s ≡ false
apart s t h = same_by_cmp t s ∙ false_from_ne_true (same_session t s) (λ e. true≢false (sym (session_itself s) ∙ ap (same_session s) (sym (session_same t s e)) ∙ h))

-- nothing is changed where the line is as the change would make it
pub stays : (session : SessionId) (change : Option SessionLine → Option SessionLine) (lines : Lines) → line_at session lines ≡ change (line_at session lines) → ChangesAt session change lines lines
stays session change lines e s = by (same_session s session) refl where
  by : (b : Bool) → same_session s session ≡ b → line_at s lines ≡ cond b (change (line_at s lines)) (line_at s lines)
  by true h = subst (λ t. line_at t lines ≡ change (line_at t lines)) (sym (session_same s session h)) e
  by false h = refl

pub kept_line : (o : Option SessionLine) → is_some o ≡ true → o ≡ kept_or_blank o
kept_line None h = absurd (true≢false (sym h))
kept_line (Some l) h = refl

pub new_line : (o : Option SessionLine) (l : SessionLine) → is_some o ≡ false → l ≡ blank → Some l ≡ kept_or_blank o
new_line None l h e = ap Some e
new_line (Some k) l h e = absurd (true≢false h)

module _ (session : SessionId) (m n : BTreeMap SessionId SessionFeed) (w : Option SessionFeed) where
  pub changes : (change : Option SessionLine → Option SessionLine) → Updates session_cmp m n session w → option_map line_of w ≡ change (line_at session (lines_of m.entries)) → ChangesAt session change (lines_of m.entries) (lines_of n.entries)
  changes change u e s = by (same_session s session) refl where
    by : (b : Bool) → same_session s session ≡ b → line_at s (lines_of n.entries) ≡ cond b (change (line_at s (lines_of m.entries))) (line_at s (lines_of m.entries))
    by true h =
        ap (λ t. line_at t (lines_of n.entries)) (session_same s session h)
        ∙ line_at_place session n.entries ∙ ap (option_map line_of) u.1 ∙ e
        ∙ ap (λ t. change (line_at t (lines_of m.entries))) (sym (session_same s session h))
    by false h = line_at_place s n.entries ∙ ap (option_map line_of) (u.2 s (apart s session h)) ∙ sym (line_at_place s m.entries)

  pub own_after : Updates session_cmp m n session w → IfSome w (IsOwn session) → AreOwn m → AreOwn n
  own_after u e own s = by (same_session s session) refl where
    by : (b : Bool) → same_session s session ≡ b → IfSome (get session_cmp n s) (IsOwn s)
    by true h = subst (λ t. IfSome (get session_cmp n t) (IsOwn t)) (sym (session_same s session h)) (subst (λ o. IfSome o (IsOwn session)) (sym u.1) e)
    by false h = subst (λ o. IfSome o (IsOwn s)) (sym (u.2 s (apart s session h))) (own s)
