-- What one entry more changes in what a session listens to, and what it touches of that.
use Rattle.std.proofs.Common.{refl, sym, ◌∙◌, ap, ◌≡◌, List, [], ◌∷◌, ◌++◌, Bool, true, false, cond, not, append-nil, fold, filter}
use Rattle.std.specs.List.{list_any}
use Rattle.std.specs.List.Sorted.{IsStrictlySortedBy}
use Rattle.std.proofs.lemmas.List.Kept.{IsStrictlySortedBy-filter}
use Rattle.pres_tree.specs.Paths.{Path, path_cmp, same_path}
use Rattle.pres_ids.specs.declared.id.SessionId.{SessionId}
use Rattle.pres_ids.specs.Ids.{same_session}
use Rattle.pres_fan.specs.Listeners.{add_path, is_touched}
use Rattle.pres_tree.specs.Falls.{path_total}
use Rattle.pres_log.specs.declared.entry.Entry.{Entry}
use Rattle.pres_log.specs.declared.entry.Entry.TheVariants as entry
use Rattle.pres_log.specs.Logs.{writes_of}
use Rattle.pres_server.specs.Sessions.{session_of}
use Rattle.pres_server.proofs.Sorted.{sorted_put}
use Rattle.pres_history.specs.Sessions.{opens, own}
use Rattle.pres_history.specs.Listening.{listens_after, listened, touched}
use Rattle.pres_history.proofs.Steps.{own-append}

fold-push : (paths : List Path) (es : List Entry) (e : Entry) → fold listens_after paths (es ++ e ∷ []) ≡ listens_after (fold listens_after paths es) e
fold-push paths [] e = refl
fold-push paths (x ∷ es) e = fold-push (listens_after paths x) es e

-- an entry of its own changes what the session listens to by what it asks for
pub listened_own : (s : SessionId) (es : List Entry) (e : Entry) → list_any (opens s) es ≡ true → same_session s (session_of e) ≡ true → listened s (es ++ e ∷ []) ≡ listens_after (listened s es) e
listened_own s es e o k =
    ap (fold listens_after []) (own-append s es e o ∙ ap (λ b. own s es ++ cond b (e ∷ []) []) k)
    ∙ fold-push [] (own s es) e

-- and one of another session changes nothing
pub listened_other : (s : SessionId) (es : List Entry) (e : Entry) → list_any (opens s) es ≡ true → same_session s (session_of e) ≡ false → listened s (es ++ e ∷ []) ≡ listened s es
listened_other s es e o k = ap (fold listens_after []) (own-append s es e o ∙ ap (λ b. own s es ++ cond b (e ∷ []) []) k ∙ append-nil (own s es))

none_touched : (paths : List Path) → filter (is_touched []) paths ≡ []
none_touched [] = refl
none_touched (p ∷ paths) = none_touched paths

touched_before : (paths : List Path) (e : Entry) → filter (is_touched (writes_of e)) (listens_after paths e) ≡ filter (is_touched (writes_of e)) paths
touched_before paths (entry.Open s) = refl
touched_before paths (entry.Op s q n op outcome) = refl
touched_before paths (entry.Again s q n) = refl
touched_before paths (entry.Left s q puts) = refl
touched_before paths (entry.Cancelled s q path) = refl
touched_before paths (entry.Denied s q why) = refl
touched_before paths (entry.On s q path) = none_touched (add_path path paths) ∙ sym (none_touched paths)
touched_before paths (entry.Off s q path) = none_touched (filter (λ p. not (same_path path p)) paths) ∙ sym (none_touched paths)
touched_before paths (entry.Ended s q why rows) = refl

-- what an entry touches depends on what the session listened to before
pub touched_is : (s : SessionId) (es : List Entry) (e : Entry) → list_any (opens s) es ≡ true → touched s (es ++ e ∷ []) e ≡ filter (is_touched (writes_of e)) (listened s es)
touched_is s es e o = by (same_session s (session_of e)) refl where
  by : (b : Bool) → same_session s (session_of e) ≡ b → touched s (es ++ e ∷ []) e ≡ filter (is_touched (writes_of e)) (listened s es)
  by true k = ap (filter (is_touched (writes_of e))) (listened_own s es e o k) ∙ touched_before (listened s es) e
  by false k = ap (filter (is_touched (writes_of e))) (listened_other s es e o k)

-- ---- the order of paths

sorted_after : (paths : List Path) (e : Entry) → IsStrictlySortedBy path_cmp paths → IsStrictlySortedBy path_cmp (listens_after paths e)
sorted_after paths (entry.Open s) h = h
sorted_after paths (entry.Op s q n op outcome) h = h
sorted_after paths (entry.Again s q n) h = h
sorted_after paths (entry.Left s q puts) h = h
sorted_after paths (entry.Cancelled s q path) h = h
sorted_after paths (entry.Denied s q why) h = h
sorted_after paths (entry.On s q path) h = sorted_put path_cmp path_total path paths h
sorted_after paths (entry.Off s q path) h = IsStrictlySortedBy-filter path_cmp _ paths h
sorted_after paths (entry.Ended s q why rows) h = h

sorted_fold : (paths : List Path) (es : List Entry) → IsStrictlySortedBy path_cmp paths → IsStrictlySortedBy path_cmp (fold listens_after paths es)
sorted_fold paths [] h = h
sorted_fold paths (e ∷ es) h = sorted_fold (listens_after paths e) es (sorted_after paths e h)

no_paths : IsStrictlySortedBy path_cmp []
unfolding IsStrictlySortedBy
no_paths = tt

pub listened_sorted : (s : SessionId) (es : List Entry) → IsStrictlySortedBy path_cmp (listened s es)
listened_sorted s es = sorted_fold [] (own s es) no_paths

pub touched_sorted : (s : SessionId) (es : List Entry) (e : Entry) → IsStrictlySortedBy path_cmp (touched s es e)
touched_sorted s es e = IsStrictlySortedBy-filter path_cmp (is_touched (writes_of e)) (listened s es) (listened_sorted s es)
