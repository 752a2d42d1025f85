-- What the index says of a batch is what the log asks of it.
use Rattle.std.proofs.Common.{sym, ◌∙◌, ap, subst, refl, ◌≡◌, ℕ, ◌+◌, ◌≤◌, List, [], ◌∷◌, ◌++◌, length, Bool, true, false, cond, arith, length-append, Option, Some, None}
use Rattle.std.specs.List.{list_any, list_all}
use Rattle.std.proofs.lemmas.Bool.{and_parts}
use Rattle.pres_tree.specs.declared.scalar.Scalar.{Scalar}
use Rattle.pres_tree.specs.Paths.{Path}
use Rattle.pres_tree.specs.Rows.{Rows}
use Rattle.pres_write.specs.Moments as moments
use Rattle.pres_ids.specs.declared.id.SessionId.{SessionId}
use Rattle.pres_ids.specs.declared.id.Why.{Why}
use Rattle.pres_ids.specs.declared.id.Why.TheVariants.{Bye, Lost, Lease, Superseded, Slow, Restart}
use Rattle.pres_ids.specs.Ids.{ClientId, is_earlier, stamp_of}
use Rattle.pres_plan.specs.Plans.{most_rows, due}
use Rattle.pres_fan.specs.Listeners.{most_paths, add_path}
use Rattle.pres_log.specs.declared.entry.Batch.{Batch}
use Rattle.pres_log.specs.declared.entry.Entry.{Entry}
use Rattle.pres_log.specs.declared.entry.Entry.TheVariants as entry
use Rattle.pres_log.specs.Logs.{Log, entries, number, tree}
use Rattle.pres_server.specs.declared.index.Index.{Index}
use Rattle.pres_server.specs.Sessions.{session_of}
use Rattle.pres_server.specs.Batches.{Supersedes}
use Rattle.pres_server.specs.InternalParts.{Part, plan_in, plan_after, listed, open_steps}
use Rattle.pres_server.specs.InternalSessions.{open_count}
use Rattle.pres_server.specs.InternalIndex.{part_at, paths_at}
use Rattle.pres_server.specs.InternalFollows.{IsNextIn, IsNextBy, IsEndNumberBy, MayComeBy, IsNewerBy, MayComeTogetherBy, LeavesRoomBy}
use Rattle.pres_server.proofs.Clients.{session_itself}
use Rattle.pres_history.specs.Sessions.{opens, is_open, is_newest, count, open_sessions, open_sessions_of}
use Rattle.pres_history.specs.Listening.{listened}
use Rattle.pres_history.specs.SessionPlans.{plan, due_at}
use Rattle.pres_history.specs.LegalLog.{IsNext, IsEndNumber, MayCome, MayComeTogether, MayFollow}
use Rattle.pres_history.specs.InternalInvariants.{ServerInvariant}
use Rattle.pres_history.specs.InternalParts.{Sound, part_of, live_in}
use Rattle.pres_history.proofs.PlanSteps.{plan_own}
use Rattle.pres_history.proofs.ListenSteps.{listened_own}
use Rattle.pres_history.proofs.Parts.{uncounted, only_open, ended_own, no_more}
use Rattle.pres_history.proofs.AfterEntry.{sound_after, open_after}
use Rattle.pres_history.proofs.Decide.{live_is, listens_in, MayComeTogetherUncounted, opens_are}
use Rattle.pres_history.proofs.Readers.{count_by}
use Rattle.pres_history.proofs.LegalLogs.{legal_is_sound}
use Rattle.pres_history.proofs.Turned.{count_is}

-- ---- one entry

-- the next message of an open session
next_both : (b : Bool) (count q : ℕ) → IsNextIn (cond b (Some count) None) q → (b ≡ true) × (q ≡ count + 1)
next_both true count q h = (refl, h)
next_both false count q h = absurd h

next_in : (s : SessionId) (q : ℕ) (es : List Entry) → Sound es → IsNextBy (part_of s.client es).live s q → IsNext s q es
next_in s q es sound h = next_both (is_open s es) (count s es) q (subst (λ o. IsNextIn o q) (count_by s es sound) h)

next_out : (s : SessionId) (q : ℕ) (es : List Entry) → Sound es → IsNext s q es → IsNextBy (part_of s.client es).live s q
next_out s q es sound h = subst (λ o. IsNextIn o q) (sym (count_by s es sound ∙ ap (λ b. cond b (Some (count s es)) None) h.0)) h.1

-- what an open session leaves and listens to after one more of it, and what is due at its end
was_opened : (s : SessionId) (es : List Entry) → is_open s es ≡ true → list_any (opens s) es ≡ true
was_opened s es o = (and_parts (list_any (opens s) es) _ o).0

plan_is : (es : List Entry) (e : Entry) → Sound es → is_open (session_of e) es ≡ true → plan (session_of e) (es ++ e ∷ []) ≡ plan_after e (plan_in (part_of (session_of e).client es).live)
plan_is es e sound o =
    let s = session_of e in
    plan_own s es e (was_opened s es o) (session_itself s) ∙ ap (λ xs. plan_after e (plan_in (live_in xs es))) (sym (only_open s es sound o))

paths_are : (es : List Entry) (s : SessionId) (q : ℕ) (path : Path) → is_open s es ≡ true → listened s (es ++ entry.On s q path ∷ []) ≡ add_path path (listens_in es s)
paths_are es s q path o = listened_own s es (entry.On s q path) (was_opened s es o) (session_itself s) ∙ ap (λ b. add_path path (cond b (listened s es) [])) (sym o)

due_is : (es : List Entry) (m : ℕ) (s : SessionId) → Sound es → is_open s es ≡ true → due_at es m s ≡ due (tree es) m (plan_in (part_of s.client es).live)
due_is es m s sound o = ap (λ xs. due (tree es) m (plan_in (live_in xs es))) (sym (only_open s es sound o))

end_number_in : (s : SessionId) (q : Option ℕ) (why : Why) (es : List Entry) → Sound es → IsEndNumberBy (part_of s.client es).live s q why → IsEndNumber s q why es
end_number_in s None Bye es sound h = absurd h
end_number_in s (Some q) Bye es sound h = ap Some (next_in s q es sound h).1
end_number_in s q Lost es sound h = h
end_number_in s q Lease es sound h = h
end_number_in s q Superseded es sound h = h
end_number_in s q Slow es sound h = h
end_number_in s q Restart es sound h = h

end_number_out : (s : SessionId) (q : Option ℕ) (why : Why) (es : List Entry) → Sound es → is_open s es ≡ true → IsEndNumber s q why es → IsEndNumberBy (part_of s.client es).live s q why
end_number_out s q Bye es sound o h = subst (λ x. IsEndNumberBy (part_of s.client es).live s x Bye) (sym h) (next_out s (count s es + 1) es sound (o, refl))
end_number_out s q Lost es sound o h = h
end_number_out s q Lease es sound o h = h
end_number_out s q Superseded es sound o h = h
end_number_out s q Slow es sound o h = h
end_number_out s q Restart es sound o h = h

-- an entry that may come by what the log says of its client
abbrev ComesBy : List Entry → ℕ → Entry → Type 0
ComesBy es m e = MayComeBy (part_of (session_of e).client es) (listens_in es (session_of e)) (length (open_sessions es)) (tree es) m e

come_in : (es : List Entry) (m : ℕ) (e : Entry) → Sound es → ComesBy es m e → MayCome es m e
come_in es m (entry.Open s) sound h =
    let new = sound.newest s ∙ h.0 in
    let none = sound.one_open s.client ∙ ap (listed s.client) h.1 in
    (new, none, subst (λ n. n ≤ 1024) (sym (open_after es m (entry.Open s) sound (new, none))) h.2)
come_in es m (entry.Op s q n op outcome) sound h = (next_in s q es sound h.0, h.1, h.2)
come_in es m (entry.Again s q n) sound h = (next_in s q es sound h.0, h.1, h.2)
come_in es m (entry.Left s q puts) sound h =
    let next = next_in s q es sound h.0 in
    (next, subst (λ rows. length rows ≤ most_rows) (sym (plan_is es (entry.Left s q puts) sound next.0)) h.1)
come_in es m (entry.Cancelled s q path) sound h =
    let next = next_in s q es sound h.0 in
    (next, subst (λ rows. length rows ≤ most_rows) (sym (plan_is es (entry.Cancelled s q path) sound next.0)) h.1)
come_in es m (entry.Denied s q why) sound h = next_in s q es sound h
come_in es m (entry.On s q path) sound h =
    let next = next_in s q es sound h.0 in
    (next, subst (λ paths. length paths ≤ most_paths) (sym (paths_are es s q path next.0)) h.1)
come_in es m (entry.Off s q path) sound h = next_in s q es sound h
come_in es m (entry.Ended s q why rows) sound h =
    let o : is_open s es ≡ true = live_is s es sound ∙ h.0 in
    (o, end_number_in s q why es sound h.1, h.2 ∙ sym (due_is es m s sound o))

come_out : (es : List Entry) (m : ℕ) (e : Entry) → Sound es → MayCome es m e → ComesBy es m e
come_out es m (entry.Open s) sound f =
    (sym (sound.newest s) ∙ f.0, ap (λ xs. live_in xs es) f.1, subst (λ n. n ≤ 1024) (open_after es m (entry.Open s) sound (f.0, f.1)) f.2)
come_out es m (entry.Op s q n op outcome) sound f = (next_out s q es sound f.0, f.1, f.2)
come_out es m (entry.Again s q n) sound f = (next_out s q es sound f.0, f.1, f.2)
come_out es m (entry.Left s q puts) sound f =
    (next_out s q es sound f.0, subst (λ rows. length rows ≤ most_rows) (plan_is es (entry.Left s q puts) sound f.0.0) f.1)
come_out es m (entry.Cancelled s q path) sound f =
    (next_out s q es sound f.0, subst (λ rows. length rows ≤ most_rows) (plan_is es (entry.Cancelled s q path) sound f.0.0) f.1)
come_out es m (entry.Denied s q why) sound f = next_out s q es sound f
come_out es m (entry.On s q path) sound f =
    (next_out s q es sound f.0, subst (λ paths. length paths ≤ most_paths) (paths_are es s q path f.0.0) f.1)
come_out es m (entry.Off s q path) sound f = next_out s q es sound f
come_out es m (entry.Ended s q why rows) sound f =
    (sym (live_is s es sound) ∙ f.0, end_number_out s q why es sound f.0 f.1, f.2 ∙ due_is es m s sound f.0)

-- ---- a batch

-- a session that is newer than its client's last one may be opened once that has ended
abbrev NewerBy : List Entry → Entry → Type 0
NewerBy es f = IsNewerBy (λ c. part_of c es) (length (open_sessions es)) f

newest_still : (es : List Entry) (s t : SessionId) (q : Option ℕ) (why : Why) (rows : _) → is_newest t (es ++ entry.Ended s q why rows ∷ []) ≡ is_newest t es
newest_still es s t q why rows = ap (list_all (λ x. is_earlier (stamp_of x) (stamp_of t))) (no_more t.client es (entry.Ended s q why rows) refl)

newer_in : (es : List Entry) (m : ℕ) (e f : Entry) → Sound es → Supersedes e f → MayCome es m e → NewerBy es f → MayCome (es ++ e ∷ []) m f
newer_in es m (entry.Ended s q why rows) (entry.Open t) sound p g h =
    let e = entry.Ended s q why rows in
    let new = newest_still es s t q why rows ∙ sound.newest t ∙ h.0 in
    let none = subst (λ c. open_sessions_of c (es ++ e ∷ []) ≡ []) p.1 (ended_own es s q why rows sound g.0) in
    let one = open_after es m e sound g in
    let both = open_after (es ++ e ∷ []) m (entry.Open t) (sound_after es m e sound g) (new, none) in
    let few = h.1 in
    (new, none, omega arith)
newer_in es m (entry.Ended s q why rows) (entry.Op t r n op outcome) sound p g h = absurd p
newer_in es m (entry.Ended s q why rows) (entry.Again t r n) sound p g h = absurd p
newer_in es m (entry.Ended s q why rows) (entry.Left t r puts) sound p g h = absurd p
newer_in es m (entry.Ended s q why rows) (entry.Cancelled t r path) sound p g h = absurd p
newer_in es m (entry.Ended s q why rows) (entry.Denied t r v) sound p g h = absurd p
newer_in es m (entry.Ended s q why rows) (entry.On t r path) sound p g h = absurd p
newer_in es m (entry.Ended s q why rows) (entry.Off t r path) sound p g h = absurd p
newer_in es m (entry.Ended s q why rows) (entry.Ended t r v more) sound p g h = absurd p
newer_in es m (entry.Open s) f sound p g h = absurd p
newer_in es m (entry.Op s q n op outcome) f sound p g h = absurd p
newer_in es m (entry.Again s q n) f sound p g h = absurd p
newer_in es m (entry.Left s q puts) f sound p g h = absurd p
newer_in es m (entry.Cancelled s q path) f sound p g h = absurd p
newer_in es m (entry.Denied s q why) f sound p g h = absurd p
newer_in es m (entry.On s q path) f sound p g h = absurd p
newer_in es m (entry.Off s q path) f sound p g h = absurd p

newer_out : (es : List Entry) (m : ℕ) (e f : Entry) → Sound es → Supersedes e f → MayCome es m e → MayCome (es ++ e ∷ []) m f → NewerBy es f
newer_out es m (entry.Ended s q why rows) (entry.Open t) sound p g h =
    let e = entry.Ended s q why rows in
    let one = open_after es m e sound g in
    let both = open_after (es ++ e ∷ []) m (entry.Open t) (sound_after es m e sound g) (h.0, h.1) in
    let few = h.2 in
    (sym (sound.newest t) ∙ sym (newest_still es s t q why rows) ∙ h.0, omega arith)
newer_out es m (entry.Ended s q why rows) (entry.Op t r n op outcome) sound p g h = absurd p
newer_out es m (entry.Ended s q why rows) (entry.Again t r n) sound p g h = absurd p
newer_out es m (entry.Ended s q why rows) (entry.Left t r puts) sound p g h = absurd p
newer_out es m (entry.Ended s q why rows) (entry.Cancelled t r path) sound p g h = absurd p
newer_out es m (entry.Ended s q why rows) (entry.Denied t r v) sound p g h = absurd p
newer_out es m (entry.Ended s q why rows) (entry.On t r path) sound p g h = absurd p
newer_out es m (entry.Ended s q why rows) (entry.Off t r path) sound p g h = absurd p
newer_out es m (entry.Ended s q why rows) (entry.Ended t r v more) sound p g h = absurd p
newer_out es m (entry.Open s) f sound p g h = absurd p
newer_out es m (entry.Op s q n op outcome) f sound p g h = absurd p
newer_out es m (entry.Again s q n) f sound p g h = absurd p
newer_out es m (entry.Left s q puts) f sound p g h = absurd p
newer_out es m (entry.Cancelled s q path) f sound p g h = absurd p
newer_out es m (entry.Denied s q why) f sound p g h = absurd p
newer_out es m (entry.On s q path) f sound p g h = absurd p
newer_out es m (entry.Off s q path) f sound p g h = absurd p

abbrev TogetherBy : List Entry → ℕ → List Entry → Type 0
TogetherBy es m xs = MayComeTogetherBy (λ c. part_of c es) (listens_in es) (length (open_sessions es)) (tree es) m xs

together_in : (es : List Entry) (m : ℕ) (xs : List Entry) → Sound es → TogetherBy es m xs → MayComeTogether es m xs
together_in es m [] sound h = absurd h
together_in es m (e ∷ []) sound h = (h.0, come_in es m e sound h.1)
together_in es m (e ∷ f ∷ []) sound h =
    let first = come_in es m e sound h.2 in
    (h.0, first, newer_in es m e f sound h.0 first h.1)
together_in es m (e ∷ f ∷ g ∷ more) sound h = absurd h

together_out : (es : List Entry) (m : ℕ) (xs : List Entry) → Sound es → MayComeTogether es m xs → TogetherBy es m xs
together_out es m [] sound t = absurd t
together_out es m (e ∷ []) sound t = (t.0, come_out es m e sound t.1)
together_out es m (e ∷ f ∷ []) sound t = (t.0, newer_out es m e f sound t.0 t.1 t.2, come_out es m e sound t.1)
together_out es m (e ∷ f ∷ g ∷ more) sound t = absurd t

uncounted_together : (es : List Entry) (m : ℕ) (xs : List Entry) → MayComeTogether es m xs → MayComeTogetherUncounted es m xs
uncounted_together es m [] t = absurd t
uncounted_together es m (e ∷ []) t = (t.0, uncounted es m e t.1)
uncounted_together es m (e ∷ f ∷ []) t = (t.0, uncounted es m e t.1, uncounted (es ++ e ∷ []) m f t.2)
uncounted_together es m (e ∷ f ∷ g ∷ more) t = absurd t

-- ---- by the index

abbrev Said : Type 0
Said = (ClientId → Part) × (SessionId → List Path) × ℕ × Rows Scalar

-- what the index says is what the log says
said_is : (log : Log) (moment : ℕ) (index : Index) → ServerInvariant log moment index
    → let es = entries log in let a : Said = (part_at index, paths_at index, open_count index.places, index.tree) in let b : Said = (λ c. part_of c es, listens_in es, length (open_sessions es), tree es) in a ≡ b
said_is log moment index kept =
    λ i. (λ c. kept.indexed.parts c i, λ s. kept.indexed.listens s i, count_is log moment index kept i, kept.indexed.tree i)

abbrev SaidTogether : ℕ → List Entry → Said → Type 0
SaidTogether m xs x = MayComeTogetherBy x.0 x.1 x.2 x.3 m xs

-- a batch that the index lets in
pub record Joins (log : Log) (moment : ℕ) (index : Index) (b : Batch) : Type 0 where
  pub first : b.first ≡ number log + 1
  pub not_earlier : moment ≤ b.moment
  pub room : LeavesRoomBy (number log) (open_count index.places) b.entries
  pub together : MayComeTogetherBy (part_at index) (paths_at index) (open_count index.places) index.tree b.moment b.entries

pub joins_in : (log : Log) (moment : ℕ) (index : Index) (b : Batch) → ServerInvariant log moment index → b.moment ≤ moments.last_moment → Joins log moment index b → MayFollow log b
joins_in log moment index b kept range joins =
    let es = entries log in
    let sound = legal_is_sound log kept.legal in
    let together : MayComeTogether es b.moment b.entries = together_in es b.moment b.entries sound (subst (SaidTogether b.moment b.entries) (said_is log moment index kept) joins.together) in
    let last = kept.last in
    let later = joins.not_earlier in
    let both = length-append es b.entries in
    let opens = opens_are es b.moment b.entries sound (uncounted_together es b.moment b.entries together) in
    let same = ap (open_steps b.entries) (count_is log moment index kept) in
    let room = joins.room in
    record { first = joins.first; not_earlier = omega arith; in_range = range; allowed = together; room = omega arith }

pub joins_out : (log : Log) (moment : ℕ) (index : Index) (b : Batch) → ServerInvariant log moment index → MayFollow log b → Joins log moment index b
joins_out log moment index b kept follows =
    let es = entries log in
    let sound = legal_is_sound log kept.legal in
    let last = kept.last in
    let later = follows.not_earlier in
    let both = length-append es b.entries in
    let opens = opens_are es b.moment b.entries sound (uncounted_together es b.moment b.entries follows.allowed) in
    let same = ap (open_steps b.entries) (count_is log moment index kept) in
    let room = follows.room in
    record {
      first = follows.first;
      not_earlier = omega arith;
      room = omega arith;
      together = subst (SaidTogether b.moment b.entries) (sym (said_is log moment index kept)) (together_out es b.moment b.entries sound follows.allowed);
    }
