-- The messages that a client makes, after any steps.
use Rattle.std.proofs.Common.{refl, sym, ◌∙◌, ap, ◌≡◌, ℕ, suc, ◌+◌, ◌≤◌, arith, List, [], ◌∷◌, ◌++◌, map, length, drop, length-append, drop-drop, Bool, true, false, cond, ◌&&◌, if◌then◌else◌, true≢false, Option, Some, None}
use Rattle.std.specs.List.{filter, filter_map, list_all}
use Rattle.std.proofs.lemmas.Bool.{and_parts}
use Rattle.std.proofs.lemmas.List.{drop-append-le}
use Rattle.std.proofs.lemmas.List.Elements.{filter_map-append}
use Rattle.std.proofs.lemmas.List.Folds.{list_all-append}
use Rattle.pres_tree.specs.Paths.{Path}
use Rattle.pres_write.specs.declared.op.Op.{Op}
use Rattle.pres_write.specs.declared.op.Op.TheVariants as op
use Rattle.pres_ids.specs.declared.id.SessionId.{SessionId}
use Rattle.pres_wire.specs.declared.up.Up.TheVariants as up
use Rattle.pres_client_state.specs.declared.queued.Queued.{Queued}
use Rattle.pres_client_state.specs.declared.queued.Queued.TheVariants as queued
use Rattle.pres_client_state.specs.declared.watch.Watch.{Watch}
use Rattle.pres_client_state.specs.Queues.{is_write, message, next_write, messages, count_writes}
use Rattle.pres_client_state.specs.Watches.{on_of}
use Rattle.pres_client.specs.Sends.{SendList, numbered, on_messages, op_messages}

-- ---- the writes of a queue

abbrev pub op_of : Queued → Option Op
op_of (queued.Write k o) = Some o
op_of (queued.Try k attempt t) = Some (op.Tx t)
op_of (queued.Left k o) = None
op_of (queued.Cancel k p) = None
op_of (queued.On k p) = None
op_of (queued.Off p) = None

abbrev pub ops_of : List Queued → List Op
ops_of ms = filter_map op_of ms

next_more : (m : Queued) (n k : ℕ) → n + next_write k m ≡ next_write n m + k
next_more m n k = by (is_write m) where
  by : (b : Bool) → n + (if b then k + 1 else k) ≡ (if b then n + 1 else n) + k
  by true = omega arith
  by false = refl

next_between : (m : Queued) (a b : ℕ) → next_write (a + b + 1) m ≡ a + next_write b m + 1
next_between m a b = by (is_write m) where
  by : (w : Bool) → (if w then (a + b + 1) + 1 else (a + b + 1)) ≡ a + (if w then b + 1 else b) + 1
  by true = omega arith
  by false = refl

count-push : (ms : List Queued) (m : Queued) → count_writes (ms ++ m ∷ []) ≡ next_write (count_writes ms) m
count-push [] m = refl
count-push (a ∷ ms) m = ap (λ k. next_write k a) (count-push ms m) ∙ by (is_write a) (is_write m) where
  by : (b d : Bool) → (if b then (if d then count_writes ms + 1 else count_writes ms) + 1 else (if d then count_writes ms + 1 else count_writes ms))
      ≡ (if d then (if b then count_writes ms + 1 else count_writes ms) + 1 else (if b then count_writes ms + 1 else count_writes ms))
  by true true = refl
  by true false = refl
  by false true = refl
  by false false = refl

messages-push : (s : SessionId) (q n : ℕ) (ms : List Queued) (m : Queued) → messages s q n (ms ++ m ∷ []) ≡ messages s q n ms ++ message s (q + length ms) (n + count_writes ms) m ∷ []
messages-push s q n [] m =
    let e : q + 0 ≡ q = omega arith in
    let f : n + 0 ≡ n = omega arith in
    λ i. message s (sym e i) (sym f i) m ∷ []
messages-push s q n (a ∷ ms) m =
    let e : (q + 1) + length ms ≡ q + length (a ∷ ms) = omega arith in
    let f : next_write n a + count_writes ms ≡ n + count_writes (a ∷ ms) = sym (next_more a n (count_writes ms)) in
    ap (λ r. message s q n a ∷ r) (messages-push s (q + 1) (next_write n a) ms m) ∙ λ i. message s q n a ∷ (messages s (q + 1) (next_write n a) ms ++ message s (e i) (f i) m ∷ [])

-- what stays of a queue when its session is left
count_kept : (ms : List Queued) → count_writes (filter is_write ms) ≡ count_writes ms
count_kept [] = refl
count_kept (m ∷ ms) = by (is_write m) refl (count_kept ms) where
  by : (b : Bool) → is_write m ≡ b → count_writes (filter is_write ms) ≡ count_writes ms → count_writes (cond b (m ∷ filter is_write ms) (filter is_write ms)) ≡ (if b then count_writes ms + 1 else count_writes ms)
  by true e h = ap (λ b. if b then count_writes (filter is_write ms) + 1 else count_writes (filter is_write ms)) e ∙ ap (λ k. k + 1) h
  by false e h = h

ops_kept : (ms : List Queued) → ops_of (filter is_write ms) ≡ ops_of ms
ops_kept [] = refl
ops_kept (queued.Write k o ∷ ms) = ap (λ r. o ∷ r) (ops_kept ms)
ops_kept (queued.Try k attempt t ∷ ms) = ap (λ r. op.Tx t ∷ r) (ops_kept ms)
ops_kept (queued.Left k o ∷ ms) = ops_kept ms
ops_kept (queued.Cancel k p ∷ ms) = ops_kept ms
ops_kept (queued.On k p ∷ ms) = ops_kept ms
ops_kept (queued.Off p ∷ ms) = ops_kept ms

all_kept : (ms : List Queued) → list_all is_write (filter is_write ms) ≡ true
all_kept [] = refl
all_kept (m ∷ ms) = by (is_write m) refl (all_kept ms) where
  by : (b : Bool) → is_write m ≡ b → list_all is_write (filter is_write ms) ≡ true → list_all is_write (cond b (m ∷ filter is_write ms) (filter is_write ms)) ≡ true
  by true e h = λ i. e i && h i
  by false e h = h

-- ---- what was made, and what waits

pub record Open (s : SessionId) (base answered heard : ℕ) (queue : List Queued) (t : SendList) : Type 0 where
  pub rest : drop heard t.messages ≡ messages s (heard + 1) (base + answered + 1) queue
  pub count : length t.messages ≡ heard + length queue

-- a client with this data, whose session is open where `on`, and was open before only where `was`, has made this
pub record Fits (was : Bool) (s : SessionId) (base made answered heard : ℕ) (on : Bool) (queue : List Queued) (t : SendList) : Type 0 where
  pub still : on ≡ true → was ≡ true
  pub writes : length t.writes ≡ made
  pub counted : made ≡ answered + count_writes queue
  pub left : drop answered t.writes ≡ ops_of queue
  pub online : on ≡ true → Open s base answered heard queue t
  pub offline : on ≡ false → list_all is_write queue ≡ true

-- one message more
pub pushes : {was on : Bool} {s : SessionId} {base made answered heard : ℕ} {queue : List Queued} {t : SendList} (m : Queued) (u : SendList) → u.writes ≡ t.writes ++ ops_of (m ∷ [])
    → (on ≡ true → u.messages ≡ t.messages ++ message s (length t.messages + 1) (base + length t.writes + 1) m ∷ []) → (on ≡ false → is_write m ≡ true) → length (ops_of (m ∷ [])) ≡ next_write 0 m
    → Fits was s base made answered heard on queue t → Fits was s base (next_write made m) answered heard on (queue ++ m ∷ []) u
pushes {was} {on} {s} {base} {made} {answered} {heard} {queue} {t} m u ws ms off one h = record {
  still = h.still;
  writes = ap length ws ∙ length-append t.writes (ops_of (m ∷ [])) ∙ (λ i. h.writes i + one i) ∙ more made;
  counted = ap (λ k. next_write k m) h.counted ∙ sym (shift answered (count_writes queue)) ∙ ap (λ k. answered + k) (sym (count-push queue m));
  left = ap (drop answered) ws ∙ drop-append-le answered t.writes (ops_of (m ∷ [])) reach ∙ ap (λ r. r ++ ops_of (m ∷ [])) h.left ∙ sym (filter_map-append op_of queue (m ∷ []));
  online = λ e.
      let o = h.online e in
      let q : length t.messages + 1 ≡ heard + 1 + length queue = omega (arith, o.count) in
      let n : base + length t.writes + 1 ≡ base + answered + 1 + count_writes queue = omega (arith, h.writes, h.counted) in
      record {
        rest = ap (drop heard) (ms e) ∙ drop-append-le heard t.messages _ (omega (arith, o.count)) ∙ (λ i. o.rest i ++ message s (q i) (n i) m ∷ []) ∙ sym (messages-push s (heard + 1) (base + answered + 1) queue m);
        count = ap length (ms e) ∙ length-append t.messages _ ∙ ap (λ k. k + 1) o.count ∙ longer;
      };
  offline = λ e. list_all-append is_write queue (m ∷ []) ∙ (λ i. h.offline e i && (off e i && true));
} where
  reach : answered ≤ length t.writes
  reach = omega (arith, h.writes, h.counted)

  more : (k : ℕ) → k + next_write 0 m ≡ next_write k m
  more k = next_more m k 0 ∙ omega arith

  shift : (a k : ℕ) → a + next_write k m ≡ next_write (a + k) m
  shift a k = by (is_write m) where
    by : (b : Bool) → a + (if b then k + 1 else k) ≡ (if b then (a + k) + 1 else a + k)
    by true = omega arith
    by false = refl

  longer : heard + length queue + 1 ≡ heard + length (queue ++ m ∷ [])
  longer = omega (arith, length-append queue (m ∷ []))

-- the session is left
pub closes : {was on : Bool} {s : SessionId} {base made answered heard : ℕ} {queue : List Queued} {t : SendList} {r : SessionId} {k : ℕ} (u : SendList) → u.writes ≡ t.writes
    → Fits was s base made answered heard on queue t → Fits was r base made answered k false (filter is_write queue) u
closes {was} {on} {s} {base} {made} {answered} {heard} {queue} {t} u ws h = record {
  still = λ e. absurd (true≢false (sym e));
  writes = ap length ws ∙ h.writes;
  counted = h.counted ∙ ap (λ k. answered + k) (sym (count_kept queue));
  left = ap (drop answered) ws ∙ h.left ∙ sym (ops_kept queue);
  online = λ e. absurd (true≢false (sym e));
  offline = λ _. all_kept queue;
}

-- none was open, and none is
pub waits : {was on : Bool} {s : SessionId} {base made answered heard : ℕ} {queue : List Queued} {t : SendList} {r : SessionId} {b : ℕ} → on ≡ false
    → Fits was s base made answered heard on queue t → Fits was r b made answered heard false queue t
waits e h = record { still = λ k. absurd (true≢false (sym k)); writes = h.writes; counted = h.counted; left = h.left; online = λ k. absurd (true≢false (sym k)); offline = λ _. h.offline e }

-- the oldest message has its answer
pub hears : {was on : Bool} {s : SessionId} {base made answered heard : ℕ} {t : SendList} (m : Queued) (rest : List Queued)
    → Fits was s base made answered heard on (m ∷ rest) t → Fits was s base made (next_write answered m) (heard + 1) on rest t
hears {was} {on} {s} {base} {made} {answered} {heard} {t} m rest h = record {
  still = h.still;
  writes = h.writes;
  counted = h.counted ∙ next_more m answered (count_writes rest);
  left = fewer m h.left;
  online = λ e.
      let o = h.online e in
      record {
        rest = sym (drop-drop 1 heard t.messages) ∙ ap (drop 1) o.rest ∙ ap (λ n. messages s (heard + 1 + 1) n rest) (next_between m base answered);
        count = o.count ∙ one_less;
      };
  offline = λ e. (and_parts (is_write m) _ (h.offline e)).1;
} where
  one_less : heard + length (m ∷ rest) ≡ heard + 1 + length rest
  one_less = omega arith

  fewer : (m : Queued) → drop answered t.writes ≡ ops_of (m ∷ rest) → drop (next_write answered m) t.writes ≡ ops_of rest
  fewer (queued.Write k o) l = sym (drop-drop 1 answered t.writes) ∙ ap (drop 1) l
  fewer (queued.Try k attempt x) l = sym (drop-drop 1 answered t.writes) ∙ ap (drop 1) l
  fewer (queued.Left k o) l = l
  fewer (queued.Cancel k p) l = l
  fewer (queued.On k p) l = l
  fewer (queued.Off p) l = l

-- ---- a session that opens

-- writes alone, with their numbers
written : (s : SessionId) (q n : ℕ) (ms : List Queued) → list_all is_write ms ≡ true → messages s q n ms ≡ numbered q (op_messages s n (ops_of ms))
written s q n [] h = refl
written s q n (queued.Write k o ∷ ms) h = ap (λ r. up.Op s q n o ∷ r) (written s (q + 1) (n + 1) ms h)
written s q n (queued.Try k attempt t ∷ ms) h = ap (λ r. up.Op s q n (op.Tx t) ∷ r) (written s (q + 1) (n + 1) ms h)
written s q n (queued.Left k o ∷ ms) h = absurd (true≢false (sym h))
written s q n (queued.Cancel k p ∷ ms) h = absurd (true≢false (sym h))
written s q n (queued.On k p ∷ ms) h = absurd (true≢false (sym h))
written s q n (queued.Off p ∷ ms) h = absurd (true≢false (sym h))

-- after a listen for each path
opened_messages : (s : SessionId) (q n : ℕ) (ws : List (Path × Watch)) (ms : List Queued) → list_all is_write ms ≡ true
    → messages s q n (map on_of ws ++ ms) ≡ numbered q (on_messages s (map (λ e. e.0) ws) ++ op_messages s n (ops_of ms))
opened_messages s q n [] ms h = written s q n ms h
opened_messages s q n (w ∷ ws) ms h = ap (λ r. up.On s q w.0 ∷ r) (opened_messages s (q + 1) n ws ms h)

length-messages : (s : SessionId) (q n : ℕ) (ms : List Queued) → length (messages s q n ms) ≡ length ms
length-messages s q n [] = refl
length-messages s q n (m ∷ ms) = ap suc (length-messages s (q + 1) (next_write n m) ms)

count_ons : (ws : List (Path × Watch)) (ms : List Queued) → count_writes (map on_of ws ++ ms) ≡ count_writes ms
count_ons [] ms = refl
count_ons (w ∷ ws) ms = count_ons ws ms

ops_ons : (ws : List (Path × Watch)) (ms : List Queued) → ops_of (map on_of ws ++ ms) ≡ ops_of ms
ops_ons [] ms = refl
ops_ons (w ∷ ws) ms = ops_ons ws ms

pub opens : {was : Bool} {s : SessionId} {base made answered heard : ℕ} {queue : List Queued} {t : SendList} (r : SessionId) (b : ℕ) (ws : List (Path × Watch)) → Fits was s base made answered heard false queue t
    → Fits true r b made answered 0 true (map on_of ws ++ queue) (record t { messages = numbered 1 (on_messages r (map (λ e. e.0) ws) ++ op_messages r (b + answered + 1) (drop answered t.writes)) })
opens {was} {s} {base} {made} {answered} {heard} {queue} {t} r b ws h =
    let list : numbered 1 (on_messages r (map (λ e. e.0) ws) ++ op_messages r (b + answered + 1) (drop answered t.writes)) ≡ messages r 1 (b + answered + 1) (map on_of ws ++ queue) =
    ap (λ os. numbered 1 (on_messages r (map (λ e. e.0) ws) ++ op_messages r (b + answered + 1) os)) h.left ∙ sym (opened_messages r 1 (b + answered + 1) ws queue (h.offline refl)) in
    record {
      still = λ _. refl;
      writes = h.writes;
      counted = h.counted ∙ ap (λ k. answered + k) (sym (count_ons ws queue));
      left = h.left ∙ sym (ops_ons ws queue);
      online = λ _. record { rest = list; count = ap length list ∙ length-messages r 1 (b + answered + 1) (map on_of ws ++ queue) ∙ whole (length (map on_of ws ++ queue)) };
      offline = λ e. absurd (true≢false e);
    } where
      whole : (k : ℕ) → k ≡ 0 + k
      whole k = omega arith
