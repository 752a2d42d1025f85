-- A transaction that asks is answered with a draft.
use Rattle.std.proofs.Common.{ℕ, ◌≡◌, ◌+◌, ◌++◌, List, [], ◌∷◌, false, Option, Some, None, refl, ap, if◌then◌else◌}
use Rattle.pres_tree.specs.Rows.{Rows}
use Rattle.pres_write.specs.declared.draft.DraftLeaf.{DraftLeaf}
use Rattle.pres_wire.specs.declared.up.Up.{Up}
use Rattle.pres_client_state.specs.declared.ask.Ask.{Ask}
use Rattle.pres_client_state.specs.declared.notice.Notice.{Notice}
use Rattle.pres_client_state.specs.declared.queued.Queued.{Queued}
use Rattle.pres_client.specs.declared.call.Answer.TheVariants.{New}
use Rattle.pres_client_state.specs.Asks.{Asks, without_ask}
use Rattle.pres_client.specs.Clients.{ClientState, is_online, no_write, no_message}
use Rattle.pres_client_state.specs.Asks.{is_too_deep}
use Rattle.pres_client.specs.Calls.{answer_refusal, after_answer, make_write, sent_now, try_of}

pub try_accepted : (c : ClientState) (new : Rows DraftLeaf) (o : Option Ask) (a : Ask) → o ≡ Some a → no_write c ≡ false → no_message c ≡ false → is_too_deep a new ≡ false → answer_refusal c (New new) o ≡ None
try_accepted c new o a found write message deep = rw (found, write, message, deep) refl

pub tried : (c : ClientState) (k : ℕ) (new : Rows DraftLeaf) (o : Option Ask) (a : Ask) → o ≡ Some a → after_answer c k (New new) o ≡ (let d = make_write c (try_of k a new) in record d { asks = without_ask k c.asks })
tried c k new o a found = ap (after_answer c k (New new)) found

-- the client after it, field by field
pub tried_fields : (c : ClientState) (m : Queued) (k sent : ℕ) (queue : List Queued) (sends : List Up) (notices : List Notice) (asks : Asks)
    → queue ≡ c.queue ++ m ∷ [] → sends ≡ c.sends ++ sent_now c m → notices ≡ c.notices → asks ≡ without_ask k c.asks → sent ≡ (if is_online c.phase then c.made + 1 else c.sent)
    → record c { made = c.made + 1; sent = sent; queue = queue; sends = sends; notices = notices; asks = asks } ≡ (let d = make_write c m in record d { asks = without_ask k c.asks })
tried_fields c m k sent queue sends notices asks q s n a t = rw (q, s, n, a, t) refl

-- one write more, field by field
pub made_fields : (c : ClientState) (m : Queued) (sent : ℕ) (queue : List Queued) (sends : List Up) (notices : List Notice)
    → queue ≡ c.queue ++ m ∷ [] → sends ≡ c.sends ++ sent_now c m → notices ≡ c.notices → sent ≡ (if is_online c.phase then c.made + 1 else c.sent)
    → record c { made = c.made + 1; sent = sent; queue = queue; sends = sends; notices = notices } ≡ make_write c m
made_fields c m sent queue sends notices q s n t = rw (q, s, n, t) refl
