-- What a log sends to a session begins with its Welcome, and what else begins with it.
use Rattle.std.proofs.Common.{sym, ◌∙◌, ap, ◌≡◌, ℕ, List, [], ◌∷◌, ◌++◌, true, false, cond}
use Rattle.std.specs.List.{list_any}
use mathlib.Core.List.{IsPrefix}
use Rattle.pres_ids.specs.declared.id.SessionId.{SessionId}
use Rattle.pres_wire.specs.declared.down.Down.{Down}
use Rattle.pres_wire.specs.declared.down.Down.TheVariants.{Welcome}
use Rattle.pres_log.specs.declared.entry.Entry.{Entry}
use Rattle.pres_history.specs.Sessions.{opens}
use Rattle.pres_history.specs.Streams.{stream, welcome}
use Rattle.pres_ring.specs.Transcripts.{transcript, up_to_open, IsWelcome, StartsWithWelcome, MayStartWithWelcome}

pub told_opened : (s : SessionId) (es : List Entry) → list_any (opens s) es ≡ true → transcript s es ≡ welcome s (up_to_open s es) ∷ stream s es
told_opened s es o = ap (λ b. cond b (welcome s (up_to_open s es) ∷ stream s es) []) o

pub told_unopened : (s : SessionId) (es : List Entry) → list_any (opens s) es ≡ false → transcript s es ≡ []
told_unopened s es o = ap (λ b. cond b (welcome s (up_to_open s es) ∷ stream s es) []) o

head_of : (m w : Down) (more ms : List Down) → m ∷ more ≡ w ∷ ms → m ≡ w
head_of m w more ms e = cc e

same_welcome : (s t : SessionId) (z n y k : ℕ) → Welcome s z n ≡ Welcome t y k → s ≡ t
same_welcome s t z n y k e = cc e

-- a Welcome names one session
pub one_welcome : (s t : SessionId) (m : Down) → IsWelcome s m → IsWelcome t m → t ≡ s
one_welcome s t m a b = same_welcome t s b.0 b.1 a.0 a.1 (sym b.2 ∙ a.2)

-- with one message more taken, as far as it was known
pub starts_taken : (s : SessionId) (xs ahead new : List Down) (m : Down) → StartsWithWelcome s (xs ++ ahead) → IsPrefix ahead (m ∷ new) → StartsWithWelcome s ((xs ++ m ∷ []) ++ new)
starts_taken s [] [] new m b p = absurd b
starts_taken s [] (a ∷ ahead) new m b p = (b.0, b.1, sym (head_of a m (ahead ++ p.0) new p.1) ∙ b.2)
starts_taken s (x ∷ xs) ahead new m b p = b

pub begins_front : (s : SessionId) (xs ahead : List Down) → StartsWithWelcome s (xs ++ ahead) → MayStartWithWelcome s xs
begins_front s [] ahead b = tt
begins_front s (x ∷ xs) ahead b = b
