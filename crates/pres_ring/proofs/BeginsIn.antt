-- What is put and taken begins with the Welcome of its session, by histories.
use Rattle.std.proofs.Common.{sym, ◌∙◌, subst, ◌≡◌, List, [], ◌∷◌, ◌++◌, append_assoc}
use Rattle.pres_ids.specs.declared.id.SessionId.{SessionId}
use Rattle.pres_wire.specs.declared.down.Down.{Down}
use Rattle.pres_ring.specs.Transcripts.{IsWelcome, StartsWithWelcome}
use Rattle.pres_ring.specs.HistoryTranscripts.{BeginsTranscriptIn, MayPutIn}
use Rattle.pres_ring.proofs.Begins.{one_welcome}
use Rattle.pres_ring.specs.TakenMessages.{AreNumbered, TakenInOrder}
use Rattle.pres_ring.proofs.Numbers.{after_first, numbered_front}
use Rattle.pres_ring.proofs.HistoriesTell.{transcripts_begin, transcript_numbered}

-- a beginning of a beginning
pub told_front : (s : SessionId) (xs ys : List Down) → BeginsTranscriptIn s (xs ++ ys) → BeginsTranscriptIn s xs
told_front s xs ys k = record { history = k.history; sum = k.sum; closed = k.closed; leads = k.leads; opened = k.opened; within = (ys ++ k.within.0, sym (append_assoc xs ys k.within.0) ∙ k.within.1) }

-- the first message sent is the Welcome
pub first_told : (s : SessionId) (m : Down) (more : List Down) → BeginsTranscriptIn s (m ∷ more) → IsWelcome s m
first_told s m more k = subst (StartsWithWelcome s) (sym k.within.1) ((transcripts_begin s k.history k.sum k.closed k.leads).opened k.opened)

-- a transcript that begins with the Welcome of s is no other session's
whose : (s t : SessionId) (xs new : List Down) (m : Down) → StartsWithWelcome s ((xs ++ m ∷ []) ++ new) → BeginsTranscriptIn t (xs ++ m ∷ []) → t ≡ s
whose s t [] new m b k = one_welcome s t m b (first_told t m [] k)
whose s t (x ∷ xs) new m b k = one_welcome s t x b (first_told t x (xs ++ m ∷ []) k)

pub told_taken : (s : SessionId) (xs new : List Down) (m : Down) → StartsWithWelcome s ((xs ++ m ∷ []) ++ new) → MayPutIn xs m → BeginsTranscriptIn s (xs ++ m ∷ [])
told_taken s xs new m b k = subst (λ t. BeginsTranscriptIn t (xs ++ m ∷ [])) (whose s k.0 xs new m b k.1) k.1

-- and what follows it is numbered from 1
pub taken_in_order : (s : SessionId) (xs : List Down) → TakenInOrder s xs
taken_in_order s [] k = tt
taken_in_order s (m ∷ more) k = (
  first_told s m more k,
  numbered_front 1 more k.within.0 (subst (λ ms. AreNumbered 1 (after_first ms)) (sym k.within.1) (transcript_numbered s k.history k.sum k.closed k.leads)),
)
