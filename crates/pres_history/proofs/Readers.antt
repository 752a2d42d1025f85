-- What the index says of sessions is what the log says.
use Rattle.std.proofs.Common.{refl, sym, ◌∙◌, ap, ◌≡◌, List, [], ◌∷◌, Bool, true, false, cond, ◌||◌, Option, Some, None, is_some}
use Rattle.std.specs.List.{list_any, filter}
use Rattle.pres_ids.specs.declared.id.SessionId.{SessionId}
use Rattle.pres_ids.specs.Ids.{stamp_of}
use Rattle.pres_log.specs.declared.entry.Entry.{Entry}
use Rattle.pres_server.specs.InternalParts.{LivePart, is_live, count_in}
use Rattle.pres_server.proofs.Turning.{stamp_itself}
use Rattle.pres_history.specs.Sessions.{is_open, count}
use Rattle.pres_history.specs.InternalParts.{Sound, part_of, live_in}
use Rattle.pres_history.proofs.Parts.{only_open}
use Rattle.pres_history.proofs.Decide.{live_is}

pub count_by : (s : SessionId) (es : List Entry) → Sound es → count_in (part_of s.client es).live (stamp_of s) ≡ cond (is_open s es) (Some (count s es)) None
count_by s es sound = elim (is_open s es) as (λ b. is_open s es ≡ b → count_in (part_of s.client es).live (stamp_of s) ≡ cond b (Some (count s es)) None) [
  | true ↦ λ o. ap (λ xs. count_in (live_in xs es) (stamp_of s)) (only_open s es sound o) ∙ ap (λ b. cond b (Some (count s es)) None) (stamp_itself (stamp_of s))
  | false ↦ λ o. by (part_of s.client es).live (sym (live_is s es sound) ∙ o)
] refl where
  by : (l : Option LivePart) → is_live l (stamp_of s) ≡ false → count_in l (stamp_of s) ≡ None
  by None e = refl
  by (Some l) e = ap (λ b. cond b (Some l.count) None) e

pub some_live : (p : SessionId → Bool) (es : List Entry) (xs : List SessionId) → is_some (live_in (filter p xs) es) ≡ list_any p xs
some_live p es [] = refl
some_live p es (x ∷ xs) = by (p x) (some_live p es xs) where
  by : (b : Bool) → is_some (live_in (filter p xs) es) ≡ list_any p xs → is_some (live_in (cond b (x ∷ filter p xs) (filter p xs)) es) ≡ (b || list_any p xs)
  by true h = refl
  by false h = h
