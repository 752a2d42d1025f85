-- What was read and written so far, over the known bytes of a reader and a writer.
use Rattle.std.proofs.Common.{◌≡◌, ℕ, Bool, List, [], ◌∷◌, ◌++◌, Option, Some, None, IfSome, Result, Err, ◌+◌, ◌<◌, ◌≤◌, length, refl, sym, ap, ◌∙◌, subst, arith, append_assoc, append-nil, length-append}
use Rattle.std.specs.Io.KnownBytes.{Consumes, Appends, IsAtEnd, Keeps}
use Rattle.pres_log.specs.Plains.{last_number}
use Rattle.pres_apply.specs.declared.faults.RunFault.{RunFault}
use Rattle.pres_apply.specs.declared.faults.RunFault.TheVariants.{Spent, Read, Endless}
use Rattle.pres_apply.specs.Faults.{EndsAt}
use Rattle.pres_apply.specs.Replies.{ApplyState}
use Rattle.pres_apply.specs.Replies.{start, reply, next, tree_line}
use Rattle.pres_apply.specs.Lines.{lines_of, replies, end_state, output_of, room, KeepsLine, IsFeedless, AnswersSome, TakesLines, Going, Reached, ReachedPast, Stopped}
use Rattle.pres_apply.proofs.Split.{takes_more, takes_none, replies_all, replies_more, end_all, lines_none, lines_more}

consumes_none : (o : Option (List ℕ)) → Consumes o o []
consumes_none None = tt
consumes_none (Some xs) = refl

appends_none : (o : Option (List ℕ)) → Appends o o []
appends_none None = tt
appends_none (Some xs) = sym (append-nil xs)

pub consumes_more : (a b c : Option (List ℕ)) (xs ys : List ℕ) → Consumes a b xs → Consumes b c ys → Consumes a c (xs ++ ys)
consumes_more None b c xs ys h k = tt
consumes_more (Some zs) None c xs ys h k = absurd h
consumes_more (Some zs) (Some bs) None xs ys h k = k
consumes_more (Some zs) (Some bs) (Some cs) xs ys h k = h ∙ ap (λ z. xs ++ z) k ∙ sym (append_assoc xs ys cs)

pub appends_more : (a b c : Option (List ℕ)) (xs ys : List ℕ) → Appends a b xs → Appends b c ys → Appends a c (xs ++ ys)
appends_more None b c xs ys h k = tt
appends_more (Some zs) None c xs ys h k = absurd h
appends_more (Some zs) (Some bs) None xs ys h k = k
appends_more (Some zs) (Some bs) (Some cs) xs ys h k = k ∙ ap (λ z. z ++ ys) h ∙ append_assoc zs xs ys

-- where all is read, what was read is the input
all_read : (input : List ℕ) (rest : Option (List ℕ)) (seen : List ℕ) → Consumes (Some input) rest seen → IsAtEnd rest → input ≡ seen
all_read input None seen h k = absurd h
all_read input (Some xs) seen h k = h ∙ ap (λ z. seen ++ z) k ∙ append-nil seen

pub going_starts : (input before : Option (List ℕ)) (m : ApplyState) (bytes : List ℕ) (cut : Bool) → m ≡ start → KeepsLine [] bytes cut → Going input input before before m bytes cut 0
going_starts input before m bytes cut e h =
    record { seen = []; said = []; read = consumes_none input; long = omega arith; written = appends_none before; takes = subst (λ x. TakesLines start x [] bytes cut []) (sym e) (takes_none start bytes cut h) }

pub going_more : (input rest rest' before after after' : Option (List ℕ)) (m m' : ApplyState) (bytes bytes' : List ℕ) (cut cut' : Bool) (piece out : List ℕ) (least : ℕ)
    → Going input rest before after m bytes cut least
    → Consumes rest rest' piece
    → 0 < length piece
    → ((line : List ℕ) → IsFeedless line → KeepsLine line bytes cut → (said : List ℕ) × (out ≡ said) × TakesLines m m' (line ++ piece) bytes' cut' said)
    → Appends after after' out
    → Going input rest' before after' m' bytes' cut' (least + 1)
going_more input rest rest' before after after' m m' bytes bytes' cut cut' piece out least w h some step k =
    let t = w.takes in
    let r = step t.last t.feedless t.holds in
    record {
      seen = w.seen ++ piece;
      said = w.said ++ r.0;
      read = consumes_more input rest rest' w.seen piece w.read h;
      long = omega (arith, w.long, some, length-append w.seen piece);
      written = appends_more before after after' w.said r.0 w.written (subst (λ x. Appends after after' x) r.1 k);
      takes = takes_more start m m' w.seen piece bytes bytes' cut cut' w.said r.0 t r.2;
    }

out_all : (m : ApplyState) (seen bytes : List ℕ) (cut : Bool) (said : List ℕ) (t : TakesLines start m seen bytes cut said) → said ++ (reply m t.last ++ tree_line (next m t.last)) ≡ output_of seen
out_all m seen bytes cut said t =
    sym (append_assoc said (reply m t.last) (tree_line (next m t.last))) ∙ ap (λ x. x ++ tree_line (next m t.last)) (replies_all start m seen bytes cut said t)
    ∙ ap (λ x. replies start (lines_of seen) ++ tree_line x) (end_all start m seen bytes cut said t)

ends_known : (input : List ℕ) (rest before after after' : Option (List ℕ)) (m : ApplyState) (bytes : List ℕ) (cut : Bool) (out : List ℕ) (least : ℕ)
    → Going (Some input) rest before after m bytes cut least → IsAtEnd rest
    → ((line : List ℕ) → KeepsLine line bytes cut → out ≡ reply m line ++ tree_line (next m line))
    → Appends after after' out
    → Appends before after' (output_of input)
ends_known input rest before after after' m bytes cut out least w e step k =
    let t = w.takes in
    let whole = appends_more before after after' w.said out w.written k in
    let said : w.said ++ out ≡ output_of input =
    ap (λ x. w.said ++ x) (step t.last t.holds) ∙ out_all m w.seen bytes cut w.said t ∙ ap output_of (sym (all_read input rest w.seen w.read e)) in
    subst (λ x. Appends before after' x) said whole

pub going_ends : (input rest rest' before after after' : Option (List ℕ)) (m : ApplyState) (bytes : List ℕ) (cut : Bool) (out : List ℕ) (least : ℕ)
    → Going input rest before after m bytes cut least → Consumes rest rest' [] → IsAtEnd rest'
    → ((line : List ℕ) → KeepsLine line bytes cut → out ≡ reply m line ++ tree_line (next m line))
    → Appends after after' out
    → IfSome input (λ bs. Appends before after' (output_of bs))
going_ends None rest rest' before after after' m bytes cut out least w h e step k = tt
going_ends (Some input) rest rest' before after after' m bytes cut out least w h e step k =
    ends_known input rest' before after after' m bytes cut out least (record { seen = w.seen; said = w.said; long = w.long; read = subst (λ x. Consumes (Some input) rest' x) (append-nil w.seen) (consumes_more (Some input) rest rest' w.seen [] w.read h); written = w.written; takes = w.takes }) e step k

pub status_ends : (input rest rest' before after : Option (List ℕ)) (m m' : ApplyState) (bytes : List ℕ) (cut : Bool) (least : ℕ)
    → Going input rest before after m bytes cut least → Consumes rest rest' [] → IsAtEnd rest'
    → ((line : List ℕ) → KeepsLine line bytes cut → m' ≡ next m line)
    → IfSome input (λ bs. m'.refused ≡ (end_state bs).refused)
status_ends None rest rest' before after m m' bytes cut least w h e step = tt
status_ends (Some input) rest rest' before after m m' bytes cut least w h e step =
    let t = w.takes in
    let read = subst (λ x. Consumes (Some input) rest' x) (append-nil w.seen) (consumes_more (Some input) rest rest' w.seen [] w.read h) in
    ap (λ x. x.refused) (step t.last t.holds ∙ end_all start m w.seen bytes cut w.said t ∙ ap end_state (sym (all_read input rest' w.seen read e)))

-- ---- runs that end early

-- the lines that have ended so far
pub reached : (input rest before after : Option (List ℕ)) (s : ApplyState) (bytes : List ℕ) (cut : Bool) (least : ℕ) → Going input rest before after s bytes cut least → Reached input rest before after
reached input rest before after s bytes cut least w =
    let t = w.takes in
    record { seen = w.seen; done = t.done; last = t.last; read = w.read; lines = t.whole_is; written = subst (λ x. Appends before after x) t.text w.written }

-- and how many bytes they took at least
pub reached_past : (input rest before after : Option (List ℕ)) (s : ApplyState) (bytes : List ℕ) (cut : Bool) (least : ℕ) → Going input rest before after s bytes cut least → ReachedPast least input rest before after
reached_past input rest before after s bytes cut least w =
    let t = w.takes in
    record {
      reached = record { seen = w.seen; done = t.done; last = t.last; read = w.read; lines = t.whole_is; written = subst (λ x. Appends before after x) t.text w.written };
      long = w.long;
    }

consumes_kept : (a b c : Option (List ℕ)) (xs : List ℕ) → Consumes a b xs → Keeps b c → Consumes a c xs
consumes_kept None b c xs h k = tt
consumes_kept (Some zs) None c xs h k = absurd h
consumes_kept (Some zs) (Some bs) None xs h k = k
consumes_kept (Some zs) (Some bs) (Some cs) xs h k = h ∙ ap (λ z. xs ++ z) (sym k)

-- the same after a read that failed
pub reached_kept : (input rest rest' before after : Option (List ℕ)) (s : ApplyState) (bytes : List ℕ) (cut : Bool) (least : ℕ) → Going input rest before after s bytes cut least → Keeps rest rest' → Reached input rest' before after
reached_kept input rest rest' before after s bytes cut least w k =
    let r = reached input rest before after s bytes cut least w in
    record { seen = r.seen; done = r.done; last = r.last; read = consumes_kept input rest rest' r.seen r.read k; lines = r.lines; written = r.written }

-- memory was refused at the end of the input, where nothing more was read
pub stopped_ends : (input rest rest' before after : Option (List ℕ)) (s : ApplyState) (bytes : List ℕ) (cut : Bool) (least : ℕ)
    → Going input rest before after s bytes cut least → Consumes rest rest' [] → Stopped input rest' before after
stopped_ends input rest rest' before after s bytes cut least w h =
    let r = reached input rest before after s bytes cut least w in
    record { seen = r.seen; left_over = []; done = r.done; last = r.last; read = consumes_more input rest rest' r.seen [] r.read h; short = omega arith; lines = r.lines; written = r.written }

-- memory was refused in a piece, which was answered as far as it was taken
pub stopped_midway : (input rest rest' before after after' : Option (List ℕ)) (m : ApplyState) (bytes : List ℕ) (cut : Bool) (piece out : List ℕ) (least : ℕ)
    → Going input rest before after m bytes cut least
    → Consumes rest rest' piece
    → length piece ≤ room
    → ((line : List ℕ) → IsFeedless line → KeepsLine line bytes cut → (said : List ℕ) × (out ≡ said) × AnswersSome m line piece said)
    → Appends after after' out
    → Stopped input rest' before after'
stopped_midway input rest rest' before after after' m bytes cut piece out least w h short step k =
    let t = w.takes in
    let r = step t.last t.feedless t.holds in
    let a = r.2 in
    let all : w.seen ++ piece ≡ (w.seen ++ a.front) ++ a.back = ap (λ p. w.seen ++ p) a.split ∙ sym (append_assoc w.seen a.front a.back) in
    let said : w.said ++ r.0 ≡ replies start (t.done ++ a.done) =
    ap (λ x. x ++ r.0) t.text ∙ ap (λ x. replies start t.done ++ x) (a.text ∙ ap (λ x. replies x a.done) t.state) ∙ sym (replies_more start t.done a.done) in
    record {
      seen = w.seen ++ a.front;
      left_over = a.back;
      done = t.done ++ a.done;
      last = a.last;
      read = subst (λ x. Consumes input rest' x) all (consumes_more input rest rest' w.seen piece w.read h);
      short = omega (arith, short, ap length a.split, length-append a.front a.back);
      lines = lines_more w.seen t.done t.last a.front t.whole_is ∙ ap (λ ls. t.done ++ ls) a.lines ∙ sym (append_assoc t.done a.done (a.last ∷ []));
      written = subst (λ x. Appends before after' x) said (appends_more before after after' w.said r.0 w.written (subst (λ x. Appends after after' x) r.1 k));
    }

-- nothing is read yet
pub stopped_none : (input before : Option (List ℕ)) → Stopped input input before before
unfolding replies
stopped_none input before = record { seen = []; left_over = []; done = []; last = []; read = consumes_none input; short = omega arith; lines = lines_none; written = appends_none before }

-- what a line ends a run with
pub never_read : (r : Result Bool RunFault) (y e : RunFault) (n : ℕ) → r ≡ Err y → y ≡ e → EndsAt n e → r ≡ Err Read → ⊥
never_read r y e n h k ends i =
    let same : e ≡ Read = cc in
    subst (EndsAt n) same ends

pub never_endless : (r : Result Bool RunFault) (y e : RunFault) (n : ℕ) → r ≡ Err y → y ≡ e → EndsAt n e → r ≡ Err Endless → ⊥
never_endless r y e n h k ends i =
    let same : e ≡ Endless = cc in
    subst (EndsAt n) same ends

pub spent_at : (r : Result Bool RunFault) (y e : RunFault) (n : ℕ) → r ≡ Err y → y ≡ e → EndsAt n e → r ≡ Err Spent → last_number ≤ n
spent_at r y e n h k ends i =
    let same : e ≡ Spent = cc in
    subst (EndsAt n) same ends
