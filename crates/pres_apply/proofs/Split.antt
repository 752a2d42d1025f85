-- Lines of a text that comes in pieces.
use Rattle.std.proofs.Common.{◌≡◌, ◌==◌, ◌+◌, ◌<◌, ℕ, zero, suc, Bool, true, false, List, [], ◌∷◌, ◌++◌, length, take, drop, slice_index, refl, sym, ap, ◌∙◌, append_assoc, append-nil, ◌||◌, arith, eqb-true, add-one}
use Rattle.std.proofs.lemmas.Bool.{false_from_ne_true}
use Rattle.std.proofs.Math.Seq.{split_at}
use Rattle.pres_apply.specs.Replies.{ApplyState}
use Rattle.pres_apply.specs.Replies.{reply, next}
use Rattle.pres_apply.specs.Lines.{lines_of, replies, end_of, IsFeedless, KeepsLine, TakesLines, Midway, AnswersSome}
use Rattle.std.specs.List.{onto_first}
use Rattle.std.proofs.lemmas.List.Folds.{list_any-append}

lines_feed : (b : ℕ) (bs : List ℕ) → (b == 10) ≡ true → lines_of (b ∷ bs) ≡ [] ∷ lines_of bs
unfolding lines_of
lines_feed b bs e = rw e

lines_other : (b : ℕ) (bs : List ℕ) → (b == 10) ≡ false → lines_of (b ∷ bs) ≡ onto_first b (lines_of bs)
unfolding lines_of
lines_other b bs e = rw e

pub lines_none : lines_of [] ≡ [] ∷ []
unfolding lines_of
lines_none = refl

record First (bs : List ℕ) : Type 0 where
  line : List ℕ
  rest : List (List ℕ)
  is : lines_of bs ≡ line ∷ rest

first_by : (b : ℕ) (bs : List ℕ) (t : Bool) → (b == 10) ≡ t → First bs → First (b ∷ bs)
first_by b bs true e f = record { line = []; rest = lines_of bs; is = lines_feed b bs e }
first_by b bs false e f = record { line = b ∷ f.line; rest = f.rest; is = lines_other b bs e ∙ ap (onto_first b) f.is }

first_line : (bs : List ℕ) → First bs
first_line [] = record { line = []; rest = []; is = lines_none }
first_line (b ∷ bs) = first_by b bs (b == 10) refl (first_line bs)

no_end : (done : List (List ℕ)) (last : List ℕ) → [] ≡ done ++ last ∷ [] → ⊥
no_end [] last e = cc
no_end (d ∷ ds) last e = cc

More : List ℕ → Type 0
More bs = (done : List (List ℕ)) (last more : List ℕ) → lines_of bs ≡ done ++ last ∷ [] → lines_of (bs ++ more) ≡ done ++ lines_of (last ++ more)

more_none : (done : List (List ℕ)) (last more : List ℕ) → [] ∷ [] ≡ done ++ last ∷ [] → lines_of more ≡ done ++ lines_of (last ++ more)
more_none [] last more e =
    let same : [] ≡ last = cc in rw (← same) refl
more_none (d ∷ ds) last more e =
    let tails : [] ≡ ds ++ last ∷ [] = cc in absurd (no_end ds last tails)

more_feed : (b : ℕ) (bs : List ℕ) → (b == 10) ≡ true → More bs → (done : List (List ℕ)) (last more : List ℕ) → [] ∷ lines_of bs ≡ done ++ last ∷ [] → lines_of (b ∷ (bs ++ more)) ≡ done ++ lines_of (last ++ more)
unfolding More
more_feed b bs e h [] last more k =
    let f = first_line bs in
    let none : lines_of bs ≡ [] = cc in
    let some = f.is in cc
more_feed b bs e h (d ∷ ds) last more k =
    let first : [] ≡ d = cc in
    let tails : lines_of bs ≡ ds ++ last ∷ [] = cc in
    lines_feed b (bs ++ more) e ∙ ap (λ ls. [] ∷ ls) (h ds last more tails) ∙ ap (λ x. x ∷ (ds ++ lines_of (last ++ more))) first

more_other : (b : ℕ) (bs : List ℕ) → (b == 10) ≡ false → More bs → First bs → (done : List (List ℕ)) (last more : List ℕ) → onto_first b (lines_of bs) ≡ done ++ last ∷ [] → lines_of (b ∷ (bs ++ more)) ≡ done ++ lines_of (last ++ more)
unfolding More
more_other b bs e h f [] last more k =
    let seen : (b ∷ f.line) ∷ f.rest ≡ last ∷ [] = ap (onto_first b) (sym f.is) ∙ k in
    let here : b ∷ f.line ≡ last = cc in
    let none : f.rest ≡ [] = cc in
    let alone : lines_of bs ≡ f.line ∷ [] = f.is ∙ ap (λ ls. f.line ∷ ls) none in
    lines_other b (bs ++ more) e ∙ ap (onto_first b) (h [] f.line more alone) ∙ sym (lines_other b (f.line ++ more) e) ∙ ap (λ x. lines_of (x ++ more)) here
more_other b bs e h f (d ∷ ds) last more k =
    let seen : (b ∷ f.line) ∷ f.rest ≡ d ∷ (ds ++ last ∷ []) = ap (onto_first b) (sym f.is) ∙ k in
    let here : b ∷ f.line ≡ d = cc in
    let tails : f.rest ≡ ds ++ last ∷ [] = cc in
    let whole : lines_of bs ≡ (f.line ∷ ds) ++ last ∷ [] = f.is ∙ ap (λ ls. f.line ∷ ls) tails in
    lines_other b (bs ++ more) e ∙ ap (onto_first b) (h (f.line ∷ ds) last more whole) ∙ ap (λ x. x ∷ (ds ++ lines_of (last ++ more))) here

more_by : (b : ℕ) (bs : List ℕ) (t : Bool) → (b == 10) ≡ t → More bs → More (b ∷ bs)
unfolding More
more_by b bs true e h done last more k = more_feed b bs e h done last more (sym (lines_feed b bs e) ∙ k)
more_by b bs false e h done last more k = more_other b bs e h (first_line bs) done last more (sym (lines_other b bs e) ∙ k)

more_all : (bs : List ℕ) → More bs
unfolding More
more_all [] done last more e = more_none done last more (sym lines_none ∙ e)
more_all (b ∷ bs) done last more e = more_by b bs (b == 10) refl (more_all bs) done last more e

-- the lines of more bytes: the last line goes on
pub lines_more : (bs : List ℕ) (done : List (List ℕ)) (last more : List ℕ) → lines_of bs ≡ done ++ last ∷ [] → lines_of (bs ++ more) ≡ done ++ lines_of (last ++ more)
unfolding More
lines_more bs done last more e = more_all bs done last more e

pub replies_more : (m : ApplyState) (ls ks : List (List ℕ)) → replies m (ls ++ ks) ≡ replies m ls ++ replies (end_of m ls) ks
unfolding replies end_of
replies_more m [] ks = refl
replies_more m (l ∷ ls) ks = rw (replies_more (next m l) ls ks, append_assoc)

pub end_more : (m : ApplyState) (ls ks : List (List ℕ)) → end_of m (ls ++ ks) ≡ end_of (end_of m ls) ks
unfolding end_of
end_more m [] ks = refl
end_more m (l ∷ ls) ks = end_more (next m l) ls ks

-- ---- bytes with no line feed

split_or : (a b : Bool) → (a || b) ≡ false → (a ≡ false) × (b ≡ false)
split_or false b h = (refl, h)
split_or true b h = cc

feedless_head : (b : ℕ) (bs : List ℕ) → IsFeedless (b ∷ bs) → ((b == 10) ≡ false) × IsFeedless bs
unfolding IsFeedless
feedless_head b bs h = split_or (b == 10) _ h

pub feedless_none : IsFeedless []
unfolding IsFeedless
feedless_none = refl

pub feedless_append : (xs ys : List ℕ) → IsFeedless xs → IsFeedless ys → IsFeedless (xs ++ ys)
unfolding IsFeedless
feedless_append xs ys h k = list_any-append (λ b. b == 10) xs ys ∙ rw (h, k)

-- what comes before the first line feed
pub feedless_before : (xs : List ℕ) (k : ℕ) → ((j : ℕ) → j < k → j < length xs → (slice_index xs j == 10) ≡ true → ⊥) → IsFeedless (take k xs)
unfolding IsFeedless
feedless_before xs zero h = refl
feedless_before [] (suc k) h = refl
feedless_before (x ∷ xs) (suc k) h = rw (false_from_ne_true (x == 10) (h 0 (omega arith) (omega arith)), feedless_before xs k (λ j m l. h (suc j) (omega arith) (omega arith)))

-- a text, cut at a line feed
pub cut_at_feed : (xs : List ℕ) (k : ℕ) → k < length xs → (slice_index xs k == 10) ≡ true → xs ≡ take k xs ++ 10 ∷ drop (k + 1) xs
cut_at_feed xs k l e =
    let feed : slice_index xs k ≡ 10 = eqb-true (slice_index xs k) 10 e in
    split_at xs k 0 l ∙ ap (λ b. take k xs ++ b ∷ drop (suc k) xs) feed ∙ ap (λ n. take k xs ++ 10 ∷ drop n xs) (sym (add-one k))

-- a line, then a line feed
pub lines_line : (line more : List ℕ) → IsFeedless line → lines_of (line ++ 10 ∷ more) ≡ line ∷ lines_of more
lines_line [] more h = lines_feed 10 more refl
lines_line (b ∷ bs) more h =
    let parts = feedless_head b bs h in
    lines_other b _ parts.0 ∙ ap (onto_first b) (lines_line bs more parts.1)

pub lines_last : (line : List ℕ) → IsFeedless line → lines_of line ≡ line ∷ []
lines_last [] h = lines_none
lines_last (b ∷ bs) h =
    let parts = feedless_head b bs h in
    lines_other b _ parts.0 ∙ ap (onto_first b) (lines_last bs parts.1)

-- ---- steps

replies_end : (old mid : ApplyState) (done : List (List ℕ)) (line : List ℕ) → mid ≡ end_of old done → replies old done ++ reply mid line ≡ replies old (done ++ line ∷ [])
unfolding replies
replies_end old mid done line e = ap (λ x. replies old done ++ reply x line) e ∙ ap (λ x. replies old done ++ x) (sym (append-nil _)) ∙ sym (replies_more old done (line ∷ []))

pub midway_starts : (m : ApplyState) (line piece bytes : List ℕ) (cut : Bool) (out : List ℕ) → IsFeedless line → KeepsLine line bytes cut → Midway m m line piece piece bytes cut out out
unfolding end_of replies
midway_starts m line piece bytes cut out f h = record {
  front = [];
  done = [];
  last = line;
  split = refl;
  lines = ap lines_of (append-nil line) ∙ lines_last line f;
  feedless = f;
  holds = h;
  state = refl;
  text = sym (append-nil out);
}

-- a line ends
pub midway_goes : (old mid new : ApplyState) (begun piece rest head tail bytes bytes' : List ℕ) (cut cut' : Bool) (before out out' : List ℕ)
    → Midway old mid begun piece rest bytes cut before out → rest ≡ head ++ 10 ∷ tail → IsFeedless head → KeepsLine [] bytes' cut'
    → ((line : List ℕ) → KeepsLine line bytes cut → (new ≡ next mid (line ++ head)) × (out' ≡ out ++ reply mid (line ++ head)))
    → Midway old new begun piece tail bytes' cut' before out'
unfolding end_of replies
midway_goes old mid new begun piece rest head tail bytes bytes' cut cut' before out out' m split f h step =
    let line = m.last ++ head in
    let ending = head ++ 10 ∷ [] in
    let one = feedless_append m.last head m.feedless f in
    let now = step m.last m.holds in
    let ended : lines_of (m.last ++ ending) ≡ line ∷ [] ∷ [] =
    ap lines_of (sym (append_assoc m.last head (10 ∷ []))) ∙ lines_line line [] one ∙ ap (λ ls. line ∷ ls) lines_none in
    record {
      front = m.front ++ ending;
      done = m.done ++ line ∷ [];
      last = [];
      split = m.split ∙ ap (λ r. m.front ++ r) (split ∙ sym (append_assoc head (10 ∷ []) tail)) ∙ sym (append_assoc m.front ending tail);
      lines = ap lines_of (sym (append_assoc begun m.front ending)) ∙ lines_more (begun ++ m.front) m.done m.last ending m.lines
          ∙ ap (λ ls. m.done ++ ls) ended ∙ sym (append_assoc m.done (line ∷ []) ([] ∷ []));
      feedless = feedless_none;
      holds = h;
      state = now.0 ∙ ap (λ x. next x line) m.state ∙ sym (end_more old m.done (line ∷ []));
      text = now.1 ∙ ap (λ x. x ++ reply mid line) m.text ∙ append_assoc before _ _ ∙ ap (λ x. before ++ x) (replies_end old mid m.done line m.state);
    }

-- what has been answered so far
pub midway_stops : (old mid : ApplyState) (begun piece rest bytes : List ℕ) (cut : Bool) (before out : List ℕ)
    → Midway old mid begun piece rest bytes cut before out
    → (said : List ℕ) × (out ≡ before ++ said) × AnswersSome old begun piece said
midway_stops old mid begun piece rest bytes cut before out m =
    (replies old m.done, m.text, record { front = m.front; back = rest; done = m.done; last = m.last; split = m.split; lines = m.lines; text = refl })

-- no line feed is left
pub midway_ends : (old new : ApplyState) (begun piece rest bytes bytes' : List ℕ) (cut cut' : Bool) (before out : List ℕ)
    → Midway old new begun piece rest bytes cut before out → IsFeedless rest
    → ((line : List ℕ) → KeepsLine line bytes cut → KeepsLine (line ++ rest) bytes' cut')
    → (said : List ℕ) × (out ≡ before ++ said) × TakesLines old new (begun ++ piece) bytes' cut' said
midway_ends old new begun piece rest bytes bytes' cut cut' before out m f push =
    let one = feedless_append m.last rest m.feedless f in
    let is : lines_of (begun ++ piece) ≡ m.done ++ (m.last ++ rest) ∷ [] =
    ap (λ p. lines_of (begun ++ p)) m.split ∙ ap lines_of (sym (append_assoc begun m.front rest)) ∙ lines_more (begun ++ m.front) m.done m.last rest m.lines
    ∙ ap (λ ls. m.done ++ ls) (lines_last (m.last ++ rest) one) in
    (replies old m.done, m.text, record { done = m.done; last = m.last ++ rest; whole_is = is; feedless = one; holds = push m.last m.holds; state = m.state; text = refl })

-- a text and a further piece of it
pub takes_more : (old mid new : ApplyState) (seen piece bytes bytes' : List ℕ) (cut cut' : Bool) (said more : List ℕ)
    → (m : TakesLines old mid seen bytes cut said) → TakesLines mid new (m.last ++ piece) bytes' cut' more
    → TakesLines old new (seen ++ piece) bytes' cut' (said ++ more)
takes_more old mid new seen piece bytes bytes' cut cut' said more m t =
    record {
      done = m.done ++ t.done;
      last = t.last;
      whole_is = lines_more seen m.done m.last piece m.whole_is ∙ ap (λ ls. m.done ++ ls) t.whole_is ∙ sym (append_assoc m.done t.done (t.last ∷ []));
      feedless = t.feedless;
      holds = t.holds;
      state = t.state ∙ ap (λ x. end_of x t.done) m.state ∙ sym (end_more old m.done t.done);
      text = ap (λ x. x ++ more) m.text ∙ ap (λ x. replies old m.done ++ x) (t.text ∙ ap (λ x. replies x t.done) m.state) ∙ sym (replies_more old m.done t.done);
    }

pub takes_none : (m : ApplyState) (bytes : List ℕ) (cut : Bool) → KeepsLine [] bytes cut → TakesLines m m [] bytes cut []
unfolding end_of replies
takes_none m bytes cut h = record { done = []; last = []; whole_is = lines_none; feedless = feedless_none; holds = h; state = refl; text = refl }

-- the text ends
pub replies_all : (old new : ApplyState) (seen bytes : List ℕ) (cut : Bool) (said : List ℕ) (t : TakesLines old new seen bytes cut said) → said ++ reply new t.last ≡ replies old (lines_of seen)
replies_all old new seen bytes cut said t =
    ap (λ x. x ++ reply new t.last) t.text ∙ replies_end old new t.done t.last t.state ∙ ap (λ ls. replies old ls) (sym t.whole_is)

pub end_all : (old new : ApplyState) (seen bytes : List ℕ) (cut : Bool) (said : List ℕ) (t : TakesLines old new seen bytes cut said) → next new t.last ≡ end_of old (lines_of seen)
unfolding end_of
end_all old new seen bytes cut said t =
    ap (λ x. next x t.last) t.state ∙ sym (end_more old t.done (t.last ∷ [])) ∙ ap (λ ls. end_of old ls) (sym t.whole_is)
