-- What becomes of a line when messages are put on their lines.
use Rattle.std.proofs.Common.{refl, sym, ◌∙◌, ap, subst, ◌≡◌, ◌≤◌, ◌<◌, ◌+◌, ℕ, Bool, true, false, cond, ◌||◌, ◌&&◌, inl, inr, ◌⊎◌, Option, Some, None, IfSome, List, [], ◌∷◌, ◌++◌, append-nil, append_assoc, length-append, length, arith}
use Rattle.std.specs.List.{list_any}
use Rattle.pres_ids.specs.declared.id.SessionId.{SessionId}
use Rattle.pres_ids.specs.Ids.{same_session}
use Rattle.pres_fan.proofs.Orders.{session_same, session_itself}
use Rattle.pres_wire.specs.declared.down.Down.{Down}
use Rattle.pres_wire.specs.Messages.{session_for}
use Rattle.pres_ring.specs.RingEnds.{FeedState, Puts, Fits}
use Rattle.pres_ring.specs.Transcripts.{names, those_for, is_gone, is_gone_for}
use Rattle.pres_ring.specs.HistoryTranscripts.{BeginsTranscriptIn}
use Rattle.pres_ring.specs.Lines.{SessionLine, Lines, line_at, ChangesAt}
use Rattle.pres_ring.specs.Deliveries.{FitsTranscript, SentAfter, IsPut, LeavesOrIsPut, LineAfter, LineFits}
use Rattle.pres_ring.specs.InternalFeeds.{sent_on}
use Rattle.pres_ring.proofs.BeginsIn.{told_front}

-- ---- one message

none_for : (s : SessionId) (m : Down) → names s (session_for m) ≡ false → those_for s (m ∷ []) ≡ []
none_for s m n = ap (λ b. cond b (m ∷ []) []) n

one_for : (s : SessionId) (m : Down) → names s (session_for m) ≡ true → those_for s (m ∷ []) ≡ m ∷ []
one_for s m n = ap (λ b. cond b (m ∷ []) []) n

and_false : (a : Bool) → ((a && false) || false) ≡ false
and_false true = refl
and_false false = refl

nothing_sent : (o : Option (List Down)) → SentAfter o [] o
nothing_sent None = refl
nothing_sent (Some xs) = inl (ap Some (sym (append-nil xs)))

-- a message for others
passed : (s : SessionId) (m : Down) (line : Option SessionLine) → names s (session_for m) ≡ false → LineAfter s (m ∷ []) line line
passed s m None n = refl
passed s m (Some l) n =
    subst (λ b. LeavesOrIsPut b l (those_for s (m ∷ [])) (Some l)) (sym (ap (λ b. (is_gone m && b) || false) n ∙ and_false (is_gone m)))
    (subst (λ ms. IsPut l ms (Some l)) (sym (none_for s m n)) (l, refl, refl, nothing_sent l.sent))

passed_fits : (s : SessionId) (m : Down) (line : Option SessionLine) → names s (session_for m) ≡ false → LineFits s (m ∷ []) line line
passed_fits s m None n = tt
passed_fits s m (Some l) n = by l.sent refl where
  by : (o : Option (List Down)) → l.sent ≡ o → IfSome o (λ sent. length sent + length (those_for s (m ∷ [])) ≤ 256 → l.sent ≡ Some (sent ++ those_for s (m ∷ [])))
  by None e = tt
  by (Some xs) e = λ h. e ∙ ap Some (sym (append-nil xs) ∙ ap (λ ys. xs ++ ys) (sym (none_for s m n)))

-- the last message for it
left : (s : SessionId) (m : Down) (line : Option SessionLine) → is_gone m ≡ true → names s (session_for m) ≡ true → LineAfter s (m ∷ []) line None
left s m None g n = refl
left s m (Some l) g n = subst (λ b. LeavesOrIsPut b l (those_for s (m ∷ [])) None) (sym (λ i. (g i && n i) || false)) refl

left_fits : (s : SessionId) (ms : List Down) (line : Option SessionLine) → LineFits s ms line None
left_fits s ms None = tt
left_fits s ms (Some l) = by l.sent where
  by : (o : Option (List Down)) → IfSome o (λ sent. length sent + length (those_for s ms) ≤ 256 → IfSome None (λ (new : SessionLine). new.sent ≡ Some (sent ++ those_for s ms)))
  by None = tt
  by (Some xs) = λ h. tt

-- a message for it
put_on : (s : SessionId) (m : Down) (l new : SessionLine) → is_gone m ≡ false → names s (session_for m) ≡ true → new.mark ≡ l.mark → Puts l.sent m new.sent → LineAfter s (m ∷ []) (Some l) (Some new)
put_on s m l new g n k p =
    subst (λ b. LeavesOrIsPut b l (those_for s (m ∷ [])) (Some new)) (sym (ap (λ b. (b && names s (session_for m)) || false) g))
    (subst (λ ms. IsPut l ms (Some new)) (sym (one_for s m n)) (new, refl, k, by l.sent p)) where
      by : (o : Option (List Down)) → Puts o m new.sent → SentAfter o (m ∷ []) new.sent
      by None q = q
      by (Some xs) q = q

one_below : (a : ℕ) → a + 1 ≤ 256 → a < 256
one_below a h = omega (arith, h)

put_fits : (s : SessionId) (m : Down) (l new : SessionLine) → names s (session_for m) ≡ true → Fits 256 l.sent m new.sent → LineFits s (m ∷ []) (Some l) (Some new)
put_fits s m l new n f = by l.sent f where
  by : (o : Option (List Down)) → Fits 256 o m new.sent → IfSome o (λ sent. length sent + length (those_for s (m ∷ [])) ≤ 256 → new.sent ≡ Some (sent ++ those_for s (m ∷ [])))
  by None q = tt
  by (Some xs) q = λ h. q (one_below (length xs) (subst (λ ms. length xs + length ms ≤ 256) (one_for s m n) h)) ∙ ap (λ ms. Some (xs ++ ms)) (sym (one_for s m n))

-- ---- one message, over all lines

-- it is for no line
pub unsent : (s : SessionId) (m : Down) (o : Option SessionId) (lines : Lines) → session_for m ≡ o → ((t : SessionId) → o ≡ Some t → line_at t lines ≡ None) → LineAfter s (m ∷ []) (line_at s lines) (line_at s lines)
unsent s m None lines e h = passed s m (line_at s lines) (ap (names s) e)
unsent s m (Some t) lines e h = by (same_session s t) refl where
  by : (b : Bool) → same_session s t ≡ b → LineAfter s (m ∷ []) (line_at s lines) (line_at s lines)
  by true k = subst (λ line. LineAfter s (m ∷ []) line line) (sym (ap (λ u. line_at u lines) (session_same s t k) ∙ h t refl)) refl
  by false k = passed s m (line_at s lines) (ap (names s) e ∙ k)

pub unsent_fits : (s : SessionId) (m : Down) (o : Option SessionId) (lines : Lines) → session_for m ≡ o → ((t : SessionId) → o ≡ Some t → line_at t lines ≡ None) → LineFits s (m ∷ []) (line_at s lines) (line_at s lines)
unsent_fits s m None lines e h = passed_fits s m (line_at s lines) (ap (names s) e)
unsent_fits s m (Some t) lines e h = by (same_session s t) refl where
  by : (b : Bool) → same_session s t ≡ b → LineFits s (m ∷ []) (line_at s lines) (line_at s lines)
  by true k = subst (λ line. LineFits s (m ∷ []) line line) (sym (ap (λ u. line_at u lines) (session_same s t k) ∙ h t refl)) tt
  by false k = passed_fits s m (line_at s lines) (ap (names s) e ∙ k)

pub none_at : (t : SessionId) (lines : Lines) → line_at t lines ≡ None → (u : SessionId) → Some t ≡ Some u → line_at u lines ≡ None
none_at t lines none u e = ap (λ v. line_at v lines) (sym (same t u e)) ∙ none where
  same : (a b : SessionId) → Some a ≡ Some b → a ≡ b
  same a b k = cc k

module _ (t : SessionId) (m : Down) (old new : Lines) (is : session_for m ≡ Some t) where
  -- the line of its session leaves
  pub parted : is_gone m ≡ true → ChangesAt t (λ line. None) old new → (s : SessionId) → LineAfter s (m ∷ []) (line_at s old) (line_at s new)
  parted g c s = subst (LineAfter s (m ∷ []) (line_at s old)) (sym (c s)) (by (same_session s t) refl) where
    by : (b : Bool) → same_session s t ≡ b → LineAfter s (m ∷ []) (line_at s old) (cond b None (line_at s old))
    by true k = left s m (line_at s old) g (ap (names s) is ∙ k)
    by false k = passed s m (line_at s old) (ap (names s) is ∙ k)

  pub parted_fits : ChangesAt t (λ line. None) old new → (s : SessionId) → LineFits s (m ∷ []) (line_at s old) (line_at s new)
  parted_fits c s = subst (LineFits s (m ∷ []) (line_at s old)) (sym (c s)) (by (same_session s t) refl) where
    by : (b : Bool) → same_session s t ≡ b → LineFits s (m ∷ []) (line_at s old) (cond b None (line_at s old))
    by true k = left_fits s (m ∷ []) (line_at s old)
    by false k = passed_fits s m (line_at s old) (ap (names s) is ∙ k)

  module _ (l k : SessionLine) (at : line_at t old ≡ Some l) (c : ChangesAt t (λ line. Some k) old new) where
    at_same : (s : SessionId) → same_session s t ≡ true → Some l ≡ line_at s old
    at_same s e = sym (ap (λ u. line_at u old) (session_same s t e) ∙ at)

    -- it is put on the line of its session
    pub sent_one : is_gone m ≡ false → k.mark ≡ l.mark → Puts l.sent m k.sent → (s : SessionId) → LineAfter s (m ∷ []) (line_at s old) (line_at s new)
    sent_one g q p s = subst (LineAfter s (m ∷ []) (line_at s old)) (sym (c s)) (by (same_session s t) refl) where
      by : (b : Bool) → same_session s t ≡ b → LineAfter s (m ∷ []) (line_at s old) (cond b (Some k) (line_at s old))
      by true e = subst (λ line. LineAfter s (m ∷ []) line (Some k)) (at_same s e) (put_on s m l k g (ap (names s) is ∙ e) q p)
      by false e = passed s m (line_at s old) (ap (names s) is ∙ e)

    pub sent_fits : Fits 256 l.sent m k.sent → (s : SessionId) → LineFits s (m ∷ []) (line_at s old) (line_at s new)
    sent_fits f s = subst (LineFits s (m ∷ []) (line_at s old)) (sym (c s)) (by (same_session s t) refl) where
      by : (b : Bool) → same_session s t ≡ b → LineFits s (m ∷ []) (line_at s old) (cond b (Some k) (line_at s old))
      by true e = subst (λ line. LineFits s (m ∷ []) line (Some k)) (at_same s e) (put_fits s m l k (ap (names s) is ∙ e) f)
      by false e = passed_fits s m (line_at s old) (ap (names s) is ∙ e)

-- what a feed needs to be put the message
pub put_told : (t : SessionId) (m : Down) (feed : Option FeedState) → session_for m ≡ Some t → IfSome (sent_on feed) (λ sent. BeginsTranscriptIn t (sent ++ those_for t (m ∷ []))) → IfSome feed (λ f. f.session ≡ t)
    → IfSome feed (λ f. IfSome f.sent (λ sent. BeginsTranscriptIn f.session (sent ++ m ∷ [])))
put_told t m None is h own = tt
put_told t m (Some f) is h own = by f.sent h where
  by : (o : Option (List Down)) → IfSome o (λ sent. BeginsTranscriptIn t (sent ++ those_for t (m ∷ []))) → IfSome o (λ sent. BeginsTranscriptIn f.session (sent ++ m ∷ []))
  by None k = tt
  by (Some xs) k = subst (λ u. BeginsTranscriptIn u (xs ++ m ∷ [])) (sym own) (subst (λ ms. BeginsTranscriptIn t (xs ++ ms)) (one_for t m (ap (names t) is ∙ session_itself t)) k)

-- ---- messages one after the other

those_more : (s : SessionId) (m : Down) (ms : List Down) → those_for s (m ∷ ms) ≡ those_for s (m ∷ []) ++ those_for s ms
those_more s m ms = elim (names s (session_for m)) as (λ b. cond b (m ∷ those_for s ms) (those_for s ms) ≡ cond b (m ∷ []) [] ++ those_for s ms) [ true ↦ refl | false ↦ refl ]

or_or : (a b : Bool) → (a || b) ≡ ((a || false) || b)
or_or true b = refl
or_or false b = refl

pub first_told : (s : SessionId) (m : Down) (ms : List Down) (line : Option SessionLine) → FitsTranscript s (m ∷ ms) line → FitsTranscript s (m ∷ []) line
first_told s m ms None h = tt
first_told s m ms (Some l) h = by l.sent h where
  by : (o : Option (List Down)) → IfSome o (λ sent. BeginsTranscriptIn s (sent ++ those_for s (m ∷ ms))) → IfSome o (λ sent. BeginsTranscriptIn s (sent ++ those_for s (m ∷ [])))
  by None k = tt
  by (Some xs) k = told_front s (xs ++ those_for s (m ∷ [])) (those_for s ms) (subst (BeginsTranscriptIn s) (ap (λ ys. xs ++ ys) (those_more s m ms) ∙ sym (append_assoc xs (those_for s (m ∷ [])) (those_for s ms))) k)

-- what was put after xs, where all of it is sent, is sent with what is left
told_put : (s : SessionId) (before after : Option (List Down)) (ms rest all : List Down) → all ≡ ms ++ rest → SentAfter before ms after
    → IfSome before (λ sent. BeginsTranscriptIn s (sent ++ all)) → IfSome after (λ sent. BeginsTranscriptIn s (sent ++ rest))
told_put s None None ms rest all e p h = tt
told_put s None (Some ys) ms rest all e p h = absurd (cc p)
told_put s (Some xs) None ms rest all e p h = tt
told_put s (Some xs) (Some ys) ms rest all e p h = elim p [
  | inl q ↦ subst (λ zs. BeginsTranscriptIn s (zs ++ rest)) (sym (same ys (xs ++ ms) q)) (subst (BeginsTranscriptIn s) (ap (λ zs. xs ++ zs) e ∙ sym (append_assoc xs ms rest)) h)
  | inr q ↦ absurd (cc q)
] where
  same : (us vs : List Down) → Some us ≡ Some vs → us ≡ vs
  same us vs k = cc k

pub rest_told : (s : SessionId) (m : Down) (ms : List Down) (before after : Option SessionLine) → LineAfter s (m ∷ []) before after → FitsTranscript s (m ∷ ms) before → FitsTranscript s ms after
rest_told s m ms None after p h = subst (FitsTranscript s ms) (sym p) tt
rest_told s m ms (Some l) after p h = by (list_any (is_gone_for s) (m ∷ [])) p where
  by : (b : Bool) → LeavesOrIsPut b l (those_for s (m ∷ [])) after → FitsTranscript s ms after
  by true q = subst (FitsTranscript s ms) (sym q) tt
  by false q = subst (FitsTranscript s ms) (sym q.1) (told_put s l.sent q.0.sent (those_for s (m ∷ [])) (those_for s ms) (those_for s (m ∷ ms)) (those_more s m ms) q.3 h)

sent_more : (before mid after : Option (List Down)) (ms rest : List Down) → SentAfter before ms mid → SentAfter mid rest after → SentAfter before (ms ++ rest) after
sent_more None mid after ms rest p q = subst (λ o. SentAfter o rest after) p q
sent_more (Some xs) mid after ms rest p q = elim p [
  | inl e ↦ subst (λ l. (after ≡ Some l) ⊎ (after ≡ None)) (append_assoc xs ms rest) (subst (λ o. SentAfter o rest after) e q)
  | inr e ↦ inr (subst (λ o. SentAfter o rest after) e q)
]

pub line_more : (s : SessionId) (m : Down) (ms : List Down) (before mid after : Option SessionLine) → LineAfter s (m ∷ []) before mid → LineAfter s ms mid after → LineAfter s (m ∷ ms) before after
line_more s m ms None mid after p q = subst (λ o. LineAfter s ms o after) p q
line_more s m ms (Some l) mid after p q =
    subst (λ b. LeavesOrIsPut b l (those_for s (m ∷ ms)) after) (sym (or_or (is_gone_for s m) (list_any (is_gone_for s) ms)))
    (by (list_any (is_gone_for s) (m ∷ [])) p) where
      then : (k : SessionLine) → k.mark ≡ l.mark → SentAfter l.sent (those_for s (m ∷ [])) k.sent → (b : Bool) → LeavesOrIsPut b k (those_for s ms) after → LeavesOrIsPut b l (those_for s (m ∷ ms)) after
      then k e f true r = r
      then k e f false r = (r.0, r.1, r.2 ∙ e, subst (λ zs. SentAfter l.sent zs r.0.sent) (sym (those_more s m ms)) (sent_more l.sent k.sent r.0.sent (those_for s (m ∷ [])) (those_for s ms) f r.3))

      by : (a : Bool) → LeavesOrIsPut a l (those_for s (m ∷ [])) mid → LeavesOrIsPut (a || list_any (is_gone_for s) ms) l (those_for s (m ∷ ms)) after
      by true r = subst (λ o. LineAfter s ms o after) r q
      by false r = then r.0 r.2 r.3 (list_any (is_gone_for s) ms) (subst (λ o. LineAfter s ms o after) r.1 q)

pub line_none : (s : SessionId) (line : Option SessionLine) → LineAfter s [] line line
line_none s None = refl
line_none s (Some l) = (l, refl, refl, nothing_sent l.sent)

pub fits_none : (s : SessionId) (line : Option SessionLine) → LineFits s [] line line
fits_none s None = tt
fits_none s (Some l) = by l.sent refl where
  by : (o : Option (List Down)) → l.sent ≡ o → IfSome o (λ sent. length sent + 0 ≤ 256 → l.sent ≡ Some (sent ++ []))
  by None e = tt
  by (Some xs) e = λ h. e ∙ ap Some (sym (append-nil xs))

first_part : (x a b n : ℕ) → n ≡ a + b → x + n ≤ 256 → x + a ≤ 256
first_part x a b n e h = omega (arith, e, h)

other_part : (x a b n y : ℕ) → n ≡ a + b → y ≡ x + a → x + n ≤ 256 → y + b ≤ 256
other_part x a b n y e f h = omega (arith, e, f, h)

pub fits_more : (s : SessionId) (m : Down) (ms : List Down) (before mid after : Option SessionLine) → LineAfter s ms mid after → LineFits s (m ∷ []) before mid → LineFits s ms mid after → LineFits s (m ∷ ms) before after
fits_more s m ms None mid after p f g = tt
fits_more s m ms (Some l) mid after p f g = by l.sent f where
  one : List Down
  one = those_for s (m ∷ [])

  rest : List Down
  rest = those_for s ms

  counted : length (those_for s (m ∷ ms)) ≡ length one + length rest
  counted = ap length (those_more s m ms) ∙ length-append one rest

  end : (xs : List Down) (o : Option SessionLine) → length xs + length (those_for s (m ∷ ms)) ≤ 256 → IfSome o (λ k. k.sent ≡ Some (xs ++ one)) → LineAfter s ms o after → LineFits s ms o after → IfSome after (λ k. k.sent ≡ Some (xs ++ those_for s (m ∷ ms)))
  end xs None h e q r = subst (λ a. IfSome a (λ k. k.sent ≡ Some (xs ++ those_for s (m ∷ ms)))) (sym q) tt
  end xs (Some k) h e q r =
      subst (λ zs. IfSome after (λ j. j.sent ≡ Some zs)) (append_assoc xs one rest ∙ ap (λ zs. xs ++ zs) (sym (those_more s m ms)))
      (subst (λ o. IfSome o (λ sent. length sent + length rest ≤ 256 → IfSome after (λ j. j.sent ≡ Some (sent ++ rest)))) e r
      (other_part (length xs) (length one) (length rest) (length (those_for s (m ∷ ms))) (length (xs ++ one)) counted (length-append xs one) h))

  by : (o : Option (List Down)) → IfSome o (λ sent. length sent + length one ≤ 256 → IfSome mid (λ k. k.sent ≡ Some (sent ++ one)))
      → IfSome o (λ sent. length sent + length (those_for s (m ∷ ms)) ≤ 256 → IfSome after (λ k. k.sent ≡ Some (sent ++ those_for s (m ∷ ms))))
  by None k = tt
  by (Some xs) k = λ h. end xs mid h (k (first_part (length xs) (length one) (length rest) (length (those_for s (m ∷ ms))) counted h)) p g
