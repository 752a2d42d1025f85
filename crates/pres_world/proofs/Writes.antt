-- The writes of one start of a client: which number each has in the messages that carry it.
use Rattle.std.proofs.Common.{refl, sym, ◌∙◌, ap, subst, ◌≡◌, ◌+◌, ℕ, zero, suc, List, [], ◌∷◌, ◌++◌, map, drop, slice_get, ◌⊎◌, inl, inr, Option, Some, arith, unwrap_or}
use Rattle.std.specs.List.{Contains, AllByRecursion}
use Rattle.std.proofs.lemmas.List.Elements.{Contains-push_cases}
use Rattle.pres_ids.specs.declared.id.SessionId.{SessionId}
use Rattle.pres_tree.specs.Paths.{Path}
use Rattle.pres_write.specs.declared.op.Op.{Op}
use Rattle.pres_wire.specs.declared.up.Up.{Up}
use Rattle.pres_wire.specs.declared.up.Up.TheVariants as up
use Rattle.pres_client.specs.Clients.{ClientState, base_of}
use Rattle.pres_client.specs.Sends.{SendList, Unnumbered, numbered, op_messages, on_messages, opening}
use Rattle.pres_world.proofs.Stands.{get_dropped}
use Rattle.pres_world.proofs.Backed.{get_front}

-- write n is this one, where the writes are these, counted on from b
pub record IsNth (b : Option ℕ) (ws : List Op) (n : ℕ) (o : Op) : Type 0 where
  pub base : ℕ
  pub known : b ≡ Some base
  pub place : ℕ
  pub count : n ≡ base + place + 1
  pub write : slice_get ws place ≡ Some o

number_is : (x y : ℕ) → Some x ≡ Some y → x ≡ y
number_is x y e = ap (λ o. unwrap_or o x) e

op_is : (x y : Op) → Some x ≡ Some y → x ≡ y
op_is x y e = ap (λ o. unwrap_or o x) e

pub nth_once : (b : Option ℕ) (ws : List Op) (n : ℕ) (o p : Op) → IsNth b ws n o → IsNth b ws n p → o ≡ p
nth_once b ws n o p h k =
    let same = number_is h.base k.base (sym h.known ∙ k.known) in
    let first = h.count in
    let second = k.count in
    let place : h.place ≡ k.place = omega (arith, same, first, second) in
    op_is o p (sym h.write ∙ ap (slice_get ws) place ∙ k.write)

-- the base is known, or is set now, and there may be more writes
pub nth_on : (b c : Option ℕ) (ws more : List Op) (n : ℕ) (o : Op) → ((x : ℕ) → b ≡ Some x → c ≡ Some x) → IsNth b ws n o → IsNth c (ws ++ more) n o
nth_on b c ws more n o f h = record { base = h.base; known = f h.base h.known; place = h.place; count = h.count; write = get_front ws more h.place o h.write }

-- a message with a write has the one with its number
abbrev pub Fits : Option ℕ → List Op → Up → Type 0
Fits b ws (up.Op s q n o) = IsNth b ws n o
Fits b ws _ = Unit {0}

abbrev pub AllFit : Option ℕ → List Op → List Up → Type 0
AllFit b ws ms = (m : Up) → Contains ms m → Fits b ws m

pub fits_on : (b : Option ℕ) (ws more : List Op) (m : Up) → Fits b ws m → Fits b (ws ++ more) m
fits_on b ws more (up.Op s q n o) h = nth_on b b ws more n o (λ x e. e) h
fits_on b ws more (up.Hello s) h = tt
fits_on b ws more (up.Bye s q) h = tt
fits_on b ws more (up.Left s q o) h = tt
fits_on b ws more (up.Cancel s q p) h = tt
fits_on b ws more (up.Beat s) h = tt
fits_on b ws more (up.On s q p) h = tt
fits_on b ws more (up.Off s q p) h = tt

pub pushed_fit : (b : Option ℕ) (ws : List Op) (ms : List Up) (x : Up) → AllFit b ws ms → Fits b ws x → AllFit b ws (ms ++ x ∷ [])
pushed_fit b ws ms x h k m there = by (Contains-push_cases ms x m there) where
  by : Contains ms m ⊎ (x ≡ m) → Fits b ws m
  by (inl old) = h m old
  by (inr is) = subst (Fits b ws) is k

-- ---- a session's list begins

abbrev AllNumbered : Option ℕ → List Op → List Unnumbered → Type 0
AllNumbered b ws us = AllByRecursion (λ (u : Unnumbered). (q : ℕ) → Fits b ws (u q)) us

numbered_fit : (b : Option ℕ) (ws : List Op) (k : ℕ) (us : List Unnumbered) → AllNumbered b ws us → AllFit b ws (numbered k us)
numbered_fit b ws k [] h m (i, less, is) = absurd (omega (arith, less))
numbered_fit b ws k (u ∷ us) h m (zero, less, is) = subst (Fits b ws) is (h.0 k)
numbered_fit b ws k (u ∷ us) h m (suc i, less, is) = numbered_fit b ws (k + 1) us h.1 m (i, omega (arith, less), is)

ons_fit : (b : Option ℕ) (ws : List Op) (s : SessionId) (ps : List Path) (us : List Unnumbered) → AllNumbered b ws us → AllNumbered b ws (on_messages s ps ++ us)
ons_fit b ws s [] us h = h
ons_fit b ws s (p ∷ ps) us h = ((λ q. tt), ons_fit b ws s ps us h)

-- the writes from place a on
ops_fit : (b : Option ℕ) (ws : List Op) (s : SessionId) (x a n : ℕ) (os : List Op) → b ≡ Some x → n ≡ x + a + 1 → ((j : ℕ) (o : Op) → slice_get os j ≡ Some o → slice_get ws (a + j) ≡ Some o) → AllNumbered b ws (op_messages s n os)
ops_fit b ws s x a n [] known count f = tt
ops_fit b ws s x a n (o ∷ os) known count f = ((λ q. record { base = x; known = known; place = a; count = count; write = ap (slice_get ws) here_place ∙ f 0 o refl }), ops_fit b ws s x (a + 1) (n + 1) os known (omega (arith, count)) later) where
  here_place : a ≡ a + 0
  here_place = omega arith

  later : (j : ℕ) (p : Op) → slice_get os j ≡ Some p → slice_get ws (a + 1 + j) ≡ Some p
  later j p get = let place : a + 1 + j ≡ a + suc j = omega arith in ap (slice_get ws) place ∙ f (suc j) p get

pub opening_fit : (d : ClientState) (t : SendList) (x : ℕ) → d.base ≡ Some x → AllFit d.base t.writes (opening d t).messages
opening_fit d t x known =
    let is : base_of d ≡ x = ap (λ b. unwrap_or b 0) known in
    numbered_fit d.base t.writes 1 (on_messages d.session (map (λ e. e.0) d.watches) ++ op_messages d.session (base_of d + d.answered + 1) (drop d.answered t.writes))
    (ons_fit d.base t.writes d.session (map (λ e. e.0) d.watches) _
    (ops_fit d.base t.writes d.session x d.answered (base_of d + d.answered + 1) (drop d.answered t.writes) known (ap (λ b. b + d.answered + 1) is) (λ j o get. sym (get_dropped d.answered t.writes j) ∙ get)))
