-- A printed path is parsed as itself, and the steps of the walk over the pieces of a text.
use Rattle.std.proofs.Common.{◌≡◌, ℕ, ◌+◌, ◌<◌, ◌≤◌, Bool, true, false, List, [], ◌∷◌, ◌++◌, length, length-append, take, drop, cond, nat_lt, ◌==◌, ◌||◌, ◌&&◌, Option, Some, None, is_none, refl, sym, ap, ◌∙◌, append_assoc, append-nil, arith}
use Rattle.std.specs.Prelude.{filter}
use Rattle.std.specs.List.{list_any, list_all, slice_split, onto_first}
use Rattle.std.specs.Option.{option_or}
use Rattle.std.proofs.lemmas.Bool.Decides.{nat_tests}
use Rattle.std.proofs.lemmas.Bool.{false≢true}
use Rattle.std.proofs.lemmas.List.Folds.{list_all-append}
use Rattle.std.proofs.lemmas.List.{length-take, take_all, take-append-le}
use borrow.Author.Tests.{eqb-true}
use Rattle.pres_tree.specs.Keys.{Key, is_banned, is_key, key_fault}
use Rattle.pres_tree.specs.Paths.{Path, max_depth, IsPath, segments, keys_fault, path_fault, keys_text, path_text}
use Rattle.pres_tree.specs.declared.fault.TreeFault.{TreeFault}
use Rattle.pres_tree.specs.declared.fault.TreeFault.TheVariants.{EmptyKey, LongKey, BadKey, TooDeep}

abbrev pub has_bytes : List ℕ → Bool
has_bytes piece = nat_lt 0 (length piece)

abbrev pub pieces : List ℕ → List (List ℕ)
pieces text = slice_split (λ b. b == 47) text

both_of : (a b : Bool) → (a && b) ≡ true → (a ≡ true) × (b ≡ true)
both_of true b h = (refl, h)
both_of false b h = absurd cc

both_yes : (a b : Bool) → a ≡ true → b ≡ true → (a && b) ≡ true
both_yes a b h g = λ i. h i && g i

neither_of : (a b : Bool) → (a || b) ≡ false → (a ≡ false) × (b ≡ false)
neither_of true b h = absurd cc
neither_of false b h = (refl, h)

good_of : (o : Option TreeFault) → is_none o ≡ true → o ≡ None
good_of None h = refl
good_of (Some e) h = absurd cc

pub key_fault-none : (k : Key) → is_key k ≡ true → key_fault k ≡ None
key_fault-none k h = good_of (key_fault k) h

pub keys_fault-none : (p : Path) → list_all is_key p ≡ true → keys_fault p ≡ None
keys_fault-none [] h = refl
keys_fault-none (k ∷ p) h =
    let each = both_of (is_key k) (list_all is_key p) h in
    (λ i. option_or (key_fault-none k each.0 i) (keys_fault p)) ∙ keys_fault-none p each.1

pub keys_fault-keys : (p : Path) → keys_fault p ≡ None → list_all is_key p ≡ true
keys_fault-keys [] h = refl
keys_fault-keys (k ∷ p) h = elim (key_fault k) as (λ o. option_or o (keys_fault p) ≡ None → (is_none o && list_all is_key p) ≡ true) [
  | None ↦ λ g. keys_fault-keys p g
  | Some e ↦ λ g. absurd cc
] h

pub keys_fault-append : (p q : Path) → keys_fault (p ++ q) ≡ option_or (keys_fault p) (keys_fault q)
keys_fault-append [] q = refl
keys_fault-append (k ∷ p) q = elim (key_fault k) as (λ o. option_or o (keys_fault (p ++ q)) ≡ option_or (option_or o (keys_fault p)) (keys_fault q)) [
  | None ↦ keys_fault-append p q
  | Some e ↦ refl
]

-- ---- a printed path

pub keys_text-push : (p : Path) (k : Key) → keys_text (p ++ k ∷ []) ≡ (keys_text p ++ 47 ∷ []) ++ k
keys_text-push [] k = ap (λ bs. 47 ∷ bs) (append-nil k)
keys_text-push (l ∷ p) k =
    ap (λ bs. 47 ∷ l ++ bs) (keys_text-push p k)
    ∙ ap (λ bs. 47 ∷ bs) (sym (append_assoc l (keys_text p ++ 47 ∷ []) k) ∙ ap (λ bs. bs ++ k) (sym (append_assoc l (keys_text p) (47 ∷ []))))

pub path_text-some : (p : Path) → 0 < length p → keys_text p ≡ path_text p
path_text-some [] h = absurd (omega (arith, h))
path_text-some (k ∷ p) h = refl

not_slash : (b : ℕ) → is_banned b ≡ false → (b == 47) ≡ false
not_slash b h = elim (b == 47) as (λ r. (b == 47) ≡ r → r ≡ false) [
  | true ↦ λ e. absurd (false≢true (sym h ∙ ap is_banned (eqb-true b 47 e)))
  | false ↦ λ e. refl
] refl

record GoodKey (k : Key) : Type 0 where
  pub some : has_bytes k ≡ true
  pub clean : list_any is_banned k ≡ false

good_key : (k : Key) → is_key k ≡ true → GoodKey k
good_key k h = elim (length k == 0) as (λ r. (length k == 0) ≡ r → is_none (cond r (Some EmptyKey) (cond (nat_lt 768 (length k)) (Some LongKey) (cond (list_any is_banned k) (Some BadKey) None))) ≡ true → GoodKey k) [
  | true ↦ λ e g. absurd (false≢true g)
  | false ↦ λ e g. record { some = grind (arith, nat_tests); clean = clean (nat_lt 768 (length k)) (list_any is_banned k) g }
] refl h
  where
    clean : (long banned : Bool) → is_none (cond long (Some LongKey) (cond banned (Some BadKey) None)) ≡ true → banned ≡ false
    clean true banned g = absurd (false≢true g)
    clean false true g = absurd (false≢true g)
    clean false false g = refl

piece-first : (bs more : List ℕ) → list_any is_banned bs ≡ false → pieces (bs ++ 47 ∷ more) ≡ bs ∷ pieces more
piece-first [] more h = refl
piece-first (b ∷ bs) more h =
    let each = neither_of (is_banned b) (list_any is_banned bs) h in
    λ i. cond (not_slash b each.0 i) ([] ∷ pieces (bs ++ 47 ∷ more)) (onto_first b (piece-first bs more each.1 i))

piece-last : (bs : List ℕ) → list_any is_banned bs ≡ false → pieces (bs ++ []) ≡ bs ∷ []
piece-last [] h = refl
piece-last (b ∷ bs) h =
    let each = neither_of (is_banned b) (list_any is_banned bs) h in
    λ i. cond (not_slash b each.0 i) ([] ∷ pieces (bs ++ [])) (onto_first b (piece-last bs each.1 i))

pieces-keys : (k : Key) (p : Path) → list_all is_key (k ∷ p) ≡ true → pieces (k ++ keys_text p) ≡ k ∷ p
pieces-keys k [] h = piece-last k (good_key k (both_of (is_key k) true h).0).clean
pieces-keys k (l ∷ p) h =
    let each = both_of (is_key k) (list_all is_key (l ∷ p)) h in
    piece-first k (l ++ keys_text p) (good_key k each.0).clean ∙ ap (λ ps. k ∷ ps) (pieces-keys l p each.1)

filter-keys : (p : Path) → list_all is_key p ≡ true → filter has_bytes p ≡ p
filter-keys [] h = refl
filter-keys (k ∷ p) h =
    let each = both_of (is_key k) (list_all is_key p) h in
    λ i. cond ((good_key k each.0).some i) (k ∷ filter-keys p each.1 i) (filter-keys p each.1 i)

pub segments-path_text : (p : Path) → IsPath p → segments (path_text p) ≡ p
segments-path_text [] h = refl
segments-path_text (k ∷ p) h = ap (filter has_bytes) (ap (λ ps. [] ∷ ps) (pieces-keys k p h.1)) ∙ filter-keys (k ∷ p) h.1

-- a text of these pieces is a path without a fault
sound : (text : List ℕ) (p : Path) → IsPath p → segments text ≡ p → path_fault text ≡ None
sound text p h is =
    let few : nat_lt max_depth (length p) ≡ false = grind (arith, nat_tests) in
    ap (λ q. option_or (keys_fault q) (cond (nat_lt max_depth (length q)) (Some TooDeep) None)) is
    ∙ (λ i. option_or (keys_fault-none p h.1 i) (cond (few i) (Some TooDeep) None))

pub path_fault-path_text : (p : Path) → IsPath p → path_fault (path_text p) ≡ None
path_fault-path_text p h = sound (path_text p) p h (segments-path_text p h)

-- the leading slash may be left out
pub segments-name : (p : Path) → IsPath p → segments (drop 1 (path_text p)) ≡ p
segments-name [] h = refl
segments-name (k ∷ p) h = ap (filter has_bytes) (pieces-keys k p h.1) ∙ filter-keys (k ∷ p) h.1

pub path_fault-name : (p : Path) → IsPath p → path_fault (drop 1 (path_text p)) ≡ None
path_fault-name p h = sound (drop 1 (path_text p)) p h (segments-name p h)

-- ---- paths of parts

pub path_append : (p q : Path) → IsPath p → IsPath q → length p + length q ≤ max_depth → IsPath (p ++ q)
path_append p q h g low = (omega (arith, length-append p q), rw (list_all-append is_key p q) (both_yes (list_all is_key p) (list_all is_key q) h.1 g.1))

pub path_rest : (p q : Path) → IsPath (p ++ q) → IsPath q
path_rest p q h = (omega (arith, h.0, length-append p q), (both_of (list_all is_key p) (list_all is_key q) (sym (list_all-append is_key p q) ∙ h.1)).1)

-- ---- the walk over the pieces of a text

pub record Parsed (all rest : List (List ℕ)) (keys : Path) (deep : Bool) : Type 0 where
  pub done : Path
  pub is : filter has_bytes all ≡ done ++ filter has_bytes rest
  pub good : keys_fault done ≡ None
  pub kept : keys ≡ take max_depth done
  pub is_deep : deep ≡ nat_lt max_depth (length done)

pub parsed_start : (all : List (List ℕ)) → Parsed all all [] false
parsed_start all = record { done = []; is = refl; good = refl; kept = refl; is_deep = refl }

pub parsed_empty : {all rest : List (List ℕ)} {keys : Path} {deep : Bool} (piece : List ℕ) → has_bytes piece ≡ false → Parsed all (piece ∷ rest) keys deep → Parsed all rest keys deep
parsed_empty {rest = rest} piece none w = record {
  done = w.done;
  is = w.is ∙ (λ i. w.done ++ cond (none i) (piece ∷ filter has_bytes rest) (filter has_bytes rest));
  good = w.good;
  kept = w.kept;
  is_deep = w.is_deep;
}

-- the next piece is a key
record Next (all rest : List (List ℕ)) (done : Path) (piece : List ℕ) : Type 0 where
  pub is : filter has_bytes all ≡ (done ++ piece ∷ []) ++ filter has_bytes rest
  pub good : keys_fault (done ++ piece ∷ []) ≡ None

next : {all rest : List (List ℕ)} {keys : Path} {deep : Bool} (piece : List ℕ) → has_bytes piece ≡ true → key_fault piece ≡ None → (w : Parsed all (piece ∷ rest) keys deep) → Next all rest w.done piece
next {rest = rest} piece some good w = record {
  is = w.is ∙ (λ i. w.done ++ cond (some i) (piece ∷ filter has_bytes rest) (filter has_bytes rest)) ∙ sym (append_assoc w.done (piece ∷ []) (filter has_bytes rest));
  good = keys_fault-append w.done (piece ∷ []) ∙ (λ i. option_or (w.good i) (option_or (good i) None));
}

pub parsed_push : {all rest : List (List ℕ)} {keys : Path} {deep : Bool} (piece : List ℕ) → has_bytes piece ≡ true → key_fault piece ≡ None → length keys < max_depth → Parsed all (piece ∷ rest) keys deep → Parsed all rest (keys ++ piece ∷ []) deep
parsed_push {keys = keys} piece some good few w =
    let short : length w.done < max_depth = omega (arith, ap length w.kept, length-take max_depth w.done) in
    let more : length (w.done ++ piece ∷ []) ≤ max_depth = omega (arith, length-append w.done (piece ∷ [])) in
    let here = next piece some good w in
    let a : nat_lt max_depth (length w.done) ≡ false = grind (arith, nat_tests) in
    let b : nat_lt max_depth (length (w.done ++ piece ∷ [])) ≡ false = grind (arith, nat_tests) in
    record {
      done = w.done ++ piece ∷ [];
      is = here.is;
      good = here.good;
      kept = ap (λ ks. ks ++ piece ∷ []) (w.kept ∙ take_all max_depth w.done (omega arith)) ∙ sym (take_all max_depth (w.done ++ piece ∷ []) more);
      is_deep = w.is_deep ∙ a ∙ sym b;
    }

pub parsed_deep : {all rest : List (List ℕ)} {keys : Path} {deep : Bool} (piece : List ℕ) → has_bytes piece ≡ true → key_fault piece ≡ None → max_depth ≤ length keys → Parsed all (piece ∷ rest) keys deep → Parsed all rest keys true
parsed_deep piece some good full w =
    let long : max_depth ≤ length w.done = omega (arith, ap length w.kept, length-take max_depth w.done) in
    let more : max_depth < length (w.done ++ piece ∷ []) = omega (arith, length-append w.done (piece ∷ [])) in
    let here = next piece some good w in
    record {
      done = w.done ++ piece ∷ [];
      is = here.is;
      good = here.good;
      kept = w.kept ∙ sym (take-append-le max_depth w.done (piece ∷ []) long);
      is_deep = grind (arith, nat_tests);
    }

-- a bad key is the first fault
pub parsed_fault : (text : List ℕ) {rest : List (List ℕ)} {keys : Path} {deep : Bool} {e : TreeFault} (piece : List ℕ) → has_bytes piece ≡ true → key_fault piece ≡ Some e → Parsed (pieces text) (piece ∷ rest) keys deep → path_fault text ≡ Some e
parsed_fault text {rest = rest} piece some bad w =
    let all : segments text ≡ w.done ++ (piece ∷ filter has_bytes rest) = w.is ∙ (λ i. w.done ++ cond (some i) (piece ∷ filter has_bytes rest) (filter has_bytes rest)) in
    let fault = ap keys_fault all ∙ keys_fault-append w.done (piece ∷ filter has_bytes rest) ∙ (λ i. option_or (w.good i) (option_or (bad i) (keys_fault (filter has_bytes rest)))) in
    λ i. option_or (fault i) (cond (nat_lt max_depth (length (segments text))) (Some TooDeep) None)

parsed_all : (text : List ℕ) {keys : Path} {deep : Bool} (w : Parsed (pieces text) [] keys deep) → segments text ≡ w.done
parsed_all text w = w.is ∙ append-nil w.done

parsed_path_fault : (text : List ℕ) {keys : Path} {deep : Bool} → Parsed (pieces text) [] keys deep → path_fault text ≡ cond deep (Some TooDeep) None
parsed_path_fault text w =
    ap (λ p. option_or (keys_fault p) (cond (nat_lt max_depth (length p)) (Some TooDeep) None)) (parsed_all text w)
    ∙ (λ i. option_or (w.good i) (cond (sym w.is_deep i) (Some TooDeep) None))

pub parsed_too_deep : (text : List ℕ) {keys : Path} {deep : Bool} → deep ≡ true → Parsed (pieces text) [] keys deep → path_fault text ≡ Some TooDeep
parsed_too_deep text h w = parsed_path_fault text w ∙ ap (λ b. cond b (Some TooDeep) None) h

pub record ParsedAs (text : List ℕ) (keys : Path) : Type 0 where
  pub path : IsPath keys
  pub is : keys ≡ segments text
  pub good : path_fault text ≡ None

pub parsed_end : (text : List ℕ) {keys : Path} {deep : Bool} → deep ≡ false → Parsed (pieces text) [] keys deep → ParsedAs text keys
parsed_end text {keys = keys} h w =
    let few : nat_lt max_depth (length w.done) ≡ false = sym w.is_deep ∙ h in
    let short : length w.done ≤ max_depth = grind (arith, nat_tests) in
    let all : keys ≡ w.done = w.kept ∙ take_all max_depth w.done short in
    record {
      path = (omega (arith, ap length all), ap (list_all is_key) all ∙ keys_fault-keys w.done w.good);
      is = all ∙ sym (parsed_all text w);
      good = parsed_path_fault text w ∙ ap (λ b. cond b (Some TooDeep) None) h;
    }
