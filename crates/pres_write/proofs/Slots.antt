-- How an object with the name `.sv` is read.
use Rattle.std.proofs.Common.{◌≡◌, ◌⊎◌, length, List, [], ◌∷◌, Bool, true, false, cond, is_some, Option, Some, None, Result, refl, sym, ap, subst, ◌∙◌, arith}
use Rattle.std.specs.Prelude.{String, MatchResult, codes, option_map}
use Rattle.std.specs.declared.alloc.Global.{Global}
use Rattle.serde_json.specs.Data.{Data, null, boolean, number, string, array, object, Members}
use Rattle.serde_json.specs.Find.{get, get_member}
use Rattle.serde_json.specs.View.{members_view}
use Rattle.serde_json.specs.declared.value.Value.{Value}
use Rattle.pres_tree.specs.declared.fault.TreeFault.{TreeFault}
use Rattle.pres_tree.specs.declared.fault.TreeFault.TheVariants.{Memory, Placeholder}
use Rattle.pres_tree.specs.JsonReading.{Reading, branch, leaf, bad, is_leaf}
use Rattle.pres_tree.specs.Scalars.{scalar_reading}
use Rattle.pres_tree.specs.declared.scalar.Scalar.{Scalar}
use Rattle.pres_tree.specs.declared.scalar.Scalar.TheVariants.{Bool as BoolOf, Int, Text}
use Rattle.pres_write.specs.declared.draft.DraftLeaf.{DraftLeaf}
use Rattle.pres_write.specs.declared.draft.DraftLeaf.TheVariants.{Timestamp}
use Rattle.pres_write.specs.Drafts.{slot_reading, placeholder, increment_by, increment_of, increment_reading, is_one, is_timestamp, server_value}

pub one_member : (ms : List (String Global × Value)) → length ms ≡ 1 → is_one (members_view ms) ≡ true
one_member [] h = absurd (omega arith)
one_member (m ∷ []) h = refl
one_member (m ∷ n ∷ ms) h = absurd (omega arith)

pub not_one_member : (ms : List (String Global × Value)) → (length ms ≡ 1 → ⊥) → is_one (members_view ms) ≡ false
not_one_member [] h = refl
not_one_member (m ∷ []) h = absurd (h refl)
not_one_member (m ∷ n ∷ ms) h = refl

has_sv : (v : Data) (ms : Members) (d : Data) → v ≡ object ms → Some d ≡ get (codes ".sv") v → slot_reading v ≡ placeholder ms (Some d)
has_sv v ms d e g = ap slot_reading e ∙ ap (placeholder ms) (sym (g ∙ ap (get (codes ".sv")) e))

-- alone it is what the server makes of it
pub reads_sv : (v : Data) (ms : Members) (d : Data) → v ≡ object ms → Some d ≡ get (codes ".sv") v → is_one ms ≡ true → slot_reading v ≡ server_value d
reads_sv v ms d e g one = has_sv v ms d e g ∙ ap (λ b. cond b (server_value d) (bad Placeholder)) one

-- with another name it is refused
pub refuses_sv : (v : Data) (ms : Members) (d : Data) → v ≡ object ms → Some d ≡ get (codes ".sv") v → is_one ms ≡ false → slot_reading v ≡ bad Placeholder
refuses_sv v ms d e g more = has_sv v ms d e g ∙ ap (λ b. cond b (server_value d) (bad Placeholder)) more

-- a result that reads one thing reads an equal one
pub reads_as : (r : Result DraftLeaf TreeFault) (x y : Reading DraftLeaf) → x ≡ y
    → MatchResult r (λ made. y ≡ leaf made) (λ e. (e ≡ Memory) ⊎ (y ≡ bad e)) → MatchResult r (λ made. x ≡ leaf made) (λ e. (e ≡ Memory) ⊎ (x ≡ bad e))
reads_as r x y is h = subst (λ z. MatchResult r (λ made. z ≡ leaf made) (λ e. (e ≡ Memory) ⊎ (z ≡ bad e))) (sym is) h

-- the member of the object under the name, which it has alone
pub reads_increment : (v : Data) (ms : Members) (d : Data) → v ≡ object ms → Some d ≡ get (codes "increment") v → is_one ms ≡ true → increment_reading v ≡ increment_by (scalar_reading d)
reads_increment v ms d e g one =
    ap increment_reading e ∙ ap (λ b. cond b (increment_of (get_member (codes "increment") ms)) (bad Placeholder)) one
    ∙ ap increment_of (sym (g ∙ ap (get (codes "increment")) e))

same_both : (b : Bool) (r : Reading DraftLeaf) → cond b r r ≡ r
same_both true r = refl
same_both false r = refl

-- no such member
pub refuses_names : (v : Data) (ms : Members) → v ≡ object ms → None ≡ get (codes "increment") v → increment_reading v ≡ bad Placeholder
refuses_names v ms e g =
    ap increment_reading e ∙ ap (λ o. cond (is_one ms) (increment_of o) (bad Placeholder)) (sym (g ∙ ap (get (codes "increment")) e)) ∙ same_both (is_one ms) (bad Placeholder)

-- more members than one, or none
pub refuses_more : (v : Data) (ms : Members) → v ≡ object ms → is_one ms ≡ false → increment_reading v ≡ bad Placeholder
refuses_more v ms e more = ap increment_reading e ∙ ap (λ b. cond b (increment_of (get_member (codes "increment") ms)) (bad Placeholder)) more

-- ---- whether an object is a leaf

number_is_leaf : (r : Reading Scalar) → is_leaf (increment_by r) ≡ true
number_is_leaf branch = refl
number_is_leaf (leaf (BoolOf b)) = refl
number_is_leaf (leaf (Int z)) = refl
number_is_leaf (leaf (Text s)) = refl
number_is_leaf (bad e) = refl

member_is_leaf : (o : Option Data) → is_leaf (increment_of o) ≡ true
member_is_leaf None = refl
member_is_leaf (Some d) = number_is_leaf (scalar_reading d)

one_is_leaf : (b : Bool) (r : Reading DraftLeaf) → is_leaf r ≡ true → is_leaf (cond b r (bad Placeholder)) ≡ true
one_is_leaf true r h = h
one_is_leaf false r h = refl

increment_is_leaf : (d : Data) → is_leaf (increment_reading d) ≡ true
increment_is_leaf null = refl
increment_is_leaf (boolean b) = refl
increment_is_leaf (number n) = refl
increment_is_leaf (string s) = refl
increment_is_leaf (array ds) = refl
increment_is_leaf (object ms) = one_is_leaf (is_one ms) (increment_of (get_member (codes "increment") ms)) (member_is_leaf (get_member (codes "increment") ms))

value_is_leaf : (b : Bool) (r : Reading DraftLeaf) → is_leaf r ≡ true → is_leaf (cond b (leaf Timestamp) r) ≡ true
value_is_leaf true r h = refl
value_is_leaf false r h = h

named_is_leaf : (ms : Members) (o : Option Data) → is_leaf (placeholder ms o) ≡ is_some o
named_is_leaf ms None = refl
named_is_leaf ms (Some d) = one_is_leaf (is_one ms) (server_value d) (value_is_leaf (is_timestamp d) (increment_reading d) (increment_is_leaf d))

-- an object is a leaf where it has the name
pub object_is_leaf : (v : Data) (ms : Members) → v ≡ object ms → is_leaf (slot_reading v) ≡ is_some (get (codes ".sv") v)
object_is_leaf v ms e = ap (λ d. is_leaf (slot_reading d)) e ∙ named_is_leaf ms (get_member (codes ".sv") ms) ∙ sym (ap (λ d. is_some (get (codes ".sv") d)) e)

-- a view keeps whether something was found
pub found_some : {A B : Type 0} (f : A → B) (o : Option A) → is_some o ≡ is_some (option_map f o)
found_some f None = refl
found_some f (Some a) = refl
