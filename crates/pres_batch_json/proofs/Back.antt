-- The text of entries is read as they are.
use Rattle.std.proofs.Common.{◌≡◌, ◌≤◌, List, [], ◌∷◌, map, cond, Some, None, refl, ap, ◌∙◌, Result, Ok, Err, arith}
use Rattle.std.specs.Prelude.{IsTrue, IfOk, String, string_bytes, option_and_then}
use Rattle.std.specs.declared.alloc.AllocError.{AllocError}
use Rattle.std.specs.declared.alloc.Global.{Global}
use Rattle.serde_json.specs.Data.{Data, depth}
use Rattle.serde_json.specs.Read.{read}
use Rattle.pres_log.specs.declared.entry.Entry.{Entry}
use Rattle.pres_log.specs.declared.entry.Entry.TheVariants as entry
use Rattle.pres_log.specs.Batches.{may_hold, ends_and_opens}
use Rattle.pres_batch_json.specs.Reads.{list_of, entry_read, if_together, entries_read, entries_in, with_one_null}

same_pair : (e f : Entry) → ends_and_opens (with_one_null e) (with_one_null f) ≡ ends_and_opens e f
same_pair (entry.Ended s q why rows) (entry.Open t) = refl
same_pair (entry.Ended s q why rows) (entry.Op t r n op out) = refl
same_pair (entry.Ended s q why rows) (entry.Again t r n) = refl
same_pair (entry.Ended s q why rows) (entry.Ended t r reason more) = refl
same_pair (entry.Ended s q why rows) (entry.Left t r puts) = refl
same_pair (entry.Ended s q why rows) (entry.Cancelled t r p) = refl
same_pair (entry.Ended s q why rows) (entry.Denied t r limit) = refl
same_pair (entry.Ended s q why rows) (entry.On t r p) = refl
same_pair (entry.Ended s q why rows) (entry.Off t r p) = refl
same_pair (entry.Open s) f = refl
same_pair (entry.Op s q n op out) f = refl
same_pair (entry.Again s q n) f = refl
same_pair (entry.Left s q puts) f = refl
same_pair (entry.Cancelled s q p) f = refl
same_pair (entry.Denied s q limit) f = refl
same_pair (entry.On s q p) f = refl
same_pair (entry.Off s q p) f = refl

-- a batch may hold them as well with one null
same_hold : (es : List Entry) → may_hold (map with_one_null es) ≡ may_hold es
same_hold [] = refl
same_hold (e ∷ []) = refl
same_hold (e ∷ f ∷ []) = same_pair e f
same_hold (e ∷ f ∷ g ∷ es) = refl

held_read : (d : Data) (es : List Entry) → IsTrue (may_hold es) → list_of entry_read d ≡ Some (map with_one_null es) → entries_read d ≡ Some (map with_one_null es)
held_read d es held reads =
    ap (option_and_then if_together) reads ∙ ap (λ b. cond b (Some (map with_one_null es)) None) (same_hold es ∙ held)

-- the text of a value that nests few levels
pub text_read : (r : Result (String Global) AllocError) (made d : Data) (es : List Entry) → made ≡ d → depth d ≤ 66 → list_of entry_read d ≡ Some (map with_one_null es)
    → IfOk r (λ t. depth made ≤ 127 → read (string_bytes t) ≡ Some made)
    → IfOk r (λ t. IsTrue (may_hold es) → entries_in (string_bytes t) ≡ Some (map with_one_null es))
text_read (Ok t) made d es is low reads h =
    let few : depth made ≤ 127 = omega (arith, low, ap depth is) in
    λ held. ap (option_and_then entries_read) (h few) ∙ ap entries_read is ∙ held_read d es held reads
text_read (Err e) made d es is low reads h = tt
