-- What is printed of a server's base, and what is read of a checkpoint.
use Rattle.std.proofs.Common.{◌≡◌, ◌∙◌, ℕ, List, Some, option_map, sym, ap, subst, arith}
use Rattle.std.specs.Str.{IsUtf8}
use Rattle.pres_base.specs.declared.parts.BaseParts.{BaseParts}
use Rattle.pres_base.specs.Bases.{IsBase}
use Rattle.pres_base_json.specs.Reads.{IsBody, with_one_null}
use Rattle.pres_base_json.specs.Checks.{base_of_body}
use Rattle.pres_base_json.proofs.Bodies.{read_to, read_from, one_null_read}
use Rattle.pres_server.specs.Sums.{Sum}
use Rattle.pres_server.specs.BaseSums.{sum_for}
use Rattle.pres_server.proofs.BaseSums.{base_has_sum}
use Rattle.pres_keeper.specs.Keepers.{HoldsBase, KeepsOneNull}
use Rattle.pres_saved.specs.SqlKeepers.{IsBaseReadBack}
use Rattle.pres_saved.proofs.OneNull.{parts_have, sum_has}

-- what holds of a base that is read
pub body_holds : (batches moment : ℕ) (text : List ℕ) (p : BaseParts) → base_of_body batches moment text ≡ Some p → HoldsBase (sum_for p)
body_holds batches moment text p found = record {
  sum = base_has_sum p (read_from batches moment text p found).base;
  nulls = parts_have p (one_null_read batches moment text (Some p) (sym found));
}

-- what is printed of a base is read as one with its sum
pub base_back : (p : BaseParts) (sum : Sum) (moment : ℕ) (body : List ℕ) → IsBase p → sum_for p ≡ sum → moment ≡ p.moment → IsBody p.batches p.moment body (with_one_null p) → IsUtf8 body → KeepsOneNull sum
    → IsBaseReadBack sum (record { moment = moment; body = body })
base_back p sum moment body base is when printed text nulls =
    let same = sum_has p base (subst KeepsOneNull (sym is) nulls) in
    let found : base_of_body p.batches p.moment body ≡ Some p = read_to p.batches p.moment body (with_one_null p) printed ∙ ap Some same in
    let batches : p.batches ≡ sum.batches = ap (λ (s : Sum). s.batches) is in
    let few = base.batches in
    let room = base.room in
    let low = base.moment in
    record {
      number = omega (arith, batches, few, room);
      moment = omega (arith, when, low);
      text = text;
      read = (λ i. option_map sum_for (base_of_body (sym batches i) (when i) body)) ∙ ap (option_map sum_for) found ∙ ap Some is;
    }
