use Rattle.std.proofs.Common.{rules, ℤ, pos, negsuc, FitsSigned, w64, sym, ap, subst, arith}
use Rattle.serde_json.specs.Data.{number}
use Rattle.serde_json.specs.Find.{of_integer}
use Rattle.serde_json.proofs.Numbers.{number_of-decimal, number_of-negative}
use Rattle.std.specs.Prelude.{option_map}
use Rattle.pres_tree.specs.JsonPrinting.{IsPlain}
use Rattle.pres_tree.specs.Scalars.{scalar_printing}
use Rattle.pres_tree.proofs.Printing.{on_any}
use Rattle.pres_tree.proofs.scalar.ScalarFormPrintedFormScalar.write.Goals as goal

whole_plain : (z : ℤ) → FitsSigned w64 z → IsPlain (number (of_integer z))
whole_plain (pos n) h = ap (option_map number) (number_of-decimal n (omega (arith, h)))
whole_plain (negsuc n) h = ap (option_map number) (number_of-negative n (omega (arith, h)))

pub returns-in-Int-clause-plain : goal.returns-in-Int-clause-plain
returns-in-Int-clause-plain c =
    on_any c.i64.result (subst (λ s. IsPlain (scalar_printing s)) (sym c.in-Int.is) (whole_plain c.in-Int.number (search rules)))
