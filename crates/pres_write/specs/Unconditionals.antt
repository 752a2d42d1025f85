-- Operations that are carried out whatever stands, so that they may be registered for a disconnection, and what they put.
use Rattle.std.specs.Prelude.{◌≡◌, ◌≤◌, ◌&&◌, ◌++◌, Bool, [], ◌∷◌, if◌then◌else◌, false, not, nat_le, length, map, Option, Some, None, Result, Ok, Err}
use Rattle.std.specs.FinMap.Entries.{is_sorted}
use Rattle.std.specs.Map.{keys_of}
use Rattle.std.specs.List.Sorted.{IsStrictlySortedBy}
use Rattle.serde_json.specs.Data.{Data}
use Rattle.pres_tree.specs.Paths.{path_cmp, overlap}
use Rattle.pres_write.specs.declared.fault.WriteFault.{WriteFault}
use Rattle.pres_write.specs.declared.op.Op.{Op}
use Rattle.pres_write.specs.declared.op.Op.TheVariants as op
use Rattle.pres_write.specs.declared.unconditional.Unconditional.{Unconditional}
use Rattle.pres_write.specs.declared.unconditional.Unconditional.TheVariants.{Set, Update}
use Rattle.pres_write.specs.OpForms.{is_tx, op_read}
use Rattle.pres_write.specs.Updates.{Places, PlacesBelow, most_places}

abbrev pub as_op : Unconditional → Op
as_op (Set p) = op.Set p
as_op (Update u) = op.Update u

-- a transaction is carried out only where its place holds what it expects
abbrev pub unconditional_of : Op → Option Unconditional
unconditional_of (op.Set p) = Some (Set p)
unconditional_of (op.Update u) = Some (Update u)
unconditional_of (op.Tx t) = None

-- ---- reading

abbrev pub as_unconditional : Result Op WriteFault → Result (Option Unconditional) WriteFault
as_unconditional (Ok o) = Ok (unconditional_of o)
as_unconditional (Err e) = Err e

-- the operation of a JSON value, or why it is refused; none for a transaction, whatever else it holds
abbrev pub unconditional_read : Data → Result (Option Unconditional) WriteFault
unconditional_read d = if is_tx d then Ok None else as_unconditional (op_read d)

-- ---- puts: drafts that take the place of all that stands at their paths

-- the drafts of an update at their whole paths, in path order
abbrev pub puts_below : PlacesBelow → Places
puts_below u = map (λ e. (u.path ++ e.0, e.1)) u.places

-- a set puts one draft, an update each of its own
abbrev pub puts_of : Unconditional → Places
puts_of (Set p) = p ∷ []
puts_of (Update u) = puts_below u

-- what all puts of one operation keep
pub record ArePuts (puts : Places) : Type 0 where
  pub in_order : IsStrictlySortedBy path_cmp (keys_of puts)
  pub apart : overlap (keys_of puts) ≡ false
  pub few : length puts ≤ most_places

-- drafts that may be the puts of one operation
abbrev pub may_be_puts : Places → Bool
may_be_puts puts = is_sorted path_cmp puts && not (overlap (keys_of puts)) && nat_le (length puts) most_places

abbrev pub as_puts : Places → Option Places
as_puts puts = if may_be_puts puts then Some puts else None
