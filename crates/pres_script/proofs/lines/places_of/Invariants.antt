use Rattle.std.proofs.Common.{◌≡◌, ◌++◌, option_map}
use Rattle.serde_json.specs.View.{members_view}
use Rattle.pres_script.specs.Lines.{places_of}
use Rattle.pres_script.proofs.lines.places_of.Given as goal

-- the places so far, and then those of the members that are left
abbrev pub invariant-loop-name : goal.invariant-loop-name
invariant-loop-name l = places_of (members_view l.members.entries) ≡ option_map (λ rest. l.places.items ++ rest) (places_of (members_view l.name-iterator))
