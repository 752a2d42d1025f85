-- Values at paths, as a listener gets them.
use Rattle.std.specs.Prelude.{Bool, true, ◌&&◌, IsTrue, List, [], ◌∷◌, map}
use Rattle.std.specs.Ordering.{is_lt}
use Rattle.pres_tree.specs.Paths.{Path, path_cmp}
use Rattle.pres_wire.specs.declared.values.PathValue.{PathValue}

-- each path is before the next one
abbrev pub rise : List Path → Bool
rise [] = true
rise (p ∷ []) = true
rise (p ∷ q ∷ ps) = is_lt (path_cmp p q) && rise (q ∷ ps)

-- the values stand at paths that rise strictly
abbrev pub Rising : List PathValue → Type 0
Rising vs = IsTrue (rise (map (λ v. v.path) vs))
