-- Rows that are to come, one after the other.
use Rattle.std.proofs.Common.{refl, sym, ◌∙◌, ap, ◌≡◌, ◌<◌, ◌≤◌, ◌+◌, arith, List, [], ◌∷◌, ◌++◌, map, length, length-append, take, drop, get_or, false}
use Rattle.std.specs.List.{list_any}
use Rattle.std.specs.Map.{values_of}
use Rattle.std.proofs.lemmas.Bool.{or_left}
use Rattle.std.proofs.lemmas.List.{map-append, take-append-drop, drop_more}
use Rattle.pres_tree.specs.Paths.{Path, same_path, is_prefix, meet, overlap}
use Rattle.pres_tree.proofs.PathOrder.{path_same}
use Rattle.pres_plan.specs.declared.standing.Arrival.{Arrival}
use Rattle.pres_plan.specs.Plans.{path_of, IsPlan}
use Rattle.pres_plan.specs.Standing.{Entries, numbers_at, stands}
use Rattle.pres_plan.proofs.Left.{any_implies, false_of}
use Rattle.pres_plan.proofs.Numbers.{any_mapped, itself, no_numbers, numbers_at-append, one_each}
use Rattle.pres_plan.proofs.Covered.{overlap-before}

pub map_twice : {A B C : Type 0} (f : A → B) (g : B → C) (xs : List A) → map g (map f xs) ≡ map (λ x. g (f x)) xs
map_twice f g [] = refl
map_twice f g (x ∷ xs) = ap (λ l. g (f x) ∷ l) (map_twice f g xs)

-- the arrivals so far, the next one, and those after it
pub at_turn : (all done : List Arrival) (x : Arrival) → done ≡ take (length done) all → length done < length all → x ≡ get_or all (length done) x → all ≡ done ++ x ∷ drop (length done + 1) all
at_turn all done x so_far low is =
    sym (take-append-drop (length done) all)
    ∙ (λ i. sym so_far i ++ (drop_more all (length done) x low ∙ ap (λ y. y ∷ drop (length done + 1) all) (sym is)) i)

abbrev pub arrival_path : Arrival → Path
arrival_path a = path_of a.row.action

-- at most one row stands at the path of the next one
pub one_stands : (old more : Entries) (all done : List Arrival) (x : Arrival) → IsPlan (values_of old) → values_of more ≡ map (λ a. a.row) done → overlap (map arrival_path all) ≡ false → all ≡ done ++ x ∷ drop (length done + 1) all →
    length (numbers_at (arrival_path x) (old ++ more)) ≤ 1
one_stands old more all done x plan more_is apart all_is =
    let none = no_numbers p more (ap (stands p) more_is ∙ any_mapped (λ (a : Arrival). a.row) (λ r. same_path p (path_of r.action)) done ∙ fresh) in
    omega (arith, one_each p old plan, ap length (numbers_at-append p old more), ap length none, length-append (numbers_at p old) (numbers_at p more))
  where
    p : Path
    p = arrival_path x

    clear : list_any (λ y. meet y p) (map arrival_path done) ≡ false
    clear =
        overlap-before (map arrival_path done) p (map arrival_path (drop (length done + 1) all))
        (ap overlap (sym (map-append arrival_path done (x ∷ drop (length done + 1) all))) ∙ ap (λ l. overlap (map arrival_path l)) (sym all_is) ∙ apart)

    fresh : list_any (λ a. same_path p (path_of a.row.action)) done ≡ false
    fresh =
        false_of _ _
        (any_implies (λ a. same_path p (path_of a.row.action)) (λ a. meet (arrival_path a) p) done (λ a h. or_left (is_prefix (arrival_path a) p) _ (ap (λ y. is_prefix y p) (sym (path_same p (arrival_path a) h)) ∙ itself p)))
        (sym (any_mapped arrival_path (λ y. meet y p) done) ∙ clear)
