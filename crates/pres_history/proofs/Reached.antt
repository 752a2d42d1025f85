-- The Pushes to the sessions that an entry reaches, one session after another.
use Rattle.std.proofs.Common.{refl, ◌∙◌, ap, ◌≡◌, ℕ, List, [], ◌∷◌, ◌++◌, false}
use Rattle.std.specs.List.{flat_map, AllByRecursion}
use Rattle.pres_tree.specs.declared.scalar.Scalar.{Scalar}
use Rattle.pres_tree.specs.Paths.{Path}
use Rattle.pres_tree.specs.Rows.{Rows}
use Rattle.pres_ids.specs.declared.id.SessionId.{SessionId}
use Rattle.pres_wire.specs.declared.down.Down.{Down}
use Rattle.pres_ids.specs.Ids.{ClientId, same_client}
use Rattle.pres_server.specs.InternalPushes.{Standing, after_push, push_to, pushes}
use Rattle.pres_server.proofs.Reached.{InOrder, Below, first, second, apart, reach, reached, after_other}

abbrev pub push_here : ℕ → Rows Scalar → Standing → SessionId → List Path → List Down
push_here z tree live s [] = []
push_here z tree live s (p ∷ paths) = push_to z tree live (s, p ∷ paths)

here_alike : (z : ℕ) (tree : Rows Scalar) (live new : Standing) (s : SessionId) (ps : List Path) → new s.client ≡ live s.client → push_here z tree new s ps ≡ push_here z tree live s ps
here_alike z tree live new s [] e = refl
here_alike z tree live new s (p ∷ ps) e = λ i. push_to z tree (λ c. e i) (s, p ∷ ps)

rest_alike : (z : ℕ) (tree : Rows Scalar) (g : SessionId → List Path) (live new : Standing) (k : ClientId) → ((c : ClientId) → same_client k c ≡ false → new c ≡ live c)
    → (ss : List SessionId) → Below k ss → flat_map (λ s. push_here z tree new s (g s)) ss ≡ flat_map (λ s. push_here z tree live s (g s)) ss
rest_alike z tree g live new k e [] h = refl
rest_alike z tree g live new k e (s ∷ ss) h =
    λ i. here_alike z tree live new s (g s) (e s.client (apart k s.client (first _ _ h))) i ++ rest_alike z tree g live new k e ss (second _ _ h) i

pub pushes_reached : (z : ℕ) (tree : Rows Scalar) (g : SessionId → List Path) (ss : List SessionId) (live : Standing) → InOrder ss → pushes z tree live (reached g ss) ≡ flat_map (λ s. push_here z tree live s (g s)) ss
pushes_reached z tree g [] live h = refl
pushes_reached z tree g (s ∷ ss) live h = by (g s) (λ l. pushes_reached z tree g ss l (second _ _ h)) where
  by : (ps : List Path) → ((l : Standing) → pushes z tree l (reached g ss) ≡ flat_map (λ s. push_here z tree l s (g s)) ss)
      → pushes z tree live (reach ps s (reached g ss)) ≡ push_here z tree live s ps ++ flat_map (λ s. push_here z tree live s (g s)) ss
  by [] r = r live
  by (p ∷ ps) r =
      ap (λ l. push_to z tree live (s, p ∷ ps) ++ l) (r (after_push live (s, p ∷ ps))
      ∙ rest_alike z tree g live (after_push live (s, p ∷ ps)) s.client (λ c n. after_other live s (p ∷ ps) c n) ss (first _ _ h))

-- what is the same of each of them is the same of all
pub flat_alike : {A : Type 0} (P : SessionId → Type 0) (f g : SessionId → List A) (ss : List SessionId) → AllByRecursion P ss → ((s : SessionId) → P s → f s ≡ g s) → flat_map f ss ≡ flat_map g ss
flat_alike P f g [] a e = refl
flat_alike P f g (s ∷ ss) a e = λ i. e s a.0 i ++ flat_alike P f g ss a.1 e i
