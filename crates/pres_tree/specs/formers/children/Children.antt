-- `Children` as a type that may hold the type that holds it, by its values.
use Rattle.std.specs.Prelude.{◌≡◌, List}
use mathlib.Core.Path.{refl, sym, ap, subst, ◌∙◌}
use mathlib.Core.Logic.{◌⊎◌, inl, inr}
use mathlib.Core.List.{[], ◌∷◌}
use mathlib.Core.Former.{Former, this, or, via, children}
use denote.RattleType.{RattleType}
use denote.HoleLaws.{Alike}
use denote.HolePlaces.{Recodes, struct_places, enum_places, eachs, laid, stays}
use denote.Hole.Carrier.{listed}
use denote.Hole.Fix.{over}
use denote.Param.Weighed.{Weighed}
use denote.Model.Placed.{held, view_places}
use denote.Struct.Tuple.{Tuple, tuple_type}
use Rattle.std.specs.BTreeMap.{BTreeMap}
use Rattle.std.specs.declared.vec.Vec.{Vec}
use Rattle.std.specs.declared.alloc.Global.{Global}
use Rattle.std.specs.contracts.alloc.Global as heap
use Rattle.std.specs.contracts.impls.GlobalAllocator.TheImpl as global
use Rattle.std.specs.contracts.vec.Vec as list
use Rattle.std.specs.formers.vec.Vec as vec
use Rattle.std.specs.List.Sorted.{IsStrictlySortedBy}
use Rattle.std.specs.Map.{keys_of}
use Rattle.std.proofs.lemmas.Map.Keys.{IsStrictlySortedBy-prop}
use Rattle.std_collections.specs.formers.btree_map.BTreeMap as map
use Rattle.std_collections.specs.Layout.Former.{entry, on_value, keys_on_values}
use Rattle.pres_tree.specs.Keys.{Key, key_cmp}
use Rattle.pres_tree.specs.Stores.{seen}
use Rattle.pres_tree.specs.declared.children.Store.{Store}
use Rattle.pres_tree.specs.declared.children.Store.TheVariants.{Few, Many}
use Rattle.pres_tree.specs.declared.children.Children.TheInside.{Inside}
use Rattle.pres_tree.specs.declared.children.Children.TheView.{view, invariant}
use Rattle.pres_tree.specs.contracts.children.Store as store
use Rattle.pres_tree.specs.contracts.children.Children as C
use Rattle.pres_tree.specs.contracts.children.Children.TheInside as I
use Rattle.pres_tree.specs.contracts.key.Key as key
use Rattle.pres_tree.specs.contracts.key.KeyOrd.TheImpl as ord
use Rattle.pres_tree.specs.contracts.key.KeyPartialEq.TheImpl as eq
use Rattle.pres_tree.specs.contracts.key.KeyPartialOrd.TheImpl as partial

abbrev pub the_former : Former {0} → Former {0}
the_former g = map.the_former g Key Global

abbrev pub the_weighed : {g : Former {0}} → Weighed g → Weighed (the_former g)
the_weighed w = map.the_weighed w Key Global

abbrev pub the_items : (X : Type 0) → BTreeMap Key X → List X
the_items X m = map.the_items Key Global X m

pub the_items_listed : (X : Type 0) (m : BTreeMap Key X) → listed _ (children (the_former this) X m) ≡ the_items X m
the_items_listed X m = map.the_items_listed Key Global X m

-- ---- the store: a list of entries, or a map

abbrev lists : Former {0}
lists = vec.the_former (entry this Key) Global

abbrev maps : Former {0}
maps = map.the_former this Key Global

module _ {X : Type 0} where
  abbrev split : Store X → Vec (Key × X) Global ⊎ BTreeMap Key X
  split (Few few) = inl few
  split (Many many) = inr many

  abbrev join : Vec (Key × X) Global ⊎ BTreeMap Key X → Store X
  join (inl few) = Few few
  join (inr many) = Many many

  join-split : (s : Store X) → join (split s) ≡ s
  join-split (Few few) = refl
  join-split (Many many) = refl

  split-join : (s : Vec (Key × X) Global ⊎ BTreeMap Key X) → split (join s) ≡ s
  split-join (inl few) = refl
  split-join (inr many) = refl

abbrev stores : Former {0}
stores = via (or lists maps) (λ X. Store X) (λ X. split) (λ X. join) (λ X. join-split) (λ X. split-join)

abbrev fields : Former {0}
fields = via stores (λ X. Inside X) (λ X a. a.store) (λ X s. record { store = s }) (λ X a. refl) (λ X s. refl)

module _ (X : Type 0) where
  keeps : (s : Store X) → held (the_former this) X (seen s) ≡ held fields X (record { store = s })
  keeps (Few few) = refl
  keeps (Many many) = refl

  module _ (Y : Type 0) (h : X → Y) where
    natural : (s : Store X) → seen (stores.map X Y h s) ≡ (the_former this).map X Y h (seen s)
    natural (Few few) = refl
    natural (Many many) = refl

    same_keys : (s : Store X) → keys_of (seen (stores.map X Y h s)).entries ≡ keys_of (seen s).entries
    same_keys s = ap (λ m. keys_of m.entries) (natural s) ∙ keys_on_values h (seen s).entries

-- ---- what it owns and lends

module _ (R R' : RattleType) (h : R.Denot → R'.Denot) where
  abbrev Rise : {X : Type 0} → Store X → Type 0
  Rise s = IsStrictlySortedBy key_cmp (keys_of (seen s).entries)

  Rise-prop : {X : Type 0} (s : Store X) → IsProp (Rise s)
  Rise-prop s = IsStrictlySortedBy-prop key_cmp _

  pair_places : Alike R R' h → Alike (Tuple (key.the_row ∷ R ∷ [])) (Tuple (key.the_row ∷ R' ∷ [])) (on_value h)
  pair_places a = struct_places (tuple_type (key.the_row ∷ R ∷ [])) (tuple_type (key.the_row ∷ R' ∷ [])) ((λ k. k), (h, tt)) (on_value h) (λ d. refl) refl (stays key.the_row, (laid R R' h a, tt))

  few_places : Alike R R' h → Alike (list.the_row (Tuple (key.the_row ∷ R ∷ [])) heap.the_row global.ghosts) (list.the_row (Tuple (key.the_row ∷ R' ∷ [])) heap.the_row global.ghosts) (lists.map R.Denot R'.Denot h)
  few_places a = vec.the_places heap.the_row global.ghosts (Tuple (key.the_row ∷ R ∷ [])) (Tuple (key.the_row ∷ R' ∷ [])) (on_value h) (pair_places a)

  variant : (s : Store R.Denot) → (store.enum R').as_values (stores.map R.Denot R'.Denot h s)
      ≡ eachs (store.enum R).parts (store.enum R').parts ((lists.map R.Denot R'.Denot h, tt), ((maps.map R.Denot R'.Denot h, tt), tt)) ((store.enum R).as_values s)
  variant (Few few) = refl
  variant (Many many) = refl

  store_places : Alike R R' h → Alike (store.the_row R) (store.the_row R') (stores.map R.Denot R'.Denot h)
  store_places a = enum_places (store.enum R) (store.enum R') ((lists.map R.Denot R'.Denot h, tt), ((maps.map R.Denot R'.Denot h, tt), tt)) (stores.map R.Denot R'.Denot h) variant refl
      ((laid _ _ _ (few_places a), tt), ((laid _ _ _ (map.the_places key.the_row heap.the_row ord.ghosts eq.ghosts partial.ghosts global.ghosts R R' h a), tt), tt))

  pub the_places : Alike R R' h → Alike (C.the_row R) (C.the_row R') ((the_former this).map R.Denot R'.Denot h)
  the_places a = view_places fields (the_former this) view (λ X Y k u. natural X Y k u.store) (λ X u. keeps X u.store)
      R.Denot R'.Denot h (C.the_row R).coded (C.the_row R').coded
      (invariant R.Denot) (invariant R'.Denot) (λ u. Rise-prop u.store) (λ u. Rise-prop u.store)
      (λ u s. subst (IsStrictlySortedBy key_cmp) (sym (same_keys R.Denot R'.Denot h u.store)) s)
      (λ u s. subst (IsStrictlySortedBy key_cmp) (same_keys R.Denot R'.Denot h u.store) s)
      (over (I.the_row R)) (over (I.the_row R'))
      (struct_places (I.the_type R) (I.the_type R') (stores.map R.Denot R'.Denot h, tt) _ (λ d. refl) refl (laid _ _ _ (store_places a), tt))

  pub the_codes_placed : Recodes R R' h → Recodes (C.the_row R) (C.the_row R') ((the_former this).map R.Denot R'.Denot h)
  the_codes_placed e m = map.the_codes_placed key.the_row heap.the_row ord.ghosts eq.ghosts partial.ghosts global.ghosts R R' h e m
