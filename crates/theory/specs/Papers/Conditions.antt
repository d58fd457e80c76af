-- Conditions that were read: they have leaves, at most 512 with those before, and the statuses and fields that these name lie in the tables.
use Prim.Native.Nat.{ℕ, zero, suc, ◌+◌, ◌≤◌, ◌<◌}
use Rattle.std.specs.Prelude.{◌≡◌, List, [], ◌∷◌, ◌++◌, ltb}
use Rattle.std.proofs.Math.Path.{refl}
use Rattle.std.proofs.Common.{sym, subst, ⊎_elim, arith, ltb-true, length-append}
use Rattle.std.proofs.Math.Option.{Option, none, some}
use Rattle.std.proofs.Math.ListN.{length}
use Rattle.meaning.specs.Text.{In, text, find}
use Rattle.meaning.specs.Refusal.{COND, FULL}
use Rattle.meaning.specs.Limits.{leaf_limit, nest_limit}
use Rattle.meaning.specs.Reading.{Reader, refuse, not_ended, stands, due}
use Rattle.meaning.specs.Name.{Name, name}
use Rattle.meaning.specs.Number.{number}
use Rattle.meaning.specs.Condition.{Leaf, Item, leaves_c, leaves_a, leaves_i}
use Rattle.meaning.specs.ReadCondition.{operator, named, read_leaf, read_and, read_cond, item_with, read_item, condition}
use Rattle.theory.specs.Lists.Members.{in_cases}
use Rattle.theory.specs.Reading.Readers.{Ensures, give_ensures, refuse_ensures, choose_ensures, demand_ensures, bind_ensures, any_ensures, ensures_weaker}
use Rattle.theory.specs.Papers.Names.{find_below}
use Rattle.theory.specs.Reading.BuiltPapers.{leaf_built, and_built, cond_built, item_built}
use Rattle.theory.specs.Reading.Told.{Told, told_ensured}

-- a leaf that names one of n statuses or one of m fields
abbrev pub LeafIn : ℕ → ℕ → Leaf → Type 0
LeafIn n m (Leaf.status x) = x < n
LeafIn n m (Leaf.compare c) = c.field < m

-- of a list of leaves
abbrev pub LeavesIn : ℕ → ℕ → List Leaf → Type 0
LeavesIn n m xs = (x : Leaf) → In x xs → LeafIn n m x

-- one leaf
leaves_one : (n m : ℕ) (x : Leaf) → LeafIn n m x → LeavesIn n m (x ∷ [])
leaves_one n m x h y i = ⊎_elim (λ e. subst (LeafIn n m) (sym e) h) absurd i

-- two lists of leaves
leaves_both : (n m : ℕ) (xs ys : List Leaf) → LeavesIn n m xs → LeavesIn n m ys → LeavesIn n m (xs ++ ys)
leaves_both n m xs ys h g x i = ⊎_elim (h x) (g x) (in_cases x xs ys i)

-- leaves behind l others
pub record Fine (n m l : ℕ) (xs : List Leaf) : Type 0 where
  pub some : 1 ≤ length xs
  pub few : l + length xs ≤ leaf_limit
  pub known : LeavesIn n m xs

fine_both : (n m l : ℕ) (xs ys : List Leaf) → Fine n m l xs → Fine n m (l + length xs) ys → Fine n m l (xs ++ ys)
fine_both n m l xs ys h g = record {
  some = rw length-append (omega (arith, h.some));
  few = rw length-append (omega (arith, g.few));
  known = leaves_both n m xs ys h.known g.known;
}

module _ (sts fields : List Name) where
  -- leaves in the tables of these names
  abbrev pub Good : ℕ → List Leaf → Type 0
  Good l xs = Fine (length sts) (length fields) l xs

  abbrev pub GoodLeaf : ℕ → Leaf → Type 0
  GoodLeaf l x = (l < leaf_limit) × LeafIn (length sts) (length fields) x

  -- whatever is read as a leaf, and so on up to items and conditions
  pub leaf_good : (l : ℕ) → Ensures (read_leaf sts fields l) (GoodLeaf l)
  unfolding read_leaf
  leaf_good l = any_ensures name λ w. go w (find w sts) refl (find w fields) refl
    where
      go : (w : Name) (f : Option ℕ) → find w sts ≡ f → (g : Option ℕ) → find w fields ≡ g → Ensures (named l f g) (GoodLeaf l)
      go w (some x) q g r =
          bind_ensures (demand_ensures FULL (ltb l leaf_limit)) λ _ h.
          give_ensures (ltb-true l leaf_limit h, find_below w sts x q)
      go w none q (some f) r =
          bind_ensures (demand_ensures FULL (ltb l leaf_limit)) λ _ h.
          any_ensures operator λ o.
          any_ensures number λ k.
          give_ensures (ltb-true l leaf_limit h, find_below w fields f r)
      go w none q none r = refuse_ensures

  -- an and-list of such items
  pub and_good : (item : ℕ → Reader Item) → ((l : ℕ) → Ensures (item l) (λ i. Good l (leaves_i i))) → (m l : ℕ)
      → Ensures (read_and item m l) (λ a. Good l (leaves_a a))
  unfolding read_and leaves_a
  and_good item h zero l = refuse_ensures
  and_good item h (suc m) l =
      bind_ensures (h l) λ i hi.
      any_ensures (stands (text " and ")) λ more.
      choose_ensures more
      (bind_ensures (and_good item h m (l + length (leaves_i i))) λ a ha. give_ensures
      (fine_both (length sts) (length fields) l (leaves_i i) (leaves_a a) hi ha))
      (give_ensures hi)

  -- a condition of such items
  pub cond_good : (item : ℕ → Reader Item) → ((l : ℕ) → Ensures (item l) (λ i. Good l (leaves_i i))) → (m l : ℕ)
      → Ensures (read_cond item m l) (λ c. Good l (leaves_c c))
  unfolding read_cond leaves_c
  cond_good item h zero l = refuse_ensures
  cond_good item h (suc m) l =
      bind_ensures (and_good item h (suc leaf_limit) l) λ a ha.
      any_ensures (stands (text " or ")) λ more.
      choose_ensures more
      (bind_ensures (cond_good item h m (l + length (leaves_a a))) λ c hc. give_ensures
      (fine_both (length sts) (length fields) l (leaves_a a) (leaves_c c) ha hc))
      (give_ensures ha)

  -- an item, over what stands behind `not ` and `(`
  with_good : (negated grouped : Reader Item) (l : ℕ) → Ensures negated (λ i. Good l (leaves_i i)) → Ensures grouped (λ i. Good l (leaves_i i))
      → Ensures (item_with sts fields negated grouped l) (λ i. Good l (leaves_i i))
  unfolding item_with leaves_i
  with_good negated grouped l h g =
      any_ensures not_ended λ _.
      any_ensures (stands (text "not ")) λ nots.
      choose_ensures nots h (any_ensures (stands (text "(")) λ opens.
      choose_ensures opens g (bind_ensures (leaf_good l) λ x hx.
      give_ensures (record { some = omega arith; few = omega (arith, hx.0); known = leaves_one (length sts) (length fields) x hx.1 })))

  -- an item of any depth
  pub item_good : (d l : ℕ) → Ensures (read_item sts fields d l) (λ i. Good l (leaves_i i))
  unfolding read_item leaves_i
  item_good zero l = with_good (refuse COND) (refuse COND) l refuse_ensures refuse_ensures
  item_good (suc d) l = with_good _ _ l
      (bind_ensures (item_good d l) λ i h. give_ensures h)
      (bind_ensures (cond_good (read_item sts fields d) (item_good d) (suc leaf_limit) l) λ c h.
      any_ensures (due COND (text ")")) λ _.
      give_ensures h)

  -- whatever is read as a condition
  pub condition_good : (l : ℕ) → Ensures (condition sts fields l) (λ c. Good l (leaves_c c))
  unfolding condition
  condition_good l = cond_good (read_item sts fields nest_limit) (item_good nest_limit) (suc leaf_limit) l

  pub condition_in : (l : ℕ) → Ensures (condition sts fields l) (λ c. LeavesIn (length sts) (length fields) (leaves_c c))
  condition_in l = ensures_weaker (λ c h. h.known) (condition_good l)

  -- and what is told of a text
  pub told_leaf : (l : ℕ) (s : List ℕ) → Told (GoodLeaf l) (read_leaf sts fields l) s
  told_leaf l s = told_ensured (leaf_built sts fields l) (leaf_good l) s

  module _ (d l : ℕ) (s : List ℕ) where
    pub told_item : Told (λ i. Good l (leaves_i i)) (read_item sts fields d l) s
    told_item = told_ensured (item_built sts fields d l) (item_good d l) s

    pub told_and : (m : ℕ) → Told (λ a. Good l (leaves_a a)) (read_and (read_item sts fields d) m l) s
    told_and m = told_ensured (and_built (read_item sts fields d) (item_built sts fields d) m l) (and_good (read_item sts fields d) (item_good d) m l) s

    pub told_cond : (m : ℕ) → Told (λ c. Good l (leaves_c c)) (read_cond (read_item sts fields d) m l) s
    told_cond m = told_ensured (cond_built (read_item sts fields d) (item_built sts fields d) m l) (cond_good (read_item sts fields d) (item_good d) m l) s

  pub told_condition : (l : ℕ) (s : List ℕ) → Told (λ c. Good l (leaves_c c)) (condition sts fields l) s
  unfolding condition
  told_condition l s = told_cond nest_limit l s (suc leaf_limit)
