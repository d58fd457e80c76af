-- Whatever is read as a condition fits: places lie in the tables, which are short, numbers lie on the scale, and the reader counts nots and groups.
use Prim.Native.Nat.{ℕ, zero, suc, ◌+◌, ◌≤◌}
use mathlib.Core.Path.{sym, subst}
use mathlib.Core.List.{List, [], ◌∷◌, ◌++◌}
use mathlib.Core.Option.{Option, none, some}
use mathlib.Core.Logic.{⊎_elim}
use native.Mathlib.Omega.{arith}
use lib.ListN.{length}
use lib.Dec.{ltb}
use Rattle.meaning.specs.Text.{In, text, find}
use Rattle.meaning.specs.Refusal.{COND, FULL}
use Rattle.meaning.specs.Limits.{leaf_limit, nest_limit, field_limit, status_limit}
use Rattle.meaning.specs.Reading.{Reader, refuse, demand, not_ended, stands, due}
use Rattle.meaning.specs.Name.{Name, name}
use Rattle.meaning.specs.Condition.{Leaf, Cond, And, Item, leaves_c, leaves_a, leaves_i}
use Rattle.meaning.specs.ReadCondition.{operator, named, read_leaf, read_and, read_cond, item_with, read_item, condition}
use Rattle.theory.specs.Lists.Members.{in_cases}
use Rattle.theory.specs.Reading.Readers.{Ensures, give_ensures, refuse_ensures, choose_ensures, bind_ensures, any_ensures, ensures_weaker, ensures_both}
use Rattle.theory.specs.Papers.Entries.{number_most}
use Rattle.theory.specs.Papers.Conditions.{LeafIn, condition_in}
use Rattle.cond_value.specs.Fits.{DeepC, DeepA, DeepI, OnScale, Fits}

-- LEAVES

-- all numbers lie on the scale
abbrev Scaled : List Leaf → Type 0
Scaled xs = (x : Leaf) → In x xs → OnScale x

scaled_one : (x : Leaf) → OnScale x → Scaled (x ∷ [])
scaled_one x h y i = ⊎_elim (λ e. subst OnScale (sym e) h) absurd i

scaled_both : (xs ys : List Leaf) → Scaled xs → Scaled ys → Scaled (xs ++ ys)
scaled_both xs ys h g x i = ⊎_elim (h x) (g x) (in_cases x xs ys i)

named_scaled : (l : ℕ) (f g : Option ℕ) → Ensures (named l f g) OnScale
named_scaled l (some x) g = any_ensures (demand FULL (ltb l leaf_limit)) λ _. give_ensures tt
named_scaled l none (some f) =
    any_ensures (demand FULL (ltb l leaf_limit)) λ _.
    any_ensures operator λ o.
    bind_ensures number_most λ n h.
    give_ensures h
named_scaled l none none = refuse_ensures

-- WHAT IS READ

-- numbers on the scale, and nots and groups at most d deep
abbrev GoodI : ℕ → Item → Type 0
GoodI d i = DeepI d i × Scaled (leaves_i i)

abbrev GoodA : ℕ → And → Type 0
GoodA d a = DeepA d a × Scaled (leaves_a a)

abbrev GoodC : ℕ → Cond → Type 0
GoodC d c = DeepC d c × Scaled (leaves_c c)

module _ (item : ℕ → Reader Item) (d : ℕ) (h : (l : ℕ) → Ensures (item l) (GoodI d)) where
  -- an and-list of such items
  and_good : (m l : ℕ) → Ensures (read_and item m l) (GoodA d)
  unfolding read_and leaves_a
  and_good zero l = refuse_ensures
  and_good (suc m) l =
      bind_ensures (h l) λ i hi.
      any_ensures (stands (text " and ")) λ more.
      choose_ensures more
      (bind_ensures (and_good m (l + length (leaves_i i))) λ a ha.
      give_ensures (DeepA.and hi.0 ha.0, scaled_both (leaves_i i) (leaves_a a) hi.1 ha.1))
      (give_ensures (DeepA.just hi.0, hi.1))

  -- a condition of such items
  cond_good : (m l : ℕ) → Ensures (read_cond item m l) (GoodC d)
  unfolding read_cond leaves_c
  cond_good zero l = refuse_ensures
  cond_good (suc m) l =
      bind_ensures (and_good (suc leaf_limit) l) λ a ha.
      any_ensures (stands (text " or ")) λ more.
      choose_ensures more
      (bind_ensures (cond_good m (l + length (leaves_a a))) λ c hc.
      give_ensures (DeepC.or ha.0 hc.0, scaled_both (leaves_a a) (leaves_c c) ha.1 hc.1))
      (give_ensures (DeepC.only ha.0, ha.1))

module _ (sts fields : List Name) where
  -- an item, over what stands behind `not ` and `(`
  with_good : (d : ℕ) (negated grouped : Reader Item) (l : ℕ) → Ensures negated (GoodI d) → Ensures grouped (GoodI d)
      → Ensures (item_with sts fields negated grouped l) (GoodI d)
  unfolding item_with read_leaf leaves_i
  with_good d negated grouped l h g =
      any_ensures not_ended λ _.
      any_ensures (stands (text "not ")) λ nots.
      choose_ensures nots h (any_ensures (stands (text "(")) λ opens.
      choose_ensures opens g (bind_ensures (any_ensures name λ w. named_scaled l (find w sts) (find w fields)) λ x hx.
      give_ensures (DeepI.leaf, scaled_one x hx)))

  -- an item where d more nots and groups may stand around each other
  item_good : (d l : ℕ) → Ensures (read_item sts fields d l) (GoodI d)
  unfolding read_item leaves_i
  item_good zero l = with_good zero (refuse COND) (refuse COND) l refuse_ensures refuse_ensures
  item_good (suc d) l = with_good (suc d) _ _ l
      (bind_ensures (item_good d l) λ i h. give_ensures (DeepI.neg h.0, h.1))
      (bind_ensures (cond_good (read_item sts fields d) d (item_good d) (suc leaf_limit) l) λ c h.
      any_ensures (due COND (text ")")) λ _.
      give_ensures (DeepI.group h.0, h.1))

  -- places in tables that are short enough
  placed : length sts ≤ status_limit → length fields ≤ field_limit → (x : Leaf) → LeafIn (length sts) (length fields) x → LeafIn status_limit field_limit x
  placed h g (Leaf.status x) i = omega arith
  placed h g (Leaf.compare c) i = omega arith

  -- whatever is read as a condition
  pub condition_fits : (l : ℕ) → length sts ≤ status_limit → length fields ≤ field_limit → Ensures (condition sts fields l) Fits
  unfolding condition
  condition_fits l h g =
      ensures_weaker (λ c p. record { placed = λ x i. placed h g x (p.0 x i); on_scale = p.1.1; deep = p.1.0 })
      (ensures_both (condition_in sts fields l) (cond_good (read_item sts fields nest_limit) nest_limit (item_good nest_limit) (suc leaf_limit) l))
