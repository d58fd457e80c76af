-- Reading a condition. "Inside a condition wrong names give 3 and numbers 4, the rest 5".
use Rattle.std.specs.Prelude.{ℕ, zero, suc, ◌+◌, List, [], ◌∷◌, length, ltb}
use Rattle.std.proofs.Math.Option.{Option, none, some}
use Rattle.meaning.specs.Text.{text, find}
use Rattle.meaning.specs.Refusal.{NAME, COND, FULL}
use Rattle.meaning.specs.Limits.{leaf_limit, nest_limit}
use Rattle.meaning.specs.Reading.{Reader, ◌>>=◌, ◌>>◌, give, refuse, demand, choose, not_ended, stands, due, one_of}
use Rattle.meaning.specs.Name.{Name, name}
use Rattle.meaning.specs.Number.{number}
use Rattle.meaning.specs.Condition.{Operator, below, at_most, equal, at_least, above, Leaf, Cond, And, Item, leaves_a, leaves_i}

-- "one of `<` `<=` `=` `>=` `>`", the longest that stands here
unfoldable pub operator : Reader Operator
operator = do
  not_ended
  one_of COND
      (record { spelled = text "<="; means = at_most }
      ∷ record { spelled = text ">="; means = at_least }
      ∷ record { spelled = text "<"; means = below }
      ∷ record { spelled = text "="; means = equal }
      ∷ record { spelled = text ">"; means = above }
      ∷ [])

-- "An and-list is one or more items joined by ` and `", behind l leaves. Each has a leaf, so m above the leaves that are left is never used up
unfoldable pub read_and : (ℕ → Reader Item) → ℕ → ℕ → Reader And
read_and item zero l = refuse COND
read_and item (suc m) l = do
  i ← item l
  more ← stands (text " and ")
  choose more
      (read_and item m (l + length (leaves_i i)) >>= λ a. give (And.and i a))
      (give (And.just i))

-- "A condition is one or more and-lists joined by ` or `", likewise
unfoldable pub read_cond : (ℕ → Reader Item) → ℕ → ℕ → Reader Cond
read_cond item zero l = refuse COND
read_cond item (suc m) l = do
  a ← read_and item (suc leaf_limit) l
  more ← stands (text " or ")
  choose more
      (read_cond item m (l + length (leaves_a a)) >>= λ c. give (Cond.or a c))
      (give (Cond.only a))

-- "a status, a field with one of `<` `<=` `=` `>=` `>` and a number without spaces": the name is a status, a field or neither. FULL is "told as soon as its
-- key is read, for a leaf its name (a wrong name gives 3 first)"
abbrev pub named : ℕ → Option ℕ → Option ℕ → Reader Leaf
named l (some x) f = do
  demand FULL (ltb l leaf_limit)
  give (Leaf.status x)
named l none (some f) = do
  demand FULL (ltb l leaf_limit)
  o ← operator
  n ← number
  give (Leaf.compare (record { field = f; operator = o; number = n.at }))
named l none none = refuse NAME

-- the names of statuses and fields known on the sheet
module _ (statuses fields : List Name) where
  -- a name is read, "and an empty one gives 3"; behind l leaves it may be one too many
  unfoldable pub read_leaf : ℕ → Reader Leaf
  read_leaf l = do
    w ← name
    named l (find w statuses) (find w fields)

  -- "An item is `not ` and an item, a status, a field with one of `<` `<=` `=` `>=` `>` and a number without spaces, or a group": "where an item is due and
  -- neither `not ` nor `(` stands, a name is read, and an empty one gives 3"; what `not ` and `(` begin is handed in
  unfoldable pub item_with : Reader Item → Reader Item → ℕ → Reader Item
  item_with negated grouped l = do
    not_ended
    nots ← stands (text "not ")
    choose nots negated do
      opens ← stands (text "(")
      choose opens grouped (read_leaf l >>= λ x. give (Item.leaf x))

  -- an item where d more nots and groups may stand around each other: "Nots and groups nest at most 8 deep"; "A group in parentheses holds a whole condition
  -- again"
  unfoldable pub read_item : ℕ → ℕ → Reader Item
  read_item zero l = item_with (refuse COND) (refuse COND) l
  read_item (suc d) l = item_with
      (read_item d l >>= λ i. give (Item.neg i))
      (do
        c ← read_cond (read_item d) (suc leaf_limit) l
        due COND (text ")")
        give (Item.group c))
      l

  -- a whole condition, behind l leaves of the sheet
  unfoldable pub condition : ℕ → Reader Cond
  condition l = read_cond (read_item nest_limit) (suc leaf_limit) l
