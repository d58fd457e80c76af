-- Graphs: paths, cycles and testing orders, over any nodes and edges; and the testing order that is taken.
use Rattle.std.specs.Prelude.{ℕ, zero, suc, ◌<◌, ◌≡◌, Bool, true, false, not, List, [], ◌∷◌, length, get_or, eqb}
use Rattle.std.proofs.Math.Option.{Option, none, some}
use Rattle.meaning.specs.Text.{any, keep, is_in, from}

-- A graph has the nodes below some n, and for each node the list of those from which an edge leads to it.
abbrev pub Into : Type 0
Into = ℕ → List ℕ

-- an edge leads from p to k
unfoldable pub edge : Into → ℕ → ℕ → Bool
edge into p k = is_in p (into k)

-- WHAT IS MEANT

-- one or more edges from node to node; "a self-edge is such a path"
pub data Path (into : Into) : ℕ → ℕ → Type 0 where
  one : {i j : ℕ} → edge into i j ≡ true → Path into i j
  more : {i j k : ℕ} → edge into i j ≡ true → Path into j k → Path into i k

-- a "path leads from a node to itself"
abbrev pub Cycle : Into → Type 0
Cycle into = (k : ℕ) × Path into k k

-- "no path leads from a node to itself"
abbrev pub Acyclic : Into → Type 0
Acyclic into = (k : ℕ) → Path into k k → ⊥

-- each edge leads from a node to a node
abbrev pub Inside : ℕ → Into → Type 0
Inside n into = (p k : ℕ) → edge into p k ≡ true → (p < n) × (k < n)

-- "A testing order names every node once, each edge leading from earlier to later"
pub record TestingOrder (n : ℕ) (into : Into) (o : List ℕ) : Type 0 where
  pub every : (k : ℕ) → k < n → (i : ℕ) × (i < length o) × (get_or o i 0 ≡ k)
  pub only : (i : ℕ) → i < length o → get_or o i 0 < n
  pub once : (i j : ℕ) → i < length o → j < length o → get_or o i 0 ≡ get_or o j 0 → i ≡ j
  pub later : (i j : ℕ) → i < length o → j < length o → edge into (get_or o i 0) (get_or o j 0) ≡ true → i < j

-- HOW IT IS COMPUTED: again and again the first node to which no edge leads from a node that is left

-- an edge leads to k from a node that is left
unfoldable pub waits : Into → List ℕ → ℕ → Bool
waits into left k = any (λ p. is_in p left) (into k)

-- the first of the nodes that waits for none of those left
unfoldable pub first_free : Into → List ℕ → List ℕ → Option ℕ
first_free into left [] = none
first_free into left (k ∷ ks) = elim (waits into left k) [ true ↦ first_free into left ks | false ↦ some k ]

-- the nodes left when k is taken
unfoldable pub without : ℕ → List ℕ → List ℕ
without k left = keep (λ i. not (eqb i k)) left

-- a node, and then the order of the others, if there is one
abbrev pub then : ℕ → Option (List ℕ) → Option (List ℕ)
then k none = none
then k (some o) = some (k ∷ o)

-- the node, if one is free, and then the others
abbrev pub first : Option ℕ → (ℕ → Option (List ℕ)) → Option (List ℕ)
first none rest = none
first (some k) rest = then k (rest k)

-- an order of the m nodes that are left, if there is one
unfoldable pub order_of : Into → ℕ → List ℕ → Option (List ℕ)
order_of into zero left = some []
order_of into (suc m) left = first (first_free into left left) (λ k. order_of into m (without k left))

-- "A testing order names every node once, each edge leading from earlier to later": one of n nodes; none where the graph has a cycle
unfoldable pub order_for : ℕ → Into → Option (List ℕ)
order_for n into = order_of into n (from 0 n)
