-- The outlook computed is the outlook meant: it holds each pattern that some filling gives, and no other, ascending.
use Rattle.std.specs.Prelude.{ℕ, zero, suc, ◌+◌, ◌-◌, ◌*◌, ◌≤◌, ◌<◌, ◌≡◌, Bool, length, get_or}
use Rattle.std.proofs.Math.Path.{refl, sym, ap}
use Rattle.std.proofs.Common.{◌∙◌, subst, ⊎_elim, eq-eqb}
use mathlib.Core.List.{List, [], ◌∷◌, map}
use Rattle.std.proofs.Math.Logic.{inl, inr}
use native.Mathlib.Omega.{arith}
use Rattle.meaning.specs.Text.{In}
use Rattle.meaning.specs.Kleene.{known₃}
use Rattle.meaning.specs.Limits.{highest}
use Rattle.meaning.specs.Number.{Value, missing, number_at}
use Rattle.meaning.specs.Condition.{Comparison, Leaf, compared}
use Rattle.meaning.specs.Tests.{Test, leaves_in}
use Rattle.meaning.specs.Graph.{Inside, TestingOrder}
use Rattle.meaning.specs.Dependency.{predecessors}
use Rattle.meaning.specs.Step.{Moment, leads_to, Meets, pattern}
use Rattle.meaning.specs.Outlook.{Fills, filled_with, Gives, IsOutlook, compares, comparisons, cuts, tried, choices, patterns, ascending}
use Rattle.theory.specs.Lists.Members.{in_map, map_in, in_joined, joined_in}
use Rattle.theory.specs.Lists.Ascending.{ascending_old, ascending_only, ascending_up, up_places}
use Rattle.theory.specs.Papers.Entries.{missing_number}
use Rattle.theory.specs.Outlook.Cuts.{same_part, listed_range, Lowest, lowest}
use Rattle.theory.specs.Outlook.Alike.{alike_leads}
use Rattle.theory.specs.Step.OneAnswer.{leads_meets, one_side}

-- one of each list
abbrev pub Chosen : List Value → List (List Value) → Type 0
Chosen [] [] = Unit {0}
Chosen [] (r ∷ rs) = ⊥
Chosen (v ∷ w) [] = ⊥
Chosen (v ∷ w) (r ∷ rs) = In v r × Chosen w rs

chosen_choice : (w : List Value) (rs : List (List Value)) → Chosen w rs → In w (choices rs)
unfolding choices
chosen_choice [] [] h = inl refl
chosen_choice [] (r ∷ rs) h = absurd h
chosen_choice (v ∷ w) [] h = absurd h
chosen_choice (v ∷ w) (r ∷ rs) (i, h) =
    in_joined (λ (x : Value). map (λ (y : List Value). x ∷ y) (choices rs)) v (v ∷ w) r i
    (in_map (λ (y : List Value). v ∷ y) w (choices rs) (chosen_choice w rs h))

choice_chosen : (rs : List (List Value)) (w : List Value) → In w (choices rs) → Chosen w rs
unfolding choices
choice_chosen [] w (inl e) = subst (λ z. Chosen z []) (sym e) tt
choice_chosen [] w (inr h) = absurd h
choice_chosen (r ∷ rs) w h = go (joined_in (λ (x : Value). map (λ (y : List Value). x ∷ y) (choices rs)) w r h) (choice_chosen rs)
  where
    go : (x : Value) × In x r × In w (map (λ (y : List Value). x ∷ y) (choices rs)) → ((u : List Value) → In u (choices rs) → Chosen u rs) → Chosen w (r ∷ rs)
    go (x, i, k) ih =
        let (u, j, e) = map_in (λ (y : List Value). x ∷ y) w (choices rs) k in
        subst (λ z. Chosen z (r ∷ rs)) (sym e) (i, ih u j)

-- what is chosen is a filling
module _ (ts : List Test) where
  chosen_fills : (f : ℕ) (vs w : List Value) → Chosen w (tried ts f vs) → Fills vs w
  unfolding tried
  chosen_fills f [] [] h = record { long = refl; kept = λ g v e. e; ranged = λ g l e. absurd (omega arith) }
  chosen_fills f [] (x ∷ w) h = absurd h
  chosen_fills f (missing ∷ vs) [] h = absurd h
  chosen_fills f (missing ∷ vs) (x ∷ w) (i, h) = go (chosen_fills (suc f) vs w h)
    where
      lies : In x (number_at 0 ∷ map number_at (cuts ts f)) → (v : ℕ) × (v ≤ highest) × (x ≡ number_at v)
      lies (inl e) = (0, omega arith, e)
      lies (inr k) = let (v, j, e) = map_in number_at x (cuts ts f) k in (v, listed_range ts f v j, e)

      go : Fills vs w → Fills (missing ∷ vs) (x ∷ w)
      go r = record { long = ap suc r.long; kept = kept; ranged = ranged }
        where
          kept : (g v : ℕ) → get_or (missing ∷ vs) g missing ≡ number_at v → get_or (x ∷ w) g missing ≡ number_at v
          kept zero v e = absurd (missing_number v e)
          kept (suc g) v e = r.kept g v e

          ranged : (g : ℕ) → g < suc (length vs) → get_or (missing ∷ vs) g missing ≡ missing
              → (v : ℕ) × (v ≤ highest) × (get_or (x ∷ w) g missing ≡ number_at v)
          ranged zero l e = lies i
          ranged (suc g) l e = r.ranged g (omega arith) e
  chosen_fills f (number_at u ∷ vs) [] h = absurd h
  chosen_fills f (number_at u ∷ vs) (x ∷ w) (i, h) = go (chosen_fills (suc f) vs w h)
    where
      is_u : In x (number_at u ∷ []) → x ≡ number_at u
      is_u (inl e) = e
      is_u (inr k) = absurd k

      go : Fills vs w → Fills (number_at u ∷ vs) (x ∷ w)
      go r = record { long = ap suc r.long; kept = kept; ranged = ranged }
        where
          kept : (g v : ℕ) → get_or (number_at u ∷ vs) g missing ≡ number_at v → get_or (x ∷ w) g missing ≡ number_at v
          kept zero v e = is_u i ∙ e
          kept (suc g) v e = r.kept g v e

          ranged : (g : ℕ) → g < suc (length vs) → get_or (number_at u ∷ vs) g missing ≡ missing
              → (v : ℕ) × (v ≤ highest) × (get_or (x ∷ w) g missing ≡ number_at v)
          ranged zero l e = absurd (missing_number u (sym e))
          ranged (suc g) l e = r.ranged g (omega arith) e

  -- each filling has a choice on which every comparison answers the same
  tail_fills : (a x : Value) (vs w : List Value) → Fills (a ∷ vs) (x ∷ w) → Fills vs w
  tail_fills a x vs w r =
      record { long = let e = r.long in omega arith; kept = λ g v e. r.kept (suc g) v e; ranged = λ g l e. r.ranged (suc g) (omega arith) e }

  abbrev AlikeFrom : ℕ → List Value → List Value → Type 0
  AlikeFrom f w u = (g h : ℕ) → h ≡ f + g → (c : Comparison) → In c (comparisons ts h) → compared c (get_or w g missing) ≡ compared c (get_or u g missing)

  alike_more : (f : ℕ) (x y : Value) (w u : List Value) → ((c : Comparison) → In c (comparisons ts f) → compared c x ≡ compared c y) → AlikeFrom (suc f) w u
      → AlikeFrom f (x ∷ w) (y ∷ u)
  alike_more f x y w u first rest zero h e c i = let q : h ≡ f = omega arith in first c (rw q at i)
  alike_more f x y w u first rest (suc g) h e c i = rest g h (omega arith) c i

  abbrev Represented : ℕ → List Value → List Value → Type 0
  Represented f vs w = (u : List Value) × Chosen u (tried ts f vs) × AlikeFrom f w u

  same_low : (f v : ℕ) → v ≤ highest → (r : Lowest (cuts ts f) v) (c : Comparison) → In c (comparisons ts f)
      → compared c (number_at v) ≡ compared c (number_at r.low)
  unfolding compared
  same_low f v l r c i =
      let d = r.under in
      let e : r.low + (v - r.low) ≡ v = omega arith in
      let s = same_part ts f c i r.low (v - r.low) (rw e l) (λ x a b k. r.clear x a (rw e at b) k) in
      ap known₃ (sym (rw e at s))

  represent : (f : ℕ) (vs w : List Value) → Fills vs w → Represented f vs w
  unfolding tried
  represent f [] [] r = ([], tt, λ g h e c i. refl)
  represent f [] (x ∷ w) r = absurd (let e = r.long in omega arith)
  represent f (missing ∷ vs) [] r = absurd (let e = r.long in omega arith)
  represent f (missing ∷ vs) (x ∷ w) r = go (represent (suc f) vs w (tail_fills missing x vs w r)) (r.ranged 0 (omega arith) refl)
    where
      go : Represented (suc f) vs w → (v : ℕ) × (v ≤ highest) × (x ≡ number_at v) → Represented f (missing ∷ vs) (x ∷ w)
      go (u, ch, al) (v, l, e) =
          let low = lowest (cuts ts f) v in (
            number_at low.low ∷ u,
            (⊎_elim (λ q. inl (ap number_at q)) (λ k. inr (in_map number_at low.low (cuts ts f) k)) low.is, ch),
            alike_more f x (number_at low.low) w u (λ c i. rw e (same_low f v l low c i)) al,
          )
  represent f (number_at a ∷ vs) [] r = absurd (let e = r.long in omega arith)
  represent f (number_at a ∷ vs) (x ∷ w) r = go (represent (suc f) vs w (tail_fills (number_at a) x vs w r))
    where
      go : Represented (suc f) vs w → Represented f (number_at a ∷ vs) (x ∷ w)
      go (u, ch, al) = (number_at a ∷ u, (inl refl, ch), alike_more f x (number_at a) w u (λ c i. rw (r.kept 0 a refl)) al)

  -- a comparison is one of its field's
  of_field : (c : Comparison) → In (Leaf.compare c) (leaves_in ts) → In c (comparisons ts c.field)
  unfolding comparisons
  of_field c h = in_joined (compares c.field) (Leaf.compare c) c (leaves_in ts) h (rw (eq-eqb c.field c.field refl) (inl refl))

  -- The theorem, for tests whose graph has a testing order, with two nodes for each status of the card
  module _ (m : Moment) (inside : Inside (length m.before * 2) (predecessors ts)) (o : List ℕ)
      (t : TestingOrder (length m.before * 2) (predecessors ts) o) where
    abbrev pattern_of : List Value → ℕ
    pattern_of w = pattern (leads_to ts (filled_with m w) o)

    meets : (w : List Value) → Meets ts (filled_with m w) (leads_to ts (filled_with m w) o)
    unfolding filled_with
    meets w = leads_meets ts (filled_with m w) o t

    pub listed_gives : (p : ℕ) → In p (patterns ts o m) → Gives ts m p
    unfolding patterns
    listed_gives p h =
        let (w, i, e) = map_in pattern_of p (choices (tried ts 0 m.values)) (ascending_only p (map pattern_of (choices (tried ts 0 m.values))) h) in
        record {
          filled = w;
          fills = chosen_fills 0 m.values w (choice_chosen (tried ts 0 m.values) w i);
          after = leads_to ts (filled_with m w) o;
          meets = meets w;
          is = sym e;
        }

    one : (w : List Value) (c : List Bool) → Meets ts (filled_with m w) c → c ≡ leads_to ts (filled_with m w) o
    unfolding filled_with
    one w c mc = one_side ts (filled_with m w) inside o t c (leads_to ts (filled_with m w) o) mc (meets w)

    pub gives_listed : (p : ℕ) → Gives ts m p → In p (patterns ts o m)
    unfolding patterns
    gives_listed p g =
        let (u, ch, al) = represent 0 m.values g.filled g.fills in
        let e : p ≡ pattern_of u = sym g.is ∙ ap pattern (one g.filled g.after g.meets
        ∙ alike_leads ts m g.filled u (λ c i. al c.field c.field (omega arith) c (of_field c i)) o) in
        rw e (ascending_old (pattern_of u) (map pattern_of (choices (tried ts 0 m.values)))
        (in_map pattern_of u (choices (tried ts 0 m.values)) (chosen_choice u (tried ts 0 m.values) ch)))

    -- "The list holds each pattern that some filling gives, once, ascending"
    pub is_outlook : IsOutlook ts m (patterns ts o m)
    unfolding patterns
    is_outlook = record {
      each = λ p. (listed_gives p, gives_listed p);
      ascending = up_places (patterns ts o m) (ascending_up (map pattern_of (choices (tried ts 0 m.values))));
    }
