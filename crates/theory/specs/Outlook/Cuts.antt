-- Cuts and parts: the cuts computed are the cuts, and within a part every comparison answers the same.
use Prim.Native.Nat.{ℕ, zero, suc, ◌+◌, ◌-◌, ◌≤◌, ◌<◌}
use Rattle.std.specs.Prelude.{◌≡◌, Bool, ◌&&◌, List, [], ◌∷◌, ◌⊎◌, ◌↔◌, leb, ltb}
use Rattle.std.proofs.Math.Path.{refl}
use Rattle.std.proofs.Common.{sym, ◌∙◌, ap, true≢false, ⊎_elim, arith}
use Rattle.std.proofs.Math.Bool.{true, false, not}
use Rattle.std.specs.Bool.{beq}
use Rattle.std.proofs.lemmas.Bool.{false≢true}
use Rattle.std.proofs.Math.Logic.{inl, inr}
use Rattle.std.proofs.Math.Decide.{ℕ_discrete, dec_lt, dec_le}
use borrow.Author.Tests.{ne_eqb, lt-ltb, le-ltb, ltb-true, leb-true, le-leb, lt-leb}
use Rattle.meaning.specs.Text.{In, keep, joined}
use Rattle.meaning.specs.Limits.{highest}
use Rattle.meaning.specs.Condition.{Operator, below, at_most, equal, at_least, above, Comparison, answers}
use Rattle.meaning.specs.Tests.{Test}
use Rattle.meaning.specs.Outlook.{comparisons, cuts_at, is_cut, cuts}
use Rattle.theory.specs.Lists.Members.{in_joined, joined_in, in_any, any_in, in_keep, keep_in}
use Rattle.theory.specs.Lists.Ascending.{ascending_old, ascending_only}

-- away from its number and the next, a comparison answers at v as at v - 1
same_away : (op : Operator) (k v : ℕ) → 0 < v → (v ≡ k → ⊥) → (v ≡ suc k → ⊥) → answers op k (v - 1) ≡ answers op k v
unfolding answers
same_away below k v h a b = go (dec_lt v k)
  where
    go : Dec (v < k) → ltb (v - 1) k ≡ ltb v k
    go (yes l) = lt-ltb (v - 1) k (omega arith) ∙ sym (lt-ltb v k l)
    go (no n) = le-ltb (v - 1) k (omega arith) ∙ sym (le-ltb v k (omega arith))
same_away at_most k v h a b = go (dec_lt v k)
  where
    go : Dec (v < k) → leb (v - 1) k ≡ leb v k
    go (yes l) = le-leb (v - 1) k (omega arith) ∙ sym (le-leb v k (omega arith))
    go (no n) = lt-leb (v - 1) k (omega arith) ∙ sym (lt-leb v k (omega arith))
same_away equal k v h a b = ne_eqb (v - 1) k (λ e. b (omega arith)) ∙ sym (ne_eqb v k a)
same_away at_least k v h a b = go (dec_lt v k)
  where
    go : Dec (v < k) → leb k (v - 1) ≡ leb k v
    go (yes l) = lt-leb k (v - 1) (omega arith) ∙ sym (lt-leb k v (omega arith))
    go (no n) = le-leb k (v - 1) (omega arith) ∙ sym (le-leb k v (omega arith))
same_away above k v h a b = go (dec_lt v k)
  where
    go : Dec (v < k) → ltb k (v - 1) ≡ ltb k v
    go (yes l) = le-ltb k (v - 1) (omega arith) ∙ sym (le-ltb k v (omega arith))
    go (no n) = lt-ltb k (v - 1) (omega arith) ∙ sym (lt-ltb k v (omega arith))

-- what the test for a cut says
beq_same : (a b : Bool) → beq a b ≡ true → a ≡ b
beq_same true true e = refl
beq_same true false e = absurd (false≢true e)
beq_same false true e = absurd (false≢true e)
beq_same false false e = refl

same_beq : (a b : Bool) → a ≡ b → beq a b ≡ true
same_beq true true e = refl
same_beq true false e = absurd (true≢false e)
same_beq false true e = absurd (false≢true e)
same_beq false false e = refl

and_three : (a b c : Bool) → a && b && c ≡ true → (a ≡ true) × (b ≡ true) × (c ≡ true)
and_three true true true e = (refl, refl, refl)
and_three true true false e = absurd (false≢true e)
and_three true false c e = absurd (false≢true e)
and_three false b c e = absurd (false≢true e)

module _ (c : Comparison) (v : ℕ) where
  abbrev at : ℕ → Bool
  at w = answers c.operator c.number w

  -- a cut lies in the range, at the number or the next
  cut_where : cuts_at c v ≡ true → (v ≤ highest) × ((v ≡ c.number) ⊎ (v ≡ suc c.number))
  unfolding cuts_at
  cut_where t = (leb-true v highest p.1, near (ℕ_discrete v c.number) (ℕ_discrete v (suc c.number)))
    where
      p : (ltb 0 v ≡ true) × (leb v highest ≡ true) × (not (beq (at (v - 1)) (at v)) ≡ true)
      p = and_three (ltb 0 v) (leb v highest) (not (beq (at (v - 1)) (at v))) t

      clash : (b : Bool) → b ≡ true → not b ≡ true → ⊥
      clash true e n = false≢true n
      clash false e n = false≢true e

      near : Dec (v ≡ c.number) → Dec (v ≡ suc c.number) → (v ≡ c.number) ⊎ (v ≡ suc c.number)
      near (yes e) d = inl e
      near (no a) (yes e) = inr e
      near (no a) (no b) = absurd (clash (beq (at (v - 1)) (at v))
          (same_beq (at (v - 1)) (at v) (same_away c.operator c.number v (ltb-true 0 v p.0) a b)) p.2)

  -- where it does not cut, it answers at v as at v - 1
  no_cut : cuts_at c v ≡ false → 0 < v → v ≤ highest → at (v - 1) ≡ at v
  unfolding cuts_at
  no_cut t h g = beq_same (at (v - 1)) (at v) (go (beq (at (v - 1)) (at v)) (rw (lt-ltb 0 v h, le-leb v highest g) at t))
    where
      go : (b : Bool) → not b ≡ false → b ≡ true
      go true e = refl
      go false e = absurd (true≢false e)

module _ (ts : List Test) (f : ℕ) where
  abbrev near : Comparison → List ℕ
  near c = keep (cuts_at c) (c.number ∷ suc c.number ∷ [])

  -- each cut is listed
  pub cut_listed : (c : Comparison) (v : ℕ) → In c (comparisons ts f) → cuts_at c v ≡ true → In v (cuts ts f)
  unfolding cuts
  cut_listed c v h t = ascending_old v (joined near (comparisons ts f))
      (in_joined near c v (comparisons ts f) h
      (in_keep (cuts_at c) v (c.number ∷ suc c.number ∷ []) (⊎_elim (λ e. inl e) (λ e. inr (inl e)) (cut_where c v t).1) t))

  -- and nothing else
  pub listed_cut : (v : ℕ) → In v (cuts ts f) → (c : Comparison) × In c (comparisons ts f) × (cuts_at c v ≡ true)
  unfolding cuts
  listed_cut v h =
      let (c, i, k) = joined_in near v (comparisons ts f) (ascending_only v (joined near (comparisons ts f)) h) in
      (c, i, (keep_in (cuts_at c) v (c.number ∷ suc c.number ∷ []) k).1)

  -- "some comparison of that field on the sheet answers differently": the cuts computed are the cuts
  pub cuts_exactly : (v : ℕ) → In v (cuts ts f) ↔ (is_cut ts f v ≡ true)
  unfolding is_cut
  cuts_exactly v = (
    λ h. let (c, i, t) = listed_cut v h in in_any (λ d. cuts_at d v) c (comparisons ts f) i t,
    λ t. let (c, i, q) = any_in (λ d. cuts_at d v) (comparisons ts f) t in cut_listed c v i q,
  )

  pub listed_range : (v : ℕ) → In v (cuts ts f) → v ≤ highest
  listed_range v h = let (c, i, t) = listed_cut v h in (cut_where c v t).0

  -- where no cut lies above r and up to r + n, a comparison of the field answers the same at both
  pub same_part : (c : Comparison) → In c (comparisons ts f) → (r n : ℕ) → r + n ≤ highest → ((v : ℕ) → r < v → v ≤ r + n → In v (cuts ts f) → ⊥)
      → answers c.operator c.number r ≡ answers c.operator c.number (r + n)
  same_part c i r zero h out = ap (λ w. answers c.operator c.number w) (omega arith)
  same_part c i r (suc n) h out =
      same_part c i r n (omega arith) (λ v a b k. out v a (omega arith) k) ∙ step (cuts_at c (r + suc n)) refl
    where
      step : (b : Bool) → cuts_at c (r + suc n) ≡ b → answers c.operator c.number (r + n) ≡ answers c.operator c.number (r + suc n)
      step true t = absurd (out (r + suc n) (omega arith) (omega arith) (cut_listed c (r + suc n) i t))
      step false t =
          let e : r + suc n - 1 ≡ r + n = omega arith in
          rw (← e) (no_cut c (r + suc n) t (omega arith) h)

-- the greatest of 0 and the members of a list that is not above x
pub record Lowest (l : List ℕ) (x : ℕ) : Type 0 where
  pub low : ℕ
  pub is : (low ≡ 0) ⊎ In low l
  pub under : low ≤ x
  pub clear : (v : ℕ) → low < v → v ≤ x → In v l → ⊥

pub lowest : (l : List ℕ) (x : ℕ) → Lowest l x
lowest [] x = record { low = 0; is = inl refl; under = omega arith; clear = λ v a b h. h }
lowest (c ∷ l) x = go (lowest l x) (dec_le c x)
  where
    try : (r : Lowest l x) → c ≤ x → Dec (r.low < c) → Lowest (c ∷ l) x
    try r h (yes g) = record { low = c; is = inr (inl refl); under = h; clear = λ v a b k. ⊎_elim (λ e. omega arith) (λ i. r.clear v (omega arith) b i) k }
    try r h (no n) = record {
      low = r.low;
      is = ⊎_elim (λ e. inl e) (λ i. inr (inr i)) r.is;
      under = r.under;
      clear = λ v a b k. ⊎_elim (λ e. n (omega arith)) (λ i. r.clear v a b i) k;
    }

    go : Lowest l x → Dec (c ≤ x) → Lowest (c ∷ l) x
    go r (yes h) = try r h (dec_lt r.low c)
    go r (no n) = record {
      low = r.low;
      is = ⊎_elim (λ e. inl e) (λ i. inr (inr i)) r.is;
      under = r.under;
      clear = λ v a b k. ⊎_elim (λ e. n (omega arith)) (λ i. r.clear v a b i) k;
    }
