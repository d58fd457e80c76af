-- What the functions add, in return form: the premises are what is known at a place, the conclusion is what is asked there.
use Prim.Native.Nat.{ℕ, zero, suc, ◌+◌, ◌-◌, ◌/◌, ◌≤◌, ◌<◌}
use mathlib.Core.Path.{◌≡◌, refl, sym, ◌∙◌, ap, subst}
use mathlib.Core.Bool.{Bool, true, false, ◌&&◌, true≢false, false≢true}
use mathlib.Core.List.{List, [], ◌∷◌, ◌++◌, append_assoc}
use mathlib.Core.Logic.{⊎_elim}
use native.Mathlib.Nat.{eq-or-lt_of_le, le_trans, le_of_lt, lt_trans}
use native.Mathlib.Omega.{arith}
use native.Mathlib.Decide.{ℕ_discrete, dec_lt}
use lib.Dec.{ltb, eqb}
use lib.ListN.{length, get_or, set, take, drop, length-append, length-take, length-drop, length-set, take-append-drop}
use lib.Seq.{length-take-le, get_or-take, take-take}
use borrow.Author.Tests.{eq-eqb, ne_eqb, lt-ltb, le-ltb}
use Rattle.meaning.specs.Outlook.{insert}
use Rattle.theory.specs.Lists.Ascending.{Up, up_places}
use Rattle.sets.specs.Front.{Front, below, shifted}
use Rattle.sets.proofs.Places.{below_is, insert_there, insert_between}

-- HOW MANY ARE BELOW

-- all before lo are below v, and all from hi to n are not
pub record Bracket (a : List ℕ) (n v lo hi : ℕ) : Type 0 where
  pub lo_le : lo ≤ hi
  pub hi_le : hi ≤ n
  pub under : (k : ℕ) → k < lo → get_or a k 0 < v
  pub over : (k : ℕ) → hi ≤ k → k < n → v ≤ get_or a k 0

module _ (a : List ℕ) (n v : ℕ) where
  pub bracket_start : Bracket a n v 0 n
  bracket_start = record { lo_le = omega arith; hi_le = omega arith; under = λ k l. absurd (omega arith); over = λ k l m. absurd (omega arith) }

  module _ (long : n ≤ length a) (up : Up (take n a)) where
    first_up : (i j : ℕ) → i < j → j < n → get_or a i 0 < get_or a j 0
    first_up i j l g =
        let e : get_or (take n a) i 0 < get_or (take n a) j 0 = up_places (take n a) up i j l (rw (length-take-le n a long) g) in
        rw (get_or-take n a i 0 (omega arith), get_or-take n a j 0 g) at e

    module _ (lo hi : ℕ) (b : Bracket a n v lo hi) (more : lo < hi) (m : ℕ) (is : m ≡ lo + (hi - lo) / 2) where
      pub bracket_up : get_or a m 0 < v → (k : ℕ) → k ≡ m + 1 → Bracket a n v k hi
      bracket_up c k e = record {
        lo_le = omega arith;
        hi_le = b.hi_le;
        under = λ i l. ⊎_elim (λ (e : i ≡ m). subst (λ (j : ℕ). get_or a j 0 < v) (sym e) c)
            (λ (h : i < m). lt_trans (first_up i m h (omega (arith, b.hi_le))) c) (eq-or-lt_of_le (omega arith));
        over = b.over;
      }

      pub bracket_down : v ≤ get_or a m 0 → Bracket a n v lo m
      bracket_down c = record {
        lo_le = omega arith;
        hi_le = omega (arith, b.hi_le);
        under = b.under;
        over = λ i l h. ⊎_elim (λ (e : m ≡ i). subst (λ (j : ℕ). v ≤ get_or a j 0) e c) (λ (g : m < i). le_trans c (le_of_lt (first_up m i g h)))
            (eq-or-lt_of_le l);
      }

  pub bracket_done : n ≤ length a → (lo hi : ℕ) → Bracket a n v lo hi → hi ≤ lo → lo ≡ below v (take n a)
  bracket_done long lo hi b h =
      let l : length (take n a) ≡ n = length-take-le n a long in
      below_is v lo (take n a) (omega (arith, b.lo_le, b.hi_le)) (λ i g. rw (get_or-take n a i 0 (omega (arith, b.lo_le, b.hi_le))) (b.under i g))
      (λ g. let q : lo < n = omega arith in rw (get_or-take n a lo 0 q) (b.over lo h q))

pub ruleset bracketing = (bracket_start, bracket_up, bracket_down, bracket_done)

-- WHETHER IT STANDS THERE

pub stands_past : (a : List ℕ) (p n v : ℕ) → n ≤ p → false ≡ (ltb p n && eqb (get_or a p 0) v)
stands_past a p n v h = rw (le-ltb p n h)

pub stands_at : (a : List ℕ) (p n v : ℕ) (b : Bool) → p < n → b ≡ eqb (get_or a p 0) v → b ≡ (ltb p n && eqb (get_or a p 0) v)
stands_at a p n v b h e = rw (lt-ltb p n h) e

pub ruleset standing = (stands_past, stands_at)

-- SHIFTING

-- one number moved up, and the last one
shifted_more : (k n c : ℕ) (a : List ℕ) → k < n → n < length a → shifted (suc k) n (get_or a k 0) (set a k c) ≡ shifted k n c a
unfolding shifted
shifted_more k n c [] h g = absurd (omega arith)
shifted_more k zero c (x ∷ a) h g = absurd (omega arith)
shifted_more zero (suc n) c (x ∷ a) h g = refl
shifted_more (suc k) (suc n) c (x ∷ a) h g = ap (λ l. x ∷ l) (shifted_more k n c a (omega arith) (omega arith))

shifted_last : (n c : ℕ) (a : List ℕ) → n < length a → set a n c ≡ shifted n n c a
unfolding shifted
shifted_last n c [] g = absurd (omega arith)
shifted_last zero c (x ∷ a) g = refl
shifted_last (suc n) c (x ∷ a) g = ap (λ l. x ∷ l) (shifted_last n c a (omega arith))

-- what is still to be moved gives the whole
pub record Shifting (pos n v : ℕ) (was a : List ℕ) (k carry : ℕ) : Type 0 where
  pub to : k ≤ n
  pub long : length a ≡ length was
  pub rest : shifted k n carry a ≡ shifted pos n v was

module _ (pos n v : ℕ) (was : List ℕ) where
  pub shifting_start : pos ≤ n → Shifting pos n v was was pos v
  shifting_start h = record { to = h; long = refl; rest = refl }

  module _ (room : n < length was) (a : List ℕ) (k carry : ℕ) (s : Shifting pos n v was a k carry) where
    pub shifting_more : k < n → (j : ℕ) → j ≡ k + 1 → Shifting pos n v was (set a k carry) j (get_or a k 0)
    shifting_more h j e = record {
      to = omega arith;
      long = length-set a k carry ∙ s.long;
      rest = let z : j ≡ suc k = omega arith in rw z (shifted_more k n carry a h (omega (arith, s.long))) ∙ s.rest;
    }

    pub shifting_done : n ≤ k → set a n carry ≡ shifted pos n v was
    shifting_done h =
        let z : k ≡ n = omega (arith, s.to) in
        shifted_last n carry a (omega (arith, s.long)) ∙ ap (λ j. shifted j n carry a) (sym z) ∙ s.rest

pub ruleset shifting = (shifting_start, shifting_more, shifting_done)

-- PUTTING IN

module _ (a : List ℕ) (n v p : ℕ) (room : n < length a) (is : p ≡ below v (take n a)) (b : Bool) (told : b ≡ (ltb p n && eqb (get_or a p 0) v)) where
  -- what the test says
  there : b ≡ true → (p < n) × (get_or a p 0 ≡ v)
  there t = go (dec_lt p n) (ℕ_discrete (get_or a p 0) v)
    where
      go : Dec (p < n) → Dec (get_or a p 0 ≡ v) → (p < n) × (get_or a p 0 ≡ v)
      go (yes h) (yes e) = (h, e)
      go (yes h) (no e) = absurd (false≢true (sym (told ∙ rw (lt-ltb p n h, ne_eqb (get_or a p 0) v e)) ∙ t))
      go (no h) d = absurd (false≢true (sym (told ∙ rw (le-ltb p n (omega arith))) ∙ t))

  not_there : b ≡ false → p < n → get_or a p 0 ≡ v → ⊥
  not_there t h e = true≢false (sym (told ∙ rw (lt-ltb p n h, eq-eqb (get_or a p 0) v e)) ∙ t)

  pub insert_old : b ≡ true → Front (insert v (take n a)) n a a
  insert_old t =
      let (h, e) = there t in
      let l : length (take n a) ≡ n = length-take-le n a (omega arith) in
      let q = insert_there v p (take n a) is (omega arith) (get_or-take n a p 0 h ∙ e) in
      rw q (record { count = sym l; list = sym (take-append-drop n a) })

  pub insert_shifted : b ≡ false → p ≤ n → (after : List ℕ) → after ≡ shifted p n v a → (r : ℕ) → r ≡ n + 1 → Front (insert v (take n a)) r a after
  unfolding shifted
  insert_shifted t h after e r c =
      let l : length (take n a) ≡ n = length-take-le n a (omega arith) in
      let q : insert v (take n a) ≡ take p a ++ (v ∷ drop p (take n a)) =
      insert_between v p (take n a) is (λ g w. let k : p < n = omega arith in not_there t k (sym (get_or-take n a p 0 k) ∙ w))
      ∙ ap (λ t. t ++ (v ∷ drop p (take n a))) (take-take p n a h) in
      let z : r ≡ suc n = omega arith in
      rw q (record {
        count = simp (length-append, length-take, length-drop) (omega (arith, length-take n a));
        list = e ∙ rw z (sym (append_assoc (take p a) (v ∷ drop p (take n a)) (drop (suc n) a)));
      })

pub ruleset inserting = (insert_old, insert_shifted)
