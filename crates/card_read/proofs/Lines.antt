-- A line for each member of a list, as the code answers them: what was read, and what is left behind it.
use Prim.Native.Nat.{ℕ, suc, ◌+◌, ◌-◌, ◌≤◌}
use mathlib.Core.Path.{◌≡◌, refl, sym, ◌∙◌, ap}
use mathlib.Core.List.{List, [], ◌∷◌}
use native.Mathlib.Omega.{arith}
use lib.ListN.{length, drop}
use lib.Seq.{drop-drop}
use Rattle.std.specs.Prelude.{Result, Ok, Err}
use Rattle.meaning.specs.Reading.{Got, got, wrong, Reader, after, each}
use Rattle.theory.specs.Reading.Told.{took}
use Rattle.theory.specs.Reading.Answered.{Ends, behind, Left, left_got}
use Rattle.theory.specs.Reading.Piece.{as_lines}

-- WHAT WAS READ: as many lines, and bytes of the text
record Came {A B : Type 0} (bs : List B) (ys : List A) (l : ℕ) (s : List ℕ) (k : ℕ) (t : List ℕ) : Type 0 where
  pub many : length ys ≡ length bs
  pub lines : k ≡ l + length bs
  pub bytes : ℕ
  pub within : bytes ≤ length s
  pub rest : t ≡ drop bytes s

module _ {A B : Type 0} {P : B → A → ℕ → Type 0} {r : B → Reader A} (ends : (b : B) (u : List ℕ) → Ends suc (P b) (r b) u) where
  came : (bs : List B) (l : ℕ) (s : List ℕ) (ys : List A) (k : ℕ) (t : List ℕ) → each r bs l s ≡ got ys k t → Came bs ys l s k t
  unfolding each
  came [] l s ys k t e =
      let a : ys ≡ [] = cc in
      let b : k ≡ l = cc in
      let c : t ≡ s = cc in
      record { many = rw a; lines = omega arith; bytes = 0; within = omega arith; rest = c }
  came (b ∷ bs) l s ys k t e = go (ends b s) (λ n xs j u y. came bs (suc l) (drop n s) xs j u y)
    where
      go : Ends suc (P b) (r b) s
          → ((n : ℕ) (xs : List A) (j : ℕ) (u : List ℕ) → each r bs (suc l) (drop n s) ≡ got xs j u → Came bs xs (suc l) (drop n s) j u)
          → Came (b ∷ bs) ys l s k t
      go (Ends.faulty i h) more = let z : ◌≡◌ {A = Got (List A)} (wrong i l) (got ys k t) = rw (h l) at e in cc
      go (Ends.found a n p m h) more = on (each r bs (suc l) (drop n s)) refl (rw (h l) at e)
        where
          on : (x : Got (List A)) → each r bs (suc l) (drop n s) ≡ x → after x (λ xs l s. got (a ∷ xs) l s) ≡ got ys k t → Came (b ∷ bs) ys l s k t
          on (wrong i j) y z = cc
          on (got xs j u) y z =
              let w = more n xs j u y in
              let d : k ≡ j = cc in
              let f : t ≡ u = cc in
              let g : ys ≡ a ∷ xs = cc in
              record {
                many = rw g (ap suc w.many);
                lines = omega (arith, w.lines);
                bytes = n + w.bytes;
                within = behind s w.bytes n m w.within;
                rest = f ∙ w.rest ∙ drop-drop w.bytes n s;
              }

-- WHAT THE CODE ANSWERED, where these lines are the next of the reading x of s
pub record Given {A B C D : Type 0} (good : List A → ℕ → ℕ → B) (bs : List D) (x : Got C) (f : List A → Reader C) (l : ℕ) (s : List ℕ) (b : B) : Type 0 where
  pub value : List A
  pub place : ℕ
  pub many : length value ≡ length bs
  pub same : b ≡ good value (l + length bs) place
  pub left : Left x (f value) (l + length bs) place s

pub record Lost {E C : Type 0} (bad : ℕ → ℕ → E) (x : Got C) (e : E) : Type 0 where
  pub number : ℕ
  pub line : ℕ
  pub is : e ≡ bad number line
  pub told : x ≡ wrong number line

module _ {A B C D E : Type 0} (good : List A → ℕ → ℕ → B) (bad : ℕ → ℕ → E) {P : D → A → ℕ → Type 0} {r : D → Reader A}
    (ends : (b : D) (u : List ℕ) → Ends suc (P b) (r b) u) (bs : List D) {x : Got C} (f : List A → Reader C) {l at : ℕ} {s : List ℕ}
    (left : Left x (λ l s. after (each r bs l s) f) l at s) (v : Result B E) (is : v ≡ as_lines good bad s (each r bs l (drop at s))) where
  pub lines_on : (b : B) → v ≡ Ok b → Given good bs x f l s b
  lines_on b e = go (each r bs l (drop at s)) refl (sym e ∙ is)
    where
      go : (y : Got (List A)) → each r bs l (drop at s) ≡ y → Ok b ≡ as_lines good bad s y → Given good bs x f l s b
      go (wrong n i) q z = cc
      go (got ys k t) q z =
          let w = came ends bs l (drop at s) ys k t q in
          let h : Left x (f ys) k (at + w.bytes) s = left_got (each r bs) f left ys k w.bytes w.within (rw (← w.rest) q) in
          let n : length s - length t ≡ at + w.bytes
          = ap (λ t. length s - length t) w.rest ∙ rw (drop-drop w.bytes at s) (took s (at + w.bytes) h.within) in
          let y : b ≡ good ys k (length s - length t) = cc in
          record { value = ys; place = at + w.bytes; many = w.many; same = rw (← w.lines, ← n) y; left = rw (← w.lines) h }

  pub lines_off : (e : E) → v ≡ Err e → Lost bad x e
  lines_off e o = go (each r bs l (drop at s)) refl (sym o ∙ is)
    where
      go : (y : Got (List A)) → each r bs l (drop at s) ≡ y → Err e ≡ as_lines good bad s y → Lost bad x e
      go (got ys k t) q z = cc
      go (wrong n i) q z = record { number = n; line = i; is = cc; told = left.is ∙ rw q }
