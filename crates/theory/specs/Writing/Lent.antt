-- Texts put into lent space, piece by piece: what stands there behind each, and what is left to be written.
use Rattle.std.specs.Prelude.{ℕ, ◌+◌, ◌-◌, ◌≤◌, ◌≡◌, refl, List, [], ◌∷◌, ◌++◌, length, drop, take, set}
use Rattle.std.proofs.Common.{ap, sym, ◌∙◌, subst, append_assoc, append-nil, arith, add_assoc, add-one, take-append-drop, length-drop, length-append, drop_of_length-le, length-take-le, take_all, take_at, drop-drop}
use Rattle.std.proofs.lemmas.List.{set_split}
use Rattle.std.proofs.Math.Seq.{drop-append-add}

-- w over o from a place on; all else stays
abbrev pub over : ℕ → List ℕ → List ℕ → List ℕ
over a w o = take a o ++ (w ++ drop (a + length w) o)

-- w was written at a place; r is the place behind it
pub record Wrote (at : ℕ) (w before after : List ℕ) (r : ℕ) : Type 0 where
  pub space : after ≡ over at w before
  pub next : r ≡ at + length w

over_length : (a : ℕ) (w o : List ℕ) → a + length w ≤ length o → length (over a w o) ≡ length o
over_length a w o h =
    let k : a ≤ length o = omega arith in
    simp (length-append, length-take-le a o k, length-drop) (omega arith)

-- two texts, one behind the other
over_more : (a : ℕ) (x y o : List ℕ) → a + length (x ++ y) ≤ length o → over a (x ++ y) o ≡ over (a + length x) y (over a x o)
over_more a x y o h =
    let k : a ≤ length o = omega arith in
    let q : length (take a o ++ x) ≡ a + length x = simp (length-append, length-take-le a o k) in
    let e : over a x o ≡ (take a o ++ x) ++ drop (a + length x) o = sym (append_assoc (take a o) x (drop (a + length x) o)) in
    rw (
      e,
      take_at (take a o ++ x) (drop (a + length x) o) (a + length x) q,
      ← q,
      drop-append-add (take a o ++ x) _ (length y),
      q,
      drop-drop (length y) (a + length x) o,
      length-append x y,
      append_assoc x y _,
      append_assoc (take a o) x _,
    )
    (rw (add_assoc a (length x) (length y)))

over_none : (a : ℕ) (o : List ℕ) → over a [] o ≡ o
over_none a o = let z : a + 0 ≡ a = omega arith in rw z (take-append-drop a o)

-- the first text is written, the second is still to be written behind it
module _ (at : ℕ) (x y o o1 : List ℕ) (b : ℕ) (fits : at + length (x ++ y) ≤ length o) (w : Wrote at x o o1 b) where
  pub wrote_long : length o1 ≡ length o
  wrote_long = ap length w.space ∙ over_length at x o (omega (arith, length-append x y))

  pub wrote_room : b + length y ≤ length o1
  wrote_room = omega (arith, length-append x y, wrote_long, w.next)

  pub wrote_both : (o2 : List ℕ) (r : ℕ) → Wrote b y o1 o2 r → Wrote at (x ++ y) o o2 r
  wrote_both o2 r v = record {
    space = v.space ∙ rw (w.space, w.next) (sym (over_more at x y o fits));
    next = omega (arith, length-append x y, w.next, v.next);
  }

-- what is still to be written of w, u, is to stand at `at`
pub record Left (at₀ : ℕ) (w o₀ : List ℕ) (at : ℕ) (u o : List ℕ) : Type 0 where
  pub long : length o ≡ length o₀
  pub fits : at + length u ≤ length o
  pub to : at + length u ≡ at₀ + length w
  pub same : over at u o ≡ over at₀ w o₀

pub left_start : (at : ℕ) (w o : List ℕ) → at + length w ≤ length o → Left at w o at w o
left_start at w o h = record { long = refl; fits = h; to = refl; same = refl }

pub left_end : (at₀ : ℕ) (w o₀ : List ℕ) (at : ℕ) (u o : List ℕ) → Left at₀ w o₀ at u o → u ≡ [] → Wrote at₀ w o₀ o at
left_end at₀ w o₀ at u o l e = record {
  space = sym (over_none at o) ∙ ap (λ v. over at v o) (sym e) ∙ l.same;
  next = omega (arith, l.to, ap length e);
}

module _ (at₀ : ℕ) (w o₀ : List ℕ) (at : ℕ) (u o : List ℕ) (l : Left at₀ w o₀ at u o) (x y : List ℕ) (e : u ≡ x ++ y) where
  pub left_room : at + length x ≤ length o
  left_room = omega (arith, l.fits, ap length e, length-append x y)

  pub left_more : (o1 : List ℕ) (b : ℕ) → Wrote at x o o1 b → Left at₀ w o₀ b y o1
  left_more o1 b v =
      let f : at + length (x ++ y) ≤ length o = rw e at l.fits in
      record {
        long = wrote_long at x y o o1 b f v ∙ l.long;
        fits = wrote_room at x y o o1 b f v;
        to = omega (arith, l.to, ap length e, length-append x y, v.next);
        same = rw (v.space, v.next) (sym (over_more at x y o f) ∙ ap (λ z. over at z o) (sym e) ∙ l.same);
      }

pub left_long : (at₀ : ℕ) (w o₀ : List ℕ) (at : ℕ) (u o : List ℕ) → Left at₀ w o₀ at u o → length o ≡ length o₀
left_long at₀ w o₀ at u o l = l.long

-- a byte
pub byte_put : (at b : ℕ) (o : List ℕ) → at + 1 ≤ length o → (r : ℕ) → r ≡ at + 1 → Wrote at (b ∷ []) o (set o at b) r
byte_put at b o h r e = record { space = rw add-one (set_split o at b (omega arith)); next = e }

-- PIECES, one behind the other

-- nothing is written
pub wrote_none : (at : ℕ) (w o : List ℕ) → at + length w ≤ length o → w ≡ [] → Wrote at w o o at
wrote_none at w o h e = left_end at w o at w o (left_start at w o h) e

-- a text that is two pieces: room for the first, room for the second, and both
module _ (at : ℕ) (w x y o : List ℕ) (whole : w ≡ x ++ y) (fits : at + length w ≤ length o) where
  both_fit : at + length (x ++ y) ≤ length o
  both_fit = rw whole at fits

  pub first_room : at + length x ≤ length o
  first_room = omega (arith, both_fit, length-append x y)

  module _ (o1 : List ℕ) (a : ℕ) (v : Wrote at x o o1 a) where
    pub second_room : a + length y ≤ length o1
    second_room = wrote_room at x y o o1 a both_fit v

    pub both_written : (o2 : List ℕ) (r : ℕ) → Wrote a y o1 o2 r → Wrote at w o o2 r
    both_written o2 r u = subst (λ w. Wrote at w o o2 r) (sym whole) (wrote_both at x y o o1 a both_fit v o2 r u)

-- a part of the space that was lent, back in its place: p is what stands in it now
pub part_back : (o w p : List ℕ) (a k : ℕ) → a + length w ≤ length o → Wrote 0 w (take (length o - a) (drop a o)) p k → (r : ℕ) → r ≡ a + k
    → Wrote a w o (take a o ++ (p ++ drop (length o - a) (drop a o))) r
part_back o w p a k h y r e =
    let l : length (drop a o) ≤ length o - a = simp length-drop (omega arith) in
    let z : drop (length o - a) (drop a o) ≡ [] = drop_of_length-le (drop a o) l in
    let n : 0 + length w ≡ length w = omega arith in
    record {
      space = rw (z, append-nil p, y.space, take_all (length o - a) (drop a o) l, n, drop-drop (length w) a o);
      next = omega (arith, y.next);
    }
