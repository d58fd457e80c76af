-- What callers use: lists in the front of lent space.
use Prim.Native.Nat.{ℕ, ◌+◌, ◌-◌, ◌≤◌}
use mathlib.Core.Path.{◌≡◌, refl, sym, ◌∙◌, ap}
use mathlib.Core.List.{List, [], ◌++◌, append_assoc, append-nil}
use native.Mathlib.Omega.{arith}
use lib.ListN.{length, take, drop, length-append, length-drop, take-append-drop}
use lib.Seq.{take_all, drop-length, length-take-le, take_at, drop_at, drop-drop}
use borrow.Rule.Slice.PartMut.{put_mid, Post-is}
use Rattle.sets.specs.Front.{Front}

-- no list yet, and the list that stands there
pub front_none : (b : List ℕ) → Front [] 0 b b
front_none b = record { count = refl; list = refl }

pub front_same : (b : List ℕ) (n : ℕ) → n ≤ length b → Front (take n b) n b b
front_same b n h = record { count = sym (length-take-le n b h); list = sym (take-append-drop n b) }

-- the list is found again, the space behind it and its length have not changed
module _ {l b a : List ℕ} {n : ℕ} (f : Front l n b a) where
  pub front_take : take n a ≡ l
  front_take = rw f.list (take_at l (drop n b) n (sym f.count))

  pub front_drop : drop n a ≡ drop n b
  front_drop = rw f.list (drop_at l (drop n b) n (sym f.count))

  pub front_length : n ≤ length b → length a ≡ length b
  front_length h = rw f.list (simp (length-append, length-drop) (omega (arith, f.count)))

  -- a longer list over it
  pub front_more : {m c : List ℕ} {k : ℕ} → n ≤ k → Front m k a c → Front m k b c
  front_more {m} {c} {k} h g =
      let e : n + (k - n) ≡ k = omega arith in
      let same : drop k a ≡ drop k b = rw (← e, ← drop-drop (k - n) n a, ← drop-drop (k - n) n b) (ap (drop (k - n)) front_drop) in
      record { count = g.count; list = g.list ∙ ap (λ t. m ++ t) same }

-- a list in the front of a part that runs to the end, `&mut xs[a..]`, once the part is back
pub front_tail : {l xs ys : List ℕ} {a m : ℕ} → a ≤ length xs → Front l m (take (length xs - a) (drop a xs)) ys
    → Front (take a xs ++ l) (a + m) xs (put_mid a (length xs - a) xs ys)
front_tail {l} {xs} {ys} {a} {m} h f = record {
  count = rw (length-append, length-take-le a xs h) (ap (λ n. a + n) f.count);
  list = back ∙ ap (λ t. take a xs ++ t) (f.list ∙ ap (λ t. l ++ drop m t) part ∙ ap (λ t. l ++ t) (drop-drop m a xs))
      ∙ sym (append_assoc (take a xs) l (drop (a + m) xs));
}
  where
    part : take (length xs - a) (drop a xs) ≡ drop a xs
    part = take_all (length xs - a) (drop a xs) (rw length-drop (omega arith))

    back : put_mid a (length xs - a) xs ys ≡ take a xs ++ ys
    back = ap (λ t. take a xs ++ (ys ++ t)) (Post-is a (length xs) xs h ∙ drop-length xs) ∙ ap (λ t. take a xs ++ t) (append-nil ys)
