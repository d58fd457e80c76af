-- For callers: what the answer for a part of a condition tells of it, whatever the part is and whatever the line.
use Prim.Native.Nat.{ℕ, ◌+◌, ◌-◌, ◌≤◌}
use mathlib.Core.Path.{◌≡◌, refl, sym, ◌∙◌}
use mathlib.Core.List.{List}
use lib.ListN.{length, take, drop, replicate}
use lib.Seq.{drop-drop, take_at, length-take-le}
use Rattle.std.specs.Prelude.{Result, Ok, Err}
use Rattle.meaning.specs.Reading.{Got, got, wrong, Reader}
use Rattle.meaning.specs.Condition.{Leaf}
use Rattle.theory.specs.Reading.Told.{took}
use Rattle.theory.specs.Reading.Answered.{behind, Ends}
use Rattle.theory.specs.Reading.Piece.{as_piece, Refuses, piece_took, piece_refuses}
use Rattle.reply.specs.declared.Fault.{Fault}
use Rattle.reply.specs.Faults.{fault_of}
use Rattle.cond_item.specs.declared.Place.{Place}
use Rattle.cond_item.specs.Answers.{place_at, as_place, cleared, stored_by, Stored, Within, further}

module _ {A : Type 0} (ws : A → List ℕ) (ls : A → List Leaf) where
  -- the part for which a place stands
  pub record Placed (to : ℕ → ℕ) (P : A → ℕ → Type 0) (r : Reader A) (s : List ℕ) (top leaves : ℕ) (p : Place) : Type 0 where
    pub value : A
    pub holds : P value p.bytes
    pub within : p.bytes ≤ length s
    pub reads : (l : ℕ) → r l s ≡ got value (to l) (drop p.bytes s)
    pub top_is : p.top ≡ top + length (ws value)
    pub leaves_is : p.leaves ≡ leaves + length (ls value)

  module _ {to : ℕ → ℕ} {P : A → ℕ → Type 0} {r : Reader A} {s : List ℕ} (ends : Ends to P r s) (top leaves : ℕ) (c : Result Place Fault)
      (is : c ≡ as_place ws ls s top leaves (r 0 s)) where
    pub placed : (p : Place) → c ≡ Ok p → Placed to P r s top leaves p
    placed p e =
        let f = piece_took (place_at ws ls top leaves) fault_of ends c is p e in
        rw f.same (record { value = f.value; holds = f.holds; within = f.within; reads = f.reads; top_is = refl; leaves_is = refl })

    pub unplaced : (e : Fault) → c ≡ Err e → Refuses fault_of r s e
    unplaced e z = piece_refuses (place_at ws ls top leaves) fault_of ends c is e z

  -- a part that was read behind the first n bytes of s: it lies in s, and further back it is told so
  module _ {to : ℕ → ℕ} {P : A → ℕ → Type 0} {r : Reader A} (n : ℕ) (s v : List ℕ) (at : v ≡ drop n s) (h : n ≤ length s) (ends : Ends to P r v)
      (top leaves : ℕ) (c : Result Place Fault) (is : c ≡ as_place ws ls v top leaves (r 0 v)) where
    pub place_within : Within s n c
    place_within = go ends
      where
        go : Ends to P r v → Within s n c
        go (Ends.found a m p w e) = rw (is, e 0, took v m w) (behind s m n h (rw at at w))
        go (Ends.faulty k e) = rw (is, e 0) tt

    pub place_further : further n c ≡ as_place ws ls s top leaves (r 0 v)
    place_further = go ends
      where
        go : Ends to P r v → further n c ≡ as_place ws ls s top leaves (r 0 v)
        go (Ends.found a m p w e) = rw (is, e 0, took v m w, at, drop-drop m n s, took s (n + m) (behind s m n h (rw at at w)))
        go (Ends.faulty k e) = rw (is, e 0)

-- words that stay when those from `top` on are cleared
pub cleared_below : (was : List ℕ) (top : ℕ) → top ≤ length was → take top (cleared was top) ≡ take top was
cleared_below was top h = take_at (take top was) (replicate (length was - top) 0) top (length-take-le top was h)

-- the lent words, by the answer r: where a part was read they are its own, where it is refused they are cleared
module _ {A B E : Type 0} (good : A → ℕ → B) (bad : ℕ → E) (ws : A → List ℕ) (s was is : List ℕ) (top : ℕ) (g : Got A) (r : Result B E)
    (told : r ≡ as_piece good bad s g) (h : Stored ws was is top g) where
  pub stored_read : (b : B) → r ≡ Ok b → is ≡ stored_by ws was top g
  stored_read b e = go g (sym e ∙ told) h
    where
      go : (g : Got A) → ◌≡◌ {A = Result B E} (Ok b) (as_piece good bad s g) → Stored ws was is top g → is ≡ stored_by ws was top g
      go (got a l t) q h = h
      go (wrong k l) q h = cc

  pub stored_cleared : (e : E) → r ≡ Err e → length is ≡ length was → (end : List ℕ) → end ≡ cleared is top → end ≡ stored_by ws was top g
  stored_cleared e z long end q = go g (sym z ∙ told) h
    where
      go : (g : Got A) → ◌≡◌ {A = Result B E} (Err e) (as_piece good bad s g) → Stored ws was is top g → end ≡ stored_by ws was top g
      go (got a l t) y h = cc
      go (wrong n l) y h = q ∙ rw (h, long)
