-- What the readers of parts may find, and what an answer says of what was read.
use Prim.Native.Nat.{ℕ, suc, ◌+◌, ◌*◌, ◌≤◌}
use mathlib.Core.Path.{◌≡◌}
use mathlib.Core.Bool.{Bool, false}
use mathlib.Core.List.{List}
use native.Mathlib.Omega.{arith}
use lib.ListN.{length, take, drop}
use lib.Seq.{sets}
use Rattle.std.specs.Prelude.{Result, Ok, Err}
use Rattle.meaning.specs.Limits.{leaf_limit}
use Rattle.meaning.specs.Reading.{got, wrong}
use Rattle.meaning.specs.Name.{Name}
use Rattle.theory.specs.Reading.Told.{Told, took, told_weaker}
use Rattle.theory.specs.Reading.Answered.{told_ends}
use Rattle.theory.specs.Reading.Piece.{Refuses}
use Rattle.theory.specs.Papers.Conditions.{told_item, told_and, told_cond}
use Rattle.reply.specs.declared.Fault.{Fault}
use Rattle.reply.specs.Faults.{fault_of}
use Rattle.cond_value.proofs.Size.{length_c, length_a, length_i}
use Rattle.cond_read.specs.Parts.{Kind, items, and_lists, conditions, Gives}
use Rattle.cond_item.specs.declared.Place.{Place}
use Rattle.cond_item.proofs.Callers.{placed, unplaced}

-- a part behind l leaves
pub record Part (K : Kind) (l : ℕ) (t : K.T) : Type 0 where
  pub some : 1 ≤ length (K.leaves t)
  pub few : l + length (K.leaves t) ≤ leaf_limit
  pub count : length (K.words t) + 1 ≡ 2 * length (K.leaves t)

abbrev pub Tells : Kind → Type 0
Tells K = (l : ℕ) (s : List ℕ) → Told (Part K l) (K.read l) s

module _ (st fd : List Name) (neg : Bool) (d : ℕ) where
  pub items_tell : Tells (items st fd neg d)
  unfolding items
  items_tell l s = told_weaker (λ i h. record { some = h.some; few = h.few; count = length_i neg i }) (told_item st fd d l s)

  pub ands_tell : Tells (and_lists st fd neg d)
  unfolding and_lists
  ands_tell l s = told_weaker (λ a h. record { some = h.some; few = h.few; count = let z = length_a neg false a in omega arith })
      (told_and st fd d l s (suc leaf_limit))

  pub conditions_tell : Tells (conditions st fd neg d)
  unfolding conditions
  conditions_tell l s =
      told_weaker (λ c h. record { some = h.some; few = h.few; count = let z = length_c neg false c in omega arith }) (told_cond st fd d l s (suc leaf_limit))

-- what an answer says, whatever the line
pub record Found (K : Kind) (s : List ℕ) (top leaves : ℕ) (q : Place) (was is : List ℕ) : Type 0 where
  pub value : K.T
  pub holds : Part K leaves value
  pub reads : (l : ℕ) → K.read leaves l s ≡ got value l (drop q.bytes s)
  pub within : q.bytes ≤ length s
  pub words : q.top ≡ top + length (K.words value)
  pub counts : q.leaves ≡ leaves + length (K.leaves value)
  pub space : is ≡ sets was top (K.words value)

module _ (K : Kind) (s : List ℕ) (top leaves : ℕ) (was is : List ℕ) where
  module _ (tells : Tells K) (r : Result Place Fault) (g : Gives K s top leaves r was is) where
    pub given_found : (q : Place) → r ≡ Ok q → Found K s top leaves q was is
    given_found q z =
        let f = placed K.words K.leaves (told_ends (tells leaves s)) top leaves r g.answer q z in
        record {
          value = f.value;
          holds = f.holds;
          reads = f.reads;
          within = f.within;
          words = f.top_is;
          counts = f.leaves_is;
          space = rw (f.reads 0) at g.space;
        }

    pub given_refused : (e : Fault) → r ≡ Err e → Refuses fault_of (K.read leaves) s e × (take top is ≡ take top was)
    given_refused e z =
        let h = unplaced K.words K.leaves (told_ends (tells leaves s)) top leaves r g.answer e z in
        (h, rw (h.reads 0) at g.space)

  -- from what was read to the answer
  pub gives_found : (t : K.T) (n : ℕ) → n ≤ length s → K.read leaves 0 s ≡ got t 0 (drop n s) → (q : Place) → q.bytes ≡ n
      → q.top ≡ top + length (K.words t) → q.leaves ≡ leaves + length (K.leaves t)
      → is ≡ sets was top (K.words t) → Gives K s top leaves (Ok q) was is
  gives_found t n m e q e1 e2 e3 h = record { answer = rw (e, took s n m, ← e1, ← e2, ← e3); space = rw e h }

  pub gives_refused : (k : ℕ) (e : Fault) → e ≡ fault_of k → K.read leaves 0 s ≡ wrong k 0 → take top is ≡ take top was → Gives K s top leaves (Err e) was is
  gives_refused k e z f h = record { answer = rw (f, z); space = rw f h }
