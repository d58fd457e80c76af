-- Names: whatever is read as a name is a good one, a good one is read back, known names have their places, and new ones differ.
use Prim.Native.Nat.{ℕ, suc, ◌≤◌, ◌<◌}
use Rattle.std.proofs.Math.Path.{◌≡◌, refl, ap}
use Rattle.std.proofs.Common.{sym, ◌∙◌, ap₂, subst, true≢false, inl, inr, arith, leb-true, eqb-true, eq-eqb}
use Rattle.std.specs.Prelude.{Bool, not, ◌&&◌, ◌||◌, take, leb, eqb}
use Rattle.std.proofs.Math.Bool.{true, false}
use Rattle.std.proofs.lemmas.Bool.{false≢true, not-true}
use mathlib.Core.List.{List, [], ◌∷◌, ◌++◌}
use Rattle.std.proofs.Math.Option.{Option, none, some, none-ne-some, some-injective}
use Rattle.std.proofs.Math.ListN.{length}
use Rattle.std.proofs.Math.Seq.{take-append_seam, drop-append_seam}
use Rattle.meaning.specs.Text.{In, run, same, find, later, among}
use Rattle.meaning.specs.Refusal.{NAME}
use Rattle.meaning.specs.Limits.{name_bytes}
use Rattle.meaning.specs.Reading.{got, not_ended, longest}
use Rattle.meaning.specs.Name.{Name, letter, name_byte, reserved, good_name, name, new_name, due_name, placed, known}
use Rattle.theory.specs.Reading.Readers.{Ensures, got_yields, give_ensures, refuse_ensures, demand_ensures, bind_ensures, any_ensures}

-- RUNS OF BYTES THAT PASS A TEST

module _ (p : ℕ → Bool) where
  -- a byte that passes makes the run longer by one, another ends it
  pub run_more : (x : ℕ) (s : List ℕ) → p x ≡ true → run p (x ∷ s) ≡ suc (run p s)
  unfolding run
  run_more x s e = rw (e, run)

  pub run_halt : (x : ℕ) (s : List ℕ) → p x ≡ false → run p (x ∷ s) ≡ 0
  unfolding run
  run_halt x s e = rw (e, run)

  -- the first byte of a run that goes to the end, and the rest of it
  pub run_first : (x : ℕ) (s : List ℕ) → run p (x ∷ s) ≡ suc (length s) → (p x ≡ true) × (run p s ≡ length s)
  unfolding run
  run_first x s = go (p x)
    where
      go : (b : Bool) → elim b [ true ↦ suc (run p s) | false ↦ 0 ] ≡ suc (length s) → (b ≡ true) × (run p s ≡ length s)
      go true e = (refl, omega arith)
      go false e = absurd (omega arith)

  -- the longest run passes throughout
  pub run_taken : (s : List ℕ) → run p (take (run p s) s) ≡ length (take (run p s) s)
  unfolding run
  run_taken [] = refl
  run_taken (x ∷ s) = go (p x) refl (run_taken s)
    where
      go : (b : Bool) → p x ≡ b → run p (take (run p s) s) ≡ length (take (run p s) s)
          → run p (take (elim b [ true ↦ suc (run p s) | false ↦ 0 ]) (x ∷ s)) ≡ length {A = ℕ} (take (elim b [ true ↦ suc (run p s) | false ↦ 0 ]) (x ∷ s))
      go true e ih = rw e (ap suc ih)
      go false e ih = refl

  -- a text that passes throughout is the longest run where none follows
  pub run_stops : (w t : List ℕ) → run p w ≡ length w → run p t ≡ 0 → run p (w ++ t) ≡ length w
  unfolding run
  run_stops [] t h g = g
  run_stops (x ∷ w) t h g = go (p x) h (λ k. run_stops w t k g)
    where
      go : (b : Bool) → ◌≡◌ {A = ℕ} (elim b [ true ↦ suc (run p w) | false ↦ 0 ]) (suc (length w)) → (run p w ≡ length w → run p (w ++ t) ≡ length w)
          → ◌≡◌ {A = ℕ} (elim b [ true ↦ suc (run p (w ++ t)) | false ↦ 0 ]) (suc (length w))
      go true h ih = ap suc (ih (omega arith))
      go false h ih = h

  -- whatever is read as the longest run passes throughout
  pub longest_full : Ensures (longest p) (λ w. run p w ≡ length w)
  unfolding longest
  longest_full = record { gives = λ l s. got_yields (run_taken s) }

  -- a text that passes throughout is read back where none follows
  pub longest_again : (w t : List ℕ) (l : ℕ) → run p w ≡ length w → run p t ≡ 0 → longest p l (w ++ t) ≡ got w l t
  unfolding longest
  longest_again w t l h g = rw (run_stops w t h g, take-append_seam w t, drop-append_seam w t)

-- GOOD NAMES

-- good by the rules
abbrev pub Good : Name → Type 0
Good w = good_name w ≡ true

-- the parts of the rule for the name with the first byte x
module _ (x : ℕ) (w : Name) (h : Good (x ∷ w)) where
  parts : (a b c d : Bool) → a && b && c && d ≡ true → (b ≡ true) × (c ≡ true)
  parts true true true d e = (refl, refl)
  parts true true false d e = absurd (false≢true e)
  parts true false c d e = absurd (false≢true e)
  parts false b c d e = absurd (false≢true e)

  good_parts : (eqb (run name_byte (x ∷ w)) (suc (length w)) ≡ true) × (leb (suc (length w)) name_bytes ≡ true)
  unfolding good_name
  good_parts = parts (letter x) (eqb (run name_byte (x ∷ w)) (suc (length w))) (leb (suc (length w)) name_bytes) (not (among (x ∷ w) reserved)) h

-- a good name is within its limit
pub good_short : (w : Name) → Good w → length w ≤ name_bytes
unfolding good_name
good_short [] h = absurd (false≢true h)
good_short (x ∷ w) h = leb-true (suc (length w)) name_bytes (good_parts x w h).1

-- and letters and digits throughout
pub good_plain : (w : Name) → Good w → run name_byte w ≡ length w
unfolding good_name
good_plain [] h = absurd (false≢true h)
good_plain (x ∷ w) h = eqb-true (run name_byte (x ∷ w)) (suc (length w)) (good_parts x w h).0

-- whatever is read as a name is good
pub name_good : Ensures name Good
unfolding name
name_good =
    any_ensures not_ended λ _.
    any_ensures (longest name_byte) λ w.
    bind_ensures (demand_ensures NAME (good_name w)) λ _ g.
    give_ensures g

-- a good name is read back where no letter or digit follows
pub name_again : (w t : List ℕ) (l : ℕ) → Good w → run name_byte t ≡ 0 → name l (w ++ t) ≡ got w l t
unfolding name not_ended
name_again [] t l h g = absurd (false≢true (unfold good_name in h))
name_again (x ∷ w) t l h g = rw (longest_again name_byte (x ∷ w) t l (good_plain (x ∷ w) h) g, h)

-- THE SAME NAME

-- every text is the same as itself
pub same_self : (w : List ℕ) → same w w ≡ true
unfolding same
same_self [] = refl
same_self (x ∷ w) = rw (eq-eqb x x refl, same) (same_self w)

-- texts that are the same are equal
pub same_equal : (v w : List ℕ) → same v w ≡ true → v ≡ w
unfolding same
same_equal [] [] e = refl
same_equal [] (y ∷ w) e = absurd (false≢true e)
same_equal (x ∷ v) [] e = absurd (false≢true e)
same_equal (x ∷ v) (y ∷ w) e = go (eqb x y) refl e (same_equal v w)
  where
    go : (b : Bool) → eqb x y ≡ b → ◌≡◌ {A = Bool} (elim b [ true ↦ same v w | false ↦ false ]) true → (same v w ≡ true → v ≡ w) → x ∷ v ≡ y ∷ w
    go true q e ih = ap₂ (λ a r. a ∷ r) (eqb-true x y q) (ih e)
    go false q e ih = absurd (false≢true e)

-- the name due is read back
pub due_name_again : (w t : List ℕ) (l : ℕ) → Good w → run name_byte t ≡ 0 → due_name w l (w ++ t) ≡ got tt l t
unfolding due_name
due_name_again w t l h g = rw (name_again w t l h g, same_self w)

-- NEW NAMES AND KNOWN NAMES

-- a name that is not among others is none of them
among_in : (w : Name) (ws : List Name) → among w ws ≡ false → In w ws → ⊥
unfolding among
among_in w [] e m = m
among_in w (v ∷ ws) e m = go (same w v) refl e m (among_in w ws)
  where
    go : (b : Bool) → same w v ≡ b → b || among w ws ≡ false → In w (v ∷ ws) → (among w ws ≡ false → In w ws → ⊥) → ⊥
    go true q e m ih = true≢false e
    go false q e (inl f) ih = false≢true (sym q ∙ subst (λ u. same w u ≡ true) f (same_self w))
    go false q e (inr m) ih = ih e m

-- whatever is read as a new name is good and none of those in use
pub new_name_new : (used : List Name) → Ensures (new_name used) (λ w. Good w × (In w used → ⊥))
unfolding new_name
new_name_new used =
    bind_ensures name_good λ w h.
    bind_ensures (demand_ensures NAME (not (among w used))) λ _ g.
    give_ensures (h, among_in w used (not-true (among w used) g))

-- a known name lies in its table
pub find_below : (w : List ℕ) (ns : List Name) (i : ℕ) → find w ns ≡ some i → i < length ns
unfolding find
find_below w [] i e = absurd (none-ne-some i e)
find_below w (n ∷ ns) i e = go (same w n) e (find_below w ns)
  where
    more : (f : Option ℕ) → find w ns ≡ f → later f ≡ some i → ((j : ℕ) → find w ns ≡ some j → j < length ns) → i < suc (length ns)
    more none q e ih = absurd (none-ne-some i e)
    more (some j) q e ih = let z = some-injective (suc j) i e in let y = ih j q in omega arith

    go : (b : Bool) → ◌≡◌ {A = Option ℕ} (elim b [ true ↦ some 0 | false ↦ later (find w ns) ]) (some i) → ((j : ℕ) → find w ns ≡ some j → j < length ns)
        → i < suc (length ns)
    go true e ih = let z = some-injective 0 i e in omega arith
    go false e ih = more (find w ns) refl e ih

-- whatever is read as a known name is a place in the table
pub known_below : (ns : List Name) → Ensures (known ns) (λ i. i < length ns)
unfolding known
known_below ns = any_ensures name λ w. go w (find w ns) refl
  where
    go : (w : Name) (f : Option ℕ) → find w ns ≡ f → Ensures (placed f) (λ i. i < length ns)
    go w none q = refuse_ensures
    go w (some i) q = give_ensures (find_below w ns i q)
