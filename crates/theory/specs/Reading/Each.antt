-- A reader for each member of a list, of whom some are read: what is still to be read gives the whole.
use Rattle.std.specs.Prelude.{ℕ, ◌+◌, ◌≤◌, ◌≡◌, refl, List, [], ◌∷◌, ◌++◌, drop}
use Rattle.std.proofs.Common.{sym, ◌∙◌, append-nil, arith, drop_of_length-le}
use Rattle.std.proofs.Math.Path.{ap}
use Rattle.std.proofs.Math.ListN.{length, length-drop, length-append}
use Rattle.std.proofs.Math.Seq.{drop-drop, append_snoc}
use Rattle.meaning.specs.Reading.{Got, got, wrong, Reader, after, each}
use Rattle.theory.specs.Reading.Answered.{behind}

module _ {A : Type 0} where
  -- what was read before, and what is still to be read
  abbrev before : List A → Got (List A) → Got (List A)
  before xs (got ys l t) = got (xs ++ ys) l t
  before xs (wrong k l) = wrong k l

  before_none : (g : Got (List A)) → g ≡ before [] g
  before_none (got ys l t) = refl
  before_none (wrong k l) = refl

  before_more : (xs : List A) (a : A) (g : Got (List A)) → before xs (after g (λ r l s. got (a ∷ r) l s)) ≡ before (xs ++ (a ∷ [])) g
  before_more xs a (got ys l t) = ap (λ r. got r l t) (sym (append_snoc xs a ys))
  before_more xs a (wrong k l) = refl

-- of the reading x of s, the values xs of the first i members of bs are read, up to the line l and the place `at`
pub record Part {A B : Type 0} (r : B → Reader A) (bs : List B) (x : Got (List A)) (s : List ℕ) (l at i : ℕ) (xs : List A) : Type 0 where
  pub many : length xs ≡ i
  pub few : i ≤ length bs
  pub within : at ≤ length s
  pub same : x ≡ before xs (each r (drop i bs) l (drop at s))

pub part_start : {A B : Type 0} (r : B → Reader A) (bs : List B) (s : List ℕ) (l at : ℕ) → at ≤ length s → Part r bs (each r bs l (drop at s)) s l at 0 []
part_start r bs s l at h = record { many = refl; few = omega arith; within = h; same = before_none _ }

module _ {A B : Type 0} {r : B → Reader A} {bs : List B} {x : Got (List A)} {s : List ℕ} {l at i : ℕ} {xs : List A} (part : Part r bs x s l at i xs) where
  -- no member is left
  pub part_end : length bs ≤ i → x ≡ got xs l (drop at s)
  unfolding each
  part_end h = part.same ∙ rw (drop_of_length-le bs h) (ap (λ y. got y l (drop at s)) (append-nil xs))

  -- the next member, on the rest t
  module _ (b : B) (next : drop i bs ≡ b ∷ drop (i + 1) bs) (t : List ℕ) (rest : t ≡ drop at s) where
    pub part_off : (k m : ℕ) → r b l t ≡ wrong k m → x ≡ wrong k m
    unfolding each
    part_off k m e = part.same ∙ rw (next, ← rest, e)

    pub part_on : (a : A) (n at' i' l' : ℕ) → n ≤ length t → r b l t ≡ got a l' (drop n t) → at' ≡ at + n → i' ≡ i + 1
        → Part r bs x s l' at' i' (xs ++ (a ∷ []))
    unfolding each
    part_on a n at' i' l' h e z y = record {
      many = rw (y, length-append xs (a ∷ [])) (omega (arith, part.many));
      few = omega (arith, ap length next, length-drop i bs);
      within = rw z (behind s n at part.within (rw rest at h));
      same = part.same ∙ rw (next, ← rest, e, y, z, rest, drop-drop n at s) (before_more xs a (each r (drop (i + 1) bs) l' (drop (at + n) s)));
    }
