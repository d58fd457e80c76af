-- Marks stand for statuses, codes for values: what is read of them.
use Prim.Native.Nat.{ℕ}
use mathlib.Core.Path.{◌≡◌, refl, ap, ◌∙◌}
use mathlib.Core.Bool.{Bool, true, false}
use mathlib.Core.List.{List, [], ◌∷◌, map}
use lib.Dec.{eqb}
use lib.ListN.{get_or, get_or-map}
use Rattle.meaning.specs.Limits.{field_limit, status_limit}
use Rattle.meaning.specs.Kleene.{Kleene, true₃, false₃, unknown, known₃}
use Rattle.meaning.specs.Number.{Value, missing, number_at}
use Rattle.meaning.specs.Card.{is}
use Rattle.theory.specs.Lists.Padded.{padded_at}
use Rattle.marks.specs.Codes.{code, mark_of, mark_code, is_yes, yes_at, marked, side_of, status_in, coded, value_of, valued, field_in}

-- CODES AND BACK
pub code_yes : (b : Bool) → is_yes (mark_code b) ≡ b
code_yes true = refl
code_yes false = refl

pub code_mark : (k : Kleene) → mark_of (code k) ≡ k
code_mark true₃ = refl
code_mark false₃ = refl
code_mark unknown = refl

pub value_coded : (v : Value) → value_of (coded v) ≡ v
value_coded missing = refl
value_coded (number_at v) = refl

-- THE MARKS OF STATUSES
module _ (bs : List Bool) (x : ℕ) where
  -- the mark of one
  pub mark_at_lem : get_or (marked bs) x 0 ≡ mark_code (is bs x)
  unfolding marked
  mark_at_lem = padded_at status_limit 0 (map mark_code bs) x ∙ get_or-map mark_code bs x false

  -- it is yes
  pub mark_yes : yes_at (marked bs) x ≡ is bs x
  mark_yes = ap is_yes mark_at_lem ∙ code_yes (is bs x)

  -- as a condition reads it
  pub mark_known : status_in (marked bs) x ≡ known₃ (is bs x)
  mark_known = ap mark_of mark_at_lem ∙ code_mark (known₃ (is bs x))

-- one is yes, by the mark that was read
pub yes_is : (marks : List ℕ) (x m : ℕ) → m ≡ get_or marks x 0 → eqb m 2 ≡ yes_at marks x
yes_is marks x m e = ap (λ n. eqb n 2) e

-- the statuses are told again
pub side_again : (bs : List Bool) → side_of (map mark_code bs) ≡ bs
unfolding side_of
side_again [] = refl
side_again (b ∷ bs) = rw (code_yes b, side_again bs)

-- THE VALUES OF FIELDS
pub value_at : (vs : List Value) (f : ℕ) → field_in (valued vs) f ≡ get_or vs f missing
unfolding valued
value_at vs f = ap value_of (padded_at field_limit 0 (map coded vs) f ∙ get_or-map coded vs f missing) ∙ value_coded (get_or vs f missing)
