-- What callers use: of what `verdict` answers for the words of a condition that fits.
use Prim.Native.Nat.{ℕ, ◌<◌}
use mathlib.Core.Path.{◌≡◌, ap, ◌∙◌}
use mathlib.Core.List.{List}
use lib.Dec.{eqb}
use Rattle.meaning.specs.Limits.{field_limit, status_limit}
use Rattle.meaning.specs.Kleene.{Kleene, true₃, false₃, unknown, is_true}
use Rattle.meaning.specs.Number.{Value}
use Rattle.meaning.specs.Condition.{Leaf, compared, Cond, value_l, value_c}
use Rattle.theory.specs.Papers.Conditions.{LeafIn}
use Rattle.theory.specs.Step.Values.{value_same}
use Rattle.cond_value.specs.Flat.{words}
use Rattle.marks.specs.Codes.{code, status_in, field_in}
use Rattle.cond_value.specs.Machine.{verdict_of}
use Rattle.cond_value.specs.Fits.{Fits}
use Rattle.cond_value.proofs.Value.{verdict_fits}

-- a condition is true where 2 is answered
pub verdict_true : (k : Kleene) (r : ℕ) → r ≡ code k → is_true k ≡ eqb r 2
verdict_true true₃ r e = rw e
verdict_true false₃ r e = rw e
verdict_true unknown r e = rw e

-- over any statuses and fields that the arrays stand for
module _ (values marks : List ℕ) (st : ℕ → Kleene) (fd : ℕ → Value) (hs : (x : ℕ) → x < status_limit → status_in marks x ≡ st x)
    (hf : (f : ℕ) → f < field_limit → field_in values f ≡ fd f) where
  leaf_same : (x : Leaf) → LeafIn status_limit field_limit x → value_l (status_in marks) (field_in values) x ≡ value_l st fd x
  unfolding value_l
  leaf_same (Leaf.status x) h = hs x h
  leaf_same (Leaf.compare c) h = ap (compared c) (hf c.field h)

  pub verdict_is : (part : List ℕ) (r : ℕ) (c : Cond) → r ≡ verdict_of values marks part → part ≡ words c → Fits c → r ≡ code (value_c st fd c)
  verdict_is part r c e w h =
      e
      ∙ ap (verdict_of values marks) w
      ∙ verdict_fits values marks c h
      ∙ ap code (value_same (status_in marks) st (field_in values) fd c λ x i. leaf_same x (h.placed x i))
