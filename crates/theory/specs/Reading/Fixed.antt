-- Fixed texts: what is read where the text stands, where another does, and where the paper ended.
use Rattle.std.specs.Prelude.{ℕ, suc, ◌+◌, ◌≡◌, refl, Bool, true, false, List, [], ◌∷◌, length, drop}
use Rattle.std.proofs.Common.{sym, ◌∙◌, arith}
use Rattle.meaning.specs.Text.{text, begins}
use Rattle.meaning.specs.Reading.{Got, got, wrong, Reader, after, not_ended, stands, due, line_end}
use Rattle.theory.specs.Reading.Answered.{Ends, here, told_ends, Left, left_got, left_wrong}
use Rattle.theory.specs.Reading.Built.{not_ended_built}
use Rattle.theory.specs.Reading.Told.{Told, Any, begins_fits, told_give, told_choose, told_bind, told_stands, inline_told, not_ended_none, not_ended_some}

-- a text that may stand here
pub stands_here : (k : List ℕ) (l : ℕ) (t : List ℕ) (b : Bool) → b ≡ begins k t → b ≡ true → stands k l t ≡ got true l (drop (length k) t)
unfolding stands
stands_here k l t b e q = rw (← e, q)

pub stands_not : (k : List ℕ) (l : ℕ) (t : List ℕ) (b : Bool) → b ≡ begins k t → b ≡ false → stands k l t ≡ got false l t
unfolding stands
stands_not k l t b e q = rw (← e, q)

-- a text that is due, from the test
pub due_ended : (n : ℕ) (k : List ℕ) (l : ℕ) (t : List ℕ) → length t ≡ 0 → due n k l t ≡ wrong 2 l
unfolding due
due_ended n k l t h = rw (not_ended_none l t h)

pub due_here : (n : ℕ) (k : List ℕ) (l : ℕ) (t : List ℕ) → (length t ≡ 0 → ⊥) → (b : Bool) → b ≡ begins k t → b ≡ true
    → due n k l t ≡ got tt l (drop (length k) t)
unfolding due
due_here n k l t h b e q = rw (not_ended_some l t h, stands_here k l t b e q)

pub due_not : (n : ℕ) (k : List ℕ) (l : ℕ) (t : List ℕ) → (length t ≡ 0 → ⊥) → (b : Bool) → b ≡ begins k t → b ≡ false → due n k l t ≡ wrong n l
unfolding due
due_not n k l t h b e q = rw (not_ended_some l t h, stands_not k l t b e q)

-- where the refusal is 2 there is no telling whether the paper ended
pub due_off : (k : List ℕ) (l : ℕ) (t : List ℕ) (b : Bool) → b ≡ begins k t → b ≡ false → due 2 k l t ≡ wrong 2 l
due_off k l [] b e q = due_ended 2 k l [] refl
due_off k l (x ∷ t) b e q = due_not 2 k l (x ∷ t) (λ h. omega arith) b e q

-- a text that is due takes its bytes, or is refused
pub due_ends : (n : ℕ) (k t : List ℕ) → Ends here (λ u m. Any u) (due n k) t
unfolding due
due_ends n k t = told_ends (told_bind Any Any not_ended _ t (inline_told not_ended_built t) λ _ u _.
    told_bind Any Any (stands k) _ u (told_stands k u) λ b s _.
    told_choose Any b _ _ s (λ _. told_give Any tt s tt) (λ _. Told.faulty n (λ l. refl)))

-- the end of a line, from the test
module _ (n l : ℕ) (t : List ℕ) where
  pub line_end_here : (b : Bool) → b ≡ begins (text "\n") t → b ≡ true → line_end n l t ≡ got tt (suc l) (drop 1 t)
  unfolding line_end
  line_end_here b e q = rw (due_here n (text "\n") l t (λ h. omega (arith, begins_fits (text "\n") t (sym e ∙ q))) b e q)

pub line_end_off : (l : ℕ) (t : List ℕ) (b : Bool) → b ≡ begins (text "\n") t → b ≡ false → line_end 2 l t ≡ wrong 2 l
unfolding line_end
line_end_off l t b e q = rw (due_off (text "\n") l t b e q)

-- and what is left there
module _ {A : Type 0} {x : Got A} (k : Reader A) {l at : ℕ} {s : List ℕ} (left : Left x (λ l s. after (line_end 2 l s) (λ u. k)) l at s) where
  pub left_open : begins (text "\n") (drop at s) ≡ false → x ≡ wrong 2 l
  left_open e = left_wrong (line_end 2) (λ u. k) left 2 (line_end_off l (drop at s) (begins (text "\n") (drop at s)) refl e)

  pub left_closed : begins (text "\n") (drop at s) ≡ true → Left x k (suc l) (at + 1) s
  left_closed e =
      left_got (line_end 2) (λ u. k) left tt (suc l) 1 (begins_fits (text "\n") (drop at s) e)
      (line_end_here 2 l (drop at s) (begins (text "\n") (drop at s)) refl e)
