-- A line that a reader tells is never further on than the bytes that it may have passed: lines are few where bytes are.
use Rattle.std.specs.Prelude.{ℕ, suc, ◌+◌, ◌≤◌, Bool, true, false, cond, List, [], ◌∷◌, length, drop}
use Rattle.std.proofs.Common.{arith, length-drop}
use Rattle.meaning.specs.Text.{text, begins, run}
use Rattle.meaning.specs.Reading.{Got, got, wrong, Reader, after, demand, not_ended, stands, due, longest, line_end, paper_end}
use Rattle.theory.specs.Reading.Built.{Built, give_built, refuse_built, choose_built, bind_built, not_ended_built, paper_end_built, stands_built, longest_built, line_end_built}

-- within n lines and bytes: the line come to and the bytes left, or the line told
abbrev pub Within : {A : Type 0} → ℕ → Got A → Type 0
Within n (got a k t) = k + length t ≤ n
Within n (wrong m k) = k ≤ n

within_bind : {A B : Type 0} (n : ℕ) (x : Got A) (f : A → Reader B) → Within n x → ((a : A) (l : ℕ) (s : List ℕ) → l + length s ≤ n → Within n (f a l s))
    → Within n (after x f)
within_bind n (got a l s) f h g = g a l s h
within_bind n (wrong m l) f h g = h

dropped : (n l k : ℕ) (s : List ℕ) → l + length s ≤ n → l + length (drop k s) ≤ n
dropped n l k s h = omega (arith, length-drop k s)

line_within : (n m l : ℕ) (s : List ℕ) → l + length s ≤ n → Within n (line_end m l s)
unfolding line_end due not_ended stands
line_within n m l [] h = omega arith
line_within n m l (x ∷ s) h = go (begins (text "\n") (x ∷ s))
  where
    go : (b : Bool) → Within n (after (after (cond b (got true l s) (got false l (x ∷ s))) (λ b. demand m b)) (λ u k t. got u (suc k) t))
    go true = omega arith
    go false = omega arith

-- of every reader that is built from the pieces
pub built_within : {A : Type 0} {r : Reader A} → Built r → (n l : ℕ) (s : List ℕ) → l + length s ≤ n → Within n (r l s)
unfolding not_ended paper_end stands longest
built_within give_built n l s h = h
built_within (refuse_built f) n l s h = omega arith
built_within (choose_built true f g) n l s h = built_within f n l s h
built_within (choose_built false f g) n l s h = built_within g n l s h
built_within (bind_built {r = r} {f = f} b g) n l s h = within_bind n (r l s) f (built_within b n l s h) (λ a k t i. built_within (g a) n k t i)
built_within not_ended_built n l [] h = omega arith
built_within not_ended_built n l (x ∷ s) h = h
built_within paper_end_built n l [] h = h
built_within paper_end_built n l (x ∷ s) h = omega arith
built_within (stands_built w) n l s h = go (begins w s)
  where
    go : (b : Bool) → Within n (cond b (got true l (drop (length w) s)) (got false l s))
    go true = dropped n l (length w) s h
    go false = h
built_within (longest_built p) n l s h = dropped n l (run p s) s h
built_within (line_end_built {n = m} f) n l s h = line_within n m l s h
