-- From one section to the next: what the answers tell of all that was read so far, which each section goes on from.
use Prim.Native.Nat.{ℕ, ◌+◌, ◌-◌, ◌≤◌}
use mathlib.Core.Path.{◌≡◌, refl, sym, ◌∙◌}
use mathlib.Core.Bool.{Bool, true, false}
use mathlib.Core.List.{List}
use native.Mathlib.Omega.{arith}
use lib.ListN.{length, drop, length-drop}
use Rattle.std.specs.Prelude.{Result}
use Rattle.meaning.specs.Text.{text, begins}
use Rattle.meaning.specs.Refusal.{LINE}
use Rattle.meaning.specs.Reading.{Got, got, wrong, Reader, after, ◌>>=◌, ◌>>◌, give, due, line_end}
use Rattle.meaning.specs.Name.{name}
use Rattle.meaning.specs.Sheet as M
use Rattle.meaning.specs.Sheet.{headed}
use Rattle.meaning.specs.ReadSheet.{model_line}
use Rattle.theory.specs.Reading.Built.{Built, give_built, bind_built, line_end_built, line_fault, name_built}
use Rattle.theory.specs.Reading.Fixed.{due_here, due_off}
use Rattle.theory.specs.Reading.Told.{begins_fits}
use Rattle.theory.specs.Reading.Faults.{Faulty, built_faulty}
use Rattle.theory.specs.Reading.Lines.{Within, built_within}
use Rattle.theory.specs.Reading.Readers.{Yields, Ensures}
use Rattle.theory.specs.Reading.Suffix.{Leaves, built_leaves, end_is}
use Rattle.theory.specs.Papers.Formed.{WellHeads}
use Rattle.reply.specs.declared.Wrong.{Wrong}
use Rattle.reply.proofs.Faults.{number_again}
use Rattle.sheet_tables.proofs.Tables.{heads_again}
use Rattle.sheet_section.specs.declared.Above.{Above}
use Rattle.sheet_section.specs.Answers.{as_above, so_far}
use Rattle.sheet_section.specs.Held.{Started}

-- each line took a byte at least, and the model's line one more
abbrev pub Spread : List ℕ → Reader M.Heads → Type 0
Spread s R = (hd : M.Heads) (l : ℕ) (t : List ℕ) → R 1 s ≡ got hd l t → l + length t ≤ length s

within_got : (n : ℕ) (x : Got M.Heads) → Within n x → (hd : M.Heads) (l : ℕ) (t : List ℕ) → x ≡ got hd l t → l + length t ≤ n
within_got n x w hd l t e = rw e at w

pub model_spread : (s : List ℕ) → Spread s model_line
unfolding model_line
model_spread s hd l t e = go (begins (text "model=") s) refl
  where
    behind : Reader M.Heads
    behind = name >>= λ m. line_end LINE >> give (headed m)

    behind_built : Built behind
    behind_built = bind_built name_built λ m. bind_built (line_end_built line_fault) λ _. give_built

    go : (b : Bool) → begins (text "model=") s ≡ b → l + length t ≤ length s
    go true b =
        let long = begins_fits (text "model=") s b in
        let key : due LINE (text "model=") 1 s ≡ got tt 1 (drop 6 s) = due_here LINE (text "model=") 1 s (λ z. omega arith) true (sym b) refl in
        let read : behind 1 (drop 6 s) ≡ got hd l t = rw key at e in
        omega (
          arith,
          within_got (1 + length (drop 6 s)) (behind 1 (drop 6 s))
              (built_within behind_built (1 + length (drop 6 s)) 1 (drop 6 s) (omega arith)) hd l t read,
          length-drop 6 s,
        )
    go false b =
        let other = due_off (text "model=") 1 s false (sym b) refl in
        let clash : wrong LINE 1 ≡ got hd l t = rw other at e in
        let z : ◌≡◌ {A = ℕ} 0 1 = cc in
        absurd (omega arith)

pub on_spread : (R : Reader M.Heads) (f : M.Heads → Reader M.Heads) → ((hd : M.Heads) → Built (f hd)) → (s : List ℕ) → Spread s R → Spread s (R >>= f)
on_spread R f built s spread hd l t e = go (R 1 s) refl e
  where
    go : (y : Got M.Heads) → R 1 s ≡ y → after y f ≡ got hd l t → l + length t ≤ length s
    go (got g k u) z q = within_got (length s) (f g k u) (built_within (built g) (length s) k u (spread g k u z)) hd l t q
    go (wrong n k) z q =
        let z : ◌≡◌ {A = ℕ} 0 1 = cc in
        absurd (omega arith)

module _ (s : List ℕ) {Q : M.Heads → Type 0} {R : Reader M.Heads} (built : Built R) (good : Ensures R (λ hd. WellHeads hd × Q hd)) (spread : Spread s R)
    (r : Result Above Wrong) (is : r ≡ as_above s (R 1 s)) where
  told : (Started Q s r) × (so_far s r ≡ R 1 s)
  told = rw is (go (R 1 s) refl (good.gives 1 s) (built_leaves built 1 s) (built_faulty built 1 s))
    where
      go : (y : Got M.Heads) → R 1 s ≡ y → Yields y (λ hd t. WellHeads hd × Q hd) → Leaves s y → Faulty y
          → (Started Q s (as_above s y)) × (so_far s (as_above s y) ≡ y)
      go (got hd l t) e yields end faulty =
          let w = yields.of hd l t refl in
          let behind : drop (length s - length t) s ≡ t = end_is s t end in (
            record { sheet = hd; late = w.1; well = w.0; heads = refl; within = omega arith; lines = omega (arith, spread hd l t e) },
            rw (heads_again hd w.0, behind),
          )
      go (wrong n l) e yields end faulty = (tt, rw (number_again n (omega (arith, faulty)) (omega (arith, faulty))))

  -- the next section may begin
  pub reached : Started Q s r
  reached = told.0

  -- and what it reads goes on
  pub read_on : (f : M.Heads → Reader M.Heads) (v : Result Above Wrong) → v ≡ as_above s (after (so_far s r) f) → v ≡ as_above s ((R >>= f) 1 s)
  read_on f v e = e ∙ rw told.1
