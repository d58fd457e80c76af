-- Counts in the line `end=`: a count below 100 is read back as it is written, and whatever is read as that count is so written.
use Rattle.std.specs.Prelude.{ℕ, zero, suc, ◌+◌, ◌-◌, ◌*◌, ◌/◌, ◌%◌, ◌≤◌, ◌<◌, ◌≡◌, refl, Bool, true, false, cond, List, [], ◌∷◌, ◌++◌, length, eqb, ltb}
use Rattle.std.proofs.Common.{sym, ◌∙◌, ap, ap₂, append-nil, arith, length-append, le-leb, eqb-true, eq-eqb, ne_eqb, lt-ltb, le-ltb}
use Rattle.std.proofs.Math.Option.{Option, none, some, none-ne-some, some-injective}
use Rattle.std.proofs.Math.Decide.{dec_lt}
use Rattle.std.proofs.lemmas.Bool.{eqb-false}
use Rattle.meaning.specs.Text.{text, run, begins}
use Rattle.meaning.specs.Refusal.{LINE}
use Rattle.meaning.specs.Reading.{got, not_ended, stands, due, line_end, paper_end, closed}
use Rattle.meaning.specs.Name.{digit}
use Rattle.meaning.specs.Limits.{middle}
use Rattle.meaning.specs.Number.{amount, in_range, digits, place, end_line, written_in, decimal}
use Rattle.theory.specs.Reading.Readers.{demand_ensures}
use Rattle.theory.specs.Papers.Names.{run_more}
use Rattle.theory.specs.Reading.Spelling.{Spells, bind_spells, knowing_spells, behind_spells, demand_spells, due_spells, closed_spells}
use Rattle.theory.specs.Papers.Entries.{Means, number_wrote, number_again, number_spells, digit_first, digits_range, place_some}

-- one digit, and two
written_one : (k n : ℕ) → n < 10 → written_in (suc k) n ≡ (48 + n) ∷ []
unfolding written_in
written_one k n h = rw (lt-ltb n 10 h, written_in)

-- a digit behind others
written_more : (k n : ℕ) → 10 ≤ n → written_in (suc k) n ≡ written_in k (n / 10) ++ ((48 + n % 10) ∷ [])
unfolding written_in
written_more k n h = rw (le-ltb n 10 h, written_in)

-- a count of one digit
pub decimal_one : (n : ℕ) → n < 10 → decimal n ≡ (48 + n) ∷ []
unfolding decimal
decimal_one n h = written_one 9 n h

-- a count of two digits
decimal_two : (n : ℕ) → 10 ≤ n → n < 100 → decimal n ≡ (48 + n / 10) ∷ (48 + n % 10) ∷ []
unfolding decimal
decimal_two n h g = written_more 9 n h ∙ ap (λ w. w ++ ((48 + n % 10) ∷ [])) (written_one 8 (n / 10) (omega arith))

-- a byte in the range of the digits
digit_true : (d : ℕ) → 48 ≤ d → d ≤ 57 → digit d ≡ true
digit_true d h g = rw (le-leb 48 d h, le-leb d 57 g)

-- a digit in front makes the run longer by one
digit_more : (d : ℕ) (s : List ℕ) → 48 ≤ d → d ≤ 57 → run digit (d ∷ s) ≡ suc (run digit s)
digit_more d s h g = run_more digit d s (digit_true d h g)

-- a count is written as a number without a minus
pub count_means : (n : ℕ) → n < 100 → Means false (decimal n) (middle + n)
unfolding run digits place amount in_range
count_means n h = go (dec_lt n 10)
  where
    go : Dec (n < 10) → Means false (decimal n) (middle + n)
    go (yes y) =
        let z : 48 + n - 48 ≡ n = omega arith in
        rw (decimal_one n y) (record { full = digit_more (48 + n) [] (omega arith) (omega arith); place = ap {B = Option ℕ} (λ x. some (middle + x)) z })
    go (no m) =
        let z : (0 * 10 + (48 + n / 10 - 48)) * 10 + (48 + n % 10 - 48) ≡ n = omega arith in
        rw (decimal_two n (omega arith) h) (record {
          full = digit_more (48 + n / 10) ((48 + n % 10) ∷ []) (omega arith) (omega arith) ∙ ap suc (digit_more (48 + n % 10) [] (omega arith) (omega arith));
          place = rw (ne_eqb (48 + n / 10) 48 (λ e. omega arith), z, le-leb n middle (omega arith));
        })

-- the last line of a card is read back
pub end_line_again : (n l : ℕ) → n < 100 → end_line n l (text "end=" ++ (decimal n ++ 10 ∷ [])) ≡ got tt (suc l) []
unfolding end_line due not_ended stands begins run line_end paper_end closed
end_line_again n l h = rw (number_again false (decimal n) (middle + n) (10 ∷ []) l (count_means n h) refl, eq-eqb (middle + n) (middle + n) refl)

-- digits behind others make no value smaller
pub amount_grows : (ds : List ℕ) (v : ℕ) → v ≤ amount v ds
unfolding amount
amount_grows [] v = omega arith
amount_grows (d ∷ ds) v = omega (arith, amount_grows ds (v * 10 + (d - 48)))

-- digits whose value is the count
digits_count : (ds : List ℕ) (n : ℕ) → run digit ds ≡ length ds → digits ds ≡ some n → n < 100 → ds ≡ decimal n
unfolding digits amount run
digits_count [] n f h g = absurd (none-ne-some n h)
digits_count (d ∷ []) n f h g =
    let b = digit_first d [] f in
    let e = some-injective (d - 48) n h in
    let z : d ≡ 48 + n = omega (arith, b.0) in
    rw (decimal_one n (omega (arith, b.1))) (ap (λ x. x ∷ []) z)
digits_count (d ∷ e ∷ []) n f h g =
    let b = digit_first d (e ∷ []) f in
    let k = sym (digit_more d (e ∷ []) b.0 b.1) ∙ f in
    let i : run digit (e ∷ []) ≡ 1 = omega (arith, k) in
    let c = digit_first e [] i in
    let (p, q, r) = digits_range d e [] n h in
    let x : d ≡ 48 + n / 10 = omega (arith, b.0, c.0, c.1, r) in
    let y : e ≡ 48 + n % 10 = omega (arith, b.0, c.0, c.1, r) in
    rw (decimal_two n (omega (arith, b.0, p, r)) g) (ap₂ (λ v w. v ∷ w ∷ []) x y)
digits_count (d ∷ e ∷ c ∷ ds) n f h g =
    let b = digit_first d (e ∷ c ∷ ds) f in
    let (p, q, r) = digits_range d e (c ∷ ds) n h in
    let s = amount_grows ds (((0 * 10 + (d - 48)) * 10 + (e - 48)) * 10 + (c - 48)) in
    absurd (omega (arith, b.0, p, r, s))

-- a number with a minus is below 0
minus_below : (x v : ℕ) → place true (some x) ≡ some v → v < middle
unfolding place
minus_below x v p = go (eqb x 0) refl p
  where
    go : (b : Bool) → eqb x 0 ≡ b → ◌≡◌ {A = Option ℕ} (cond b none (some (middle - x))) (some v) → v < middle
    go true q p = absurd (none-ne-some v p)
    go false q p = let i = some-injective (middle - x) v p in omega (arith, i, eqb-false x 0 q)

-- one without is not
plus_above : (x v : ℕ) → place false (some x) ≡ some v → middle + x ≡ v
unfolding place
plus_above x v p = some-injective (middle + x) v p

-- a number whose place is that of the count
means_count : (minus : Bool) (ds : List ℕ) (v n : ℕ) → Means minus ds v → v ≡ middle + n → n < 100 → cond minus (text "-") [] ++ ds ≡ decimal n
means_count minus ds v n m e g = let (x, q) = place_some minus (digits ds) v m.place in go minus x q m.place
  where
    go : (minus : Bool) (x : ℕ) → digits ds ≡ some x → place minus (digits ds) ≡ some v → cond minus (text "-") [] ++ ds ≡ decimal n
    go true x q p = absurd (omega (arith, minus_below x v (rw q at p)))
    go false x q p =
        let i : x ≡ n = omega (arith, plus_above x v (rw q at p)) in
        digits_count ds n m.full (q ∙ ap {B = Option ℕ} some i) g

-- the last line of a card, whatever it is, is the count as it is written
pub end_line_spells : (n : ℕ) → n < 100 → Spells [] (end_line n) (λ x. text "end=" ++ decimal n ++ text "\n")
unfolding end_line
end_line_spells n h =
    bind_spells (due_spells LINE (text "end=")) λ x.
    knowing_spells number_wrote number_spells λ w k.
    knowing_spells (demand_ensures LINE (eqb w.at (middle + n))) (demand_spells LINE (eqb w.at (middle + n))) λ y e.
    rw (append-nil w.shown, k.shown, means_count k.minus k.ds w.at n k.means (eqb-true w.at (middle + n) e) h)
    (behind_spells (text "end=" ++ decimal n) closed_spells)

-- such a count has one digit or two
pub decimal_short : (n : ℕ) → n < 100 → length (decimal n) ≤ 2
decimal_short n h = go (dec_lt n 10)
  where
    go : Dec (n < 10) → length (decimal n) ≤ 2
    go (yes y) = rw (decimal_one n y) (omega arith)
    go (no m) = rw (decimal_two n (omega arith) h) (omega arith)

-- and any number ten at most
digits_few : (k n : ℕ) → length (written_in k n) ≤ k
unfolding written_in
digits_few zero n = omega arith
digits_few (suc k) n = go (ltb n 10) (digits_few k (n / 10))
  where
    go : (b : Bool) → length (written_in k (n / 10)) ≤ k
        → length {A = ℕ} (elim b [ true ↦ (48 + n) ∷ [] | false ↦ written_in k (n / 10) ++ ((48 + n % 10) ∷ []) ]) ≤ suc k
    go true h = omega arith
    go false h = omega (arith, length-append (written_in k (n / 10)) ((48 + n % 10) ∷ []))

pub decimal_few : (n : ℕ) → length (decimal n) ≤ 10
unfolding decimal
decimal_few n = digits_few 10 n
