-- Numbers and entries: whatever is read is read back from its own text, which is short, and counts are read back as they are written.
use Rattle.std.specs.Prelude.{ℕ, suc, ◌+◌, ◌-◌, ◌*◌, ◌^◌, ◌≤◌, ◌<◌, ◌≡◌, refl, Bool, true, false, ◌&&◌, cond, List, [], ◌∷◌, ◌++◌, length, leb, eqb}
use Rattle.std.proofs.Common.{subst, arith, pow-suc, mul_assoc, le_trans, mul-le-mul_left, mul-le-mul, leb-true, ne_eqb}
use Rattle.std.proofs.lemmas.Bool.{false≢true, eqb-false}
use Rattle.std.proofs.Math.Option.{Option, none, some, none-ne-some, some-injective}
use Rattle.std.proofs.Math.Decide.{dec_lt}
use Rattle.std.proofs.Math.Nat.{pow-le-pow_right}
use Rattle.meaning.specs.Text.{text, run, begins}
use Rattle.meaning.specs.Reading.{got, not_ended, stands}
use Rattle.meaning.specs.Name.{digit}
use Rattle.meaning.specs.Limits.{middle, highest}
use Rattle.meaning.specs.Number.{amount, in_range, digits, place, Written, judged, number, missing, number_at, Entry, entry}
use Rattle.theory.specs.Reading.Readers.{Ensures, give_ensures, refuse_ensures, choose_ensures, bind_ensures, any_ensures, ensures_weaker, ensures_both}
use Rattle.theory.specs.Papers.Names.{run_first, longest_full, longest_again}
use Rattle.theory.specs.Reading.Spelling.{Spells, give_spells, refuse_spells, choose_spells, bind_spells, not_ended_spells, stands_spells, longest_spells}

-- NUMBERS

-- the text of a minus, if there is one, and digits, and the place v that they mean
pub record Means (minus : Bool) (ds : List ℕ) (v : ℕ) : Type 0 where
  pub full : run digit ds ≡ length ds
  pub place : place minus (digits ds) ≡ some v

-- a number with its text
pub record Wrote (n : Written) : Type 0 where
  pub minus : Bool
  pub ds : List ℕ
  pub means : Means minus ds n.at
  pub shown : n.shown ≡ cond minus (text "-") [] ++ ds

-- whatever is read as a number is so written
pub number_wrote : Ensures number Wrote
unfolding number
number_wrote =
    any_ensures not_ended λ _.
    any_ensures (stands (text "-")) λ minus.
    bind_ensures (longest_full digit) λ ds full.
    go minus ds full (place minus (digits ds)) refl
  where
    go : (minus : Bool) (ds : List ℕ) → run digit ds ≡ length ds → (o : Option ℕ) → place minus (digits ds) ≡ o → Ensures (judged minus ds o) Wrote
    go minus ds full none e = refuse_ensures
    go minus ds full (some v) e = give_ensures (record { minus = minus; ds = ds; means = record { full = full; place = e }; shown = refl })

-- a digit lies between two bytes
pub digit_bounds : (d : ℕ) → digit d ≡ true → (48 ≤ d) × (d ≤ 57)
digit_bounds d = go (leb 48 d) refl (leb d 57) refl
  where
    go : (a : Bool) → leb 48 d ≡ a → (b : Bool) → leb d 57 ≡ b → a && b ≡ true → (48 ≤ d) × (d ≤ 57)
    go true p true q h = (leb-true 48 d p, leb-true d 57 q)
    go true p false q h = absurd (false≢true h)
    go false p b q h = absurd (false≢true h)

-- and so does the first of some digits
pub digit_first : (d : ℕ) (ds : List ℕ) → run digit (d ∷ ds) ≡ suc (length ds) → (48 ≤ d) × (d ≤ 57)
digit_first d ds h = digit_bounds d (run_first digit d ds h).0

-- where another byte stands
begins_other : (c d : ℕ) (s : List ℕ) → (d ≡ c → ⊥) → begins (c ∷ []) (d ∷ s) ≡ false
unfolding begins
begins_other c d s h = rw (ne_eqb d c h, begins)

-- a number is read back from its text where no digit follows
pub number_again : (minus : Bool) (ds : List ℕ) (v : ℕ) (t : List ℕ) (l : ℕ) → Means minus ds v → run digit t ≡ 0
    → number l (cond minus (text "-") [] ++ ds ++ t) ≡ got (record { shown = cond minus (text "-") [] ++ ds; at = v }) l t
unfolding number not_ended stands begins digits place
number_again true ds v t l h g = rw (longest_again digit ds t l h.full g, h.place)
number_again false [] v t l h g = absurd (none-ne-some v h.place)
number_again false (d ∷ ds) v t l h g =
    let b = digit_first d ds h.full in
    rw (begins_other 45 d (ds ++ t) (λ e. omega (arith, b.0)), longest_again digit (d ∷ ds) t l h.full g, h.place)

-- the text of a number
pub number_spells : Spells [] number (λ n. n.shown)
unfolding number
number_spells =
    bind_spells not_ended_spells λ x.
    bind_spells (stands_spells (text "-")) λ minus.
    bind_spells (longest_spells digit) λ ds.
    go minus ds (place minus (digits ds))
  where
    go : (minus : Bool) (ds : List ℕ) (o : Option ℕ) → Spells (cond minus (text "-") [] ++ ds) (judged minus ds o) (λ n. n.shown)
    go minus ds none = refuse_spells
    go minus ds (some v) = give_spells refl

-- HOW LONG A NUMBER IS

-- each digit behind v makes ten of one
amount_long : (ds : List ℕ) (v : ℕ) → 10 ^ length ds * v ≤ amount v ds
unfolding amount
amount_long [] v = omega arith
amount_long (d ∷ ds) v =
    let e : 10 ^ suc (length ds) * v ≡ 10 ^ length ds * (10 * v) = rw (pow-suc 10 (length ds)) (mul_assoc (10 ^ length ds) 10 v) in
    rw e (le_trans (mul-le-mul_left (10 ^ length ds) (omega arith)) (amount_long ds (v * 10 + (d - 48))))

-- what is known of digits that have a value: no needless zero, and in the range
pub digits_range : (d e : ℕ) (ds : List ℕ) (v : ℕ) → digits (d ∷ e ∷ ds) ≡ some v
    → (d ≡ 48 → ⊥) × (amount 0 (d ∷ e ∷ ds) ≤ middle) × (amount 0 (d ∷ e ∷ ds) ≡ v)
unfolding digits in_range
digits_range d e ds v h = go (eqb d 48) refl (leb (amount 0 (d ∷ e ∷ ds)) middle) refl h
  where
    go : (a : Bool) → eqb d 48 ≡ a → (b : Bool) → leb (amount 0 (d ∷ e ∷ ds)) middle ≡ b
        → ◌≡◌ {A = Option ℕ} (cond a none (cond b (some (amount 0 (d ∷ e ∷ ds))) none)) (some v)
        → (d ≡ 48 → ⊥) × (amount 0 (d ∷ e ∷ ds) ≤ middle) × (amount 0 (d ∷ e ∷ ds) ≡ v)
    go true p b q h = absurd (none-ne-some v h)
    go false p false q h = absurd (none-ne-some v h)
    go false p true q h = (eqb-false d 48 p, leb-true (amount 0 (d ∷ e ∷ ds)) middle q, some-injective (amount 0 (d ∷ e ∷ ds)) v h)

-- digits that have a value are at most ten
digits_short : (ds : List ℕ) (v : ℕ) → run digit ds ≡ length ds → digits ds ≡ some v → length ds ≤ 10
unfolding amount
digits_short [] v f h = omega arith
digits_short (d ∷ []) v f h = omega arith
digits_short (d ∷ e ∷ ds) v f h = go (dec_lt 9 (length (e ∷ ds)))
  where
    go : Dec (9 < length (e ∷ ds)) → suc (length (e ∷ ds)) ≤ 10
    go (no n) = omega arith
    go (yes y) =
        let (a, b, c) = digits_range d e ds v h in
        let m = digit_first d (e ∷ ds) f in
        let p : 10 ^ 10 ≤ 10 ^ length (e ∷ ds) = pow-le-pow_right (omega arith) y in
        let x : 1 ≤ 0 * 10 + (d - 48) = omega (arith, m.0, a) in
        let q : 10 ^ 10 * 1 ≤ 10 ^ length (e ∷ ds) * (0 * 10 + (d - 48)) = mul-le-mul p x in
        let r = le_trans q (amount_long (e ∷ ds) (0 * 10 + (d - 48))) in
        absurd (omega (arith, r, b))

-- ENTRIES

-- an entry is read back from its own text and an LF
abbrev pub Shown : Entry → Type 0
Shown e = (l : ℕ) (t : List ℕ) → entry l (e.shown ++ 10 ∷ t) ≡ got e l (10 ∷ t)

-- an entry that is a number
number_shown : (minus : Bool) (ds : List ℕ) (v : ℕ) → Means minus ds v → Shown (record { shown = cond minus (text "-") [] ++ ds; value = number_at v })
unfolding entry not_ended stands begins digits place run
number_shown true ds v h l t = rw (number_again true ds v (10 ∷ t) l h refl)
number_shown false [] v h l t = absurd (none-ne-some v h.place)
number_shown false (d ∷ ds) v h l t =
    let b = digit_first d ds h.full in
    rw (begins_other 63 d (ds ++ 10 ∷ t) (λ e. omega (arith, b.1)), number_again false (d ∷ ds) v (10 ∷ t) l h refl)

-- whatever is read as an entry
pub entry_shown : Ensures entry Shown
unfolding entry not_ended stands begins
entry_shown =
    any_ensures not_ended λ _.
    any_ensures (stands (text "?")) λ asked.
    choose_ensures asked (give_ensures (λ l t. refl)) (bind_ensures number_wrote λ n h.
    give_ensures (rw h.shown (number_shown h.minus h.ds n.at h.means)))

-- a value to which a place is given
pub place_some : (minus : Bool) (o : Option ℕ) (v : ℕ) → place minus o ≡ some v → (x : ℕ) × (o ≡ some x)
unfolding place
place_some true none v e = absurd (none-ne-some v e)
place_some false none v e = absurd (none-ne-some v e)
place_some true (some x) v e = (x, refl)
place_some false (some x) v e = (x, refl)

-- with the minus
minus_short : (minus : Bool) (ds : List ℕ) → length ds ≤ 10 → length (cond minus (text "-") [] ++ ds) ≤ 11
minus_short true ds h = omega arith
minus_short false ds h = omega arith

-- the text of an entry is short
pub entry_short : Ensures entry (λ e. length e.shown ≤ 11)
unfolding entry
entry_short =
    any_ensures not_ended λ _.
    any_ensures (stands (text "?")) λ asked.
    choose_ensures asked (give_ensures (omega arith)) (bind_ensures number_wrote λ n h.
    give_ensures (rw h.shown (minus_short h.minus h.ds
    (let (x, e) = place_some h.minus (digits h.ds) n.at h.means.place in digits_short h.ds x h.means.full e))))

-- an entry as it is read: read back from its text, and short
pub record Proper (e : Entry) : Type 0 where
  pub shown : Shown e
  pub short : length e.shown ≤ 11

-- whatever is read as an entry is proper
pub entry_proper : Ensures entry Proper
entry_proper = ensures_weaker (λ e h. record { shown = h.0; short = h.1 }) (ensures_both entry_shown entry_short)

-- THE SCALE

-- digits that have a value stand for one in the range
pub digits_most : (ds : List ℕ) (v : ℕ) → run digit ds ≡ length ds → digits ds ≡ some v → v ≤ middle
unfolding digits
digits_most [] v f e = absurd (none-ne-some v e)
digits_most (d ∷ []) v f e = let i = some-injective (d - 48) v e in omega (arith, i, (digit_first d [] f).1)
digits_most (d ∷ x ∷ ds) v f e = let (a, b, c) = digits_range d x ds v e in omega (arith, b, c)

-- and a place is at most the highest
place_most : (minus : Bool) (x v : ℕ) → x ≤ middle → place minus (some x) ≡ some v → v ≤ highest
unfolding place
place_most false x v h e = let i = some-injective (middle + x) v e in omega (arith, i)
place_most true x v h e = go (eqb x 0) e
  where
    go : (b : Bool) → ◌≡◌ {A = Option ℕ} (cond b none (some (middle - x))) (some v) → v ≤ highest
    go true e = absurd (none-ne-some v e)
    go false e = let i = some-injective (middle - x) v e in omega (arith, i)

-- whatever is read as a number
pub number_most : Ensures number (λ n. n.at ≤ highest)
number_most = ensures_weaker (λ n w.
    let (x, e) = place_some w.minus (digits w.ds) n.at w.means.place in
    place_most w.minus x n.at (digits_most w.ds x w.means.full e) (rw e at w.means.place)) number_wrote

-- `?` is no number
pub missing_number : (v : ℕ) → missing ≡ number_at v → ⊥
missing_number v e = let z : ◌≡◌ {A = ℕ} 0 1 = cc in omega arith

-- an entry's value lies on the scale, if it is a number
entry_most : Ensures entry (λ e. (v : ℕ) → e.value ≡ number_at v → v ≤ highest)
unfolding entry
entry_most =
    any_ensures not_ended λ _.
    any_ensures (stands (text "?")) λ asked.
    choose_ensures asked (give_ensures (λ v e. absurd (missing_number v e))) (bind_ensures number_most λ n h.
    give_ensures (λ v e. subst (λ k. k ≤ highest) (number_same n.at v e) h))
  where
    number_same : (k v : ℕ) → number_at k ≡ number_at v → k ≡ v
    number_same k v e = cc

pub proper_most : (e : Entry) → Proper e → (v : ℕ) → e.value ≡ number_at v → v ≤ highest
proper_most e p = (entry_most.gives 0 (e.shown ++ 10 ∷ [])).of e 0 (10 ∷ []) (p.shown 0 [])

-- the text of an entry
pub entry_spells : Spells [] entry (λ e. e.shown)
unfolding entry
entry_spells =
    bind_spells not_ended_spells λ x.
    bind_spells (stands_spells (text "?")) λ asked.
    choose_spells asked (λ e. give_spells (rw e)) (λ e.
    bind_spells number_spells λ n.
    give_spells (rw e))
