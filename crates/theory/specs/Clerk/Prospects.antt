-- What may still come, status by status: the word that is told is the one that is meant, the names told of a pattern are its statuses, and the text fits.
use Rattle.std.specs.Prelude.{ℕ, zero, suc, ◌+◌, ◌*◌, ◌/◌, ◌%◌, ◌^◌, ◌≤◌, ◌<◌, ◌≡◌, refl, Bool, true, false, not, cond, List, [], ◌∷◌, ◌++◌, map, eqb, ltb, length, get_or}
use Rattle.std.proofs.Common.{sym, ◌∙◌, ap, ap₂, subst, true≢false, inl, inr, arith, suc-mul, div-one, pow-suc, length-append, eq-eqb, ne_eqb, ltb-true, ltb-false}
use Rattle.std.proofs.Math.Nat.{zero-div, div-div-eq-div-mul, pow-zero, pow-succ'}
use Rattle.std.proofs.lemmas.List.{length-map}
use Rattle.std.proofs.lemmas.Bool.{not-true, not-false}
use Rattle.meaning.specs.Text.{In, text, any, keep, joined, from}
use Rattle.meaning.specs.Refusal.{Answer, taken, refused, MANY}
use Rattle.meaning.specs.Limits.{name_bytes, status_limit, part_limit}
use Rattle.meaning.specs.Name.{Name}
use Rattle.meaning.specs.Number.{Value, missing, number_at}
use Rattle.meaning.specs.Sheet.{statuses, status_names}
use Rattle.meaning.specs.Card.{is}
use Rattle.meaning.specs.Tests.{Test, tests}
use Rattle.meaning.specs.Step.{Moment, leads_to, pattern}
use Rattle.meaning.specs.Outlook.{Fills, filled_with, Gives, IsOutlook, cuts, parts, tried, choices, patterns}
use Rattle.meaning.specs.Prospect.{Prospect, always, never, still_open, yes_in, Means, prospect, yes_names}
use Rattle.meaning.specs.Write.{line}
use Rattle.meaning.specs.Desk.{outlook_lines}
use Rattle.meaning.specs.Doors.{Case, outlook}
use Rattle.meaning.specs.Clerk.{prospect_word, prospect_lines, spaced, pattern_line, prospects_told}
use Rattle.theory.specs.Lists.Members.{in_any, any_in}
use Rattle.theory.specs.Lists.Ascending.{ascending_few}
use Rattle.theory.specs.Reading.Readers.{refused_taken}
use Rattle.theory.specs.Papers.Names.{good_short}
use Rattle.theory.specs.Why.Sums.{joined_most}
use Rattle.theory.specs.Papers.Case.{Papers}
use Rattle.theory.specs.Writing.ReadBack.{line_length_lem, names_good, names_length}
use Rattle.theory.specs.Requests.Cases.{at, case_list, filled_meets, outlook_told, outlook_listed}

-- THE WORD OF A STATUS

-- a test that no member passes
none_passes : {A : Type 0} (p : A → Bool) (xs : List A) → any p xs ≡ false → (a : A) → In a xs → p a ≡ false
none_passes p xs e a i = go (p a) refl
  where
    go : (b : Bool) → p a ≡ b → p a ≡ false
    go true q = absurd (true≢false (sym (in_any p a xs i q) ∙ e))
    go false q = q

-- what is told of an outlook is what is meant
pub prospect_right : (ts : List Test) (m : Moment) (list : List ℕ) → IsOutlook ts m list → (x : ℕ) → Means ts m x (prospect list x)
unfolding prospect
prospect_right ts m list h x = go (any (λ p. not (yes_in x p)) list) refl (any (yes_in x) list) refl
  where
    some_no : any (λ p. not (yes_in x p)) list ≡ true → (p : ℕ) × Gives ts m p × (yes_in x p ≡ false)
    some_no e = let (p, i, q) = any_in (λ p. not (yes_in x p)) list e in (p, (h.each p).0 i, not-true (yes_in x p) q)

    some_yes : any (yes_in x) list ≡ true → (p : ℕ) × Gives ts m p × (yes_in x p ≡ true)
    some_yes e = let (p, i, q) = any_in (yes_in x) list e in (p, (h.each p).0 i, q)

    go : (a : Bool) → any (λ p. not (yes_in x p)) list ≡ a → (b : Bool) → any (yes_in x) list ≡ b → Means ts m x (cond a (cond b still_open never) always)
    go true e true q = (some_yes q, some_no e)
    go true e false q = λ p g. none_passes (yes_in x) list q p ((h.each p).1 g)
    go false e b q = λ p g. not-false (yes_in x p) (none_passes (λ p. not (yes_in x p)) list e p ((h.each p).1 g))

-- where some filling gives a pattern, no second word is meant
pub prospect_one : (ts : List Test) (m : Moment) (x p : ℕ) → Gives ts m p → (w v : Prospect) → Means ts m x w → Means ts m x v → w ≡ v
prospect_one ts m x p g always always a b = refl
prospect_one ts m x p g always never a b = absurd (true≢false (sym (a p g) ∙ b p g))
prospect_one ts m x p g always still_open a (y, (q, r, e)) = absurd (true≢false (sym (a q r) ∙ e))
prospect_one ts m x p g never always a b = absurd (true≢false (sym (b p g) ∙ a p g))
prospect_one ts m x p g never never a b = refl
prospect_one ts m x p g never still_open a ((q, r, e), n) = absurd (true≢false (sym e ∙ a q r))
prospect_one ts m x p g still_open always (y, (q, r, e)) b = absurd (true≢false (sym (b q r) ∙ e))
prospect_one ts m x p g still_open never ((q, r, e), n) b = absurd (true≢false (sym e ∙ b q r))
prospect_one ts m x p g still_open still_open a b = refl

-- THE BITS OF A PATTERN

-- the halves of a number, one after another
half_none : (p : ℕ) → p / 2 ^ 0 ≡ p
half_none p = ap (λ y. p / y) (pow-zero 2) ∙ div-one p

half_next : (x p : ℕ) → p / 2 ^ x / 2 ≡ p / 2 ^ suc x
half_next x p = div-div-eq-div-mul p (2 ^ x) 2 ∙ ap (λ y. p / y) (sym (pow-suc 2 x))

half_first : (x p : ℕ) → p / 2 ^ suc x ≡ p / 2 / 2 ^ x
half_first x p = ap (λ y. p / y) (pow-succ' 2 x) ∙ sym (div-div-eq-div-mul p 2 (2 ^ x))

-- bit x of the pattern of a side is the status at place x
pub yes_pattern : (bs : List Bool) (x : ℕ) → yes_in x (pattern bs) ≡ is bs x
unfolding pattern yes_in
yes_pattern [] x = ap (λ q. eqb (q % 2) 1) (zero-div (2 ^ x))
yes_pattern (true ∷ bs) zero =
    let q = pattern bs in
    ap (λ q. eqb (q % 2) 1) (half_none (1 + 2 * q)) ∙ eq-eqb ((1 + 2 * q) % 2) 1 (omega arith)
yes_pattern (false ∷ bs) zero =
    let q = pattern bs in
    ap (λ q. eqb (q % 2) 1) (half_none (2 * q)) ∙ ne_eqb (2 * q % 2) 1 (λ e. omega arith)
yes_pattern (true ∷ bs) (suc x) =
    let q = pattern bs in
    let h : (1 + 2 * q) / 2 ≡ q = omega arith in
    ap (λ q. eqb (q % 2) 1) (half_first x (1 + 2 * q) ∙ ap (λ y. y / 2 ^ x) h) ∙ yes_pattern bs x
yes_pattern (false ∷ bs) (suc x) =
    let q = pattern bs in
    let h : 2 * q / 2 ≡ q = omega arith in
    ap (λ q. eqb (q % 2) 1) (half_first x (2 * q) ∙ ap (λ y. y / 2 ^ x) h) ∙ yes_pattern bs x

-- names from place i on
names_from : (at : ℕ → Name) (ns : List Name) (i p : ℕ) → ((j : ℕ) → j < length ns → at (i + j) ≡ get_or ns j [])
    → yes_names ns (p / 2 ^ i) ≡ map at (keep (λ x. yes_in x p) (from i (length ns)))
unfolding yes_names yes_in keep from
names_from at [] i p h = refl
names_from at (n ∷ ns) i p h = go (eqb (p / 2 ^ i % 2) 1) (ap (yes_names ns) (half_next i p) ∙ names_from at ns (suc i) p later)
  where
    own : at i ≡ n
    own = let z : i + 0 ≡ i = omega arith in rw z at (h 0 (omega arith))

    later : (j : ℕ) → j < length ns → at (suc i + j) ≡ get_or ns j []
    later j l = let z : i + suc j ≡ suc i + j = omega arith in rw z at (h (suc j) (omega arith))

    rest : List ℕ
    rest = keep (λ x. eqb (p / 2 ^ x % 2) 1) (from (suc i) (length ns))

    go : (b : Bool) → yes_names ns (p / 2 ^ i / 2) ≡ map at rest
        → cond b (n ∷ yes_names ns (p / 2 ^ i / 2)) (yes_names ns (p / 2 ^ i / 2)) ≡ map at (elim b [ true ↦ i ∷ rest | false ↦ rest ])
    go true e = ap₂ (λ a l. a ∷ l) (sym own) e
    go false e = e

-- the names told of a pattern are those at the places that are yes in it, in order
pub named_yes : (ns : List Name) (p : ℕ) → yes_names ns p ≡ map (λ x. get_or ns x []) (keep (λ x. yes_in x p) (from 0 (length ns)))
named_yes ns p = ap (yes_names ns) (sym (half_none p)) ∙ names_from (λ x. get_or ns x []) ns 0 p (λ j l. let z : 0 + j ≡ j = omega arith in rw z)

-- and of the pattern of a side those of its statuses that are yes
pub named_side : (ns : List Name) (bs : List Bool) → yes_names ns (pattern bs) ≡ map (λ x. get_or ns x []) (keep (is bs) (from 0 (length ns)))
named_side ns bs = named_yes ns (pattern bs) ∙ ap (λ (f : ℕ → Bool). map (λ x. get_or ns x []) (keep f (from 0 (length ns)))) (λ i x. yes_pattern bs x i)

-- HOW LONG THE TEXT IS

-- they are some of the names
named_in : (ns : List Name) (p : ℕ) (n : Name) → In n (yes_names ns p) → In n ns
unfolding yes_names
named_in [] p n i = i
named_in (m ∷ ns) p n i = go (eqb (p % 2) 1) i (named_in ns (p / 2) n)
  where
    go : (b : Bool) → In n (cond b (m ∷ yes_names ns (p / 2)) (yes_names ns (p / 2))) → (In n (yes_names ns (p / 2)) → In n ns) → In n (m ∷ ns)
    go true (inl e) h = inl e
    go true (inr i) h = inr (h i)
    go false i h = inr (h i)

named_few : (ns : List Name) (p : ℕ) → length (yes_names ns p) ≤ length ns
unfolding yes_names
named_few [] p = omega arith
named_few (m ∷ ns) p = go (eqb (p % 2) 1) (named_few ns (p / 2))
  where
    go : (b : Bool) → length (yes_names ns (p / 2)) ≤ length ns → length (cond b (m ∷ yes_names ns (p / 2)) (yes_names ns (p / 2))) ≤ suc (length ns)
    go true h = omega arith
    go false h = omega arith

word_short : (w : Prospect) → length (prospect_word w) ≤ 6
word_short always = omega arith
word_short never = omega arith
word_short still_open = omega arith

-- names within their limit
abbrev pub Short : List Name → Type 0
Short ns = (n : Name) → In n ns → length n ≤ name_bytes

spaced_short : (ns : List Name) → Short ns → length (spaced ns) ≤ length ns * (name_bytes + 1)
spaced_short [] h = omega arith
spaced_short (n ∷ ns) h = omega (
  arith,
  h n (inl refl),
  length-append n (joined (λ m. text " " ++ m) ns),
  joined_most (λ m. text " " ++ m) (name_bytes + 1) ns (λ m i. omega (arith, h m (inr i))),
)

-- the lines of the statuses
words_short : (ps : List ℕ) (x : ℕ) (ns : List Name) → Short ns → length (prospect_lines ps x ns) ≤ length ns * (name_bytes + 8)
unfolding prospect_lines
words_short ps x [] h = omega arith
words_short ps x (n ∷ ns) h =
    let w = prospect_word (prospect ps x) in
    omega (
      arith,
      h n (inl refl),
      word_short (prospect ps x),
      line_length_lem n w,
      length-append (line n w) (prospect_lines ps (suc x) ns),
      words_short ps (suc x) ns (λ m i. h m (inr i)),
    )

-- the line of a pattern
pub pattern_short : (ns : List Name) (p : ℕ) → Short ns → length (pattern_line ns p) ≤ 9 + length ns * (name_bytes + 1)
unfolding pattern_line
pattern_short ns p h = omega (
  arith,
  line_length_lem (text "outlook") (spaced (yes_names ns p)),
  spaced_short (yes_names ns p) (λ n i. h n (named_in ns p n i)),
  named_few ns p,
)

-- all lines at their longest: one for each status, and one for each pattern with the names of all statuses
abbrev pub prospects_most : ℕ
prospects_most = status_limit * (name_bytes + 8) + part_limit * (9 + status_limit * (name_bytes + 1))

-- of as many names and patterns as there may be
pub prospects_short : (ns : List Name) (ps : List ℕ) → Short ns → length ns ≤ status_limit → length ps ≤ part_limit
    → length (prospects_told ns (taken ps)) ≤ prospects_most
unfolding prospects_told
prospects_short ns ps h few all = omega (
  arith,
  length-append (prospect_lines ps 0 ns) (joined (pattern_line ns) ps),
  words_short ps 0 ns h,
  joined_most (pattern_line ns) (9 + status_limit * (name_bytes + 1)) ps (λ p i. omega (arith, pattern_short ns p h)),
)

-- `outlook=refused`
pub prospects_refused : (ns : List Name) (n p l : ℕ) → length (prospects_told ns (refused n p l)) ≡ 16
unfolding prospects_told outlook_lines line
prospects_refused ns n p l = refl

-- THE OUTLOOK OF A CASE

-- lists of one length each
joined_each : {A B : Type 0} (f : A → List B) (b : ℕ) (xs : List A) → ((x : A) → length (f x) ≡ b) → length (joined f xs) ≡ length xs * b
unfolding joined
joined_each f b [] h = omega arith
joined_each f b (x ∷ xs) h = omega (arith, h x, joined_each f b xs h, suc-mul (length xs) b, length-append (f x) (joined f xs))

-- as many choices as there are parts
choices_count : (ts : List Test) (f : ℕ) (vs : List Value) → length (choices (tried ts f vs)) ≡ parts ts f vs
unfolding choices tried parts
choices_count ts f [] = refl
choices_count ts f (missing ∷ vs) =
    let cs = choices (tried ts (suc f) vs) in
    joined_each (λ v. map (λ w. v ∷ w) cs) (length cs) (number_at 0 ∷ map number_at (cuts ts f)) (λ v. length-map cs (λ w. v ∷ w))
    ∙ ap₂ (λ a b. suc a * b) (length-map (cuts ts f) number_at) (choices_count ts (suc f) vs)
choices_count ts f (number_at v ∷ vs) =
    let cs = choices (tried ts (suc f) vs) in
    let h = joined_each (λ v. map (λ w. v ∷ w) cs) (length cs) (number_at v ∷ []) (λ v. length-map cs (λ w. v ∷ w)) in
    omega (arith, h, choices_count ts (suc f) vs)

-- so there are no more patterns
pub patterns_few : (ts : List Test) (o : List ℕ) (m : Moment) → length (patterns ts o m) ≤ parts ts 0 m.values
unfolding patterns
patterns_few ts o m =
    let f : List Value → ℕ = λ vs. pattern (leads_to ts (filled_with m vs) o) in
    let cs = choices (tried ts 0 m.values) in
    omega (arith, ascending_few (map f cs), length-map cs f, choices_count ts 0 m.values)

-- and of an outlook that is taken no more than parts may be
pub outlook_most : (k : Case) (list : List ℕ) → outlook k ≡ taken list → length list ≤ part_limit
outlook_most k list e = go (ltb part_limit n) refl
  where
    n : ℕ
    n = parts (tests k.sheet) 0 (at k).values

    go : (b : Bool) → ltb part_limit n ≡ b → length list ≤ part_limit
    go true q = absurd (refused_taken MANY 0 0 list (sym ((outlook_told k).1 (ltb-true part_limit n q)) ∙ e))
    go false q = omega (arith, ltb-false part_limit n q, ap length (outlook_listed k list e), patterns_few (tests k.sheet) k.order (at k))

-- a value, and for a missing one the lowest
abbrev lowest_of : Value → Value
lowest_of missing = number_at 0
lowest_of (number_at v) = number_at v

lowest_fills : (vs : List Value) → Fills vs (map lowest_of vs)
lowest_fills vs = record { long = length-map vs lowest_of; kept = kept vs; ranged = λ f l e. (0, omega arith, ranged vs f l e) }
  where
    kept : (vs : List Value) (f v : ℕ) → get_or vs f missing ≡ number_at v → get_or (map lowest_of vs) f missing ≡ number_at v
    kept [] f v e = e
    kept (x ∷ vs) zero v e = ap lowest_of e
    kept (x ∷ vs) (suc f) v e = kept vs f v e

    ranged : (vs : List Value) (f : ℕ) → f < length vs → get_or vs f missing ≡ missing → get_or (map lowest_of vs) f missing ≡ number_at 0
    ranged [] f l e = absurd (omega arith)
    ranged (x ∷ vs) zero l e = ap lowest_of e
    ranged (x ∷ vs) (suc f) l e = ranged vs f (omega arith) e

module _ (k : Case) (papers : Papers k) where
  -- some filling gives a pattern
  pub case_gives : (p : ℕ) × Gives (tests k.sheet) (at k) p
  case_gives =
      let w = map lowest_of (at k).values in
      let side = leads_to (tests k.sheet) (filled_with (at k) w) k.order in
      (pattern side, record { filled = w; fills = lowest_fills (at k).values; after = side; meets = filled_meets k papers w; is = refl })

  -- the word that is told of a status is meant, and no other is
  pub case_prospect : (list : List ℕ) → outlook k ≡ taken list → (x : ℕ)
      → Means (tests k.sheet) (at k) x (prospect list x) × ((w : Prospect) → Means (tests k.sheet) (at k) x w → w ≡ prospect list x)
  case_prospect list o x =
      let (p, g) = case_gives in
      let is = subst (IsOutlook (tests k.sheet) (at k)) (outlook_listed k list o) (case_list k papers) in
      let right = prospect_right (tests k.sheet) (at k) list is x in
      (right, λ w h. prospect_one (tests k.sheet) (at k) x p g w (prospect list x) h right)

  -- the text of its outlook is not long
  pub case_prospects_short : length (prospects_told (status_names (statuses k.sheet.heads)) (outlook k)) ≤ prospects_most
  case_prospects_short = go (outlook k) refl
    where
      ns : List Name
      ns = status_names (statuses k.sheet.heads)

      go : (a : Answer (List ℕ)) → outlook k ≡ a → length (prospects_told (status_names (statuses k.sheet.heads)) a) ≤ prospects_most
      go (taken list) e = prospects_short ns list (λ n i. good_short n (names_good k.sheet.heads papers.well.heads n i))
          (omega (arith, names_length k.sheet.heads papers.well.heads, papers.well.heads.statuses_few)) (outlook_most k list e)
      go (refused n p l) e = omega (arith, prospects_refused ns n p l)
