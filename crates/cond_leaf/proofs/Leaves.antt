-- Signs, comparisons and leaves at the returns of their readers.
use Prim.Native.Nat.{ℕ, ◌+◌, ◌-◌, ◌^◌, ◌≤◌, ◌<◌}
use mathlib.Core.Path.{◌≡◌, refl, sym, ◌∙◌, ap}
use mathlib.Core.Bool.{Bool, not}
use mathlib.Core.List.{List, [], ◌∷◌}
use mathlib.Core.Option.{none}
use native.Mathlib.Omega.{arith}
use native.Mathlib.Numerals.{add-one, add-two}
use borrow.Author.Tests.{ne_eqb, lt-ltb, le-ltb}
use lib.ListN.{length, get_or, take, drop}
use lib.Seq.{take_all}
use mir.Syntax.{w64}
use mir.Val.{Fits}
use Rattle.std.specs.Prelude.{Result, Ok, Err, Option, Some, None}
use Rattle.meaning.specs.Text.{begins}
use Rattle.meaning.specs.Limits.{field_limit, status_limit, leaf_limit, highest}
use Rattle.meaning.specs.Reading.{Got, Reader, after, give, not_ended, stands, one_of}
use Rattle.meaning.specs.Number.{Written, number}
use Rattle.meaning.specs.Name.{name}
use Rattle.meaning.specs.Condition.{Operator, below, at_most, equal, at_least, above, Leaf}
use Rattle.meaning.specs.ReadCondition.{operator, read_leaf}
use Rattle.meaning.specs.ReadCondition.{named as named_leaf}
use Rattle.theory.specs.Reading.BuiltPapers.{operator_built}
use Rattle.theory.specs.Reading.Told.{Any, took, not_ended_none}
use Rattle.theory.specs.Reading.Answered.{Ends, here, Left, inline_ends, ends_weaker}
use Rattle.theory.specs.Reading.Piece.{Next, piece_on, piece_off, off_answer, left_piece}
use Rattle.reply.specs.declared.Fault.{Fault}
use Rattle.reply.specs.declared.Fault.TheVariants as F
use Rattle.reply.specs.Faults.{fault_of}
use Rattle.text.specs.declared.Taken.{Taken}
use Rattle.name.specs.declared.Name.{Name as Kept}
use Rattle.name.specs.Names.{kept_in, names_in}
use Rattle.name.proofs.Tables.{kept_count}
use Rattle.name.specs.Answers.{as_name, place_of, found_in, same_kept}
use Rattle.name.proofs.Callers.{name_wrong, name_got, name_fits, name_found, found_within}
use Rattle.number.specs.Answers.{as_number}
use Rattle.number.proofs.Callers.{number_ends}
use Rattle.cond_value.specs.Flat.{bit, word, comparison_word, leaf_word}
use Rattle.cond_leaf.specs.Answers.{sign_of, operator_of, as_sign, as_leaf, comparison}
use Rattle.cond_leaf.specs.declared.Sign.{Sign}
use Rattle.cond_leaf.specs.declared.Sign.TheVariants as S

-- the words of the five signs
module _ (neg : Bool) (f k : ℕ) (c : Sign) (b r : ℕ) where
  pub word_below : c ≡ S.Below → b ≡ bit neg → r ≡ word (4 + b) f (k + 1) → r ≡ comparison_word neg f (operator_of c) k
  unfolding comparison_word
  word_below ec eb e = e ∙ rw (ec, eb, add-one)

  pub word_at_most : c ≡ S.AtMost → b ≡ bit neg → r ≡ word (4 + b) f (k + 2) → r ≡ comparison_word neg f (operator_of c) k
  unfolding comparison_word
  word_at_most ec eb e = e ∙ rw (ec, eb, add-two)

  pub word_equal : c ≡ S.Equal → b ≡ bit neg → r ≡ word (6 + b) f (k + 1) → r ≡ comparison_word neg f (operator_of c) k
  unfolding comparison_word
  word_equal ec eb e = e ∙ rw (ec, eb, add-one)

  pub word_at_least : c ≡ S.AtLeast → b ≡ bit (not neg) → r ≡ word (4 + b) f (k + 1) → r ≡ comparison_word neg f (operator_of c) k
  unfolding comparison_word
  word_at_least ec eb e = e ∙ rw (ec, eb, add-one)

  pub word_above : c ≡ S.Above → b ≡ bit (not neg) → r ≡ word (4 + b) f (k + 2) → r ≡ comparison_word neg f (operator_of c) k
  unfolding comparison_word
  word_above ec eb e = e ∙ rw (ec, eb, add-two)

pub ruleset signed = (word_below, word_at_most, word_equal, word_at_least, word_above)

-- the signs, the longer ones first
pub sign_ended : (s : List ℕ) → length s < 1 → Err F.Line ≡ as_sign s (operator 0 s)
unfolding operator
sign_ended s h = sym (rw (not_ended_none 0 s (omega arith)))

pub sign_at_most : (s : List ℕ) → 2 ≤ length s → get_or s 0 0 ≡ 60 → get_or s 1 0 ≡ 61 → Ok (record { value = S.AtMost; bytes = 2 }) ≡ as_sign s (operator 0 s)
unfolding operator not_ended one_of stands begins
sign_at_most [] h a b = absurd (omega arith)
sign_at_most (x ∷ []) h a b = absurd (omega arith)
sign_at_most (x ∷ y ∷ t) h a b = rw (a, b, took (x ∷ y ∷ t) 2 h)

pub sign_at_least : (s : List ℕ) → 2 ≤ length s → get_or s 0 0 ≡ 62 → get_or s 1 0 ≡ 61
    → Ok (record { value = S.AtLeast; bytes = 2 }) ≡ as_sign s (operator 0 s)
unfolding operator not_ended one_of stands begins
sign_at_least [] h a b = absurd (omega arith)
sign_at_least (x ∷ []) h a b = absurd (omega arith)
sign_at_least (x ∷ y ∷ t) h a b = rw (a, b, took (x ∷ y ∷ t) 2 h)

pub sign_below : (s : List ℕ) → 1 ≤ length s → get_or s 0 0 ≡ 60 → (get_or s 1 0 ≡ 61 → ⊥)
    → Ok (record { value = S.Below; bytes = 1 }) ≡ as_sign s (operator 0 s)
unfolding operator not_ended one_of stands begins
sign_below [] h a b = absurd (omega arith)
sign_below (x ∷ []) h a b = rw a
sign_below (x ∷ y ∷ t) h a b = rw (a, begins, ne_eqb y 61 b, took (x ∷ y ∷ t) 1 h)

pub sign_above : (s : List ℕ) → 1 ≤ length s → get_or s 0 0 ≡ 62 → (get_or s 1 0 ≡ 61 → ⊥)
    → Ok (record { value = S.Above; bytes = 1 }) ≡ as_sign s (operator 0 s)
unfolding operator not_ended one_of stands begins
sign_above [] h a b = absurd (omega arith)
sign_above (x ∷ []) h a b = rw a
sign_above (x ∷ y ∷ t) h a b = rw (a, begins, ne_eqb y 61 b, took (x ∷ y ∷ t) 1 h)

pub sign_equal : (s : List ℕ) → 1 ≤ length s → get_or s 0 0 ≡ 61 → Ok (record { value = S.Equal; bytes = 1 }) ≡ as_sign s (operator 0 s)
unfolding operator not_ended one_of stands begins
sign_equal [] h a = absurd (omega arith)
sign_equal (x ∷ t) h a = rw (a, took (x ∷ t) 1 h)

pub sign_none : (s : List ℕ) → 1 ≤ length s → (get_or s 0 0 ≡ 60 → ⊥) → (get_or s 0 0 ≡ 61 → ⊥) → (get_or s 0 0 ≡ 62 → ⊥)
    → Err F.Cond ≡ as_sign s (operator 0 s)
unfolding operator not_ended one_of stands begins
sign_none [] h a b c = absurd (omega arith)
sign_none (x ∷ t) h a b c =
    rw (begins, ne_eqb x 60 a, begins, ne_eqb x 62 c, begins, ne_eqb x 60 a, begins, ne_eqb x 61 b, begins, ne_eqb x 62 c)

-- the second byte is none
pub no_second : (s : List ℕ) → length s < 2 → get_or s 1 0 ≡ 61 → ⊥
no_second [] h e = let z : ◌≡◌ {A = ℕ} 0 61 = e in omega arith
no_second (x ∷ []) h e = let z : ◌≡◌ {A = ℕ} 0 61 = e in omega arith
no_second (x ∷ y ∷ t) h e = omega arith

pub ruleset signing = (sign_ended, sign_at_most, sign_at_least, sign_below, sign_equal, sign_above, sign_none, no_second)

-- what a sign's answer says
operator_of_lem : (o : Operator) → operator_of (sign_of o) ≡ o
operator_of_lem below = refl
operator_of_lem at_most = refl
operator_of_lem equal = refl
operator_of_lem at_least = refl
operator_of_lem above = refl

-- a sign and a number behind a field's name, which ends at `at`
abbrev a_sign : Operator → ℕ → Taken Sign
a_sign o n = record { value = sign_of o; bytes = n }

abbrev a_number : Written → ℕ → Taken ℕ
a_number w n = record { value = w.at; bytes = n }

abbrev a_leaf : Bool → Leaf → ℕ → Taken ℕ
a_leaf neg x n = record { value = leaf_word neg x; bytes = n }

numbers : (t : List ℕ) → Ends here (λ w n. w.at ≤ highest) number t
numbers t = ends_weaker (λ w n h. h.0) (number_ends t)

module _ (f : ℕ) (s : List ℕ) (at : ℕ) (h : at ≤ length s) (v : List ℕ) (ev : v ≡ drop at s) (o : Result (Taken Sign) Fault)
    (is : o ≡ as_sign v (operator 0 v)) where
  abbrev behind_sign : Operator → Reader Leaf
  behind_sign o = λ l t. after (number l t) (λ n. give (Leaf.compare (record { field = f; operator = o; number = n.at })))

  start : Left (comparison f 0 (drop at s)) (λ l t. after (operator l t) behind_sign) 0 at s
  start = record { within = h; is = refl }

  pub comparison_sign : (neg : Bool) (e : Fault) → o ≡ Err e → Err e ≡ as_leaf neg s (comparison f 0 (drop at s))
  comparison_sign neg e told = off_answer (a_leaf neg) s (piece_off a_sign fault_of (inline_ends operator_built) behind_sign start v ev o is e told)

  module _ (c : Taken Sign) (told : o ≡ Ok c) where
    next : Next a_sign (λ o n. Any o) (comparison f 0 (drop at s)) behind_sign 0 at s c
    next = piece_on a_sign fault_of (inline_ends operator_built) behind_sign start v ev o is c told

    sign_left : Left (comparison f 0 (drop at s)) (behind_sign (operator_of c.value)) 0 (at + c.bytes) s
    sign_left = rw (next.same, operator_of_lem next.value) next.left

    pub comparison_room : length s < 2 ^ 64 → (j : ℕ) → j ≡ at + c.bytes → Fits w64 j
    comparison_room l j e = record { fits = omega (arith, sign_left.within) }

    module _ (end : ℕ) (ee : end ≡ at + c.bytes) (u : List ℕ) (eu : u ≡ drop end s) (p : Result (Taken ℕ) Fault) (np : p ≡ as_number u (number 0 u)) where
      pub comparison_number : (neg : Bool) (e : Fault) → p ≡ Err e → Err e ≡ as_leaf neg s (comparison f 0 (drop at s))
      comparison_number neg e z = off_answer (a_leaf neg) s (piece_off a_number fault_of numbers _ sign_left u (eu ∙ rw ee) p np e z)

      module _ (x : Taken ℕ) (e : p ≡ Ok x) where
        second : Next a_number (λ w n. w.at ≤ highest) (comparison f 0 (drop at s))
            (λ n. give (Leaf.compare (record { field = f; operator = operator_of c.value; number = n.at }))) 0 (at + c.bytes) s x
        second = piece_on a_number fault_of numbers _ sign_left u (eu ∙ rw ee) p np x e

        pub comparison_last : length s < 2 ^ 64 → (j : ℕ) → j ≡ end + x.bytes → Fits w64 j
        comparison_last l j q = record { fits = omega (arith, second.left.within, ap (λ (t : Taken ℕ). t.bytes) second.same, ee) }

        pub comparison_small : x.value ≤ highest
        comparison_small = rw (ap (λ (t : Taken ℕ). t.value) second.same) second.holds

        pub comparison_good : (neg : Bool) (w m : ℕ) → w ≡ comparison_word neg f (operator_of c.value) x.value → m ≡ end + x.bytes
            → Ok (record { value = w; bytes = m }) ≡ as_leaf neg s (comparison f 0 (drop at s))
        unfolding leaf_word
        comparison_good neg w m ew em =
            let v : w ≡ comparison_word neg f (operator_of c.value) second.value.at =
            ew ∙ ap (λ (t : Taken ℕ). comparison_word neg f (operator_of c.value) t.value) second.same in
            let b : m ≡ at + c.bytes + second.bytes = omega (arith, em, ee, ap (λ (t : Taken ℕ). t.bytes) second.same) in
            left_piece (a_leaf neg) fault_of second.left (record { value = w; bytes = m }) (rw (v, b) refl)

pub ruleset comparing = (comparison_sign, comparison_number, comparison_good, comparison_room, comparison_last, comparison_small)

-- a table whole, of n names
whole : (l : List ℕ) (n : ℕ) → n ≡ length (names_in l) → take (n - 0) (drop 0 (kept_in l)) ≡ kept_in l
whole l n e = take_all (n - 0) (kept_in l) (omega (arith, kept_count l))

-- a name that is a field or none
module _ (neg : Bool) (s : List ℕ) (w : Taken Kept) (h : w.bytes ≤ length s) (leaves : ℕ) (fd : List ℕ)
    (m : ℕ) (all : m ≡ length (names_in fd)) (f : Option ℕ) (is : f ≡ found_in w.value (take (m - 0) (drop 0 (kept_in fd)))) where
  in_fields : f ≡ found_in w.value (kept_in fd)
  in_fields = is ∙ rw (whole fd m all)

  abbrev field_read : Got Leaf
  field_read = named_leaf leaves none (place_of (found_in w.value (kept_in fd))) 0 (drop w.bytes s)

  pub field_none : f ≡ None → Err F.Name ≡ as_leaf neg s field_read
  field_none e = sym (rw (← in_fields, e))

  module _ (i : ℕ) (e : f ≡ Some i) where
    pub field_small : length (names_in fd) ≤ field_limit → i < 32
    field_small g = let z = found_within (same_kept w.value) (kept_in fd) i (sym in_fields ∙ e) in omega (arith, kept_count fd)

    pub field_full : leaf_limit ≤ leaves → Err F.Full ≡ as_leaf neg s field_read
    field_full g = sym (rw (← in_fields, e, le-ltb leaves leaf_limit g))

    pub field_good : leaves < leaf_limit → (r : Result (Taken ℕ) Fault) → r ≡ as_leaf neg s (comparison i 0 (drop w.bytes s)) → r ≡ as_leaf neg s field_read
    field_good g r er = er ∙ sym (rw (← in_fields, e, lt-ltb leaves leaf_limit g))

pub ruleset fielding = (field_none, field_full, field_good, field_small)

-- a name that is a status or not
module _ (neg : Bool) (s : List ℕ) (w : Taken Kept) (h : w.bytes ≤ length s) (leaves : ℕ) (st fd : List ℕ)
    (m : ℕ) (all : m ≡ length (names_in st)) (x : Option ℕ) (is : x ≡ found_in w.value (take (m - 0) (drop 0 (kept_in st)))) where
  in_statuses : x ≡ found_in w.value (kept_in st)
  in_statuses = is ∙ rw (whole st m all)

  abbrev known_read : Got Leaf
  known_read = named_leaf leaves (place_of (found_in w.value (kept_in st))) (place_of (found_in w.value (kept_in fd))) 0 (drop w.bytes s)

  pub known_field : x ≡ None → (r : Result (Taken ℕ) Fault)
      → r ≡ as_leaf neg s (named_leaf leaves none (place_of (found_in w.value (kept_in fd))) 0 (drop w.bytes s)) → r ≡ as_leaf neg s known_read
  known_field e r er = er ∙ sym (rw (← in_statuses, e))

  module _ (i : ℕ) (e : x ≡ Some i) where
    pub known_small : length (names_in st) ≤ status_limit → i < 32
    known_small g = let z = found_within (same_kept w.value) (kept_in st) i (sym in_statuses ∙ e) in omega (arith, kept_count st)

    pub known_full : leaf_limit ≤ leaves → Err F.Full ≡ as_leaf neg s known_read
    known_full g = sym (rw (← in_statuses, e, le-ltb leaves leaf_limit g))

    pub known_good : leaves < leaf_limit → (b r : ℕ) → b ≡ bit neg → r ≡ word (2 + b) i 0
        → Ok (record { value = r; bytes = w.bytes }) ≡ as_leaf neg s known_read
    unfolding leaf_word
    known_good g b r eb er = sym (rw (← in_statuses, e, lt-ltb leaves leaf_limit g, took s w.bytes h, er, eb))

pub ruleset knowing = (known_field, known_full, known_good, known_small)

-- the leaf from its name on
module _ (neg : Bool) (s : List ℕ) (leaves : ℕ) (st fd : List ℕ) (p : Result (Taken Kept) Fault) (is : p ≡ as_name s (name 0 s)) where
  pub leaf_name : (e : Fault) → p ≡ Err e → Err e ≡ as_leaf neg s (read_leaf (names_in st) (names_in fd) leaves 0 s)
  unfolding read_leaf
  leaf_name e told = let h = name_wrong p s is e told in rw (h.is, h.reads 0)

  module _ (w : Taken Kept) (e : p ≡ Ok w) where
    pub leaf_room : w.bytes ≤ length s
    leaf_room = name_fits p s is w e

    pub leaf_known : (r : Result (Taken ℕ) Fault)
        → r ≡ as_leaf neg s (named_leaf leaves (place_of (found_in w.value (kept_in st))) (place_of (found_in w.value (kept_in fd))) 0 (drop w.bytes s))
        → r ≡ as_leaf neg s (read_leaf (names_in st) (names_in fd) leaves 0 s)
    unfolding read_leaf
    leaf_known r er = er ∙ sym (rw (name_got p s is w e 0, name_found p s is w e st, name_found p s is w e fd))

pub ruleset leafing = (leaf_name, leaf_known, leaf_room)
