-- The lines of reasons, piece by piece, in the form in which the functions' answers need them.
use Prim.Native.Nat.{ℕ, zero, suc, ◌+◌, ◌-◌, ◌*◌, ◌/◌, ◌%◌, ◌<◌, ◌≤◌}
use mathlib.Core.Path.{◌≡◌, refl, sym, ◌∙◌, ap, subst}
use mathlib.Core.List.{List, [], ◌∷◌, ◌++◌, append_assoc}
use native.Mathlib.Omega.{arith}
use borrow.Author.Tests.{eq-eqb, ne_eqb}
use lib.ListN.{length, take, drop, get_or, replicate}
use Rattle.meaning.specs.Limits.{status_limit}
use Rattle.meaning.specs.Text.{text, joined}
use Rattle.meaning.specs.Number.{decimal}
use Rattle.meaning.specs.Desk.{line_length}
use Rattle.meaning.specs.Clerk.{kind_words, parent_told}
use Rattle.name.specs.declared.Name.{Name as Kept}
use Rattle.name.specs.Names.{kept, name_of}
use Rattle.sheet_tables.specs.declared.Heads.{Heads}
use Rattle.sheet_tables.specs.Heads.{Sized}
use Rattle.theory.specs.Writing.Lent.{Wrote, Left, left_start, first_room, second_room, both_written}
use Rattle.desk_split.specs.Lines.{starts_from}
use Rattle.desk_print.proofs.Laws.{listing_room}
use Rattle.clerk_reasons.specs.Lines.{kind_of, kept_of, over_of, words_from, rule_text, told_text, key_text, reason_text, reasons_text, Held}

-- ONE OF SEVERAL TEXTS

-- a text that is known by what it is
module _ (at : ℕ) (w x o : List ℕ) (is : w ≡ x) where
  as_room : at + length w ≤ length o → at + length x ≤ length o
  as_room fits = rw is at fits

  as_done : (o1 : List ℕ) (r : ℕ) → Wrote at x o o1 r → Wrote at w o o1 r
  as_done o1 r v = subst (λ w. Wrote at w o o1 r) (sym is) v

-- the key with its sign
module _ (m : ℕ) where
  key_fell : m ≡ 2 → key_text m ≡ text "why=-"
  unfolding key_text
  key_fell e = rw (eq-eqb m 2 e)

  key_rose : (m ≡ 2 → ⊥) → key_text m ≡ text "why=+"
  unfolding key_text
  key_rose e = rw (ne_eqb m 2 e)

  module _ (at : ℕ) (o : List ℕ) where
    pub fell_room : at + length (key_text m) ≤ length o → m ≡ 2 → at + 5 ≤ length o
    fell_room fits e = as_room at (key_text m) (text "why=-") o (key_fell e) fits

    pub fell_done : m ≡ 2 → (o1 : List ℕ) (r : ℕ) → Wrote at (text "why=-") o o1 r → Wrote at (key_text m) o o1 r
    fell_done e = as_done at (key_text m) (text "why=-") o (key_fell e)

    pub rose_room : at + length (key_text m) ≤ length o → (m ≡ 2 → ⊥) → at + 5 ≤ length o
    rose_room fits e = as_room at (key_text m) (text "why=+") o (key_rose e) fits

    pub rose_done : (m ≡ 2 → ⊥) → (o1 : List ℕ) (r : ℕ) → Wrote at (text "why=+") o o1 r → Wrote at (key_text m) o o1 r
    rose_done e = as_done at (key_text m) (text "why=+") o (key_rose e)

pub ruleset keys = (fell_room, fell_done, rose_room, rose_done)

-- SEVERAL PIECES

-- what is told of a rule
module _ (l n : ℕ) (own : List ℕ) (at : ℕ) (o : List ℕ) (fits : at + length (rule_text l n own) ≤ length o) where
  abbrev kind : List ℕ
  kind = kind_words (kind_of n)

  abbrev from_kind : List ℕ
  from_kind = kind ++ ((58 ∷ []) ++ own)

  abbrev from_number : List ℕ
  from_number = (decimal l ++ (32 ∷ [])) ++ from_kind

  rule_whole : rule_text l n own ≡ text " line " ++ from_number
  unfolding rule_text
  rule_whole = simp append_assoc

  pub rule_key : at + 6 ≤ length o
  rule_key = first_room at (rule_text l n own) (text " line ") from_number o rule_whole fits

  module _ (o1 : List ℕ) (a : ℕ) (v1 : Wrote at (text " line ") o o1 a) where
    fits_1 : a + length from_number ≤ length o1
    fits_1 = second_room at (rule_text l n own) (text " line ") from_number o rule_whole fits o1 a v1

    pub rule_number : a + length (decimal l ++ (32 ∷ [])) ≤ length o1
    rule_number = first_room a from_number (decimal l ++ (32 ∷ [])) from_kind o1 refl fits_1

    module _ (o2 : List ℕ) (b : ℕ) (v2 : Wrote a (decimal l ++ (32 ∷ [])) o1 o2 b) where
      fits_2 : b + length from_kind ≤ length o2
      fits_2 = second_room a from_number (decimal l ++ (32 ∷ [])) from_kind o1 refl fits_1 o2 b v2

      pub rule_kind : b + length (kind_words (kind_of n)) ≤ length o2
      rule_kind = first_room b from_kind kind ((58 ∷ []) ++ own) o2 refl fits_2

      module _ (o3 : List ℕ) (c : ℕ) (v3 : Wrote b (kind_words (kind_of n)) o2 o3 c) where
        fits_3 : c + length ((58 ∷ []) ++ own) ≤ length o3
        fits_3 = second_room b from_kind kind ((58 ∷ []) ++ own) o2 refl fits_2 o3 c v3

        pub rule_colon : c + 1 ≤ length o3
        rule_colon = first_room c ((58 ∷ []) ++ own) (58 ∷ []) own o3 refl fits_3

        module _ (o4 : List ℕ) (d : ℕ) (v4 : Wrote c (58 ∷ []) o3 o4 d) where
          pub rule_own : d + length own ≤ length o4
          rule_own = second_room c ((58 ∷ []) ++ own) (58 ∷ []) own o3 refl fits_3 o4 d v4

          pub rule_done : (o5 : List ℕ) (r : ℕ) → Wrote d own o4 o5 r → Wrote at (rule_text l n own) o o5 r
          rule_done o5 r v5 =
              let w3 = both_written c ((58 ∷ []) ++ own) (58 ∷ []) own o3 refl fits_3 o4 d v4 o5 r v5 in
              let w2 = both_written b from_kind kind ((58 ∷ []) ++ own) o2 refl fits_2 o3 c v3 o5 r w3 in
              let w1 = both_written a from_number (decimal l ++ (32 ∷ [])) from_kind o1 refl fits_1 o2 b v2 o5 r w2 in
              both_written at (rule_text l n own) (text " line ") from_number o rule_whole fits o1 a v1 o5 r w1

pub ruleset ruling = (rule_key, rule_number, rule_kind, rule_colon, rule_own, rule_done)

-- what is told of a closing
module _ (p : Kept) (at : ℕ) (o : List ℕ) (fits : at + length (parent_told (name_of p)) ≤ length o) where
  parent_whole : parent_told (name_of p) ≡ text " parent " ++ (name_of p ++ text " closed\n")
  unfolding parent_told
  parent_whole = simp append_assoc

  pub parent_key : at + 8 ≤ length o
  parent_key = first_room at (parent_told (name_of p)) (text " parent ") (name_of p ++ text " closed\n") o parent_whole fits

  module _ (o1 : List ℕ) (a : ℕ) (v1 : Wrote at (text " parent ") o o1 a) where
    name_fits : a + length (name_of p ++ text " closed\n") ≤ length o1
    name_fits = second_room at (parent_told (name_of p)) (text " parent ") (name_of p ++ text " closed\n") o parent_whole fits o1 a v1

    pub parent_name : a + length (name_of p) ≤ length o1
    parent_name = first_room a (name_of p ++ text " closed\n") (name_of p) (text " closed\n") o1 refl name_fits

    module _ (o2 : List ℕ) (b : ℕ) (v2 : Wrote a (name_of p) o1 o2 b) where
      pub parent_closed : b + 8 ≤ length o2
      parent_closed = second_room a (name_of p ++ text " closed\n") (name_of p) (text " closed\n") o1 refl name_fits o2 b v2

      pub parent_done : (o3 : List ℕ) (r : ℕ) → Wrote b (text " closed\n") o2 o3 r → Wrote at (parent_told (name_of p)) o o3 r
      parent_done o3 r v3 =
          both_written at (parent_told (name_of p)) (text " parent ") (name_of p ++ text " closed\n") o parent_whole fits o1 a v1 o3 r
          (both_written a (name_of p ++ text " closed\n") (name_of p) (text " closed\n") o1 refl name_fits o2 b v2 o3 r v3)

pub ruleset closing = (parent_key, parent_name, parent_closed, parent_done)

-- WHAT IS LOOKED UP

pub over_none : (h : Heads) (u : ℕ) → u ≡ 0 → (r : Kept) → r ≡ kept [] → r ≡ over_of h u
over_none h u e r q = q ∙ sym (rw e)

pub over_some : (h : Heads) (u : ℕ) → (u ≡ 0 → ⊥) → (p : ℕ) → p ≡ u - 1 → (r : Kept) → r ≡ kept_of h p → r ≡ over_of h u
over_some h zero z p e r q = absurd (z refl)
over_some h (suc u) z p e r q = let y : suc u - 1 ≡ u = omega arith in q ∙ ap (kept_of h) (e ∙ y)

pub ruleset overs = (over_none, over_some)

pub words_are : (s here : List ℕ) (at : ℕ) → here ≡ drop at s → (e : ℕ) → e ≡ line_length here → (n k : ℕ) → k ≡ 6 + n
    → (r : List ℕ) → r ≡ drop k (take e here) → r ≡ words_from s at n
unfolding words_from
words_are s here at is e end n k z r q = q ∙ rw (z, end, is)

-- WHAT IS TOLD

-- a parent's code is a place among the stages and 1 more
pub parent_few : (h : Heads) → Sized h → (x u : ℕ) → u ≡ get_or h.under x 0 → u ≤ status_limit
parent_few h sized x u e = omega (arith, sized.under_stage x, sized.few_statuses)

module _ (s starts : List ℕ) (h : Heads) (n x : ℕ) (status : x ≡ n / 10000) where
  -- the closing
  module _ (two : n % 10 ≡ 2) (u : ℕ) (under : u ≡ get_or h.under x 0) (p : Kept) (over : p ≡ over_of h u) where
    closing_is : told_text s starts h n ≡ parent_told (name_of p)
    unfolding told_text
    closing_is = rw (eq-eqb (n % 10) 2 two, over, under, status)

    pub told_parent : (at : ℕ) (o : List ℕ) → at + length (told_text s starts h n) ≤ length o → at + length (parent_told (name_of p)) ≤ length o
    told_parent at o = as_room at (told_text s starts h n) (parent_told (name_of p)) o closing_is

    pub told_closed : (at : ℕ) (o o1 : List ℕ) (r : ℕ) → Wrote at (parent_told (name_of p)) o o1 r → Wrote at (told_text s starts h n) o o1 r
    told_closed at o = as_done at (told_text s starts h n) (parent_told (name_of p)) o closing_is

  -- a rule
  module _ (other : n % 10 ≡ 2 → ⊥) (l : ℕ) (line : l ≡ n % 10000 / 10) (name : Kept) (called : name ≡ kept_of h x) (k : ℕ) (long : k ≡ length (name_of name))
      (own : List ℕ) (words : own ≡ words_from s (get_or starts l 0) k) (kind : ℕ) (last : kind ≡ n % 10) where
    rule_is : told_text s starts h n ≡ rule_text l kind own
    unfolding told_text
    rule_is = rw (ne_eqb (n % 10) 2 other, words, long, called, line, last, status)

    pub told_rule : (at : ℕ) (o : List ℕ) → at + length (told_text s starts h n) ≤ length o → at + length (rule_text l kind own) ≤ length o
    told_rule at o = as_room at (told_text s starts h n) (rule_text l kind own) o rule_is

    pub told_ruled : (at : ℕ) (o o1 : List ℕ) (r : ℕ) → Wrote at (rule_text l kind own) o o1 r → Wrote at (told_text s starts h n) o o1 r
    told_ruled at o = as_done at (told_text s starts h n) (rule_text l kind own) o rule_is

pub ruleset telling = (parent_few, told_parent, told_closed, told_rule, told_ruled)

-- A LINE

-- up to the name of the status
module _ (m : ℕ) (n : Kept) (at : ℕ) (o : List ℕ) (fits : at + length (key_text m ++ name_of n) ≤ length o) where
  pub head_key : at + length (key_text m) ≤ length o
  head_key = first_room at (key_text m ++ name_of n) (key_text m) (name_of n) o refl fits

  module _ (o1 : List ℕ) (a : ℕ) (v : Wrote at (key_text m) o o1 a) where
    pub head_name : a + length (name_of n) ≤ length o1
    head_name = second_room at (key_text m ++ name_of n) (key_text m) (name_of n) o refl fits o1 a v

    pub head_done : (o2 : List ℕ) (r : ℕ) → Wrote a (name_of n) o1 o2 r → Wrote at (key_text m ++ name_of n) o o2 r
    head_done = both_written at (key_text m ++ name_of n) (key_text m) (name_of n) o refl fits o1 a v

pub ruleset heading = (head_key, head_name, head_done)

-- and the whole
module _ (s starts : List ℕ) (h : Heads) (marks : List ℕ) (n at : ℕ) (o : List ℕ) (x : ℕ) (name : Kept) where
  abbrev head : List ℕ
  head = key_text (get_or marks x 0) ++ name_of name

  abbrev told : List ℕ
  told = told_text s starts h n

  line_whole : x ≡ n / 10000 → name ≡ kept_of h x → reason_text s starts h marks n ≡ head ++ told
  unfolding reason_text
  line_whole status called = rw (called, status)

  pub line_head : x ≡ n / 10000 → name ≡ kept_of h x → at + length (reason_text s starts h marks n) ≤ length o
      → at + length (key_text (get_or marks x 0) ++ name_of name) ≤ length o
  line_head status called fits = first_room at (reason_text s starts h marks n) head told o (line_whole status called) fits

  module _ (o1 : List ℕ) (a : ℕ) (v : Wrote at (key_text (get_or marks x 0) ++ name_of name) o o1 a) (status : x ≡ n / 10000) (called : name ≡ kept_of h x)
      (fits : at + length (reason_text s starts h marks n) ≤ length o) where
    pub line_told : a + length (told_text s starts h n) ≤ length o1
    line_told = second_room at (reason_text s starts h marks n) head told o (line_whole status called) fits o1 a v

    pub line_done : (o2 : List ℕ) (r : ℕ) → Wrote a (told_text s starts h n) o1 o2 r → Wrote at (reason_text s starts h marks n) o o2 r
    line_done = both_written at (reason_text s starts h marks n) head told o (line_whole status called) fits o1 a v

pub ruleset lining = (line_head, line_told, line_done)

-- ALL LINES

pub held_at : (ns : List ℕ) → Held ns → (i : ℕ) → get_or ns i 0 < status_limit * 10000
held_at ns h i = h i

module _ (s starts : List ℕ) (h : Heads) (marks ns o₀ : List ℕ) where
  abbrev line : ℕ → List ℕ
  line = reason_text s starts h marks

  -- the lines begin at the start of the space
  pub lines_start : length (joined (reason_text s starts h marks) ns) ≤ length o₀
      → Left 0 (joined (reason_text s starts h marks) ns) o₀ 0 (joined (reason_text s starts h marks) (drop 0 ns)) o₀
  lines_start h = left_start 0 (joined line ns) o₀ (omega arith)

  pub lines_room : (at i : ℕ) (o : List ℕ) → Left 0 (joined (reason_text s starts h marks) ns) o₀ at (joined (reason_text s starts h marks) (drop i ns)) o
      → i < length ns → at + length (reason_text s starts h marks (get_or ns i 0)) ≤ length o
  lines_room at i o l h = listing_room line 0 ns o₀ at i o l h

pub ruleset all = (held_at, lines_start, lines_room)

-- THE SHEET'S LINES

-- the starts as they are found
module _ (s starts : List ℕ) (found : starts ≡ take 1 (replicate 1000 0) ++ starts_from (length (replicate {A = ℕ} 1000 0) - 1) 0 s)
    (h : Heads) (marks ns o : List ℕ) where
  pub found_room : length (reasons_text s h marks ns) ≤ length o → length (joined (reason_text s starts h marks) ns) ≤ length o
  unfolding reasons_text
  found_room fits = rw found fits

  pub found_done : (o1 : List ℕ) (r : ℕ) → Wrote 0 (joined (reason_text s starts h marks) ns) o o1 r → Wrote 0 (reasons_text s h marks ns) o o1 r
  unfolding reasons_text
  found_done o1 r v = rw found at v

pub ruleset finding = (found_room, found_done)
