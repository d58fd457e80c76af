-- The lines behind the next card, one after another: tasks, patterns, the outlook.
use Prim.Native.Nat.{ℕ, zero, suc, ◌+◌, ◌-◌, ◌*◌, ◌/◌, ◌<◌, ◌≤◌}
use mathlib.Core.Path.{◌≡◌, refl, sym, ◌∙◌, ap}
use mathlib.Core.List.{List, [], ◌∷◌, ◌++◌}
use native.Mathlib.Omega.{arith}
use native.Mathlib.Numerals.{add-one}
use lib.ListN.{length, length-append, get_or, take, drop}
use Rattle.meaning.specs.Text.{joined}
use Rattle.meaning.specs.Refusal.{Answer, taken, refused}
use Rattle.meaning.specs.Name.{Name}
use Rattle.meaning.specs.Write.{line}
use Rattle.meaning.specs.Desk.{outlook_lines}
use Rattle.limits.specs.Sizes.{name_room}
use Rattle.name.specs.declared.Name.{Name as Kept}
use Rattle.name.specs.Names.{name_of, names_in, name_at, spell_room}
use Rattle.name.proofs.Tables.{name_at_lem}
use Rattle.theory.specs.Writing.Lent.{Wrote, Left, left_start, left_end, left_room, left_more}
use Rattle.step_sheet.specs.declared.Accepted.{Accepted}
use Rattle.step_test.specs.declared.Moment.{Moment}
use Rattle.std.specs.Prelude.{Option, Some, None}
use Rattle.outlook_case.specs.Patterns.{answer_of, as_listed, list_space}
use Rattle.outlook_case.proofs.Callers.{answer_few, listed_many, listed_taken}
use Rattle.desk_rooms.specs.Rooms.{pattern_line, list_room}
use Rattle.desk_print.specs.Lines.{start_text, pattern_text, many_text}
use Rattle.desk_print.proofs.Laws.{listing_room}
use Rattle.desk_print.proofs.Callers.{start_few, pattern_few}
use Rattle.desk_output.specs.Texts.{starts_text}

-- TASKS

starts_over : (names : List Name) (i n t : ℕ) → n ≤ 0 → starts_text names i n t ≡ []
unfolding starts_text
starts_over names i zero t h = refl
starts_over names i (suc n) t h = absurd (omega arith)

starts_next : (names : List Name) (i n t : ℕ) → 0 < n → starts_text names i n t ≡ start_text (get_or names i []) t ++ starts_text names (i + 1) (n - 1) (t / 2)
unfolding starts_text
starts_next names i zero t h = absurd (omega arith)
starts_next names i (suc n) t h = let z : suc n - 1 ≡ n = omega arith in rw (add-one, z)

pub starts_few : (names : List ℕ) (i n t : ℕ) → length (starts_text (names_in names) i n t) ≤ n * (spell_room + 7)
unfolding starts_text
starts_few names i zero t = omega arith
starts_few names i (suc n) t =
    let one : length (start_text (get_or (names_in names) i []) t) ≤ spell_room + 7 = rw (← name_at_lem names i) (start_few (name_at names i) t) in
    omega (
      arith,
      one,
      starts_few names (suc i) n (t / 2),
      length-append (start_text (get_or (names_in names) i []) t)
          (starts_text (names_in names) (suc i) n (t / 2)),
    )

-- what is still to be written is the lines of the names that are left
pub record Starting (at₀ : ℕ) (names : List ℕ) (first count tasks : ℕ) (o₀ : List ℕ) (at i left t : ℕ) (o : List ℕ) : Type 0 where
  pub within : i + left ≤ name_room
  pub lines : Left at₀ (starts_text (names_in names) first count tasks) o₀ at (starts_text (names_in names) i left t) o

pub starting_start : (at : ℕ) (names : List ℕ) (first count tasks : ℕ) (o : List ℕ) → first + count ≤ name_room
    → at + length (starts_text (names_in names) first count tasks) ≤ length o → Starting at names first count tasks o at first count tasks o
starting_start at names first count tasks o h g = record { within = h; lines = left_start at (starts_text (names_in names) first count tasks) o g }

module _ (at₀ : ℕ) (names : List ℕ) (first count tasks : ℕ) (o₀ : List ℕ) (at i left t : ℕ) (o : List ℕ)
    (inv : Starting at₀ names first count tasks o₀ at i left t o) where
  abbrev all : List ℕ
  all = starts_text (names_in names) first count tasks

  abbrev rest : List ℕ
  rest = starts_text (names_in names) i left t

  pub starting_long : length o ≡ length o₀
  starting_long = inv.lines.long

  pub starting_end : left ≤ 0 → Wrote at₀ (starts_text (names_in names) first count tasks) o₀ o at
  starting_end h = left_end at₀ all o₀ at rest o inv.lines (starts_over (names_in names) i left t h)

  module _ (h : 0 < left) where
    pub starting_in : i + 1 ≤ name_room
    starting_in = omega (arith, inv.within)

    module _ (w : Kept) (is : w ≡ name_at names i) where
      abbrev more : List ℕ
      more = starts_text (names_in names) (i + 1) (left - 1) (t / 2)

      next_is : rest ≡ start_text (name_of w) t ++ more
      next_is = starts_next (names_in names) i left t h ∙ ap (λ n. start_text n t ++ more) (sym (ap name_of is ∙ name_at_lem names i))

      pub starting_room : at + length (start_text (name_of w) t) ≤ length o
      starting_room = left_room at₀ all o₀ at rest o inv.lines (start_text (name_of w) t) more next_is

      pub starting_more : (o1 : List ℕ) (b : ℕ) → Wrote at (start_text (name_of w) t) o o1 b → (j k u : ℕ) → j ≡ i + 1 → k ≡ left - 1 → u ≡ t / 2
          → Starting at₀ names first count tasks o₀ b j k u o1
      starting_more o1 b v j k u p q r = record {
        within = omega (arith, inv.within);
        lines = rw (p, q, r) (left_more at₀ all o₀ at rest o inv.lines (start_text (name_of w) t) more next_is o1 b v);
      }

pub ruleset starting = (starting_start, starting_long, starting_end, starting_in, starting_room, starting_more)

-- PATTERNS

patterns_few : (ps : List ℕ) → length (joined pattern_text ps) ≤ length ps * pattern_line
unfolding joined
patterns_few [] = omega arith
patterns_few (p ∷ ps) = omega (arith, patterns_few ps, pattern_few p, length-append (pattern_text p) (joined pattern_text ps))

pub patterns_room : (at₀ : ℕ) (ps o₀ : List ℕ) (at i : ℕ) (o : List ℕ) → Left at₀ (joined pattern_text ps) o₀ at (joined pattern_text (drop i ps)) o
    → i < length ps
    → at + length (pattern_text (get_or ps i 0)) ≤ length o
patterns_room = listing_room pattern_text

-- THE OUTLOOK

module _ (a : Accepted) (m : Moment) where
  pub listed_few : length (outlook_lines (answer_of a m)) ≤ list_room
  unfolding outlook_lines line
  listed_few = go (answer_of a m) refl
    where
      go : (x : Answer (List ℕ)) → answer_of a m ≡ x → length (outlook_lines x) ≤ list_room
      go (taken ps) e = omega (arith, patterns_few ps, answer_few a m ps e)
      go (refused n p l) e = omega arith

  -- what is listed tells whether there are too many, and the array then holds the list
  module _ (l : Option ℕ) (told : l ≡ as_listed a m) where
    pub outlook_many : l ≡ None → (at : ℕ) (o o1 : List ℕ) (q : ℕ) → Wrote at many_text o o1 q → Wrote at (outlook_lines (answer_of a m)) o o1 q
    unfolding outlook_lines
    outlook_many z at o o1 q v = rw (listed_many a m l told z) v

    module _ (n : ℕ) (z : l ≡ Some n) (was ps : List ℕ) (space : ps ≡ list_space a m was) where
      listed_is : outlook_lines (answer_of a m) ≡ joined pattern_text (take n ps)
      unfolding outlook_lines
      listed_is = ap outlook_lines (listed_taken a m l told n z was ps space)

      pub outlook_room : (at : ℕ) (o : List ℕ) → at + list_room ≤ length o → at + length (joined pattern_text (take n ps)) ≤ length o
      outlook_room at o fits = rw (← listed_is) (omega (arith, listed_few))

      pub outlook_list : (at : ℕ) (o o1 : List ℕ) (q : ℕ) → Wrote at (joined pattern_text (take n ps)) o o1 q → Wrote at (outlook_lines (answer_of a m)) o o1 q
      outlook_list at o o1 q v = rw listed_is v

pub outlook_many_room : (at : ℕ) (o : List ℕ) → at + list_room ≤ length o → at + length many_text ≤ length o
unfolding line
outlook_many_room at o fits = omega arith

pub ruleset outlooking = (outlook_many_room, outlook_many, outlook_room, outlook_list)
