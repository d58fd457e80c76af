-- Laws of the end of a rule's line: its condition, if it has one, and the LF.
use Prim.Native.Nat.{ℕ, suc, ◌+◌, ◌*◌, ◌^◌, ◌≤◌, ◌<◌}
use mathlib.Core.Path.{◌≡◌, refl, sym, ◌∙◌, ap}
use mathlib.Core.Bool.{Bool, true, false, not}
use mathlib.Core.List.{List}
use mathlib.Core.Option.{Option, none, some}
use native.Mathlib.Omega.{arith}
use borrow.Author.Tests.{not-true, not-false}
use lib.ListN.{length, take, drop}
use lib.Seq.{sets}
use mir.Val.{Fits}
use mir.Syntax.{w64}
use Rattle.std.specs.Prelude.{Result, Ok, Err}
use Rattle.meaning.specs.Text.{text, begins}
use Rattle.meaning.specs.Refusal.{LINE, COND}
use Rattle.meaning.specs.Limits.{leaf_limit}
use Rattle.meaning.specs.Reading.{Got, got, wrong, Reader, after, give, choose, line_end, due}
use Rattle.meaning.specs.Name.{Name}
use Rattle.meaning.specs.Condition.{Cond, leaves_c}
use Rattle.meaning.specs.Sheet.{leaves_of}
use Rattle.meaning.specs.ReadCondition.{condition}
use Rattle.meaning.specs.ReadSheet.{plain_end, asked_end, ending}
use Rattle.limits.specs.Sizes.{word_room}
use Rattle.theory.specs.Lists.Members.{take_sets}
use Rattle.theory.specs.Reading.Built.{line_fault, cond_fault, demand_built, stands_built}
use Rattle.theory.specs.Reading.Built as Built
use Rattle.theory.specs.Papers.Conditions.{Good}
use Rattle.theory.specs.Reading.Answered.{here, Ends, inline_ends, ends_after, ends_map, line_ends, Left}
use Rattle.theory.specs.Reading.Piece.{Refuses, Off, off_answer, left_piece, Next, piece_on, piece_off}
use Rattle.reply.specs.declared.Fault.{Fault}
use Rattle.reply.specs.declared.Fault.TheVariants as F
use Rattle.reply.specs.Faults.{fault_of}
use Rattle.text.specs.Pieces.{as_length}
use Rattle.text.proofs.Callers.{begins_fits, stands_here, stands_not}
use Rattle.cond_value.specs.Flat.{words}
use Rattle.cond_value.proofs.Size.{words_length}
use Rattle.cond_item.specs.declared.Place.{Place}
use Rattle.cond_item.specs.Answers.{Stored}
use Rattle.cond_item.specs.Answers.{place_at, further}
use Rattle.cond_item.proofs.Callers.{cleared_below}
use Rattle.cond_item.proofs.Callers.{Placed, placed, unplaced, place_within, place_further}
use Rattle.cond_read.specs.Answers.{stored}
use Rattle.cond_read.specs.Answers.{as_condition}
use Rattle.cond_read.proofs.Callers.{condition_ends}
use Rattle.sheet_tables.specs.Rules.{words_of}
use Rattle.sheet_rule.specs.Parts.{as_ending}

-- the LF that is due, as the end of the line
abbrev next_line : Reader (Unit {0})
next_line l s = got tt (suc l) s

line_told : (k : ℕ) (u : List ℕ) → as_length u (due k (text "\n") 0 u) ≡ as_length u (line_end k 0 u)
unfolding line_end
line_told k u = go (due k (text "\n") 0 u)
  where
    go : (g : Got (Unit {0})) → as_length u g ≡ as_length u (after g (λ _. next_line))
    go (got a l t) = refl
    go (wrong n l) = refl

-- LINES WITHOUT A CONDITION
module _ (s : List ℕ) (top leaves : ℕ) (on : Bool) where
  pub plain_bare : not on ≡ true → Err F.Line ≡ as_ending s top leaves (plain_end on 0 s)
  unfolding plain_end
  plain_bare e = rw (not-true on e)

  module _ (fired : not on ≡ false) (p : Result ℕ Fault) (is : p ≡ as_length s (due LINE (text "\n") 0 s)) where
    opened : Left (plain_end on 0 s) (λ l s. after (line_end LINE l s) (λ _. give none)) 0 0 s
    unfolding plain_end
    opened = record { within = omega arith; is = rw (not-false on fired) }

    pub plain_open : (e : Fault) → p ≡ Err e → Err e ≡ as_ending s top leaves (plain_end on 0 s)
    plain_open e q =
        let off = piece_off (λ a n. n) fault_of (line_ends line_fault) _ opened s refl p (is ∙ line_told LINE s) e q in
        off_answer (place_at words_of leaves_of top leaves) s off

    pub plain_read : (n : ℕ) → p ≡ Ok n → Ok (record { bytes = n; top = top; leaves = leaves }) ≡ as_ending s top leaves (plain_end on 0 s)
    unfolding words_of leaves_of
    plain_read n q =
        let h = piece_on (λ a n. n) fault_of (line_ends line_fault) _ opened s refl p (is ∙ line_told LINE s) n q in
        let a : n ≡ 0 + h.bytes = omega (arith, h.same) in
        let b : top ≡ top + 0 = omega arith in
        let c : leaves ≡ leaves + 0 = omega arith in
        left_piece (place_at words_of leaves_of top leaves) fault_of h.left (record { bytes = n; top = top; leaves = leaves }) cc

pub ruleset plainly = (plain_bare, plain_open, plain_read)

-- WHAT ENDS A LINE: a condition whose leaves are few with those before, and so are its words; or none
abbrev pub Few : ℕ → Option Cond → ℕ → Type 0
Few l c n = (l ≤ leaf_limit → l + length (leaves_of c) ≤ leaf_limit) × (length (words_of c) ≤ 2 * length (leaves_of c))

closed_ends : {k : ℕ} → Built.Fault k → (l : ℕ) (c : Option Cond) → Few l c 0 → (s : List ℕ)
    → Ends suc (Few l) (λ l s. after (line_end k l s) (λ _. give c)) s
closed_ends h l c few s = ends_map (λ _. c) (λ u n e. few) (line_ends h s)

module _ (fs ss : List Name) (leaves : ℕ) where
  abbrev asks : Reader Cond
  asks = condition ss fs leaves

  abbrev asked : Reader (Option Cond)
  asked = asked_end fs ss leaves

  abbrev closes : Cond → Reader (Option Cond)
  closes c = λ l s. after (line_end COND l s) (λ _. give (some c))

  asked_ends : (s : List ℕ) → Ends suc (Few leaves) asked s
  unfolding asked_end leaves_of words_of
  asked_ends s = ends_after (Few leaves) closes (condition_ends ss fs leaves s) λ c n h.
      closed_ends cond_fault leaves (some c) ((λ _. h.few), omega (arith, words_length c)) (drop n s)

  -- LINES WITH A CONDITION
  module _ (s : List ℕ) (top : ℕ) (r : Result Place Fault) (is : r ≡ as_condition s top leaves (asks 0 s))
      (was now : List ℕ) (space : now ≡ stored was top (asks 0 s)) where
    module _ (e : Fault) (told : r ≡ Err e) where
      unasked : Refuses fault_of asks s e
      unasked = unplaced words leaves_c (condition_ends ss fs leaves s) top leaves r is e told

      pub asked_refused : Err e ≡ as_ending s top leaves (asked 0 s)
      unfolding asked_end
      asked_refused = rw (unasked.is, unasked.reads 0)

      pub asked_refused_space : top ≤ 2 * leaves → leaves ≤ leaf_limit → word_room ≤ length was → Stored words_of was now top (asked 0 s)
      unfolding asked_end
      asked_refused_space few small wide =
          rw (unasked.reads 0) (ap (take top) (space ∙ rw (unasked.reads 0)) ∙ cleared_below was top (omega arith))

    module _ (p : Place) (told : r ≡ Ok p) where
      read : Placed words leaves_c here (λ c n. Good ss fs leaves (leaves_c c)) asks s top leaves p
      read = placed words leaves_c (condition_ends ss fs leaves s) top leaves r is p told

      came : Left (asked 0 s) (closes read.value) 0 p.bytes s
      unfolding asked_end
      came = record { within = read.within; is = rw (read.reads 0) }

      stores : now ≡ sets was top (words read.value)
      stores = space ∙ rw (read.reads 0)

      module _ (u : List ℕ) (at : u ≡ drop p.bytes s) (d : Result ℕ Fault) (end : d ≡ as_length u (due COND (text "\n") 0 u)) where
        line : d ≡ as_length u (line_end COND 0 u)
        line = end ∙ line_told COND u

        module _ (e : Fault) (not_due : d ≡ Err e) where
          open_end : Off fault_of (asked 0 s) 0 e
          open_end = piece_off (λ a n. n) fault_of (line_ends cond_fault) _ came u at d line e not_due

          pub asked_open : Err e ≡ as_ending s top leaves (asked 0 s)
          asked_open = off_answer (place_at words_of leaves_of top leaves) s open_end

          pub asked_open_space : Stored words_of was now top (asked 0 s)
          asked_open_space = rw open_end.told (ap (take top) stores ∙ take_sets top (words read.value) was top (omega arith))

        module _ (n : ℕ) (due_here : d ≡ Ok n) where
          closed : Next {A = Unit {0}} (λ a n. n) (λ u n. n ≡ 1) (asked 0 s) (λ _. give (some read.value)) 1 p.bytes s n
          closed = piece_on (λ a n. n) fault_of (line_ends cond_fault) _ came u at d line n due_here

          pub asked_fits : length s < 2 ^ 64 → (m : ℕ) → m ≡ p.bytes + n → Fits w64 m
          asked_fits big m w = omega (arith, closed.left.within, closed.same)

          pub asked_read : (m : ℕ) → m ≡ p.bytes + n
              → Ok (record { bytes = m; top = p.top; leaves = p.leaves }) ≡ as_ending s top leaves (asked 0 s)
          unfolding leaves_of words_of
          asked_read m w =
              let t = read.top_is in
              let v = read.leaves_is in
              let a : m ≡ p.bytes + closed.bytes = omega (arith, closed.same) in
              left_piece (place_at words_of leaves_of top leaves) fault_of closed.left (record { bytes = m; top = p.top; leaves = p.leaves }) cc

          pub asked_space : Stored words_of was now top (asked 0 s)
          unfolding words_of
          asked_space = rw closed.left.is stores

pub ruleset asking = (asked_refused, asked_refused_space, asked_open, asked_open_space, asked_fits, asked_read, asked_space)

-- BOTH: with ` if `, and without it
module _ (fs ss : List Name) (on : Bool) (leaves : ℕ) where
  abbrev whole : Reader (Option Cond)
  whole = ending fs ss on leaves

  ending_plain : (l : ℕ) (s : List ℕ) → begins (text " if ") s ≡ false → whole l s ≡ plain_end on l s
  unfolding ending
  ending_plain l s e = rw (stands_not (text " if ") l s (begins (text " if ") s) refl e)

  ending_asked : (l : ℕ) (s : List ℕ) → begins (text " if ") s ≡ true → whole l s ≡ asked fs ss leaves l (drop 4 s)
  unfolding ending
  ending_asked l s e = rw (stands_here (text " if ") l s (begins (text " if ") s) refl e)

  plain_ends : (s : List ℕ) → Ends suc (Few leaves) (plain_end on) s
  unfolding plain_end leaves_of words_of
  plain_ends s = ends_after (Few leaves) _ (inline_ends (demand_built on line_fault) s) λ _ n _.
      closed_ends line_fault leaves none ((λ few. omega arith), omega arith) (drop n s)

  either_ends : (b : Bool) (s : List ℕ) → Ends suc (Few leaves) (choose b (asked fs ss leaves) (plain_end on)) s
  either_ends true s = asked_ends fs ss leaves s
  either_ends false s = plain_ends s

  pub ending_ends : (s : List ℕ) → Ends suc (Few leaves) whole s
  unfolding ending
  ending_ends s = ends_after (Few leaves) _ (inline_ends (stands_built (text " if ")) s) λ b n _. either_ends b (drop n s)

  module _ (s : List ℕ) (top : ℕ) (b : Bool) (is : b ≡ begins (text " if ") s) where
    module _ (e : not b ≡ true) where
      pub ending_without : (r : Result Place Fault) → r ≡ as_ending s top leaves (plain_end on 0 s) → r ≡ as_ending s top leaves (whole 0 s)
      ending_without r q = q ∙ rw (ending_plain 0 s (sym is ∙ not-true b e))

      pub ending_without_space : (was : List ℕ) → Stored words_of was was top (whole 0 s)
      unfolding plain_end words_of
      ending_without_space was = rw (ending_plain 0 s (sym is ∙ not-true b e)) (go on)
        where
          ends : (g : Got (Unit {0})) → Stored words_of was was top (after g (λ _. give none))
          ends (got u l t) = refl
          ends (wrong n l) = refl

          go : (on : Bool) → Stored words_of was was top (plain_end on 0 s)
          go true = ends (line_end LINE 0 s)
          go false = refl

    module _ (e : not b ≡ false) (v : List ℕ) (at : v ≡ drop 4 s) where
      same : whole 0 s ≡ asked fs ss leaves 0 v
      same = rw at (ending_asked 0 s (sym is ∙ not-false b e))

      pub ending_space : (was now : List ℕ) → Stored words_of was now top (asked fs ss leaves 0 v) → Stored words_of was now top (whole 0 s)
      ending_space was now h = rw same h

      module _ (c : Result Place Fault) (so : c ≡ as_ending v top leaves (asked fs ss leaves 0 v)) where
        key : 4 ≤ length s
        key = begins_fits (text " if ") s (sym is ∙ not-false b e)

        told_further : further 4 c ≡ as_ending s top leaves (whole 0 s)
        told_further = rw same (place_further words_of leaves_of 4 s v at key (asked_ends fs ss leaves v) top leaves c so)

        pub ending_refused : (e : Fault) → c ≡ Err e → Err e ≡ as_ending s top leaves (whole 0 s)
        ending_refused e told = rw told at told_further

        module _ (p : Place) (told : c ≡ Ok p) where
          within : 4 + p.bytes ≤ length s
          within = rw told at (place_within words_of leaves_of 4 s v at key (asked_ends fs ss leaves v) top leaves c so)

          pub ending_fits : length s < 2 ^ 64 → (m : ℕ) → m ≡ 4 + p.bytes → Fits w64 m
          ending_fits big m w = omega (arith, within)

          pub ending_read : (m : ℕ) → m ≡ 4 + p.bytes → Ok (record { bytes = m; top = p.top; leaves = p.leaves }) ≡ as_ending s top leaves (whole 0 s)
          ending_read m w = rw w (rw told at told_further)

pub ruleset ending_all = (ending_without, ending_without_space, ending_space, ending_refused, ending_fits, ending_read)
