-- Pieces and lines as the code answers them: the premises are what is known at a place, the conclusion is what is asked there.
use Prim.Native.Nat.{ℕ, suc, ◌+◌, ◌^◌, ◌<◌}
use mathlib.Core.Path.{◌≡◌, refl, sym, ◌∙◌, ap}
use mathlib.Core.Bool.{Bool, true, false}
use mathlib.Core.List.{List}
use native.Mathlib.Omega.{arith}
use lib.ListN.{length, drop}
use mir.Val.{Fits}
use mir.Syntax.{w64}
use Rattle.std.specs.Prelude.{Result, Ok, Err}
use Rattle.meaning.specs.Text.{text, begins}
use Rattle.meaning.specs.Refusal.{LINE}
use Rattle.meaning.specs.Reading.{Got, got, wrong, Reader, after, give, stands, due, one_of, line_end}
use Rattle.meaning.specs.Name.{Name, due_name}
use Rattle.meaning.specs.Number.{Entry, entry}
use Rattle.meaning.specs.Card.{keyed, field_entry, marks, status_mark, ended, case_line, spaced}
use Rattle.theory.specs.Reading.Built.{line_fault, one_of_built, entry_built}
use Rattle.theory.specs.Reading.Readers.{after_after}
use Rattle.theory.specs.Reading.Told.{Any, took}
use Rattle.theory.specs.Reading.Answered.{inline_ends, spelled_ends, line_ends, Left, left_start, left_last, left_at}
use Rattle.theory.specs.Reading.Piece.{Next, piece_on, piece_off, off_answer, left_piece}
use Rattle.theory.specs.Papers.Entries.{entry_spells}
use Rattle.reply.specs.declared.Fault.{Fault}
use Rattle.reply.specs.declared.Fault.TheVariants as F
use Rattle.reply.specs.Faults.{fault_of}
use Rattle.text.specs.declared.Taken.{Taken}
use Rattle.text.specs.Pieces.{as_length}
use Rattle.text.proofs.Callers.{begins_fits}
use Rattle.marks.specs.Codes.{mark_code, coded}
use Rattle.number.specs.Answers.{as_entry}
use Rattle.card_lines.specs.declared.Shown.{Shown}
use Rattle.card_lines.specs.Answers.{as_value, as_mark}
use Rattle.card_lines.proofs.Callers.{due_ends, name_ends, keyed_ends, bytes_on, bytes_off, Behind, field_ends, told}

-- THE LF OF A LINE: an answer does not tell the line
next_line : (t : List ℕ) (x : Got (Unit {0})) → as_length t x ≡ as_length t (after x (λ u l s. got u (suc l) s))
next_line t (got u l s) = refl
next_line t (wrong k l) = refl

pub line_is : (t : List ℕ) (p : Result ℕ Fault) → p ≡ as_length t (due LINE (text "\n") 0 t) → p ≡ as_length t (line_end LINE 0 t)
unfolding line_end
line_is t p e = e ∙ next_line t (due LINE (text "\n") 0 t)

-- how many bytes were taken
abbrev taken : Unit {0} → ℕ → ℕ
taken u n = n

-- NAME AND =
module _ (d : Name) (t : List ℕ) (p : Result ℕ Fault) (name : p ≡ as_length t (due_name d 0 t)) where
  pub key_name : (e : Fault) → p ≡ Err e → Err e ≡ as_length t (keyed d 0 t)
  unfolding keyed
  key_name e o = off_answer taken t (bytes_off (name_ends d) _ (left_start (keyed d) 0 t) t refl p name e o)

  module _ (n : ℕ) (e : p ≡ Ok n) (u : List ℕ) (q : Result ℕ Fault) (rest : u ≡ drop n t) (mark : q ≡ as_length u (due LINE (text "=") 0 u)) where
    key_mid : Left (keyed d 0 t) (λ l s. after (due LINE (text "=") l s) give) 0 n t
    unfolding keyed
    key_mid = left_last (bytes_on (name_ends d) _ (left_start (keyed d) 0 t) t refl p name n n e (omega arith)).1

    pub key_mark : (f : Fault) → q ≡ Err f → Err f ≡ as_length t (keyed d 0 t)
    key_mark f o = off_answer taken t (bytes_off (due_ends (text "=")) _ key_mid u rest q mark f o)

    module _ (k : ℕ) (f : q ≡ Ok k) (j : ℕ) (sum : j ≡ n + k) where
      key_end : Left (keyed d 0 t) (give tt) 0 j t
      key_end = (bytes_on (due_ends (text "=")) _ key_mid u rest q mark k j f sum).1

      pub key_room : length t < 2 ^ 64 → Fits w64 j
      key_room h = omega (arith, key_end.within)

      pub key_read : Ok j ≡ as_length t (keyed d 0 t)
      key_read = left_piece taken fault_of key_end j refl

pub ruleset keying = (key_name, key_mark, key_room, key_read)

-- THE FIRST LINE
module _ (d : Name) (t : List ℕ) (p : Result ℕ Fault) (key : p ≡ as_length t (due LINE (text "case=") 0 t)) where
  pub case_key : (e : Fault) → p ≡ Err e → Err e ≡ as_length t (case_line d 0 t)
  unfolding case_line
  case_key e o = off_answer taken t (bytes_off (due_ends (text "case=")) _ (left_start (case_line d) 0 t) t refl p key e o)

  module _ (n : ℕ) (e : p ≡ Ok n) (u : List ℕ) (q : Result ℕ Fault) (rest : u ≡ drop n t) (name : q ≡ as_length u (due_name d 0 u)) where
    case_mid : Left (case_line d 0 t) (λ l s. after (due_name d l s) (λ a l s. after (line_end LINE l s) (λ _. give a))) 0 n t
    unfolding case_line ended
    case_mid = (bytes_on (due_ends (text "case=")) _ (left_start (case_line d) 0 t) t refl p key n n e (omega arith)).1

    pub case_name : (f : Fault) → q ≡ Err f → Err f ≡ as_length t (case_line d 0 t)
    case_name f o = off_answer taken t (bytes_off (name_ends d) _ case_mid u rest q name f o)

    module _ (k : ℕ) (f : q ≡ Ok k) (j : ℕ) (sum : j ≡ n + k) where
      case_named : Left (case_line d 0 t) (λ l s. after (line_end LINE l s) (λ _. give tt)) 0 j t
      case_named = (bytes_on (name_ends d) _ case_mid u rest q name k j f sum).1

      pub case_room : length t < 2 ^ 64 → Fits w64 j
      case_room h = omega (arith, case_named.within)

      module _ (x : List ℕ) (y : Result ℕ Fault) (rest_2 : x ≡ drop j t) (mark : y ≡ as_length x (line_end LINE 0 x)) where
        pub case_unended : (g : Fault) → y ≡ Err g → Err g ≡ as_length t (case_line d 0 t)
        case_unended g o = off_answer taken t (bytes_off (line_ends line_fault) _ case_named x rest_2 y mark g o)

        module _ (i : ℕ) (g : y ≡ Ok i) (h : ℕ) (sum_2 : h ≡ j + i) where
          case_end : Left (case_line d 0 t) (give tt) 1 h t
          case_end = (bytes_on (line_ends line_fault) _ case_named x rest_2 y mark i h g sum_2).1

          pub case_room_2 : length t < 2 ^ 64 → Fits w64 h
          case_room_2 s = omega (arith, case_end.within)

          pub case_read : Ok h ≡ as_length t (case_line d 0 t)
          case_read = left_piece taken fault_of case_end h refl

pub ruleset casing = (case_key, case_name, case_room, case_unended, case_room_2, case_read)

-- NAME, = AND A VALUE
same_shown : {v p n w q m : ℕ} → v ≡ w → p ≡ q → n ≡ m
    → ◌≡◌ {A = Shown} (record { value = v; start = p; length = n }) (record { value = w; start = q; length = m })
same_shown a b c = rw (a, b, c)

module _ (d : Name) (t : List ℕ) (p : Result ℕ Fault) (name : p ≡ as_length t (keyed d 0 t)) where
  value_start : Left (field_entry d 0 t) (λ l s. after (keyed d l s) (λ _. entry)) 0 0 t
  unfolding field_entry
  value_start = left_start (field_entry d) 0 t

  pub value_key : (e : Fault) → p ≡ Err e → Err e ≡ as_value (length d + 1) t (field_entry d 0 t)
  value_key e o = off_answer (told (length d + 1)) t (bytes_off (keyed_ends d) _ value_start t refl p name e o)

  module _ (n : ℕ) (e : p ≡ Ok n) (u : List ℕ) (q : Result (Taken ℕ) Fault) (rest : u ≡ drop n t) (value : q ≡ as_entry u (entry 0 u)) where
    value_mid : (n ≡ length d + 1) × Left (field_entry d 0 t) entry 0 n t
    value_mid = bytes_on (keyed_ends d) _ value_start t refl p name n n e (omega arith)

    value_last : Left (field_entry d 0 t) (λ l s. after (entry l s) give) 0 n t
    value_last = left_last value_mid.1

    pub value_entry : (f : Fault) → q ≡ Err f → Err f ≡ as_value (length d + 1) t (field_entry d 0 t)
    value_entry f o =
        off_answer (told (length d + 1)) t
        (piece_off (λ e n. record { value = coded e.value; bytes = n }) fault_of (spelled_ends entry_built entry_spells) _ value_last u rest q value f o)

    pub value_read : (v : Taken ℕ) → q ≡ Ok v → Ok (record { value = v.value; start = n; length = v.bytes }) ≡ as_value (length d + 1) t (field_entry d 0 t)
    value_read v o =
        let i =
        piece_on (λ e n. record { value = coded e.value; bytes = n }) fault_of (spelled_ends entry_built entry_spells) _ value_last u rest q value v o in
        let z : v.value ≡ coded i.value.value = ap (λ v. v.value) i.same in
        let y : v.bytes ≡ length i.value.shown = ap (λ v. v.bytes) i.same ∙ i.holds in
        left_piece (told (length d + 1)) fault_of i.left _ (same_shown z value_mid.0 y)

pub ruleset valuing = (value_key, value_entry, value_read)

-- A LINE OF A FIELD
module _ (d : Name) (t : List ℕ) (p : Result Shown Fault) (is : p ≡ as_value (length d + 1) t (field_entry d 0 t)) where
  abbrev lined : Entry → Reader Entry
  lined a = λ l s. after (line_end LINE l s) (λ _. give a)

  line_start : Left (ended (field_entry d) 0 t) (λ l s. after (field_entry d l s) lined) 0 0 t
  unfolding ended
  line_start = left_start (ended (field_entry d)) 0 t

  pub line_value : (e : Fault) → p ≡ Err e → Err e ≡ as_value (length d + 1) t (ended (field_entry d) 0 t)
  line_value e o = off_answer (told (length d + 1)) t (piece_off (told (length d + 1)) fault_of (field_ends d) _ line_start t refl p is e o)

  module _ (v : Shown) (e : p ≡ Ok v) where
    line_next : Next (told (length d + 1)) (Behind (length d + 1) 0) (ended (field_entry d) 0 t) lined 0 0 t v
    line_next = piece_on (told (length d + 1)) fault_of (field_ends d) _ line_start t refl p is v e

    module _ (j : ℕ) (sum : j ≡ v.start + v.length) where
      line_mid : Left (ended (field_entry d) 0 t) (lined line_next.value) 0 j t
      line_mid =
          left_at line_next.left j (omega (arith, line_next.holds, ap (λ v. v.start) line_next.same, ap (λ v. v.length) line_next.same))

      pub line_room : length t < 2 ^ 64 → Fits w64 j
      line_room h = omega (arith, line_mid.within)

      module _ (x : List ℕ) (y : Result ℕ Fault) (rest : x ≡ drop j t) (mark : y ≡ as_length x (line_end LINE 0 x)) where
        pub line_unended : (f : Fault) → y ≡ Err f → Err f ≡ as_value (length d + 1) t (ended (field_entry d) 0 t)
        line_unended f o = off_answer (told (length d + 1)) t (bytes_off (line_ends line_fault) _ line_mid x rest y mark f o)

        pub line_read : (k : ℕ) → y ≡ Ok k → Ok v ≡ as_value (length d + 1) t (ended (field_entry d) 0 t)
        line_read k o = left_piece (told (length d + 1)) fault_of (bytes_on (line_ends line_fault) _ line_mid x rest y mark k (j + k) o refl).1 v line_next.same

pub ruleset field_lining = (line_value, line_room, line_unended, line_read)

-- A WORD
abbrev marked_as : Bool → ℕ → Taken ℕ
marked_as b n = record { value = mark_code b; bytes = n }

module _ (t : List ℕ) (a : Bool) (yes : a ≡ begins (text "yes") t) where
  pub word_yes : a ≡ true → Ok (marked_as true 3) ≡ as_mark t (one_of LINE marks 0 t)
  unfolding one_of stands
  word_yes e = rw (← yes, e) (ap (λ n. Ok (marked_as true n)) (sym (took t 3 (begins_fits (text "yes") t (sym yes ∙ e)))))

  module _ (e : a ≡ false) (b : Bool) (no : b ≡ begins (text "no") t) where
    pub word_no : b ≡ true → Ok (marked_as false 2) ≡ as_mark t (one_of LINE marks 0 t)
    unfolding one_of stands
    word_no f = rw (← yes, e, ← no, f) (ap (λ n. Ok (marked_as false n)) (sym (took t 2 (begins_fits (text "no") t (sym no ∙ f)))))

    pub word_none : b ≡ false → Err F.Line ≡ as_mark t (one_of LINE marks 0 t)
    unfolding one_of stands
    word_none f = rw (← yes, e, ← no, f)

pub ruleset wording = (word_yes, word_no, word_none)

-- A LINE OF A STATUS
module _ (d : Name) (t : List ℕ) (p : Result ℕ Fault) (name : p ≡ as_length t (keyed d 0 t)) where
  abbrev marked : Bool → Reader Bool
  marked b = λ l s. after (line_end LINE l s) (λ _. give b)

  mark_start : Left (ended (status_mark d) 0 t) (λ l s. after (keyed d l s) (λ _ l s. after (one_of LINE marks l s) marked)) 0 0 t
  unfolding ended status_mark
  mark_start = record { within = omega arith; is = simp after_after }

  pub mark_key : (e : Fault) → p ≡ Err e → Err e ≡ as_mark t (ended (status_mark d) 0 t)
  mark_key e o = off_answer marked_as t (bytes_off (keyed_ends d) _ mark_start t refl p name e o)

  module _ (n : ℕ) (e : p ≡ Ok n) (u : List ℕ) (q : Result (Taken ℕ) Fault) (rest : u ≡ drop n t) (word : q ≡ as_mark u (one_of LINE marks 0 u)) where
    mark_mid : Left (ended (status_mark d) 0 t) (λ l s. after (one_of LINE marks l s) marked) 0 n t
    mark_mid = (bytes_on (keyed_ends d) _ mark_start t refl p name n n e (omega arith)).1

    pub mark_word : (f : Fault) → q ≡ Err f → Err f ≡ as_mark t (ended (status_mark d) 0 t)
    mark_word f o =
        off_answer marked_as t (piece_off marked_as fault_of (inline_ends (one_of_built marks line_fault)) _ mark_mid u rest q word f o)

    module _ (v : Taken ℕ) (o : q ≡ Ok v) (j : ℕ) (sum : j ≡ n + v.bytes) where
      mark_next : Next marked_as (λ b n. Any b) (ended (status_mark d) 0 t) marked 0 n t v
      mark_next = piece_on marked_as fault_of (inline_ends (one_of_built marks line_fault)) _ mark_mid u rest q word v o

      mark_line : Left (ended (status_mark d) 0 t) (marked mark_next.value) 0 j t
      mark_line = left_at mark_next.left j (omega (arith, ap (λ v. v.bytes) mark_next.same))

      pub mark_room : length t < 2 ^ 64 → Fits w64 j
      mark_room h = omega (arith, mark_line.within)

      module _ (x : List ℕ) (y : Result ℕ Fault) (rest_2 : x ≡ drop j t) (mark : y ≡ as_length x (line_end LINE 0 x)) where
        pub mark_unended : (f : Fault) → y ≡ Err f → Err f ≡ as_mark t (ended (status_mark d) 0 t)
        mark_unended f o = off_answer marked_as t (bytes_off (line_ends line_fault) _ mark_line x rest_2 y mark f o)

        module _ (i : ℕ) (g : y ≡ Ok i) (h : ℕ) (sum_2 : h ≡ j + i) where
          mark_end : Left (ended (status_mark d) 0 t) (give mark_next.value) 1 h t
          mark_end = (bytes_on (line_ends line_fault) _ mark_line x rest_2 y mark i h g sum_2).1

          pub mark_room_2 : length t < 2 ^ 64 → Fits w64 h
          mark_room_2 s = omega (arith, mark_end.within)

          pub mark_read : Ok (record { value = v.value; bytes = h }) ≡ as_mark t (ended (status_mark d) 0 t)
          mark_read =
              left_piece marked_as fault_of mark_end _
              (ap (λ b. record { value = b; bytes = h }) (ap (λ v. v.value) mark_next.same))

pub ruleset mark_lining = (mark_key, mark_word, mark_room, mark_unended, mark_room_2, mark_read)

-- A SPACE, NAME, = AND A VALUE
module _ (d : Name) (t : List ℕ) (p : Result ℕ Fault) (space : p ≡ as_length t (due LINE (text " ") 0 t)) where
  pub put_space : (e : Fault) → p ≡ Err e → Err e ≡ as_value (length d + 2) t (spaced d 0 t)
  unfolding spaced
  put_space e o = off_answer (told (length d + 2)) t (bytes_off (due_ends (text " ")) _ (left_start (spaced d) 0 t) t refl p space e o)

  module _ (o : ℕ) (e : p ≡ Ok o) (u : List ℕ) (q : Result Shown Fault) (rest : u ≡ drop o t)
      (value : q ≡ as_value (length d + 1) u (field_entry d 0 u)) where
    put_spaced : (o ≡ 1) × Left (spaced d 0 t) (field_entry d) 0 o t
    unfolding spaced
    put_spaced = bytes_on (due_ends (text " ")) _ (left_start (spaced d) 0 t) t refl p space o o e (omega arith)

    pub put_value : (f : Fault) → q ≡ Err f → Err f ≡ as_value (length d + 2) t (spaced d 0 t)
    put_value f i =
        off_answer (told (length d + 2)) t (piece_off (told (length d + 1)) fault_of (field_ends d) _ (left_last put_spaced.1) u rest q value f i)

    module _ (v : Shown) (f : q ≡ Ok v) (j : ℕ) (sum : j ≡ o + v.start) where
      put_next : Next (told (length d + 1)) (Behind (length d + 1) 0) (spaced d 0 t) give 0 o t v
      put_next = piece_on (told (length d + 1)) fault_of (field_ends d) _ (left_last put_spaced.1) u rest q value v f

      put_start : v.start ≡ length d + 1
      put_start = ap (λ v. v.start) put_next.same

      pub put_room : length t < 2 ^ 64 → Fits w64 j
      put_room h = omega (arith, put_next.left.within, put_next.holds, put_start)

      pub put_read : Ok (record { value = v.value; start = j; length = v.length }) ≡ as_value (length d + 2) t (spaced d 0 t)
      put_read =
          let x : v.value ≡ coded put_next.value.value = ap (λ v. v.value) put_next.same in
          let y : v.length ≡ length put_next.value.shown = ap (λ v. v.length) put_next.same in
          let z : j ≡ length d + 2 = omega (arith, put_spaced.0, put_start) in
          left_piece (told (length d + 2)) fault_of put_next.left _ (same_shown x z y)

pub ruleset putting = (put_space, put_value, put_room, put_read)
