-- The readers of names, as the code answers them.
use mathlib.Core.Path.{◌≡◌, refl, sym, ◌∙◌}
use mathlib.Core.Bool.{Bool, true, false, not, ◌&&◌, ◌||◌, and-true, and-false}
use mathlib.Core.List.{List, [], ◌∷◌, map}
use Prim.Native.Nat.{ℕ, suc, ◌-◌, ◌<◌, ◌≤◌}
use native.Mathlib.Omega.{arith}
use native.Mathlib.Nat.{sub-zero}
use borrow.Author.Tests.{not-true, not-false, le-leb, lt-leb, eq-eqb, ne_eqb}
use lib.Dec.{leb}
use lib.ListN.{length, drop, take, get_or}
use Rattle.meaning.specs.Text.{run, among, is_in, find}
use Rattle.meaning.specs.Limits.{name_bytes}
use Rattle.meaning.specs.Reading.{longest}
use Rattle.meaning.specs.Name.{letter, digit, name_byte, reserved, good_name, name, new_name, due_name, known}
use Rattle.theory.specs.Reading.Told.{took, run_fits, not_ended_none, not_ended_some}
use Rattle.theory.specs.Reading.Piece.{Refuses}
use Rattle.reply.specs.Faults.{fault_of}
use Rattle.std.specs.Prelude.{Result, Ok, Err, Some, None}
use Rattle.std.specs.Prelude.{Option as Maybe}
use Rattle.reply.specs.declared.Fault.{Fault}
use Rattle.reply.specs.declared.Fault.TheVariants as W
use Rattle.text.specs.declared.Taken.{Taken}
use Rattle.text.specs.Pieces.{as_length}
use Rattle.text.proofs.Laws.{length_run}
use Rattle.name.specs.declared.Name.{Name as Kept}
use Rattle.name.specs.Packed.{packed}
use Rattle.name.specs.Names.{kept, name_of, kept_in, names_in}
use Rattle.name.specs.Answers.{as_name, as_known, place_of, found_in, same_kept}
use Rattle.name.proofs.Packs.{Plain, plain_run, Packable, good_packable, same_kept_lem, reserved_named, is_found, find_kept, among_kept}
use Rattle.name.proofs.Callers.{Spelt, name_wrong, name_spelt}
use Rattle.name.proofs.Tables.{names_taken}

-- THE RETURNS OF name_piece

-- the longest run of name bytes
abbrev word : List ℕ → List ℕ
word t = take (run name_byte t) t

first_is : (t : List ℕ) → letter (get_or (word t) 0 0) ≡ letter (get_or t 0 0)
unfolding run
first_is [] = refl
first_is (x ∷ t) = go (letter x) (digit x) refl
  where
    go : (a b : Bool) → letter x ≡ a → letter (get_or (take (elim (a || b) [ true ↦ suc (run name_byte t) | false ↦ 0 ]) (x ∷ t)) 0 0) ≡ a
    go true b e = e
    go false true e = e
    go false false e = refl

-- a name is good where it begins with a letter, is short and is not reserved
plain_good : (w : List ℕ) → Plain w → good_name w ≡ (letter (get_or w 0 0) && leb (length w) name_bytes && not (among w reserved))
unfolding good_name
plain_good [] h = refl
plain_good (x ∷ w) h = rw (eq-eqb (run name_byte (x ∷ w)) (suc (length w)) h, and-true (letter x))

pub piece_ended : (t : List ℕ) → length t ≡ 0 → Err W.Line ≡ as_name t (name 0 t)
unfolding name
piece_ended t h = rw (not_ended_none 0 t h)

module _ (t : List ℕ) (some : length t ≡ 0 → ⊥) where
  good_is : good_name (word t) ≡ (letter (get_or t 0 0) && leb (run name_byte t) name_bytes && not (among (word t) reserved))
  good_is = plain_good (word t) (plain_run t) ∙ rw (first_is t, length_run name_byte t (run name_byte t) refl)

  bad_piece : good_name (word t) ≡ false → Err W.Name ≡ as_name t (name 0 t)
  unfolding name longest
  bad_piece e = rw (not_ended_some 0 t some, e)

  pub piece_letter : (b : Bool) → b ≡ letter (get_or t 0 0) → not b ≡ true → Err W.Name ≡ as_name t (name 0 t)
  piece_letter b e q = bad_piece (good_is ∙ rw (← e, not-true b q))

  module _ (n : ℕ) (is : n ≡ run name_byte t) where
    pub piece_long : name_bytes < n → Err W.Name ≡ as_name t (name 0 t)
    piece_long h = bad_piece (good_is ∙ rw (← is, lt-leb n name_bytes h, and-false (letter (get_or t 0 0))))

    module _ (short : n ≤ name_bytes) (v : ℕ) (number : v ≡ packed (take n t)) (b : Bool) (word_is : b ≡ is_in v (map packed reserved)) where
      among_is : among (word t) reserved ≡ b
      among_is =
          reserved_named (word t) (record { plain = plain_run t; short = omega (arith, length_run name_byte t (run name_byte t) refl) }) ∙ rw (← is, ← number)
          (sym word_is)

      pub piece_reserved : b ≡ true → Err W.Name ≡ as_name t (name 0 t)
      piece_reserved q = bad_piece (good_is ∙ rw (among_is, q) (and-false (letter (get_or t 0 0) && leb (run name_byte t) name_bytes)))

      pub piece_good : b ≡ false → (a : Bool) → a ≡ letter (get_or t 0 0) → not a ≡ false
          → Ok (record { value = record { word = v }; bytes = n }) ≡ as_name t (name 0 t)
      unfolding name longest kept
      piece_good q a e f =
          let good : good_name (word t) ≡ true = good_is ∙ rw (among_is, q, ← e, not-false a f, ← is, le-leb n name_bytes short) in
          rw (not_ended_some 0 t some, good, ← is, took t n (omega (arith, run_fits name_byte t)), number)

pub ruleset name_piece_returns = (piece_ended, piece_letter, piece_long, piece_reserved, piece_good)

-- THE RETURNS OF due_name, known_name AND new_name, from the answer p of name_piece on t
module _ (p : Result (Taken Kept) Fault) (t : List ℕ) (is : p ≡ as_name t (name 0 t)) where
  module _ (e : Fault) (told : p ≡ Err e) where
    off : Refuses fault_of name t e
    off = name_wrong p t is e told

    pub due_name_refused : (d : Kept) → Err e ≡ as_length t (due_name (name_of d) 0 t)
    unfolding due_name
    due_name_refused d = rw (off.is, off.reads 0)

    pub known_refused : (ns : List (List ℕ)) → Err e ≡ as_known t (known ns 0 t)
    unfolding known
    known_refused ns = rw (off.is, off.reads 0)

    pub new_refused : (ns : List (List ℕ)) → Err e ≡ as_name t (new_name ns 0 t)
    unfolding new_name
    new_refused ns = rw (off.is, off.reads 0)

  module _ (v : Taken Kept) (told : p ≡ Ok v) where
    s : Spelt name t v.value v.bytes
    s = name_spelt p t is v told

    packable : Packable (take v.bytes t)
    packable = good_packable (take v.bytes t) s.good

    pub due_other : (d : Kept) → (v.value.word ≡ d.word → ⊥) → Err W.Name ≡ as_length t (due_name (name_of d) 0 t)
    unfolding due_name same_kept
    due_other d h = rw (s.reads 0, same_kept_lem (take v.bytes t) packable d, ← s.number, ne_eqb d.word v.value.word (λ e. h (sym e)))

    pub due_same : (d : Kept) → v.value.word ≡ d.word → Ok v.bytes ≡ as_length t (due_name (name_of d) 0 t)
    unfolding due_name same_kept
    due_same d h = rw (s.reads 0, same_kept_lem (take v.bytes t) packable d, ← s.number, eq-eqb d.word v.value.word (sym h), took t v.bytes s.within)

    module _ (l : List ℕ) (a i : ℕ) (f : Maybe ℕ) (q : f ≡ found_in v.value (take a (drop i (kept_in l)))) where
      found_is : find (take v.bytes t) (take a (drop i (names_in l))) ≡ place_of f
      found_is = rw (names_taken l a i, q, s.number) (find_kept (take v.bytes t) packable (take a (drop i (kept_in l))))

      pub known_none : f ≡ None → Err W.Name ≡ as_known t (known (take a (drop i (names_in l))) 0 t)
      unfolding known
      known_none e = rw (s.reads 0, found_is, e)

      pub known_at : (x : ℕ) → f ≡ Some x → Ok (record { value = x; bytes = v.bytes }) ≡ as_known t (known (take a (drop i (names_in l))) 0 t)
      unfolding known
      known_at x e = rw (s.reads 0, found_is, e, took t v.bytes s.within)

    module _ (l : List ℕ) (k : ℕ) (f : Maybe ℕ) (q : f ≡ found_in v.value (take (k - 0) (drop 0 (kept_in l)))) where
      used_is : among (take v.bytes t) (take k (names_in l)) ≡ is_found f
      used_is = rw (q, s.number, sub-zero, names_taken l k 0) (among_kept (take v.bytes t) packable (take k (kept_in l)))

      pub new_used : is_found f ≡ true → Err W.Name ≡ as_name t (new_name (take k (names_in l)) 0 t)
      unfolding new_name
      new_used e = rw (s.reads 0, used_is, e)

      pub new_good : is_found f ≡ false → Ok v ≡ as_name t (new_name (take k (names_in l)) 0 t)
      unfolding new_name
      new_good e = rw (s.reads 0, used_is, e, s.number, took t v.bytes s.within)

pub ruleset due_name_returns = (due_name_refused, due_other, due_same)

pub ruleset known_name_returns = (known_refused, known_none, known_at)

pub ruleset new_name_returns = (new_refused, new_used, new_good)
