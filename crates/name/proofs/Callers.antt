-- What a caller may conclude from the answers of this crate, for every line: what was read, and where the rest begins.
use mathlib.Core.Path.{◌≡◌, refl, ◌∙◌, ap}
use mathlib.Core.List.{List}
use mathlib.Core.Option.{Option, none, some}
use Prim.Native.Nat.{ℕ, ◌+◌, ◌<◌, ◌≤◌}
use native.Mathlib.Omega.{arith}
use lib.ListN.{length, drop, take}
use Rattle.std.specs.Prelude.{Result, Ok, Err}
use Rattle.meaning.specs.Text.{find}
use Rattle.meaning.specs.Refusal.{NAME}
use Rattle.meaning.specs.Limits.{name_bytes}
use Rattle.meaning.specs.Reading.{Reader, got}
use Rattle.meaning.specs.Name.{Name, name, new_name, placed, known}
use Rattle.theory.specs.Reading.Built.{name_built, new_name_built}
use Rattle.theory.specs.Reading.Readers.{ensures_weaker}
use Rattle.theory.specs.Reading.Spelling.{name_spells, new_name_spells}
use Rattle.theory.specs.Papers.Names.{Good, good_short, name_good, new_name_new, find_below}
use Rattle.theory.specs.Reading.Answered.{Ends, here, ends_after}
use Rattle.theory.specs.Reading.Shown.{Shows, shown_ends}
use Rattle.theory.specs.Reading.Piece.{Took, Refuses, piece_took, piece_refuses}
use Rattle.reply.specs.declared.Fault.{Fault}
use Rattle.reply.specs.Faults.{fault_of}
use Rattle.text.specs.declared.Taken.{Taken}
use Rattle.name.specs.declared.Name.{Name as Kept}
use Rattle.name.specs.Names.{kept, name_of, kept_in, names_in}
use Rattle.name.specs.Answers.{as_name, as_known, place_of, found_in}
pub use Rattle.name.proofs.Laws.{shifted, shifted_suc, found_here, found_later, found_within}
use Rattle.name.proofs.Packs.{good_packable, kept_again, find_kept}

-- GOOD NAMES are told again, and found where they stand
pub good_again : (w : Name) → Good w → name_of (kept w) ≡ w
good_again w h = kept_again w (good_packable w h)

pub found_good : (w : Name) → Good w → (t : List ℕ) → find w (names_in t) ≡ place_of (found_in (kept w) (kept_in t))
unfolding names_in
found_good w h t = find_kept w (good_packable w h) (kept_in t)

-- A NAME that was read: as it is kept, and the bytes that were taken
pub record Spelt (r : Reader Name) (t : List ℕ) (v : Kept) (n : ℕ) : Type 0 where
  pub good : Good (take n t)
  pub number : v ≡ kept (take n t)
  pub within : n ≤ length t
  pub reads : (l : ℕ) → r l t ≡ got (take n t) l (drop n t)

-- by any reader of names
spelt : {r : Reader Name} → Shows (λ w. w) Good r → (p : Result (Taken Kept) Fault) (t : List ℕ) → p ≡ as_name t (r 0 t) → (v : Taken Kept) → p ≡ Ok v
    → Spelt r t v.value v.bytes
spelt {r} h p t is v e =
    let f = piece_took (λ w n. record { value = kept w; bytes = n }) fault_of (shown_ends h t) p is v e in
    let number : v.value ≡ kept (take v.bytes t) = rw f.same (ap kept f.holds.1) in
    let reads : (l : ℕ) → r l t ≡ got (take v.bytes t) l (drop v.bytes t) = λ l. rw f.same (f.reads l ∙ ap (λ w. got w l (drop f.bytes t)) f.holds.1) in
    record { good = rw f.same (rw f.holds.1 at f.holds.0); number = number; within = rw f.same f.within; reads = reads }

-- NAMES, from the answer p of name_piece on t
pub name_shows : Shows (λ w. w) Good name
name_shows = record { inline = name_built; ensures = name_good; spells = name_spells }

module _ (p : Result (Taken Kept) Fault) (t : List ℕ) (is : p ≡ as_name t (name 0 t)) where
  pub name_wrong : (e : Fault) → p ≡ Err e → Refuses fault_of name t e
  name_wrong e z = piece_refuses (λ w n. record { value = kept w; bytes = n }) fault_of (shown_ends name_shows t) p is e z

  module _ (v : Taken Kept) (told : p ≡ Ok v) where
    pub name_spelt : Spelt name t v.value v.bytes
    name_spelt = spelt name_shows p t is v told

    pub name_got : (l : ℕ) → name l t ≡ got (take v.bytes t) l (drop v.bytes t)
    name_got = name_spelt.reads

    pub name_number : v.value ≡ kept (take v.bytes t)
    name_number = name_spelt.number

    pub name_fits : v.bytes ≤ length t
    name_fits = name_spelt.within

    -- it is found in a table where its bytes are found among the names
    pub name_found : (l : List ℕ) → find (take v.bytes t) (names_in l) ≡ place_of (found_in v.value (kept_in l))
    name_found l = rw name_number (found_good (take v.bytes t) name_spelt.good l)

-- NEW NAMES, from the answer p of new_name
pub new_shows : (used : List Name) → Shows (λ w. w) Good (new_name used)
new_shows used = record { inline = new_name_built used; ensures = ensures_weaker (λ w h. h.0) (new_name_new used); spells = new_name_spells used }

module _ (p : Result (Taken Kept) Fault) (used : List (List ℕ)) (t : List ℕ) (is : p ≡ as_name t (new_name used 0 t)) where
  pub new_name_wrong : (e : Fault) → p ≡ Err e → Refuses fault_of (new_name used) t e
  new_name_wrong e z = piece_refuses (λ w n. record { value = kept w; bytes = n }) fault_of (shown_ends (new_shows used) t) p is e z

  module _ (v : Taken Kept) (told : p ≡ Ok v) where
    new_spelt : Spelt (new_name used) t v.value v.bytes
    new_spelt = spelt (new_shows used) p t is v told

    pub new_name_got : (l : ℕ) → new_name used l t ≡ got (take v.bytes t) l (drop v.bytes t)
    new_name_got = new_spelt.reads

    pub new_name_number : v.value ≡ kept (take v.bytes t)
    new_name_number = new_spelt.number

    pub new_name_again : name_of (kept (take v.bytes t)) ≡ take v.bytes t
    new_name_again = good_again (take v.bytes t) new_spelt.good

    pub new_name_fits : v.bytes ≤ length t
    new_name_fits = new_spelt.within

-- NAMES OF A TABLE, from the answer p of known_name
pub known_ends : (ns : List Name) (t : List ℕ) → Ends here (λ i n. (i < length ns) × (n ≤ name_bytes)) (known ns) t
unfolding known
known_ends ns t = ends_after (λ i n. (i < length ns) × (n ≤ name_bytes)) (λ w. placed (find w ns)) (shown_ends name_shows t) λ w n h.
    go w n (omega (arith, good_short w h.0, h.2)) (find w ns) refl
  where
    go : (w : Name) (n : ℕ) → n ≤ name_bytes → (o : Option ℕ) → find w ns ≡ o → Ends here (λ i k. (i < length ns) × (n + k ≤ name_bytes)) (placed o) (drop n t)
    go w n few none e = Ends.faulty NAME (λ l. refl)
    go w n few (some i) e = Ends.found i 0 (find_below w ns i e, omega arith) (omega arith) (λ l. refl)

module _ (p : Result (Taken ℕ) Fault) (ns : List (List ℕ)) (t : List ℕ) (is : p ≡ as_known t (known ns 0 t)) where
  pub known_wrong : (e : Fault) → p ≡ Err e → Refuses fault_of (known ns) t e
  known_wrong e z = piece_refuses (λ i n. record { value = i; bytes = n }) fault_of (known_ends ns t) p is e z

  module _ (v : Taken ℕ) (told : p ≡ Ok v) where
    at_place : Took (λ i n. record { value = i; bytes = n }) here (λ i n. (i < length ns) × (n ≤ name_bytes)) (known ns) t v
    at_place = piece_took (λ i n. record { value = i; bytes = n }) fault_of (known_ends ns t) p is v told

    pub known_got : (l : ℕ) → known ns l t ≡ got v.value l (drop v.bytes t)
    known_got = rw at_place.same at_place.reads

    pub known_place : v.value < length ns
    known_place = rw at_place.same at_place.holds.0

    pub known_fits : v.bytes ≤ length t
    known_fits = rw at_place.same at_place.within

    -- a name is short
    pub known_few : v.bytes ≤ name_bytes
    known_few = rw at_place.same at_place.holds.1
