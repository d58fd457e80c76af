-- Tables with one row more.
use Prim.Native.Nat.{ℕ, suc, ◌+◌, ◌<◌}
use mathlib.Core.Path.{◌≡◌, refl, ◌∙◌, ap}
use mathlib.Core.List.{List, [], ◌∷◌, ◌++◌, map, map-append}
use native.Mathlib.Omega.{arith}
use lib.ListN.{length, get_or, set, replicate, length-map}
use Rattle.meaning.specs.Limits.{field_limit}
use Rattle.meaning.specs.Name.{Name}
use Rattle.meaning.specs.Number.{Entry}
use Rattle.marks.specs.Codes.{coded}
use Rattle.theory.specs.Lists.Padded.{padded, padded_set}
use Rattle.case_tables.specs.Cards.{value_places}
use Rattle.case_tables.specs.Rows.{Rows}

padded_more : {A : Type 0} (n : ℕ) (d : A) (xs : List A) (a : A) (i : ℕ) → length xs ≡ i → i < n → set (padded n d xs) i a ≡ padded n d (xs ++ (a ∷ []))
padded_more n d xs a i e h = rw (← e) (padded_set n d xs a (omega arith))

-- a column of a table, whatever it tells of a row
pub column_more : {A : Type 0} (f : A → ℕ) (n : ℕ) (xs : List ℕ) (rows : List A) (a : A) (i v : ℕ) → xs ≡ padded n 0 (map f rows) → length rows ≡ i → i < n
    → v ≡ f a
    → set xs i v ≡ padded n 0 (map f (rows ++ (a ∷ [])))
column_more f n xs rows a i v held many room e =
    rw (held, e, map-append f rows (a ∷ [])) (padded_more n 0 (map f rows) (f a) i (length-map rows f ∙ many) room)

-- where the next name stands
unfoldable pub next_place : ℕ → List Name → List Entry → ℕ
next_place p ns [] = p
next_place p [] (e ∷ es) = p
next_place p (n ∷ ns) (e ∷ es) = next_place (p + length n + 1 + length e.shown + 1) ns es

places_none : (p : ℕ) (ns : List Name) → value_places p ns [] ≡ []
unfolding value_places
places_none p [] = refl
places_none p (n ∷ ns) = refl

-- one entry more: its place, the next name's, and how many places there were
place_more : (e : Entry) (p : ℕ) (ns : List Name) (es : List Entry) → length es < length ns → (q : ℕ)
    → q ≡ next_place p ns es + length (get_or ns (length es) []) + 1
    → (value_places p ns (es ++ (e ∷ [])) ≡ value_places p ns es ++ (q ∷ [])) × (next_place p ns (es ++ (e ∷ [])) ≡ q + length e.shown + 1) ×
    (length (value_places p ns es) ≡ length es)
unfolding value_places next_place
place_more e p [] es h q z = absurd (omega arith)
place_more e p (n ∷ ns) [] h q z = (rw z (ap (λ r. (p + length n + 1) ∷ r) (places_none _ ns)), rw z, refl)
place_more e p (n ∷ ns) (x ∷ es) h q z = let (a, b, c) = place_more e (p + length n + 1 + length x.shown + 1) ns es (omega arith) q z in
    (ap (λ r. (p + length n + 1) ∷ r) a, b, ap suc c)

-- the tables hold these entries, and the next name stands at `at`
pub record Laid (p : ℕ) (ns : List Name) (values starts lengths : List ℕ) (es : List Entry) (at : ℕ) : Type 0 where
  pub rows : Rows p ns values starts lengths es
  pub next : at ≡ next_place p ns es

pub laid_none : (p : ℕ) (ns : List Name) → Laid p ns (replicate field_limit 0) (replicate field_limit 0) (replicate field_limit 0) [] p
unfolding padded next_place
laid_none p ns = record { rows = record { coded = refl; placed = rw (places_none p ns); sized = refl }; next = refl }

-- one entry more: the name at its place, value and length of its text
pub laid_more : {p : ℕ} {ns : List Name} {values starts lengths : List ℕ} {es : List Entry} {at : ℕ} → Laid p ns values starts lengths es at
    → (i : ℕ) → length es ≡ i → i < field_limit → i < length ns → (e : Entry) (v q k j : ℕ) → v ≡ coded e.value → k ≡ length e.shown
    → q ≡ at + length (get_or ns i []) + 1 → j ≡ q + k + 1 → Laid p ns (set values i v) (set starts i q) (set lengths i k) (es ++ (e ∷ [])) j
laid_more {p} {ns} {values} {starts} {lengths} {es} {at} g i many room due e v q k j value size place z =
    let here : length (get_or ns (length es) []) ≡ length (get_or ns i []) = rw many in
    let (more, next, long) = place_more e p ns es (omega arith) q (omega (arith, g.next)) in
    record {
      rows = record {
        coded = column_more (λ (e : Entry). coded e.value) field_limit values es e i v g.rows.coded many room value;
        placed = rw (g.rows.placed, more) (padded_more field_limit 0 (value_places p ns es) q i (long ∙ many) room);
        sized = column_more (λ (e : Entry). length e.shown) field_limit lengths es e i k g.rows.sized many room size;
      };
      next = rw next (omega arith);
    }
