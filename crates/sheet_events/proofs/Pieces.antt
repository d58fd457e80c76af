-- The fields that an event carries: the next piece of its line, the loop over pieces, piece by piece, and what is read in all.
use Prim.Native.Nat.{ℕ, zero, suc, ◌+◌, ◌-◌, ◌^◌, ◌<◌, ◌≤◌}
use mathlib.Core.Path.{◌≡◌, refl, sym, ◌∙◌, ap, ap₂}
use mathlib.Core.Bool.{Bool, true, false, not, ◌||◌}
use mathlib.Core.List.{List, [], ◌∷◌, ◌++◌}
use native.Mathlib.Nat.{sub-zero, sub-eq-zero_of_le}
use native.Mathlib.Omega.{arith}
use borrow.Author.Tests.{eqb-true, eqb-false, eq-eqb, ne_eqb, leb-true, leb-false, le-leb, lt-leb, not-true, not-false}
use lib.Dec.{eqb, leb}
use lib.ListN.{length, take, drop, set, replicate, length-append, length-take}
use mir.Val.{Fits}
use mir.Syntax.{w8}
use Rattle.std.specs.Prelude.{Result, Ok, Err, Option, Some, None}
use Rattle.std.specs.List.{list_any}
use Rattle.meaning.specs.Text.{text, begins, any, is_in}
use Rattle.meaning.specs.Refusal.{LINE, NAME}
use Rattle.meaning.specs.Limits.{field_limit}
use Rattle.meaning.specs.Reading.{Got, got, wrong, Reader, after, give, choose, demand, stands, due, line_end}
use Rattle.meaning.specs.Name.{Name, known}
use Rattle.meaning.specs.ReadSheet.{carried}
use Rattle.theory.specs.Lists.Padded.{padded, padded_set, padded_take}
use Rattle.theory.specs.Reading.Answered.{Ends, here, Left, left_at, ends_after, ends_map, ends_weaker, ensured_ends, inline_ends, spelled_ends, line_ends}
use Rattle.theory.specs.Reading.Built.{known_built, stands_built, demand_built, due_built, line_fault, name_fault_lem}
use Rattle.theory.specs.Reading.Piece.{Next, piece_on, piece_off, off_answer, left_piece}
use Rattle.theory.specs.Reading.Readers.{demand_ensures}
use Rattle.theory.specs.Reading.Spelling.{due_spells}
use Rattle.text.proofs.Callers.{begins_fits, stands_here, stands_not, due_here, due_off}
use Rattle.reply.specs.declared.Fault.{Fault}
use Rattle.reply.specs.declared.Fault.TheVariants as F
use Rattle.reply.specs.Faults.{fault_of}
use Rattle.text.specs.declared.Taken.{Taken}
use Rattle.text.specs.Pieces.{as_taken}
use Rattle.name.proofs.Callers.{known_ends}
use Rattle.name.specs.Answers.{as_known}
use Rattle.sheet_section.proofs.Ends.{closing}
use Rattle.sheet_events.specs.Answers.{as_piece, end_of, field_of, piece}

-- whether a field is among those
turned : (x y : ℕ) → eqb x y ≡ eqb y x
turned x y = go (eqb x y) refl
  where
    go : (b : Bool) → eqb x y ≡ b → b ≡ eqb y x
    go true e = sym (eq-eqb y x (sym (eqb-true x y e)))
    go false e = sym (ne_eqb y x (λ z. eqb-false x y e (sym z)))

among_is : (f : ℕ) (xs : List ℕ) → list_any (λ y. eqb y f) xs ≡ is_in f xs
unfolding any
among_is f [] = refl
among_is f (x ∷ xs) = ap₂ (λ a b. a || b) (turned x f) (among_is f xs)

-- THE LINE'S END: the returns of `line_end`
pub end_none : (t : List ℕ) (b : Bool) → b ≡ begins (text "\n") t → not b ≡ true → Err F.Line ≡ end_of (begins (text "\n") t)
end_none t b e z = rw (← e, not-true b z)

pub end_here : (t : List ℕ) (b : Bool) → b ≡ begins (text "\n") t → not b ≡ false → Ok None ≡ end_of (begins (text "\n") t)
end_here t b e z = rw (← e, not-false b z)

abbrev as_place : ℕ → ℕ → Taken ℕ
as_place i n = record { value = i; bytes = n }

-- THE NEXT PIECE, where the fields `so` are carried so far
module _ (ns : List Name) (most : ℕ) (so t : List ℕ) (b : Bool) (tested : b ≡ begins (text " ") t) where
  abbrev asked : Result (Option (Taken ℕ)) Fault
  asked = as_piece t (piece (take most ns) (leb most (length so)) so 0 t)

  -- no further field
  bare : not b ≡ true → piece (take most ns) (leb most (length so)) so 0 t ≡ after (due LINE (text "\n") 0 t) (λ u. give None)
  unfolding piece
  bare e = rw (stands_not (text " ") 0 t b tested (not-true b e))

  pub piece_end : not b ≡ true → (r : Result (Option (Taken ℕ)) Fault) → r ≡ end_of (begins (text "\n") t) → r ≡ asked
  piece_end e r is = is ∙ go (begins (text "\n") t) refl
    where
      go : (c : Bool) → begins (text "\n") t ≡ c → end_of c ≡ asked
      go true z = rw (bare e, due_here LINE (text "\n") 0 t (λ h. omega (arith, begins_fits (text "\n") t z)) true (sym z) refl)
      go false z = rw (bare e, due_off (text "\n") 0 t false (sym z) refl)

  -- a further one
  module _ (e : not b ≡ false) (v : List ℕ) (p : Result (Taken ℕ) Fault) (rest : v ≡ drop 1 t)
      (asked_for : p ≡ as_known v (known (take (most - 0) (drop 0 ns)) 0 v)) where
    abbrev new : ℕ → Reader (Option ℕ)
    new f = λ l u. after (demand NAME (not (leb most (length so) || is_in f so)) l u) (λ w. give (Some f))

    read : p ≡ as_known v (known (take most ns) 0 v)
    read = let m : most - 0 ≡ most = sub-zero most in rw m at asked_for

    spaced : Left (piece (take most ns) (leb most (length so)) so 0 t) (λ l u. after (known (take most ns) l u) new) 0 1 t
    unfolding piece
    spaced =
        record {
          within = begins_fits (text " ") t (sym tested ∙ not-false b e);
          is = rw (stands_here (text " ") 0 t b tested (not-false b e));
        }

    pub piece_unknown : (d : Fault) → p ≡ Err d → Err d ≡ asked
    piece_unknown d z = off_answer field_of t (piece_off as_place fault_of (known_ends (take most ns)) new spaced v rest p read d z)

    module _ (k : Taken ℕ) (z : p ≡ Ok k) where
      placed : (k.value < length (take most ns)) × Left (piece (take most ns) (leb most (length so)) so 0 t) (new k.value) 0 (k.bytes + 1) t
      placed =
          let o = piece_on as_place fault_of (known_ends (take most ns)) new spaced v rest p read k z in
          let value : k.value ≡ o.value = ap (λ (k : Taken ℕ). k.value) o.same in
          let bytes : k.bytes + 1 ≡ 1 + o.bytes = omega (arith, ap (λ (k : Taken ℕ). k.bytes) o.same) in
          rw (value, bytes) (o.holds.0, o.left)

      told : piece (take most ns) (leb most (length so)) so 0 t ≡ new k.value 0 (drop (k.bytes + 1) t)
      told = placed.1.is

      pub piece_many : most ≤ length so → Err F.Name ≡ asked
      piece_many h = rw (told, le-leb most (length so) h)

      module _ (room : length so < most) (c : Bool) (twice : c ≡ list_any (λ y. eqb y k.value) so) where
        found : is_in k.value so ≡ c
        found = sym (twice ∙ among_is k.value so)

        pub piece_twice : c ≡ true → Err F.Name ≡ asked
        piece_twice y = rw (told, lt-leb most (length so) room, found, y)

        pub piece_read : c ≡ false → (r : Taken ℕ) → r ≡ record { value = k.value; bytes = k.bytes + 1 } → Ok (Some r) ≡ asked
        piece_read y r is =
            let last : Left (piece (take most ns) (leb most (length so)) so 0 t) (give (Some k.value)) 0 (k.bytes + 1) t
            = record { within = placed.1.within; is = told ∙ rw (lt-leb most (length so) room, found, y) } in
            rw is (left_piece field_of fault_of last (Some (record { value = k.value; bytes = k.bytes + 1 })) refl)

pub ruleset next_piece = (piece_end, piece_unknown, piece_many, piece_twice, piece_read)

-- what a piece tells: a field where there is room for one, or the byte of an LF
abbrev Told : List Name → Bool → Option ℕ → ℕ → Type 0
Told fs full None n = n ≡ 1
Told fs full (Some f) n = (full ≡ false) × (f < length fs)

space_ends : (t : List ℕ) → Ends here (λ b n. b ≡ false → n ≡ 0) (stands (text " ")) t
space_ends t = go (begins (text " ") t) refl
  where
    go : (b : Bool) → begins (text " ") t ≡ b → Ends here (λ b n. b ≡ false → n ≡ 0) (stands (text " ")) t
    go true e = Ends.found true 1 (λ z. cc) (begins_fits (text " ") t e) (λ l. stands_here (text " ") l t true (sym e) refl)
    go false e = Ends.found false 0 (λ z. refl) (omega arith) (λ l. stands_not (text " ") l t false (sym e) refl)

piece_ends : (fs : List Name) (full : Bool) (so t : List ℕ) → Ends here (Told fs full) (piece fs full so) t
unfolding piece
piece_ends fs full so t = ends_after (Told fs full) _ (space_ends t) λ b n z. go b n z (drop n t)
  where
    room : (full c : Bool) → not (full || c) ≡ true → full ≡ false
    room false c e = refl
    room true c e = cc

    go : (b : Bool) (n : ℕ) → (b ≡ false → n ≡ 0) → (u : List ℕ) → Ends here (λ o i. Told fs full o (n + i)) (choose b (λ l t. after (known fs l t)
        (λ f l t. after (demand NAME (not (full || is_in f so)) l t) (λ w. give (Some f)))) (λ l t. after (due LINE (text "\n") l t) (λ w. give None))) u
    go true n z u =
        ends_after (λ o i. Told fs full o (n + i)) _ (known_ends fs u) λ f k h.
        ends_map (λ _. Some f) (λ w i e. (room full (is_in f so) e, h.0))
        (ensured_ends (demand_built (not (full || is_in f so)) name_fault_lem) (demand_ensures NAME (not (full || is_in f so))) (drop k u))
    go false n z u =
        ends_map (λ _. None) (λ w i e. omega (arith, z refl)) (spelled_ends (due_built (text "\n") line_fault) (due_spells LINE (text "\n")) u)

-- what is read behind a piece: the line is over, or there is a further one
abbrev behind : List Name → ℕ → List ℕ → Option ℕ → Reader (List ℕ)
behind fs m so None = λ l t. got so (suc l) t
behind fs m so (Some f) = carried fs m (so ++ (f ∷ []))

carried_is : (fs : List Name) (m : ℕ) (full : Bool) → (full ≡ true → m ≡ 0) → (so : List ℕ) (l : ℕ) (t : List ℕ)
    → carried fs (suc m) so l t ≡ after (piece fs full so l t) (behind fs m so)
unfolding carried piece line_end
carried_is fs m full h so l t = go (begins (text " ") t) refl
  where
    field : (f : ℕ) (b c : Bool) → (b ≡ true → m ≡ 0) → (l : ℕ) (u : List ℕ)
        → after (demand NAME (not c) l u) (λ w. carried fs m (so ++ (f ∷ [])))
        ≡ after (after (demand NAME (not (b || c)) l u) (λ w. give (Some f))) (behind fs m so)
    field f true true h l u = refl
    field f false true h l u = refl
    field f true false h l u = rw (h refl)
    field f false false h l u = refl

    named : (x : Got ℕ) → after x (λ f l u. after (demand NAME (not (is_in f so)) l u) (λ w. carried fs m (so ++ (f ∷ []))))
        ≡ after (after x (λ f l u. after (demand NAME (not (full || is_in f so)) l u) (λ w. give (Some f)))) (behind fs m so)
    named (got f l u) = field f full (is_in f so) h l u
    named (wrong n l) = refl

    closed : (x : Got (Unit {0})) → after (after x (λ w l u. got w (suc l) u)) (λ w. give so) ≡ after (after x (λ w. give None)) (behind fs m so)
    closed (got w l u) = refl
    closed (wrong n l) = refl

    go : (b : Bool) → begins (text " ") t ≡ b → carried fs (suc m) so l t ≡ after (piece fs full so l t) (behind fs m so)
    go true e = rw (stands_here (text " ") l t true (sym e) refl) (named (known fs l (drop 1 t)))
    go false e = rw (stands_not (text " ") l t false (sym e) refl) (closed (due LINE (text "\n") l t))

-- PIECE AFTER PIECE: the fields so far, and what is left of the line
module _ (t : List ℕ) (ns : List Name) (most : ℕ) where
  abbrev fs : List Name
  fs = take most ns

  abbrev whole : Got (List ℕ)
  whole = carried fs (suc most) [] 0 t

  abbrev as_fields : List ℕ → ℕ → Taken (List ℕ)
  as_fields so n = record { value = so; bytes = n }

  pub record Pieces (row : List ℕ) (count at : ℕ) : Type 0 where
    pub small : length t < 2 ^ 64
    pub few : most ≤ field_limit
    pub so : List ℕ
    pub row_is : row ≡ padded field_limit 0 so
    pub count_is : count ≡ length so
    pub fewer : count ≤ most
    pub left : Left whole (carried fs (suc (most - count)) so) 0 at t

  pub pieces_start : (row : List ℕ) → row ≡ replicate field_limit 0 → length t < 2 ^ 64 → most ≤ field_limit → Pieces row 0 0
  unfolding padded
  pieces_start row is small few =
      let m : most - 0 ≡ most = sub-zero most in
      record {
        small = small;
        few = few;
        so = [];
        row_is = is;
        count_is = refl;
        fewer = omega arith;
        left = record { within = omega arith; is = rw m };
      }

  module _ (row : List ℕ) (count at : ℕ) (i : Pieces row count at) where
    module _ (u : List ℕ) (place : u ≡ drop at t) (v : List ℕ) (part : v ≡ take count row) (p : Result (Option (Taken ℕ)) Fault)
        (asked : p ≡ as_piece u (piece fs (leb most (length v)) v 0 u)) where
      abbrev full : Bool
      full = leb most (length i.so)

      answer : p ≡ as_piece u (piece fs full i.so 0 u)
      answer =
          let so_far : v ≡ i.so = part ∙ rw (i.row_is, i.count_is, padded_take field_limit 0 i.so) in
          rw so_far at asked

      left : Left whole (λ l t. after (piece fs full i.so l t) (behind fs (most - count) i.so)) 0 at t
      left =
          record {
            within = i.left.within;
            is = i.left.is
                ∙ carried_is fs (most - count) full (λ e. sub-eq-zero_of_le (omega (arith, leb-true most (length i.so) e, i.count_is))) i.so 0 (drop at t);
          }

      pub pieces_wrong : (e : Fault) → p ≡ Err e → Err e ≡ as_taken (λ (so : List ℕ). so) t whole
      pieces_wrong e z =
          off_answer as_fields t (piece_off field_of fault_of (piece_ends fs full i.so) (behind fs (most - count) i.so) left u place p answer e z)

      module _ (x : Option (Taken ℕ)) (ok : p ≡ Ok x) where
        next : Next field_of (Told fs full) whole (behind fs (most - count) i.so) 0 at t x
        next = piece_on field_of fault_of (piece_ends fs full i.so) (behind fs (most - count) i.so) left u place p answer x ok

        -- the line is over
        module _ (none : x ≡ None) where
          over : Left whole (give i.so) 1 (at + 1) t
          over = go next.value next.bytes next.holds (sym none ∙ next.same) next.left
            where
              go : (o : Option ℕ) (n : ℕ) → Told fs full o n → None ≡ field_of o n → Left whole (behind fs (most - count) i.so o) 0 (at + n) t
                  → Left whole (give i.so) 1 (at + 1) t
              go None n h e l = let o : Left whole (give i.so) 1 (at + n) t = record { within = l.within; is = l.is } in left_at o (at + 1) (omega (arith, h))
              go (Some f) n h e l = cc

          pub pieces_over : Ok (record { value = i.so; bytes = at + 1 }) ≡ as_taken (λ (so : List ℕ). so) t whole
          pieces_over = left_piece as_fields fault_of over (record { value = i.so; bytes = at + 1 }) refl

        -- a further field
        module _ (k : Taken ℕ) (some : x ≡ Some k) where
          further : (full ≡ false) × (k.value < length fs) × Left whole (carried fs (most - count) (i.so ++ (k.value ∷ []))) 0 (at + k.bytes) t
          further = go next.value next.bytes next.holds (sym some ∙ next.same) next.left
            where
              some_is : {j k : Taken ℕ} → ◌≡◌ {A = Option (Taken ℕ)} (Some j) (Some k) → j ≡ k
              some_is e = cc

              go : (o : Option ℕ) (n : ℕ) → Told fs full o n → Some k ≡ field_of o n → Left whole (behind fs (most - count) i.so o) 0 (at + n) t
                  → (full ≡ false) × (k.value < length fs) × Left whole (carried fs (most - count) (i.so ++ (k.value ∷ []))) 0 (at + k.bytes) t
              go None n h e l = cc
              go (Some f) n h e l = rw (some_is e) (h.0, h.1, l)

          room : count < most
          room = omega (arith, leb-false most (length i.so) further.0, i.count_is)

          pub pieces_index : count < field_limit
          pieces_index = omega (arith, room, i.few)

          pub pieces_byte : Fits w8 k.value
          pieces_byte = omega (arith, further.1, i.few, length-take most ns)

          pub pieces_fewer : most - (count + 1) < most - count
          pieces_fewer = omega (arith, room)

          pub pieces_more : (row' : List ℕ) → row' ≡ set row count k.value → (at' : ℕ) → at' ≡ at + k.bytes → Pieces row' (count + 1) at'
          pieces_more row' row_is at' at_is =
              let one : length (i.so ++ (k.value ∷ [])) ≡ length i.so + 1 = length-append i.so (k.value ∷ []) in
              let m : suc (most - (count + 1)) ≡ most - count = omega (arith, room) in
              let stored : set row count k.value ≡ padded field_limit 0 (i.so ++ (k.value ∷ []))
              = rw (i.row_is, i.count_is) (padded_set field_limit 0 i.so k.value (omega (arith, pieces_index, i.count_is))) in
              record {
                small = i.small;
                few = i.few;
                so = i.so ++ (k.value ∷ []);
                row_is = row_is ∙ stored;
                count_is = omega (arith, one, i.count_is);
                fewer = omega (arith, room);
                left = rw m (left_at further.2 at' at_is);
              }

pub ruleset piecing = (pieces_index, pieces_byte, pieces_fewer, pieces_more)

-- WHAT IS READ: fewer fields than there was room for
carried_ends : (fs : List Name) (m : ℕ) (so t : List ℕ) → Ends suc (λ ns n. length ns < length so + m) (carried fs m so) t
unfolding carried
carried_ends fs zero so t = Ends.faulty NAME (λ l. refl)
carried_ends fs (suc m) so t = ends_after (λ ns n. length ns < length so + suc m) _ (inline_ends (stands_built (text " ")) t) λ b n _.
    go (λ f u. carried_ends fs m (so ++ (f ∷ [])) u) b (drop n t)
  where
    go : ((f : ℕ) (u : List ℕ) → Ends suc (λ ns n. length ns < length (so ++ (f ∷ [])) + m) (carried fs m (so ++ (f ∷ []))) u) → (b : Bool)
        (u : List ℕ) → Ends suc (λ ns n. length ns < length so + suc m) (choose b (λ l t. after (known fs l t)
        (λ f l t. after (demand NAME (not (is_in f so)) l t) (λ u. carried fs m (so ++ (f ∷ []))))) (closing (give so))) u
    go more true u =
        ends_after (λ ns n. length ns < length so + suc m) _ (inline_ends (known_built fs) u) λ f n _.
        ends_after (λ ns n. length ns < length so + suc m) _ (inline_ends (demand_built (not (is_in f so)) name_fault_lem) (drop n u)) λ _ k _.
        ends_weaker (λ ns j h. omega (arith, h, length-append so (f ∷ []))) (more f (drop k (drop n u)))
    go more false u = ends_map (λ _. so) (λ u n e. omega arith) (line_ends line_fault u)

pub fields_ends : (fs : List Name) (most : ℕ) (t : List ℕ) → Ends suc (λ ns n. length ns ≤ most) (carried fs (suc most) []) t
fields_ends fs most t = ends_weaker (λ ns n h. omega arith) (carried_ends fs (suc most) [] t)
