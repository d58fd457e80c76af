-- The lines of the statuses, one at a time, and the first stage that is yes under a parent that is no.
use Prim.Native.Nat.{ℕ, suc, ◌+◌, ◌-◌, ◌^◌, ◌≤◌, ◌<◌}
use mathlib.Core.Path.{◌≡◌, refl, ◌∙◌, ap}
use mathlib.Core.Bool.{Bool, true, false, not, ◌&&◌}
use mathlib.Core.List.{List, [], ◌∷◌, ◌++◌, map}
use mathlib.Core.Option.{some}
use native.Mathlib.Omega.{arith}
use native.Mathlib.Nat.{add-zero}
use native.Mathlib.Numerals.{add-one}
use borrow.Author.Tests.{eq-eqb, ne_eqb}
use lib.ListN.{length, take, drop, get_or, set, replicate, length-drop, get_or-map}
use lib.Seq.{get_or-drop, length-take-le}
use mir.Val.{Fits}
use mir.Syntax.{w64}
use Rattle.std.specs.Prelude.{Result, Ok, Err, Some, None}
use Rattle.meaning.specs.Text.{from}
use Rattle.meaning.specs.Kleene.{true₃}
use Rattle.meaning.specs.Limits.{card_bytes, status_limit}
use Rattle.meaning.specs.Reading.{each}
use Rattle.meaning.specs.Name.{Name}
use Rattle.meaning.specs.Sheet.{Status}
use Rattle.meaning.specs.Card.{is, status_mark, ended, shut, orphan}
use Rattle.theory.specs.Reading.Told.{took}
use Rattle.theory.specs.Reading.Piece.{Took}
use Rattle.theory.specs.Reading.Each.{Part, part_start, part_end, part_off, part_on}
use Rattle.name.specs.declared.Name.{Name as Kept}
use Rattle.name.specs.Names.{name_of, names_in, name_at}
use Rattle.name.proofs.Tables.{names_length, name_at_lem}
use Rattle.sheet_tables.specs.declared.Heads.{Heads}
use Rattle.theory.specs.Lists.Padded.{padded, padded_at}
use Rattle.sheet_tables.specs.Heads.{Sized, under_of, status_at, heads_of}
use Rattle.reply.specs.declared.Fault.{Fault}
use Rattle.reply.specs.declared.Wrong.{Wrong}
use Rattle.text.specs.declared.Taken.{Taken}
use Rattle.marks.specs.Codes.{code, mark_code, is_yes, side_of}
use Rattle.marks.proofs.Callers.{code_yes}
use Rattle.card_read.specs.Parts.{marks_from, as_orphan}
use Rattle.card_lines.specs.Answers.{as_mark, on_line}
use Rattle.card_lines.proofs.Callers.{mark_took, mark_refuses}
use Rattle.card_lines.proofs.Papers.{line_went, line_fails}
use Rattle.case_tables.proofs.Rows.{column_more}
use Rattle.sheet_tables.proofs.Names.{names_cons}

-- THE LINES

-- before line i of these
pub record MarksAt (s : List ℕ) (ns : List Name) (p line at : ℕ) (marks : List ℕ) (i : ℕ) : Type 0 where
  pub bs : List Bool
  pub part : Part (λ n. ended (status_mark n)) ns (each (λ n. ended (status_mark n)) ns line (drop p s)) s (line + i) at i bs
  pub held : marks ≡ padded status_limit 0 (map mark_code bs)

pub marks_start : (s : List ℕ) (ns : List Name) (p line : ℕ) → p ≤ length s → MarksAt s ns p line p (replicate status_limit 0) 0
unfolding padded
marks_start s ns p line h = record { bs = []; part = rw add-zero (part_start _ ns s line p h); held = refl }

module _ (s names : List ℕ) (first count p line at : ℕ) (marks : List ℕ) (i : ℕ)
    (g : MarksAt s (take count (drop first (names_in names))) p line at marks i) (held : first + count ≤ length (names_in names)) where
  fewer : count ≤ length (drop first (names_in names))
  fewer = omega (arith, length-drop first (names_in names))

  pub marks_done : count ≤ i → Ok (record { at = at; marks = marks }) ≡ marks_from (take count (drop first (names_in names))) p line s
  marks_done h =
      let d = length-take-le count (drop first (names_in names)) fewer in
      let e = part_end g.part (omega arith) in
      rw (e, took s at g.part.within) (ap (λ m. Ok (record { at = at; marks = m })) g.held)

  module _ (more : i < count) (j : ℕ) (where? : j ≡ first + i) (d : Kept) (due : d ≡ name_at names j) (t : List ℕ) (q : Result (Taken ℕ) Fault)
      (rest : t ≡ drop at s) (is : q ≡ as_mark t (ended (status_mark (name_of d)) 0 t)) (l : ℕ) (line_is : l ≡ line + i) (r : Result (Taken ℕ) Wrong)
      (told : r ≡ on_line q l) where
    here : drop i (take count (drop first (names_in names))) ≡ name_of d ∷ drop (i + 1) (take count (drop first (names_in names)))
    here = names_cons (drop first (names_in names)) count i more fewer ∙ rw (get_or-drop first (names_in names) i [], ← where?, ← name_at_lem names j, due)

    pub marks_bad : (w : Wrong) → r ≡ Err w → Err w ≡ marks_from (take count (drop first (names_in names))) p line s
    marks_bad w e =
        let f = line_fails (mark_refuses (name_of d) t q is) (line + i) r (rw line_is at told) w e in
        rw (f.is, part_off g.part (name_of d) here t rest f.number (line + i) f.reads)

    module _ (v : Taken ℕ) (e : r ≡ Ok v) where
      taken : Took (λ b n. record { value = mark_code b; bytes = n }) suc (λ b n. Unit {0}) (ended (status_mark (name_of d))) t v
      taken = mark_took (name_of d) t q is v (line_went q l r told v e)

      size : v.bytes ≡ taken.bytes
      size = ap (λ v. v.bytes) taken.same

      pub marks_room : length s ≤ card_bytes → (j : ℕ) → j ≡ at + v.bytes → Fits w64 j
      marks_room short j z = omega (arith, taken.within, size, ap length rest, length-drop at s, g.part.within)

      pub marks_more : count ≤ status_limit → (at' i' : ℕ) → at' ≡ at + v.bytes → i' ≡ i + 1
          → MarksAt s (take count (drop first (names_in names))) p line at' (set marks i v.value) i'
      marks_more h at' i' x y =
          let z : line + i' ≡ suc (line + i) = omega arith in
          let b : at' ≡ at + taken.bytes = omega (arith, size) in
          record {
            bs = g.bs ++ (taken.value ∷ []);
            part = part_on g.part _ here t rest taken.value taken.bytes at' i' (line + i') taken.within (rw z (taken.reads (line + i))) b y;
            held = column_more mark_code status_limit marks g.bs taken.value i v.value g.held g.part.many (omega arith) (ap (λ v. v.value) taken.same);
          }

-- the place of a name stays within the table
pub name_room_lem : (names : List ℕ) (first count i : ℕ) → first + count ≤ length (names_in names) → i < count → length names < 2 ^ 64 → (j : ℕ) → j ≡ first + i
    → Fits w64 j
name_room_lem names first count i held more short j z = omega (arith, names_length names)

pub ruleset marking = (name_room_lem, marks_start, marks_done, marks_bad, marks_room, marks_more)

-- ORPHANS
yes_at_lem : (marks : List ℕ) (x : ℕ) → is (side_of marks) x ≡ is_yes (get_or marks x 0)
unfolding side_of
yes_at_lem marks x = get_or-map is_yes marks x 0

module _ (marks : List ℕ) (mark under : ℕ) where
  pub orphan_no : (mark ≡ code true₃ → ⊥) → false ≡ (is_yes mark && shut (side_of marks) (under_of under))
  orphan_no h = rw (ne_eqb mark (code true₃) h)

  module _ (yes : mark ≡ code true₃) where
    pub orphan_top : under ≡ 0 → false ≡ (is_yes mark && shut (side_of marks) (under_of under))
    orphan_top e = rw (eq-eqb mark (code true₃) yes, e)

    pub orphan_under : (under ≡ 0 → ⊥) → not (is_yes (get_or marks (under - 1) 0)) ≡ (is_yes mark && shut (side_of marks) (under_of under))
    orphan_under h =
        let z : under ≡ suc (under - 1) = omega arith in
        let y : shut (side_of marks) (under_of under) ≡ not (is (side_of marks) (under - 1)) = ap (λ u. shut (side_of marks) (under_of u)) z in
        rw (eq-eqb mark (code true₃) yes, y, yes_at_lem marks (under - 1))

pub ruleset judging = (orphan_no, orphan_top, orphan_under)

-- the stages from place x on
abbrev pub stages_from : Heads → ℕ → List Status
stages_from h x = map (status_at h) (from x (h.stages - x))

pub scan_under : (h : Heads) (x : ℕ) → Sized h → get_or h.under x 0 ≤ status_limit
scan_under h x z = omega (arith, z.under_stage x, z.few_statuses)

pub scan_start : (h : Heads) (side : List Bool) → orphan side 0 (heads_of h).stages ≡ orphan side 0 (stages_from h 0)
unfolding heads_of
scan_start h side = let z : h.stages - 0 ≡ h.stages = omega arith in rw z

module _ (h : Heads) (marks : List ℕ) (x : ℕ) (so : orphan (side_of marks) 0 (heads_of h).stages ≡ orphan (side_of marks) x (stages_from h x)) where
  pub scan_done : h.stages ≤ x → None ≡ as_orphan (orphan (side_of marks) 0 (heads_of h).stages)
  unfolding orphan from
  scan_done e = let z : h.stages - x ≡ 0 = omega arith in rw (so, z)

  module _ (more : x < h.stages) (b : Bool) (is? : b ≡ (is_yes (get_or marks x 0) && shut (side_of marks) (under_of (get_or h.under x 0)))) where
    one : orphan (side_of marks) x (stages_from h x) ≡ elim b [ true ↦ some x | false ↦ orphan (side_of marks) (suc x) (stages_from h (suc x)) ]
    unfolding orphan from
    one =
        let z : h.stages - x ≡ suc (h.stages - suc x) = omega arith in
        rw (z, is?, ← yes_at_lem marks x, orphan)

    pub scan_found : b ≡ true → Some x ≡ as_orphan (orphan (side_of marks) 0 (heads_of h).stages)
    scan_found e = rw (so ∙ one, e)

    pub scan_next : b ≡ false → (x' : ℕ) → x' ≡ x + 1 → orphan (side_of marks) 0 (heads_of h).stages ≡ orphan (side_of marks) x' (stages_from h x')
    scan_next e x' z = so ∙ one ∙ rw (e, z, add-one)

pub ruleset scanning = (scan_under, scan_start, scan_done, scan_found, scan_next)

pub marks_side : (marks : List ℕ) (bs : List Bool) → marks ≡ padded status_limit 0 (map mark_code bs) → (x : ℕ) → is (side_of marks) x ≡ is bs x
marks_side marks bs e x = yes_at_lem marks x ∙ rw (e, padded_at status_limit 0 (map mark_code bs) x, get_or-map mark_code bs x false) (code_yes (is bs x))
