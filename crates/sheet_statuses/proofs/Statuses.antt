-- The stage lines and the mile lines: the way into their section, each way out, and on to the next line.
use Prim.Native.Nat.{ℕ, ◌+◌, ◌-◌, ◌^◌, ◌<◌, ◌≤◌}
use mathlib.Core.Path.{◌≡◌, refl, sym, ◌∙◌, ap}
use mathlib.Core.Bool.{Bool, true, false, not, cond}
use mathlib.Core.List.{List, [], ◌∷◌, ◌++◌, map, append-nil, append_assoc}
use native.Mathlib.Omega.{arith}
use lib.Dec.{leb}
use lib.ListN.{length, take, drop, set, length-append, length-map}
use mir.Val.{Fits, bool_byte}
use mir.Syntax.{w64, w8}
use Rattle.std.specs.Prelude.{Result, Ok, Err, Option, Some, None}
use Rattle.meaning.specs.Limits.{status_limit}
use Rattle.meaning.specs.Reading.{Got, Reader, after, ◌>>=◌, give}
use Rattle.meaning.specs.Name.{Name}
use Rattle.meaning.specs.Sheet as M
use Rattle.meaning.specs.Sheet.{status_names, statuses, all_names}
use Rattle.meaning.specs.ReadSheet as R
use Rattle.theory.specs.Lists.Padded.{padded, mapped_set}
use Rattle.theory.specs.Reading.Answered.{left_at}
use Rattle.theory.specs.Reading.Readers.{after_after}
use Rattle.theory.specs.Papers.Formed.{names_stage, names_mile}
use Rattle.limits.specs.Sizes.{name_room}
use Rattle.reply.specs.declared.Fault.{Fault}
use Rattle.text.specs.declared.Taken.{Taken}
use Rattle.name.specs.Names.{kept, names_in, put_in, Again}
use Rattle.sheet_tables.specs.declared.Heads.{Heads}
use Rattle.sheet_tables.specs.Heads.{as_heads, heads_of, under_code}
use Rattle.sheet_section.specs.declared.Above.{Above}
use Rattle.sheet_section.specs.Answers.{as_above, as_row}
use Rattle.sheet_section.specs.Held.{Plain, Reached}
use Rattle.sheet_section.proofs.Rows.{tabled, counted, names_so_far, stages_known}
use Rattle.sheet_section.proofs.Sections.{Going, going_at, Row, RowTold, going_row, going_more}
use Rattle.sheet_statuses.specs.declared.Status.{Status}
use Rattle.sheet_statuses.specs.Answers.{as_status, status, status_key, with_status, lines_of, Before, Behind}
use Rattle.sheet_statuses.proofs.Line.{Known, status_ends}

-- all that is read with them, and their rows
abbrev whole : Bool → List ℕ → Above → Got M.Heads
whole miles s before = lines_of miles (heads_of before.heads) before.line (drop before.at s)

abbrev row_of : Bool → M.Heads → Reader M.Heads
row_of miles hd = R.status hd >>= λ x. give (with_status miles hd x)

-- WHERE THE SECTION STANDS
pub record Statuses (s key : List ℕ) (before : Above) (miles : Bool) (a : Above) : Type 0 where
  pub small : length s < 2 ^ 64
  pub key_is : key ≡ status_key miles
  pub going : Going (status_key miles) (row_of miles) status_limit (λ hd. length (statuses hd)) (Behind miles) s (whole miles s before) a

-- what is left to be read behind them
behind_is : (miles : Bool) (hd : M.Heads) → Before miles hd → Behind miles hd
behind_is false hd late = late.1
behind_is true hd late = tt

pub statuses_start : (s key : List ℕ) (before : Above) (miles : Bool) → key ≡ status_key miles → Reached (Before miles) s before → length s < 2 ^ 64
    → Statuses s key before miles before
statuses_start s key before miles k reached small =
    record {
      small = small;
      key_is = k;
      going =
          going_at {key = status_key miles} {row = row_of miles} {limit = status_limit} {size = λ hd. length (statuses hd)} {P = Before miles}
          {Q = Behind miles} (lines_of miles) before (behind_is miles) (λ hd h l t. refl) reached;
    }

rows : (miles : Bool) (hd : M.Heads) (g : M.Heads → Reader M.Heads) (l : ℕ) (t : List ℕ)
    → after (row_of miles hd l t) g ≡ after (status (all_names hd) (status_names hd.stages) l t) (λ x. g (with_status miles hd x))
unfolding R.status
rows miles hd g l t = simp after_after

status_told : {ks js : List ℕ} {us vs ms ns : List Name} → ks ≡ js → us ≡ vs → ms ≡ ns → (c : Bool) (t : List ℕ)
    → as_row as_status ks c (status us ms) t ≡ as_row as_status js c (status vs ns) t
status_told k u m c t = rw (k, u, m)

-- a status counts as one
counted_one : (b : Bool) → bool_byte b ≡ cond b 1 0
counted_one false = refl
counted_one true = refl

sum_one : (b : Bool) → bool_byte (not b) + bool_byte b ≡ 1
sum_one false = refl
sum_one true = refl

-- ONE MORE STATUS
module _ (hd : M.Heads) (a : M.Status) where
  statuses_row : (m : Bool) → Behind m hd → statuses (with_status m hd a) ≡ statuses hd ++ (a ∷ [])
  unfolding statuses
  statuses_row false late = rw late (simp append-nil)
  statuses_row true late = sym (append_assoc hd.stages hd.miles (a ∷ []))

  names_row : (m : Bool) → Behind m hd → all_names (with_status m hd a) ≡ all_names hd ++ (a.name ∷ [])
  names_row false late = names_stage hd a late
  names_row true late = names_mile hd a

  behind_row : (m : Bool) → Behind m hd → Behind m (with_status m hd a)
  behind_row false late = late
  behind_row true late = tt

  -- it counts once, as a stage or as a mile
  counts_row : (m : Bool)
      → (length (with_status m hd a).stages ≡ length hd.stages + cond (not m) 1 0) × (length (with_status m hd a).miles ≡ length hd.miles + cond m 1 0)
  counts_row false = (length-append hd.stages (a ∷ []), omega arith)
  counts_row true = (omega arith, length-append hd.miles (a ∷ []))

  plain_row : (m : Bool) → Behind m hd → length hd.stages + length hd.miles < status_limit → Plain hd → Again (all_names (with_status m hd a))
      → Plain (with_status m hd a)
  plain_row false late h p n =
      let c = counts_row false in
      record { names = n; carried = p.carried; few_fields = p.few_fields; few_events = p.few_events; few_statuses = omega arith }
  plain_row true late h p n =
      let c = counts_row true in
      record { names = n; carried = p.carried; few_fields = p.few_fields; few_events = p.few_events; few_statuses = omega arith }

  size : length (statuses hd) ≡ length hd.stages + length hd.miles
  unfolding statuses
  size = length-append hd.stages hd.miles

  abbrev code : M.Status → ℕ
  code s = under_code s.under

  set_more : length (statuses hd) < status_limit
      → set (padded status_limit 0 (map code (statuses hd))) (length (statuses hd)) (code a) ≡ padded status_limit 0 (map code (statuses hd ++ (a ∷ [])))
  set_more h = mapped_set status_limit code (statuses hd) a h

  heads_row : (m : Bool) → Behind m hd → (h : Heads) → h ≡ as_heads hd → (u x mile stage : ℕ) → u ≡ under_code a.under
      → x ≡ length hd.stages + length hd.miles → x < status_limit
      → mile ≡ cond m 1 0 → stage ≡ cond (not m) 1 0 → (ns : List ℕ) → ns ≡ (as_heads (with_status m hd a)).names
      → tabled h.model h.fields h.events (h.stages + stage) (h.miles + mile) ns h.carried h.carries (set h.under x u) ≡ as_heads
      (with_status m hd a)
  unfolding as_heads
  heads_row false late h is u x mile stage under_is x-is room y z ns e =
      rw (e, is, y, z, under_is, x-is ∙ sym size, set_more (omega (arith, size)), ← statuses_row false late, ← (counts_row false).0, ← (counts_row false).1)
  heads_row true late h is u x mile stage under_is x-is room y z ns e =
      rw (e, is, y, z, under_is, x-is ∙ sym size, set_more (omega (arith, size)), ← statuses_row true late, ← (counts_row true).0, ← (counts_row true).1)

-- THE WAYS ON
module _ (s key : List ℕ) (before : Above) (miles : Bool) (a : Above) (i : Statuses s key before miles a) where
  abbrev h : Heads
  h = a.heads

  abbrev hd : M.Heads
  hd = i.going.sheet

  abbrev count : ℕ
  count = h.fields + h.events + (h.stages + h.miles)

  -- the sums fit
  pub statuses_fields : h.fields ≤ Rattle.meaning.specs.Limits.field_limit
  statuses_fields = i.going.counts.0

  pub statuses_events : h.events ≤ Rattle.meaning.specs.Limits.event_limit
  statuses_events = i.going.counts.1

  pub statuses_few : h.stages + h.miles ≤ status_limit
  statuses_few = i.going.counts.2

  pub statuses_both : Fits w64 (h.stages + h.miles)
  statuses_both = omega (arith, i.going.counts)

  pub statuses_above : Fits w64 (h.fields + h.events)
  statuses_above = omega (arith, i.going.counts)

  pub statuses_count : Fits w64 count
  statuses_count = omega (arith, i.going.counts)

  pub statuses_stages : Fits w64 (h.stages + bool_byte (not miles))
  statuses_stages = omega (arith, i.going.counts, sum_one miles)

  pub statuses_miles : Fits w64 (h.miles + bool_byte miles)
  statuses_miles = omega (arith, i.going.counts, sum_one miles)

  size_is : length (statuses hd) ≡ h.stages + h.miles
  unfolding statuses
  size_is = omega (arith, length-append hd.stages hd.miles, counted _ _ i.going.is)

  abbrev stages : List Name
  stages = status_names hd.stages

  few_stages : length stages ≤ status_limit
  unfolding status_names
  few_stages = omega (arith, length-map hd.stages (λ (x : M.Status). x.name), counted _ _ i.going.is, i.going.counts)

  -- by the answer on the row
  module _ (v : List ℕ) (o : Result (Option (Taken Status)) Fault) (rest : v ≡ drop a.at s)
      (read : o ≡ as_row as_status key (leb status_limit (h.stages + h.miles)) (status (take count (names_in h.names))
      (take h.stages (drop (h.fields + h.events)
      (names_in h.names)))) v) where
    row : RowTold i.going as_status (Known (length stages)) (with_status miles hd) o
    row =
        let c = counted _ _ i.going.is in
        let used = names_so_far h hd i.going.is i.going.plain count c.4 in
        let m : h.fields + h.events + h.stages - (h.fields + h.events) ≡ h.stages = omega arith in
        let known : take h.stages (drop (h.fields + h.events) (names_in h.names)) ≡ stages
        = ap (λ n. take n (drop (h.fields + h.events) (names_in h.names))) (sym m)
        ∙ stages_known h hd i.going.is i.going.plain (h.fields + h.events) (h.fields + h.events + h.stages) (omega arith) (omega arith) in
        going_row i.going as_status (Known (length stages)) (with_status miles hd) (status_ends (all_names hd) stages) (rows miles hd) status_limit
        (h.stages + h.miles) (omega (arith, size_is)) v o rest (read ∙ status_told i.key_is used known (leb status_limit (h.stages + h.miles)) v)

    pub statuses_wrong : (e : Fault) → o ≡ Err e → (l : ℕ) → l ≡ a.line → Err (record { fault = e; line = l }) ≡ as_above s (whole miles s before)
    statuses_wrong e z l y = rw y (rw z at row)

    pub statuses_over : (x : Option (Taken Status)) → o ≡ Ok x → x ≡ None → Ok a ≡ as_above s (whole miles s before)
    statuses_over x z y = rw (z, y) at row

    module _ (x : Option (Taken Status)) (ok : o ≡ Ok x) (w : Taken Status) (some : x ≡ Some w) where
      read_row : Row i.going as_status (Known (length stages)) (with_status miles hd) w
      read_row = rw (ok, some) at row

      key_long : 1 ≤ length (status_key miles)
      key_long = go miles
        where
          go : (b : Bool) → 1 ≤ length (status_key b)
          go false = omega arith
          go true = omega arith

      bytes : w.bytes ≡ length (status_key miles) + read_row.bytes
      bytes = ap (λ (w : Taken Status). w.bytes) read_row.same

      status_is : w.value ≡ as_status read_row.value
      status_is = ap (λ (w : Taken Status). w.value) read_row.same

      code_is : w.value.under ≡ under_code read_row.value.under
      code_is = ap (λ (x : Status). x.under) status_is

      pub statuses_at : Fits w64 (a.at + w.bytes)
      statuses_at = omega (arith, read_row.left.within, i.small)

      pub statuses_number : Fits w64 (a.line + 1)
      statuses_number = omega (arith, read_row.left.within, i.small, i.going.lines, bytes, key_long)

      pub statuses_index : h.stages + h.miles < status_limit
      statuses_index = omega (arith, read_row.room, size_is)

      pub statuses_names : count < name_room
      statuses_names = omega (arith, statuses_index, i.going.counts)

      pub statuses_less : status_limit - (h.stages + bool_byte (not miles) + (h.miles + bool_byte miles)) < status_limit - (h.stages + h.miles)
      statuses_less = omega (arith, statuses_index, sum_one miles)

      pub statuses_byte : Fits w8 w.value.under
      statuses_byte = omega (arith, code_is, read_row.holds.1, few_stages)

      pub statuses_more : (line : ℕ) → line ≡ a.line + 1 → (at : ℕ) → at ≡ a.at + w.bytes → (ns : List ℕ) → ns ≡ put_in h.names count w.value.name
          → Statuses s key before miles (record {
            line = line;
            at = at;
            heads = tabled h.model h.fields h.events (h.stages + bool_byte (not miles)) (h.miles + bool_byte miles) ns h.carried h.carries
                (set h.under (h.stages + h.miles) w.value.under);
          })
      statuses_more line line_is at at_is ns p =
          let g = i.going in
          let x = read_row.value in
          let c = counted _ _ g.is in
          let x-is : h.stages + h.miles ≡ length hd.stages + length hd.miles = omega arith in
          let name_is : w.value.name ≡ kept x.name = ap (λ (x : Status). x.name) status_is in
          let one : length (statuses (with_status miles hd x)) ≡ length (statuses hd) + 1 = ap length (statuses_row hd x miles g.late) ∙ length-append
          (statuses hd) (x ∷ []) in
          record {
            small = i.small;
            key_is = i.key_is;
            going =
                going_more g count w.value.name x.name c.4 statuses_names name_is read_row.holds.0 read_row.room (with_status miles hd x)
                (behind_row hd x miles g.late) one (names_row hd x miles g.late) _ line_is (omega (arith, g.lines, bytes, key_long))
                (left_at read_row.left at at_is)
                (λ e. heads_row hd x miles g.late h g.is w.value.under (h.stages + h.miles) (bool_byte miles) (bool_byte (not miles)) code_is x-is
                statuses_index
                (counted_one miles) (counted_one (not miles)) ns (p ∙ e))
                (plain_row hd x miles g.late (omega (arith, x-is, statuses_index)) g.plain);
          }

pub ruleset statusing = (
  statuses_start,
  statuses_fields,
  statuses_events,
  statuses_few,
  statuses_both,
  statuses_above,
  statuses_count,
  statuses_stages,
  statuses_miles,
  statuses_wrong,
  statuses_over,
  statuses_at,
  statuses_number,
  statuses_index,
  statuses_names,
  statuses_less,
  statuses_byte,
  statuses_more,
)
