-- Laws of the scan over the rules' lines: what is known at each turn, and how it ends.
use Prim.Native.Nat.{ℕ, suc, ◌+◌, ◌-◌, ◌*◌, ◌^◌, ◌≤◌, ◌<◌}
use mathlib.Core.Path.{◌≡◌, refl, sym, ◌∙◌, ap}
use mathlib.Core.Bool.{Bool, true, false}
use mathlib.Core.List.{List, [], ◌∷◌, ◌++◌}
use native.Mathlib.Omega.{arith}
use native.Mathlib.Nat.{add-zero, zero-add}
use lib.ListN.{length, drop, set, length-append}
use lib.Seq.{drop-drop, sets, length-sets}
use mir.Val.{Fits}
use mir.Syntax.{w64}
use Rattle.std.specs.Prelude.{Result, Ok, Err}
use Rattle.meaning.specs.Text.{text, begins, joined}
use Rattle.meaning.specs.Refusal.{FULL}
use Rattle.meaning.specs.Limits.{rule_limit, leaf_limit}
use Rattle.meaning.specs.Reading.{Got, after, give}
use Rattle.meaning.specs.Name.{Name}
use Rattle.meaning.specs.Sheet as M
use Rattle.meaning.specs.Sheet.{leaves_of, leaves}
use Rattle.meaning.specs.ReadSheet.{section, rule, rule_row}
use Rattle.theory.specs.Lists.Members.{joined_more, sets_append}
use Rattle.theory.specs.Lists.Padded.{padded_set}
use Rattle.theory.specs.Reading.Sections.{section_over, section_full, section_wrong, section_row}
use Rattle.theory.specs.Reading.Answered.{behind}
use Rattle.text.proofs.Callers.{begins_fits}
use Rattle.sheet_tables.specs.declared.Rules.{Rules}
use Rattle.sheet_tables.specs.Rules.{words_of, as_rule, no_rule, as_rows, all_words, as_rules}
use Rattle.sheet_tables.proofs.RuleRows.{rows_count}
use Rattle.sheet_rule.specs.declared.Row.{Row}
use Rattle.reply.specs.declared.Fault.{Fault}
use Rattle.reply.specs.declared.Fault.TheVariants as F
use Rattle.reply.specs.declared.Wrong.{Wrong}
use Rattle.reply.specs.Faults.{wrong_of}
use Rattle.text.specs.declared.Taken.{Taken}
use Rattle.sheet_rule.specs.Answers.{Room, as_row, rule_space}
use Rattle.sheet_rule.proofs.Callers.{Rowed, row_wrong, row_got}
use Rattle.sheet_rules.specs.Parts.{RowsAs}

-- A RULE MORE
abbrev ws : M.Rule → List ℕ
ws r = words_of r.condition

words_more : (so : List M.Rule) (r : M.Rule) → all_words (so ++ (r ∷ [])) ≡ all_words so ++ ws r
unfolding all_words
words_more so r = joined_more ws so r

leaves_more : (so : List M.Rule) (r : M.Rule) → leaves (so ++ (r ∷ [])) ≡ leaves so ++ leaves_of r.condition
unfolding leaves
leaves_more so r = joined_more (λ r. leaves_of r.condition) so r

count_more : (so : List M.Rule) (r : M.Rule) → length (so ++ (r ∷ [])) ≡ suc (length so)
count_more so r = rw length-append (omega arith)

rows_more : (top : ℕ) (so : List M.Rule) (r : M.Rule) → as_rows top (so ++ (r ∷ [])) ≡ as_rows top so ++ (as_rule (top + length (all_words so)) r ∷ [])
unfolding as_rows all_words joined
rows_more top [] r = rw add-zero
rows_more top (x ∷ so) r =
    let z : top + length (ws x) + length (all_words so) ≡ top + length (ws x ++ all_words so) = rw length-append (omega arith) in
    rw ((rows_more (top + length (ws x)) so r), z)

-- the table with a row behind the others
abbrev with_row : Rules → Row → Rules
with_row t a = record { rows = set t.rows t.count a.rule; count = t.count + 1; top = a.top; leaves = a.leaves }

-- is that of one rule more, where the row stands for it
module _ (so : List M.Rule) (r : M.Rule) (h : length so < rule_limit) where
  rows_set : set (as_rules so).rows (length so) (as_rule (length (all_words so)) r) ≡ (as_rules (so ++ (r ∷ []))).rows
  unfolding as_rules
  rows_set = rw (rows_more 0 so r, ← rows_count 0 so, zero-add)
      (padded_set rule_limit no_rule (as_rows 0 so) (as_rule (length (all_words so)) r) (rw (rows_count 0 so) h))

  rules_more : (t : Rules) → t ≡ as_rules so → (a : Row) → a.rule ≡ as_rule t.top r → a.top ≡ t.top + length (ws r)
      → a.leaves ≡ t.leaves + length (leaves_of r.condition) → with_row t a ≡ as_rules (so ++ (r ∷ []))
  unfolding as_rules
  rules_more t e a f g i =
      let b : length so + 1 ≡ length (so ++ (r ∷ [])) = sym (length-append so (r ∷ [])) in
      let c : length (all_words so) + length (ws r) ≡ length (all_words (so ++ (r ∷ []))) = rw (words_more so r) (sym (length-append (all_words so) (ws r))) in
      let d : length (leaves so) + length (leaves_of r.condition) ≡ length (leaves (so ++ (r ∷ [])))
      = rw (leaves_more so r) (sym (length-append (leaves so) (leaves_of r.condition))) in
      rw (f, g, i, e, rows_set, b, c, d)

module _ (fs es ss : List Name) (s was : List ℕ) where
  abbrev lines : ℕ → List M.Rule → ℕ → List ℕ → Got (List M.Rule)
  lines room so l t = section (text "rule=") (rule_row fs es ss) room so l t

  -- AT EACH TURN: the rules so far are in the table, their words in the lent space, and the rest of the section begins at `at`
  pub record Going (at : ℕ) (rules : Rules) (now : List ℕ) : Type 0 where
    pub so : List M.Rule
    pub within : at ≤ length s
    pub big : length s < 2 ^ 64
    pub room : length so ≤ rule_limit
    pub table : rules ≡ as_rules so
    pub space : now ≡ sets was 0 (all_words so)
    pub few : length (leaves so) ≤ leaf_limit
    pub small : length (all_words so) ≤ 2 * length (leaves so)
    pub same : lines rule_limit [] 0 s ≡ lines (rule_limit - length so) so (length so) (drop at s)

  pub going_start : length s < 2 ^ 64 → (rules : Rules) → rules ≡ as_rules [] → Going 0 rules was
  unfolding all_words leaves joined
  going_start big rules e = record {
    so = [];
    within = omega arith;
    big = big;
    room = omega arith;
    table = e;
    space = refl;
    few = omega arith;
    small = omega arith;
    same = refl;
  }

  module _ (at : ℕ) (rules : Rules) (now : List ℕ) (g : Going at rules now) where
    counted : rules.count ≡ length g.so
    unfolding as_rules
    counted = ap (λ (r : Rules). r.count) g.table

    topped : rules.top ≡ length (all_words g.so)
    unfolding as_rules
    topped = ap (λ (r : Rules). r.top) g.table

    leafed : rules.leaves ≡ length (leaves g.so)
    unfolding as_rules
    leafed = ap (λ (r : Rules). r.leaves) g.table

    few_leaves : rules.leaves ≤ leaf_limit
    few_leaves = omega (arith, leafed, g.few)

    -- the words of one rule more
    stored : (now' : List ℕ) (y : M.Rule) → now' ≡ sets now rules.top (ws y) → now' ≡ sets was 0 (all_words (g.so ++ (y ∷ [])))
    stored now' y w = w ∙ ap (λ (n : ℕ). sets now n (ws y)) topped ∙ ap (λ (l : List ℕ). sets l (length (all_words g.so)) (ws y)) g.space
        ∙ rw (words_more g.so y) (more (all_words g.so) (ws y))
      where
        more : (xs ys : List ℕ) → sets (sets was 0 xs) (length xs) ys ≡ sets was 0 (xs ++ ys)
        more xs ys = rw (zero-add (length xs)) at (sets_append xs ys was 0)

    pub going_length : length now ≡ length was
    going_length = ap length g.space ∙ length-sets was 0 (all_words g.so)

    pub going_kept : (now' : List ℕ) → length now' ≡ length now → length now' ≡ length was
    going_kept now' e = e ∙ going_length

    pub going_room : Room fs es ss was 0 0 → Room fs es ss now rules.top rules.leaves
    going_room r = record {
      few_fields = r.few_fields;
      few_events = r.few_events;
      few_statuses = r.few_statuses;
      few_leaves = few_leaves;
      few_words = omega (arith, topped, leafed, g.small);
      room = omega (arith, going_length, r.room);
    }

    module _ (v : List ℕ) (here : v ≡ drop at s) (b : Bool) (is : b ≡ begins (text "rule=") v) where
      pub rows_over : b ≡ false → RowsAs s was now (Ok (record { value = rules; bytes = at })) (lines rule_limit [] 0 s)
      rows_over e =
          let q : begins (text "rule=") (drop at s) ≡ false = rw here at (sym is ∙ e) in
          rw (g.same, section_over (text "rule=") (rule_row fs es ss) g.so (length g.so) (drop at s) (rule_limit - length g.so) q)
          (record { rules = g.table; rest = refl; line = refl; few = g.room; space = g.space })

      module _ (e : b ≡ true) where
        key : begins (text "rule=") (drop at s) ≡ true
        key = rw here at (sym is ∙ e)

        rows_key : at + 5 ≤ length s
        rows_key = behind s 5 at g.within (begins_fits (text "rule=") (drop at s) key)

        pub rows_full : rule_limit ≤ rules.count → RowsAs s was now (Err (record { fault = F.Full; line = rules.count })) (lines rule_limit [] 0 s)
        rows_full h =
            let z : rule_limit - length g.so ≡ 0 = omega (arith, counted) in
            rw (g.same, z, section_full (text "rule=") (rule_row fs es ss) g.so (length g.so) (drop at s) key)
            (ap (wrong_of FULL) counted)

        pub rows_next : (k : ℕ) → k ≡ at + 5 → Fits w64 k
        rows_next k w = omega (arith, rows_key, g.big)

        module _ (less : rules.count < rule_limit) (x : ℕ) (next : x ≡ at + 5) (u : List ℕ) (from : u ≡ drop x s) (r : Result Row Fault)
            (told : r ≡ as_row u rules.top rules.leaves (rule fs es ss rules.leaves 0 u)) where
          -- the meaning's reader of this row
          read_row : (l : ℕ) (q : Got M.Rule) → rule fs es ss rules.leaves l u ≡ q
              → rule_row fs es ss g.so l (drop 5 (drop at s)) ≡ after q (λ y. give (g.so ++ (y ∷ [])))
          unfolding rule_row
          read_row l q h =
              let d : drop 5 (drop at s) ≡ u = rw (drop-drop 5 at s, from, next) in
              rw d (rw (← leafed, h))

          left_room : 1 ≤ rule_limit - length g.so
          left_room = omega (arith, counted)

          pub rows_wrong : (e : Fault) → r ≡ Err e → (now' : List ℕ) → (w : Wrong) → w ≡ record { fault = e; line = rules.count }
              → (v : Result (Taken Rules) Wrong) → v ≡ Err w → RowsAs s was now' v (lines rule_limit [] 0 s)
          rows_wrong e f now' w z v y =
              let n = length g.so in
              let k = row_wrong fs es ss u rules.top rules.leaves r told e f in
              let d = read_row n _ (k.reads n) in
              let i = k.is in
              let j = counted in
              let h : w ≡ wrong_of k.number n = cc in
              rw (y, g.same, section_wrong (text "rule=") (rule_row fs es ss) g.so n (drop at s) key (rule_limit - n) left_room k.number n d) h

          module _ (a : Row) (f : r ≡ Ok a) where
            taken : Rowed (rule fs es ss rules.leaves) u rules.top rules.leaves a
            taken = row_got fs es ss u rules.top rules.leaves r told a f

            rows_last : at + 5 + a.bytes ≤ length s
            rows_last = behind s a.bytes (at + 5) rows_key (rw (from, next) at taken.within)

            pub rows_fits : (k : ℕ) → k ≡ x + a.bytes → Fits w64 k
            rows_fits k w = omega (arith, rows_last, g.big)

            pub rows_less : (k : ℕ) → k ≡ x + a.bytes → length s - k < length s - at
            rows_less k w = omega (arith, rows_last)

            further : lines rule_limit [] 0 s ≡ lines (rule_limit - length g.so - 1) (g.so ++ (taken.value ∷ [])) (suc (length g.so)) (drop a.bytes u)
            further =
                let n = length g.so in
                let e = read_row n _ (taken.reads n) in
                g.same ∙ section_row (text "rule=") (rule_row fs es ss) g.so n (drop at s) key (rule_limit - n) left_room _ _ _ e

            pub rows_row : (now' : List ℕ) → now' ≡ rule_space now rules.top (rule fs es ss rules.leaves 0 u) → (at' : ℕ) → at' ≡ x + a.bytes
                → (c : ℕ) → c ≡ rules.count + 1
                → Going at' (record { rows = set rules.rows rules.count a.rule; count = c; top = a.top; leaves = a.leaves }) now'
            rows_row now' store at' j c i =
                let h = taken in
                let y = h.value in
                let e1 : rule_limit - length g.so - 1 ≡ rule_limit - suc (length g.so) = omega arith in
                let e2 : drop a.bytes u ≡ drop at' s = rw (from, j, drop-drop a.bytes x s) in
                record {
                  so = g.so ++ (y ∷ []);
                  within = omega (arith, rows_last);
                  big = g.big;
                  room = rw (count_more g.so y) (omega (arith, counted));
                  table = rw i (rules_more g.so y (omega (arith, counted)) rules g.table a h.rule_is h.top_is h.leaves_is);
                  space = stored now' y (store ∙ rw (h.reads 0));
                  few = rw (leaves_more g.so y, length-append) (omega (arith, leafed, h.few.0 few_leaves));
                  small = rw (words_more g.so y, leaves_more g.so y, length-append (all_words g.so), length-append (leaves g.so))
                      (omega (arith, g.small, h.few.1));
                  same = further ∙ rw (count_more g.so y, e1, e2);
                }

pub ruleset scanning = (going_start, going_length, going_kept, going_room, rows_next, rows_fits, rows_less, rows_row, rows_over, rows_full)
