-- Laws of all rules together: their lines, the last line, and what is told of them.
use Prim.Native.Nat.{ℕ, suc, ◌+◌, ◌-◌, ◌≤◌}
use mathlib.Core.Path.{◌≡◌, refl, sym, ◌∙◌, ap}
use mathlib.Core.List.{List, []}
use native.Mathlib.Omega.{arith}
use lib.ListN.{length, take, drop}
use lib.Seq.{sets}
use mir.Val.{Fits}
use mir.Syntax.{w64}
use Rattle.std.specs.Prelude.{Result, Ok, Err}
use Rattle.meaning.specs.Text.{text}
use Rattle.meaning.specs.Limits.{rule_limit}
use Rattle.meaning.specs.Reading.{Got, got, wrong, after, give}
use Rattle.meaning.specs.Name.{Name}
use Rattle.meaning.specs.Number.{end_line}
use Rattle.meaning.specs.Sheet as M
use Rattle.meaning.specs.ReadSheet.{section, rule_row, rules_of}
use Rattle.reply.specs.declared.Wrong.{Wrong}
use Rattle.reply.specs.Faults.{wrong_of}
use Rattle.text.specs.declared.Taken.{Taken}
use Rattle.name.specs.Names.{names_in, part_of}
use Rattle.name.proofs.Tables.{part_names, part_length}
use Rattle.number.specs.Answers.{as_end}
use Rattle.number.proofs.Callers.{end_got, end_wrong, RefusesAt}
use Rattle.cond_item.specs.Answers.{cleared, Stored}
use Rattle.sheet_rule.specs.Answers.{Room}
use Rattle.sheet_tables.specs.declared.Rules.{Rules}
use Rattle.sheet_rules.specs.Answers.{as_rules_read, words_space, Ready}
use Rattle.sheet_tables.specs.Rules.{all_words, as_rules}
use Rattle.sheet_rules.specs.Parts.{RowsAs}

-- THE LENT WORDS: those of the rules are there, and where the rules are refused they are cleared
module _ (was is : List ℕ) (g : Got (List M.Rule)) (r : Result Rules Wrong) (told : r ≡ as_rules_read g) (h : Stored all_words was is 0 g) where
  words_stored : (v : Rules) → r ≡ Ok v → is ≡ words_space was g
  words_stored v e = go g (sym e ∙ told) h
    where
      go : (g : Got (List M.Rule)) → ◌≡◌ {A = Result Rules Wrong} (Ok v) (as_rules_read g) → Stored all_words was is 0 g → is ≡ words_space was g
      go (got rs l t) z h = h
      go (wrong n l) z h = cc

  words_cleared : (w : Wrong) → r ≡ Err w → length is ≡ length was → (end : List ℕ) → end ≡ cleared is 0 → end ≡ words_space was g
  words_cleared w e long end q = go g (sym e ∙ told)
    where
      go : (g : Got (List M.Rule)) → ◌≡◌ {A = Result Rules Wrong} (Err w) (as_rules_read g) → end ≡ words_space was g
      go (got rs l t) z = cc
      go (wrong n l) z = let y : length is - 0 ≡ length was = omega arith in q ∙ rw y

-- THE PARTS OF THE TABLE: as many names as are asked for, and room for words
module _ (names : List ℕ) (fields events statuses : ℕ) (fs es ss : List ℕ)
    (a : fs ≡ part_of names 0 fields) (b : es ≡ part_of names fields events) (c : ss ≡ part_of names (fields + events) statuses) where
  pub rules_room : (was : List ℕ) → Ready (names_in names) was fields events statuses → Room (names_in fs) (names_in es) (names_in ss) was 0 0
  rules_room was ready = record {
    few_fields = rw (a, part_length names 0 fields (omega (arith, ready.named_all))) ready.few_fields;
    few_events = rw (b, part_length names fields events (omega (arith, ready.named_all))) ready.few_events;
    few_statuses = rw (c, part_length names (fields + events) statuses ready.named_all) ready.few_statuses;
    few_leaves = omega arith;
    few_words = omega arith;
    room = ready.room;
  }

  -- the rules of the table
  abbrev tabled : List ℕ → Got (List M.Rule)
  tabled s = rules_of (take fields (names_in names)) (take events (drop fields (names_in names))) (take statuses (drop (fields + events) (names_in names))) 0 s

  -- are those of its parts
  parted_is : (s : List ℕ) → rules_of (names_in fs) (names_in es) (names_in ss) 0 s ≡ tabled s
  parted_is s = rw (a, b, c, part_names names 0 fields, part_names names fields events, part_names names (fields + events) statuses)

  pub rules_parts : (s : List ℕ) (r : Result Rules Wrong) → r ≡ as_rules_read (rules_of (names_in fs) (names_in es) (names_in ss) 0 s)
      → r ≡ as_rules_read (tabled s)
  rules_parts s r e = e ∙ ap as_rules_read (parted_is s)

  module _ (s was is : List ℕ) (r : Result Rules Wrong) (told : r ≡ as_rules_read (rules_of (names_in fs) (names_in es) (names_in ss) 0 s))
      (h : Stored all_words was is 0 (rules_of (names_in fs) (names_in es) (names_in ss) 0 s)) where
    pub rules_stored : (v : Rules) → r ≡ Ok v → is ≡ words_space was (tabled s)
    rules_stored v e = words_stored was is _ r told h v e ∙ ap (words_space was) (parted_is s)

    pub rules_cleared : (w : Wrong) → r ≡ Err w → length is ≡ length was → (end : List ℕ) → end ≡ cleared is 0 → end ≡ words_space was (tabled s)
    rules_cleared w e long end q = words_cleared was is _ r told h w e long end q ∙ ap (words_space was) (parted_is s)

module _ (s was now : List ℕ) (fs es ss : List Name) (r : Result (Taken Rules) Wrong)
    (is : RowsAs s was now r (section (text "rule=") (rule_row fs es ss) rule_limit [] 0 s)) where
  abbrev whole : Got (List M.Rule)
  whole = rules_of fs es ss 0 s

  abbrev lines : Got (List M.Rule)
  lines = section (text "rule=") (rule_row fs es ss) rule_limit [] 0 s

  -- what follows the rules' lines
  lines_then : (g : Got (List M.Rule)) → lines ≡ g → whole ≡ after g (λ rs. λ l s. after (end_line (length rs) l s) (λ _. give rs))
  unfolding rules_of
  lines_then g e = rw e

  -- no words are asked for where the rules are refused
  unstored : (n l : ℕ) → whole ≡ wrong n l → (end : List ℕ) → Stored all_words was end 0 whole
  unstored n l e end = rw e refl

  stopped_is : (w : Wrong) (n l : ℕ) → w ≡ wrong_of n l → whole ≡ wrong n l → Err w ≡ as_rules_read whole
  stopped_is w n l q e = rw (q, e)

  module _ (w : Wrong) (told : r ≡ Err w) where
    record Stops : Type 0 where
      number : ℕ
      line : ℕ
      wrong_is : w ≡ wrong_of number line
      same : whole ≡ wrong number line

    stops : Stops
    stops = go lines refl (rw told at is)
      where
        go : (g : Got (List M.Rule)) → lines ≡ g → RowsAs s was now (Err w) g → Stops
        go (got rs l t) e h = absurd h
        go (wrong n l) e h = record { number = n; line = l; wrong_is = h; same = lines_then (wrong n l) e }

    pub rules_stopped : Err w ≡ as_rules_read whole
    rules_stopped = let h = stops in stopped_is w h.number h.line h.wrong_is h.same

    pub rules_stopped_space : Stored all_words was now 0 whole
    rules_stopped_space = let h = stops in unstored h.number h.line h.same now

  module _ (rows : Taken Rules) (told : r ≡ Ok rows) where
    pub record Read : Type 0 where
      pub value : List M.Rule
      pub table : rows.value ≡ as_rules value
      pub count : rows.value.count ≡ length value
      pub few : length value ≤ rule_limit
      pub space : now ≡ sets was 0 (all_words value)
      pub same : whole ≡ after (end_line (length value) (length value) (drop rows.bytes s)) (λ _. give value)

    all_read : Read
    unfolding as_rules
    all_read = go lines refl (rw told at is)
      where
        go : (g : Got (List M.Rule)) → lines ≡ g → RowsAs s was now (Ok rows) g → Read
        go (got rs l t) e h =
            record {
              value = rs;
              table = h.rules;
              count = ap (λ (r : Rules). r.count) h.rules;
              few = h.few;
              space = h.space;
              same = lines_then (got rs l t) e ∙ rw (← h.line, ← h.rest);
            }
        go (wrong n l) e h = absurd h

    module _ (u : List ℕ) (at : u ≡ drop rows.bytes s) (e : Result (Unit {0}) Wrong) (end : e ≡ as_end (end_line rows.value.count 0 u)) where
      ended : e ≡ as_end (end_line (length all_read.value) 0 u)
      ended = rw all_read.count at end

      module _ (x : Unit {0}) (done : e ≡ Ok x) where
        finished : whole ≡ got all_read.value (suc (length all_read.value)) []
        finished = all_read.same ∙ rw (← at, end_got (length all_read.value) u e ended x done (length all_read.value))

        pub rules_done : Ok rows.value ≡ as_rules_read whole
        rules_done = ap Ok all_read.table ∙ sym (ap as_rules_read finished)

        pub rules_done_space : Stored all_words was now 0 whole
        rules_done_space = rw finished all_read.space

      module _ (w : Wrong) (refused : e ≡ Err w) where
        off : RefusesAt (end_line (length all_read.value)) u w
        off = end_wrong (length all_read.value) u e ended w refused

        unended : whole ≡ wrong off.number (length all_read.value + w.line)
        unended = all_read.same ∙ rw (← at, off.reads (length all_read.value))

        pub rules_unended : (n : ℕ) → n ≡ rows.value.count + w.line → Err (record { fault = w.fault; line = n }) ≡ as_rules_read whole
        rules_unended n f =
            let z : n ≡ length all_read.value + w.line = f ∙ ap (λ (c : ℕ). c + w.line) all_read.count in
            let y : w.fault ≡ (wrong_of off.number w.line).fault = ap (λ (w : Wrong). w.fault) off.is in
            rw (z, y, unended)

        pub rules_unended_space : Stored all_words was now 0 whole
        rules_unended_space = unstored off.number (length all_read.value + w.line) unended now

        pub rules_line_lem : (n : ℕ) → n ≡ rows.value.count + w.line → Fits w64 n
        rules_line_lem n f = omega (arith, all_read.count, all_read.few, off.next)

pub ruleset parted = (rules_room, rules_parts, rules_stored, rules_cleared)

pub ruleset wholly = (rules_stopped, rules_stopped_space, rules_done, rules_done_space, rules_unended, rules_unended_space, rules_line_lem)
