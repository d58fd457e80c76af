-- What callers use: on the tables of a sheet and for the number of a reason, the line is that of the meaning.
use Prim.Native.Nat.{ℕ, zero, suc, ◌+◌, ◌*◌, ◌<◌, ◌≤◌}
use mathlib.Core.Path.{◌≡◌, refl, sym, ◌∙◌, ap}
use mathlib.Core.Bool.{Bool, cond}
use mathlib.Core.List.{List, [], ◌∷◌, ◌++◌, map}
use mathlib.Core.Logic.{inl, inr}
use mathlib.Core.Option.{Option, none, some}
use native.Mathlib.Omega.{arith}
use lib.ListN.{length, length-append, length-map, get_or, take, drop}
use lib.Seq.{get_or-take, get_or-drop}
use lib.Dec.{eqb}
use Rattle.meaning.specs.Limits.{status_limit}
use Rattle.meaning.specs.Text.{text, In, joined}
use Rattle.meaning.specs.Card.{is}
use Rattle.meaning.specs.Sheet as M
use Rattle.meaning.specs.Sheet.{status_names, statuses, event_names, all_names, stage_over}
use Rattle.meaning.specs.Why.{trigger_not_met, home_not_open, condition_false, condition_unknown, Kind, held, closed, stopped, kind_number, Reason, coded}
use Rattle.meaning.specs.Clerk.{line_at, status_name, over_name, change_sign, rule_told, parent_told, kind_told, why_line}
use Rattle.meaning.specs.Doors.{Case}
use Rattle.theory.specs.Lists.Members.{joined_same, joined_map}
use Rattle.theory.specs.Papers.Formed.{WellHeads}
use Rattle.theory.specs.Why.All.{ReadBack, coded_below}
use Rattle.limits.specs.Sizes.{name_room}
use Rattle.marks.specs.Codes.{yes_at}
use Rattle.name.specs.Names.{kept, name_of, names_in, table_of, table_words}
use Rattle.name.proofs.Tables.{name_at_lem, at_behind, table_length, table_words_lem, table_at}
use Rattle.sheet_tables.specs.declared.Heads.{Heads}
use Rattle.sheet_tables.specs.Heads.{under_code, as_heads}
use Rattle.sheet_tables.proofs.Names.{statuses_are}
use Rattle.sheet_tables.proofs.Tables.{sized, heads_again, under_over}
use Rattle.desk_split.specs.Lines.{line_starts}
use Rattle.desk_split.proofs.Callers.{line_behind}
use Rattle.clerk_reasons.specs.Lines.{kind_of, kept_of, over_of, words_from, rule_text, told_text, key_text, reason_text, reasons_text, Held}

-- NAMES

-- no name stands for none
none_named : name_of (kept []) ≡ []
none_named =
    let n = table_words in
    ap name_of (at_behind (table_of []) n (omega (arith, table_words_lem [] (omega arith))) (kept []) refl) ∙ name_at_lem (table_of []) n ∙ table_at [] refl n

module _ (hd : M.Heads) (w : WellHeads hd) where
  abbrev tables : Heads
  tables = as_heads hd

  all_statuses : tables.stages + tables.miles ≡ length (statuses hd)
  unfolding as_heads statuses
  all_statuses = sym (length-append hd.stages hd.miles)

  names_fit : length (all_names hd) ≤ name_room
  unfolding all_names event_names status_names
  names_fit = simp (length-append, length-map) (omega (arith, w.fields_few, w.events_few, w.statuses_few))

  table_fits : tables.fields + tables.events + (tables.stages + tables.miles) ≤ length (names_in tables.names)
  unfolding as_heads
  table_fits =
      let room = table_length (table_of (all_names hd)) (table_words_lem (all_names hd) names_fit) in
      let few = sized hd w in
      omega (arith, room, few.few_fields, few.few_events, few.few_statuses)

  -- the names in the tables, from the first status on, are those of the statuses
  pub status_names_lem : take ((as_heads hd).stages + (as_heads hd).miles) (drop ((as_heads hd).fields + (as_heads hd).events) (names_in (as_heads hd).names))
      ≡ status_names (statuses hd)
  status_names_lem = sym (statuses_are tables table_fits) ∙ ap (λ (hd : M.Heads). status_names (statuses hd)) (heads_again hd w)

  -- so the name in the tables is the name of the status
  pub name_is : (x : ℕ) → x < length (statuses hd) → name_of (kept_of (as_heads hd) x) ≡ status_name hd x
  unfolding status_name
  name_is x h =
      name_at_lem tables.names (tables.fields + tables.events + x)
      ∙ sym (get_or-drop (tables.fields + tables.events) (names_in tables.names) x [])
      ∙ sym (get_or-take (tables.stages + tables.miles) (drop (tables.fields + tables.events) (names_in tables.names)) x [] (omega (arith, all_statuses)))
      ∙ ap (λ ns. get_or ns x []) status_names_lem

  under_is : (x : ℕ) → get_or tables.under x 0 ≡ under_code (stage_over hd x)
  unfolding as_heads
  under_is x = under_over hd x

  over_is : (x : ℕ) → name_of (over_of tables (get_or tables.under x 0)) ≡ over_name hd (stage_over hd x)
  over_is x = rw (under_is x) (go (stage_over hd x) (rw (under_is x) at ((sized hd w).under_stage x)))
    where
      go : (u : Option ℕ) → under_code u ≤ tables.stages → name_of (over_of tables (under_code u)) ≡ over_name hd u
      go none h = none_named
      go (some p) h = name_is p (omega (arith, all_statuses))

  -- LINES

  module _ (s : List ℕ) where
    abbrev starts : List ℕ
    starts = line_starts 999 s

    own_is : (l n : ℕ) → l < 1000 → words_from s (get_or starts l 0) n ≡ drop (6 + n) (line_at l s)
    unfolding words_from line_at
    own_is l n h = rw (line_behind 999 l s (omega arith))

    rule_is : (x l : ℕ) (k : Kind) → x < length (statuses hd) → l < 1000 → kind_of (kind_number k) ≡ k
        → rule_text l (kind_number k) (words_from s (get_or starts l 0) (length (name_of (kept_of tables x)))) ≡ rule_told s (status_name hd x) l k
    unfolding rule_text rule_told
    rule_is x l k h g e = rw (e, name_is x h, own_is l (length (status_name hd x)) g)

    abbrev told : ℕ → ℕ → ℕ → List ℕ
    told x l k =
        cond (eqb k 2) (parent_told (name_of (over_of tables (get_or tables.under x 0))))
        (rule_text l k (words_from s (get_or starts l 0) (length (name_of (kept_of tables x)))))

    told_is : (x l : ℕ) (k : Kind) → x < length (statuses hd) → l < 1000 → told x l (kind_number k) ≡ kind_told s hd x l k
    unfolding kind_of
    told_is x l held h g = rule_is x l held h g refl
    told_is x l closed h g = ap parent_told (over_is x)
    told_is x l (stopped trigger_not_met) h g = rule_is x l (stopped trigger_not_met) h g refl
    told_is x l (stopped home_not_open) h g = rule_is x l (stopped home_not_open) h g refl
    told_is x l (stopped condition_false) h g = rule_is x l (stopped condition_false) h g refl
    told_is x l (stopped condition_unknown) h g = rule_is x l (stopped condition_unknown) h g refl

    -- the line of a reason; the mark tells whether the status was yes
    reason_is : (marks : List ℕ) (before : List Bool) (r : Reason) → ReadBack (length (statuses hd)) r → yes_at marks r.status ≡ is before r.status
        → reason_text s (line_starts 999 s) (as_heads hd) marks (coded r)
        ≡ text "why=" ++ change_sign (is before r.status) ++ status_name hd r.status ++ kind_told s hd r.status r.line r.kind
    unfolding reason_text key_text told_text
    reason_is marks before r b mark =
        rw (b.status, b.line, b.kind, mark, told_is r.status r.line r.kind b.status_below b.line_below, name_is r.status b.status_below)

-- THE REASONS OF A CASE; the marks tell which statuses were yes

module _ (k : Case) (w : WellHeads k.sheet.heads) (rs : List Reason) (all : (r : Reason) → In r rs → ReadBack (length (statuses k.sheet.heads)) r) where
  abbrev heads : M.Heads
  heads = k.sheet.heads

  -- they are of statuses that the tables hold
  pub reasons_held : Held (map coded rs)
  reasons_held i = go rs all i
    where
      go : (rs : List Reason) → ((r : Reason) → In r rs → ReadBack (length (statuses heads)) r) → (i : ℕ) → get_or (map coded rs) i 0 < status_limit * 10000
      go [] all i = omega arith
      go (r ∷ rs) all zero = omega (arith, coded_below (length (statuses heads)) r (all r (inl refl)), w.statuses_few)
      go (r ∷ rs) all (suc i) = go rs (λ q j. all q (inr j)) i

  -- and their lines are those of the meaning
  pub reasons_are : (s marks : List ℕ) → ((x : ℕ) → yes_at marks x ≡ is k.card.statuses x)
      → reasons_text s (as_heads k.sheet.heads) marks (map coded rs) ≡ joined (why_line s k) rs
  unfolding reasons_text why_line
  reasons_are s marks mark =
      joined_map line coded rs
      ∙ joined_same (λ r. line (coded r)) (why_line s k) rs (λ r i. reason_is heads w s marks k.card.statuses r (all r i) (mark r.status))
    where
      line : ℕ → List ℕ
      line = reason_text s (line_starts 999 s) (as_heads heads) marks
