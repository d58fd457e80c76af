-- The whole sheet, return by return: what is known there, and the answer that is asked.
use Prim.Native.Nat.{ℕ, ◌+◌, ◌-◌, ◌≤◌, ◌<◌}
use mathlib.Core.Path.{◌≡◌, refl, sym, ◌∙◌, ap, ap₂}
use mathlib.Core.List.{List}
use native.Mathlib.Omega.{arith}
use mir.Val.{Fits}
use mir.Syntax.{w64}
use borrow.Author.Tests.{le-leb, lt-leb}
use lib.ListN.{length, take, drop, replicate, length-append, length-replicate}
use Rattle.meaning.specs.Limits.{sheet_bytes}
use Rattle.meaning.specs.Refusal.{taken, refused, LONG}
use Rattle.meaning.specs.Reading.{Got, got, wrong, Reader, paper}
use Rattle.meaning.specs.Sheet as M
use Rattle.meaning.specs.Sheet.{statuses, event_names, status_names, all_names}
use Rattle.meaning.specs.ReadSheet.{heads, rules_of, sheet}
use Rattle.theory.specs.Reading.BuiltPapers.{heads_built, rules_built}
use Rattle.theory.specs.Reading.Lines.{built_within}
use Rattle.theory.specs.Papers.Formed.{WellHeads}
use Rattle.theory.specs.Papers.Sheets.{heads_well}
use Rattle.theory.specs.Reading.Suffix.{built_leaves, end_is}
use Rattle.limits.specs.Sizes.{name_room, word_room}
use Rattle.name.specs.Names.{names_in}
use Rattle.name.proofs.Tables.{table_length, table_words_lem}
use Rattle.sheet_tables.specs.declared.Heads.{Heads}
use Rattle.std.specs.Prelude.{Result, Ok, Err}
use Rattle.reply.specs.declared.Fault.TheVariants as F
use Rattle.reply.specs.declared.Wrong.{Wrong}
use Rattle.reply.specs.Faults.{wrong_of}
use Rattle.sheet_tables.specs.Heads.{as_heads}
use Rattle.sheet_section.proofs.Rows.{counted}
use Rattle.sheet_section.specs.declared.Above.{Above}
use Rattle.sheet_section.specs.Answers.{as_above}
use Rattle.sheet_tables.specs.declared.Rules.{Rules}
use Rattle.sheet_rules.specs.Answers.{as_rules_read, words_space, Ready}
use Rattle.sheet_rules.proofs.Callers.{RulesGot, RulesOff, rules_got, rules_wrong}
use Rattle.sheet_read.specs.declared.SheetRead.{SheetRead}
use Rattle.sheet_read.specs.Answers.{as_sheet_read, words_read, Begun}
use Rattle.sheet_read.proofs.Tables.{fields_named, events_named, statuses_named}

-- a sheet that is too long
long_is : (s : List ℕ) → sheet_bytes < length s → paper 1 sheet_bytes sheet s ≡ refused LONG 1 0
unfolding paper
long_is s h = rw (lt-leb (length s) sheet_bytes h)

pub sheet_long : (s : List ℕ) → sheet_bytes < length s → Err (record { fault = F.Long; line = 0 }) ≡ as_sheet_read (paper 1 sheet_bytes sheet s)
sheet_long s h = sym (ap as_sheet_read (long_is s h))

pub long_words : (s : List ℕ) → sheet_bytes < length s → (w : List ℕ) → w ≡ replicate word_room 0 → w ≡ words_read (paper 1 sheet_bytes sheet s)
long_words s h w e = e ∙ sym (ap words_read (long_is s h))

-- the rules behind a sheet's names, and behind those in its tables
abbrev below : M.Heads → Reader (List M.Rule)
below hd = rules_of hd.fields (event_names hd.events) (status_names (statuses hd))

abbrev tabled : Heads → ℕ → Reader (List M.Rule)
tabled x k =
    rules_of (take x.fields (names_in x.names)) (take x.events (drop x.fields (names_in x.names)))
    (take k (drop (x.fields + x.events) (names_in x.names)))

-- the tables of a well formed sheet
module _ (x : Heads) (hd : M.Heads) (e : x ≡ as_heads hd) (well : WellHeads hd) where
  sizes : (x.fields ≡ length hd.fields) × (x.events ≡ length hd.events) × (x.stages + x.miles ≡ length (statuses hd))
  unfolding as_heads statuses
  sizes = rw e (refl, refl, sym (length-append hd.stages hd.miles))

  names_are : length (names_in x.names) ≡ name_room
  unfolding as_heads
  names_are =
      table_length x.names (rw e (table_words_lem (all_names hd) (omega (arith, counted x hd e, sizes, well.fields_few, well.events_few, well.statuses_few))))

  ready : (was : List ℕ) → length was ≡ word_room → (k : ℕ) → k ≡ x.stages + x.miles → Ready (names_in x.names) was x.fields x.events k
  ready was w k q = record {
    few_fields = omega (arith, sizes.0, well.fields_few);
    few_events = omega (arith, sizes.1, well.events_few);
    few_statuses = omega (arith, sizes.2, well.statuses_few);
    named_all = omega (arith, names_are, sizes.0, well.fields_few, sizes.1, well.events_few, sizes.2, well.statuses_few);
    room = omega arith;
  }

  -- the rules are read with the sheet's own names
  own_names : (k : ℕ) → k ≡ x.stages + x.miles → (l : ℕ) (t : List ℕ) → tabled x k l t ≡ below hd l t
  own_names k q l t =
      let z : k ≡ (as_heads hd).stages + (as_heads hd).miles = q ∙ rw e in
      rw (e, fields_named hd well, events_named hd well, statuses_named hd well k z)

-- WHAT THE ANSWERS TELL

-- above the rules
module _ (s : List ℕ) (p : Result Above Wrong) (is : p ≡ as_above s (heads 1 s)) (few : length s ≤ sheet_bytes) (w : Wrong) (off : p ≡ Err w) where
  heads_refused : (n : ℕ) × (w ≡ wrong_of n w.line) × (paper 1 sheet_bytes sheet s ≡ refused n 1 w.line)
  unfolding paper sheet
  heads_refused = go (heads 1 s) refl
    where
      go : (x : Got M.Heads) → heads 1 s ≡ x → (n : ℕ) × (w ≡ wrong_of n w.line) × (paper 1 sheet_bytes sheet s ≡ refused n 1 w.line)
      go (got hd l t) e = let z : ◌≡◌ {A = Result Above Wrong} (Err w) (as_above s (got hd l t)) = sym off ∙ is ∙ ap (as_above s) e in cc
      go (wrong n l) e =
          let z : ◌≡◌ {A = Result Above Wrong} (Err w) (as_above s (wrong n l)) = sym off ∙ is ∙ ap (as_above s) e in
          let y : w ≡ wrong_of n l = cc in
          (n, rw y, rw (le-leb (length s) sheet_bytes few, e, y))

  pub sheet_heads : Err w ≡ as_sheet_read (paper 1 sheet_bytes sheet s)
  sheet_heads =
      let (n, y, e) = heads_refused in
      let z : ◌≡◌ {A = Result SheetRead Wrong} (Err w) (Err (wrong_of n w.line)) = ap (λ w. Err w) y in
      z ∙ sym (ap as_sheet_read e)

  pub heads_words : (u : List ℕ) → u ≡ replicate word_room 0 → u ≡ words_read (paper 1 sheet_bytes sheet s)
  heads_words u e = e ∙ sym (ap words_read heads_refused.2)

-- and of them
module _ (s : List ℕ) (h : Above) (was : List ℕ) (begun : Begun s h was) where
  upper : (hd : M.Heads) × (l : ℕ) × (t : List ℕ) × (heads 1 s ≡ got hd l t) × (Ok h ≡ as_above s (got hd l t))
  upper = go (heads 1 s) refl
    where
      go : (x : Got M.Heads) → heads 1 s ≡ x → (hd : M.Heads) × (l : ℕ) × (t : List ℕ) × (heads 1 s ≡ got hd l t) × (Ok h ≡ as_above s (got hd l t))
      go (got hd l t) e = (hd, l, t, e, begun.is ∙ ap (as_above s) e)
      go (wrong n l) e = let z : ◌≡◌ {A = Result Above Wrong} (Ok h) (as_above s (wrong n l)) = begun.is ∙ ap (as_above s) e in cc

  abbrev hd : M.Heads
  hd = upper.0

  abbrev last : ℕ
  last = upper.1

  abbrev rest : List ℕ
  rest = upper.2

  reads : heads 1 s ≡ got hd last rest
  reads = upper.3

  told_as_lem : h ≡ record { line = last; at = length s - length rest; heads = as_heads hd }
  told_as_lem = let z : ◌≡◌ {A = Result Above Wrong} (Ok h) (as_above s (got hd last rest)) = upper.4 in cc

  table : h.heads ≡ as_heads hd
  table = ap (λ (h : Above). h.heads) told_as_lem

  well : WellHeads hd
  well = (heads_well.gives 1 s).of hd last rest reads

  pub sheet_statuses : Fits w64 (h.heads.stages + h.heads.miles)
  sheet_statuses = omega (arith, (sizes h.heads hd table well).2, well.statuses_few)

  module _ (k : ℕ) (sum : k ≡ h.heads.stages + h.heads.miles) where
    pub sheet_ready : Ready (names_in h.heads.names) was h.heads.fields h.heads.events k
    sheet_ready = ready h.heads hd table well was (ap length begun.blank ∙ length-replicate {A = ℕ} word_room 0) k sum

    module _ (u : List ℕ) (behind : u ≡ drop h.at s) (r : Result Rules Wrong) (told : r ≡ as_rules_read (tabled h.heads k 0 u)) where
      -- the rest is read with the sheet's own names
      rest_is : u ≡ rest
      rest_is = behind ∙ ap (λ (h : Above). drop h.at s) told_as_lem ∙ end_is s rest (rw reads at (built_leaves heads_built 1 s))

      same : tabled h.heads k 0 u ≡ below hd 0 rest
      same = own_names h.heads hd table well k sum 0 u ∙ ap (below hd 0) rest_is

      own : r ≡ as_rules_read (below hd 0 rest)
      own = told ∙ ap as_rules_read same

      -- the refusal of the rules
      module _ (w : Wrong) (off : r ≡ Err w) where
        abbrev g : RulesOff hd.fields (event_names hd.events) (status_names (statuses hd)) rest w
        g = rules_wrong hd.fields (event_names hd.events) (status_names (statuses hd)) rest r own w off

        rules_refused : paper 1 sheet_bytes sheet s ≡ refused g.number 1 (last + w.line)
        unfolding paper sheet
        rules_refused = rw (le-leb (length s) sheet_bytes begun.few, reads, g.reads last)

        line_is : h.line ≡ last
        line_is = ap (λ (h : Above). h.line) told_as_lem

        pub sheet_rules : Err (record { fault = w.fault; line = h.line + w.line }) ≡ as_sheet_read (paper 1 sheet_bytes sheet s)
        sheet_rules =
            let z : ◌≡◌ {A = Result SheetRead Wrong} (Err (record { fault = w.fault; line = h.line + w.line })) (Err (wrong_of g.number (last + w.line)))
            = ap₂ (λ f l. Err (record { fault = f; line = l })) (ap (λ (w : Wrong). w.fault) g.is) (ap (λ l. l + w.line) line_is) in
            z ∙ sym (ap as_sheet_read rules_refused)

        pub sheet_line : (n : ℕ) → n ≡ h.line + w.line → Fits w64 n
        sheet_line n q =
            let a : last + length rest ≤ 1 + length s = rw reads at (built_within heads_built (1 + length s) 1 s (omega arith)) in
            let few = begun.few in
            let b : 0 + w.line ≤ length rest = rw (g.reads 0) at (built_within (rules_built hd.fields (event_names hd.events) (status_names (statuses hd)))
            (length rest) 0 rest (omega arith)) in
            omega (arith, line_is)

        pub rules_blank : (u1 : List ℕ) → u1 ≡ words_space was (tabled h.heads k 0 u) → u1 ≡ words_read (paper 1 sheet_bytes sheet s)
        rules_blank u1 put =
            put ∙ ap₂ words_space begun.blank same ∙ ap (words_space (replicate word_room 0)) (g.reads 0)
            ∙ ap (λ n. replicate n 0) (length-replicate {A = ℕ} word_room 0) ∙ sym (ap words_read rules_refused)

      -- the rules that were read
      module _ (v : Rules) (on : r ≡ Ok v) where
        abbrev t : RulesGot hd.fields (event_names hd.events) (status_names (statuses hd)) rest v
        t = rules_got hd.fields (event_names hd.events) (status_names (statuses hd)) rest r own v on

        all_taken : paper 1 sheet_bytes sheet s ≡ taken (record { heads = hd; rules = t.value })
        unfolding paper sheet
        all_taken = rw (le-leb (length s) sheet_bytes begun.few, reads, t.reads last)

        pub sheet_good : Ok (record { heads = h.heads; rules = v }) ≡ as_sheet_read (paper 1 sheet_bytes sheet s)
        sheet_good =
            let parts : ◌≡◌ {A = Result SheetRead Wrong} (Ok (record { heads = h.heads; rules = v }))
            (as_sheet_read (taken (record { heads = hd; rules = t.value }))) = ap₂ (λ h r. Ok (record { heads = h; rules = r })) table t.table in
            parts ∙ sym (ap as_sheet_read all_taken)

        pub sheet_words : (u1 : List ℕ) → u1 ≡ words_space was (tabled h.heads k 0 u) → u1 ≡ words_read (paper 1 sheet_bytes sheet s)
        sheet_words u1 put =
            put ∙ ap₂ words_space begun.blank same ∙ ap (words_space (replicate word_room 0)) (t.reads 0) ∙ sym (ap words_read all_taken)

pub ruleset reading =
    (sheet_long, long_words, sheet_heads, heads_words, sheet_statuses, sheet_ready, sheet_rules, sheet_line, sheet_good, sheet_words, rules_blank)
