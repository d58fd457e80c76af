-- For callers: what the answer for the rules tells of the meaning, at every line and for every text.
use Prim.Native.Nat.{ℕ, ◌+◌}
use mathlib.Core.Path.{◌≡◌, refl, sym, ◌∙◌}
use mathlib.Core.List.{List, []}
use lib.ListN.{length}
use Rattle.std.specs.Prelude.{Result, Ok, Err}
use Rattle.meaning.specs.Text.{text}
use Rattle.meaning.specs.Limits.{rule_limit}
use Rattle.meaning.specs.Reading.{Got, got, wrong, after, give}
use Rattle.meaning.specs.Name.{Name}
use Rattle.meaning.specs.Number.{end_line}
use Rattle.meaning.specs.Sheet as M
use Rattle.meaning.specs.ReadSheet.{section, rule_row, rules_of}
use Rattle.theory.specs.Reading.BuiltPapers.{rules_built}
use Rattle.theory.specs.Reading.Shift.{built_shifts}
use Rattle.reply.specs.declared.Wrong.{Wrong}
use Rattle.reply.specs.Faults.{wrong_of}
use Rattle.number.specs.Answers.{as_end}
use Rattle.number.proofs.Callers.{end_got, end_wrong}
use Rattle.sheet_tables.specs.declared.Rules.{Rules}
use Rattle.sheet_tables.specs.Rules.{as_rules}
use Rattle.sheet_rules.specs.Answers.{as_rules_read}

-- nothing is left behind the rules
abbrev Closed : {A : Type 0} → Got A → Type 0
Closed (got a l t) = t ≡ []
Closed (wrong n l) = Unit {0}

end_closed : (c l : ℕ) (t : List ℕ) → Closed (end_line c l t)
end_closed c l t = go (as_end (end_line c 0 t)) refl
  where
    go : (p : Result (Unit {0}) Wrong) → as_end (end_line c 0 t) ≡ p → Closed (end_line c l t)
    go (Ok u) e = rw (end_got c t (as_end (end_line c 0 t)) refl u e l) refl
    go (Err w) e = rw ((end_wrong c t (as_end (end_line c 0 t)) refl w e).reads l) tt

module _ (fs es ss : List Name) (t : List ℕ) where
  rules_closed : Closed (rules_of fs es ss 0 t)
  unfolding rules_of
  rules_closed = go (section (text "rule=") (rule_row fs es ss) rule_limit [] 0 t)
    where
      ends : (rs : List M.Rule) (g : Got (Unit {0})) → Closed g → Closed (after g (λ _. give rs))
      ends rs (got u l v) h = h
      ends rs (wrong n l) h = tt

      go : (g : Got (List M.Rule)) → Closed (after g (λ rs. λ l s. after (end_line (length rs) l s) (λ _. give rs)))
      go (got rs l v) = ends rs (end_line (length rs) l v) (end_closed (length rs) l v)
      go (wrong n l) = tt

  -- the rules that were read, whatever the line
  pub record RulesGot (r : Rules) : Type 0 where
    pub value : List M.Rule
    pub last : ℕ → ℕ
    pub reads : (l : ℕ) → rules_of fs es ss l t ≡ got value (last l) []
    pub table : r ≡ as_rules value

  -- a refusal, and its line
  pub record RulesOff (w : Wrong) : Type 0 where
    pub number : ℕ
    pub is : w ≡ wrong_of number w.line
    pub reads : (l : ℕ) → rules_of fs es ss l t ≡ wrong number (l + w.line)

  module _ (r : Result Rules Wrong) (is : r ≡ as_rules_read (rules_of fs es ss 0 t)) where
    -- the rules were read to the end of the paper
    pub rules_got : (v : Rules) → r ≡ Ok v → RulesGot v
    rules_got v e = go (rules_of fs es ss 0 t) refl rules_closed (sym e ∙ is)
      where
        go : (g : Got (List M.Rule)) → rules_of fs es ss 0 t ≡ g → Closed g → ◌≡◌ {A = Result Rules Wrong} (Ok v) (as_rules_read g) → RulesGot v
        go (got rs k u) q h z =
            let y : v ≡ as_rules rs = cc in
            record { value = rs; last = λ l. l + k; reads = λ l. built_shifts (rules_built fs es ss) l t ∙ rw (q, h); table = y }
        go (wrong n k) q h z = cc

    -- or they were refused
    pub rules_wrong : (w : Wrong) → r ≡ Err w → RulesOff w
    rules_wrong w e = go (rules_of fs es ss 0 t) refl (sym e ∙ is)
      where
        go : (g : Got (List M.Rule)) → rules_of fs es ss 0 t ≡ g → ◌≡◌ {A = Result Rules Wrong} (Err w) (as_rules_read g) → RulesOff w
        go (got rs k u) q z = cc
        go (wrong n k) q z =
            let y : w ≡ wrong_of n k = cc in
            record { number = n; is = rw y; reads = λ l. built_shifts (rules_built fs es ss) l t ∙ rw (q, y) }
