-- Of a sheet that was read: each condition is one that the machine values rightly, and the words of all fit the array for them.
use Prim.Native.Nat.{ℕ, ◌+◌, ◌*◌, ◌≤◌}
use mathlib.Core.Path.{◌≡◌, sym, subst}
use mathlib.Core.List.{List, [], ◌∷◌, ◌++◌}
use mathlib.Core.Logic.{⊎_elim}
use mathlib.Core.Option.{Option, none, some, some-injective, none-ne-some}
use native.Mathlib.Omega.{arith}
use lib.ListN.{length, length-append, length-map}
use Rattle.meaning.specs.Text.{In, text, joined}
use Rattle.meaning.specs.Refusal.{taken}
use Rattle.meaning.specs.Limits.{rule_limit, sheet_bytes, field_limit, leaf_limit, status_limit}
use Rattle.meaning.specs.Reading.{paper}
use Rattle.meaning.specs.Name.{Name}
use Rattle.meaning.specs.Number.{end_line}
use Rattle.meaning.specs.Condition.{Cond, leaves_c}
use Rattle.meaning.specs.Sheet.{Sheet, Status, Rule, statuses, status_names, event_names, leaves_of, leaves}
use Rattle.meaning.specs.ReadCondition.{condition}
use Rattle.meaning.specs.ReadSheet.{begun, rule, rule_row, rules_of, sheet}
use Rattle.theory.specs.Lists.Members.{in_cases}
use Rattle.theory.specs.Reading.Readers.{Ensures, give_ensures, bind_ensures, any_ensures, ensures_weaker, ensures_both, section_ensures, paper_holds}
use Rattle.theory.specs.Papers.Conditions.{condition_good}
use Rattle.theory.specs.Papers.Formed.{ending_ensures}
use Rattle.theory.specs.Papers.Sheets.{heads_well}
use Rattle.limits.specs.Sizes.{word_room}
use Rattle.cond_value.specs.Fits.{Fits}
use Rattle.cond_value.proofs.Readable.{condition_fits}
use Rattle.cond_value.proofs.Size.{words_length}
use Rattle.sheet_tables.specs.Rules.{words_of, all_words}

-- ONE CONDITION

-- behind so many leaves, what is read goes at most to the limit
condition_few : (st fd : List Name) (n : ℕ) → Ensures (condition st fd n) (λ c. n + length (leaves_c c) ≤ leaf_limit)
condition_few st fd n = ensures_weaker (λ c h. h.few) (condition_good st fd n)

-- ALL RULES

-- a condition, if there is one, that fits
abbrev FitsIf : Option Cond → Type 0
FitsIf o = (c : Cond) → o ≡ some c → Fits c

-- rules whose conditions fit, with no more leaves than allowed
abbrev Fitting : List Rule → Type 0
Fitting rs = ((r : Rule) → In r rs → FitsIf r.condition) × (length (leaves rs) ≤ leaf_limit)

leaves_more : (rs : List Rule) (r : Rule) → length (leaves (rs ++ (r ∷ []))) ≡ length (leaves rs) + length (leaves_of r.condition)
unfolding leaves joined
leaves_more [] r = rw length-append (omega arith)
leaves_more (q ∷ rs) r = rw (length-append, length-append) (omega (arith, leaves_more rs r))

fitting_more : (rs : List Rule) (r : Rule) → Fitting rs → FitsIf r.condition → length (leaves rs) + length (leaves_of r.condition) ≤ leaf_limit
    → Fitting (rs ++ (r ∷ []))
fitting_more rs r (h, few) g more = (
  λ q i. ⊎_elim (λ i. h q i) (λ i. ⊎_elim (λ e. subst (λ (x : Rule). FitsIf x.condition) (sym e) g) absurd i) (in_cases q rs (r ∷ []) i),
  omega (arith, leaves_more rs r),
)

module _ (fields events sts : List Name) (few_statuses : length sts ≤ status_limit) (few_fields : length fields ≤ field_limit) where
  -- what is known of a condition behind so many leaves
  abbrev Behind : ℕ → Option Cond → Type 0
  Behind n c = FitsIf c × (n + length (leaves_of c) ≤ leaf_limit)

  condition_behind : (n : ℕ) → Ensures (condition sts fields n) (λ c. Behind n (some c))
  unfolding leaves_of
  condition_behind n =
      ensures_weaker (λ c h. (λ d e. subst Fits (some-injective c d e) h.0, h.1))
      (ensures_both (condition_fits sts fields n few_statuses few_fields) (condition_few sts fields n))

  row_fitting : (m : ℕ) (so : List Rule) → Fitting so → Ensures (rule_row fields events sts so) Fitting
  unfolding rule_row rule leaves_of
  row_fitting m so q =
      bind_ensures (any_ensures (begun events sts) λ b.
      bind_ensures (ending_ensures (Behind (length (leaves so))) fields sts b.on (length (leaves so))
      (λ c e. absurd (none-ne-some c e), omega (arith, q.1)) (condition_behind (length (leaves so)))) λ c h.
      give_ensures {P = λ (r : Rule). Behind (length (leaves so)) r.condition} h) λ r h.
      give_ensures (fitting_more so r q h.0 h.1)

  rules_fitting : Ensures (rules_of fields events sts) Fitting
  unfolding rules_of leaves joined
  rules_fitting =
      bind_ensures (section_ensures (λ m. Fitting) (text "rule=") (rule_row fields events sts) row_fitting rule_limit [] (λ r i. absurd i, omega arith)) λ rs h.
      any_ensures (end_line (length rs)) λ _.
      give_ensures h.1

sheet_fitting : Ensures sheet (λ sh. Fitting sh.rules)
unfolding sheet status_names
sheet_fitting =
    bind_ensures heads_well λ hd h.
    bind_ensures (rules_fitting hd.fields (event_names hd.events) (status_names (statuses hd))
    (omega (arith, length-map (statuses hd) (λ (s : Status). s.name), h.statuses_few)) h.fields_few) λ rs g.
    give_ensures g

-- WHAT FOLLOWS

-- n leaves have less than 2n words
words_few : (c : Option Cond) → length (words_of c) ≤ 2 * length (leaves_of c)
unfolding words_of leaves_of
words_few none = omega arith
words_few (some c) = omega (arith, words_length c)

all_few : (rs : List Rule) → length (all_words rs) ≤ 2 * length (leaves rs)
unfolding all_words leaves joined
all_few [] = omega arith
all_few (r ∷ rs) = rw (length-append, length-append) (omega (arith, words_few r.condition, all_few rs))

module _ (s : List ℕ) (sh : Sheet) (e : paper 1 sheet_bytes sheet s ≡ taken sh) where
  pub sheet_fits : (r : Rule) → In r sh.rules → (c : Cond) → r.condition ≡ some c → Fits c
  sheet_fits = (paper_holds (λ sh. Fitting sh.rules) 1 sheet_bytes sheet s sheet_fitting sh e).0

  pub sheet_words : length (all_words sh.rules) ≤ word_room
  sheet_words = omega (arith, all_few sh.rules, (paper_holds (λ sh. Fitting sh.rules) 1 sheet_bytes sheet s sheet_fitting sh e).1)
