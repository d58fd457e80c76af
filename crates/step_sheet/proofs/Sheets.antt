-- What is known of every sheet that is accepted: its conditions fit the machine, their words the array, and its testing order has each node.
use Prim.Native.Nat.{ℕ, zero, suc, ◌≤◌}
use mathlib.Core.Path.{◌≡◌, refl, sym, ◌∙◌, ap}
use mathlib.Core.List.{List, [], ◌∷◌}
use mathlib.Core.Option.{Option, none, some, some-injective, none-ne-some}
use lib.ListN.{length}
use Rattle.meaning.specs.Text.{In, from}
use Rattle.meaning.specs.Refusal.{taken, CYCLE}
use Rattle.meaning.specs.Limits.{sheet_bytes}
use Rattle.meaning.specs.Reading.{paper}
use Rattle.meaning.specs.Condition.{Cond}
use Rattle.meaning.specs.Sheet.{Sheet, Rule}
use Rattle.meaning.specs.ReadSheet.{sheet}
use Rattle.meaning.specs.Graph.{Into, first_free, without, then, first, order_of, order_for}
use Rattle.meaning.specs.Tests.{nodes, tests}
use Rattle.meaning.specs.Dependency.{predecessors, testing_order}
use Rattle.meaning.specs.Doors as D
use Rattle.meaning.specs.Doors.{accepted, read_sheet}
use Rattle.theory.specs.Reading.Readers.{Holds, refused_taken, taken_holds, on_holds}
use Rattle.limits.specs.Sizes.{word_room}
use Rattle.cond_value.specs.Fits.{Fits}
use Rattle.sheet_tables.specs.Rules.{all_words}
use Rattle.step_sheet.proofs.Fitting.{sheet_fits, sheet_words}

-- an order of so many nodes has that many
order_length : (into : Into) (n : ℕ) (left o : List ℕ) → order_of into n left ≡ some o → length o ≡ n
unfolding order_of
order_length into zero left o e = ap length (sym (some-injective [] o e))
order_length into (suc n) left o e = go (λ k. order_length into n (without k left)) (first_free into left left) e
  where
    Rest : ℕ → Type 0
    Rest k = (t : List ℕ) → order_of into n (without k left) ≡ some t → length t ≡ n

    then_is : (k : ℕ) → Rest k → (r : Option (List ℕ)) → order_of into n (without k left) ≡ r → then k r ≡ some o → length o ≡ suc n
    then_is k rest none q f = absurd (none-ne-some o f)
    then_is k rest (some t) q f = ap length (sym (some-injective (k ∷ t) o f)) ∙ ap suc (rest t q)

    go : ((k : ℕ) → Rest k) → (f : Option ℕ) → first f (λ k. order_of into n (without k left)) ≡ some o → length o ≡ suc n
    go rest none f = absurd (none-ne-some o f)
    go rest (some k) f = then_is k (rest k) (order_of into n (without k left)) refl f

-- a testing order is as long as there are nodes
pub order_long : (sh : Sheet) (o : List ℕ) → testing_order sh ≡ some o → length o ≡ nodes sh.heads
unfolding testing_order order_for
order_long sh o e = order_length (predecessors (tests sh)) (nodes sh.heads) (from 0 (nodes sh.heads)) o e

-- conditions that the machine values rightly
abbrev AllFit : Sheet → Type 0
AllFit sh = (r : Rule) → In r sh.rules → (c : Cond) → r.condition ≡ some c → Fits c

-- what holds of a sheet and its order holds of what is accepted
accepted_holds : (P : Sheet → List ℕ → Type 0) (s : List ℕ)
    → ((sh : Sheet) → paper 1 sheet_bytes sheet s ≡ taken sh → (o : List ℕ) → testing_order sh ≡ some o → P sh o)
    → Holds (read_sheet s) (λ a. P a.sheet a.order)
unfolding read_sheet
accepted_holds P s h =
    on_holds (λ sh. paper 1 sheet_bytes sheet s ≡ taken sh) (λ a. P a.sheet a.order) (paper 1 sheet_bytes sheet s) _ (λ sh e. e)
    (λ sh e. go sh e (testing_order sh) refl)
  where
    go : (sh : Sheet) → paper 1 sheet_bytes sheet s ≡ taken sh → (o : Option (List ℕ)) → testing_order sh ≡ o
        → Holds (accepted sh o) (λ a. P a.sheet a.order)
    go sh e none q = λ a f. absurd (refused_taken CYCLE 1 0 a f)
    go sh e (some o) q = taken_holds (λ (a : D.Accepted). P a.sheet a.order) (record { sheet = sh; order = o }) (h sh e o q)

pub accepted_fits : (s : List ℕ) → Holds (read_sheet s) (λ a. AllFit a.sheet)
accepted_fits s = accepted_holds (λ sh o. AllFit sh) s (λ sh e o q. sheet_fits s sh e)

-- the words of its conditions fit their array
pub accepted_words : (s : List ℕ) → Holds (read_sheet s) (λ a. length (all_words a.sheet.rules) ≤ word_room)
accepted_words s = accepted_holds (λ sh o. length (all_words sh.rules) ≤ word_room) s (λ sh e o q. sheet_words s sh e)

-- its testing order has each node
pub accepted_nodes : (s : List ℕ) → Holds (read_sheet s) (λ a. length a.order ≡ nodes a.sheet.heads)
accepted_nodes s = accepted_holds (λ sh o. length o ≡ nodes sh.heads) s (λ sh e o q. order_long sh o q)
