-- When each request is taken, and which refusals it tells: for all texts, in both directions.
use Rattle.std.specs.Prelude.{ℕ, ◌≤◌, ◌<◌, Bool, cond, List, ◌↔◌, get_or}
use Rattle.std.proofs.Math.Path.{◌≡◌, refl, ap}
use Rattle.std.proofs.Common.{sym, ◌∙◌, arith}
use Rattle.std.proofs.Math.Bool.{true, false}
use mathlib.Core.Logic.Iff
use Rattle.std.proofs.Math.Dec.{leb}
use Rattle.std.proofs.Math.ListN.{length}
use borrow.Author.Tests.{le-leb, lt-leb, leb-false}
use Rattle.meaning.specs.Text.{In}
use Rattle.meaning.specs.Refusal.{Answer, taken, refused, on_taken, CYCLE, ROOM, MANY}
use Rattle.meaning.specs.Limits.{sheet_bytes, part_limit}
use Rattle.meaning.specs.Reading.{paper}
use Rattle.meaning.specs.Sheet.{Sheet}
use Rattle.meaning.specs.ReadSheet.{sheet}
use Rattle.meaning.specs.Graph.{Cycle}
use Rattle.meaning.specs.Tests.{Test, tests}
use Rattle.meaning.specs.Dependency.{predecessors}
use Rattle.meaning.specs.Outlook.{IsOutlook, parts, patterns, cuts, is_cut}
use Rattle.meaning.specs.Doors.{Case, read_case, Next, next, outlook, why, fitting, step_answer, outlook_answer, why_answer}
use Rattle.theory.specs.Lists.Ascending.{ascending_up, up_places}
use Rattle.theory.specs.Outlook.Cuts.{cuts_exactly}
use Rattle.theory.specs.Reading.Readers.{refused_taken, taken_same}
use Rattle.theory.specs.Papers.Case.{on_taken_lem, case_holds}
use Rattle.theory.specs.Requests.Cases.{at, told_exactly, case_list, outlook_told, outlook_few, outlook_same}
use Rattle.theory.specs.Requests.Numbers.{sheet_names, step_own, outlook_own, why_own}

-- ROOM: "next card or list longer than the space lent"
module _ {A : Type 0} (out : A → List ℕ) (room : ℕ) (a : A) where
  fitting_taken : length (out a) ≤ room → fitting out room a ≡ taken a
  unfolding fitting
  fitting_taken h = rw (le-leb (length (out a)) room h)

  fitting_room : (fitting out room a ≡ refused ROOM 0 0) ↔ (room < length (out a))
  unfolding fitting
  fitting_room = (λ q. go (leb (length (out a)) room) refl q, λ h. rw (lt-leb (length (out a)) room h))
    where
      go : (b : Bool) → leb (length (out a)) room ≡ b → ◌≡◌ {A = Answer A} (cond b (taken a) (refused ROOM 0 0)) (refused ROOM 0 0) → room < length (out a)
      go true f q = absurd (refused_taken ROOM 0 0 a (sym q))
      go false f q = leb-false (length (out a)) room f

-- what fits is what was to be put there
fitting_same : {A : Type 0} (out : A → List ℕ) (room : ℕ) (a b : A) → fitting out room a ≡ taken b → b ≡ a
unfolding fitting
fitting_same {A} out room a b q = go (leb (length (out a)) room) q
  where
    go : (f : Bool) → ◌≡◌ {A = Answer A} (cond f (taken a) (refused ROOM 0 0)) (taken b) → b ≡ a
    go true e = sym (taken_same a b e)
    go false e = absurd (refused_taken ROOM 0 0 b e)

-- a refusal's number
abbrev number : Answer (List ℕ) → ℕ
number (taken a) = 0
number (refused n p l) = n

-- a list is refused for its length alone
fitting_few : (room : ℕ) (l : List ℕ) (b : Bool) → leb (length l) room ≡ b → fitting (λ l. l) room l ≡ refused MANY 0 0 → ⊥
unfolding fitting
fitting_few room l true f m = refused_taken MANY 0 0 l (sym (rw f at m))
fitting_few room l false f m = let z : ◌≡◌ {A = ℕ} ROOM MANY = ap number (rw f at m) in omega arith

-- the list that is given is the only outlook
outlook_is : (s c e : List ℕ) (k : Case) (list : List ℕ) → read_case s c e ≡ taken k → parts (tests k.sheet) 0 (at k).values ≤ part_limit
    → IsOutlook (tests k.sheet) (at k) list → outlook k ≡ taken list
outlook_is s c e k list q few is =
    outlook_few k few ∙ ap taken (outlook_same (tests k.sheet) (at k) (patterns (tests k.sheet) k.order (at k)) list
    (case_list k (case_holds s c e k q)) is)

module _ (s c e : List ℕ) (room : ℕ) where
  -- THE STEP

  -- the papers' refusal is the step's
  pub step_papers : (n p l : ℕ) → read_case s c e ≡ refused n p l → step_answer s c e room ≡ refused n p l
  unfolding step_answer
  step_papers n p l q = rw q

  -- papers that are taken and a card that fits: the step is taken
  pub step_taken : (k : Case) → read_case s c e ≡ taken k → length (next k).card ≤ room → step_answer s c e room ≡ taken (next k)
  unfolding step_answer
  step_taken k q h = rw q (fitting_taken (λ n. n.card) room (next k) h)

  -- and the other way about
  pub step_fits : (k : Case) → read_case s c e ≡ taken k → (step_answer s c e room ≡ refused ROOM 0 0) ↔ (room < length (next k).card)
  unfolding step_answer
  step_fits k q = rw q (fitting_room (λ n. n.card) room (next k))

  -- a step that is taken is that of a case
  pub step_of : (n : Next) → step_answer s c e room ≡ taken n → (k : Case) × (read_case s c e ≡ taken k) × (n ≡ next k)
  unfolding step_answer
  step_of n q =
      let (k, read, fits) = on_taken_lem (read_case s c e) (λ k. fitting (λ n. n.card) room (next k)) n q in
      (k, read, fitting_same (λ n. n.card) room (next k) n fits)

  -- "A sheet otherwise in order is refused for circular dependence exactly when its dependency graph has a cycle."
  pub step_circle : (sh : Sheet) → paper 1 sheet_bytes sheet s ≡ taken sh → (step_answer s c e room ≡ refused CYCLE 1 0) ↔ Cycle (predecessors (tests sh))
  unfolding step_answer
  step_circle sh q = Iff.trans (sheet_names (λ k. fitting (λ n. n.card) room (next k)) (step_own room) s c e CYCLE 0) (told_exactly s sh q)

  -- THE OUTLOOK

  pub outlook_papers : (n p l : ℕ) → read_case s c e ≡ refused n p l → outlook_answer s c e room ≡ refused n p l
  unfolding outlook_answer
  outlook_papers n p l q = rw q

  -- a list that is taken is the outlook of a case
  pub outlook_of : (l : List ℕ) → outlook_answer s c e room ≡ taken l → (k : Case) × (read_case s c e ≡ taken k) × (outlook k ≡ taken l)
  unfolding outlook_answer
  outlook_of l q =
      let (k, read, rest) = on_taken_lem (read_case s c e) (λ k. on_taken (outlook k) (λ l. fitting (λ l. l) room l)) l q in
      let (m, is, fits) = on_taken_lem (outlook k) (λ l. fitting (λ l. l) room l) l rest in
      (k, read, is ∙ ap taken (sym (fitting_same (λ l. l) room m l fits)))

  -- accepted papers, at most 4,096 combinations, room for the list: the list is given
  pub outlook_taken : (k : Case) (list : List ℕ) → read_case s c e ≡ taken k → parts (tests k.sheet) 0 (at k).values ≤ part_limit
      → IsOutlook (tests k.sheet) (at k) list → length list ≤ room → outlook_answer s c e room ≡ taken list
  unfolding outlook_answer
  outlook_taken k list q few is h = rw (q, outlook_is s c e k list q few is) (fitting_taken (λ l. l) room list h)

  pub outlook_fits : (k : Case) (list : List ℕ) → read_case s c e ≡ taken k → parts (tests k.sheet) 0 (at k).values ≤ part_limit
      → IsOutlook (tests k.sheet) (at k) list → (outlook_answer s c e room ≡ refused ROOM 0 0) ↔ (room < length list)
  unfolding outlook_answer
  outlook_fits k list q few is = rw (q, outlook_is s c e k list q few is) (fitting_room (λ l. l) room list)

  -- "MANY is given exactly when the product of the parts over the `?` fields exceeds 4,096"
  pub outlook_many : (k : Case) → read_case s c e ≡ taken k
      → (outlook_answer s c e room ≡ refused MANY 0 0) ↔ (part_limit < parts (tests k.sheet) 0 (at k).values)
  unfolding outlook_answer
  outlook_many k q = (λ m. (outlook_told k).0 (from (outlook k) refl (rw q at m)), λ h. rw (q, (outlook_told k).1 h))
    where
      from : (x : Answer (List ℕ)) → outlook k ≡ x → on_taken (outlook k) (λ l. fitting (λ l. l) room l) ≡ refused MANY 0 0 → outlook k ≡ refused MANY 0 0
      from (refused n p l) o m = o ∙ (rw o at m)
      from (taken l) o m = absurd (fitting_few room l (leb (length l) room) refl (rw o at m))

  pub outlook_circle : (sh : Sheet) → paper 1 sheet_bytes sheet s ≡ taken sh → (outlook_answer s c e room ≡ refused CYCLE 1 0) ↔ Cycle (predecessors (tests sh))
  unfolding outlook_answer
  outlook_circle sh q = Iff.trans (sheet_names (λ k. on_taken (outlook k) (λ l. fitting (λ l. l) room l)) (outlook_own room) s c e CYCLE 0)
      (told_exactly s sh q)

  -- THE REASONS

  pub why_papers : (n p l : ℕ) → read_case s c e ≡ refused n p l → why_answer s c e room ≡ refused n p l
  unfolding why_answer
  why_papers n p l q = rw q

  -- papers that are taken and a list that fits: the reasons are given
  pub why_taken : (k : Case) → read_case s c e ≡ taken k → length (why k) ≤ room → why_answer s c e room ≡ taken (why k)
  unfolding why_answer
  why_taken k q h = rw q (fitting_taken (λ l. l) room (why k) h)

  -- ROOM "exactly when there are more reasons than places"
  pub why_fits : (k : Case) → read_case s c e ≡ taken k → (why_answer s c e room ≡ refused ROOM 0 0) ↔ (room < length (why k))
  unfolding why_answer
  why_fits k q = rw q (fitting_room (λ l. l) room (why k))

  -- a list that is taken is that of a case
  pub why_of : (l : List ℕ) → why_answer s c e room ≡ taken l → (k : Case) × (read_case s c e ≡ taken k) × (l ≡ why k)
  unfolding why_answer
  why_of l q =
      let (k, read, fits) = on_taken_lem (read_case s c e) (λ k. fitting (λ l. l) room (why k)) l q in
      (k, read, fitting_same (λ l. l) room (why k) l fits)

  pub why_circle : (sh : Sheet) → paper 1 sheet_bytes sheet s ≡ taken sh → (why_answer s c e room ≡ refused CYCLE 1 0) ↔ Cycle (predecessors (tests sh))
  unfolding why_answer
  why_circle sh q = Iff.trans (sheet_names (λ k. fitting (λ l. l) room (why k)) (why_own room) s c e CYCLE 0) (told_exactly s sh q)

-- "Refusals: as for a step": what the papers are refused with, both tell
pub why_refusal : (s c e : List ℕ) (room other n p l : ℕ) → read_case s c e ≡ refused n p l
    → (why_answer s c e room ≡ refused n p l) × (step_answer s c e other ≡ refused n p l)
why_refusal s c e room other n p l q = (why_papers s c e room n p l q, step_papers s c e other n p l q)

-- the cuts that `parts` counts are the document's, each once
pub cuts_right : (ts : List Test) (f : ℕ)
    → ((v : ℕ) → In v (cuts ts f) ↔ (is_cut ts f v ≡ true)) × ((i j : ℕ) → i < j → j < length (cuts ts f) → get_or (cuts ts f) i 0 < get_or (cuts ts f) j 0)
unfolding cuts
cuts_right ts f = (cuts_exactly ts f, up_places (cuts ts f) (ascending_up _))
