-- The numbers of refusals: each paper has its own, a step and the reasons are refused with 1 to 9 and never with MANY, an outlook with 1 to 10.
use Rattle.std.specs.Prelude.{ℕ, ◌≤◌, ◌≡◌, Bool, true, false, cond, List, ◌↔◌, length, leb}
use Rattle.std.proofs.Math.Path.{refl, ap}
use Rattle.std.proofs.Common.{◌∙◌, subst₂, arith}
use Rattle.std.proofs.lemmas.Bool.{false≢true}
use Rattle.std.proofs.Math.Option.{Option, none, some}
use Rattle.meaning.specs.Refusal.{Answer, taken, refused, on_taken, LONG, ROOM, MANY}
use Rattle.meaning.specs.Limits.{sheet_bytes, card_bytes, event_bytes}
use Rattle.meaning.specs.Reading.{Got, got, wrong, Reader, choose, answered, paper}
use Rattle.meaning.specs.Sheet.{Heads, Sheet}
use Rattle.meaning.specs.ReadSheet.{sheet}
use Rattle.meaning.specs.Card.{Card, card, orphan, sheltered, read_card, happening, read_event}
use Rattle.meaning.specs.Tests.{tests}
use Rattle.meaning.specs.Dependency.{testing_order}
use Rattle.meaning.specs.Step.{moment}
use Rattle.meaning.specs.Outlook.{many, patterns}
use Rattle.meaning.specs.Doors.{Accepted, accepted, read_sheet, Case, read_told, read_case, next, outlook, why, fitting, step_answer, outlook_answer, why_answer}
use Rattle.theory.specs.Reading.Built.{Built}
use Rattle.theory.specs.Reading.Faults.{Faulty, built_faulty}
use Rattle.theory.specs.Reading.BuiltPapers.{sheet_built, card_built, happening_built}

-- whatever number and paper a refusal names satisfy P
pub record Tells {A : Type 0} (x : Answer A) (P : ℕ → ℕ → Type 0) : Type 0 where
  pub told : (n p l : ℕ) → x ≡ refused n p l → P n p

module _ {A : Type 0} where
  -- refused, not taken
  abbrev is_refused : Answer A → Bool
  is_refused (taken a) = false
  is_refused (refused n p l) = true

  -- a refusal's number
  abbrev number_of : Answer A → ℕ
  number_of (taken a) = 0
  number_of (refused n p l) = n

  -- a refusal's paper
  abbrev paper_of : Answer A → ℕ
  paper_of (taken a) = 0
  paper_of (refused n p l) = p

  -- what is taken tells nothing
  taken_tells : {P : ℕ → ℕ → Type 0} {a : A} → Tells (taken a) P
  taken_tells = record { told = λ n p l e. absurd (false≢true (ap is_refused e)) }

  -- of a refusal
  refused_tells : {P : ℕ → ℕ → Type 0} {n p l : ℕ} → P n p → Tells {A = A} (refused n p l) P
  refused_tells {P} h = record { told = λ n p l e. subst₂ P (ap number_of e) (ap paper_of e) h }

  -- in a weaker form
  tells_weaker : {P Q : ℕ → ℕ → Type 0} {x : Answer A} → ((n p : ℕ) → P n p → Q n p) → Tells x P → Tells x Q
  tells_weaker h g = record { told = λ n p l e. h n p (g.told n p l e) }

-- what follows is asked where all before it was taken
on_tells : {A B : Type 0} {P : ℕ → ℕ → Type 0} (x : Answer A) {f : A → Answer B} → Tells x P → ((a : A) → Tells (f a) P) → Tells (on_taken x f) P
on_tells (taken a) h g = g a
on_tells (refused n p l) h g = refused_tells (h.told n p l refl)

-- a paper names itself, with LONG or the number of a fault
abbrev OfPaper : ℕ → ℕ → ℕ → ℕ → Type 0
OfPaper top q n p = (1 ≤ n) × (n ≤ top) × (p ≡ q)

pub answered_tells : {A : Type 0} (p : ℕ) {r : Reader A} → Built r → (l : ℕ) (s : List ℕ) → Tells (answered p (r l s)) (OfPaper 6 p)
answered_tells {A} p {r} h l s = go (r l s) (built_faulty h l s)
  where
    go : (x : Got A) → Faulty x → Tells (answered p x) (OfPaper 6 p)
    go (got a l t) f = taken_tells
    go (wrong n l) f = refused_tells (omega (arith, f.0), f.1, refl)

paper_tells : {A : Type 0} (p limit : ℕ) {r : Reader A} (s : List ℕ) → Built r → Tells (paper p limit r s) (OfPaper 6 p)
unfolding paper
paper_tells {A} p limit {r} s h = fits (leb (length s) limit)
  where
    fits : (b : Bool) → Tells (answered p (choose b r (λ l t. wrong LONG 0) 1 s)) (OfPaper 6 p)
    fits true = answered_tells p h 1 s
    fits false = refused_tells (omega arith, omega arith, refl)

-- code that answers for such a paper with a number, 0 where it is taken, and a line: what its answer r tells
module _ {A R : Type 0} (form : Answer A → R) (number line : R → ℕ) (zero : (a : A) → number (form (taken a)) ≡ 0)
    (same : (n p l : ℕ) → (number (form (refused n p l)) ≡ n) × (line (form (refused n p l)) ≡ l))
    {top q : ℕ} {x : Answer A} (tells : Tells x (OfPaper top q)) (r : R) (is : r ≡ form x) where
  pub told_taken : number r ≡ 0 → (a : A) × (x ≡ taken a) × (r ≡ form (taken a))
  told_taken z = go x refl
    where
      go : (y : Answer A) → x ≡ y → (a : A) × (x ≡ taken a) × (r ≡ form (taken a))
      go (taken a) e = (a, e, is ∙ ap form e)
      go (refused n p l) e = absurd (omega (arith, (tells.told n p l e).0, ap number (is ∙ ap form e), (same n p l).0))

  pub told_refused : (number r ≡ 0 → ⊥) → x ≡ refused (number r) q (line r)
  told_refused z = go x refl
    where
      go : (y : Answer A) → x ≡ y → x ≡ refused (number r) q (line r)
      go (taken a) e = absurd (z (ap number (is ∙ ap form e) ∙ zero a))
      go (refused n p l) e = e ∙ rw (is ∙ ap form e, (same n p l).0, (same n p l).1, (tells.told n p l e).2)

-- the sheet: LONG, a fault or CYCLE
pub sheet_tells : (s : List ℕ) → Tells (read_sheet s) (λ n p. (1 ≤ n) × (n ≤ 7) × (p ≡ 1))
unfolding read_sheet
sheet_tells s =
    on_tells (paper 1 sheet_bytes sheet s) (tells_weaker (λ n p h. (h.0, omega (arith, h.1), h.2)) (paper_tells 1 sheet_bytes s sheet_built)) λ sh. go sh
    (testing_order sh)
  where
    go : (sh : Sheet) (o : Option (List ℕ)) → Tells (accepted sh o) (λ n p. (1 ≤ n) × (n ≤ 7) × (p ≡ 1))
    go sh none = refused_tells (omega arith, omega arith, refl)
    go sh (some o) = taken_tells

-- the card: LONG, a fault or ORPHAN
pub card_tells : (hd : Heads) (s : List ℕ) → Tells (read_card hd s) (λ n p. (1 ≤ n) × (n ≤ 8) × (p ≡ 2))
unfolding read_card
card_tells hd s =
    on_tells (paper 2 card_bytes (card hd) s) (tells_weaker (λ n p h. (h.0, omega (arith, h.1), h.2)) (paper_tells 2 card_bytes s (card_built hd))) λ c. go c
    (orphan c.statuses 0 hd.stages)
  where
    go : (c : Card) (o : Option ℕ) → Tells (sheltered hd c o) (λ n p. (1 ≤ n) × (n ≤ 8) × (p ≡ 2))
    go c none = taken_tells
    go c (some x) = refused_tells (omega arith, omega arith, refl)

-- the event line: LONG or a fault
pub event_tells : (hd : Heads) (s : List ℕ) → Tells (read_event hd s) (λ n p. (1 ≤ n) × (n ≤ 6) × (p ≡ 3))
unfolding read_event
event_tells hd s = paper_tells 3 event_bytes s (happening_built hd)

-- card and event line
pub told_tells : (hd : Heads) (c e : List ℕ) → Tells (read_told hd c e) (λ n p. (1 ≤ n) × (n ≤ 8) × (2 ≤ p) × (p ≤ 3))
unfolding read_told
told_tells hd c e =
    on_tells (read_card hd c) (tells_weaker (λ n p h. omega (arith, h.0, h.1, h.2)) (card_tells hd c)) λ k.
    on_tells (read_event hd e) (tells_weaker (λ n p h. omega (arith, h.0, h.1, h.2)) (event_tells hd e)) λ v.
    taken_tells

-- the three papers
pub case_tells : (s c e : List ℕ) → Tells (read_case s c e) (λ n p. (1 ≤ n) × (n ≤ 8) × (1 ≤ p) × (p ≤ 3))
unfolding read_case
case_tells s c e =
    on_tells (read_sheet s) (tells_weaker (λ n p h. omega (arith, h.0, h.1, h.2)) (sheet_tells s)) λ a.
    on_tells (read_told a.sheet.heads c e) (tells_weaker (λ n p h. omega (arith, h.0, h.1, h.2, h.3)) (told_tells a.sheet.heads c e)) λ t.
    taken_tells

-- A request over the three papers, whose own refusals name none of them
module _ {A : Type 0} (f : Case → Answer A) (own : (k : Case) → Tells (f k) (λ n p. p ≡ 0)) (s c e : List ℕ) where
  -- a refusal as that of another request
  abbrev handed : Answer A → Answer Accepted
  handed (taken a) = refused 0 0 0
  handed (refused n p l) = refused n p l

  -- where the sheet is taken, no refusal names it
  behind_sheet : (a : Accepted) → Tells (on_taken (on_taken (read_told a.sheet.heads c e)
      (λ t. taken (record { sheet = a.sheet; order = a.order; card = t.card; happening = t.happening }))) f) (λ n p. p ≡ 1 → ⊥)
  behind_sheet a =
      on_tells (on_taken (read_told a.sheet.heads c e) _)
      (on_tells (read_told a.sheet.heads c e) (tells_weaker (λ n p h z. omega (arith, h.2)) (told_tells a.sheet.heads c e)) λ t. taken_tells)
      λ k. tells_weaker (λ n p h z. omega arith) (own k)

  -- so a refusal that names the sheet is the sheet's, and the other way about
  pub sheet_names : (n l : ℕ) → (on_taken (read_case s c e) f ≡ refused n 1 l) ↔ (read_sheet s ≡ refused n 1 l)
  unfolding read_case
  sheet_names n l = (λ q. go (read_sheet s) refl q, λ q. rw q)
    where
      go : (x : Answer Accepted) → read_sheet s ≡ x → on_taken (read_case s c e) f ≡ refused n 1 l → read_sheet s ≡ refused n 1 l
      go (refused m p k) r q = r ∙ ap handed (rw r at q)
      go (taken a) r q = absurd ((behind_sheet a).told n 1 l (rw r at q) refl)

-- ROOM
fitting_tells : {A : Type 0} {P : ℕ → ℕ → Type 0} (out : A → List ℕ) (room : ℕ) (a : A) → P ROOM 0 → Tells (fitting out room a) P
unfolding fitting
fitting_tells {A} {P} out room a h = go (leb (length (out a)) room)
  where
    go : (b : Bool) → Tells (cond b (taken a) (refused ROOM 0 0)) P
    go true = taken_tells
    go false = refused_tells h

-- what a request tells beside the papers' refusals names no paper
pub step_own : (room : ℕ) (k : Case) → Tells (fitting (λ n. n.card) room (next k)) (λ n p. p ≡ 0)
step_own room k = fitting_tells (λ n. n.card) room (next k) refl

pub outlook_own : (room : ℕ) (k : Case) → Tells (on_taken (outlook k) (λ l. fitting (λ l. l) room l)) (λ n p. p ≡ 0)
unfolding outlook
outlook_own room k = on_tells (outlook k) (go (many (tests k.sheet) (moment k.card k.happening))) λ l. fitting_tells (λ l. l) room l refl
  where
    go : (b : Bool) → Tells {A = List ℕ} (elim b [
      | true ↦ refused MANY 0 0
      | false ↦ taken
          (patterns (tests k.sheet) k.order (moment k.card k.happening))
    ]) (λ n p. p ≡ 0)
    go true = refused_tells refl
    go false = taken_tells

pub why_own : (room : ℕ) (k : Case) → Tells (fitting (λ l. l) room (why k)) (λ n p. p ≡ 0)
why_own room k = fitting_tells (λ l. l) room (why k) refl

-- a step "never gives MANY"
pub step_tells : (s c e : List ℕ) (room : ℕ) → Tells (step_answer s c e room) (λ n p. (1 ≤ n) × (n ≤ 9) × (p ≤ 3))
unfolding step_answer
step_tells s c e room =
    on_tells (read_case s c e) (tells_weaker (λ n p h. omega (arith, h.0, h.1, h.3)) (case_tells s c e)) λ k.
    fitting_tells (λ n. n.card) room (next k) (omega arith)

-- "Refusals: as for a step"
pub why_tells : (s c e : List ℕ) (room : ℕ) → Tells (why_answer s c e room) (λ n p. (1 ≤ n) × (n ≤ 9) × (p ≤ 3))
unfolding why_answer
why_tells s c e room =
    on_tells (read_case s c e) (tells_weaker (λ n p h. omega (arith, h.0, h.1, h.3)) (case_tells s c e)) λ k.
    fitting_tells (λ l. l) room (why k) (omega arith)

-- an outlook may
pub outlook_tells : (s c e : List ℕ) (room : ℕ) → Tells (outlook_answer s c e room) (λ n p. (1 ≤ n) × (n ≤ 10) × (p ≤ 3))
unfolding outlook_answer outlook
outlook_tells s c e room =
    on_tells (read_case s c e) (tells_weaker (λ n p h. omega (arith, h.0, h.1, h.3)) (case_tells s c e)) λ k.
    on_tells (outlook k) (go k (many (tests k.sheet) (moment k.card k.happening))) λ l.
    fitting_tells (λ l. l) room l (omega arith)
  where
    go : (k : Case) (b : Bool) → Tells {A = List ℕ} (elim b [
      | true ↦ refused MANY 0 0
      | false ↦ taken
          (patterns (tests k.sheet) k.order (moment k.card k.happening))
    ]) (λ n p. (1 ≤ n) × (n ≤ 10) × (p ≤ 3))
    go k true = refused_tells (omega arith)
    go k false = taken_tells
