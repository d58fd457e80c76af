-- Calls of the doors: what each DECLARES of its arguments, its reply and what it leaves (`Learnt`: the clauses of its contract, as a caller learns them), and
-- that this is what the meaning answers.
use Prim.Native.Nat.{ℕ, ◌≤◌}
use mathlib.Core.Path.{◌≡◌, sym, ◌∙◌, subst}
use mathlib.Core.List.{List, [], ◌∷◌, map}
use lib.ListN.{length, take}
use contract.Lifetimes.{Lfts}
use denote.Triple.Clauses.{AtExit}
use borrow.Fn.Kinds.{Dens, ended_of}
use Rattle.meaning.specs.Refusal.{refused, taken}
use Rattle.meaning.specs.Limits.{sheet_bytes}
use Rattle.meaning.specs.Reading.{paper}
use Rattle.meaning.specs.Sheet.{Sheet}
use Rattle.meaning.specs.ReadSheet.{sheet}
use Rattle.meaning.specs.Step.{pattern}
use Rattle.meaning.specs.Tests.{tests}
use Rattle.meaning.specs.Outlook.{IsOutlook}
use Rattle.meaning.specs.Why.{coded}
use Rattle.meaning.specs.Doors.{Case, read_case, Next, next, reasons_in, why, step_answer, outlook_answer, why_answer, step_reply, step_space, outlook_reply, outlook_space, why_reply, why_space}
use Rattle.theory.specs.Requests.Numbers.{step_tells, outlook_tells, why_tells}
use Rattle.theory.specs.Requests.Cases.{at, after, Known}
use Rattle.theory.specs.Requests.Taken.{step_of, outlook_of, why_of}
use Rattle.theory.specs.Demands.{outlook_right, outlook_alone}
use Rattle.reply.specs.declared.Reply.{Reply}
use Rattle.reambodkin.proofs.step.Reads as Step
use Rattle.reambodkin.proofs.step.Kinds as StepKinds
use Rattle.reambodkin.proofs.step.Statement as StepCode
use Rattle.reambodkin.proofs.step.Met as StepMet
use Rattle.reambodkin.proofs.outlook.Reads as Outlook
use Rattle.reambodkin.proofs.outlook.Kinds as OutlookKinds
use Rattle.reambodkin.proofs.outlook.Statement as OutlookCode
use Rattle.reambodkin.proofs.outlook.Met as OutlookMet
use Rattle.reambodkin.proofs.why.Reads as Why
use Rattle.reambodkin.proofs.why.Kinds as WhyKinds
use Rattle.reambodkin.proofs.why.Statement as WhyCode
use Rattle.reambodkin.proofs.why.Met as WhyMet
use Rattle.reambodkin.proofs.Script.{Returned, Given, refused_back, taken_back}

-- "A sheet otherwise in order": its lines are, whatever its graph is
abbrev pub InOrder : List ℕ → Sheet → Type 0
InOrder s sh = paper 1 sheet_bytes sheet s ≡ taken sh

-- what the check says of a function: run with any arguments, where it has no `requires`, its code ends, and what it returns and leaves is as its `ensures` say
abbrev pub StepKeeps : Type 1 → Type 2
StepKeeps M = StepCode.statement M

abbrev pub OutlookKeeps : Type 1 → Type 2
OutlookKeeps M = OutlookCode.statement M

abbrev pub WhyKeeps : Type 1 → Type 2
WhyKeeps M = WhyCode.statement M

-- and it is so; with the contract of a function that a door calls emptied, these fall
pub step_keeps : {M : Type 1} → StepKeeps M
step_keeps = StepMet.met

pub outlook_keeps : {M : Type 1} → OutlookKeeps M
outlook_keeps = OutlookMet.met

pub why_keeps : {M : Type 1} → WhyKeeps M
why_keeps = WhyMet.met

-- a call of `step` on the papers s, c, e and the space `lent`, with the reply r and the space left as `out`
pub record Stepped (s c e lent : List ℕ) (r : Reply) (out : List ℕ) : Type 0 where
  pub lifetimes : Lfts 3
  pub handed : Dens lifetimes StepKinds.ps
  pub left : AtExit (ended_of 3 StepKinds.ps StepKinds.r) lifetimes
  pub declared : Step.Learnt lifetimes handed r left
  pub papers : (handed.0.now ≡ s) × (handed.1.0.now ≡ c) × (handed.1.1.0.now ≡ e)
  pub space : (handed.1.1.1.0.now ≡ lent) × (left.1.1.1.0.now ≡ out)

-- likewise of `outlook`
pub record Looked (s c e lent : List ℕ) (r : Reply) (out : List ℕ) : Type 0 where
  pub lifetimes : Lfts 4
  pub handed : Dens lifetimes OutlookKinds.ps
  pub left : AtExit (ended_of 4 OutlookKinds.ps OutlookKinds.r) lifetimes
  pub declared : Outlook.Learnt lifetimes handed r left
  pub papers : (handed.0.now ≡ s) × (handed.1.0.now ≡ c) × (handed.1.1.0.now ≡ e)
  pub space : (handed.1.1.1.0.now ≡ lent) × (left.1.1.1.0.now ≡ out)

-- and of `why`
pub record Asked (s c e lent : List ℕ) (r : Reply) (out : List ℕ) : Type 0 where
  pub lifetimes : Lfts 4
  pub handed : Dens lifetimes WhyKinds.ps
  pub left : AtExit (ended_of 4 WhyKinds.ps WhyKinds.r) lifetimes
  pub declared : Why.Learnt lifetimes handed r left
  pub papers : (handed.0.now ≡ s) × (handed.1.0.now ≡ c) × (handed.1.1.0.now ≡ e)
  pub space : (handed.1.1.1.0.now ≡ lent) × (left.1.1.1.0.now ≡ out)

module _ {s c e lent : List ℕ} {r : Reply} {out : List ℕ} where
  pub stepped : Stepped s c e lent r out → Returned (λ (n : Next). n.card) (λ (n : Next). pattern n.tasks) (step_answer s c e (length lent)) lent r out
  unfolding step_reply step_space
  stepped d =
      let (p, q, t) = d.papers in
      let (l, o) = d.space in
      record { answer = rw (p, q, t, l) at d.declared.0; space = rw (p, q, t, l, o) at d.declared.1 }

  pub looked : Looked s c e lent r out → Returned (λ (l : List ℕ). l) (λ (l : List ℕ). 0) (outlook_answer s c e (length lent)) lent r out
  unfolding outlook_reply outlook_space
  looked d =
      let (p, q, t) = d.papers in
      let (l, o) = d.space in
      record { answer = rw (p, q, t, l) at d.declared.0; space = rw (p, q, t, l, o) at d.declared.1 }

  pub asked : Asked s c e lent r out → Returned (λ (l : List ℕ). l) (λ (l : List ℕ). 0) (why_answer s c e (length lent)) lent r out
  unfolding why_reply why_space
  asked d =
      let (p, q, t) = d.papers in
      let (l, o) = d.space in
      record { answer = rw (p, q, t, l) at d.declared.0; space = rw (p, q, t, l, o) at d.declared.1 }

  -- a refusal's numbers, by the call's
  pub step_refused : Stepped s c e lent r out → (r.number ≡ 0 → ⊥)
      → (step_answer s c e (length lent) ≡ refused r.number r.paper r.line) × ((r.number ≤ 9) × (r.paper ≤ 3)) × (r.count ≡ 0) × (r.tasks ≡ 0)
      × (out ≡ lent)
  step_refused d = refused_back (stepped d) (step_tells s c e (length lent))

  pub outlook_refused : Looked s c e lent r out → (r.number ≡ 0 → ⊥)
      → (outlook_answer s c e (length lent) ≡ refused r.number r.paper r.line) × ((r.number ≤ 10) × (r.paper ≤ 3)) × (r.count ≡ 0) × (r.tasks ≡ 0)
      × (out ≡ lent)
  outlook_refused d = refused_back (looked d) (outlook_tells s c e (length lent))

  pub why_refused : Asked s c e lent r out → (r.number ≡ 0 → ⊥)
      → (why_answer s c e (length lent) ≡ refused r.number r.paper r.line) × ((r.number ≤ 9) × (r.paper ≤ 3)) × (r.count ≡ 0) × (r.tasks ≡ 0)
      × (out ≡ lent)
  why_refused d = refused_back (asked d) (why_tells s c e (length lent))

  -- the case whose step, outlook or reasons it is
  pub step_took : Stepped s c e lent r out → r.number ≡ 0
      → (k : Case) × (read_case s c e ≡ taken k) × Given (λ (n : Next). n.card) (λ (n : Next). pattern n.tasks) lent r out (next k)
  step_took d z =
      let (n, q, g) = taken_back (stepped d) (step_tells s c e (length lent)) z in
      let (k, read, is) = step_of s c e (length lent) n q in
      (k, read, subst (Given (λ (n : Next). n.card) (λ (n : Next). pattern n.tasks) lent r out) is g)

  pub outlook_took : Looked s c e lent r out → r.number ≡ 0
      → (k : Case) × (read_case s c e ≡ taken k) × Given (λ (l : List ℕ). l) (λ (l : List ℕ). 0) lent r out (take r.count out)
      × IsOutlook (tests k.sheet) (at k) (take r.count out) × (Known (at k).values → take r.count out ≡ pattern (after k) ∷ [])
  outlook_took d z =
      let (l, q, g) = taken_back (looked d) (outlook_tells s c e (length lent)) z in
      let (k, read, is) = outlook_of s c e (length lent) l q in
      let same = sym g.front in (
        k,
        read,
        subst (Given (λ (l : List ℕ). l) (λ (l : List ℕ). 0) lent r out) same g,
        subst (IsOutlook (tests k.sheet) (at k)) same
            (outlook_right s c e k l read is),
        λ h. g.front ∙ outlook_alone k l is h,
      )

  pub why_took : Asked s c e lent r out → r.number ≡ 0
      → (k : Case) × (read_case s c e ≡ taken k) × Given (λ (l : List ℕ). l) (λ (l : List ℕ). 0) lent r out (map coded (reasons_in k))
  unfolding why
  why_took d z =
      let (l, q, g) = taken_back (asked d) (why_tells s c e (length lent)) z in
      let (k, read, is) = why_of s c e (length lent) l q in
      (k, read, subst (Given (λ (l : List ℕ). l) (λ (l : List ℕ). 0) lent r out) is g)
