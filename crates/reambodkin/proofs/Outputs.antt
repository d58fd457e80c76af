-- Calls of the functions behind the desk and the clerk's words `check`, `blank`, `outlook`: what each DECLARES of its input, the length that it tells and the
-- space that it leaves, and the text that then stands there.
use Prim.Native.Nat.{ℕ, ◌≤◌, ◌<◌}
use mathlib.Core.Path.{◌≡◌, refl, sym, ◌∙◌, ap}
use mathlib.Core.List.{List, ◌++◌}
use mathlib.Core.Option.{Option, none, some}
use lib.ListN.{length, take}
use borrow.Author.Tests.{le-ltb}
use contract.Lifetimes.{Lfts}
use denote.Triple.Clauses.{AtExit}
use borrow.Fn.Kinds.{Dens, ended_of}
use Rattle.meaning.specs.Text.{text, In, joined}
use Rattle.meaning.specs.Refusal.{taken, CYCLE}
use Rattle.meaning.specs.Limits.{desk_bytes, part_limit}
use Rattle.meaning.specs.Sheet.{Sheet, status_names, statuses}
use Rattle.meaning.specs.Graph.{Cycle}
use Rattle.meaning.specs.Tests.{tests}
use Rattle.meaning.specs.Dependency.{predecessors, testing_order}
use Rattle.meaning.specs.Circle.{Edge, around, IsCircle, ToldOn, circle, edge_line}
use Rattle.meaning.specs.Outlook.{parts}
use Rattle.meaning.specs.Write.{line}
use Rattle.meaning.specs.Doors.{Accepted, read_sheet, Case, read_case, outlook}
use Rattle.meaning.specs.Desk.{first_paper, after_paper, refusal_text, outlook_lines, desk_output}
use Rattle.meaning.specs.Clerk.{sheet_told, circle_line, check_output, blank_card, blank_printed, blank_output, prospects_told, outlook_printed, outlook_output}
use Rattle.theory.specs.Requests.Numbers.{outlook_tells}
use Rattle.theory.specs.Requests.Cases.{at}
use Rattle.theory.specs.Clerk.Checks.{sheet_circle, check_circle, check_sheet}
use Rattle.theory.specs.Requests.Taken.{outlook_of}
use Rattle.theory.specs.Demands.{outlook_many}
use Rattle.reply.specs.declared.Reply.{Reply}
use Rattle.sets.proofs.Callers.{front_take}
use Rattle.clerk_check.proofs.check_output.Reads as Check
use Rattle.clerk_check.proofs.check_output.Kinds as CheckKinds
use Rattle.clerk_check.proofs.check_output.Statement as CheckCode
use Rattle.clerk_check.proofs.check_output.Met as CheckMet
use Rattle.clerk_check.proofs.blank_output.Reads as Blank
use Rattle.clerk_check.proofs.blank_output.Kinds as BlankKinds
use Rattle.clerk_check.proofs.blank_output.Statement as BlankCode
use Rattle.clerk_check.proofs.blank_output.Met as BlankMet
use Rattle.desk_output.proofs.desk_output.Reads as Desk
use Rattle.desk_output.proofs.desk_output.Kinds as DeskKinds
use Rattle.desk_output.proofs.desk_output.Statement as DeskCode
use Rattle.desk_output.proofs.desk_output.Met as DeskMet
use Rattle.clerk_outlook.proofs.outlook_output.Reads as Outlook
use Rattle.clerk_outlook.proofs.outlook_output.Kinds as OutlookKinds
use Rattle.clerk_outlook.proofs.outlook_output.Statement as OutlookCode
use Rattle.clerk_outlook.proofs.outlook_output.Met as OutlookMet
use Rattle.reambodkin.proofs.Script.{taken_back}
use Rattle.reambodkin.proofs.Calls.{InOrder, Looked, looked}

-- what the check says of each: run with any input and at least so much space as it asks for, its code ends, and what it tells and leaves is as it declares
abbrev pub WordsKeep : Type 1 → Type 2
WordsKeep M = CheckCode.statement M × BlankCode.statement M × OutlookCode.statement M

pub words_keep : {M : Type 1} → WordsKeep M
words_keep = (CheckMet.met, BlankMet.met, OutlookMet.met)

-- and of the desk
abbrev pub DeskKeeps : Type 1 → Type 2
DeskKeeps M = DeskCode.statement M

pub desk_keeps : {M : Type 1} → DeskKeeps M
desk_keeps = DeskMet.met

-- a call of `check_output` on the input s and the space `lent`, with the length n and the space left as `out`
pub record Checked (s lent : List ℕ) (n : ℕ) (out : List ℕ) : Type 0 where
  pub lifetimes : Lfts 2
  pub handed : Dens lifetimes CheckKinds.ps
  pub left : AtExit (ended_of 2 CheckKinds.ps CheckKinds.r) lifetimes
  pub declared : Check.Learnt lifetimes handed n left
  pub input : handed.0.now ≡ s
  pub space : (handed.1.0.now ≡ lent) × (left.1.0.now ≡ out)

-- likewise of `blank_output`
pub record Blanked (s lent : List ℕ) (n : ℕ) (out : List ℕ) : Type 0 where
  pub lifetimes : Lfts 2
  pub handed : Dens lifetimes BlankKinds.ps
  pub left : AtExit (ended_of 2 BlankKinds.ps BlankKinds.r) lifetimes
  pub declared : Blank.Learnt lifetimes handed n left
  pub input : handed.0.now ≡ s
  pub space : (handed.1.0.now ≡ lent) × (left.1.0.now ≡ out)

-- and of `outlook_output`
pub record Named (s lent : List ℕ) (n : ℕ) (out : List ℕ) : Type 0 where
  pub lifetimes : Lfts 2
  pub handed : Dens lifetimes OutlookKinds.ps
  pub left : AtExit (ended_of 2 OutlookKinds.ps OutlookKinds.r) lifetimes
  pub declared : Outlook.Learnt lifetimes handed n left
  pub input : handed.0.now ≡ s
  pub space : (handed.1.0.now ≡ lent) × (left.1.0.now ≡ out)

-- and of `desk_output`
pub record Desked (s lent : List ℕ) (n : ℕ) (out : List ℕ) : Type 0 where
  pub lifetimes : Lfts 2
  pub handed : Dens lifetimes DeskKinds.ps
  pub left : AtExit (ended_of 2 DeskKinds.ps DeskKinds.r) lifetimes
  pub declared : Desk.Learnt lifetimes handed n left
  pub input : handed.0.now ≡ s
  pub space : (handed.1.0.now ≡ lent) × (left.1.0.now ≡ out)

module _ {s lent : List ℕ} {n : ℕ} {out : List ℕ} where
  pub desked : Desked s lent n out → take n out ≡ desk_output s
  desked d = let (l, o) = d.space in rw (d.input, o) at (front_take d.declared)

  pub checked : Checked s lent n out → take n out ≡ check_output s
  checked d = let (l, o) = d.space in rw (d.input, o) at (front_take d.declared)

  pub blanked : Blanked s lent n out → take n out ≡ blank_output s
  blanked d = let (l, o) = d.space in rw (d.input, o) at (front_take d.declared)

  pub named : Named s lent n out → take n out ≡ outlook_output s
  named d = let (l, o) = d.space in rw (d.input, o) at (front_take d.declared)

-- A SHEET ALONE

module _ {s lent : List ℕ} {n : ℕ} {out : List ℕ} where
  -- with a cycle: the circle, each of its edges on its line
  pub checked_circle : Checked s lent n out → (sh : Sheet) → InOrder s sh → Cycle (predecessors (tests sh))
      → (take n out ≡ refusal_text CYCLE 1 0 ++ joined (circle_line sh) (around (circle sh))) × IsCircle (predecessors (tests sh)) (circle sh) ×
      ((e : Edge) → In e (around (circle sh)) → ToldOn sh e (edge_line sh e))
  checked_circle d sh q c =
      let (right, cycle) = sheet_circle s sh q in
      let (is, lines) = right (cycle.1 c) in
      (checked d ∙ check_circle s sh q (cycle.1 c), is, lines)

  -- without one: the counts
  pub checked_counts : Checked s lent n out → (sh : Sheet) → InOrder s sh → (Cycle (predecessors (tests sh)) → ⊥) → take n out ≡ sheet_told sh
  checked_counts d sh q none_there = go (testing_order sh) refl
    where
      go : (o : Option (List ℕ)) → testing_order sh ≡ o → take n out ≡ sheet_told sh
      go none e = absurd (none_there ((sheet_circle s sh q).1.0 e))
      go (some o) e = checked d ∙ check_sheet s sh o q e

  -- the blank card
  pub blanked_card : Blanked s lent n out → (a : Accepted) → read_sheet s ≡ taken a → take n out ≡ blank_card a.sheet.heads
  unfolding blank_output blank_printed
  blanked_card d a q = blanked d ∙ rw q

-- THE OUTLOOK IN NAMES

-- the papers of an input that is not too long
pub record Holds (input s c e : List ℕ) : Type 0 where
  pub short : length input ≤ desk_bytes
  pub sheet : first_paper input ≡ s
  pub card : first_paper (after_paper input) ≡ c
  pub event : after_paper (after_paper input) ≡ e

-- what is printed for them
pub printed_for : {input s c e : List ℕ} → Holds input s c e → (k : Case) → read_case s c e ≡ taken k
    → outlook_output input ≡ prospects_told (status_names (statuses k.sheet.heads)) (outlook k)
unfolding outlook_output outlook_printed
printed_for {input} h k q = rw (le-ltb desk_bytes (length input) h.short, h.sheet, h.card, h.event, q)

-- the list that the door gives is the outlook of the case
pub door_listed : {s c e lent list : List ℕ} {r : Reply} → Looked s c e lent r list → r.number ≡ 0
    → (k : Case) × (read_case s c e ≡ taken k) × (outlook k ≡ taken (take r.count list))
door_listed {s} {c} {e} {lent} d z =
    let (l, q, g) = taken_back (looked d) (outlook_tells s c e (length lent)) z in
    let (k, read, is) = outlook_of s c e (length lent) l q in
    (k, read, is ∙ ap taken (sym g.front))

-- with more than 4,096 combinations
pub many_told : (k : Case) → part_limit < parts (tests k.sheet) 0 (at k).values
    → prospects_told (status_names (statuses k.sheet.heads)) (outlook k) ≡ line (text "outlook") (text "refused")
unfolding prospects_told outlook_lines
many_told k h = rw ((outlook_many k).1 h)
