-- What the desk prints, of what the doors return for the same papers.
use Prim.Native.Nat.{ℕ, ◌+◌, ◌*◌, ◌/◌, ◌%◌}
use mathlib.Core.Path.{◌≡◌, refl, sym, ◌∙◌, ap, ap₂}
use mathlib.Core.Bool.{Bool, true, false, cond}
use mathlib.Core.List.{List, [], ◌∷◌, ◌++◌}
use native.Mathlib.Omega.{arith}
use lib.Dec.{leb}
use lib.ListN.{length, take}
use borrow.Author.Tests.{eq-eqb, ne_eqb, le-ltb}
use Rattle.meaning.specs.Text.{text, joined}
use Rattle.meaning.specs.Refusal.{Answer, taken, refused, ROOM, MANY}
use Rattle.meaning.specs.Limits.{desk_bytes}
use Rattle.meaning.specs.Name.{Name}
use Rattle.meaning.specs.Number.{decimal}
use Rattle.meaning.specs.Sheet.{Status, status_names}
use Rattle.meaning.specs.Tests.{tests}
use Rattle.meaning.specs.Step.{pattern}
use Rattle.meaning.specs.Outlook.{many, patterns}
use Rattle.meaning.specs.Prospect.{yes_names}
use Rattle.meaning.specs.Write.{line}
use Rattle.meaning.specs.Doors.{Case, read_case, Next, next, outlook, fitting, step_answer, outlook_answer}
use Rattle.meaning.specs.Desk.{start_lines, outlook_lines, refusal_text, printed, desk_output}
use Rattle.theory.specs.Requests.Cases.{at}
use Rattle.theory.specs.Reading.Readers.{refused_taken}
use Rattle.reply.specs.declared.Reply.{Reply}
use Rattle.reply.specs.Answers.{refused_reply}
use Rattle.reambodkin.proofs.Script.{Given, given_back, told_back}
use Rattle.reambodkin.proofs.Calls.{Stepped, Looked, looked, step_refused, step_took}
use Rattle.reambodkin.proofs.Outputs.{Holds}

-- what is printed for the papers of an input
pub desk_for : {input s c e : List ℕ} → Holds input s c e → desk_output input ≡ printed (read_case s c e)
unfolding desk_output
desk_for {input} h = rw (le-ltb desk_bytes (length input) h.short, h.sheet, h.card, h.event)

-- THE TASKS: the lines of stages are those of the names that the bits of the pattern tell
none_named : (ns : List Name) → joined (line (text "start")) (yes_names ns 0) ≡ []
unfolding yes_names joined
none_named [] = refl
none_named (n ∷ ns) = none_named ns

starts_named : (ss : List Status) (bs : List Bool) → start_lines ss bs ≡ joined (line (text "start")) (yes_names (status_names ss) (pattern bs))
unfolding start_lines yes_names joined pattern status_names
starts_named [] bs = refl
starts_named (s ∷ ss) [] = sym (none_named (status_names ss))
starts_named (s ∷ ss) (true ∷ bs) =
    let odd : (1 + 2 * pattern bs) % 2 ≡ 1 = omega arith in
    let half : (1 + 2 * pattern bs) / 2 ≡ pattern bs = omega arith in
    rw (eq-eqb ((1 + 2 * pattern bs) % 2) 1 odd, half) (ap (λ t. line (text "start") s.name ++ t) (starts_named ss bs))
starts_named (s ∷ ss) (false ∷ bs) =
    let even : (2 * pattern bs) % 2 ≡ 1 → ⊥ = λ y. omega arith in
    let half : (2 * pattern bs) / 2 ≡ pattern bs = omega arith in
    rw (ne_eqb ((2 * pattern bs) % 2) 1 even, half) (starts_named ss bs)

-- A REFUSAL

-- papers that a step refuses, and not for room, are refused
case_refused : (s c e : List ℕ) (room m p l : ℕ) → step_answer s c e room ≡ refused m p l → (m ≡ ROOM → ⊥) → read_case s c e ≡ refused m p l
unfolding step_answer fitting
case_refused s c e room m p l q z = go (read_case s c e) refl
  where
    fit : (n : Next) (b : Bool) → cond b (taken n) (refused ROOM 0 0) ≡ refused m p l → ⊥
    fit n true f = refused_taken m p l n (sym f)
    fit n false f = let y : m ≡ ROOM = cc in z y

    again : Answer Next → Answer Case
    again (taken n) = refused 0 0 0
    again (refused a b d) = refused a b d

    go : (x : Answer Case) → read_case s c e ≡ x → read_case s c e ≡ refused m p l
    go (taken k) x = absurd (fit (next k) (leb (length (next k).card) room) (rw x at q))
    go (refused a b d) x = let f : ◌≡◌ {A = Answer Next} (refused a b d) (refused m p l) = rw x at q in x ∙ ap again f

pub desk_refused : {s c e room : List ℕ} {r : Reply} {card : List ℕ} → Stepped s c e room r card → (r.number ≡ ROOM → ⊥) → (r.number ≡ 0 → ⊥)
    → printed (read_case s c e) ≡ refusal_text r.number r.paper r.line
unfolding printed
desk_refused {s} {c} {e} {room} {r} d fits z = rw (case_refused s c e (length room) r.number r.paper r.line (step_refused d z).0 fits)

-- THE OUTLOOK

-- the lines of a case's outlook, by what the door returned with room enough
module _ {s c e space : List ℕ} {l : Reply} {list : List ℕ} (door : Looked s c e space l list) (fits : l.number ≡ ROOM → ⊥) (k : Case)
    (read : read_case s c e ≡ taken k) where
  abbrev Told : Type 0
  Told = (l.number ≡ 0 → outlook_lines (outlook k) ≡ joined (λ p. line (text "outlook") (decimal p)) (take l.count list))
      × ((l.number ≡ 0 → ⊥) → (l ≡ refused_reply MANY 0 0) × (outlook_lines (outlook k) ≡ line (text "outlook") (text "refused")))

  many_told : outlook k ≡ refused MANY 0 0 → Told
  unfolding outlook_answer outlook_lines
  many_told o =
      let is : l ≡ refused_reply MANY 0 0 = (told_back (looked door) MANY 0 0 (rw (read, o))).0 in
      let ten : l.number ≡ MANY = ap (λ (r : Reply). r.number) is in
      (λ z. absurd (omega arith), λ z. (is, ap outlook_lines o))

  list_told : (ps : List ℕ) → outlook k ≡ taken ps → Told
  unfolding outlook_answer outlook_lines fitting
  list_told ps o = go (leb (length ps) (length space)) refl
    where
      go : (b : Bool) → leb (length ps) (length space) ≡ b → Told
      go true b =
          let g : Given (λ (l : List ℕ). l) (λ l. 0) space l list ps = given_back (looked door) ps (rw (read, o, b)) in
          (λ z. ap outlook_lines (o ∙ ap taken (sym g.front)), λ z. absurd (z g.number.0))
      go false b = absurd (fits (ap (λ (r : Reply). r.number) (told_back (looked door) ROOM 0 0 (rw (read, o, b))).0))

  pub lines_told : Told
  unfolding outlook
  lines_told = go (many (tests k.sheet) (at k)) refl
    where
      answer : Bool → Answer (List ℕ)
      answer b = elim b [ true ↦ refused MANY 0 0 | false ↦ taken (patterns (tests k.sheet) k.order (at k)) ]

      go : (b : Bool) → many (tests k.sheet) (at k) ≡ b → Told
      go true b = many_told (ap answer b)
      go false b = list_told (patterns (tests k.sheet) k.order (at k)) (ap answer b)

-- ALL OF IT: the card that was written, a line for each task bit, and the lines of the list, or `outlook=refused`
pub desk_shown : {s c e room card space list : List ℕ} {r l : Reply} → Stepped s c e room r card → r.number ≡ 0 → Looked s c e space l list
    → (l.number ≡ ROOM → ⊥)
    → (k : Case) × (read_case s c e ≡ taken k) × (w : List ℕ)
    × (printed (read_case s c e) ≡ take r.count card ++ joined (line (text "start")) (yes_names (status_names k.sheet.heads.stages) r.tasks) ++ w)
    × (l.number ≡ 0 → w ≡ joined (λ p. line (text "outlook") (decimal p)) (take l.count list))
    × ((l.number ≡ 0 → ⊥) → (l ≡ refused_reply MANY 0 0) × (w ≡ line (text "outlook") (text "refused")))
unfolding printed
desk_shown {s} {c} {e} {room} {card} {space} {list} {r} {l} d z door fits =
    let (k, read, g) = step_took d z in
    let ss = k.sheet.heads.stages in
    let tasks : start_lines ss (next k).tasks ≡ joined (line (text "start")) (yes_names (status_names ss) r.tasks) = starts_named ss (next k).tasks ∙ ap
    (λ t. joined (line (text "start")) (yes_names (status_names ss) t)) (sym g.tells) in
    let told = lines_told door fits k read in
    (k, read, outlook_lines (outlook k), ap printed read ∙ ap₂ (λ a b. a ++ b ++ outlook_lines (outlook k)) (sym g.front) tasks, told.0, told.1)
