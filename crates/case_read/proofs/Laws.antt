-- The three papers, return by return: what is known there, and the answer that is asked.
use Prim.Native.Nat.{ℕ}
use mathlib.Core.Path.{◌≡◌, sym, ◌∙◌, ap}
use mathlib.Core.List.{List}
use Rattle.std.specs.Prelude.{Result, Ok, Err}
use Rattle.reply.specs.declared.Wrong.{Wrong}
use Rattle.reply.specs.Faults.{number_of}
use Rattle.meaning.specs.Sheet as M
use Rattle.meaning.specs.Card.{read_card, read_event}
use Rattle.meaning.specs.Doors as D
use Rattle.meaning.specs.Doors.{read_sheet, read_told, read_case}
use Rattle.sheet_tables.specs.Heads.{Sized, heads_of}
use Rattle.case_tables.specs.declared.Card.{Card}
use Rattle.case_tables.specs.declared.Happening.{Happening}
use Rattle.case_tables.specs.Cards.{no_card, as_card, no_happening, as_happening}
use Rattle.card_read.specs.Answers.{as_card_read}
use Rattle.card_read.proofs.Callers.{card_taken, card_refused}
use Rattle.event_read.specs.Answers.{as_event_read}
use Rattle.event_read.proofs.Callers.{event_taken, event_refused}
use Rattle.step_sheet.specs.declared.Accepted.{Accepted}
use Rattle.step_sheet.specs.Answers.{refused_sheet, taken_sheet, as_accepted}
use Rattle.case_sheet.proofs.Callers.{accept_read, accept_wrong, accept_sized, accept_heads}
use Rattle.case_read.specs.declared.Case.{Case}
use Rattle.case_read.specs.Answers.{refused_case, taken_case, as_case}

-- a refusal is made of blank parts
pub refused_is : (n p l : ℕ) (x : Accepted) → x ≡ refused_sheet n l
    → ◌≡◌ {A = Case} (record { number = n; paper = p; line = l; sheet = x; card = no_card; happening = no_happening }) (refused_case n p l)
refused_is n p l x e = rw e

-- a case is made of its parts
made : (x : Accepted) (c : Card) (h : Happening) (k : D.Case) → x ≡ taken_sheet (record { sheet = k.sheet; order = k.order })
    → c ≡ as_card k.sheet.heads k.card → h ≡ as_happening k.sheet.heads k.happening
    → ◌≡◌ {A = Case} (record { number = 0; paper = 0; line = 0; sheet = x; card = c; happening = h }) (taken_case k)
made x c h k p q r = rw (p, q, r)

module _ (s c e : List ℕ) (x : Accepted) (sheet_told_lem : x ≡ as_accepted (read_sheet s)) where
  pub case_sheet : (x.number ≡ 0 → ⊥) → (q : Case) → q ≡ refused_case x.number 1 x.line → q ≡ as_case (read_case s c e)
  unfolding read_case
  case_sheet z q f = f ∙ sym (rw (accept_wrong s x sheet_told_lem z))

  module _ (zero : x.number ≡ 0) where
    pub case_sized : Sized x.heads
    case_sized = accept_sized s x sheet_told_lem zero

    -- what stands above the rules, as the tables say it
    abbrev said : M.Heads
    said = heads_of x.heads

    abbrev hd : M.Heads
    hd = (accept_read s x sheet_told_lem zero).sheet.sheet.heads

    same_heads : said ≡ hd
    same_heads = accept_heads s x sheet_told_lem zero

    module _ (g : Result Card Wrong) (card_told : g ≡ as_card_read (heads_of x.heads) (read_card (heads_of x.heads) c)) where
      card_is : g ≡ as_card_read hd (read_card hd c)
      card_is = card_told ∙ ap (λ hd. as_card_read hd (read_card hd c)) same_heads

      pub case_card : (w : Wrong) → g ≡ Err w → (k : ℕ) → k ≡ number_of w.fault → (q : Case) → q ≡ refused_case k 2 w.line → q ≡ as_case (read_case s c e)
      unfolding read_case read_told
      case_card w z k m q f =
          let told = card_refused hd c g card_is w z in
          f ∙ ap (λ k. refused_case k 2 w.line) m ∙ sym (rw ((accept_read s x sheet_told_lem zero).same, told))

      module _ (v : Card) (read : g ≡ Ok v) (h : Result Happening Wrong)
          (event_told : h ≡ as_event_read (heads_of x.heads) (read_event (heads_of x.heads) e)) where
        event_is : h ≡ as_event_read hd (read_event hd e)
        event_is = event_told ∙ ap (λ hd. as_event_read hd (read_event hd e)) same_heads

        pub case_event : (w : Wrong) → h ≡ Err w → (k : ℕ) → k ≡ number_of w.fault → (q : Case) → q ≡ refused_case k 3 w.line → q ≡ as_case (read_case s c e)
        unfolding read_case read_told
        case_event w z k m q f =
            let told = event_refused hd e h event_is w z in
            f ∙ ap (λ k. refused_case k 3 w.line) m
            ∙ sym (rw ((accept_read s x sheet_told_lem zero).same, (card_taken hd c g card_is v read).1, told))

        pub case_all : (u : Happening) → h ≡ Ok u
            → ◌≡◌ {A = Case} (record { number = 0; paper = 0; line = 0; sheet = x; card = v; happening = u }) (as_case (read_case s c e))
        unfolding read_case read_told
        case_all u z =
            let a = accept_read s x sheet_told_lem zero in
            let (mc, c_same, c_is) = card_taken hd c g card_is v read in
            let (mh, h_same, h_is) = event_taken hd e h event_is u z in
            made x v u (record { sheet = a.sheet.sheet; order = a.sheet.order; card = mc; happening = mh }) a.is c_is h_is ∙ sym
            (rw (a.same, c_same, h_same))

pub ruleset reading = (case_sheet, case_sized, case_card, case_event, case_all)
