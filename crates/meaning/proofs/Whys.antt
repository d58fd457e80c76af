-- The examples of request T-01 as a table: what `why` gives for each, what the clerk reads out, and the theorem that the definitions give it.
use Prim.Native.Nat.{ℕ}
use mathlib.Core.Path.{◌≡◌, refl}
use mathlib.Core.List.{List, [], ◌∷◌, ◌++◌, map}
use Rattle.meaning.specs.Text.{text}
use Rattle.meaning.specs.Refusal.{Answer, taken, refused}
use Rattle.meaning.specs.Doors.{why_answer}
use Rattle.meaning.specs.Clerk.{why_output}
use Rattle.meaning.specs.Computing.{computing}
use Rattle.meaning.proofs.Examples.{sheet_lines, sheet_with, P, Q, card_of, all_no}

-- a row: the three papers, how many places are lent, and what is answered
pub record Asked : Type 0 where
  pub sheet : List ℕ
  pub card : List ℕ
  pub event : List ℕ
  pub room : ℕ
  pub answer : Answer (List ℕ)

-- sheets A, B and C, and their cards; field x is 1
abbrev pub A : List ℕ
A = text "model=m\nfield=x\nevent=e x\nmile=k\nrule=+k on e if x>5\nrule=+k on e if x>3\nrule=+k on e\nend=3\n"

abbrev pub stages_of : List ℕ → List ℕ
stages_of rules = text "model=m\nfield=x\nevent=e x\nevent=f\nstage=p\nstage=c p\nmile=k c\n" ++ rules ++ text "end=2\n"

abbrev pub B : List ℕ
B = stages_of (text "rule=-p on e\nrule=-c on e\n")

abbrev pub C : List ℕ
C = stages_of (text "rule=-p on e if x>0\nrule=-c on f\n")

abbrev pub card_a : List ℕ → List ℕ
card_a k = text "case=m\nx=1\nk=" ++ k ++ text "\nend=2\n"

abbrev pub card_c : List ℕ → List ℕ
card_c k = text "case=m\nx=1\np=yes\nc=yes\nk=" ++ k ++ text "\nend=4\n"

unfoldable pub asked : List Asked
asked =
    -- 1.1: lines of the sheet, not places among the rules
    record { sheet = P; card = Q; event = text "looked income=900\n"; room = 159; answer = taken (123 ∷ 10151 ∷ 20131 ∷ 30145 ∷ []) }
    ∷ record { sheet = P; card = Q; event = text "looked income=?\n"; room = 159; answer = taken (123 ∷ 10155 ∷ 20136 ∷ 30146 ∷ []) }
    -- 1.2: of several lines the first that held; none for the change that could not be made
    ∷ record { sheet = A; card = card_a (text "no"); event = text "e x=4\n"; room = 159; answer = taken (61 ∷ []) }
    ∷ record { sheet = A; card = card_a (text "no"); event = text "e x=9\n"; room = 159; answer = taken (51 ∷ []) }
    ∷ record { sheet = A; card = card_a (text "no"); event = text "e x=?\n"; room = 159; answer = taken (71 ∷ []) }
    ∷ record { sheet = A; card = card_a (text "yes"); event = text "e x=9\n"; room = 159; answer = taken [] }
    -- 1.3: a written line before the parent; the parent alone
    ∷ record { sheet = B; card = card_c (text "no"); event = text "e x=1\n"; room = 159; answer = taken (81 ∷ 10091 ∷ []) }
    ∷ record { sheet = C; card = card_c (text "no"); event = text "e x=1\n"; room = 159; answer = taken (81 ∷ 10052 ∷ []) }
    -- 1.4: trigger, then home, then condition
    ∷ record {
      sheet = P;
      card = card_of (text "?") (text "3") all_no;
      event = text "looked income=901\n";
      room = 159;
      answer = taken
          (113 ∷ 10155 ∷ 20134 ∷ 30144 ∷ []);
    }
    ∷ record { sheet = P; card = Q; event = text "withdrawn\n"; room = 159; answer = taken (121 ∷ 10155 ∷ 20133 ∷ 30143 ∷ []) }
    -- 1.5: a closing that did not come about is not told
    ∷ record { sheet = C; card = card_c (text "yes"); event = text "e x=0\n"; room = 159; answer = taken (85 ∷ 10093 ∷ []) }
    -- 1.6: the home is read after; `+fit` where fit is yes already
    ∷ record {
      sheet = sheet_lines (text "rule=+fit on withdrawn") (text "rule=+pack if fit and review");
      card = Q;
      event = text "withdrawn\n";
      room = 159;
      answer = taken (121 ∷ 10155 ∷ 20134 ∷ 30143 ∷ []);
    }
    ∷ record {
      sheet = sheet_with (text "rule=+pack on +fit");
      card = card_of (text "?") (text "3") (text "review=yes\npack=no\nfit=yes\nunfit=no\n");
      event = text "looked income=5\n";
      room = 159;
      answer = taken (123 ∷ 10153 ∷ 30145 ∷ []);
    }
    -- 1.7: ROOM exactly when there are more reasons than places, behind the refusals of the papers
    ∷ record { sheet = P; card = Q; event = text "looked income=900\n"; room = 4; answer = taken (123 ∷ 10151 ∷ 20131 ∷ 30145 ∷ []) }
    ∷ record { sheet = P; card = Q; event = text "looked income=900\n"; room = 3; answer = refused 9 0 0 }
    ∷ record { sheet = P; card = Q; event = text "looked income=ERR\n"; room = 0; answer = refused 4 3 1 }
    ∷ []

-- THE THEOREM: for every row the definitions give what the table says
pub asked_holds : map (λ (a : Asked). why_answer a.sheet a.card a.event a.room) asked ≡ map (λ (a : Asked). a.answer) asked
unfolding computing asked
asked_holds = refl

-- a row: the whole input, and what `clerk why` prints for it
pub record Read : Type 0 where
  pub input : List ℕ
  pub prints : List ℕ

unfoldable pub read : List Read
read =
    record {
      input = P ++ Q ++ text "looked income=900\n";
      prints =
          text "why=-review line 12 trigger not met: on withdrawn\nwhy=+pack line 15 held: if fit and review\n"
          ++ text "why=+fit line 13 held: on looked if income<=900\nwhy=+unfit line 14 condition false: on looked if income>900\n";
    }
    ∷ record {
      input = P ++ Q ++ text "looked income=?\n";
      prints =
          text "why=-review line 12 trigger not met: on withdrawn\nwhy=+pack line 15 condition false: if fit and review\n"
          ++ text "why=+fit line 13 condition unknown: on looked if income<=900\nwhy=+unfit line 14 condition unknown: on looked if income>900\n";
    }
    -- the parent by its name; a home that is not open
    ∷ record { input = C ++ card_c (text "no") ++ text "e x=1\n"; prints = text "why=-p line 8 held: on e if x>0\nwhy=-c parent p closed\n" }
    ∷ record {
      input = P ++ card_of (text "?") (text "3") all_no ++ text "looked income=901\n";
      prints =
          text "why=+review line 11 trigger not met: on asked if people>0\nwhy=+pack line 15 condition false: if fit and review\n"
          ++ text "why=+fit line 13 home not open: on looked if income<=900\nwhy=+unfit line 14 home not open: on looked if income>900\n";
    }
    -- nothing where there is no reason, and a refusal as at the desk
    ∷ record { input = A ++ card_a (text "yes") ++ text "e x=9\n"; prints = [] }
    ∷ record { input = P ++ Q ++ text "looked income=ERR\n"; prints = text "refused=4 3 1\n" }
    ∷ []

pub read_holds : map (λ (r : Read). why_output r.input) read ≡ map (λ (r : Read). r.prints) read
unfolding computing read
read_holds = refl
