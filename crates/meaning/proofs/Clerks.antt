-- What the clerk's program prints with the words `check`, `blank`, `card` and `outlook`, as one table, and the theorem that the definitions give what it says.
use Prim.Native.Nat.{ℕ}
use mathlib.Core.Path.{◌≡◌, refl}
use mathlib.Core.List.{List, [], ◌∷◌, ◌++◌, map}
use Rattle.meaning.specs.Text.{text}
use Rattle.meaning.specs.Clerk.{check_output, blank_output, card_output, outlook_output}
use Rattle.meaning.specs.Computing.{computing}
use Rattle.meaning.proofs.Examples.{sheet_with, P, card_of, all_no, Q, family, pair}

-- the clerk's words for a sheet alone and for three papers
pub data Word : Type 0 where
  check blank card outlook : Word

abbrev pub printed_by : Word → List ℕ → List ℕ
printed_by check input = check_output input
printed_by blank input = blank_output input
printed_by card input = card_output input
printed_by outlook input = outlook_output input

-- a row: the word, the input, and what is printed
pub record Row : Type 0 where
  pub word : Word
  pub input : List ℕ
  pub prints : List ℕ

pub rows : List Row
rows =
    -- a sheet that is taken
    record { word = check; input = P; prints = text "model=parcel\nfields=2\nevents=3\nstages=2\nmiles=2\nrules=5\nleaves=5\n" }
    -- "P with line 15 `rule=+pack if not pack`"
    ∷ record { word = check; input = sheet_with (text "rule=+pack if not pack"); prints = text "refused=7 1 0\ncircle=+pack +pack 15\n" }
    -- "stages p and c in p (lines 3 and 4), rules `+c on e` and `-p on +c` (lines 5 and 6)"
    ∷ record { word = check; input = family (text "rule=+c on e\nrule=-p on +c\nend=2\n"); prints = text "refused=7 1 0\ncircle=-p +c 5\ncircle=+c -p 6\n" }
    -- the closing of a child, which no rule line gives: the child's `stage=` line
    ∷ record { word = check; input = family (text "rule=-p on -c\nend=1\n"); prints = text "refused=7 1 0\ncircle=-p -c 4\ncircle=-c -p 5\n" }
    -- nodes that wait for the circle and are not on it: +a is the lowest left, and the way back ends among +b and -b
    ∷ record {
      word = check;
      input = pair (text "rule=+a on +b\nrule=+b on -b\nrule=-b on +b\nend=3\n");
      prints = text
          "refused=7 1 0\ncircle=+b -b 8\ncircle=-b +b 7\n";
    }
    -- two rule lines that give an edge: the first
    ∷ record { word = check; input = pair (text "rule=+a on e\nrule=+a if a and b\nrule=+a on +a\nend=3\n"); prints = text "refused=7 1 0\ncircle=+a +a 7\n" }
    -- other refusals have no circle
    ∷ record { word = check; input = pair (text "rule=+a on +a\nrule=+c on e\nend=2\n"); prints = text "refused=3 1 7\n" }
    ∷ record { word = check; input = []; prints = text "refused=2 1 1\n" }
    ∷ record { word = check; input = P ++ Q; prints = text "refused=2 1 17\n" }
    -- the blank card
    ∷ record { word = blank; input = P; prints = card_of (text "?") (text "?") all_no }
    ∷ record { word = blank; input = text "model=m\nend=0\n"; prints = text "case=m\nend=0\n" }
    ∷ record { word = blank; input = sheet_with (text "rule=+pack if not pack"); prints = text "refused=7 1 0\n" }
    -- the desk's card
    ∷ record {
      word = card;
      input = P ++ Q ++ text "looked income=900\n";
      prints = card_of (text "900") (text "3")
          (text "review=yes\npack=yes\nfit=yes\nunfit=no\n");
    }
    ∷ record { word = card; input = P ++ Q ++ text "looked income=ERR\n"; prints = text "refused=4 3 1\n" }
    -- "On P, Q and `looked income=?`"
    ∷ record {
      word = outlook;
      input = P ++ Q ++ text "looked income=?\n";
      prints = text
          "review=always\npack=open\nfit=open\nunfit=open\noutlook=review pack fit\noutlook=review unfit\n";
    }
    ∷ record {
      word = outlook;
      input = P ++ Q ++ text "looked income=900\n";
      prints = text
          "review=always\npack=always\nfit=always\nunfit=never\noutlook=review pack fit\n";
    }
    -- a pattern in which no status is yes
    ∷ record {
      word = outlook;
      input = P ++ card_of (text "?") (text "3") all_no ++ text "asked people=?\n";
      prints = text
          "review=open\npack=never\nfit=never\nunfit=never\noutlook=\noutlook=review\n";
    }
    ∷ record { word = outlook; input = P ++ Q ++ text "looked\n"; prints = text "refused=2 3 1\n" }
    ∷ []

pub rows_hold : map (λ (r : Row). printed_by r.word r.input) rows ≡ map (λ (r : Row). r.prints) rows
unfolding computing rows
rows_hold = refl
