-- What an answer tells of a reader of values that have a text: the text of the value is what was taken.
use Rattle.std.specs.Prelude.{ℕ, ◌≡◌, List, [], length, take}
use Rattle.std.proofs.Common.{◌∙◌}
use Rattle.meaning.specs.Reading.{Reader, wrong}
use Rattle.theory.specs.Reading.Answer.{as_read, as_shown}
use Rattle.theory.specs.Reading.Answered.{Ends, here, Kind, bytes, fault, Found, answered_found, answered_wrong}
use Rattle.theory.specs.Reading.Built.{Inline}
use Rattle.theory.specs.Reading.Readers.{Ensures}
use Rattle.theory.specs.Reading.Spelling.{Spells}
use Rattle.theory.specs.Reading.Told.{Told, took, told_ensured, spelled_took, spelled_text}

-- a reader whose values have the text w, all of which is taken, and the property P
pub record Shows {A : Type 0} (w : A → List ℕ) (P : A → Type 0) (r : Reader A) : Type 1 where
  pub inline : Inline r
  pub ensures : Ensures r P
  pub spells : Spells [] r w

-- what was taken is the text of the value
abbrev pub Whole : {A : Type 0} → (A → List ℕ) → (A → Type 0) → List ℕ → A → ℕ → Type 0
Whole w P s a n = P a × (w a ≡ take n s) × (n ≡ length (w a))

pub shown_ends : {A : Type 0} {w : A → List ℕ} {P : A → Type 0} {r : Reader A} → Shows w P r → (s : List ℕ) → Ends here (Whole w P s) r s
shown_ends {w = w} {P = P} {r = r} h s = go (told_ensured h.inline h.ensures s)
  where
    go : Told P r s → Ends here (Whole w P s) r s
    go (Told.found a n p m e) = Ends.found a n (p, spelled_text h.spells 0 s a 0 n m (e 0), spelled_took h.spells 0 s a 0 n m (e 0)) m e
    go (Told.faulty k e) = Ends.faulty k e

module _ {A B : Type 0} (c : Kind A B) {w : A → List ℕ} {P : A → Type 0} {r : Reader A} (h : Shows w P r) (s : List ℕ) (v : B)
    (is : v ≡ as_shown w c.good c.bad (r 0 s)) where
  -- the length told is the bytes taken
  pub shown_answer : v ≡ as_read c.good c.bad s (r 0 s)
  shown_answer = is ∙ go (shown_ends h s)
    where
      go : Ends here (Whole w P s) r s → as_shown w c.good c.bad (r 0 s) ≡ as_read c.good c.bad s (r 0 s)
      go (Ends.found a n p m e) = rw (e 0, took s n m, ← p.2)
      go (Ends.faulty k e) = rw (e 0)

  pub shown_found : (n : ℕ) → c.size v ≡ bytes n → Found c here (Whole w P s) r s v n
  shown_found = answered_found c (shown_ends h s) v shown_answer

  pub shown_wrong : (k : ℕ) → c.size v ≡ fault k → (l : ℕ) → r l s ≡ wrong k l
  shown_wrong = answered_wrong c (shown_ends h s) v shown_answer
