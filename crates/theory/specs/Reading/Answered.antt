-- What an answer of the code tells of the reader that it stands for, and how far a text is read when one piece after the other is answered.
use Rattle.std.specs.Prelude.{ℕ, suc, ◌+◌, ◌≤◌, ◌≡◌, refl, List, [], length, drop}
use Rattle.std.proofs.Common.{sym, ◌∙◌, ap, arith, length-drop, drop-drop}
use Rattle.meaning.specs.Text.{text}
use Rattle.meaning.specs.Reading.{Got, got, wrong, Reader, after, give, due, line_end}
use Rattle.meaning.specs.Card.{ended}
use Rattle.theory.specs.Reading.Answer.{as_read}
use Rattle.theory.specs.Reading.Built.{Inline, Fault, line_fault, due_built}
use Rattle.theory.specs.Reading.Readers.{Ensures}
use Rattle.theory.specs.Reading.Spelling.{Spells, due_spells}
use Rattle.theory.specs.Reading.Told.{Told, Any, took, inline_told, told_ensured, spelled_took}

-- WHAT A READER TELLS

-- a value and its bytes with a property, and the line `to l` where the reader began on l; or a refusal of that line
pub data Ends {A : Type 0} (to : ℕ → ℕ) (P : A → ℕ → Type 0) (r : Reader A) (s : List ℕ) : Type 0 where
  found : (a : A) (n : ℕ) → P a n → n ≤ length s → ((l : ℕ) → r l s ≡ got a (to l) (drop n s)) → Ends to P r s
  faulty : (k : ℕ) → ((l : ℕ) → r l s ≡ wrong k l) → Ends to P r s

-- pieces stay on their line
abbrev pub here : ℕ → ℕ
here l = l

module _ {A : Type 0} where
  pub told_ends : {P : A → Type 0} {r : Reader A} {s : List ℕ} → Told P r s → Ends here (λ a n. P a) r s
  told_ends (Told.found a n p h e) = Ends.found a n p h e
  told_ends (Told.faulty k e) = Ends.faulty k e

  pub inline_ends : {r : Reader A} → Inline r → (s : List ℕ) → Ends here (λ a n. Any a) r s
  inline_ends h s = told_ends (inline_told h s)

  pub ensured_ends : {P : A → Type 0} {r : Reader A} → Inline r → Ensures r P → (s : List ℕ) → Ends here (λ a n. P a) r s
  ensured_ends h g s = told_ends (told_ensured h g s)

  -- as many bytes as the text of the value has
  pub spelled_ends : {r : Reader A} {w : A → List ℕ} → Inline r → Spells [] r w → (s : List ℕ) → Ends here (λ a n. n ≡ length (w a)) r s
  spelled_ends {r} {w} h g s = go (inline_told h s)
    where
      go : Told Any r s → Ends here (λ a n. n ≡ length (w a)) r s
      go (Told.found a n u m e) = Ends.found a n (spelled_took g 0 s a 0 n m (e 0)) m e
      go (Told.faulty k e) = Ends.faulty k e

  pub ends_weaker : {to : ℕ → ℕ} {P Q : A → ℕ → Type 0} {r : Reader A} {s : List ℕ} → ((a : A) (n : ℕ) → P a n → Q a n) → Ends to P r s → Ends to Q r s
  ends_weaker h (Ends.found a n p m e) = Ends.found a n (h a n p) m e
  ends_weaker h (Ends.faulty k e) = Ends.faulty k e

-- a value made of what was read
pub ends_map : {A B : Type 0} {to : ℕ → ℕ} {P : A → ℕ → Type 0} {Q : B → ℕ → Type 0} {r : Reader A} {s : List ℕ} (g : A → B)
    → ((a : A) (n : ℕ) → P a n → Q (g a) n) → Ends to P r s → Ends to Q (λ l s. after (r l s) (λ a. give (g a))) s
ends_map g h (Ends.found a n p m e) = Ends.found (g a) n (h a n p) m (λ l. rw (e l))
ends_map g h (Ends.faulty k e) = Ends.faulty k (λ l. rw (e l))

-- m bytes on, and n further
pub behind : (s : List ℕ) (n m : ℕ) → m ≤ length s → n ≤ length (drop m s) → m + n ≤ length s
behind s n m h k = omega (arith, length-drop m s)

-- one piece after another
pub ends_after : {A B : Type 0} {to : ℕ → ℕ} {P : A → ℕ → Type 0} (Q : B → ℕ → Type 0) {r : Reader A} (f : A → Reader B) {s : List ℕ} → Ends here P r s
    → ((a : A) (n : ℕ) → P a n → Ends to (λ b i. Q b (n + i)) (f a) (drop n s)) → Ends to Q (λ l s. after (r l s) f) s
ends_after Q f (Ends.faulty k e) g = Ends.faulty k (λ l. rw (e l))
ends_after {B = B} {to = to} Q {r} f {s} (Ends.found a n h m e) g = go (g a n h)
  where
    go : Ends to (λ b i. Q b (n + i)) (f a) (drop n s) → Ends to Q (λ l s. after (r l s) f) s
    go (Ends.faulty k d) = Ends.faulty k (λ l. rw (e l) (d l))
    go (Ends.found b i q j d) = Ends.found b (n + i) q (behind s i n m j) (λ l. rw (e l) (d l ∙ rw (drop-drop i n s)))

-- the LF of a line
pub line_ends : {c : ℕ} → Fault c → (s : List ℕ) → Ends suc (λ u n. n ≡ 1) (line_end c) s
unfolding line_end
line_ends {c} h s = go (spelled_ends (due_built (text "\n") h) (due_spells c (text "\n")) s)
  where
    go : Ends here (λ u n. n ≡ 1) (due c (text "\n")) s → Ends suc (λ u n. n ≡ 1) (line_end c) s
    go (Ends.found a n p m e) = Ends.found tt n p m (λ l. rw (e l))
    go (Ends.faulty k e) = Ends.faulty k (λ l. rw (e l))

-- a line of one piece
pub ended_ends : {A : Type 0} {P : A → ℕ → Type 0} (Q : A → ℕ → Type 0) {r : Reader A} {s : List ℕ} → Ends here P r s → ((a : A) (n : ℕ) → P a n → Q a (n + 1))
    → Ends suc Q (ended r) s
unfolding ended
ended_ends Q {s = s} h g = ends_after Q _ h λ a n p. ends_map (λ _. a) (λ u i e. rw e (g a n p)) (line_ends line_fault (drop n s))

-- WHAT AN ANSWER TELLS

-- the bytes that were taken, or the number of the refusal
pub data Size : Type 0 where
  bytes : ℕ → Size
  fault : ℕ → Size

-- a kind of answers: for a value and its bytes, and for a refusal; which of them it is, is told
pub record Kind (A B : Type 0) : Type 0 where
  pub good : A → ℕ → B
  pub bad : ℕ → B
  pub size : B → Size
  pub of_good : (a : A) (n : ℕ) → size (good a n) ≡ bytes n
  pub of_bad : (k : ℕ) → size (bad k) ≡ fault k

unlike : {n k : ℕ} → bytes n ≡ fault k → ⊥
unlike e = let z : ◌≡◌ {A = ℕ} 0 1 = cc in omega arith

same_bytes : {n m : ℕ} → bytes n ≡ bytes m → n ≡ m
same_bytes e = cc

same_fault : {n m : ℕ} → fault n ≡ fault m → n ≡ m
same_fault e = cc

-- n bytes were taken, and v is the answer for the value
pub record Found {A B : Type 0} (c : Kind A B) (to : ℕ → ℕ) (P : A → ℕ → Type 0) (r : Reader A) (s : List ℕ) (v : B) (n : ℕ) : Type 0 where
  pub value : A
  pub holds : P value n
  pub within : n ≤ length s
  pub reads : (l : ℕ) → r l s ≡ got value (to l) (drop n s)
  pub same : v ≡ c.good value n

module _ {A B : Type 0} (c : Kind A B) {to : ℕ → ℕ} {P : A → ℕ → Type 0} {r : Reader A} {s : List ℕ} (ends : Ends to P r s) (v : B)
    (is : v ≡ as_read c.good c.bad s (r 0 s)) where
  pub answered_found : (n : ℕ) → c.size v ≡ bytes n → Found c to P r s v n
  answered_found n z = go ends
    where
      go : Ends to P r s → Found c to P r s v n
      go (Ends.found a m p h e) =
          let y : v ≡ c.good a m = is ∙ rw (e 0, took s m h) in
          let w : n ≡ m = same_bytes (sym z ∙ ap c.size y ∙ c.of_good a m) in
          rw w (record { value = a; holds = p; within = h; reads = e; same = y })
      go (Ends.faulty k e) = absurd (unlike (sym z ∙ ap c.size (is ∙ rw (e 0)) ∙ c.of_bad k))

  pub answered_wrong : (k : ℕ) → c.size v ≡ fault k → (l : ℕ) → r l s ≡ wrong k l
  answered_wrong k z l = go ends
    where
      go : Ends to P r s → r l s ≡ wrong k l
      go (Ends.found a m p h e) = absurd (unlike (sym (sym z ∙ ap c.size (is ∙ rw (e 0, took s m h)) ∙ c.of_good a m)))
      go (Ends.faulty j e) = let i : k ≡ j = same_fault (sym z ∙ ap c.size (is ∙ rw (e 0)) ∙ c.of_bad j) in rw i (e l)

-- HOW FAR A TEXT IS READ

-- what is left of the reading x of s, from the place `at` and the line l on: the reader k
pub record Left {A : Type 0} (x : Got A) (k : Reader A) (l at : ℕ) (s : List ℕ) : Type 0 where
  pub within : at ≤ length s
  pub is : x ≡ k l (drop at s)

module _ {A : Type 0} where
  pub left_start : (k : Reader A) (l : ℕ) (s : List ℕ) → Left (k l s) k l 0 s
  left_start k l s = record { within = omega arith; is = refl }

  -- the same place, told otherwise
  pub left_at : {x : Got A} {k : Reader A} {l at : ℕ} {s : List ℕ} → Left x k l at s → (m : ℕ) → m ≡ at → Left x k l m s
  left_at h m z = rw z h

  -- all is read: the answer for the value and its bytes
  pub left_answer : {B : Type 0} (good : A → ℕ → B) (bad : ℕ → B) {x : Got A} {a : A} {l at : ℕ} {s : List ℕ} → Left x (give a) l at s → (n : ℕ) → n ≡ at
      → good a n ≡ as_read good bad s x
  left_answer good bad {at = at} {s = s} h n z = rw (z, h.is, took s at h.within)

  -- the last piece
  after_give : (x : Got A) → x ≡ after x give
  after_give (got a l s) = refl
  after_give (wrong k l) = refl

  pub left_last : {x : Got A} {r : Reader A} {l at : ℕ} {s : List ℕ} → Left x r l at s → Left x (λ l s. after (r l s) give) l at s
  left_last h = record { within = h.within; is = h.is ∙ after_give _ }

-- a piece is read, or refused
module _ {A C : Type 0} {x : Got C} (r : Reader A) (f : A → Reader C) {l at : ℕ} {s : List ℕ} (left : Left x (λ l s. after (r l s) f) l at s) where
  pub left_got : (a : A) (m n : ℕ) → n ≤ length (drop at s) → r l (drop at s) ≡ got a m (drop n (drop at s)) → Left x (f a) m (at + n) s
  left_got a m n h e = record { within = behind s n at left.within h; is = left.is ∙ rw (e, drop-drop n at s) }

  pub left_wrong : (k : ℕ) → r l (drop at s) ≡ wrong k l → x ≡ wrong k l
  left_wrong k e = left.is ∙ rw e

-- by the answer v of the code on u, the rest of s
pub record Next {A B C : Type 0} (c : Kind A B) (P : A → ℕ → Type 0) (x : Got C) (f : A → Reader C) (l at : ℕ) (s : List ℕ) (v : B) (n : ℕ) : Type 0 where
  pub value : A
  pub holds : P value n
  pub same : v ≡ c.good value n
  pub left : Left x (f value) l (at + n) s

module _ {A B C : Type 0} (c : Kind A B) {to : ℕ → ℕ} {P : A → ℕ → Type 0} {r : Reader A} (ends : (u : List ℕ) → Ends to P r u) {x : Got C} (f : A → Reader C)
    {l at : ℕ} {s : List ℕ}
    (left : Left x (λ l s. after (r l s) f) l at s) (u : List ℕ) (rest : u ≡ drop at s) (v : B) (is : v ≡ as_read c.good c.bad u (r 0 u)) where
  answer : v ≡ as_read c.good c.bad (drop at s) (r 0 (drop at s))
  answer = rw rest at is

  pub left_on : (n : ℕ) → c.size v ≡ bytes n → Next c P x f (to l) at s v n
  left_on n z =
      let o = answered_found c (ends (drop at s)) v answer n z in
      record { value = o.value; holds = o.holds; same = o.same; left = left_got r f left o.value (to l) n o.within (o.reads l) }

  pub left_off : (k : ℕ) → c.size v ≡ fault k → x ≡ wrong k l
  left_off k z = left_wrong r f left k (answered_wrong c (ends (drop at s)) v answer k z l)
