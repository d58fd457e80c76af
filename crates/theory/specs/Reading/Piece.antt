-- What code that reads answers as a Result, and what such an answer tells of the reader that it stands for.
use Rattle.std.specs.Prelude.{ℕ, ◌+◌, ◌-◌, ◌≤◌, ◌≡◌, List, length, drop, Result, Ok, Err}
use Rattle.std.proofs.Common.{◌∙◌, sym}
use Rattle.meaning.specs.Refusal.{Answer, taken, refused}
use Rattle.meaning.specs.Reading.{Got, got, wrong, Reader, after, give}
use Rattle.theory.specs.Reading.Answered.{Ends, Left, left_got, left_wrong}
use Rattle.theory.specs.Reading.Told.{took}

-- WHAT IS ANSWERED

-- for a value and the bytes that it took at the start of s, and for the number of a refusal
abbrev pub as_piece : {A B E : Type 0} → (A → ℕ → B) → (ℕ → E) → List ℕ → Got A → Result B E
as_piece good bad s (got a l t) = Ok (good a (length s - length t))
as_piece good bad s (wrong n l) = Err (bad n)

-- for a value, the line come to and the bytes that it took at the start of s, and for the number and the line of a refusal
abbrev pub as_lines : {A B E : Type 0} → (A → ℕ → ℕ → B) → (ℕ → ℕ → E) → List ℕ → Got A → Result B E
as_lines good bad s (got a l t) = Ok (good a l (length s - length t))
as_lines good bad s (wrong n l) = Err (bad n l)

-- for a whole paper that was taken, and for its refusal
abbrev pub as_paper : {A B E : Type 0} → (A → B) → (ℕ → ℕ → ℕ → E) → Answer A → Result B E
as_paper good bad (taken a) = Ok (good a)
as_paper good bad (refused n p l) = Err (bad n p l)

-- WHAT AN ANSWER TELLS

-- bytes were taken, and b is the answer for the value
pub record Took {A B : Type 0} (good : A → ℕ → B) (to : ℕ → ℕ) (P : A → ℕ → Type 0) (r : Reader A) (s : List ℕ) (b : B) : Type 0 where
  pub value : A
  pub bytes : ℕ
  pub holds : P value bytes
  pub within : bytes ≤ length s
  pub reads : (l : ℕ) → r l s ≡ got value (to l) (drop bytes s)
  pub same : b ≡ good value bytes

-- it is refused, and e is the answer for the number
pub record Refuses {A E : Type 0} (bad : ℕ → E) (r : Reader A) (s : List ℕ) (e : E) : Type 0 where
  pub number : ℕ
  pub is : e ≡ bad number
  pub reads : (l : ℕ) → r l s ≡ wrong number l

module _ {B E : Type 0} where
  ok_is : {b c : B} → ◌≡◌ {A = Result B E} (Ok b) (Ok c) → b ≡ c
  ok_is e = cc

  err_is : {d e : E} → ◌≡◌ {A = Result B E} (Err d) (Err e) → d ≡ e
  err_is e = cc

  unlike : {C : Type 0} {b : B} {e : E} → ◌≡◌ {A = Result B E} (Ok b) (Err e) → C
  unlike e = cc

module _ {A B E : Type 0} (good : A → ℕ → B) (bad : ℕ → E) {to : ℕ → ℕ} {P : A → ℕ → Type 0} {r : Reader A} {s : List ℕ} (ends : Ends to P r s) (v : Result B E)
    (is : v ≡ as_piece good bad s (r 0 s)) where
  pub piece_took : (b : B) → v ≡ Ok b → Took good to P r s b
  piece_took b z = go ends
    where
      go : Ends to P r s → Took good to P r s b
      go (Ends.found a n p h e) =
          record { value = a; bytes = n; holds = p; within = h; reads = e; same = ok_is {E = E} (sym z ∙ is ∙ rw (e 0, took s n h)) }
      go (Ends.faulty k e) = unlike {e = bad k} (sym z ∙ is ∙ rw (e 0))

  pub piece_refuses : (e : E) → v ≡ Err e → Refuses bad r s e
  piece_refuses d z = go ends
    where
      go : Ends to P r s → Refuses bad r s d
      go (Ends.found a n p h e) = unlike {b = good a n} (sym (sym z ∙ is ∙ rw (e 0, took s n h)))
      go (Ends.faulty k e) = record { number = k; is = err_is {B = B} (sym z ∙ is ∙ rw (e 0)); reads = e }

-- HOW FAR A TEXT IS READ

-- the reading x is refused, and e is the answer for its number
pub record Off {E C : Type 0} (bad : ℕ → E) (x : Got C) (l : ℕ) (e : E) : Type 0 where
  pub number : ℕ
  pub is : e ≡ bad number
  pub told : x ≡ wrong number l

-- so it is answered
pub off_answer : {B C E : Type 0} {bad : ℕ → E} {x : Got C} {l : ℕ} {e : E} (good : C → ℕ → B) (s : List ℕ) → Off bad x l e → Err e ≡ as_piece good bad s x
off_answer good s h = rw (h.is, h.told)

-- all is read: the answer for the value and its bytes
pub left_piece : {B C E : Type 0} (good : C → ℕ → B) (bad : ℕ → E) {x : Got C} {a : C} {l at : ℕ} {s : List ℕ}
    → Left x (give a) l at s → (b : B) → b ≡ good a at → Ok b ≡ as_piece good bad s x
left_piece good bad {at = at} {s = s} h b z = rw (z, h.is, took s at h.within)

-- a piece was read: its value, and what is left
pub record Next {A B C : Type 0} (good : A → ℕ → B) (P : A → ℕ → Type 0) (x : Got C) (f : A → Reader C) (l at : ℕ) (s : List ℕ) (b : B) : Type 0 where
  pub value : A
  pub bytes : ℕ
  pub holds : P value bytes
  pub same : b ≡ good value bytes
  pub left : Left x (f value) l (at + bytes) s

-- by the answer v of the code on u, the rest of s
module _ {A B C E : Type 0} (good : A → ℕ → B) (bad : ℕ → E) {to : ℕ → ℕ} {P : A → ℕ → Type 0} {r : Reader A} (ends : (u : List ℕ) → Ends to P r u) {x : Got C}
    (f : A → Reader C) {l at : ℕ} {s : List ℕ} (left : Left x (λ l s. after (r l s) f) l at s) (u : List ℕ) (rest : u ≡ drop at s) (v : Result B E)
    (is : v ≡ as_piece good bad u (r 0 u)) where
  answer : v ≡ as_piece good bad (drop at s) (r 0 (drop at s))
  answer = rw rest at is

  pub piece_on : (b : B) → v ≡ Ok b → Next good P x f (to l) at s b
  piece_on b z =
      let o = piece_took good bad (ends (drop at s)) v answer b z in
      record { value = o.value; bytes = o.bytes; holds = o.holds; same = o.same; left = left_got r f left o.value (to l) o.bytes o.within (o.reads l) }

  pub piece_off : (e : E) → v ≡ Err e → Off bad x l e
  piece_off e z =
      let o = piece_refuses good bad (ends (drop at s)) v answer e z in
      record { number = o.number; is = o.is; told = left_wrong r f left o.number (o.reads l) }
