-- The script behind the demands' page, said once for all doors: what is returned, and what the lent space then holds, for any answer of the meaning.
use Prim.Native.Nat.{ℕ, ◌≤◌}
use mathlib.Core.Path.{◌≡◌, refl, sym, ◌∙◌, ap}
use mathlib.Core.List.{List, ◌++◌}
use mathlib.Core.Logic.{◌↔◌}
use native.Mathlib.Omega.{arith}
use lib.ListN.{length, take, drop}
use lib.Dec.{T, leb, leb→le}
use lib.Seq.{take_at, drop_at}
use Rattle.meaning.specs.Refusal.{Answer, taken, refused}
use Rattle.meaning.specs.Doors.{replied, written}
use Rattle.theory.specs.Requests.Numbers.{Tells}
use Rattle.reply.specs.declared.Reply.{Reply}
use Rattle.reply.specs.Answers.{as_reply, refused_reply}

-- a reply and a space that are those of the answer x, whose result is the list `out` and its length
pub record Returned {A : Type 0} (out : A → List ℕ) (tasks : A → ℕ) (x : Answer A) (lent : List ℕ) (r : Reply) (now : List ℕ) : Type 0 where
  pub answer : r ≡ as_reply (replied (λ a. length (out a)) tasks x)
  pub space : now ≡ written out lent x

-- the reply and the space of a result
pub record Given {A : Type 0} (out : A → List ℕ) (tasks : A → ℕ) (lent : List ℕ) (r : Reply) (now : List ℕ) (a : A) : Type 0 where
  pub number : (r.number ≡ 0) × (r.paper ≡ 0) × (r.line ≡ 0)
  pub count : r.count ≡ length (out a)
  pub front : take r.count now ≡ out a
  pub behind : drop r.count now ≡ drop r.count lent
  pub tells : r.tasks ≡ tasks a

module _ {A : Type 0} {out : A → List ℕ} {tasks : A → ℕ} {x : Answer A} {lent : List ℕ} {r : Reply} {now : List ℕ} (d : Returned out tasks x lent r now) where
  -- a refusal is told as it is, and the space is untouched
  pub told_back : (n p l : ℕ) → x ≡ refused n p l → (r ≡ refused_reply n p l) × (now ≡ lent)
  unfolding replied written
  told_back n p l q = (d.answer ∙ rw q, d.space ∙ rw q)

  -- a result stands at the start of the space
  pub given_back : (a : A) → x ≡ taken a → Given out tasks lent r now a
  unfolding replied written
  given_back a q =
      let is : r ≡ record { number = 0; paper = 0; line = 0; count = length (out a); tasks = tasks a } = d.answer ∙ rw q in
      let on : now ≡ out a ++ drop (length (out a)) lent = d.space ∙ rw q in
      let n : length (out a) ≡ r.count = sym (ap (λ (r : Reply). r.count) is) in
      record {
        number = rw is (refl, refl, refl);
        count = sym n;
        front = ap (take r.count) on ∙ take_at (out a) (drop (length (out a)) lent) r.count n;
        behind = ap (drop r.count) on ∙ drop_at (out a) (drop (length (out a)) lent) r.count n ∙ ap (λ n. drop n lent) n;
        tells = ap (λ (r : Reply). r.tasks) is;
      }

  -- its number is 0
  pub taken_number : (a : A) → x ≡ taken a → r.number ≡ 0
  taken_number a q = (given_back a q).number.0

  -- and so the space tells it
  pub list_given : (a : A) → x ≡ taken a → (r.number ≡ 0) × (take r.count now ≡ out a)
  list_given a q = (taken_number a q, (given_back a q).front)

  -- a refusal is told exactly when it is the answer
  pub told_exactly : (n p l : ℕ) → T (leb 1 n) → (r ≡ refused_reply n p l) ↔ (x ≡ refused n p l)
  told_exactly n p l some = (λ e. go x refl e, λ q. (told_back n p l q).0)
    where
      go : (y : Answer A) → x ≡ y → r ≡ refused_reply n p l → x ≡ refused n p l
      go (taken a) q e =
          absurd (let z : 0 ≡ n = sym (given_back a q).number.0 ∙ ap (λ (r : Reply). r.number) e in let h : 1 ≤ n = leb→le 1 n some in omega arith)
      go (refused m o k) q e = q ∙ ap (λ (r : Reply). refused r.number r.paper r.line) (sym (told_back m o k q).0 ∙ e)

  -- with numbers from 1 on, a reply is that of a refusal or of a result by its number
  module _ {most : ℕ} (tells : Tells x (λ n p. (1 ≤ n) × (n ≤ most) × (p ≤ 3))) where
    pub refused_back : (r.number ≡ 0 → ⊥)
        → (x ≡ refused r.number r.paper r.line) × ((r.number ≤ most) × (r.paper ≤ 3)) × (r.count ≡ 0) × (r.tasks ≡ 0) × (now ≡ lent)
    refused_back z = go x refl
      where
        go : (y : Answer A) → x ≡ y
            → (x ≡ refused r.number r.paper r.line) × ((r.number ≤ most) × (r.paper ≤ 3)) × (r.count ≡ 0) × (r.tasks ≡ 0) × (now ≡ lent)
        go (taken a) q = absurd (z (given_back a q).number.0)
        go (refused n p l) q = let (e, s) = told_back n p l q in rw e (q, ((tells.told n p l q).1, (tells.told n p l q).2), refl, refl, s)

    pub taken_back : r.number ≡ 0 → (a : A) × (x ≡ taken a) × Given out tasks lent r now a
    taken_back z = go x refl
      where
        go : (y : Answer A) → x ≡ y → (a : A) × (x ≡ taken a) × Given out tasks lent r now a
        go (taken a) q = (a, q, given_back a q)
        go (refused n p l) q = absurd (let e : r.number ≡ n = ap (λ (r : Reply). r.number) (told_back n p l q).0 in omega (arith, (tells.told n p l q).0))
