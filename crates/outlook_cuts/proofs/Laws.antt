-- What the functions add, in return form: the premises are what is known at a place, the conclusion is what is asked there.
use Prim.Native.Nat.{ℕ, suc, ◌+◌, ◌-◌, ◌*◌, ◌/◌, ◌%◌, ◌≤◌, ◌<◌}
use mathlib.Core.Path.{◌≡◌, refl, ◌∙◌, ap, ap₂}
use mathlib.Core.Bool.{Bool, true, false, cond, ◌&&◌}
use mathlib.Core.List.{List, [], ◌∷◌, ◌++◌}
use native.Mathlib.Omega.{arith}
use native.Mathlib.Decide.{dec_le}
use lib.Dec.{leb, ltb, eqb}
use lib.ListN.{length, length-append, get_or, take, drop, drop_of_length-le}
use lib.Seq.{length-take-le, get_or-take, drop-cons}
use borrow.Author.Tests.{eq-eqb, ne_eqb, lt-ltb, le-ltb, le-leb, lt-leb}
use Rattle.meaning.specs.Text.{joined}
use Rattle.meaning.specs.Limits.{highest}
use Rattle.meaning.specs.Outlook.{insert, ascending}
use Rattle.theory.specs.Lists.Ascending.{Up, insert_up, ascending_up, insert_grows}
use Rattle.sets.specs.Front.{Front}
use Rattle.sets.proofs.Callers.{front_none, front_same, front_take, front_length, front_more}
use Rattle.outlook_cuts.specs.Codes.{cut_code, word_cuts, cut_codes, added}

-- NUMBERS PUT IN

added_both : (xs ys l : List ℕ) → added (xs ++ ys) l ≡ added xs (added ys l)
unfolding added
added_both [] ys l = refl
added_both (x ∷ xs) ys l = ap (insert x) (added_both xs ys l)

added_up : (xs l : List ℕ) → Up l → Up (added xs l)
unfolding added
added_up [] l u = u
added_up (x ∷ xs) l u = insert_up x (added xs l) (added_up xs l u)

added_grows : (xs l : List ℕ) → (length l ≤ length (added xs l)) × (length (added xs l) ≤ length l + length xs)
unfolding added
added_grows [] l = (omega arith, omega arith)
added_grows (x ∷ xs) l = let (h, g) = added_grows xs l in let (i, j) = insert_grows x (added xs l) in (omega arith, omega arith)

ascending_added : (xs ys : List ℕ) → ascending (xs ++ ys) ≡ added xs (ascending ys)
unfolding added ascending
ascending_added [] ys = refl
ascending_added (x ∷ xs) ys = ap (insert x) (ascending_added xs ys)

-- A CODE

code_few : (code : ℕ) → length (cut_code code) ≤ 1
unfolding cut_code
code_few code = go (dec_le 2 code) (dec_le code (suc highest))
  where
    go : Dec (2 ≤ code) → Dec (code ≤ suc highest) → length (cut_code code) ≤ 1
    go (yes h) (yes g) = rw (le-leb 2 code h, le-leb code (suc highest) g) (omega arith)
    go (yes h) (no g) = rw (le-leb 2 code h, lt-leb code (suc highest) (omega arith)) (omega arith)
    go (no h) d = rw (lt-leb 2 code (omega arith)) (omega arith)

module _ (a : List ℕ) (n code : ℕ) where
  pub code_low : n < length a → code < 2 → Front (added (cut_code code) (take n a)) n a a
  unfolding cut_code added
  code_low h g = rw (lt-leb 2 code g) (front_same a n (omega arith))

  pub code_high : n < length a → 2 ≤ code → suc highest < code → Front (added (cut_code code) (take n a)) n a a
  unfolding cut_code added
  code_high h l g = rw (le-leb 2 code l, lt-leb code (suc highest) g) (front_same a n (omega arith))

  pub code_in : 2 ≤ code → code ≤ suc highest → (r : ℕ) (after : List ℕ) → Front (insert code (take n a)) r a after
      → Front (added (cut_code code) (take n a)) r a after
  unfolding cut_code added
  code_in l g r after f = rw (le-leb 2 code l, le-leb code (suc highest) g) f

pub ruleset coding = (code_low, code_high, code_in)

-- A WORD

-- two at most
pub word_few : (f w : ℕ) → length (word_cuts f w) ≤ 2
unfolding word_cuts
word_few f w = go (leb 4 (w % 8) && eqb (w / 8 % 16) f) (ltb (w % 8) 6)
  where
    go : (b c : Bool) → length (cond b (cond c (cut_code (w / 256)) (cut_code (w / 256) ++ cut_code (suc (w / 256)))) []) ≤ 2
    go true true = omega (arith, code_few (w / 256))
    go true false = omega (arith, length-append (cut_code (w / 256)) (cut_code (suc (w / 256))), code_few (w / 256), code_few (suc (w / 256)))
    go false c = omega arith

module _ (a : List ℕ) (n w f : ℕ) where
  pub word_status : n + 1 < length a → w % 8 < 4 → Front (added (word_cuts f w) (take n a)) n a a
  unfolding word_cuts added
  word_status h g = rw (lt-leb 4 (w % 8) g) (front_same a n (omega arith))

  pub word_other : n + 1 < length a → 4 ≤ w % 8 → (w / 8 % 16 ≡ f → ⊥) → Front (added (word_cuts f w) (take n a)) n a a
  unfolding word_cuts added
  word_other h g ne = rw (le-leb 4 (w % 8) g, ne_eqb (w / 8 % 16) f ne) (front_same a n (omega arith))

  module _ (field : 4 ≤ w % 8) (is : w / 8 % 16 ≡ f) where
    pub word_below : w % 8 < 6 → (r : ℕ) (after : List ℕ) → Front (added (cut_code (w / 256)) (take n a)) r a after
        → Front (added (word_cuts f w) (take n a)) r a after
    unfolding word_cuts
    word_below h r after g = rw (le-leb 4 (w % 8) field, eq-eqb (w / 8 % 16) f is, lt-ltb (w % 8) 6 h) g

    pub word_equal : 6 ≤ w % 8 → (k : ℕ) → k ≡ w / 256 + 1 → (m : ℕ) (mid : List ℕ) → Front (added (cut_code k) (take n a)) m a mid
        → (r : ℕ) (after : List ℕ) → Front (added (cut_code (w / 256)) (take m mid)) r mid after → Front (added (word_cuts f w) (take n a)) r a after
    unfolding word_cuts
    word_equal h k e m mid first r after g =
        let z : k ≡ suc (w / 256) = omega arith in
        let one : Front (added (cut_code (suc (w / 256))) (take n a)) m a mid = rw z at first in
        let two : Front (added (cut_code (w / 256)) (added (cut_code (suc (w / 256))) (take n a))) r mid after = rw (front_take one) at g in
        let grows = (added_grows (cut_code (w / 256)) (added (cut_code (suc (w / 256))) (take n a))).0 in
        rw (le-leb 4 (w % 8) field, eq-eqb (w / 8 % 16) f is, le-ltb (w % 8) 6 h, added_both (cut_code (w / 256)) (cut_code (suc (w / 256))) (take n a))
        (front_more one (omega (arith, one.count, two.count, grows)) two)

  -- room and order for the second code
  pub code_room : n + 1 < length a → (code m : ℕ) (mid : List ℕ) → Front (added (cut_code code) (take n a)) m a mid → m < length mid
  code_room h code m mid g =
      let few : m ≤ n + 1 = omega (arith, g.count, (added_grows (cut_code code) (take n a)).1, code_few code, length-take-le n a (omega arith)) in
      omega (arith, front_length g (omega arith))

  pub code_up : Up (take n a) → (code m : ℕ) (mid : List ℕ) → Front (added (cut_code code) (take n a)) m a mid → Up (take m mid)
  code_up u code m mid g = rw (front_take g) (added_up (cut_code code) (take n a) u)

pub ruleset wording = (word_status, word_other, word_below, word_equal, code_room, code_up)

-- ALL WORDS, from the last on

module _ (f : ℕ) where
  cuts_more : (w : ℕ) (ws : List ℕ) → cut_codes f (w ∷ ws) ≡ added (word_cuts f w) (cut_codes f ws)
  unfolding cut_codes joined
  cuts_more w ws = ascending_added (word_cuts f w) (joined (word_cuts f) ws)

  cuts_up : (ws : List ℕ) → Up (cut_codes f ws)
  unfolding cut_codes
  cuts_up ws = ascending_up (joined (word_cuts f) ws)

pub record Gathering (words : List ℕ) (top f : ℕ) (was out : List ℕ) (n i : ℕ) : Type 0 where
  pub within : i ≤ top
  pub few : n + 2 * i ≤ 2 * top
  pub long : length out ≡ length was
  pub front : Front (cut_codes f (drop i (take top words))) n was out

module _ (words : List ℕ) (top f : ℕ) (was : List ℕ) (all : top ≤ length words) (room : 2 * top < length was) where
  pub gathering_start : Gathering words top f was was 0 top
  unfolding cut_codes joined ascending
  gathering_start = record {
    within = omega arith;
    few = omega arith;
    long = refl;
    front = rw (drop_of_length-le (take top words) {i = top} (omega (arith, length-take-le top words all))) (front_none was);
  }

  module _ (out : List ℕ) (n i : ℕ) (g : Gathering words top f was out n i) where
    pub gathering_room : 0 < i → n + 1 < length out
    gathering_room h = omega (arith, g.few, g.long)

    pub gathering_up : Up (take n out)
    gathering_up = rw (front_take g.front) (cuts_up f (drop i (take top words)))

    pub gathering_more : 0 < i → (j : ℕ) → j ≡ i - 1 → (m : ℕ) (after : List ℕ) → Front (added (word_cuts f (get_or words j 0)) (take n out)) m out after
        → Gathering words top f was after m j
    gathering_more h j e m after step =
        let rest : List ℕ = drop i (take top words) in
        let w : ℕ = get_or words j 0 in
        let next : Front (added (word_cuts f w) (cut_codes f rest)) m out after = rw (front_take g.front) at step in
        let (up, down) = added_grows (word_cuts f w) (cut_codes f rest) in
        let l : length (take top words) ≡ top = length-take-le top words all in
        let z : suc j ≡ i = omega arith in
        let cons : drop j (take top words) ≡ w ∷ rest =
        drop-cons (take top words) j 0 (omega (arith, g.within))
        ∙ ap₂ (λ x k. x ∷ drop k (take top words)) (get_or-take top words j 0 (omega (arith, g.within))) z in
        let most : m ≤ n + 2 = omega (arith, next.count, g.front.count, word_few f w) in
        record {
          within = omega (arith, g.within);
          few = omega (arith, g.few);
          long = front_length next (omega (arith, g.few, g.long)) ∙ g.long;
          front = rw (cons, cuts_more f w rest) (front_more g.front (omega (arith, next.count, g.front.count)) next);
        }

    pub gathering_done : i ≤ 0 → Front (cut_codes f (take top words)) n was out
    gathering_done h = let z : i ≡ 0 = omega arith in rw z at g.front

pub ruleset gathering = (gathering_start, gathering_room, gathering_up, gathering_more, gathering_done)
