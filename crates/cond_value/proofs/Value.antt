-- The machine on the words of a condition ends on the condition's value.
use Prim.Native.Nat.{ℕ, zero, suc, ◌+◌, ◌*◌, ◌≤◌, ◌<◌}
use mathlib.Core.Path.{◌≡◌, refl, ap, ◌∙◌}
use mathlib.Core.Bool.{Bool, true, false, not}
use mathlib.Core.List.{List, [], ◌++◌, append_assoc, append-nil}
use mathlib.Core.Logic.{inl}
use native.Mathlib.Omega.{arith}
use Rattle.meaning.specs.Limits.{field_limit, status_limit, nest_limit}
use Rattle.meaning.specs.Kleene.{Kleene, true₃, false₃, unknown, and₃, or₃}
use Rattle.meaning.specs.Condition.{Leaf, Cond, And, Item, leaves_c, leaves_a, leaves_i, value_c, value_a, value_i}
use Rattle.theory.specs.Lists.Members.{in_left, in_right}
use Rattle.theory.specs.Papers.Conditions.{LeavesIn}
use Rattle.cond_value.specs.Flat.{bit, join, words_c, words_a, words_i, words}
use Rattle.marks.specs.Codes.{code, status_in, field_in}
use Rattle.cond_value.specs.Machine.{run, verdict_of}
use Rattle.cond_value.specs.Fits.{DeepC, DeepA, DeepI, Fits}
use Rattle.cond_value.proofs.Words.{polar, polar_not, num_small, leaf_step, all_step, any_step}

-- THE STACK'S ROOM

-- k more values fit the stack
abbrev Room : ℕ → ℕ → Type 0
Room zero st = Unit {0}
Room (suc k) st = (st < 4611686018427387904) × Room k (st * 4 + 3)

room_less : (k : ℕ) {a b : ℕ} → a ≤ b → Room k b → Room k a
room_less zero h p = tt
room_less (suc k) h p = (omega arith, room_less k (omega arith) p.1)

-- the values that an item puts there, with nots and groups d deep; an and-list takes one more, and a condition two
abbrev need : ℕ → ℕ
need zero = 1
need (suc d) = suc (suc (need d))

need_room : (d st : ℕ) → Room (need d) st → st < 4611686018427387904
need_room zero st p = p.0
need_room (suc d) st p = p.0

room_down : (k st : ℕ) → Room (suc (suc k)) st → Room k st
room_down k st p = room_less k (omega arith) p.1.1

room_all : Room (suc (suc (need nest_limit))) 0
room_all = omega arith

-- WHAT STANDS BEFORE

-- before an element of a list stands nothing, or the value of the elements before it
data Left : Type 0 where
  none : Left
  some : Kleene → Left

abbrev is : Left → Bool
is Left.none = false
is (Left.some x) = true

abbrev with : (Kleene → Kleene → Kleene) → Left → Kleene → Kleene
with op Left.none v = v
with op (Left.some x) v = op x v

abbrev under : Bool → ℕ → Left → ℕ
under b st Left.none = st
under b st (Left.some x) = st * 4 + code (polar b x)

-- the words join from the left, the grammar from the right
and_assoc : (a b c : Kleene) → and₃ (and₃ a b) c ≡ and₃ a (and₃ b c)
and_assoc false₃ b c = refl
and_assoc unknown false₃ c = refl
and_assoc unknown unknown false₃ = refl
and_assoc unknown unknown unknown = refl
and_assoc unknown unknown true₃ = refl
and_assoc unknown true₃ c = refl
and_assoc true₃ b c = refl

or_assoc : (a b c : Kleene) → or₃ (or₃ a b) c ≡ or₃ a (or₃ b c)
or_assoc false₃ b c = refl
or_assoc unknown false₃ c = refl
or_assoc unknown unknown false₃ = refl
or_assoc unknown unknown unknown = refl
or_assoc unknown unknown true₃ = refl
or_assoc unknown true₃ c = refl
or_assoc true₃ b c = refl

with_and : (l : Left) (v w : Kleene) → with and₃ (Left.some (with and₃ l v)) w ≡ with and₃ l (and₃ v w)
with_and Left.none v w = refl
with_and (Left.some x) v w = and_assoc x v w

with_or : (l : Left) (v w : Kleene) → with or₃ (Left.some (with or₃ l v)) w ≡ with or₃ l (or₃ v w)
with_or Left.none v w = refl
with_or (Left.some x) v w = or_assoc x v w

room_under : (b : Bool) (k st : ℕ) (l : Left) → Room (suc k) st → Room k (under b st l)
room_under b k st Left.none p = room_less k (omega arith) p.1
room_under b k st (Left.some x) p = let h : code (polar b x) ≤ 2 = num_small (polar b x) in room_less k (omega arith) p.1

-- leaves of the first part and of the second
placed_left : (xs ys : List Leaf) → LeavesIn status_limit field_limit (xs ++ ys) → LeavesIn status_limit field_limit xs
placed_left xs ys h x i = h x (in_left x xs ys i)

placed_right : (xs ys : List Leaf) → LeavesIn status_limit field_limit (xs ++ ys) → LeavesIn status_limit field_limit ys
placed_right xs ys h x i = h x (in_right x xs ys i)

module _ (values marks : List ℕ) where
  -- a join's word, where there is one, puts what stands before and the value together
  joins_and : (b : Bool) (st : ℕ) (l : Left) (v : Kleene) (ws : List ℕ)
      → run values marks (join (is l) (bit b) ++ ws) (under b st l * 4 + code (polar b v)) ≡ run values marks ws (st * 4 + code (polar b (with and₃ l v)))
  unfolding run
  joins_and b st Left.none v ws = refl
  joins_and b st (Left.some x) v ws = ap (run values marks ws) (all_step values marks b st x v)

  joins_or : (b : Bool) (st : ℕ) (l : Left) (v : Kleene) (ws : List ℕ)
      → run values marks (join (is l) (bit (not b)) ++ ws) (under b st l * 4 + code (polar b v)) ≡ run values marks ws (st * 4 + code (polar b (with or₃ l v)))
  unfolding run
  joins_or b st Left.none v ws = refl
  joins_or b st (Left.some x) v ws = ap (run values marks ws) (any_step values marks b st x v)

  mutual
    unfolding words_c value_c leaves_c run

    -- the words of a condition, of an and-list and of an item put its value on the stack, joined to what stands before
    runs_c : (b : Bool) {d : ℕ} {c : Cond} → DeepC d c → LeavesIn status_limit field_limit (leaves_c c) → (ws : List ℕ) (st : ℕ) (l : Left)
        → Room (suc (suc (need d))) st
        → run values marks (words_c b (is l) c ++ ws) (under b st l) ≡ run values marks ws
        (st * 4 + code (polar b (with or₃ l (value_c (status_in marks) (field_in values) c))))
    runs_c b (DeepC.only {d = d} h) q ws st l p =
        simp append_assoc
        (runs_a b h q (join (is l) (bit (not b)) ++ ws) (under b st l) Left.none (room_under b (suc (need d)) st l p)
        ∙ joins_or b st l _ ws)
    runs_c b (DeepC.or {d = d} {a = a} {c = c} h k) q ws st l p =
        simp append_assoc
        (runs_a b h (placed_left (leaves_a a) (leaves_c c) q) (join (is l) (bit (not b)) ++ (words_c b true c ++ ws)) (under b st l) Left.none
        (room_under b (suc (need d)) st l p)
        ∙ joins_or b st l _ (words_c b true c ++ ws)
        ∙ runs_c b k (placed_right (leaves_a a) (leaves_c c) q) ws st (Left.some (with or₃ l _)) p
        ∙ ap (λ (v : Kleene). run values marks ws (st * 4 + code (polar b v))) (with_or l _ _))

    runs_a : (b : Bool) {d : ℕ} {a : And} → DeepA d a → LeavesIn status_limit field_limit (leaves_a a) → (ws : List ℕ) (st : ℕ) (l : Left)
        → Room (suc (need d)) st
        → run values marks (words_a b (is l) a ++ ws) (under b st l) ≡ run values marks ws
        (st * 4 + code (polar b (with and₃ l (value_a (status_in marks) (field_in values) a))))
    runs_a b (DeepA.just {d = d} h) q ws st l p =
        simp append_assoc
        (runs_i b h q (join (is l) (bit b) ++ ws) (under b st l) (room_under b (need d) st l p)
        ∙ joins_and b st l _ ws)
    runs_a b (DeepA.and {d = d} {i = i} {a = a} h k) q ws st l p =
        simp append_assoc
        (runs_i b h (placed_left (leaves_i i) (leaves_a a) q) (join (is l) (bit b) ++ (words_a b true a ++ ws)) (under b st l) (room_under b (need d) st l p)
        ∙ joins_and b st l _ (words_a b true a ++ ws)
        ∙ runs_a b k (placed_right (leaves_i i) (leaves_a a) q) ws st (Left.some (with and₃ l _)) p
        ∙ ap (λ (v : Kleene). run values marks ws (st * 4 + code (polar b v))) (with_and l _ _))

    runs_i : (b : Bool) {d : ℕ} {i : Item} → DeepI d i → LeavesIn status_limit field_limit (leaves_i i) → (ws : List ℕ) (st : ℕ) → Room (need d) st
        → run values marks (words_i b i ++ ws) st ≡ run values marks ws (st * 4 + code (polar b (value_i (status_in marks) (field_in values) i)))
    runs_i b (DeepI.leaf {d = d} {x = x}) q ws st p = ap (run values marks ws) (leaf_step values marks b x st (q x (inl refl)) (need_room d st p))
    runs_i b (DeepI.neg {d = d} {i = i} h) q ws st p =
        runs_i (not b) h q ws st (room_down (need d) st p)
        ∙ ap (λ (v : Kleene). run values marks ws (st * 4 + code v)) (polar_not b (value_i (status_in marks) (field_in values) i))
    runs_i b (DeepI.group h) q ws st p = runs_c b h q ws st Left.none p

  -- of every condition that fits, the words end on its value
  pub verdict_value : (c : Cond) → LeavesIn status_limit field_limit (leaves_c c) → DeepC nest_limit c
      → verdict_of values marks (words c) ≡ code (value_c (status_in marks) (field_in values) c)
  unfolding run verdict_of words
  verdict_value c q h =
      let v = value_c (status_in marks) (field_in values) c in
      let small : code v ≤ 2 = num_small v in
      let z : run values marks (words_c false false c) 0 ≡ 0 * 4 + code v = rw append-nil at (runs_c false h q [] 0 Left.none room_all) in
      omega arith

  pub verdict_fits : (c : Cond) → Fits c → verdict_of values marks (words c) ≡ code (value_c (status_in marks) (field_in values) c)
  verdict_fits c f = verdict_value c f.placed f.deep
