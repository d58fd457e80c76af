-- What the functions add, in return form: the premises are what is known at a place, the conclusion is what is asked there.
use Prim.Native.Nat.{ℕ, zero, suc, ◌+◌, ◌-◌, ◌*◌, ◌^◌, ◌≤◌, ◌<◌}
use mathlib.Core.Path.{◌≡◌, refl, sym, ◌∙◌, ap, subst}
use mathlib.Core.Bool.{cond}
use mathlib.Core.List.{List, [], ◌∷◌, ◌++◌, map, map-append, append_assoc, append-nil}
use native.Mathlib.Nat.{one-mul, mul-one, mul_assoc, mul-suc, mul_comm, mul-le-mul, mul-le-mul_left, mul-pos}
use native.Mathlib.Numerals.{add-one, one-add}
use native.Mathlib.Omega.{arith}
use native.Mathlib.Decide.{ℕ_discrete, dec_lt}
use mir.Val.{Fits}
use mir.Syntax.{w64}
use lib.Dec.{ltb}
use lib.ListN.{length, get_or, set, take, drop, length-set, length-append, length-map, length-take, length-drop, drop_of_length-le}
use lib.Seq.{drop-cons, set_at, length-take-le, append_snoc}
use borrow.Author.Tests.{eq-eqb, ne_eqb, lt-ltb, le-ltb}
use borrow.Rule.Slice.PartMut.{mid_of, put_mid, same_len_mid}
use Rattle.meaning.specs.Text.{joined}
use Rattle.meaning.specs.Limits.{field_limit, part_limit}
use Rattle.theory.specs.Lists.Members.{joined_both, joined_one}
use Rattle.limits.specs.Sizes.{word_room}
use Rattle.std.specs.Prelude.{Option, None, Some}
use Rattle.sets.specs.Front.{Front}
use Rattle.sets.proofs.Callers.{front_none, front_take, front_length, front_more, front_tail}
use Rattle.outlook_cuts.specs.Codes.{cut_codes}
use Rattle.outlook_cuts.proofs.Callers.{cut_codes_few}
use Rattle.outlook_combos.specs.Numbered.{product, size, strung}
use Rattle.outlook_parts.specs.Tried.{tried_most, flat_room, Coded, tried_at, tried_from, until, Filled}

-- ONE FIELD

-- a number in the first place
front_one : (out : List ℕ) (v : ℕ) → 0 < length out → Front (v ∷ []) 1 out (set out 0 v)
front_one [] v h = absurd (omega arith)
front_one (x ∷ t) v h = record { count = refl; list = refl }

-- a list behind it
front_two : (out : List ℕ) (v : ℕ) {l ys : List ℕ} {m : ℕ} → 0 < length out → Front l m (take (length (set out 0 v) - 1) (drop 1 (set out 0 v))) ys
    → Front (v ∷ l) (m + 1) out (put_mid 1 (length (set out 0 v) - 1) (set out 0 v) ys)
front_two [] v h f = absurd (omega arith)
front_two (x ∷ t) v {l} {ys} {m} h f =
    let g = front_tail {xs = v ∷ t} (omega arith) f in
    record { count = omega (arith, g.count); list = g.list ∙ rw (one-add, add-one) }

module _ (ws : List ℕ) (fields f v : ℕ) where
  pub tried_behind : fields ≤ f → tried_at ws fields f v ≡ v ∷ []
  unfolding tried_at
  tried_behind h = rw (le-ltb f fields h)

  pub tried_known : f < fields → (v ≡ 0 → ⊥) → tried_at ws fields f v ≡ v ∷ []
  unfolding tried_at
  tried_known h n = rw (lt-ltb f fields h, ne_eqb v 0 n)

  pub tried_missing : f < fields → v ≡ 0 → tried_at ws fields f v ≡ 1 ∷ cut_codes f ws
  unfolding tried_at
  tried_missing h e = rw (lt-ltb f fields h, eq-eqb v 0 e)

  -- at least one, and at most two for each word and one more
  tried_few : (1 ≤ length (tried_at ws fields f v)) × (length (tried_at ws fields f v) ≤ 2 * length ws + 1)
  tried_few = go (dec_lt f fields) (ℕ_discrete v 0)
    where
      go : Dec (f < fields) → Dec (v ≡ 0) → (1 ≤ length (tried_at ws fields f v)) × (length (tried_at ws fields f v) ≤ 2 * length ws + 1)
      go (no h) d = rw (tried_behind (omega arith)) (omega arith, omega arith)
      go (yes h) (no n) = rw (tried_known h n) (omega arith, omega arith)
      go (yes h) (yes e) = rw (tried_missing h e) (omega arith, omega (arith, cut_codes_few f ws))

  module _ (top : ℕ) (out : List ℕ) (room : 2 * top + 1 < length out) where
    pub field_behind : fields ≤ f → Front (tried_at ws fields f v) 1 out (set out 0 v)
    field_behind h = rw (tried_behind h) (front_one out v (omega arith))

    pub field_known : f < fields → (v ≡ 0 → ⊥) → Front (tried_at ws fields f v) 1 out (set out 0 v)
    field_known h n = rw (tried_known h n) (front_one out v (omega arith))

    pub field_missing : f < fields → v ≡ 0 → (n : ℕ) (ys : List ℕ) → Front (cut_codes f ws) n (take (length (set out 0 1) - 1) (drop 1 (set out 0 1))) ys
        → (r : ℕ) → r ≡ n + 1 → Front (tried_at ws fields f v) r out (put_mid 1 (length (set out 0 1) - 1) (set out 0 1) ys)
    field_missing h e n ys g r i = rw (tried_missing h e, i) (front_two out 1 (omega arith) g)

-- the space keeps its length
pub field_long : (out : List ℕ) (v : ℕ) (ys : List ℕ) → length ys ≡ length (mid_of 1 (length (set out 0 v) - 1) (set out 0 v))
    → length (put_mid 1 (length (set out 0 v) - 1) (set out 0 v) ys) ≡ length out
field_long out v ys e = same_len_mid 1 (length (set out 0 v) - 1) (set out 0 v) ys e ∙ length-set out 0 v

-- how many cuts there can be
cuts_most : (words : List ℕ) (top f : ℕ) {n : ℕ} {was is : List ℕ} → top ≤ length words → Front (cut_codes f (take top words)) n was is → n ≤ 2 * top
cuts_most words top f h g = omega (arith, g.count, cut_codes_few f (take top words), length-take-le top words h)

-- the count with the lowest number too
pub cuts_fit : (words : List ℕ) (top f : ℕ) (out : List ℕ) {n : ℕ} {was is : List ℕ} → top ≤ length words → 2 * top + 1 < length out → length out < 2 ^ 64
    → Front (cut_codes f (take top words)) n was is → (r : ℕ) → r ≡ n + 1 → Fits w64 r
cuts_fit words top f out h l o g r e = omega (arith, cuts_most words top f h g)

pub ruleset putting = (field_behind, field_known, field_missing, field_long, cuts_fit)

-- how many values a field can have
field_few : (words : List ℕ) (top fields f v : ℕ) {n : ℕ} {was is : List ℕ} → top ≤ length words → top ≤ word_room
    → Front (tried_at (take top words) fields f v) n was is → (1 ≤ n) × (n ≤ tried_most)
field_few words top fields f v h few g =
    let (a, b) = tried_few (take top words) fields f v in
    (omega (arith, g.count), omega (arith, g.count, length-take-le top words h))

-- PRODUCTS

product_few : (p n : ℕ) → p ≤ part_limit → n ≤ tried_most → p * n ≤ part_limit * tried_most
product_few p n h g = mul-le-mul h g

-- a product of two numbers is at least their sum less one
mul_more : (p n : ℕ) → 1 ≤ p → 1 ≤ n → p + n ≤ p * n + 1
mul_more zero n h g = absurd (omega arith)
mul_more (suc p) zero h g = absurd (omega arith)
mul_more (suc p) (suc n) h g = omega (arith, mul-suc (suc p) n, mul_comm (suc p) n, mul-suc n p)

pub tried_pos : (ws : List ℕ) (fields f : ℕ) (vs : List ℕ) → 1 ≤ size (tried_from ws fields f vs)
unfolding tried_from product
tried_pos ws fields f [] = omega arith
tried_pos ws fields f (v ∷ vs) = mul-pos (tried_few ws fields f v).0 (tried_pos ws fields (suc f) vs)

-- ALL FIELDS

pub until_more : (p : ℕ) (r : List ℕ) (rs : List (List ℕ)) → p * length r ≤ part_limit → until p (r ∷ rs) ≡ r ∷ until (p * length r) rs
unfolding until
until_more p r rs h = rw (le-ltb part_limit (p * length r) h)

until_many : (p : ℕ) (r : List ℕ) (rs : List (List ℕ)) → part_limit < p * length r → until p (r ∷ rs) ≡ r ∷ []
unfolding until
until_many p r rs h = rw (lt-ltb part_limit (p * length r) h)

-- the lists so far stand in the space, and with what is still to be tried they give the whole
pub record Filling (ws : List ℕ) (fields : ℕ) (values flat_was flat lens_was lens : List ℕ) (total p f : ℕ) : Type 0 where
  pub within : f ≤ field_limit
  pub one : 1 ≤ p
  pub most : p ≤ part_limit
  pub small : total ≤ p + f
  pub flat_long : length flat ≡ length flat_was
  pub lens_long : length lens ≡ field_limit
  pub done : List (List ℕ)
  pub so_many : f ≡ length done
  pub lists : until 1 (tried_from ws fields 0 values) ≡ done ++ until p (tried_from ws fields f (drop f values))
  pub left : size (tried_from ws fields 0 values) ≡ p * size (tried_from ws fields f (drop f values))
  pub front : Front (strung done) total flat_was flat
  pub lengths : lens ≡ map length done ++ drop f lens_was

-- the lengths keep their number
pub lens_same : {ws : List ℕ} {fields : ℕ} {values flat_was flat lens_was lens : List ℕ} {total p f : ℕ}
    → Filling ws fields values flat_was flat lens_was lens total p f
    → length lens_was ≡ field_limit → (n : ℕ) → length (set lens f n) ≡ length lens_was
lens_same {lens = lens} {f = f} s e n = length-set lens f n ∙ s.lens_long ∙ sym e

-- the value of a field
pub value_low : {values : List ℕ} → Coded values → (f : ℕ) → f < field_limit → get_or values f 0 < 4294967296
value_low coded = coded.low

-- what was filled, from the lists that stand there
filled : (rs all : List (List ℕ)) (r : Option ℕ) (flat_was flat lens_was lens : List ℕ) (total f : ℕ) → until 1 rs ≡ all
    → r ≡ cond (ltb part_limit (size rs)) None (Some (size rs))
    → Front (strung all) total flat_was flat → f ≡ length all → lens ≡ map length all ++ drop f lens_was → Filled rs r flat_was flat lens_was lens
filled rs all r flat_was flat lens_was lens total f e p g n l = record {
  product = p;
  lists = rw e (g.list ∙ ap (λ k. strung all ++ drop k flat_was) g.count);
  lengths = rw e (l ∙ ap (λ k. map length all ++ drop k lens_was) n);
}

module _ (words : List ℕ) (top fields : ℕ) (values flat_was lens_was : List ℕ) where
  abbrev ws : List ℕ
  ws = take top words

  abbrev rs : List (List ℕ)
  rs = tried_from ws fields 0 values

  pub filling_start : length lens_was ≡ field_limit → Filling ws fields values flat_was flat_was lens_was lens_was 0 1 0
  unfolding joined
  filling_start h = record {
    within = omega arith;
    one = omega arith;
    most = omega arith;
    small = omega arith;
    flat_long = refl;
    lens_long = h;
    done = [];
    so_many = refl;
    lists = refl;
    left = sym (one-mul (size rs));
    front = front_none flat_was;
    lengths = refl;
  }

  pub filling_done : length values ≡ field_limit → (flat lens : List ℕ) (total p f : ℕ) → Filling ws fields values flat_was flat lens_was lens total p f
      → field_limit ≤ f → Filled rs (Some p) flat_was flat lens_was lens
  unfolding tried_from until product
  filling_done v16 flat lens total p f s h =
      let none : drop f values ≡ [] = drop_of_length-le values {i = f} (omega arith) in
      let size_is : size rs ≡ p = s.left ∙ rw none (mul-one p) in
      filled rs s.done (Some p) flat_was flat lens_was lens total f (s.lists ∙ rw none (append-nil s.done)) (rw size_is (rw (le-ltb part_limit p s.most)))
      s.front s.so_many s.lengths

  module _ (all : top ≤ length words) (few : top ≤ word_room) (flat_wide : flat_room ≤ length flat_was) (lens16 : length lens_was ≡ field_limit)
      (v16 : length values ≡ field_limit)
      (flat lens : List ℕ) (total p f : ℕ) (s : Filling ws fields values flat_was flat lens_was lens total p f) (more : f < field_limit) where
    -- the room for the next field
    pub total_in : total ≤ length flat
    total_in = omega (arith, s.small, s.most, s.flat_long)

    pub total_room : total + (2 * top + 1) < length flat
    total_room = omega (arith, s.small, s.most, s.flat_long)

    pub field_room_lem : 2 * top + 1 < length (take (length flat - total) (drop total flat))
    field_room_lem = simp (length-take, length-drop) (omega (arith, total_room))

    -- the lists of the next field and of those behind it
    abbrev r : List ℕ
    r = tried_at ws fields f (get_or values f 0)

    abbrev rest : List (List ℕ)
    rest = tried_from ws fields (suc f) (drop (suc f) values)

    next : tried_from ws fields f (drop f values) ≡ r ∷ rest
    unfolding tried_from
    next = ap (tried_from ws fields f) (drop-cons values f 0 (omega arith))

    module _ (n : ℕ) (ys : List ℕ) (g : Front r n (take (length flat - total) (drop total flat)) ys) where
      abbrev after : List ℕ
      after = put_mid total (length flat - total) flat ys

      few_here : (1 ≤ n) × (n ≤ tried_most)
      few_here = field_few words top fields f (get_or values f 0) all few g

      pub product_fits : (m : ℕ) → m ≡ p * n → Fits w64 m
      product_fits m e = omega (arith, product_few p n s.most few_here.1)

      pub total_fits : (m : ℕ) → m ≡ total + n → Fits w64 m
      total_fits m e = omega (arith, few_here.1, s.small, s.most)

      size_is : size rs ≡ p * n * size rest
      unfolding product
      size_is = s.left ∙ ap (λ l. p * size l) next ∙ sym (mul_assoc p (length r) (size rest)) ∙ ap (λ k. p * k * size rest) (sym g.count)

      next_front : Front (strung (s.done ++ (r ∷ []))) (total + n) flat_was after
      next_front =
          let e : strung (s.done ++ (r ∷ [])) ≡ strung s.done ++ r = joined_both (λ l. l) s.done (r ∷ [])
          ∙ ap (λ l. strung s.done ++ l) (joined_one (λ l. l) r) in
          let t = front_tail {xs = flat} total_in g in
          let t' : Front (strung s.done ++ r) (total + n) flat after = subst (λ z. Front (z ++ r) (total + n) flat after) (front_take s.front) t in
          rw e (front_more s.front (omega arith) t')

      next_long : suc f ≡ length (s.done ++ (r ∷ []))
      next_long = rw length-append (omega (arith, s.so_many))

      next_lengths : set lens f n ≡ map length (s.done ++ (r ∷ [])) ++ drop (suc f) lens_was
      next_lengths =
          let ds : List ℕ = map length s.done in
          let l : length ds ≡ f = length-map s.done length ∙ sym s.so_many in
          ap (λ z. set z f n) (s.lengths ∙ ap (λ z. ds ++ z) (drop-cons lens_was f 0 (omega arith)))
          ∙ set_at ds (get_or lens_was f 0) (drop (suc f) lens_was) n f l
          ∙ sym (append_snoc ds n (drop (suc f) lens_was))
          ∙ ap (λ k. ds ++ (k ∷ []) ++ drop (suc f) lens_was) g.count
          ∙ ap (λ z. z ++ drop (suc f) lens_was) (sym (map-append length s.done (r ∷ [])))

      pub filling_many : part_limit < p * n → Filled rs None flat_was after lens_was (set lens f n)
      filling_many h =
          let k : part_limit < p * length r = rw g.count at h in
          let big : part_limit < size rs =
          omega (arith, size_is, mul-le-mul_left (p * n) (tried_pos ws fields (suc f) (drop (suc f) values)), mul-one (p * n)) in
          filled rs (s.done ++ (r ∷ [])) None flat_was after lens_was (set lens f n) (total + n) (suc f)
          (s.lists ∙ ap (λ z. s.done ++ z) (ap (until p) next ∙ until_many p r rest k))
          (rw (lt-ltb part_limit (size rs) big)) next_front next_long next_lengths

      pub filling_more : p * n ≤ part_limit → (t j : ℕ) → t ≡ total + n → j ≡ f + 1
          → Filling ws fields values flat_was after lens_was (set lens f n) t (p * n) j
      filling_more h t j et ej =
          let k : p * length r ≤ part_limit = rw g.count at h in
          let z : j ≡ suc f = omega arith in
          let w = mul_more p n s.one few_here.0 in
          rw (z, et) (record {
            within = omega arith;
            one = omega (arith, w, s.one, few_here.0);
            most = h;
            small = omega (arith, w, s.small);
            flat_long = front_length next_front (omega (arith, s.small, s.most, few_here.1));
            lens_long = length-set lens f n ∙ s.lens_long;
            done = s.done ++ (r ∷ []);
            so_many = next_long;
            lists = s.lists ∙ ap (λ z. s.done ++ z) (ap (until p) next ∙ until_more p r rest k)
                ∙ ap (λ m. s.done ++ (r ∷ until (p * m) rest)) (sym g.count)
                ∙ sym (append_assoc s.done (r ∷ []) (until (p * n) rest));
            left = size_is;
            front = next_front;
            lengths = next_lengths;
          })

pub ruleset filling = (filling_start, filling_done, total_in, total_room, field_room_lem, product_fits, total_fits, filling_many, filling_more)
