-- What callers use: the lists to be tried are those of the meaning, their product is that of the parts, and what `fill` leaves is what `combo` asks for.
use Prim.Native.Nat.{ℕ, zero, suc, ◌+◌, ◌-◌, ◌*◌, ◌≤◌, ◌<◌}
use mathlib.Core.Path.{◌≡◌, refl, sym, ◌∙◌, ap, ap₂}
use mathlib.Core.List.{List, [], ◌∷◌, ◌++◌, map, append-nil}
use mathlib.Core.Logic.{◌⊎◌, inl, inr, ⊎_elim}
use native.Mathlib.Nat.{one-mul, mul-one, mul_assoc, mul-le-mul_left}
use native.Mathlib.Omega.{arith}
use native.Mathlib.Decide.{dec_lt}
use lib.Dec.{ltb}
use lib.ListN.{length, drop, replicate, length-append, length-map, drop_of_length-le}
use borrow.Author.Tests.{lt-ltb, le-ltb}
use Rattle.std.specs.Prelude.{Option, None, Some}
use Rattle.std.proofs.lemmas.Option.{none-some, same_Some}
use Rattle.meaning.specs.Number.{Value, missing, number_at}
use Rattle.meaning.specs.Tests.{Test}
use Rattle.meaning.specs.Step.{Moment}
use Rattle.meaning.specs.Outlook.{cuts, parts, many, tried}
use Rattle.meaning.specs.Limits.{field_limit, part_limit}
use Rattle.outlook_cuts.specs.Codes.{cut_codes}
use Rattle.outlook_combos.specs.Numbered.{split, sum, product, size, strung}
use Rattle.outlook_combos.proofs.Callers.{split_strung, strung_length}
use Rattle.outlook_parts.specs.Tried.{tried_at, tried_from, until, Filled}
use Rattle.outlook_parts.proofs.Laws.{tried_behind, tried_known, tried_missing, tried_pos, until_more}

-- THE MEANING'S LISTS

-- for any coding of values by numbers that has 0 for `?`, and cuts as words tell them
module _ (code : Value → ℕ) (of_missing : code missing ≡ 0) (of_number : (v : ℕ) → code (number_at v) ≡ suc v)
    (ts : List Test) (ws : List ℕ) (cut_codes_lem : (f : ℕ) → f < field_limit → cut_codes f ws ≡ map suc (cuts ts f)) where
  -- behind the fields
  tried_none : (fields k f : ℕ) → fields ≤ f → tried_from ws fields f (replicate k 0) ≡ replicate k (0 ∷ [])
  unfolding tried_from
  tried_none fields zero f h = refl
  tried_none fields (suc k) f h = ap₂ (λ r rs. r ∷ rs) (tried_behind ws fields f 0 h) (tried_none fields k (suc f) (omega arith))

  coded_cuts : (cs : List ℕ) → map code (map number_at cs) ≡ map suc cs
  coded_cuts [] = refl
  coded_cuts (c ∷ cs) = ap₂ (λ x l. x ∷ l) (of_number c) (coded_cuts cs)

  tried_from_lem : (fields f k : ℕ) (vs : List Value) → f + length vs ≡ fields → fields ≤ field_limit
      → tried_from ws fields f (map code vs ++ replicate k 0) ≡ map (map code) (tried ts f vs) ++ replicate k (0 ∷ [])
  unfolding tried_from tried
  tried_from_lem fields f k [] e h = tried_none fields k f (omega arith)
  tried_from_lem fields f k (missing ∷ vs) e h =
      ap₂ (λ r rs. r ∷ rs)
      (tried_missing ws fields f (code missing) (omega arith) of_missing
      ∙ ap₂ (λ x l. x ∷ l) (sym (of_number 0)) (cut_codes_lem f (omega arith) ∙ sym (coded_cuts (cuts ts f))))
      (tried_from_lem fields (suc f) k vs (omega arith) h)
  tried_from_lem fields f k (number_at v ∷ vs) e h =
      ap₂ (λ r rs. r ∷ rs)
      (tried_known ws fields f (code (number_at v)) (omega arith) (λ z. let q = of_number v in omega arith))
      (tried_from_lem fields (suc f) k vs (omega arith) h)

  -- "the product of the parts over the `?` fields"
  parts_product : (f k : ℕ) (vs : List Value) → size (map (map code) (tried ts f vs) ++ replicate k (0 ∷ [])) ≡ parts ts f vs
  unfolding tried parts product
  parts_product f zero [] = refl
  parts_product f (suc k) [] = one-mul (size (replicate k (0 ∷ []))) ∙ parts_product f k []
  parts_product f k (missing ∷ vs) =
      ap₂ (λ a b. suc a * b) (length-map (map number_at (cuts ts f)) code ∙ length-map (cuts ts f) number_at) (parts_product (suc f) k vs)
  parts_product f k (number_at v ∷ vs) = one-mul (size (map (map code) (tried ts (suc f) vs) ++ replicate k (0 ∷ []))) ∙ parts_product (suc f) k vs

  -- of the values of all fields, with 0 behind them up to 16
  module _ (vs : List Value) (few : length vs ≤ field_limit) (values : List ℕ) (is : values ≡ map code vs ++ replicate (field_limit - length vs) 0) where
    pub tried_lists : tried_from ws (length vs) 0 values ≡ map (map code) (tried ts 0 vs) ++ replicate (field_limit - length vs) (0 ∷ [])
    tried_lists = ap (tried_from ws (length vs) 0) is ∙ tried_from_lem (length vs) 0 (field_limit - length vs) vs (omega arith) few

    pub tried_product : size (tried_from ws (length vs) 0 values) ≡ parts ts 0 vs
    tried_product = ap size tried_lists ∙ parts_product 0 (field_limit - length vs) vs

    -- "MANY is given exactly when the product .. exceeds 4,096"
    pub tried_many : (m : Moment) → m.values ≡ vs → many ts m ≡ ltb part_limit (size (tried_from ws (length vs) 0 values))
    unfolding many
    tried_many m e = ap (λ l. ltb part_limit (parts ts 0 l)) e ∙ ap (λ n. ltb part_limit n) (sym tried_product)

-- WHAT `fill` LEAVES

-- as many lists as values
tried_length : (ws : List ℕ) (fields f : ℕ) (vs : List ℕ) → length (tried_from ws fields f vs) ≡ length vs
unfolding tried_from
tried_length ws fields f [] = refl
tried_length ws fields f (v ∷ vs) = ap suc (tried_length ws fields (suc f) vs)

-- where the product does not exceed the limit, no list is left out
until_all : (ws : List ℕ) (fields f p : ℕ) (vs : List ℕ) → p * size (tried_from ws fields f vs) ≤ part_limit
    → until p (tried_from ws fields f vs) ≡ tried_from ws fields f vs
unfolding tried_from product until
until_all ws fields f p [] h = refl
until_all ws fields f p (v ∷ vs) h =
    let r : List ℕ = tried_at ws fields f v in
    let rs : List (List ℕ) = tried_from ws fields (suc f) vs in
    let k : p * length r * size rs ≤ part_limit = rw (mul_assoc p (length r) (size rs)) h in
    let few : p * length r ≤ part_limit = omega (arith, mul-le-mul_left (p * length r) (tried_pos ws fields (suc f) vs), mul-one (p * length r)) in
    until_more p r rs few ∙ ap (λ l. r ∷ l) (until_all ws fields (suc f) (p * length r) vs k)

module _ (ws : List ℕ) (fields : ℕ) (values : List ℕ) (r : Option ℕ) (flat_was flat lens_was lens : List ℕ)
    (v16 : length values ≡ field_limit) (l16 : length lens_was ≡ field_limit) (s : Filled (tried_from ws fields 0 values) r flat_was flat lens_was lens) where
  abbrev lists : List (List ℕ)
  lists = tried_from ws fields 0 values

  many_or_few : Dec (part_limit < size lists) → ((r ≡ None) × (part_limit < size lists)) ⊎ ((r ≡ Some (size lists)) × (size lists ≤ part_limit))
  many_or_few (yes h) = inl (s.product ∙ rw (lt-ltb part_limit (size lists) h), h)
  many_or_few (no h) = inr (s.product ∙ rw (le-ltb part_limit (size lists) (omega arith)), omega arith)

  -- none is answered exactly where the product exceeds 4,096
  pub fill_many : r ≡ None → part_limit < size lists
  fill_many e =
      ⊎_elim (λ w. w.1) (λ w. absurd (none-some (size lists) (sym e ∙ w.0))) (many_or_few (dec_lt part_limit (size lists)))

  pub fill_few : (n : ℕ) → r ≡ Some n → (n ≡ size lists) × (size lists ≤ part_limit)
  fill_few n e =
      ⊎_elim (λ w. absurd (none-some n (sym w.0 ∙ e))) (λ w. (same_Some n (size lists) (sym e ∙ w.0), w.1)) (many_or_few (dec_lt part_limit (size lists)))

  -- what a choice is taken from
  module _ (n : ℕ) (some : r ≡ Some n) where
    all_lists : until 1 lists ≡ lists
    all_lists = until_all ws fields 0 1 values (rw (one-mul (size lists)) (fill_few n some).1)

    lens_is : lens ≡ map length lists
    lens_is = s.lengths
        ∙ rw all_lists (ap (λ l. map length lists ++ l) (drop_of_length-le lens_was {i = length lists} (omega (arith, tried_length ws fields 0 values)))
        ∙ append-nil (map length lists))

    flat_is : flat ≡ strung lists ++ drop (length (strung lists)) flat_was
    flat_is = s.lists ∙ rw all_lists

    pub fill_lists : split lens flat ≡ lists
    fill_lists = rw (lens_is, flat_is) (split_strung lists (drop (length (strung lists)) flat_was))

    pub fill_product : n ≡ product lens
    fill_product = (fill_few n some).0 ∙ ap product (sym lens_is)

    pub fill_room : sum lens ≤ length flat
    fill_room = rw (lens_is, flat_is) (omega (arith, strung_length lists, length-append (strung lists) (drop (length (strung lists)) flat_was)))
