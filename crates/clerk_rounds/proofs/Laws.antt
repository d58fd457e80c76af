-- The counts of a sheet and the lines of a circle, piece by piece, in the form in which the functions' answers need them.
use Prim.Native.Nat.{ℕ, zero, suc, ◌+◌, ◌-◌, ◌*◌, ◌/◌, ◌%◌, ◌<◌, ◌≤◌}
use mathlib.Core.Path.{◌≡◌, refl, sym, ◌∙◌, ap}
use mathlib.Core.Bool.{Bool, true, false, cond}
use mathlib.Core.List.{List, [], ◌∷◌, ◌++◌, append_assoc}
use mathlib.Core.Logic.{inl, inr}
use native.Mathlib.Omega.{arith}
use native.Mathlib.Numerals.{add-one}
use native.Mathlib.Decide.{dec_lt}
use borrow.Author.Tests.{eq-eqb, ne_eqb, lt-ltb, le-ltb}
use lib.Dec.{ltb}
use lib.ListN.{length, take, drop, get_or, replicate, drop_of_length-le}
use lib.Seq.{drop-cons, get_or-take, take_at, length-take-le}
use Rattle.meaning.specs.Limits.{status_limit}
use Rattle.meaning.specs.Text.{text, In, joined}
use Rattle.meaning.specs.Number.{decimal}
use Rattle.meaning.specs.Refusal.{CYCLE}
use Rattle.meaning.specs.Graph.{Into, order_for}
use Rattle.meaning.specs.Circle.{Edge, along, around, circle_for}
use Rattle.meaning.specs.Step.{rising}
use Rattle.meaning.specs.Write.{line}
use Rattle.meaning.specs.Desk.{refusal_text}
use Rattle.meaning.specs.Clerk.{count_line}
use Rattle.limits.specs.Sizes.{node_room}
use Rattle.theory.specs.Lists.Padded.{behind_at}
use Rattle.name.specs.declared.Name.{Name as Kept}
use Rattle.name.specs.Names.{name_of}
use Rattle.sheet_tables.specs.declared.Heads.{Heads}
use Rattle.sheet_tables.specs.Heads.{Sized}
use Rattle.graph_tests.specs.declared.Test.{Test}
use Rattle.std.specs.Prelude as Code
use Rattle.std.specs.Prelude.{Some, None, is_some}
use Rattle.graph_order.specs.Answers.{as_sorting}
use Rattle.graph_order.proofs.Callers.{sort_none, sort_some}
use Rattle.graph_circle.specs.declared.Circle.{Circle}
use Rattle.graph_circle.specs.Answers.{as_circle}
use Rattle.graph_edges.specs.Edges.{tests_into, line_from}
use Rattle.theory.specs.Writing.Lent.{Wrote, Left, left_start, left_end, left_room, left_more, first_room, second_room, both_written}
use Rattle.clerk_reasons.specs.Lines.{kept_of}
use Rattle.clerk_rounds.specs.Lines.{heads_text, counts_text, sign_text, node_part, edge_text, told_on, place_text, round_text, cycle_text, sheet_text, Held}
use Rattle.theory.specs.Graphs.Circles.{around_few, circle_few, circle_below}

-- PIECES, one behind the other

-- three
module _ (at : ℕ) (w x y z o : List ℕ) (whole : w ≡ x ++ y ++ z) (fits : at + length w ≤ length o) where
  two_fit : at + length (x ++ y) ≤ length o
  two_fit = first_room at w (x ++ y) z o whole fits

  three_first : at + length x ≤ length o
  three_first = first_room at (x ++ y) x y o refl two_fit

  module _ (o1 : List ℕ) (a : ℕ) (v1 : Wrote at x o o1 a) where
    three_second : a + length y ≤ length o1
    three_second = second_room at (x ++ y) x y o refl two_fit o1 a v1

    module _ (o2 : List ℕ) (b : ℕ) (v2 : Wrote a y o1 o2 b) where
      two_written : Wrote at (x ++ y) o o2 b
      two_written = both_written at (x ++ y) x y o refl two_fit o1 a v1 o2 b v2

      three_third : b + length z ≤ length o2
      three_third = second_room at w (x ++ y) z o whole fits o2 b two_written

      three_done : (o3 : List ℕ) (r : ℕ) → Wrote b z o2 o3 r → Wrote at w o o3 r
      three_done = both_written at w (x ++ y) z o whole fits o2 b two_written

-- four
module _ (at : ℕ) (w x y z u o : List ℕ) (whole : w ≡ x ++ y ++ z ++ u) (fits : at + length w ≤ length o) where
  three_fit : at + length (x ++ y ++ z) ≤ length o
  three_fit = first_room at w (x ++ y ++ z) u o whole fits

  four_first : at + length x ≤ length o
  four_first = three_first at (x ++ y ++ z) x y z o refl three_fit

  module _ (o1 : List ℕ) (a : ℕ) (v1 : Wrote at x o o1 a) where
    four_second : a + length y ≤ length o1
    four_second = three_second at (x ++ y ++ z) x y z o refl three_fit o1 a v1

    module _ (o2 : List ℕ) (b : ℕ) (v2 : Wrote a y o1 o2 b) where
      four_third : b + length z ≤ length o2
      four_third = three_third at (x ++ y ++ z) x y z o refl three_fit o1 a v1 o2 b v2

      module _ (o3 : List ℕ) (c : ℕ) (v3 : Wrote b z o2 o3 c) where
        three_written : Wrote at (x ++ y ++ z) o o3 c
        three_written = three_done at (x ++ y ++ z) x y z o refl three_fit o1 a v1 o2 b v2 o3 c v3

        four_last : c + length u ≤ length o3
        four_last = second_room at w (x ++ y ++ z) u o whole fits o3 c three_written

        four_done : (o4 : List ℕ) (r : ℕ) → Wrote c u o3 o4 r → Wrote at w o o4 r
        four_done = both_written at w (x ++ y ++ z) u o whole fits o3 c three_written

-- THE COUNTS

-- a line of a key and a count
module _ (at : ℕ) (key : List ℕ) (n : ℕ) (o : List ℕ) (fits : at + length (count_line key n) ≤ length o) where
  count_whole : count_line key n ≡ key ++ (61 ∷ []) ++ (decimal n ++ (10 ∷ []))
  unfolding line
  count_whole = append_assoc (key ++ text "=") (decimal n) (text "\n")

  pub count_key : at + length key ≤ length o
  count_key = three_first at (count_line key n) key (61 ∷ []) (decimal n ++ (10 ∷ [])) o count_whole fits

  module _ (o1 : List ℕ) (a : ℕ) (v1 : Wrote at key o o1 a) where
    pub count_sign : a + 1 ≤ length o1
    count_sign = three_second at (count_line key n) key (61 ∷ []) (decimal n ++ (10 ∷ [])) o count_whole fits o1 a v1

    module _ (o2 : List ℕ) (b : ℕ) (v2 : Wrote a (61 ∷ []) o1 o2 b) where
      pub count_number : b + length (decimal n ++ (10 ∷ [])) ≤ length o2
      count_number = three_third at (count_line key n) key (61 ∷ []) (decimal n ++ (10 ∷ [])) o count_whole fits o1 a v1 o2 b v2

      pub count_done : (o3 : List ℕ) (r : ℕ) → Wrote b (decimal n ++ (10 ∷ [])) o2 o3 r → Wrote at (count_line key n) o o3 r
      count_done = three_done at (count_line key n) key (61 ∷ []) (decimal n ++ (10 ∷ [])) o count_whole fits o1 a v1 o2 b v2

pub ruleset counting = (count_key, count_sign, count_number, count_done)

-- that of the model
module _ (m : Kept) (o : List ℕ) (fits : length (line (text "model") (name_of m)) ≤ length o) where
  model_fits : 0 + length (line (text "model") (name_of m)) ≤ length o
  model_fits = omega arith

  model_whole : line (text "model") (name_of m) ≡ text "model=" ++ name_of m ++ (10 ∷ [])
  unfolding line
  model_whole = refl

  pub model_key : 0 + 6 ≤ length o
  model_key = three_first 0 (line (text "model") (name_of m)) (text "model=") (name_of m) (10 ∷ []) o model_whole model_fits

  module _ (o1 : List ℕ) (a : ℕ) (v1 : Wrote 0 (text "model=") o o1 a) where
    pub model_name : a + length (name_of m) ≤ length o1
    model_name = three_second 0 (line (text "model") (name_of m)) (text "model=") (name_of m) (10 ∷ []) o model_whole model_fits o1 a v1

    module _ (o2 : List ℕ) (b : ℕ) (v2 : Wrote a (name_of m) o1 o2 b) where
      pub model_feed : b + 1 ≤ length o2
      model_feed = three_third 0 (line (text "model") (name_of m)) (text "model=") (name_of m) (10 ∷ []) o model_whole model_fits o1 a v1 o2 b v2

      pub model_done : (o3 : List ℕ) (r : ℕ) → Wrote b (10 ∷ []) o2 o3 r → Wrote 0 (line (text "model") (name_of m)) o o3 r
      model_done = three_done 0 (line (text "model") (name_of m)) (text "model=") (name_of m) (10 ∷ []) o model_whole model_fits o1 a v1 o2 b v2

pub ruleset modelling = (model_key, model_name, model_feed, model_done)

-- four lines from the start of the space on
module _ (w x y z u o : List ℕ) (whole : w ≡ x ++ y ++ z ++ u) (fits : length w ≤ length o) where
  start_fits : 0 + length w ≤ length o
  start_fits = omega arith

  start_first : length x ≤ length o
  start_first = omega (arith, four_first 0 w x y z u o whole start_fits)

-- those of what stands above the rules
module _ (h : Heads) (o : List ℕ) (fits : length (heads_text h) ≤ length o) where
  abbrev model_line : List ℕ
  model_line = line (text "model") (name_of h.model)

  abbrev fields_line : List ℕ
  fields_line = count_line (text "fields") h.fields

  abbrev events_line : List ℕ
  events_line = count_line (text "events") h.events

  abbrev stages_line : List ℕ
  stages_line = count_line (text "stages") h.stages

  heads_whole : heads_text h ≡ model_line ++ fields_line ++ events_line ++ stages_line
  unfolding heads_text
  heads_whole = refl

  heads_fits : 0 + length (heads_text h) ≤ length o
  heads_fits = omega arith

  pub heads_model : length (line (text "model") (name_of h.model)) ≤ length o
  heads_model = start_first (heads_text h) model_line fields_line events_line stages_line o heads_whole fits

  module _ (o1 : List ℕ) (a : ℕ) (v1 : Wrote 0 (line (text "model") (name_of h.model)) o o1 a) where
    pub heads_fields : a + length (count_line (text "fields") h.fields) ≤ length o1
    heads_fields = four_second 0 (heads_text h) model_line fields_line events_line stages_line o heads_whole heads_fits o1 a v1

    module _ (o2 : List ℕ) (b : ℕ) (v2 : Wrote a (count_line (text "fields") h.fields) o1 o2 b) where
      pub heads_events : b + length (count_line (text "events") h.events) ≤ length o2
      heads_events = four_third 0 (heads_text h) model_line fields_line events_line stages_line o heads_whole heads_fits o1 a v1 o2 b v2

      module _ (o3 : List ℕ) (c : ℕ) (v3 : Wrote b (count_line (text "events") h.events) o2 o3 c) where
        pub heads_stages : c + length (count_line (text "stages") h.stages) ≤ length o3
        heads_stages = four_last 0 (heads_text h) model_line fields_line events_line stages_line o heads_whole heads_fits o1 a v1 o2 b v2 o3 c v3

        pub heads_done : (o4 : List ℕ) (r : ℕ) → Wrote c (count_line (text "stages") h.stages) o3 o4 r → Wrote 0 (heads_text h) o o4 r
        heads_done = four_done 0 (heads_text h) model_line fields_line events_line stages_line o heads_whole heads_fits o1 a v1 o2 b v2 o3 c v3

pub ruleset heading = (heads_model, heads_fields, heads_events, heads_stages, heads_done)

-- and all of them
module _ (h : Heads) (n l : ℕ) (o : List ℕ) (fits : length (counts_text h n l) ≤ length o) where
  abbrev miles_line : List ℕ
  miles_line = count_line (text "miles") h.miles

  abbrev rules_line : List ℕ
  rules_line = count_line (text "rules") n

  abbrev leaves_line : List ℕ
  leaves_line = count_line (text "leaves") l

  counts_whole : counts_text h n l ≡ heads_text h ++ miles_line ++ rules_line ++ leaves_line
  unfolding counts_text
  counts_whole = refl

  counts_fits : 0 + length (counts_text h n l) ≤ length o
  counts_fits = omega arith

  pub counts_heads : length (heads_text h) ≤ length o
  counts_heads = start_first (counts_text h n l) (heads_text h) miles_line rules_line leaves_line o counts_whole fits

  module _ (o1 : List ℕ) (a : ℕ) (v1 : Wrote 0 (heads_text h) o o1 a) where
    pub counts_miles : a + length (count_line (text "miles") h.miles) ≤ length o1
    counts_miles = four_second 0 (counts_text h n l) (heads_text h) miles_line rules_line leaves_line o counts_whole counts_fits o1 a v1

    module _ (o2 : List ℕ) (b : ℕ) (v2 : Wrote a (count_line (text "miles") h.miles) o1 o2 b) where
      pub counts_rules : b + length (count_line (text "rules") n) ≤ length o2
      counts_rules = four_third 0 (counts_text h n l) (heads_text h) miles_line rules_line leaves_line o counts_whole counts_fits o1 a v1 o2 b v2

      module _ (o3 : List ℕ) (c : ℕ) (v3 : Wrote b (count_line (text "rules") n) o2 o3 c) where
        pub counts_leaves : c + length (count_line (text "leaves") l) ≤ length o3
        counts_leaves = four_last 0 (counts_text h n l) (heads_text h) miles_line rules_line leaves_line o counts_whole counts_fits o1 a v1 o2 b v2 o3 c v3

        pub counts_done : (o4 : List ℕ) (r : ℕ) → Wrote c (count_line (text "leaves") l) o3 o4 r → Wrote 0 (counts_text h n l) o o4 r
        counts_done = four_done 0 (counts_text h n l) (heads_text h) miles_line rules_line leaves_line o counts_whole counts_fits o1 a v1 o2 b v2 o3 c v3

pub ruleset summing = (counts_heads, counts_miles, counts_rules, counts_leaves, counts_done)

-- AN EDGE

-- the sign of a node
module _ (k : ℕ) where
  sign_plus : k % 2 ≡ 0 → sign_text k ≡ text "+"
  unfolding sign_text rising
  sign_plus e = rw (eq-eqb (k % 2) 0 e)

  sign_minus : (k % 2 ≡ 0 → ⊥) → sign_text k ≡ text "-"
  unfolding sign_text rising
  sign_minus e = rw (ne_eqb (k % 2) 0 e)

  module _ (at : ℕ) (o : List ℕ) where
    pub plus_room : at + length (sign_text k) ≤ length o → k % 2 ≡ 0 → at + 1 ≤ length o
    plus_room fits e = omega (arith, ap length (sign_plus e))

    pub minus_room : at + length (sign_text k) ≤ length o → (k % 2 ≡ 0 → ⊥) → at + 1 ≤ length o
    minus_room fits e = omega (arith, ap length (sign_minus e))

    pub plus_done : k % 2 ≡ 0 → (o1 : List ℕ) (r : ℕ) → Wrote at (text "+") o o1 r → Wrote at (sign_text k) o o1 r
    plus_done e o1 r v = rw (sign_plus e) v

    pub minus_done : (k % 2 ≡ 0 → ⊥) → (o1 : List ℕ) (r : ℕ) → Wrote at (text "-") o o1 r → Wrote at (sign_text k) o o1 r
    minus_done e o1 r v = rw (sign_minus e) v

pub ruleset signing = (plus_room, minus_room, plus_done, minus_done)

pub node_below : (k x : ℕ) → k < node_room → x ≡ k / 2 → x < status_limit
node_below k x h e = omega arith

-- a node, and the space behind it
module _ (h : Heads) (k at : ℕ) (o : List ℕ) (fits : at + length (node_part h k) ≤ length o) where
  node_whole : node_part h k ≡ sign_text k ++ name_of (kept_of h (k / 2)) ++ (32 ∷ [])
  unfolding node_part
  node_whole = refl

  pub node_sign : at + length (sign_text k) ≤ length o
  node_sign = three_first at (node_part h k) (sign_text k) (name_of (kept_of h (k / 2))) (32 ∷ []) o node_whole fits

  module _ (o1 : List ℕ) (a : ℕ) (v1 : Wrote at (sign_text k) o o1 a) (name : Kept) (called : name ≡ kept_of h (k / 2)) where
    whole_by : node_part h k ≡ sign_text k ++ name_of name ++ (32 ∷ [])
    whole_by = node_whole ∙ ap (λ n. sign_text k ++ name_of n ++ (32 ∷ [])) (sym called)

    pub node_name : a + length (name_of name) ≤ length o1
    node_name = three_second at (node_part h k) (sign_text k) (name_of name) (32 ∷ []) o whole_by fits o1 a v1

    module _ (o2 : List ℕ) (b : ℕ) (v2 : Wrote a (name_of name) o1 o2 b) where
      pub node_space : b + 1 ≤ length o2
      node_space = three_third at (node_part h k) (sign_text k) (name_of name) (32 ∷ []) o whole_by fits o1 a v1 o2 b v2

      pub node_done : (o3 : List ℕ) (r : ℕ) → Wrote b (32 ∷ []) o2 o3 r → Wrote at (node_part h k) o o3 r
      node_done = three_done at (node_part h k) (sign_text k) (name_of name) (32 ∷ []) o whole_by fits o1 a v1 o2 b v2

pub ruleset noding = (node_below, node_sign, node_name, node_space, node_done)

-- the line of an edge
module _ (h : Heads) (p k l at : ℕ) (o : List ℕ) (fits : at + length (edge_text h p k l) ≤ length o) where
  abbrev line_number : List ℕ
  line_number = decimal l ++ (10 ∷ [])

  edge_whole : edge_text h p k l ≡ text "circle=" ++ node_part h p ++ node_part h k ++ line_number
  unfolding edge_text
  edge_whole = refl

  pub edge_key : at + 7 ≤ length o
  edge_key = four_first at (edge_text h p k l) (text "circle=") (node_part h p) (node_part h k) line_number o edge_whole fits

  module _ (o1 : List ℕ) (a : ℕ) (v1 : Wrote at (text "circle=") o o1 a) where
    pub edge_from : a + length (node_part h p) ≤ length o1
    edge_from = four_second at (edge_text h p k l) (text "circle=") (node_part h p) (node_part h k) line_number o edge_whole fits o1 a v1

    module _ (o2 : List ℕ) (b : ℕ) (v2 : Wrote a (node_part h p) o1 o2 b) where
      pub edge_to : b + length (node_part h k) ≤ length o2
      edge_to = four_third at (edge_text h p k l) (text "circle=") (node_part h p) (node_part h k) line_number o edge_whole fits o1 a v1 o2 b v2

      module _ (o3 : List ℕ) (c : ℕ) (v3 : Wrote b (node_part h k) o2 o3 c) where
        pub edge_number : c + length (decimal l ++ (10 ∷ [])) ≤ length o3
        edge_number = four_last at (edge_text h p k l) (text "circle=") (node_part h p) (node_part h k) line_number o edge_whole fits o1 a v1 o2 b v2 o3 c v3

        pub edge_done : (o4 : List ℕ) (r : ℕ) → Wrote c (decimal l ++ (10 ∷ [])) o3 o4 r → Wrote at (edge_text h p k l) o o4 r
        edge_done = four_done at (edge_text h p k l) (text "circle=") (node_part h p) (node_part h k) line_number o edge_whole fits o1 a v1 o2 b v2 o3 c v3

pub ruleset edging = (edge_key, edge_from, edge_to, edge_number, edge_done)

-- the line with which it is told
module _ (h : Heads) (words : List ℕ) (rows : List Test) (p k l : ℕ) (found : l ≡ line_from words rows p k) where
  pub told_closing : l ≡ 0 → (r : ℕ) → r ≡ 2 + h.fields + h.events + k / 2 → r ≡ told_on h words rows p k
  unfolding told_on
  told_closing z r e = e ∙ sym (rw (← found, eq-eqb l 0 z))

  pub told_rule : (l ≡ 0 → ⊥) → l ≡ told_on h words rows p k
  unfolding told_on
  told_rule z = sym (rw (← found, ne_eqb l 0 z))

pub ruleset telling = (told_closing, told_rule)

-- AROUND THE CIRCLE

module _ (i n : ℕ) where
  pub behind_next : i + 1 < n → (r : ℕ) → r ≡ i + 1 → r ≡ cond (ltb (i + 1) n) (i + 1) 0
  behind_next h r e = e ∙ sym (rw (lt-ltb (i + 1) n h))

  pub behind_last : n ≤ i + 1 → 0 ≡ cond (ltb (i + 1) n) (i + 1) 0
  behind_last h = sym (rw (le-ltb (i + 1) n h))

pub ruleset following = (behind_next, behind_last)

behind_below : (i n : ℕ) → i < n → cond (ltb (i + 1) n) (i + 1) 0 < n
behind_below i n h = go (dec_lt (i + 1) n)
  where
    go : Dec (i + 1 < n) → cond (ltb (i + 1) n) (i + 1) 0 < n
    go (yes g) = rw (lt-ltb (i + 1) n g) g
    go (no g) = rw (le-ltb (i + 1) n (omega arith)) (omega arith)

-- the node behind the one at place i of k ∷ ks, where f is behind the last
abbrev next_in : ℕ → List ℕ → ℕ → ℕ
next_in f [] i = f
next_in f (j ∷ js) zero = j
next_in f (j ∷ js) (suc i) = next_in f js i

next_in_lem : (f : ℕ) (ks : List ℕ) (i : ℕ) → i < length ks → next_in f ks i ≡ get_or ks i 0
next_in_lem f [] i h = absurd (omega arith)
next_in_lem f (j ∷ js) zero h = refl
next_in_lem f (j ∷ js) (suc i) h = next_in_lem f js i (omega arith)

next_last : (f : ℕ) (ks : List ℕ) (i : ℕ) → length ks ≤ i → next_in f ks i ≡ f
next_last f [] i h = refl
next_last f (j ∷ js) zero h = absurd (omega arith)
next_last f (j ∷ js) (suc i) h = next_last f js i (omega arith)

next_is : (k : ℕ) (ks : List ℕ) (i : ℕ) → next_in k ks i ≡ get_or (k ∷ ks) (cond (ltb (i + 1) (length (k ∷ ks))) (i + 1) 0) 0
next_is k ks i = go (dec_lt i (length ks))
  where
    go : Dec (i < length ks) → next_in k ks i ≡ get_or (k ∷ ks) (cond (ltb (i + 1) (length (k ∷ ks))) (i + 1) 0) 0
    go (yes h) = next_in_lem k ks i h ∙ sym (rw (lt-ltb (i + 1) (suc (length ks)) (omega arith), add-one))
    go (no h) = next_last k ks i (omega arith) ∙ sym (rw (le-ltb (i + 1) (suc (length ks)) (omega arith)))

-- the edge at a place
along_at : (d : Edge) (f k : ℕ) (ks : List ℕ) (i : ℕ) → i ≤ length ks → get_or (along f k ks) i d ≡ record { from = get_or (k ∷ ks) i 0; to = next_in f ks i }
unfolding along
along_at d f k [] zero h = refl
along_at d f k [] (suc i) h = absurd (omega arith)
along_at d f k (j ∷ js) zero h = refl
along_at d f k (j ∷ js) (suc i) h = along_at d f j js i (omega arith)

-- the edges that are left from place i on
around_next : (c : List ℕ) (i : ℕ) → i < length c
    → drop i (around c) ≡ record { from = get_or c i 0; to = get_or c (cond (ltb (i + 1) (length c)) (i + 1) 0) 0 } ∷ drop (suc i) (around c)
unfolding around
around_next [] i h = absurd (omega arith)
around_next (k ∷ ks) i h =
    let d : Edge = record { from = 0; to = 0 } in
    drop-cons (along k k ks) i d (omega (arith, around_few (k ∷ ks)))
    ∙ ap (λ e. e ∷ drop (suc i) (along k k ks)) (along_at d k k ks i (omega arith) ∙ ap (λ n. record { from = get_or (k ∷ ks) i 0; to = n }) (next_is k ks i))

around_over : (c : List ℕ) (i : ℕ) → length c ≤ i → drop i (around c) ≡ []
around_over c i h = drop_of_length-le (around c) {i = i} (omega (arith, around_few c))

-- THE LINES, from place i on

module _ (h : Heads) (words : List ℕ) (rows : List Test) where
  abbrev told : Edge → List ℕ
  told e = edge_text h e.from e.to (told_on h words rows e.from e.to)

  unfoldable pub round_from : List ℕ → ℕ → List ℕ
  round_from c i = joined told (drop i (around c))

  -- the line from a place, in what the code looked up for it
  module _ (c : Circle) (i p : ℕ) (from : p ≡ get_or c.nodes i 0) (n : ℕ) (behind : n ≡ cond (ltb (i + 1) c.len) (i + 1) 0)
      (k : ℕ) (to : k ≡ get_or c.nodes n 0) (on : ℕ) (told_by_lem : on ≡ told_on h words rows p k) (at : ℕ) (o : List ℕ) where
    place_is : place_text h words rows c i ≡ edge_text h p k on
    unfolding place_text
    place_is = rw (← behind, ← from, ← to, ← told_by_lem)

    pub place_room : at + length (place_text h words rows c i) ≤ length o → at + length (edge_text h p k on) ≤ length o
    place_room fits = rw place_is at fits

    pub place_done : (o1 : List ℕ) (r : ℕ) → Wrote at (edge_text h p k on) o o1 r → Wrote at (place_text h words rows c i) o o1 r
    place_done o1 r v = rw place_is v

  module _ (c : Circle) (long : length c.nodes ≡ node_room) (few : c.len ≤ node_room) where
    abbrev ring : List ℕ
    ring = take c.len c.nodes

    ring_long : length (take c.len c.nodes) ≡ c.len
    ring_long = length-take-le c.len c.nodes (omega arith)

    round_next : (i : ℕ) → i < c.len → round_from (take c.len c.nodes) i ≡ place_text h words rows c i ++ round_from (take c.len c.nodes) (i + 1)
    unfolding round_from joined place_text
    round_next i less =
        let n = cond (ltb (i + 1) c.len) (i + 1) 0 in
        let first : get_or ring i 0 ≡ get_or c.nodes i 0 = get_or-take c.len c.nodes i 0 less in
        let second : get_or ring n 0 ≡ get_or c.nodes n 0 = get_or-take c.len c.nodes n 0 (behind_below i c.len less) in
        rw (around_next ring i (omega (arith, ring_long)), ring_long, first, second, add-one)

    abbrev all : List ℕ
    all = round_text h words rows ring

    module _ (at₀ : ℕ) (o₀ : List ℕ) where
      pub round_start : at₀ + length (round_text h words rows (take c.len c.nodes)) ≤ length o₀
          → Left at₀ (round_text h words rows (take c.len c.nodes)) o₀ at₀ (round_from (take c.len c.nodes) 0) o₀
      unfolding round_text round_from
      round_start fits = left_start at₀ all o₀ fits

      module _ (at i : ℕ) (o : List ℕ) (l : Left at₀ (round_text h words rows (take c.len c.nodes)) o₀ at (round_from (take c.len c.nodes) i) o) where
        pub round_end : c.len ≤ i → Wrote at₀ (round_text h words rows (take c.len c.nodes)) o₀ o at
        unfolding round_from joined
        round_end over = left_end at₀ all o₀ at (round_from ring i) o l (rw (around_over ring i (omega (arith, ring_long))))

        module _ (less : i < c.len) where
          pub round_room : at + length (place_text h words rows c i) ≤ length o
          round_room = left_room at₀ all o₀ at (round_from ring i) o l (place_text h words rows c i) (round_from ring (i + 1)) (round_next i less)

          pub round_more : (o1 : List ℕ) (b : ℕ) → Wrote at (place_text h words rows c i) o o1 b → (j : ℕ) → j ≡ i + 1
              → Left at₀ (round_text h words rows (take c.len c.nodes)) o₀ b (round_from (take c.len c.nodes) j) o1
          round_more o1 b v j z =
              rw z (left_more at₀ all o₀ at (round_from ring i) o l (place_text h words rows c i) (round_from ring (i + 1)) (round_next i less) o1 b v)

pub ruleset placing = (place_room, place_done)

pub held_at : (ns : List ℕ) → Held ns → (i k : ℕ) → k ≡ get_or ns i 0 → k < node_room
held_at ns h i k e = rw e (h i)

pub ruleset rounding = (round_start, round_end, round_room, round_more)

-- THE SHEET

-- the refusal, and the circle behind it
module _ (h : Heads) (words : List ℕ) (rows : List Test) (c o : List ℕ) (fits : length (cycle_text h words rows c) ≤ length o) where
  cycle_whole : cycle_text h words rows c ≡ refusal_text CYCLE 1 0 ++ round_text h words rows c
  unfolding cycle_text
  cycle_whole = refl

  cycle_fits : 0 + length (cycle_text h words rows c) ≤ length o
  cycle_fits = omega arith

  pub cycle_refusal : length (refusal_text CYCLE 1 0) ≤ length o
  cycle_refusal = omega (arith, first_room 0 (cycle_text h words rows c) (refusal_text CYCLE 1 0) (round_text h words rows c) o cycle_whole cycle_fits)

  module _ (o1 : List ℕ) (a : ℕ) (v : Wrote 0 (refusal_text CYCLE 1 0) o o1 a) where
    pub cycle_round : a + length (round_text h words rows c) ≤ length o1
    cycle_round = second_room 0 (cycle_text h words rows c) (refusal_text CYCLE 1 0) (round_text h words rows c) o cycle_whole cycle_fits o1 a v

    pub cycle_done : (o2 : List ℕ) (r : ℕ) → Wrote a (round_text h words rows c) o1 o2 r → Wrote 0 (cycle_text h words rows c) o o2 r
    cycle_done = both_written 0 (cycle_text h words rows c) (refusal_text CYCLE 1 0) (round_text h words rows c) o cycle_whole cycle_fits o1 a v

pub ruleset cycling = (cycle_refusal, cycle_round, cycle_done)

-- the nodes of a circle, in its array
module _ (n : ℕ) (few : n ≤ status_limit) (into : Into) (c : Circle) (is : c ≡ as_circle (circle_for (n * 2) into)) where
  abbrev found : List ℕ
  found = circle_for (n * 2) into

  pub circle_long : c.len ≤ node_room
  circle_long = omega (arith, ap (λ (c : Circle). c.len) is, circle_few (n * 2) into)

  pub circle_held : Held c.nodes
  circle_held i = rw is (go found (circle_below (n * 2) into) i)
    where
      go : (ks : List ℕ) → ((k : ℕ) → In k ks → k < n * 2) → (i : ℕ) → get_or (ks ++ replicate (node_room - length found) 0) i 0 < node_room
      go [] h i = omega (arith, behind_at {A = ℕ} 0 (node_room - length found) [] i)
      go (k ∷ ks) h zero = omega (arith, h k (inl refl))
      go (k ∷ ks) h (suc i) = go ks (λ j m. h j (inr m)) i

  circle_back : take c.len c.nodes ≡ circle_for (n * 2) into
  circle_back = rw is (take_at found (replicate (node_room - length found) 0) (length found) refl)

-- by the testing order
module _ (h : Heads) (rules leaves : ℕ) (words : List ℕ) (rows : List Test) (n : ℕ) (sum : n ≡ h.stages + h.miles) (s : Code.Option (List ℕ))
    (sorted : s ≡ as_sorting (order_for (n * 2) (tests_into words rows))) where
  abbrev graph : Into
  graph = tests_into words rows

  ordered : is_some s ≡ true → sheet_text h rules leaves words rows ≡ counts_text h rules leaves
  unfolding sheet_text
  ordered t = go s refl t
    where
      go : (x : Code.Option (List ℕ)) → s ≡ x → is_some x ≡ true → sheet_text h rules leaves words rows ≡ counts_text h rules leaves
      go (Some o) e t = rw (← sum, sort_some (n * 2) graph s sorted o e)
      go None e t = cc

  stuck : is_some s ≡ false → sheet_text h rules leaves words rows ≡ cycle_text h words rows (circle_for (n * 2) (tests_into words rows))
  unfolding sheet_text
  stuck t = go s refl t
    where
      go : (x : Code.Option (List ℕ)) → s ≡ x → is_some x ≡ false
          → sheet_text h rules leaves words rows ≡ cycle_text h words rows (circle_for (n * 2) (tests_into words rows))
      go (Some o) e t = cc
      go None e t = rw (← sum, sort_none (n * 2) graph s sorted e)

  module _ (o : List ℕ) where
    pub sheet_counts : (b : Bool) → b ≡ is_some s → b ≡ true → length (sheet_text h rules leaves words rows) ≤ length o
        → length (counts_text h rules leaves) ≤ length o
    sheet_counts b e t fits = rw (ordered (sym e ∙ t)) at fits

    pub sheet_counted : (b : Bool) → b ≡ is_some s → b ≡ true → (o1 : List ℕ) (r : ℕ) → Wrote 0 (counts_text h rules leaves) o o1 r
        → Wrote 0 (sheet_text h rules leaves words rows) o o1 r
    sheet_counted b e t o1 r v = rw (ordered (sym e ∙ t)) v

    module _ (b : Bool) (e : b ≡ is_some s) (t : b ≡ false) (few : n ≤ status_limit)
        (c : Circle) (is : c ≡ as_circle (circle_for (n * 2) (tests_into words rows))) where
      cycle_is : sheet_text h rules leaves words rows ≡ cycle_text h words rows (take c.len c.nodes)
      cycle_is = stuck (sym e ∙ t) ∙ ap (cycle_text h words rows) (sym (circle_back n few graph c is))

      pub sheet_cycle : length (sheet_text h rules leaves words rows) ≤ length o → length (cycle_text h words rows (take c.len c.nodes)) ≤ length o
      sheet_cycle fits = rw cycle_is at fits

      pub sheet_cycled : (o1 : List ℕ) (r : ℕ) → Wrote 0 (cycle_text h words rows (take c.len c.nodes)) o o1 r
          → Wrote 0 (sheet_text h rules leaves words rows) o o1 r
      sheet_cycled o1 r v = rw cycle_is v

pub statuses_few : (h : Heads) → Sized h → (n : ℕ) → n ≡ h.stages + h.miles → n ≤ status_limit
statuses_few h sized n e = omega (arith, sized.few_statuses)

pub ruleset sheeting = (statuses_few, circle_long, circle_held, sheet_counts, sheet_counted, sheet_cycle, sheet_cycled)
