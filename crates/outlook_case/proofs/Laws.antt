-- The outlook, return by return: what is known there, and the answer that is asked.
use Prim.Native.Nat.{ℕ, suc, ◌-◌, ◌/◌, ◌≤◌, ◌<◌}
use mathlib.Core.Path.{◌≡◌, refl, sym, ◌∙◌, ap, ap₂, subst}
use mathlib.Core.Bool.{Bool, true, false, cond}
use mathlib.Core.List.{List, ◌++◌, map}
use native.Mathlib.Omega.{arith}
use borrow.Author.Tests.{lt-ltb, le-ltb, ltb-false, le-leb, lt-leb}
use lib.Dec.{ltb}
use lib.ListN.{length, length-map, length-append, length-drop, take, drop}
use lib.Seq.{take_at}
use Rattle.std.specs.Prelude.{Option, Some, None}
use Rattle.meaning.specs.Text.{from}
use Rattle.meaning.specs.Refusal.{ROOM, MANY}
use Rattle.meaning.specs.Step.{pattern}
use Rattle.meaning.specs.Outlook.{insert, ascending}
use Rattle.meaning.specs.Limits.{field_limit, part_limit, status_limit}
use Rattle.theory.specs.Lists.Members.{from_length}
use Rattle.theory.specs.Lists.Ascending.{Up, ascending_up, insert_grows, ascending_few}
use Rattle.limits.specs.Sizes.{node_room}
use Rattle.marks.specs.Codes.{side_of}
use Rattle.step_plan.specs.declared.Plan.{Plan}
use Rattle.step_test.specs.declared.Moment.{Moment}
use Rattle.step_run.specs.Run.{run_over}
use Rattle.sets.specs.Front.{Front}
use Rattle.sets.proofs.Callers.{front_none, front_take, front_length, front_more}
use Rattle.outlook_combos.specs.Numbered.{split, sum, product, size, choice}
use Rattle.outlook_parts.specs.Tried.{tried_from, Filled}
use Rattle.outlook_parts.proofs.Callers.{fill_many, fill_few, fill_lists, fill_product, fill_room}
use Rattle.step_sheet.specs.declared.Accepted.{Accepted}
use Rattle.reply.specs.declared.Reply.{Reply}
use Rattle.reply.specs.Answers.{refused_reply}
use Rattle.outlook_case.specs.Patterns.{Fixed, fixed, pattern_of, pattern_at, patterns_from, fixed_of, tried_of, list_of, as_listed, list_space, reply_for, space_for}

-- ONE CHOICE

pub half_few : (n : ℕ) → n ≤ node_room → n / 2 ≤ status_limit
half_few n h = omega arith

pub pattern_is : (words : List ℕ) (p : Plan) (m : Moment) (marks : List ℕ) → marks ≡ run_over words m p → (r : ℕ)
    → r ≡ pattern (side_of (take (p.nodes / 2) marks))
    → r ≡ pattern_of words p m
unfolding pattern_of
pattern_is words p m marks is r e = e ∙ ap (λ marks. pattern (side_of (take (p.nodes / 2) marks))) is

pub ruleset choosing = (half_few, pattern_is)

-- ALL CHOICES

-- a list of n patterns has at most n
all_few : (f : ℕ → ℕ) (x n : ℕ) → length (ascending (map f (from x n))) ≤ n
all_few f x n = omega (arith, ascending_few (map f (from x n)), length-map (from x n) f, from_length n x)

-- the list of the choices from number x on
pub record Collecting (X : Fixed) (rs : List (List ℕ)) (count : ℕ) (was patterns : List ℕ) (n x : ℕ) : Type 0 where
  pub within : x ≤ count
  pub room : count ≤ length was
  pub long : length patterns ≡ length was
  pub front : Front (patterns_from X rs x (count - x)) n was patterns

module _ (X : Fixed) (rs : List (List ℕ)) (count : ℕ) (was : List ℕ) where
  pub collect_start : count ≤ length was → Collecting X rs count was was 0 count
  unfolding patterns_from from ascending
  collect_start h =
      let z : count - count ≡ 0 = omega arith in
      record { within = omega arith; room = h; long = refl; front = rw z (front_none was) }

  module _ (patterns : List ℕ) (n x : ℕ) (inv : Collecting X rs count was patterns n x) where
    pub collect_done : x ≤ 0 → Front (patterns_from X rs 0 count) n was patterns
    collect_done h =
        let z : x ≡ 0 = omega arith in
        let y : count - 0 ≡ count = omega arith in
        rw y at (rw z at inv.front)

    short : n ≤ count - x
    unfolding patterns_from
    short = omega (arith, inv.front.count, all_few (λ y. pattern_at X (choice rs y)) x (count - x))

    module _ (h : 0 < x) where
      pub collect_below : (y : ℕ) → y ≡ x - 1 → y < count
      collect_below y e = omega (arith, inv.within)

      pub collect_room : n < length patterns
      collect_room = omega (arith, short, inv.long, inv.room, inv.within)

      pub collect_up : Up (take n patterns)
      unfolding patterns_from
      collect_up = rw (front_take inv.front) (ascending_up (map (λ y. pattern_at X (choice rs y)) (from x (count - x))))

      module _ (y : ℕ) (e : y ≡ x - 1) (values : List ℕ) (v : values ≡ choice rs y) (p : ℕ) (q : p ≡ pattern_at X values) where
        pub collect_more : (m : ℕ) (next : List ℕ) → Front (insert p (take n patterns)) m patterns next → Collecting X rs count was next m y
        unfolding patterns_from from ascending
        collect_more m next g =
            let z : count - y ≡ suc (count - x) = omega (arith, inv.within) in
            let s : suc y ≡ x = omega arith in
            let list : insert p (take n patterns) ≡ patterns_from X rs y (count - y) = ap₂ insert (q ∙ ap (pattern_at X) v) (front_take inv.front)
            ∙ sym (rw (z, s)) in
            let grown = insert_grows p (take n patterns) in
            let same = ap length (front_take inv.front) in
            record {
              within = omega (arith, inv.within);
              room = inv.room;
              long = front_length g (omega (arith, grown.1, g.count, same, inv.front.count, collect_room)) ∙ inv.long;
              front = front_more inv.front (omega (arith, grown.0, g.count, inv.front.count, same)) (rw list at g);
            }

pub ruleset collecting = (collect_start, collect_done, collect_below, collect_room, collect_up, collect_more)

-- THE LIST

module _ (a : Accepted) (m : Moment) where
  abbrev lists : List (List ℕ)
  lists = tried_from (take a.top a.words) a.heads.fields 0 m.values

  module _ {r : Option ℕ} {flat_was flat lens_was lens : List ℕ}
      (filled : Filled (tried_from (take a.top a.words) a.heads.fields 0 m.values) r flat_was flat lens_was lens)
      (v16 : length m.values ≡ field_limit) (l16 : length lens_was ≡ field_limit) where
    -- too many
    module _ (none : r ≡ None) where
      exceeds : ltb part_limit (size (tried_of a m)) ≡ true
      unfolding tried_of
      exceeds = lt-ltb part_limit (size lists) (fill_many (take a.top a.words) a.heads.fields
          m.values r flat_was flat lens_was lens v16 l16 filled none)

      pub list_many : None ≡ as_listed a m
      unfolding as_listed
      list_many = sym (rw exceeds)

      pub list_untouched : (was : List ℕ) → was ≡ list_space a m was
      unfolding list_space
      list_untouched was = sym (rw exceeds)

    -- what a choice is taken from
    module _ (count : ℕ) (some : r ≡ Some count) where
      few : (count ≡ size lists) × (size lists ≤ part_limit)
      few = fill_few (take a.top a.words) a.heads.fields m.values r flat_was flat lens_was lens v16 l16 filled count some

      pub list_room_lem : (ps : List ℕ) → length ps ≡ part_limit → count ≤ length ps
      list_room_lem ps l = omega (arith, few.0, few.1)

      pub list_product : count ≡ product lens
      list_product = fill_product (take a.top a.words) a.heads.fields m.values r flat_was flat lens_was lens v16 l16 filled count some

      pub list_sum : sum lens ≤ length flat
      list_sum = fill_room (take a.top a.words) a.heads.fields m.values r flat_was flat lens_was lens v16 l16 filled count some

      within : ltb part_limit (size (tried_of a m)) ≡ false
      unfolding tried_of
      within = le-ltb part_limit (size lists) few.1

      module _ {n : ℕ} {was now : List ℕ} (front : Front (patterns_from (fixed a.plan a.words m) (split lens flat) 0 count) n was now) where
        list_is : Front (list_of a m) n was now
        unfolding list_of tried_of
        list_is =
            let rs = fill_lists (take a.top a.words) a.heads.fields m.values r flat_was flat lens_was lens v16 l16 filled count some in
            subst (λ l. Front l n was now) (rw (rs, few.0)) front

        pub list_all : Some n ≡ as_listed a m
        unfolding as_listed
        list_all = rw (within, list_is.count)

        pub list_space_lem : now ≡ list_space a m was
        unfolding list_space
        list_space_lem = list_is.list ∙ ap (λ k. list_of a m ++ drop k was) list_is.count ∙ sym (rw within)

-- there are as many patterns as parts at most
pub list_few : (a : Accepted) (m : Moment) → ltb part_limit (size (tried_of a m)) ≡ false → length (list_of a m) ≤ part_limit
unfolding list_of patterns_from
list_few a m e =
    let n = size (tried_of a m) in
    omega (arith, ltb-false part_limit n e, all_few (λ x. pattern_at (fixed_of a m) (choice (tried_of a m) x)) 0 n)

-- the array keeps its length
pub list_long : (a : Accepted) (m : Moment) (was ps : List ℕ) → ps ≡ list_space a m was → length was ≡ part_limit → length ps ≡ part_limit
unfolding list_space
list_long a m was ps e l = ap length e ∙ go (ltb part_limit (size (tried_of a m))) refl
  where
    go : (b : Bool) → ltb part_limit (size (tried_of a m)) ≡ b → length (cond b was (list_of a m ++ drop (length (list_of a m)) was)) ≡ part_limit
    go true q = l
    go false q = length-append (list_of a m) (drop (length (list_of a m)) was) ∙ omega (arith, length-drop (length (list_of a m)) was, list_few a m q)

pub ruleset filling = (list_many, list_untouched, list_room_lem, list_product, list_sum, list_all, list_space_lem)

-- THE ANSWER

module _ (a : Accepted) (m : Moment) (l : Option ℕ) (told : l ≡ as_listed a m) where
  pub exceeds_told : l ≡ None → ltb part_limit (size (tried_of a m)) ≡ true
  unfolding as_listed
  exceeds_told z = go (ltb part_limit (size (tried_of a m))) refl
    where
      go : (b : Bool) → ltb part_limit (size (tried_of a m)) ≡ b → ltb part_limit (size (tried_of a m)) ≡ true
      go true e = e
      go false e = let y : None ≡ Some (length (list_of a m)) = sym z ∙ told ∙ rw e in let n : ◌≡◌ {A = ℕ} 0 1 = cc in absurd (omega arith)

  pub within_told : (n : ℕ) → l ≡ Some n → (ltb part_limit (size (tried_of a m)) ≡ false) × (n ≡ length (list_of a m))
  unfolding as_listed
  within_told n z = go (ltb part_limit (size (tried_of a m))) refl
    where
      go : (b : Bool) → ltb part_limit (size (tried_of a m)) ≡ b → (ltb part_limit (size (tried_of a m)) ≡ false) × (n ≡ length (list_of a m))
      go true e = let y : Some n ≡ None = sym z ∙ told ∙ rw e in let n : ◌≡◌ {A = ℕ} 0 1 = cc in absurd (omega arith)
      go false e = let y : Some n ≡ Some (length (list_of a m)) = sym z ∙ told ∙ rw e in let m : n ≡ length (list_of a m) = cc in (e, m)

  module _ (z : l ≡ None) (lent : List ℕ) where
    pub outlook_many : (r : Reply) → r ≡ refused_reply MANY 0 0 → r ≡ reply_for a m (length lent)
    unfolding reply_for
    outlook_many r e = e ∙ sym (rw (exceeds_told z))

    pub outlook_many_space : lent ≡ space_for a m lent
    unfolding space_for
    outlook_many_space = sym (rw (exceeds_told z))

  module _ (n : ℕ) (z : l ≡ Some n) (lent : List ℕ) where
    pub outlook_room : length lent < n → (r : Reply) → r ≡ refused_reply ROOM 0 0 → r ≡ reply_for a m (length lent)
    unfolding reply_for
    outlook_room h r e = e ∙ sym (rw ((within_told n z).0, lt-leb (length (list_of a m)) (length lent) (omega (arith, (within_told n z).1))))

    pub outlook_room_space : length lent < n → lent ≡ space_for a m lent
    unfolding space_for
    outlook_room_space h = sym (rw ((within_told n z).0, lt-leb (length (list_of a m)) (length lent) (omega (arith, (within_told n z).1))))

    module _ (was ps : List ℕ) (space : ps ≡ list_space a m was) where
      pub ps_are : ps ≡ list_of a m ++ drop (length (list_of a m)) was
      unfolding list_space
      ps_are = space ∙ rw (within_told n z).0

      pub outlook_fits : n ≤ length ps
      outlook_fits = omega (arith, (within_told n z).1, ap length ps_are, length-append (list_of a m) (drop (length (list_of a m)) was))

      module _ (h : n ≤ length lent) where
        pub outlook_reply_lem : ◌≡◌ {A = Reply} (record { number = 0; paper = 0; line = 0; count = n; tasks = 0 }) (reply_for a m (length lent))
        unfolding reply_for
        outlook_reply_lem = rw (within_told n z).1 (sym (rw (
          (within_told n z).0,
          le-leb (length (list_of a m)) (length lent)
              (omega (arith, (within_told n z).1)),
        )))

        pub outlook_space_lem : (now : List ℕ) → now ≡ take n ps ++ drop n lent → now ≡ space_for a m lent
        unfolding space_for
        outlook_space_lem now e =
            let list : take n ps ≡ list_of a m = ap (take n) ps_are ∙ take_at (list_of a m) (drop (length (list_of a m)) was) n (sym (within_told n z).1) in
            e ∙ ap₂ (λ l k. l ++ drop k lent) list (within_told n z).1
            ∙ sym (rw ((within_told n z).0, le-leb (length (list_of a m)) (length lent) (omega (arith, (within_told n z).1))))

pub ruleset answering = (list_long, outlook_many, outlook_many_space, outlook_room, outlook_room_space, outlook_fits, outlook_reply_lem, outlook_space_lem)
