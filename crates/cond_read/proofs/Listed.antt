-- And-lists of items and conditions of and-lists alike: each turn of the reader's loop reads a member and stores the joining word.
use Prim.Native.Nat.{ℕ, zero, suc, ◌+◌, ◌*◌, ◌-◌, ◌^◌, ◌≤◌, ◌<◌}
use mathlib.Core.Path.{◌≡◌, refl, sym, ◌∙◌, ap}
use mathlib.Core.Bool.{Bool, true, false, not}
use mathlib.Core.List.{List, ◌++◌, append_assoc}
use native.Mathlib.Omega.{arith}
use native.Mathlib.Nat.{zero-add}
use borrow.Author.Tests.{not-true, not-false}
use lib.ListN.{length, take, drop, length-append, length-drop}
use lib.Seq.{sets, take-take, drop-drop}
use mir.Syntax.{w64}
use mir.Val.{Fits}
use Rattle.std.specs.Prelude.{Result, Ok, Err}
use Rattle.meaning.specs.Limits.{leaf_limit}
use Rattle.meaning.specs.Text.{text, begins}
use Rattle.meaning.specs.Reading.{got, wrong, Reader, after, ◌>>=◌, give, choose, stands}
use Rattle.meaning.specs.Name.{Name}
use Rattle.meaning.specs.Condition.{Cond, And, leaves_c, leaves_a}
use Rattle.meaning.specs.ReadCondition.{read_and, read_cond, read_item}
use Rattle.theory.specs.Lists.Members.{sets_append, take_sets}
use Rattle.theory.specs.Reading.Told.{Told, Any, took, told_weaker}
use Rattle.theory.specs.Papers.Conditions.{told_and, told_cond}
use Rattle.text.proofs.Callers.{begins_fits, stands_here, stands_not}
use Rattle.reply.specs.declared.Fault.{Fault}
use Rattle.reply.specs.Faults.{fault_of}
use Rattle.cond_value.specs.Flat.{bit, join, words_c, words_a}
use Rattle.cond_value.proofs.Words.{bit_small}
use Rattle.cond_value.proofs.Size.{join_length}
use Rattle.cond_item.specs.declared.Place.{Place}
use Rattle.cond_item.specs.Answers.{Ready, further}
use Rattle.cond_read.specs.Parts.{Kind, items, and_lists, conditions, Gives}
use Rattle.cond_read.proofs.Kept.{Part, Tells, items_tell, ands_tell, Found, given_found, given_refused, gives_found, gives_refused}

-- lists W of members E, joined by w in the text and by c in the words: words joined to what stands before or not, and the reader of at most so many members
pub record Listing (E W : Kind) (w : List ℕ) (c : ℕ) : Type 1 where
  pub words : Bool → W.T → List ℕ
  pub one : E.T → W.T
  pub more : E.T → W.T → W.T
  pub reads : ℕ → ℕ → Reader W.T
  pub one_words : (j : Bool) (e : E.T) → words j (one e) ≡ E.words e ++ join j c
  pub more_words : (j : Bool) (e : E.T) (a : W.T) → words j (more e a) ≡ E.words e ++ (join j c ++ words true a)
  pub one_leaves : (e : E.T) → W.leaves (one e) ≡ E.leaves e
  pub more_leaves : (e : E.T) (a : W.T) → W.leaves (more e a) ≡ E.leaves e ++ W.leaves a
  pub tells : Tells E
  pub told : (l : ℕ) (s : List ℕ) → Told Any (reads (suc leaf_limit) l) s
  pub step : (m l k : ℕ) (s : List ℕ)
      → reads (suc m) l k s ≡ after (E.read l k s)
      (λ e. stands w >>= λ b. choose b (reads m (l + length (E.leaves e)) >>= λ a. give (more e a)) (give (one e)))
  pub whole : (s : List ℕ) (top leaves : ℕ) (r : Result Place Fault) (was is : List ℕ)
      → Gives (record { T = W.T; words = words false; leaves = W.leaves; read = reads (suc leaf_limit) }) s top leaves r was is → Gives W s top leaves r was is

module _ (st fd : List Name) (neg : Bool) (d : ℕ) where
  pub ands : Listing (items st fd neg d) (and_lists st fd neg d) (text " and ") (bit neg)
  unfolding items and_lists words_a leaves_a read_and
  ands = record {
    words = words_a neg;
    one = And.just;
    more = And.and;
    reads = read_and (read_item st fd d);
    one_words = λ j e. refl;
    more_words = λ j e a. refl;
    one_leaves = λ e. refl;
    more_leaves = λ e a. refl;
    tells = items_tell st fd neg d;
    told = λ l s. told_weaker (λ a h. tt) (told_and st fd d l s (suc leaf_limit));
    step = λ m l k s. refl;
    whole = λ s top leaves r was is g. g;
  }

  pub ors : Listing (and_lists st fd neg d) (conditions st fd neg d) (text " or ") (bit (not neg))
  unfolding and_lists conditions words_c leaves_c read_cond
  ors = record {
    words = words_c neg;
    one = Cond.only;
    more = Cond.or;
    reads = read_cond (read_item st fd d);
    one_words = λ j e. refl;
    more_words = λ j e a. refl;
    one_leaves = λ e. refl;
    more_leaves = λ e a. refl;
    tells = ands_tell st fd neg d;
    told = λ l s. told_weaker (λ a h. tt) (told_cond st fd d l s (suc leaf_limit));
    step = λ m l k s. refl;
    whole = λ s top leaves r was is g. g;
  }

further_further : (n m k : ℕ) (r : Result Place Fault) → k ≡ n + m → further k r ≡ further n (further m r)
further_further n m k (Ok p) e = ap (λ (b : ℕ). Ok (record { bytes = b; top = p.top; leaves = p.leaves })) (omega arith)
further_further n m k (Err c) e = refl

further_none : (r : Result Place Fault) → further 0 r ≡ r
further_none (Ok p) = ap (λ (b : ℕ). Ok (record { bytes = b; top = p.top; leaves = p.leaves })) (zero-add p.bytes)
further_none (Err c) = refl

module _ {E W : Kind} {w : List ℕ} {c : ℕ} (K : Listing E W w c) where
  -- the list from a member on, joined to what stands before or not
  abbrev tail : Bool → Kind
  tail j = record { T = W.T; words = K.words j; leaves = W.leaves; read = K.reads (suc leaf_limit) }

  -- the state of the loop: whatever answers the list from here answers the whole
  pub record Going (s : List ℕ) (top leaves : ℕ) (was : List ℕ) (p : Place) (joined : Bool) (now : List ℕ) : Type 0 where
    pub within : p.bytes ≤ length s
    pub few : p.leaves ≤ leaf_limit
    pub fits : p.top ≤ 2 * p.leaves
    pub same : length now ≡ length was
    pub rest : (r : Result Place Fault) (is : List ℕ) → Gives (tail joined) (drop p.bytes s) p.top p.leaves r now is
        → Gives W s top leaves (further p.bytes r) was is

  -- one member of a list
  module _ (m l k : ℕ) (s : List ℕ) where
    fails : (n : ℕ) → E.read l k s ≡ wrong n k → K.reads (suc m) l k s ≡ wrong n k
    fails n e = K.step m l k s ∙ rw e

    stops : (a : E.T) (u : List ℕ) → E.read l k s ≡ got a k u → begins w u ≡ false → K.reads (suc m) l k s ≡ got (K.one a) k u
    stops a u e b = K.step m l k s ∙ rw (e, stands_not w k u false (sym b) refl)

    goes : (a : E.T) (u : List ℕ) → E.read l k s ≡ got a k u → begins w u ≡ true
        → K.reads (suc m) l k s ≡ after (K.reads m (l + length (E.leaves a)) k (drop (length w) u)) (λ x. give (K.more a x))
    goes a u e b = K.step m l k s ∙ rw (e, stands_here w k u true (sym b) refl)

  -- each member has a leaf, so the count of members is never used up
  enough : (m n l : ℕ) → l ≤ leaf_limit → leaf_limit < m + l → leaf_limit < n + l → (k : ℕ) (s : List ℕ) → K.reads m l k s ≡ K.reads n l k s
  enough zero n l g p q k s = absurd (omega arith)
  enough (suc m) zero l g p q k s = absurd (omega arith)
  enough (suc m) (suc n) l g p q k s = go (K.tells l s) (enough m n)
    where
      go : Told (Part E l) (E.read l) s
          → ((l : ℕ) → l ≤ leaf_limit → leaf_limit < m + l → leaf_limit < n + l → (k : ℕ) (s : List ℕ) → K.reads m l k s ≡ K.reads n l k s)
          → K.reads (suc m) l k s ≡ K.reads (suc n) l k s
      go (Told.faulty i e) ih = fails m l k s i (e k) ∙ sym (fails n l k s i (e k))
      go (Told.found a j f h e) ih = on (begins w (drop j s)) refl
        where
          on : (b : Bool) → begins w (drop j s) ≡ b → K.reads (suc m) l k s ≡ K.reads (suc n) l k s
          on true t =
              let same = ih (l + length (E.leaves a)) f.few (omega (arith, f.some)) (omega (arith, f.some)) k (drop (length w) (drop j s)) in
              goes m l k s a (drop j s) (e k) t ∙ ap (λ g. after g (λ x. give (K.more a x))) same ∙ sym (goes n l k s a (drop j s) (e k) t)
          on false t = stops m l k s a (drop j s) (e k) t ∙ sym (stops n l k s a (drop j s) (e k) t)

  -- one member, read at t
  module _ (t : List ℕ) (top leaves : ℕ) (was mid is : List ℕ) (j : Bool) (q : Place) (next : ℕ) (f : Found E t top leaves q was mid)
      (en : next ≡ q.top + length (join j c)) (ei : is ≡ sets mid q.top (join j c)) where
    done : is ≡ sets was top (E.words f.value ++ join j c)
    done = ei ∙ rw (f.words, f.space) (sets_append (E.words f.value) (join j c) was top)

    place : next ≡ top + length (E.words f.value ++ join j c)
    place = rw length-append (omega (arith, f.words))

    member_ends : begins w (drop q.bytes t) ≡ false → Gives (tail j) t top leaves (Ok (record { bytes = q.bytes; top = next; leaves = q.leaves })) was is
    member_ends b =
        gives_found (tail j) t top leaves was is (K.one f.value) q.bytes f.within
        (stops leaf_limit leaves 0 t f.value (drop q.bytes t) (f.reads 0) b) _ refl
        (rw (K.one_words j f.value) place) (rw (K.one_leaves f.value) f.counts) (rw (K.one_words j f.value) done)

    member_on : begins w (drop q.bytes t) ≡ true → (m : ℕ) → m ≡ q.bytes + length w → m ≤ length t → (r : Result Place Fault) (end : List ℕ)
        → Gives (tail true) (drop m t) next q.leaves r is end → Gives (tail j) t top leaves (further m r) was end
    member_on b m em hm r end g = go (K.told q.leaves (drop m t))
      where
        on : (k : ℕ) → K.reads (suc leaf_limit) leaves k t ≡ after (K.reads (suc leaf_limit) q.leaves k (drop m t)) (λ a. give (K.more f.value a))
        on k =
            rw (em, f.counts, ← drop-drop (length w) q.bytes t)
            (goes leaf_limit leaves k t f.value (drop q.bytes t) (f.reads k) b
            ∙ ap (λ g. after g (λ a. give (K.more f.value a)))
            (enough leaf_limit (suc leaf_limit) (leaves + length (E.leaves f.value)) f.holds.few (omega (arith, f.holds.some)) (omega arith) k
            (drop (length w) (drop q.bytes t))))

        below : top ≤ next
        below = omega (arith, place)

        go : Told Any (K.reads (suc leaf_limit) q.leaves) (drop m t) → Gives (tail j) t top leaves (further m r) was end
        go (Told.faulty i e) =
            let er : r ≡ Err (fault_of i) = g.answer ∙ rw (e 0) in
            let eg : take next end ≡ take next is = rw (e 0) at g.space in
            let ek : take top end ≡ take top was = sym (take-take top next end below) ∙ ap (take top) eg ∙ take-take top next is below
            ∙ rw done (take_sets top (E.words f.value ++ join j c) was top (omega arith)) in
            rw er (gives_refused (tail j) t top leaves was end i (fault_of i) refl (on 0 ∙ rw (e 0)) ek)
        go (Told.found a n u h e) =
            let er : r ≡ Ok (record { bytes = n; top = next + length (K.words true a); leaves = q.leaves + length (W.leaves a) }) = g.answer
            ∙ rw (e 0, took (drop m t) n h) in
            let eg : end ≡ sets is next (K.words true a) = rw (e 0) at g.space in
            let ew : K.words j (K.more f.value a) ≡ (E.words f.value ++ join j c) ++ K.words true a = K.more_words j f.value a
            ∙ sym (append_assoc (E.words f.value) (join j c) (K.words true a)) in
            rw er (gives_found (tail j) t top leaves was end (K.more f.value a) (m + n)
            (let z : n ≤ length t - m = rw (← length-drop m t) h in omega arith)
            (on 0 ∙ rw (e 0, drop-drop n m t)) _ refl
            (rw (ew, length-append (E.words f.value ++ join j c)) (omega (arith, place)))
            (rw (K.more_leaves f.value a, length-append) (omega (arith, f.counts)))
            (eg ∙ rw (ew, done, place) (sets_append (E.words f.value ++ join j c) (K.words true a) was top)))

  -- THE TURNS OF THE LOOP
  module _ (st fd : List Name) (s : List ℕ) (top leaves : ℕ) (was : List ℕ) (y : Ready st fd was top leaves) where
    pub list_start : Going s top leaves was (record { bytes = 0; top = top; leaves = leaves }) false was
    list_start = record {
      within = omega arith;
      few = y.few_leaves;
      fits = y.few_words;
      same = refl;
      rest = λ r is g. rw (further_none r) (K.whole s top leaves r was is g);
    }

    module _ (p : Place) (j : Bool) (now : List ℕ) (v : Going s top leaves was p j now) where
      pub list_ready : Ready st fd now p.top p.leaves
      list_ready = record {
        few_statuses = y.few_statuses;
        few_fields = y.few_fields;
        few_leaves = v.few;
        few_words = v.fits;
        room = omega (arith, y.room, v.same);
      }

      module _ (t : List ℕ) (et : t ≡ drop p.bytes s) (r : Result Place Fault) (mid : List ℕ) (g : Gives E t p.top p.leaves r now mid) where
        -- the member is refused
        pub list_refused : (f : Fault) → r ≡ Err f → Gives W s top leaves (Err f) was mid
        list_refused f e =
            let x = given_refused E t p.top p.leaves now mid K.tells r g f e in
            let z = gives_refused (tail j) t p.top p.leaves now mid x.0.number f x.0.is (fails leaf_limit p.leaves 0 t x.0.number (x.0.reads 0)) x.1 in
            v.rest (Err f) mid (rw et at z)

        module _ (q : Place) (e : r ≡ Ok q) where
          member : Found E t p.top p.leaves q now mid
          member = given_found E t p.top p.leaves now mid K.tells r g q e

          inside : p.bytes + q.bytes ≤ length s
          inside = let z : q.bytes ≤ length s - p.bytes = rw (← length-drop p.bytes s, ← et) member.within in omega (arith, v.within)

          few_left : q.leaves ≤ leaf_limit
          few_left = omega (arith, member.counts, member.holds.few)

          words_left : q.top + 1 ≤ 2 * q.leaves
          words_left = omega (arith, member.counts, member.words, member.holds.count, v.fits)

          pub list_fits : length s < 2 ^ 64 → (b : ℕ) → b ≡ p.bytes + q.bytes → Fits w64 b
          list_fits l b z = record { fits = omega (arith, inside) }

          pub list_room_lem : length mid ≡ length now → q.top < length mid
          list_room_lem l = omega (arith, y.room, v.same, few_left, words_left)

          module _ (n : ℕ) (en : n ≡ p.bytes + q.bytes) (next : ℕ) (is : List ℕ) (ei : is ≡ sets mid q.top (join j c))
              (ex : next ≡ q.top + length (join j c)) (b : Bool) (eb : b ≡ begins w (drop n s)) where
            stands_there : begins w (drop q.bytes t) ≡ b
            stands_there = rw (eb, en, et, drop-drop q.bytes p.bytes s)

            pub list_end : not b ≡ true → Gives W s top leaves (Ok (record { bytes = n; top = next; leaves = q.leaves })) was is
            list_end h =
                let z = member_ends t p.top p.leaves now mid is j q next member ex ei (stands_there ∙ not-true b h) in
                rw en (v.rest _ is (rw et at z))

            module _ (h : not b ≡ false) (m : ℕ) (em : m ≡ n + length w) where
              far : m ≤ length s
              far = let z : length w ≤ length s - n = rw (← length-drop n s) (begins_fits w (drop n s) (sym eb ∙ not-false b h)) in omega (arith, inside)

              there : q.bytes + length w ≤ length t
              there = rw (et, length-drop) (omega (arith, far))

              behind : drop (q.bytes + length w) t ≡ drop m s
              behind = let z : p.bytes + (q.bytes + length w) ≡ m = omega arith in rw (et, drop-drop (q.bytes + length w) p.bytes s, z)

              pub list_next : length s < 2 ^ 64 → Fits w64 m
              list_next l = record { fits = omega (arith, far) }

              pub list_on : length mid ≡ length now → length is ≡ length mid
                  → Going s top leaves was (record { bytes = m; top = next; leaves = q.leaves }) true is
              list_on lm li = record {
                within = far;
                few = few_left;
                fits = omega (arith, words_left, join_length j c, bit_small j);
                same = omega (arith, v.same);
                rest = λ r end g.
                    rw (further_further p.bytes (q.bytes + length w) m r (omega arith))
                    (v.rest (further (q.bytes + length w) r) end
                    (rw et at (member_on t p.top p.leaves now mid is j q next member ex ei (stands_there ∙ not-false b h)
                    (q.bytes + length w) refl there r end (rw behind g))));
              }

pub list_less : (w s : List ℕ) (at n : ℕ) (r : Result Place Fault) (q : Place) (b : Bool) → r ≡ Ok q → b ≡ begins w (drop n s) → not b ≡ false
    → n ≡ at + q.bytes → (m : ℕ) → m ≡ n + length w → 1 ≤ length w → length s - m < length s - at
list_less w s at n r q b er eb h en m em long =
    let z : length w ≤ length s - n = rw (← length-drop n s) (begins_fits w (drop n s) (sym eb ∙ not-false b h)) in
    omega arith

-- whether a joining text stands at a place
pub stands_at : (k v s : List ℕ) (at : ℕ) (b : Bool) → v ≡ drop at s → b ≡ begins k v → b ≡ begins k (drop at s)
stands_at k v s at b e h = h ∙ rw e
