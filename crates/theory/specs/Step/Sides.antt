-- Two nodes for each status: the changes that a side shows, and the side that values of the nodes make.
use Rattle.std.specs.Prelude.{ℕ, zero, suc, ◌*◌, ◌/◌, ◌%◌, ◌≤◌, ◌<◌, ◌≡◌, refl, Bool, true, false, not, ◌&&◌, cond, List, [], ◌∷◌, ◌⊎◌, length, set}
use Rattle.std.proofs.Common.{sym, ◌∙◌, ap, ap₂, true≢false, inl, inr, arith, length-set, get_or-set_same, get_or-set_other, ext_get_or, eq-eqb, ne_eqb}
use Rattle.std.proofs.Math.Path.{fun_ext}
use Rattle.std.proofs.lemmas.Bool.{false≢true, not-true}
use Rattle.std.proofs.Math.Decide.{ℕ_discrete, dec_lt}
use Rattle.meaning.specs.Card.{is}
use Rattle.meaning.specs.Tests.{up, down}
use Rattle.meaning.specs.Step.{rose, fell, rising, allowed, changes, set_if}
use Rattle.theory.specs.Graphs.Systems.{put, put_same, put_other}

-- NODES AND STATUSES

-- the sign of `+x`
up_rising : (k x : ℕ) → k ≡ up x → rising k ≡ true
unfolding rising
up_rising k x e = eq-eqb (k % 2) 0 (omega arith)

-- the sign of `-x`
down_falling : (k x : ℕ) → k ≡ down x → rising k ≡ false
unfolding rising
down_falling k x e = ne_eqb (k % 2) 0 (omega arith)

-- a node is one of the two of its status
signed : (k : ℕ) → (k ≡ up (k / 2)) ⊎ (k ≡ down (k / 2))
signed k = go (ℕ_discrete (k % 2) 0)
  where
    go : Dec (k % 2 ≡ 0) → (k ≡ up (k / 2)) ⊎ (k ≡ down (k / 2))
    go (yes e) = inl (omega arith)
    go (no q) = inr (omega arith)

-- the change of the node `+x`
pub changes_up : (before c : List Bool) (x : ℕ) → changes before c (up x) ≡ rose before c x
unfolding changes
changes_up before c x =
    let h : up x / 2 ≡ x = omega arith in
    rw (up_rising (up x) x refl, h)

-- the change of the node `-x`
pub changes_down : (before c : List Bool) (x : ℕ) → changes before c (down x) ≡ fell before c x
unfolding changes
changes_down before c x =
    let h : down x / 2 ≡ x = omega arith in
    rw (down_falling (down x) x refl, h)

-- `+x` is allowed where x was no
pub allowed_up : (before : List Bool) (x : ℕ) → allowed before (up x) ≡ not (is before x)
unfolding allowed
allowed_up before x =
    let h : up x / 2 ≡ x = omega arith in
    rw (up_rising (up x) x refl, h)

-- `-x` is allowed where x was yes
pub allowed_down : (before : List Bool) (x : ℕ) → allowed before (down x) ≡ is before x
unfolding allowed
allowed_down before x =
    let h : down x / 2 ≡ x = omega arith in
    rw (down_falling (down x) x refl, h)

-- sides that show the same changes of a status show the same status
pub same_status : (before c d : List Bool) (x : ℕ) → changes before c (up x) ≡ changes before d (up x) → changes before c (down x) ≡ changes before d (down x)
    → is c x ≡ is d x
same_status before c d x u l =
    go (is before x) (is c x) (is d x) (sym (changes_up before c x) ∙ u ∙ changes_up before d x) (sym (changes_down before c x) ∙ l ∙ changes_down before d x)
  where
    go : (b c d : Bool) → not b && c ≡ not b && d → b && not c ≡ b && not d → c ≡ d
    go true true true p q = refl
    go true true false p q = absurd (false≢true q)
    go true false true p q = absurd (true≢false q)
    go true false false p q = refl
    go false c d p q = p

-- NODE VALUES AND SIDES

-- the side of node values: of the two values of a status, that of the change which the before side allowed counts
unfoldable pub side_of : List Bool → (ℕ → Bool) → List Bool
side_of [] f = []
side_of (b ∷ bs) f = cond b (not (f 1)) (f 0) ∷ side_of bs (λ k. f (suc (suc k)))

-- it is as long as the before side
pub side_length : (before : List Bool) (f : ℕ → Bool) → length (side_of before f) ≡ length before
unfolding side_of
side_length [] f = refl
side_length (b ∷ bs) f = ap suc (side_length bs (λ k. f (suc (suc k))))

-- a status of it: the value of `-x` taken away where x was yes, that of `+x` where it was no
pub side_at : (before : List Bool) (f : ℕ → Bool) (x : ℕ) → x < length before → is (side_of before f) x ≡ cond (is before x) (not (f (down x))) (f (up x))
unfolding side_of
side_at [] f x h = absurd (omega arith)
side_at (b ∷ bs) f zero h = refl
side_at (b ∷ bs) f (suc x) h =
    let d : suc (suc (down x)) ≡ down (suc x) = omega arith in
    let u : suc (suc (up x)) ≡ up (suc x) = omega arith in
    side_at bs (λ k. f (suc (suc k))) x (omega arith) ∙ ap₂ (λ v w. cond (is bs x) (not (f v)) (f w)) d u

-- past its end a status is no
side_past : (before : List Bool) (f : ℕ → Bool) (x : ℕ) → length before ≤ x → is (side_of before f) x ≡ false
unfolding side_of
side_past [] f x h = refl
side_past (b ∷ bs) f zero h = absurd (omega arith)
side_past (b ∷ bs) f (suc x) h = side_past bs (λ k. f (suc (suc k))) x (omega arith)

-- a side is that of node values if it is so at each place
side_by : (before c : List Bool) (f : ℕ → Bool) → length c ≡ length before
    → ((x : ℕ) → x < length before → is c x ≡ cond (is before x) (not (f (down x))) (f (up x))) → c ≡ side_of before f
side_by before c f l h =
    ext_get_or false c (side_of before f) (l ∙ sym (side_length before f))
    (λ x i. let j : x < length before = omega arith in h x j ∙ sym (side_at before f x j))

-- where nothing changes, the side is that before
pub side_none : (before : List Bool) → before ≡ side_of before (λ k. false)
side_none before = side_by before before (λ k. false) refl (λ x h. go (is before x))
  where
    go : (b : Bool) → b ≡ cond b (not false) false
    go true = refl
    go false = refl

-- the side of a side's changes is the side
pub side_changes : (before c : List Bool) → length c ≡ length before → c ≡ side_of before (changes before c)
side_changes before c l = side_by before c (changes before c) l (λ x h. rw (changes_up before c x, changes_down before c x) (go (is before x) (is c x)))
  where
    go : (b c : Bool) → c ≡ cond b (not (b && not c)) (not b && c)
    go true true = refl
    go true false = refl
    go false c = refl

-- the changes of the side of node values are those values that the before side allowed
pub changes_side : (before : List Bool) (f : ℕ → Bool) (k : ℕ) → k < length before * 2 → changes before (side_of before f) k ≡ allowed before k && f k
unfolding changes allowed
changes_side before f k h = go (signed k)
  where
    ups : (b p q : Bool) → not b && cond b p q ≡ not b && q
    ups true p q = refl
    ups false p q = refl

    downs : (b p q : Bool) → b && not (cond b (not p) q) ≡ b && p
    downs true true q = refl
    downs true false q = refl
    downs false p q = refl

    go : (k ≡ up (k / 2)) ⊎ (k ≡ down (k / 2)) → changes before (side_of before f) k ≡ allowed before k && f k
    go (inl e) = rw (side_at before f (k / 2) (omega arith), up_rising k (k / 2) e, ← e) (ups (is before (k / 2)) _ (f k))
    go (inr e) = rw (side_at before f (k / 2) (omega arith), down_falling k (k / 2) e, ← e) (downs (is before (k / 2)) (f k) _)

-- node values that agree at a node make the same change of it
pub changes_same : (before : List Bool) (f g : ℕ → Bool) (k : ℕ) → f k ≡ g k → changes before (side_of before f) k ≡ changes before (side_of before g) k
unfolding changes
changes_same before f g k e = go (dec_lt k (length before * 2))
  where
    go : Dec (k < length before * 2) → changes before (side_of before f) k ≡ changes before (side_of before g) k
    go (yes h) = changes_side before f k h ∙ ap (λ b. allowed before k && b) e ∙ sym (changes_side before g k h)
    go (no h) = rw (side_past before f (k / 2) (omega arith), side_past before g (k / 2) (omega arith))

-- putting false where false stood changes nothing
put_false : (f : ℕ → Bool) (k : ℕ) → f k ≡ false → f ≡ put f k false
put_false f k e = fun_ext (λ j. go j (ℕ_discrete j k))
  where
    go : (j : ℕ) → Dec (j ≡ k) → f j ≡ put f k false j
    go j (yes p) = ap f p ∙ e ∙ sym (put_same f k false j p)
    go j (no q) = sym (put_other f k false j q)

-- setting the status on the side and setting the value of a node that wasn't set are the same
pub set_side : (before : List Bool) (f : ℕ → Bool) (k : ℕ) (b : Bool) → f k ≡ false → (b ≡ true → allowed before k ≡ true)
    → set_if b k (side_of before f) ≡ side_of before (put f k b)
unfolding set_if
set_side before f k false e g = ap (side_of before) (put_false f k e)
set_side before f k true e g =
    side_by before (set (side_of before f) (k / 2) (rising k)) (put f k true) (length-set (side_of before f) (k / 2) (rising k) ∙ side_length before f)
    (λ x h. at x h (ℕ_discrete x (k / 2)))
  where
    there : (x : ℕ) → x ≡ k / 2 → (k ≡ up (k / 2)) ⊎ (k ≡ down (k / 2)) → rising k ≡ cond (is before x) (not (put f k true (down x))) (put f k true (up x))
    there x p (inl q) =
        let r : k ≡ up x = omega arith in
        rw (up_rising k x r, not-true (is before x) (sym (allowed_up before x) ∙ ap (allowed before) (sym r) ∙ g refl), put_same f k true (up x) (sym r))
    there x p (inr q) =
        let r : k ≡ down x = omega arith in
        rw (down_falling k x r, sym (allowed_down before x) ∙ ap (allowed before) (sym r) ∙ g refl, put_same f k true (down x) (sym r))

    at : (x : ℕ) → x < length before → Dec (x ≡ k / 2)
        → is (set (side_of before f) (k / 2) (rising k)) x ≡ cond (is before x) (not (put f k true (down x))) (put f k true (up x))
    at x h (yes p) =
        let l = side_length before f in
        ap (is (set (side_of before f) (k / 2) (rising k))) p ∙ get_or-set_same (side_of before f) (k / 2) (rising k) false (omega arith) ∙ there x p (signed k)
    at x h (no q) =
        get_or-set_other (side_of before f) (k / 2) x (rising k) false q ∙ side_at before f x h
        ∙ ap₂ (λ v w. cond (is before x) (not v) w) (sym (put_other f k true (down x) (λ p. q (omega arith))))
        (sym (put_other f k true (up x) (λ p. q (omega arith))))
