-- Which text was read: a small logic that gathers, piece by piece, the text that a reader has passed.
use Rattle.std.specs.Prelude.{ℕ, ◌≡◌, refl, Bool, true, false, not, cond, List, [], ◌∷◌, ◌++◌, length, drop, eqb}
use Rattle.std.proofs.Common.{sym, ◌∙◌, ap, ap₂, append-nil, append_assoc, take-append-drop, eqb-true}
use Rattle.std.proofs.lemmas.Bool.{false≢true}
use Rattle.meaning.specs.Text.{text, same, begins, run, among}
use Rattle.meaning.specs.Refusal.{LINE, NAME}
use Rattle.meaning.specs.Reading.{Got, got, wrong, Reader, after, give, refuse, choose, demand, not_ended, stands, due, longest, line_end, paper_end, closed}
use Rattle.meaning.specs.Name.{Name, name_byte, good_name, name, new_name, due_name}
use Rattle.theory.specs.Reading.Readers.{Yields, got_yields, wrong_yields, any_yields, Ensures}
use Rattle.theory.specs.Papers.Names.{same_equal}

-- the text u, and behind it what the reader passes where it gives a, are w a
pub record Spells {A : Type 0} (u : List ℕ) (r : Reader A) (w : A → List ℕ) : Type 0 where
  pub reads : (l : ℕ) (s : List ℕ) → Yields (r l s) (λ a t. u ++ s ≡ w a ++ t)

module _ {A : Type 0} where
  -- nothing more is passed
  pub give_spells : {u : List ℕ} {a : A} {w : A → List ℕ} → u ≡ w a → Spells u (give a) w
  give_spells e = record { reads = λ l s. got_yields (ap (λ v. v ++ s) e) }

  -- a refusal passes nothing
  pub refuse_spells : {u : List ℕ} {n : ℕ} {w : A → List ℕ} → Spells u (refuse n) w
  refuse_spells = record { reads = λ l s. wrong_yields }

  -- the one reader or the other, and which
  pub choose_spells : {u : List ℕ} {r t : Reader A} {w : A → List ℕ} (b : Bool) → (b ≡ true → Spells u r w) → (b ≡ false → Spells u t w)
      → Spells u (choose b r t) w
  choose_spells true h g = h refl
  choose_spells false h g = g refl

module _ {A B : Type 0} where
  -- one reader after the other, where P is known of the first value
  pub knowing_spells : {P : A → Type 0} {u : List ℕ} {v : A → List ℕ} {w : B → List ℕ} {r : Reader A} {f : A → Reader B}
      → Ensures r P → Spells [] r v → ((a : A) → P a → Spells (u ++ v a) (f a) w) → Spells u (λ l s. after (r l s) f) w
  knowing_spells {P} {u} {v} {w} {r} {f} k h g = record { reads = λ l s. go l s (r l s) (k.gives l s) (h.reads l s) }
    where
      go : (l : ℕ) (s : List ℕ) (x : Got A) → Yields x (λ a t. P a) → Yields x (λ a t. s ≡ v a ++ t) → Yields (after x f) (λ b t. u ++ s ≡ w b ++ t)
      go l s (got a i t) p q =
          let e : s ≡ v a ++ t = q.of a i t refl in
          record { of = λ b k z y. ap (λ x. u ++ x) e ∙ sym (append_assoc u (v a) t) ∙ ((g a (p.of a i t refl)).reads i t).of b k z y }
      go l s (wrong n i) p q = wrong_yields

  -- one reader after the other
  pub bind_spells : {u : List ℕ} {v : A → List ℕ} {w : B → List ℕ} {r : Reader A} {f : A → Reader B}
      → Spells [] r v → ((a : A) → Spells (u ++ v a) (f a) w) → Spells u (λ l s. after (r l s) f) w
  bind_spells h g = knowing_spells {P = λ a. Unit {0}} (record { gives = λ l s. record { of = λ a k t e. tt } }) h λ a x. g a

-- the last reader
pub behind_spells : {A : Type 0} (u : List ℕ) {v : A → List ℕ} {r : Reader A} → Spells [] r v → Spells u r (λ a. u ++ v a)
behind_spells u {v} h = record { reads = λ l s. record { of = λ a k t e. ap (λ x. u ++ x) ((h.reads l s).of a k t e) ∙ sym (append_assoc u (v a) t) } }

-- a demand passes nothing
pub demand_spells : (n : ℕ) (b : Bool) → Spells [] (demand n b) (λ x. [])
demand_spells n b = choose_spells b (λ e. give_spells refl) (λ e. refuse_spells)

-- nor does this test
pub not_ended_spells : Spells [] not_ended (λ x. [])
unfolding not_ended
not_ended_spells = record { reads = λ l s. go l s }
  where
    go : (l : ℕ) (s : List ℕ) → Yields (not_ended l s) (λ x t. s ≡ t)
    go l [] = wrong_yields
    go l (x ∷ s) = got_yields refl

-- fixed texts
begins_text : (w s : List ℕ) → begins w s ≡ true → s ≡ w ++ drop (length w) s
unfolding begins
begins_text [] s e = refl
begins_text (y ∷ w) [] e = absurd (false≢true e)
begins_text (y ∷ w) (x ∷ s) e = go (eqb x y) refl e (begins_text w s)
  where
    go : (b : Bool) → eqb x y ≡ b → ◌≡◌ {A = Bool} (elim b [ true ↦ begins w s | false ↦ false ]) true → (begins w s ≡ true → s ≡ w ++ drop (length w) s)
        → x ∷ s ≡ y ∷ (w ++ drop (length w) s)
    go true q e ih = ap₂ (λ a r. a ∷ r) (eqb-true x y q) (ih e)
    go false q e ih = absurd (false≢true e)

-- the text, if it stands here
pub stands_spells : (w : List ℕ) → Spells [] (stands w) (λ b. cond b w [])
unfolding stands
stands_spells w = record { reads = λ l s. go l s (begins w s) refl }
  where
    go : (l : ℕ) (s : List ℕ) (b : Bool) → begins w s ≡ b → Yields (cond b (got true l (drop (length w) s)) (got false l s)) (λ c t. s ≡ cond c w [] ++ t)
    go l s true e = got_yields (begins_text w s e)
    go l s false e = got_yields refl

-- the text due
pub due_spells : (n : ℕ) (w : List ℕ) → Spells [] (due n w) (λ x. w)
unfolding due
due_spells n w =
    bind_spells not_ended_spells λ x.
    bind_spells (stands_spells w) λ b.
    choose_spells b (λ e. give_spells (rw e)) (λ e. refuse_spells)

-- the LF
pub line_end_spells : (n : ℕ) → Spells [] (line_end n) (λ x. text "\n")
unfolding line_end
line_end_spells n =
    bind_spells (due_spells n (text "\n")) λ x.
    record { reads = λ l s. got_yields refl }

-- nothing stands behind the last line
paper_end_spells : Spells [] paper_end (λ x. [])
unfolding paper_end
paper_end_spells = record { reads = λ l s. go l s }
  where
    go : (l : ℕ) (s : List ℕ) → Yields (paper_end l s) (λ x t. s ≡ t)
    go l [] = got_yields refl
    go l (x ∷ s) = wrong_yields

-- the end of a paper
pub closed_spells : Spells [] closed (λ x. text "\n")
unfolding closed
closed_spells =
    bind_spells (line_end_spells LINE) λ x.
    behind_spells (text "\n") paper_end_spells

-- behind which nothing is left
pub closed_ends : (l : ℕ) (s : List ℕ) → Yields (closed l s) (λ x t. t ≡ [])
unfolding closed paper_end
closed_ends l s = any_yields (line_end LINE l s) λ x k t. go k t
  where
    go : (k : ℕ) (t : List ℕ) → Yields (paper_end k t) (λ x u. u ≡ [])
    go k [] = got_yields refl
    go k (y ∷ t) = wrong_yields

-- names
pub longest_spells : (p : ℕ → Bool) → Spells [] (longest p) (λ w. w)
unfolding longest
longest_spells p = record { reads = λ l s. got_yields (sym (take-append-drop (run p s) s)) }

-- a name
pub name_spells : Spells [] name (λ w. w)
unfolding name
name_spells =
    bind_spells not_ended_spells λ x.
    bind_spells (longest_spells name_byte) λ w.
    bind_spells (demand_spells NAME (good_name w)) λ y.
    give_spells (append-nil w)

-- a new name
pub new_name_spells : (used : List Name) → Spells [] (new_name used) (λ w. w)
unfolding new_name
new_name_spells used =
    bind_spells name_spells λ w.
    bind_spells (demand_spells NAME (not (among w used))) λ y.
    give_spells (append-nil w)

-- the name due
pub due_name_spells : (n : Name) → Spells [] (due_name n) (λ x. n)
unfolding due_name
due_name_spells n =
    bind_spells name_spells λ w.
    choose_spells (same w n) (λ e. give_spells (same_equal w n e)) (λ e. refuse_spells)
