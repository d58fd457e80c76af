-- What a reader leaves is the end of what it was given.
use Rattle.std.specs.Prelude.{ℕ, suc, ◌+◌, ◌-◌, ◌≤◌, ◌≡◌, refl, Bool, true, false, cond, List, [], ◌∷◌, length, drop}
use Rattle.std.proofs.Common.{sym, ◌∙◌, ap, arith, length-drop, drop_of_length-le, drop-drop}
use Rattle.std.proofs.Math.Decide.{dec_le}
use Rattle.std.proofs.Math.Seq.{drop-length}
use Rattle.meaning.specs.Text.{text, begins, run}
use Rattle.meaning.specs.Reading.{Got, got, wrong, Reader, after, demand, not_ended, stands, due, longest, line_end, paper_end}
use Rattle.theory.specs.Reading.Built.{Built, give_built, refuse_built, choose_built, bind_built, not_ended_built, paper_end_built, stands_built, longest_built, line_end_built}

-- the end of s, by how much was taken away
pub record End (s t : List ℕ) : Type 0 where
  pub took : ℕ
  pub is : t ≡ drop took s

-- what is left, if anything was read
abbrev pub Leaves : {A : Type 0} → List ℕ → Got A → Type 0
Leaves s (got a k t) = End s t
Leaves s (wrong n k) = Unit {0}

end_all : (s : List ℕ) → End s s
end_all s = record { took = 0; is = refl }

end_end : (s t u : List ℕ) → End s t → End t u → End s u
end_end s t u a b = record { took = a.took + b.took; is = b.is ∙ ap (drop b.took) a.is ∙ drop-drop b.took a.took s }

leaves_bind : {A B : Type 0} (s : List ℕ) (x : Got A) (f : A → Reader B) → Leaves s x → ((a : A) (l : ℕ) (t : List ℕ) → Leaves t (f a l t))
    → Leaves s (after x f)
leaves_bind {A} {B} s (got a l t) f h g = go (f a l t) (g a l t)
  where
    go : (y : Got B) → Leaves t y → Leaves s y
    go (got b k u) e = end_end s t u h e
    go (wrong n k) e = tt
leaves_bind {A} {B} s (wrong n l) f h g = tt

line_leaves : (n l : ℕ) (s : List ℕ) → Leaves s (line_end n l s)
unfolding line_end due not_ended stands
line_leaves n l [] = tt
line_leaves n l (x ∷ s) = go (begins (text "\n") (x ∷ s))
  where
    go : (b : Bool) → Leaves (x ∷ s) (after (after (cond b (got true l s) (got false l (x ∷ s))) (λ b. demand n b)) (λ u k t. got u (suc k) t))
    go true = record { took = 1; is = refl }
    go false = tt

-- of every reader that is built from the pieces
pub built_leaves : {A : Type 0} {r : Reader A} → Built r → (l : ℕ) (s : List ℕ) → Leaves s (r l s)
unfolding not_ended paper_end stands longest
built_leaves give_built l s = end_all s
built_leaves (refuse_built h) l s = tt
built_leaves (choose_built true h g) l s = built_leaves h l s
built_leaves (choose_built false h g) l s = built_leaves g l s
built_leaves (bind_built {r = r} {f = f} h g) l s = leaves_bind s (r l s) f (built_leaves h l s) (λ a k t. built_leaves (g a) k t)
built_leaves not_ended_built l [] = tt
built_leaves not_ended_built l (x ∷ s) = end_all (x ∷ s)
built_leaves paper_end_built l [] = end_all []
built_leaves paper_end_built l (x ∷ s) = tt
built_leaves (stands_built w) l s = go (begins w s)
  where
    go : (b : Bool) → Leaves s (cond b (got true l (drop (length w) s)) (got false l s))
    go true = record { took = length w; is = refl }
    go false = end_all s
built_leaves (longest_built p) l s = record { took = run p s; is = refl }
built_leaves (line_end_built {n = n} h) l s = line_leaves n l s

-- an end of s is what lies behind as many bytes as it lacks
pub end_is : (s t : List ℕ) → End s t → drop (length s - length t) s ≡ t
end_is s t e = go (dec_le e.took (length s))
  where
    go : Dec (e.took ≤ length s) → drop (length s - length t) s ≡ t
    go (yes h) =
        let l : length t ≡ length s - e.took = ap length e.is ∙ length-drop e.took s in
        let k : length s - length t ≡ e.took = omega arith in
        rw k (sym e.is)
    go (no h) =
        let none : t ≡ [] = e.is ∙ drop_of_length-le s {i = e.took} (omega arith) in
        let l : length t ≡ 0 = ap length none in
        let k : length s - length t ≡ length s = omega arith in
        rw k (drop-length s ∙ sym none)
