-- How every reader is built: from a few pieces, by one after the other and by choice. What the pieces have and the joining keeps, every reader has.
use Rattle.std.specs.Prelude.{ℕ, ◌+◌, ◌≤◌, Bool, true, false, not, List, [], ◌∷◌, eqb}
use Rattle.std.proofs.Math.Option.{Option, none, some}
use Rattle.std.proofs.Common.{arith}
use Rattle.meaning.specs.Text.{text, same, among, find}
use Rattle.meaning.specs.Refusal.{LINE, NAME, NUMBER, COND, FULL}
use Rattle.meaning.specs.Reading.{Reader, after, give, refuse, choose, demand, each, not_ended, stands, due, Word, one_of, longest, line_end, paper_end, closed}
use Rattle.meaning.specs.Name.{Name, name_byte, digit, good_name, name, new_name, due_name, placed, known}
use Rattle.meaning.specs.Limits.{middle}
use Rattle.meaning.specs.Number.{digits, place, judged, number, entry, end_line}

-- the numbers of a fault in a line
abbrev pub Fault : ℕ → Type 0
Fault n = (2 ≤ n) × (n ≤ 6)

-- the pieces, one after the other, and choice; whether lines may end in it
pub data BuiltOf : Bool → (A : Type 0) → Reader A → Type 1 where
  give_built : {m : Bool} {A : Type 0} {a : A} → BuiltOf m A (give a)
  refuse_built : {m : Bool} {A : Type 0} {n : ℕ} → Fault n → BuiltOf m A (refuse n)
  choose_built : {m : Bool} {A : Type 0} {r t : Reader A} (b : Bool) → BuiltOf m A r → BuiltOf m A t → BuiltOf m A (choose b r t)
  bind_built : {m : Bool} {A B : Type 0} {r : Reader A} {f : A → Reader B} → BuiltOf m A r → ((a : A) → BuiltOf m B (f a))
      → BuiltOf m B (λ l s. after (r l s) f)
  not_ended_built : {m : Bool} → BuiltOf m (Unit {0}) not_ended
  paper_end_built : {m : Bool} → BuiltOf m (Unit {0}) paper_end
  stands_built : {m : Bool} (w : List ℕ) → BuiltOf m Bool (stands w)
  longest_built : {m : Bool} (p : ℕ → Bool) → BuiltOf m (List ℕ) (longest p)
  line_end_built : {n : ℕ} → Fault n → BuiltOf true (Unit {0}) (line_end n)

abbrev pub BuiltIn : {A : Type 0} → Bool → Reader A → Type 1
BuiltIn {A} m r = BuiltOf m A r

abbrev pub Built : {A : Type 0} → Reader A → Type 1
Built {A} r = BuiltOf true A r

-- one that ends no line
abbrev pub Inline : {A : Type 0} → Reader A → Type 1
Inline {A} r = BuiltOf false A r

-- the five numbers
pub line_fault : Fault LINE
line_fault = (omega arith, omega arith)

pub name_fault_lem : Fault NAME
name_fault_lem = (omega arith, omega arith)

number_fault : Fault NUMBER
number_fault = (omega arith, omega arith)

pub cond_fault : Fault COND
cond_fault = (omega arith, omega arith)

pub full_fault : Fault FULL
full_fault = (omega arith, omega arith)

-- PIECES

-- a demand
pub demand_built : {m : Bool} {n : ℕ} (b : Bool) → Fault n → BuiltIn m (demand n b)
demand_built b h = choose_built b give_built (refuse_built h)

-- a text due
pub due_built : {m : Bool} {n : ℕ} (w : List ℕ) → Fault n → BuiltIn m (due n w)
unfolding due
due_built w h =
    bind_built not_ended_built λ _.
    bind_built (stands_built w) λ b.
    demand_built b h

-- one of some texts
pub one_of_built : {m : Bool} {A : Type 0} {n : ℕ} (ws : List (Word A)) → Fault n → BuiltIn m (one_of n ws)
unfolding one_of
one_of_built [] h = refuse_built h
one_of_built (w ∷ ws) h =
    bind_built (stands_built w.spelled) λ b.
    choose_built b give_built (one_of_built ws h)

-- a reader for each member
pub each_built : {m : Bool} {A B : Type 0} {r : B → Reader A} → ((b : B) → BuiltIn m (r b)) → (bs : List B) → BuiltIn m (each r bs)
unfolding each
each_built h [] = give_built
each_built h (b ∷ bs) =
    bind_built (h b) λ a.
    bind_built (each_built h bs) λ xs.
    give_built

-- NAMES AND NUMBERS

-- a name
pub name_built : {m : Bool} → BuiltIn m name
unfolding name
name_built =
    bind_built not_ended_built λ _.
    bind_built (longest_built name_byte) λ w.
    bind_built (demand_built (good_name w) name_fault_lem) λ _.
    give_built

-- a new name
pub new_name_built : {m : Bool} (used : List Name) → BuiltIn m (new_name used)
unfolding new_name
new_name_built used =
    bind_built name_built λ w.
    bind_built (demand_built (not (among w used)) name_fault_lem) λ _.
    give_built

-- the name due
pub due_name_built : {m : Bool} (n : Name) → BuiltIn m (due_name n)
unfolding due_name
due_name_built n =
    bind_built name_built λ w.
    demand_built (same w n) name_fault_lem

-- a known name
pub known_built : {m : Bool} (ns : List Name) → BuiltIn m (known ns)
unfolding known
known_built {m} ns = bind_built name_built λ w. go (find w ns)
  where
    go : (f : Option ℕ) → BuiltIn m (placed f)
    go none = refuse_built name_fault_lem
    go (some i) = give_built

-- a number
pub number_built : {m : Bool} → BuiltIn m number
unfolding number
number_built {m} =
    bind_built not_ended_built λ _.
    bind_built (stands_built (text "-")) λ minus.
    bind_built (longest_built digit) λ ds.
    go minus ds (place minus (digits ds))
  where
    go : (minus : Bool) (ds : List ℕ) (o : Option ℕ) → BuiltIn m (judged minus ds o)
    go minus ds none = refuse_built number_fault
    go minus ds (some v) = give_built

-- an entry
pub entry_built : {m : Bool} → BuiltIn m entry
unfolding entry
entry_built =
    bind_built not_ended_built λ _.
    bind_built (stands_built (text "?")) λ asked.
    choose_built asked give_built (bind_built number_built λ n. give_built)

-- the end of a paper
pub closed_built : Built closed
unfolding closed
closed_built =
    bind_built (line_end_built line_fault) λ _.
    paper_end_built

-- the line `end=`
pub end_line_built : (n : ℕ) → Built (end_line n)
unfolding end_line
end_line_built n =
    bind_built (due_built (text "end=") line_fault) λ _.
    bind_built number_built λ w.
    bind_built (demand_built (eqb w.at (middle + n)) line_fault) λ _.
    closed_built
