-- What the code answers for a part of a condition, and what the lent words then are.
use Rattle.std.specs.Prelude.{ℕ, ◌+◌, ◌-◌, ◌*◌, ◌≤◌, ◌≡◌, Bool, List, [], ◌∷◌, ◌++◌, length, take, drop, set, replicate, Result, Ok, Err}
use Rattle.std.proofs.lemmas.List.Edits.{sets}
use Rattle.meaning.specs.Text.{text}
use Rattle.meaning.specs.Refusal.{COND}
use Rattle.meaning.specs.Limits.{field_limit, status_limit, leaf_limit}
use Rattle.meaning.specs.Reading.{Got, got, wrong, due}
use Rattle.meaning.specs.Name.{Name}
use Rattle.meaning.specs.Condition.{Leaf}
use Rattle.limits.specs.Sizes.{word_room}
use Rattle.theory.specs.Reading.Piece.{as_piece}
use Rattle.reply.specs.declared.Fault.{Fault}
use Rattle.reply.specs.Faults.{fault_of}
use Rattle.cond_value.specs.Flat.{leaf_word}
use Rattle.cond_item.specs.declared.Place.{Place}

-- a part with these words and leaves, read behind `top` words and `leaves` leaves: its bytes, and the words and leaves that there are now
abbrev pub place_at : {A : Type 0} → (A → List ℕ) → (A → List Leaf) → ℕ → ℕ → A → ℕ → Place
place_at ws ls top leaves a n = record { bytes = n; top = top + length (ws a); leaves = leaves + length (ls a) }

abbrev pub as_place : {A : Type 0} → (A → List ℕ) → (A → List Leaf) → List ℕ → ℕ → ℕ → Got A → Result Place Fault
as_place ws ls s top leaves g = as_piece (place_at ws ls top leaves) fault_of s g

-- a leaf, negated or not
abbrev pub as_item : Bool → List ℕ → ℕ → ℕ → Got Leaf → Result Place Fault
as_item neg s top leaves g = as_place (λ x. leaf_word neg x ∷ []) (λ x. x ∷ []) s top leaves g

-- the lent words: the leaf's at `top`; where it is refused, as they were
abbrev pub item_space : Bool → List ℕ → ℕ → Got Leaf → List ℕ
item_space neg was top (got x l t) = set was top (leaf_word neg x)
item_space neg was top (wrong n l) = was

-- the words below `top`, and all others cleared
abbrev pub cleared : List ℕ → ℕ → List ℕ
cleared was top = take top was ++ replicate (length was - top) 0

-- the lent words when a part was read: its own from `top` on; where it is refused, all from `top` on are cleared
abbrev pub stored_by : {A : Type 0} → (A → List ℕ) → List ℕ → ℕ → Got A → List ℕ
stored_by ws was top (got a l t) = sets was top (ws a)
stored_by ws was top (wrong n l) = cleared was top

-- and before they are cleared: those below `top` are as they were
abbrev pub Stored : {A : Type 0} → (A → List ℕ) → List ℕ → List ℕ → ℕ → Got A → Type 0
Stored ws was is top (got a l t) = is ≡ sets was top (ws a)
Stored ws was is top (wrong n l) = take top is ≡ take top was

-- what a caller sees to: names within their limits, and room for the words of all leaves
pub record Ready (statuses fields : List Name) (was : List ℕ) (top leaves : ℕ) : Type 0 where
  pub few_statuses : length statuses ≤ status_limit
  pub few_fields : length fields ≤ field_limit
  pub few_leaves : leaves ≤ leaf_limit
  pub few_words : top ≤ 2 * leaves
  pub room : word_room ≤ length was

-- what was read behind the first n bytes of s, or a refusal, whatever it is told by: it lies in s, and it is told from the start of s
abbrev pub Within : {E : Type 0} → List ℕ → ℕ → Result Place E → Type 0
Within s n (Ok p) = n + p.bytes ≤ length s
Within s n (Err e) = Unit {0}

abbrev pub further : {E : Type 0} → ℕ → Result Place E → Result Place E
further n (Ok p) = Ok (record { bytes = n + p.bytes; top = p.top; leaves = p.leaves })
further n (Err e) = Err e

-- a group whose condition was read behind the first byte of s, and its closing parenthesis; `of` is what a refusal with a number is told by
abbrev pub closing_by : {E : Type 0} → (ℕ → E) → Place → Got (Unit {0}) → Result Place E
closing_by of p (got u l t) = Ok (record { bytes = 1 + p.bytes + 1; top = p.top; leaves = p.leaves })
closing_by of p (wrong n l) = Err (of n)

abbrev pub closed_by : {E : Type 0} → (ℕ → E) → List ℕ → Result Place E → Result Place E
closed_by of s (Ok p) = closing_by of p (due COND (text ")") 0 (drop (1 + p.bytes) s))
closed_by of s (Err e) = Err e

-- the same, with the fault
abbrev pub closing : Place → Got (Unit {0}) → Result Place Fault
closing = closing_by fault_of
