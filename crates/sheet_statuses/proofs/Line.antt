-- A status's line: the returns of `status_row`, and what its answer tells.
use Prim.Native.Nat.{ℕ, suc, ◌+◌, ◌-◌, ◌^◌, ◌<◌, ◌≤◌}
use mathlib.Core.Path.{◌≡◌, ◌∙◌, ap, ap₂}
use mathlib.Core.Bool.{Bool}
use mathlib.Core.List.{List}
use mathlib.Core.Option as O
use native.Mathlib.Omega.{arith}
use lib.ListN.{length, take, drop}
use mir.Val.{Fits}
use mir.Syntax.{w64}
use Rattle.std.specs.Prelude.{Result, Ok, Err, Option, Some}
use Rattle.meaning.specs.Reading.{Reader, after, give}
use Rattle.meaning.specs.Name.{Name}
use Rattle.meaning.specs.Sheet as M
use Rattle.meaning.specs.ReadSheet.{under}
use Rattle.theory.specs.Reading.Answered.{Ends, ends_after, ends_map}
use Rattle.theory.specs.Reading.Piece.{Next, piece_on, piece_off}
use Rattle.theory.specs.Reading.Shown.{shown_ends}
use Rattle.reply.specs.declared.Fault.{Fault}
use Rattle.reply.specs.Faults.{fault_of}
use Rattle.text.specs.declared.Taken.{Taken}
use Rattle.name.specs.declared.Name.{Name as Kept}
use Rattle.name.specs.Names.{kept, name_of}
use Rattle.name.proofs.Callers.{new_shows, good_again}
use Rattle.sheet_tables.specs.Heads.{under_code}
use Rattle.sheet_section.specs.Answers.{as_row, row_name}
use Rattle.sheet_section.proofs.Named.{Named, name_told, line_off, line_on}
use Rattle.sheet_statuses.specs.declared.Status.{Status}
use Rattle.sheet_statuses.specs.Answers.{as_under, as_status, status}
use Rattle.sheet_statuses.proofs.Ends.{as_stage, under_ends}

-- behind the name
abbrev ending : List Name → Name → Reader M.Status
ending ns w = λ l t. after (under ns l t) (λ o. give (record { name = w; under = o }))

module _ (key : List ℕ) (full : Bool) (used names : List Name) (from to k : ℕ) (t : List ℕ) (o : Result (Option (Taken Kept)) Fault)
    (read : o ≡ row_name key full used t) (x : Option (Taken Kept)) (ok : o ≡ Ok x) (w : Taken Kept) (some : x ≡ Some w) (u : List ℕ)
    (p : Result (Taken ℕ) Fault) (behind : u ≡ drop w.bytes t) (asked : p ≡ as_under u (under (take (to - from) (drop from names)) 0 u))
    (part : to ≡ from + k) where
  abbrev ns : List Name
  ns = take k (drop from names)

  abbrev told : Result (Option (Taken Status)) Fault
  told = as_row as_status key full (status used ns) t

  named : Named as_status key full used (ending ns) t w
  named = rw (ok, some) at (name_told as_status key full used (ending ns) t o read)

  abbrev made : O.Option ℕ → Reader M.Status
  made o = give (record { name = named.name; under = o })

  answer : p ≡ as_under u (under ns 0 u)
  answer = let m : to - from ≡ k = omega arith in rw m at asked

  pub line_wrong : (e : Fault) → p ≡ Err e → Err e ≡ told
  line_wrong e z = line_off as_status key full used (ending ns) t named e (piece_off as_stage fault_of (under_ends ns) made named.left u behind p answer e z)

  module _ (v : Taken ℕ) (z : p ≡ Ok v) where
    taken : Next as_stage (λ o n. (under_code o ≤ length ns) × (1 ≤ n))
        (Rattle.sheet_section.proofs.Named.whole as_status key full used (ending ns) t) made 1 w.bytes t v
    taken = piece_on as_stage fault_of (under_ends ns) made named.left u behind p answer v z

    sum : w.bytes + v.bytes ≡ w.bytes + taken.bytes
    sum = omega (arith, ap (λ (v : Taken ℕ). v.bytes) taken.same)

    pub line_room : length t < 2 ^ 64 → Fits w64 (w.bytes + v.bytes)
    line_room h = omega (arith, taken.left.within, sum)

    pub line_read : (r : Taken Status) → r ≡ record { value = record { name = w.value; under = v.value }; bytes = w.bytes + v.bytes } → Ok (Some r) ≡ told
    line_read r e =
        line_on as_status key full used (ending ns) t named taken.left (omega (arith, named.far)) r
        (e ∙ ap₂ (λ s n. record { value = s; bytes = n })
        (ap₂ (λ m s. record { name = m; under = s }) named.same (ap (λ (v : Taken ℕ). v.value) taken.same)) sum)

pub ruleset lining = (line_wrong, line_room, line_read)

-- WHAT ITS ANSWER TELLS
abbrev pub Known : ℕ → M.Status → ℕ → Type 0
Known most x n = (name_of (kept x.name) ≡ x.name) × (under_code x.under ≤ most)

pub status_ends : (used ns : List Name) (u : List ℕ) → Ends suc (Known (length ns)) (status used ns) u
status_ends used ns u =
    ends_after (Known (length ns)) _ (shown_ends (new_shows used) u) λ w n h.
    ends_map {Q = Known (length ns)} (λ o. record { name = w; under = o }) (λ o k few. (good_again w h.0, few.0)) (under_ends ns (drop n u))
