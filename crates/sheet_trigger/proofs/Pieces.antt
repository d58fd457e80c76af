-- Laws of the pieces of a rule's line: its sign, a trigger, and all before ` if `.
use Prim.Native.Nat.{ℕ, ◌+◌, ◌-◌, ◌^◌, ◌≤◌, ◌<◌}
use mathlib.Core.Path.{◌≡◌, refl, sym, ◌∙◌, ap}
use mathlib.Core.Bool.{Bool, true, false, not, cond}
use mathlib.Core.List.{List, []}
use native.Mathlib.Omega.{arith}
use borrow.Author.Tests.{not-true, not-false}
use lib.ListN.{length, take, drop}
use lib.Seq.{drop-drop, take-length}
use mir.Val.{Fits}
use mir.Syntax.{w8, w64}
use Rattle.std.specs.Prelude.{Option, Some, None, Result, Ok, Err}
use Rattle.std.specs.Result.{IsErr, IsErrAnd}
use Rattle.std.proofs.lemmas.Result.{err_from_is_err_and}
use Rattle.meaning.specs.Text.{text, begins}
use Rattle.meaning.specs.Refusal.{LINE}
use Rattle.meaning.specs.Limits.{status_limit}
use Rattle.meaning.specs.Reading.{Got, got, wrong, Reader, after, give, choose, stands, one_of}
use Rattle.meaning.specs.Name.{Name, known}
use Rattle.meaning.specs.Sheet as M
use Rattle.meaning.specs.Sheet.{Sign, plus, minus}
use Rattle.meaning.specs.ReadSheet.{signs, event_trigger, trigger, Begun, change, begun}
use Rattle.theory.specs.Reading.BuiltPapers.{trigger_built, change_built}
use Rattle.theory.specs.Reading.Readers.{Yields, Ensures, any_ensures, give_ensures}
use Rattle.theory.specs.Papers.Names.{known_below}
use Rattle.theory.specs.Reading.Told.{Any, took}
use Rattle.theory.specs.Reading.Answered.{behind, inline_ends, ensured_ends, Left, left_start, left_at, left_got}
use Rattle.theory.specs.Reading.Piece.{as_piece, left_piece, off_answer, Next, piece_on, piece_off}
use Rattle.text.proofs.Callers.{begins_fits, stands_here, stands_not}
use Rattle.text.specs.declared.Taken.{Taken}
use Rattle.reply.specs.declared.Fault.{Fault}
use Rattle.reply.specs.declared.Fault.TheVariants as F
use Rattle.reply.specs.Faults.{fault_of}
use Rattle.name.specs.Answers.{as_known}
use Rattle.name.proofs.Callers.{known_got, known_fits}
use Rattle.sheet_tables.specs.declared.Trigger.{Trigger}
use Rattle.sheet_tables.specs.declared.Trigger.TheVariants.{Always, Event}
use Rattle.sheet_trigger.specs.declared.Start.{Start}
use Rattle.sheet_trigger.specs.Answers.{start_at, as_start}
use Rattle.sheet_tables.specs.Rules.{is_plus, as_trigger}
use Rattle.sheet_trigger.specs.Parts.{as_sign, moved, as_triggered}

-- the exit of a `?`: what was refused is handed on
pub handed : {B E : Type 0} {r v : Result B E} {Q : E → Type 0} → IsErr r × IsErrAnd r Q → ((e : E) → Q e → Err e ≡ v) → r ≡ v
handed {r = r} h g = let p = err_from_is_err_and r h.1 in rw p.1 (g p.0 p.2)

-- NAMES OF A TABLE: all of it
pub known_all : (ns : List Name) (s : List ℕ) (n : ℕ) → n ≡ length ns
    → (p : Result (Taken ℕ) Fault) → p ≡ as_known s (known (take (n - 0) (drop 0 ns)) 0 s) → p ≡ as_known s (known ns 0 s)
known_all ns s n h p e =
    let z : n - 0 ≡ length ns = omega arith in
    rw (z, take-length ns) at e

-- a place of so short a table fits a byte
pub place_fits : (ns : List Name) (s u : List ℕ) (p : Result (Taken ℕ) Fault) → p ≡ as_known s (known ns 0 u) → (v : Taken ℕ) → p ≡ Ok v
    → length ns ≤ status_limit → Fits w8 v.value
place_fits ns s u p is v e h = go (known ns 0 u) ((known_below ns).gives 0 u) is
  where
    go : (g : Got ℕ) → Yields g (λ i v. i < length ns) → p ≡ as_known s g → Fits w8 v.value
    go (got i l t) y q =
        let z : ◌≡◌ {A = Result (Taken ℕ) Fault} (Ok v) (Ok (record { value = i; bytes = length s - length t })) = sym e ∙ q in
        let x : v.value ≡ i = cc in
        omega (arith, y.of i l t refl)
    go (wrong k l) y q = let z : ◌≡◌ {A = Result (Taken ℕ) Fault} (Ok v) (Err (fault_of k)) = sym e ∙ q in cc

-- what stands behind the first byte of s, told from its start
module _ (s : List ℕ) (t : List Name) (some : 1 ≤ length s) (u : List ℕ) (at : u ≡ drop 1 s) (p : Result (Taken ℕ) Fault)
    (is : p ≡ as_known u (known t 0 u)) where
  behind_is : p ≡ as_known (drop 1 s) (known t 0 (drop 1 s))
  behind_is = rw at at is

  pub behind_read : (v : Taken ℕ) → p ≡ Ok v → (m : ℕ) → m ≡ v.bytes + 1 → Ok (record { value = v.value; bytes = m }) ≡ as_known s (known t 0 (drop 1 s))
  behind_read v told m z =
      let h = behind s v.bytes 1 some (known_fits p t (drop 1 s) behind_is v told) in
      let w : m ≡ 1 + v.bytes = omega arith in
      rw (w, known_got p t (drop 1 s) behind_is v told 0, drop-drop v.bytes 1 s, took s (1 + v.bytes) h)

-- what the answer on a name becomes, where a value is made of its place
module _ {A B : Type 0} (good : A → ℕ → B) (g : ℕ → A) where
  abbrev becomes : Result (Taken ℕ) Fault → Result B Fault
  becomes (Ok v) = Ok (good (g v.value) v.bytes)
  becomes (Err e) = Err e

  made : (s : List ℕ) (p : Result (Taken ℕ) Fault) (z : Got ℕ) → p ≡ as_known s z → becomes p ≡ as_piece good fault_of s (after z (λ x. give (g x)))
  made s p (got x l t) e = rw e
  made s p (wrong n l) e = rw e

-- SIGNS
module _ (s : List ℕ) (a : Bool) (up : a ≡ begins (text "+") s) where
  pub sign_plus : a ≡ true → Some true ≡ as_sign (one_of LINE signs 0 s)
  unfolding one_of stands
  sign_plus t = rw (← up, t)

  module _ (f : a ≡ false) (b : Bool) (down : b ≡ begins (text "-") s) where
    pub sign_minus : b ≡ true → Some false ≡ as_sign (one_of LINE signs 0 s)
    unfolding one_of stands
    sign_minus t = rw (← up, f, ← down, t)

    pub sign_none : b ≡ false → None ≡ as_sign (one_of LINE signs 0 s)
    unfolding one_of stands
    sign_none t = rw (← up, f, ← down, t)

pub ruleset signing = (sign_plus, sign_minus, sign_none)

abbrev sign_of : Bool → Sign
sign_of b = cond b plus minus

abbrev start_of : Bool → ℕ → Begun
start_of b x = record { sign = sign_of b; status = x; trigger = M.Trigger.always; on = false }

abbrev move_of : Bool → ℕ → M.Trigger
move_of b x = cond b (M.Trigger.rise x) (M.Trigger.fall x)

-- where a sign stands, `+` or not, a status is due behind it; where none stands, an event
record Signed (s : List ℕ) (b : Bool) : Type 0 where
  some : 1 ≤ length s
  change : (ss : List Name) → change ss 0 s ≡ after (known ss 0 (drop 1 s)) (λ x. give (start_of b x))
  trigger : (es ss : List Name) → trigger es ss 0 s ≡ after (known ss 0 (drop 1 s)) (λ x. give (move_of b x))

record Unsigned (s : List ℕ) : Type 0 where
  change : (ss : List Name) → change ss 0 s ≡ wrong LINE 0
  trigger : (es ss : List Name) → trigger es ss 0 s ≡ event_trigger es 0 s

module _ (s : List ℕ) (p : Option Bool) (is : p ≡ as_sign (one_of LINE signs 0 s)) where
  signed : (b : Bool) → p ≡ Some b → Signed s b
  unfolding one_of stands change trigger
  signed b told = go (begins (text "+") s) (begins (text "-") s) refl refl
    where
      go : (a c : Bool) → a ≡ begins (text "+") s → c ≡ begins (text "-") s → Signed s b
      go true c e f =
          let z : p ≡ Some true = rw (← e) at is in
          let y : b ≡ true = cc in
          rw y (record { some = begins_fits (text "+") s (sym e); change = λ ss. rw (← e); trigger = λ es ss. rw (← e) })
      go false true e f =
          let z : p ≡ Some false = rw (← e, ← f) at is in
          let y : b ≡ false = cc in
          rw y (record { some = begins_fits (text "-") s (sym f); change = λ ss. rw (← e, ← f); trigger = λ es ss. rw (← e, ← f) })
      go false false e f =
          let z : p ≡ None = rw (← e, ← f) at is in
          cc

  unsigned : p ≡ None → Unsigned s
  unfolding one_of stands change trigger event_trigger
  unsigned none = go (begins (text "+") s) (begins (text "-") s) refl refl
    where
      go : (a c : Bool) → a ≡ begins (text "+") s → c ≡ begins (text "-") s → Unsigned s
      go true c e f = let z : p ≡ Some true = rw (← e) at is in cc
      go false true e f = let z : p ≡ Some false = rw (← e, ← f) at is in cc
      go false false e f = record { change = λ ss. rw (← e, ← f); trigger = λ es ss. rw (← e, ← f) }

-- TRIGGERS
move_of_lem : (b : Bool) (x : ℕ) → moved b x ≡ as_trigger (move_of b x)
move_of_lem true x = refl
move_of_lem false x = refl

plus_of : (b : Bool) → b ≡ is_plus (sign_of b)
plus_of true = refl
plus_of false = refl

-- a trigger as it is answered
abbrev trigger_at : M.Trigger → ℕ → Taken Trigger
trigger_at t n = record { value = as_trigger t; bytes = n }

-- an event
module _ (s : List ℕ) (t : List Name) (p : Result (Taken ℕ) Fault) (is : p ≡ as_known s (known t 0 s)) where
  event_made : becomes trigger_at M.Trigger.event p ≡ as_triggered s (event_trigger t 0 s)
  unfolding event_trigger
  event_made = made trigger_at M.Trigger.event s p (known t 0 s) is

  pub event_refused : (e : Fault) → p ≡ Err e → Err e ≡ as_triggered s (event_trigger t 0 s)
  event_refused e told = rw told at event_made

  pub event_read : (v : Taken ℕ) → p ≡ Ok v → Ok (record { value = Event v.value; bytes = v.bytes }) ≡ as_triggered s (event_trigger t 0 s)
  event_read v told = rw told at event_made

pub ruleset eventing = (event_refused, event_read, place_fits)

-- a trigger, and the sign and status that a line begins with, by whether a sign stands
module _ (s : List ℕ) (o : Option Bool) (is : o ≡ as_sign (one_of LINE signs 0 s)) where
  module _ (none : o ≡ None) where
    pub trigger_event : (es ss : List Name) (r : Result (Taken Trigger) Fault) → r ≡ as_triggered s (event_trigger es 0 s)
        → r ≡ as_triggered s (trigger es ss 0 s)
    trigger_event es ss r q = q ∙ rw ((unsigned s o is none).trigger es ss)

    pub change_unsigned : (ss : List Name) → Err F.Line ≡ as_start s (change ss 0 s)
    change_unsigned ss = rw ((unsigned s o is none).change ss)

  module _ (b : Bool) (one : o ≡ Some b) where
    sign : Signed s b
    sign = signed s o is b one

    pub signed_some : 1 ≤ length s
    signed_some = sign.some

    module _ (ss : List Name) (p : Result (Taken ℕ) Fault) (so : p ≡ as_known s (known ss 0 (drop 1 s))) where
      trigger_made : (es : List Name) → becomes trigger_at (move_of b) p ≡ as_triggered s (trigger es ss 0 s)
      trigger_made es = rw (sign.trigger es ss) (made trigger_at (move_of b) s p (known ss 0 (drop 1 s)) so)

      change_made : becomes start_at (start_of b) p ≡ as_start s (change ss 0 s)
      change_made = rw (sign.change ss) (made start_at (start_of b) s p (known ss 0 (drop 1 s)) so)

      pub trigger_refused : (es : List Name) (e : Fault) → p ≡ Err e → Err e ≡ as_triggered s (trigger es ss 0 s)
      trigger_refused es e told = rw told at (trigger_made es)

      pub trigger_read : (es : List Name) (v : Taken ℕ) → p ≡ Ok v → (t : Trigger) → t ≡ moved b v.value
          → Ok (record { value = t; bytes = v.bytes }) ≡ as_triggered s (trigger es ss 0 s)
      trigger_read es v told t f = rw (f, move_of_lem b v.value) (rw told at (trigger_made es))

      pub change_refused : (e : Fault) → p ≡ Err e → Err e ≡ as_start s (change ss 0 s)
      change_refused e told = rw told at change_made

      pub change_read : (v : Taken ℕ) → p ≡ Ok v
          → Ok (record { plus = b; status = v.value; trigger = Always; on = false; bytes = v.bytes }) ≡ as_start s (change ss 0 s)
      change_read v told =
          ap (λ c. Ok (record { plus = c; status = v.value; trigger = Always; on = false; bytes = v.bytes })) (plus_of b) ∙ rw told at change_made

pub ruleset triggering = (trigger_event, signed_some, trigger_refused, trigger_read, place_fits)

pub ruleset changing = (change_unsigned, signed_some, change_refused, change_read, place_fits)

-- THE WHOLE START: then a trigger

-- the start of a line with its trigger
abbrev with : Begun → M.Trigger → Bool → Begun
with b t on = record { sign = b.sign; status = b.status; trigger = t; on = on }

-- a line that has only begun
record Bare (b : Begun) : Type 0 where
  none : b.trigger ≡ M.Trigger.always
  off : b.on ≡ false

change_bare : (ss : List Name) → Ensures (change ss) Bare
unfolding change
change_bare ss =
    any_ensures (one_of LINE signs) λ g.
    any_ensures (known ss) λ x.
    give_ensures (record { none = refl; off = refl })

module _ (s : List ℕ) (es ss : List Name) (r : Result Start Fault) (is : r ≡ as_start s (change ss 0 s)) where
  abbrev whole : Reader Begun
  whole = begun es ss

  -- what is read behind sign and status, and behind ` on ` if it stands
  abbrev fires : Begun → Bool → Reader Begun
  fires b on = λ l s. after (choose on (trigger es ss) (give M.Trigger.always) l s) (λ t. give (with b t on))

  abbrev goes : Begun → Reader Begun
  goes b = λ l s. after (stands (text " on ") l s) (fires b)

  pub start_refused : (e : Fault) → r ≡ Err e → Err e ≡ as_start s (whole 0 s)
  unfolding begun
  start_refused e told =
      off_answer start_at s (piece_off start_at fault_of (inline_ends (change_built ss)) goes (left_start whole 0 s) s refl r is e told)

  module _ (c : Start) (told : r ≡ Ok c) where
    changed : Next start_at (λ b n. Bare b) (whole 0 s) goes 0 0 s c
    unfolding begun
    changed = piece_on start_at fault_of (ensured_ends (change_built ss) (change_bare ss)) goes (left_start whole 0 s) s refl r is c told

    bytes_is : c.bytes ≡ changed.bytes
    bytes_is = ap (λ (a : Start). a.bytes) changed.same

    came : Left (whole 0 s) (goes changed.value) 0 c.bytes s
    came = left_at changed.left c.bytes (omega (arith, bytes_is))

    module _ (u : List ℕ) (at : u ≡ drop c.bytes s) (b : Bool) (key : b ≡ begins (text " on ") u) where
      stood : b ≡ begins (text " on ") (drop c.bytes s)
      stood = rw at at key

      pub start_plain : not b ≡ true → Ok c ≡ as_start s (whole 0 s)
      start_plain f =
          let off = stands_not (text " on ") 0 (drop c.bytes s) b stood (not-true b f) in
          let left = left_got (stands (text " on ")) (fires changed.value) came false 0 0 (omega arith) off in
          let z : c ≡ start_at (with changed.value M.Trigger.always false) (c.bytes + 0)
          = changed.same ∙ rw (changed.holds.none, changed.holds.off) (ap (start_at (with changed.value M.Trigger.always false)) (omega (arith, bytes_is))) in
          left_piece start_at fault_of left c z

      module _ (f : not b ≡ false) where
        asked : Left (whole 0 s) (fires changed.value true) 0 (c.bytes + 4) s
        asked =
            let fits = begins_fits (text " on ") (drop c.bytes s) (sym stood ∙ not-false b f) in
            let on = stands_here (text " on ") 0 (drop c.bytes s) b stood (not-false b f) in
            left_got (stands (text " on ")) (fires changed.value) came true 0 4 fits on

        module _ (v : List ℕ) (then : v ≡ drop 4 u) (t : Result (Taken Trigger) Fault) (so : t ≡ as_triggered v (trigger es ss 0 v)) where
          rest : v ≡ drop (c.bytes + 4) s
          rest = then ∙ rw (at, drop-drop 4 c.bytes s)

          pub start_unfired : (e : Fault) → t ≡ Err e → Err e ≡ as_start s (whole 0 s)
          start_unfired e q = off_answer start_at s (piece_off trigger_at fault_of (inline_ends (trigger_built es ss)) _ asked v rest t so e q)

          module _ (x : Taken Trigger) (e : t ≡ Ok x) where
            fired : Next trigger_at (λ x n. Any x) (whole 0 s) (λ t. give (with changed.value t true)) 0 (c.bytes + 4) s x
            fired = piece_on trigger_at fault_of (inline_ends (trigger_built es ss)) _ asked v rest t so x e

            took_is : x.bytes ≡ fired.bytes
            took_is = ap (λ (a : Taken Trigger). a.bytes) fired.same

            pub start_whole : length s < 2 ^ 64 → (m : ℕ) → m ≡ c.bytes + 4 + x.bytes → Fits w64 m
            start_whole big m w = omega (arith, fired.left.within, took_is)

            pub start_fired : (m : ℕ) → m ≡ c.bytes + 4 + x.bytes
                → Ok (record { plus = c.plus; status = c.status; trigger = x.value; on = true; bytes = m }) ≡ as_start s (whole 0 s)
            start_fired m w =
                let z = changed.same in
                let y = fired.same in
                let k : m ≡ c.bytes + 4 + fired.bytes = omega (arith, took_is) in
                left_piece start_at fault_of fired.left (record { plus = c.plus; status = c.status; trigger = x.value; on = true; bytes = m }) cc

-- the bytes up to the trigger, whatever the events are
pub start_on : (s : List ℕ) (ss : List Name) (r : Result Start Fault) → r ≡ as_start s (change ss 0 s) → (c : Start) → r ≡ Ok c
    → (u : List ℕ) → u ≡ drop c.bytes s → (b : Bool) → b ≡ begins (text " on ") u → not b ≡ false → length s < 2 ^ 64 → (m : ℕ) → m ≡ c.bytes + 4 → Fits w64 m
start_on s ss r is c told u at b key f big m w = omega (arith, (asked s [] ss r is c told u at b key f).within)

pub ruleset starting = (start_refused, start_plain, start_unfired, start_fired, start_on, start_whole)
