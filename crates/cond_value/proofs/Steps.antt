-- Laws of the machine's steps: the premises are what is known at a place, the conclusion is what is asked there.
use Prim.Native.Nat.{ℕ, ◌+◌, ◌<◌}
use mathlib.Core.Path.{◌≡◌}
use mathlib.Core.List.{List}
use native.Mathlib.Numerals.{add-one}
use lib.ListN.{length, drop, get_or}
use lib.Seq.{drop-cons}
use Rattle.cond_value.specs.Machine.{step_of, run}

-- of the words from i on, which are still to be run, one is run
pub run_more : (values marks part : List ℕ) (st i u v : ℕ) → run values marks (drop i part) st ≡ v → i < length part
    → u ≡ step_of values marks (get_or part i 0) st → run values marks (drop (i + 1) part) u ≡ v
unfolding run
run_more values marks part st i u v h l e = rw (add-one, e) (rw (drop-cons part i 0 l) at h)
