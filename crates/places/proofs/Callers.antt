-- What a caller may conclude: a place below the lower of two is below the second, the size of a table.
use Prim.Native.Nat.{ℕ, ◌<◌, min}
use mathlib.Core.Path.{◌≡◌}
use native.Mathlib.Omega.{arith}

pub lower_place : (n a b i : ℕ) → n ≡ min a b → i < n → i < b
lower_place n a b i e h = omega arith
