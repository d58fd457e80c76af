-- A number of the document is told again by its fault.
use Rattle.std.specs.Prelude.{ℕ, zero, suc, ◌≤◌, ◌≡◌, refl}
use Rattle.std.proofs.Common.{arith}
use Rattle.reply.specs.Faults.{number_of, fault_of}

pub number_again : (n : ℕ) → 1 ≤ n → n ≤ 10 → number_of (fault_of n) ≡ n
number_again zero l m = absurd (omega arith)
number_again (suc zero) l m = refl
number_again (suc (suc zero)) l m = refl
number_again (suc (suc (suc zero))) l m = refl
number_again (suc (suc (suc (suc zero)))) l m = refl
number_again (suc (suc (suc (suc (suc zero))))) l m = refl
number_again (suc (suc (suc (suc (suc (suc zero)))))) l m = refl
number_again (suc (suc (suc (suc (suc (suc (suc zero))))))) l m = refl
number_again (suc (suc (suc (suc (suc (suc (suc (suc zero)))))))) l m = refl
number_again (suc (suc (suc (suc (suc (suc (suc (suc (suc zero))))))))) l m = refl
number_again (suc (suc (suc (suc (suc (suc (suc (suc (suc (suc zero)))))))))) l m = refl
number_again (suc (suc (suc (suc (suc (suc (suc (suc (suc (suc (suc n))))))))))) l m = absurd (omega arith)
