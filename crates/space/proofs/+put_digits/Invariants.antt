-- The measure of `put_digits`, which calls itself, is the number of digits that are left.
use Rattle.space.proofs.+put_digits.Given as goal

abbrev pub decreases-put_digits : goal.decreases-put_digits
decreases-put_digits l = l.left
