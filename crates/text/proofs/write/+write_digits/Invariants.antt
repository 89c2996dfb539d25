-- By induction on `f`: each call of itself is for a digit less.
use Rattle.text.proofs.write.+write_digits.Given as goal

abbrev pub decreases-write_digits : goal.decreases-write_digits
decreases-write_digits l = l.f
