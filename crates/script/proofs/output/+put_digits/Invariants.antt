-- `put_digits`: the digits before the last, then the last; each call is of one digit fewer. Assumes nothing.
use Rattle.script.proofs.output.+put_digits.Given as goal

abbrev pub decreases-put_digits : goal.decreases-put_digits
decreases-put_digits l = l.k
