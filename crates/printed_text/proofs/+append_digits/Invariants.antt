-- At each call the number falls to its tenth.
use Rattle.printed_text.proofs.+append_digits.Given as goal

abbrev pub decreases-append_digits : goal.decreases-append_digits
decreases-append_digits l = l.number
