-- `Text::digits` calls itself with fewer places. Assumes nothing.
use Rattle.text.proofs.text.Text.+digits.Given as goal

abbrev pub decreases-digits : goal.decreases-digits
decreases-digits l = l.places
