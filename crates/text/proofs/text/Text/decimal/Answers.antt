-- `Text::decimal` meets its contract. Assumes nothing.
use Rattle.std.proofs.Common.{arith}
use Rattle.text.specs.DecimalText.{decimal_of}
use Rattle.text.proofs.DecimalLaws.{decimal_length_most}
use Rattle.text.proofs.text.Text.decimal.Goals as goal

pub returns : goal.returns
unfolding decimal_of
returns c = record {
  appended = c.digits.ensures;
  bounded = omega (arith, c.digits.ensures.stored.the_end, decimal_length_most c.args.n);
}
