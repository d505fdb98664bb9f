-- `Text::signed` meets its contract. Assumes nothing.
use Rattle.std.proofs.Common.{◌≡◌, true, false, arith, ap, ◌∙◌, ℤ, pos, ◌∷◌}
use lib.IntN.{nat_abs}
use lib.Dec.{T}
use lib.Signed.{non_neg, yes_non_neg, ◌<ℤ◌, lt_z}
use mir.Facts.{to_z-of_z}
use mir.Syntax.{w64}
use mir.Val.{SFits, to_z, of_z}
use Rattle.arithmetic.proofs.Order.{test_below, test_not_below}
use Rattle.text.specs.DecimalText.{decimal_with, decimal_of}
use Rattle.text.proofs.DecimalLaws.{decimal_most}
use Rattle.text.proofs.StoredLaws.{appends_same, appends_next}
use Rattle.text.proofs.SignedText.{negative_text, natural_text}
use Rattle.text.proofs.text.Text.signed.Goals as goal

-- what the test says
below : {z : ℤ} → SFits w64 z → lt_z (to_z w64 (of_z w64 z)) (pos 0) ≡ true → z <ℤ pos 0
below {z} fits e = test_below z (pos 0) (rw (to_z-of_z fits) at e)

natural : {z : ℤ} → SFits w64 z → lt_z (to_z w64 (of_z w64 z)) (pos 0) ≡ false → T (non_neg z)
natural {z} fits e = yes_non_neg (test_not_below z (pos 0) (rw (to_z-of_z fits) at e))

pub returns-then-z-lt0 : goal.returns-then-z-lt0
returns-then-z-lt0 c =
    let fits = c.ranges.z in
    let magnitude = rw (to_z-of_z fits) at c.unsigned_abs.ensures.value in
    let text = negative_text c.args.z (below fits c.if-z-lt0.true) fits.sfits in
    record {
      appended = appends_same (ap (λ n. 45 ∷ decimal_with 19 n) magnitude ∙ text) (appends_next c.byte.ensures c.digits.ensures);
      bounded = omega (arith, c.byte.ensures.stored.the_end, c.digits.ensures.stored.the_end, decimal_most 19 c.unsigned_abs.result);
    }

pub returns-clause-appended : goal.returns-clause-appended
returns-clause-appended c =
    let fits = c.ranges.z in
    appends_same (ap decimal_of (ap nat_abs (to_z-of_z fits)) ∙ natural_text c.args.z (natural fits c.if-z-lt0.false)) c.decimal.ensures.appended
