-- `Text::digits` meets its contract, by recursion on the places. Assumes nothing.
use Rattle.std.proofs.Common.{ℕ, ◌≡◌, [], sym, ◌-◌, ◌/◌, arith}
use Rattle.text.specs.DecimalText.{digit_of, decimal_with}
use Rattle.text.proofs.DecimalLaws.{decimal_one, decimal_more, decimal_most}
use Rattle.text.proofs.StoredLaws.{appends_none, appends_same, appends_next}
use Rattle.text.proofs.text.Text.+digits.Goals as goal

no_places : (places n : ℕ) → places ≡ 0 → [] ≡ decimal_with places n
unfolding decimal_with
no_places places n e = rw e

pub returns-then-places-eq0 : goal.returns-then-places-eq0
returns-then-places-eq0 t c = appends_same (no_places c.args.places c.args.n c.if-places-eq0.true) appends_none

pub returns-then-n-lt10 : goal.returns-then-n-lt10
unfolding digit_of
returns-then-n-lt10 t c = appends_same (sym (decimal_one c.args.places c.args.n (omega arith) c.if-n-lt10.true)) c.byte.ensures

pub byte-requires-2 : goal.byte-requires-2
byte-requires-2 t c =
    let front = c.digits.ensures in
    omega (arith, front.stored.the_end, front.same_length, decimal_most (c.args.places - 1) (c.args.n / 10))

pub returns : goal.returns
unfolding digit_of
returns t c =
    appends_same (sym (decimal_more c.args.places c.args.n (omega arith) c.if-n-lt10.false)) (appends_next c.digits.ensures c.byte-2.ensures)
