-- `word_value::parse` meets its contract. Assumes nothing.
use Rattle.std.proofs.Common.{rules, ◌≡◌, ◌∙◌, neg_ℤ, pos}
use Rattle.word_value.specs.WordValue.{is_natural, value_of, number_or}
use Rattle.word_value.proofs.ParsedCases.{signed_word, plain_word}
use Rattle.word_value.proofs.parse.Goals as goal

pub returns-in-Some : goal.returns-in-Some
unfolding number_or
returns-in-Some c =
    let digits = c.in-Some.digits.now in
    let stripped = c.in-Some.ensures.cases in
    let negated : c.map.result ≡ number_or (is_natural digits) (neg_ℤ (pos (value_of digits))) = search rules in
    negated ∙ signed_word c.args.word.now digits stripped.0 stripped.1

pub returns-in-None : goal.returns-in-None
returns-in-None c = c.natural-in-None.ensures.value ∙ plain_word c.args.word.now c.in-None.ensures.cases
