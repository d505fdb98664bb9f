-- `gate_words::given::are_numbers` meets its contract. Assumes nothing.
use mathlib.Core.Path.{refl, ◌∙◌}
use Prim.Native.Nat.{◌+◌}
use native.Mathlib.Omega.{arith}
use Rattle.std.proofs.Common.{rules}
use Rattle.std.proofs.lemmas.Iterator.{YieldsList-from_range}
use Rattle.std.proofs.lemmas.Iterator.Search.{all_from_yields_List}
use Rattle.gate_words.specs.GivenWords.{is_number_at, are_numbers}
use Rattle.gate_words.proofs.GivenLaws.{all_from}
use Rattle.gate_words.proofs.given.are_numbers.Goals as goal

pub returns : goal.returns
unfolding are_numbers is_number_at
returns c =
    all_from_yields_List (λ k. is_number_at c.args.words.now (c.args.from + k)) _ _ _ c.all.ensures.ran (YieldsList-from_range 0 c.args.count c.args.count refl (omega arith)) (λ x b q k. search rules)
    ∙ all_from (is_number_at c.args.words.now) c.args.from c.args.count
