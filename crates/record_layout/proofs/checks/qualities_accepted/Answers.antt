-- `record_layout::checks::qualities_accepted` meets its contract. Assumes nothing.
use mathlib.Core.Path.{refl, ap₂, ◌∙◌}
use Prim.Native.Nat.{ℕ, ◌+◌, ◌*◌}
use native.Mathlib.Omega.{arith}
use Rattle.std.proofs.Common.{rules}
use Rattle.std.proofs.lemmas.Iterator.{YieldsList-from_range}
use Rattle.std.proofs.lemmas.Iterator.Search.{all_from_yields_List}
use Rattle.arithmetic.specs.Places.{all_of}
use Rattle.scan.specs.ScanRefusal.{quality_accepted}
use Rattle.big_endian.specs.BigEndian.{number_at, numbers_at}
use Rattle.big_endian.proofs.ReadNumbers.{all_numbers}
use Rattle.record_layout.specs.RecordPlaces.{qualities_in}
use Rattle.record_layout.proofs.checks.qualities_accepted.Goals as goal

pub returns : goal.returns
unfolding qualities_in quality_accepted
returns c =
    let bytes = c.args.bytes.now in
    let start = c.content_start-start.result in
    all_from_yields_List (λ k. quality_accepted (number_at 1 bytes (start + 1 * k))) _ _ _ c.all.ensures.ran (YieldsList-from_range 0 c.gates_in.result c.gates_in.result refl (omega arith)) (λ x b q k. search rules)
    ∙ all_numbers quality_accepted 1 bytes start c.gates_in.result
    ∙ ap₂ (λ (at gates : ℕ). all_of quality_accepted (numbers_at 1 bytes at gates)) c.content_start-start.ensures.value c.gates_in.ensures.value
