-- `record_layout::checks::azimuths_accepted` meets its contract. Assumes nothing.
use mathlib.Core.Path.{refl, ap₂, ◌∙◌}
use Prim.Native.Nat.{ℕ, ◌+◌, ◌*◌}
use native.Mathlib.Omega.{arith}
use Rattle.std.proofs.Common.{rules}
use Rattle.std.proofs.lemmas.Iterator.{YieldsList-from_range}
use Rattle.std.proofs.lemmas.Iterator.Search.{all_from_yields_List}
use Rattle.arithmetic.specs.Places.{all_of}
use Rattle.limits.specs.Accepted.{azimuth_accepted}
use Rattle.big_endian.specs.BigEndian.{number_at, numbers_at}
use Rattle.big_endian.proofs.ReadNumbers.{all_numbers}
use Rattle.record_layout.specs.RecordPlaces.{azimuths_in}
use Rattle.record_layout.proofs.checks.azimuths_accepted.Goals as goal

pub returns : goal.returns
unfolding azimuths_in
returns c =
    let bytes = c.args.bytes.now in
    let start = c.content_start-start.result in
    all_from_yields_List (λ k. azimuth_accepted (number_at 4 bytes (start + 4 * k))) _ _ _ c.all.ensures.ran (YieldsList-from_range 0 c.rays_in.result c.rays_in.result refl (omega arith)) (λ x b q k. search rules)
    ∙ all_numbers azimuth_accepted 4 bytes start c.rays_in.result
    ∙ ap₂ (λ (at rays : ℕ). all_of azimuth_accepted (numbers_at 4 bytes at rays)) c.content_start-start.ensures.value c.rays_in.ensures.value
