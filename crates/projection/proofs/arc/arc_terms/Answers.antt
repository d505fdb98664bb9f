-- `projection::arc::arc_terms` meets its contract: no product leaves 64 bits, no difference goes below 0. Assumes nothing.
use mathlib.Core.Path.{sym, ap₂, ◌∙◌}
use Prim.Native.Nat.{◌≤◌}
use native.Mathlib.Nat.{mul-le-mul}
use lib.IntN.{ℤ}
use Rattle.arithmetic.proofs.Machine.{fits_unsigned, fits_natural, word_natural}
use Rattle.projection.specs.declared.arc.ArcTerms.{ArcTerms}
use Rattle.projection.specs.Arc.{arc_terms}
use Rattle.projection.proofs.ArcBounds.{D, D2, D3, D4, D5, SD, CD, D_most, D2_most, D4_most, D2_part, D3_part, SD_most, CD_most, sd_natural, cd_natural}
use Rattle.projection.proofs.arc.arc_terms.Goals as goal

-- the bounds of d, d2 and d4
most : (c : goal.After-from) → (D c.args.radius c.args.range ≤ 77538170) × (D2 c.args.radius c.args.range ≤ 5599268) × (D4 c.args.radius c.args.range ≤ 29199)
most c = (D_most _ _ c.requires.0 c.requires.2, D2_most _ _ c.requires.0 c.requires.2, D4_most _ _ c.requires.0 c.requires.2)

pub overflow_mul-d2 : goal.overflow_mul-d2
unfolding D
overflow_mul-d2 c = rw c.from.ensures (fits_unsigned (mul-le-mul (most c).0 (most c).0) tt)

pub overflow_mul-d3 : goal.overflow_mul-d3
unfolding D D2
overflow_mul-d3 c = rw c.from.ensures (fits_unsigned (mul-le-mul (most c).1 (most c).0) tt)

pub overflow_mul-d4 : goal.overflow_mul-d4
unfolding D D2
overflow_mul-d4 c = rw c.from.ensures (fits_unsigned (mul-le-mul (most c).1 (most c).1) tt)

pub overflow_mul-d5 : goal.overflow_mul-d5
unfolding D D2 D4
overflow_mul-d5 c = rw c.from.ensures (fits_unsigned (mul-le-mul (most c).2 (most c).0) tt)

pub overflow_sub-result : goal.overflow_sub-result
unfolding D D2 D3
overflow_sub-result c = rw c.from.ensures (D3_part c.args.radius c.args.range c.requires.0 c.requires.2)

pub overflow_add-result : goal.overflow_add-result
unfolding SD D D2 D3 D4 D5
overflow_add-result c = rw c.from.ensures (fits_unsigned (SD_most c.args.radius c.args.range c.requires.0 c.requires.2) tt)

pub overflow_cast-result : goal.overflow_cast-result
unfolding SD D D2 D3 D4 D5
overflow_cast-result c = rw c.from.ensures (fits_natural (SD_most c.args.radius c.args.range c.requires.0 c.requires.2) tt)

pub overflow_sub-result-2 : goal.overflow_sub-result-2
unfolding D D2
overflow_sub-result-2 c = rw c.from.ensures (D2_part c.args.radius c.args.range c.requires.0 c.requires.2)

pub overflow_add-result-2 : goal.overflow_add-result-2
unfolding CD D D2 D4
overflow_add-result-2 c = rw c.from.ensures (fits_unsigned (CD_most c.args.radius c.args.range c.requires.0 c.requires.2) tt)

pub overflow_cast-result-2 : goal.overflow_cast-result-2
unfolding CD D D2 D4
overflow_cast-result-2 c = rw c.from.ensures (fits_natural (CD_most c.args.radius c.args.range c.requires.0 c.requires.2) tt)

pub returns : goal.returns
unfolding arc_terms SD CD D D2 D3 D4 D5
returns c =
    let R = c.args.radius in
    let r = c.args.range in
    let hR = c.requires.0 in
    let hr = c.requires.2 in
    rw c.from.ensures
    (ap₂ {C = ArcTerms} (λ (x y : ℤ). record { sd = x; cd = y })
    (word_natural (SD_most R r hR hr) tt ∙ sym (sd_natural R r hR hr))
    (word_natural (CD_most R r hR hr) tt ∙ sym (cd_natural R r hR hr)))
