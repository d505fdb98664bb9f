-- The rays that were accepted: what is known of them, and of another group behind them. Assumes nothing.
use mathlib.Core.Bool.{Bool, true}
use mathlib.Core.List.{List, ◌++◌}
use mathlib.Core.Path.{◌≡◌, refl, sym, ap, ◌∙◌}
use Prim.Native.Nat.{ℕ, ◌*◌, ◌≤◌}
use native.Mathlib.Nat.{zero-add, mul-le-mul, mul-le-mul_right}
use native.Mathlib.Omega.{arith}
use borrow.Author.Tests.{leb-true}
use lib.Dec.{leb}
use lib.ListN.{length, get_or, length-append}
use lib.Seq.{sets, length-sets}
use Rattle.arithmetic.specs.Places.{all_of}
use Rattle.arithmetic.proofs.Places.{all_at}
use Rattle.arithmetic.proofs.SetsLaws.{sets_append}
use Rattle.limits.specs.Accepted.{azimuth_accepted}
use Rattle.tally.specs.LentSums.{Sums}
use Rattle.tally.specs.Tally.{cleared, added_sums}
use Rattle.tally.specs.Width.{fit_widths}
use Rattle.tally.proofs.TallySplit.{added_joined}
use Rattle.tally.proofs.TallyWidth.{GatesMost, from_nothing_fits}
use Rattle.placement.specs.Gate.{PlaceAnswer, entry_of}
use Rattle.scan.specs.declared.head.ScanHead.{ScanHead}
use Rattle.scan.specs.LentLists.{Lists}
use Rattle.scan.specs.Rays.{regular_rays}
use Rattle.scan.specs.Scan.{gates_of}
use Rattle.scan.specs.ScanRefusal.{quality_accepted}
use Rattle.scan_ledger.specs.ScanLedger.{gates_told}
use Rattle.sweep_checks.specs.RayGroup.{RayGroup}
use Rattle.accepted_take.specs.TakenLists.{group_ledger}
use Rattle.accepted_take.proofs.AcceptedGroup.{AcceptedGroup}
use Rattle.sweep_laws.specs.SweepSequence.{Sixteen, joined}
use Rattle.sweep_laws.proofs.JoinedRays.{all_joined, lengths_joined, told_joined, told_length}

-- what is told of the accepted rays' gates
abbrev pub told_so_far : (PlaceAnswer → ℕ) → ScanHead → RayGroup → List ℕ
told_so_far told head rays = gates_told told head (regular_rays head.gates rays.azimuths)

abbrev pub ledger_so_far : ScanHead → RayGroup → List ℕ
ledger_so_far head rays = told_so_far entry_of head rays

-- what is known of the accepted rays
pub record GoodRays (head : ScanHead) (rays : RayGroup) : Type 0 where
  pub rays_most : length rays.azimuths ≤ 720
  pub gates_most : head.gates ≤ 1000
  pub values_length : length rays.values ≡ length rays.azimuths * head.gates
  pub qualities_length : length rays.qualities ≡ length rays.azimuths * head.gates
  pub azimuths_good : all_of azimuth_accepted rays.azimuths ≡ true
  pub qualities_good : all_of quality_accepted rays.qualities ≡ true
  pub values_good : Sixteen rays.values

module _ {head : ScanHead} {rays : RayGroup} (good : GoodRays head rays) where
  pub values_most : (k : ℕ) → get_or rays.values k 0 ≤ 65535
  unfolding Sixteen
  values_most k = leb-true _ _ (all_at (λ value. leb value 65535) rays.values refl good.values_good k)

  pub qualities_most : (k : ℕ) → get_or rays.qualities k 0 ≤ 100
  unfolding quality_accepted
  qualities_most k = leb-true _ _ (all_at quality_accepted rays.qualities refl good.qualities_good k)

  -- from nothing, no count or sum passes its width
  pub rays_fit : (sums : Sums) → fit_widths (added_sums (ledger_so_far head rays) rays.values rays.qualities (cleared sums)) ≡ true
  rays_fit sums =
      let gates = mul-le-mul good.rays_most good.gates_most in
      let most : GatesMost (ledger_so_far head rays) rays.values rays.qualities = record {
        gates_most = omega (arith, told_length entry_of head head.gates rays.azimuths, gates);
        values_most = values_most;
        qualities_most = qualities_most;
      } in
      from_nothing_fits most sums

  -- another group behind them
  module _ {closed : Bool} {taken : ℕ} {group : RayGroup} {lists : Lists} (next : AcceptedGroup head closed taken group lists) (so_many : taken ≡ length rays.azimuths) where
    pub good_joined : Sixteen group.values → GoodRays head (joined rays group)
    unfolding joined Sixteen
    good_joined sixteen = record {
      rays_most = omega (arith, length-append rays.azimuths group.azimuths, next.rays_most, next.rays_limit);
      gates_most = good.gates_most;
      values_length = lengths_joined head.gates rays.azimuths group.azimuths rays.values group.values good.values_length next.values_length;
      qualities_length = lengths_joined head.gates rays.azimuths group.azimuths rays.qualities group.qualities good.qualities_length next.qualities_length;
      azimuths_good = all_joined azimuth_accepted rays.azimuths group.azimuths good.azimuths_good next.azimuths_good;
      qualities_good = all_joined quality_accepted rays.qualities group.qualities good.qualities_good next.qualities_good;
      values_good = all_joined (λ value. leb value 65535) rays.values group.values good.values_good sixteen;
    }

    pub told_behind : (told : PlaceAnswer → ℕ) (lent : List ℕ) → sets (sets lent 0 (told_so_far told head rays)) (taken * head.gates) (told_so_far told head group) ≡ sets lent 0 (told_so_far told head (joined rays group))
    unfolding joined
    told_behind told lent =
        ap (λ (n : ℕ). sets (sets lent 0 (told_so_far told head rays)) n (told_so_far told head group)) (ap (λ (n : ℕ). n * head.gates) so_many ∙ sym (told_length told head head.gates rays.azimuths) ∙ sym (zero-add _))
        ∙ sets_append lent 0 (told_so_far told head rays) (told_so_far told head group)
        ∙ ap (sets lent 0) (sym (told_joined told head head.gates rays.azimuths group.azimuths))

    pub sums_behind : (sums : Sums) → added_sums (group_ledger head group) group.values group.qualities (added_sums (ledger_so_far head rays) rays.values rays.qualities sums) ≡ added_sums (ledger_so_far head (joined rays group)) (joined rays group).values (joined rays group).qualities sums
    unfolding joined
    sums_behind sums =
        let length-is = sym (told_length entry_of head head.gates rays.azimuths) in
        sym (added_joined (ledger_so_far head rays) rays.values rays.qualities (group_ledger head group) group.values group.qualities (good.values_length ∙ length-is) (good.qualities_length ∙ length-is) sums)
        ∙ sym (ap (λ (l : List ℕ). added_sums l (rays.values ++ group.values) (rays.qualities ++ group.qualities) sums) (told_joined entry_of head head.gates rays.azimuths group.azimuths))

    -- a list with room for all rays announced has room for these, whatever was stored in it
    pub room_behind : (list lent stored : List ℕ) → length list ≡ gates_of head → list ≡ sets lent 0 stored → length (joined rays group).azimuths * head.gates ≤ length lent
    unfolding joined gates_of
    room_behind list lent stored exact is =
        let all : length (rays.azimuths ++ group.azimuths) ≤ head.rays = omega (arith, length-append rays.azimuths group.azimuths, next.rays_most) in
        omega (arith, mul-le-mul_right head.gates all, ap length is ∙ length-sets lent 0 stored)
