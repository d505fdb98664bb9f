-- Rays added one after the other: what the loop keeps, and one turn of it. Assumes nothing.
use mathlib.Core.Path.{◌≡◌, refl, sym, ap, ◌∙◌}
use mathlib.Core.Bool.{Bool, true, false}
use mathlib.Core.List.{List}
use Prim.Native.Nat.{ℕ, ◌+◌, ◌*◌, ◌<◌}
use native.Mathlib.Omega.{arith}
use denote.Triple.Both.{Both}
use lib.ListN.{length}
use Rattle.placement.specs.declared.centres.Centres.{Centres}
use Rattle.placement.specs.SurveyTerms.{SurveyTerms}
use Rattle.tally.specs.LentSums.{Sums}
use Rattle.tally.specs.Tally.{added_first, added_sums}
use Rattle.tally.specs.Width.{most32, most64, fit_widths, Fitting}
use Rattle.tally.proofs.WidthLaws.{within_true, all_fit}
use Rattle.tally.proofs.TallySplit.{added_none}
use Rattle.take_out.proofs.TakenOut.{sums_same}
use Rattle.ray_sums.specs.RaySums.{RayAddable, AddsAll}
use Rattle.group_sums.specs.GroupRoom.{GroupAddable}
use Rattle.group_sums.proofs.GroupFits.{more_fail}
use Rattle.scan_ledger.proofs.RaysWritten.{ray_end}
use Rattle.group_sums.proofs.RayOfGroup.{group_ledger, group_length, ray_of, part_of, counts_kept, quality_sums_kept, value_sums_kept, weighted_sums_kept, added_behind, ray_room}

-- the first n gates are added onto the sums that came in, and no count or sum passes its width
pub record RaysSoFar (ledger values qualities : List ℕ) (n : ℕ) (sums₀ sums : Sums) : Type 0 where
  pub so_far : sums ≡ added_first ledger values qualities n sums₀
  pub fits : fit_widths sums ≡ true
  pub same_counts : length sums.counts ≡ length sums₀.counts
  pub same_quality_sums : length sums.quality_sums ≡ length sums₀.quality_sums
  pub same_value_sums : length sums.value_sums ≡ length sums₀.value_sums
  pub same_weighted_sums : length sums.weighted_sums ≡ length sums₀.weighted_sums

module _ {ledger values qualities : List ℕ} where
  pub none_yet : {sums : Sums} → Fitting sums → RaysSoFar ledger values qualities 0 sums sums
  none_yet {sums} fit = record {
    so_far = sym (added_none ledger values qualities sums);
    fits = all_fit sums (within_true most32 _ (λ cell i. fit.counts_fit cell)) (within_true most32 _ (λ cell i. fit.quality_sums_fit cell)) (within_true most64 _ (λ cell i. fit.value_sums_fit cell)) (within_true most64 _ (λ cell i. fit.weighted_sums_fit cell));
    same_counts = refl;
    same_quality_sums = refl;
    same_value_sums = refl;
    same_weighted_sums = refl;
  }

  pub all_rays : {n : ℕ} {sums : Both Sums Sums} → RaysSoFar ledger values qualities n sums.entry sums.exit → n ≡ length ledger → AddsAll ledger values qualities sums true
  unfolding added_sums
  all_rays {n} {sums} now e =
      let all : sums.exit ≡ added_first ledger values qualities (length ledger) sums.entry = now.so_far ∙ rw e in
      record { the_answer = sym now.fits ∙ ap fit_widths all; the_sums = all }

  -- the rays before one without room are taken out again
  pub no_ray : (n : ℕ) {sums : Both Sums Sums} {left : Sums} → left ≡ added_first ledger values qualities n sums.entry → left ≡ added_first ledger values qualities n sums.exit → fit_widths (added_sums ledger values qualities sums.entry) ≡ false → AddsAll ledger values qualities sums false
  no_ray n {sums} e f none = record {
    the_answer = sym none;
    the_sums = sums_same ledger values qualities n sums.exit sums.entry (sym f ∙ e);
  }

module _ (survey : SurveyTerms) (centres : Centres) (gates : ℕ) (azimuths values qualities : List ℕ) (ray start end : ℕ) (inside : ray < length azimuths) (starts : start ≡ ray * gates) (ends : end ≡ start + gates) where
  abbrev this_ray : List ℕ
  this_ray = ray_of survey centres gates azimuths ray

  module _ {sums₀ sums : Sums} (now : RaysSoFar (group_ledger survey centres gates azimuths) values qualities start sums₀ sums) where
    pub added_room : {entries : List ℕ} → GroupAddable centres gates azimuths values qualities sums₀ → length entries ≡ gates → RayAddable centres entries (part_of start end values) (part_of start end qualities) sums
    added_room room same =
        ray_room survey centres gates azimuths values qualities ray start end inside starts ends room same
        (now.same_quality_sums ∙ room.quality_sums_length ∙ sym now.same_counts)
        (now.same_value_sums ∙ room.value_sums_length ∙ sym now.same_counts)
        (now.same_weighted_sums ∙ room.weighted_sums_length ∙ sym now.same_counts)

    with_ray : added_sums this_ray (part_of start end values) (part_of start end qualities) sums ≡ added_first (group_ledger survey centres gates azimuths) values qualities end sums₀
    with_ray = ap (added_sums this_ray (part_of start end values) (part_of start end qualities)) now.so_far ∙ added_behind survey centres gates azimuths values qualities ray start end inside starts ends sums₀ ∙ rw ends

    module _ {next : Sums} {added : Bool} (adds : AddsAll this_ray (part_of start end values) (part_of start end qualities) (record { entry = sums; exit = next }) added) where
      pub ray_added : added ≡ true → RaysSoFar (group_ledger survey centres gates azimuths) values qualities end sums₀ next
      ray_added was =
          let new : next ≡ added_sums this_ray (part_of start end values) (part_of start end qualities) sums = rw was at adds.the_sums in
          let all = new ∙ with_ray in
          record {
            so_far = all;
            fits = ap fit_widths new ∙ sym adds.the_answer ∙ was;
            same_counts = counts_kept _ _ _ _ _ all;
            same_quality_sums = quality_sums_kept _ _ _ _ _ all;
            same_value_sums = value_sums_kept _ _ _ _ _ all;
            same_weighted_sums = weighted_sums_kept _ _ _ _ _ all;
          }

      -- a ray that has no room leaves the sums of the rays before it, and the whole group has none
      pub ray_left : added ≡ false → next ≡ added_first (group_ledger survey centres gates azimuths) values qualities start sums₀
      ray_left was = let same : next ≡ sums = rw was at adds.the_sums in same ∙ now.so_far

      pub none_fit : added ≡ false → fit_widths (added_sums (group_ledger survey centres gates azimuths) values qualities sums₀) ≡ false
      unfolding added_sums
      none_fit was =
          let behind = ray_end ray (length azimuths) gates inside in
          more_fail (group_ledger survey centres gates azimuths) values qualities end (length (group_ledger survey centres gates azimuths)) (omega (arith, group_length survey centres gates azimuths)) sums₀
          (ap fit_widths (sym with_ray) ∙ sym adds.the_answer ∙ was)
