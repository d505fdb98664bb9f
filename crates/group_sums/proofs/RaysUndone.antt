-- Rays taken out again, the last first: what the loop keeps, and one turn of it. Assumes nothing.
use mathlib.Core.Path.{◌≡◌, refl, sym, ap, ◌∙◌}
use mathlib.Core.List.{List}
use Prim.Native.Nat.{ℕ, ◌+◌, ◌*◌, ◌<◌}
use lib.ListN.{length}
use Rattle.placement.specs.declared.centres.Centres.{Centres}
use Rattle.placement.specs.SurveyTerms.{SurveyTerms}
use Rattle.tally.specs.LentSums.{Sums}
use Rattle.tally.specs.Tally.{added_first, added_sums}
use Rattle.tally.proofs.TallySplit.{added_none}
use Rattle.take_out.specs.TakeOutRoom.{AddedBefore}
use Rattle.take_out.proofs.TakenOut.{sums_same}
use Rattle.ray_sums.specs.RaySums.{RayAddable}
use Rattle.group_sums.specs.GroupRoom.{GroupAddable, RaysAdded}
use Rattle.group_sums.proofs.RayOfGroup.{group_ledger, ray_of, part_of, counts_kept, quality_sums_kept, value_sums_kept, weighted_sums_kept, this_length, added_behind, ray_room}

-- some sums, with the first m gates added, are those that came in; with the first n gates added, they are those that are left
pub record RaysUndone (ledger values qualities : List ℕ) (m n : ℕ) (sums₀ sums : Sums) : Type 0 where
  pub before : Sums
  pub added_then : sums₀ ≡ added_first ledger values qualities m before
  pub left : sums ≡ added_first ledger values qualities n before
  pub same_counts : length sums.counts ≡ length sums₀.counts
  pub same_quality_sums : length sums.quality_sums ≡ length sums₀.quality_sums
  pub same_value_sums : length sums.value_sums ≡ length sums₀.value_sums
  pub same_weighted_sums : length sums.weighted_sums ≡ length sums₀.weighted_sums

module _ {ledger values qualities : List ℕ} where
  pub none_undone : {n : ℕ} {sums : Sums} → RaysAdded ledger values qualities n sums → RaysUndone ledger values qualities n n sums sums
  none_undone a = record { before = a.before; added_then = a.added_then; left = a.added_then; same_counts = refl; same_quality_sums = refl; same_value_sums = refl; same_weighted_sums = refl }

  pub all_undone : {m n : ℕ} {sums₀ sums : Sums} → RaysUndone ledger values qualities m n sums₀ sums → n ≡ 0 → sums₀ ≡ added_first ledger values qualities m sums
  all_undone {m} {n} {sums₀} {sums} u e =
      let same : sums ≡ u.before = u.left ∙ rw e (added_none ledger values qualities u.before) in
      u.added_then ∙ ap (added_first ledger values qualities m) (sym same)

module _ (survey : SurveyTerms) (centres : Centres) (gates : ℕ) (azimuths values qualities : List ℕ) (ray start end : ℕ) (inside : ray < length azimuths) (starts : start ≡ ray * gates) (ends : end ≡ start + gates) where
  abbrev this_ray : List ℕ
  this_ray = ray_of survey centres gates azimuths ray

  module _ {m n : ℕ} {sums₀ sums : Sums} (u : RaysUndone (group_ledger survey centres gates azimuths) values qualities m n sums₀ sums) (last : n ≡ start + gates) where
    held_then : sums ≡ added_sums this_ray (part_of start end values) (part_of start end qualities) (added_first (group_ledger survey centres gates azimuths) values qualities start u.before)
    held_then = u.left ∙ rw last (sym (added_behind survey centres gates azimuths values qualities ray start end inside starts ends u.before))

    pub undone_room : {entries : List ℕ} → GroupAddable centres gates azimuths values qualities sums₀ → length entries ≡ gates → RayAddable centres entries (part_of start end values) (part_of start end qualities) sums
    undone_room room same =
        ray_room survey centres gates azimuths values qualities ray start end inside starts ends room same
        (u.same_quality_sums ∙ room.quality_sums_length ∙ sym u.same_counts)
        (u.same_value_sums ∙ room.value_sums_length ∙ sym u.same_counts)
        (u.same_weighted_sums ∙ room.weighted_sums_length ∙ sym u.same_counts)

    -- the ray that was added last can be taken out
    pub last_added : {entries : List ℕ} → RayAddable centres entries (part_of start end values) (part_of start end qualities) sums → length entries ≡ gates → AddedBefore this_ray (part_of start end values) (part_of start end qualities) sums
    last_added room same =
        let kept = u.left in
        record {
          before = added_first (group_ledger survey centres gates azimuths) values qualities start u.before;
          addable = record {
            values_length = room.values_length ∙ same ∙ sym (this_length survey centres gates azimuths values qualities ray start end inside starts ends);
            qualities_length = room.qualities_length ∙ same ∙ sym (this_length survey centres gates azimuths values qualities ray start end inside starts ends);
            quality_sums_length = quality_sums_kept _ _ _ _ _ refl ∙ sym (quality_sums_kept _ _ _ _ _ kept) ∙ room.quality_sums_length ∙ counts_kept _ _ _ _ _ kept ∙ sym (counts_kept _ _ _ _ _ refl);
            value_sums_length = value_sums_kept _ _ _ _ _ refl ∙ sym (value_sums_kept _ _ _ _ _ kept) ∙ room.value_sums_length ∙ counts_kept _ _ _ _ _ kept ∙ sym (counts_kept _ _ _ _ _ refl);
            weighted_sums_length = weighted_sums_kept _ _ _ _ _ refl ∙ sym (weighted_sums_kept _ _ _ _ _ kept) ∙ room.weighted_sums_length ∙ counts_kept _ _ _ _ _ kept ∙ sym (counts_kept _ _ _ _ _ refl);
          };
          added_then = held_then;
        }

    -- and leaves the sums of the rays before it
    pub last_undone : {next : Sums} → sums ≡ added_sums this_ray (part_of start end values) (part_of start end qualities) next → RaysUndone (group_ledger survey centres gates azimuths) values qualities m start sums₀ next
    unfolding added_sums
    last_undone {next} e =
        let left : next ≡ added_first (group_ledger survey centres gates azimuths) values qualities start u.before = sums_same this_ray (part_of start end values) (part_of start end qualities) (length this_ray) next _ (sym e ∙ held_then) in
        record {
          before = u.before;
          added_then = u.added_then;
          left = left;
          same_counts = sym (counts_kept _ _ _ _ _ e) ∙ u.same_counts;
          same_quality_sums = sym (quality_sums_kept _ _ _ _ _ e) ∙ u.same_quality_sums;
          same_value_sums = sym (value_sums_kept _ _ _ _ _ e) ∙ u.same_value_sums;
          same_weighted_sums = sym (weighted_sums_kept _ _ _ _ _ e) ∙ u.same_weighted_sums;
        }
