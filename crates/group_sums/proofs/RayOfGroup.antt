-- A ray of a group: its gates are a part of the group's, and are added onto those of the rays before it. Assumes nothing.
use mathlib.Core.Path.{◌≡◌, sym, ap, ◌∙◌}
use mathlib.Core.List.{List}
use Prim.Native.Nat.{ℕ, ◌+◌, ◌*◌, ◌-◌, ◌<◌, ◌≤◌}
use native.Mathlib.Nat.{zero-mul, suc-mul}
use native.Mathlib.Numerals.{add-one}
use native.Mathlib.Omega.{arith}
use lib.ListN.{length, get_or, take, drop, length-drop}
use lib.Seq.{length-take-le, get_or-take, get_or-drop}
use Rattle.arithmetic.proofs.Places.{table_length, table_at}
use Rattle.std.proofs.Common.{subst}
use Rattle.placement.specs.declared.centres.Centres.{Centres}
use Rattle.placement.specs.Centres.{centre_of}
use Rattle.placement.specs.SurveyTerms.{SurveyTerms}
use Rattle.placement.specs.Gate.{entry_of}
use Rattle.placement.specs.Survey.{surveyed_gate, surveyed_ray}
use Rattle.tally.specs.LentSums.{Sums}
use Rattle.tally.specs.Tally.{added_first, added_sums}
use Rattle.tally.proofs.TallyTurn.{added_length}
use Rattle.tally.proofs.TallySplit.{PartOf, added_on}
use Rattle.scan.specs.Rays.{regular_rays}
use Rattle.scan.proofs.RayLaws.{gate_at, gates_length, regular_gates}
use Rattle.scan_ledger.specs.LedgerRoom.{surveyed_gates}
use Rattle.scan_ledger.proofs.RaysWritten.{ray_end}
use Rattle.ray_sums.specs.RaySums.{RayAddable, RayRanges}
use Rattle.group_sums.specs.GroupRoom.{GroupAddable}

pub next_start : (rays ray gates : ℕ) → rays ≡ ray + 1 → rays * gates ≡ ray * gates + gates
next_start rays ray gates e = ap (λ (n : ℕ). n * gates) (e ∙ add-one ray) ∙ omega (arith, suc-mul ray gates)

pub no_rays_lem : (ray gates : ℕ) → ray ≡ 0 → ray * gates ≡ 0
no_rays_lem ray gates e = ap (λ (n : ℕ). n * gates) e ∙ zero-mul gates

abbrev pub group_ledger : SurveyTerms → Centres → ℕ → List ℕ → List ℕ
group_ledger survey centres gates azimuths = surveyed_gates entry_of survey centres (regular_rays gates azimuths)

pub group_length : (survey : SurveyTerms) (centres : Centres) (gates : ℕ) (azimuths : List ℕ) → length (group_ledger survey centres gates azimuths) ≡ length azimuths * gates
unfolding surveyed_gates
group_length survey centres gates azimuths = gates_length _ centres.first centres.spacing (regular_rays gates azimuths) ∙ regular_gates gates azimuths

-- the entries of one of its rays
abbrev pub ray_of : SurveyTerms → Centres → ℕ → List ℕ → ℕ → List ℕ
ray_of survey centres gates azimuths ray = surveyed_ray entry_of survey centres (get_or azimuths ray 0) gates

-- a part of a list, from a place up to another
abbrev pub part_of : ℕ → ℕ → List ℕ → List ℕ
part_of start end list = take (end - start) (drop start list)

part_length : (start end : ℕ) (list : List ℕ) → start ≤ end → end ≤ length list → length (part_of start end list) ≡ end - start
part_length start end list h i = length-take-le (end - start) (drop start list) (omega (arith, length-drop start list))

-- sums onto which gates are added keep their lengths
module _ (ledger values qualities : List ℕ) (n : ℕ) (before : Sums) {sums : Sums} (e : sums ≡ added_first ledger values qualities n before) where
  pub counts_kept : length sums.counts ≡ length before.counts
  unfolding added_first
  counts_kept = ap (λ (s : Sums). length s.counts) e ∙ added_length _ before.counts

  pub quality_sums_kept : length sums.quality_sums ≡ length before.quality_sums
  unfolding added_first
  quality_sums_kept = ap (λ (s : Sums). length s.quality_sums) e ∙ added_length _ before.quality_sums

  pub value_sums_kept : length sums.value_sums ≡ length before.value_sums
  unfolding added_first
  value_sums_kept = ap (λ (s : Sums). length s.value_sums) e ∙ added_length _ before.value_sums

  pub weighted_sums_kept : length sums.weighted_sums ≡ length before.weighted_sums
  unfolding added_first
  weighted_sums_kept = ap (λ (s : Sums). length s.weighted_sums) e ∙ added_length _ before.weighted_sums

-- room for the group's gates is room for them behind gates that were added
pub same_room : {centres : Centres} {gates : ℕ} {azimuths values qualities : List ℕ} {sums₀ : Sums} → GroupAddable centres gates azimuths values qualities sums₀ → (ledger : List ℕ) (n : ℕ) {sums : Sums} → sums ≡ added_first ledger values qualities n sums₀ → GroupAddable centres gates azimuths values qualities sums
same_room room ledger n e = record {
  in_range = room.in_range;
  values_length = room.values_length;
  qualities_length = room.qualities_length;
  quality_sums_length = quality_sums_kept _ _ _ _ _ e ∙ room.quality_sums_length ∙ sym (counts_kept _ _ _ _ _ e);
  value_sums_length = value_sums_kept _ _ _ _ _ e ∙ room.value_sums_length ∙ sym (counts_kept _ _ _ _ _ e);
  weighted_sums_length = weighted_sums_kept _ _ _ _ _ e ∙ room.weighted_sums_length ∙ sym (counts_kept _ _ _ _ _ e);
}

module _ (survey : SurveyTerms) (centres : Centres) (gates : ℕ) (azimuths values qualities : List ℕ) (ray start end : ℕ) (inside : ray < length azimuths) (starts : start ≡ ray * gates) (ends : end ≡ start + gates) where
  pub this_length : length (ray_of survey centres gates azimuths ray) ≡ gates
  unfolding surveyed_ray
  this_length = table_length _ gates

  part_at : (list : List ℕ) (k : ℕ) → k < gates → get_or (part_of start end list) k 0 ≡ get_or list (start + k) 0
  part_at list k h = get_or-take (end - start) (drop start list) k 0 (omega arith) ∙ get_or-drop start list k 0

  entry_at : (k : ℕ) → k < gates → get_or (ray_of survey centres gates azimuths ray) k 0 ≡ get_or (group_ledger survey centres gates azimuths) (start + k) 0
  unfolding surveyed_ray surveyed_gates
  entry_at k h =
      table_at (λ g. surveyed_gate entry_of survey (get_or azimuths ray 0) (centre_of centres g)) gates k h
      ∙ sym (ap (λ (n : ℕ). get_or (group_ledger survey centres gates azimuths) (n + k) 0) starts ∙ gate_at _ centres.first centres.spacing gates azimuths ray k inside h)

  is_part : PartOf (group_ledger survey centres gates azimuths) values qualities start gates (ray_of survey centres gates azimuths ray) (part_of start end values) (part_of start end qualities)
  is_part = record { same_entries = entry_at; same_values = part_at values; same_qualities = part_at qualities }

  -- added onto the rays before it
  pub added_behind : (sums : Sums) → added_sums (ray_of survey centres gates azimuths ray) (part_of start end values) (part_of start end qualities) (added_first (group_ledger survey centres gates azimuths) values qualities start sums) ≡ added_first (group_ledger survey centres gates azimuths) values qualities (start + gates) sums
  unfolding added_sums
  added_behind sums = rw this_length (added_on is_part sums)

  -- room for the ray's gates, where there is room for the group's
  pub ray_room : {entries : List ℕ} {sums₀ sums : Sums} → GroupAddable centres gates azimuths values qualities sums₀ → length entries ≡ gates → length sums.quality_sums ≡ length sums.counts → length sums.value_sums ≡ length sums.counts → length sums.weighted_sums ≡ length sums.counts → RayAddable centres entries (part_of start end values) (part_of start end qualities) sums
  ray_room room same q v w =
      let behind = ray_end ray (length azimuths) gates inside in
      record {
        in_range = subst (RayRanges centres) (sym same) room.in_range;
        values_length = part_length start end values (omega arith) (omega (arith, room.values_length)) ∙ omega arith;
        qualities_length = part_length start end qualities (omega arith) (omega (arith, room.qualities_length)) ∙ omega arith;
        quality_sums_length = q;
        value_sums_length = v;
        weighted_sums_length = w;
      }
