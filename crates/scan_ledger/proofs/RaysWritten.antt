-- Ray after ray is written behind the one before it. Assumes nothing.
use mathlib.Core.List.{List, ◌++◌, append_assoc, flat_map}
use mathlib.Core.Path.{◌≡◌, sym, ap, ◌∙◌}
use Prim.Native.Nat.{ℕ, suc, ◌+◌, ◌*◌, ◌-◌, ◌<◌, ◌≤◌}
use native.Mathlib.Nat.{mul-le-mul_right, suc-mul}
use native.Mathlib.Numerals.{add-one}
use native.Mathlib.Omega.{arith}
use borrow.Rule.Slice.PartMut.{mid_of, put_mid, mid_len}
use lib.ListN.{length, get_or, take, drop, drop_of_length-le}
use lib.Seq.{sets, sets-eq, drop-cons, drop-drop}
use Rattle.arithmetic.proofs.Places.{table_length}
use Rattle.arithmetic.proofs.SetsLaws.{sets_append, sets_whole}
use Rattle.placement.specs.declared.centres.Centres.{Centres}
use Rattle.placement.specs.SurveyTerms.{SurveyTerms}
use Rattle.placement.specs.Gate.{PlaceAnswer}
use Rattle.placement.specs.Survey.{surveyed_ray}
use Rattle.scan.specs.Rays.{ray_gates, all_gates, regular_rays}
use Rattle.scan.proofs.RayLaws.{gates_length, regular_gates}
use Rattle.scan_ledger.specs.LedgerRoom.{surveyed_gates}

-- a ray's stretch lies in ledger and marks
pub ray_end : (ray rays gates : ℕ) → ray < rays → ray * gates + gates ≤ rays * gates
ray_end ray rays gates h = omega (arith, mul-le-mul_right gates h)

-- a part of a list, written over
pub put_stored : (start places : ℕ) (list written : List ℕ) → length written ≡ places → start + places ≤ length list → put_mid start places list written ≡ sets list start written
put_stored start places list written e h =
    ap (λ (l : List ℕ). take start list ++ (written ++ l)) (drop-drop places start list ∙ ap (λ (n : ℕ). drop (start + n) list) (sym e)) ∙ sym (append_assoc (take start list) written _) ∙ sym (sets-eq written list start (omega arith))

module _ (told : PlaceAnswer → ℕ) (survey : SurveyTerms) (gates : ℕ) (centres : Centres) (azimuths : List ℕ) where
  -- the rays that are left to be written
  abbrev pub rest : ℕ → List ℕ
  rest ray = surveyed_gates told survey centres (regular_rays gates (drop ray azimuths))

  -- where a ray's gates are written
  abbrev pub stretch : ℕ → List ℕ → List ℕ
  stretch ray list = mid_of (ray * gates) (ray * gates + gates - ray * gates) list

  -- with the rays that are left stored behind what is written, the list is what was asked for
  abbrev pub WrittenTo : ℕ → List ℕ → List ℕ → Type 0
  WrittenTo ray lent list = sets list (ray * gates) (rest ray) ≡ sets lent 0 (rest 0)

  pub none_written : (list : List ℕ) → WrittenTo 0 list list
  none_written list = let none : 0 * gates ≡ 0 = omega arith in rw none

  -- a ray stored from any place on, with the rays that are left stored behind it
  pub next_ray : (ray start : ℕ) (before after goal : List ℕ) → ray < length azimuths → sets before start (rest ray) ≡ goal → after ≡ sets before start (surveyed_ray told survey centres (get_or azimuths ray 0) (start + gates - start)) → sets after (start + gates) (rest (ray + 1)) ≡ goal
  unfolding surveyed_gates all_gates flat_map ray_gates regular_rays surveyed_ray
  next_ray ray start before after goal h e w =
      let this = surveyed_ray told survey centres (get_or azimuths ray 0) gates in
      let others = rest (suc ray) in
      let same : start + gates - start ≡ gates = omega arith in
      rw (add-one ray, w, same)
      (ap (λ (n : ℕ). sets (sets before start this) (start + n) others) (sym (table_length _ gates))
      ∙ sets_append before start this others
      ∙ (rw (drop-cons azimuths ray 0 h) at e))

  pub all_rays : (ray start : ℕ) (after goal : List ℕ) → length azimuths ≤ ray → sets after start (rest ray) ≡ goal → after ≡ goal
  unfolding surveyed_gates all_gates flat_map regular_rays
  all_rays ray start after goal h e = rw (drop_of_length-le azimuths h) at e

  stretch_length : (ray : ℕ) (list : List ℕ) → ray < length azimuths → length azimuths * gates ≤ length list → length (stretch ray list) ≡ gates
  stretch_length ray list h s =
      let there : ray * gates + gates ≤ length list = omega (arith, ray_end ray (length azimuths) gates h) in
      mid_len (ray * gates) (ray * gates + gates) list there ∙ omega arith

  -- a ray told over the whole of its stretch
  pub stretch_told : (ray : ℕ) (ledger list : List ℕ) {written : List ℕ} → ray < length azimuths → length azimuths * gates ≤ length ledger → length azimuths * gates ≤ length list → written ≡ sets (stretch ray list) 0 (surveyed_ray told survey centres (get_or azimuths ray 0) (length (stretch ray ledger))) → written ≡ surveyed_ray told survey centres (get_or azimuths ray 0) (length (stretch ray list))
  unfolding surveyed_ray
  stretch_told ray ledger list h s t w =
      let same : length (stretch ray ledger) ≡ length (stretch ray list) = stretch_length ray ledger h s ∙ sym (stretch_length ray list h t) in
      w
      ∙ sets_whole (stretch ray list) (surveyed_ray told survey centres (get_or azimuths ray 0) (length (stretch ray ledger))) (table_length _ _ ∙ same)
      ∙ ap (surveyed_ray told survey centres (get_or azimuths ray 0)) same

  pub next_written : (ray : ℕ) (lent list : List ℕ) {written : List ℕ} → ray < length azimuths → length azimuths * gates ≤ length list → written ≡ surveyed_ray told survey centres (get_or azimuths ray 0) (length (stretch ray list)) → WrittenTo ray lent list → WrittenTo (ray + 1) lent (put_mid (ray * gates) (ray * gates + gates - ray * gates) list written)
  unfolding surveyed_ray
  next_written ray lent list {written} h s w before =
      let start = ray * gates in
      let as-many : length (stretch ray list) ≡ start + gates - start = stretch_length ray list h s ∙ omega arith in
      let size : length written ≡ start + gates - start = rw (w, as-many) (table_length _ _) in
      let there : start + (start + gates - start) ≤ length list = omega (arith, ray_end ray (length azimuths) gates h) in
      let stored = put_stored start (start + gates - start) list written size there ∙ ap (sets list start) (rw as-many at w) in
      let after = put_mid start (start + gates - start) list written in
      let place : (ray + 1) * gates ≡ start + gates = omega (arith, suc-mul ray gates) in
      ap (λ (n : ℕ). sets after n (rest (ray + 1))) place ∙ next_ray ray start list after (sets lent 0 (rest 0)) h before stored

  pub all_written : (ray : ℕ) (lent list : List ℕ) → ray ≡ length azimuths → WrittenTo ray lent list → list ≡ sets lent 0 (rest 0)
  unfolding surveyed_gates all_gates flat_map regular_rays
  all_written ray lent list h written = rw (drop_of_length-le azimuths {i = ray} (omega arith)) at written

  pub told_length : length (rest 0) ≡ length azimuths * gates
  unfolding surveyed_gates
  told_length = gates_length _ _ _ _ ∙ regular_gates gates azimuths

  -- where the list has no more places than the rays have gates, it is what is told of these
  pub told_whole : (list : List ℕ) → length list ≡ length azimuths * gates → sets list 0 (rest 0) ≡ rest 0
  told_whole list e = sets_whole list (rest 0) (told_length ∙ sym e)
