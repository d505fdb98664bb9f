-- Seven fields in order end within 163,892 bytes. So the first 163,893 bytes of a longer input decide its refusal number, and the program
-- `ledger` reads no more than these. Assumes nothing.
use mathlib.Core.Path.{◌≡◌, refl, sym, ap, ap₂, ◌∙◌}
use mathlib.Core.Bool.{Bool, true, false, cond}
use mathlib.Core.List.{List, [], ◌∷◌, ◌++◌}
use Prim.Native.Nat.{ℕ, zero, suc, ◌+◌, ◌*◌, ◌<◌, ◌≤◌}
use native.Mathlib.Omega.{arith}
use borrow.Author.Tests.{eqb-true, le-leb, ne_eqb}
use lib.Dec.{leb, eqb}
use lib.ListN.{length, get_or, length-append, get_or-append}
use Rattle.arithmetic.specs.Places.{sum_to}
use Rattle.arithmetic.proofs.Places.{sum_ext}
use Rattle.refusal.specs.Checks.{first_refusal}
use Rattle.scan.specs.Scan.{gates_of}
use Rattle.big_endian.specs.BigEndian.{number_at}
use Rattle.record_layout.specs.RecordPlaces.{rays_in, gates_in, grid_length, content_length, field_start, content_start, head_in}
use Rattle.record_layout.specs.RecordRefusal.{kind_accepted, weighting_accepted, content_accepted, field_refusal, fields_refusal, layout_refusal, record_refusal, head_refusal}
use Rattle.refusal.proofs.Then.{then_none, then_same}
use Rattle.big_endian.proofs.BigEndianLaws.{number_small}
use Rattle.record_contents.proofs.ContentLengths.{each_field}
use Rattle.record_layout.proofs.AcceptedRecord.{accepted_field, fields_accepted, accepted_layout}
use Rattle.round_trips.proofs.ReadThenWrite.{gates_most}

-- ---- where seven fields end at most

-- the most bytes of each content: a length has two bytes, so there are at most 16,383 azimuths, and at most 32,767 values and qualities
unfoldable most_content : ℕ → ℕ
most_content k = get_or (8 ∷ 12 ∷ 17 ∷ 1 ∷ 65532 ∷ 65534 ∷ 32767 ∷ []) k 0

-- where a field starts at most
unfoldable most_start : ℕ → ℕ
most_start n = sum_to (λ k. 3 + most_content k) n

-- seven headers and the contents: 163,892
abbrev pub most_bytes : ℕ
most_bytes = 21 + 8 + 12 + 17 + 1 + 65532 + 65534 + 32767

most_end : (k : ℕ) → k < 7 → most_start k + (3 + most_content k) ≤ most_bytes
unfolding most_start most_content sum_to
most_end =
    each_field (λ k. most_start k + (3 + most_content k) ≤ most_bytes)
    (omega arith) (omega arith) (omega arith) (omega arith) (omega arith) (omega arith) (omega arith)

grid_most : (bytes : List ℕ) → grid_length bytes ≤ 17
unfolding grid_length
grid_most bytes = go (eqb (number_at 2 bytes 27) 17)
  where
    go : (t : Bool) → cond t 17 9 ≤ 17
    go true = omega arith
    go false = omega arith

module _ (bytes : List ℕ) (small : (k : ℕ) → get_or bytes k 0 < 256) where
  -- a content whose length is right, behind fields that are not refused
  content_most : (k : ℕ) → k < 7 → fields_refusal bytes k ≡ 0 → number_at 2 bytes (field_start bytes k + 1) ≡ content_length bytes k → content_length bytes k ≤ most_content k
  unfolding content_length most_content gates_of head_in gates_in
  content_most =
      each_field (λ k. fields_refusal bytes k ≡ 0 → number_at 2 bytes (field_start bytes k + 1) ≡ content_length bytes k → content_length bytes k ≤ most_content k)
      (λ e s. omega arith)
      (λ e s. omega arith)
      (λ e s. grid_most bytes)
      (λ e s. omega arith)
      (λ e s. omega (arith, number_small 2 bytes (field_start bytes 4 + 1) small))
      (λ e s. omega (arith, number_small 2 bytes (field_start bytes 5 + 1) small))
      (λ e s. gates_most bytes small (accepted_field bytes 5 (fields_accepted bytes 6 e 5 (omega arith))))

  start_most : (n : ℕ) → n ≤ 7 → fields_refusal bytes n ≡ 0 → field_start bytes n ≤ most_start n
  unfolding fields_refusal field_start most_start sum_to
  start_most zero h e = omega arith
  start_most (suc n) h e =
      let parts = then_none _ _ e in
      omega (
        arith,
        start_most n (omega arith) parts.0,
        content_most n (omega arith) parts.0 (accepted_field bytes n parts.1).size,
      )

  -- seven fields that are not refused
  pub end_most : fields_refusal bytes 7 ≡ 0 → field_start bytes 7 ≤ most_bytes
  unfolding most_start most_content sum_to
  end_most e = start_most 7 (omega arith) e

-- ---- equal numbers, and equal checks

-- a number in the front of an input
number_same : (width : ℕ) (front rest : List ℕ) (at : ℕ) → at + width ≤ length front → number_at width (front ++ rest) at ≡ number_at width front at
unfolding number_at
number_same zero front rest at h = refl
number_same (suc width) front rest at h =
    ap₂ (λ (a b : ℕ). a * 256 + b) (number_same width front rest at (omega arith)) (get_or-append front rest 0 (at + width) (omega arith))

-- a number that is given unless a test passes; else that of the later checks
check_same : (number : ℕ) {a b : Bool} {later later' : ℕ} → a ≡ b → (b ≡ true → later ≡ later') → cond a later number ≡ cond b later' number
check_same number {a} {b} {later} {later'} e same = rw e (go b same)
  where
    go : (t : Bool) → (t ≡ true → later ≡ later') → cond t later number ≡ cond t later' number
    go true f = f refl
    go false f = refl

bytes_after : (bytes : List ℕ) → field_start bytes 7 < length bytes → eqb (length bytes) (field_start bytes 7) ≡ false
bytes_after bytes h = ne_eqb (length bytes) (field_start bytes 7) (λ e. omega arith)

-- ---- a front of more than the most bytes, and the whole input

module _ (front rest : List ℕ) (small : (k : ℕ) → get_or front k 0 < 256) (long : most_bytes < length front) where
  -- the numbers that the lengths depend on stand in the first 29 bytes
  grid_length_same : grid_length (front ++ rest) ≡ grid_length front
  unfolding grid_length
  grid_length_same = rw (number_same 2 front rest 27 (omega arith))

  content_length_same : (k : ℕ) → content_length (front ++ rest) k ≡ content_length front k
  unfolding content_length rays_in gates_in
  content_length_same k =
      rw (grid_length_same, number_same 2 front rest 14 (omega arith), number_same 2 front rest 16 (omega arith))

  start_same : (k : ℕ) → field_start (front ++ rest) k ≡ field_start front k
  unfolding field_start
  start_same k = sum_ext _ _ k (λ j h. ap (λ (n : ℕ). 3 + n) (content_length_same j))

  content_start_same : (k : ℕ) → content_start (front ++ rest) k ≡ content_start front k
  unfolding content_start
  content_start_same k = ap (λ (n : ℕ). n + 3) (start_same k)

  -- a place in the front is there in both
  there_same : {place place' : ℕ} → place ≡ place' → place' ≤ length front → leb place (length (front ++ rest)) ≡ leb place' (length front)
  there_same {place} {place'} e h =
      le-leb place (length (front ++ rest)) (omega (arith, length-append front rest)) ∙ sym (le-leb place' (length front) h)

  tag_same : (k : ℕ) → content_start front k ≤ length front → get_or (front ++ rest) (field_start (front ++ rest) k) 0 ≡ get_or front (field_start front k) 0
  unfolding content_start
  tag_same k h = rw (start_same k, get_or-append front rest 0 (field_start front k) (omega arith))

  size_same : (k : ℕ) → content_start front k ≤ length front → number_at 2 (front ++ rest) (field_start (front ++ rest) k + 1) ≡ number_at 2 front (field_start front k + 1)
  unfolding content_start
  size_same k h = rw (start_same k, number_same 2 front rest (field_start front k + 1) (omega arith))

  kind_same : kind_accepted (front ++ rest) ≡ kind_accepted front
  unfolding kind_accepted
  kind_same = rw (get_or-append front rest 0 29 (omega arith), grid_length_same)

  weighting_place : content_start front 3 < length front
  unfolding content_start field_start content_length sum_to
  weighting_place = omega (arith, grid_most front)

  weighting_same : weighting_accepted (front ++ rest) ≡ weighting_accepted front
  unfolding weighting_accepted
  weighting_same = rw (content_start_same 3, get_or-append front rest 0 (content_start front 3) weighting_place)

  content_same : (k : ℕ) → content_accepted (front ++ rest) k ≡ content_accepted front k
  unfolding content_accepted
  content_same k = rw (kind_same, weighting_same)

  -- behind fields that are not refused a header ends in the front, and so does a content whose length is right
  content_room : (k : ℕ) → k < 7 → fields_refusal front k ≡ 0 → content_start front k + most_content k ≤ length front
  unfolding content_start
  content_room k h e = omega (arith, start_most front small k (omega arith) e, most_end k h)

  field_same : (k : ℕ) → k < 7 → fields_refusal front k ≡ 0 → field_refusal (front ++ rest) k ≡ field_refusal front k
  unfolding field_refusal first_refusal
  field_same k h e =
      let size = content_length_same k in
      let room : content_start front k + most_content k ≤ length front = content_room k h e in
      let header : content_start front k ≤ length front = omega arith in
      check_same 11 (there_same (content_start_same k) header) (λ _.
      check_same 12 (ap (λ (n : ℕ). eqb n (k + 1)) (tag_same k header)) (λ _.
      check_same 13 (ap₂ eqb (size_same k header) size) (λ right.
      check_same 11 (there_same (ap₂ (λ (n m : ℕ). n + m) (content_start_same k) size) (omega (arith, content_most front small k h e (eqb-true _ _ right)))) (λ _.
      check_same 13 (content_same k) (λ _. refl)))))

  fields_same : (n : ℕ) → n ≤ 7 → fields_refusal (front ++ rest) n ≡ fields_refusal front n
  unfolding fields_refusal
  fields_same zero h = refl
  fields_same (suc n) h = then_same (fields_same n (omega arith)) (field_same n (omega arith))

  -- bytes stand after field 7 in both
  layout_same : layout_refusal (front ++ rest) ≡ layout_refusal front
  unfolding layout_refusal first_refusal
  layout_same =
      then_same (fields_same 7 (omega arith)) (λ e.
      let end : field_start front 7 ≤ most_bytes = end_most front small e in
      let whole-end : field_start (front ++ rest) 7 ≡ field_start front 7 = start_same 7 in
      check_same 14 (bytes_after (front ++ rest) (omega (arith, length-append front rest)) ∙ sym (bytes_after front (omega arith))) (λ _. refl))

  -- so the checks after the layout are not reached
  layout_refused : layout_refusal front ≡ 0 → ⊥
  unfolding layout_refusal
  layout_refused e = omega (arith, (accepted_layout front e).whole, end_most front small (then_none _ _ e).0)

-- the number of the whole input is that of its front
pub long_refusal : (front rest : List ℕ) → ((k : ℕ) → get_or front k 0 < 256) → most_bytes < length front → head_refusal (front ++ rest) ≡ head_refusal front
unfolding head_refusal record_refusal
long_refusal front rest small long =
    then_same (layout_same front rest small long) (λ e. absurd (layout_refused front rest small long e))
