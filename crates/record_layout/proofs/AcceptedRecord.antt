-- What a record has where nothing of it is refused. Assumes nothing.
use mathlib.Core.Path.{◌≡◌, refl, sym, subst}
use mathlib.Core.Bool.{Bool, true}
use mathlib.Core.List.{List}
use mathlib.Core.Logic.{◌⊎◌, inl, inr}
use Prim.Native.Nat.{ℕ, zero, suc, ◌+◌, ◌<◌, ◌≤◌}
use native.Mathlib.Nat.{eq-or-lt_of_le, le_of_suc-le-suc}
use native.Mathlib.Omega.{arith}
use borrow.Author.Tests.{leb-true, eqb-true, le-leb, eq-eqb}
use lib.ListN.{length, get_or}
use Rattle.arithmetic.specs.Places.{all_of}
use Rattle.limits.specs.Accepted.{azimuth_accepted}
use Rattle.refusal.specs.Checks.{first_refusal}
use Rattle.scan.specs.ScanRefusal.{quality_accepted, scan_refusal}
use Rattle.scan.proofs.AcceptedScan.{AcceptedNumbers, accepted_numbers}
use Rattle.refusal.proofs.CheckLaws.{passed}
use Rattle.big_endian.specs.BigEndian.{number_at}
use Rattle.record_layout.specs.RecordPlaces.{content_length, field_start, content_start, head_in, azimuths_in, qualities_in, scan_in}
use Rattle.record_layout.specs.RecordLists.{RecordLists}
use Rattle.record_layout.specs.RecordRefusal.{content_accepted, field_refusal, fields_refusal, layout_refusal, record_refusal, head_refusal, read_refusal}
use Rattle.refusal.proofs.Then.{then_none, then_zero}

-- ---- the layout

pub record AcceptedField (bytes : List ℕ) (k : ℕ) : Type 0 where
  pub header_there : content_start bytes k ≤ length bytes
  pub tag : get_or bytes (field_start bytes k) 0 ≡ k + 1
  pub size : number_at 2 bytes (field_start bytes k + 1) ≡ content_length bytes k
  pub content_there : content_start bytes k + content_length bytes k ≤ length bytes
  pub content_passes : content_accepted bytes k ≡ true

pub accepted_field : (bytes : List ℕ) (k : ℕ) → field_refusal bytes k ≡ 0 → AcceptedField bytes k
unfolding field_refusal first_refusal
accepted_field bytes k e =
    let header = passed _ 10 _ e in
    let tag = passed _ 11 _ header.1 in
    let size = passed _ 12 _ tag.1 in
    let content = passed _ 10 _ size.1 in
    record {
      header_there = leb-true _ _ header.0;
      tag = eqb-true _ _ tag.0;
      size = eqb-true _ _ size.0;
      content_there = leb-true _ _ content.0;
      content_passes = (passed _ 12 _ content.1).0;
    }

pub field_none : (bytes : List ℕ) (k : ℕ) → AcceptedField bytes k → field_refusal bytes k ≡ 0
unfolding field_refusal first_refusal
field_none bytes k field =
    rw (le-leb _ _ field.header_there, eq-eqb _ _ field.tag, eq-eqb _ _ field.size, le-leb _ _ field.content_there, field.content_passes)

pub fields_accepted : (bytes : List ℕ) (n : ℕ) → fields_refusal bytes n ≡ 0 → (k : ℕ) → k < n → field_refusal bytes k ≡ 0
unfolding fields_refusal
fields_accepted bytes zero e k h = absurd (omega arith)
fields_accepted bytes (suc n) e k h =
    pick (eq-or-lt_of_le (le_of_suc-le-suc h)) (then_none _ _ e).1 (λ l. fields_accepted bytes n (then_none _ _ e).0 k l)
  where
    pick : (k ≡ n) ⊎ (k < n) → field_refusal bytes n ≡ 0 → (k < n → field_refusal bytes k ≡ 0) → field_refusal bytes k ≡ 0
    pick (inl q) last before = subst (λ (j : ℕ). field_refusal bytes j ≡ 0) (sym q) last
    pick (inr l) last before = before l

fields_none : (bytes : List ℕ) (n : ℕ) → ((k : ℕ) → k < n → field_refusal bytes k ≡ 0) → fields_refusal bytes n ≡ 0
unfolding fields_refusal
fields_none bytes zero none = refl
fields_none bytes (suc n) none = then_zero (fields_none bytes n (λ k h. none k (omega arith))) (none n (omega arith))

pub record AcceptedLayout (bytes : List ℕ) : Type 0 where
  pub field : (k : ℕ) → k < 7 → AcceptedField bytes k
  pub whole : length bytes ≡ field_start bytes 7

pub accepted_layout : (bytes : List ℕ) → layout_refusal bytes ≡ 0 → AcceptedLayout bytes
unfolding layout_refusal first_refusal
accepted_layout bytes e =
    let parts = then_none _ _ e in
    record {
      field = λ k h. accepted_field bytes k (fields_accepted bytes 7 parts.0 k h);
      whole = eqb-true _ _ (passed _ 13 _ parts.1).0;
    }

pub layout_none : (bytes : List ℕ) → AcceptedLayout bytes → layout_refusal bytes ≡ 0
unfolding layout_refusal first_refusal
layout_none bytes layout =
    then_zero (fields_none bytes 7 (λ k h. field_none bytes k (layout.field k h))) (rw (eq-eqb _ _ layout.whole))

-- ---- the whole record

pub record AcceptedRecord (bytes : List ℕ) (exact : Bool) : Type 0 where
  pub layout : AcceptedLayout bytes
  pub number : scan_refusal (scan_in bytes) exact ≡ 0

pub accepted_record : (bytes : List ℕ) (exact : Bool) → record_refusal bytes exact ≡ 0 → AcceptedRecord bytes exact
unfolding record_refusal
accepted_record bytes exact e =
    let parts = then_none _ _ e in
    record { layout = accepted_layout bytes parts.0; number = parts.1 }

-- so its numbers and lists are accepted
pub record_numbers : (bytes : List ℕ) (exact : Bool) → record_refusal bytes exact ≡ 0 → AcceptedNumbers (head_in bytes) exact (all_of azimuth_accepted (azimuths_in bytes)) (all_of quality_accepted (qualities_in bytes))
unfolding scan_refusal scan_in
record_numbers bytes exact e = accepted_numbers (head_in bytes) exact _ _ (accepted_record bytes exact e).number

-- where the reader refuses nothing, the calls that lend no lists refuse nothing either
pub read_accepted : (bytes : List ℕ) (lists : RecordLists) → read_refusal bytes lists ≡ 0 → head_refusal bytes ≡ 0
unfolding read_refusal head_refusal
read_accepted bytes lists e = subst (λ (t : Bool). record_refusal bytes t ≡ 0) (record_numbers bytes _ e).lengths_pass e
