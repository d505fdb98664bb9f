-- A turn of the loop that takes gates out, for one list, over the share that a gate gives to its cell. Assumes nothing.
use mathlib.Core.Path.{◌≡◌, sym, ap, ◌∙◌}
use mathlib.Core.Bool.{true, false}
use mathlib.Core.List.{List}
use Prim.Native.Nat.{ℕ, ◌+◌, ◌<◌, ◌≤◌}
use native.Mathlib.Omega.{arith}
use lib.ListN.{length, length-set, set, get_or}
use Rattle.arithmetic.proofs.Places.{table_set}
use Rattle.tally.specs.Gates.{is_measured}
use Rattle.tally.specs.Tally.{sum_over, added}
use Rattle.tally.proofs.TallyTurn.{added_length, added_at, one_more, none_added, to_its_cell, to_no_other, nothing_added, given_outside, given_unmeasured}

-- the list is what it was, with the sums over the first n gates added
pub record Holding (ledger values qualities : List ℕ) (share : ℕ → ℕ → ℕ) (n : ℕ) (before l : List ℕ) : Type 0 where
  pub cells_length : length l ≡ length before
  pub cell_sums : l ≡ added (sum_over ledger values qualities share n) before

pub holding : (ledger values qualities : List ℕ) (share : ℕ → ℕ → ℕ) (n : ℕ) (before l : List ℕ) → l ≡ added (sum_over ledger values qualities share n) before → Holding ledger values qualities share n before l
holding ledger values qualities share n before l e = record { cells_length = ap length e ∙ added_length _ before; cell_sums = e }

-- gate k is the last of the first n
module _ {ledger values qualities : List ℕ} {share : ℕ → ℕ → ℕ} {n : ℕ} {before l : List ℕ} (s : Holding ledger values qualities share n before l) (k : ℕ) (last : n ≡ k + 1) where
  held : l ≡ added (sum_over ledger values qualities share (k + 1)) before
  held = s.cell_sums ∙ rw last

  pub out_no_cell : length before ≤ get_or ledger k 0 → Holding ledger values qualities share k before l
  out_no_cell h = record {
    cells_length = s.cells_length;
    cell_sums = held ∙ sym (nothing_added ledger values qualities share k before (given_outside ledger values qualities share k (length before) h));
  }

  pub out_unmeasured : is_measured (get_or values k 0) ≡ false → Holding ledger values qualities share k before l
  out_unmeasured h = record {
    cells_length = s.cells_length;
    cell_sums = held ∙ sym (nothing_added ledger values qualities share k before (λ cell i. given_unmeasured ledger values qualities share k h cell));
  }

  module _ {x : ℕ} (h : get_or ledger k 0 < length before) (m : is_measured (get_or values k 0) ≡ true) (p : x ≡ share (get_or values k 0) (get_or qualities k 0)) where
    cell_holds : get_or l (get_or ledger k 0) 0 ≡ get_or before (get_or ledger k 0) 0 + sum_over ledger values qualities share k (get_or ledger k 0) + x
    cell_holds =
        let cell = get_or ledger k 0 in
        let at = ap (λ (list : List ℕ). get_or list cell 0) held ∙ added_at _ before cell h in
        omega (arith, at, one_more ledger values qualities share k cell, to_its_cell ledger values qualities share k m, p)

    -- its share is there to be taken out
    pub share_there : x ≤ get_or l (get_or ledger k 0) 0
    share_there = omega (arith, cell_holds)

    pub out_measured : (less : ℕ) → get_or l (get_or ledger k 0) 0 ≡ less + x → Holding ledger values qualities share k before (set l (get_or ledger k 0) less)
    unfolding added
    out_measured less e =
        let cell = get_or ledger k 0 in
        let one = one_more ledger values qualities share k in
        record {
          cells_length = length-set l cell _ ∙ s.cells_length;
          cell_sums =
              ap (λ (list : List ℕ). set list cell less) held
              ∙ table_set _ _ (length before) cell _
              (omega (arith, cell_holds, e))
              (λ other b r. omega (arith, one other, to_no_other ledger values qualities share k other r));
        }

-- all gates are out
pub all_out : {ledger values qualities : List ℕ} {share : ℕ → ℕ → ℕ} {n : ℕ} {before l : List ℕ} → Holding ledger values qualities share n before l → n ≡ 0 → l ≡ before
all_out {ledger} {values} {qualities} {share} {before = before} s e = s.cell_sums ∙ rw e (sym (none_added ledger values qualities share before))
