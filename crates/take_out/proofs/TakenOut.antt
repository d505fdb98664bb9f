-- Sums that become the same when the same gates are added are the same. Assumes nothing.
use mathlib.Core.Path.{◌≡◌, sym, ap, ◌∙◌}
use mathlib.Core.List.{List}
use Prim.Native.Nat.{ℕ}
use native.Mathlib.Omega.{arith}
use lib.ListN.{length, get_or}
use lib.Seq.{ext_get_or}
use Rattle.tally.specs.Gates.{echo_of, weighted_echo}
use Rattle.tally.specs.LentSums.{Sums}
use Rattle.tally.specs.Tally.{sum_over, added, added_first}
use Rattle.tally.proofs.TallyTurn.{added_length, added_at}

list_same : (share : ℕ → ℕ) (a b : List ℕ) → added share a ≡ added share b → a ≡ b
list_same share a b e =
    let lengths : length a ≡ length b = sym (added_length share a) ∙ ap length e ∙ added_length share b in
    ext_get_or 0 a b lengths (λ k h. omega (arith, added_at share a k h, added_at share b k (omega arith), ap (λ (l : List ℕ). get_or l k 0) e))

pub sums_same : (ledger values qualities : List ℕ) (n : ℕ) (a b : Sums) → added_first ledger values qualities n a ≡ added_first ledger values qualities n b → a ≡ b
unfolding added_first
sums_same ledger values qualities n a b e i = record {
  counts = list_same (sum_over ledger values qualities (λ value quality. 1) n) a.counts b.counts (ap (λ (s : Sums). s.counts) e) i;
  quality_sums = list_same (sum_over ledger values qualities (λ value quality. quality) n) a.quality_sums b.quality_sums (ap (λ (s : Sums). s.quality_sums) e) i;
  value_sums = list_same (sum_over ledger values qualities (λ value quality. echo_of value) n) a.value_sums b.value_sums (ap (λ (s : Sums). s.value_sums) e) i;
  weighted_sums = list_same (sum_over ledger values qualities weighted_echo n) a.weighted_sums b.weighted_sums (ap (λ (s : Sums). s.weighted_sums) e) i;
}
