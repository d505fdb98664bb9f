-- Gates that follow others: their sums are added onto those of the gates before them, whatever these were added onto. Assumes nothing.
use mathlib.Core.Path.{◌≡◌, refl, sym, ap, ◌∙◌}
use mathlib.Core.List.{List, ◌++◌}
use Prim.Native.Nat.{ℕ, ◌+◌, ◌<◌, ◌≤◌}
use native.Mathlib.Nat.{zero-add}
use native.Mathlib.Omega.{arith}
use lib.ListN.{length, get_or, take, length-append, get_or-append}
use lib.Seq.{length-take-le, get_or-take, get_or-append-add}
use Rattle.arithmetic.specs.Places.{table}
use Rattle.arithmetic.proofs.Places.{table_length, table_at, table_ext, sum_ext, sum_split}
use Rattle.tally.specs.Gates.{echo_of, weighted_echo}
use Rattle.tally.specs.LentSums.{Sums}
use Rattle.tally.specs.Tally.{contributes, sum_over, added, added_first, added_sums}
use Rattle.tally.proofs.TallyTurn.{none_added}

-- a share and then another are added as their sum
added_twice : (f g whole : ℕ → ℕ) → ((cell : ℕ) → whole cell ≡ f cell + g cell) → (held : List ℕ) → added g (added f held) ≡ added whole held
unfolding added
added_twice f g whole e held =
    let n = length held in
    let once : ℕ → ℕ = λ cell. get_or held cell 0 + f cell in
    ap (λ (m : ℕ). table (λ cell. get_or (table once n) cell 0 + g cell) m) (table_length once n)
    ∙ table_ext _ _ n (λ cell h. omega (arith, e cell, table_at once n cell h))

-- no gates added
pub added_none : (ledger values qualities : List ℕ) (sums : Sums) → added_first ledger values qualities 0 sums ≡ sums
unfolding added_first
added_none ledger values qualities sums i = record {
  counts = sym (none_added ledger values qualities (λ value quality. 1) sums.counts) i;
  quality_sums = sym (none_added ledger values qualities (λ value quality. quality) sums.quality_sums) i;
  value_sums = sym (none_added ledger values qualities (λ value quality. echo_of value) sums.value_sums) i;
  weighted_sums = sym (none_added ledger values qualities weighted_echo sums.weighted_sums) i;
}

-- the first n gates of a part are those of the whole from a place on
pub record PartOf (ledger values qualities : List ℕ) (from n : ℕ) (partLedger partValues partQualities : List ℕ) : Type 0 where
  pub same_entries : (k : ℕ) → k < n → get_or partLedger k 0 ≡ get_or ledger (from + k) 0
  pub same_values : (k : ℕ) → k < n → get_or partValues k 0 ≡ get_or values (from + k) 0
  pub same_qualities : (k : ℕ) → k < n → get_or partQualities k 0 ≡ get_or qualities (from + k) 0

module _ {ledger values qualities partLedger partValues partQualities : List ℕ} {from n : ℕ} (part : PartOf ledger values qualities from n partLedger partValues partQualities) where
  sums_add : (share : ℕ → ℕ → ℕ) (cell : ℕ) → sum_over ledger values qualities share (from + n) cell ≡ sum_over ledger values qualities share from cell + sum_over partLedger partValues partQualities share n cell
  unfolding sum_over contributes
  sums_add share cell =
      sum_split _ from n
      ∙ ap (λ (x : ℕ). sum_over ledger values qualities share from cell + x)
      (sum_ext _ _ n (λ k h. rw (part.same_entries k h, part.same_values k h, part.same_qualities k h)))

  -- so the part may be added onto the gates before it
  pub added_on : (sums : Sums) → added_first partLedger partValues partQualities n (added_first ledger values qualities from sums) ≡ added_first ledger values qualities (from + n) sums
  unfolding added_first
  added_on sums i = record {
    counts = added_twice _ _ _ (sums_add (λ value quality. 1)) sums.counts i;
    quality_sums = added_twice _ _ _ (sums_add (λ value quality. quality)) sums.quality_sums i;
    value_sums = added_twice _ _ _ (sums_add (λ value quality. echo_of value)) sums.value_sums i;
    weighted_sums = added_twice _ _ _ (sums_add weighted_echo) sums.weighted_sums i;
  }

-- gates that are joined end to end are added at once, or one part after the other
module _ (ledger values qualities ledger' values' qualities' : List ℕ) (v : length values ≡ length ledger) (q : length qualities ≡ length ledger) where
  front : (xs ys : List ℕ) (k : ℕ) → k < length xs → get_or xs k 0 ≡ get_or (xs ++ ys) (0 + k) 0
  front xs ys k h = rw zero-add (sym (get_or-append xs ys 0 k h))

  back : (xs ys : List ℕ) (k : ℕ) → length xs ≡ length ledger → get_or ys k 0 ≡ get_or (xs ++ ys) (length ledger + k) 0
  back xs ys k e = sym (ap (λ (m : ℕ). get_or (xs ++ ys) (m + k) 0) (sym e) ∙ get_or-append-add xs ys k 0)

  pub added_joined : (sums : Sums) → added_sums (ledger ++ ledger') (values ++ values') (qualities ++ qualities') sums ≡ added_sums ledger' values' qualities' (added_sums ledger values qualities sums)
  unfolding added_sums
  added_joined sums =
      let first : PartOf (ledger ++ ledger') (values ++ values') (qualities ++ qualities') 0 (length ledger) ledger values qualities = record {
        same_entries = λ k h. front ledger ledger' k h;
        same_values = λ k h. front values values' k (omega arith);
        same_qualities = λ k h. front qualities qualities' k (omega arith);
      } in
      let second : PartOf (ledger ++ ledger') (values ++ values') (qualities ++ qualities') (length ledger) (length ledger') ledger' values' qualities' = record {
        same_entries = λ k h. back ledger ledger' k refl;
        same_values = λ k h. back values values' k v;
        same_qualities = λ k h. back qualities qualities' k q;
      } in
      ap (λ (n : ℕ). added_first (ledger ++ ledger') (values ++ values') (qualities ++ qualities') n sums) (length-append ledger ledger')
      ∙ sym (added_on second sums)
      ∙ ap (added_first ledger' values' qualities' (length ledger'))
      (ap (λ (n : ℕ). added_first (ledger ++ ledger') (values ++ values') (qualities ++ qualities') n sums) (sym (zero-add (length ledger)))
      ∙ sym (added_on first sums)
      ∙ ap (added_first ledger values qualities (length ledger)) (added_none _ _ _ sums))

-- the first gates, as a list of their own
pub added_taken : (ledger values qualities : List ℕ) (n : ℕ) (sums : Sums) → n ≤ length ledger → added_first ledger values qualities n sums ≡ added_sums (take n ledger) (take n values) (take n qualities) sums
unfolding added_sums
added_taken ledger values qualities n sums h =
    let part : PartOf ledger values qualities 0 n (take n ledger) (take n values) (take n qualities) = record {
      same_entries = λ k i. rw zero-add (get_or-take n ledger k 0 i);
      same_values = λ k i. rw zero-add (get_or-take n values k 0 i);
      same_qualities = λ k i. rw zero-add (get_or-take n qualities k 0 i);
    } in
    ap (λ (m : ℕ). added_first ledger values qualities m sums) (sym (zero-add n))
    ∙ sym (added_on part sums)
    ∙ ap (added_first (take n ledger) (take n values) (take n qualities) n) (added_none _ _ _ sums)
    ∙ ap (λ (m : ℕ). added_first (take n ledger) (take n values) (take n qualities) m sums) (sym (length-take-le n ledger h))
