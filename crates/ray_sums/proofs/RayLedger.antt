-- What adding the gates of a ray needs of its entries, and all or nothing. Assumes nothing.
use mathlib.Core.Bool.{true, false}
use mathlib.Core.List.{List}
use mathlib.Core.Path.{◌≡◌, sym, ◌∙◌}
use Prim.Native.Nat.{ℕ}
use native.Mathlib.Omega.{arith}
use denote.Triple.Both.{Both}
use borrow.Author.Tests.{eq-eqb, ne_eqb}
use lib.ListN.{length, take}
use lib.Seq.{length-take-le}
use Rattle.placement.specs.declared.centres.Centres.{Centres}
use Rattle.tally.specs.LentSums.{Sums}
use Rattle.tally.specs.Tally.{added_sums}
use Rattle.tally.specs.TallyRoom.{Addable, AddsGates}
use Rattle.tally.proofs.TallySplit.{added_taken}
use Rattle.take_out.specs.TakeOutRoom.{AddedBefore}
use Rattle.take_out.proofs.TakenOut.{sums_same}
use Rattle.ray_sums.specs.RaySums.{RayAddable, AddsAll}

pub ray_addable : {centres : Centres} {entries values qualities : List ℕ} {sums : Sums} → RayAddable centres entries values qualities sums → {ledger : List ℕ} → length ledger ≡ length entries → Addable ledger values qualities sums
ray_addable room e = record {
  values_length = room.values_length ∙ sym e;
  qualities_length = room.qualities_length ∙ sym e;
  quality_sums_length = room.quality_sums_length;
  value_sums_length = room.value_sums_length;
  weighted_sums_length = room.weighted_sums_length;
}

-- ---- all or nothing

module _ {ledger values qualities : List ℕ} {sums : Both Sums Sums} {gates : ℕ} (adds : AddsGates ledger values qualities sums gates) where
  pub all_of_them : {ray : List ℕ} → ledger ≡ ray → gates ≡ length ledger → AddsAll ray values qualities sums true
  unfolding added_sums
  all_of_them is e = rw (← is) (record {
    the_answer = sym (eq-eqb gates (length ledger) e) ∙ adds.whether_all;
    the_sums = adds.the_sums ∙ rw e;
  })

  -- the first gates, which were added, can be taken out
  pub first_added : Addable ledger values qualities sums.entry → AddedBefore (take gates ledger) (take gates values) (take gates qualities) sums.exit
  first_added lengths = record {
    before = sums.entry;
    addable = record {
      values_length = length-take-le gates values (omega (arith, adds.gates_most, lengths.values_length)) ∙ sym (length-take-le gates ledger adds.gates_most);
      qualities_length = length-take-le gates qualities (omega (arith, adds.gates_most, lengths.qualities_length)) ∙ sym (length-take-le gates ledger adds.gates_most);
      quality_sums_length = lengths.quality_sums_length;
      value_sums_length = lengths.value_sums_length;
      weighted_sums_length = lengths.weighted_sums_length;
    };
    added_then = adds.the_sums ∙ added_taken ledger values qualities gates sums.entry adds.gates_most;
  }

  -- and the sums are then as they came in
  pub none_of_them : {ray : List ℕ} {left : Sums} → ledger ≡ ray → (gates ≡ length ledger → ⊥) → sums.exit ≡ added_sums (take gates ledger) (take gates values) (take gates qualities) left → AddsAll ray values qualities (record { entry = sums.entry; exit = left }) false
  none_of_them {left = left} is ne e = rw (← is) (record {
    the_answer = sym (ne_eqb gates (length ledger) ne) ∙ adds.whether_all;
    the_sums =
        sums_same ledger values qualities gates left sums.entry
        (added_taken ledger values qualities gates left adds.gates_most ∙ sym e ∙ adds.the_sums);
  })
