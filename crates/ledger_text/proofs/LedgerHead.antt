-- What a good record's head has, and the line of one of its gates from what the code reads. Assumes nothing.
use mathlib.Core.Bool.{true}
use mathlib.Core.List.{List, [], ◌∷◌, ◌++◌}
use mathlib.Core.Path.{◌≡◌, sym, subst}
use Prim.Native.Nat.{ℕ, ◌+◌, ◌*◌, ◌/◌, ◌%◌, ◌≤◌, ◌<◌}
use native.Mathlib.Nat.{mod-lt}
use borrow.Author.Tests.{eq-eqb, ne_eqb, lt-ltb, le-ltb}
use lib.ListN.{get_or}
use Rattle.std.specs.Prelude.{Ok, Err}
use Rattle.placement.specs.Gate.{PlaceAnswer, placement_of}
use Rattle.grid.specs.Window.{window_of}
use Rattle.refusal.proofs.RangeBounds.{range_bounds}
use Rattle.scan.specs.declared.head.ScanHead.{ScanHead}
use Rattle.scan.specs.Scan.{gates_of}
use Rattle.scan_ledger.proofs.AcceptedLedger.{centres_most}
use Rattle.record_layout.specs.RecordPlaces.{head_in, azimuths_in, values_in, qualities_in}
use Rattle.record_layout.specs.RecordRefusal.{head_refusal}
use Rattle.record_layout.proofs.AcceptedRecord.{record_numbers}
use Rattle.text.specs.DecimalText.{decimal_of, line_of, spaced}
use Rattle.text.proofs.StoredLaws.{spaced_line}
use Rattle.ledger_text.specs.LedgerLine.{placement_words, ray_of, gate_of, azimuth_of, range_of, gate_words, good_line, ledger_line}

pub record GoodHead (head : ScanHead) : Type 0 where
  pub gates_least : 1 ≤ head.gates
  pub gates_most : head.gates ≤ 1000
  pub range_most : (k : ℕ) → head.first + k % head.gates * head.spacing ≤ 46000000

head_good : (bytes : List ℕ) → head_refusal bytes ≡ 0 → GoodHead (head_in bytes)
unfolding head_refusal
head_good bytes e =
    let numbers = record_numbers bytes true e in
    let gates = range_bounds 1 1000 (head_in bytes).gates numbers.gates_accepted in
    record {
      gates_least = gates.0;
      gates_most = gates.1;
      range_most = λ k. centres_most (head_in bytes).gates (head_in bytes).first (head_in bytes).spacing (k % (head_in bytes).gates) numbers.centres_pass (mod-lt k gates.0);
    }

pub good_head : {head : ScanHead} (bytes : List ℕ) → head ≡ head_in bytes → head_refusal bytes ≡ 0 → GoodHead head
good_head bytes e none = subst (λ (h : ScanHead). GoodHead h) (sym e) (head_good bytes none)

module _ (bytes : List ℕ) (k : ℕ) {head : ScanHead} {azimuth value quality columns : ℕ} {answer : PlaceAnswer} where
  pub good_line_is : head ≡ head_in bytes → azimuth ≡ get_or (azimuths_in bytes) (k / head.gates) 0 → value ≡ get_or (values_in bytes) k 0 → quality ≡ get_or (qualities_in bytes) k 0 → columns ≡ (window_of head.grid).columns → answer ≡ placement_of head.site head.grid azimuth (head.first + k % head.gates * head.spacing) → line_of ((decimal_of (k / head.gates) ∷ decimal_of (k % head.gates) ∷ decimal_of azimuth ∷ decimal_of (head.first + k % head.gates * head.spacing) ∷ decimal_of value ∷ decimal_of quality ∷ []) ++ placement_words columns answer) ≡ good_line bytes k
  unfolding ray_of gate_of azimuth_of range_of gate_words good_line
  good_line_is h a v q c p = rw (p, c, v, q, a, h)

-- which records and gates have a line
module _ (bytes : List ℕ) (k : ℕ) where
  pub refused_no_line : (head_refusal bytes ≡ 0 → ⊥) → [] ≡ ledger_line bytes k
  unfolding ledger_line
  refused_no_line h = rw (ne_eqb (head_refusal bytes) 0 h)

  pub no_such_gate : head_refusal bytes ≡ 0 → gates_of (head_in bytes) ≤ k → [] ≡ ledger_line bytes k
  unfolding ledger_line
  no_such_gate e h = rw (eq-eqb (head_refusal bytes) 0 e, le-ltb k (gates_of (head_in bytes)) h)

  pub line_of_gate : head_refusal bytes ≡ 0 → k < gates_of (head_in bytes) → good_line bytes k ≡ ledger_line bytes k
  unfolding ledger_line
  line_of_gate e h = rw (eq-eqb (head_refusal bytes) 0 e, lt-ltb k (gates_of (head_in bytes)) h)

-- what the record says of a gate, with a space behind each word, and where the gate lies
pub placement_line : (front : List (List ℕ)) (columns : ℕ) (answer : PlaceAnswer) → spaced front ++ line_of (placement_words columns answer) ≡ line_of (front ++ placement_words columns answer)
unfolding placement_words
placement_line front columns (Ok placement) = spaced_line front _ _
placement_line front columns (Err refusal) = spaced_line front _ _
