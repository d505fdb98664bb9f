-- `sweep_checks::refusal_numbers::check_close` meets its contract. Assumes nothing.
use mathlib.Core.Path.{◌≡◌, sym, ◌∙◌}
use Prim.Native.Nat.{ℕ}
use native.Mathlib.Omega.{arith}
use borrow.Author.Tests.{le-leb, lt-leb, not-true, not-false}
use Rattle.std.proofs.Common.{rules}
use Rattle.refusal.specs.Checks.{first_refusal, ◌then◌}
use Rattle.refusal.proofs.NumberedLaws.{refused_first}
use Rattle.refusal.proofs.Then.{then_zero, then_next}
use Rattle.sweep_checks.specs.SweepNumbers.{close_number}
use Rattle.sweep_checks.proofs.refusal_numbers.check_close.Goals as goal

-- neither the state nor the numbers are refused
last : {state numbers : ℕ} (rest : ℕ) → 0 ≡ state → 0 ≡ numbers → (state then numbers then rest) ≡ rest
last rest e f = then_next rest (then_zero (sym e) (sym f))

pub returns-in_err-check_state : goal.returns-in_err-check_state
unfolding close_number
returns-in_err-check_state c =
    let refusal = c.in_err-check_state in
    refused_first refusal.field-0.0 _ (refused_first refusal.field-0.0 _ refusal.ensures refusal.ensures) (refused_first refusal.field-0.0 _ refusal.ensures (search rules))

pub returns-in_err-check_scan : goal.returns-in_err-check_scan
unfolding close_number
returns-in_err-check_scan c =
    let refusal = c.in_err-check_scan in
    let state = then_next _ (sym c.in_ok-check_state.ensures) in
    refused_first refusal.field-0.0 _ (refusal.ensures ∙ sym state) (search (rules, sym state))

pub returns-then-taken-head : goal.returns-then-taken-head
unfolding close_number first_refusal
returns-then-taken-head c =
    let a = c.args in
    sym (last _ c.in_ok-check_state.ensures c.in_ok-check_scan.ensures ∙ rw (lt-leb a.head.rays a.taken (omega arith)))

pub returns-then-not-sums_accepted : goal.returns-then-not-sums_accepted
unfolding close_number first_refusal
returns-then-not-sums_accepted c =
    let a = c.args in
    sym (last _ c.in_ok-check_state.ensures c.in_ok-check_scan.ensures ∙ rw (le-leb a.head.rays a.taken (omega arith), sym c.sums_accepted.ensures ∙ not-true _ c.if-not-sums_accepted.true-raw))

pub returns-then-not-cells_accepted : goal.returns-then-not-cells_accepted
unfolding close_number first_refusal
returns-then-not-cells_accepted c =
    let a = c.args in
    sym (last _ c.in_ok-check_state.ensures c.in_ok-check_scan.ensures ∙ rw (le-leb a.head.rays a.taken (omega arith), sym c.sums_accepted.ensures ∙ not-false _ c.if-not-sums_accepted.false-raw, sym c.cells_accepted.ensures ∙ not-true _ c.if-not-cells_accepted.true-raw))

pub returns : goal.returns
unfolding close_number first_refusal
returns c =
    let a = c.args in
    sym (last _ c.in_ok-check_state.ensures c.in_ok-check_scan.ensures ∙ rw (le-leb a.head.rays a.taken (omega arith), sym c.sums_accepted.ensures ∙ not-false _ c.if-not-sums_accepted.false-raw, sym c.cells_accepted.ensures ∙ not-false _ c.if-not-cells_accepted.false-raw))
