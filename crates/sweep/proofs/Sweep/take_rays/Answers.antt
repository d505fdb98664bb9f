-- `sweep::Sweep::take_rays` meets its contract: a refused group leaves the lists, an accepted one is taken whole. Assumes nothing.
use mathlib.Core.Path.{◌≡◌, refl, sym, ◌∙◌}
use native.Mathlib.Omega.{arith}
use borrow.Author.Tests.{not-true, not-false}
use Rattle.std.proofs.Common.{rules}
use Rattle.std.specs.Prelude.{Err}
use Rattle.refusal.specs.Answer.{answered, afterwards}
use Rattle.refusal.proofs.AnswerLaws.{filled}
use Rattle.refusal.proofs.NumberedLaws.{answers_value, answers_refusal, leaves_lent, refused_first}
use Rattle.scan.specs.LentLists.{lists_in}
use Rattle.sweep_checks.specs.RayGroup.{group_of}
use Rattle.accepted_take.specs.TakenLists.{take_checks, take_refusal}
use Rattle.accepted_take.proofs.AcceptedGroup.{accepted_group}
use Rattle.sweep.specs.SweepOperations.{rays_refusal, counted}
use Rattle.sweep.proofs.TakenRays.{by_width, by_nothing}
use Rattle.sweep.proofs.Sweep.take_rays.Goals as goal

pub returns-in_err-check_take-clause-takes : goal.returns-in_err-check_take-clause-takes
unfolding rays_refusal take_refusal take_checks
returns-in_err-check_take-clause-takes c =
    let refusal = c.in_err-check_take in
    let is : c.from_residual.result ≡ Err refusal.field-0.0 = search rules in
    let number = refused_first refusal.field-0.0 _ refusal.ensures refusal.ensures in
    record { the_answer = rw is (answers_refusal refusal.field-0.0 _ number); the_lists = leaves_lent refusal.field-0.0 _ _ number }

pub accepted_take-requires : goal.accepted_take-requires
unfolding take_checks
accepted_take-requires c =
    let sweep = c.args.self in
    let group = group_of c.args.rays in
    let lists = lists_in c.args.lists.now in
    let none : take_checks sweep.head sweep.closed sweep.taken group lists ≡ 0 = sym c.in_ok-check_take.ensures in
    rw (accepted_group _ _ _ group lists none).open_yet at none

pub returns-then-not-accepted_take-clause-takes : goal.returns-then-not-accepted_take-clause-takes
unfolding rays_refusal answered afterwards take_checks
returns-then-not-accepted_take-clause-takes c =
    let sweep = c.args.self in
    let taken = c.accepted_take.ensures.takes in
    let was = not-true _ c.if-not-accepted_take.true-raw in
    let number = by_width sweep.head sweep.closed sweep.taken _ _ (sym c.in_ok-check_take.ensures) (sym taken.the_answer ∙ was) in
    record { the_answer = rw number; the_lists = rw number (rw was at taken.the_lists) }

pub overflow_cast-result : goal.overflow_cast-result
unfolding take_checks
overflow_cast-result c =
    let g = accepted_group c.args.self.head _ _ (group_of c.args.rays) (lists_in c.args.lists.now) (sym c.in_ok-check_take.ensures) in
    omega (arith, g.rays_most, g.rays_limit)

pub overflow_add-result : goal.overflow_add-result
unfolding take_checks
overflow_add-result c =
    let g = accepted_group c.args.self.head _ _ (group_of c.args.rays) (lists_in c.args.lists.now) (sym c.in_ok-check_take.ensures) in
    omega (arith, g.rays_most, g.rays_limit)

pub returns-clause-takes : goal.returns-clause-takes
unfolding rays_refusal take_checks counted
returns-clause-takes c =
    let sweep = c.args.self in
    let taken = c.accepted_take.ensures.takes in
    let was = not-false _ c.if-not-accepted_take.false-raw in
    let none : rays_refusal sweep (group_of c.args.rays) (lists_in c.args.lists.now) ≡ 0 = by_nothing sweep.head sweep.closed sweep.taken _ _ (sym c.in_ok-check_take.ensures) (sym taken.the_answer ∙ was) in
    record { the_answer = answers_value none refl; the_lists = filled _ none (rw was at taken.the_lists) }
