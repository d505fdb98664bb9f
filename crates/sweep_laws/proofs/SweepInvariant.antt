-- What holds after every call of a sequence, and that each call keeps it. Assumes nothing.
use mathlib.Core.Bool.{Bool, true, false, cond}
use mathlib.Core.List.{List}
use mathlib.Core.Path.{◌≡◌, sym, ap, ◌∙◌}
use Prim.Native.Nat.{ℕ, ◌*◌, ◌≤◌}
use native.Mathlib.Nat.{le_antisymm}
use native.Mathlib.Omega.{arith}
use lib.ListN.{length, length-append}
use lib.Seq.{sets}
use Rattle.refusal.specs.Answer.{afterwards}
use Rattle.refusal.proofs.AnswerLaws.{given_is, refused_is, kept, filled_is}
use Rattle.refusal.proofs.Then.{then_none}
use Rattle.tally.specs.Tally.{cleared, added_sums}
use Rattle.tally.specs.Width.{fit_widths}
use Rattle.tally.proofs.TallyFromNothing.{from_nothing}
use Rattle.placement.specs.Gate.{entry_of, mark_of}
use Rattle.limits.specs.declared.weighting.Weighting.{Weighting}
use Rattle.publish.specs.Publish.{published_cells}
use Rattle.scan.specs.declared.head.ScanHead.{ScanHead}
use Rattle.scan.specs.Scan.{rays_of, cells_of}
use Rattle.scan_ledger.specs.ScanLedger.{gates_told}
use Rattle.accepted_tally.specs.TalliedLists.{tallied_lists}
use Rattle.publish.proofs.TalliedCells.{tally_published}
use Rattle.scan_laws.specs.TallyPublished.{scan_cells}
use Rattle.sweep_checks.specs.RayGroup.{RayGroup}
use Rattle.accepted_take.specs.TakenLists.{group_ledger, group_marks, taken_lists, take_checks, take_refusal}
use Rattle.sweep_checks.proofs.AcceptedSums.{AcceptedSums}
use Rattle.accepted_take.proofs.AcceptedGroup.{AcceptedGroup, accepted_group}
use Rattle.std.specs.Prelude.{Ok, Err}
use Rattle.sweep.specs.SweepOperations.{rays_refusal, counted, close_refusal, ended}
use Rattle.sweep.proofs.ClosedSweep.{accepted_close}
use Rattle.sweep_laws.specs.SweepSequence.{SweepLists, Held, Call, takes, closes, latest, handed_on, Sixteen, IsCall, joined, accepted_with, whole_scan}
use Rattle.sweep_laws.proofs.GoodRays.{told_so_far, ledger_so_far, GoodRays, values_most, qualities_most, rays_fit, good_joined, told_behind, sums_behind, room_behind}

not_both : {t : Bool} → t ≡ true → t ≡ false → ⊥
not_both e f = let wrong : ◌≡◌ {A = ℕ} 1 0 = ap (λ (b : Bool). cond b 1 0) (sym e ∙ f) in omega (arith, wrong)

-- ---- what holds after every call

pub record SoFar (head : ScanHead) (lent : SweepLists) (rays : RayGroup) (held : Held) : Type 0 where
  pub rays_good : GoodRays head rays
  pub sums_exact : AcceptedSums head lent.tally.sums
  pub same_head : held.sweep.head ≡ head
  pub rays_counted : held.sweep.taken ≡ length rays.azimuths
  pub all_when_closed : held.sweep.closed ≡ true → length rays.azimuths ≡ head.rays
  pub the_ledger : held.lists.tally.ledger ≡ sets lent.tally.ledger 0 (ledger_so_far head rays)
  pub the_marks : held.lists.tally.marks ≡ sets lent.tally.marks 0 (told_so_far mark_of head rays)
  -- the lent lists have room for them
  pub ledger_room : length rays.azimuths * head.gates ≤ length lent.tally.ledger
  pub marks_room : length rays.azimuths * head.gates ≤ length lent.tally.marks
  pub the_sums : held.lists.tally.sums ≡ added_sums (ledger_so_far head rays) rays.values rays.qualities (cleared lent.tally.sums)
  pub the_cells : held.lists.cells ≡ cond held.sweep.closed (scan_cells head.weighting (whole_scan head rays)) lent.cells

module _ {head : ScanHead} {lent : SweepLists} {rays : RayGroup} {held : Held} (so_far : SoFar head lent rays held) where
  accepted : (group : RayGroup) → take_checks held.sweep.head held.sweep.closed held.sweep.taken group held.lists.tally ≡ 0 → AcceptedGroup head held.sweep.closed held.sweep.taken group held.lists.tally
  accepted group e = rw so_far.same_head at (accepted_group held.sweep.head held.sweep.closed held.sweep.taken group held.lists.tally e)

  -- the sums with a group behind the accepted rays
  with_group : (group : RayGroup) → AcceptedGroup head held.sweep.closed held.sweep.taken group held.lists.tally → (taken_lists held.sweep.head held.sweep.taken group held.lists.tally).sums ≡ added_sums (ledger_so_far head (joined rays group)) (joined rays group).values (joined rays group).qualities (cleared lent.tally.sums)
  unfolding taken_lists
  with_group group next =
      rw so_far.same_head
      (ap (added_sums (group_ledger head group) group.values group.qualities) so_far.the_sums
      ∙ sums_behind so_far.rays_good next so_far.rays_counted (cleared lent.tally.sums))

  -- a group that passes the other checks always fits: 31 is never given
  pub always_fits : (group : RayGroup) → Sixteen group.values → take_checks held.sweep.head held.sweep.closed held.sweep.taken group held.lists.tally ≡ 0 → fit_widths (taken_lists held.sweep.head held.sweep.taken group held.lists.tally).sums ≡ true
  always_fits group sixteen e =
      let next = accepted group e in
      ap fit_widths (with_group group next) ∙ rays_fit (good_joined so_far.rays_good next so_far.rays_counted sixteen) lent.tally.sums

  -- ---- an accepted group

  after_take : (group : RayGroup) → Sixteen group.values → take_checks held.sweep.head held.sweep.closed held.sweep.taken group held.lists.tally ≡ 0 → SoFar head lent (joined rays group) (handed_on held (takes group (Ok (counted held.sweep group)) (taken_lists held.sweep.head held.sweep.taken group held.lists.tally)))
  unfolding handed_on latest counted taken_lists joined
  after_take group sixteen e =
      let next = accepted group e in
      record {
        rays_good = good_joined so_far.rays_good next so_far.rays_counted sixteen;
        sums_exact = so_far.sums_exact;
        same_head = so_far.same_head;
        rays_counted = omega (arith, so_far.rays_counted, length-append rays.azimuths group.azimuths);
        all_when_closed = λ was. absurd (not_both was next.open_yet);
        the_ledger =
            rw so_far.same_head
            (ap (λ (l : List ℕ). sets l (held.sweep.taken * head.gates) (group_ledger head group)) so_far.the_ledger
            ∙ told_behind so_far.rays_good next so_far.rays_counted entry_of lent.tally.ledger);
        the_marks =
            rw so_far.same_head
            (ap (λ (l : List ℕ). sets l (held.sweep.taken * head.gates) (group_marks head group)) so_far.the_marks
            ∙ told_behind so_far.rays_good next so_far.rays_counted mark_of lent.tally.marks);
        ledger_room = room_behind so_far.rays_good next so_far.rays_counted held.lists.tally.ledger lent.tally.ledger (ledger_so_far head rays) next.ledger_length so_far.the_ledger;
        marks_room = room_behind so_far.rays_good next so_far.rays_counted held.lists.tally.marks lent.tally.marks (told_so_far mark_of head rays) next.marks_length so_far.the_marks;
        the_sums = with_group group next;
        the_cells = so_far.the_cells ∙ rw next.open_yet;
      }

  -- ---- a refused call

  after_refusal : (lists : SweepLists) → lists ≡ held.lists → SoFar head lent rays (record { sweep = held.sweep; lists = lists })
  after_refusal lists same = rw same (record {
    rays_good = so_far.rays_good;
    sums_exact = so_far.sums_exact;
    same_head = so_far.same_head;
    rays_counted = so_far.rays_counted;
    all_when_closed = so_far.all_when_closed;
    the_ledger = so_far.the_ledger;
    the_marks = so_far.the_marks;
    ledger_room = so_far.ledger_room;
    marks_room = so_far.marks_room;
    the_sums = so_far.the_sums;
    the_cells = so_far.the_cells;
  })

  -- ---- an accepted closing

  pub sums_are : held.lists.tally.sums ≡ (tallied_lists (whole_scan head rays)).sums
  unfolding tallied_lists whole_scan rays_of cells_of gates_told
  sums_are =
      so_far.the_sums
      ∙ from_nothing (ledger_so_far head rays) rays.values rays.qualities lent.tally.sums so_far.sums_exact.counts_length so_far.sums_exact.quality_sums_length so_far.sums_exact.value_sums_length so_far.sums_exact.weighted_sums_length

  pub either_published : (weighting : Weighting) → published_cells weighting held.lists.tally.sums ≡ scan_cells weighting (whole_scan head rays)
  unfolding scan_cells tallied_lists whole_scan
  either_published weighting =
      let scan = whole_scan head rays in
      ap (published_cells weighting) sums_are
      ∙ tally_published (tallied_lists scan).ledger scan.values scan.qualities (cells_of scan.head) weighting (values_most so_far.rays_good) (qualities_most so_far.rays_good)

  published : published_cells held.sweep.head.weighting held.lists.tally.sums ≡ scan_cells head.weighting (whole_scan head rays)
  published = rw so_far.same_head (either_published head.weighting)

  after_close : close_refusal held.sweep held.lists.tally.sums held.lists.cells ≡ 0 → SoFar head lent rays (handed_on held (closes (Ok (ended held.sweep)) (published_cells held.sweep.head.weighting held.lists.tally.sums)))
  unfolding handed_on latest ended close_refusal
  after_close e =
      let known = accepted_close held.sweep.head held.sweep.closed held.sweep.taken held.lists.tally.sums held.lists.cells e in
      record {
        rays_good = so_far.rays_good;
        sums_exact = so_far.sums_exact;
        same_head = so_far.same_head;
        rays_counted = so_far.rays_counted;
        all_when_closed = λ was. sym so_far.rays_counted ∙ le_antisymm known.rays_most known.rays_least ∙ ap (λ (h : ScanHead). h.rays) so_far.same_head;
        the_ledger = so_far.the_ledger;
        the_marks = so_far.the_marks;
        ledger_room = so_far.ledger_room;
        marks_room = so_far.marks_room;
        the_sums = so_far.the_sums;
        the_cells = published;
      }

  -- ---- every call

  lists_left : {A : Type 0} (number : ℕ) (before after : A) {left : A} → (number ≡ 0 → ⊥) → left ≡ afterwards number before after → left ≡ before
  lists_left number before after wrong e = e ∙ sym (kept number before after wrong)

  pub after_call : (call : Call) → IsCall held call → SoFar head lent (accepted_with rays call) (handed_on held call)
  unfolding IsCall accepted_with handed_on latest rays_refusal take_refusal
  after_call (takes group (Ok sweep) lists) (contract, sixteen) =
      let told = given_is (rays_refusal held.sweep group held.lists.tally) contract.the_answer in
      let none = (then_none _ _ told.0).0 in
      rw (told.1, filled_is held.lists.tally told.0 contract.the_lists) (after_take group sixteen none)
  after_call (takes group (Err refusal) lists) (contract, sixteen) =
      let told = refused_is (rays_refusal held.sweep group held.lists.tally) (counted held.sweep group) contract.the_answer in
      let same = lists_left _ held.lists.tally _ told.1 contract.the_lists in
      after_refusal (handed_on held (takes group (Err refusal) lists)).lists (λ i. record { tally = same i; cells = held.lists.cells })
  after_call (closes (Ok sweep) cells) contract =
      let told = given_is (close_refusal held.sweep held.lists.tally.sums held.lists.cells) contract.the_answer in
      rw (told.1, filled_is held.lists.cells told.0 contract.the_cells) (after_close told.0)
  after_call (closes (Err refusal) cells) contract =
      let told = refused_is (close_refusal held.sweep held.lists.tally.sums held.lists.cells) (ended held.sweep) contract.the_answer in
      let same = lists_left _ held.lists.cells _ told.1 contract.the_cells in
      after_refusal (handed_on held (closes (Err refusal) cells)).lists (λ i. record { tally = held.lists.tally; cells = same i })
