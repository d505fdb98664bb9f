-- `group_sums::add_rays` meets its contract. The loop's invariant: the gates of the rays before this one are added, and no count or sum passes its
-- width. Assumes nothing.
use mathlib.Core.Path.{◌≡◌, refl, sym, ap, ◌∙◌}
use Prim.Native.Nat.{ℕ, ◌*◌}
use native.Mathlib.Nat.{zero-mul}
use native.Mathlib.Omega.{arith}
use lib.ListN.{length}
use Rattle.group_sums.proofs.RayOfGroup.{next_start, group_length, same_room}
use Rattle.group_sums.proofs.RaysSoFar.{none_yet, all_rays, no_ray, ray_added, ray_left, none_fit}
use borrow.Author.Rules.{rules}
use Rattle.group_sums.proofs.add_rays.Goals as goal

pub loop-ray-init : goal.loop-ray-init
loop-ray-init c = record { kept = search rules; room = refl; so_far = rw (zero-mul (length c.args.entries.now)) (none_yet c.fit.ensures) }

pub take_out_rays-requires : goal.take_out_rays-requires
take_out_rays-requires c =
    let a = c.args in
    let l = c.loop-ray.invariant in
    let kept = c.add_ray.auto.entries ∙ l.room in
    let left = ray_left a.survey a.centres (length a.entries.now) a.rays.azimuths.now a.rays.values.now a.rays.qualities.now c.loop-ray.ray _ _ c.loop-ray-test.true refl refl l.so_far (rw l.room at c.add_ray.ensures.added) c.if-not-add_ray.true in
    (rw kept (same_room c.requires _ _ left), omega arith, rw kept (record { before = _; added_then = left }))

pub returns-then-not-add_ray-clause-added : goal.returns-then-not-add_ray-clause-added
returns-then-not-add_ray-clause-added c =
    let a = c.args in
    let gates = length a.entries.now in
    let l = c.loop-ray.invariant in
    let kept = c.add_ray.auto.entries ∙ l.room in
    let adds = rw l.room at c.add_ray.ensures.added in
    no_ray (c.loop-ray.ray * gates)
    (ray_left a.survey a.centres gates a.rays.azimuths.now a.rays.values.now a.rays.qualities.now c.loop-ray.ray _ _ c.loop-ray-test.true refl refl l.so_far adds c.if-not-add_ray.true)
    (rw kept at c.take_out_rays.ensures.taken_out)
    (none_fit a.survey a.centres gates a.rays.azimuths.now a.rays.values.now a.rays.qualities.now c.loop-ray.ray _ _ c.loop-ray-test.true refl refl l.so_far adds c.if-not-add_ray.true)

pub loop-ray-preserved : goal.loop-ray-preserved
loop-ray-preserved c =
    let a = c.args in
    let l = c.loop-ray.invariant in
    let gates = length a.entries.now in
    record {
      kept = search rules;
      room = c.add_ray.auto.entries ∙ l.room;
      so_far =
          rw (next_start _ c.loop-ray.ray gates refl)
          (ray_added a.survey a.centres gates a.rays.azimuths.now a.rays.values.now a.rays.qualities.now c.loop-ray.ray _ _ c.loop-ray-test.true refl refl l.so_far (rw l.room at c.add_ray.ensures.added) c.if-not-add_ray.false);
    }

pub returns-clause-added : goal.returns-clause-added
returns-clause-added c =
    let a = c.args in
    let gates = length a.entries.now in
    let all : c.loop-ray.ray ≡ length a.rays.azimuths.now = omega arith in
    all_rays c.loop-ray.invariant.so_far (ap (λ (n : ℕ). n * gates) all ∙ sym (group_length a.survey a.centres gates a.rays.azimuths.now))
