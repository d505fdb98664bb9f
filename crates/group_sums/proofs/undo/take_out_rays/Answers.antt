-- `group_sums::undo::take_out_rays` meets its contract. The loop's invariant: the sums are some sums with the gates of the first rays added, which
-- were those that came in with the gates of all of them added. Assumes nothing.
use mathlib.Core.Path.{refl, ◌∙◌}
use Prim.Native.Nat.{◌-◌}
use native.Mathlib.Omega.{arith}
use lib.ListN.{length}
use Rattle.group_sums.proofs.RayOfGroup.{next_start, no_rays_lem}
use Rattle.group_sums.proofs.RaysUndone.{all_undone, undone_room, last_added, last_undone}
use borrow.Author.Rules.{rules}
use Rattle.group_sums.proofs.undo.take_out_rays.Goals as goal

pub take_out_ray-requires : goal.take_out_ray-requires
take_out_ray-requires c =
    let a = c.args in
    let l = c.loop-ray.invariant in
    let gates = length a.entries.now in
    let ray = c.loop-ray.ray - 1 in
    let room = undone_room a.survey a.centres gates a.rays.azimuths.now a.rays.values.now a.rays.qualities.now ray _ _ (omega arith) refl refl l.undone (next_start _ ray gates (omega arith)) c.requires.0 l.room in
    (room, rw l.room (last_added a.survey a.centres gates a.rays.azimuths.now a.rays.values.now a.rays.qualities.now ray _ _ (omega arith) refl refl l.undone (next_start _ ray gates (omega arith)) room l.room))

pub loop-ray-preserved : goal.loop-ray-preserved
loop-ray-preserved c =
    let a = c.args in
    let l = c.loop-ray.invariant in
    let gates = length a.entries.now in
    let ray = c.loop-ray.ray - 1 in
    record {
      kept = search rules;
      room = c.take_out_ray.auto.entries ∙ l.room;
      undone = last_undone a.survey a.centres gates a.rays.azimuths.now a.rays.values.now a.rays.qualities.now ray _ _ (omega arith) refl refl l.undone (next_start _ ray gates (omega arith)) (rw l.room at c.take_out_ray.ensures.taken_out);
    }

pub returns-clause-taken_out : goal.returns-clause-taken_out
returns-clause-taken_out c = all_undone c.loop-ray.invariant.undone (no_rays_lem _ _ (omega arith))
