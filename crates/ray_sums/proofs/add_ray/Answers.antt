-- `ray_sums::add_ray` meets its contract: where a gate has no room, those before it are taken out again. Assumes nothing.
use Rattle.ray_sums.proofs.RayLedger.{ray_addable, all_of_them, first_added, none_of_them}
use Rattle.ray_sums.proofs.add_ray.Goals as goal

pub returns-then-added-entries-clause-added : goal.returns-then-added-entries-clause-added
returns-then-added-entries-clause-added c = all_of_them c.add_gates-added.ensures.added c.ray_entries.ensures c.if-added-entries.true

pub take_out_gates-requires : goal.take_out_gates-requires
take_out_gates-requires c = first_added c.add_gates-added.ensures.added (ray_addable c.requires c.ray_entries.auto.entries)

pub returns-clause-added : goal.returns-clause-added
returns-clause-added c =
    none_of_them c.add_gates-added.ensures.added c.ray_entries.ensures c.if-added-entries.false c.take_out_gates.ensures.taken_out
