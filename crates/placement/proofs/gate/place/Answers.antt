-- `placement::gate::place` meets its contract: an accepted gate's position is near the exact one, and its cell is the exact one where it is not
-- marked. Assumes nothing.
use lib.Dec.{lit≤}
use Rattle.std.proofs.Common.{rules}
use Rattle.projection.proofs.GateTerms.{good_gate}
use Rattle.placement.proofs.GateNear.{located_within}
use Rattle.placement.proofs.ExactCell.{located_exact}
use Rattle.placement.proofs.gate.place.Goals as goal

pub returns-clause-within_50_centimetres : goal.returns-clause-within_50_centimetres
returns-clause-within_50_centimetres c =
    let a = c.args in
    rw c.accepted_place.ensures (located_within a.site a.grid a.azimuth a.range (good_gate a.site a.azimuth a.range (search rules) (search rules)) _ (lit≤ tt))

pub returns-clause-exact_unless_marked : goal.returns-clause-exact_unless_marked
returns-clause-exact_unless_marked c =
    let a = c.args in
    rw c.accepted_place.ensures (located_exact a.site a.grid a.azimuth a.range (good_gate a.site a.azimuth a.range (search rules) (search rules)) (search rules))
