-- `scan::checks::azimuths_accepted` meets its contract. Assumes nothing.
use mathlib.Core.Path.{◌∙◌}
use Rattle.std.proofs.Common.{rules}
use Rattle.std.proofs.lemmas.Iterator.{YieldsList-from_slice}
use Rattle.std.proofs.lemmas.Iterator.Search.{all_from_yields_List}
use Rattle.limits.specs.Accepted.{azimuth_accepted}
use Rattle.scan.proofs.AllPass.{list_all_is}
use Rattle.scan.proofs.checks.azimuths_accepted.Goals as goal

pub returns : goal.returns
returns c =
    all_from_yields_List azimuth_accepted _ _ _ c.all.ensures.ran (YieldsList-from_slice c.args.azimuths.now cc) (λ x b q k. search rules)
    ∙ list_all_is azimuth_accepted c.args.azimuths.now
