-- `scan::checks::qualities_accepted` meets its contract. Assumes nothing.
use mathlib.Core.Path.{◌∙◌}
use Rattle.std.proofs.Common.{rules}
use Rattle.std.proofs.lemmas.Iterator.{YieldsList-from_slice}
use Rattle.std.proofs.lemmas.Iterator.Search.{all_from_yields_List}
use Rattle.scan.specs.ScanRefusal.{quality_accepted}
use Rattle.scan.proofs.AllPass.{list_all_is}
use Rattle.scan.proofs.checks.qualities_accepted.Goals as goal

pub returns : goal.returns
unfolding quality_accepted
returns c =
    all_from_yields_List quality_accepted _ _ _ c.all.ensures.ran (YieldsList-from_slice c.args.qualities.now cc) (λ x b q k. search rules)
    ∙ list_all_is quality_accepted c.args.qualities.now
