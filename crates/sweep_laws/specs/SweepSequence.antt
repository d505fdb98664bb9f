-- Document 02, T-01: a sequence of operations from an accepted opening, in which the caller hands on the latest state and untouched lists, and
-- the whole scan made of the rays that were accepted. Assumes nothing.
use Rattle.std.specs.Prelude.{true, List, [], ◌∷◌, ◌++◌, ◌≡◌, ℕ, leb, length, Result, Ok, Err}
use Rattle.arithmetic.specs.Places.{all_of}
use Rattle.refusal.specs.declared.numbered.Refusal.{Refusal}
use Rattle.refusal.specs.Answer.{refuses}
use Rattle.refusal.specs.Numbered.{answer_of}
use Rattle.tally.specs.LentSums.{Sums, Cells}
use Rattle.scan.specs.declared.head.ScanHead.{ScanHead}
use Rattle.scan.specs.LentLists.{Lists}
use Rattle.scan.specs.Scan.{Scan}
use Rattle.sweep_checks.specs.RayGroup.{RayGroup}
use Rattle.sweep.specs.declared.Sweep.{Sweep}
use Rattle.sweep.specs.SweepOperations.{Takes, Closes}

-- ---- what the caller holds

-- all lists that are lent for a sweep: those of its tally, and its cells
pub record SweepLists : Type 0 where
  pub tally : Lists
  pub cells : Cells

pub record Held : Type 0 where
  pub sweep : Sweep
  pub lists : SweepLists

-- after an accepted opening, which left these sums
unfoldable pub held_from : Sweep → SweepLists → Sums → Held
held_from sweep lent sums = record {
  sweep = sweep;
  lists = record { tally = record { ledger = lent.tally.ledger; marks = lent.tally.marks; sums = sums }; cells = lent.cells };
}

-- ---- calls: what is given, what is answered, and the lists afterwards

pub data Call : Type 0 where
  takes : RayGroup → Result Sweep Refusal → Lists → Call
  closes : Result Sweep Refusal → Cells → Call

-- a refusal gives its number only, and the state before it is the latest
unfoldable pub latest : Sweep → Result Sweep Refusal → Sweep
latest before (Ok sweep) = sweep
latest before (Err refusal) = before

unfoldable pub handed_on : Held → Call → Held
handed_on held (takes group answer lists) = record {
  sweep = latest held.sweep answer;
  lists = record { tally = lists; cells = held.lists.cells };
}
handed_on held (closes answer cells) = record {
  sweep = latest held.sweep answer;
  lists = record { tally = held.lists.tally; cells = cells };
}

-- values of 16 bits, as every list of them that is given
unfoldable pub Sixteen : List ℕ → Type 0
Sixteen values = all_of (λ value. leb value 65535) values ≡ true

-- the call is one of `take_rays` or `close`, on what the caller holds
unfoldable pub IsCall : Held → Call → Type 0
IsCall held (takes group answer lists) =
    Takes held.sweep group (record { entry = held.lists.tally; exit = lists }) answer
    × Sixteen group.values
IsCall held (closes answer cells) = Closes held.sweep held.lists.tally.sums (record { entry = held.lists.cells; exit = cells }) answer

-- one call after the other, refused ones among them
unfoldable pub Sequence : Held → List Call → Type 0
Sequence held [] = Unit {0}
Sequence held (call ∷ calls) = IsCall held call × Sequence (handed_on held call) calls

unfoldable pub held_after : Held → List Call → Held
held_after held [] = held
held_after held (call ∷ calls) = held_after (handed_on held call) calls

-- ---- the accepted rays, however they were divided

unfoldable pub no_rays : RayGroup
no_rays = record { azimuths = []; values = []; qualities = [] }

unfoldable pub joined : RayGroup → RayGroup → RayGroup
joined before group = record {
  azimuths = before.azimuths ++ group.azimuths;
  values = before.values ++ group.values;
  qualities = before.qualities ++ group.qualities;
}

unfoldable pub accepted_with : RayGroup → Call → RayGroup
accepted_with before (takes group (Ok sweep) lists) = joined before group
accepted_with before (takes group (Err refusal) lists) = before
accepted_with before (closes answer cells) = before

unfoldable pub accepted_rays : RayGroup → List Call → RayGroup
accepted_rays before [] = before
accepted_rays before (call ∷ calls) = accepted_rays (accepted_with before call) calls

-- the whole scan made of them: the head that was opened, with as many rays as were accepted
unfoldable pub whole_scan : ScanHead → RayGroup → Scan
whole_scan head rays = record {
  head = record {
    site = head.site;
    rays = length rays.azimuths;
    gates = head.gates;
    first = head.first;
    spacing = head.spacing;
    grid = head.grid;
    weighting = head.weighting;
  };
  azimuths = rays.azimuths;
  values = rays.values;
  qualities = rays.qualities;
}

-- ---- no call of a sequence is refused by this number

unfoldable pub NotRefusedBy : ℕ → List Call → Type 0
NotRefusedBy number [] = Unit {0}
NotRefusedBy number (takes group answer lists ∷ calls) = (answer_of answer ≡ refuses number → ⊥) × NotRefusedBy number calls
NotRefusedBy number (closes answer cells ∷ calls) = (answer_of answer ≡ refuses number → ⊥) × NotRefusedBy number calls
