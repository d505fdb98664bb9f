-- The lists that are lent for the tally of a scan, as a record, and a contract's parameters as this record. Assumes nothing.
use Rattle.std.specs.Prelude.{◌≡◌, List, ℕ}
use Rattle.std.specs.Borrow.{MutBor}
use denote.Triple.Both.{Both}
use Rattle.tally.specs.LentSums.{Sums, sums_held}
use Rattle.scan.specs.declared.lists.ListsMut.{ListsMut}

-- ledger and marks have a number for each gate
pub record Lists : Type 0 where
  pub ledger : List ℕ
  pub marks : List ℕ
  pub sums : Sums

abbrev pub lists_held : List ℕ → List ℕ → List ℕ → List ℕ → List ℕ → List ℕ → Lists
lists_held ledger marks counts quality_sums value_sums weighted_sums = record {
  ledger = ledger;
  marks = marks;
  sums = sums_held counts quality_sums value_sums weighted_sums;
}

-- what the struct of slices holds
abbrev pub lists_in : ListsMut → Lists
lists_in lists =
    lists_held lists.ledger.now lists.marks.now lists.counts.now lists.quality_sums.now lists.value_sums.now lists.weighted_sums.now

-- the same slices afterwards, so that their lender sees what they hold
pub record KeepsLists (before after : ListsMut) : Type 0 where
  pub ledger : after.ledger.ghost_name ≡ before.ledger.ghost_name
  pub marks : after.marks.ghost_name ≡ before.marks.ghost_name
  pub counts : after.counts.ghost_name ≡ before.counts.ghost_name
  pub quality_sums : after.quality_sums.ghost_name ≡ before.quality_sums.ghost_name
  pub value_sums : after.value_sums.ghost_name ≡ before.value_sums.ghost_name
  pub weighted_sums : after.weighted_sums.ghost_name ≡ before.weighted_sums.ghost_name

-- ---- the same, as a call finds them and as it leaves them

abbrev pub lent_lists : Both (MutBor ListsMut) (MutBor ListsMut) → Both Lists Lists
lent_lists lists = record { entry = lists_in lists.entry.now; exit = lists_in lists.exit.now }

-- of slices that are lent each as a parameter of its own
abbrev pub Lent : Type 0
Lent = Both (MutBor (List ℕ)) (MutBor (List ℕ))

abbrev pub lent_apart : Lent → Lent → Lent → Lent → Lent → Lent → Both Lists Lists
lent_apart ledger marks counts quality_sums value_sums weighted_sums = record {
  entry = lists_held ledger.entry.now marks.entry.now counts.entry.now quality_sums.entry.now value_sums.entry.now weighted_sums.entry.now;
  exit = lists_held ledger.exit.now marks.exit.now counts.exit.now quality_sums.exit.now value_sums.exit.now weighted_sums.exit.now;
}
