-- The lists that are lent for a record that is read, as a record, and a contract's parameters as this record. Assumes nothing.
use Rattle.std.specs.Prelude.{◌≡◌, List, ℕ}
use Rattle.std.specs.Borrow.{MutBor}
use denote.Triple.Both.{Both}
use Rattle.scan.specs.declared.lists.RaysMut.{RaysMut}

pub record RecordLists : Type 0 where
  pub azimuths : List ℕ
  pub values : List ℕ
  pub qualities : List ℕ

abbrev pub record_lists_held : List ℕ → List ℕ → List ℕ → RecordLists
record_lists_held azimuths values qualities = record { azimuths = azimuths; values = values; qualities = qualities }

-- what the struct of slices holds
abbrev pub record_lists_of : RaysMut → RecordLists
record_lists_of rays = record_lists_held rays.azimuths.now rays.values.now rays.qualities.now

-- the same slices afterwards, so that their lender sees what they hold
pub record KeepsRays (before after : RaysMut) : Type 0 where
  pub azimuths : after.azimuths.ghost_name ≡ before.azimuths.ghost_name
  pub values : after.values.ghost_name ≡ before.values.ghost_name
  pub qualities : after.qualities.ghost_name ≡ before.qualities.ghost_name

-- ---- the same, as a call finds them and as it leaves them

abbrev pub lent_record_lists : Both (MutBor RaysMut) (MutBor RaysMut) → Both RecordLists RecordLists
lent_record_lists rays = record { entry = record_lists_of rays.entry.now; exit = record_lists_of rays.exit.now }

-- of slices that are lent each as a parameter of its own
abbrev pub Lent : Type 0
Lent = Both (MutBor (List ℕ)) (MutBor (List ℕ))

abbrev pub record_lists_apart : Lent → Lent → Lent → Both RecordLists RecordLists
record_lists_apart azimuths values qualities = record {
  entry = record_lists_held azimuths.entry.now values.entry.now qualities.entry.now;
  exit = record_lists_held azimuths.exit.now values.exit.now qualities.exit.now;
}

-- the bytes of a buffer, as a call finds them and as it leaves them
abbrev pub lent_bytes : Lent → Both (List ℕ) (List ℕ)
lent_bytes buffer = record { entry = buffer.entry.now; exit = buffer.exit.now }
