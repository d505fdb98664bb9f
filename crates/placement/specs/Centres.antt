-- Document 01, "The scan": where the centres of a ray's gates are. Assumes nothing.
use Rattle.std.specs.Prelude.{ℕ, ◌+◌, ◌*◌}
use Rattle.placement.specs.declared.centres.Centres.{Centres}

-- gate g of a ray has its centre at first + g x spacing
abbrev pub centre_of : Centres → ℕ → ℕ
centre_of centres g = centres.first + g * centres.spacing
