-- Signed numbers of an accepted site and grid, in words of 64 bits. Assumes nothing.
use mathlib.Core.Path.{◌≡◌, ap}
use mathlib.Core.Bool.{true}
use Prim.Native.Nat.{ℕ, ◌<◌}
use native.Mathlib.Omega.{arith}
use lib.Dec.{T, ltb, ltb→lt}
use lib.IntN.{ℤ, nat_abs}
use mir.Syntax.{w64}
use mir.Val.{to_z, of_z}
use mir.ValLaws.{to_z-of_z}
use Rattle.arithmetic.specs.Magnitude.{Magnitude}
use Rattle.arithmetic.proofs.Machine.{fits64}
use Rattle.limits.specs.declared.site.Site.{Site}
use Rattle.limits.specs.Accepted.{site_accepted}
use Rattle.limits.proofs.Accepted.{accepted_site}

-- ---- signed numbers in words of 64 bits

-- a bounded number, read back
pub word_same : {z : ℤ} {n : ℕ} → Magnitude z n → T (ltb n 9223372036854775808) → to_z w64 (of_z w64 z) ≡ z
word_same {z} m t = to_z-of_z w64 z (fits64 m t)

pub word_small : {z : ℤ} {n : ℕ} (span : ℕ) → Magnitude z n → T (ltb n 9223372036854775808) → T (ltb n span) → nat_abs (to_z w64 (of_z w64 z)) < span
word_small {z} {n} span m t s = rw (word_same m t) (omega (arith, m.bound, ltb→lt n span s))

pub latitude_limit : (site : Site) → site_accepted site ≡ true → Magnitude site.latitude 750000
latitude_limit site e =
    let known = (accepted_site site e).latitude in
    record { bound = omega (arith, ap nat_abs known.1) }

pub longitude_limit : (site : Site) → site_accepted site ≡ true → Magnitude site.longitude 1800000
longitude_limit site e = (accepted_site site e).longitude
