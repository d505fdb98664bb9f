-- The lengths of the seven fields' contents, of a field and of the whole record. Assumes nothing.
use mathlib.Core.Path.{◌≡◌}
use Prim.Native.Nat.{ℕ, zero, suc, ◌+◌, ◌<◌, ◌≤◌}
use mathlib.Core.List.{List}
use native.Mathlib.Omega.{arith}
use lib.ListN.{length, length-append}
use Rattle.limits.specs.declared.grid.Grid.{Grid}
use Rattle.limits.specs.declared.grid.Grid.TheVariants.{Radolan, Hrap}
use Rattle.limits.specs.declared.site.Site.{Site}
use Rattle.scan.specs.declared.head.ScanHead.{ScanHead}
use Rattle.record_contents.specs.RecordBytes.{site_bytes, gates_bytes, grid_bytes, header_bytes, field_bytes}
use Rattle.big_endian.proofs.BigEndianLaws.{bytes_length, signed_length}

-- what holds of each of the seven fields
pub each_field : (P : ℕ → Type 0) → P 0 → P 1 → P 2 → P 3 → P 4 → P 5 → P 6 → (k : ℕ) → k < 7 → P k
each_field P a b c d e f g zero h = a
each_field P a b c d e f g (suc zero) h = b
each_field P a b c d e f g (suc (suc zero)) h = c
each_field P a b c d e f g (suc (suc (suc zero))) h = d
each_field P a b c d e f g (suc (suc (suc (suc zero)))) h = e
each_field P a b c d e f g (suc (suc (suc (suc (suc zero))))) h = f
each_field P a b c d e f g (suc (suc (suc (suc (suc (suc zero)))))) h = g
each_field P a b c d e f g (suc (suc (suc (suc (suc (suc (suc k))))))) h = absurd (omega arith)

pub site_length : (site : Site) → length (site_bytes site) ≡ 8
unfolding site_bytes
site_length site = simp (length-append, signed_length)

pub gates_length : (head : ScanHead) → length (gates_bytes head) ≡ 12
unfolding gates_bytes
gates_length head = simp (length-append, bytes_length)

-- kind 1 has 17 bytes, kind 2 has 9
unfoldable pub grid_length_of : Grid → ℕ
grid_length_of (Radolan g) = 17
grid_length_of (Hrap g) = 9

pub grid_length_lem : (grid : Grid) → length (grid_bytes grid) ≡ grid_length_of grid
unfolding grid_bytes grid_length_of
grid_length_lem (Radolan g) = simp (length-append, bytes_length, signed_length)
grid_length_lem (Hrap g) = simp (length-append, bytes_length, signed_length)

pub grid_length_most : (grid : Grid) → length (grid_bytes grid) ≤ 17
unfolding grid_length_of
grid_length_most (Radolan g) = omega (arith, grid_length_lem (Radolan g))
grid_length_most (Hrap g) = omega (arith, grid_length_lem (Hrap g))

-- ---- fields

pub field_length : (tag : ℕ) (content : List ℕ) → length (field_bytes tag content) ≡ 3 + length content
unfolding field_bytes header_bytes
field_length tag content = simp (length-append, bytes_length)
