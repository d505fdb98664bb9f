-- `record_contents::put_site` meets its contract. Assumes nothing.
use mathlib.Core.List.{List}
use mathlib.Core.Path.{◌≡◌}
use Prim.Native.Nat.{ℕ}
use borrow.Author.Rules.{rules}
use lib.Seq.{sets}
use Rattle.limits.specs.declared.site.Site.{Site}
use Rattle.big_endian.specs.BigEndian.{bytes_of, signed_bytes_of}
use Rattle.record_contents.specs.RecordBytes.{site_bytes, header_bytes, field_bytes}
use Rattle.record_contents.proofs.SignedWords.{word_same, word_small, latitude_limit, longitude_limit}
use Rattle.record_contents.proofs.put_site.Goals as goal

-- header, latitude, longitude: each right behind the one before
site-stored : (a : List ℕ) (site : Site) {b c d : List ℕ} → b ≡ sets a 0 (header_bytes 1 8) → c ≡ sets b 3 (signed_bytes_of 4 site.latitude) → d ≡ sets c 7 (signed_bytes_of 4 site.longitude) → d ≡ sets a 0 (field_bytes 1 (site_bytes site))
unfolding bytes_of signed_bytes_of site_bytes header_bytes field_bytes
site-stored a site e f g = rw (g, f, e)

pub put_signed-requires : goal.put_signed-requires
put_signed-requires c =
    let start = c in
    (search rules, search rules, word_small 4294967296 (latitude_limit start.args.site start.requires.0) tt tt)

pub put_signed-requires-2 : goal.put_signed-requires-2
put_signed-requires-2 c =
    let start = c in
    (search rules, search rules, word_small 4294967296 (longitude_limit start.args.site start.requires.0) tt tt)

pub returns : goal.returns
returns c =
    let longitude = c in
    let latitude = longitude in
    let header = latitude in
    let start = header in
    let site = start.args.site in
    site-stored start.args.buffer.now site header.put_header.ensures
    (rw (word_same (latitude_limit site start.requires.0) tt) at latitude.put_signed.ensures)
    (rw (word_same (longitude_limit site start.requires.0) tt) at longitude.put_signed-2.ensures)
