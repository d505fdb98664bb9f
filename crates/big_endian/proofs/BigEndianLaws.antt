-- Numbers written as bytes and read back, for every width; both ways of two's complement. Assumes nothing.
use mathlib.Core.Path.{◌≡◌, refl, sym, ap, ap₂, ◌∙◌, subst}
use mathlib.Core.Bool.{Bool, true, false, cond}
use mathlib.Core.List.{List, [], ◌∷◌, ◌++◌, append_assoc, append-nil}
use Prim.Native.Nat.{ℕ, zero, suc, ◌+◌, ◌-◌, ◌*◌, ◌/◌, ◌%◌, ◌^◌, ◌<◌, ◌≤◌}
use native.Mathlib.Nat.{zero-add, add-zero, pow-suc, mod-lt, div-lt_iff_lt-mul, div-add-mod', div-mul-le_self}
use native.Mathlib.Numerals.{add-one}
use native.Mathlib.Omega.{arith}
use borrow.Author.Tests.{lt-ltb, le-ltb}
use lib.Arith.{digits_lt, digits_div, digits_mod}
use lib.Dec.{ltb}
use lib.IntN.{ℤ, pos, negsuc}
use lib.ListN.{length, get_or, take, length-append}
use lib.Seq.{take-suc}
use Rattle.arithmetic.specs.Magnitude.{Magnitude}
use Rattle.arithmetic.specs.Places.{table}
use Rattle.arithmetic.proofs.Places.{table_length, table_ext}
use Rattle.big_endian.specs.BigEndian.{bytes_of, all_bytes_of, twos_complement, signed_bytes_of, number_at, numbers_at, signed_of, signed_at}
use Rattle.big_endian.proofs.StandsAt.{Stands, stands_none, stands_moved, stands_front, stands_back, stands_join, stands_byte, stands_one}

-- ---- lengths

pub bytes_length : (width n : ℕ) → length (bytes_of width n) ≡ width
unfolding bytes_of
bytes_length zero n = refl
bytes_length (suc width) n =
    length-append (bytes_of width (n / 256)) (n % 256 ∷ []) ∙ ap (λ (k : ℕ). k + 1) (bytes_length width (n / 256)) ∙ add-one width

pub all_bytes_length : (width : ℕ) (ns : List ℕ) → length (all_bytes_of width ns) ≡ width * length ns
unfolding all_bytes_of
all_bytes_length width [] = omega arith
all_bytes_length width (n ∷ ns) =
    rw (length-append, bytes_length, all_bytes_length width ns) (omega arith)

pub numbers_length : (width : ℕ) (bytes : List ℕ) (at count : ℕ) → length (numbers_at width bytes at count) ≡ count
unfolding numbers_at
numbers_length width bytes at count = table_length (λ k. number_at width bytes (at + width * k)) count

-- ---- each byte is less than 256

pub small_append : (m : ℕ) (xs ys : List ℕ) → ((k : ℕ) → get_or xs k 0 < m) → ((k : ℕ) → get_or ys k 0 < m) → (k : ℕ) → get_or (xs ++ ys) k 0 < m
small_append m [] ys p q k = q k
small_append m (x ∷ xs) ys p q zero = p zero
small_append m (x ∷ xs) ys p q (suc k) = small_append m xs ys (λ j. p (suc j)) q k

small_one : (n k : ℕ) → get_or (n % 256 ∷ []) k 0 < 256
small_one n zero = mod-lt n (omega arith)
small_one n (suc k) = omega arith

pub bytes_small : (width n k : ℕ) → get_or (bytes_of width n) k 0 < 256
unfolding bytes_of
bytes_small zero n k = omega arith
bytes_small (suc width) n k =
    small_append 256 (bytes_of width (n / 256)) (n % 256 ∷ []) (bytes_small width (n / 256)) (small_one n) k

-- ---- one number

pub number_small : (width : ℕ) (bytes : List ℕ) (at : ℕ) → ((k : ℕ) → get_or bytes k 0 < 256) → number_at width bytes at < 256 ^ width
unfolding number_at
number_small zero bytes at small = omega arith
number_small (suc width) bytes at small =
    rw pow-suc (digits_lt (number_small width bytes at small) (small (at + width)))

-- the last byte of a piece
last_byte : (xs : List ℕ) (n width at : ℕ) (bytes : List ℕ) → length xs ≡ width → Stands (xs ++ n ∷ []) at bytes → get_or bytes (at + width) 0 ≡ n
last_byte xs n width at bytes e s =
    ap (λ (k : ℕ). get_or bytes k 0) (omega (arith, e)) ∙ stands_byte (stands_back xs (n ∷ []) s) 0 (omega arith)

-- a number of one byte
pub number_one : (bytes : List ℕ) (at : ℕ) → number_at 1 bytes at ≡ get_or bytes at 0
unfolding number_at
number_one bytes at = rw (zero-add, add-zero)

-- what is written is read
pub number_read : (width n at : ℕ) (bytes : List ℕ) → n < 256 ^ width → Stands (bytes_of width n) at bytes → number_at width bytes at ≡ n
unfolding bytes_of number_at
number_read zero n at bytes h s = omega arith
number_read (suc width) n at bytes h s =
    let q = bytes_of width (n / 256) in
    ap₂ (λ (a b : ℕ). a * 256 + b)
    (number_read width (n / 256) at bytes ((div-lt_iff_lt-mul (omega arith)).1 (subst (λ (m : ℕ). n < m) (pow-suc 256 width) h))
    (stands_front q (n % 256 ∷ []) s))
    (last_byte q (n % 256) width at bytes (bytes_length width (n / 256)) s)
    ∙ div-add-mod' n 256

-- what is read would be written so
pub number_written : (width at : ℕ) (bytes : List ℕ) → ((k : ℕ) → get_or bytes k 0 < 256) → at + width ≤ length bytes → Stands (bytes_of width (number_at width bytes at)) at bytes
unfolding bytes_of number_at
number_written zero at bytes small h = stands_none at bytes
number_written (suc width) at bytes small h =
    let upper = number_at width bytes at in
    let lower = get_or bytes (at + width) 0 in
    rw (digits_div upper {m = 256} {r = lower} (small (at + width)), digits_mod upper {m = 256} {r = lower} (small (at + width)))
    (stands_join (number_written width at bytes small (omega arith))
    (stands_moved (ap (λ (k : ℕ). at + k) (sym (bytes_length width upper))) (stands_one (at + width) bytes (omega arith))))

-- the same of one byte
pub byte_read : (n at : ℕ) (bytes : List ℕ) → n < 256 → Stands (bytes_of 1 n) at bytes → get_or bytes at 0 ≡ n
byte_read n at bytes h s = sym (number_one bytes at) ∙ number_read 1 n at bytes h s

pub byte_written : (n at : ℕ) (bytes : List ℕ) → ((k : ℕ) → get_or bytes k 0 < 256) → at + 1 ≤ length bytes → get_or bytes at 0 ≡ n → Stands (bytes_of 1 n) at bytes
byte_written n at bytes small h e =
    subst (λ (m : ℕ). Stands (bytes_of 1 m) at bytes) (number_one bytes at ∙ e) (number_written 1 at bytes small h)

-- ---- several numbers

numbers_first : (width : ℕ) (bytes : List ℕ) (at count : ℕ) → numbers_at width bytes at (suc count) ≡ number_at width bytes at ∷ numbers_at width bytes (at + width) count
unfolding numbers_at table
numbers_first width bytes at count =
    ap₂ (λ (n : ℕ) (ns : List ℕ). n ∷ ns) (ap (number_at width bytes) (omega arith))
    (table_ext _ _ count (λ k h. ap (number_at width bytes) (omega arith)))

numbers_none : (width : ℕ) (bytes : List ℕ) (at : ℕ) → numbers_at width bytes at 0 ≡ []
unfolding numbers_at table
numbers_none width bytes at = refl

pub numbers_read : (width : ℕ) (ns : List ℕ) (at : ℕ) (bytes : List ℕ) → ((k : ℕ) → get_or ns k 0 < 256 ^ width) → Stands (all_bytes_of width ns) at bytes → numbers_at width bytes at (length ns) ≡ ns
unfolding all_bytes_of
numbers_read width [] at bytes h s = numbers_none width bytes at
numbers_read width (n ∷ ns) at bytes h s =
    let first = bytes_of width n in
    numbers_first width bytes at (length ns)
    ∙ ap₂ (λ (x : ℕ) (xs : List ℕ). x ∷ xs) (number_read width n at bytes (h zero) (stands_front first (all_bytes_of width ns) s))
    (numbers_read width ns (at + width) bytes (λ k. h (suc k))
    (stands_moved (ap (λ (k : ℕ). at + k) (bytes_length width n)) (stands_back first (all_bytes_of width ns) s)))

pub numbers_written : (width at count : ℕ) (bytes : List ℕ) → ((k : ℕ) → get_or bytes k 0 < 256) → at + width * count ≤ length bytes → Stands (all_bytes_of width (numbers_at width bytes at count)) at bytes
unfolding all_bytes_of
numbers_written width at zero bytes small h = rw numbers_none (stands_none at bytes)
numbers_written width at (suc count) bytes small h =
    rw numbers_first
    (stands_join (number_written width at bytes small (omega arith))
    (stands_moved (ap (λ (k : ℕ). at + k) (sym (bytes_length width (number_at width bytes at))))
    (numbers_written width (at + width) count bytes small (omega arith))))

pub all_bytes_append : (width : ℕ) (xs ys : List ℕ) → all_bytes_of width (xs ++ ys) ≡ all_bytes_of width xs ++ all_bytes_of width ys
unfolding all_bytes_of
all_bytes_append width [] ys = refl
all_bytes_append width (x ∷ xs) ys =
    ap (λ (l : List ℕ). bytes_of width x ++ l) (all_bytes_append width xs ys) ∙ sym (append_assoc (bytes_of width x) (all_bytes_of width xs) (all_bytes_of width ys))

-- a loop's turn writes one number more
pub all_bytes_more : (width : ℕ) (ns : List ℕ) (k : ℕ) → k < length ns → all_bytes_of width (take (k + 1) ns) ≡ all_bytes_of width (take k ns) ++ bytes_of width (get_or ns k 0)
unfolding all_bytes_of
all_bytes_more width ns k h =
    ap (λ (n : ℕ). all_bytes_of width (take n ns)) (add-one k)
    ∙ ap (all_bytes_of width) (take-suc ns k 0 h)
    ∙ all_bytes_append width (take k ns) (get_or ns k 0 ∷ [])
    ∙ ap (λ (l : List ℕ). all_bytes_of width (take k ns) ++ l) (append-nil (bytes_of width (get_or ns k 0)))

-- ---- two's complement

pub natural_read : (span n : ℕ) → n < span / 2 → signed_of span (twos_complement span (pos n)) ≡ pos n
unfolding signed_of twos_complement
natural_read span n h = rw (lt-ltb n (span / 2) h)

pub negative_read : (span n : ℕ) → suc n ≤ span / 2 → signed_of span (twos_complement span (negsuc n)) ≡ negsuc n
unfolding signed_of twos_complement
negative_read span n h =
    rw (le-ltb (span - suc n) (span / 2) (omega (arith, div-mul-le_self span 2)))
    (ap negsuc (omega (arith, div-mul-le_self span 2)))

pub signed_read : (span : ℕ) (z : ℤ) (most : ℕ) → Magnitude z most → most < span / 2 → signed_of span (twos_complement span z) ≡ z
signed_read span (pos n) most m h = natural_read span n (omega (arith, m.bound))
signed_read span (negsuc n) most m h = negative_read span n (omega (arith, m.bound))

pub signed_written : (span n : ℕ) → n < span → twos_complement span (signed_of span n) ≡ n
unfolding signed_of twos_complement
signed_written span n h = go (ltb n (span / 2))
  where
    go : (t : Bool) → twos_complement span (cond t (pos n) (negsuc (span - suc n))) ≡ n
    go true = refl
    go false = omega arith

pub complement_small : (span : ℕ) (z : ℤ) (most : ℕ) → Magnitude z most → most < span / 2 → twos_complement span z < span
unfolding twos_complement
complement_small span (pos n) most m h = omega (arith, m.bound, div-mul-le_self span 2)
complement_small span (negsuc n) most m h = omega (arith, m.bound, div-mul-le_self span 2)

-- ---- integers as bytes

pub signed_length : (width : ℕ) (z : ℤ) → length (signed_bytes_of width z) ≡ width
unfolding signed_bytes_of
signed_length width z = bytes_length width (twos_complement (256 ^ width) z)

pub signed_number_read : (width : ℕ) (z : ℤ) (most at : ℕ) (bytes : List ℕ) → Magnitude z most → most < 256 ^ width / 2 → Stands (signed_bytes_of width z) at bytes → signed_at width bytes at ≡ z
unfolding signed_bytes_of signed_at
signed_number_read width z most at bytes m h s =
    ap (signed_of (256 ^ width)) (number_read width (twos_complement (256 ^ width) z) at bytes (complement_small (256 ^ width) z most m h) s)
    ∙ signed_read (256 ^ width) z most m h

pub signed_number_written : (width at : ℕ) (bytes : List ℕ) → ((k : ℕ) → get_or bytes k 0 < 256) → at + width ≤ length bytes → Stands (signed_bytes_of width (signed_at width bytes at)) at bytes
unfolding signed_bytes_of signed_at
signed_number_written width at bytes small h =
    rw (signed_written (256 ^ width) (number_at width bytes at) (number_small width bytes at small)) (number_written width at bytes small h)
