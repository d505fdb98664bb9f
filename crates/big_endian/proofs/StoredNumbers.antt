-- The last bytes of a word, stored, are a number of that width, of either sign. Assumes nothing.
use mathlib.Core.Path.{◌≡◌, refl, sym, ap, ap₂, ◌∙◌}
use mathlib.Core.List.{List, [], ◌∷◌, ◌++◌, append_assoc}
use Prim.Native.Nat.{ℕ, zero, suc, ◌+◌, ◌-◌, ◌*◌, ◌/◌, ◌%◌, ◌^◌, ◌<◌, ◌≤◌}
use native.Mathlib.Nat.{zero-add, suc-add, suc-mul, pow-suc, div-div-eq-div-mul}
use native.Mathlib.Omega.{arith}
use borrow.Rule.Slice.PartMut.{put_mid}
use lib.IntN.{ℤ, pos, negsuc, nat_abs}
use lib.ListN.{length, take, drop}
use lib.Seq.{sets, sets-eq, drop-drop, take_all}
use mir.Syntax.{w64}
use mir.Val.{of_z}
use Rattle.std.specs.Int.{byte_at, bytes_high_first}
use Rattle.std.proofs.lemmas.Nat.{pow-add}
use Rattle.big_endian.specs.BigEndian.{bytes_of, twos_complement, signed_bytes_of}
use Rattle.big_endian.proofs.BigEndianLaws.{bytes_length}

-- ---- the machine's bytes, the highest first

first_byte : (k n : ℕ) → bytes_of (suc k) n ≡ byte_at k n ∷ bytes_of k n
unfolding bytes_of
first_byte zero n = refl
first_byte (suc zero) n = refl
first_byte (suc (suc k)) n =
    ap (λ (l : List ℕ). l ++ n % 256 ∷ []) (first_byte (suc k) (n / 256))
    ∙ ap (λ (m : ℕ). m % 256 ∷ (bytes_of (suc k) (n / 256) ++ n % 256 ∷ [])) (div-div-eq-div-mul n 256 (256 ^ suc k) ∙ ap (λ (m : ℕ). n / m) (rw (pow-suc 256 (suc k)) (omega arith)))

high_first : (k n : ℕ) → bytes_high_first k n ≡ bytes_of k n
unfolding bytes_of
high_first zero n = refl
high_first (suc k) n = ap (λ (l : List ℕ). byte_at k n ∷ l) (high_first k n) ∙ sym (first_byte k n)

last_bytes : (m k n : ℕ) → drop m (bytes_high_first (m + k) n) ≡ bytes_of k n
last_bytes zero k n = rw zero-add (high_first k n)
last_bytes (suc m) k n = rw suc-add (last_bytes m k n)

-- the last k bytes of a word of w bytes
word_part : (w k n : ℕ) → k ≤ w → take (w - (w - k)) (drop (w - k) (bytes_high_first w n)) ≡ bytes_of k n
word_part w k n h =
    let whole : w ≡ w - k + k = omega arith in
    let part = ap (λ (v : ℕ). drop (w - k) (bytes_high_first v n)) whole ∙ last_bytes (w - k) k n in
    take_all _ _ (omega (arith, ap length part, bytes_length k n)) ∙ part

-- ---- what they are stored over

put_over : (a : List ℕ) (at size : ℕ) (ys zs : List ℕ) → ys ≡ zs → length zs ≡ size → at + size ≤ length a → put_mid at (at + size - at) a ys ≡ sets a at zs
put_over a at size ys zs e s h =
    ap₂ (λ (l r : List ℕ). take at a ++ (l ++ r)) e (drop-drop (at + size - at) at a ∙ ap (λ (k : ℕ). drop k a) {y = at + length zs} (omega arith))
    ∙ sym (sets-eq zs a at (omega arith) ∙ append_assoc (take at a) zs _)

-- ---- the same bytes for numbers that differ by a whole number of spans

same_bytes : (k n m q : ℕ) → n ≡ m + q * 256 ^ k → bytes_of k n ≡ bytes_of k m
unfolding bytes_of
same_bytes zero n m q e = refl
same_bytes (suc k) n m q e =
    let t : n ≡ m + 256 * (q * 256 ^ k) = e ∙ rw pow-suc (omega arith) in
    ap₂ (λ (l : List ℕ) (b : ℕ). l ++ b ∷ []) (same_bytes k (n / 256) (m / 256) q (omega (arith, t))) (omega (arith, t))

spans : (r p n : ℕ) → r * p ≡ 18446744073709551616 → n < p → 18446744073709551616 - suc n ≡ p - suc n + (r - 1) * p
spans zero p n e h = absurd (omega arith)
spans (suc r) p n e h =
    let less : suc r - 1 ≡ r = omega arith in
    rw less (omega (arith, sym (suc-mul r p) ∙ e))

word_bytes : (k : ℕ) (z : ℤ) → k ≤ 8 → nat_abs z < 256 ^ k → bytes_of k (of_z w64 z) ≡ bytes_of k (twos_complement (256 ^ k) z)
unfolding twos_complement
word_bytes k (pos n) h i = refl
word_bytes k (negsuc n) h i =
    let whole : 8 - k + k ≡ 8 = omega arith in
    same_bytes k _ _ _ (spans (256 ^ (8 - k)) (256 ^ k) n (sym (pow-add 256 (8 - k) k) ∙ ap (λ (m : ℕ). 256 ^ m) whole) (omega arith))

word_stored : (a : List ℕ) (at w k n : ℕ) {ys bs : List ℕ} → k ≤ w → at + k ≤ length a → bs ≡ bytes_high_first w n → ys ≡ take (w - (w - k)) (drop (w - k) bs) → sets a at (bytes_of k n) ≡ put_mid at (at + k - at) a ys
word_stored a at w k n h i f e =
    sym (put_over a at k _ _ (e ∙ ap (λ (l : List ℕ). take (w - (w - k)) (drop (w - k) l)) f ∙ word_part w k n h) (bytes_length k n) i)

-- as the code stores them
pub four_stored : (a : List ℕ) (at k n : ℕ) {ys bs : List ℕ} → k ≤ 4 → at + k ≤ length a → bs ≡ bytes_high_first 4 n → ys ≡ take (4 - (4 - k)) (drop (4 - k) bs) → sets a at (bytes_of k n) ≡ put_mid at (at + k - at) a ys
four_stored a at k n = word_stored a at 4 k n

pub eight_stored : (a : List ℕ) (at k : ℕ) (z : ℤ) {ys bs : List ℕ} → k ≤ 8 → at + k ≤ length a → nat_abs z < 256 ^ k → bs ≡ bytes_high_first 8 (of_z w64 z) → ys ≡ take (8 - (8 - k)) (drop (8 - k) bs) → sets a at (signed_bytes_of k z) ≡ put_mid at (at + k - at) a ys
unfolding signed_bytes_of
eight_stored a at k z h i small f e = ap (sets a at) (sym (word_bytes k z h small)) ∙ word_stored a at 8 k (of_z w64 z) h i f e
