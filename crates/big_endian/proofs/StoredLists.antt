-- Numbers stored and read one by one, as loops over lists leave them. Assumes nothing.
use mathlib.Core.Path.{◌≡◌, refl, sym, ap, ◌∙◌}
use mathlib.Core.List.{List}
use Prim.Native.Nat.{ℕ, ◌+◌, ◌*◌, ◌≤◌, ◌<◌, zero-le}
use native.Mathlib.Omega.{arith}
use lib.ListN.{length, get_or, set, take}
use Rattle.std.specs.Prelude.{map}
use Rattle.std.proofs.lemmas.List.{get_or-map, length-map, map-set}
use Rattle.arithmetic.specs.Places.{table, Written}
use Rattle.arithmetic.proofs.Places.{written_more, written_all}
use lib.Seq.{sets, length-take-le}
use Rattle.big_endian.specs.BigEndian.{bytes_of, all_bytes_of}
use Rattle.big_endian.proofs.BigEndianLaws.{all_bytes_length, all_bytes_more}
use Rattle.arithmetic.proofs.SetsLaws.{sets_then}

pub list_none : (width : ℕ) (a : List ℕ) (start : ℕ) (ns : List ℕ) → a ≡ sets a start (all_bytes_of width (take 0 ns))
unfolding all_bytes_of
list_none width a start ns = refl

first_length : (width : ℕ) (ns : List ℕ) (k : ℕ) → k ≤ length ns → length (all_bytes_of width (take k ns)) ≡ width * k
first_length width ns k h = all_bytes_length width (take k ns) ∙ ap (λ (n : ℕ). width * n) (length-take-le k ns h)

pub list_more : (width : ℕ) (a : List ℕ) (start : ℕ) (ns : List ℕ) (k : ℕ) {n place : ℕ} {b c : List ℕ} → k < length ns → b ≡ sets a start (all_bytes_of width (take k ns)) → place ≡ start + width * k → n ≡ get_or ns k 0 → c ≡ sets b place (bytes_of width n) → c ≡ sets a start (all_bytes_of width (take (k + 1) ns))
list_more width a start ns k {place = place} {b = b} h e p q f =
    sets_then a start (all_bytes_of width (take k ns)) (bytes_of width (get_or ns k 0)) e (p ∙ ap (λ (n : ℕ). start + n) (sym (first_length width ns k (omega arith)))) (f ∙ ap (λ (n : ℕ). sets b place (bytes_of width n)) q)
    ∙ ap (sets a start) (sym (all_bytes_more width ns k h))

-- ---- a list of words, by the number of each

module _ {X : Type 0} (number : X → ℕ) where
  pub number_of_word : (xs : List X) (k : ℕ) (x : X) → k < length xs → x ≡ get_or xs k x → number x ≡ get_or (map number xs) k 0
  number_of_word xs k x h e = ap number e ∙ sym (get_or-map number xs k x 0 h)

  pub word_read : (f : ℕ → ℕ) (k : ℕ) (before after : List X) (x : X) → Written f 0 k (map number before) (map number after) → k < length before → number x ≡ f k → Written f 0 (k + 1) (map number before) (map number (set after k x))
  word_read f k before after x w h e = rw map-set (written_more f 0 k (number x) _ _ w zero-le (rw length-map h) e)

  pub words_read : (f : ℕ → ℕ) (k n : ℕ) (before after : List X) → Written f 0 k (map number before) (map number after) → k ≡ n → n ≡ length before → map number after ≡ table f n
  words_read f k n before after w e g = written_all f k _ _ w (rw length-map (e ∙ g)) ∙ ap (table f) e
