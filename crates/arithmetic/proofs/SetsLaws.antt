-- Lists stored one behind the other in a buffer. Assumes nothing.
use mathlib.Core.Path.{◌≡◌, ap, ◌∙◌}
use mathlib.Core.List.{List, [], ◌∷◌, ◌++◌, append-nil}
use Prim.Native.Nat.{ℕ, suc, ◌+◌, ◌<◌, ◌≤◌}
use native.Mathlib.Nat.{zero-add}
use native.Mathlib.Omega.{arith}
use lib.ListN.{length, set, get_or, drop, drop_of_length-le, get_or-append}
use lib.Seq.{sets, sets-eq}

-- a second list right behind the first
pub sets_append : (l : List ℕ) (i : ℕ) (xs ys : List ℕ) → sets (sets l i xs) (i + length xs) ys ≡ sets l i (xs ++ ys)
sets_append l i [] ys = ap (λ (k : ℕ). sets l k ys) (omega arith)
sets_append l i (x ∷ xs) ys =
    ap (λ (k : ℕ). sets (sets (set l i x) (suc i) xs) k ys) (omega arith) ∙ sets_append (set l i x) (suc i) xs ys

-- one element more
pub sets_next : (l l' : List ℕ) (i k : ℕ) (xs : List ℕ) (y : ℕ) → k ≡ i + length xs → l' ≡ sets l i xs → set l' k y ≡ sets l i (xs ++ y ∷ [])
sets_next l l' i k xs y p q = rw (p, q) (sets_append l i xs (y ∷ []))

-- a list stored from the start on
pub sets_start : (l xs : List ℕ) → length xs ≤ length l → sets l 0 xs ≡ xs ++ drop (length xs) l
sets_start l xs h = sets-eq xs l 0 (omega arith) ∙ ap (λ (k : ℕ). xs ++ drop k l) (zero-add (length xs))

pub sets_start_at : (l xs : List ℕ) (k : ℕ) → length xs ≤ length l → k < length xs → get_or (sets l 0 xs) k 0 ≡ get_or xs k 0
sets_start_at l xs k h i = rw (sets_start l xs h) (get_or-append xs (drop (length xs) l) 0 k i)

-- a list stored over the whole of another
pub sets_whole : (l xs : List ℕ) → length xs ≡ length l → sets l 0 xs ≡ xs
sets_whole l xs e = sets_start l xs (omega arith) ∙ rw (drop_of_length-le l {i = length xs} (omega arith), append-nil)

-- a second piece right behind the first
pub sets_then : (a : List ℕ) (i : ℕ) (xs ys : List ℕ) {b c : List ℕ} {j : ℕ} → b ≡ sets a i xs → j ≡ i + length xs → c ≡ sets b j ys → c ≡ sets a i (xs ++ ys)
sets_then a i xs ys {b} {c} {j} e p f = f ∙ ap (λ (k : ℕ). sets b k ys) p ∙ ap (λ (l : List ℕ). sets l (i + length xs) ys) e ∙ sets_append a i xs ys
