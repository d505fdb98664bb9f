-- A piece that stands at a place in a list of bytes. Assumes nothing.
use mathlib.Core.Path.{◌≡◌, refl, sym, ap, ◌∙◌, subst}
use mathlib.Core.List.{List, [], ◌∷◌, ◌++◌}
use Prim.Native.Nat.{ℕ, ◌+◌, ◌-◌, ◌<◌, ◌≤◌, min}
use native.Mathlib.Nat.{le-add_right}
use native.Mathlib.Omega.{arith}
use lib.ListN.{length, get_or, take, drop, length-append, length-take, length-drop}
use lib.Seq.{drop-cons, take-append_seam, drop_at, take-take, take-add, drop-drop, take-length, get_or-take, get_or-drop}

pub record Stands (piece : List ℕ) (at : ℕ) (bytes : List ℕ) : Type 0 where
  pub same : take (length piece) (drop at bytes) ≡ piece

-- ---- where a piece stands

pub stands_none : (at : ℕ) (bytes : List ℕ) → Stands [] at bytes
stands_none at bytes = record { same = refl }

pub stands_whole : (bytes : List ℕ) → Stands bytes 0 bytes
stands_whole bytes = record { same = take-length bytes }

-- the byte at a place
pub stands_one : (at : ℕ) (bytes : List ℕ) → at < length bytes → Stands (get_or bytes at 0 ∷ []) at bytes
stands_one at bytes h = record { same = rw (drop-cons bytes at 0 h) }

-- a place given in two ways
pub stands_moved : {piece : List ℕ} {at place : ℕ} {bytes : List ℕ} → at ≡ place → Stands piece at bytes → Stands piece place bytes
stands_moved {piece} {at} {place} {bytes} e s = subst (λ (n : ℕ). Stands piece n bytes) e s

-- ---- one piece behind the other

pub stands_front : (xs ys : List ℕ) {at : ℕ} {bytes : List ℕ} → Stands (xs ++ ys) at bytes → Stands xs at bytes
stands_front xs ys {at} {bytes} s = record {
  same =
      sym (take-take (length xs) (length (xs ++ ys)) (drop at bytes) (rw length-append (le-add_right (length xs) (length ys))))
      ∙ ap (λ (l : List ℕ). take (length xs) l) s.same
      ∙ take-append_seam xs ys;
}

pub stands_back : (xs ys : List ℕ) {at : ℕ} {bytes : List ℕ} → Stands (xs ++ ys) at bytes → Stands ys (at + length xs) bytes
stands_back xs ys {at} {bytes} s =
    let rest = drop at bytes in
    record {
      same =
          ap (λ (l : List ℕ). take (length ys) l) (sym (drop-drop (length xs) at bytes))
          ∙ sym (drop_at (take (length xs) rest) (take (length ys) (drop (length xs) rest)) (length xs) (ap length (stands_front xs ys s).same))
          ∙ ap (λ (l : List ℕ). drop (length xs) l) (sym (take-add (length xs) (length ys) rest))
          ∙ ap (λ (n : ℕ). drop (length xs) (take n rest)) (sym (length-append xs ys))
          ∙ ap (λ (l : List ℕ). drop (length xs) l) s.same
          ∙ drop_at xs ys (length xs) refl;
    }

pub stands_join : {xs ys : List ℕ} {at : ℕ} {bytes : List ℕ} → Stands xs at bytes → Stands ys (at + length xs) bytes → Stands (xs ++ ys) at bytes
stands_join {xs} {ys} {at} {bytes} s t =
    let rest = drop at bytes in
    record {
      same =
          ap (λ (n : ℕ). take n rest) (length-append xs ys)
          ∙ take-add (length xs) (length ys) rest
          ∙ ap (λ (l : List ℕ). l ++ take (length ys) (drop (length xs) rest)) s.same
          ∙ ap (λ (l : List ℕ). xs ++ take (length ys) l) (drop-drop (length xs) at bytes)
          ∙ ap (λ (l : List ℕ). xs ++ l) t.same;
    }

-- the same, where the first piece has a known length
pub stands_next : {xs ys : List ℕ} {at : ℕ} {bytes : List ℕ} (n : ℕ) → length xs ≡ n → Stands xs at bytes → Stands ys (at + n) bytes → Stands (xs ++ ys) at bytes
stands_next {at = at} n e s t = stands_join s (stands_moved (ap (λ (m : ℕ). at + m) (sym e)) t)

pub stands_rest : (xs ys : List ℕ) {at : ℕ} {bytes : List ℕ} (n : ℕ) → length xs ≡ n → Stands (xs ++ ys) at bytes → Stands ys (at + n) bytes
stands_rest xs ys {at} n e s = stands_moved (ap (λ (m : ℕ). at + m) e) (stands_back xs ys s)

-- ---- what stands there

pub stands_all : {piece bytes : List ℕ} → length piece ≡ length bytes → Stands piece 0 bytes → piece ≡ bytes
stands_all {piece} {bytes} e s = sym s.same ∙ ap (λ (n : ℕ). take n bytes) e ∙ take-length bytes

pub stands_byte : {piece : List ℕ} {at : ℕ} {bytes : List ℕ} → Stands piece at bytes → (k : ℕ) → k < length piece → get_or bytes (at + k) 0 ≡ get_or piece k 0
stands_byte {piece} {at} {bytes} s k h =
    sym (get_or-drop at bytes k 0) ∙ sym (get_or-take (length piece) (drop at bytes) k 0 h) ∙ ap (λ (l : List ℕ). get_or l k 0) s.same

-- a piece that is not empty ends within the bytes
pub stands_within : {piece : List ℕ} {at : ℕ} {bytes : List ℕ} → Stands piece at bytes → 0 < length piece → at + length piece ≤ length bytes
stands_within {piece} {at} {bytes} s h =
    let size : min (length piece) (length bytes - at) ≡ length piece =
    sym (ap (λ (n : ℕ). min (length piece) n) (length-drop at bytes)) ∙ sym (length-take (length piece) (drop at bytes)) ∙ ap length s.same in
    omega arith
