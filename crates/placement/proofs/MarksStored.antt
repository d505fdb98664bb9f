-- What a loop over a list's first places leaves, where the list has more of them. Assumes nothing.
use mathlib.Core.List.{List}
use mathlib.Core.Path.{◌≡◌, sym, ap, ◌∙◌}
use Prim.Native.Nat.{ℕ, ◌+◌, ◌-◌, ◌<◌, ◌≤◌, zero-le}
use native.Mathlib.Omega.{arith}
use lib.ListN.{length, get_or, drop}
use lib.Seq.{sets, length-sets, ext_get_or, get_or-append_right}
use Rattle.std.proofs.lemmas.List.{get_or-drop}
use Rattle.arithmetic.specs.Places.{table, Written}
use Rattle.arithmetic.proofs.Places.{table_length, table_at, before_or_after}
use Rattle.arithmetic.proofs.SetsLaws.{sets_start, sets_start_at}

module _ (f : ℕ → ℕ) (n : ℕ) (before after : List ℕ) (written : Written f 0 n before after) (room : n ≤ length before) where
  fits : length (table f n) ≤ length before
  fits = omega (arith, table_length f n, room)

  within : (k : ℕ) → k < n → get_or after k 0 ≡ get_or (sets before 0 (table f n)) k 0
  within k h =
      written.written k zero-le h (omega (arith, room))
      ∙ sym (table_at f n k h)
      ∙ sym (sets_start_at before (table f n) k fits (omega (arith, table_length f n)))

  behind : (k : ℕ) → n ≤ k → get_or after k 0 ≡ get_or (sets before 0 (table f n)) k 0
  behind k h =
      let place : length (table f n) + (k - length (table f n)) ≡ k = omega (arith, table_length f n) in
      written.kept_above k h
      ∙ ap (λ (j : ℕ). get_or before j 0) (sym place)
      ∙ sym (get_or-drop (length (table f n)) before (k - length (table f n)) 0)
      ∙ sym (get_or-append_right (table f n) (drop (length (table f n)) before) k 0 (omega (arith, table_length f n)))
      ∙ ap (λ (l : List ℕ). get_or l k 0) (sym (sets_start before (table f n) fits))

  -- the places behind stay
  pub written_start : after ≡ sets before 0 (table f n)
  written_start =
      ext_get_or 0 after (sets before 0 (table f n)) (written.same_length ∙ sym (length-sets before 0 (table f n)))
      (λ k h. before_or_after k n (within k) (behind k))
