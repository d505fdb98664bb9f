-- What a word is read as, with '-' in front and without. Assumes nothing.
use mathlib.Core.Path.{◌≡◌, refl, sym, ◌∙◌}
use mathlib.Core.Bool.{Bool, true, false}
use mathlib.Core.List.{List, [], ◌∷◌}
use Prim.Native.Nat.{ℕ}
use borrow.Author.Rules.{rules}
use lib.Dec.{eqb}
use lib.IntN.{pos, neg_ℤ}
use lib.ListN.{take, drop}
use lib.Pointwise.{pointwise}
use Rattle.arithmetic.specs.Places.{all_of}
use Rattle.word_value.specs.WordValue.{is_natural, value_of, number_or, parsed}

-- whether '-' stands in front, as `strip_prefix` tests it
abbrev pub has_sign : List ℕ → Bool
has_sign w = pointwise eqb (take 1 w) (45 ∷ [])

pub sign_is : (b : ℕ) (w : List ℕ) → has_sign (b ∷ w) ≡ eqb b 45
sign_is b w = search rules

pub signed_word : (w digits : List ℕ) → has_sign w ≡ true → digits ≡ drop 1 w → number_or (is_natural digits) (neg_ℤ (pos (value_of digits))) ≡ parsed w
unfolding parsed
signed_word [] digits s e = cc
signed_word (b ∷ w) digits s e = rw (sym (sign_is b w) ∙ s, e)

pub plain_word : (w : List ℕ) → has_sign w ≡ false → number_or (is_natural w) (pos (value_of w)) ≡ parsed w
unfolding parsed number_or is_natural all_of
plain_word [] s = refl
plain_word (b ∷ w) s = rw (sym (sign_is b w) ∙ s)
