-- Text stored in a buffer, one piece behind the other, up to a whole line. Assumes nothing.
use mathlib.Core.List.{List, [], ◌∷◌, ◌++◌, append_assoc}
use mathlib.Core.Path.{◌≡◌, refl, sym, ap, ◌∙◌, subst}
use Prim.Native.Nat.{ℕ, ◌+◌, ◌-◌, ◌≤◌}
use native.Mathlib.Nat.{zero-add, add-zero}
use native.Mathlib.Omega.{arith}
use lib.ListN.{length, take, drop, length-append}
use lib.Seq.{sets, sets-eq, length-sets}
use Rattle.arithmetic.proofs.SetsLaws.{sets_append}
use Rattle.text.specs.DecimalText.{decimal_of, line_of, spaced}
use Rattle.text.specs.declared.text.Text.{Text}
use Rattle.text.specs.StoredText.{Stored, Appends}
use borrow.Rule.Slice.PartMut.{put_mid, Post-is}

pub stored : {a : List ℕ} {at : ℕ} {text : List ℕ} {end : ℕ} {b : List ℕ} → end ≡ at + length text → b ≡ sets a at text → Stored a at text end b
stored e f = record { the_end = e; the_bytes = f }

module _ {a : List ℕ} {at : ℕ} where
  pub stored_none : Stored a at [] at a
  stored_none = stored (sym (add-zero at)) refl

  pub stored_same : {text other : List ℕ} {end : ℕ} {b : List ℕ} → text ≡ other → Stored a at text end b → Stored a at other end b
  stored_same {end = end} {b = b} e s = subst (λ (l : List ℕ). Stored a at l end b) e s

  pub stored_length : {text : List ℕ} {end : ℕ} {b : List ℕ} → Stored a at text end b → length b ≡ length a
  stored_length {text = text} s = ap length s.the_bytes ∙ length-sets a at text

  -- a second piece right behind the first
  pub stored_next : {xs ys : List ℕ} {mid end : ℕ} {b c : List ℕ} → Stored a at xs mid b → Stored b mid ys end c → Stored a at (xs ++ ys) end c
  stored_next {xs} {ys} s t = record {
    the_end = rw length-append (omega (arith, s.the_end, t.the_end));
    the_bytes = t.the_bytes ∙ rw (s.the_bytes, s.the_end) (sets_append a at xs ys);
  }

-- ---- text that is appended to

module _ {a : Text} where
  pub appends_none : Appends a [] a
  appends_none = record { stored = stored_none; same_length = refl; same_buffer = refl }

  pub appends_same : {b : Text} {xs ys : List ℕ} → xs ≡ ys → Appends a xs b → Appends a ys b
  appends_same e s = record { stored = stored_same e s.stored; same_length = s.same_length; same_buffer = s.same_buffer }

  -- a number that was widened is the same number
  pub appends_number : (after : ℕ) {b : Text} {n m : ℕ} → n ≡ m → Appends a (decimal_of n ++ after ∷ []) b → Appends a (decimal_of m ++ after ∷ []) b
  appends_number after e s = appends_same (ap (λ (k : ℕ). decimal_of k ++ after ∷ []) e) s

  -- a second piece right behind the first
  pub appends_next : {b c : Text} {xs ys : List ℕ} → Appends a xs b → Appends b ys c → Appends a (xs ++ ys) c
  appends_next s t = record {
    stored = stored_next s.stored t.stored;
    same_length = t.same_length ∙ s.same_length;
    same_buffer = t.same_buffer ∙ s.same_buffer;
  }

  -- ---- words with a space behind each

  pub spaced_last : (word : List ℕ) {b : Text} → Appends a (word ++ 32 ∷ []) b → Appends a (spaced (word ∷ [])) b
  unfolding spaced
  spaced_last word s = s

  pub spaced_before : (word : List ℕ) (words : List (List ℕ)) {b c : Text} → Appends a (word ++ 32 ∷ []) b → Appends b (spaced words) c → Appends a (spaced (word ∷ words)) c
  unfolding spaced
  spaced_before word words s t = appends_same (append_assoc word (32 ∷ []) (spaced words)) (appends_next s t)

  -- ---- lines

  pub line_last : (word : List ℕ) {b : Text} → Appends a (word ++ 10 ∷ []) b → Appends a (line_of (word ∷ [])) b
  unfolding line_of
  line_last word s = s

  pub line_before : (word next : List ℕ) (words : List (List ℕ)) {b c : Text} → Appends a (word ++ 32 ∷ []) b → Appends b (line_of (next ∷ words)) c → Appends a (line_of (word ∷ next ∷ words)) c
  unfolding line_of
  line_before word next words s t = appends_same (append_assoc word (32 ∷ []) (line_of (next ∷ words))) (appends_next s t)

-- words with a space behind each, and the rest of their line
pub spaced_line : (front : List (List ℕ)) (next : List ℕ) (words : List (List ℕ)) → spaced front ++ line_of (next ∷ words) ≡ line_of (front ++ next ∷ words)
unfolding spaced line_of
spaced_line [] next words = refl
spaced_line (word ∷ []) next words = append_assoc word (32 ∷ []) (line_of (next ∷ words))
spaced_line (word ∷ second ∷ front) next words =
    append_assoc word (32 ∷ spaced (second ∷ front)) (line_of (next ∷ words))
    ∙ ap (λ (l : List ℕ). word ++ 32 ∷ l) (spaced_line (second ∷ front) next words)

spaced_append : (front rest : List (List ℕ)) → spaced front ++ spaced rest ≡ spaced (front ++ rest)
unfolding spaced
spaced_append [] rest = refl
spaced_append (word ∷ front) rest =
    append_assoc word (32 ∷ spaced front) (spaced rest) ∙ ap (λ (l : List ℕ). word ++ 32 ∷ l) (spaced_append front rest)

module _ {a b c : Text} (front : List (List ℕ)) where
  pub spaced_next : (rest : List (List ℕ)) → Appends a (spaced front) b → Appends b (spaced rest) c → Appends a (spaced (front ++ rest)) c
  spaced_next rest s t = appends_same (spaced_append front rest) (appends_next s t)

  pub spaced_then_line : (next : List ℕ) (words : List (List ℕ)) → Appends a (spaced front) b → Appends b (line_of (next ∷ words)) c → Appends a (line_of (front ++ next ∷ words)) c
  spaced_then_line next words s t = appends_same (spaced_line front next words) (appends_next s t)

-- what `copy_from_slice` leaves of the buffer
pub part_stored : (a word now : List ℕ) (at : ℕ) → at + length word ≤ length a → now ≡ word → put_mid at (at + length word - at) a now ≡ sets a at word
part_stored a word now at h e =
    rw (Post-is at (at + length word) a (omega arith), e) (sym (append_assoc (take at a) word (drop (at + length word) a)) ∙ sym (sets-eq word a at h))

-- what a function answers that stores a text from the start on
pub answered : {a text : List ℕ} {end most : ℕ} {b : List ℕ} → Stored a 0 text end b → end ≤ most → (end ≡ length text) × ((end ≤ most) × (b ≡ sets a 0 text))
answered {text = text} s h = (s.the_end ∙ zero-add (length text), (h, s.the_bytes))
