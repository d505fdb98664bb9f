-- Lists by what stands at each place, and sums over places. Assumes nothing.
use mathlib.Core.Path.{◌≡◌, refl, sym, ap, ap₂, ◌∙◌}
use mathlib.Core.Bool.{Bool, true, false, not, cond}
use mathlib.Core.List.{List, [], ◌∷◌}
use Prim.Native.Nat.{ℕ, zero, suc, ◌+◌, ◌*◌, ◌/◌, ◌<◌, ◌≤◌, zero-le, suc-le-suc}
use native.Mathlib.Nat.{le_antisymm, zero-lt-suc, not-suc-le-zero, le_of_suc-le-suc, add-zero, add-suc, zero-mul, suc-mul, mul_comm, mul-le-mul_right, div-le_of_le-mul, le-div_iff_mul-le}
use native.Mathlib.Numerals.{add-one}
use native.Mathlib.Omega.{arith}
use borrow.Author.Tests.{lt-ltb, le-ltb}
use lib.Dec.{T, ltb, ltb→lt, nltb→le}
use lib.ListN.{length, set, length-set, get_or, drop, drop_of_length-le}
use lib.Seq.{drop-cons, ext_get_or, get_or-set_same, get_or-set_other}
use Rattle.arithmetic.proofs.Test.{and_true, and_false}
use Rattle.arithmetic.specs.Places.{table, sum_to, all_of, Written}

-- ---- tables

pub table_length : (f : ℕ → ℕ) (n : ℕ) → length (table f n) ≡ n
unfolding table
table_length f zero = refl
table_length f (suc n) = ap suc (table_length (λ k. f (suc k)) n)

pub table_at : (f : ℕ → ℕ) (n k : ℕ) → k < n → get_or (table f n) k 0 ≡ f k
unfolding table
table_at f zero k h = absurd (not-suc-le-zero h)
table_at f (suc n) zero h = refl
table_at f (suc n) (suc k) h = table_at (λ j. f (suc j)) n k (le_of_suc-le-suc h)

-- two tables that agree at each place
pub table_ext : (f g : ℕ → ℕ) (n : ℕ) → ((k : ℕ) → k < n → f k ≡ g k) → table f n ≡ table g n
unfolding table
table_ext f g zero e = refl
table_ext f g (suc n) e =
    ap₂ (λ (x : ℕ) (l : List ℕ). x ∷ l) (e zero (zero-lt-suc n))
    (table_ext (λ k. f (suc k)) (λ k. g (suc k)) n (λ k h. e (suc k) (suc-le-suc h)))

-- a list is the table of what stands at its places
pub table_of : (f : ℕ → ℕ) (n : ℕ) (l : List ℕ) → length l ≡ n → ((k : ℕ) → k < n → get_or l k 0 ≡ f k) → l ≡ table f n
table_of f n l s e =
    ext_get_or 0 l (table f n) (s ∙ sym (table_length f n)) (λ k h. e k (omega arith) ∙ sym (table_at f n k (omega arith)))

-- a store at place j
pub table_set : (f g : ℕ → ℕ) (n j v : ℕ) → v ≡ g j → ((k : ℕ) → k < n → (k ≡ j → ⊥) → f k ≡ g k) → set (table f n) j v ≡ table g n
unfolding table
table_set f g zero j v p e = refl
table_set f g (suc n) zero v p e =
    ap₂ (λ (x : ℕ) (l : List ℕ). x ∷ l) p
    (table_ext (λ k. f (suc k)) (λ k. g (suc k)) n (λ k h. e (suc k) (suc-le-suc h) (λ q. omega arith)))
table_set f g (suc n) (suc j) v p e =
    ap₂ (λ (x : ℕ) (l : List ℕ). x ∷ l) (e zero (zero-lt-suc n) (λ q. omega arith))
    (table_set (λ k. f (suc k)) (λ k. g (suc k)) n j v p (λ k h q. e (suc k) (suc-le-suc h) (λ r. q (omega arith))))

-- ---- a loop that writes one place after the other

pub written_none : (f : ℕ → ℕ) (a : ℕ) (l : List ℕ) → Written f a a l l
written_none f a l = record {
  same_length = refl;
  written = λ k h i j. absurd (omega arith);
  kept_below = λ k h. refl;
  kept_above = λ k h. refl;
}

pub before_or_after : {P : Type 0} (k b : ℕ) → (k < b → P) → (b ≤ k → P) → P
before_or_after {P} k b f g = go (ltb k b) (λ t. ltb→lt k b t) (λ t. nltb→le k b t)
  where
    go : (t : Bool) → (T t → k < b) → (T (not t) → b ≤ k) → P
    go true x y = f (x tt)
    go false x y = g (y tt)

pub written_more : (f : ℕ → ℕ) (a b v : ℕ) (before after : List ℕ) → Written f a b before after → a ≤ b → b < length before → v ≡ f b → Written f a (b + 1) before (set after b v)
written_more f a b v before after w h i e =
    let other : (k : ℕ) → (k ≡ b → ⊥) → get_or (set after b v) k 0 ≡ get_or after k 0 = λ k ne. get_or-set_other after b k v 0 ne in
    record {
      same_length = length-set after b v ∙ w.same_length;
      written = λ k p q r.
          before_or_after k b (λ l. other k (λ x. omega arith) ∙ w.written k p l r)
          (λ l. ap (λ (j : ℕ). get_or (set after b v) j 0) (le_antisymm (le_pred k q) l)
          ∙ get_or-set_same after b v 0 (omega (arith, w.same_length)) ∙ e ∙ ap f (sym (le_antisymm (le_pred k q) l)));
      kept_below = λ k p. other k (λ x. omega arith) ∙ w.kept_below k p;
      kept_above = λ k p. other k (λ x. omega arith) ∙ w.kept_above k (omega arith);
    }
  where
    le_pred : (k : ℕ) → k < b + 1 → k ≤ b
    le_pred k q = omega arith

-- the whole list
pub written_all : (f : ℕ → ℕ) (n : ℕ) (before after : List ℕ) → Written f 0 n before after → n ≡ length before → after ≡ table f n
written_all f n before after w e =
    table_of f n after (w.same_length ∙ sym e) (λ k h. w.written k zero-le h (omega arith))

-- ---- sums

pub sum_step : (f : ℕ → ℕ) (n : ℕ) → sum_to f (n + 1) ≡ sum_to f n + f n
unfolding sum_to
sum_step f n = rw add-one

pub sum_ext : (f g : ℕ → ℕ) (n : ℕ) → ((k : ℕ) → k < n → f k ≡ g k) → sum_to f n ≡ sum_to g n
unfolding sum_to
sum_ext f g zero e = refl
sum_ext f g (suc n) e = ap₂ (λ (x y : ℕ). x + y) (sum_ext f g n (λ k h. e k (omega arith))) (e n (omega arith))

pub sum_zero : (n : ℕ) → sum_to (λ k. 0) n ≡ 0
unfolding sum_to
sum_zero zero = refl
sum_zero (suc n) = omega (arith, sum_zero n)

-- a sum whose terms are 0 at every place but j
pub sum_single : (f : ℕ → ℕ) (j n : ℕ) → ((k : ℕ) → (k ≡ j → ⊥) → f k ≡ 0) → sum_to f n ≡ cond (ltb j n) (f j) 0
unfolding sum_to
sum_single f j zero e = rw (le-ltb j 0 zero-le)
sum_single f j (suc n) e =
    before_or_after j n
    (λ l. rw (sum_single f j n e, lt-ltb j n l, lt-ltb j (suc n) (omega arith), e n (λ q. omega arith)) (omega arith))
    (λ l. before_or_after n j
    (λ m. rw (sum_single f j n e, le-ltb j n l, le-ltb j (suc n) m, e n (λ q. omega arith)))
    (λ m. rw (sum_single f j n e, le-ltb j n l, lt-ltb j (suc n) (suc-le-suc m), le_antisymm l m) (omega arith)))

-- a sum of terms that are each at most m times another's
pub sum_scale : (m : ℕ) (f g : ℕ → ℕ) (n : ℕ) → ((k : ℕ) → k < n → f k ≤ m * g k) → sum_to f n ≤ m * sum_to g n
unfolding sum_to
sum_scale m f g zero h = zero-le
sum_scale m f g (suc n) h = omega (arith, sum_scale m f g n (λ k i. h k (omega arith)), h n (omega arith))

-- a sum of terms that are each at least m times another's
pub sum_scale_least : (m : ℕ) (f g : ℕ → ℕ) (n : ℕ) → ((k : ℕ) → k < n → m * g k ≤ f k) → m * sum_to g n ≤ sum_to f n
unfolding sum_to
sum_scale_least m f g zero h = omega arith
sum_scale_least m f g (suc n) h = omega (arith, sum_scale_least m f g n (λ k i. h k (omega arith)), h n (omega arith))

pub sum_most : (b : ℕ) (f : ℕ → ℕ) (n : ℕ) → ((k : ℕ) → f k ≤ b) → sum_to f n ≤ n * b
unfolding sum_to
sum_most b f zero h = zero-le
sum_most b f (suc n) h = omega (arith, sum_most b f n h, h n)

-- two stretches add up
pub sum_split : (f : ℕ → ℕ) (a b : ℕ) → sum_to f (a + b) ≡ sum_to f a + sum_to (λ k. f (a + k)) b
unfolding sum_to
sum_split f a zero = rw add-zero (omega arith)
sum_split f a (suc b) = rw add-suc (omega (arith, sum_split f a b))

-- n rows of m places each
pub sum_rows : (f : ℕ → ℕ) (n m : ℕ) → sum_to f (n * m) ≡ sum_to (λ i. sum_to (λ g. f (i * m + g)) m) n
unfolding sum_to
sum_rows f zero m = ap (sum_to f) (zero-mul m)
sum_rows f (suc n) m =
    ap (sum_to f) (suc-mul n m) ∙ sum_split f (n * m) m ∙ ap (λ (s : ℕ). s + sum_to (λ g. f (n * m + g)) m) (sum_rows f n m)

pub sum_of_table : (f : ℕ → ℕ) (n : ℕ) → sum_to (λ k. get_or (table f n) k 0) (length (table f n)) ≡ sum_to f n
sum_of_table f n = rw (table_length f n) (sum_ext _ f n (λ k h. table_at f n k h))

pub sum_of_sums : (f g : ℕ → ℕ) (n : ℕ) → sum_to (λ k. f k + g k) n ≡ sum_to f n + sum_to g n
unfolding sum_to
sum_of_sums f g zero = refl
sum_of_sums f g (suc n) = omega (arith, sum_of_sums f g n)

-- sums over rows and columns in either order
pub sum_exchange : (f : ℕ → ℕ → ℕ) (n m : ℕ) → sum_to (λ j. sum_to (λ k. f j k) m) n ≡ sum_to (λ k. sum_to (λ j. f j k) n) m
unfolding sum_to
sum_exchange f zero m = sym (sum_zero m)
sum_exchange f (suc n) m =
    ap (λ (x : ℕ). x + sum_to (λ k. f n k) m) (sum_exchange f n m) ∙ sym (sum_of_sums (λ k. sum_to (λ j. f j k) n) (λ k. f n k) m)

-- ---- weighted means: floor((x 0 * w 0 + .. ) / (w 0 + ..)) lies between the terms x k whose weight w k is not 0

weigh : (x y w : ℕ) → ((w ≡ 0 → ⊥) → x ≤ y) → x * w ≤ y * w
weigh x y zero h = omega arith
weigh x y (suc w) h = mul-le-mul_right (suc w) (h (λ e. omega arith))

pub weighted_most : (b : ℕ) (x w : ℕ → ℕ) (n : ℕ) → ((k : ℕ) → k < n → (w k ≡ 0 → ⊥) → x k ≤ b) → sum_to (λ k. x k * w k) n / sum_to w n ≤ b
weighted_most b x w n h =
    div-le_of_le-mul (sum_to w n) (rw mul_comm (sum_scale b (λ k. x k * w k) w n (λ k i. weigh (x k) b (w k) (h k i))))

pub weighted_least : (b : ℕ) (x w : ℕ → ℕ) (n : ℕ) → ((k : ℕ) → k < n → (w k ≡ 0 → ⊥) → b ≤ x k) → (sum_to w n ≡ 0 → ⊥) → b ≤ sum_to (λ k. x k * w k) n / sum_to w n
weighted_least b x w n h p =
    (le-div_iff_mul-le {k = sum_to w n} {x = b} {y = sum_to (λ k. x k * w k) n} (omega arith)).1
    (sum_scale_least b (λ k. x k * w k) w n (λ k i. weigh b (x k) (w k) (h k i)))

-- ---- a loop that looks for an element that fails a test: the invariant is all_of test xs ≡ all_of test (drop k xs)

pub all_step : (test : ℕ → Bool) (xs : List ℕ) (k : ℕ) (b : Bool) → k < length xs → test (get_or xs k 0) ≡ true → b ≡ all_of test (drop k xs) → b ≡ all_of test (drop (k + 1) xs)
unfolding all_of
all_step test xs k b h t e = e ∙ rw (drop-cons xs k 0 h, t, add-one)

pub all_stop : (test : ℕ → Bool) (xs : List ℕ) (k : ℕ) (b : Bool) → k < length xs → test (get_or xs k 0) ≡ false → b ≡ all_of test (drop k xs) → false ≡ b
unfolding all_of
all_stop test xs k b h t e = sym (e ∙ rw (drop-cons xs k 0 h, t))

pub all_end : (test : ℕ → Bool) (xs : List ℕ) (k : ℕ) (b : Bool) → length xs ≤ k → b ≡ all_of test (drop k xs) → true ≡ b
unfolding all_of
all_end test xs k b h e = sym (e ∙ rw (drop_of_length-le xs h))

-- what a passed test says of each place; behind the last one 0 stands, which must pass too
pub all_at : (test : ℕ → Bool) (xs : List ℕ) → test 0 ≡ true → all_of test xs ≡ true → (k : ℕ) → test (get_or xs k 0) ≡ true
unfolding all_of
all_at test [] z e k = z
all_at test (x ∷ xs) z e zero = (and_true (test x) (all_of test xs) e).0
all_at test (x ∷ xs) z e (suc k) = all_at test xs z (and_true (test x) (all_of test xs) e).1 k

-- a test that passes at each place, and one that fails at some place
pub all_true : (test : ℕ → Bool) (xs : List ℕ) → ((k : ℕ) → k < length xs → test (get_or xs k 0) ≡ true) → all_of test xs ≡ true
unfolding all_of
all_true test [] h = refl
all_true test (x ∷ xs) h = rw (h zero (zero-lt-suc (length xs))) (all_true test xs (λ k i. h (suc k) (suc-le-suc i)))

pub all_false : (test : ℕ → Bool) (xs : List ℕ) (k : ℕ) → k < length xs → test (get_or xs k 0) ≡ false → all_of test xs ≡ false
unfolding all_of
all_false test [] k i e = absurd (not-suc-le-zero i)
all_false test (x ∷ xs) zero i e = rw e
all_false test (x ∷ xs) (suc k) i e = rw (all_false test xs k (le_of_suc-le-suc i) e) (and_false (test x))
