-- The laws of a turn of the loop that adds gates, over the share that a gate gives to its cell. Assumes nothing.
use mathlib.Core.Path.{◌≡◌, refl, sym, ap, ◌∙◌}
use mathlib.Core.Bool.{Bool, true, false, ◌&&◌, cond}
use mathlib.Core.List.{List}
use Prim.Native.Nat.{ℕ, ◌+◌, ◌*◌, ◌-◌, ◌<◌, ◌≤◌, zero-le}
use native.Mathlib.Nat.{add-zero, le_antisymm}
use native.Mathlib.Omega.{arith}
use borrow.Author.Tests.{eq-eqb, ne_eqb, leb-false}
use lib.Dec.{eqb, leb}
use lib.ListN.{length, length-set, set, get_or}
use Rattle.arithmetic.specs.Places.{sum_to}
use Rattle.arithmetic.proofs.Places.{table_length, table_at, table_ext, table_of, table_set, sum_step, sum_split, sum_most}
use Rattle.tally.specs.Gates.{is_measured}
use Rattle.tally.specs.Tally.{contributes, sum_over, added}
use Rattle.tally.specs.Width.{within}
use Rattle.tally.proofs.WidthLaws.{within_true, within_false, set_small}

-- each place of a list with a share added
module _ (share : ℕ → ℕ) (held : List ℕ) where
  pub added_length : length (added share held) ≡ length held
  unfolding added
  added_length = table_length _ (length held)

  pub added_at : (cell : ℕ) → cell < length held → get_or (added share held) cell 0 ≡ get_or held cell 0 + share cell
  unfolding added
  added_at cell h = table_at _ (length held) cell h

-- the list has a number for each cell, what it held and the cell's sum over the first n gates, and none is above the greatest of its width
pub record SumsAfter (ledger values qualities : List ℕ) (share : ℕ → ℕ → ℕ) (most n : ℕ) (held l : List ℕ) : Type 0 where
  pub cells_length : length l ≡ length held
  pub cell_sums : l ≡ added (sum_over ledger values qualities share n) held
  pub sums_most : (cell : ℕ) → get_or l cell 0 ≤ most

module _ (ledger values qualities : List ℕ) (share : ℕ → ℕ → ℕ) where
  -- what gate k gives to the cell
  unfoldable pub given : ℕ → ℕ → ℕ
  given cell k = cond (contributes ledger values qualities cell k) (share (get_or values k 0) (get_or qualities k 0)) 0

  pub one_more : (k cell : ℕ) → sum_over ledger values qualities share (k + 1) cell ≡ sum_over ledger values qualities share k cell + given cell k
  unfolding sum_over given
  one_more k cell = sum_step _ k

  pub none : (cell : ℕ) → sum_over ledger values qualities share 0 cell ≡ 0
  unfolding sum_over sum_to
  none cell = refl

  -- a measured gate gives its share to its own cell, and nothing to any other
  pub to_its_cell : (k : ℕ) → is_measured (get_or values k 0) ≡ true → given (get_or ledger k 0) k ≡ share (get_or values k 0) (get_or qualities k 0)
  unfolding given contributes
  to_its_cell k m = rw (eq-eqb (get_or ledger k 0) (get_or ledger k 0) refl, m)

  pub to_no_other : (k other : ℕ) → (other ≡ get_or ledger k 0 → ⊥) → given other k ≡ 0
  unfolding given contributes
  to_no_other k other r = rw (ne_eqb (get_or ledger k 0) other (λ e. r (sym e)))

  -- a sum over fewer gates is at most that over more
  pub fewer_gates : (n m cell : ℕ) → n ≤ m → sum_over ledger values qualities share n cell ≤ sum_over ledger values qualities share m cell
  unfolding sum_over given
  fewer_gates n m cell h =
      let split : n + (m - n) ≡ m = omega arith in
      omega (arith, sum_split (given cell) n (m - n), ap (sum_to (given cell)) split)

  -- a gate that gives nothing to any of the cells
  pub nothing_added : (k : ℕ) (held : List ℕ) → ((cell : ℕ) → cell < length held → given cell k ≡ 0) → added (sum_over ledger values qualities share k) held ≡ added (sum_over ledger values qualities share (k + 1)) held
  unfolding added
  nothing_added k held z =
      table_ext _ _ (length held) (λ cell h. ap (λ (n : ℕ). get_or held cell 0 + n) (sym (one_more k cell ∙ rw (z cell h) (add-zero _))))

  -- a gate of no cell, and one that was not measured
  pub given_outside : (k cells : ℕ) → cells ≤ get_or ledger k 0 → (cell : ℕ) → cell < cells → given cell k ≡ 0
  unfolding given contributes
  given_outside k cells h cell i = rw (ne_eqb (get_or ledger k 0) cell (λ q. omega arith))

  pub given_unmeasured : (k : ℕ) → is_measured (get_or values k 0) ≡ false → (cell : ℕ) → given cell k ≡ 0
  unfolding given contributes
  given_unmeasured k h cell = rw h (never (eqb (get_or ledger k 0) cell))
    where
      never : (t : Bool) → cond (t && false) (share (get_or values k 0) (get_or qualities k 0)) 0 ≡ 0
      never true = refl
      never false = refl

  -- a sum over n gates is at most n times what a measured gate gives at most
  pub sum_over_most : (b n cell : ℕ) → ((k : ℕ) → is_measured (get_or values k 0) ≡ true → share (get_or values k 0) (get_or qualities k 0) ≤ b) → sum_over ledger values qualities share n cell ≤ n * b
  unfolding sum_over contributes
  sum_over_most b n cell h = sum_most b _ n (λ k. go k (eqb (get_or ledger k 0) cell) (is_measured (get_or values k 0)) (h k))
    where
      go : (k : ℕ) (s t : Bool) → (t ≡ true → share (get_or values k 0) (get_or qualities k 0) ≤ b) → cond (s && t) (share (get_or values k 0) (get_or qualities k 0)) 0 ≤ b
      go k true true most = most refl
      go k true false most = zero-le
      go k false t most = zero-le

  -- no gate
  pub none_added : (held : List ℕ) → held ≡ added (sum_over ledger values qualities share 0) held
  unfolding added
  none_added held = table_of _ (length held) held refl (λ cell h. sym (rw (none cell) (add-zero _)))

-- before the first gate
pub before_first : {ledger values qualities : List ℕ} {share : ℕ → ℕ → ℕ} {most : ℕ} {held : List ℕ} → ((cell : ℕ) → get_or held cell 0 ≤ most) → SumsAfter ledger values qualities share most 0 held held
before_first small = record { cells_length = refl; cell_sums = none_added _ _ _ _ _; sums_most = small }

module _ {ledger values qualities : List ℕ} {share : ℕ → ℕ → ℕ} {most k : ℕ} {held l : List ℕ} (s : SumsAfter ledger values qualities share most k held l) where
  nothing_given : ((cell : ℕ) → cell < length held → given ledger values qualities share cell k ≡ 0) → SumsAfter ledger values qualities share most (k + 1) held l
  nothing_given z = record {
    cells_length = s.cells_length;
    cell_sums = s.cell_sums ∙ nothing_added ledger values qualities share k held z;
    sums_most = s.sums_most;
  }

  pub no_cell : length held ≤ get_or ledger k 0 → SumsAfter ledger values qualities share most (k + 1) held l
  no_cell h = nothing_given (given_outside ledger values qualities share k (length held) h)

  pub unmeasured : is_measured (get_or values k 0) ≡ false → SumsAfter ledger values qualities share most (k + 1) held l
  unmeasured h = nothing_given (λ cell i. given_unmeasured ledger values qualities share k h cell)

  cell_holds : (cell : ℕ) → cell < length held → get_or l cell 0 ≡ get_or held cell 0 + sum_over ledger values qualities share k cell
  cell_holds cell h = ap (λ (list : List ℕ). get_or list cell 0) s.cell_sums ∙ added_at _ held cell h

  module _ {x : ℕ} (h : get_or ledger k 0 < length held) (m : is_measured (get_or values k 0) ≡ true) (p : x ≡ share (get_or values k 0) (get_or qualities k 0)) where
    -- a measured gate of a cell, with room for its share
    pub measured : get_or l (get_or ledger k 0) 0 + x ≤ most → SumsAfter ledger values qualities share most (k + 1) held (set l (get_or ledger k 0) (get_or l (get_or ledger k 0) 0 + x))
    unfolding added
    measured room =
        let cell = get_or ledger k 0 in
        let one = one_more ledger values qualities share k in
        record {
          cells_length = length-set l cell (get_or l cell 0 + x) ∙ s.cells_length;
          cell_sums =
              ap (λ (list : List ℕ). set list cell (get_or l cell 0 + x)) s.cell_sums
              ∙ table_set _ _ (length held) cell _
              (omega (arith, cell_holds cell h, one cell, to_its_cell ledger values qualities share k m, p))
              (λ other b r. omega (arith, one other, to_no_other ledger values qualities share k other r));
          sums_most = set_small most l cell _ s.sums_most room;
        }

    -- where there is no room for its share, there is none for all gates
    pub none_for_all : k < length ledger → leb (get_or l (get_or ledger k 0) 0 + x) most ≡ false → within most (added (sum_over ledger values qualities share (length ledger)) held) ≡ false
    none_for_all i full =
        let cell = get_or ledger k 0 in
        let all = sum_over ledger values qualities share (length ledger) in
        let above = leb-false (get_or l cell 0 + x) most full in
        within_false most _ cell (omega (arith, added_length all held))
        (omega (arith, added_at all held cell h, cell_holds cell h, one_more ledger values qualities share k cell, to_its_cell ledger values qualities share k m, p, fewer_gates ledger values qualities share (k + 1) (length ledger) cell (omega arith)))

  -- after the last gate there was room for all
  pub room_for_all : k ≤ length ledger → length ledger ≤ k → within most (added (sum_over ledger values qualities share (length ledger)) held) ≡ true
  room_for_all h i = rw (← le_antisymm h i, ← s.cell_sums) (within_true most l (λ cell j. s.sums_most cell))
