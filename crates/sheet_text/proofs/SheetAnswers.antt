-- Which text is printed: too large, refused, or the sheet. Assumes nothing.
use mathlib.Core.Path.{◌≡◌, refl, sym, ap, ◌∙◌}
use mathlib.Core.List.{List}
use Prim.Native.Nat.{ℕ, zero, suc, ◌≤◌, ◌<◌}
use borrow.Author.Tests.{le-leb, lt-leb}
use lib.ListN.{length}
use Rattle.refusal.specs.Numbered.{number_of}
use Rattle.refusal.specs.declared.numbered.Refusal.{Refusal}
use Rattle.refusal.proofs.NumberedLaws.{numbered}
use Rattle.scan.specs.declared.head.ScanHead.{ScanHead}
use Rattle.scan.specs.Scan.{gates_of, cells_of}
use Rattle.record_layout.specs.RecordPlaces.{head_in}
use Rattle.record_layout.specs.RecordRefusal.{head_refusal}
use Rattle.text.specs.RefusedLine.{refused_line}
use Rattle.sheet_lines.specs.SheetLines.{too_large}
use Rattle.sheet_text.specs.SheetText.{refused_or, sized_sheet, sheet_text}
use Rattle.record_sheet.specs.GoodSheet.{good_sheet}

-- ---- the two sizes

module _ (bytes : List ℕ) {head : ScanHead} (e : head ≡ head_in bytes) where
  pub gates_too_many : 4096 < gates_of head → too_large ≡ sized_sheet bytes
  unfolding sized_sheet
  gates_too_many h = rw (sym e, lt-leb (gates_of head) 4096 h)

  pub cells_too_many : gates_of head ≤ 4096 → 1024 < cells_of head → too_large ≡ sized_sheet bytes
  unfolding sized_sheet
  cells_too_many g h = rw (sym e, le-leb (gates_of head) 4096 g, lt-leb (cells_of head) 1024 h)

  pub within_sizes : gates_of head ≤ 4096 → cells_of head ≤ 1024 → good_sheet bytes ≡ sized_sheet bytes
  unfolding sized_sheet
  within_sizes g h = rw (sym e, le-leb (gates_of head) 4096 g, le-leb (cells_of head) 1024 h)

-- ---- the answer to a call for the record

pub bytes_too_many : (bytes : List ℕ) → 16384 < length bytes → too_large ≡ sheet_text bytes
unfolding sheet_text
bytes_too_many bytes h = rw (lt-leb (length bytes) 16384 h)

refused_text : (number n : ℕ) (sheet : List ℕ) → n ≡ number → (number ≡ 0 → ⊥) → refused_line n ≡ refused_or number sheet
unfolding refused_or
refused_text zero n sheet e wrong = absurd (wrong refl)
refused_text (suc number) n sheet e wrong = ap refused_line e

pub is_refused : (bytes : List ℕ) (refusal : Refusal) → length bytes ≤ 16384 → number_of refusal ≡ head_refusal bytes → refused_line (number_of refusal) ≡ sheet_text bytes
unfolding sheet_text
is_refused bytes refusal h e =
    rw (le-leb (length bytes) 16384 h) (refused_text (head_refusal bytes) (number_of refusal) (sized_sheet bytes) e (λ z. numbered refusal (e ∙ z)))

pub is_sized : (bytes : List ℕ) → length bytes ≤ 16384 → head_refusal bytes ≡ 0 → sized_sheet bytes ≡ sheet_text bytes
unfolding sheet_text refused_or
is_sized bytes h e = rw (le-leb (length bytes) 16384 h, e)
