-- Fields one behind the other, and where each stands. Assumes nothing.
use mathlib.Core.Path.{◌≡◌, refl, sym, ap, subst}
use mathlib.Core.List.{List, [], ◌∷◌, ◌++◌}
use Prim.Native.Nat.{ℕ, zero, suc, ◌+◌, ◌<◌, ◌≤◌, suc-le-suc}
use native.Mathlib.Nat.{le_of_suc-le-suc}
use native.Mathlib.Omega.{arith}
use lib.ListN.{length, get_or, length-append}
use Rattle.arithmetic.specs.Places.{sum_to}
use Rattle.arithmetic.proofs.Places.{sum_ext}
use Rattle.big_endian.specs.BigEndian.{bytes_of, number_at}
use Rattle.record_contents.specs.RecordBytes.{header_bytes, field_bytes, fields_bytes}
use Rattle.record_layout.specs.RecordPlaces.{content_length, field_start}
use Rattle.big_endian.proofs.StandsAt.{Stands, stands_none, stands_moved, stands_front, stands_back, stands_join, stands_next, stands_rest}
use Rattle.big_endian.proofs.BigEndianLaws.{bytes_length, byte_read, byte_written, number_read, number_written}
use Rattle.record_contents.proofs.ContentLengths.{field_length}

-- ---- one field

-- what stands in a field
pub record FieldAt (tag : ℕ) (content : List ℕ) (at : ℕ) (bytes : List ℕ) : Type 0 where
  pub tag_there : get_or bytes at 0 ≡ tag
  pub size_there : number_at 2 bytes (at + 1) ≡ length content
  pub content_stands : Stands content (at + 3) bytes

pub field_read : (tag : ℕ) (content : List ℕ) (at : ℕ) (bytes : List ℕ) → tag < 256 → length content < 65536 → Stands (field_bytes tag content) at bytes → FieldAt tag content at bytes
unfolding field_bytes header_bytes
field_read tag content at bytes h l s =
    let header = bytes_of 1 tag ++ bytes_of 2 (length content) in
    let front = stands_front header content s in
    record {
      tag_there = byte_read tag at bytes h (stands_front (bytes_of 1 tag) (bytes_of 2 (length content)) front);
      size_there = number_read 2 (length content) (at + 1) bytes l (stands_rest (bytes_of 1 tag) (bytes_of 2 (length content)) 1 (bytes_length 1 tag) front);
      content_stands = stands_rest header content 3 (simp (length-append, bytes_length)) s;
    }

pub field_written : (tag : ℕ) (content : List ℕ) (at : ℕ) (bytes : List ℕ) → ((k : ℕ) → get_or bytes k 0 < 256) → at + 3 ≤ length bytes → FieldAt tag content at bytes → Stands (field_bytes tag content) at bytes
unfolding field_bytes header_bytes
field_written tag content at bytes small h f =
    let second : Stands (bytes_of 2 (length content)) (at + 1) bytes =
    subst (λ (n : ℕ). Stands (bytes_of 2 n) (at + 1) bytes) f.size_there (number_written 2 (at + 1) bytes small (omega arith)) in
    stands_next 3 (simp (length-append, bytes_length))
    (stands_next 1 (bytes_length 1 tag) (byte_written tag at bytes small (omega arith) f.tag_there) second)
    f.content_stands

-- ---- all fields

-- where field k starts, behind the first
unfoldable pub start_among : List (List ℕ) → ℕ → ℕ
start_among contents k = sum_to (λ j. 3 + length (get_or contents j [])) k

start_first : (contents : List (List ℕ)) → start_among contents 0 ≡ 0
unfolding start_among sum_to
start_first contents = refl

start_later : (content : List ℕ) (contents : List (List ℕ)) (k : ℕ) → start_among (content ∷ contents) (suc k) ≡ 3 + length content + start_among contents k
unfolding start_among sum_to
start_later content contents zero = omega arith
start_later content contents (suc k) = omega (arith, start_later content contents k)

pub fields_length : (tag : ℕ) (contents : List (List ℕ)) → length (fields_bytes tag contents) ≡ start_among contents (length contents)
unfolding fields_bytes
fields_length tag [] = sym (start_first [])
fields_length tag (content ∷ contents) =
    rw (length-append, field_length, fields_length (suc tag) contents, start_later)

-- a field given by its tag and its place in two ways
same_field : (content : List ℕ) {tag number : ℕ} {at place : ℕ} {bytes : List ℕ} → tag ≡ number → at ≡ place → Stands (field_bytes tag content) at bytes → Stands (field_bytes number content) place bytes
same_field content {tag} {number} {at} {place} {bytes} e f s = subst (λ (n : ℕ). Stands (field_bytes n content) place bytes) e (stands_moved f s)

pub fields_read : (tag : ℕ) (contents : List (List ℕ)) (at : ℕ) (bytes : List ℕ) → Stands (fields_bytes tag contents) at bytes → (k : ℕ) → k < length contents → Stands (field_bytes (tag + k) (get_or contents k [])) (at + start_among contents k) bytes
unfolding fields_bytes
fields_read tag [] at bytes s k h = absurd (omega arith)
fields_read tag (content ∷ contents) at bytes s zero h =
    same_field content (omega arith) (omega (arith, start_first (content ∷ contents))) (stands_front (field_bytes tag content) (fields_bytes (suc tag) contents) s)
fields_read tag (content ∷ contents) at bytes s (suc k) h =
    same_field (get_or contents k []) (omega arith) (omega (arith, start_later content contents k, field_length tag content))
    (fields_read (suc tag) contents (at + length (field_bytes tag content)) bytes (stands_back (field_bytes tag content) (fields_bytes (suc tag) contents) s) k (le_of_suc-le-suc h))

pub fields_written : (tag : ℕ) (contents : List (List ℕ)) (at : ℕ) (bytes : List ℕ) → ((k : ℕ) → k < length contents → Stands (field_bytes (tag + k) (get_or contents k [])) (at + start_among contents k) bytes) → Stands (fields_bytes tag contents) at bytes
unfolding fields_bytes
fields_written tag [] at bytes each = stands_none at bytes
fields_written tag (content ∷ contents) at bytes each =
    stands_join
    (same_field content (omega arith) (omega (arith, start_first (content ∷ contents))) (each zero (omega arith)))
    (fields_written (suc tag) contents (at + length (field_bytes tag content)) bytes
    (λ k h. same_field (get_or contents k []) (omega arith) (omega (arith, start_later content contents k, field_length tag content)) (each (suc k) (suc-le-suc h))))

-- the starts are the record's where the contents have the lengths that its numbers imply
pub same_starts : (contents : List (List ℕ)) (bytes : List ℕ) (n : ℕ) → ((k : ℕ) → k < n → length (get_or contents k []) ≡ content_length bytes k) → start_among contents n ≡ field_start bytes n
unfolding start_among field_start
same_starts contents bytes n e = sum_ext _ _ n (λ k h. ap (λ (m : ℕ). 3 + m) (e k h))
