-- `record_reader::reader::read_scan` meets its contract. Assumes nothing.
use mathlib.Core.Bool.{Bool}
use mathlib.Core.List.{List}
use mathlib.Core.Path.{◌≡◌, sym, ap, ◌∙◌}
use Prim.Native.Nat.{ℕ}
use native.Mathlib.Omega.{arith}
use lib.ListN.{length}
use Rattle.std.proofs.Common.{rules, Err}
use Rattle.refusal.specs.Numbered.{number_of, answer_of}
use Rattle.refusal.proofs.AnswerLaws.{kept, filled}
use Rattle.refusal.proofs.NumberedLaws.{numbered, answers_value, answers_refusal}
use Rattle.big_endian.specs.BigEndian.{numbers_at}
use Rattle.scan.specs.declared.head.ScanHead.{ScanHead}
use Rattle.scan.specs.ScanRefusal.{lists_accepted, given_exact}
use Rattle.record_layout.specs.RecordPlaces.{head_in, azimuths_in, values_in, qualities_in}
use Rattle.record_layout.specs.RecordLists.{RecordLists, record_lists_of}
use Rattle.record_layout.specs.RecordRefusal.{record_refusal, read_refusal}
use Rattle.record_reader.specs.RecordRead.{lists_in}
use Rattle.record_reader.proofs.ReadLists.{KnownLists, known_lists}
use Rattle.record_reader.proofs.reader.read_scan.Goals as goal

-- the refusal of the record that came in, as the code asks for it
is-refusal : (bytes : List ℕ) (lists : RecordLists) {head : ScanHead} {azimuths values qualities : List ℕ} {exact : Bool} {number : ℕ} → head ≡ head_in bytes → azimuths ≡ lists.azimuths → values ≡ lists.values → qualities ≡ lists.qualities → exact ≡ lists_accepted head (length azimuths) (length values) (length qualities) → number ≡ record_refusal bytes exact → number ≡ read_refusal bytes lists
unfolding read_refusal
is-refusal bytes lists head a v q exact number = number ∙ ap (record_refusal _) (simp (head, a, v, q) at exact)

pub returns-in_err-check_record-clause-read : goal.returns-in_err-check_record-clause-read
unfolding given_exact
returns-in_err-check_record-clause-read c =
    let lists = record_lists_of c.args.rays.now in
    let given = c.as_ref.ensures in
    let refusal = c.in_err-check_record.field-0.0 in
    let told : number_of refusal ≡ record_refusal c.args.bytes.now c.lists_accepted-lists_exact.result = search rules in
    let number = is-refusal c.args.bytes.now lists c.head_in-head.ensures given.azimuths given.values given.qualities c.lists_accepted-lists_exact.ensures told in
    let same : answer_of c.from_residual.result ≡ answer_of (Err refusal) = search rules in
    record {
      the_answer = same ∙ answers_refusal refusal _ number;
      the_lists = kept _ _ _ (λ e. numbered refusal (number ∙ e));
    }

pub read_lists-requires : goal.read_lists-requires
unfolding given_exact
read_lists-requires c =
    let lists = record_lists_of c.args.rays.now in
    let given = c.as_ref.ensures in
    let told : 0 ≡ record_refusal c.args.bytes.now c.lists_accepted-lists_exact.result = search rules in
    let zero = sym (is-refusal c.args.bytes.now lists c.head_in-head.ensures given.azimuths given.values given.qualities c.lists_accepted-lists_exact.ensures told) in
    let known : KnownLists c.args.bytes.now lists = known_lists _ _ zero in (
      omega (arith, known.azimuths_length, known.rays_most),
      omega (arith, known.values_length, known.gates_most),
      omega (arith, known.qualities_length, known.gates_most),
    )

pub returns-clause-read : goal.returns-clause-read
unfolding given_exact lists_in azimuths_in values_in qualities_in
returns-clause-read c =
    let lists = record_lists_of c.args.rays.now in
    let given = c.as_ref.ensures in
    let told : 0 ≡ record_refusal c.args.bytes.now c.lists_accepted-lists_exact.result = search rules in
    let zero = sym (is-refusal c.args.bytes.now lists c.head_in-head.ensures given.azimuths given.values given.qualities c.lists_accepted-lists_exact.ensures told) in
    let known : KnownLists c.args.bytes.now lists = known_lists _ _ zero in
    let read = c.read_lists.ensures in
    record {
      the_answer = answers_value zero c.head_in-head.ensures;
      the_lists = filled _ zero (λ i. record {
        azimuths = (read.azimuths_after ∙ ap (numbers_at 4 _ _) known.azimuths_length) i;
        values = (read.values_after ∙ ap (numbers_at 2 _ _) known.values_length) i;
        qualities = (read.qualities_after ∙ ap (numbers_at 1 _ _) known.qualities_length) i;
      });
    }
