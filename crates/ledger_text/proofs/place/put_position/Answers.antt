-- `ledger_text::place::put_position` meets its contract. Assumes nothing.
use Rattle.std.proofs.Common.{rules, ◌++◌, ◌∷◌, []}
use mir.Facts.{to_z-of_z}
use Rattle.text.specs.DecimalText.{signed_decimal_of}
use Rattle.text.specs.StoredText.{Appends}
use Rattle.text.proofs.StoredLaws.{spaced_last, spaced_before}
use Rattle.ledger_text.proofs.place.put_position.Goals as goal

pub returns-clause-appended : goal.returns-clause-appended
returns-clause-appended c =
    let x : Appends c.args.line.now (signed_decimal_of c.args.placement.x ++ 32 ∷ []) c.integer.new.self = search (to_z-of_z, rules) in
    let y : Appends c.integer.new.self (signed_decimal_of c.args.placement.y ++ 32 ∷ []) c.integer-2.new.self = search (to_z-of_z, rules) in
    spaced_before _ _ x (spaced_last _ y)
