-- A mark as a byte. Assumes nothing.
use mathlib.Core.Bool.{Bool, true, false}
use mathlib.Core.Path.{◌≡◌, refl}
use mir.Val.{bool_byte}
use Rattle.placement.specs.Gate.{mark_number}

pub mark_byte : (mark : Bool) → bool_byte mark ≡ mark_number mark
mark_byte true = refl
mark_byte false = refl
