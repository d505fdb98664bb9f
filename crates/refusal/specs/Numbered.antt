-- Document 01, "Refusal numbers", and document 02 for 17, 18, 19 and 31: the number of each refusal, and what a call answers by it. Assumes nothing.
use Rattle.std.specs.Prelude.{ℕ, Result, Ok, Err}
use Rattle.refusal.specs.declared.numbered.Refusal.{Refusal}
use Rattle.refusal.specs.declared.numbered.Refusal.TheVariants.{Rays, Gates, Centres, Site, Grid, Length, Azimuth, Quality, CutShort, WrongTag, WrongField, BytesAfter, LongRecord, ShortBuffer, RaysPast, ClosedEarly, Closed, FullSum}
use Rattle.refusal.specs.Answer.{Answer, gives, refuses}

abbrev pub number_of : Refusal → ℕ
number_of Rays = 1
number_of Gates = 2
number_of Centres = 3
number_of Site = 4
number_of Grid = 5
number_of Length = 6
number_of Azimuth = 7
number_of Quality = 8
number_of CutShort = 11
number_of WrongTag = 12
number_of WrongField = 13
number_of BytesAfter = 14
number_of LongRecord = 15
number_of ShortBuffer = 16
number_of RaysPast = 17
number_of ClosedEarly = 18
number_of Closed = 19
number_of FullSum = 31

-- the number of a refusal, 0 for none
abbrev pub refusal_in : {A : Type 0} → Result A Refusal → ℕ
refusal_in (Ok value) = 0
refusal_in (Err refusal) = number_of refusal

-- what a call answers: its value, or the number of its refusal
abbrev pub answer_of : {A : Type 0} → Result A Refusal → Answer A
answer_of (Ok value) = gives value
answer_of (Err refusal) = refuses (number_of refusal)
