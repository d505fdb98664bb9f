pub mod AnswerLaws
pub mod NumberedLaws
pub mod UnsignedLaws
pub mod Then
pub mod RangeBounds
pub mod CheckLaws
