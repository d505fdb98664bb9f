pub mod WordLaws
pub mod ParsedCases
pub mod ReadBack
pub mod TextCases
