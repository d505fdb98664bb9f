pub mod StandsAt
pub mod BigEndianLaws
pub mod ReadNumbers
pub mod NumberInList
pub mod StoredLists
pub mod StoredNumbers
