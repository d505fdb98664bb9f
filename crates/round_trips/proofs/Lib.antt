pub mod FieldStands
pub mod ReadThenWrite
pub mod FieldContents
pub mod ContentsRead
pub mod WriteThenRead
pub mod RoundTrips
pub mod LongRecords
