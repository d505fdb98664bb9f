pub mod GoodRecord
