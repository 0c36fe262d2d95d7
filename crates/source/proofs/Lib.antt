pub mod YearLaws
