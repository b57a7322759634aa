pub mod ClauseTexts
