-- The lemmas on coefficients, forms and rows: how they are formed, what they are worth, and which unknowns they name.
pub mod Formed
pub mod Keys
pub mod ParamForms
pub mod Settings
pub mod RowAnswers
pub mod Widths
pub mod Narrow
pub mod Answered
pub mod SlotSums
pub mod PartSums
pub mod MultipleLaws
pub mod Coefficients
pub mod SettingForms
pub mod SettingRows
pub mod NumberForms
pub mod Behind
