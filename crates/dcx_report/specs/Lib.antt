-- The text of each part of a report, which contracts cite.
pub mod AnswerText
pub mod CertifiedText
pub mod CheckText
pub mod Ends
pub mod FilterText
pub mod Negated
pub mod OutcomeText
pub mod Pieces
pub mod RangeText
pub mod RefusalText
pub mod ReportText
pub mod SameText
pub mod StopText
pub mod TrialText
pub mod WholeText
