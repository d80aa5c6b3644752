mod AcceptedFiles
mod OneOutcome
pub mod OutcomeLaws
mod OutcomeSteps
