pub mod ClockAnswers
pub mod ClockLaws
pub mod InitializeLaws
pub mod LadderExamples
pub mod LadderLaws
pub mod OldLadder
pub mod PresetWords
pub mod WordLaws
