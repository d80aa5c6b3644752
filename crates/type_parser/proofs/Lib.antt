mod Closed
mod Closing
mod Cuts
mod EntryLists
mod FieldNames
mod Levels
mod MemberLaws
mod Options
mod ParamLaws
mod Pieces
mod TypeLaws
mod TypeParamLaws
mod TypeParamLists
mod WordMatching
pub mod GrammarLaws
