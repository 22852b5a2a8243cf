pub mod Fails
pub mod NamesAdded
pub mod NamesBehave
pub mod NamesClasses
pub mod NamesCycles
pub mod NamesExamples
pub mod NamesFunctions
pub mod NamesLaw
pub mod NamesLists
pub mod NamesMembers
pub mod NamesScopes
pub mod NamesShown
pub mod NamesStatements
pub mod NamesTypes
pub mod NamesUses
pub mod NamesWalked
mod BasesLines
mod BasesFaults
mod BasesExamples
mod TypesClasses
mod TypesTable
mod TypesUpdates
mod TypesPaths
mod TypesExprs
mod TypesBodies
mod TypesPrograms
mod TypesExamples
