mod Acted
mod Audited
pub mod Audits
pub mod Behind
pub mod Betweens
mod Chains
mod Cuts
mod First
mod Follows
mod Laws
mod Left
mod LegReads
mod LegWorlds
pub mod Legs
mod LoneEntries
pub mod LoneLegs
mod LoneSteps
mod Numbered
mod Onward
pub mod Own
mod Plans
mod ReadAgain
mod Readers
mod Replayed
mod ShownAgain
mod Sought
mod Stored
mod Texts
pub mod Wholes
mod Yes
