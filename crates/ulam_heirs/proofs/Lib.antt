mod Splits
pub mod Ordered
mod Nearest
mod Chains
mod Counts
mod Fronts
pub mod Plain
mod Walks
pub mod Firsts
mod Ranking
mod OpenTables
mod Tables
mod Walking
pub mod Spanning
mod Turns
mod PlaceSets
mod Params
mod NextFile
mod MadeFiles
mod Examples
