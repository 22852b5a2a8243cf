-- That no stage refuses the source of the elements of generated worlds.
pub mod Accepted
mod Coding
mod Found
mod Lexing
mod Naming
mod Parsing
mod Reader
mod Trees
mod Typing
