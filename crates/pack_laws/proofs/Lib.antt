pub mod Accepted
mod Elements
mod Empty
mod EmptyWorld
mod FlatWords
mod FormedWords
mod Meanings
mod Only
mod Packs
mod Shown
mod SoundPieces
mod SoundPrograms
mod SoundScheme
mod TypedWords
