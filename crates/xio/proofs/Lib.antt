pub mod PrefixLemmas
pub mod SetLemmas
pub mod PrintLemmas
mod Taken
mod OneFile
mod ShelfLemmas
mod NumbersLemmas
mod PiecesLemmas
