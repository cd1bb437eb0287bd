pub mod Speller
