-- Which lists of words are commands of the program.
pub mod Forms
pub mod Padded
