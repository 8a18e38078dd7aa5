-- What the program promises of a served stream, of a scenario that is played, and of its words.
pub mod Answers
pub mod Drills
pub mod Inputs
pub mod Plays
pub mod Serve
pub mod Serving
pub mod Tool
