-- Legal histories of a scenario, their text, and what they promise.
pub mod Schedules
pub mod Frames
pub mod Legal
pub mod Texts
pub mod Promises
