-- What the settings of a mount may be, and what it observes and journals, as plain data.
pub mod Configs
pub mod Journal
pub mod Observing
