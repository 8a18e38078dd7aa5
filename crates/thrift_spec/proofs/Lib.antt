-- The laws of what a mount keeps, for the crates above.
pub mod KeepingUp
pub mod Rising
pub mod InParts
pub mod SameUpTo
pub mod OneCall
pub mod RecalledWalks
pub mod RecordsTell
pub mod WholeReads
pub mod KeptContents
pub mod Probes
pub mod LookSteps
pub mod LooksAreOne
pub mod Recalling
pub mod ServedLooks
