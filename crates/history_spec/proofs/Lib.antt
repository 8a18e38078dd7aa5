-- The laws of accounts, for the crates above.
pub mod Agreeing
pub mod Calling
pub mod Claiming
pub mod Following
pub mod JournalLaws
pub mod Lanes
pub mod LaneLaws
pub mod OneAccount
pub mod OwnMoments
pub mod PlanSteps
pub mod SettledAtLast
pub mod Settling
pub mod Walking
pub mod WalkLaws
