pub mod ContentLaws
pub mod WantedLaws
pub mod BlockLaws
pub mod OverlayLaws
pub mod StandingLaws
pub mod CountLaws
pub mod FileLaws
