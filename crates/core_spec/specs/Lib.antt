pub mod Cores
pub mod Tickets
pub mod Takes
pub mod Beside
pub mod Laws
pub mod TicketLaws
