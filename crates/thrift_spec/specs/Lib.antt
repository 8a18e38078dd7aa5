-- What a mount keeps of what it learned, along an account.
pub mod Records
pub mod Files
pub mod Thrift
pub mod OneCall
pub mod Contents
pub mod Recalls
pub mod Laws
