-- What staged content is, over plain lists and numbers.
pub mod Content
pub mod Blocks
pub mod Staging
pub mod Wanted
pub mod Slices
pub mod Overlays
pub mod StagedFiles
pub mod Laws
