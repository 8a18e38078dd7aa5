-- The words that the contracts of `mtime_text` cite.
pub mod Spelling
pub mod Grammar
pub mod Printed
pub mod Reading
