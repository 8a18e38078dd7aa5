-- The grammar of request frames, both ways.
pub mod Parts
pub mod Layout
pub mod Naming
pub mod Nodes
pub mod Opcodes
pub mod Mounts
pub mod Grammar
pub mod Text
pub mod Fields
