-- The words that the contracts of `spare_maps` cite.
pub mod SpareMaps
pub mod Lending
