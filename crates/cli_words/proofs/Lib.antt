pub mod FormLaws
pub mod NumberLaws
