pub mod Adding
pub mod Binding
pub mod Numbering
pub mod Refusing
