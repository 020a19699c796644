pub mod Chains
pub mod Backs
