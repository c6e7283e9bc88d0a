pub mod Each
pub mod Envs
pub mod LeafCopies
pub mod Making
pub mod Named
pub mod Reversing
pub mod TextFaults
