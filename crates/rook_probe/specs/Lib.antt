pub mod Probes
pub mod Values
