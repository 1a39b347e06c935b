pub mod Gathered
pub mod MadeLemmas
pub mod FingerprintLemmas
