pub mod BakeLemmas
