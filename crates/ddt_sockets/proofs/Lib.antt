pub mod NoncesLemmas
