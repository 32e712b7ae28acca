pub mod VersionLemmas
