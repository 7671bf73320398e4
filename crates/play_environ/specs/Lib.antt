pub mod Environment
