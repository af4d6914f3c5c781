pub mod CodeClause
pub mod Writing
pub mod ClauseByKinds
pub mod CodeCertificate
pub mod Completing
