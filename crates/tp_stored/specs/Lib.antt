pub mod Commit
pub mod Contents
pub mod Laws
pub mod Rebuilt
