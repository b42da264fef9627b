pub mod Listings
pub mod Looks
pub mod Seeking
pub mod Owned
pub mod Refusing
pub mod Pages
pub mod Paging
