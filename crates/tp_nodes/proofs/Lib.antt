pub mod GoodNodes
