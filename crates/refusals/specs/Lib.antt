pub mod Answer
pub mod ToldBy
