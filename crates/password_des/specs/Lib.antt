pub mod Des
pub mod Answer
