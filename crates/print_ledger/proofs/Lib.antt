pub mod HeardBack
pub mod OnTheLine
