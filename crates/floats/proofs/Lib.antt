pub mod Laws
pub mod Floor
pub mod Keys
