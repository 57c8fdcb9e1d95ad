pub mod Machine
pub mod Sound
pub mod Laws
pub mod Set
pub mod Tests
