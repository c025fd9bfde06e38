pub mod RoundTrip
pub mod Sound
pub mod Complete
pub mod Refuting
pub mod Determined
