pub mod CountingMeetings
pub mod Closures
pub mod Rewritings
pub mod ClosureLaws
pub mod inside
