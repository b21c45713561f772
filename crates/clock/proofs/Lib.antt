pub mod Needed
pub mod Ticked
pub mod Event
pub mod Pulsed
pub mod Going
pub mod Quieted
