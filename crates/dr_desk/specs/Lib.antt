-- the rule of the table beside the lock, and what its seats are; what a ground shows; what the calls of a desk tell a pass
pub mod Rule
pub mod Locked
pub mod Grounds
pub mod Calls
