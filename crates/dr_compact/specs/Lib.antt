-- what trees and types stand for
pub mod Views
pub mod Types
-- what came of reading
pub mod Reads
pub mod Steps
-- what came of writing
pub mod Writes
