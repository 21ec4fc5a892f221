-- what the faults stand for, and how a line is answered
pub mod Faults
-- what a session holds
pub mod Held
-- what a line of a record comes to
pub mod Keeping
-- the sign that a line begins with
pub mod Signs
-- what was heard of an input
pub mod Spoken
-- how a line's text is written
pub mod Saying
-- what a line comes to, whatever session is held
pub mod Steps
-- what a session over an input comes to
pub mod Talking
