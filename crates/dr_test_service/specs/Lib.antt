-- calls for each of several, with what is lent to all
pub mod Lent
