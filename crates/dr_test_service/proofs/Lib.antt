-- threads may share a plan and a service
pub mod CrossingLemmas
