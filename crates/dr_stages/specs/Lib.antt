-- queries that are bound one over another
pub mod Stages
-- the result of a query with those in its FROM
pub mod Results
