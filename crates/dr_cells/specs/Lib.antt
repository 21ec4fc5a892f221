-- results as cells, and their shapes
pub mod Results
-- the shape of a plan's result, and of the types here
pub mod Shapes
pub mod PlanShapes
-- held cells, and what cells stand for
pub mod Held
pub mod Views
-- what results stand for
pub mod Rows
