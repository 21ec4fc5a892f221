-- what the fields of an object that is read of cells have
pub mod PlacedLemmas
-- objects that are striped one after another
pub mod StripingLemmas
-- the fields of a result
pub mod FieldLemmas
-- the kinds of a plan's terms
pub mod KindLemmas
-- the names that items need
pub mod NameLemmas
-- the schema of what a plan gives
pub mod SchemaLemmas
-- queries over the results of others
pub mod NestedLemmas
-- the plans of a text
pub mod TextLemmas
