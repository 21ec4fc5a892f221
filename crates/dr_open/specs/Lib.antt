-- fields in the list of a file's schema elements, and which leaf of the file a schema's leaf is
pub mod Places
pub mod Skips
pub mod LeafView
-- the open part
pub mod Opens
pub mod OpenViews
-- where a leaf's column is
pub mod Sources
pub mod SourceViews
