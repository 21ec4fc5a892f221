-- What metadata stands for, in the definitions' words.
use Rattle.std.specs.Prelude.{ℕ, List, map, option_map, Vec}
use Rattle.std.specs.declared.alloc.Global.{Global}
use denote.Ref.{Bor}
use Rattle.dr_formats.specs.Metadata as metadata
use Rattle.dr_formats.specs.Compact.{Struct}
use Rattle.dr_compact.specs.declared.tree.Tree.{Tree}
use Rattle.dr_compact.specs.Views.{tree_view}
use Rattle.dr_meta.specs.declared.file.SchemaItem.{SchemaItem}
use Rattle.dr_meta.specs.declared.file.ColumnMeta.{ColumnMeta}
use Rattle.dr_meta.specs.declared.file.ChunkMeta.{ChunkMeta}
use Rattle.dr_meta.specs.declared.file.GroupMeta.{GroupMeta}
use Rattle.dr_meta.specs.declared.file.FileMeta.{FileMeta}
use Rattle.dr_meta.specs.declared.page.DataPage.{DataPage}
use Rattle.dr_meta.specs.declared.page.DictionaryPage.{DictionaryPage}
use Rattle.dr_meta.specs.declared.page.DataPageV2.{DataPageV2}
use Rattle.dr_meta.specs.declared.page.PageHead.{PageHead}

-- what a reference lends
abbrev pub lent : {A : Type 0} → Bor A → A
lent b = b.now

abbrev pub lent_names : Bor (List (Bor (List ℕ))) → List (List ℕ)
lent_names b = map lent b.now

abbrev pub item_view : SchemaItem → metadata.SchemaElement
item_view e = record {
  type = e.kind;
  type_length = e.kind_length;
  repetition = e.repetition;
  name = e.name.now;
  children = e.children;
  converted = e.converted;
}

abbrev pub column_view : ColumnMeta → metadata.ColumnMeta
column_view m = record {
  type = m.kind;
  encodings = option_map lent m.encodings;
  path = option_map lent_names m.path;
  codec = m.codec;
  values = m.values.number;
  uncompressed_size = m.uncompressed_size;
  compressed_size = m.compressed_size.number;
  data_page_offset = m.data_page_offset.number;
  dictionary_page_offset = m.dictionary_page_offset;
}

abbrev pub chunk_view : ChunkMeta → metadata.ColumnChunk
chunk_view c = record { file_path = option_map lent c.file_path; file_offset = c.file_offset; meta = column_view c.meta }

abbrev pub group_view : GroupMeta → metadata.RowGroup
group_view g = record { columns = map chunk_view g.columns.items; total_byte_size = g.total_byte_size; rows = g.rows.number }

abbrev pub file_view : FileMeta → metadata.FileMeta
file_view m = record {
  version = m.version;
  schema = map item_view m.schema.items;
  rows = m.rows.number;
  groups = map group_view m.groups.items;
  created_by = option_map lent m.created_by;
}

abbrev pub data_page_view : DataPage → metadata.DataPageHeader
data_page_view h = record {
  values = h.values.number;
  encoding = h.encoding;
  definition_encoding = h.definition_encoding;
  repetition_encoding = h.repetition_encoding;
}

abbrev pub dictionary_page_view : DictionaryPage → metadata.DictionaryPageHeader
dictionary_page_view h = record { values = h.values.number; encoding = h.encoding }

abbrev pub data_page_v2_view : DataPageV2 → metadata.DataPageHeaderV2
data_page_v2_view h = record {
  values = h.values.number;
  nulls = h.nulls;
  rows = h.rows;
  encoding = h.encoding;
  definition_bytes = h.definition_bytes.number;
  repetition_bytes = h.repetition_bytes.number;
  compressed = h.compressed;
}

abbrev pub page_view : PageHead → metadata.PageHeader
page_view h = record {
  type = h.kind;
  uncompressed_size = h.uncompressed_size;
  compressed_size = h.compressed_size.number;
  data_page = option_map data_page_view h.data_page;
  dictionary_page = option_map dictionary_page_view h.dictionary_page;
  data_page_v2 = option_map data_page_v2_view h.data_page_v2;
}

-- lent structs
abbrev pub lent_structs : Bor (List Tree) → List Struct
lent_structs b = map tree_view b.now

abbrev pub items_view : Vec SchemaItem Global → List metadata.SchemaElement
items_view v = map item_view v.items

abbrev pub chunks_view : Vec ChunkMeta Global → List metadata.ColumnChunk
chunks_view v = map chunk_view v.items

abbrev pub groups_view : Vec GroupMeta Global → List metadata.RowGroup
groups_view v = map group_view v.items
