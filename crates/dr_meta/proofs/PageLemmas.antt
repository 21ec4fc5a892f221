-- Trees of page headers, made from the trees of their parts.
use Rattle.std.proofs.Common.{◌≡◌, ℕ, ℤ, pos, refl, ap, ap₂, ◌∙◌}
use Rattle.std.specs.Prelude.{Option, Some, None, option_map}
use Rattle.dr_formats.specs.Compact.{Struct, stop, struct_field, struct_item, i32_item}
use Rattle.dr_formats.specs.Metadata.{data_header_tree, dictionary_header_tree, data_header_v2_tree, page_tree, with_field, with_i32, count_i32}
use Rattle.dr_compact.specs.declared.tree.Tree.{Tree}
use Rattle.dr_compact.specs.Views.{tree_view}
use Rattle.dr_meta.specs.declared.page.PageHead.{PageHead}
use Rattle.dr_meta.specs.declared.page.DataPage.{DataPage}
use Rattle.dr_meta.specs.declared.page.DictionaryPage.{DictionaryPage}
use Rattle.dr_meta.specs.declared.page.DataPageV2.{DataPageV2}
use Rattle.dr_meta.specs.Views.{page_view, data_page_view, dictionary_page_view, data_page_v2_view}

part : {A : Type 0} (id : ℕ) (tree : A → Struct) (o : Option A) (p : Option Struct) (s : Struct) → p ≡ option_map tree o → with_field id struct_item p s ≡ with_field id (λ a. struct_item (tree a)) o s
part id tree None p s e = rw e refl
part id tree (Some a) p s e = rw e refl

tree_after : {A B : Type 0} (tree : B → Struct) (see : A → B) (o : Option A) → option_map (λ a. tree (see a)) o ≡ option_map tree (option_map see o)
tree_after tree see None = refl
tree_after tree see (Some a) = refl

pub page_parts : (h : PageHead) (kind : ℤ) (d y w : Option Tree) → kind ≡ h.kind → option_map tree_view d ≡ option_map (λ p. data_header_tree (data_page_view p)) h.data_page → option_map tree_view y ≡ option_map (λ p. dictionary_header_tree (dictionary_page_view p)) h.dictionary_page → option_map tree_view w ≡ option_map (λ p. data_header_v2_tree (data_page_v2_view p)) h.data_page_v2 → struct_field (pos 1) (i32_item kind) (with_i32 2 h.uncompressed_size (count_i32 3 h.compressed_size.number (with_field 5 struct_item (option_map tree_view d) (with_field 7 struct_item (option_map tree_view y) (with_field 8 struct_item (option_map tree_view w) stop))))) ≡ page_tree (page_view h)
page_parts h kind d y w k a b c =
    let three = part 8 data_header_v2_tree (option_map data_page_v2_view h.data_page_v2) (option_map tree_view w) stop (c ∙ tree_after data_header_v2_tree data_page_v2_view h.data_page_v2) in
    let two = ap (with_field 7 struct_item (option_map tree_view y)) three ∙ part 7 dictionary_header_tree (option_map dictionary_page_view h.dictionary_page) (option_map tree_view y) _ (b ∙ tree_after dictionary_header_tree dictionary_page_view h.dictionary_page) in
    let one = ap (with_field 5 struct_item (option_map tree_view d)) two ∙ part 5 data_header_tree (option_map data_page_view h.data_page) (option_map tree_view d) _ (a ∙ tree_after data_header_tree data_page_view h.data_page) in
    ap₂ (λ (t : ℤ) (s : Struct). struct_field (pos 1) (i32_item t) (with_i32 2 h.uncompressed_size (count_i32 3 h.compressed_size.number s))) k one

pub data_parts : (p : DataPage) (e d r : ℤ) → e ≡ p.encoding → d ≡ p.definition_encoding → r ≡ p.repetition_encoding → data_header_tree (record { values = p.values.number; encoding = e; definition_encoding = d; repetition_encoding = r }) ≡ data_header_tree (data_page_view p)
data_parts p e d r a b c = rw (a, b, c) refl

pub dictionary_parts : (p : DictionaryPage) (e : ℤ) → e ≡ p.encoding → dictionary_header_tree (record { values = p.values.number; encoding = e }) ≡ dictionary_header_tree (dictionary_page_view p)
dictionary_parts p e a = rw a refl

pub data_v2_parts : (p : DataPageV2) (e : ℤ) → e ≡ p.encoding → data_header_v2_tree (record (data_page_v2_view p) { encoding = e }) ≡ data_header_v2_tree (data_page_v2_view p)
data_v2_parts p e a = rw a refl
