-- Fields put behind one another.
use Rattle.std.proofs.Common.{◌≡◌, ℕ, ℤ, List, [], ◌∷◌, ◌++◌, map, refl, sym, ap, ◌∙◌}
use Rattle.std.specs.Prelude.{Vec}
use Rattle.std.specs.declared.alloc.Global.{Global}
use Rattle.std.proofs.lemmas.List.{map-append}
use denote.Ref.{Bor}
use Rattle.dr_formats.specs.Compact as compact
use Rattle.dr_formats.specs.Compact.{Struct, struct_field, list_item, struct_item, i32_type, i32_item, binary_type, binary_item, struct_type}
use Rattle.dr_formats.specs.Metadata.{items_of, structs}
use Rattle.dr_compact.specs.declared.tree.Field.{Field}
use Rattle.dr_compact.specs.declared.tree.Tree.{Tree}
use Rattle.dr_compact.specs.declared.tree.Item.TheVariants as items
use Rattle.dr_compact.specs.declared.tree.Values.TheVariants as lists
use Rattle.dr_compact.specs.Views.{SeenField, item_view, field_view, tree_view, struct_onto, items_from}
use Rattle.dr_compact.proofs.StepLemmas.{seen_field, onto_field}
use Rattle.dr_compact.proofs.ViewLemmas.{view-field, view-list, view-structs, view-i32s, view-binaries, as_struct, lent_binary}
use Rattle.dr_meta.specs.Views.{lent}

pub onto_put : (fs gs : List Field) (f : Field) (id : ℤ) → gs ≡ fs ++ f ∷ [] → f.id ≡ id → (rest : Struct) → struct_onto (map field_view gs) rest ≡ struct_onto (map field_view fs) (struct_field id (item_view f.item) rest)
onto_put fs gs f id g e rest =
    let here : map field_view gs ≡ map field_view fs ++ seen_field id (item_view f.item) ∷ [] = ap (map field_view) g ∙ (map-append field_view fs (f ∷ []) ∙ ap (λ (x : SeenField). map field_view fs ++ x ∷ []) (view-field f ∙ ap (λ z. seen_field z (item_view f.item)) e)) in
    ap (λ (xs : List SeenField). struct_onto xs rest) here ∙ sym (onto_field (map field_view fs) id (item_view f.item) rest)

pub onto_nothing : (fs : List Field) (rest : Struct) → fs ≡ [] → struct_onto (map field_view fs) rest ≡ rest
onto_nothing fs rest h = ap (λ xs. struct_onto (map field_view xs) rest) h

from_structs : (ts : List Tree) → items_from (map as_struct ts) ≡ items_of (λ s. struct_item s) (map tree_view ts)
from_structs [] = refl
from_structs (t ∷ ts) = ap (compact.item (as_struct t)) (from_structs ts)

from_numbers : (zs : List ℤ) → items_from (map i32_item zs) ≡ items_of i32_item zs
from_numbers [] = refl
from_numbers (z ∷ zs) = ap (compact.item (i32_item z)) (from_numbers zs)

from_names : (bs : List (Bor (List ℕ))) → items_from (map lent_binary bs) ≡ items_of binary_item (map lent bs)
from_names [] = refl
from_names (b ∷ bs) = ap (compact.item (lent_binary b)) (from_names bs)

pub structs_item : (v : Vec Tree Global) → item_view (items.List (lists.Structs v)) ≡ structs (λ s. s) (map tree_view v.items)
structs_item v = view-list (lists.Structs v) ∙ (ap (λ s. list_item s.element (items_from s.values)) (view-structs v) ∙ ap (list_item struct_type) (from_structs v.items))

pub numbers_item : (v : Vec ℤ Global) → item_view (items.List (lists.I32s v)) ≡ list_item i32_type (items_of i32_item v.items)
numbers_item v = view-list (lists.I32s v) ∙ (ap (λ s. list_item s.element (items_from s.values)) (view-i32s v) ∙ ap (list_item i32_type) (from_numbers v.items))

pub names_item : (v : Vec (Bor (List ℕ)) Global) → item_view (items.List (lists.Binaries v)) ≡ list_item binary_type (items_of binary_item (map lent v.items))
names_item v = view-list (lists.Binaries v) ∙ (ap (λ s. list_item s.element (items_from s.values)) (view-binaries v) ∙ ap (list_item binary_type) (from_names v.items))

made_by : {A B : Type 0} (tree : B → Struct) (see : A → B) (xs : List A) → items_of (λ s. struct_item s) (map (λ x. tree (see x)) xs) ≡ items_of (λ y. struct_item (tree y)) (map see xs)
made_by tree see [] = refl
made_by tree see (x ∷ xs) = ap (compact.item (struct_item (tree (see x)))) (made_by tree see xs)

-- a list of structs that were made from others
pub structs_made : {A B : Type 0} (tree : B → Struct) (see : A → B) (ts : List Tree) (xs : List A) → map tree_view ts ≡ map (λ x. tree (see x)) xs → structs (λ s. s) (map tree_view ts) ≡ structs tree (map see xs)
structs_made tree see ts xs e = ap (structs (λ s. s)) e ∙ ap (list_item struct_type) (made_by tree see xs)
