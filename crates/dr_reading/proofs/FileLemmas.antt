-- Files: of the same bytes the projections of the records are the same; bytes with a cause of their own are no file.
use Rattle.std.proofs.Common.{◌≡◌, ℕ, List, [], ◌∷◌, map, true, ◌&&◌, Option, Some, refl, sym, ap₂, ◌∙◌, subst, true≢false}
use Rattle.std.specs.List.{list_all}
use Rattle.std.proofs.lemmas.Bool.{and_parts}
use Rattle.dr_meaning.specs.Schema.{Schema, Fields}
use Rattle.dr_meaning.specs.Path.{Step, Leaf, is_leaf_path, paths_of_leaves}
use Rattle.dr_meaning.specs.Record.{Node, project}
use Rattle.dr_meaning.specs.Column.{Triplet, column}
use Rattle.dr_meaning.proofs.ColumnLemmas.{columns_determine}
use Rattle.dr_formats.specs.File.{Footer, footer_of, IsDataOf, IsFileOf, bad_footer, bad_schema, bad_codec, bad_data}
use Rattle.dr_formats.proofs.FileLemmas.{file_has_no_cause}
use Rattle.dr_outside.specs.declared.cause.Cause.TheVariants.{ReadFailed, BadFooter, BadSchema, BadCodec, BadData}
use Rattle.dr_reading.specs.ReadingLaws.{OtherCausesHoldNoFile}

-- ---- records of which the same bytes are a file have the same projections

same_footer : (f g : Footer) (o : Option Footer) → o ≡ Some f → o ≡ Some g → f ≡ g
same_footer f g o h k = let e = sym h ∙ k in cc

strip : (x y : List Triplet) (xs ys : List (Option (List Triplet))) → Some x ∷ xs ≡ Some y ∷ ys → (x ≡ y) × (xs ≡ ys)
strip x y xs ys h = (cc, cc)

same_columns : (F : List Leaf) (R S : List Node) → map (λ (l : Leaf). Some (column l.path R)) F ≡ map (λ (l : Leaf). Some (column l.path S)) F
    → map (λ (p : List Step). column p R) (paths_of_leaves F) ≡ map (λ (p : List Step). column p S) (paths_of_leaves F)
same_columns [] R S h = refl
same_columns (l ∷ F) R S h =
    let k = strip (column l.path R) (column l.path S) (map (λ (l : Leaf). Some (column l.path R)) F) (map (λ (l : Leaf). Some (column l.path S)) F) h in
    ap₂ (λ x xs. x ∷ xs) k.0 (same_columns F R S k.1)

leaf_paths : (fs : Fields) (F : List Leaf) → list_all (λ (l : Leaf). is_leaf_path fs l.path) F ≡ true → list_all (is_leaf_path fs) (paths_of_leaves F) ≡ true
leaf_paths fs [] h = refl
leaf_paths fs (l ∷ F) h = let k = and_parts (is_leaf_path fs l.path) (list_all (λ (l : Leaf). is_leaf_path fs l.path) F) h in ap₂ (λ a b. a && b) k.0 (leaf_paths fs F k.1)

pub same_projections : (bytes : List ℕ) (s : Schema) (F : List Leaf) (R S : List Node) → list_all (λ (l : Leaf). is_leaf_path s.fields l.path) F ≡ true → IsFileOf bytes s F R → IsFileOf bytes s F S
    → map (project (paths_of_leaves F)) R ≡ map (project (paths_of_leaves F)) S
same_projections bytes s F R S l a b =
    let e : a.0 ≡ b.0 = same_footer a.0 b.0 (footer_of bytes) a.1 b.1 in
    let d : IsDataOf bytes b.0 s F R = subst (λ (f : Footer). IsDataOf bytes f s F R) e a.4 in
    columns_determine s.fields (paths_of_leaves F) (leaf_paths s.fields F l) R S d.3 b.4.3 (d.2 ∙ sym b.4.2) (same_columns F R S (sym d.4 ∙ b.4.4))

-- ---- causes

pub other_causes_hold_no_file : OtherCausesHoldNoFile
other_causes_hold_no_file s F bytes (ReadFailed before after) R e h f = absurd (true≢false e)
other_causes_hold_no_file s F bytes BadFooter R e h f = file_has_no_cause bytes s F R bad_footer f h
other_causes_hold_no_file s F bytes BadSchema R e h f = file_has_no_cause bytes s F R bad_schema f h
other_causes_hold_no_file s F bytes BadCodec R e h f = file_has_no_cause bytes s F R bad_codec f h
other_causes_hold_no_file s F bytes BadData R e h f = file_has_no_cause bytes s F R bad_data f h
