-- Columns that grow record by record.
use Rattle.std.specs.Prelude.{◌≡◌, List, [], ◌∷◌, ◌++◌, map, replicate}
use Rattle.std.proofs.Common.{refl, ap, ap₂, ◌∙◌}
use Rattle.dr_meaning.specs.Path.{Step, Leaf}
use Rattle.dr_meaning.specs.Record.{Node}
use Rattle.dr_meaning.specs.Column.{Triplet, record_column}
use Rattle.dr_nested.specs.PathView.{path_view, paths_view}
use Rattle.dr_nested.specs.declared.path.Path.{Path}
use Rattle.dr_striper.specs.declared.making.Striper.{Striper}
use Rattle.dr_striper.specs.Stripers.{striped_paths, striped_leaves}
use Rattle.dr_striper.specs.Striping.{gained, leaves_of}
use Rattle.dr_striper.proofs.GrowthLemmas.{columns-push}
use Rattle.dr_top.specs.Records.{AreColumns}

-- no records have empty columns
pub no_columns : (p : List Step) (cs : List (List Triplet)) → cs ≡ replicate 1 [] → AreColumns (p ∷ []) cs []
no_columns p cs e = e

-- the columns of one record more
pub more_columns : (F G : List (List Step)) (cs ds : List (List Triplet)) (n : Node) → G ≡ F → ds ≡ gained (λ p. record_column p n) G cs → (ns : List Node) → AreColumns F cs ns → AreColumns F ds (ns ++ n ∷ [])
more_columns F G cs ds n g e ns h = e ∙ ap₂ (λ H xs. gained (λ p. record_column p n) H xs) g h ∙ columns-push F ns n

-- the paths of a striper's leaves
leaf_paths : (ps : List Path) → paths_view ps ≡ map (λ (l : Leaf). l.path) (leaves_of ps)
leaf_paths [] = refl
leaf_paths (p ∷ ps) = ap (λ (qs : List (List Step)). (path_view p).path ∷ qs) (leaf_paths ps)

pub paths_from_leaves : (s : Striper) → striped_paths s ≡ map (λ (l : Leaf). l.path) (striped_leaves s)
paths_from_leaves s = leaf_paths s.fields.now
