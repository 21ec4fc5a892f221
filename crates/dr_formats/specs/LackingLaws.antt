-- Laws of what a file lacks.
use Rattle.std.specs.Prelude.{◌≡◌, ℕ, List, [], ◌∷◌, ◌++◌, map, length, replicate, true, Some, None}
use Rattle.std.specs.List.{list_all}
use Rattle.dr_meaning.specs.Schema.{Fields}
use Rattle.dr_meaning.specs.Path.{Step, Leaf, is_leaf_path, max_repetition, max_definition}
use Rattle.dr_meaning.specs.Record.{Node, is_record, Instances, no_instances, instance, Instance, inner, instances_in}
use Rattle.dr_meaning.specs.Column.{triplet, column}
use Rattle.dr_formats.specs.Lacking.{own_chunks, outline}
use Rattle.dr_formats.specs.File.{Footer, leaf_source, leaves_read, file_column, given_column}

-- leaves that are open ones of the file
abbrev pub AreThere : Footer → List Leaf → Type 0
AreThere f [] = Unit {0}
AreThere f (l ∷ F) = (leaf_source f l ≡ Some own_chunks) × AreThere f F

-- where nothing is lacking, the leaves themselves are read, and the columns are those of their own chunks
abbrev pub NothingLacking : Type 0
NothingLacking = (bytes : List ℕ) (f : Footer) (F : List Leaf) → AreThere f F → (leaves_read f F ≡ F) × (map (given_column bytes f) F ≡ map (file_column bytes f) F)

-- ---- what the outline is

-- this holds of each of some instances
abbrev pub OfEach : (Instance → Type 0) → Instances → Type 0
OfEach P no_instances = Unit {0}
OfEach P (instance x xs) = P x × OfEach P xs

-- in each instance to which a path leads, the field at this place is absent
abbrev pub IsAbsent : List Step → ℕ → Instance → Type 0
IsAbsent [] i x = instances_in i x ≡ no_instances
IsAbsent (s ∷ q) i x = OfEach (IsAbsent q i) (instances_in s.place x)

-- in all of the records
abbrev pub AreAbsent : List Step → ℕ → List Node → Type 0
AreAbsent q i [] = Unit {0}
AreAbsent q i (n ∷ R) = IsAbsent q i (inner n) × AreAbsent q i R

-- where a field of a group is absent, the column of each leaf at or below it is the outline of that of any leaf in the group
abbrev pub AbsentIsOutline : Type 0
AbsentIsOutline = (fs : Fields) (q : List Step) (s : Step) (p t : List Step) (R : List Node) → is_leaf_path fs (q ++ t) ≡ true → list_all (is_record fs) R ≡ true
    → AreAbsent q s.place R → column (q ++ s ∷ p) R ≡ outline (max_repetition q) (max_definition q) (column (q ++ t) R)

-- where a field of the records is, it is a NULL for each record
abbrev pub AbsentIsNull : Type 0
AbsentIsNull = (s : Step) (p : List Step) (R : List Node) → AreAbsent [] s.place R → column (s ∷ p) R ≡ replicate (length R) (triplet 0 0 None)
