-- The condition in the rows of instances, one answer a row.
use Rattle.std.proofs.Common.{◌≡◌, ℕ, List, [], ◌∷◌, ◌++◌, length, Bool, true, None, Some, refl, sym, ap, ap₂, ◌∙◌}
use Rattle.std.specs.Prelude.{map, is_some}
use Rattle.std.specs.List.{list_any}
use Rattle.std.proofs.lemmas.Simd.{map-map}
use Rattle.std.proofs.lemmas.List.{length-map, map-append}
use Rattle.dr_meaning.specs.Schema.{Shape}
use Rattle.dr_meaning.specs.Path.{Step, chain_end, is_shape_path}
use Rattle.dr_meaning.specs.Record.{Node, Instances, no_instances, instance, Instance, inner, single, is_instance, instances_at, put_at}
use Rattle.dr_meaning.specs.Rows.{instance_rows, each_instance_rows, field_rows, rows, value_in}
use Rattle.dr_meaning.specs.Column.{Triplet}
use Rattle.dr_meaning.specs.Kept.{keep_instance, kept_along}
use Rattle.dr_meaning.specs.Automaton.{Pick}
use Rattle.dr_meaning.specs.Walk.{Move, Depth, moves_in, shape_near_moves, shape_far_moves}
use Rattle.dr_meaning.specs.WalkLaws.{triplets_of}
use Rattle.dr_meaning.proofs.WalkLemmas.{Only}
use Rattle.dr_moves.proofs.ReadingLemmas.{reads, own_read}
use Rattle.dr_moves.proofs.RowsRead.{irows, single_rows, shape_reads, own_together}
use Rattle.dr_moves.proofs.KeptRows.{any_map, instance_any, kept_any}
use Rattle.dr_moves.proofs.TourLemmas.{any_of_map}

-- of an instance, of several, and of all those of a field
abbrev pub instance_answers : List Step → (Instances → Node) → (Node → Bool) → Instance → List Bool
instance_answers L row test x = map (λ (y : Instance). test (row (single y))) (irows L x)

abbrev pub many_answers : List Step → (Instances → Node) → (Node → Bool) → Instances → List Bool
many_answers L row test no_instances = []
many_answers L row test (instance x xs) = instance_answers L row test x ++ many_answers L row test xs

abbrev pub field_answers : List Step → (Instances → Node) → (Node → Bool) → Instances → List Bool
field_answers L row test no_instances = test (row no_instances) ∷ []
field_answers L row test (instance x xs) = many_answers L row test (instance x xs)

each_answer : (L : List Step) (row : Instances → Node) (test : Node → Bool) (xs : Instances) → map (λ (ys : Instances). test (row ys)) (each_instance_rows (rows L) xs) ≡ many_answers L row test xs
each_answer L row test no_instances = refl
each_answer L row test (instance x xs) =
    map-append (λ (ys : Instances). test (row ys)) (instance_rows (rows L) x) (each_instance_rows (rows L) xs)
    ∙ ap₂ (λ (a b : List Bool). a ++ b) (ap (map (λ (ys : Instances). test (row ys))) (single_rows L x) ∙ map-map (λ (ys : Instances). test (row ys)) single (irows L x)) (each_answer L row test xs)

-- the rows of a node are those of the instances of the chain's field
pub node_answers : (s : Step) (L : List Step) (test : Node → Bool) (n : Node) → map test (rows (s ∷ L) n) ≡ field_answers L (λ xs. put_at s.place xs n) test (instances_at s.place n)
node_answers s L test n = map-map test (λ (xs : Instances). put_at s.place xs n) (field_rows (rows L) (instances_at s.place n)) ∙ by_slot (instances_at s.place n)
  where
    by_slot : (xs : Instances) → map (λ (ys : Instances). test (put_at s.place ys n)) (field_rows (rows L) xs) ≡ field_answers L (λ ys. put_at s.place ys n) test xs
    by_slot no_instances = refl
    by_slot (instance x xs) = each_answer L (λ ys. put_at s.place ys n) test (instance x xs)

pub inner_answers : (L : List Step) (row : Instances → Node) (test : Node → Bool) (n : Node) → instance_answers L row test (inner n) ≡ map (λ (m : Node). test (row (single (inner m)))) (rows L n)
inner_answers [] row test n = refl
inner_answers (s ∷ L) row test n = map-map (λ (y : Instance). test (row (single y))) inner (rows (s ∷ L) n)

-- an instance is kept where one of its answers is true
pub answers_keep : (L : List Step) (row : Instances → Node) (test : Node → Bool) (x : Instance) → list_any (λ (b : Bool). b) (instance_answers L row test x) ≡ is_some (keep_instance (kept_along L) (λ y. row (single y)) test x)
answers_keep L row test x =
    any_of_map (λ (y : Instance). test (row (single y))) (irows L x)
    ∙ sym (any_map (λ (ys : Instances). test (row ys)) single (irows L x))
    ∙ ap (list_any (λ (ys : Instances). test (row ys))) (sym (single_rows L x))
    ∙ sym (instance_any L (kept_any L) row test x)

-- a leaf has as many triplets in an instance as that has rows of its level
pub instance_count : (i : ℕ) (h : Shape) (p : List Step) (G : List Pick) → Only i p G → is_shape_path h p ≡ true → (j : ℕ) (at : Depth) (x : Instance) → is_instance h x ≡ true → (row : Instances → Node) (test : Node → Bool)
    → length (triplets_of i (moves_in (shape_near_moves h G) (shape_far_moves h G j) at (Some x))) ≡ length (instance_answers (chain_end p) row test x)
instance_count i h p G o u j at x z row test =
    let ms : List Move = moves_in (shape_near_moves h G) (shape_far_moves h G j) at (Some x) in
    let r : reads i i None ms ≡ map (value_in p) (irows (chain_end p) x) = shape_reads (Unit {0}) ⊥ i i (λ e. refl) (λ e. absurd e) h p p G o o u u (own_together p) j at (Some x) None z in
    sym (length-map (triplets_of i ms) (λ (t : Triplet). t.value)) ∙ ap length (sym (own_read i None ms) ∙ r) ∙ length-map (irows (chain_end p) x) (value_in p)
    ∙ sym (length-map (irows (chain_end p) x) (λ (y : Instance). test (row (single y))))
