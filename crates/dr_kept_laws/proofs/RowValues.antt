-- What rows of an instance, of several, and of a field's instances make.
use Rattle.std.proofs.Common.{◌≡◌, ℕ, suc, ◌+◌, List, [], ◌∷◌, ◌++◌, length, Bool, true, false, Option, None, Some, refl, sym, ap, ap₂, ◌∙◌, true≢false, arith}
use Rattle.std.specs.Prelude.{map, is_some, ◌==◌, ◌&&◌, if◌then◌else◌}
use Rattle.std.specs.List.{list_any}
use Rattle.std.proofs.lemmas.Simd.{map-map}
use Rattle.std.proofs.lemmas.List.{map-append, length-map}
use Rattle.std.proofs.lemmas.Bool.{eq-eqb}
use Rattle.dr_meaning.proofs.ProjectionLemmas.{step}
use Rattle.dr_meaning.specs.Schema.{Repetition, required, optional, repeated, Shape, repetition_count, is_repeated}
use Rattle.dr_meaning.specs.Path.{Step, chain_end, up_to, begins_with, max_repetition, is_shape_path}
use Rattle.dr_meaning.specs.Record.{Node, Instances, no_instances, instance, Instance, inner, single, is_instance, instances_at, put_at}
use Rattle.dr_meaning.specs.Rows.{instance_rows, each_instance_rows, field_rows, rows, value_in}
use Rattle.dr_meaning.specs.Column.{Triplet}
use Rattle.dr_meaning.specs.Kept.{keep_instance, kept_along}
use Rattle.dr_meaning.specs.Automaton.{Pick}
use Rattle.dr_meaning.specs.Walk.{Move, Depth, moves_in, shape_near_moves, shape_far_moves}
use Rattle.dr_meaning.specs.WalkLaws.{triplets_of}
use Rattle.dr_meaning.proofs.WalkLemmas.{Only}
use Rattle.dr_kept_laws.specs.RowsOfKept.{rows_where_any, kept_instance_rows, kept_field_rows, kept_rows}
use Rattle.dr_kept_laws.proofs.LevelLemmas.{none_repeated}
use Rattle.dr_kept_laws.proofs.RowsOfKeptLemmas.{none_kept, instance_none}
use Rattle.dr_kept_laws.proofs.FiredLemmas.{some_answer}
use Rattle.dr_moves.proofs.ReadingLemmas.{reads, own_read}
use Rattle.dr_moves.proofs.RowsRead.{irows, single_rows, shape_reads, own_together}
use Rattle.dr_moves.proofs.KeptRows.{any_map, instance_any, kept_any}
use Rattle.dr_moves.proofs.TourLemmas.{any_of_map}

-- of an instance, of several, and of all those of a field, in the row that they make of the record
abbrev pub instance_values : {Y : Type 0} → List Step → (Instances → Node) → (Node → Y) → Instance → List Y
instance_values L row g x = map (λ (y : Instance). g (row (single y))) (irows L x)

abbrev pub many_values : {Y : Type 0} → List Step → (Instances → Node) → (Node → Y) → Instances → List Y
many_values L row g no_instances = []
many_values L row g (instance x xs) = instance_values L row g x ++ many_values L row g xs

abbrev pub field_values : {Y : Type 0} → List Step → (Instances → Node) → (Node → Y) → Instances → List Y
field_values L row g no_instances = g (row no_instances) ∷ []
field_values L row g (instance x xs) = many_values L row g (instance x xs)

module _ (Y : Type 0) (g : Node → Y) where
  each_values : (L : List Step) (row : Instances → Node) (xs : Instances) → map (λ (ys : Instances). g (row ys)) (each_instance_rows (rows L) xs) ≡ many_values L row g xs
  each_values L row no_instances = refl
  each_values L row (instance x xs) =
      map-append (λ (ys : Instances). g (row ys)) (instance_rows (rows L) x) (each_instance_rows (rows L) xs)
      ∙ ap₂ (λ (a b : List Y). a ++ b) (ap (map (λ (ys : Instances). g (row ys))) (single_rows L x) ∙ map-map (λ (ys : Instances). g (row ys)) single (irows L x)) (each_values L row xs)

  -- the rows of a node are those of the instances of their first field
  pub node_values : (j : ℕ) (s : Step) (L : List Step) (row : Node → Node) (n : Node) → s.place ≡ j → map (λ (m : Node). g (row m)) (rows (s ∷ L) n) ≡ field_values L (λ xs. row (put_at j xs n)) g (instances_at j n)
  node_values j s L row n e =
      map-map (λ (m : Node). g (row m)) (λ (xs : Instances). put_at s.place xs n) (field_rows (rows L) (instances_at s.place n))
      ∙ ap (λ (i : ℕ). map (λ (xs : Instances). g (row (put_at i xs n))) (field_rows (rows L) (instances_at i n))) e
      ∙ by_slot (instances_at j n)
    where
      by_slot : (xs : Instances) → map (λ (ys : Instances). g (row (put_at j ys n))) (field_rows (rows L) xs) ≡ field_values L (λ ys. row (put_at j ys n)) g xs
      by_slot no_instances = refl
      by_slot (instance x xs) = each_values L (λ ys. row (put_at j ys n)) (instance x xs)

  pub inner_values : (L : List Step) (row : Instances → Node) (n : Node) → instance_values L row g (inner n) ≡ map (λ (m : Node). g (row (single (inner m)))) (rows L n)
  inner_values [] row n = refl
  inner_values (s ∷ L) row n = map-map (λ (y : Instance). g (row (single y))) inner (rows (s ∷ L) n)

  -- a leaf has as many triplets in an instance as that has rows of its level
  pub value_count : (i : ℕ) (h : Shape) (p : List Step) (G : List Pick) → Only i p G → is_shape_path h p ≡ true → (j : ℕ) (at : Depth) (x : Instance) → is_instance h x ≡ true → (row : Instances → Node)
      → length (triplets_of i (moves_in (shape_near_moves h G) (shape_far_moves h G j) at (Some x))) ≡ length (instance_values (chain_end p) row g x)
  value_count i h p G o u j at x z row =
      let ms : List Move = moves_in (shape_near_moves h G) (shape_far_moves h G j) at (Some x) in
      let r : reads i i None ms ≡ map (value_in p) (irows (chain_end p) x) = shape_reads (Unit {0}) ⊥ i i (λ e. refl) (λ e. absurd e) h p p G o o u u (own_together p) j at (Some x) None z in
      sym (length-map (triplets_of i ms) (λ (t : Triplet). t.value)) ∙ ap length (sym (own_read i None ms) ∙ r) ∙ length-map (irows (chain_end p) x) (value_in p)
      ∙ sym (length-map (irows (chain_end p) x) (λ (y : Instance). g (row (single y))))

-- ---- levels

abbrev step_of : Step → Repetition → Step
step_of s r = record { place = s.place; repetition = r }

pub no_level : (p : List Step) → max_repetition p ≡ 0 → chain_end p ≡ []
no_level [] h = refl
no_level (s ∷ p) h = ap (up_to s) (no_level p (omega (arith, h))) ∙ by_repetition s.repetition h
  where
    by_repetition : (r : Repetition) → repetition_count r + max_repetition p ≡ 0 → up_to (step_of s r) [] ≡ []
    by_repetition required h = refl
    by_repetition optional h = refl
    by_repetition repeated h = absurd (omega (arith, h))

pub level_none : (p : List Step) → chain_end p ≡ [] → max_repetition p ≡ 0
level_none [] h = refl
level_none (s ∷ p) h =
    let k : (is_repeated s.repetition ≡ false) × (chain_end p ≡ []) = none_repeated s p h in
    omega (arith, no_count s.repetition k.0, level_none p k.1)
  where
    no_count : (r : Repetition) → is_repeated r ≡ false → repetition_count r ≡ 0
    no_count required h = refl
    no_count optional h = refl
    no_count repeated h = absurd (cc)

-- with a repeated field it begins with the first step
pub far_level : (s : Step) (p : List Step) (a : ℕ) → max_repetition (s ∷ p) ≡ suc a → chain_end (s ∷ p) ≡ s ∷ chain_end p
far_level s p a h = by_level (chain_end p) refl s.repetition h
  where
    by_level : (L : List Step) → chain_end p ≡ L → (r : Repetition) → repetition_count r + max_repetition p ≡ suc a → up_to (step_of s r) L ≡ step_of s r ∷ L
    by_level (u ∷ L) e r h = refl
    by_level [] e required h = absurd (omega (arith, h, level_none p e))
    by_level [] e optional h = absurd (omega (arith, h, level_none p e))
    by_level [] e repeated h = refl

-- one level begins with another, behind one field
pub along_level : (a : ℕ) (c : Repetition) (L M : List Step) → begins_with L M ≡ true → begins_with (up_to (step a c) L) (up_to (step a c) M) ≡ true
along_level a c (u ∷ L) [] h = absurd (true≢false (sym h))
along_level a c (u ∷ L) (v ∷ M) h = ap₂ (λ (x y : Bool). x && y) (eq-eqb a a refl) h
along_level a required [] M h = refl
along_level a optional [] M h = refl
along_level a repeated [] [] h = ap (λ (x : Bool). x && true) (eq-eqb a a refl)
along_level a repeated [] (v ∷ M) h = ap (λ (x : Bool). x && true) (eq-eqb a a refl)

-- ---- kept rows

pub some_rows : (p c : List Step) (test : Node → Bool) (n : Node) → list_any test (rows c n) ≡ true → rows_where_any p c test n ≡ rows p n
some_rows p c test n h = ap (λ (b : Bool). if b then rows p n else []) h

pub ended_kept : (p : List Step) (test : Node → Bool) (n : Node) → kept_rows p [] test n ≡ rows_where_any p [] test n
ended_kept [] test n = refl
ended_kept (s ∷ p) test n = refl

pub apart_kept : (s t : Step) (p c : List Step) (test : Node → Bool) (n : Node) → (s.place == t.place) ≡ false → kept_rows (s ∷ p) (t ∷ c) test n ≡ rows_where_any (s ∷ p) (t ∷ c) test n
apart_kept s t p c test n h = ap (λ (b : Bool). if b then map (λ xs. put_at t.place xs n) (kept_field_rows (test n) (kept_instance_rows (kept_rows p c) (λ x. put_at t.place (single x) n) test) (instances_at t.place n)) else rows_where_any (s ∷ p) (t ∷ c) test n) h

pub along_kept : (s t : Step) (p c : List Step) (test : Node → Bool) (n : Node) → (s.place == t.place) ≡ true
    → kept_rows (s ∷ p) (t ∷ c) test n ≡ map (λ xs. put_at t.place xs n) (kept_field_rows (test n) (kept_instance_rows (kept_rows p c) (λ x. put_at t.place (single x) n) test) (instances_at t.place n))
along_kept s t p c test n h = ap (λ (b : Bool). if b then map (λ xs. put_at t.place xs n) (kept_field_rows (test n) (kept_instance_rows (kept_rows p c) (λ x. put_at t.place (single x) n) test) (instances_at t.place n)) else rows_where_any (s ∷ p) (t ∷ c) test n) h

-- an instance without a true row has no kept rows
pub none_true : (p c : List Step) (row : Instances → Node) (test : Node → Bool) (x : Instance) → some_answer (instance_values c row test x) ≡ false → kept_instance_rows (kept_rows p c) (λ y. row (single y)) test x ≡ []
none_true p c row test x h = instance_none p c (none_kept p c) (λ y. row (single y)) test x (none_of (keep_instance (kept_along c) (λ y. row (single y)) test x)
    (instance_any c (kept_any c) row test x ∙ ap (list_any (λ (ys : Instances). test (row ys))) (single_rows c x) ∙ any_map (λ (ys : Instances). test (row ys)) single (irows c x) ∙ sym (any_of_map (λ (y : Instance). test (row (single y))) (irows c x)) ∙ h))
  where
    none_of : (o : Option Instance) → is_some o ≡ false → o ≡ None
    none_of None e = refl
    none_of (Some y) e = absurd (cc)
