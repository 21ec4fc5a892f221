-- What fires at a leaf's triplets over a record's moves that a condition cuts is what the kept rows make.
use Rattle.std.proofs.Common.{◌≡◌, ◌≢◌, ◌⊎◌, inl, inr, ℕ, zero, suc, ◌+◌, List, [], ◌∷◌, ◌++◌, length, Bool, true, false, Option, None, Some, refl, sym, ap, ap₂, subst, ◌∙◌, append-nil, true≢false, arith}
use Rattle.std.specs.Prelude.{map, ◌||◌, ◌==◌, if◌then◌else◌}
use Rattle.std.specs.List.{list_any}
use Rattle.std.proofs.lemmas.List.{map-append}
use Rattle.std.proofs.lemmas.Simd.{map-map}
use Rattle.std.proofs.lemmas.Bool.{and_parts, eqb-true}
use Rattle.dr_meaning.specs.Schema.{Repetition, required, optional, repeated, Fields, no_fields, field, Shape, leaf, group, repetition_count, repeated_fields, shape_repeated_fields}
use Rattle.dr_meaning.specs.Path.{Step, chain_end, is_leaf_path, is_shape_path, same_repetition, max_repetition}
use Rattle.dr_meaning.specs.Record.{Node, Instances, no_instances, instance, Instance, atom, inner, single, count_instances, fits_repetition, all_instances, is_instance, instances_at, put_at}
use Rattle.dr_meaning.specs.Rows.{rows}
use Rattle.dr_meaning.specs.Automaton.{Pick, first_picks, later_picks}
use Rattle.dr_meaning.specs.Walk.{Move, Depth, inside, begun_later, first_slot, other_slots, enclosed, later_moves, repeated_moves, by_repetition, moves_in, far_moves, shape_near_moves, shape_far_moves}
use Rattle.dr_meaning.specs.WalkLaws.{triplets_of}
use Rattle.dr_meaning.proofs.ProjectionLemmas.{step}
use Rattle.dr_meaning.proofs.Blocks.{same_repetition-true}
use Rattle.dr_meaning.proofs.WalkLemmas.{Only, Without, IsNode, FirstSlot, first_of_node, only_behind, only_beside, beside_first, behind_later, of_enclosed, far_in, far_in_nothing, far_nothing, shape_near_nothing, shape_far_nothing, selected}
use Rattle.dr_kept_laws.specs.ChainNumbers.{own_number, numbers_in, shape_numbers}
use Rattle.dr_kept_laws.specs.Leavings.{Leaving, off, instance_leavings}
use Rattle.dr_kept_laws.specs.RowsOfKept.{kept_instance_rows, each_kept_rows, kept_field_rows, kept_rows}
use Rattle.dr_kept_laws.proofs.RowLists.{not_same}
use Rattle.dr_kept_laws.proofs.PutLemmas.{put_none}
use Rattle.dr_kept_laws.proofs.FewLemmas.{few}
use Rattle.dr_kept_laws.proofs.OffChain.{Off, same_off, no_leavings, near_off, shape_near_off, instance_off, field_off, far_off, shape_far_off}
use Rattle.dr_kept_laws.proofs.ChainNumberLemmas.{shape_levels, nothing_numbered}
use Rattle.dr_kept_laws.proofs.ChainHeads.{head_before, head_behind, own_within, numbers_within, shape_numbers_within}
use Rattle.dr_kept_laws.proofs.FiredLemmas.{some_answer, Whole, apart_whole, bare_whole, silent_whole, both_whole, Fires, whole_fires, fires_before, fires_behind, Always, no_moves, both_always, always_fires, enclosed_always}
use Rattle.dr_kept_laws.proofs.RowValues.{instance_values, many_values, field_values, node_values, inner_values, value_count, no_level, far_level, some_rows, ended_kept, apart_kept, along_kept, none_true}
use Rattle.dr_moves.specs.Context.{Context, contexts}
use Rattle.dr_moves.specs.Condition.{Watch}
use Rattle.dr_moves.proofs.NearLemmas.{shape_near_silent, shape_far_silent}
use Rattle.dr_moves.proofs.TourLemmas.{any_of_map}

far_part_off : (h : Shape) (G : List Pick) (k : ℕ) (at : Depth) (x : Option Instance) → Off k (k + shape_repeated_fields h) (shape_far_moves h G k at x) (instance_leavings h G k off x)
far_part_off h G k at x = shape_far_off h G k at x

instance_part_off : (h : Shape) (G : List Pick) (k : ℕ) (at : Depth) (x : Option Instance) → Off k (k + shape_repeated_fields h) (moves_in (shape_near_moves h G) (shape_far_moves h G k) at x) (instance_leavings h G k off x)
instance_part_off h G k at x = instance_off k (k + shape_repeated_fields h) h G (λ k at x. far_part_off h G k at x) k at x (omega arith) (omega arith)

field_part_off : (r : Repetition) (h : Shape) (G : List Pick) (k : ℕ) (at : Depth) (n : Node) → (ls : List Leaving) × Off k (k + (repetition_count r + shape_repeated_fields h)) (far_in r h G k at n) ls
field_part_off r h G k at n = (_, field_off r h G (λ k at x. far_part_off h G k at x) k at n)

-- no numbers without repeated fields
near_numbers : (h : Shape) (q : List Step) (k : ℕ) → is_shape_path h q ≡ true → max_repetition q ≡ 0 → shape_numbers h k q ≡ []
near_numbers h q k u z = sym (shape_levels h q k u) ∙ ap (shape_numbers h k) (no_level q z) ∙ nothing_numbered h k

module _ (X : Type 0) (i : ℕ) (f : Context → X) (w : Watch) (g : Node → X) (test : Node → Bool) where
  -- what the kept rows of an instance, or of a field's instances, make
  abbrev instance_out : List Step → List Step → (Instances → Node) → Instance → List X
  instance_out p c row x = map (λ ys. g (row ys)) (kept_instance_rows (kept_rows p c) (λ y. row (single y)) test x)

  abbrev field_out : List Step → List Step → (Instances → Node) → Instances → List X
  field_out p c row xs = map (λ ys. g (row ys)) (kept_field_rows (test (row no_instances)) (kept_instance_rows (kept_rows p c) (λ y. row (single y)) test) xs)

  abbrev many_out : List Step → List Step → (Instances → Node) → Instances → List X
  many_out p c row xs = map (λ ys. g (row ys)) (each_kept_rows (kept_instance_rows (kept_rows p c) (λ y. row (single y)) test) xs)

  same_fires : (r : Option (List ℕ)) (ms ns : List Move) (us vs : List X) (es bs : List Bool) (out more : List X) → ms ≡ ns → us ≡ vs → es ≡ bs → out ≡ more → Fires X i f w r ms us es out → Fires X i f w r ns vs bs more
  same_fires r ms ns us vs es bs out more a b c d x = record { tour = x.tour; moves = x.moves ∙ a; fires = λ e h k s. x.fires e (ap (λ (m : List Move). map f (contexts i e m)) a ∙ h ∙ sym b) (ap (λ (m : List Move). map w.test (contexts w.last e m)) a ∙ k ∙ sym c) (ap some_answer c ∙ s) ∙ d }

  -- ---- where all rows are kept

  all_kept : (p c : List Step) (row : Instances → Node) (x : Instance) → ((t : Node → Bool) (n : Node) → list_any t (rows c n) ≡ true → kept_rows p c t n ≡ rows p n)
      → some_answer (instance_values c row test x) ≡ true → instance_values p row g x ≡ instance_out p c row x
  all_kept p c row (atom v) k h = by_path p c h
    where
      kept_atom : (b : Bool) → (b || false) ≡ true → g (row (single (atom v))) ∷ [] ≡ map (λ ys. g (row ys)) (if b then single (atom v) ∷ [] else [])
      kept_atom true h = refl
      kept_atom false h = absurd (true≢false (sym h))

      by_path : (p c : List Step) → some_answer (instance_values c row test (atom v)) ≡ true → instance_values p row g (atom v) ≡ map (λ ys. g (row ys)) (if test (row (single (atom v))) then single (atom v) ∷ [] else [])
      by_path [] [] h = kept_atom (test (row (single (atom v)))) h
      by_path [] (t ∷ c) h = kept_atom (test (row (single (atom v)))) h
      by_path (s ∷ p) [] h = kept_atom (test (row (single (atom v)))) h
      by_path (s ∷ p) (t ∷ c) h = kept_atom (test (row (single (atom v)))) h
  all_kept p c row (inner n) k h =
      let t : Node → Bool = λ (m : Node). test (row (single (inner m))) in
      let a : list_any t (rows c n) ≡ true = sym (any_of_map t (rows c n)) ∙ sym (ap some_answer (inner_values Bool test c row n)) ∙ h in
      inner_values X g p row n
      ∙ ap (map (λ (m : Node). g (row (single (inner m))))) (sym (k t n a))
      ∙ sym (map-map (λ (ys : Instances). g (row ys)) (λ (m : Node). single (inner m)) (kept_rows p c t n))

  -- ---- what is shown

  -- of an instance, with its own leaves; of its repeated fields alone, where both leaves are below some
  abbrev InstanceFires : Shape → List Step → List Step → Type 0
  InstanceFires h p q = (G : List Pick) (k : ℕ) (at : Depth) (x : Instance) (row : Instances → Node) → Only i p G → Only w.last q G → is_shape_path h p ≡ true → is_shape_path h q ≡ true → is_instance h x ≡ true
      → Fires X i f w (Some (shape_numbers h k q)) (moves_in (shape_near_moves h G) (shape_far_moves h G k) at (Some x)) (instance_values (chain_end p) row g x) (instance_values (chain_end q) row test x) (instance_out (chain_end p) (chain_end q) row x)

  abbrev FarFires : Shape → List Step → List Step → Type 0
  FarFires h p q = (G : List Pick) (k : ℕ) (at : Depth) (x : Instance) (row : Instances → Node) (a b : ℕ) → Only i p G → Only w.last q G → is_shape_path h p ≡ true → is_shape_path h q ≡ true → is_instance h x ≡ true
      → max_repetition p ≡ suc a → max_repetition q ≡ suc b
      → Fires X i f w (Some (shape_numbers h k q)) (shape_far_moves h G k at (Some x)) (instance_values (chain_end p) row g x) (instance_values (chain_end q) row test x) (instance_out (chain_end p) (chain_end q) row x)

  -- of the field through which both go
  abbrev FieldFires : Fields → Repetition → Repetition → List Step → List Step → Type 0
  FieldFires fs c e p q = (j : ℕ) (G : List Pick) (k : ℕ) (at : Depth) (n : Node) (row : Instances → Node) (a b : ℕ) → Only i (step j c ∷ p) G → Only w.last (step j e ∷ q) G
      → is_leaf_path fs (step j c ∷ p) ≡ true → is_leaf_path fs (step j e ∷ q) ≡ true → max_repetition (step j c ∷ p) ≡ suc a → max_repetition (step j e ∷ q) ≡ suc b → IsNode fs n
      → Fires X i f w (Some (numbers_in fs k (step j e ∷ q))) (far_moves fs G k at n) (field_values (chain_end p) row g (instances_at j n)) (field_values (chain_end q) row test (instances_at j n)) (field_out (chain_end p) (chain_end q) row (instances_at j n))

  -- ---- an instance from its repeated fields

  instance_fires : (h : Shape) (p q : List Step) → FarFires h p q → InstanceFires h p q
  instance_fires h p q far G k at x row o l u v z = by_count (max_repetition p) refl (max_repetition q) refl
    where
      N : List ℕ
      N = shape_numbers h k q

      by_count : (a : ℕ) → max_repetition p ≡ a → (b : ℕ) → max_repetition q ≡ b
          → Fires X i f w (Some (shape_numbers h k q)) (moves_in (shape_near_moves h G) (shape_far_moves h G k) at (Some x)) (instance_values (chain_end p) row g x) (instance_values (chain_end q) row test x) (instance_out (chain_end p) (chain_end q) row x)
      by_count zero e b d =
          whole_fires X i f w (Some (shape_numbers h k q)) (moves_in (shape_near_moves h G) (shape_far_moves h G k) at (Some x)) (instance_values (chain_end p) row g x) (instance_values (chain_end q) row test x) (instance_out (chain_end p) (chain_end q) row x)
          (all_kept (chain_end p) (chain_end q) row x (λ t n y. ap (λ (L : List Step). kept_rows L (chain_end q) t n) (no_level p e) ∙ some_rows [] (chain_end q) t n y ∙ ap (λ (L : List Step). rows L n) (sym (no_level p e))))
          (both_whole X i f w (Some (shape_numbers h k q)) (shape_near_moves h G at (Some x)) (shape_far_moves h G k at (Some x))
          (bare_whole X i f w k k (Some (shape_numbers h k q)) (shape_near_moves h G at (Some x)) (shape_near_off k k h G at (Some x)))
          (silent_whole X i f w k (k + shape_repeated_fields h) (Some (shape_numbers h k q)) (shape_far_moves h G k at (Some x)) (instance_leavings h G k off (Some x)) (shape_far_silent i h p e G o u k at (Some x)) (far_part_off h G k at (Some x))))
      by_count (suc a) e zero d =
          whole_fires X i f w (Some (shape_numbers h k q)) (moves_in (shape_near_moves h G) (shape_far_moves h G k) at (Some x)) (instance_values (chain_end p) row g x) (instance_values (chain_end q) row test x) (instance_out (chain_end p) (chain_end q) row x)
          (all_kept (chain_end p) (chain_end q) row x (λ t n y. ap (λ (L : List Step). kept_rows (chain_end p) L t n) (no_level q d) ∙ ended_kept (chain_end p) t n ∙ some_rows (chain_end p) [] t n (ap (λ (L : List Step). list_any t (rows L n)) (sym (no_level q d)) ∙ y)))
          (subst (λ (M : List ℕ). Whole X i f w (Some M) (moves_in (shape_near_moves h G) (shape_far_moves h G k) at (Some x))) (sym (near_numbers h q k v d))
          (apart_whole X i f w k (k + shape_repeated_fields h) [] (moves_in (shape_near_moves h G) (shape_far_moves h G k) at (Some x)) (instance_leavings h G k off (Some x)) tt (instance_part_off h G k at (Some x))))
      by_count (suc a) e (suc b) d =
          fires_behind X i f w (Some (shape_numbers h k q)) (shape_near_moves h G at (Some x)) (shape_far_moves h G k at (Some x)) (instance_values (chain_end p) row g x) (instance_values (chain_end q) row test x) (instance_out (chain_end p) (chain_end q) row x)
          (shape_near_silent i h p (omega (arith, e)) G o u at (Some x)) (shape_near_silent w.last h q (omega (arith, d)) G l v at (Some x))
          (bare_whole X i f w k k (Some (shape_numbers h k q)) (shape_near_moves h G at (Some x)) (shape_near_off k k h G at (Some x)))
          (far G k at x row a b o l u v z e d)

  -- ---- leaves in two fields

  apart_fields : (fs : Fields) (a b : ℕ) (c e : Repetition) (p q : List Step) (G : List Pick) → Only i (step a c ∷ p) G → a ≢ b → (k : ℕ) (at : Depth) (n : Node) → Whole X i f w (Some (numbers_in fs k (step b e ∷ q))) (far_moves fs G k at n)
  apart_fields no_fields a b c e p q G o d k at n = bare_whole X i f w 0 0 (Some []) [] (near_off 0 0 no_fields G at n)
  apart_fields (field m r h fs) zero zero c e p q G o d k at n = absurd (d refl)
  apart_fields (field m r h fs) zero (suc b) c e p q G o d k at n =
      let j = k + (repetition_count r + shape_repeated_fields h) in
      let x : (ls : List Leaving) × Off k (k + (repetition_count r + shape_repeated_fields h)) (far_in r h (first_picks G) k at n) ls = field_part_off r h (first_picks G) k at n in
      both_whole X i f w (Some (numbers_in fs j (step b e ∷ q))) (far_in r h (first_picks G) k at n) (far_moves fs (later_picks G) j at (other_slots n))
      (apart_whole X i f w k j (numbers_in fs j (step b e ∷ q)) (far_in r h (first_picks G) k at n) x.0 (head_behind j (j + repeated_fields fs) k j (omega arith) (numbers_in fs j (step b e ∷ q)) (numbers_within fs j (step b e ∷ q))) x.1)
      (silent_whole X i f w j (j + repeated_fields fs) (Some (numbers_in fs j (step b e ∷ q))) (far_moves fs (later_picks G) j at (other_slots n)) _
      (far_nothing i fs (later_picks G) j at (other_slots n) (beside_first i c p G o)) (far_off fs (later_picks G) j at (other_slots n)))
  apart_fields (field m r h fs) (suc a) zero c e p q G o d k at n =
      let j = k + (repetition_count r + shape_repeated_fields h) in
      let v : Without i (first_picks G) = behind_later i a c p G o in
      let x : (ls : List Leaving) × Off k (k + (repetition_count r + shape_repeated_fields h)) (far_in r h (first_picks G) k at n) ls = field_part_off r h (first_picks G) k at n in
      both_whole X i f w (Some (own_number r k (λ j. shape_numbers h j q))) (far_in r h (first_picks G) k at n) (far_moves fs (later_picks G) j at (other_slots n))
      (silent_whole X i f w k j (Some (own_number r k (λ j. shape_numbers h j q))) (far_in r h (first_picks G) k at n) x.0
      (far_in_nothing i r h (first_picks G) k at n (λ d y. shape_near_nothing i h (first_picks G) d y v) (λ l d y. shape_far_nothing i h (first_picks G) l d y v)) x.1)
      (apart_whole X i f w j (j + repeated_fields fs) (own_number r k (λ j. shape_numbers h j q)) (far_moves fs (later_picks G) j at (other_slots n)) _
      (head_before k j j (j + repeated_fields fs) (omega arith) (own_number r k (λ j. shape_numbers h j q)) (own_within r h k q (λ j. shape_numbers_within h j q))) (far_off fs (later_picks G) j at (other_slots n)))
  apart_fields (field m r h fs) (suc a) (suc b) c e p q G o d k at n =
      let j = k + (repetition_count r + shape_repeated_fields h) in
      let v : Without i (first_picks G) = behind_later i a c p G o in
      let x : (ls : List Leaving) × Off k (k + (repetition_count r + shape_repeated_fields h)) (far_in r h (first_picks G) k at n) ls = field_part_off r h (first_picks G) k at n in
      both_whole X i f w (Some (numbers_in fs j (step b e ∷ q))) (far_in r h (first_picks G) k at n) (far_moves fs (later_picks G) j at (other_slots n))
      (silent_whole X i f w k j (Some (numbers_in fs j (step b e ∷ q))) (far_in r h (first_picks G) k at n) x.0
      (far_in_nothing i r h (first_picks G) k at n (λ d y. shape_near_nothing i h (first_picks G) d y v) (λ l d y. shape_far_nothing i h (first_picks G) l d y v)) x.1)
      (apart_fields fs a b c e p q (later_picks G) (only_beside i a c p G o) (λ y. d (ap (λ (l : ℕ). suc l) y)) j at (other_slots n))

  -- ---- one field through which both go

  -- an absent field makes one row
  none_out : (p c : List Step) (row : Instances → Node) → some_answer (field_values c row test no_instances) ≡ true → field_values p row g no_instances ≡ field_out p c row no_instances
  none_out p c row h = by_test (test (row no_instances)) h
    where
      by_test : (b : Bool) → (b || false) ≡ true → g (row no_instances) ∷ [] ≡ map (λ ys. g (row ys)) (if b then no_instances ∷ [] else [])
      by_test true h = refl
      by_test false h = absurd (true≢false (sym h))

  -- the moves of a field's part
  far_in_moves : (r : Repetition) (h : Shape) (p : List Step) (G : List Pick) → Only i p G → (k : ℕ) (at : Depth) (n : Node) (xs : Instances) → first_slot n ≡ xs
      → by_repetition r (repeated_moves k (λ x. moves_in (shape_near_moves h G) (shape_far_moves h G (suc k)) (inside r at x) x) (λ x. moves_in (shape_near_moves h G) (shape_far_moves h G (suc k)) (inside r (begun_later at) x) x))
      (λ x. shape_far_moves h G k (inside r at x) x) xs ≡ far_in r h G k at n
  far_in_moves r h p G o k at n xs e =
      let each = repeated_moves k (λ x. moves_in (shape_near_moves h G) (shape_far_moves h G (suc k)) (inside r at x) x) (λ x. moves_in (shape_near_moves h G) (shape_far_moves h G (suc k)) (inside r (begun_later at) x) x) in
      ap (by_repetition r each (λ x. shape_far_moves h G k (inside r at x) x)) (sym e)
      ∙ sym (selected i p G (by_repetition r each (λ x. shape_far_moves h G k (inside r at x) x) (first_slot n)) o)

  -- one of the instances of a repeated field
  one_always : (h : Shape) (p q : List Step) → InstanceFires h p q → (G : List Pick) (k : ℕ) (at : Depth) (x : Instance) (row : Instances → Node) → Only i p G → Only w.last q G → is_shape_path h p ≡ true → is_shape_path h q ≡ true → is_instance h x ≡ true
      → Always X i f w (Some (k ∷ shape_numbers h (suc k) q)) (enclosed k (moves_in (shape_near_moves h G) (shape_far_moves h G (suc k)) at (Some x))) (instance_values (chain_end p) row g x) (instance_values (chain_end q) row test x) (instance_out (chain_end p) (chain_end q) row x)
  one_always h p q ih G k at x row o l u v z =
      enclosed_always X i f w k (shape_numbers h (suc k) q) (moves_in (shape_near_moves h G) (shape_far_moves h G (suc k)) at (Some x)) (instance_values (chain_end p) row g x) (instance_values (chain_end q) row test x) (instance_out (chain_end p) (chain_end q) row x)
      (λ y. ap (map (λ ys. g (row ys))) (none_true (chain_end p) (chain_end q) row test x y)) (ih G (suc k) at x row o l u v z)

  one_count : (j : ℕ) (Y : Type 0) (y : Node → Y) (h : Shape) (p : List Step) (G : List Pick) (k : ℕ) (at : Depth) (x : Instance) (row : Instances → Node) → Only j p G → is_shape_path h p ≡ true → is_instance h x ≡ true
      → length (triplets_of j (enclosed k (moves_in (shape_near_moves h G) (shape_far_moves h G (suc k)) at (Some x)))) ≡ length (instance_values (chain_end p) row y x)
  one_count j Y y h p G k at x row o u z = ap length (of_enclosed j k (moves_in (shape_near_moves h G) (shape_far_moves h G (suc k)) at (Some x))) ∙ value_count Y y j h p G o u (suc k) at x z row

  -- an instance before others
  more_always : (h : Shape) (p q : List Step) (G : List Pick) (k : ℕ) (at : Depth) (x : Instance) (xs : Instances) (row : Instances → Node) (ms : List Move)
      → length (triplets_of i (enclosed k (moves_in (shape_near_moves h G) (shape_far_moves h G (suc k)) at (Some x)))) ≡ length (instance_values (chain_end p) row g x)
      → length (triplets_of w.last (enclosed k (moves_in (shape_near_moves h G) (shape_far_moves h G (suc k)) at (Some x)))) ≡ length (instance_values (chain_end q) row test x)
      → Always X i f w (Some (k ∷ shape_numbers h (suc k) q)) (enclosed k (moves_in (shape_near_moves h G) (shape_far_moves h G (suc k)) at (Some x))) (instance_values (chain_end p) row g x) (instance_values (chain_end q) row test x) (instance_out (chain_end p) (chain_end q) row x)
      → Always X i f w (Some (k ∷ shape_numbers h (suc k) q)) ms (many_values (chain_end p) row g xs) (many_values (chain_end q) row test xs) (many_out (chain_end p) (chain_end q) row xs)
      → Always X i f w (Some (k ∷ shape_numbers h (suc k) q)) (enclosed k (moves_in (shape_near_moves h G) (shape_far_moves h G (suc k)) at (Some x)) ++ ms) (many_values (chain_end p) row g (instance x xs)) (many_values (chain_end q) row test (instance x xs)) (many_out (chain_end p) (chain_end q) row (instance x xs))
  more_always h p q G k at x xs row ms m n a b =
      subst (Always X i f w (Some (k ∷ shape_numbers h (suc k) q)) (enclosed k (moves_in (shape_near_moves h G) (shape_far_moves h G (suc k)) at (Some x)) ++ ms) (many_values (chain_end p) row g (instance x xs)) (many_values (chain_end q) row test (instance x xs)))
      (sym (map-append (λ ys. g (row ys)) (kept_instance_rows (kept_rows (chain_end p) (chain_end q)) (λ y. row (single y)) test x) (each_kept_rows (kept_instance_rows (kept_rows (chain_end p) (chain_end q)) (λ y. row (single y)) test) xs)))
      (both_always X i f w (Some (k ∷ shape_numbers h (suc k) q)) (enclosed k (moves_in (shape_near_moves h G) (shape_far_moves h G (suc k)) at (Some x))) ms
      (instance_values (chain_end p) row g x) (many_values (chain_end p) row g xs) (instance_values (chain_end q) row test x) (many_values (chain_end q) row test xs) (instance_out (chain_end p) (chain_end q) row x) (many_out (chain_end p) (chain_end q) row xs) m n a b)

  later_always : (h : Shape) (p q : List Step) → InstanceFires h p q → (G : List Pick) (k : ℕ) (at : Depth) (row : Instances → Node) → Only i p G → Only w.last q G → is_shape_path h p ≡ true → is_shape_path h q ≡ true → (xs : Instances) → all_instances (is_instance h) xs ≡ true
      → Always X i f w (Some (k ∷ shape_numbers h (suc k) q)) (later_moves k (λ x. moves_in (shape_near_moves h G) (shape_far_moves h G (suc k)) (inside repeated (begun_later at) x) x) xs) (many_values (chain_end p) row g xs) (many_values (chain_end q) row test xs) (many_out (chain_end p) (chain_end q) row xs)
  later_always h p q ih G k at row o l u v no_instances z = no_moves X i f w (Some (k ∷ shape_numbers h (suc k) q))
  later_always h p q ih G k at row o l u v (instance x xs) z =
      let b : (is_instance h x ≡ true) × (all_instances (is_instance h) xs ≡ true) = and_parts _ _ z in
      let d : Depth = inside repeated (begun_later at) (Some x) in
      more_always h p q G k d x xs row (later_moves k (λ x. moves_in (shape_near_moves h G) (shape_far_moves h G (suc k)) (inside repeated (begun_later at) x) x) xs)
      (one_count i X g h p G k d x row o u b.0) (one_count w.last Bool test h q G k d x row l v b.0)
      (one_always h p q ih G k d x row o l u v b.0) (later_always h p q ih G k at row o l u v xs b.1)

  field_fires : (r : Repetition) (h : Shape) (p q : List Step) → FarFires h p q → (G : List Pick) (k : ℕ) (at : Depth) (n : Node) (row : Instances → Node) (a b : ℕ) → Only i p G → Only w.last q G → is_shape_path h p ≡ true → is_shape_path h q ≡ true
      → repetition_count r + max_repetition p ≡ suc a → repetition_count r + max_repetition q ≡ suc b → (xs : Instances) → first_slot n ≡ xs → (xs ≡ no_instances) ⊎ (fits_repetition r (count_instances xs) ≡ true) → all_instances (is_instance h) xs ≡ true
      → Fires X i f w (Some (own_number r k (λ j. shape_numbers h j q))) (far_in r h G k at n) (field_values (chain_end p) row g xs) (field_values (chain_end q) row test xs) (field_out (chain_end p) (chain_end q) row xs)
  field_fires r h p q far G k at n row a b o l u v y z xs e s t = subst (λ (ms : List Move). Fires X i f w (Some (own_number r k (λ j. shape_numbers h j q))) ms (field_values (chain_end p) row g xs) (field_values (chain_end q) row test xs) (field_out (chain_end p) (chain_end q) row xs))
      (far_in_moves r h p G o k at n xs e) (by_instances r y z xs s t)
    where
      absent : (r : Option (List ℕ)) (ms : List Move) (low high : ℕ) → Off low high ms [] → Fires X i f w r ms (field_values (chain_end p) row g no_instances) (field_values (chain_end q) row test no_instances) (field_out (chain_end p) (chain_end q) row no_instances)
      absent r ms low high x = whole_fires X i f w r ms (field_values (chain_end p) row g no_instances) (field_values (chain_end q) row test no_instances) (field_out (chain_end p) (chain_end q) row no_instances)
          (none_out (chain_end p) (chain_end q) row) (bare_whole X i f w low high r ms x)

      alone : (x : Instance) (at : Depth) → max_repetition p ≡ suc a → max_repetition q ≡ suc b → is_instance h x ≡ true
          → Fires X i f w (Some (shape_numbers h k q)) (shape_far_moves h G k at (Some x)) (field_values (chain_end p) row g (single x)) (field_values (chain_end q) row test (single x)) (field_out (chain_end p) (chain_end q) row (single x))
      alone x at y z t = same_fires (Some (shape_numbers h k q)) (shape_far_moves h G k at (Some x)) (shape_far_moves h G k at (Some x))
          (instance_values (chain_end p) row g x) (field_values (chain_end p) row g (single x)) (instance_values (chain_end q) row test x) (field_values (chain_end q) row test (single x))
          (instance_out (chain_end p) (chain_end q) row x) (field_out (chain_end p) (chain_end q) row (single x))
          refl (sym (append-nil (instance_values (chain_end p) row g x))) (sym (append-nil (instance_values (chain_end q) row test x)))
          (ap (map (λ ys. g (row ys))) (sym (append-nil (kept_instance_rows (kept_rows (chain_end p) (chain_end q)) (λ y. row (single y)) test x))))
          (far G k at x row a b o l u v t y z)

      by_instances : (r : Repetition) → repetition_count r + max_repetition p ≡ suc a → repetition_count r + max_repetition q ≡ suc b → (xs : Instances) → (xs ≡ no_instances) ⊎ (fits_repetition r (count_instances xs) ≡ true) → all_instances (is_instance h) xs ≡ true
          → Fires X i f w (Some (own_number r k (λ j. shape_numbers h j q)))
          (by_repetition r (repeated_moves k (λ x. moves_in (shape_near_moves h G) (shape_far_moves h G (suc k)) (inside r at x) x) (λ x. moves_in (shape_near_moves h G) (shape_far_moves h G (suc k)) (inside r (begun_later at) x) x))
          (λ x. shape_far_moves h G k (inside r at x) x) xs) (field_values (chain_end p) row g xs) (field_values (chain_end q) row test xs) (field_out (chain_end p) (chain_end q) row xs)
      by_instances required y z no_instances s t = absent (Some (shape_numbers h k q)) (shape_far_moves h G k (inside required at None) None) k (k + shape_repeated_fields h)
          (same_off k (k + shape_repeated_fields h) (shape_far_moves h G k (inside required at None) None) (instance_leavings h G k off None) [] (no_leavings h G k off) (far_part_off h G k (inside required at None) None))
      by_instances optional y z no_instances s t = absent (Some (shape_numbers h k q)) (shape_far_moves h G k (inside optional at None) None) k (k + shape_repeated_fields h)
          (same_off k (k + shape_repeated_fields h) (shape_far_moves h G k (inside optional at None) None) (instance_leavings h G k off None) [] (no_leavings h G k off) (far_part_off h G k (inside optional at None) None))
      by_instances repeated y z no_instances s t = absent (Some (k ∷ shape_numbers h (suc k) q)) (moves_in (shape_near_moves h G) (shape_far_moves h G (suc k)) (inside repeated at None) None) (suc k) (suc k + shape_repeated_fields h)
          (same_off (suc k) (suc k + shape_repeated_fields h) (moves_in (shape_near_moves h G) (shape_far_moves h G (suc k)) (inside repeated at None) None) (instance_leavings h G (suc k) off None) [] (no_leavings h G (suc k) off)
          (instance_part_off h G (suc k) (inside repeated at None) None))
      by_instances required y z (instance x no_instances) s t = alone x (inside required at (Some x)) (omega (arith, y)) (omega (arith, z)) (and_parts _ _ t).0
      by_instances optional y z (instance x no_instances) s t = alone x (inside optional at (Some x)) (omega (arith, y)) (omega (arith, z)) (and_parts _ _ t).0
      by_instances required y z (instance x (instance x' xs)) s t = absurd (too_many required x x' xs refl s)
        where
          too_many : (r : Repetition) (x x' : Instance) (xs : Instances) → r ≡ required → (instance x (instance x' xs) ≡ no_instances) ⊎ (fits_repetition r (suc (suc (count_instances xs))) ≡ true) → ⊥
          too_many r x x' xs e (inl d) = cc
          too_many r x x' xs e (inr d) = omega (arith, few required (suc (suc (count_instances xs))) (ap (λ (r : Repetition). fits_repetition r (suc (suc (count_instances xs)))) (sym e) ∙ d) refl)
      by_instances optional y z (instance x (instance x' xs)) s t = absurd (too_many optional x x' xs refl s)
        where
          too_many : (r : Repetition) (x x' : Instance) (xs : Instances) → r ≡ optional → (instance x (instance x' xs) ≡ no_instances) ⊎ (fits_repetition r (suc (suc (count_instances xs))) ≡ true) → ⊥
          too_many r x x' xs e (inl d) = cc
          too_many r x x' xs e (inr d) = omega (arith, few optional (suc (suc (count_instances xs))) (ap (λ (r : Repetition). fits_repetition r (suc (suc (count_instances xs)))) (sym e) ∙ d) refl)
      by_instances repeated y z (instance x xs) s t =
          let c : (is_instance h x ≡ true) × (all_instances (is_instance h) xs ≡ true) = and_parts _ _ t in
          let d : Depth = inside repeated at (Some x) in
          let ih : InstanceFires h p q = instance_fires h p q far in
          always_fires X i f w (Some (k ∷ shape_numbers h (suc k) q)) (enclosed k (moves_in (shape_near_moves h G) (shape_far_moves h G (suc k)) d (Some x)) ++ later_moves k (λ x. moves_in (shape_near_moves h G) (shape_far_moves h G (suc k)) (inside repeated (begun_later at) x) x) xs)
          (many_values (chain_end p) row g (instance x xs)) (many_values (chain_end q) row test (instance x xs)) (many_out (chain_end p) (chain_end q) row (instance x xs))
          (more_always h p q G k d x xs row (later_moves k (λ x. moves_in (shape_near_moves h G) (shape_far_moves h G (suc k)) (inside repeated (begun_later at) x) x) xs)
          (one_count i X g h p G k d x row o u c.0) (one_count w.last Bool test h q G k d x row l v c.0)
          (one_always h p q ih G k d x row o l u v c.0) (later_always h p q ih G k at row o l u v xs c.1))

  -- ---- all of it

  through_fires : (m : List ℕ) (r : Repetition) (h : Shape) (fs : Fields) (c e : Repetition) (p q : List Step) → FarFires h p q → FieldFires fs c e p q → FieldFires (field m r h fs) c e p q
  through_fires m r h fs c e p q far rest zero G k at n row a b o l u v y z t =
      let sp : (same_repetition c r ≡ true) × (is_shape_path h p ≡ true) = and_parts _ _ u in
      let sq : (same_repetition e r ≡ true) × (is_shape_path h q ≡ true) = and_parts _ _ v in
      let s : FirstSlot r h fs n = first_of_node m r h fs n t in
      let j = k + (repetition_count r + shape_repeated_fields h) in
      let ni : triplets_of i (far_moves fs (later_picks G) j at (other_slots n)) ≡ [] = far_nothing i fs (later_picks G) j at (other_slots n) (beside_first i c p G o) in
      let nl : triplets_of w.last (far_moves fs (later_picks G) j at (other_slots n)) ≡ [] = far_nothing w.last fs (later_picks G) j at (other_slots n) (beside_first w.last e q G l) in
      let N = own_number r k (λ j. shape_numbers h j q) in
      let first : Fires X i f w (Some (own_number r k (λ j. shape_numbers h j q))) (far_in r h (first_picks G) k at n) (field_values (chain_end p) row g (first_slot n)) (field_values (chain_end q) row test (first_slot n)) (field_out (chain_end p) (chain_end q) row (first_slot n)) =
      field_fires r h p q far (first_picks G) k at n row a b (only_behind i c p G o) (only_behind w.last e q G l) sp.1 sq.1
      (subst (λ (x : Repetition). repetition_count x + max_repetition p ≡ suc a) (same_repetition-true c r sp.0) y) (subst (λ (x : Repetition). repetition_count x + max_repetition q ≡ suc b) (same_repetition-true e r sq.0) z)
      (first_slot n) refl s.0 s.1 in
      subst (λ (xs : Instances). Fires X i f w (Some N) (far_in r h (first_picks G) k at n ++ far_moves fs (later_picks G) j at (other_slots n)) (field_values (chain_end p) row g xs) (field_values (chain_end q) row test xs) (field_out (chain_end p) (chain_end q) row xs)) (sym s.2)
      (fires_before X i f w (Some N) (far_in r h (first_picks G) k at n) (far_moves fs (later_picks G) j at (other_slots n)) (field_values (chain_end p) row g (first_slot n)) (field_values (chain_end q) row test (first_slot n)) (field_out (chain_end p) (chain_end q) row (first_slot n)) ni nl first
      (silent_whole X i f w j (j + repeated_fields fs) (Some N) (far_moves fs (later_picks G) j at (other_slots n)) _ ni (far_off fs (later_picks G) j at (other_slots n))))
  through_fires m r h fs c e p q far rest (suc i') G k at n row a b o l u v y z t =
      let s : FirstSlot r h fs n = first_of_node m r h fs n t in
      let j = k + (repetition_count r + shape_repeated_fields h) in
      let N = numbers_in fs j (step i' e ∷ q) in
      let vi : Without i (first_picks G) = behind_later i i' c p G o in
      let vl : Without w.last (first_picks G) = behind_later w.last i' e q G l in
      let x : (ls : List Leaving) × Off k (k + (repetition_count r + shape_repeated_fields h)) (far_in r h (first_picks G) k at n) ls = field_part_off r h (first_picks G) k at n in
      let ni : triplets_of i (far_in r h (first_picks G) k at n) ≡ [] = far_in_nothing i r h (first_picks G) k at n (λ d y. shape_near_nothing i h (first_picks G) d y vi) (λ l d y. shape_far_nothing i h (first_picks G) l d y vi) in
      let nl : triplets_of w.last (far_in r h (first_picks G) k at n) ≡ [] = far_in_nothing w.last r h (first_picks G) k at n (λ d y. shape_near_nothing w.last h (first_picks G) d y vl) (λ l d y. shape_far_nothing w.last h (first_picks G) l d y vl) in
      subst (λ (xs : Instances). Fires X i f w (Some N) (far_in r h (first_picks G) k at n ++ far_moves fs (later_picks G) j at (other_slots n)) (field_values (chain_end p) row g xs) (field_values (chain_end q) row test xs) (field_out (chain_end p) (chain_end q) row xs)) (sym (s.4 i'))
      (fires_behind X i f w (Some N) (far_in r h (first_picks G) k at n) (far_moves fs (later_picks G) j at (other_slots n)) (field_values (chain_end p) row g (instances_at i' (other_slots n))) (field_values (chain_end q) row test (instances_at i' (other_slots n)))
      (field_out (chain_end p) (chain_end q) row (instances_at i' (other_slots n))) ni nl
      (silent_whole X i f w k j (Some N) (far_in r h (first_picks G) k at n) x.0 ni x.1)
      (rest i' (later_picks G) j at (other_slots n) row a b (only_beside i i' c p G o) (only_beside w.last i' e q G l) u v y z s.3))

  group_fires : (fs : Fields) (s t : Step) (p q : List Step) → FieldFires fs s.repetition t.repetition p q → FarFires (group fs) (s ∷ p) (t ∷ q)
  group_fires fs s t p q ih G k at (atom v) row a b o l u v' z y d = absurd (true≢false (sym z))
  group_fires fs s t p q ih G k at (inner n) row a b o l u v z y d = by_place (s.place == t.place) refl
    where
      by_place : (e : Bool) → (s.place == t.place) ≡ e
          → Fires X i f w (Some (numbers_in fs k (t ∷ q))) (far_moves fs G k at n) (instance_values (chain_end (s ∷ p)) row g (inner n)) (instance_values (chain_end (t ∷ q)) row test (inner n)) (instance_out (chain_end (s ∷ p)) (chain_end (t ∷ q)) row (inner n))
      by_place false e =
          whole_fires X i f w (Some (numbers_in fs k (t ∷ q))) (far_moves fs G k at n) (instance_values (chain_end (s ∷ p)) row g (inner n)) (instance_values (chain_end (t ∷ q)) row test (inner n)) (instance_out (chain_end (s ∷ p)) (chain_end (t ∷ q)) row (inner n))
          (all_kept (chain_end (s ∷ p)) (chain_end (t ∷ q)) row (inner n) (λ r m h.
          ap₂ (λ (L M : List Step). kept_rows L M r m) (far_level s p a y) (far_level t q b d)
          ∙ apart_kept s t (chain_end p) (chain_end q) r m e
          ∙ some_rows (s ∷ chain_end p) (t ∷ chain_end q) r m (ap (λ (L : List Step). list_any r (rows L m)) (sym (far_level t q b d)) ∙ h)
          ∙ ap (λ (L : List Step). rows L m) (sym (far_level s p a y))))
          (apart_fields fs s.place t.place s.repetition t.repetition p q G o (not_same s.place t.place e) k at n)
      by_place true e =
          let j : s.place ≡ t.place = eqb-true s.place t.place e in
          let whole : Node → Node = λ m. row (single (inner m)) in
          let below : Instances → Node = λ xs. row (single (inner (put_at t.place xs n))) in
          same_fires (Some (numbers_in fs k (t ∷ q))) (far_moves fs G k at n) (far_moves fs G k at n)
          (field_values (chain_end p) (λ xs. row (single (inner (put_at t.place xs n)))) g (instances_at t.place n)) (instance_values (chain_end (s ∷ p)) row g (inner n))
          (field_values (chain_end q) (λ xs. row (single (inner (put_at t.place xs n)))) test (instances_at t.place n)) (instance_values (chain_end (t ∷ q)) row test (inner n))
          (field_out (chain_end p) (chain_end q) (λ xs. row (single (inner (put_at t.place xs n)))) (instances_at t.place n)) (instance_out (chain_end (s ∷ p)) (chain_end (t ∷ q)) row (inner n))
          refl
          (sym (inner_values X g (chain_end (s ∷ p)) row n ∙ ap (λ (L : List Step). map (λ (m : Node). g (row (single (inner m)))) (rows L n)) (far_level s p a y) ∙ node_values X g t.place s (chain_end p) whole n j))
          (sym (inner_values Bool test (chain_end (t ∷ q)) row n ∙ ap (λ (L : List Step). map (λ (m : Node). test (row (single (inner m)))) (rows L n)) (far_level t q b d) ∙ node_values Bool test t.place t (chain_end q) whole n refl))
          (sym (ap₂ (λ (L M : List Step). instance_out L M row (inner n)) (far_level s p a y) (far_level t q b d) ∙ along_out (instances_at t.place n) refl))
          (ih t.place G k at n (λ xs. row (single (inner (put_at t.place xs n)))) a b
          (subst (λ (l : ℕ). Only i (step l s.repetition ∷ p) G) j o) l
          (subst (λ (l : ℕ). is_leaf_path fs (step l s.repetition ∷ p) ≡ true) j u) v y d (inr z))
        where
          by_slot : (xs : Instances) → instances_at t.place n ≡ xs
              → map (λ xs. g (row (single (inner (put_at t.place xs n))))) (kept_field_rows (test (row (single (inner n)))) (kept_instance_rows (kept_rows (chain_end p) (chain_end q)) (λ x. put_at t.place (single x) n) (λ m. test (row (single (inner m))))) xs)
              ≡ field_out (chain_end p) (chain_end q) (λ xs. row (single (inner (put_at t.place xs n)))) xs
          by_slot no_instances h = ap (λ (m : Node). map (λ xs. g (row (single (inner (put_at t.place xs n))))) (if test (row (single (inner m))) then no_instances ∷ [] else [])) (sym (put_none t.place n h))
          by_slot (instance x xs) h = refl

          along_out : (xs : Instances) → instances_at t.place n ≡ xs → instance_out (s ∷ chain_end p) (t ∷ chain_end q) row (inner n) ≡ field_out (chain_end p) (chain_end q) (λ xs. row (single (inner (put_at t.place xs n)))) (instances_at t.place n)
          along_out xs h =
              map-map (λ (ys : Instances). g (row ys)) (λ (m : Node). single (inner m)) (kept_rows (s ∷ chain_end p) (t ∷ chain_end q) (λ m. test (row (single (inner m)))) n)
              ∙ ap (map (λ (m : Node). g (row (single (inner m))))) (along_kept s t (chain_end p) (chain_end q) (λ m. test (row (single (inner m)))) n e)
              ∙ map-map (λ (m : Node). g (row (single (inner m)))) (λ (xs : Instances). put_at t.place xs n) (kept_field_rows (test (row (single (inner n)))) (kept_instance_rows (kept_rows (chain_end p) (chain_end q)) (λ x. put_at t.place (single x) n) (λ m. test (row (single (inner m))))) (instances_at t.place n))
              ∙ by_slot (instances_at t.place n) refl

  mutual
    fields_fire : (fs : Fields) (c e : Repetition) (p q : List Step) → FieldFires fs c e p q
    fields_fire no_fields c e p q j G k at n row a b o l u v y z t = absurd (true≢false (sym u))
    fields_fire (field m r h fs) c e p q j G k at n row a b o l u v y z t =
        through_fires m r h fs c e p q (λ G k at x row a b o l u v z y d. shape_fire h p q G k at x row a b o l u v z y d) (λ j G k at n row a b o l u v y z t. fields_fire fs c e p q j G k at n row a b o l u v y z t) j G k at n row a b o l u v y z t

    shape_fire : (h : Shape) (p q : List Step) → FarFires h p q
    shape_fire h [] q G k at x row a b o l u v z y d = absurd (omega (arith, y))
    shape_fire h (s ∷ p) [] G k at x row a b o l u v z y d = absurd (omega (arith, d))
    shape_fire (leaf j) (s ∷ p) (t ∷ q) G k at x row a b o l u v z y d = absurd (true≢false (sym u))
    shape_fire (group fs) (s ∷ p) (t ∷ q) G k at x row a b o l u v z y d = group_fires fs s t p q (λ j G k at n row a b o l u v y z t'. fields_fire fs s.repetition t.repetition p q j G k at n row a b o l u v y z t') G k at x row a b o l u v z y d

  -- an instance, in the row that it makes of a record
  pub fires_in : (h : Shape) (p q : List Step) → InstanceFires h p q
  fires_in h p q = instance_fires h p q (shape_fire h p q)
