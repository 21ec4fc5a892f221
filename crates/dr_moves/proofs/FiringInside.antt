-- Rows fire at leaves, inside an instance: what was read outside of it stays.
use Rattle.std.proofs.Common.{◌≡◌, ℕ, List, [], ◌∷◌, ◌++◌, length, Bool, true, Option, Some, refl, sym, ap, ap₂, ◌∙◌, arith}
use Rattle.std.specs.Prelude.{map}
use Rattle.std.specs.List.{list_any}
use Rattle.std.proofs.lemmas.List.{length-map}
use Rattle.dr_meaning.specs.Schema.{Shape}
use Rattle.dr_meaning.specs.Path.{Step, chain_end, is_shape_path}
use Rattle.dr_meaning.specs.Record.{Value, Instance, is_instance}
use Rattle.dr_meaning.specs.Rows.{value_in}
use Rattle.dr_meaning.specs.Column.{Triplet}
use Rattle.dr_meaning.specs.Automaton.{Pick}
use Rattle.dr_meaning.specs.Walk.{Move, Depth, moves_in, shape_near_moves, shape_far_moves}
use Rattle.dr_meaning.specs.WalkLaws.{triplets_of}
use Rattle.dr_meaning.proofs.WalkLemmas.{of_append, Only, Without, shape_near_nothing, shape_far_nothing}
use Rattle.dr_moves.specs.Context.{Context, contexts}
use Rattle.dr_moves.specs.Tour.{Tour, moves_of}
use Rattle.dr_moves.specs.Condition.{Watch, some_true}
use Rattle.dr_moves.specs.Readers.{Readers, no_reader, below, outside, IsRowInside}
use Rattle.dr_moves.specs.Together.{Together}
use Rattle.dr_moves.proofs.ReadingLemmas.{const_read}
use Rattle.dr_moves.proofs.RowsRead.{irows, shape_reads, counts}
use Rattle.dr_moves.proofs.FiringLemmas.{contexts_read, with_itself}
use Rattle.dr_moves.proofs.TourLemmas.{some_true_any, any_of_map}

module _ (i : ℕ) (h : Shape) (G : List Pick) (p : List Step) (c : Context) where
  data Paired (P : Context → Instance → Type 0) : List Context → List Instance → Type 0 where
    no_pair : Paired P [] []
    one_pair : (d : Context) (y : Instance) (ds : List Context) (ys : List Instance) → P d y → Paired P ds ys → Paired P (d ∷ ds) (y ∷ ys)

  paired_map : {X : Type 0} (P : Context → Instance → Type 0) (f : Context → X) (g : Instance → X) → ((d : Context) (y : Instance) → P d y → f d ≡ g y) → (ds : List Context) (ys : List Instance) → Paired P ds ys → map f ds ≡ map g ys
  paired_map P f g e _ _ no_pair = refl
  paired_map P f g e _ _ (one_pair d y ds ys x r) = ap₂ (λ a b. a ∷ b) (e d y x) (paired_map P f g e ds ys r)

  bare_pairs : (ds : List Context) (ys : List Instance) → length ds ≡ length ys → Paired (λ d y. Unit {0}) ds ys
  bare_pairs [] [] e = no_pair
  bare_pairs [] (y ∷ ys) e = absurd (omega (arith, e))
  bare_pairs (d ∷ ds) [] e = absurd (omega (arith, e))
  bare_pairs (d ∷ ds) (y ∷ ys) e = one_pair d y ds ys tt (bare_pairs ds ys (omega (arith, e)))

  add_pair : (P : Context → Instance → Type 0) (k : ℕ) (f : Instance → Option Value) (ds : List Context) (ys : List Instance) → map (λ (d : Context). d k) ds ≡ map f ys → Paired P ds ys → Paired (λ d y. (d k ≡ f y) × P d y) ds ys
  add_pair P k f _ _ e no_pair = no_pair
  add_pair P k f _ _ e (one_pair d y ds ys x r) =
      let a : d k ≡ f y = cc in
      let b : map (λ (d : Context). d k) ds ≡ map f ys = cc in
      one_pair d y ds ys (a, x) (add_pair P k f ds ys b r)

  same_length_maps : {X Y : Type 0} (v : Option Value) (xs : List X) (ys : List Y) → length xs ≡ length ys → map (λ (x : X). v) xs ≡ map (λ (y : Y). v) ys
  same_length_maps v [] [] e = refl
  same_length_maps v [] (y ∷ ys) e = absurd (omega (arith, e))
  same_length_maps v (x ∷ xs) [] e = absurd (omega (arith, e))
  same_length_maps v (x ∷ xs) (y ∷ ys) e = ap (λ (z : List (Option Value)). v ∷ z) (same_length_maps v xs ys (omega (arith, e)))

  module _ (oi : Only i p G) (ui : is_shape_path h p ≡ true) (j : ℕ) (at : Depth) (x : Instance) (z : is_instance h x ≡ true) where
    ms : List Move
    ms = moves_in (shape_near_moves h G) (shape_far_moves h G j) at (Some x)

    below_reads : (k : ℕ) (q : List Step) → Only k q G → is_shape_path h q ≡ true → Together (k ≡ i) (Unit {0}) q p → map (λ (d : Context). d k) (contexts i c (moves_in (shape_near_moves h G) (shape_far_moves h G j) at (Some x))) ≡ map (value_in q) (irows (chain_end p) x)
    below_reads k q o u t = contexts_read i k c (moves_in (shape_near_moves h G) (shape_far_moves h G j) at (Some x)) ∙ shape_reads (k ≡ i) (Unit {0}) i k (λ e. e) (λ y. counts i) h q p G o oi u ui t j at (Some x) (c k) z

    as_many : length (contexts i c (moves_in (shape_near_moves h G) (shape_far_moves h G j) at (Some x))) ≡ length (irows (chain_end p) x)
    as_many = sym (length-map (contexts i c (moves_in (shape_near_moves h G) (shape_far_moves h G j) at (Some x))) (λ (d : Context). d i)) ∙ ap length (below_reads i p oi ui (with_itself (i ≡ i) (Unit {0}) refl p)) ∙ length-map (irows (chain_end p) x) (value_in p)

    outside_reads : (k : ℕ) → Without k G → map (λ (d : Context). d k) (contexts i c (moves_in (shape_near_moves h G) (shape_far_moves h G j) at (Some x))) ≡ map (λ (y : Instance). c k) (irows (chain_end p) x)
    outside_reads k w =
        let A = moves_in (shape_near_moves h G) (shape_far_moves h G j) at (Some x) in
        let n : triplets_of k A ≡ [] = of_append k (shape_near_moves h G at (Some x)) (shape_far_moves h G j at (Some x)) ∙ ap₂ (λ (a b : List Triplet). a ++ b) (shape_near_nothing k h G at (Some x) w) (shape_far_nothing k h G j at (Some x) w) in
        let l : length (triplets_of i A) ≡ length (irows (chain_end p) x) = sym (length-map (triplets_of i A) (λ (t : Triplet). c k)) ∙ ap length (sym (const_read i k (c k) A n) ∙ sym (contexts_read i k c A)) ∙ length-map (contexts i c A) (λ (d : Context). d k) ∙ as_many in
        contexts_read i k c A ∙ const_read i k (c k) A n ∙ same_length_maps (c k) (triplets_of i A) (irows (chain_end p) x) l

    all_paired : (K : List ℕ) (r : Readers i h G p K) → Paired (IsRowInside i h G p c K r) (contexts i c (moves_in (shape_near_moves h G) (shape_far_moves h G j) at (Some x))) (irows (chain_end p) x)
    all_paired _ no_reader = bare_pairs (contexts i c (moves_in (shape_near_moves h G) (shape_far_moves h G j) at (Some x))) (irows (chain_end p) x) as_many
    all_paired _ (below k q K o u t r) = add_pair (IsRowInside i h G p c K r) k (value_in q) (contexts i c (moves_in (shape_near_moves h G) (shape_far_moves h G j) at (Some x))) (irows (chain_end p) x) (below_reads k q o u t) (all_paired K r)
    all_paired _ (outside k K w r) = add_pair (IsRowInside i h G p c K r) k (λ y. c k) (contexts i c (moves_in (shape_near_moves h G) (shape_far_moves h G j) at (Some x))) (irows (chain_end p) x) (outside_reads k w) (all_paired K r)

    -- what depends on these leaves alone is at the triplets of leaf i in the instance what it is in the instance's rows
    pub rows_fire_inside : {X : Type 0} (K : List ℕ) (r : Readers i h G p K) (f : Context → X) (g : Instance → X) → ((d : Context) (y : Instance) → IsRowInside i h G p c K r d y → f d ≡ g y)
        → map f (contexts i c (moves_in (shape_near_moves h G) (shape_far_moves h G j) at (Some x))) ≡ map g (irows (chain_end p) x)
    rows_fire_inside K r f g e = paired_map (IsRowInside i h G p c K r) f g e (contexts i c (moves_in (shape_near_moves h G) (shape_far_moves h G j) at (Some x))) (irows (chain_end p) x) (all_paired K r)

    -- an instance has a true row in the walk exactly where one of its rows is true
    pub true_row_inside : (K : List ℕ) (r : Readers i h G p K) (w : Watch) (test : Instance → Bool) (T : Tour) → w.last ≡ i → ((d : Context) (y : Instance) → IsRowInside i h G p c K r d y → w.test d ≡ test y)
        → moves_of T ≡ moves_in (shape_near_moves h G) (shape_far_moves h G j) at (Some x) → some_true w c T ≡ list_any test (irows (chain_end p) x)
    true_row_inside K r w test T l e m =
        some_true_any w T c ∙ ap₂ (λ (a : ℕ) (b : List Move). list_any w.test (contexts a c b)) l m
        ∙ sym (any_of_map w.test (contexts i c (moves_in (shape_near_moves h G) (shape_far_moves h G j) at (Some x))))
        ∙ ap (list_any (λ (b : Bool). b)) (rows_fire_inside K r w.test test e) ∙ any_of_map test (irows (chain_end p) x)
