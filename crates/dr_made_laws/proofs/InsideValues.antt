-- What fires inside an instance, as far as a condition keeps it, is what is told of the rows of what is kept of the instance.
use Rattle.std.proofs.Common.{◌≡◌, ◌⊎◌, inl, inr, ℕ, zero, suc, List, [], ◌∷◌, ◌++◌, length, Bool, true, false, Option, None, Some, refl, sym, ap, ap₂, subst, ◌∙◌, true≢false, arith}
use Rattle.std.specs.Prelude.{map, is_some, if◌then◌else◌, option_map}
use Rattle.std.specs.List.{slice_get, list_all, list_any}
use Rattle.std.proofs.lemmas.List.{length-map}
use Rattle.std.proofs.lemmas.Simd.{map-map}
use Rattle.std.proofs.lemmas.Bool.{and_parts, eq-eqb}
use Rattle.dr_meaning.specs.Schema.{Repetition, Fields, no_fields, field, Shape, leaf, group}
use Rattle.dr_meaning.specs.Path.{Step, begins_with, chain_end, up_to, is_leaf_path, is_shape_path, same_repetition, max_repetition}
use Rattle.dr_meaning.specs.Record.{Value, Node, Instances, Instance, atom, inner, single, is_record, is_instance}
use Rattle.dr_meaning.specs.Rows.{rows, value_in, value_at}
use Rattle.dr_meaning.specs.Kept.{keep_instance, kept_along}
use Rattle.dr_meaning.specs.Automaton.{Pick}
use Rattle.dr_meaning.specs.Walk.{Move, Depth, moves_in, shape_near_moves, shape_far_moves}
use Rattle.dr_meaning.proofs.ProjectionLemmas.{step}
use Rattle.dr_meaning.proofs.Blocks.{same_repetition-true}
use Rattle.dr_meaning.proofs.WalkLemmas.{Only}
use Rattle.dr_moves.specs.Context.{Context, contexts}
use Rattle.dr_moves.specs.Condition.{Watch, some_true}
use Rattle.dr_moves.specs.Cutting.{flow}
use Rattle.dr_moves.specs.Firing.{AllTogether, IsRow}
use Rattle.dr_moves.specs.Readers.{Readers, no_reader, below, outside, IsRowInside}
use Rattle.dr_moves.specs.Together.{Together, same_leaf, along, apart}
use Rattle.dr_moves.specs.Tour.{Tour, moves_of}
use Rattle.dr_moves.proofs.FiringInside.{rows_fire_inside}
use Rattle.dr_moves.proofs.InstanceKept.{true_row_keeps_instance}
use Rattle.dr_moves.proofs.KeptRows.{any_map, instance_any, kept_any}
use Rattle.dr_moves.proofs.RowsRead.{irows, single_rows, map_same}
use Rattle.dr_moves.proofs.TourLemmas.{any_of_map}
use Rattle.dr_kept_laws.specs.ChainNumbers.{shape_numbers}
use Rattle.dr_kept_laws.proofs.Selections.{leaf_selected, no_path}
use Rattle.dr_kept_laws.proofs.TourParts.{one_tour}
use Rattle.dr_kept_laws.specs.GroupFlow.{fired_at, left_alone}
use Rattle.dr_kept_laws.specs.GroupFlowLaws.{IsTold}
use Rattle.dr_kept_laws.specs.RowsOfKept.{kept_instance_rows, kept_rows, rows_left}
use Rattle.dr_kept_laws.proofs.FiredLemmas.{some_answer, fired_all}
use Rattle.dr_kept_laws.proofs.GroupFlowLemmas.{fires_in}
use Rattle.dr_kept_laws.proofs.RowsOfKeptLaws.{rows_of_kept}
use Rattle.dr_kept_laws.proofs.RowValues.{instance_values, inner_values, no_level, along_level}
use Rattle.dr_made_laws.proofs.PathLemmas.{begins_itself, front_cases, begins_along, IsLevel, chain_front, level_chain}
use Rattle.dr_made_laws.proofs.RowFrames.{Frame}
use Rattle.dr_made_laws.proofs.PlaceLemmas.{Below, Beside, Places}
use Rattle.dr_made_laws.proofs.KnownValues.{KnownBeside}

-- ---- leaves that are read together with a leaf have their repeated fields on its level

record SameField (c e : Repetition) (q p : List Step) : Type 0 where
  pub same : c ≡ e
  pub shape : Shape
  pub first : is_shape_path shape q ≡ true
  pub second : is_shape_path shape p ≡ true

same_field : (fs : Fields) (a : ℕ) (c e : Repetition) (q p : List Step) → is_leaf_path fs (step a c ∷ q) ≡ true → is_leaf_path fs (step a e ∷ p) ≡ true → SameField c e q p
same_field no_fields a c e q p u v = absurd (true≢false (sym u))
same_field (field m r h fs) zero c e q p u v =
    let x : (same_repetition c r ≡ true) × (is_shape_path h q ≡ true) = and_parts _ _ u in
    let y : (same_repetition e r ≡ true) × (is_shape_path h p ≡ true) = and_parts _ _ v in
    record { same = same_repetition-true c r x.0 ∙ sym (same_repetition-true e r y.0); shape = h; first = x.1; second = y.1 }
same_field (field m r h fs) (suc a) c e q p u v = same_field fs a c e q p u v

together_level : (E B : Type 0) (h : Shape) (q p : List Step) → Together E B q p → is_shape_path h q ≡ true → is_shape_path h p ≡ true → begins_with (chain_end q) (chain_end p) ≡ true
together_level E B h _ _ (same_leaf x) u v = refl
together_level E B (leaf k) _ _ (along a c e q p t) u v = absurd (true≢false (sym u))
together_level E B (group fs) _ _ (along a c e q p t) u v =
    let x : SameField c e q p = same_field fs a c e q p u v in
    ap (λ (r : Repetition). begins_with (up_to (step a c) (chain_end q)) (up_to (step a r) (chain_end p))) (sym x.same)
    ∙ along_level a c (chain_end q) (chain_end p) (together_level E B x.shape q p t x.first x.second)
together_level E B h _ _ (apart s t q p b x) u v = ap (λ (L : List Step). begins_with L (chain_end (t ∷ p))) (no_level (s ∷ q) x.1)

-- of selected leaves
pub leaves_level : (fs : Fields) (F : List (List Step)) → list_all (is_leaf_path fs) F ≡ true → (E B : Type 0) (k i : ℕ) (q p : List Step) → slice_get F k ≡ Some q → slice_get F i ≡ Some p → Together E B q p
    → begins_with (chain_end q) (chain_end p) ≡ true
leaves_level fs F l E B k i q p e d t = together_level E B (group fs) q p t (leaf_selected fs F k q l e) (leaf_selected fs F i p l d)

-- behind the fields of both
together_rest : (E B : Type 0) (u v : List Step) → Together E B u v → (s : Step) (q p : List Step) → u ≡ s ∷ q → v ≡ s ∷ p → Together E B q p
together_rest E B _ _ (same_leaf x) s q p a b = absurd (cc)
together_rest E B _ _ (along i c e q0 p0 t) s q p a b =
    let x : q0 ≡ q = cc in
    let y : p0 ≡ p = cc in
    subst (λ (z : List Step). Together E B z p) x (subst (λ (z : List Step). Together E B q0 z) y t)
together_rest E B _ _ (apart s0 t0 q0 p0 b0 x) s q p a b =
    let y : s0 ≡ s = cc in
    let z : t0 ≡ s = cc in
    absurd (true≢false (sym (eq-eqb s0.place t0.place (ap (λ (r : Step). r.place) (y ∙ sym z))) ∙ x.0))

together_below : (E B : Type 0) (pre q p : List Step) → Together E B (pre ++ q) (pre ++ p) → Together E B q p
together_below E B [] q p t = t
together_below E B (s ∷ pre) q p t = together_below E B pre q p (together_rest E B (s ∷ (pre ++ q)) (s ∷ (pre ++ p)) t s (pre ++ q) (pre ++ p) refl refl)

-- ---- lists of nodes that are the same to some functions

abbrev SameIn : List (Node → Option Value) → Node → Node → Type 0
SameIn [] a b = Unit {0}
SameIn (v ∷ vs) a b = (v a ≡ v b) × SameIn vs a b

abbrev AllSame : List (Node → Option Value) → List Node → List Node → Type 0
AllSame [] A B = Unit {0}
AllSame (v ∷ vs) A B = (map v A ≡ map v B) × AllSame vs A B

first_same : (vs : List (Node → Option Value)) (a b : Node) (A B : List Node) → AllSame vs (a ∷ A) (b ∷ B) → SameIn vs a b × AllSame vs A B
first_same [] a b A B h = (tt, tt)
first_same (v ∷ vs) a b A B h =
    let e : map v (a ∷ A) ≡ map v (b ∷ B) = h.0 in
    let x : v a ≡ v b = cc in
    let y : map v A ≡ map v B = cc in
    let r : SameIn vs a b × AllSame vs A B = first_same vs a b A B h.1 in
    ((x, r.0), (y, r.1))

same_maps : {X : Type 0} (vs : List (Node → Option Value)) (g : Node → X) → ((a b : Node) → SameIn vs a b → g a ≡ g b) → (A B : List Node) → length A ≡ length B → AllSame vs A B → map g A ≡ map g B
same_maps vs g f [] [] l h = refl
same_maps vs g f [] (b ∷ B) l h = absurd (omega (arith, l))
same_maps vs g f (a ∷ A) [] l h = absurd (omega (arith, l))
same_maps {X} vs g f (a ∷ A) (b ∷ B) l h =
    let r : SameIn vs a b × AllSame vs A B = first_same vs a b A B h in
    ap₂ (λ (x : X) (xs : List X). x ∷ xs) (f a b r.0) (same_maps vs g f A B (omega (arith, l)) r.1)

constant_maps : (v : Node → Option Value) → ((a b : Node) → v a ≡ v b) → (A B : List Node) → length A ≡ length B → map v A ≡ map v B
constant_maps v h [] [] l = refl
constant_maps v h [] (b ∷ B) l = absurd (omega (arith, l))
constant_maps v h (a ∷ A) [] l = absurd (omega (arith, l))
constant_maps v h (a ∷ A) (b ∷ B) l = ap₂ (λ (x : Option Value) (xs : List (Option Value)). x ∷ xs) (h a b) (constant_maps v h A B (omega (arith, l)))

-- ---- what is kept of an instance

-- an instance is the node that is kept of it, or the value
pub data IsKept (p : List Step) (row : Instances → Node) (test : Node → Bool) : Instance → Instance → Type 0 where
  kept_atom : (v : Value) → test (row (single (atom v))) ≡ true → IsKept p row test (atom v) (atom v)
  kept_inner : (n m : Node) → kept_along p (λ m. test (row (single (inner m)))) n ≡ Some m → IsKept p row test (inner n) (inner m)

pub is_kept : (p : List Step) (row : Instances → Node) (test : Node → Bool) (x z : Instance) → keep_instance (kept_along p) (λ y. row (single y)) test x ≡ Some z → IsKept p row test x z
is_kept p row test (atom v) z e = by_test (test (row (single (atom v)))) refl e
  where
    by_test : (b : Bool) → test (row (single (atom v))) ≡ b → (if b then Some (atom v) else None) ≡ Some z → IsKept p row test (atom v) z
    by_test true h e = let x : atom v ≡ z = cc in subst (λ (y : Instance). IsKept p row test (atom v) y) x (kept_atom v h)
    by_test false h e = absurd (cc)
is_kept p row test (inner n) z e = by_kept (kept_along p (λ m. test (row (single (inner m)))) n) refl e
  where
    by_kept : (o : Option Node) → kept_along p (λ m. test (row (single (inner m)))) n ≡ o → option_map inner o ≡ Some z → IsKept p row test (inner n) z
    by_kept None h e = absurd (cc)
    by_kept (Some m) h e = let x : inner m ≡ z = cc in subst (λ (y : Instance). IsKept p row test (inner n) y) x (kept_inner n m h)

-- leaves below none of its repeated fields have the same values
pub kept_value : (h : Shape) (p : List Step) (row : Instances → Node) (test : Node → Bool) (x z : Instance) → IsKept p row test x z → is_instance h x ≡ true → (q : List Step) → is_shape_path h q ≡ true → max_repetition q ≡ 0 → value_in q x ≡ value_in q z
kept_value h p row test _ _ (kept_atom v e) i q u l = refl
kept_value (leaf k) p row test _ _ (kept_inner n m e) i q u l = absurd (true≢false (sym i))
kept_value (group fs) p row test _ _ (kept_inner n m e) i [] u l = absurd (no_path fs u)
kept_value (group fs) p row test _ _ (kept_inner n m e) i (s ∷ q) u l = by_any (list_any t (rows p n)) kept
  where
    t : Node → Bool
    t = λ m. test (row (single (inner m)))

    kept : value_at (s ∷ q) m ∷ [] ≡ map (value_at (s ∷ q)) (if list_any (λ m. test (row (single (inner m)))) (rows p n) then n ∷ [] else [])
    kept = ap (λ (o : Option Node). map (value_at (s ∷ q)) (rows_left [] o)) (sym e)
        ∙ rows_of_kept fs n [] p (s ∷ q) (λ m. test (row (single (inner m)))) i u (ap (λ (L : List Step). begins_with L []) (no_level (s ∷ q) l))
        ∙ ended p
      where
        ended : (p : List Step) → map (value_at (s ∷ q)) (kept_rows [] p (λ m. test (row (single (inner m)))) n) ≡ map (value_at (s ∷ q)) (if list_any (λ m. test (row (single (inner m)))) (rows p n) then n ∷ [] else [])
        ended p = refl

    by_any : (b : Bool) → value_at (s ∷ q) m ∷ [] ≡ map (value_at (s ∷ q)) (if b then n ∷ [] else []) → value_at (s ∷ q) n ≡ value_at (s ∷ q) m
    by_any true e = cc
    by_any false e = absurd (cc)

-- ---- inside an instance

-- the value of a path, or nothing where there is no path
abbrev value_of_path : Option (List Step) → Node → Option Value
value_of_path None row = None
value_of_path (Some q) row = value_at q row

module _ (fs : Fields) (F : List (List Step)) (l : list_all (is_leaf_path fs) F ≡ true) (h : Shape) (pre : List Step) (row : Instances → Node) (G : List Pick) (f : Places F h pre row G) (w : Frame pre row) (lev : IsLevel pre) where
  not_empty : (k : ℕ) (q p : List Step) → slice_get F k ≡ Some q → q ≡ pre ++ p → pre ++ p ≡ [] → ⊥
  not_empty k q p e a n = no_path fs (ap (is_leaf_path fs) (sym (a ∙ n)) ∙ leaf_selected fs F k q l e)

  -- the leaves that are read together with one of the instance, and that contexts have the values of a row inside
  pub record Inside (i : ℕ) (p : List Step) (c : Context) (K : List ℕ) : Type 0 where
    pub reads : Readers i h G p K
    pub is_row : (d : Context) (y : Instance) → IsRowInside i h G p c K reads d y → IsRow F K d (row (single y))

  module _ (c : Context) (z : Instance) (known : KnownBeside F pre c (row (single z))) (i : ℕ) (p : List Step) (e : slice_get F i ≡ Some (pre ++ p)) (u : is_shape_path h p ≡ true) where
    pub inside : (K : List ℕ) → AllTogether F i (pre ++ p) K → Inside i p c K
    inside [] t = record { reads = no_reader; is_row = λ d y a. tt }
    inside (k ∷ K) t = by_place t.0.0 t.0.1 t.0.2 (f k t.0.0 t.0.1) (inside K t.1)
      where
        at_row : (q : List Step) → slice_get F k ≡ Some q → (d : Context) (v : Node) → d k ≡ value_at q v → (o : List Step) → slice_get F k ≡ Some o → d k ≡ value_at o v
        at_row q a d v b o g = let x : q ≡ o = cc in subst (λ (s : List Step). d k ≡ value_at s v) x b

        on_level : (q : List Step) → begins_with pre q ≡ false → begins_with (chain_end q) (chain_end (pre ++ p)) ≡ true → begins_with (chain_end q) pre ≡ true
        on_level q a b = by_case (front_cases (chain_end q) pre (chain_end p) (ap (begins_with (chain_end q)) (sym (level_chain pre p lev)) ∙ b))
          where
            by_case : (begins_with (chain_end q) pre ≡ true) ⊎ (begins_with pre (chain_end q) ≡ true) → begins_with (chain_end q) pre ≡ true
            by_case (inl x) = x
            by_case (inr x) = absurd (true≢false (sym (begins_along pre (chain_end q) q x (chain_front q)) ∙ a))

        by_place : (q : List Step) → slice_get F k ≡ Some q → Together (k ≡ i) (Unit {0}) q (pre ++ p) → Below h pre G k q ⊎ Beside pre row G k q → Inside i p c K → Inside i p c (k ∷ K)
        by_place q a t (inl x) r = record {
          reads = below k x.0 K x.2 x.3 (together_below (k ≡ i) (Unit {0}) pre x.0 p (subst (λ (s : List Step). Together (k ≡ i) (Unit {0}) s (pre ++ p)) x.1 t)) r.reads;
          is_row = λ d y m. (at_row q a d (row (single y)) (m.0 ∙ sym (w.values_at x.0 y (not_empty k q x.0 a x.1)) ∙ ap (λ (s : List Step). value_at s (row (single y))) (sym x.1)), r.is_row d y m.1);
        }
        by_place q a t (inr x) r = record {
          reads = outside k K x.0 r.reads;
          is_row = λ d y m. (at_row q a d (row (single y)) (m.0 ∙ known k q a (on_level q x.1 (leaves_level fs F l (k ≡ i) (Unit {0}) k i q (pre ++ p) a e t)) x.1 ∙ x.2 (single z) (single y)), r.is_row d y m.1);
        }

    module _ (o : Only i p G) (j : ℕ) (at : Depth) (x : Instance) (v : is_instance h x ≡ true) where
      -- what is told at a leaf's triplets
      pub told_inside : {X : Type 0} (a : Context → X) (g : Node → X) → IsTold X F i (pre ++ p) a g
          → map a (contexts i c (moves_in (shape_near_moves h G) (shape_far_moves h G j) at (Some x))) ≡ instance_values (chain_end p) row g x
      told_inside a g t =
          let r : Inside i p c t.leaves = inside t.leaves t.together in
          rows_fire_inside i h G p c o u j at x v t.leaves r.reads a (λ y. g (row (single y))) (λ d y m. t.same d (row (single y)) (r.is_row d y m))

      -- off the condition's chain all fires
      pub values_off : {X : Type 0} (a : Context → X) (g : Node → X) → IsTold X F i (pre ++ p) a g → (W : Watch) (T : Tour) → moves_of T ≡ moves_in (shape_near_moves h G) (shape_far_moves h G j) at (Some x)
          → flow (fired_at i a) left_alone W None c T ≡ instance_values (chain_end p) row g x
      values_off {X} a g t W T m = fired_all X i a W T c ∙ ap (λ (ms : List Move). map a (contexts i c ms)) m ∙ told_inside a g t

  -- ---- the rows of what is kept

  module _ (i : ℕ) (p : List Step) (ui : is_shape_path h p ≡ true) {X : Type 0} (a : Context → X) (g : Node → X) (s : IsTold X F i (pre ++ p) a g) where
    values_of : (M : List ℕ) → AllTogether F i (pre ++ p) M → List (Node → Option Value)
    values_of [] t = []
    values_of (k ∷ M) t = (λ r. value_at t.0.0 (row (single (inner r)))) ∷ values_of M t.1

    same_row : (a b : Node) (M : List ℕ) (t : AllTogether F i (pre ++ p) M) → SameIn (values_of M t) a b → IsRow F M (λ k. value_of_path (slice_get F k) (row (single (inner a)))) (row (single (inner b)))
    unfolding values_of
    same_row a b [] t h = tt
    same_row a b (k ∷ M) t h = ((λ o d. ap (λ (x : Option (List Step)). value_of_path x (row (single (inner a)))) d ∙ swapped o d), same_row a b M t.1 h.1)
      where
        the_same : (q o : List Step) → slice_get F k ≡ Some q → slice_get F k ≡ Some o → q ≡ o
        the_same q o a b = cc

        swapped : (o : List Step) → slice_get F k ≡ Some o → value_at o (row (single (inner a))) ≡ value_at o (row (single (inner b)))
        swapped o d = let x : t.0.0 ≡ o = the_same t.0.0 o t.0.1 d in subst (λ (q : List Step). value_at q (row (single (inner a))) ≡ value_at q (row (single (inner b)))) x h.0

    own_row : (a : Node) (M : List ℕ) → IsRow F M (λ k. value_of_path (slice_get F k) (row (single (inner a)))) (row (single (inner a)))
    own_row a [] = tt
    own_row a (k ∷ M) = ((λ o d. ap (λ (x : Option (List Step)). value_of_path x (row (single (inner a)))) d), own_row a M)

    told_same : (b d : Node) → SameIn (values_of s.leaves s.together) b d → g (row (single (inner b))) ≡ g (row (single (inner d)))
    told_same b d m =
        sym (s.same (λ k. value_of_path (slice_get F k) (row (single (inner b)))) (row (single (inner b))) (own_row b s.leaves))
        ∙ s.same (λ k. value_of_path (slice_get F k) (row (single (inner b)))) (row (single (inner d))) (same_row b d s.leaves s.together m)

    module _ (C : List Step) (test : Node → Bool) (n m : Node) (fields : Fields) (z : is_record fields n ≡ true) (hf : h ≡ group fields) (e : kept_along C test n ≡ Some m) where
      -- a leaf has the same values in them
      same_leaf_values : (q : List Step) → is_shape_path h q ≡ true → begins_with (chain_end q) (chain_end p) ≡ true → map (value_at q) (kept_rows (chain_end p) C test n) ≡ map (value_at q) (rows (chain_end p) m)
      same_leaf_values q u b =
          sym (ap (λ (o : Option Node). map (value_at q) (rows_left (chain_end p) o)) (sym e)
          ∙ rows_of_kept fields n (chain_end p) C q test z (ap (λ (h : Shape). is_shape_path h q) (sym hf) ∙ u) b)

      as_many : length (kept_rows (chain_end p) C test n) ≡ length (rows (chain_end p) m)
      as_many = sym (length-map (kept_rows (chain_end p) C test n) (value_at p)) ∙ ap length (same_leaf_values p ui (begins_itself (chain_end p))) ∙ length-map (rows (chain_end p) m) (value_at p)

      at_leaf : (k : ℕ) (q : List Step) → slice_get F k ≡ Some q → Together (k ≡ i) (Unit {0}) q (pre ++ p) → Below h pre G k q ⊎ Beside pre row G k q
          → map (λ (r : Node). value_at q (row (single (inner r)))) (kept_rows (chain_end p) C test n) ≡ map (λ (r : Node). value_at q (row (single (inner r)))) (rows (chain_end p) m)
      at_leaf k q d t (inl x) =
          let own : (r : Node) → value_at q (row (single (inner r))) ≡ value_at x.0 r = λ r. ap (λ (u : List Step). value_at u (row (single (inner r)))) x.1 ∙ w.values_at x.0 (inner r) (not_empty k q x.0 d x.1) in
          let b : Together (k ≡ i) (Unit {0}) x.0 p = together_below (k ≡ i) (Unit {0}) pre x.0 p (subst (λ (s : List Step). Together (k ≡ i) (Unit {0}) s (pre ++ p)) x.1 t) in
          map_same (λ (r : Node). value_at q (row (single (inner r)))) (value_at x.0) own (kept_rows (chain_end p) C test n)
          ∙ same_leaf_values x.0 x.3 (together_level (k ≡ i) (Unit {0}) h x.0 p b x.3 ui)
          ∙ sym (map_same (λ (r : Node). value_at q (row (single (inner r)))) (value_at x.0) own (rows (chain_end p) m))
      at_leaf k q d t (inr x) = constant_maps (λ (r : Node). value_at q (row (single (inner r)))) (λ b c. x.2 (single (inner b)) (single (inner c))) (kept_rows (chain_end p) C test n) (rows (chain_end p) m) as_many

      all_same : (M : List ℕ) (t : AllTogether F i (pre ++ p) M) → AllSame (values_of M t) (kept_rows (chain_end p) C test n) (rows (chain_end p) m)
      unfolding values_of
      all_same [] t = tt
      all_same (k ∷ M) t = (at_leaf k t.0.0 t.0.1 t.0.2 (f k t.0.0 t.0.1), all_same M t.1)

      rows_told : map (λ (r : Node). g (row (single (inner r)))) (kept_rows (chain_end p) C test n) ≡ map (λ (r : Node). g (row (single (inner r)))) (rows (chain_end p) m)
      rows_told = same_maps (values_of s.leaves s.together) (λ (r : Node). g (row (single (inner r)))) told_same (kept_rows (chain_end p) C test n) (rows (chain_end p) m) as_many (all_same s.leaves s.together)

    inner_record : (h : Shape) (n : Node) → is_instance h (inner n) ≡ true → (fields : Fields) × (h ≡ group fields) × (is_record fields n ≡ true)
    inner_record (leaf k) n v = absurd (true≢false (sym v))
    inner_record (group fields) n v = (fields, refl, v)

    atom_row : (L : List Step) (v : Value) → irows L (atom v) ≡ atom v ∷ []
    atom_row [] v = refl
    atom_row (t ∷ L) v = refl

    -- kept rows of an instance are told as the rows of what is kept of it
    kept_told : (C : List Step) (test : Node → Bool) (x y : Instance) → IsKept C row test x y → is_instance h x ≡ true
        → map (λ ys. g (row ys)) (kept_instance_rows (kept_rows (chain_end p) C) (λ y. row (single y)) test x) ≡ instance_values (chain_end p) row g y
    kept_told C test _ _ (kept_atom v e) d =
        ap (λ (b : Bool). map (λ ys. g (row ys)) (if b then single (atom v) ∷ [] else [])) e
        ∙ ap (map (λ (y : Instance). g (row (single y)))) (sym (atom_row (chain_end p) v))
    kept_told C test _ _ (kept_inner n m e) d =
        let r : (fields : Fields) × (h ≡ group fields) × (is_record fields n ≡ true) = inner_record h n d in
        map-map (λ (ys : Instances). g (row ys)) (λ (k : Node). single (inner k)) (kept_rows (chain_end p) C (λ m. test (row (single (inner m)))) n)
        ∙ rows_told C (λ m. test (row (single (inner m)))) n m r.0 r.2 r.1 e
        ∙ sym (inner_values X g (chain_end p) row m)

  -- ---- on the chain

  module _ (W : Watch) (K : List ℕ) (test : Node → Bool) (q : List Step) (e : slice_get F W.last ≡ Some (pre ++ q)) (t : AllTogether F W.last (pre ++ q) K) (decides : (d : Context) (r : Node) → IsRow F K d r → W.test d ≡ test r)
      (o : Only W.last q G) (u : is_shape_path h q ≡ true) (j : ℕ) (at : Depth) (x : Instance) (v : is_instance h x ≡ true) (c : Context) (z : Instance) (known : KnownBeside F pre c (row (single z))) where
    -- an instance has a true row where it is kept
    pub true_where_kept : (T : Tour) → moves_of T ≡ moves_in (shape_near_moves h G) (shape_far_moves h G j) at (Some x) → some_true W c T ≡ is_some (keep_instance (kept_along (chain_end q)) (λ y. row (single y)) test x)
    true_where_kept T m =
        let r : Inside W.last q c K = inside c z known W.last q e u K t in
        true_row_keeps_instance W.last h G q c o u j at x v K r.reads W row test T refl (λ d y n. decides d (row (single y)) (r.is_row d y n)) m

    answers_inside : map W.test (contexts W.last c (moves_in (shape_near_moves h G) (shape_far_moves h G j) at (Some x))) ≡ instance_values (chain_end q) row test x
    answers_inside =
        let r : Inside W.last q c K = inside c z known W.last q e u K t in
        rows_fire_inside W.last h G q c o u j at x v K r.reads W.test (λ y. test (row (single y))) (λ d y m. decides d (row (single y)) (r.is_row d y m))

    some_kept : (y : Instance) → keep_instance (kept_along (chain_end q)) (λ y. row (single y)) test x ≡ Some y → some_answer (instance_values (chain_end q) row test x) ≡ true
    some_kept y k =
        any_of_map (λ (y : Instance). test (row (single y))) (irows (chain_end q) x)
        ∙ sym (any_map (λ (ys : Instances). test (row ys)) single (irows (chain_end q) x))
        ∙ ap (list_any (λ (ys : Instances). test (row ys))) (sym (single_rows (chain_end q) x))
        ∙ sym (instance_any (chain_end q) (kept_any (chain_end q)) row test x) ∙ ap is_some k

    module _ (i : ℕ) (p : List Step) (ei : slice_get F i ≡ Some (pre ++ p)) (ui : is_shape_path h p ≡ true) (oi : Only i p G) {X : Type 0} (a : Context → X) (g : Node → X) (s : IsTold X F i (pre ++ p) a g) where
      -- what fires
      pub values_on : (y : Instance) → keep_instance (kept_along (chain_end q)) (λ y. row (single y)) test x ≡ Some y → (T : Tour) → moves_of T ≡ moves_in (shape_near_moves h G) (shape_far_moves h G j) at (Some x)
          → flow (fired_at i a) left_alone W (Some (shape_numbers h j q)) c T ≡ instance_values (chain_end p) row g y
      values_on y k T m =
          let r = fires_in X i a W g test h p q G j at x row oi o ui u v in
          ap (flow (fired_at i a) left_alone W (Some (shape_numbers h j q)) c) (one_tour T r.tour (m ∙ sym r.moves))
          ∙ r.fires c (told_inside c z known i p ei ui oi j at x v a g s) answers_inside (some_kept y k)
          ∙ kept_told i p ui a g s (chain_end q) test x y (is_kept (chain_end q) row test x y k) v
