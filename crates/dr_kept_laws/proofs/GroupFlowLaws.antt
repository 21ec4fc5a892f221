-- What fires over a record's moves is what is told of the rows of what is kept.
use Rattle.std.proofs.Common.{◌≡◌, ℕ, zero, suc, List, [], ◌∷◌, ◌++◌, length, Bool, true, Option, None, Some, refl, sym, ap, ap₂, subst, ◌∙◌, true≢false, arith}
use Rattle.std.specs.Prelude.{map}
use Rattle.std.specs.List.{slice_get, list_all, flat_map, filter_map, cons_option}
use Rattle.std.proofs.lemmas.List.{length-map, map-append}
use Rattle.std.proofs.lemmas.Simd.{map-map}
use Rattle.std.proofs.lemmas.Bool.{and_parts}
use Rattle.dr_meaning.specs.Schema.{Repetition, Fields, no_fields, field, Shape, leaf, group}
use Rattle.dr_meaning.specs.Path.{Step, chain_end, up_to, begins_with, is_leaf_path, is_shape_path, same_repetition}
use Rattle.dr_meaning.specs.Record.{Value, Node, Instances, inner, single, is_record}
use Rattle.dr_meaning.specs.Rows.{rows, value_at}
use Rattle.dr_meaning.specs.Kept.{kept_along}
use Rattle.dr_meaning.specs.Automaton.{picks}
use Rattle.dr_meaning.specs.Walk.{Move, first_of, node_of, near_moves, far_moves, top, record_moves, walk}
use Rattle.dr_meaning.proofs.ProjectionLemmas.{step}
use Rattle.dr_meaning.proofs.Blocks.{same_repetition-true}
use Rattle.dr_kept_laws.specs.ChainNumbers.{shape_numbers}
use Rattle.dr_kept_laws.specs.RowsOfKept.{kept_instance_rows, kept_rows, rows_left}
use Rattle.dr_kept_laws.specs.GroupFlow.{fired_at, left_alone}
use Rattle.dr_kept_laws.specs.TellingLaws.{StandsFor}
use Rattle.dr_kept_laws.specs.Tours.{joined}
use Rattle.dr_kept_laws.specs.GroupFlowLaws.{IsTold, FiredOfKept, FiredOfAll}
use Rattle.dr_kept_laws.proofs.TourParts.{one_tour, joined_moves, joined_flow}
use Rattle.dr_kept_laws.proofs.RecordTours.{record_tour}
use Rattle.dr_kept_laws.proofs.Selections.{leaf_selected, selected_only}
use Rattle.dr_kept_laws.proofs.RowsOfKeptLaws.{rows_of_kept}
use Rattle.dr_kept_laws.proofs.FiredLemmas.{Always, enclosed_always, fired_all}
use Rattle.dr_kept_laws.proofs.RowValues.{instance_values, inner_values, none_true, no_level, along_level}
use Rattle.dr_kept_laws.proofs.GroupFlowLemmas.{fires_in}
use Rattle.dr_moves.specs.Context.{Context, contexts}
use Rattle.dr_moves.specs.Tour.{Tour, over, inside as within_instance, moves_of, after}
use Rattle.dr_moves.specs.Condition.{Watch}
use Rattle.dr_moves.specs.Cutting.{flow}
use Rattle.dr_moves.specs.Together.{Together, same_leaf, along, apart}
use Rattle.dr_moves.specs.Firing.{AllTogether, IsRow}
use Rattle.dr_moves.proofs.FiringLemmas.{rows_fire}

-- ---- leaves that are read together with a leaf have their repeated fields on its level

record SameField (c e : Repetition) (q p : List Step) : Type 0 where
  pub same : c ≡ e
  pub shape : Shape
  pub first : is_shape_path shape q ≡ true
  pub second : is_shape_path shape p ≡ true

same_field : (fs : Fields) (a : ℕ) (c e : Repetition) (q p : List Step) → is_leaf_path fs (step a c ∷ q) ≡ true → is_leaf_path fs (step a e ∷ p) ≡ true → SameField c e q p
same_field no_fields a c e q p u v = absurd (true≢false (sym u))
same_field (field m r h fs) zero c e q p u v =
    let x : (same_repetition c r ≡ true) × (is_shape_path h q ≡ true) = and_parts _ _ u in
    let y : (same_repetition e r ≡ true) × (is_shape_path h p ≡ true) = and_parts _ _ v in
    record { same = same_repetition-true c r x.0 ∙ sym (same_repetition-true e r y.0); shape = h; first = x.1; second = y.1 }
same_field (field m r h fs) (suc a) c e q p u v = same_field fs a c e q p u v

together_level : (E B : Type 0) (h : Shape) (q p : List Step) → Together E B q p → is_shape_path h q ≡ true → is_shape_path h p ≡ true → begins_with (chain_end q) (chain_end p) ≡ true
together_level E B h _ _ (same_leaf x) u v = refl
together_level E B (leaf k) _ _ (along a c e q p t) u v = absurd (true≢false (sym u))
together_level E B (group fs) _ _ (along a c e q p t) u v =
    let x : SameField c e q p = same_field fs a c e q p u v in
    ap (λ (r : Repetition). begins_with (up_to (step a c) (chain_end q)) (up_to (step a r) (chain_end p))) (sym x.same)
    ∙ along_level a c (chain_end q) (chain_end p) (together_level E B x.shape q p t x.first x.second)
together_level E B h _ _ (apart s t q p b x) u v = ap (λ (L : List Step). begins_with L (chain_end (t ∷ p))) (no_level (s ∷ q) x.1)

-- ---- rows with the same values

-- the value of a path, or nothing where there is no path
abbrev value_of_path : Option (List Step) → Node → Option Value
value_of_path None row = None
value_of_path (Some q) row = value_at q row

-- the context that has the values of a row
abbrev row_context : List (List Step) → Node → Context
row_context F row k = value_of_path (slice_get F k) row

-- contexts and rows, one with one
data Paired (F : List (List Step)) (K : List ℕ) : List Context → List Node → Type 0 where
  no_pair : Paired F K [] []
  one_pair : (c : Context) (row : Node) (cs : List Context) (rs : List Node) → IsRow F K c row → Paired F K cs rs → Paired F K (c ∷ cs) (row ∷ rs)

paired_map : {X : Type 0} (F : List (List Step)) (K : List ℕ) (f : Context → X) (g : Node → X) → ((c : Context) (row : Node) → IsRow F K c row → f c ≡ g row) → (cs : List Context) (rs : List Node) → Paired F K cs rs → map f cs ≡ map g rs
paired_map F K f g h _ _ no_pair = refl
paired_map F K f g h _ _ (one_pair c row cs rs x r) = ap₂ (λ y z. y ∷ z) (h c row x) (paired_map F K f g h cs rs r)

bare_pairs : (F : List (List Step)) (cs : List Context) (rs : List Node) → length cs ≡ length rs → Paired F [] cs rs
bare_pairs F [] [] h = no_pair
bare_pairs F [] (r ∷ rs) h = absurd (omega (arith, h))
bare_pairs F (c ∷ cs) [] h = absurd (omega (arith, h))
bare_pairs F (c ∷ cs) (r ∷ rs) h = one_pair c r cs rs tt (bare_pairs F cs rs (omega (arith, h)))

add_pairs : (F : List (List Step)) (K : List ℕ) (k : ℕ) (q : List Step) → slice_get F k ≡ Some q → (cs : List Context) (rs : List Node) → map (λ (d : Context). d k) cs ≡ map (value_at q) rs → Paired F K cs rs → Paired F (k ∷ K) cs rs
add_pairs F K k q e _ _ h no_pair = no_pair
add_pairs F K k q e _ _ h (one_pair c row cs rs x r) =
    let y : c k ≡ value_at q row = cc in
    let z : map (λ (d : Context). d k) cs ≡ map (value_at q) rs = cc in
    one_pair c row cs rs ((λ p u. let v : q ≡ p = cc in subst (λ (s : List Step). c k ≡ value_at s row) v y), x) (add_pairs F K k q e cs rs z r)

module _ (fs : Fields) (F : List (List Step)) (i : ℕ) (p c : List Step) (test : Node → Bool) (n : Node) (h : list_all (is_leaf_path fs) F ≡ true) (z : is_record fs n ≡ true) (e : slice_get F i ≡ Some p) where
  abbrev kept_contexts : List Context
  kept_contexts = map (row_context F) (kept_rows (chain_end p) c test n)

  -- each leaf that is read together with leaf i has the same values in the rows of what is kept and in the kept rows
  same_leaf_values : (k : ℕ) (q : List Step) → slice_get F k ≡ Some q → Together (k ≡ i) (Unit {0}) q p → map (value_at q) (rows_left (chain_end p) (kept_along c test n)) ≡ map (value_at q) (kept_rows (chain_end p) c test n)
  same_leaf_values k q u t =
      let a : is_leaf_path fs q ≡ true = leaf_selected fs F k q h u in
      rows_of_kept fs n (chain_end p) c q test z a (together_level (k ≡ i) (Unit {0}) (group fs) q p t a (leaf_selected fs F i p h e))

  in_kept : (k : ℕ) (q : List Step) → slice_get F k ≡ Some q → map (λ (d : Context). d k) (map (row_context F) (kept_rows (chain_end p) c test n)) ≡ map (value_at q) (kept_rows (chain_end p) c test n)
  in_kept k q u = map-map (λ (d : Context). d k) (row_context F) (kept_rows (chain_end p) c test n) ∙ ap (λ (o : Option (List Step)). map (value_of_path o) (kept_rows (chain_end p) c test n)) u

  kept_paired : (K : List ℕ) → AllTogether F i p K → Paired F K (map (row_context F) (kept_rows (chain_end p) c test n)) (kept_rows (chain_end p) c test n)
  kept_paired [] t = bare_pairs F (map (row_context F) (kept_rows (chain_end p) c test n)) (kept_rows (chain_end p) c test n) (length-map (kept_rows (chain_end p) c test n) (row_context F))
  kept_paired (k ∷ K) t = add_pairs F K k t.0.0 t.0.1 (map (row_context F) (kept_rows (chain_end p) c test n)) (kept_rows (chain_end p) c test n) (in_kept k t.0.0 t.0.1) (kept_paired K t.1)

  own : Together (i ≡ i) (Unit {0}) p p
  own = itself p
    where
      itself : (p : List Step) → Together (i ≡ i) (Unit {0}) p p
      itself [] = same_leaf refl
      itself (s ∷ p) = along s.place s.repetition s.repetition p p (itself p)

  left_paired : (K : List ℕ) → AllTogether F i p K → Paired F K (map (row_context F) (kept_rows (chain_end p) c test n)) (rows_left (chain_end p) (kept_along c test n))
  left_paired [] t = bare_pairs F (map (row_context F) (kept_rows (chain_end p) c test n)) (rows_left (chain_end p) (kept_along c test n))
      (length-map (kept_rows (chain_end p) c test n) (row_context F) ∙ sym (length-map (kept_rows (chain_end p) c test n) (value_at p)) ∙ ap length (sym (same_leaf_values i p e own)) ∙ length-map (rows_left (chain_end p) (kept_along c test n)) (value_at p))
  left_paired (k ∷ K) t = add_pairs F K k t.0.0 t.0.1 (map (row_context F) (kept_rows (chain_end p) c test n)) (rows_left (chain_end p) (kept_along c test n))
      (in_kept k t.0.0 t.0.1 ∙ sym (same_leaf_values k t.0.0 t.0.1 t.0.2)) (left_paired K t.1)

  -- what is told of the kept rows is told of the rows of what is kept
  told_of_left : (X : Type 0) (f : Context → X) (g : Node → X) → IsTold X F i p f g → map g (kept_rows (chain_end p) c test n) ≡ map g (rows_left (chain_end p) (kept_along c test n))
  told_of_left X f g t =
      sym (paired_map F t.leaves f g t.same (map (row_context F) (kept_rows (chain_end p) c test n)) (kept_rows (chain_end p) c test n) (kept_paired t.leaves t.together))
      ∙ paired_map F t.leaves f g t.same (map (row_context F) (kept_rows (chain_end p) c test n)) (rows_left (chain_end p) (kept_along c test n)) (left_paired t.leaves t.together)

-- ---- over a record's moves

-- the record in which an instance stands alone
abbrev record_row : Instances → Node
record_row xs = node_of (first_of xs)

-- the record's branch, on the chain
record_always : (X : Type 0) (fs : Fields) (F : List (List Step)) (i : ℕ) (p q : List Step) (n : Node) (w : Watch) (test : Node → Bool) (f : Context → X) (g : Node → X)
    → list_all (is_leaf_path fs) F ≡ true → is_record fs n ≡ true → slice_get F i ≡ Some p → slice_get F w.last ≡ Some q
    → Always X i f w (Some (0 ∷ shape_numbers (group fs) 1 q)) (record_moves fs F n) (instance_values (chain_end p) record_row g (inner n)) (instance_values (chain_end q) record_row test (inner n))
    (map (λ ys. g (record_row ys)) (kept_instance_rows (kept_rows (chain_end p) (chain_end q)) (λ y. record_row (single y)) test (inner n)))
record_always X fs F i p q n w test f g h z t s =
    enclosed_always X i f w 0 (shape_numbers (group fs) 1 q) (near_moves fs (picks F) top n ++ far_moves fs (picks F) 1 top n) (instance_values (chain_end p) record_row g (inner n)) (instance_values (chain_end q) record_row test (inner n))
    (map (λ ys. g (record_row ys)) (kept_instance_rows (kept_rows (chain_end p) (chain_end q)) (λ y. record_row (single y)) test (inner n)))
    (λ y. ap (map (λ ys. g (record_row ys))) (none_true (chain_end p) (chain_end q) record_row test (inner n) y))
    (fires_in X i f w g test (group fs) p q (picks F) 1 top (inner n) record_row
    (selected_only F i p t) (selected_only F w.last q s)
    (leaf_selected fs F i p h t) (leaf_selected fs F w.last q h s) z)

-- moves with what is made over them, whatever was read before
pub record Firing (X : Type 0) (seen : ℕ → Context → List X) (left : ℕ → Context → List X → List X) (w : Watch) (r : Option (List ℕ)) (ms : List Move) (out : List X) : Type 0 where
  pub tour : Tour
  pub moves : moves_of tour ≡ ms
  pub fires : (c : Context) → flow seen left w r c tour ≡ out

-- what fires over a record is what is told of the rows of what is kept
pub record_firing : (X : Type 0) (fs : Fields) (F : List (List Step)) (w : Watch) (q : List Step) (K : List ℕ) (condition : Node → Bool) → StandsFor fs F w q K condition
    → (i : ℕ) (p : List Step) (f : Context → X) (g : Node → X) → IsTold X F i p f g → (n : Node) → is_record fs n ≡ true
    → Firing X (fired_at i f) left_alone w (Some (0 ∷ w.chain)) (record_moves fs F n) (map g (rows_left (chain_end p) (kept_along (chain_end q) condition n)))
record_firing X fs F w q K condition s i p f g t n z =
    let a = record_always X fs F i p q n w condition f g s.leaves z t.path s.last in
    record {
      tour = a.tour;
      moves = a.moves;
      fires = λ c. ap (λ (N : List ℕ). flow (fired_at i f) left_alone w (Some (0 ∷ N)) c a.tour) s.chain
          ∙ a.fires c (rows_fire X fs F i p t.leaves n c f g s.leaves t.path z t.together t.same ∙ sym (inner_values X g (chain_end p) record_row n))
          (rows_fire Bool fs F w.last q K n c w.test condition s.leaves s.last z s.together s.decides ∙ sym (inner_values Bool condition (chain_end q) record_row n))
          ∙ map-map (λ (ys : Instances). g (record_row ys)) (λ (r : Node). single (inner r)) (kept_rows (chain_end p) (chain_end q) condition n)
          ∙ told_of_left fs F i p (chain_end q) condition n s.leaves z t.path X f g t;
    }

-- without a condition it is what is told of all its rows
pub whole_firing : (X : Type 0) (fs : Fields) (F : List (List Step)) (w : Watch) → list_all (is_leaf_path fs) F ≡ true → (i : ℕ) (p : List Step) (f : Context → X) (g : Node → X) → IsTold X F i p f g → (n : Node) → is_record fs n ≡ true
    → Firing X (fired_at i f) left_alone w None (record_moves fs F n) (map g (rows (chain_end p) n))
whole_firing X fs F w h i p f g t n z =
    let a = record_tour fs F n in
    record {
      tour = within_instance 0 a.within over;
      moves = a.moves;
      fires = λ c. fired_all X i f w (within_instance 0 a.within over) c ∙ ap (λ (ms : List Move). map f (contexts i c ms)) a.moves ∙ rows_fire X fs F i p t.leaves n c f g h t.path z t.together t.same;
    }

-- ---- over a walk

-- what is kept of a record before what is kept of others
left_before : (p : List Step) (o : Option Node) (R : List Node) → flat_map (rows p) (cons_option o R) ≡ rows_left p o ++ flat_map (rows p) R
left_before p None R = refl
left_before p (Some m) R = refl

pub walk_firing : (X : Type 0) (seen : ℕ → Context → List X) (left : ℕ → Context → List X → List X) (w : Watch) (r : Option (List ℕ)) (fs : Fields) (F : List (List Step)) (p : List Step) (g : Node → X) (kept : Node → Option Node)
    → ((n : Node) → is_record fs n ≡ true → Firing X seen left w r (record_moves fs F n) (map g (rows_left p (kept n)))) → (R : List Node) → list_all (is_record fs) R ≡ true
    → Firing X seen left w r (walk fs F R) (map g (flat_map (rows p) (filter_map kept R)))
unfolding walk
walk_firing X seen left w r fs F p g kept each [] v = record { tour = over; moves = refl; fires = λ c. refl }
walk_firing X seen left w r fs F p g kept each (n ∷ R) v =
    let z : (is_record fs n ≡ true) × (list_all (is_record fs) R ≡ true) = and_parts _ _ v in
    let a = each n z.0 in
    let b = walk_firing X seen left w r fs F p g kept each R z.1 in
    record {
      tour = joined a.tour b.tour;
      moves = joined_moves a.tour b.tour ∙ ap₂ (λ (x y : List Move). x ++ y) a.moves b.moves;
      fires = λ c. joined_flow seen left w r c a.tour b.tour
          ∙ ap₂ (λ (x y : List X). x ++ y) (a.fires c) (b.fires (after c a.tour))
          ∙ sym (map-append g (rows_left p (kept n)) (flat_map (rows p) (filter_map kept R)))
          ∙ ap (map g) (sym (left_before p (kept n) (filter_map kept R)));
    }

pub all_some : (R : List Node) → filter_map (λ (n : Node). Some n) R ≡ R
all_some [] = refl
all_some (n ∷ R) = ap (λ (l : List Node). n ∷ l) (all_some R)

-- the one tour of these moves makes this
pub firing_of : (X : Type 0) (seen : ℕ → Context → List X) (left : ℕ → Context → List X → List X) (w : Watch) (r : Option (List ℕ)) (ms : List Move) (out : List X) → Firing X seen left w r ms out
    → (T : Tour) (c : Context) → moves_of T ≡ ms → flow seen left w r c T ≡ out
firing_of X seen left w r ms out a T c m = ap (flow seen left w r c) (one_tour T a.tour (m ∙ sym a.moves)) ∙ a.fires c

pub fired_of_kept : (X : Type 0) → FiredOfKept X
fired_of_kept X fs F w q K condition s i p f g t R T c v m =
    firing_of X (fired_at i f) left_alone w (Some (0 ∷ w.chain)) (walk fs F R) (map g (flat_map (rows (chain_end p)) (filter_map (kept_along (chain_end q) condition) R)))
    (walk_firing X (fired_at i f) left_alone w (Some (0 ∷ w.chain)) fs F (chain_end p) g (kept_along (chain_end q) condition) (λ n z. record_firing X fs F w q K condition s i p f g t n z) R v) T c m

pub fired_of_all : (X : Type 0) → FiredOfAll X
fired_of_all X fs F i p f g h t R T c w v m =
    firing_of X (fired_at i f) left_alone w None (walk fs F R) (map g (flat_map (rows (chain_end p)) (filter_map (λ (n : Node). Some n) R)))
    (walk_firing X (fired_at i f) left_alone w None fs F (chain_end p) g (λ (n : Node). Some n) (λ n z. whole_firing X fs F w h i p f g t n z) R v) T c m
    ∙ ap (λ (ns : List Node). map g (flat_map (rows (chain_end p)) ns)) (all_some R)
