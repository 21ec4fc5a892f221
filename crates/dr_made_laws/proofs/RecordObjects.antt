-- Over the walk of records the objects of what is kept of them are made.
use Rattle.std.proofs.Common.{◌≡◌, inl, inr, ℕ, List, [], ◌∷◌, ◌++◌, Bool, true, Option, None, Some, refl, sym, ap, ap₂, ◌∙◌, true≢false, arith}
use Rattle.std.specs.Prelude.{is_some, if◌then◌else◌, option_map}
use Rattle.std.specs.List.{list_all, filter_map, cons_option}
use Rattle.std.proofs.lemmas.Bool.{and_parts, eq-eqb}
use Rattle.dr_meaning.specs.Schema.{Fields, group}
use Rattle.dr_meaning.specs.Path.{Step, chain_end, is_leaf_path}
use Rattle.dr_meaning.specs.Record.{Node, inner, single, is_record}
use Rattle.dr_meaning.specs.BindingLaws.{has_shapes}
use Rattle.dr_meaning.proofs.HasShapesLemmas.{records_have_shapes, kept_have_shapes}
use Rattle.dr_meaning.specs.Kept.{keep_instance, kept_along, kept}
use Rattle.dr_meaning.specs.Automaton.{picks}
use Rattle.dr_meaning.specs.Query.{Object, levels_of, record_object}
use Rattle.dr_meaning.specs.Walk.{Move, enter, leave, moves_in, shape_near_moves, shape_far_moves, top, record_moves, walk}
use Rattle.dr_moves.specs.Context.{Context}
use Rattle.dr_moves.specs.Condition.{Watch, some_true, rest_below, is_dropped}
use Rattle.dr_moves.specs.Tour.{Tour, over, inside, moves_of, after}
use Rattle.dr_kept_laws.specs.ChainNumbers.{shape_numbers}
use Rattle.dr_kept_laws.specs.TellingLaws.{StandsFor}
use Rattle.dr_kept_laws.specs.Tours.{joined}
use Rattle.dr_kept_laws.proofs.Selections.{leaf_selected, selected_only}
use Rattle.dr_kept_laws.proofs.TourParts.{one_tour, joined_moves, joined_flow}
use Rattle.dr_made_laws.specs.ObjectFlow.{Made, built, ReadItem, items_of, seen_items, left_items}
use Rattle.dr_made_laws.specs.ObjectFlowLaws.{AreRead, built_of, FlowMakesObjects, WholeFlowMakesObjects}
use Rattle.dr_made_laws.proofs.FlowLemmas.{makes}
use Rattle.dr_made_laws.proofs.MeantObjects.{object_meant}
use Rattle.dr_made_laws.proofs.RowFrames.{record_row, record_frame}
use Rattle.dr_made_laws.proofs.PlaceLemmas.{record_places}
use Rattle.dr_made_laws.proofs.KnownValues.{KnownBeside}
use Rattle.dr_made_laws.proofs.InsideValues.{true_where_kept}
use Rattle.dr_made_laws.proofs.ObjectParts.{Keeps, InstanceMade, instance_made}
use Rattle.dr_made_laws.proofs.ObjectRecursion.{shape_makes}

module _ (fs : Fields) (F : List (List Step)) (l : list_all (is_leaf_path fs) F ≡ true) (rs : List ReadItem) (reads : AreRead fs F rs) (W : Watch) (path : List Step) (K : List ℕ) (test : Node → Bool) where
  -- moves with what is made over them
  record WalkMade (r : Option (List ℕ)) (ms : List Move) (out : List Made) : Type 0 where
    pub tour : Tour
    pub moves : moves_of tour ≡ ms
    pub made : (c : Context) → makes rs (levels_of fs) W r c tour ≡ out

  -- nothing is known beside a record
  nothing_beside : (c : Context) (v : Node) → KnownBeside F [] c v
  nothing_beside c v k q e b d = absurd (true≢false d)

  -- a record, of which this is kept
  one_record : (n m : Node) (r : Option (List ℕ)) → is_record fs n ≡ true → Keeps F W path K test (group fs) [] record_row (picks F) 1 (inner n) (inner m) r
      → InstanceMade F W path K test fs l rs reads (levels_of fs) (group fs) [] record_row 1 (moves_in (shape_near_moves (group fs) (picks F)) (shape_far_moves (group fs) (picks F) 1) top (Some (inner n))) (inner m) r
  one_record n m r v keeps =
      instance_made F W path K test fs l rs reads (levels_of fs) (group fs) [] record_row (picks F) 1 top (inner n) (inner m) r (omega arith) (record_places fs F l) record_frame refl keeps v (λ i h g. refl)
      (shape_makes F W path K test fs l rs reads (levels_of fs) (group fs) [] record_row (picks F) 1 top (inner n) (inner m) r [] (omega arith) (record_places fs F l) record_frame keeps v (λ i h g. refl))

  record_left : (n m : Node) (r : Option (List ℕ)) → has_shapes fs m ≡ true
      → (i : InstanceMade F W path K test fs l rs reads (levels_of fs) (group fs) [] record_row 1 (moves_in (shape_near_moves (group fs) (picks F)) (shape_far_moves (group fs) (picks F) 1) top (Some (inner n))) (inner m) r) → (c : Context)
      → left_items rs (levels_of fs) 0 (after c i.tour) (makes rs (levels_of fs) W r c i.tour) ≡ built 0 (record_object (items_of rs) (levels_of fs) m) ∷ []
  record_left n m r h i c = ap (λ (o : Object). built 0 o ∷ []) (i.object c (nothing_beside c m) ∙ object_meant fs rs F reads (levels_of fs) m h)

  -- without a condition
  whole_record : (n : Node) → is_record fs n ≡ true → WalkMade None (record_moves fs F n) (built_of fs (items_of rs) (n ∷ []))
  whole_record n v =
      let i = one_record n n None v (inl (tt, refl)) in
      record {
        tour = inside 0 i.tour over;
        moves = ap (λ (ms : List Move). enter 0 ∷ (ms ++ leave 0 ∷ [])) i.moves;
        made = λ c. ap (λ (ms : List Made). ms ++ []) (record_left n n None (records_have_shapes fs n v) i c);
      }

  -- what is kept of a record, as a list
  abbrev kept_node : Option Node → List Node
  kept_node None = []
  kept_node (Some m) = m ∷ []

  module _ (s : StandsFor fs F W path K test) where
    on_chain : rest_below 0 (Some (0 ∷ W.chain)) ≡ Some (shape_numbers (group fs) 1 path)
    on_chain = ap (λ (b : Bool). if b then Some W.chain else None) (eq-eqb 0 0 refl) ∙ ap (λ (N : List ℕ). Some N) s.chain

    hits : (n : Node) → is_record fs n ≡ true → (c : Context) (T : Tour) → moves_of T ≡ moves_in (shape_near_moves (group fs) (picks F)) (shape_far_moves (group fs) (picks F) 1) top (Some (inner n))
        → some_true W c T ≡ is_some (keep_instance (kept_along (chain_end path)) (λ y. record_row (single y)) test (inner n))
    hits n v c T m =
        true_where_kept fs F l (group fs) [] record_row (picks F) (record_places fs F l) record_frame refl W K test path s.last s.together s.decides (selected_only F W.last path s.last) (leaf_selected fs F W.last path l s.last) 1 top (inner n) v c (inner n)
        (nothing_beside c n) T m

    -- what is made over a record, where it is kept or dropped
    abbrev record_made : Option (List ℕ) → Bool → Context → Tour → List Made
    record_made q b c B = (if is_dropped q b then [] else left_items rs (levels_of fs) 0 (after c B) (makes rs (levels_of fs) W q c B)) ++ []

    kept_record : (n : Node) → is_record fs n ≡ true → (o : Option Node) → kept_along (chain_end path) test n ≡ o → ((m : Node) → o ≡ Some m → has_shapes fs m ≡ true)
        → WalkMade (Some (0 ∷ W.chain)) (record_moves fs F n) (built_of fs (items_of rs) (kept_node o))
    kept_record n v None e h =
        let i = one_record n n None v (inl (tt, refl)) in
        record {
          tour = inside 0 i.tour over;
          moves = ap (λ (ms : List Move). enter 0 ∷ (ms ++ leave 0 ∷ [])) i.moves;
          made = λ c. ap₂ (λ (q : Option (List ℕ)) (b : Bool). record_made q b c i.tour) on_chain (hits n v c i.tour i.moves ∙ ap (λ (o : Option Node). is_some (option_map inner o)) e);
        }
    kept_record n v (Some m) e h =
        let i = one_record n m (Some (shape_numbers (group fs) 1 path)) v (inr (record {
          watched = record { last = s.last; together = s.together; decides = s.decides };
          rest = path;
          at = refl;
          only = selected_only F W.last path s.last;
          leads = leaf_selected fs F W.last path l s.last;
          numbers = refl;
          keeps = ap (option_map inner) e;
        })) in
        record {
          tour = inside 0 i.tour over;
          moves = ap (λ (ms : List Move). enter 0 ∷ (ms ++ leave 0 ∷ [])) i.moves;
          made = λ c. ap₂ (λ (q : Option (List ℕ)) (b : Bool). record_made q b c i.tour) on_chain (hits n v c i.tour i.moves ∙ ap (λ (o : Option Node). is_some (option_map inner o)) e)
              ∙ ap (λ (ms : List Made). ms ++ []) (record_left n m (Some (shape_numbers (group fs) 1 path)) (h m refl) i c);
        }

  -- ---- a walk

  built_more : (o : Option Node) (R : List Node) → built_of fs (items_of rs) (kept_node o) ++ built_of fs (items_of rs) R ≡ built_of fs (items_of rs) (cons_option o R)
  built_more None R = refl
  built_more (Some m) R = refl

  walk_made : (r : Option (List ℕ)) (f : Node → Option Node) → ((n : Node) → is_record fs n ≡ true → WalkMade r (record_moves fs F n) (built_of fs (items_of rs) (kept_node (f n)))) → (R : List Node) → list_all (is_record fs) R ≡ true
      → WalkMade r (walk fs F R) (built_of fs (items_of rs) (filter_map f R))
  unfolding walk
  walk_made r f each [] v = record { tour = over; moves = refl; made = λ c. refl }
  walk_made r f each (n ∷ R) v =
      let z : (is_record fs n ≡ true) × (list_all (is_record fs) R ≡ true) = and_parts (is_record fs n) (list_all (is_record fs) R) v in
      let a = each n z.0 in
      let b = walk_made r f each R z.1 in
      record {
        tour = joined a.tour b.tour;
        moves = joined_moves a.tour b.tour ∙ ap₂ (λ (x y : List Move). x ++ y) a.moves b.moves;
        made = λ c. joined_flow (seen_items rs) (left_items rs (levels_of fs)) W r c a.tour b.tour ∙ ap₂ (λ (x y : List Made). x ++ y) (a.made c) (b.made (after c a.tour)) ∙ built_more (f n) (filter_map f R);
      }

  -- whatever the tour of its moves
  any_tour : (r : Option (List ℕ)) (ms : List Move) (out : List Made) → WalkMade r ms out → (T : Tour) (c : Context) → moves_of T ≡ ms → makes rs (levels_of fs) W r c T ≡ out
  any_tour r ms out x T c m = ap (makes rs (levels_of fs) W r c) (one_tour T x.tour (m ∙ sym x.moves)) ∙ x.made c

all_left : (R : List Node) → filter_map (λ (n : Node). Some n) R ≡ R
all_left [] = refl
all_left (n ∷ R) = ap (λ (x : List Node). n ∷ x) (all_left R)

pub flow_makes_objects : FlowMakesObjects
flow_makes_objects fs q F rs reads w p K test s k R T c v m =
    any_tour fs F s.leaves rs reads w p K test (Some (0 ∷ w.chain)) (walk fs F R) (built_of fs (items_of rs) (filter_map (kept q.condition) R))
    (walk_made fs F s.leaves rs reads w p K test (Some (0 ∷ w.chain)) (kept q.condition)
    (λ n z. kept_record fs F s.leaves rs reads w p K test s n z (kept q.condition n) (sym (k n z)) (λ m e. kept_have_shapes fs q.condition n m e (records_have_shapes fs n z))) R v) T c m

pub whole_flow_makes_objects : WholeFlowMakesObjects
whole_flow_makes_objects fs F l rs reads R T c w v m =
    any_tour fs F l rs reads w [] [] (λ n. true) None (walk fs F R) (built_of fs (items_of rs) (filter_map (λ (n : Node). Some n) R))
    (walk_made fs F l rs reads w [] [] (λ n. true) None (λ n. Some n) (λ n z. whole_record fs F l rs reads w [] [] (λ n. true) n z) R v) T c m
    ∙ ap (built_of fs (items_of rs)) (all_left R)
