-- The objects of the instances below a node, by recursion on the schema: along the condition's chain those of what is kept, elsewhere all.
use Rattle.std.proofs.Common.{◌≡◌, ◌⊎◌, inl, inr, ℕ, zero, suc, ◌+◌, ◌<◌, ◌≤◌, List, [], ◌∷◌, ◌++◌, Bool, true, false, Option, None, Some, refl, sym, ap, ap₂, subst, ◌∙◌, append_assoc, append-nil, true≢false, arith}
use Rattle.std.specs.Prelude.{map, is_some, if◌then◌else◌}
use Rattle.std.specs.List.{list_all}
use Rattle.std.proofs.lemmas.Bool.{and_parts, eq-eqb, eqb-true, leb-true}
use Rattle.dr_meaning.specs.Schema.{Repetition, required, optional, repeated, Kind, Fields, no_fields, field, Shape, leaf, group, repetition_count, repeated_fields, shape_repeated_fields}
use Rattle.dr_meaning.specs.Path.{Step, chain_end, is_leaf_path, is_shape_path, same_repetition, max_repetition}
use Rattle.dr_meaning.specs.Record.{Node, no_slots, slot, gap, Instances, no_instances, instance, Instance, atom, inner, single, count_instances, fits_repetition, all_instances, is_record, is_instance, instances_at, put_at}
use Rattle.dr_meaning.specs.Kept.{with_kept, keep_each, if_some_kept, keep_below, keep_instance, kept_along}
use Rattle.dr_meaning.specs.Automaton.{Pick, first_picks, later_picks}
use Rattle.dr_meaning.specs.Query.{Object, Levels, no_levels, deeper, as_level, levels_in, shape_levels, leads_to_items, instances_of}
use Rattle.dr_meaning.specs.Walk.{Move, enter, leave, Depth, inside, begun_later, first_of, enclosed, later_moves, repeated_moves, by_repetition, where_selected, moves_in, far_moves, shape_near_moves, shape_far_moves}
use Rattle.dr_meaning.proofs.Blocks.{same_repetition-true, and₃_parts}
use Rattle.dr_meaning.proofs.ProjectionLemmas.{step}
use Rattle.dr_meaning.proofs.WalkLemmas.{Only, only_behind, only_beside, instance_moves}
use Rattle.dr_moves.specs.Context.{Context}
use Rattle.dr_moves.specs.Condition.{Watch, some_true, rest_below, is_dropped}
use Rattle.dr_moves.specs.Firing.{AllTogether}
use Rattle.dr_moves.specs.Tour.{Tour, over, inside as within_instance, moves_of, after}
use Rattle.dr_kept_laws.proofs.RowValues.{no_level, far_level}
use Rattle.dr_kept_laws.specs.ChainNumbers.{own_number, numbers_in, shape_numbers}
use Rattle.dr_kept_laws.proofs.ChainHeads.{head_before, head_behind, own_within, numbers_within, shape_numbers_within, apart_below}
use Rattle.dr_kept_laws.proofs.ChainNumberLemmas.{shape_levels as numbers_level, nothing_numbered}
use Rattle.dr_kept_laws.proofs.OffChain.{Off, same_off, no_leavings, instance_off, shape_far_off}
use Rattle.dr_kept_laws.proofs.Selections.{no_path}
use Rattle.dr_made_laws.specs.ObjectFlow.{Made, ReadItem, items_of, objects_for, left_items, level_count}
use Rattle.dr_made_laws.specs.ObjectFlowLaws.{AreRead}
use Rattle.dr_made_laws.proofs.LevelLemmas.{count_field, Numbered, numbered_first, numbered_second, numbered_here, numbered_below, AllFrom, field_from}
use Rattle.dr_made_laws.proofs.FlowLemmas.{AllWithin, wider_within, IsBare, bare_within, bare_tour, IsApart, makes, bare_objects}
use Rattle.dr_made_laws.proofs.MeantObjects.{meant_object}
use Rattle.dr_made_laws.proofs.PathLemmas.{field_level}
use Rattle.dr_made_laws.proofs.RowFrames.{Frame, NodeFrame, node_frame, next_frame, field_frame, listed, field_instances, absent_instances}
use Rattle.dr_made_laws.proofs.PlaceLemmas.{Places, FieldPlaces, group_places, first_places, later_places}
use Rattle.dr_made_laws.proofs.KnownValues.{Known, Quiet, quiet_first, quiet_second, known_within, known_beside, far_quiet}
use Rattle.dr_made_laws.proofs.InsideValues.{IsKept, kept_atom, kept_inner, is_kept, true_where_kept}
use Rattle.dr_made_laws.proofs.ObjectParts.{unread_agrees, absent_agrees, FarMade, both_made, ManyMade, none_made, more_made, left_object, Watched, Keeps, InstanceMade, instance_made}

-- the moves of one field
abbrev field_moves : Repetition → Shape → List Pick → ℕ → Depth → Instances → List Move
field_moves r h G k at xs = where_selected G (by_repetition r (repeated_moves k (instance_moves r h G k at) (instance_moves r h G k (begun_later at))) (λ x. shape_far_moves h G k (inside r at x) x) xs)

narrower_apart : (low high l h : ℕ) (r : Option (List ℕ)) → low ≤ l → h ≤ high → IsApart low high r → IsApart l h r
narrower_apart low high l h None a b x = tt
narrower_apart low high l h (Some []) a b x = tt
narrower_apart low high l h (Some (j ∷ N)) a b x = by_case x
  where
    by_case : (j < low) ⊎ (high ≤ j) → (j < l) ⊎ (h ≤ j)
    by_case (inl y) = inl (omega (arith, y, a))
    by_case (inr y) = inr (omega (arith, y, b))

-- what is kept of an instance, as a list
abbrev kept_one : Option Instance → List Instance
kept_one None = []
kept_one (Some z) = z ∷ []

listed_kept : (o : Option Instance) (zs : Instances) → listed (with_kept o zs) ≡ kept_one o ++ listed zs
listed_kept None zs = refl
listed_kept (Some z) zs = refl

map_append : {X Y : Type 0} (f : X → Y) (xs ys : List X) → map f (xs ++ ys) ≡ map f xs ++ map f ys
map_append f [] ys = refl
map_append f (x ∷ xs) ys = ap (λ z. f x ∷ z) (map_append f xs ys)

all_kept : (xs : Instances) → keep_each (λ y. Some y) xs ≡ xs
all_kept no_instances = refl
all_kept (instance x xs) = ap (instance x) (all_kept xs)

same_keep : (f g : Instance → Option Instance) → ((x : Instance) → f x ≡ g x) → (xs : Instances) → keep_each f xs ≡ keep_each g xs
same_keep f g h no_instances = refl
same_keep f g h (instance x xs) = ap₂ (λ (o : Option Instance) (ys : Instances). with_kept o ys) (h x) (same_keep f g h xs)

one_keep : (p : List Step) (at : Instances → Node) (whole : Node → Node) (test : Node → Bool) (x : Instance)
    → keep_instance (kept_along p) (λ y. at (single y)) (λ n. test (whole n)) x ≡ keep_instance (kept_along p) (λ y. whole (at (single y))) test x
one_keep p at whole test (atom v) = refl
one_keep p at whole test (inner n) = refl

-- what is kept along a later field
kept_later : (i : ℕ) (c : Repetition) (p : List Step) (t : Node → Bool) (xs : Instances) (n m : Node) → kept_along (step (suc i) c ∷ p) t (slot xs n) ≡ Some m
    → (k : Node) × (m ≡ slot xs k) × (kept_along (step i c ∷ p) (λ m. t (slot xs m)) n ≡ Some k)
kept_later i c p t xs n m e = by_slot (instances_at i n) e
  where
    by_test : (b : Bool) → (if b then Some (slot xs n) else None) ≡ Some m → (k : Node) × (m ≡ slot xs k) × ((if b then Some n else None) ≡ Some k)
    by_test true e = (n, cc, refl)
    by_test false e = absurd (cc)

    by_kept : (zs : Instances) → if_some_kept (λ ys. slot xs (put_at i ys n)) zs ≡ Some m → (k : Node) × (m ≡ slot xs k) × (if_some_kept (λ ys. put_at i ys n) zs ≡ Some k)
    by_kept no_instances e = absurd (cc)
    by_kept (instance z zs) e = (put_at i (instance z zs) n, cc, refl)

    by_slot : (ys : Instances) → keep_below t (λ ys. slot xs (put_at i ys n)) (keep_instance (kept_along p) (λ y. slot xs (put_at i (single y) n)) t) (slot xs n) ys ≡ Some m
        → (k : Node) × (m ≡ slot xs k) × (keep_below (λ m. t (slot xs m)) (λ ys. put_at i ys n) (keep_instance (kept_along p) (λ y. put_at i (single y) n) (λ m. t (slot xs m))) n ys ≡ Some k)
    by_slot no_instances e = by_test (t (slot xs n)) e
    by_slot (instance y ys) e =
        by_kept (keep_each (keep_instance (kept_along p) (λ y. put_at i (single y) n) (λ m. t (slot xs m))) (instance y ys))
        (ap (if_some_kept (λ ys. slot xs (put_at i ys n))) (same_keep (keep_instance (kept_along p) (λ y. put_at i (single y) n) (λ m. t (slot xs m))) (keep_instance (kept_along p) (λ y. slot xs (put_at i (single y) n)) t)
        (λ x. one_keep p (λ ys. put_at i ys n) (λ m. slot xs m) t x) (instance y ys)) ∙ e)

-- and along the first
kept_first : (c : Repetition) (p : List Step) (t : Node → Bool) (xs : Instances) (n m : Node) → kept_along (step 0 c ∷ p) t (slot xs n) ≡ Some m
    → (ys : Instances) × (m ≡ slot ys n) × (ys ≡ keep_each (keep_instance (kept_along p) (λ y. slot (single y) n) t) xs) × ((xs ≡ no_instances) ⊎ ((z : Instance) × (zs : Instances) × (ys ≡ instance z zs)))
kept_first c p t no_instances n m e = by_test (t (slot no_instances n)) e
  where
    by_test : (b : Bool) → (if b then Some (slot no_instances n) else None) ≡ Some m
        → (ys : Instances) × (m ≡ slot ys n) × (ys ≡ no_instances) × ((no_instances ≡ no_instances) ⊎ ((z : Instance) × (zs : Instances) × (ys ≡ instance z zs)))
    by_test true e = (no_instances, cc, refl, inl refl)
    by_test false e = absurd (cc)
kept_first c p t (instance x xs) n m e = by_kept (keep_each (keep_instance (kept_along p) (λ y. slot (single y) n) t) (instance x xs)) refl e
  where
    by_kept : (zs : Instances) → keep_each (keep_instance (kept_along p) (λ y. slot (single y) n) t) (instance x xs) ≡ zs → if_some_kept (λ ys. slot ys n) zs ≡ Some m
        → (ys : Instances) × (m ≡ slot ys n) × (ys ≡ keep_each (keep_instance (kept_along p) (λ y. slot (single y) n) t) (instance x xs)) × ((instance x xs ≡ no_instances) ⊎ ((z : Instance) × (zs : Instances) × (ys ≡ instance z zs)))
    by_kept no_instances h e = absurd (cc)
    by_kept (instance z zs) h e = (instance z zs, cc, sym h, inr (z, zs, refl))

-- what is kept of a node
kept_node : (p : List Step) (row : Instances → Node) (test : Node → Bool) (x z : Instance) → IsKept p row test x z → (n : Node) → x ≡ inner n → (m : Node) × (z ≡ inner m) × (kept_along p (λ m. test (row (single (inner m)))) n ≡ Some m)
kept_node p row test _ _ (kept_atom v e) n a = absurd (cc)
kept_node p row test _ _ (kept_inner o m e) n a =
    let b : o ≡ n = cc in
    (m, refl, ap (kept_along p (λ m. test (row (single (inner m))))) (sym b) ∙ e)

-- one instance alone in a field that isn't repeated
one_fits : (c : Repetition) → (c ≡ repeated → ⊥) → (x y : Instance) (xs : Instances) → fits_repetition c (count_instances (instance x (instance y xs))) ≡ true → ⊥
one_fits required n x y xs h = omega (arith, eqb-true (suc (suc (count_instances xs))) 1 h)
one_fits optional n x y xs h = omega (arith, leb-true (suc (suc (count_instances xs))) 1 h)
one_fits repeated n x y xs h = n refl

module _ (F : List (List Step)) (W : Watch) (path : List Step) (K : List ℕ) (test : Node → Bool) (fs : Fields) (l : list_all (is_leaf_path fs) F ≡ true) (rs : List ReadItem) (reads : AreRead fs F rs) (levels : Levels) where
  -- the fields of a node from place j on, on the condition's chain
  record FieldsOnChain (inner_fields : Fields) (pre : List Step) (j : ℕ) (whole : Node → Node) (G : List Pick) (k : ℕ) (n m : Node) (r : Option (List ℕ)) : Type 0 where
    pub watched : Watched F W path K test
    pub place : ℕ
    pub repetition : Repetition
    pub rest : List Step
    pub at : path ≡ pre ++ step (j + place) repetition ∷ rest
    pub only : Only W.last (step place repetition ∷ rest) G
    pub leads : is_leaf_path inner_fields (step place repetition ∷ rest) ≡ true
    pub numbers : r ≡ Some (numbers_in inner_fields k (step place repetition ∷ rest))
    pub keeps : kept_along (step place repetition ∷ chain_end rest) (λ n. test (whole n)) n ≡ Some m

  abbrev FieldsKeep : Fields → List Step → ℕ → (Node → Node) → List Pick → ℕ → Node → Node → Option (List ℕ) → Type 0
  FieldsKeep inner_fields pre j whole G k n m r = (IsApart k (k + repeated_fields inner_fields) r × (n ≡ m)) ⊎ FieldsOnChain inner_fields pre j whole G k n m r

  -- one field
  record OneOnChain (c : Repetition) (h : Shape) (pre : List Step) (row : Instances → Node) (G : List Pick) (k : ℕ) (xs ys : Instances) (r : Option (List ℕ)) : Type 0 where
    pub watched : Watched F W path K test
    pub rest : List Step
    pub at : path ≡ pre ++ rest
    pub only : Only W.last rest G
    pub leads : is_shape_path h rest ≡ true
    pub numbers : r ≡ Some (own_number c k (λ j. shape_numbers h j rest))
    pub keeps : ys ≡ keep_each (keep_instance (kept_along (chain_end rest)) (λ y. row (single y)) test) xs
    pub some : (xs ≡ no_instances) ⊎ ((z : Instance) × (zs : Instances) × (ys ≡ instance z zs))

  abbrev OneKeeps : Repetition → Shape → List Step → (Instances → Node) → List Pick → ℕ → Instances → Instances → Option (List ℕ) → Type 0
  OneKeeps c h pre row G k xs ys r = (IsApart k (k + (repetition_count c + shape_repeated_fields h)) r × (xs ≡ ys)) ⊎ OneOnChain c h pre row G k xs ys r

  -- ---- what is shown

  abbrev ShapeMakes : Shape → Type 0
  ShapeMakes h = (pre : List Step) (row : Instances → Node) (G : List Pick) (k : ℕ) (at : Depth) (x z : Instance) (r : Option (List ℕ)) (ns : List (List ℕ)) → 0 < k → Places F h pre row G → Frame pre row → Keeps F W path K test h pre row G k x z r
      → is_instance h x ≡ true → Numbered levels k (shape_levels h ns pre) → FarMade F rs levels W r pre (shape_far_moves h G k at (Some x)) k (k + shape_repeated_fields h) (shape_levels h ns pre) (row (single z))

  abbrev FieldsMake : Fields → Type 0
  FieldsMake inner_fields = (pre : List Step) (j : ℕ) (whole : Node → Node) (G : List Pick) (k : ℕ) (at : Depth) (n m : Node) (r : Option (List ℕ)) (ns : List (List ℕ)) → 0 < k → FieldPlaces F inner_fields pre j whole G → NodeFrame pre j whole
      → FieldsKeep inner_fields pre j whole G k n m r → is_record inner_fields n ≡ true → Numbered levels k (levels_in inner_fields j ns pre) → Quiet F pre (far_moves inner_fields G k at n)
      → FarMade F rs levels W r pre (far_moves inner_fields G k at n) k (k + repeated_fields inner_fields) (levels_in inner_fields j ns pre) (whole m)

  -- ---- without branches

  bare_made : (r : Option (List ℕ)) (pre q : List Step) (ms : List Move) (k high : ℕ) (ls : Levels) (v : Node) → Off k high ms [] → AllFrom q ls → ((p : List Step) → instances_of (q ++ p) v ≡ []) → FarMade F rs levels W r pre ms k high ls v
  bare_made r pre q ms k high ls v x f n =
      let b : IsBare x.tour = bare_tour W None (λ i. None) x.tour (x.told W (λ i. None)) in
      record { tour = x.tour; moves = x.moves; branches = bare_within k high x.tour b; agrees = λ c kn. absent_agrees rs q k ls f (makes rs levels W r c x.tour) v (λ i. bare_objects rs levels W i x.tour b r c) n }

  -- ---- one instance of a repeated field

  module _ (h : Shape) (makes_shape : ShapeMakes h) (pre : List Step) (j : ℕ) (row : Instances → Node) (G : List Pick) (k : ℕ) (r : Option (List ℕ)) (names : List (List ℕ)) (first : 0 < k) (f : Places F h (pre ++ step j repeated ∷ []) row G)
      (w : Frame (pre ++ step j repeated ∷ []) row) (numbered : Numbered levels k (deeper names (pre ++ step j repeated ∷ []) (shape_levels h [] (pre ++ step j repeated ∷ [])) no_levels)) (ys : Instances) where
    -- its moves, with its object
    one_instance : (d : Depth) (x z : Instance) (q : Option (List ℕ)) → Keeps F W path K test h (pre ++ step j repeated ∷ []) row G (suc k) x z q → is_instance h x ≡ true
        → InstanceMade F W path K test fs l rs reads levels h (pre ++ step j repeated ∷ []) row (suc k) (moves_in (shape_near_moves h G) (shape_far_moves h G (suc k)) d (Some x)) z q
    one_instance d x z q keeps v =
        let nb : Numbered levels (suc k) (shape_levels h [] (pre ++ step j repeated ∷ [])) = numbered_below levels k names (pre ++ step j repeated ∷ []) (shape_levels h [] (pre ++ step j repeated ∷ [])) no_levels numbered in
        instance_made F W path K test fs l rs reads levels h (pre ++ step j repeated ∷ []) row G (suc k) d x z q (omega arith) f w (field_level pre j) keeps v nb
        (makes_shape (pre ++ step j repeated ∷ []) row G (suc k) d x z q [] (omega arith) f w keeps v nb)

    -- the object that it is left with
    one_object : (d : Depth) (x z : Instance) (q : Option (List ℕ)) (v : InstanceMade F W path K test fs l rs reads levels h (pre ++ step j repeated ∷ []) row (suc k) (moves_in (shape_near_moves h G) (shape_far_moves h G (suc k)) d (Some x)) z q)
        → (c : Context) → Known F pre c (row ys) → leads_to_items (items_of rs) (pre ++ step j repeated ∷ []) ≡ true
        → objects_for k (left_items rs levels k (after c v.tour) (makes rs levels W q c v.tour)) ≡ meant_object rs (pre ++ step j repeated ∷ []) (shape_levels h [] (pre ++ step j repeated ∷ [])) (row (single z)) ∷ []
    one_object d x z q v c kn e =
        left_object F rs levels W k first (record { path = pre ++ step j repeated ∷ []; below = shape_levels h [] (pre ++ step j repeated ∷ []) })
        (numbered_here levels k names (pre ++ step j repeated ∷ []) (shape_levels h [] (pre ++ step j repeated ∷ [])) no_levels numbered) e (after c v.tour) (makes rs levels W q c v.tour)
        ∙ ap (λ (o : Object). o ∷ []) (v.object c (known_beside F h pre (step j repeated) row G f c ys (single z) kn))

    within_one : (B : Tour) → AllWithin (suc k) (suc k + shape_repeated_fields h) B → AllWithin k (k + (1 + shape_repeated_fields h)) (within_instance k B over)
    within_one B b = (omega arith, omega arith, wider_within (suc k) (suc k + shape_repeated_fields h) (suc k) (k + (1 + shape_repeated_fields h)) (omega arith) (omega arith) B b, tt)

    -- what is made of it, where it is kept or dropped
    abbrev one_made : Option (List ℕ) → Context → Tour → List Made
    one_made q c B = (if is_dropped q (some_true W c B) then [] else left_items rs levels k (after c B) (makes rs levels W q c B)) ++ []

    one_off : IsApart k (k + (1 + shape_repeated_fields h)) r → (d : Depth) (x : Instance) → is_instance h x ≡ true
        → ManyMade F rs levels W r pre (enclosed k (moves_in (shape_near_moves h G) (shape_far_moves h G (suc k)) d (Some x))) k (k + (1 + shape_repeated_fields h)) (pre ++ step j repeated ∷ []) (shape_levels h [] (pre ++ step j repeated ∷ []))
        (map (λ (y : Instance). row (single y)) (x ∷ [])) (row ys)
    one_off a d x v =
        let i = one_instance d x x None (inl (tt, refl)) v in
        record {
          tour = within_instance k i.tour over;
          moves = ap (λ (ms : List Move). enter k ∷ (ms ++ leave k ∷ [])) i.moves;
          branches = within_one i.tour i.branches;
          objects = λ c kn e.
              ap (λ (q : Option (List ℕ)). objects_for k (one_made q c i.tour)) (off_chain r a)
              ∙ ap (objects_for k) (append-nil (left_items rs levels k (after c i.tour) (makes rs levels W None c i.tour)))
              ∙ one_object d x x None i c kn e;
        }
      where
        off_chain : (r : Option (List ℕ)) → IsApart k (k + (1 + shape_repeated_fields h)) r → rest_below k r ≡ None
        off_chain None a = refl
        off_chain (Some N) a = apart_below k (k + (1 + shape_repeated_fields h)) k (omega arith) (omega arith) N a

    one_on : (u : Watched F W path K test) (q : List Step) → path ≡ (pre ++ step j repeated ∷ []) ++ q → Only W.last q G → is_shape_path h q ≡ true → r ≡ Some (k ∷ shape_numbers h (suc k) q) → (d : Depth) (x : Instance) → is_instance h x ≡ true
        → (o : Option Instance) → keep_instance (kept_along (chain_end q)) (λ y. row (single y)) test x ≡ o
        → ManyMade F rs levels W r pre (enclosed k (moves_in (shape_near_moves h G) (shape_far_moves h G (suc k)) d (Some x))) k (k + (1 + shape_repeated_fields h)) (pre ++ step j repeated ∷ []) (shape_levels h [] (pre ++ step j repeated ∷ []))
        (map (λ (y : Instance). row (single y)) (kept_one o)) (row ys)
    one_on u q p only leads numbers d x v None e =
        let i = one_instance d x x None (inl (tt, refl)) v in
        record {
          tour = within_instance k i.tour over;
          moves = ap (λ (ms : List Move). enter k ∷ (ms ++ leave k ∷ [])) i.moves;
          branches = within_one i.tour i.branches;
          objects = λ c kn g. ap₂ (λ (z : Option (List ℕ)) (b : Bool). objects_for k ((if is_dropped z b then [] else left_items rs levels k (after c i.tour) (makes rs levels W z c i.tour)) ++ [])) (on_chain numbers) (hits c i.tour i.moves kn ∙ ap is_some e);
        }
      where
        on_chain : {N : List ℕ} → r ≡ Some (k ∷ N) → rest_below k r ≡ Some N
        on_chain {N} a = ap (rest_below k) a ∙ ap (λ (b : Bool). if b then Some N else None) (eq-eqb k k refl)

        hits : (c : Context) (T : Tour) → moves_of T ≡ moves_in (shape_near_moves h G) (shape_far_moves h G (suc k)) d (Some x) → Known F pre c (row ys) → some_true W c T ≡ is_some (keep_instance (kept_along (chain_end q)) (λ y. row (single y)) test x)
        hits c T m kn =
            true_where_kept fs F l h (pre ++ step j repeated ∷ []) row G f w (field_level pre j) W K test q (u.last ∙ ap (λ (s : List Step). Some s) p) (subst (λ (s : List Step). AllTogether F W.last s K) p u.together) u.decides only leads (suc k) d x v c x
            (known_beside F h pre (step j repeated) row G f c ys (single x) kn) T m
    one_on u q p only leads numbers d x v (Some z) e =
        let i = one_instance d x z (Some (shape_numbers h (suc k) q)) (inr (record { watched = u; rest = q; at = p; only = only; leads = leads; numbers = refl; keeps = e })) v in
        record {
          tour = within_instance k i.tour over;
          moves = ap (λ (ms : List Move). enter k ∷ (ms ++ leave k ∷ [])) i.moves;
          branches = within_one i.tour i.branches;
          objects = λ c kn g.
              ap₂ (λ (z : Option (List ℕ)) (b : Bool). objects_for k ((if is_dropped z b then [] else left_items rs levels k (after c i.tour) (makes rs levels W z c i.tour)) ++ [])) (on_chain numbers) (hits c i.tour i.moves kn ∙ ap is_some e)
              ∙ ap (objects_for k) (append-nil (left_items rs levels k (after c i.tour) (makes rs levels W (Some (shape_numbers h (suc k) q)) c i.tour)))
              ∙ one_object d x z (Some (shape_numbers h (suc k) q)) i c kn g;
        }
      where
        on_chain : {N : List ℕ} → r ≡ Some (k ∷ N) → rest_below k r ≡ Some N
        on_chain {N} a = ap (rest_below k) a ∙ ap (λ (b : Bool). if b then Some N else None) (eq-eqb k k refl)

        hits : (c : Context) (T : Tour) → moves_of T ≡ moves_in (shape_near_moves h G) (shape_far_moves h G (suc k)) d (Some x) → Known F pre c (row ys) → some_true W c T ≡ is_some (keep_instance (kept_along (chain_end q)) (λ y. row (single y)) test x)
        hits c T m kn =
            true_where_kept fs F l h (pre ++ step j repeated ∷ []) row G f w (field_level pre j) W K test q (u.last ∙ ap (λ (s : List Step). Some s) p) (subst (λ (s : List Step). AllTogether F W.last s K) p u.together) u.decides only leads (suc k) d x v c x
            (known_beside F h pre (step j repeated) row G f c ys (single x) kn) T m

    -- ---- all of them

    abbrev Each : (Instance → Option Instance) → Type 0
    Each keep = (d : Depth) (x : Instance) → is_instance h x ≡ true
        → ManyMade F rs levels W r pre (enclosed k (moves_in (shape_near_moves h G) (shape_far_moves h G (suc k)) d (Some x))) k (k + (1 + shape_repeated_fields h)) (pre ++ step j repeated ∷ []) (shape_levels h [] (pre ++ step j repeated ∷ []))
        (map (λ (y : Instance). row (single y)) (kept_one (keep x))) (row ys)

    many_rows : (o : Option Instance) (zs : Instances) → map (λ (y : Instance). row (single y)) (kept_one o) ++ map (λ (y : Instance). row (single y)) (listed zs) ≡ map (λ (y : Instance). row (single y)) (listed (with_kept o zs))
    many_rows o zs = sym (map_append (λ (y : Instance). row (single y)) (kept_one o) (listed zs)) ∙ ap (map (λ (y : Instance). row (single y))) (sym (listed_kept o zs))

    later_made : (keep : Instance → Option Instance) → Each keep → (at : Depth) (xs : Instances) → all_instances (is_instance h) xs ≡ true → Quiet F pre (later_moves k (instance_moves repeated h G k (begun_later at)) xs)
        → ManyMade F rs levels W r pre (later_moves k (instance_moves repeated h G k (begun_later at)) xs) k (k + (1 + shape_repeated_fields h)) (pre ++ step j repeated ∷ []) (shape_levels h [] (pre ++ step j repeated ∷ []))
        (map (λ (y : Instance). row (single y)) (listed (keep_each keep xs))) (row ys)
    later_made keep each at no_instances v s = none_made F rs levels W r pre k (k + (1 + shape_repeated_fields h)) (pre ++ step j repeated ∷ []) (shape_levels h [] (pre ++ step j repeated ∷ [])) (row ys)
    later_made keep each at (instance x xs) v s =
        let a : (is_instance h x ≡ true) × (all_instances (is_instance h) xs ≡ true) = and_parts (is_instance h x) (all_instances (is_instance h) xs) v in
        subst (λ (N : List Node). ManyMade F rs levels W r pre (later_moves k (instance_moves repeated h G k (begun_later at)) (instance x xs)) k (k + (1 + shape_repeated_fields h)) (pre ++ step j repeated ∷ []) (shape_levels h [] (pre ++ step j repeated ∷ [])) N (row ys))
        (many_rows (keep x) (keep_each keep xs))
        (more_made F rs levels W r pre (enclosed k (instance_moves repeated h G k (begun_later at) (Some x))) (later_moves k (instance_moves repeated h G k (begun_later at)) xs) k (k + (1 + shape_repeated_fields h)) (pre ++ step j repeated ∷ [])
        (shape_levels h [] (pre ++ step j repeated ∷ [])) (map (λ (y : Instance). row (single y)) (kept_one (keep x))) (map (λ (y : Instance). row (single y)) (listed (keep_each keep xs))) (row ys) s
        (each (inside repeated (begun_later at) (Some x)) x a.0)
        (later_made keep each at xs a.1 (quiet_second F pre (enclosed k (instance_moves repeated h G k (begun_later at) (Some x))) (later_moves k (instance_moves repeated h G k (begun_later at)) xs) s)))

    pub many_made : (keep : Instance → Option Instance) → Each keep → (at : Depth) (x : Instance) (xs : Instances) → all_instances (is_instance h) (instance x xs) ≡ true → Quiet F pre (repeated_moves k (instance_moves repeated h G k at) (instance_moves repeated h G k (begun_later at)) (instance x xs))
        → ManyMade F rs levels W r pre (repeated_moves k (instance_moves repeated h G k at) (instance_moves repeated h G k (begun_later at)) (instance x xs)) k (k + (1 + shape_repeated_fields h)) (pre ++ step j repeated ∷ []) (shape_levels h [] (pre ++ step j repeated ∷ []))
        (map (λ (y : Instance). row (single y)) (listed (keep_each keep (instance x xs)))) (row ys)
    many_made keep each at x xs v s =
        let a : (is_instance h x ≡ true) × (all_instances (is_instance h) xs ≡ true) = and_parts (is_instance h x) (all_instances (is_instance h) xs) v in
        subst (λ (N : List Node). ManyMade F rs levels W r pre (repeated_moves k (instance_moves repeated h G k at) (instance_moves repeated h G k (begun_later at)) (instance x xs)) k (k + (1 + shape_repeated_fields h)) (pre ++ step j repeated ∷ []) (shape_levels h [] (pre ++ step j repeated ∷ [])) N (row ys))
        (many_rows (keep x) (keep_each keep xs))
        (more_made F rs levels W r pre (enclosed k (instance_moves repeated h G k at (Some x))) (later_moves k (instance_moves repeated h G k (begun_later at)) xs) k (k + (1 + shape_repeated_fields h)) (pre ++ step j repeated ∷ [])
        (shape_levels h [] (pre ++ step j repeated ∷ [])) (map (λ (y : Instance). row (single y)) (kept_one (keep x))) (map (λ (y : Instance). row (single y)) (listed (keep_each keep xs))) (row ys) s
        (each (inside repeated at (Some x)) x a.0)
        (later_made keep each at xs a.1 (quiet_second F pre (enclosed k (instance_moves repeated h G k at (Some x))) (later_moves k (instance_moves repeated h G k (begun_later at)) xs) s)))

  -- ---- one field

  -- with none of its leaves selected
  unread_field : (c : Repetition) (h : Shape) (pre : List Step) (t : Step) (row : Instances → Node) (k high : ℕ) (r : Option (List ℕ)) (ls : Levels) (v : Node) → Places F h (pre ++ t ∷ []) row [] → AllFrom (pre ++ t ∷ []) ls → FarMade F rs levels W r pre [] k high ls v
  unread_field c h pre t row k high r ls v f g = record { tour = over; moves = refl; branches = tt; agrees = λ c kn. unread_agrees fs F rs reads h (pre ++ t ∷ []) row (not_empty pre) f k ls g [] v }
    where
      not_empty : (pre : List Step) → pre ++ t ∷ [] ≡ [] → ⊥
      not_empty [] e = cc
      not_empty (s ∷ pre) e = cc

  -- that isn't repeated, with its one instance
  single_field : (c : Repetition) (h : Shape) → ShapeMakes h → chain_end (step 0 c ∷ []) ≡ [] → (pre : List Step) (j : ℕ) (row : Instances → Node) (G : List Pick) (k : ℕ) (at : Depth) (x z : Instance) (r : Option (List ℕ)) (ns : List (List ℕ)) → 0 < k
      → Places F h (pre ++ step j c ∷ []) row G → Frame (pre ++ step j c ∷ []) row → Keeps F W path K test h (pre ++ step j c ∷ []) row G k x z r → is_instance h x ≡ true → Numbered levels k (shape_levels h ns (pre ++ step j c ∷ []))
      → (high : ℕ) → high ≡ k + shape_repeated_fields h → FarMade F rs levels W r pre (shape_far_moves h G k at (Some x)) k high (shape_levels h ns (pre ++ step j c ∷ [])) (row (single z))
  single_field c h makes_shape e pre j row G k at x z r ns first f w keeps v numbered high g =
      let i = makes_shape (pre ++ step j c ∷ []) row G k at x z r ns first f w keeps v numbered in
      record {
        tour = i.tour;
        moves = i.moves;
        branches = subst (λ (n : ℕ). AllWithin k n i.tour) (sym g) i.branches;
        agrees = λ d kn. i.agrees d (known_within F h pre (step j c) row G f (here c e) d (row (single z)) kn);
      }
    where
      here : (c : Repetition) → chain_end (step 0 c ∷ []) ≡ [] → chain_end (step j c ∷ []) ≡ []
      here required e = refl
      here optional e = refl
      here repeated e = absurd (cc)

  module _ (m : List ℕ) (h : Shape) (makes_shape : ShapeMakes h) (pre : List Step) (j : ℕ) (row : Instances → Node) (k : ℕ) (at : Depth) (r : Option (List ℕ)) (ns : List (List ℕ)) (first : 0 < k) where
    abbrev levels_at : Repetition → Levels
    levels_at c = as_level c (ns ++ m ∷ []) (pre ++ step j c ∷ []) (shape_levels h [] (pre ++ step j c ∷ [])) (shape_levels h (ns ++ m ∷ []) (pre ++ step j c ∷ []))

    -- where it is absent
    absent_far : (c : Repetition) (G : List Pick) (d : Depth) (high : ℕ) → high ≡ k + shape_repeated_fields h → ((q : List Step) → instances_of ((pre ++ step j c ∷ []) ++ q) (row no_instances) ≡ [])
        → FarMade F rs levels W r pre (shape_far_moves h G k d None) k high (levels_at c) (row no_instances)
    absent_far c G d high g n =
        bare_made r pre (pre ++ step j c ∷ []) (shape_far_moves h G k d None) k high (levels_at c) (row no_instances)
        (subst (λ (b : ℕ). Off k b (shape_far_moves h G k d None) []) (sym g) (same_off k (k + shape_repeated_fields h) (shape_far_moves h G k d None) _ [] (no_leavings h G k _) (shape_far_off h G k d None)))
        (field_from m c h ns (pre ++ step j c ∷ [])) n

    absent_many : (G : List Pick) (d : Depth) → ((q : List Step) → instances_of ((pre ++ step j repeated ∷ []) ++ q) (row no_instances) ≡ [])
        → FarMade F rs levels W r pre (moves_in (shape_near_moves h G) (shape_far_moves h G (suc k)) d None) k (k + (1 + shape_repeated_fields h)) (levels_at repeated) (row no_instances)
    absent_many G d n =
        bare_made r pre (pre ++ step j repeated ∷ []) (moves_in (shape_near_moves h G) (shape_far_moves h G (suc k)) d None) k (k + (1 + shape_repeated_fields h)) (levels_at repeated) (row no_instances)
        (same_off k (k + (1 + shape_repeated_fields h)) (moves_in (shape_near_moves h G) (shape_far_moves h G (suc k)) d None) _ [] (no_leavings h G (suc k) _)
        (instance_off k (k + (1 + shape_repeated_fields h)) h G (λ k at x. shape_far_off h G k at x) (suc k) d None (omega arith) (omega arith)))
        (field_from m repeated h ns (pre ++ step j repeated ∷ [])) n

    -- the instance of a field that isn't repeated is kept
    one_kept : (q : List Step) (x : Instance) (ys : Instances) → ys ≡ keep_each (keep_instance (kept_along (chain_end q)) (λ y. row (single y)) test) (single x) → ((single x ≡ no_instances) ⊎ ((z : Instance) × (zs : Instances) × (ys ≡ instance z zs)))
        → (z : Instance) × (ys ≡ single z) × (keep_instance (kept_along (chain_end q)) (λ y. row (single y)) test x ≡ Some z)
    one_kept q x ys e s = by_kept (keep_instance (kept_along (chain_end q)) (λ y. row (single y)) test x) refl e s
      where
        by_kept : (o : Option Instance) → keep_instance (kept_along (chain_end q)) (λ y. row (single y)) test x ≡ o → ys ≡ with_kept o no_instances → ((single x ≡ no_instances) ⊎ ((z : Instance) × (zs : Instances) × (ys ≡ instance z zs)))
            → (z : Instance) × (ys ≡ single z) × (keep_instance (kept_along (chain_end q)) (λ y. row (single y)) test x ≡ Some z)
        by_kept (Some z) k e s = (z, e, k)
        by_kept None k e (inl s) = absurd (cc)
        by_kept None k e (inr s) = let d : ys ≡ instance s.0 s.1 = s.2 in absurd (cc)

    -- none of a field is kept, where it has none
    none_left : (c : Repetition) (G : List Pick) (ys : Instances) → OneKeeps c h (pre ++ step j c ∷ []) row G k no_instances ys r → ys ≡ no_instances
    none_left c G ys (inl a) = sym a.1
    none_left c G ys (inr a) = a.keeps

    plain_field : (c : Repetition) → chain_end (step 0 c ∷ []) ≡ [] → repetition_count c ≡ 0 → (c ≡ repeated → ⊥) → ((N : ℕ → List ℕ) → own_number c k N ≡ N k) → levels_at c ≡ shape_levels h (ns ++ m ∷ []) (pre ++ step j c ∷ []) → (G : List Pick) (xs ys : Instances)
        → Places F h (pre ++ step j c ∷ []) row G → Frame (pre ++ step j c ∷ []) row → OneKeeps c h (pre ++ step j c ∷ []) row G k xs ys r → fits_repetition c (count_instances xs) ≡ true → all_instances (is_instance h) xs ≡ true
        → Numbered levels k (levels_at c) → ((q : List Step) → instances_of ((pre ++ step j c ∷ []) ++ q) (row no_instances) ≡ [])
        → FarMade F rs levels W r pre (shape_far_moves h G k (inside c at (first_of xs)) (first_of xs)) k (k + (repetition_count c + shape_repeated_fields h)) (levels_at c) (row ys)
    plain_field c e o n num lv G no_instances ys f w keeps fits all numbered absent =
        subst (λ (zs : Instances). FarMade F rs levels W r pre (shape_far_moves h G k (inside c at None) None) k (k + (repetition_count c + shape_repeated_fields h)) (levels_at c) (row zs)) (sym (none_left c G ys keeps))
        (absent_far c G (inside c at None) (k + (repetition_count c + shape_repeated_fields h)) (omega (arith, o)) absent)
    plain_field c e o n num lv G (instance x (instance y xs)) ys f w keeps fits all numbered absent = absurd (one_fits c n x y xs fits)
    plain_field c e o n num lv G (instance x no_instances) ys f w keeps fits all numbered absent = by_keeps keeps
      where
        made : (z : Instance) → Keeps F W path K test h (pre ++ step j c ∷ []) row G k x z r
            → FarMade F rs levels W r pre (shape_far_moves h G k (inside c at (Some x)) (Some x)) k (k + (repetition_count c + shape_repeated_fields h)) (levels_at c) (row (single z))
        made z kp =
            subst (λ (ls : Levels). FarMade F rs levels W r pre (shape_far_moves h G k (inside c at (Some x)) (Some x)) k (k + (repetition_count c + shape_repeated_fields h)) ls (row (single z))) (sym lv)
            (single_field c h makes_shape e pre j row G k (inside c at (Some x)) x z r (ns ++ m ∷ []) first f w kp (and_parts (is_instance h x) true all).0 (subst (Numbered levels k) lv numbered)
            (k + (repetition_count c + shape_repeated_fields h)) (omega (arith, o)))

        by_keeps : OneKeeps c h (pre ++ step j c ∷ []) row G k (single x) ys r
            → FarMade F rs levels W r pre (shape_far_moves h G k (inside c at (Some x)) (Some x)) k (k + (repetition_count c + shape_repeated_fields h)) (levels_at c) (row ys)
        by_keeps (inl a) =
            subst (λ (zs : Instances). FarMade F rs levels W r pre (shape_far_moves h G k (inside c at (Some x)) (Some x)) k (k + (repetition_count c + shape_repeated_fields h)) (levels_at c) (row zs)) a.1
            (made x (inl (narrower_apart k (k + (repetition_count c + shape_repeated_fields h)) k (k + shape_repeated_fields h) r (omega arith) (omega arith) a.0, refl)))
        by_keeps (inr a) =
            let z = one_kept a.rest x ys a.keeps a.some in
            subst (λ (zs : Instances). FarMade F rs levels W r pre (shape_far_moves h G k (inside c at (Some x)) (Some x)) k (k + (repetition_count c + shape_repeated_fields h)) (levels_at c) (row zs)) (sym z.1)
            (made z.0 (inr (record { watched = a.watched; rest = a.rest; at = a.at; only = a.only; leads = a.leads; numbers = a.numbers ∙ ap (λ (N : List ℕ). Some N) (num (λ j. shape_numbers h j a.rest)); keeps = z.2 })))

    repeated_field : (G : List Pick) (xs ys : Instances) → Places F h (pre ++ step j repeated ∷ []) row G → Frame (pre ++ step j repeated ∷ []) row → OneKeeps repeated h (pre ++ step j repeated ∷ []) row G k xs ys r → all_instances (is_instance h) xs ≡ true
        → Numbered levels k (levels_at repeated) → ((q : List Step) → instances_of ((pre ++ step j repeated ∷ []) ++ q) (row no_instances) ≡ [])
        → ((zs : Instances) → instances_of (pre ++ step j repeated ∷ []) (row zs) ≡ map (λ (y : Instance). row (single y)) (listed zs))
        → Quiet F pre (repeated_moves k (instance_moves repeated h G k at) (instance_moves repeated h G k (begun_later at)) xs)
        → FarMade F rs levels W r pre (repeated_moves k (instance_moves repeated h G k at) (instance_moves repeated h G k (begun_later at)) xs) k (k + (1 + shape_repeated_fields h)) (levels_at repeated) (row ys)
    repeated_field G no_instances ys f w keeps all numbered absent there s =
        subst (λ (zs : Instances). FarMade F rs levels W r pre (instance_moves repeated h G k at None) k (k + (1 + shape_repeated_fields h)) (levels_at repeated) (row zs)) (sym (none_left repeated G ys keeps))
        (absent_many G (inside repeated at None) absent)
    repeated_field G (instance x xs) ys f w keeps all numbered absent there s = by_keeps keeps
      where
        listing : (zs : Instances) → ys ≡ zs
            → ManyMade F rs levels W r pre (repeated_moves k (instance_moves repeated h G k at) (instance_moves repeated h G k (begun_later at)) (instance x xs)) k (k + (1 + shape_repeated_fields h)) (pre ++ step j repeated ∷ []) (shape_levels h [] (pre ++ step j repeated ∷ []))
            (map (λ (y : Instance). row (single y)) (listed zs)) (row ys)
            → FarMade F rs levels W r pre (repeated_moves k (instance_moves repeated h G k at) (instance_moves repeated h G k (begun_later at)) (instance x xs)) k (k + (1 + shape_repeated_fields h)) (levels_at repeated) (row ys)
        listing zs e i = record {
          tour = i.tour;
          moves = i.moves;
          branches = i.branches;
          agrees = λ c kn. (
            (λ d. i.objects c kn d ∙ ap (map (λ r. meant_object rs (pre ++ step j repeated ∷ []) (shape_levels h [] (pre ++ step j repeated ∷ [])) r))
                (ap (λ (us : Instances). map (λ (y : Instance). row (single y)) (listed us)) (sym e) ∙ sym (there ys))),
            tt,
          );
        }

        by_keeps : OneKeeps repeated h (pre ++ step j repeated ∷ []) row G k (instance x xs) ys r
            → FarMade F rs levels W r pre (repeated_moves k (instance_moves repeated h G k at) (instance_moves repeated h G k (begun_later at)) (instance x xs)) k (k + (1 + shape_repeated_fields h)) (levels_at repeated) (row ys)
        by_keeps (inl a) =
            listing (keep_each (λ y. Some y) (instance x xs)) (sym a.1 ∙ sym (all_kept (instance x xs)))
            (many_made h makes_shape pre j row G k r (ns ++ m ∷ []) first f w numbered ys (λ y. Some y) (λ d y v. one_off h makes_shape pre j row G k r (ns ++ m ∷ []) first f w numbered ys a.0 d y v) at x xs all s)
        by_keeps (inr a) =
            listing (keep_each (keep_instance (kept_along (chain_end a.rest)) (λ y. row (single y)) test) (instance x xs)) a.keeps
            (many_made h makes_shape pre j row G k r (ns ++ m ∷ []) first f w numbered ys (keep_instance (kept_along (chain_end a.rest)) (λ y. row (single y)) test)
            (λ d y v. one_on h makes_shape pre j row G k r (ns ++ m ∷ []) first f w numbered ys a.watched a.rest a.at a.only a.leads a.numbers d y v (keep_instance (kept_along (chain_end a.rest)) (λ y. row (single y)) test y) refl) at x xs all s)

    -- any field
    one_field : (c : Repetition) (G : List Pick) (xs ys : Instances) → Places F h (pre ++ step j c ∷ []) row G → Frame (pre ++ step j c ∷ []) row → OneKeeps c h (pre ++ step j c ∷ []) row G k xs ys r
        → fits_repetition c (count_instances xs) ≡ true → all_instances (is_instance h) xs ≡ true → Numbered levels k (levels_at c) → ((q : List Step) → instances_of ((pre ++ step j c ∷ []) ++ q) (row no_instances) ≡ [])
        → ((zs : Instances) → instances_of (pre ++ step j repeated ∷ []) (row zs) ≡ map (λ (y : Instance). row (single y)) (listed zs)) → Quiet F pre (field_moves c h G k at xs)
        → FarMade F rs levels W r pre (field_moves c h G k at xs) k (k + (repetition_count c + shape_repeated_fields h)) (levels_at c) (row ys)
    one_field c [] xs ys f w keeps fits all numbered absent there s = unread_field c h pre (step j c) row k (k + (repetition_count c + shape_repeated_fields h)) r (levels_at c) (row ys) f (field_from m c h ns (pre ++ step j c ∷ []))
    one_field required (g ∷ G) xs ys f w keeps fits all numbered absent there s = plain_field required refl refl (λ e. absurd (cc)) (λ N. refl) refl (g ∷ G) xs ys f w keeps fits all numbered absent
    one_field optional (g ∷ G) xs ys f w keeps fits all numbered absent there s = plain_field optional refl refl (λ e. absurd (cc)) (λ N. refl) refl (g ∷ G) xs ys f w keeps fits all numbered absent
    one_field repeated (g ∷ G) xs ys f w keeps fits all numbered absent there s = repeated_field (g ∷ G) xs ys f w keeps all numbered absent there s

  -- ---- the fields of a node

  module _ (m : List ℕ) (c : Repetition) (h : Shape) (inner_fields : Fields) (makes_shape : ShapeMakes h) (makes_fields : FieldsMake inner_fields) (pre : List Step) (j : ℕ) (whole : Node → Node) (G : List Pick) (k : ℕ) (at : Depth) (r : Option (List ℕ)) (ns : List (List ℕ)) (first : 0 < k)
      (f : FieldPlaces F (field m c h inner_fields) pre j whole G) (w : NodeFrame pre j whole) (numbered : Numbered levels k (levels_in (field m c h inner_fields) j ns pre)) where
    -- the first, and the others
    both_fields : (xs ys : Instances) (n n' : Node) → OneKeeps c h (pre ++ step j c ∷ []) (λ zs. whole (slot zs n')) (first_picks G) k xs ys r
        → FieldsKeep inner_fields pre (suc j) (λ n. whole (slot ys n)) (later_picks G) (k + (repetition_count c + shape_repeated_fields h)) n n' r → is_record (field m c h inner_fields) (slot xs n) ≡ true → Quiet F pre (far_moves (field m c h inner_fields) G k at (slot xs n))
        → FarMade F rs levels W r pre (far_moves (field m c h inner_fields) G k at (slot xs n)) k (k + repeated_fields (field m c h inner_fields)) (levels_in (field m c h inner_fields) j ns pre) (whole (slot ys n'))
    both_fields xs ys n n' one rest v s =
        let q : List Step = pre ++ step j c ∷ [] in
        let A : Levels = as_level c (ns ++ m ∷ []) (pre ++ step j c ∷ []) (shape_levels h [] (pre ++ step j c ∷ [])) (shape_levels h (ns ++ m ∷ []) (pre ++ step j c ∷ [])) in
        let cnt : level_count (as_level c (ns ++ m ∷ []) (pre ++ step j c ∷ []) (shape_levels h [] (pre ++ step j c ∷ [])) (shape_levels h (ns ++ m ∷ []) (pre ++ step j c ∷ []))) ≡ repetition_count c + shape_repeated_fields h = count_field m c h j ns (pre ++ step j c ∷ []) in
        let mid : ℕ = k + (repetition_count c + shape_repeated_fields h) in
        let a : (fits_repetition c (count_instances xs) ≡ true) × (all_instances (is_instance h) xs ≡ true) × (is_record inner_fields n ≡ true) = and₃_parts (fits_repetition c (count_instances xs)) (all_instances (is_instance h) xs) (is_record inner_fields n) v in
        both_made F rs levels W r pre (field_moves c h (first_picks G) k at xs) (far_moves inner_fields (later_picks G) (k + (repetition_count c + shape_repeated_fields h)) at n) k (k + (repetition_count c + shape_repeated_fields h)) (k + repeated_fields (field m c h inner_fields))
        (as_level c (ns ++ m ∷ []) (pre ++ step j c ∷ []) (shape_levels h [] (pre ++ step j c ∷ [])) (shape_levels h (ns ++ m ∷ []) (pre ++ step j c ∷ []))) (levels_in inner_fields (suc j) ns pre) (whole (slot ys n')) (omega (arith, cnt)) (omega arith) (omega arith) s
        (one_field m h makes_shape pre j (λ zs. whole (slot zs n')) k at r ns first c (first_picks G) xs ys (first_places F m c h inner_fields pre j whole G f w n') (field_frame pre j whole w c n') one a.0 a.1
        (numbered_first levels A (levels_in inner_fields (suc j) ns pre) k numbered) (λ p. absent_instances pre j whole w c p n') (λ zs. field_instances pre j whole w zs n')
        (quiet_first F pre (field_moves c h (first_picks G) k at xs) (far_moves inner_fields (later_picks G) (k + (repetition_count c + shape_repeated_fields h)) at n) s))
        (subst (λ (b : ℕ). FarMade F rs levels W r pre (far_moves inner_fields (later_picks G) (k + (repetition_count c + shape_repeated_fields h)) at n) (k + (repetition_count c + shape_repeated_fields h)) b (levels_in inner_fields (suc j) ns pre) (whole (slot ys n'))) (omega arith)
        (makes_fields pre (suc j) (λ n. whole (slot ys n)) (later_picks G) (k + (repetition_count c + shape_repeated_fields h)) at n n' r ns (omega (arith, first)) (later_places F m c h inner_fields pre j whole G f w ys) (next_frame pre j whole w ys) rest a.2
        (subst (λ (b : ℕ). Numbered levels b (levels_in inner_fields (suc j) ns pre)) (omega (arith, cnt)) (numbered_second levels A (levels_in inner_fields (suc j) ns pre) k numbered))
        (quiet_second F pre (field_moves c h (first_picks G) k at xs) (far_moves inner_fields (later_picks G) (k + (repetition_count c + shape_repeated_fields h)) at n) s)))

    -- the chain goes through the first, or through a later one
    on_fields : (xs : Instances) (n n' : Node) (o : FieldsOnChain (field m c h inner_fields) pre j whole G k (slot xs n) n' r) → is_record (field m c h inner_fields) (slot xs n) ≡ true → Quiet F pre (far_moves (field m c h inner_fields) G k at (slot xs n))
        → FarMade F rs levels W r pre (far_moves (field m c h inner_fields) G k at (slot xs n)) k (k + repeated_fields (field m c h inner_fields)) (levels_in (field m c h inner_fields) j ns pre) (whole n')
    on_fields xs n n' o v s = by_place o.place o.repetition o.rest o.at o.only o.leads o.numbers o.keeps
      where
        by_place : (i : ℕ) (d : Repetition) (q : List Step) → path ≡ pre ++ step (j + i) d ∷ q → Only W.last (step i d ∷ q) G → is_leaf_path (field m c h inner_fields) (step i d ∷ q) ≡ true → r ≡ Some (numbers_in (field m c h inner_fields) k (step i d ∷ q))
            → kept_along (step i d ∷ chain_end q) (λ n. test (whole n)) (slot xs n) ≡ Some n'
            → FarMade F rs levels W r pre (far_moves (field m c h inner_fields) G k at (slot xs n)) k (k + repeated_fields (field m c h inner_fields)) (levels_in (field m c h inner_fields) j ns pre) (whole n')
        by_place zero d q p only leads numbers keeps =
            let x : (same_repetition d c ≡ true) × (is_shape_path h q ≡ true) = and_parts (same_repetition d c) (is_shape_path h q) leads in
            let y = kept_first d (chain_end q) (λ n. test (whole n)) xs n n' keeps in
            let z : j + 0 ≡ j = omega arith in
            subst (λ (u : Node). FarMade F rs levels W r pre (far_moves (field m c h inner_fields) G k at (slot xs n)) k (k + repeated_fields (field m c h inner_fields)) (levels_in (field m c h inner_fields) j ns pre) (whole u)) (sym y.1)
            (both_fields xs y.0 n n
            (inr (record {
              watched = o.watched;
              rest = q;
              at = p ∙ ap₂ (λ (i : ℕ) (e : Repetition). pre ++ step i e ∷ q) z (same_repetition-true d c x.0) ∙ sym (append_assoc pre (step j c ∷ []) q);
              only = only_behind W.last d q G only;
              leads = x.1;
              numbers = numbers;
              keeps = y.2 ∙ same_keep (keep_instance (kept_along (chain_end q)) (λ y. slot (single y) n) (λ n. test (whole n))) (keep_instance (kept_along (chain_end q)) (λ y. whole (slot (single y) n)) test) (λ u. one_keep (chain_end q) (λ zs. slot zs n) whole test u) xs;
              some = y.3;
            }))
            (inl (apart numbers, refl)) v s)
          where
            apart : r ≡ Some (own_number c k (λ j. shape_numbers h j q)) → IsApart (k + (repetition_count c + shape_repeated_fields h)) (k + (repetition_count c + shape_repeated_fields h) + repeated_fields inner_fields) r
            apart e = subst (IsApart (k + (repetition_count c + shape_repeated_fields h)) (k + (repetition_count c + shape_repeated_fields h) + repeated_fields inner_fields)) (sym e)
                (head_before k (k + (repetition_count c + shape_repeated_fields h)) (k + (repetition_count c + shape_repeated_fields h)) (k + (repetition_count c + shape_repeated_fields h) + repeated_fields inner_fields) (omega arith) (own_number c k (λ j. shape_numbers h j q))
                (own_within c h k q (λ j. shape_numbers_within h j q)))
        by_place (suc i) d q p only leads numbers keeps =
            let y = kept_later i d (chain_end q) (λ n. test (whole n)) xs n n' keeps in
            let z : j + suc i ≡ suc j + i = omega arith in
            subst (λ (u : Node). FarMade F rs levels W r pre (far_moves (field m c h inner_fields) G k at (slot xs n)) k (k + repeated_fields (field m c h inner_fields)) (levels_in (field m c h inner_fields) j ns pre) (whole u)) (sym y.1)
            (both_fields xs xs n y.0 (inl (apart numbers, refl))
            (inr (record { watched = o.watched; place = i; repetition = d; rest = q; at = p ∙ ap (λ (i : ℕ). pre ++ step i d ∷ q) z; only = only_beside W.last i d q G only; leads = leads; numbers = numbers; keeps = y.2 })) v s)
          where
            apart : r ≡ Some (numbers_in inner_fields (k + (repetition_count c + shape_repeated_fields h)) (step i d ∷ q)) → IsApart k (k + (repetition_count c + shape_repeated_fields h)) r
            apart e = subst (IsApart k (k + (repetition_count c + shape_repeated_fields h))) (sym e)
                (head_behind (k + (repetition_count c + shape_repeated_fields h)) (k + (repetition_count c + shape_repeated_fields h) + repeated_fields inner_fields) k (k + (repetition_count c + shape_repeated_fields h)) (omega arith)
                (numbers_in inner_fields (k + (repetition_count c + shape_repeated_fields h)) (step i d ∷ q)) (numbers_within inner_fields (k + (repetition_count c + shape_repeated_fields h)) (step i d ∷ q)))

    all_fields : (n n' : Node) → FieldsKeep (field m c h inner_fields) pre j whole G k n n' r → is_record (field m c h inner_fields) n ≡ true → Quiet F pre (far_moves (field m c h inner_fields) G k at n)
        → FarMade F rs levels W r pre (far_moves (field m c h inner_fields) G k at n) k (k + repeated_fields (field m c h inner_fields)) (levels_in (field m c h inner_fields) j ns pre) (whole n')
    all_fields no_slots n' keeps v s = absurd (true≢false (sym v))
    all_fields (gap n) n' keeps v s = absurd (true≢false (sym v))
    all_fields (slot xs n) n' (inr o) v s = on_fields xs n n' o v s
    all_fields (slot xs n) n' (inl a) v s =
        subst (λ (u : Node). FarMade F rs levels W r pre (far_moves (field m c h inner_fields) G k at (slot xs n)) k (k + repeated_fields (field m c h inner_fields)) (levels_in (field m c h inner_fields) j ns pre) (whole u)) a.1
        (both_fields xs xs n n
        (inl (narrower_apart k (k + repeated_fields (field m c h inner_fields)) k (k + (repetition_count c + shape_repeated_fields h)) r (omega arith) (omega arith) a.0, refl))
        (inl (narrower_apart k (k + repeated_fields (field m c h inner_fields)) (k + (repetition_count c + shape_repeated_fields h)) (k + (repetition_count c + shape_repeated_fields h) + repeated_fields inner_fields) r (omega arith) (omega arith) a.0, refl)) v s)

  -- ---- a group, from its fields

  group_makes : (inner_fields : Fields) → FieldsMake inner_fields → ShapeMakes (group inner_fields)
  group_makes inner_fields makes_fields pre row G k at (atom v) z r ns first f w keeps i numbered = absurd (true≢false (sym i))
  group_makes inner_fields makes_fields pre row G k at (inner n) z r ns first f w keeps i numbered = by_keeps keeps
    where
      made : (n' : Node) → FieldsKeep inner_fields pre 0 (λ n. row (single (inner n))) G k n n' r → FarMade F rs levels W r pre (far_moves inner_fields G k at n) k (k + repeated_fields inner_fields) (levels_in inner_fields 0 ns pre) (row (single (inner n')))
      made n' kp = makes_fields pre 0 (λ n. row (single (inner n))) G k at n n' r ns first (group_places F inner_fields pre row G f) (node_frame pre row w) kp i numbered (far_quiet F (group inner_fields) pre row G f k at (Some (inner n)))

      place_of : (i : ℕ) → i ≡ 0 + i
      place_of i = omega arith

      -- a chain that ends here keeps all below
      by_chain : (u : Watched F W path K test) (q : List Step) → path ≡ pre ++ q → Only W.last q G → is_shape_path (group inner_fields) q ≡ true → r ≡ Some (shape_numbers (group inner_fields) k q) → (n' : Node) → kept_along (chain_end q) (λ m. test (row (single (inner m)))) n ≡ Some n'
          → (b : ℕ) → max_repetition q ≡ b → FieldsKeep inner_fields pre 0 (λ n. row (single (inner n))) G k n n' r
      by_chain u [] p only leads numbers n' e b c = absurd (no_path inner_fields leads)
      by_chain u (t ∷ q) p only leads numbers n' e zero c =
          let a : shape_numbers (group inner_fields) k (t ∷ q) ≡ [] = sym (numbers_level (group inner_fields) (t ∷ q) k leads) ∙ ap (shape_numbers (group inner_fields) k) (no_level (t ∷ q) c) ∙ nothing_numbered (group inner_fields) k in
          inl (
            subst (IsApart k (k + repeated_fields inner_fields)) (sym (numbers ∙ ap (λ (N : List ℕ). Some N) a)) tt,
            kept_whole (test (row (single (inner n)))) (ap (λ (L : List Step). kept_along L (λ m. test (row (single (inner m)))) n) (sym (no_level (t ∷ q) c)) ∙ e),
          )
        where
          kept_whole : (b : Bool) → (if b then Some n else None) ≡ Some n' → n ≡ n'
          kept_whole true e = cc
          kept_whole false e = absurd (cc)
      by_chain u (t ∷ q) p only leads numbers n' e (suc b) c =
          inr (record {
            watched = u;
            place = t.place;
            repetition = t.repetition;
            rest = q;
            at = p ∙ ap (λ (i : ℕ). pre ++ step i t.repetition ∷ q) (place_of t.place);
            only = only;
            leads = leads;
            numbers = numbers;
            keeps = ap (λ (L : List Step). kept_along L (λ m. test (row (single (inner m)))) n) (sym (far_level t q b c)) ∙ e;
          })

      by_keeps : Keeps F W path K test (group inner_fields) pre row G k (inner n) z r → FarMade F rs levels W r pre (far_moves inner_fields G k at n) k (k + repeated_fields inner_fields) (levels_in inner_fields 0 ns pre) (row (single z))
      by_keeps (inl a) = subst (λ (y : Instance). FarMade F rs levels W r pre (far_moves inner_fields G k at n) k (k + repeated_fields inner_fields) (levels_in inner_fields 0 ns pre) (row (single y))) a.1 (made n (inl (a.0, refl)))
      by_keeps (inr o) =
          let x = kept_node (chain_end o.rest) row test (inner n) z (is_kept (chain_end o.rest) row test (inner n) z o.keeps) n refl in
          subst (λ (y : Instance). FarMade F rs levels W r pre (far_moves inner_fields G k at n) k (k + repeated_fields inner_fields) (levels_in inner_fields 0 ns pre) (row (single y))) (sym x.1)
          (made x.0 (by_chain o.watched o.rest o.at o.only o.leads o.numbers x.0 x.2 (max_repetition o.rest) refl))

  -- a leaf has nothing below it
  leaf_makes : (w : Kind) → ShapeMakes (leaf w)
  leaf_makes w pre row G k at x z r ns first f g keeps i numbered = record { tour = over; moves = refl; branches = tt; agrees = λ c kn. tt }

  -- no fields have none
  none_makes : FieldsMake no_fields
  none_makes pre j whole G k at n m r ns first f w keeps v numbered s = record { tour = over; moves = refl; branches = tt; agrees = λ c kn. tt }

  mutual
    fields_make : (inner_fields : Fields) → FieldsMake inner_fields
    fields_make no_fields pre j whole G k at n m r ns first f w keeps v numbered s = none_makes pre j whole G k at n m r ns first f w keeps v numbered s
    fields_make (field name c h inner_fields) pre j whole G k at n m r ns first f w keeps v numbered s =
        all_fields name c h inner_fields (λ pre row G k at x z r ns first f w keeps i numbered. shape_makes h pre row G k at x z r ns first f w keeps i numbered)
        (λ pre j whole G k at n m r ns first f w keeps v numbered s. fields_make inner_fields pre j whole G k at n m r ns first f w keeps v numbered s)
        pre j whole G k at r ns first f w numbered n m keeps v s

    -- the objects below an instance
    pub shape_makes : (h : Shape) → ShapeMakes h
    shape_makes (leaf w) pre row G k at x z r ns first f g keeps i numbered = leaf_makes w pre row G k at x z r ns first f g keeps i numbered
    shape_makes (group inner_fields) pre row G k at x z r ns first f w keeps i numbered =
        group_makes inner_fields (λ pre j whole G k at n m r ns first f w keeps v numbered s. fields_make inner_fields pre j whole G k at n m r ns first f w keeps v numbered s) pre row G k at x z r ns first f w keeps i numbered
