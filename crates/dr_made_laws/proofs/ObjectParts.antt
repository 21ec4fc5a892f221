-- Moves with the objects that are made over them, part by part.
use Rattle.std.proofs.Common.{◌≡◌, ◌⊎◌, inl, inr, ℕ, zero, suc, ◌+◌, ◌<◌, ◌≤◌, List, [], ◌∷◌, ◌++◌, Bool, true, false, Option, None, Some, refl, sym, ap, ap₂, subst, ◌∙◌, append-nil, true≢false, arith}
use Rattle.std.specs.Prelude.{map, ◌||◌, if◌then◌else◌}
use Rattle.std.specs.List.{slice_get, list_all, list_any}
use Rattle.std.proofs.lemmas.List.{map-append}
use Rattle.std.proofs.lemmas.Bool.{eq-eqb}
use Rattle.dr_meaning.specs.Schema.{Fields, Shape, shape_repeated_fields}
use Rattle.dr_meaning.specs.Path.{Step, begins_with, chain_end, is_leaf_path, is_shape_path, max_repetition}
use Rattle.dr_meaning.specs.Record.{Node, Instances, Instance, single, is_instance}
use Rattle.dr_meaning.specs.Rows.{value_in}
use Rattle.dr_meaning.specs.Expression.{expression_chain}
use Rattle.dr_meaning.specs.Kept.{keep_instance, kept_along}
use Rattle.dr_meaning.specs.Automaton.{Pick}
use Rattle.dr_meaning.specs.Query.{RecordTerm, expression, within, RecordItem, Object, Levels, no_levels, deeper, append_levels, shape_levels, term_chain, leads_to_items, instances_of}
use Rattle.dr_meaning.specs.Walk.{Move, Depth, moves_in, shape_near_moves, shape_far_moves}
use Rattle.dr_meaning.proofs.WalkLemmas.{Only}
use Rattle.dr_moves.specs.Context.{Context}
use Rattle.dr_moves.specs.Condition.{Watch}
use Rattle.dr_moves.specs.Cutting.{flow}
use Rattle.dr_moves.specs.Firing.{AllTogether, IsRow}
use Rattle.dr_moves.specs.Tour.{Tour, over, moves_of, after}
use Rattle.dr_kept_laws.specs.GroupFlow.{fired_at, left_alone}
use Rattle.dr_kept_laws.specs.GroupFlowLaws.{MeansAt}
use Rattle.dr_kept_laws.specs.ObjectsOfKeptLaws.{term_expression}
use Rattle.dr_kept_laws.proofs.LevelLemmas.{on_root}
use Rattle.dr_kept_laws.proofs.RowValues.{instance_values}
use Rattle.dr_kept_laws.specs.ChainNumbers.{shape_numbers}
use Rattle.dr_kept_laws.specs.Tours.{joined}
use Rattle.dr_kept_laws.proofs.OffChain.{shape_near_off}
use Rattle.dr_kept_laws.proofs.TourParts.{joined_moves, joined_flow}
use Rattle.dr_made_laws.specs.ObjectFlow.{Made, built, ReadItem, items_of, objects_for, seen_items, Level, level_count, level_from, object_made, passed_on, left_level, left_items}
use Rattle.dr_made_laws.specs.ObjectFlowLaws.{HoldsRows, AreRead}
use Rattle.dr_made_laws.proofs.LevelLemmas.{count_shape, Numbered, AllFrom, shape_below}
use Rattle.dr_made_laws.proofs.MadeLemmas.{objects_append, passed_objects}
use Rattle.dr_made_laws.proofs.FlowLemmas.{AllWithin, joined_within, wider_within, IsBare, bare_within, bare_tour, IsApart, apart_flow, makes, other_objects, bare_objects}
use Rattle.dr_made_laws.proofs.MeantObjects.{meant_object, Agree, agree_append, agree_same}
use Rattle.dr_made_laws.proofs.PathLemmas.{begins_front, begins_along, IsLevel, chain_front}
use Rattle.dr_made_laws.proofs.RowFrames.{Frame}
use Rattle.dr_made_laws.proofs.PlaceLemmas.{Below, Beside, Places}
use Rattle.dr_made_laws.proofs.KnownValues.{Known, KnownBeside, Quiet, known_stays, quiet_first, known_near, known_at_leave}
use Rattle.dr_made_laws.proofs.InsideValues.{is_kept, kept_value, values_off, values_on}
use Rattle.dr_made_laws.proofs.ItemValues.{FiresInside, object_agrees}

-- ---- a level that leads to items has a selected leaf below it

module _ (fs : Fields) (F : List (List Step)) where
  pub leads_reads : (rs : List ReadItem) → AreRead fs F rs → (p : List Step) → (p ≡ [] → ⊥) → leads_to_items (items_of rs) p ≡ true → (i : ℕ) × (q : List Step) × (slice_get F i ≡ Some q) × (begins_with p q ≡ true)
  leads_reads [] a p n h = absurd (true≢false (sym h))
  leads_reads (r ∷ rs) a p n h = by_first (begins_with p (term_chain r.item.term)) refl h (leads_reads rs a.1 p n)
    where
      by_leaf : (x : Option ℕ) (L : List Step) → MeansAt F x r.reading.fires L r.reading.means → begins_with p L ≡ true → (i : ℕ) × (q : List Step) × (slice_get F i ≡ Some q) × (begins_with p q ≡ true)
      by_leaf None L m b = absurd (n (on_root p (ap (begins_with p) (sym m.0) ∙ b)))
      by_leaf (Some i) L m b = (i, m.0, m.2.path, begins_along p (chain_end m.0) m.0 (ap (begins_with p) m.1 ∙ b) (chain_front m.0))

      on_chain : (t : RecordTerm) → HoldsRows t → begins_with p (term_chain t) ≡ true → begins_with p (expression_chain (term_expression t)) ≡ true
      on_chain (expression e) g b = b
      on_chain (within x e node) g b = begins_along p (chain_end node) (expression_chain e) b g

      by_first : (b : Bool) → begins_with p (term_chain r.item.term) ≡ b → (b || list_any (λ (i : RecordItem). begins_with p (term_chain i.term)) (items_of rs)) ≡ true
          → (leads_to_items (items_of rs) p ≡ true → (i : ℕ) × (q : List Step) × (slice_get F i ≡ Some q) × (begins_with p q ≡ true)) → (i : ℕ) × (q : List Step) × (slice_get F i ≡ Some q) × (begins_with p q ≡ true)
      by_first true e h f = by_leaf r.reading.leaf r.reading.level a.0.read (ap (begins_with p) a.0.level ∙ on_chain r.item.term a.0.holds e)
      by_first false e h f = f h

  -- where no leaf is selected no level leads to items
  pub unread_agrees : (rs : List ReadItem) → AreRead fs F rs → (h : Shape) (pre : List Step) (row : Instances → Node) → (pre ≡ [] → ⊥) → Places F h pre row [] → (k : ℕ) (ls : Levels) → AllFrom pre ls → (ms : List Made) (v : Node) → Agree rs k ls ms v
  unread_agrees rs a h pre row n f k no_levels g ms v = tt
  unread_agrees rs a h pre row n f k (deeper names p below beside) g ms v = (nothing, unread_agrees rs a h pre row n f (suc k + level_count below) beside g.2 ms v)
    where
      longer : (p q : List Step) → (p ≡ [] → ⊥) → p ++ q ≡ [] → ⊥
      longer [] q n e = n refl
      longer (s ∷ p) q n e = cc

      by_place : (i : ℕ) (q : List Step) → begins_with p q ≡ true → Below h pre [] i q ⊎ Beside pre row [] i q → ⊥
      by_place i q b (inl x) = x.2
      by_place i q b (inr x) = true≢false (sym (begins_along pre p q (ap (begins_with pre) g.0.1 ∙ begins_front pre g.0.0) b) ∙ x.1)

      nothing : leads_to_items (items_of rs) p ≡ true → objects_for k ms ≡ map (λ r. meant_object rs p below r) (instances_of p v)
      nothing e = let x = leads_reads rs a p (λ d. longer pre g.0.0 n (sym g.0.1 ∙ d)) e in absurd (by_place x.0 x.1 x.3 (f x.0 x.1 x.2))

-- where nothing is there
pub absent_agrees : (rs : List ReadItem) (pre : List Step) (k : ℕ) (ls : Levels) → AllFrom pre ls → (ms : List Made) (v : Node) → ((i : ℕ) → objects_for i ms ≡ []) → ((q : List Step) → instances_of (pre ++ q) v ≡ []) → Agree rs k ls ms v
absent_agrees rs pre k no_levels g ms v h n = tt
absent_agrees rs pre k (deeper names p below beside) g ms v h n =
    ((λ e. h k ∙ ap (map (λ r. meant_object rs p below r)) (sym (ap (λ (q : List Step). instances_of q v) g.0.1 ∙ n g.0.0))), absent_agrees rs pre (suc k + level_count below) beside g.2 ms v h n)

-- ---- parts

module _ (F : List (List Step)) (rs : List ReadItem) (levels : Levels) (W : Watch) where
  -- moves over which the objects of these levels are made, whose first number is low, as they are in a row of which the leaves of the path's level are known
  pub record FarMade (r : Option (List ℕ)) (pre : List Step) (ms : List Move) (low high : ℕ) (ls : Levels) (v : Node) : Type 0 where
    pub tour : Tour
    pub moves : moves_of tour ≡ ms
    pub branches : AllWithin low high tour
    pub agrees : (c : Context) → Known F pre c v → Agree rs low ls (makes rs levels W r c tour) v

  pub both_made : (r : Option (List ℕ)) (pre : List Step) (a b : List Move) (low mid high : ℕ) (A B : Levels) (v : Node) → mid ≡ low + level_count A → low ≤ mid → mid ≤ high → Quiet F pre (a ++ b)
      → FarMade r pre a low mid A v → FarMade r pre b mid high B v → FarMade r pre (a ++ b) low high (append_levels A B) v
  both_made r pre a b low mid high A B v e f g s x y = record {
    tour = joined x.tour y.tour;
    moves = joined_moves x.tour y.tour ∙ ap₂ (λ (m n : List Move). m ++ n) x.moves y.moves;
    branches = joined_within low high x.tour y.tour (wider_within low mid low high (omega arith) g x.tour x.branches) (wider_within mid high low high f (omega arith) y.tour y.branches);
    agrees = λ c k.
        let d : Context = after c x.tour in
        let X : List Made = makes rs levels W r c x.tour in
        let Y : List Made = makes rs levels W r (after c x.tour) y.tour in
        let kn : Known F pre (after c x.tour) v = known_stays F pre a x.tour c v (quiet_first F pre a b s) x.moves k in
        subst (λ (m : List Made). Agree rs low (append_levels A B) m v) (sym (joined_flow (seen_items rs) (left_items rs levels) W r c x.tour y.tour))
        (agree_append rs low A B (makes rs levels W r c x.tour ++ makes rs levels W r (after c x.tour) y.tour) v
        (agree_same rs low A (makes rs levels W r c x.tour) (makes rs levels W r c x.tour ++ makes rs levels W r (after c x.tour) y.tour) v
        (λ i h j. objects_append i (makes rs levels W r c x.tour) (makes rs levels W r (after c x.tour) y.tour)
        ∙ ap (λ (os : List Object). objects_for i (makes rs levels W r c x.tour) ++ os) (other_objects rs levels W i mid high (inl (omega (arith, j, e))) y.tour y.branches r (after c x.tour))
        ∙ append-nil (objects_for i (makes rs levels W r c x.tour))) (x.agrees c k))
        (agree_same rs (low + level_count A) B (makes rs levels W r (after c x.tour) y.tour) (makes rs levels W r c x.tour ++ makes rs levels W r (after c x.tour) y.tour) v
        (λ i h j. objects_append i (makes rs levels W r c x.tour) (makes rs levels W r (after c x.tour) y.tour)
        ∙ ap (λ (os : List Object). os ++ objects_for i (makes rs levels W r (after c x.tour) y.tour)) (other_objects rs levels W i low mid (inr (omega (arith, h, e))) x.tour x.branches r c))
        (subst (λ (n : ℕ). Agree rs n B (makes rs levels W r (after c x.tour) y.tour) v) e (y.agrees (after c x.tour) kn))));
  }

  -- moves of instances of one field, whose rows these are
  pub record ManyMade (r : Option (List ℕ)) (pre : List Step) (ms : List Move) (k high : ℕ) (p : List Step) (below : Levels) (rows : List Node) (v : Node) : Type 0 where
    pub tour : Tour
    pub moves : moves_of tour ≡ ms
    pub branches : AllWithin k high tour
    pub objects : (c : Context) → Known F pre c v → leads_to_items (items_of rs) p ≡ true → objects_for k (makes rs levels W r c tour) ≡ map (λ r. meant_object rs p below r) rows

  pub none_made : (r : Option (List ℕ)) (pre : List Step) (k high : ℕ) (p : List Step) (below : Levels) (v : Node) → ManyMade r pre [] k high p below [] v
  none_made r pre k high p below v = record { tour = over; moves = refl; branches = tt; objects = λ c n e. refl }

  pub more_made : (r : Option (List ℕ)) (pre : List Step) (a b : List Move) (k high : ℕ) (p : List Step) (below : Levels) (us vs : List Node) (v : Node) → Quiet F pre (a ++ b)
      → ManyMade r pre a k high p below us v → ManyMade r pre b k high p below vs v → ManyMade r pre (a ++ b) k high p below (us ++ vs) v
  more_made r pre a b k high p below us vs v s x y = record {
    tour = joined x.tour y.tour;
    moves = joined_moves x.tour y.tour ∙ ap₂ (λ (m n : List Move). m ++ n) x.moves y.moves;
    branches = joined_within k high x.tour y.tour x.branches y.branches;
    objects = λ c n e.
        ap (objects_for k) (joined_flow (seen_items rs) (left_items rs levels) W r c x.tour y.tour)
        ∙ objects_append k (makes rs levels W r c x.tour) (makes rs levels W r (after c x.tour) y.tour)
        ∙ ap₂ (λ (m n : List Object). m ++ n) (x.objects c n e) (y.objects (after c x.tour) (known_stays F pre a x.tour c v (quiet_first F pre a b s) x.moves n) e)
        ∙ sym (map-append (λ r. meant_object rs p below r) us vs);
  }

  -- an instance of a level that leads to items is left with one object
  left_at : (k : ℕ) → 0 < k → (l : Level) → level_from 1 levels k ≡ Some l → leads_to_items (items_of rs) l.path ≡ true → (c : Context) (inner : List Made)
      → left_items rs levels k c inner ≡ built k (object_made rs (suc k) l c inner) ∷ passed_on (items_of rs) l.path inner
  left_at zero h l e g c inner = absurd (omega (arith, h))
  left_at (suc k) h l e g c inner =
      ap (left_level rs (suc k) c inner) e
      ∙ ap (λ (b : Bool). if b then built (suc k) (object_made rs (suc (suc k)) l c inner) ∷ passed_on (items_of rs) l.path inner else inner) g

  pub left_object : (k : ℕ) → 0 < k → (l : Level) → level_from 1 levels k ≡ Some l → leads_to_items (items_of rs) l.path ≡ true → (c : Context) (inner : List Made) → objects_for k (left_items rs levels k c inner) ≡ object_made rs (suc k) l c inner ∷ []
  left_object k h l e g c inner =
      ap (objects_for k) (left_at k h l e g c inner)
      ∙ ap (λ (b : Bool). if b then object_made rs (suc k) l c inner ∷ objects_for k (passed_on (items_of rs) l.path inner) else objects_for k (passed_on (items_of rs) l.path inner)) (eq-eqb k k refl)
      ∙ ap (λ (os : List Object). object_made rs (suc k) l c inner ∷ os) (passed_objects (items_of rs) l.path k inner)

-- ---- what a condition keeps of an instance

-- the condition, if there is one, and the leaf that is the last to be read of it
pub record Watched (F : List (List Step)) (W : Watch) (path : List Step) (K : List ℕ) (test : Node → Bool) : Type 0 where
  pub last : slice_get F W.last ≡ Some path
  pub together : AllTogether F W.last path K
  pub decides : (d : Context) (r : Node) → IsRow F K d r → W.test d ≡ test r

module _ (F : List (List Step)) (W : Watch) (path : List Step) (K : List ℕ) (test : Node → Bool) where
  -- an instance on the condition's chain, of which this is kept
  pub record OnChain (h : Shape) (pre : List Step) (row : Instances → Node) (G : List Pick) (k : ℕ) (x z : Instance) (r : Option (List ℕ)) : Type 0 where
    pub watched : Watched F W path K test
    pub rest : List Step
    pub at : path ≡ pre ++ rest
    pub only : Only W.last rest G
    pub leads : is_shape_path h rest ≡ true
    pub numbers : r ≡ Some (shape_numbers h k rest)
    pub keeps : keep_instance (kept_along (chain_end rest)) (λ y. row (single y)) test x ≡ Some z

  -- or one apart from it, which is kept whole
  abbrev pub Keeps : Shape → List Step → (Instances → Node) → List Pick → ℕ → Instance → Instance → Option (List ℕ) → Type 0
  Keeps h pre row G k x z r = (IsApart k (k + shape_repeated_fields h) r × (x ≡ z)) ⊎ OnChain h pre row G k x z r

  -- ---- an instance

  module _ (fs : Fields) (l : list_all (is_leaf_path fs) F ≡ true) (rs : List ReadItem) (reads : AreRead fs F rs) (levels : Levels) where
    -- the moves in an instance, with the object that it is left with
    pub record InstanceMade (h : Shape) (pre : List Step) (row : Instances → Node) (k : ℕ) (ms : List Move) (z : Instance) (r : Option (List ℕ)) : Type 0 where
      pub tour : Tour
      pub moves : moves_of tour ≡ ms
      pub branches : AllWithin k (k + shape_repeated_fields h) tour
      pub object : (c : Context) → KnownBeside F pre c (row (single z)) → object_made rs k (record { path = pre; below = shape_levels h [] pre }) (after c tour) (makes rs levels W r c tour) ≡ meant_object rs pre (shape_levels h [] pre) (row (single z))

    pub instance_made : (h : Shape) (pre : List Step) (row : Instances → Node) (G : List Pick) (k : ℕ) (at : Depth) (x z : Instance) (r : Option (List ℕ)) → 0 < k → Places F h pre row G → Frame pre row → IsLevel pre → Keeps h pre row G k x z r → is_instance h x ≡ true
        → Numbered levels k (shape_levels h [] pre) → FarMade F rs levels W r pre (shape_far_moves h G k at (Some x)) k (k + shape_repeated_fields h) (shape_levels h [] pre) (row (single z))
        → InstanceMade h pre row k (moves_in (shape_near_moves h G) (shape_far_moves h G k) at (Some x)) z r
    instance_made h pre row G k at x z r first f w lev keeps v numbered far =
        let near = shape_near_off k k h G at (Some x) in
        let bare : IsBare near.tour = bare_tour W None (λ i. None) near.tour (near.told W (λ i. None)) in
        let m : moves_of (joined near.tour far.tour) ≡ moves_in (shape_near_moves h G) (shape_far_moves h G k) at (Some x) = joined_moves near.tour far.tour ∙ ap₂ (λ (a b : List Move). a ++ b) near.moves far.moves in
        let b : AllWithin k (k + shape_repeated_fields h) (joined near.tour far.tour) = joined_within k (k + shape_repeated_fields h) near.tour far.tour (bare_within k (k + shape_repeated_fields h) near.tour bare) far.branches in
        record {
          tour = joined near.tour far.tour;
          moves = m;
          branches = b;
          object = λ c kn.
              object_agrees fs F l rs reads levels W h pre row G f w lev z k first (shape_levels h [] pre) (shape_below h [] pre) numbered (joined near.tour far.tour)
              (subst (λ (n : ℕ). AllWithin k (k + n) (joined near.tour far.tour)) (sym (count_shape h [] pre)) b) r c
              (λ i p e u o a g t. fires_by keeps (joined near.tour far.tour) m b c kn i p e u o a g t)
              (known_at_leave F h pre row G f fs l w x z v (same_by keeps) c kn at k (joined near.tour far.tour) m)
              (subst (λ (ms : List Made). Agree rs k (shape_levels h [] pre) ms (row (single z))) (sym (joined_flow (seen_items rs) (left_items rs levels) W r c near.tour far.tour))
              (agree_same rs k (shape_levels h [] pre) (makes rs levels W r (after c near.tour) far.tour) (makes rs levels W r c near.tour ++ makes rs levels W r (after c near.tour) far.tour) (row (single z))
              (λ i x y. objects_append i (makes rs levels W r c near.tour) (makes rs levels W r (after c near.tour) far.tour)
              ∙ ap (λ (os : List Object). os ++ objects_for i (makes rs levels W r (after c near.tour) far.tour)) (bare_objects rs levels W i near.tour bare r c))
              (far.agrees (after c near.tour) (known_near F h pre row G f fs l w x z v (same_by keeps) c kn at near.tour near.moves))));
        }
      where
        same_by : Keeps h pre row G k x z r → (p : List Step) → is_shape_path h p ≡ true → max_repetition p ≡ 0 → value_in p x ≡ value_in p z
        same_by (inl a) p u n = ap (value_in p) a.1
        same_by (inr a) p u n = kept_value h (chain_end a.rest) row test x z (is_kept (chain_end a.rest) row test x z a.keeps) v p u n

        fires_by : Keeps h pre row G k x z r → (T : Tour) → moves_of T ≡ moves_in (shape_near_moves h G) (shape_far_moves h G k) at (Some x) → AllWithin k (k + shape_repeated_fields h) T → (c : Context) → KnownBeside F pre c (row (single z))
            → FiresInside fs F l rs reads levels W h pre row G f w lev z r c T
        fires_by (inl a) T m b c kn i p e u o d g t =
            apart_flow (fired_at i d) left_alone W k (k + shape_repeated_fields h) r a.0 T b c
            ∙ values_off fs F l h pre row G f w lev c z kn i p e u o k at x v d g t W T m
            ∙ ap (instance_values (chain_end p) row g) a.1
        fires_by (inr a) T m b c kn i p e u o d g t =
            ap (λ (n : Option (List ℕ)). flow (fired_at i d) left_alone W n c T) a.numbers
            ∙ values_on fs F l h pre row G f w lev W K test a.rest (a.watched.last ∙ ap (λ (s : List Step). Some s) a.at) (subst (λ (s : List Step). AllTogether F W.last s K) a.at a.watched.together) a.watched.decides a.only a.leads k at x v c z kn
            i p e u o d g t z a.keeps T m
