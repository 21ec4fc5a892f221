-- The object of an instance that is left has of each item of its level what the item means in the instance's row.
use Rattle.std.proofs.Common.{◌≡◌, ◌⊎◌, inl, inr, ℕ, zero, suc, ◌+◌, ◌<◌, List, [], ◌∷◌, ◌++◌, Bool, true, false, Option, None, Some, refl, sym, ap, ap₂, subst, ◌∙◌, true≢false, arith}
use Rattle.std.specs.Prelude.{map, if◌then◌else◌}
use Rattle.std.specs.List.{slice_get, list_all}
use Rattle.std.proofs.lemmas.Simd.{map-map}
use Rattle.dr_meaning.specs.Schema.{Fields, Shape}
use Rattle.dr_meaning.specs.Path.{Step, begins_with, same_path, chain_end, is_leaf_path, is_shape_path}
use Rattle.dr_meaning.specs.Record.{Value, Node, Instances, Instance, single}
use Rattle.dr_meaning.specs.Rows.{rows}
use Rattle.dr_meaning.specs.Expression.{expression_chain}
use Rattle.dr_meaning.specs.Automaton.{Pick}
use Rattle.dr_meaning.specs.Query.{RecordTerm, expression, within, Object, cell, aggregated, present_values, Levels, term_chain}
use Rattle.dr_meaning.proofs.WalkLemmas.{Only}
use Rattle.dr_moves.specs.Context.{Context}
use Rattle.dr_moves.specs.Condition.{Watch}
use Rattle.dr_moves.specs.Cutting.{flow}
use Rattle.dr_moves.specs.Firing.{AllTogether, IsRow}
use Rattle.dr_moves.specs.Tour.{Tour, after}
use Rattle.dr_moves.proofs.RowsRead.{irows, single_rows}
use Rattle.dr_kept_laws.specs.GroupFlow.{fired_at, fired_if, left_alone}
use Rattle.dr_kept_laws.specs.GroupFlowLaws.{IsTold, MeansAt}
use Rattle.dr_kept_laws.specs.ObjectsOfKeptLaws.{term_expression}
use Rattle.dr_kept_laws.proofs.RowValues.{instance_values}
use Rattle.dr_made_laws.specs.ObjectFlow.{Made, ReadItem, items_of, values_for, level_count, gathered, value_made, cells_made, lists_made, object_made, is_own}
use Rattle.dr_made_laws.specs.ObjectFlowLaws.{HoldsRows, IsRead, AreRead}
use Rattle.dr_made_laws.proofs.LevelLemmas.{Numbered, AllBelow, numbered_deeper}
use Rattle.dr_made_laws.proofs.MadeLemmas.{IsWithin}
use Rattle.dr_made_laws.proofs.FlowLemmas.{AllWithin, makes, NotOwn, fired_values}
use Rattle.dr_made_laws.proofs.MeantObjects.{meant_value, meant_cells, meant_lists, meant_object, Agree, agree_lists}
use Rattle.dr_made_laws.proofs.PathLemmas.{begins_along, longer_begins, IsLevel, chain_front, level_chain, same_begins}
use Rattle.dr_made_laws.proofs.RowFrames.{Frame}
use Rattle.dr_made_laws.proofs.PlaceLemmas.{Below, Beside, Places}
use Rattle.dr_made_laws.proofs.KnownValues.{Known}
use Rattle.dr_made_laws.proofs.InsideValues.{leaves_level}

-- ---- items by their places

pub read_at : (fs : Fields) (F : List (List Step)) (rs : List ReadItem) → AreRead fs F rs → (n : ℕ) (r : ReadItem) → slice_get rs n ≡ Some r → IsRead fs F r
read_at fs F [] a n r e = absurd (cc)
read_at fs F (t ∷ rs) a zero r e = let x : t ≡ r = cc in subst (λ (u : ReadItem). IsRead fs F u) x a.0
read_at fs F (t ∷ rs) a (suc n) r e = read_at fs F rs a.1 n r e

own_at : (rs : List ReadItem) (p : List Step) (n : ℕ) (r : ReadItem) → slice_get rs n ≡ Some r → is_own (items_of rs) p n ≡ same_path p (term_chain r.item.term)
own_at [] p n r e = absurd (cc)
own_at (t ∷ rs) p zero r e = let x : t ≡ r = cc in ap (λ (u : ReadItem). same_path p (term_chain u.item.term)) x
own_at (t ∷ rs) p (suc n) r e = own_at rs p n r e

-- cells with the same values
cells_agree : (b : ℕ) (rs : List ReadItem) (p : List Step) (c : Context) (inner : List Made) (row : Node)
    → ((n : ℕ) (r : ReadItem) → slice_get rs n ≡ Some r → same_path p (term_chain r.item.term) ≡ true → value_made r.item.term r.reading (b + n) c inner ≡ meant_value r.item.term r.reading row)
    → (rest more : Object) → rest ≡ more → cells_made b rs p c inner rest ≡ meant_cells rs p row more
cells_agree b [] p c inner row h rest more e = e
cells_agree b (r ∷ rs) p c inner row h rest more e =
    by_own (same_path p (term_chain r.item.term)) refl
    (cells_agree (suc b) rs p c inner row (λ n t d o. let z : suc b + n ≡ b + suc n = omega arith in ap (λ (j : ℕ). value_made t.item.term t.reading j c inner) z ∙ h (suc n) t d o) rest more e)
  where
    by_own : (d : Bool) → same_path p (term_chain r.item.term) ≡ d → cells_made (suc b) rs p c inner rest ≡ meant_cells rs p row more
        → (if d then cell r.item.name (value_made r.item.term r.reading b c inner) (cells_made (suc b) rs p c inner rest) else cells_made (suc b) rs p c inner rest)
        ≡ (if d then cell r.item.name (meant_value r.item.term r.reading row) (meant_cells rs p row more) else meant_cells rs p row more)
    by_own true o g =
        let z : b + 0 ≡ b = omega arith in
        ap₂ (λ (v : Option Value) (m : Object). cell r.item.name v m) (ap (λ (j : ℕ). value_made r.item.term r.reading j c inner) (sym z) ∙ h 0 r refl o) g
    by_own false o g = g

module _ (fs : Fields) (F : List (List Step)) (l : list_all (is_leaf_path fs) F ≡ true) (rs : List ReadItem) (reads : AreRead fs F rs) (levels : Levels) (W : Watch) (h : Shape) (pre : List Step) (row : Instances → Node) (G : List Pick)
    (f : Places F h pre row G) (w : Frame pre row) (lev : IsLevel pre) (z : Instance) where
  -- what fires inside the instance is told of the rows of what is kept of it
  abbrev pub FiresInside : Option (List ℕ) → Context → Tour → Type 0
  FiresInside q c B = (i : ℕ) (p : List Step) → slice_get F i ≡ Some (pre ++ p) → is_shape_path h p ≡ true → Only i p G → (a : Context → Option Value) (g : Node → Option Value) → IsTold (Option Value) F i (pre ++ p) a g
      → flow (fired_at i a) left_alone W q c B ≡ instance_values (chain_end p) row g z

  -- an expression on the level
  known_row : (i : ℕ) (p : List Step) → slice_get F i ≡ Some p → begins_with (chain_end p) pre ≡ true → (d : Context) → Known F pre d (row (single z)) → (K : List ℕ) → AllTogether F i p K → IsRow F K d (row (single z))
  known_row i p e b d kn [] t = tt
  known_row i p e b d kn (k ∷ K) t = (
    (λ q a. let x : t.0.0 ≡ q = the_same t.0.0 q t.0.1 a in
        kn k q a (begins_along (chain_end q) (chain_end p) pre (ap (λ (u : List Step). begins_with (chain_end u) (chain_end p)) (sym x) ∙ leaves_level fs F l (k ≡ i) (Unit {0}) k i t.0.0 p t.0.1 e t.0.2) b)),
    known_row i p e b d kn K t.1,
  )
    where
      the_same : (q o : List Step) → slice_get F k ≡ Some q → slice_get F k ≡ Some o → q ≡ o
      the_same q o a b = cc

  own_value : (x : Option ℕ) (a : Context → Option Value) (L : List Step) (g : Node → Option Value) → MeansAt F x a L g → begins_with L pre ≡ true → (d : Context) → Known F pre d (row (single z)) → a d ≡ g (row (single z))
  own_value None a L g m b d kn = m.1 d (row (single z))
  own_value (Some i) a L g m b d kn = m.2.same d (row (single z)) (known_row i m.0 m.2.path (ap (λ (u : List Step). begins_with u pre) m.1 ∙ b) d kn m.2.leaves m.2.together)

  -- the values of an aggregate's rows
  level_values : (p : List Step) (g : Node → Option Value) → instance_values (chain_end p) row g z ≡ map g (rows (chain_end (pre ++ p)) (row (single z)))
  level_values p g =
      sym (ap (λ (q : List Step). map g (rows q (row (single z)))) (level_chain pre p lev)
      ∙ ap (map g) (w.rows_at (chain_end p) z ∙ ap (map row) (single_rows (chain_end p) z) ∙ map-map row single (irows (chain_end p) z))
      ∙ map-map g (λ (y : Instance). row (single y)) (irows (chain_end p) z))

  module _ (k : ℕ) (first : 0 < k) (below : Levels) (deeper : AllBelow pre below) (numbered : Numbered levels k below) (B : Tour) (inside : AllWithin k (k + level_count below) B) (q : Option (List ℕ)) (c : Context)
      (fires : FiresInside q c B) (known : Known F pre (after c B) (row (single z))) where
    -- no level below is that of an item of this one
    not_own : (n : ℕ) (r : ReadItem) → slice_get rs n ≡ Some r → same_path pre (term_chain r.item.term) ≡ true → NotOwn rs levels W n k (k + level_count below)
    not_own n r e o i a b m d = by_test (is_own (items_of rs) m.path n) refl
      where
        by_test : (t : Bool) → is_own (items_of rs) m.path n ≡ t → t ≡ false
        by_test false s = refl
        by_test true s =
            let x = numbered_deeper pre below deeper k i m (sym (numbered i a b) ∙ d) in
            let y : same_path m.path (term_chain r.item.term) ≡ true = sym (own_at rs m.path n r e) ∙ s in
            absurd (longer_begins pre x.1 x.0 (ap (λ (u : List Step). begins_with u pre) (sym x.2)
            ∙ begins_along m.path (term_chain r.item.term) pre (same_begins m.path (term_chain r.item.term) y).0 (same_begins pre (term_chain r.item.term) o).1))

    taken_values : (n : ℕ) (r : ReadItem) → slice_get rs n ≡ Some r → IsWithin r.item.term → same_path pre (term_chain r.item.term) ≡ true
        → (x : Option ℕ) → r.reading.leaf ≡ x → MeansAt F x r.reading.fires r.reading.level r.reading.means → begins_with pre r.reading.level ≡ true
        → gathered x (r.reading.fires (after c B)) (values_for n (makes rs levels W q c B)) ≡ map r.reading.means (rows r.reading.level (row (single z)))
    taken_values n r e u o None a m b =
        ap (λ (v : Option Value). v ∷ []) (m.1 (after c B) (row (single z))) ∙ ap (λ (L : List Step). map r.reading.means (rows L (row (single z)))) (sym m.0)
    taken_values n r e u o (Some i) a m b =
        fired_values rs levels W n r e u k (k + level_count below) first (not_own n r e o) B inside q c
        ∙ ap (λ (x : Option ℕ). flow (fired_if x r.reading.fires) left_alone W q c B) a
        ∙ by_place (f i m.0 m.2.path)
      where
        by_place : Below h pre G i m.0 ⊎ Beside pre row G i m.0 → flow (fired_at i r.reading.fires) left_alone W q c B ≡ map r.reading.means (rows r.reading.level (row (single z)))
        by_place (inl x) =
            fires i x.0 (m.2.path ∙ ap (λ (s : List Step). Some s) x.1) x.3 x.2 r.reading.fires r.reading.means (subst (λ (s : List Step). IsTold (Option Value) F i s r.reading.fires r.reading.means) x.1 m.2)
            ∙ level_values x.0 r.reading.means
            ∙ ap (λ (L : List Step). map r.reading.means (rows L (row (single z)))) (ap chain_end (sym x.1) ∙ m.1)
        by_place (inr x) =
            absurd (true≢false (sym (begins_along pre (chain_end m.0) m.0 (ap (begins_with pre) m.1 ∙ b) (chain_front m.0)) ∙ x.1))

    value_agrees : (n : ℕ) (r : ReadItem) → slice_get rs n ≡ Some r → same_path pre (term_chain r.item.term) ≡ true
        → value_made r.item.term r.reading n (after c B) (makes rs levels W q c B) ≡ meant_value r.item.term r.reading (row (single z))
    value_agrees n r e o = by_term r.item.term refl
      where
        by_term : (t : RecordTerm) → r.item.term ≡ t → value_made t r.reading n (after c B) (makes rs levels W q c B) ≡ meant_value t r.reading (row (single z))
        by_term (expression x) d =
            let i : IsRead fs F r = read_at fs F rs reads n r e in
            own_value r.reading.leaf r.reading.fires r.reading.level r.reading.means i.read
            (ap (λ (u : List Step). begins_with u pre) (i.level ∙ ap (λ (t : RecordTerm). expression_chain (term_expression t)) d)
            ∙ (same_begins pre (expression_chain x) (ap (λ (t : RecordTerm). same_path pre (term_chain t)) (sym d) ∙ o)).1)
            (after c B) known
        by_term (within a x node) d =
            let i : IsRead fs F r = read_at fs F rs reads n r e in
            ap (λ (vs : List (Option Value)). aggregated a (present_values vs))
            (taken_values n r e (subst IsWithin (sym d) tt) o r.reading.leaf refl i.read
            (ap (begins_with pre) (i.level ∙ ap (λ (t : RecordTerm). expression_chain (term_expression t)) d)
            ∙ begins_along pre (chain_end node) (expression_chain x) (same_begins pre (chain_end node) (ap (λ (t : RecordTerm). same_path pre (term_chain t)) (sym d) ∙ o)).0 (subst HoldsRows d i.holds)))

    -- so the object is that of the row, where its lists are
    pub object_agrees : Agree rs k below (makes rs levels W q c B) (row (single z))
        → object_made rs k (record { path = pre; below = below }) (after c B) (makes rs levels W q c B) ≡ meant_object rs pre below (row (single z))
    object_agrees a =
        cells_agree 0 rs pre (after c B) (makes rs levels W q c B) (row (single z)) (λ n r e o. let y : 0 + n ≡ n = omega arith in ap (λ (j : ℕ). value_made r.item.term r.reading j (after c B) (makes rs levels W q c B)) y ∙ value_agrees n r e o)
        (lists_made (items_of rs) k below (makes rs levels W q c B)) (meant_lists rs below (row (single z)))
        (agree_lists rs k below (makes rs levels W q c B) (row (single z)) a)
