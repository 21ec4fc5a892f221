-- What grows of a tree, step by step.
use Rattle.std.specs.Prelude.{◌≡◌, ◌^◌, ◌<◌, ℕ, List, [], ◌∷◌, ◌++◌, map, length, drop, get_or, true, Option, Some, None, option_map, option_to_list, IfSome}
use Rattle.std.specs.List.{fold, list_all}
use Rattle.std.proofs.Common.{refl, sym, ap, ◌∙◌, subst, append_assoc}
use Rattle.std.proofs.lemmas.Bool.{and_parts}
use Rattle.std.proofs.lemmas.List.Elements.{filter_map-append}
use Rattle.std.proofs.lemmas.List.Folds.{list_all-append}
use Rattle.std.proofs.lemmas.List.Sums.{fold-append}
use Rattle.dr_meaning.specs.Schema.{Fields}
use Rattle.dr_meaning.specs.Query.{Query}
use Rattle.dr_partials.specs.Partials as meant
use Rattle.dr_partials.specs.Partials.{Group, grouped, merge, merge_groups, empty_partial}
use Rattle.dr_partials.specs.PartialTypes.{is_partial}
use Rattle.dr_partials.specs.Trees.{Tree, tablets_of, gathered}
use Rattle.dr_partials.proofs.PartialTypeLemmas.{empty_is_partial}
use Rattle.dr_plan.specs.Planned.{Planned, planned_query}
use Rattle.dr_cells.specs.Results.{ShapeTree}
use Rattle.dr_cells.specs.Rows.{rows_shape}
use Rattle.dr_cells.specs.Shapes.{plan_shape}
use Rattle.dr_cells.specs.declared.rows.RowsOut.{RowsOut}
use Rattle.dr_group.specs.Maps.{groups_view}
use Rattle.dr_group.specs.Partials.{partial_view, IsPartialOf}
use Rattle.dr_group.specs.declared.group_map.GroupMap.{GroupMap}
use Rattle.dr_group.specs.declared.partial.Partial.{Partial}
use Rattle.dr_tree.specs.Appending.{HaveMoved}
use Rattle.dr_tree.specs.Grows.{Growth, not_grown, grown_query, with_added, CanAdd, HaveGrown, HavePiled, HasGrown, partial_of_lines, AreBare, AreFree, Grows}
use Rattle.dr_tree.specs.Piles.{partial_of_groups, IsPile, CanMerge, StaysPile}
use Rattle.dr_tree.specs.Subtrees.{all_piled}
use Rattle.dr_tree.specs.Together.{CanBeTogether}
use Rattle.dr_tree.specs.Places.{Place, free_places, fill, added, merged, pieces_at}
use Rattle.dr_tree.specs.Waiting.{AreShaped, lines_of, place_of, places_of}
use Rattle.dr_tree.specs.declared.growing.Growing.{Growing}
use Rattle.dr_tree.specs.declared.subtree.Subtree.{Subtree}
use Rattle.dr_tree.specs.declared.waiting.Waiting.{Waiting}
use Rattle.dr_tree.proofs.MergedLemmas.{kinds_differ, merged_is, fill_is_of, merged_fill, together_apart, gathered_is_merged}
use Rattle.dr_tree.proofs.PileLemmas.{one_of_pile, pile_alone, pile_append, pile_of_none, pile_of_one}
use Rattle.dr_tree.proofs.PlaceLemmas.{fill_behind, full_append, fill_tablets, free_tablets, none_added}

-- ---- before any partial

free_shaped : (s : ShapeTree) (ts : List ℕ) (ws : List Waiting) → places_of ws ≡ free_places ts → AreShaped s ws
free_shaped s ts [] e = tt
free_shaped s [] (w ∷ ws) e = absurd (nil_is_not_cons e)
  where
    nil_is_not_cons : {A : Type 0} {x : A} {xs : List A} → x ∷ xs ≡ [] → ⊥
    nil_is_not_cons h = cc
free_shaped s (t ∷ ts) (w ∷ ws) e = (of_lines w.lines (ap (λ ps. (get_or ps 0 (place_of w)).piece) e), free_shaped s ts ws (ap (drop 1) e))
  where
    of_lines : (o : Option RowsOut) → option_map lines_of o ≡ None → IfSome o (λ r. rows_shape r ≡ s)
    of_lines None h = tt
    of_lines (Some r) h = absurd (cc)

pub starts : (plan : Planned) (fs : Fields) (tree : Tree) (g : Growing) → partial_view g.grown ≡ empty_partial (planned_query plan) → IsPartialOf plan g.grown → AreBare g.grown g.subtrees.items
    → AreFree (tablets_of tree) g.grown g.waiting.items → Grows (not_grown plan fs tree) g
starts plan fs tree g e is bare free = record {
  tablets = free_tablets (tablets_of tree);
  partials = ap (list_all (is_partial fs (planned_query plan))) (none_added (tablets_of tree));
  room = subst (CanBeTogether (2 ^ 60)) (sym (none_added (tablets_of tree))) tt;
  of_plan = is;
  grown = by_kind g.grown g.subtrees.items g.waiting.items e bare free;
}
  where
    by_kind : (p : Partial) (ss : List Subtree) (ws : List Waiting) → partial_view p ≡ empty_partial (planned_query plan) → AreBare p ss → AreFree (tablets_of tree) p ws → HasGrown (not_grown plan fs tree) p ss ws
    by_kind (Partial.Lines r) ss ws h b f = record { done = []; split = sym f; full = refl; lines = h; shaped = free_shaped (plan_shape plan) (tablets_of tree) ws f }
    by_kind (Partial.Groups m) ss ws h b f = record {
      some = b.0;
      empty = h;
      pile = λ n c. subst (λ all. IsPile plan fs n all (all_piled ss)) (sym (ap (fold merge (empty_partial (planned_query plan))) (none_added (tablets_of tree))))
          (subst (IsPile plan fs n (empty_partial (planned_query plan))) (sym b.1) (pile_of_none plan fs n));
    }

-- ---- groups are added

-- lines that have grown are a partial of the query
lines_are : (fs : Fields) (q : Query) (s : ShapeTree) (ps : List Place) (r : RowsOut) (ws : List Waiting) → HaveGrown q s ps r ws → list_all (is_partial fs q) (added ps) ≡ true
    → is_partial fs q (lines_of r) ≡ true
lines_are fs q s ps r ws h k =
    let e : added ps ≡ added h.done ++ added (places_of ws) = ap added h.split ∙ filter_map-append (λ (p : Place). p.piece) h.done (places_of ws) in
    let done = (and_parts _ _ (sym (list_all-append (is_partial fs q) (added h.done) (added (places_of ws))) ∙ (sym (ap (list_all (is_partial fs q)) e) ∙ k))).0 in
    subst (λ (p : meant.Partial). is_partial fs q p ≡ true) (sym h.lines) (merged_is fs q h.done done)

-- where groups can be added, groups have grown
groups_are : (w : Growth) (g : Growing) (t : ℕ) (m : GroupMap) → Grows w g → CanAdd w t (partial_of_groups m) → (n : GroupMap) × (g.grown ≡ Partial.Groups n)
groups_are w g t m h c = by_kind g.grown h.grown refl
  where
    by_kind : (p : Partial) → HasGrown w p g.subtrees.items g.waiting.items → g.grown ≡ p → (n : GroupMap) × (g.grown ≡ Partial.Groups n)
    by_kind (Partial.Lines r) k e = absurd (kinds_differ w.fields (grown_query w) _ (groups_view m) (lines_are w.fields (grown_query w) (plan_shape w.plan) w.places r g.waiting.items k h.partials) c.partial)
    by_kind (Partial.Groups n) k e = (n, e)

-- they lie below the root's children
have_piled : (w : Growth) (g : Growing) (none : GroupMap) → Grows w g → g.grown ≡ Partial.Groups none → HavePiled w none g.subtrees.items
have_piled w g none h e = subst (λ (p : Partial). HasGrown w p g.subtrees.items g.waiting.items) e h.grown

module _ (w : Growth) (g : Growing) (t : ℕ) (m : GroupMap) (h : Grows w g) (c : CanAdd w t (partial_of_groups m)) where
  -- the groups of no records
  abbrev none : GroupMap
  none = (groups_are w g t m h c).0

  have_so_far : HavePiled w none g.subtrees.items
  have_so_far = have_piled w g none h (groups_are w g t m h c).1

  -- those that are added may come last
  with_last : (n : ℕ) → CanBeTogether n (added (fill t (partial_view (partial_of_groups m)) w.places))
      → IsPile w.plan w.fields n (merged (grown_query w) (fill t (partial_view (partial_of_groups m)) w.places)) (all_piled g.subtrees.items ++ m ∷ [])
  with_last n f =
      let q = grown_query w in
      let d = together_apart n t (partial_view (partial_of_groups m)) w.places c.free f in
      subst (λ all. IsPile w.plan w.fields n all (all_piled g.subtrees.items ++ m ∷ [])) (sym (merged_fill w.fields q t (groups_view m) w.places c.partial h.partials c.free))
      (pile_append w.plan w.fields d.0 d.1 n (merged q w.places) (partial_view (partial_of_groups m)) (all_piled g.subtrees.items) (m ∷ []) d.2 (have_so_far.pile d.0 d.3)
      (pile_of_one w.plan w.fields d.1 m c.of_plan (c.partial, d.4)))

  pub can_merge : CanMerge (all_piled g.subtrees.items ++ m ∷ [])
  can_merge = (w.plan, w.fields, merged (grown_query w) (fill t (partial_view (partial_of_groups m)) w.places), with_last (2 ^ 60) c.room)

  pub some_child : 0 < length g.subtrees.items
  some_child = have_so_far.some

  pub groups_added : (new : Growing) → StaysPile (all_piled g.subtrees.items ++ m ∷ []) (all_piled new.subtrees.items) → length new.subtrees.items ≡ length g.subtrees.items → new.grown ≡ g.grown
      → Grows (with_added w t (partial_view (partial_of_groups m))) new
  groups_added new stays count is =
      let q = grown_query w in
      let r = partial_view (partial_of_groups m) in
      let still : new.grown ≡ Partial.Groups none = is ∙ (groups_are w g t m h c).1 in
      record {
        tablets = fill_tablets t r w.places ∙ h.tablets;
        partials = fill_is_of w.fields q t r w.places c.partial h.partials;
        room = c.room;
        of_plan = subst (IsPartialOf w.plan) (sym is) h.of_plan;
        grown = subst (λ (p : Partial). HasGrown (with_added w t r) p new.subtrees.items new.waiting.items) (sym still) (record {
          some = subst (λ k. 0 < k) (sym count) some_child;
          empty = have_so_far.empty;
          pile = λ n b. stays w.plan w.fields n (merged q (fill t r w.places)) (with_last n b);
        });
      }

-- where they were refused, all is as it was
pub groups_stay : (w : Growth) (g new : Growing) → Grows w g → all_piled new.subtrees.items ≡ all_piled g.subtrees.items → length new.subtrees.items ≡ length g.subtrees.items → new.grown ≡ g.grown
    → new.waiting.items ≡ g.waiting.items → Grows w new
groups_stay w g new h e count is same = record {
  tablets = h.tablets;
  partials = h.partials;
  room = h.room;
  of_plan = subst (IsPartialOf w.plan) (sym is) h.of_plan;
  grown = subst (λ (p : Partial). HasGrown w p new.subtrees.items new.waiting.items) (sym is) (by_kind g.grown h.grown);
}
  where
    by_kind : (p : Partial) → HasGrown w p g.subtrees.items g.waiting.items → HasGrown w p new.subtrees.items new.waiting.items
    by_kind (Partial.Lines r) k = subst (HaveGrown (grown_query w) (plan_shape w.plan) w.places r) (sym same) k
    by_kind (Partial.Groups m) k = record {
      some = subst (λ n. 0 < n) (sym count) k.some;
      empty = k.empty;
      pile = λ n b. subst (IsPile w.plan w.fields n (merged (grown_query w) w.places)) (sym e) (k.pile n b);
    }

-- ---- lines are added

-- lines that were kept at a place
kept : (q : Query) (s : ShapeTree) (ps : List Place) (r : RowsOut) (ws vs : List Waiting) (t : ℕ) (l : meant.Partial) → HaveGrown q s ps r ws → places_of vs ≡ fill t l (places_of ws) → AreShaped s vs
    → HaveGrown q s (fill t l ps) r vs
kept q s ps r ws vs t l h e k = record {
  done = h.done;
  split = ap (fill t l) h.split ∙ (fill_behind t l h.done (places_of ws) h.full ∙ ap (λ xs. h.done ++ xs) (sym e));
  full = h.full;
  lines = h.lines;
  shaped = k;
}

-- the first that waited were appended
moved : (q : Query) (s : ShapeTree) (ps : List Place) (r longer : RowsOut) (ws rest : List Waiting) → HaveGrown q s ps r ws → rows_shape r ≡ s → HaveMoved r ws longer rest → HaveGrown q s ps longer rest
moved q s ps r longer ws rest h i m = record {
  done = h.done ++ m.front;
  split = h.split ∙ (ap (λ xs. h.done ++ xs) m.split ∙ sym (append_assoc h.done m.front (places_of rest)));
  full = full_append h.done m.front h.full m.full;
  lines = m.lines ∙ (ap (λ (p : meant.Partial). fold merge p (added m.front)) h.lines
      ∙ (sym (fold-append merge (empty_partial q) (added h.done) (added m.front)) ∙ ap (fold merge (empty_partial q)) (sym (filter_map-append (λ (p : Place). p.piece) h.done m.front))));
  shaped = subst (λ (x : ShapeTree). AreShaped x rest) (m.shape ∙ i) (m.shaped (subst (λ (x : ShapeTree). AreShaped x ws) (sym i) h.shaped));
}

-- where lines can be added, lines have grown
lines_have : (w : Growth) (g : Growing) (t : ℕ) (l : RowsOut) → Grows w g → CanAdd w t (partial_of_lines l) → (r : RowsOut) × (g.grown ≡ Partial.Lines r)
lines_have w g t l h c = by_kind g.grown h.grown refl
  where
    by_kind : (p : Partial) → HasGrown w p g.subtrees.items g.waiting.items → g.grown ≡ p → (r : RowsOut) × (g.grown ≡ Partial.Lines r)
    by_kind (Partial.Lines r) k e = (r, e)
    by_kind (Partial.Groups n) k e = absurd (kinds_differ w.fields (grown_query w) _ (groups_view n) c.partial
        (ap (is_partial w.fields (grown_query w)) k.empty ∙ empty_is_partial w.fields (grown_query w)))

pub no_groups : (w : Growth) (g : Growing) (t : ℕ) (l : RowsOut) (n : GroupMap) → Grows w g → CanAdd w t (partial_of_lines l) → g.grown ≡ Partial.Groups n → ⊥
no_groups w g t l n h c e = differ (lines_have w g t l h c).0 n (sym (lines_have w g t l h c).1 ∙ e)
  where
    differ : (r : RowsOut) (n : GroupMap) → Partial.Lines r ≡ Partial.Groups n → ⊥
    differ r n h = cc

module _ (w : Growth) (g : Growing) (t : ℕ) (l r : RowsOut) where
  have : Grows w g → g.grown ≡ Partial.Lines r → HaveGrown (grown_query w) (plan_shape w.plan) w.places r g.waiting.items
  have h e = subst (λ (p : Partial). HasGrown w p g.subtrees.items g.waiting.items) e h.grown

  shape_is : Grows w g → g.grown ≡ Partial.Lines r → rows_shape r ≡ plan_shape w.plan
  shape_is h e = subst (IsPartialOf w.plan) e h.of_plan

  -- the lines that wait, with those that were kept, have the shape of what has grown
  pub kept_shaped : (vs : List Waiting) → Grows w g → CanAdd w t (partial_of_lines l) → g.grown ≡ Partial.Lines r
      → (AreShaped (rows_shape l) g.waiting.items → AreShaped (rows_shape l) vs) → AreShaped (rows_shape r) vs
  kept_shaped vs h c e k = subst (λ (x : ShapeTree). AreShaped x vs) (c.of_plan ∙ sym (shape_is h e))
      (k (subst (λ (x : ShapeTree). AreShaped x g.waiting.items) (sym c.of_plan) (have h e).shaped))

  pub lines_added : (vs : List Waiting) (new : Growing) (longer : RowsOut) → Grows w g → CanAdd w t (partial_of_lines l) → g.grown ≡ Partial.Lines r
      → places_of vs ≡ fill t (lines_of l) (places_of g.waiting.items) → (AreShaped (rows_shape l) g.waiting.items → AreShaped (rows_shape l) vs)
      → HaveMoved r vs longer new.waiting.items → new.grown ≡ Partial.Lines longer → Grows (with_added w t (lines_of l)) new
  lines_added vs new longer h c e p k m f =
      let q = grown_query w in
      let s = plan_shape w.plan in
      let now : AreShaped s vs = subst (λ (x : ShapeTree). AreShaped x vs) (shape_is h e) (kept_shaped vs h c e k) in
      record {
        tablets = fill_tablets t (lines_of l) w.places ∙ h.tablets;
        partials = fill_is_of w.fields q t (lines_of l) w.places c.partial h.partials;
        room = c.room;
        of_plan = subst (IsPartialOf w.plan) (sym f) (m.shape ∙ shape_is h e);
        grown = subst (λ (x : Partial). HasGrown (with_added w t (lines_of l)) x new.subtrees.items new.waiting.items) (sym f)
            (moved q s (fill t (lines_of l) w.places) r longer vs new.waiting.items (kept q s w.places r g.waiting.items vs t (lines_of l) (have h e) p now) (shape_is h e) m);
      }

-- ---- all is merged

pub finished_lines : (w : Growth) (g : Growing) (r all : RowsOut) → Grows w g → g.grown ≡ Partial.Lines r → lines_of all ≡ fold merge (lines_of r) (added (places_of g.waiting.items))
    → lines_of all ≡ merged (grown_query w) w.places
finished_lines w g r all h e f =
    let k = have w g 0 r r h e in
    f ∙ (ap (λ (p : meant.Partial). fold merge p (added (places_of g.waiting.items))) k.lines
    ∙ (sym (fold-append merge (empty_partial (grown_query w)) (added k.done) (added (places_of g.waiting.items)))
    ∙ ap (fold merge (empty_partial (grown_query w))) (sym (ap added k.split ∙ filter_map-append (λ (p : Place). p.piece) k.done (places_of g.waiting.items)))))

pub finished_shape : (w : Growth) (g : Growing) (r : RowsOut) → Grows w g → g.grown ≡ Partial.Lines r → AreShaped (rows_shape r) g.waiting.items
finished_shape w g r h e = subst (λ (x : ShapeTree). AreShaped x g.waiting.items) (sym (shape_is w g 0 r r h e)) (have w g 0 r r h e).shaped

module _ (w : Growth) (g : Growing) (none : GroupMap) (h : Grows w g) (e : g.grown ≡ Partial.Groups none) where
  have_all : IsPile w.plan w.fields (2 ^ 60) (merged (grown_query w) w.places) (all_piled g.subtrees.items)
  have_all = (have_piled w g none h e).pile (2 ^ 60) h.room

  pub can_finish : CanMerge (all_piled g.subtrees.items)
  can_finish = (w.plan, w.fields, merged (grown_query w) w.places, have_all)

  module _ (o : Option GroupMap) (f : StaysPile (all_piled g.subtrees.items) (option_to_list o)) where
    left : IsPile w.plan w.fields (2 ^ 60) (merged (grown_query w) w.places) (option_to_list o)
    left = f w.plan w.fields (2 ^ 60) (merged (grown_query w) w.places) have_all

    left_of : (p : Option GroupMap) → o ≡ p → IsPile w.plan w.fields (2 ^ 60) (merged (grown_query w) w.places) (option_to_list p)
    left_of p k = subst (λ (x : Option GroupMap). IsPile w.plan w.fields (2 ^ 60) (merged (grown_query w) w.places) (option_to_list x)) k left

    -- all that were added are merged
    pub finished_groups : (m : GroupMap) → o ≡ Some m → partial_view (partial_of_groups m) ≡ merged (grown_query w) w.places
    finished_groups m k = pile_alone w.plan w.fields (2 ^ 60) (merged (grown_query w) w.places) m (left_of (Some m) k)

    pub groups_of_plan : (m : GroupMap) → o ≡ Some m → IsPartialOf w.plan (partial_of_groups m)
    groups_of_plan m k = (one_of_pile w.plan w.fields (2 ^ 60) (merged (grown_query w) w.places) m (left_of (Some m) k)).0

    -- nothing was added
    pub finished_none : o ≡ None → partial_view (partial_of_groups none) ≡ merged (grown_query w) w.places
    finished_none k = (have_piled w g none h e).empty ∙ (left_of None k).merged

-- what is merged of all that were added is what the tree gathers
pub finished : (w : Growth) (g : Growing) (piece : ℕ → meant.Partial) (p : meant.Partial) → Grows w g → map piece (tablets_of w.tree) ≡ pieces_at (grown_query w) w.places
    → p ≡ merged (grown_query w) w.places → p ≡ gathered piece w.tree
finished w g piece p h e f = f ∙ sym (gathered_is_merged w.fields (grown_query w) piece w.tree w.places e h.partials)
