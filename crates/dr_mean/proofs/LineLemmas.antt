-- What is known of a record whose object is made.
use Rattle.std.specs.Prelude.{◌≡◌, ◌<◌, ◌≤◌, ◌+◌, ℕ, zero, suc, get_or, is_some, if◌then◌else◌, List, [], ◌∷◌, ◌++◌, length, map, drop, Bool, true, false, ◌&&◌, Option, Some, None}
use Rattle.std.specs.List.{list_all, filter_map, cons_option}
use Rattle.std.proofs.Common.{refl, sym, ap, ◌∙◌, subst, arith}
use Rattle.std.proofs.lemmas.Bool.{and_parts}
use Rattle.dr_meaning.specs.Schema.{Fields}
use Rattle.dr_meaning.specs.Record.{Node, project}
use Rattle.dr_meaning.specs.Query.{RecordItem, Object}
use Rattle.dr_nested.specs.Views.{node_view}
use Rattle.dr_nested.specs.declared.record.Node.{Node as RecordNode}
use Rattle.std.proofs.lemmas.List.{drop_more}
use Rattle.dr_cells.specs.Results.{ResultCell, result_cells}
use Rattle.dr_mean.proofs.ItemLemmas.{joined_more}
use Rattle.dr_meaning.specs.BindingLaws.{has_shapes}
use Rattle.dr_meaning.proofs.HasShapesLemmas.{kept_have_shapes}
use Rattle.dr_nested.specs.declared.path.Path.{Path}
use Rattle.dr_plan.specs.Conjuncts.{all_of}
use Rattle.dr_plan.specs.Objects.{ObjectTree, tree_object}
use Rattle.dr_plan.specs.declared.plan.Plan.{Plan}
use Rattle.dr_plan.specs.declared.plan.RecordItem.{RecordItem as PlanItem}
use Rattle.dr_rows.specs.Known.{Known, known}
use Rattle.dr_rows.specs.Pruning.{kept_if}
use Rattle.dr_mean.specs.Condition.{plan_tests}
use Rattle.dr_mean.specs.RowsOf.{IsTyped, IsRow}
use Rattle.dr_mean.specs.Lines.{Selects, plan_kept, plan_projections, kept_cells}
use Rattle.dr_nested.specs.PathView.{paths_view}

pub alone : (fields : Fields) (n : Node) → list_all (has_shapes fields) (n ∷ []) ≡ true → has_shapes fields n ≡ true
alone fields n h =
    let b : (has_shapes fields n ≡ true) × (true ≡ true) = and_parts _ _ h in b.0

pub typed_of : (p : Plan) (ls : List Path) (items : List PlanItem) (o : ObjectTree) (n : Node) → Selects p ls items o (n ∷ []) → IsTyped ls n
typed_of p ls items o n s = record { fields = s.fields; query = s.query; used = s.used; shapes = alone s.fields n s.shapes }

-- the one row of a record
first_of : (k l : Known) (ks ms : List Known) → ks ≡ k ∷ [] → drop 0 ks ≡ l ∷ ms → l ≡ k
first_of k l ks ms e g = let h : k ∷ [] ≡ l ∷ ms = sym e ∙ g in cc

pub whole_row : (p : Plan) (ls : List Path) (items : List PlanItem) (o : ObjectTree) (n : Node) (ks ms : List Known) (k : Known) → Selects p ls items o (n ∷ [])
    → ks ≡ known (paths_view ls) [] n ∷ [] → drop 0 ks ≡ k ∷ ms → IsRow ls [] k n
whole_row p ls items o n ks ms k s e g = record { typed = typed_of p ls items o n s; cut = refl; is = first_of (known (paths_view ls) [] n) k ks ms e g }

pub selects_as : (p : Plan) (ls : List Path) (items : List PlanItem) (o : ObjectTree) (x y : Node) → x ≡ y → Selects p ls items o (y ∷ []) → Selects p ls items o (x ∷ [])
selects_as p ls items o x y e s = record { same = s.same; fields = s.fields; query = s.query; used = s.used; nested = s.nested; shapes = ap (λ (z : Node). list_all (has_shapes s.fields) (z ∷ [])) e ∙ s.shapes }

-- ---- what is left

pub is_kept : (b : Bool) (n : Node) (o : Option Node) → b ≡ true → kept_if b n ≡ o → o ≡ Some n
is_kept true n o h e = sym e
is_kept false n o h e = cc

pub selects_kept : (p : Plan) (ls : List Path) (items : List PlanItem) (o : ObjectTree) (n m : Node) → plan_kept p n ≡ Some m → Selects p ls items o (n ∷ []) → Selects p ls items o (m ∷ [])
selects_kept p ls items o n m e s =
    record {
      same = s.same;
      fields = s.fields;
      query = s.query;
      used = s.used;
      nested = s.nested;
      shapes = ap (λ (b : Bool). b && true) (kept_have_shapes s.fields (all_of (plan_tests p)) n m e (alone s.fields n s.shapes));
    }

-- of which the plan has the leaves
pub plan_typed : (p : Plan) (ls : List Path) (items : List PlanItem) (o : ObjectTree) (n : Node) → Selects p ls items o (n ∷ []) → IsTyped p.leaves.items n
plan_typed p ls items o n s = subst (λ (x : List Path). IsTyped x n) s.same (typed_of p ls items o n s)

-- ---- records one after another

-- the objects of what is left of nodes
abbrev pub made : Plan → List RecordItem → ObjectTree → List Node → List Object
made p items o ns = map (tree_object items o) (filter_map (plan_kept p) ns)

one_made : (items : List RecordItem) (o : ObjectTree) (x : Option Node) (ns : List Node) → kept_cells items o x ++ result_cells (map (tree_object items o) ns) ≡ result_cells (map (tree_object items o) (cons_option x ns))
one_made items o None ns = refl
one_made items o (Some n) ns = refl

one_counted : (x : Option Node) (ns : List Node) → (if is_some x then 1 else 0) + length ns ≡ length (cons_option x ns)
one_counted None ns = omega arith
one_counted (Some n) ns = omega arith

pub projections_next : (p : Plan) (ns : List RecordNode) (k : ℕ) (n : RecordNode) → k < length ns → n ≡ get_or ns k n
    → plan_projections p (drop k ns) ≡ project (paths_view p.leaves.items) (node_view n) ∷ plan_projections p (drop (k + 1) ns)
projections_next p ns k n h g = ap (plan_projections p) (drop_more ns k n h ∙ ap (λ (m : RecordNode). m ∷ drop (k + 1) ns) (sym g))

pub cells_more : (p : Plan) (items : List RecordItem) (o : ObjectTree) (ns : List RecordNode) (k : ℕ) (n : RecordNode) (before now : List ResultCell) → k < length ns → n ≡ get_or ns k n
    → now ≡ before ++ kept_cells items o (plan_kept p (project (paths_view p.leaves.items) (node_view n)))
    → now ++ result_cells (made p items o (plan_projections p (drop (k + 1) ns))) ≡ before ++ result_cells (made p items o (plan_projections p (drop k ns)))
cells_more p items o ns k n before now h g e =
    let x = plan_kept p (project (paths_view p.leaves.items) (node_view n)) in
    let later = filter_map (plan_kept p) (plan_projections p (drop (k + 1) ns)) in
    joined_more before now (kept_cells items o x) (result_cells (map (tree_object items o) later)) e
    ∙ ap (λ (cs : List ResultCell). before ++ cs) (one_made items o x later)
    ∙ ap (λ (ms : List Node). before ++ result_cells (made p items o ms)) (sym (projections_next p ns k n h g))

pub count_more : (p : Plan) (ns : List RecordNode) (k : ℕ) (n : RecordNode) (count more : ℕ) (b : Bool) → k < length ns → n ≡ get_or ns k n
    → b ≡ is_some (plan_kept p (project (paths_view p.leaves.items) (node_view n))) → more ≡ count + (if b then 1 else 0)
    → more + length (filter_map (plan_kept p) (plan_projections p (drop (k + 1) ns))) ≡ count + length (filter_map (plan_kept p) (plan_projections p (drop k ns)))
count_more p ns k n count more b h g e f =
    let x = plan_kept p (project (paths_view p.leaves.items) (node_view n)) in
    let later = filter_map (plan_kept p) (plan_projections p (drop (k + 1) ns)) in
    let one : (if is_some x then 1 else 0) + length later ≡ length (cons_option x later) = one_counted x later in
    let same : length (filter_map (plan_kept p) (plan_projections p (drop k ns))) ≡ length (cons_option x later) = ap (λ (ms : List Node). length (filter_map (plan_kept p) ms)) (projections_next p ns k n h g) in
    let added : more ≡ count + (if is_some x then 1 else 0) = f ∙ ap (λ (c : Bool). count + (if c then 1 else 0)) e in
    omega arith

pub selects_drop : (p : Plan) (ls : List Path) (items : List PlanItem) (o : ObjectTree) (ns : List RecordNode) (k : ℕ) (n : RecordNode) → k < length ns → n ≡ get_or ns k n
    → Selects p ls items o (plan_projections p ns) → Selects p ls items o (plan_projections p (n ∷ []))
selects_drop p ls items o ns k n h g s =
    record {
      same = s.same;
      fields = s.fields;
      query = s.query;
      used = s.used;
      nested = s.nested;
      shapes = ap (λ (b : Bool). b && true) (all_at p s.fields ns k n h g s.shapes);
    }
  where
    all_at : (q : Plan) (fs : Fields) (ms : List RecordNode) (j : ℕ) (m : RecordNode) → j < length ms → m ≡ get_or ms j m → list_all (has_shapes fs) (plan_projections q ms) ≡ true
        → has_shapes fs (project (paths_view q.leaves.items) (node_view m)) ≡ true
    all_at q fs [] j m i e t = absurd (omega arith)
    all_at q fs (l ∷ ms) zero m i e t =
        let d : (has_shapes fs (project (paths_view q.leaves.items) (node_view l)) ≡ true) × (list_all (has_shapes fs) (plan_projections q ms) ≡ true) = and_parts _ _ t in
        ap (λ (x : RecordNode). has_shapes fs (project (paths_view q.leaves.items) (node_view x))) e ∙ d.0
    all_at q fs (l ∷ ms) (suc j) m i e t =
        let d : (has_shapes fs (project (paths_view q.leaves.items) (node_view l)) ≡ true) × (list_all (has_shapes fs) (plan_projections q ms) ≡ true) = and_parts _ _ t in
        all_at q fs ms j m (omega arith) e d.1

pub within_one : (b : Bool) (count one k : ℕ) → count ≤ k → one ≡ (if b then 1 else 0) → count + one ≤ k + 1
within_one true count one k h e = omega arith
within_one false count one k h e = omega arith
