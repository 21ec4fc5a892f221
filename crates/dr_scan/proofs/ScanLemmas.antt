-- The partial of the records of a file's columns.
use Rattle.std.proofs.Common.{◌≡◌, ◌∙◌, ◌≤◌, inl, inr, ℕ, List, map, length, true, Option, Some, None, refl, sym, ap, subst, arith}
use Rattle.std.specs.List.{filter_map}
use Rattle.std.proofs.Math.Path.{fun_ext}
use Rattle.std.proofs.lemmas.List.Folds.{list_all-map}
use Rattle.dr_meaning.specs.Schema.{Schema, Fields}
use Rattle.dr_meaning.specs.Path.{Step, Leaf, paths_of_leaves}
use Rattle.dr_meaning.specs.Record.{Node, project}
use Rattle.dr_meaning.specs.Column.{Triplet, column}
use Rattle.dr_meaning.specs.Query.{Query, levels_of}
use Rattle.dr_meaning.specs.QueryLeaves.{query_leaves}
use Rattle.dr_formats.specs.File.{IsFileOf, most_rows, most_triplets}
use Rattle.dr_formats.specs.Writing.{triplet_count}
use Rattle.dr_outside.specs.Link.{Files, LinkShown, Lacks}
use Rattle.dr_outside.specs.Telling.{TellsFile}
use Rattle.dr_nested.specs.PathView.{path_view, paths_view}
use Rattle.dr_nested.specs.declared.path.Path.{Path}
use Rattle.dr_partials.specs.Partials.{Partial, partial_of, selected_partial, Stands}
use Rattle.dr_partials.specs.PartialTypes.{is_partial}
use Rattle.dr_partials.specs.PartialBounds.{PartialCanBeOf}
use Rattle.dr_partials.specs.Rewriting.{leaf_query}
use Rattle.dr_partials.proofs.RewritingLemmas.{leaf_has_partials, leaf_has_same_partials, leaf_uses_same_leaves}
use Rattle.dr_partials.proofs.TypedLemmas.{records_have_partials}
use Rattle.dr_partials.specs.Few.{sums_are_small, has_few}
use Rattle.dr_partials.specs.BoundLaws.{projections}
use Rattle.dr_partials.proofs.PartialBoundLemmas.{partial_of_few_projections}
use Rattle.dr_plan.specs.Planned.{Planned, planned, plan_view, plan_leaves, planned_query, IsOfSchema}
use Rattle.dr_plan.specs.Views.{selection_view}
use Rattle.dr_plan.specs.declared.plan.Plan.{Plan}
use Rattle.dr_scalar.proofs.ConditionLemmas.{condition_rejoined}
use Rattle.dr_scan.specs.FileRecords.{AreLeavesOf, AreColumnsOfFile, AreFew, IsFaultOf, are_short, assemble_fault, triplets_at}
use Rattle.dr_scan.proofs.FewLemmas.{few_assembled, counted_assembled}
use Rattle.dr_scan.proofs.UsedLeaves.{used_are_leaves}
use Rattle.dr_scan.proofs.RecordsLemmas.{paths_same, file_triplets}
use Rattle.dr_walk.specs.Walking.{HasColumns}
use Rattle.dr_walk.specs.declared.fault.AssembleFault.{AssembleFault}
use Rattle.dr_reading.specs.Held.{held_at, held_file, present}
use Rattle.dr_reading.specs.Scan.{Copy}
use Rattle.dr_scan.specs.Asked.{AsksForTablets}
use Rattle.dr_reading.specs.Truth.{StandsForFile, IsTrueOf, most_values}
use Rattle.dr_plan.specs.PlanOf.{IsPlanOf}
use Rattle.dr_scan.specs.OfColumns.{IsOfColumns, NoneHasLeaves}
use Rattle.dr_scan.specs.Scans.{StandsForBytes, StandsForRecords, truth_at}

-- ---- the leaves of a plan

pub leaves_are : (s : Schema) (q : Query) (p : Plan) → IsPlanOf s q p → plan_leaves p ≡ query_leaves s.fields q
leaves_are s q p h = ap (λ (x : Planned). x.leaves) h.2

-- what is asked for the plan's leaves is asked for the query's
pub asks_query : (s : Schema) (q : Query) (p : Plan) (ts : List (List Copy)) (l now : LinkShown) → IsPlanOf s q p → AsksForTablets (plan_leaves p) ts l now → AsksForTablets (query_leaves s.fields q) ts l now
asks_query s q p ts l now is h = subst (λ (F : List Leaf). AsksForTablets F ts l now) (leaves_are s q p is) h

-- they are leaves of the schema
pub plan_has_leaves : (s : Schema) (p : Plan) (ls : List Path) → IsOfSchema s p → ls ≡ p.leaves.items → AreLeavesOf s.fields (map path_view ls)
plan_has_leaves s p ls h e =
    subst (AreLeavesOf s.fields) (sym (ap (λ (x : Planned). x.leaves) h.3) ∙ ap (map path_view) (sym e)) (used_are_leaves s.fields h.1)

-- records with the columns of a plan's leaves are known by their projections to them
pub plan_projections : (s : Schema) (p : Plan) (cs : List (List Triplet)) (rows : ℕ) (R : List Node) → HasColumns s.fields (paths_of_leaves (plan_leaves p)) cs rows R
    → (S : List Node) × HasColumns s.fields (paths_view p.leaves.items) cs rows S × (projections (plan_leaves p) R ≡ map (project (paths_view p.leaves.items)) S)
plan_projections s p cs rows R h =
    let e : paths_of_leaves (plan_leaves p) ≡ paths_view p.leaves.items = sym (paths_same p.leaves.items) in
    (R, subst (λ (F : List (List Step)). HasColumns s.fields F cs rows R) e h, ap (λ (F : List (List Step)). map (project F) R) e)

-- ---- what the partial of columns is

-- a plan's condition, its conjuncts joined again, keeps what the query's does
partials_rejoined : (fs : Fields) (q : Query) (R : List Node) → partial_of fs (planned_query (planned fs q)) R ≡ partial_of fs q R
unfolding partial_of
partials_rejoined fs q R =
    ap (λ (f : Node → Option Node). selected_partial q.selection (levels_of fs) (filter_map f R)) (fun_ext (condition_rejoined q.condition))

pub partial_is : (s : Schema) (q : Query) (p : Plan) (R : List Node) (x : Partial) → IsPlanOf s q p → x ≡ partial_of s.fields (planned_query (plan_view p)) R → x ≡ partial_of s.fields q R
partial_is s q p R x is e = e ∙ (ap (λ (y : Planned). partial_of s.fields (planned_query y) R) is.2 ∙ partials_rejoined s.fields q R)

stands_for : (s : Schema) (q : Query) (R : List Node) (x : Partial) → x ≡ partial_of s.fields q R → Stands s.fields (leaf_query q) R x
unfolding Stands
stands_for s q R x e = e ∙ sym (leaf_has_partials s.fields q R)

pub gives_partial : (s : Schema) (q : Query) (p : Plan) (cs : List (List Triplet)) (rows : ℕ) (x : Partial) → IsPlanOf s q p → IsOfColumns s p cs rows x → is_partial s.fields (leaf_query q) x ≡ true
gives_partial s q p cs rows x is o =
    leaf_has_same_partials s.fields q x
    ∙ (ap (is_partial s.fields q) (partial_is s q p o.0 x is o.2) ∙ records_have_partials s is.0 q o.0 is.1 o.1.0)

pub stands_for_records : (s : Schema) (q : Query) (p : Plan) (cs : List (List Triplet)) (rows : ℕ) (x : Partial) → IsPlanOf s q p → IsOfColumns s p cs rows x → StandsForRecords s q x
stands_for_records s q p cs rows x is o = (o.0, o.1.0, stands_for s q o.0 x (partial_is s q p o.0 x is o.2))

-- ---- of a file

-- columns of leaves that are the plan's
pub of_plan_leaves : (bytes : List ℕ) (s : Schema) (p : Plan) (ls : List Path) (cs : List (List Triplet)) (rows : ℕ) → ls ≡ p.leaves.items → AreColumnsOfFile bytes s (map path_view ls) cs rows
    → AreColumnsOfFile bytes s (plan_leaves p) cs rows
of_plan_leaves bytes s p ls cs rows e f = subst (λ (ms : List Path). AreColumnsOfFile bytes s (map path_view ms) cs rows) e f

pub stands_for_bytes : (s : Schema) (q : Query) (p : Plan) (cs : List (List Triplet)) (rows : ℕ) (x : Partial) (bytes : List ℕ) → IsPlanOf s q p → IsOfColumns s p cs rows x → AreColumnsOfFile bytes s (plan_leaves p) cs rows
    → StandsForBytes s q bytes x
stands_for_bytes s q p cs rows x bytes is o f = (
  o.0,
  subst (λ (F : List Leaf). IsFileOf bytes s F o.0) (leaves_are s q p is) (f.file o.0 o.1),
  stands_for s q o.0 x (partial_is s q p o.0 x is o.2),
)

-- any records of which it is a file have as many triplets
pub columns_counted : (bytes : List ℕ) (s : Schema) (p : Plan) (cs : List (List Triplet)) (rows : ℕ) (x : Partial) (R : List Node) → IsOfColumns s p cs rows x → AreColumnsOfFile bytes s (plan_leaves p) cs rows
    → IsFileOf bytes s (plan_leaves p) R → triplet_count cs ≡ triplets_at (plan_leaves p) R
columns_counted bytes s p cs rows x R o f is =
    let P : List Node = projections (plan_leaves p) o.0 in
    counted_assembled s.fields p.leaves.items cs cs rows P (plan_projections s p cs rows o.0 o.1) refl
    ∙ file_triplets bytes s (plan_leaves p) P R (o.0, f.file o.0 o.1, refl) is

-- where no records have them, it is a file of none
pub columns_fault : (bytes : List ℕ) (s : Schema) (p : Plan) (cs : List (List Triplet)) (rows : ℕ) (e : AssembleFault) → AreColumnsOfFile bytes s (plan_leaves p) cs rows
    → (e ≡ AssembleFault.BadData → NoneHasLeaves s p cs rows) → IsFaultOf bytes s (plan_leaves p) (assemble_fault e)
columns_fault bytes s p cs rows AssembleFault.NoMemory f none = tt
columns_fault bytes s p cs rows AssembleFault.BadData f none = f.none (none refl)

-- ---- few values

few_of : (F : List Leaf) (P : List Node) → are_short (map (λ (l : Leaf). column l.path P) F) ≡ true → has_few most_values F P ≡ true
few_of F P h = sym (list_all-map (λ (ts : List Triplet). Rattle.std.specs.Prelude.nat_le (length ts) most_triplets) (λ (l : Leaf). column l.path P) F) ∙ h

pub gives_few : (s : Schema) (p : Plan) (cs : List (List Triplet)) (rows : ℕ) (x : Partial) → IsOfSchema s p → IsOfColumns s p cs rows x → are_short cs ≡ true → rows ≤ most_rows
    → sums_are_small (selection_view (plan_leaves p) p.selection) ≡ true → PartialCanBeOf most_values x
gives_few s p cs rows x h o short few small =
    let q : Query = h.1 in
    let is : IsPlanOf s q p = (h.0, h.2, h.3) in
    let F : List Leaf = query_leaves s.fields q in
    let fewer : AreFew (plan_leaves p) (projections (plan_leaves p) o.0) =
    few_assembled s.fields p.leaves.items cs cs rows (projections (plan_leaves p) o.0) (plan_projections s p cs rows o.0 o.1) refl short few in
    let own : AreFew F (projections F o.0) = subst (λ (G : List Leaf). AreFew G (projections G o.0)) (leaves_are s q p is) fewer in
    subst (PartialCanBeOf most_values) (sym (partial_is s q p o.0 x is o.2))
    (partial_of_few_projections s h.0 q o.0 most_values h.2 (sym (ap (λ (y : Planned). sums_are_small y.selection) h.3) ∙ small) o.1.0 (omega (arith, own.0)) (few_of F (projections F o.0) own.1))

-- ---- the truth of a tablet with one copy

one_held : (s : Schema) (q : Query) (held : Option Files) (path bytes : List ℕ) (x : Partial) → held_at held path ≡ present bytes → StandsForBytes s q bytes x → StandsForFile (truth_at s q held path) x
one_held s q held path bytes x e h = record {
  bytes = bytes;
  held = inl e;
  records = h.0;
  file = subst (λ (F : List Leaf). IsFileOf bytes s F h.0) (sym (leaf_uses_same_leaves s.fields q)) h.1;
  stands = h.2;
}

pub truth_is : (s : Schema) (q : Query) (held : Option Files) (path : List ℕ) (x : Partial) → is_partial s.fields (leaf_query q) x ≡ true → PartialCanBeOf most_values x
    → ((bytes : List ℕ) → TellsFile held path bytes → StandsForBytes s q bytes x) → (Lacks held path → ⊥) → IsTrueOf (truth_at s q held path) x
truth_is s q None path x h b stands none = record { partial = h; bounded = b; file = inr (inl refl) }
truth_is s q (Some files) path x h b stands none = by_bytes (files path) refl
  where
    by_bytes : (o : Option (List ℕ)) → files path ≡ o → IsTrueOf (truth_at s q (Some files) path) x
    by_bytes None e = absurd (none e)
    by_bytes (Some bytes) e = record { partial = h; bounded = b; file = inl (one_held s q (Some files) path bytes x (ap held_file e) (stands bytes e)) }
