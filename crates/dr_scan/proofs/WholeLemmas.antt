-- Columns that are there as a whole, and are those of records.
use Rattle.std.proofs.Common.{◌≡◌, ◌∙◌, ◌≤◌, ℕ, zero, suc, List, [], ◌∷◌, length, map, Bool, true, refl, sym, ap, subst, arith}
use Rattle.std.specs.Prelude.{Result, Ok, Err}
use Rattle.std.proofs.lemmas.List.{length-map}
use Rattle.dr_meaning.specs.Schema.{Schema, Fields}
use Rattle.dr_meaning.specs.Path.{Step, Leaf, paths_of_leaves}
use Rattle.dr_meaning.specs.Record.{Node, project}
use Rattle.dr_meaning.specs.Column.{Triplet, column}
use Rattle.dr_meaning.specs.Query.{Query}
use Rattle.dr_meaning.specs.MeaningLaws.{covers}
use Rattle.dr_meaning.proofs.ColumnLemmas.{columns_determine}
use Rattle.dr_partials.specs.Partials.{Partial, partial_of}
use Rattle.dr_partials.proofs.BoundLemmas.{bound_leaves_are_enough}
use Rattle.dr_partials.proofs.ProjectedLemmas.{partial_of_projection}
use Rattle.dr_meaning.specs.Walk.{Move}
use Rattle.dr_levels.specs.Views.{triplets_view}
use Rattle.dr_levels.specs.declared.triplets.Triplets.{Triplets}
use Rattle.dr_moves.specs.Leading.{Left, columns_of}
use Rattle.dr_beside.specs.Neighbours.{EachAlone}
use Rattle.dr_beside.proofs.NeighbourLemmas.{mapped_at}
use Rattle.dr_columns.specs.Taken.{AreAlone}
use Rattle.dr_plan.specs.Planned.{IsOfSchema, plan_leaves, plan_view, planned_query}
use Rattle.dr_plan.specs.PlanOf.{IsPlanOf}
use Rattle.dr_plan.specs.declared.plan.Plan.{Plan}
use Rattle.dr_walk.specs.Checking.{rest_at}
use Rattle.dr_walk.specs.Walking.{HasColumns}
use Rattle.dr_walk.specs.declared.fault.AssembleFault.{AssembleFault}
use Rattle.dr_walk.specs.declared.level_walk.LevelWalk.{LevelWalk}
use Rattle.dr_within.specs.Rows.{HasLast, HasRead}
use Rattle.dr_within.specs.declared.last_read.LastRead.{LastRead}
use Rattle.dr_within.specs.declared.row.Row.{Row}
use Rattle.dr_scan.specs.OfColumns.{IsOfAll}
use Rattle.dr_scan.specs.Streamed.{IsStreamed, IsScanned, IsWholeScan, EndsStretch}
use Rattle.dr_scan.specs.Wholes.{IsBeforeAll, EndsWhole}
use Rattle.dr_scan.specs.declared.stretch.Stretch.{Stretch}
use Rattle.dr_scan.specs.declared.making.Making.{Making}
use Rattle.dr_scan.proofs.LeafLemmas.{plan_leaf_paths}
use Rattle.dr_scan.proofs.ScanLemmas.{leaves_are, partial_is}
use Rattle.dr_scan.proofs.Tabulated.{tabulated, tabulated_of}

-- each column is one of these records
each_alone : (fs : Fields) (F : List (List Step)) (C : List (List Triplet)) (n : ℕ) (R : List Node) → HasColumns fs F C n R → EachAlone fs F C n
each_alone fs F C n R h i p is = (R, (h.0, h.1, ap (λ (c : List Triplet). c ∷ []) (mapped_at (λ (q : List Step). column q R) F C i p h.2 is)))

pub are_alone : (s : Schema) (p : Plan) (C : List (List Triplet)) (n : ℕ) (R : List Node) → HasColumns s.fields (paths_of_leaves (plan_leaves p)) C n R → AreAlone s p C n
are_alone s p C n R h = (
  sym (length-map (paths_of_leaves (plan_leaves p)) (λ (q : List Step). column q R)) ∙ ap length h.2,
  each_alone s.fields (paths_of_leaves (plan_leaves p)) C n R h,
)

-- a plan has the same partial of all records with some columns at its leaves
pub same_partials : (s : Schema) (p : Plan) (C : List (List Triplet)) (n : ℕ) (R S : List Node) → IsOfSchema s p → HasColumns s.fields (paths_of_leaves (plan_leaves p)) C n R
    → HasColumns s.fields (paths_of_leaves (plan_leaves p)) C n S → partial_of s.fields (planned_query (plan_view p)) R ≡ partial_of s.fields (planned_query (plan_view p)) S
same_partials s p C n R S h r t =
    let q : Query = h.1 in
    let is : IsPlanOf s q p = (h.0, h.2, h.3) in
    let F : List (List Step) = paths_of_leaves (plan_leaves p) in
    let enough : covers F q ≡ true = subst (λ (L : List Leaf). covers (paths_of_leaves L) q ≡ true) (sym (leaves_are s q p is)) (bound_leaves_are_enough s h.0 q h.2) in
    let same : map (project F) R ≡ map (project F) S = columns_determine s.fields F (plan_leaf_paths s p h) R S r.0 t.0 (r.1 ∙ sym t.1) (r.2 ∙ sym t.2) in
    partial_is s q p R (partial_of s.fields (planned_query (plan_view p)) R) is refl
    ∙ (sym (partial_of_projection s.fields q F R enough) ∙ (ap (partial_of s.fields q) same
    ∙ (partial_of_projection s.fields q F S enough ∙ sym (partial_is s q p S (partial_of s.fields (planned_query (plan_view p)) S) is refl))))

pub of_all : (s : Schema) (p : Plan) (C : List (List Triplet)) (n : ℕ) (R : List Node) (x : Partial) → IsOfSchema s p → HasColumns s.fields (paths_of_leaves (plan_leaves p)) C n R
    → x ≡ partial_of s.fields (planned_query (plan_view p)) R → IsOfAll s p C n x
of_all s p C n R x h r e S t = e ∙ same_partials s p C n R S h r t

-- the columns of a walk that gave all are these
pub whole_have : (s : Schema) (p : Plan) (C : List (List Triplet)) (n : ℕ) (ended : List Bool) (m : Making) → length C ≡ length (plan_leaves p) → (w : IsWholeScan s p n (columns_of C) ended m)
    → HasColumns s.fields (paths_of_leaves (plan_leaves p)) C n w.records
whole_have s p C n ended m k w =
    let same : w.columns ≡ C =
    tabulated_of w.columns (columns_of C) w.given_all.1
    ∙ (ap (λ (j : ℕ). tabulated j (columns_of C)) (w.given_all.0 ∙ sym k) ∙ sym (tabulated_of C (columns_of C) (λ i. refl))) in
    subst (λ (D : List (List Triplet)). HasColumns s.fields (paths_of_leaves (plan_leaves p)) D n w.records) same w.have

-- nothing is behind the last of them
pub none_past : (C : List (List Triplet)) (n i : ℕ) → length C ≡ n → n ≤ i → columns_of C i ≡ []
none_past [] n i e l = refl
none_past (c ∷ C) n zero e l = absurd (omega (arith, e, l))
none_past (c ∷ C) n (suc i) e l = none_past C (length C) i refl (omega (arith, e, l))

-- as many as the plan has leaves
pub as_many : (s : Schema) (p : Plan) (C : List (List Triplet)) (n : ℕ) (R : List Node) → HasColumns s.fields (paths_of_leaves (plan_leaves p)) C n R → length C ≡ length (plan_leaves p)
as_many s p C n R h = sym (are_alone s p C n R h).0 ∙ length-map (plan_leaves p) (λ (l : Leaf). l.path)

-- a walk over all of them
pub scanned_whole : (s : Schema) (p : Plan) (rows : ℕ) (w : LevelWalk) (cs : List (List Triplet)) (m : Making) (r : LastRead) (ended : List Bool) (rests : List Triplets) (row : Row) → IsBeforeAll s p rows w cs m r
    → map triplets_view rests ≡ cs → ((n : ℕ) (ms : List Move) → HasLast n ms r → HasRead n ms row) → IsScanned s p rows (columns_of cs) ended [] w (rest_at rests) m row
scanned_whole s p rows w cs m r ended rests row h e lent = record {
  streamed = subst (λ (xs : List (List Triplet)). IsStreamed s p rows (columns_of cs) ended [] w (columns_of xs)) (sym e) (h.streamed ended);
  makes = h.makes;
  reads = lent (length (plan_leaves p)) [] h.reads;
}

pub ends_whole : (s : Schema) (p : Plan) (rows : ℕ) (cs : List (List Triplet)) (ended : List Bool) (w : LevelWalk) (here : Left) (m : Making) (row : Row) (x : Result Stretch AssembleFault)
    → EndsStretch s p rows (columns_of cs) ended w here m row x → EndsWhole s p rows cs m x
ends_whole s p rows cs ended w here m row (Ok Stretch.Ended) h = (ended, h)
ends_whole s p rows cs ended w here m row (Ok (Stretch.Wants i)) h = tt
ends_whole s p rows cs ended w here m row (Err e) h = tt
