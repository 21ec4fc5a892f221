-- What is put of the rows of a leaf at which a plan's aggregates take is what their readings put of records.
use Rattle.std.proofs.Common.{◌≡◌, ℕ, suc, List, [], ◌∷◌, ◌++◌, map, length, Bool, true, false, Option, Some, None, refl, sym, ap, ap₂, subst, ◌∙◌}
use Rattle.std.specs.Prelude.{if◌then◌else◌}
use Rattle.std.specs.List.{list_all, slice_get, flat_map, filter_map, cons_option}
use Rattle.std.proofs.lemmas.Bool.{and_parts, eqb-true}
use Rattle.dr_meaning.specs.Schema.{Fields}
use Rattle.dr_meaning.specs.Path.{Step, Leaf, paths_of_leaves, chain_end}
use Rattle.dr_meaning.specs.Record.{Node, is_record}
use Rattle.dr_meaning.specs.Rows.{rows}
use Rattle.dr_meaning.specs.Expression.{Expression, evaluate}
use Rattle.dr_meaning.specs.Kept.{kept}
use Rattle.dr_meaning.specs.MeaningLaws.{group_term_paths}
use Rattle.dr_meaning.specs.Query.{GroupTerm}
use Rattle.dr_meaning.specs.BindingLaws.{has_shapes}
use Rattle.dr_meaning.proofs.HasShapesLemmas.{records_have_shapes, rows_have_shapes, kept_have_shapes}
use Rattle.std.proofs.lemmas.List.Folds.{list_all-append}
use Rattle.std.proofs.lemmas.Bool.{and_from}
use Rattle.dr_partials.specs.PartialLaws.{all_related}
use Rattle.dr_partials.specs.Putting.{Put, puts_of_rows}
use Rattle.dr_partials.proofs.RowLemmas.{Each}
use Rattle.dr_made_laws.specs.LastRead as last_read
use Rattle.dr_plan.specs.Fitting.{aggregate_fits, expr_fits, is_summed}
use Rattle.dr_plan.specs.Views.{path_of, expr_view, aggregate_view}
use Rattle.dr_plan.specs.declared.aggregate.Aggregate.{Aggregate}
use Rattle.dr_scalar.specs.Leaves.{expr_leaves}
use Rattle.dr_scalar.specs.LeafLaws.{are_typed}
use Rattle.dr_scalar.proofs.LeafPathLemmas.{leaves_are_paths}
use Rattle.dr_condition.proofs.LeavesBelow.{are_below, both_below, leaves_below}
use Rattle.dr_condition.proofs.ReadRows.{same_paths, rows_typed, AreLeavesOf}
use Rattle.std.proofs.lemmas.List.{map-append}
use Rattle.dr_partials.specs.Readings.{puts_of_reading, puts_of_groups}
use Rattle.dr_rows_beside.specs.declared.source.Beside.{Beside}
use Rattle.dr_rows_beside.specs.Rows.{Row}
use Rattle.dr_rows_beside.specs.RecordRows.{AreBeside}
use Rattle.dr_rows_beside.specs.Slots.{EachSlot}
use Rattle.dr_rows_beside.specs.Sources.{AreReadBeside, all_beside, AreOnItsChain}
use Rattle.dr_columns.specs.RowPuts.{paths_at, groups_in}
use Rattle.dr_columns.specs.Takings.{Take, aggregate_leaves, taken_at, same_leaf, takings_at, read_of, taking_puts, read_puts}
use Rattle.dr_columns.specs.ChunksTaken.{ReadsRows}
use Rattle.dr_agreement.proofs.OutlinedLemmas.{same_at}
use Rattle.dr_columns.proofs.RowPutLemmas.{puts_of_read}
use Rattle.dr_rows_beside.proofs.SourceLemmas.{sources_are_beside}
use Rattle.dr_columns.proofs.SourceReadLemmas.{AreInOrder, IsLastOf, last_of, reading_of, reading_by, chain_read}

-- ---- rows of nodes with the schema's shapes are typed, and so is what is left of records

pub left_shaped : (fs : Fields) (c : Option Expression) (R : List Node) → list_all (is_record fs) R ≡ true → list_all (has_shapes fs) (filter_map (kept c) R) ≡ true
left_shaped fs c [] h = refl
left_shaped fs c (n ∷ R) h =
    let w : (is_record fs n ≡ true) × (list_all (is_record fs) R ≡ true) = and_parts _ _ h in
    by_kept (kept c n) refl (records_have_shapes fs n w.0) (left_shaped fs c R w.1)
  where
    by_kept : (o : Option Node) → kept c n ≡ o → has_shapes fs n ≡ true → list_all (has_shapes fs) (filter_map (kept c) R) ≡ true → list_all (has_shapes fs) (cons_option o (filter_map (kept c) R)) ≡ true
    by_kept None e s r = r
    by_kept (Some m) e s r = and_from _ _ (kept_have_shapes fs c n m e s) r

pub records_shaped : (fs : Fields) (R : List Node) → list_all (is_record fs) R ≡ true → list_all (has_shapes fs) R ≡ true
records_shaped fs [] h = refl
records_shaped fs (n ∷ R) h =
    let w : (is_record fs n ≡ true) × (list_all (is_record fs) R ≡ true) = and_parts _ _ h in
    and_from _ _ (records_have_shapes fs n w.0) (records_shaped fs R w.1)

all_shaped : (fs : Fields) (p : List Step) (R : List Node) → list_all (has_shapes fs) R ≡ true → list_all (has_shapes fs) (flat_map (rows p) R) ≡ true
all_shaped fs p [] h = refl
all_shaped fs p (n ∷ R) h =
    let w : (has_shapes fs n ≡ true) × (list_all (has_shapes fs) R ≡ true) = and_parts _ _ h in
    list_all-append (has_shapes fs) (rows p n) (flat_map (rows p) R) ∙ and_from _ _ (rows_have_shapes fs p n w.0) (all_shaped fs p R w.1)

all_typed : (fs : Fields) (ls : List Leaf) → AreLeavesOf fs ls → (N : List Node) → list_all (has_shapes fs) N ≡ true → list_all (are_typed ls) N ≡ true
all_typed fs ls o [] h = refl
all_typed fs ls o (n ∷ N) h =
    let w : (has_shapes fs n ≡ true) × (list_all (has_shapes fs) N ≡ true) = and_parts _ _ h in
    and_from _ _ (rows_typed fs ls o n w.0) (all_typed fs ls o N w.1)

pub typed_rows : (fs : Fields) (ls : List Leaf) → AreLeavesOf fs ls → (p : List Step) (R : List Node) → list_all (has_shapes fs) R ≡ true → list_all (are_typed ls) (flat_map (rows p) R) ≡ true
typed_rows fs ls o p R h = all_typed fs ls o (flat_map (rows p) R) (all_shaped fs p R h)

-- ---- a plan of groups

-- keys, and aggregates whose paths are related to theirs
pub record AreGroupsOf (fs : Fields) (ls : List Leaf) (ks : List ℕ) (A : List Aggregate) : Type 0 where
  pub leaves : AreLeavesOf fs ls
  pub keyed : are_below ls ks ≡ true
  pub fit : list_all (aggregate_fits ls) A ≡ true
  pub keys_related : all_related (paths_at ls ks) ≡ true
  pub each_related : list_all (λ (t : GroupTerm). all_related (paths_at ls ks ++ group_term_paths t)) (map (aggregate_view ls) A) ≡ true

-- ---- leaves on a chain

pub chain_parts : (F : List (List Step)) (p : List Step) (js ks : List ℕ) → AreOnItsChain F p (js ++ ks) → AreOnItsChain F p js × AreOnItsChain F p ks
chain_parts F p [] ks h = (tt, h)
chain_parts F p (j ∷ js) ks h = let w : AreOnItsChain F p js × AreOnItsChain F p ks = chain_parts F p js ks h.1 in ((h.0, w.0), w.1)

chain_both : (F : List (List Step)) (p : List Step) (js ks : List ℕ) → AreOnItsChain F p js → AreOnItsChain F p ks → AreOnItsChain F p (js ++ ks)
chain_both F p [] ks h g = g
chain_both F p (j ∷ js) ks h g = (h.0, chain_both F p js ks h.1 g)

beside_parts : (leaf : ℕ) (bs : List Beside) (js ks : List ℕ) → AreReadBeside leaf bs (js ++ ks) → AreReadBeside leaf bs js × AreReadBeside leaf bs ks
beside_parts leaf bs [] ks h = (tt, h)
beside_parts leaf bs (j ∷ js) ks h = let w : AreReadBeside leaf bs js × AreReadBeside leaf bs ks = beside_parts leaf bs js ks h.1 in ((h.0, w.0), w.1)

same_is : (o : Option ℕ) (k : ℕ) → same_leaf o (Some k) ≡ true → o ≡ Some k
same_is None k e = absurd (cc)
same_is (Some j) k e = ap Some (eqb-true j k e)

module _ (fs : Fields) (ls : List Leaf) (ks : List ℕ) (k : ℕ) (p : List Step) (o : AreInOrder fs (paths_of_leaves ls)) (e : slice_get (paths_of_leaves ls) k ≡ Some p) where
  abbrev F : List (List Step)
  F = paths_of_leaves ls

  -- what is taken at this leaf: its rows are those of the chain, and what it reads is on it
  abbrev pub IsTakenHere : Take → Type 0
  IsTakenHere t = (chain_end p ≡ (reading_of ls ks t).chain) × AreOnItsChain F p (ks ++ aggregate_leaves t.aggregate) × (aggregate_fits ls t.aggregate ≡ true)

  fitting_below : (a : Aggregate) → aggregate_fits ls a ≡ true → are_below ls (aggregate_leaves a) ≡ true
  fitting_below Aggregate.Rows h = refl
  fitting_below (Aggregate.Of f x) h = leaves_below ls x (and_parts (expr_fits ls x) (is_summed f x) h).0

  related_with : (a : Aggregate) → all_related (paths_at ls ks ++ group_term_paths (aggregate_view ls a)) ≡ true → all_related (last_read.paths_at F (ks ++ aggregate_leaves a)) ≡ true
  related_with Aggregate.Rows h = ap all_related (same_paths ls (ks ++ []) ∙ map-append (λ j. path_of (slice_get ls j)) ks []) ∙ h
  related_with (Aggregate.Of f x) h =
      ap all_related (same_paths ls (ks ++ expr_leaves x) ∙ (map-append (λ j. path_of (slice_get ls j)) ks (expr_leaves x) ∙ ap (λ (ps : List (List Step)). paths_at ls ks ++ ps) (leaves_are_paths ls x))) ∙ h

  taken_here : (i : ℕ) (a : Aggregate) → are_below ls ks ≡ true → aggregate_fits ls a ≡ true → all_related (paths_at ls ks ++ group_term_paths (aggregate_view ls a)) ≡ true → taken_at ks a ≡ Some k
      → IsTakenHere (record { number = i; aggregate = a })
  taken_here i a b f r g =
      let w : IsLastOf F (ks ++ aggregate_leaves a) k = last_of fs ls o (ks ++ aggregate_leaves a) k (both_below ls ks (aggregate_leaves a) b (fitting_below a f)) (related_with a r) g in
      let same : w.path ≡ p = same_at F k w.path p w.is_path e in
      (ap chain_end (sym same) ∙ (w.longest ∙ chain_read ls ks i a), subst (λ (q : List Step). AreOnItsChain F q (ks ++ aggregate_leaves a)) same w.on_it, f)

  pub all_taken_here : (i : ℕ) (A : List Aggregate) → are_below ls ks ≡ true → list_all (aggregate_fits ls) A ≡ true
      → list_all (λ (t : GroupTerm). all_related (paths_at ls ks ++ group_term_paths t)) (map (aggregate_view ls) A) ≡ true → Each IsTakenHere (takings_at ks (Some k) i A)
  all_taken_here i [] b f r = tt
  all_taken_here i (a ∷ A) b f r =
      let v : (aggregate_fits ls a ≡ true) × (list_all (aggregate_fits ls) A ≡ true) = and_parts _ _ f in
      let w = and_parts (all_related (paths_at ls ks ++ group_term_paths (aggregate_view ls a))) (list_all (λ (t : GroupTerm). all_related (paths_at ls ks ++ group_term_paths t)) (map (aggregate_view ls) A)) r in
      by_test (same_leaf (taken_at ks a) (Some k)) refl v.0 w.0 (all_taken_here (suc i) A b v.1 w.1)
    where
      by_test : (c : Bool) → same_leaf (taken_at ks a) (Some k) ≡ c → aggregate_fits ls a ≡ true → all_related (paths_at ls ks ++ group_term_paths (aggregate_view ls a)) ≡ true
          → Each IsTakenHere (takings_at ks (Some k) (suc i) A) → Each IsTakenHere (if c then record { number = i; aggregate = a } ∷ takings_at ks (Some k) (suc i) A else takings_at ks (Some k) (suc i) A)
      by_test true g x y t = (taken_here i a b x y (same_is (taken_at ks a) k g), t)
      by_test false g x y t = t

  -- all that is read is on the chain
  takings_on_chain : (ts : List Take) → Each IsTakenHere ts → AreOnItsChain F p (flat_map (λ (t : Take). aggregate_leaves t.aggregate) ts)
  takings_on_chain [] h = tt
  takings_on_chain (t ∷ ts) h = chain_both F p (aggregate_leaves t.aggregate) (flat_map (λ (u : Take). aggregate_leaves u.aggregate) ts) (chain_parts F p ks (aggregate_leaves t.aggregate) h.0.1).1 (takings_on_chain ts h.1)

  pub read_on_chain : (ts : List Take) → AreOnItsChain F p ks → Each IsTakenHere ts → AreOnItsChain F p (read_of ks ts)
  read_on_chain ts g h = chain_both F p ks (flat_map (λ (t : Take). aggregate_leaves t.aggregate) ts) g (takings_on_chain ts h)

  pub keys_on_chain : (t : Take) → IsTakenHere t → AreOnItsChain F p ks
  keys_on_chain t h = (chain_parts F p ks (aggregate_leaves t.aggregate) h.1).0

  -- ---- what is put

  module _ (N : List Node) (bs : List Beside) (rs : List Row) (long : length rs ≡ length (flat_map (rows (chain_end p)) N)) (slots : (js : List ℕ) → AreReadBeside k bs js → EachSlot ls js rs (flat_map (rows (chain_end p)) N))
      (typed : list_all (are_typed ls) (flat_map (rows (chain_end p)) N) ≡ true) (b : AreReadBeside k bs ks) where
    abbrev ms : List Node
    ms = flat_map (rows (chain_end p)) N

    pub groups_mean : groups_in ks rs ≡ puts_of_groups (paths_at ls ks) ms
    groups_mean = (puts_of_read ls ks rs ms long (slots ks b)).0

    one_means : (i : ℕ) (a : Aggregate) → IsTakenHere (record { number = i; aggregate = a }) → AreReadBeside k bs (aggregate_leaves a)
        → taking_puts ks rs (record { number = i; aggregate = a }) ≡ puts_of_reading (paths_at ls ks) N (reading_by ls ks i a)
    one_means i Aggregate.Rows h c =
        (puts_of_read ls ks rs ms long (slots ks b)).1 i ∙ ap (λ (q : List Step). puts_of_rows (paths_at ls ks) i (λ (row : Node). None) (flat_map (rows q) N)) h.0
    one_means i (Aggregate.Of f y) h c =
        let v : (expr_fits ls y ≡ true) × (is_summed f y ≡ true) = and_parts _ _ h.2 in
        (puts_of_read ls ks rs ms long (slots ks b)).2 i y (slots (expr_leaves y) c) v.0 typed
        ∙ ap (λ (q : List Step). puts_of_rows (paths_at ls ks) i (evaluate (expr_view ls y)) (flat_map (rows q) N)) h.0

    pub takings_mean : (ts : List Take) → Each IsTakenHere ts → AreReadBeside k bs (flat_map (λ (t : Take). aggregate_leaves t.aggregate) ts)
        → flat_map (taking_puts ks rs) ts ≡ flat_map (puts_of_reading (paths_at ls ks) N) (map (reading_of ls ks) ts)
    takings_mean [] h c = refl
    takings_mean (t ∷ ts) h c =
        let v : AreReadBeside k bs (aggregate_leaves t.aggregate) × AreReadBeside k bs (flat_map (λ (u : Take). aggregate_leaves u.aggregate) ts) = beside_parts k bs (aggregate_leaves t.aggregate) (flat_map (λ (u : Take). aggregate_leaves u.aggregate) ts) c in
        ap₂ (λ (ps qs : List Put). ps ++ qs) (one_means t.number t.aggregate h.0 v.0) (takings_mean ts h.1 v.1)

  module _ (read : ℕ → List Beside → List Row) (N : List Node) (reads : ReadsRows ls read N) (typed : (c : List Step) → list_all (are_typed ls) (flat_map (rows c) N) ≡ true) (A : List Aggregate) where
    abbrev ts : List Take
    ts = takings_at ks (Some k) 0 A

    abbrev bs : List Beside
    bs = all_beside F k [] (read_of ks ts)

    pub source_means : AreOnItsChain F p ks → Each IsTakenHere ts
        → read_puts ks (read k bs) ts ≡ puts_of_groups (paths_at ls ks) (flat_map (rows (chain_end p)) N) ++ flat_map (puts_of_reading (paths_at ls ks) N) (map (reading_of ls ks) ts)
    source_means g h =
        let w : AreBeside F k p bs × AreReadBeside k bs (read_of ks ts) = sources_are_beside F k p (read_of ks ts) o.differ e (read_on_chain ts g h) in
        let v : AreReadBeside k bs ks × AreReadBeside k bs (flat_map (λ (t : Take). aggregate_leaves t.aggregate) ts) = beside_parts k bs ks (flat_map (λ (t : Take). aggregate_leaves t.aggregate) ts) w.1 in
        let long : length (read k bs) ≡ length (flat_map (rows (chain_end p)) N) = (reads k p bs ks w.0 v.0).0 in
        let slots : (js : List ℕ) → AreReadBeside k bs js → EachSlot ls js (read k bs) (flat_map (rows (chain_end p)) N) = λ js a. (reads k p bs js w.0 a).1 in
        ap₂ (λ (ps qs : List Put). ps ++ qs) (groups_mean N bs (read k bs) long slots (typed (chain_end p)) v.0) (takings_mean N bs (read k bs) long slots (typed (chain_end p)) v.0 ts h v.1)
