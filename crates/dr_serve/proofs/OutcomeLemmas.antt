-- What a scan of a tablet in the closing round gives.
use Rattle.std.proofs.Common.{◌≡◌, inl, inr, ◌<◌, ◌≤◌, ℕ, List, [], ◌∷◌, true, Option, None, Some, Result, Ok, Err, IfOk, refl, sym, ap, subst, append-nil, arith}
use Rattle.std.specs.Prelude.{◌⊎◌}
use Rattle.dr_meaning.specs.Schema.{Schema}
use Rattle.dr_meaning.specs.Path.{Leaf}
use Rattle.dr_meaning.specs.Record.{Node}
use Rattle.dr_meaning.specs.Query.{Query}
use Rattle.dr_meaning.specs.QueryLeaves.{query_leaves}
use Rattle.dr_formats.specs.File.{IsFileOf}
use Rattle.dr_formats.specs.TableFile.{Table}
use Rattle.dr_outside.specs.Link.{Files, LinkShown}
use Rattle.dr_outside.specs.declared.cause.Cause.{Cause}
use Rattle.dr_group.specs.Partials.{partial_view, IsPartialOf}
use Rattle.dr_group.specs.declared.partial.Partial as code
use Rattle.dr_partials.specs.Partials.{Partial, Stands}
use Rattle.dr_partials.specs.PartialTypes.{is_partial}
use Rattle.dr_partials.specs.PartialBounds.{PartialCanBeOf}
use Rattle.dr_partials.specs.Rewriting.{leaf_query}
use Rattle.dr_partials.proofs.RewritingLemmas.{leaf_uses_same_leaves}
use Rattle.dr_plan.specs.PlanOf.{IsPlanOf, ForQuery}
use Rattle.dr_plan.specs.Planned.{IsOfSchema, plan_leaves, plan_view}
use Rattle.dr_plan.specs.declared.plan.Plan.{Plan}
use Rattle.dr_reading.specs.Causes.{RisesApart, LeadTo}
use Rattle.dr_reading.specs.Given.{IsFileThere, IsGiven}
use Rattle.dr_reading.specs.Held.{held_file, held_at, held_by_all, IsUntold}
use Rattle.dr_reading.specs.InTurn.{TabletRead, read_given, read_left, FirstGives, IsTabletRead, causes_at as causes_read}
use Rattle.dr_reading.specs.Left.{Tried, AreTried, causes_of}
use Rattle.dr_reading.specs.Scan.{Copy, copy_paths, copies_from, tablets_of}
use Rattle.dr_reading.proofs.InTurnLemmas.{left_rise_apart}
use Rattle.dr_table.specs.LeftViews.{all_tried_view}
use Rattle.dr_reading.specs.Pieces.{copies_at}
use Rattle.dr_reading.specs.Truth.{StandsForFile, IsTrueOf, most_values}
use Rattle.dr_scan.specs.Scans.{StandsForRecords, truth_at}
use Rattle.dr_scan.specs.Tablets.{IsOfScan, IsScannedAs, WhereScanned}
use Rattle.dr_scan.specs.declared.tablet.Scanned.{Scanned}
use Rattle.dr_scan.proofs.ScanLemmas.{leaves_are}
use Rattle.dr_scan.proofs.TabletLemmas.{of_given}
use Rattle.dr_scan.proofs.TruthLemmas.{true_of_more_copies}
use Rattle.dr_serve.specs.declared.found.Found.{Found}
use Rattle.dr_serve.specs.Working.{truth_by, TakesFrom}
use Rattle.dr_serve.specs.Closing.{IsOutcomeOf, IsOfRead, IsReadAs, causes_at}
use Rattle.dr_serve.proofs.LeafLemmas.{IsOneOf, one_of_first, one_of_later, copies_of, copy_among, link_among}

-- ---- a partial is true

-- the copy that gives the records
gives_copy : (s : Schema) (F : List Leaf) (link : LinkShown) (cs : List Copy) (ts : List Tried) (R : List Node) → FirstGives s F link cs ts R → (c : Copy) × IsOneOf c cs × IsGiven s F link.held (c ∷ []) R
gives_copy s F link [] ts R h = absurd h
gives_copy s F link (c ∷ cs) [] R h = (c, one_of_first c cs, h)
gives_copy s F link (c ∷ cs) (t ∷ ts) R h = let r = gives_copy s F link cs ts R h.2 in (r.0, one_of_later r.0 c cs r.1, r.2)

stands_at : (s : Schema) (q : Query) (held : Option Files) (c : Copy) (R : List Node) (p : Partial) → IsGiven s (query_leaves s.fields q) held (c ∷ []) R → Stands s.fields (leaf_query q) R p
    → StandsForFile (truth_at s q held c.path) p ⊎ IsUntold (held_at held c.path ∷ [])
stands_at s q None c R p g k = inr (inl refl)
stands_at s q (Some files) c R p (inr none) k = absurd none
stands_at s q (Some files) c R p (inl there) k = inl (by_bytes (files c.path) refl there)
  where
    by_bytes : (o : Option (List ℕ)) → files c.path ≡ o → IsFileThere s (query_leaves s.fields q) R (files c.path) → StandsForFile (truth_at s q (Some files) c.path) p
    by_bytes None e there = absurd (subst (IsFileThere s (query_leaves s.fields q) R) e there)
    by_bytes (Some bytes) e there = record {
      bytes = bytes;
      held = inl (ap held_file e);
      records = R;
      file = subst (λ (F : List Leaf). IsFileOf bytes s F R) (sym (leaf_uses_same_leaves s.fields q)) (subst (IsFileThere s (query_leaves s.fields q) R) e there);
      stands = k;
    }

given_is_true : (t : Table) (q : Query) (link : LinkShown) (tablet : ℕ) (p : Partial) (ts : List Tried) (R : List Node) → tablet < t.tablets → FirstGives t.schema (query_leaves t.schema.fields q) link (copies_from t.leaves tablet 0 t.copies) ts R
    → Stands t.schema.fields (leaf_query q) R p → is_partial t.schema.fields (leaf_query q) p ≡ true → PartialCanBeOf most_values p → IsTrueOf (truth_by t q (link.held ∷ []) tablet) p
given_is_true t q link tablet p ts R small g stands is bounded =
    let cs : List Copy = copies_at (tablets_of t) tablet in
    let r = gives_copy t.schema (query_leaves t.schema.fields q) link (copies_from t.leaves tablet 0 t.copies) ts R g in
    let c : Copy = r.0 in
    let here : IsOneOf c cs = subst (IsOneOf c) (sym (copies_of t.leaves t.copies 0 t.tablets tablet tablet small (omega arith))) r.1 in
    true_of_more_copies t.schema q link.held c.path (held_by_all (link.held ∷ []) (copy_paths cs)) p
    (link_among link.held [] [] (copy_paths cs) (held_at link.held c.path) (copy_among link.held c cs here))
    (record { partial = is; bounded = bounded; file = stands_at t.schema q link.held c R p r.2 stands })

scanned_is_true : (t : Table) (q : Query) (link now : LinkShown) (tablet : ℕ) (p : code.Partial) → tablet < t.tablets → IsScannedAs t.schema q link now (copies_from t.leaves tablet 0 t.copies) (Scanned.Given p)
    → is_partial t.schema.fields (leaf_query q) (partial_view p) ≡ true → PartialCanBeOf most_values (partial_view p) → IsTrueOf (truth_by t q (link.held ∷ []) tablet) (partial_view p)
scanned_is_true t q link now tablet p small h is bounded = by h.0 h.1 h.3
  where
    by : (r : TabletRead) → IsTabletRead t.schema (query_leaves t.schema.fields q) link (copies_from t.leaves tablet 0 t.copies) r → IsOfScan t.schema q r (Scanned.Given p) → IsTrueOf (truth_by t q (link.held ∷ []) tablet) (partial_view p)
    by (read_given ts R) g o = given_is_true t q link tablet (partial_view p) ts R small g o is bounded
    by (read_left ts) g o = absurd o

-- it stands for the records that were read
scanned_stands : (t : Table) (q : Query) (link now : LinkShown) (tablet : ℕ) (p : code.Partial) → IsScannedAs t.schema q link now (copies_from t.leaves tablet 0 t.copies) (Scanned.Given p)
    → StandsForRecords t.schema q (partial_view p)
scanned_stands t q link now tablet p h = by h.0 h.1 h.3
  where
    by : (r : TabletRead) → IsTabletRead t.schema (query_leaves t.schema.fields q) link (copies_from t.leaves tablet 0 t.copies) r → IsOfScan t.schema q r (Scanned.Given p) → StandsForRecords t.schema q (partial_view p)
    by (read_given ts R) g o =
        let r = gives_copy t.schema (query_leaves t.schema.fields q) link (copies_from t.leaves tablet 0 t.copies) ts R g in
        (R, of_given t.schema (query_leaves t.schema.fields q) link.held (r.0 ∷ []) R r.2, o)
    by (read_left ts) g o = absurd o

-- ---- what comes of the tablet

module _ (t : Table) (plan : Plan) (is_true : ℕ → Found → Type 0) (link now : LinkShown) (tablet : ℕ) where
  abbrev pub copies_there : List Copy
  copies_there = copies_from t.leaves tablet 0 t.copies

  pub scanned_outcome : (x : Scanned) → IsOfSchema t.schema plan → tablet < t.tablets → TakesFrom t plan is_true link.held → ForQuery t.schema plan (λ q. IsScannedAs t.schema q link now copies_there x)
      → ForQuery t.schema plan (λ q. WhereScanned (λ p. is_partial t.schema.fields (leaf_query q) (partial_view p) ≡ true) x) → WhereScanned (λ p. PartialCanBeOf most_values (partial_view p)) x
      → WhereScanned (IsPartialOf (plan_view plan)) x → IsOutcomeOf t plan is_true link tablet x
  scanned_outcome (Scanned.Given p) planned small takes scanned is bounded of_plan =
      takes tablet p (record {
        of_plan = of_plan;
        records = λ q w. scanned_stands t q link now tablet p (scanned q w);
        truth = λ q w. scanned_is_true t q link now tablet p small (scanned q w) (is q w) bounded;
      })
  scanned_outcome (Scanned.Left tried) planned small takes scanned is bounded of_plan =
      let q : Query = planned.1 in
      let w : IsPlanOf t.schema q plan = (planned.0, planned.2, planned.3) in
      let h = scanned q w in by q w h.0 h.1 h.3
    where
      by : (q : Query) → IsPlanOf t.schema q plan → (r : TabletRead) → IsTabletRead t.schema (query_leaves t.schema.fields q) link copies_there r → IsOfScan t.schema q r (Scanned.Left tried)
          → AreTried t.schema (plan_leaves plan) link copies_there (all_tried_view tried.items)
      by q w (read_given ts R) g o = absurd o
      by q w (read_left ts) g o =
          subst (λ (F : List Leaf). AreTried t.schema F link copies_there (all_tried_view tried.items)) (sym (leaves_are t.schema q plan w))
          (subst (AreTried t.schema (query_leaves t.schema.fields q) link copies_there) (sym o) g)

  pub scanned_rises : (x : Scanned) → IsOfSchema t.schema plan → link.faults ≤ now.faults → ForQuery t.schema plan (λ q. IsScannedAs t.schema q link now copies_there x) → RisesApart link.faults (causes_at x) now.faults
  scanned_rises (Scanned.Given p) planned up scanned = up
  scanned_rises (Scanned.Left tried) planned up scanned =
      let q : Query = planned.1 in
      let h = scanned q (planned.0, planned.2, planned.3) in by q h.0 h.1 h.2 h.3
    where
      by : (q : Query) (r : TabletRead) → IsTabletRead t.schema (query_leaves t.schema.fields q) link copies_there r → LeadTo link.faults (causes_read r) now.faults → IsOfScan t.schema q r (Scanned.Left tried)
          → RisesApart link.faults (causes_of (all_tried_view tried.items)) now.faults
      by q (read_given ts R) g c o = absurd o
      by q (read_left ts) g c o =
          let apart = left_rise_apart t.schema (query_leaves t.schema.fields q) link now (copies_there ∷ []) (read_left ts ∷ [])
          (record { each = (g, tt); counts = subst (λ (cs : List Cause). LeadTo link.faults cs now.faults) (sym (append-nil (causes_of ts))) c }) in
          subst (λ (us : List Tried). RisesApart link.faults (causes_of us) now.faults) (sym o) (subst (λ (cs : List Cause). RisesApart link.faults cs now.faults) (append-nil (causes_of ts)) apart)

  pub scan_outcome : {E : Type 0} (r : Result Scanned E) → IsOfSchema t.schema plan → tablet < t.tablets → TakesFrom t plan is_true link.held → ForQuery t.schema plan (λ q. IfOk r (IsScannedAs t.schema q link now copies_there))
      → ForQuery t.schema plan (λ q. IfOk r (WhereScanned (λ p. is_partial t.schema.fields (leaf_query q) (partial_view p) ≡ true))) → IfOk r (WhereScanned (λ p. PartialCanBeOf most_values (partial_view p)))
      → IfOk r (WhereScanned (IsPartialOf (plan_view plan))) → IfOk r (IsOutcomeOf t plan is_true link tablet)
  scan_outcome (Ok x) planned small takes scanned is bounded of_plan = scanned_outcome x planned small takes scanned is bounded of_plan
  scan_outcome (Err e) planned small takes scanned is bounded of_plan = tt

  pub scan_rises : {E : Type 0} (r : Result Scanned E) → IsOfSchema t.schema plan → link.faults ≤ now.faults → ForQuery t.schema plan (λ q. IfOk r (IsScannedAs t.schema q link now copies_there))
      → IfOk r (λ x. RisesApart link.faults (causes_at x) now.faults)
  scan_rises (Ok x) planned up scanned = scanned_rises x planned up scanned
  scan_rises (Err e) planned up scanned = tt

  pub scanned_read : (x : Scanned) → IsOfSchema t.schema plan → ForQuery t.schema plan (λ q. IsScannedAs t.schema q link now copies_there x) → IsReadAs t plan link now tablet x
  scanned_read x planned scanned =
      let q : Query = planned.1 in
      let w : IsPlanOf t.schema q plan = (planned.0, planned.2, planned.3) in
      let h = scanned q w in
      (h.0, subst (λ (F : List Leaf). IsTabletRead t.schema F link copies_there h.0) (sym (leaves_are t.schema q plan w)) h.1, h.2, by q h.0 x h.3)
    where
      by : (q : Query) (r : TabletRead) (x : Scanned) → IsOfScan t.schema q r x → IsOfRead r x
      by q (read_given ts R) (Scanned.Given p) o = tt
      by q (read_given ts R) (Scanned.Left tried) o = o
      by q (read_left ts) (Scanned.Given p) o = o
      by q (read_left ts) (Scanned.Left tried) o = o

  pub scan_read : {E : Type 0} (r : Result Scanned E) → IsOfSchema t.schema plan → ForQuery t.schema plan (λ q. IfOk r (IsScannedAs t.schema q link now copies_there)) → IfOk r (IsReadAs t plan link now tablet)
  scan_read (Ok x) planned scanned = scanned_read x planned scanned
  scan_read (Err e) planned scanned = tt
