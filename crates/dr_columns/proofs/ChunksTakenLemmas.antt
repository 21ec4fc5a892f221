-- What is put of the columns that records have makes of the partial of others that of both.
use Rattle.std.proofs.Common.{◌≡◌, ℕ, zero, suc, ◌<◌, ◌≤◌, List, [], ◌∷◌, ◌++◌, map, length, Bool, true, false, Option, Some, None, refl, sym, ap, ap₂, subst, ◌∙◌, true≢false, arith, append-nil}
use Rattle.std.specs.Prelude.{not, ◌||◌, ◌==◌, filter, if◌then◌else◌}
use Rattle.std.specs.List.{list_all, slice_get, slice_index_or, flat_map}
use Rattle.std.proofs.lemmas.Bool.{and_from, and_parts, eqb-true, eq-eqb, ne_eqb}
use Rattle.std.proofs.lemmas.List.{append_assoc, map-append, length-map}
use Rattle.std.proofs.lemmas.Grind.{flat_map-append}
use Rattle.std.proofs.lemmas.List.Folds.{list_all-append}
use Rattle.dr_meaning.specs.Schema.{Fields}
use Rattle.dr_meaning.specs.Path.{Step, Leaf, paths_of_leaves, chain_end}
use Rattle.dr_meaning.specs.Record.{Node}
use Rattle.dr_meaning.specs.Column.{Triplet, column}
use Rattle.dr_meaning.specs.Rows.{rows}
use Rattle.dr_meaning.specs.Expression.{longest_chain}
use Rattle.dr_meaning.specs.Query.{Query}
use Rattle.dr_partials.specs.PartialLaws.{all_related}
use Rattle.dr_partials.specs.Putting.{Put, put_all}
use Rattle.dr_partials.proofs.RowLemmas.{Each}
use Rattle.dr_plan.specs.Views.{aggregate_view}
use Rattle.dr_plan.specs.declared.aggregate.Aggregate.{Aggregate}
use Rattle.dr_scalar.specs.Leaves.{greatest}
use Rattle.dr_scalar.specs.LeafLaws.{are_typed}
use Rattle.dr_condition.proofs.ReadRows.{same_paths}
use Rattle.dr_partials.specs.Readings.{Reading, readings_of, puts_of_reading, puts_of_groups}
use Rattle.dr_partials.specs.SourcesPut.{puts_of_sources, is_one_of, are_different}
use Rattle.dr_partials.specs.Together.{PutTheSame}
use Rattle.dr_partials.proofs.GroupPutLemmas.{source_groups_first}
use Rattle.dr_partials.proofs.TogetherLemmas.{both_same, crossed}
use Rattle.dr_beside.specs.Chunks.{HasColumns}
use Rattle.dr_rows_beside.specs.declared.source.Beside.{Beside}
use Rattle.dr_rows_beside.specs.Rows.{Row}
use Rattle.dr_rows_beside.specs.RecordRows.{AreBeside}
use Rattle.dr_columns.specs.RowPuts.{paths_at}
use Rattle.dr_rows_beside.specs.Sources.{all_beside, AreOnItsChain, AreReadBeside}
use Rattle.dr_columns.specs.Takings.{Take, same_leaf, takings_at, read_of, is_nothing, Fires, fires_at, first_numbers, CanFire, CanFireEach, read_puts, fired_read_puts}
use Rattle.dr_columns.specs.ChunksTaken.{ReadsRows}
use Rattle.dr_agreement.proofs.OutlinedLemmas.{same_at}
use Rattle.dr_rows_beside.proofs.RecordRowLemmas.{rows_of_records}
use Rattle.dr_rows_beside.proofs.SourceLemmas.{sources_are_beside}
use Rattle.dr_columns.proofs.SourceReadLemmas.{AreInOrder, leaves_in_order, path_there, IsLastOf, last_of, reading_of, TakenAt, readings_at_leaf}
use Rattle.dr_columns.proofs.SourceMeansLemmas.{AreGroupsOf, IsTakenHere, all_taken_here, read_on_chain, keys_on_chain, source_means}

-- ---- lists of numbers

or_true : (b : Bool) → (b || true) ≡ true
or_true true = refl
or_true false = refl

pub sources_more : (f : Reading → List Put) (at : Reading → ℕ) (xs : List Reading) (ks : List ℕ) (k : ℕ)
    → puts_of_sources f at xs (ks ++ k ∷ []) ≡ puts_of_sources f at xs ks ++ flat_map f (filter (λ (x : Reading). at x == k) xs)
sources_more f at xs [] k = append-nil (flat_map f (filter (λ (x : Reading). at x == k) xs))
sources_more f at xs (j ∷ ks) k =
    ap (λ (ps : List Put). flat_map f (filter (λ (x : Reading). at x == j) xs) ++ ps) (sources_more f at xs ks k)
    ∙ sym (append_assoc (flat_map f (filter (λ (x : Reading). at x == j) xs)) (puts_of_sources f at xs ks) (flat_map f (filter (λ (x : Reading). at x == k) xs)))

module _ (X : Type 0) (f : ℕ → List X) where
  each_more : (k : ℕ) → flat_map f (first_numbers k ++ k ∷ []) ≡ flat_map f (first_numbers k) ++ f k
  each_more k = flat_map-append f (first_numbers k) (k ∷ []) ∙ ap (λ (ys : List X). flat_map f (first_numbers k) ++ ys) (append-nil (f k))

-- what is put at one number alone
abbrev pub at_key : List Put → Option ℕ → ℕ → List Put
at_key G o k = if same_leaf o (Some k) then G else []

abbrev pub key_puts : List Put → Option ℕ → ℕ → List Put
key_puts G o m = flat_map (at_key G o) (first_numbers m)

pub without_key : (G : List Put) (m : ℕ) → key_puts G None m ≡ []
without_key G zero = refl
without_key G (suc m) = each_more Put (at_key G None) m ∙ ap (λ (ps : List Put). ps ++ []) (without_key G m)

before_key : (G : List Put) (k m : ℕ) → m ≤ k → key_puts G (Some k) m ≡ []
before_key G k zero h = refl
before_key G k (suc m) h =
    each_more Put (at_key G (Some k)) m
    ∙ ap₂ (λ (ps : List Put) (b : Bool). ps ++ (if b then G else [])) (before_key G k m (omega (arith, h))) (ne_eqb k m (λ (e : k ≡ m). omega (arith, e, h)))

pub with_key : (G : List Put) (k m : ℕ) → k < m → key_puts G (Some k) m ≡ G
with_key G k zero h = absurd (omega (arith, h))
with_key G k (suc m) h = each_more Put (at_key G (Some k)) m ∙ by_test (k == m) refl (with_key G k m)
  where
    by_test : (b : Bool) → (k == m) ≡ b → (k < m → key_puts G (Some k) m ≡ G) → key_puts G (Some k) m ++ (if b then G else []) ≡ G
    by_test true e r = ap (λ (ps : List Put). ps ++ G) (before_key G k m (let f : k ≡ m = eqb-true k m e in omega (arith, f)))
    by_test false e r =
        let f : (k ≡ m → ⊥) = λ (g : k ≡ m). true≢false (sym (eq-eqb k m g) ∙ e) in
        append-nil (key_puts G (Some k) m) ∙ r (omega (arith, h, f))

-- the first so many numbers are different, and each smaller one is among them
one_more_of : (j : ℕ) (ks : List ℕ) (k : ℕ) → is_one_of j (ks ++ k ∷ []) ≡ is_one_of j ks || (j == k)
one_more_of j [] k = or_false (j == k)
  where
    or_false : (b : Bool) → (b || false) ≡ b
    or_false true = refl
    or_false false = refl
one_more_of j (i ∷ ks) k = by_test (j == i) (one_more_of j ks k)
  where
    by_test : (b : Bool) → is_one_of j (ks ++ k ∷ []) ≡ is_one_of j ks || (j == k) → (b || is_one_of j (ks ++ k ∷ [])) ≡ (b || is_one_of j ks) || (j == k)
    by_test true e = refl
    by_test false e = e

pub is_first : (j m : ℕ) → j < m → is_one_of j (first_numbers m) ≡ true
is_first j zero h = absurd (omega (arith, h))
is_first j (suc m) h = one_more_of j (first_numbers m) m ∙ by_test (j == m) refl (is_first j m)
  where
    by_test : (b : Bool) → (j == m) ≡ b → (j < m → is_one_of j (first_numbers m) ≡ true) → (is_one_of j (first_numbers m) || b) ≡ true
    by_test true e r = or_true (is_one_of j (first_numbers m))
    by_test false e r =
        let f : (j ≡ m → ⊥) = λ (g : j ≡ m). true≢false (sym (eq-eqb j m g) ∙ e) in
        ap (λ (b : Bool). b || false) (r (omega (arith, h, f)))

abbrev is_other : ℕ → ℕ → Bool
is_other k j = not (k == j)

none_reached : (m k : ℕ) → m ≤ k → list_all (λ (j : ℕ). is_other j k) (first_numbers m) ≡ true
none_reached zero k h = refl
none_reached (suc m) k h =
    list_all-append (λ (j : ℕ). is_other j k) (first_numbers m) (m ∷ [])
    ∙ and_from _ _ (none_reached m k (omega (arith, h))) (and_from _ _ (ap not (ne_eqb m k (λ (e : m ≡ k). omega (arith, e, h)))) refl)

different_more : (ks : List ℕ) (k : ℕ) → are_different ks ≡ true → list_all (λ (j : ℕ). is_other j k) ks ≡ true → are_different (ks ++ k ∷ []) ≡ true
different_more [] k h g = refl
different_more (j ∷ ks) k h g =
    let w = and_parts (list_all (λ (i : ℕ). is_other j i) ks) (are_different ks) h in
    let v = and_parts (is_other j k) (list_all (λ (i : ℕ). is_other i k) ks) g in
    and_from _ _ (list_all-append (λ (i : ℕ). is_other j i) ks (k ∷ []) ∙ and_from _ _ w.0 (and_from _ _ v.0 refl)) (different_more ks k w.1 v.1)

pub first_differ : (m : ℕ) → are_different (first_numbers m) ≡ true
first_differ zero = refl
first_differ (suc m) = different_more (first_numbers m) m (first_differ m) (none_reached m m (omega arith))

-- ---- leaf by leaf

module _ (fs : Fields) (ls : List Leaf) (ks : List ℕ) (A : List Aggregate) (g : AreGroupsOf fs ls ks A) where
  abbrev F : List (List Step)
  F = paths_of_leaves ls

  abbrev K : List (List Step)
  K = paths_at ls ks

  abbrev pub all_readings : List Reading
  all_readings = readings_of K 0 (map (aggregate_view ls) A)

  o : AreInOrder fs F
  o = leaves_in_order fs ls g.leaves

  module _ (k : ℕ) (l : k < length F) where
    abbrev p : List Step
    p = slice_index_or F k []

    abbrev ts : List Take
    ts = takings_at ks (Some k) 0 A

    e : slice_get F k ≡ Some p
    e = path_there F k l

    taken : Each (IsTakenHere fs ls ks k p o e) ts
    taken = all_taken_here fs ls ks k p o e 0 A g.keyed g.fit g.each_related

    same_is : (i : Option ℕ) → same_leaf i (Some k) ≡ true → i ≡ Some k
    same_is None t = absurd (cc)
    same_is (Some j) t = ap Some (eqb-true j k t)

    -- the leaf whose rows are those of the groups
    keys_last : same_leaf (greatest ks) (Some k) ≡ true → AreOnItsChain F p ks × (chain_end p ≡ longest_chain K)
    keys_last t =
        let w : IsLastOf F ks k = last_of fs ls o ks k g.keyed (ap all_related (same_paths ls ks) ∙ g.keys_related) (same_is (greatest ks) t) in
        let same : w.path ≡ p = same_at F k w.path p w.is_path e in
        (subst (λ (r : List Step). AreOnItsChain F r ks) same w.on_it, ap chain_end (sym same) ∙ (w.longest ∙ ap longest_chain (same_paths ls ks)))

    -- its rows can be read
    module _ (C : List (List Triplet)) (n : ℕ) (S : List Node) (x : HasColumns fs (paths_of_leaves ls) C n S) where
      can_be_read : AreOnItsChain F p ks → CanFire C (fires_at F ks A k)
      can_be_read c =
          let w : AreBeside F k p (all_beside F k [] (read_of ks ts)) × AreReadBeside k (all_beside F k [] (read_of ks ts)) (read_of ks ts) =
          sources_are_beside F k p (read_of ks ts) o.differ e (read_on_chain fs ls ks k p o e ts c taken) in
          let many : length C ≡ length F = ap (λ (D : List (List Triplet)). length D) (sym x.2) ∙ length-map F (λ (r : List Step). column r S) in
          record { leaf = omega (arith, l, many); apart = w.0.apart C; different = w.0.all_different C; fed = (rows_of_records fs F C n S k p (all_beside F k [] (read_of ks ts)) x o.leaves w.0).0 }

      pub can_fire : (fires_at F ks A k).needed ≡ true → CanFire C (fires_at F ks A k)
      can_fire = by_key (same_leaf (greatest ks) (Some k)) refl ts refl
        where
          by_key : (b : Bool) → same_leaf (greatest ks) (Some k) ≡ b → (us : List Take) → ts ≡ us → (not (is_nothing us) || b) ≡ true → CanFire C (fires_at F ks A k)
          by_key true t us s u = can_be_read (keys_last t).0
          by_key false t [] s u = absurd (true≢false (sym u))
          by_key false t (v ∷ us) s u = can_be_read (keys_on_chain fs ls ks k p o e v (subst (Each (IsTakenHere fs ls ks k p o e)) s taken).0)

  fire_both : (C : List (List Triplet)) (fs' : List Fires) (f : Fires) → CanFireEach C fs' → (f.needed ≡ true → CanFire C f) → CanFireEach C (fs' ++ f ∷ [])
  fire_both C [] f a b = (b, tt)
  fire_both C (d ∷ ds) f a b = (a.0, fire_both C ds f a.1 b)

  -- the rows of each leaf that are of use
  pub all_can_fire : (C : List (List Triplet)) (n : ℕ) (S : List Node) → HasColumns fs (paths_of_leaves ls) C n S → (m : ℕ) → m ≤ length F → CanFireEach C (map (fires_at F ks A) (first_numbers m))
  all_can_fire C n S x zero l = tt
  all_can_fire C n S x (suc m) l =
      subst (CanFireEach C) (sym (map-append (fires_at F ks A) (first_numbers m) (m ∷ [])))
      (fire_both C (map (fires_at F ks A) (first_numbers m)) (fires_at F ks A m) (all_can_fire C n S x m (omega (arith, l))) (can_fire m (omega (arith, l)) C n S x))

  -- ---- what is put of the rows that are read

  module _ (q : Query) (read : ℕ → List Beside → List Row) (N : List Node) (reads : ReadsRows ls read N) (typed : (c : List Step) → list_all (are_typed ls) (flat_map (rows c) N) ≡ true)
      (at : ℕ → ℕ) (h : TakenAt (length (paths_of_leaves ls)) ks at 0 A) where
    abbrev pub put_of_reading : Reading → List Put
    put_of_reading = puts_of_reading K N

    abbrev pub key_groups : List Put
    key_groups = puts_of_groups K (flat_map (rows (longest_chain K)) N)

    module _ (k : ℕ) (l : k < length F) where
      there : filter (λ (y : Reading). at y.aggregate == k) all_readings ≡ map (reading_of ls ks) (ts k l)
      there = readings_at_leaf ls ks (length F) at k 0 A l h

      abbrev source : List Put
      source = read_puts ks (read k (all_beside F k [] (read_of ks (ts k l)))) (ts k l)

      at_groups : same_leaf (greatest ks) (Some k) ≡ true → source ≡ key_groups ++ flat_map put_of_reading (map (reading_of ls ks) (ts k l))
      at_groups t =
          let w : AreOnItsChain F (p k l) ks × (chain_end (p k l) ≡ longest_chain K) = keys_last k l t in
          source_means fs ls ks k (p k l) o (e k l) read N reads typed A w.0 (taken k l)
          ∙ ap (λ (r : List Step). puts_of_groups K (flat_map (rows r) N) ++ flat_map put_of_reading (map (reading_of ls ks) (ts k l))) w.1

      -- another one
      elsewhere : (us : List Take) → ts k l ≡ us → PutTheSame q (if (not (is_nothing us) || false) then source else []) (flat_map put_of_reading (map (reading_of ls ks) us))
      elsewhere [] s y = refl
      elsewhere (t ∷ us) s y =
          let w : Each (IsTakenHere fs ls ks k (p k l) o (e k l)) (t ∷ us) = subst (Each (IsTakenHere fs ls ks k (p k l) o (e k l))) s (taken k l) in
          let r : Reading = reading_of ls ks t in
          let means : source ≡ puts_of_groups K (flat_map (rows r.chain) N) ++ flat_map put_of_reading (map (reading_of ls ks) (t ∷ us)) =
          source_means fs ls ks k (p k l) o (e k l) read N reads typed A (keys_on_chain fs ls ks k (p k l) o (e k l) t w.0) (taken k l)
          ∙ ap₂ (λ (c : List Step) (vs : List Take). puts_of_groups K (flat_map (rows c) N) ++ flat_map put_of_reading (map (reading_of ls ks) vs)) w.0.0 s in
          ap (λ (ps : List Put). put_all q ps y) means
          ∙ source_groups_first q K r.aggregate r.value (flat_map (rows r.chain) N) (flat_map put_of_reading (map (reading_of ls ks) us)) y

      pub leaf_puts : PutTheSame q (fired_read_puts ks read (fires_at F ks A k)) (at_key key_groups (greatest ks) k ++ flat_map put_of_reading (filter (λ (y : Reading). at y.aggregate == k) all_readings))
      leaf_puts y =
          by_key (same_leaf (greatest ks) (Some k)) refl
          ∙ ap (λ (rs : List Reading). put_all q (at_key key_groups (greatest ks) k ++ flat_map put_of_reading rs) y) (sym there)
        where
          by_key : (b : Bool) → same_leaf (greatest ks) (Some k) ≡ b
              → put_all q (if (not (is_nothing (ts k l)) || b) then source else []) y ≡ put_all q ((if b then key_groups else []) ++ flat_map put_of_reading (map (reading_of ls ks) (ts k l))) y
          by_key true t = ap (λ (b : Bool). put_all q (if b then source else []) y) (or_true (not (is_nothing (ts k l)))) ∙ ap (λ (ps : List Put). put_all q ps y) (at_groups t)
          by_key false t = elsewhere (ts k l) refl y

    abbrev at_of : Reading → ℕ
    at_of y = at y.aggregate

    abbrev fired : ℕ → List Put
    fired k = fired_read_puts ks read (fires_at F ks A k)

    fired_more : (m : ℕ) → flat_map (fired_read_puts ks read) (map (fires_at F ks A) (first_numbers (suc m))) ≡ flat_map (fired_read_puts ks read) (map (fires_at F ks A) (first_numbers m)) ++ fired m
    fired_more m =
        ap (flat_map (fired_read_puts ks read)) (map-append (fires_at F ks A) (first_numbers m) (m ∷ []))
        ∙ (flat_map-append (fired_read_puts ks read) (map (fires_at F ks A) (first_numbers m)) (fires_at F ks A m ∷ [])
        ∙ ap (λ (ps : List Put). flat_map (fired_read_puts ks read) (map (fires_at F ks A) (first_numbers m)) ++ ps) (append-nil (fired m)))

    pub all_leaves : (m : ℕ) → m ≤ length F
        → PutTheSame q (flat_map (fired_read_puts ks read) (map (fires_at F ks A) (first_numbers m))) (key_puts key_groups (greatest ks) m ++ puts_of_sources put_of_reading at_of all_readings (first_numbers m))
    all_leaves zero l y = refl
    all_leaves (suc m) l y =
        let L : List Put = flat_map (fired_read_puts ks read) (map (fires_at F ks A) (first_numbers m)) in
        let D : List Put = key_puts key_groups (greatest ks) m in
        let P : List Put = puts_of_sources put_of_reading at_of all_readings (first_numbers m) in
        let d : List Put = at_key key_groups (greatest ks) m in
        let r : List Put = flat_map put_of_reading (filter (λ (z : Reading). at z.aggregate == m) all_readings) in
        ap (λ (ps : List Put). put_all q ps y) (fired_more m)
        ∙ (both_same q L (D ++ P) (fired m) (d ++ r) (all_leaves m (omega (arith, l))) (leaf_puts m (omega (arith, l))) y
        ∙ (crossed q D P d r y
        ∙ sym (ap₂ (λ (ps qs : List Put). put_all q (ps ++ qs) y) (each_more Put (at_key key_groups (greatest ks)) m) (sources_more put_of_reading at_of all_readings (first_numbers m) m))))
