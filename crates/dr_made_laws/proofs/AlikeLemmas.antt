-- What is the same in nodes of a schema's shapes makes the same of records.
use Rattle.std.proofs.Common.{◌≡◌, List, [], ◌∷◌, ◌++◌, Bool, true, ◌&&◌, Option, None, Some, refl, sym, ap, ap₂, ◌∙◌}
use Rattle.std.specs.Prelude.{map, if◌then◌else◌, option_map}
use Rattle.std.specs.List.{list_all, filter_map, flat_map, cons_option}
use Rattle.std.proofs.lemmas.Bool.{and_parts}
use Rattle.dr_meaning.specs.Schema.{Fields}
use Rattle.dr_meaning.specs.Path.{Step}
use Rattle.dr_meaning.specs.Record.{Node, Instances, no_instances, instance, Instance, atom, inner, single, instances_at, put_at, is_record}
use Rattle.dr_meaning.specs.Rows.{instance_rows, each_instance_rows, field_rows, rows}
use Rattle.dr_meaning.specs.Expression.{Expression, evaluate, expression_chain, longest_chain, is_true}
use Rattle.dr_meaning.specs.Kept.{with_kept, keep_each, if_some_kept, keep_below, keep_instance, kept_along, kept}
use Rattle.dr_meaning.specs.BindingLaws.{has_shapes}
use Rattle.dr_meaning.proofs.HasShapesLemmas.{records_have_shapes, rows_have_shapes, kept_have_shapes}
use Rattle.dr_kept_laws.specs.GroupFlow.{Reading}
use Rattle.dr_kept_laws.specs.GroupFlowLaws.{all_means}
use Rattle.dr_kept_laws.proofs.PutLemmas.{put_none}
use Rattle.dr_partials.proofs.RowLemmas.{Each}
use Rattle.dr_made_laws.specs.Alike.{MeanAlike, AlikeReadings, AlikeConditions, ConstantConditions}

-- ---- lists of nodes

all_append : (f : Node → Bool) (N M : List Node) → list_all f N ≡ true → list_all f M ≡ true → list_all f (N ++ M) ≡ true
all_append f [] M h g = g
all_append f (n ∷ N) M h g =
    let a : (f n ≡ true) × (list_all f N ≡ true) = and_parts (f n) (list_all f N) h in
    ap₂ (λ (x y : Bool). x && y) a.0 (all_append f N M a.1 g)

all_each : (f : Node → Bool) (P : Node → Type 0) → ((n : Node) → f n ≡ true → P n) → (N : List Node) → list_all f N ≡ true → Each P N
all_each f P g [] h = tt
all_each f P g (n ∷ N) h = let a : (f n ≡ true) × (list_all f N ≡ true) = and_parts (f n) (list_all f N) h in (g n a.0, all_each f P g N a.1)

-- rows of nodes of these shapes are of them
all_rows : (fs : Fields) (p : List Step) (N : List Node) → list_all (has_shapes fs) N ≡ true → list_all (has_shapes fs) (flat_map (rows p) N) ≡ true
all_rows fs p [] h = refl
all_rows fs p (n ∷ N) h =
    let a : (has_shapes fs n ≡ true) × (list_all (has_shapes fs) N ≡ true) = and_parts (has_shapes fs n) (list_all (has_shapes fs) N) h in
    all_append (has_shapes fs) (rows p n) (flat_map (rows p) N) (rows_have_shapes fs p n a.0) (all_rows fs p N a.1)

-- what is kept of records is, too
all_kept : (fs : Fields) (c : Option Expression) (R : List Node) → list_all (is_record fs) R ≡ true
    → list_all (has_shapes fs) (filter_map (kept c) R) ≡ true
all_kept fs c [] h = refl
all_kept fs c (n ∷ R) h =
    let a : (is_record fs n ≡ true) × (list_all (is_record fs) R ≡ true) = and_parts (is_record fs n) (list_all (is_record fs) R) h in
    by_kept (kept c n) refl (records_have_shapes fs n a.0) (all_kept fs c R a.1)
  where
    by_kept : (o : Option Node) → kept c n ≡ o → has_shapes fs n ≡ true → list_all (has_shapes fs) (filter_map (kept c) R) ≡ true
        → list_all (has_shapes fs) (cons_option o (filter_map (kept c) R)) ≡ true
    by_kept None e s r = r
    by_kept (Some m) e s r = ap₂ (λ (x y : Bool). x && y) (kept_have_shapes fs c n m e s) r

-- ---- readings

module _ (X : Type 0) where
  map_alike : (f g : Node → X) (N : List Node) → Each (λ (n : Node). f n ≡ g n) N → map f N ≡ map g N
  map_alike f g [] h = refl
  map_alike f g (n ∷ N) h = ap₂ (λ (x : X) (xs : List X). x ∷ xs) h.0 (map_alike f g N h.1)

  mean_alike : (fs : Fields) (xs ys : List (Reading X)) → MeanAlike fs xs ys → (N : List Node) → list_all (has_shapes fs) N ≡ true
      → all_means xs N ≡ all_means ys N
  mean_alike fs [] [] a N h = refl
  mean_alike fs [] (y ∷ ys) a N h = absurd a
  mean_alike fs (x ∷ xs) [] a N h = absurd a
  mean_alike fs (x ∷ xs) (y ∷ ys) a N h =
      ap₂ (λ (u v : List X). u ++ v)
      (map_alike x.means y.means (flat_map (rows x.level) N)
      (all_each (has_shapes fs) (λ n. x.means n ≡ y.means n) a.0.1 (flat_map (rows x.level) N) (all_rows fs x.level N h))
      ∙ ap (λ (l : List Step). map y.means (flat_map (rows l) N)) a.0.0)
      (mean_alike fs xs ys a.1 N h)

  pub alike_readings : AlikeReadings X
  alike_readings fs c xs ys a R h = mean_alike fs xs ys a (filter_map (kept c) R) (all_kept fs c R h)

-- ---- what is kept depends on the rows of the chain alone

each_of_map : {A B : Type 0} (P : B → Type 0) (f : A → B) (xs : List A) → Each P (map f xs) → Each (λ (x : A). P (f x)) xs
each_of_map P f [] h = tt
each_of_map P f (x ∷ xs) h = (h.0, each_of_map P f xs h.1)

each_first : {A : Type 0} (P : A → Type 0) (xs ys : List A) → Each P (xs ++ ys) → Each P xs × Each P ys
each_first P [] ys h = (tt, h)
each_first P (x ∷ xs) ys h = let a = each_first P xs ys h.1 in ((h.0, a.0), a.1)

abbrev KeepsAlike : List Step → Type 0
KeepsAlike p = (t u : Node → Bool) (n : Node) → Each (λ (row : Node). t row ≡ u row) (rows p n) → kept_along p t n ≡ kept_along p u n

one_alike : (p : List Step) → KeepsAlike p → (row : Instances → Node) (t u : Node → Bool) (x : Instance)
    → Each (λ (ys : Instances). t (row ys) ≡ u (row ys)) (instance_rows (rows p) x)
    → keep_instance (kept_along p) (λ y. row (single y)) t x ≡ keep_instance (kept_along p) (λ y. row (single y)) u x
one_alike p f row t u (atom v) h = ap (λ (b : Bool). if b then Some (atom v) else None) h.0
one_alike p f row t u (inner n) h =
    ap (option_map inner) (f (λ m. t (row (single (inner m)))) (λ m. u (row (single (inner m)))) n
    (each_of_map (λ (ys : Instances). t (row ys) ≡ u (row ys)) (λ (m : Node). single (inner m)) (rows p n) h))

all_alike : (p : List Step) → KeepsAlike p → (row : Instances → Node) (t u : Node → Bool) (xs : Instances)
    → Each (λ (ys : Instances). t (row ys) ≡ u (row ys)) (each_instance_rows (rows p) xs)
    → keep_each (keep_instance (kept_along p) (λ y. row (single y)) t) xs ≡ keep_each (keep_instance (kept_along p) (λ y. row (single y)) u) xs
all_alike p f row t u no_instances h = refl
all_alike p f row t u (instance x xs) h =
    let a = each_first (λ (ys : Instances). t (row ys) ≡ u (row ys)) (instance_rows (rows p) x) (each_instance_rows (rows p) xs) h in
    ap₂ (λ (o : Option Instance) (ys : Instances). with_kept o ys) (one_alike p f row t u x a.0) (all_alike p f row t u xs a.1)

keeps_alike : (p : List Step) → KeepsAlike p
keeps_alike [] t u n h = ap (λ (b : Bool). if b then Some n else None) h.0
keeps_alike (s ∷ p) t u n h =
    by_instances (instances_at s.place n) refl
    (each_of_map (λ (row : Node). t row ≡ u row) (λ (xs : Instances). put_at s.place xs n) (field_rows (rows p) (instances_at s.place n)) h)
    (keeps_alike p)
  where
    by_instances : (xs : Instances) → instances_at s.place n ≡ xs
        → Each (λ (ys : Instances). t (put_at s.place ys n) ≡ u (put_at s.place ys n)) (field_rows (rows p) xs) → KeepsAlike p
        → keep_below t (λ ys. put_at s.place ys n) (keep_instance (kept_along p) (λ y. put_at s.place (single y) n) t) n xs
        ≡ keep_below u (λ ys. put_at s.place ys n) (keep_instance (kept_along p) (λ y. put_at s.place (single y) n) u) n xs
    by_instances no_instances e h f =
        let same : put_at s.place no_instances n ≡ n = put_none s.place n e in
        ap (λ (b : Bool). if b then Some n else None) (ap t (sym same) ∙ (h.0 ∙ ap u same))
    by_instances (instance x xs) e h f =
        ap (if_some_kept (λ ys. put_at s.place ys n)) (all_alike p f (λ ys. put_at s.place ys n) t u (instance x xs) h)

-- ---- conditions

pub alike_conditions : AlikeConditions
alike_conditions fs e p test c same n a =
    keeps_alike (expression_chain e) (λ row. is_true (evaluate e row)) test n
    (all_each (has_shapes fs) (λ row. is_true (evaluate e row) ≡ test row) (λ row h. sym (same row h)) (rows (expression_chain e) n)
    (rows_have_shapes fs (expression_chain e) n (records_have_shapes fs n a)))
    ∙ ap (λ (l : List Step). kept_along l test n) (sym c)

pub constant_conditions : ConstantConditions
constant_conditions fs e b c same n a =
    ap (λ (ps : List (List Step)). kept_along (longest_chain ps) (λ row. is_true (evaluate e row)) n) c
    ∙ ap (λ (x : Bool). if x then Some n else None) (sym (same n (records_have_shapes fs n a)))
