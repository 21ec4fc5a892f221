-- Whole rows that instances at the end of a path make of a record, and that nodes there make.
use Rattle.std.proofs.Common.{◌≡◌, ℕ, suc, ◌+◌, List, [], ◌∷◌, ◌++◌, Bool, false, refl, sym, ap, ap₂, ◌∙◌, append_assoc, append-nil, arith}
use Rattle.std.specs.Prelude.{map, filter, if◌then◌else◌}
use Rattle.std.proofs.lemmas.Simd.{map-map}
use Rattle.dr_meaning.specs.Schema.{Repetition, repeated}
use Rattle.dr_meaning.specs.Path.{Step}
use Rattle.dr_meaning.specs.Record.{Node, slot, Instances, no_instances, instance, Instance, atom, inner, single, instances_at, put_at}
use Rattle.dr_meaning.specs.Rows.{instance_rows, each_instance_rows, field_rows, rows, value_in, value_at, is_present_in, is_present}
use Rattle.dr_meaning.specs.Query.{instances_of}
use Rattle.dr_meaning.specs.Walk.{first_of, node_of}
use Rattle.dr_meaning.proofs.ProjectionLemmas.{step}

-- of an instance at the end of a path
pub record Frame (pre : List Step) (row : Instances → Node) : Type 0 where
  pub rows_at : (p : List Step) (x : Instance) → rows (pre ++ p) (row (single x)) ≡ map row (instance_rows (rows p) x)
  pub present_at : (p : List Step) (x : Instance) → is_present (pre ++ p) (row (single x)) ≡ is_present_in p x
  pub values_at : (p : List Step) (x : Instance) → (pre ++ p ≡ [] → ⊥) → value_at (pre ++ p) (row (single x)) ≡ value_in p x

-- of the rest of a node, from the field at place j on
pub record NodeFrame (pre : List Step) (j : ℕ) (whole : Node → Node) : Type 0 where
  pub rows_in : (a i : ℕ) → a ≡ j + i → (r : Repetition) (p : List Step) (n : Node) → rows (pre ++ step a r ∷ p) (whole n) ≡ map whole (rows (step i r ∷ p) n)
  pub present_in : (a i : ℕ) → a ≡ j + i → (r : Repetition) (p : List Step) (n : Node) → is_present (pre ++ step a r ∷ p) (whole n) ≡ is_present (step i r ∷ p) n
  pub values_in : (a i : ℕ) → a ≡ j + i → (r : Repetition) (p : List Step) (n : Node) → value_at (pre ++ step a r ∷ p) (whole n) ≡ value_at (step i r ∷ p) n

-- the record itself
abbrev pub record_row : Instances → Node
record_row xs = node_of (first_of xs)

map_same : {X : Type 0} (f : X → X) → ((x : X) → f x ≡ x) → (xs : List X) → map f xs ≡ xs
map_same f h [] = refl
map_same {X} f h (x ∷ xs) = ap₂ (λ (y : X) (ys : List X). y ∷ ys) (h x) (map_same f h xs)

pub record_frame : Frame [] record_row
record_frame = record { rows_at = at_rows; present_at = at_present; values_at = at_values }
  where
    at_rows : (p : List Step) (x : Instance) → rows p (record_row (single x)) ≡ map record_row (instance_rows (rows p) x)
    at_rows [] (atom v) = refl
    at_rows (s ∷ p) (atom v) = refl
    at_rows p (inner n) = sym (map-map record_row (λ (m : Node). single (inner m)) (rows p n) ∙ map_same (λ (m : Node). m) (λ m. refl) (rows p n))

    at_present : (p : List Step) (x : Instance) → is_present p (record_row (single x)) ≡ is_present_in p x
    at_present [] x = refl
    at_present (s ∷ p) (atom v) = refl
    at_present (s ∷ p) (inner n) = refl

    at_values : (p : List Step) (x : Instance) → (p ≡ [] → ⊥) → value_at p (record_row (single x)) ≡ value_in p x
    at_values [] x h = absurd (h refl)
    at_values (s ∷ p) (atom v) h = refl
    at_values (s ∷ p) (inner n) h = refl

module _ (pre : List Step) (row : Instances → Node) (f : Frame pre row) where
  -- a node there
  pub node_frame : NodeFrame pre 0 (λ n. row (single (inner n)))
  node_frame = record {
    rows_in = λ a i e r p n. ap (λ (k : ℕ). rows (pre ++ step k r ∷ p) (row (single (inner n)))) (same a i e) ∙ f.rows_at (step i r ∷ p) (inner n) ∙ map-map row (λ (m : Node). single (inner m)) (rows (step i r ∷ p) n);
    present_in = λ a i e r p n. ap (λ (k : ℕ). is_present (pre ++ step k r ∷ p) (row (single (inner n)))) (same a i e) ∙ f.present_at (step i r ∷ p) (inner n);
    values_in = λ a i e r p n. ap (λ (k : ℕ). value_at (pre ++ step k r ∷ p) (row (single (inner n)))) (same a i e) ∙ f.values_at (step i r ∷ p) (inner n) (goes_on (step i r) p pre);
  }
    where
      same : (a i : ℕ) → a ≡ 0 + i → a ≡ i
      same a i e = omega (arith, e)

      goes_on : (s : Step) (p q : List Step) → q ++ s ∷ p ≡ [] → ⊥
      goes_on s p [] e = cc
      goes_on s p (t ∷ q) e = cc

module _ (pre : List Step) (j : ℕ) (whole : Node → Node) (f : NodeFrame pre j whole) where
  -- the fields behind the first
  pub next_frame : (xs : Instances) → NodeFrame pre (suc j) (λ m. whole (slot xs m))
  next_frame xs = record {
    rows_in = λ a i e r p n. f.rows_in a (suc i) (omega (arith, e)) r p (slot xs n)
        ∙ map-map whole (λ (ys : Instances). slot xs (put_at i ys n)) (field_rows (rows p) (instances_at i n))
        ∙ sym (map-map (λ (m : Node). whole (slot xs m)) (λ (ys : Instances). put_at i ys n) (field_rows (rows p) (instances_at i n)));
    present_in = λ a i e r p n. f.present_in a (suc i) (omega (arith, e)) r p (slot xs n);
    values_in = λ a i e r p n. f.values_in a (suc i) (omega (arith, e)) r p (slot xs n);
  }

  -- the first
  pub field_frame : (r : Repetition) (m : Node) → Frame (pre ++ step j r ∷ []) (λ ys. whole (slot ys m))
  field_frame r m = record {
    rows_at = λ p x. ap (λ (q : List Step). rows q (whole (slot (single x) m))) (append_assoc pre (step j r ∷ []) p) ∙ f.rows_in j 0 (omega arith) r p (slot (single x) m)
        ∙ map-map whole (λ (ys : Instances). slot ys m) (instance_rows (rows p) x ++ []) ∙ ap (map (λ (ys : Instances). whole (slot ys m))) (append-nil (instance_rows (rows p) x));
    present_at = λ p x. ap (λ (q : List Step). is_present q (whole (slot (single x) m))) (append_assoc pre (step j r ∷ []) p) ∙ f.present_in j 0 (omega arith) r p (slot (single x) m);
    values_at = λ p x h. ap (λ (q : List Step). value_at q (whole (slot (single x) m))) (append_assoc pre (step j r ∷ []) p) ∙ f.values_in j 0 (omega arith) r p (slot (single x) m);
  }

-- ---- the instances of a field, each in its row

abbrev pub listed : Instances → List Instance
listed no_instances = []
listed (instance x xs) = x ∷ listed xs

filter_none : {X : Type 0} (f : X → Bool) (xs : List X) → ((x : X) → f x ≡ false) → filter f xs ≡ []
filter_none f [] h = refl
filter_none f (x ∷ xs) h = ap (λ (b : Bool). if b then x ∷ filter f xs else filter f xs) (h x) ∙ filter_none f xs h

module _ (pre : List Step) (j : ℕ) (whole : Node → Node) (f : NodeFrame pre j whole) where
  pub field_instances : (xs : Instances) (m : Node) → instances_of (pre ++ step j repeated ∷ []) (whole (slot xs m)) ≡ map (λ (y : Instance). whole (slot (single y) m)) (listed xs)
  field_instances xs m = ap (filter (is_present (pre ++ step j repeated ∷ []))) (f.rows_in j 0 (omega arith) repeated [] (slot xs m) ∙ map-map whole (λ (ys : Instances). slot ys m) (field_rows (rows []) xs)) ∙ by_slot xs
    where
      there : (ys : Instances) → is_present (pre ++ step j repeated ∷ []) (whole (slot ys m)) ≡ is_present (step 0 repeated ∷ []) (slot ys m)
      there ys = f.present_in j 0 (omega arith) repeated [] (slot ys m)

      alone : (y : Instance) → instance_rows (rows []) y ≡ single y ∷ []
      alone (atom v) = refl
      alone (inner n) = refl

      each : (xs : Instances) → filter (is_present (pre ++ step j repeated ∷ [])) (map (λ (ys : Instances). whole (slot ys m)) (each_instance_rows (rows []) xs)) ≡ map (λ (y : Instance). whole (slot (single y) m)) (listed xs)
      each no_instances = refl
      each (instance x xs) =
          ap (λ (l : List Instances). filter (is_present (pre ++ step j repeated ∷ [])) (map (λ (ys : Instances). whole (slot ys m)) (l ++ each_instance_rows (rows []) xs))) (alone x)
          ∙ ap (λ (b : Bool). if b then whole (slot (single x) m) ∷ filter (is_present (pre ++ step j repeated ∷ [])) (map (λ (ys : Instances). whole (slot ys m)) (each_instance_rows (rows []) xs))
          else filter (is_present (pre ++ step j repeated ∷ [])) (map (λ (ys : Instances). whole (slot ys m)) (each_instance_rows (rows []) xs))) (there (single x))
          ∙ ap (λ (l : List Node). whole (slot (single x) m) ∷ l) (each xs)

      by_slot : (xs : Instances) → filter (is_present (pre ++ step j repeated ∷ [])) (map (λ (ys : Instances). whole (slot ys m)) (field_rows (rows []) xs)) ≡ map (λ (y : Instance). whole (slot (single y) m)) (listed xs)
      by_slot no_instances = ap (λ (b : Bool). if b then whole (slot no_instances m) ∷ [] else []) (there no_instances)
      by_slot (instance x xs) = each (instance x xs)

  -- where a field is absent, there is no instance below it
  pub absent_instances : (r : Repetition) (q : List Step) (m : Node) → instances_of ((pre ++ step j r ∷ []) ++ q) (whole (slot no_instances m)) ≡ []
  absent_instances r q m =
      ap (λ (p : List Step). instances_of p (whole (slot no_instances m))) (append_assoc pre (step j r ∷ []) q)
      ∙ ap (filter (is_present (pre ++ step j r ∷ q))) (f.rows_in j 0 (omega arith) r q (slot no_instances m))
      ∙ ap (λ (b : Bool). if b then whole (slot no_instances m) ∷ [] else []) (f.present_in j 0 (omega arith) r q (slot no_instances m))
