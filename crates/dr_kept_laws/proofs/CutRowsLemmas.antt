-- What is kept of a record's kept rows is the rows of what is kept of the record.
use Rattle.std.proofs.Common.{◌≡◌, ◌⊎◌, inl, inr, ℕ, suc, ◌≤◌, List, [], ◌∷◌, ◌++◌, Bool, true, false, Option, None, Some, refl, sym, ap, ap₂, subst, ◌∙◌, append-nil, arith}
use Rattle.std.specs.Prelude.{map, ◌==◌, if◌then◌else◌, option_map}
use Rattle.std.proofs.lemmas.List.{map-append}
use Rattle.std.proofs.lemmas.Simd.{map-map}
use Rattle.std.proofs.lemmas.Bool.{eqb-true}
use Rattle.dr_meaning.specs.Schema.{Fields, is_repeated}
use Rattle.dr_meaning.specs.Path.{Step, chain_end, begins_with}
use Rattle.dr_meaning.specs.Record.{Node, Instances, no_instances, instance, Instance, atom, inner, single, count_instances, is_record, instances_at, put_at}
use Rattle.dr_meaning.specs.Rows.{instance_rows, each_instance_rows, field_rows, rows, first_value, value_in, value_at}
use Rattle.dr_meaning.specs.Kept.{with_kept, keep_each, if_some_kept, keep_below, keep_instance, kept_along}
use Rattle.dr_meaning.proofs.Blocks.{EachInstance}
use Rattle.dr_kept_laws.specs.RowsOfKept.{rows_where_any, kept_instance_rows, each_kept_rows, kept_field_rows, kept_rows, rows_left}
use Rattle.dr_kept_laws.specs.RowsOfKeptLaws.{IsOfChain, KeptOfRows}
use Rattle.dr_kept_laws.proofs.FewLemmas.{record_few}
use Rattle.dr_kept_laws.proofs.RowLists.{not_same, AllOf, all_append, all_mapped, map_where}
use Rattle.dr_kept_laws.proofs.PutLemmas.{put_none, put_either, put_there, put_apart, put_twice, put_swap}
use Rattle.dr_kept_laws.proofs.LevelLemmas.{none_repeated, on_below, on_apart, on_root}
use Rattle.dr_kept_laws.proofs.RowsOfKeptLemmas.{FewIn, FewOn, kept_same, none_kept, all_rows}
use Rattle.dr_moves.proofs.RowsRead.{map_same}

-- ---- a value without repeated fields is the same in each row

abbrev SameValue : Node → Node → Type 0
SameValue n r = (q : List Step) → chain_end q ≡ [] → FewOn q (inner n) → value_at q r ≡ value_at q n

abbrev SameFirst : Instances → Instances → Type 0
SameFirst xs zs = (u : Step) (q : List Step) → is_repeated u.repetition ≡ false → chain_end q ≡ [] → FewIn u.repetition (FewOn q) xs → first_value (value_in q) zs ≡ first_value (value_in q) xs

alone_first : (p : List Step) → ((n : Node) → AllOf (SameValue n) (rows p n)) → (x : Instance) → AllOf (SameFirst (single x)) (instance_rows (rows p) x)
alone_first p f (atom v) = ((λ u q r l w. refl), tt)
alone_first p f (inner n) = all_mapped (SameFirst (single (inner n))) (SameValue n) (λ m. single (inner m)) (λ m h u q r l w. h q l w.1.0) (rows p n) (f n)

any_first : (x y : Instance) (ys : Instances) (rs : List Instances) → AllOf (SameFirst (instance x (instance y ys))) rs
any_first x y ys [] = tt
any_first x y ys (r ∷ rs) = ((λ u q e l w. let h : suc (suc (count_instances ys)) ≤ 1 = w.0 e in absurd (omega (arith, h))), any_first x y ys rs)

field_same : (p : List Step) → ((n : Node) → AllOf (SameValue n) (rows p n)) → (xs : Instances) → AllOf (SameFirst xs) (field_rows (rows p) xs)
field_same p f no_instances = ((λ u q r l w. refl), tt)
field_same p f (instance x no_instances) = all_append (SameFirst (single x)) (instance_rows (rows p) x) [] (alone_first p f x) tt
field_same p f (instance x (instance y ys)) = any_first x y ys (each_instance_rows (rows p) (instance x (instance y ys)))

rows_same : (p : List Step) (n : Node) → AllOf (SameValue n) (rows p n)
rows_same [] n = ((λ q l w. refl), tt)
rows_same (s ∷ p) n = all_mapped (SameValue n) (SameFirst (instances_at s.place n)) (λ xs. put_at s.place xs n) in_row (field_rows (rows p) (instances_at s.place n)) (field_same p (rows_same p) (instances_at s.place n))
  where
    by_place : (zs : Instances) → SameFirst (instances_at s.place n) zs → (u : Step) (q : List Step) → chain_end (u ∷ q) ≡ [] → FewOn (u ∷ q) (inner n) → (b : Bool) → (u.place == s.place) ≡ b
        → first_value (value_in q) (instances_at u.place (put_at s.place zs n)) ≡ first_value (value_in q) (instances_at u.place n)
    by_place zs h u q l w false e = ap (first_value (value_in q)) (put_apart u.place s.place zs n (not_same u.place s.place e))
    by_place zs h u q l w true e =
        let i : u.place ≡ s.place = eqb-true u.place s.place e in
        let k : (is_repeated u.repetition ≡ false) × (chain_end q ≡ []) = none_repeated u q l in
        ap (λ (j : ℕ). first_value (value_in q) (instances_at j (put_at s.place zs n))) i
        ∙ by_slot (put_either s.place zs n) (h u q k.0 k.1 (subst (λ (j : ℕ). FewIn u.repetition (FewOn q) (instances_at j n)) i w))
        ∙ ap (λ (j : ℕ). first_value (value_in q) (instances_at j n)) (sym i)
      where
        by_slot : (instances_at s.place (put_at s.place zs n) ≡ zs) ⊎ (instances_at s.place (put_at s.place zs n) ≡ instances_at s.place n) → first_value (value_in q) zs ≡ first_value (value_in q) (instances_at s.place n)
            → first_value (value_in q) (instances_at s.place (put_at s.place zs n)) ≡ first_value (value_in q) (instances_at s.place n)
        by_slot (inl e) h = ap (first_value (value_in q)) e ∙ h
        by_slot (inr e) h = ap (first_value (value_in q)) e

    in_row : (zs : Instances) → SameFirst (instances_at s.place n) zs → SameValue n (put_at s.place zs n)
    in_row zs h [] l w = refl
    in_row zs h (u ∷ q) l w = by_place zs h u q l w (u.place == s.place) refl

-- ---- a test that depends on values alone whose repeated fields are on the chain

abbrev pub IsLocal : List Step → (Node → Bool) → Node → Type 0
IsLocal c test n = (a b : Node) → ((q : List Step) → begins_with (chain_end q) c ≡ true → FewOn q (inner n) → value_at q a ≡ value_at q b) → test a ≡ test b

-- in an instance of the chain's field
local_below : (t : Step) (c : List Step) (test : Node → Bool) (n : Node) (x : Instance) (xs : Instances) (m : Node) → instances_at t.place n ≡ instance x xs
    → ((q : List Step) → EachInstance (FewOn q) (instance x xs) → FewOn q (inner m))
    → IsLocal (t ∷ c) test n → IsLocal c (λ k. test (put_at t.place (single (inner k)) n)) m
local_below t c test n x xs m e few h a b g = h (put_at t.place (single (inner a)) n) (put_at t.place (single (inner b)) n) same
  where
    by_place : (u : Step) (q : List Step) → begins_with (chain_end (u ∷ q)) (t ∷ c) ≡ true → FewOn (u ∷ q) (inner n) → (d : Bool) → (u.place == t.place) ≡ d
        → value_at (u ∷ q) (put_at t.place (single (inner a)) n) ≡ value_at (u ∷ q) (put_at t.place (single (inner b)) n)
    by_place u q l w false d = ap (first_value (value_in q)) (put_apart u.place t.place (single (inner a)) n (not_same u.place t.place d)) ∙ sym (ap (first_value (value_in q)) (put_apart u.place t.place (single (inner b)) n (not_same u.place t.place d)))
    by_place u q l w true d =
        let i : u.place ≡ t.place = eqb-true u.place t.place d in
        let v : FewIn u.repetition (FewOn q) (instance x xs) = subst (FewIn u.repetition (FewOn q)) (ap (λ (j : ℕ). instances_at j n) i ∙ e) w in
        ap (λ (j : ℕ). first_value (value_in q) (instances_at j (put_at t.place (single (inner a)) n))) i
        ∙ ap (first_value (value_in q)) (put_there t.place x xs (single (inner a)) n e)
        ∙ g q (on_below u t q c l) (few q v.1)
        ∙ sym (ap (first_value (value_in q)) (put_there t.place x xs (single (inner b)) n e))
        ∙ sym (ap (λ (j : ℕ). first_value (value_in q) (instances_at j (put_at t.place (single (inner b)) n))) i)

    same : (q : List Step) → begins_with (chain_end q) (t ∷ c) ≡ true → FewOn q (inner n) → value_at q (put_at t.place (single (inner a)) n) ≡ value_at q (put_at t.place (single (inner b)) n)
    same [] l w = refl
    same (u ∷ q) l w = by_place u q l w (u.place == t.place) refl

-- ---- beside the chain

-- one of the rows of a field beside the chain is put
module _ (s t : Step) (c : List Step) (test : Node → Bool) (n : Node) (d : (s.place == t.place) ≡ false) (h : IsLocal (t ∷ c) test n) (zs : Instances) (z : SameFirst (instances_at s.place n) zs) where
  -- it changes nothing of which the test depends
  beside_value : (ys : Instances) (u : Step) (q : List Step) → begins_with (chain_end (u ∷ q)) (t ∷ c) ≡ true → FewOn (u ∷ q) (inner n) → (b : Bool) → (u.place == s.place) ≡ b
      → value_at (u ∷ q) (put_at s.place zs (put_at t.place ys n)) ≡ value_at (u ∷ q) (put_at t.place ys n)
  beside_value ys u q l w false e = ap (first_value (value_in q)) (put_apart u.place s.place zs (put_at t.place ys n) (not_same u.place s.place e))
  beside_value ys u q l w true e =
      let i : u.place ≡ s.place = eqb-true u.place s.place e in
      let a : (u.place == t.place) ≡ false = ap (λ (j : ℕ). j == t.place) i ∙ d in
      let k : (is_repeated u.repetition ≡ false) × (chain_end q ≡ []) = none_repeated u q (on_apart u t q c a l) in
      let f : first_value (value_in q) zs ≡ first_value (value_in q) (instances_at s.place n) = z u q k.0 k.1 (subst (λ (j : ℕ). FewIn u.repetition (FewOn q) (instances_at j n)) i w) in
      let o : instances_at s.place (put_at t.place ys n) ≡ instances_at s.place n = put_apart s.place t.place ys n (not_same s.place t.place d) in
      ap (λ (j : ℕ). first_value (value_in q) (instances_at j (put_at s.place zs (put_at t.place ys n)))) i
      ∙ by_slot (put_either s.place zs (put_at t.place ys n)) (f ∙ sym (ap (first_value (value_in q)) o))
      ∙ ap (λ (j : ℕ). first_value (value_in q) (instances_at j (put_at t.place ys n))) (sym i)
    where
      by_slot : (instances_at s.place (put_at s.place zs (put_at t.place ys n)) ≡ zs) ⊎ (instances_at s.place (put_at s.place zs (put_at t.place ys n)) ≡ instances_at s.place (put_at t.place ys n))
          → first_value (value_in q) zs ≡ first_value (value_in q) (instances_at s.place (put_at t.place ys n))
          → first_value (value_in q) (instances_at s.place (put_at s.place zs (put_at t.place ys n))) ≡ first_value (value_in q) (instances_at s.place (put_at t.place ys n))
      by_slot (inl e) f = ap (first_value (value_in q)) e ∙ f
      by_slot (inr e) f = ap (first_value (value_in q)) e

  beside_test : (ys : Instances) → test (put_at s.place zs (put_at t.place ys n)) ≡ test (put_at t.place ys n)
  beside_test ys = h (put_at s.place zs (put_at t.place ys n)) (put_at t.place ys n) same
    where
      same : (q : List Step) → begins_with (chain_end q) (t ∷ c) ≡ true → FewOn q (inner n) → value_at q (put_at s.place zs (put_at t.place ys n)) ≡ value_at q (put_at t.place ys n)
      same [] l w = refl
      same (u ∷ q) l w = beside_value ys u q l w (u.place == s.place) refl

  -- the test in the row of an instance of the chain's field
  beside_row : (ys : Instances) → test (put_at t.place ys (put_at s.place zs n)) ≡ test (put_at t.place ys n)
  beside_row ys = ap test (put_swap t.place s.place ys zs n (λ e. not_same s.place t.place d (sym e))) ∙ beside_test ys

  beside_instance : (x : Instance) → keep_instance (kept_along c) (λ y. put_at t.place (single y) (put_at s.place zs n)) test x ≡ keep_instance (kept_along c) (λ y. put_at t.place (single y) n) test x
  beside_instance (atom v) = ap (λ (b : Bool). if b then Some (atom v) else None) (beside_row (single (atom v)))
  beside_instance (inner m) = ap (λ (f : Node → Bool). option_map inner (kept_along c f m)) (λ j k. beside_row (single (inner k)) j)

  beside_each : (xs : Instances) → keep_each (keep_instance (kept_along c) (λ y. put_at t.place (single y) (put_at s.place zs n)) test) xs ≡ keep_each (keep_instance (kept_along c) (λ y. put_at t.place (single y) n) test) xs
  beside_each no_instances = refl
  beside_each (instance x xs) = ap₂ with_kept (beside_instance x) (beside_each xs)

  -- what is kept with it is what is kept, with it
  beside_kept : kept_along (t ∷ c) test (put_at s.place zs n) ≡ option_map (λ (m : Node). put_at s.place zs m) (kept_along (t ∷ c) test n)
  beside_kept =
      ap (keep_below test (λ ys. put_at t.place ys (put_at s.place zs n)) (keep_instance (kept_along c) (λ x. put_at t.place (single x) (put_at s.place zs n)) test) (put_at s.place zs n)) (put_apart t.place s.place zs n (λ e. not_same s.place t.place d (sym e)))
      ∙ by_slot (instances_at t.place n) refl
    where
      by_test : (b : Bool) → (if b then Some (put_at s.place zs n) else None) ≡ option_map (λ (m : Node). put_at s.place zs m) (if b then Some n else None)
      by_test true = refl
      by_test false = refl

      by_kept : (ys : Instances) → if_some_kept (λ ys. put_at t.place ys (put_at s.place zs n)) ys ≡ option_map (λ (m : Node). put_at s.place zs m) (if_some_kept (λ ys. put_at t.place ys n) ys)
      by_kept no_instances = refl
      by_kept (instance y ys) = ap (λ (m : Node). Some m) (put_swap t.place s.place (instance y ys) zs n (λ e. not_same s.place t.place d (sym e)))

      by_slot : (xs : Instances) → instances_at t.place n ≡ xs
          → keep_below test (λ ys. put_at t.place ys (put_at s.place zs n)) (keep_instance (kept_along c) (λ x. put_at t.place (single x) (put_at s.place zs n)) test) (put_at s.place zs n) xs
          ≡ option_map (λ (m : Node). put_at s.place zs m) (keep_below test (λ ys. put_at t.place ys n) (keep_instance (kept_along c) (λ x. put_at t.place (single x) n) test) n xs)
      by_slot no_instances e =
          let o : put_at t.place no_instances n ≡ n = put_none t.place n e in
          ap (λ (b : Bool). if b then Some (put_at s.place zs n) else None) (ap (λ (m : Node). test (put_at s.place zs m)) (sym o) ∙ beside_test no_instances ∙ ap test o) ∙ by_test (test n)
      by_slot (instance x xs) e = ap (if_some_kept (λ ys. put_at t.place ys (put_at s.place zs n))) (beside_each (instance x xs)) ∙ by_kept (keep_each (keep_instance (kept_along c) (λ y. put_at t.place (single y) n) test) (instance x xs))

-- ---- along the chain

-- what is kept of a row of one instance of the chain's field
row_kept : (t : Step) (c : List Step) (test : Node → Bool) (n : Node) (x : Instance) (xs : Instances) → instances_at t.place n ≡ instance x xs → (z : Instance)
    → kept_along (t ∷ c) test (put_at t.place (single z) n) ≡ option_map (λ (y : Instance). put_at t.place (single y) n) (keep_instance (kept_along c) (λ y. put_at t.place (single y) n) test z)
row_kept t c test n x xs e z =
    ap (keep_below test (λ ys. put_at t.place ys (put_at t.place (single z) n)) (keep_instance (kept_along c) (λ y. put_at t.place (single y) (put_at t.place (single z) n)) test) (put_at t.place (single z) n)) (put_there t.place x xs (single z) n e)
    ∙ ap (λ (row : Instance → Node). if_some_kept (λ ys. put_at t.place ys (put_at t.place (single z) n)) (with_kept (keep_instance (kept_along c) row test z) no_instances)) same_row
    ∙ by_kept (keep_instance (kept_along c) (λ y. put_at t.place (single y) n) test z)
  where
    same_row : ◌≡◌ {A = Instance → Node} (λ y. put_at t.place (single y) (put_at t.place (single z) n)) (λ y. put_at t.place (single y) n)
    same_row = λ j y. put_twice t.place (single y) (single z) n j

    by_kept : (o : Option Instance) → if_some_kept (λ ys. put_at t.place ys (put_at t.place (single z) n)) (with_kept o no_instances) ≡ option_map (λ (y : Instance). put_at t.place (single y) n) o
    by_kept None = refl
    by_kept (Some y) = ap (λ (m : Node). Some m) (put_twice t.place (single y) (single z) n)

abbrev LocalAt : Step → List Step → (Node → Bool) → Node → Instance → Type 0
LocalAt t c test n (atom v) = Unit {0}
LocalAt t c test n (inner m) = IsLocal c (λ k. test (put_at t.place (single (inner k)) n)) m

each_local : (t : Step) (c : List Step) (test : Node → Bool) (n : Node) (x : Instance) (xs : Instances) → instances_at t.place n ≡ instance x xs → IsLocal (t ∷ c) test n
    → (zs : Instances) → ((q : List Step) → EachInstance (FewOn q) (instance x xs) → EachInstance (FewOn q) zs) → EachInstance (LocalAt t c test n) zs
each_local t c test n x xs e h no_instances f = tt
each_local t c test n x xs e h (instance (atom v) zs) f = (tt, each_local t c test n x xs e h zs (λ q w. (f q w).1))
each_local t c test n x xs e h (instance (inner m) zs) f = (local_below t c test n x xs m e (λ q w. (f q w).0) h, each_local t c test n x xs e h zs (λ q w. (f q w).1))

abbrev CutAlike : List Step → List Step → Type 0
CutAlike p c = (test : Node → Bool) (n m : Node) → IsLocal c test n → kept_along c test n ≡ Some m → map (kept_along c test) (kept_rows p c test n) ≡ map (λ (r : Node). Some r) (rows p m)

module _ (t : Step) (p c : List Step) (ih : CutAlike p c) (test : Node → Bool) (n : Node) (x : Instance) (xs : Instances) (e : instances_at t.place n ≡ instance x xs) where
  -- of one instance
  one_cut : (z : Instance) → LocalAt t c test n z
      → map (λ (zs : Instances). kept_along (t ∷ c) test (put_at t.place zs n)) (kept_instance_rows (kept_rows p c) (λ y. put_at t.place (single y) n) test z)
      ≡ map (λ (zs : Instances). Some (put_at t.place zs n)) (each_instance_rows (rows p) (with_kept (keep_instance (kept_along c) (λ y. put_at t.place (single y) n) test z) no_instances))
  one_cut (atom v) l = by_test (test (put_at t.place (single (atom v)) n)) (row_kept t c test n x xs e (atom v))
    where
      by_test : (b : Bool) → kept_along (t ∷ c) test (put_at t.place (single (atom v)) n) ≡ option_map (λ (y : Instance). put_at t.place (single y) n) (if b then Some (atom v) else None)
          → map (λ (zs : Instances). kept_along (t ∷ c) test (put_at t.place zs n)) (if b then single (atom v) ∷ [] else [])
          ≡ map (λ (zs : Instances). Some (put_at t.place zs n)) (each_instance_rows (rows p) (with_kept (if b then Some (atom v) else None) no_instances))
      by_test true h = ap (λ (o : Option Node). o ∷ []) h
      by_test false h = refl
  one_cut (inner k) l = by_kept (kept_along c (λ r. test (put_at t.place (single (inner r)) n)) k) refl
    where
      below : Option Node → Option Node
      below o = option_map (λ (y : Instance). put_at t.place (single y) n) (option_map inner o)

      of_rows : (rs : List Node) → map (λ (zs : Instances). kept_along (t ∷ c) test (put_at t.place zs n)) (map (λ m. single (inner m)) rs)
          ≡ map (λ (o : Option Node). option_map (λ (y : Instance). put_at t.place (single y) n) (option_map inner o)) (map (kept_along c (λ r. test (put_at t.place (single (inner r)) n))) rs)
      of_rows rs =
          map-map (λ (zs : Instances). kept_along (t ∷ c) test (put_at t.place zs n)) (λ (m : Node). single (inner m)) rs
          ∙ map_same (λ (m : Node). kept_along (t ∷ c) test (put_at t.place (single (inner m)) n)) (λ (m : Node). option_map (λ (y : Instance). put_at t.place (single y) n) (option_map inner (kept_along c (λ r. test (put_at t.place (single (inner r)) n)) m)))
          (λ m. row_kept t c test n x xs e (inner m)) rs
          ∙ sym (map-map (λ (o : Option Node). option_map (λ (y : Instance). put_at t.place (single y) n) (option_map inner o)) (kept_along c (λ r. test (put_at t.place (single (inner r)) n))) rs)

      by_kept : (o : Option Node) → kept_along c (λ r. test (put_at t.place (single (inner r)) n)) k ≡ o
          → map (λ (zs : Instances). kept_along (t ∷ c) test (put_at t.place zs n)) (map (λ m. single (inner m)) (kept_rows p c (λ r. test (put_at t.place (single (inner r)) n)) k))
          ≡ map (λ (zs : Instances). Some (put_at t.place zs n)) (each_instance_rows (rows p) (with_kept (option_map inner o) no_instances))
      by_kept None h = ap (λ (rs : List Node). map (λ (zs : Instances). kept_along (t ∷ c) test (put_at t.place zs n)) (map (λ m. single (inner m)) rs)) (none_kept p c (λ r. test (put_at t.place (single (inner r)) n)) k h)
      by_kept (Some m) h =
          of_rows (kept_rows p c (λ r. test (put_at t.place (single (inner r)) n)) k)
          ∙ ap (map (λ (o : Option Node). option_map (λ (y : Instance). put_at t.place (single y) n) (option_map inner o))) (ih (λ r. test (put_at t.place (single (inner r)) n)) k m l h)
          ∙ map-map (λ (o : Option Node). option_map (λ (y : Instance). put_at t.place (single y) n) (option_map inner o)) (λ (r : Node). Some r) (rows p m)
          ∙ sym (map-map (λ (zs : Instances). Some (put_at t.place zs n)) (λ (r : Node). single (inner r)) (rows p m))
          ∙ ap (map (λ (zs : Instances). Some (put_at t.place zs n))) (sym (append-nil (map (λ r. single (inner r)) (rows p m))))

  -- of each
  each_cut : (zs : Instances) → EachInstance (LocalAt t c test n) zs
      → map (λ (zs : Instances). kept_along (t ∷ c) test (put_at t.place zs n)) (each_kept_rows (kept_instance_rows (kept_rows p c) (λ y. put_at t.place (single y) n) test) zs)
      ≡ map (λ (zs : Instances). Some (put_at t.place zs n)) (each_instance_rows (rows p) (keep_each (keep_instance (kept_along c) (λ y. put_at t.place (single y) n) test) zs))
  each_cut no_instances l = refl
  each_cut (instance z zs) l =
      map-append (λ (zs : Instances). kept_along (t ∷ c) test (put_at t.place zs n)) (kept_instance_rows (kept_rows p c) (λ y. put_at t.place (single y) n) test z) (each_kept_rows (kept_instance_rows (kept_rows p c) (λ y. put_at t.place (single y) n) test) zs)
      ∙ ap₂ (λ (a b : List (Option Node)). a ++ b) (one_cut z l.0) (each_cut zs l.1)
      ∙ by_kept (keep_instance (kept_along c) (λ y. put_at t.place (single y) n) test z)
    where
      by_kept : (o : Option Instance) → map (λ (zs : Instances). Some (put_at t.place zs n)) (each_instance_rows (rows p) (with_kept o no_instances))
          ++ map (λ (zs : Instances). Some (put_at t.place zs n)) (each_instance_rows (rows p) (keep_each (keep_instance (kept_along c) (λ y. put_at t.place (single y) n) test) zs))
          ≡ map (λ (zs : Instances). Some (put_at t.place zs n)) (each_instance_rows (rows p) (with_kept o (keep_each (keep_instance (kept_along c) (λ y. put_at t.place (single y) n) test) zs)))
      by_kept None = refl
      by_kept (Some y) = ap (λ (rs : List Instances). map (λ (zs : Instances). Some (put_at t.place zs n)) rs ++ map (λ (zs : Instances). Some (put_at t.place zs n)) (each_instance_rows (rows p) (keep_each (keep_instance (kept_along c) (λ y. put_at t.place (single y) n) test) zs))) (append-nil (instance_rows (rows p) y))
          ∙ sym (map-append (λ (zs : Instances). Some (put_at t.place zs n)) (instance_rows (rows p) y) (each_instance_rows (rows p) (keep_each (keep_instance (kept_along c) (λ y. put_at t.place (single y) n) test) zs)))

-- ---- all of it

-- the kept rows where the chain goes no further along the path
ended_cut : (p c : List Step) (test : Node → Bool) (n m : Node) → kept_along c test n ≡ Some m → map (kept_along c test) (rows p n) ≡ map (λ (r : Node). Some r) (rows p m)
    → map (kept_along c test) (rows_where_any p c test n) ≡ map (λ (r : Node). Some r) (rows p m)
ended_cut p c test n m e h = ap (map (kept_along c test)) (all_rows p c test n m e) ∙ h

-- the whole record was tested
whole_cut : (p : List Step) (test : Node → Bool) (n m : Node) → IsLocal [] test n → kept_along [] test n ≡ Some m → map (kept_along [] test) (rows p n) ≡ map (λ (r : Node). Some r) (rows p m)
whole_cut p test n m h e =
    let k : (test n ≡ true) × (n ≡ m) = kept_same (test n) n m e in
    map_where (SameValue n) (kept_along [] test) (λ (r : Node). Some r) (λ r s. ap (λ (b : Bool). if b then Some r else None) (h r n (λ q l w. s q (on_root (chain_end q) l) w) ∙ k.0)) (rows p n) (rows_same p n)
    ∙ ap (λ (m : Node). map (λ (r : Node). Some r) (rows p m)) k.1

-- another field has what it had
kept_apart : (s t : Step) (c : List Step) (test : Node → Bool) (n m : Node) → (s.place == t.place) ≡ false → kept_along (t ∷ c) test n ≡ Some m → instances_at s.place m ≡ instances_at s.place n
kept_apart s t c test n m d e = by_slot (instances_at t.place n) e
  where
    by_kept : (ys : Instances) → if_some_kept (λ zs. put_at t.place zs n) ys ≡ Some m → instances_at s.place m ≡ instances_at s.place n
    by_kept no_instances k = absurd (cc)
    by_kept (instance y ys) k = let z : put_at t.place (instance y ys) n ≡ m = cc in ap (instances_at s.place) (sym z) ∙ put_apart s.place t.place (instance y ys) n (not_same s.place t.place d)

    by_slot : (xs : Instances) → keep_below test (λ ys. put_at t.place ys n) (keep_instance (kept_along c) (λ x. put_at t.place (single x) n) test) n xs ≡ Some m → instances_at s.place m ≡ instances_at s.place n
    by_slot no_instances k = ap (instances_at s.place) (sym (kept_same (test n) n m k).1)
    by_slot (instance x xs) k = by_kept (keep_each (keep_instance (kept_along c) (λ y. put_at t.place (single y) n) test) (instance x xs)) k

apart_cut : (s t : Step) (p c : List Step) (test : Node → Bool) (n m : Node) → (s.place == t.place) ≡ false → IsLocal (t ∷ c) test n → kept_along (t ∷ c) test n ≡ Some m
    → map (kept_along (t ∷ c) test) (rows (s ∷ p) n) ≡ map (λ (r : Node). Some r) (rows (s ∷ p) m)
apart_cut s t p c test n m d h e =
    map-map (kept_along (t ∷ c) test) (λ (zs : Instances). put_at s.place zs n) (field_rows (rows p) (instances_at s.place n))
    ∙ map_where (SameFirst (instances_at s.place n)) (λ (zs : Instances). kept_along (t ∷ c) test (put_at s.place zs n)) (λ (zs : Instances). Some (put_at s.place zs m))
    (λ zs z. beside_kept s t c test n d h zs z ∙ ap (option_map (λ (m : Node). put_at s.place zs m)) e)
    (field_rows (rows p) (instances_at s.place n)) (field_same p (rows_same p) (instances_at s.place n))
    ∙ ap (λ (xs : Instances). map (λ (zs : Instances). Some (put_at s.place zs m)) (field_rows (rows p) xs)) (sym (kept_apart s t c test n m d e))
    ∙ sym (map-map (λ (r : Node). Some r) (λ (zs : Instances). put_at s.place zs m) (field_rows (rows p) (instances_at s.place m)))

along_cut : (s t : Step) (p c : List Step) → CutAlike p c → s.place ≡ t.place → (test : Node → Bool) (n m : Node) → IsLocal (t ∷ c) test n → kept_along (t ∷ c) test n ≡ Some m
    → map (kept_along (t ∷ c) test) (map (λ xs. put_at t.place xs n) (kept_field_rows (test n) (kept_instance_rows (kept_rows p c) (λ x. put_at t.place (single x) n) test) (instances_at t.place n)))
    ≡ map (λ (r : Node). Some r) (rows (s ∷ p) m)
along_cut s t p c ih i test n m h e =
    by_slot (instances_at t.place n) refl e
    ∙ ap (λ (j : ℕ). map (λ (r : Node). Some r) (map (λ (zs : Instances). put_at j zs m) (field_rows (rows p) (instances_at j m)))) (sym i)
  where
    by_kept : (x : Instance) (xs ys : Instances) → instances_at t.place n ≡ instance x xs
        → keep_each (keep_instance (kept_along c) (λ y. put_at t.place (single y) n) test) (instance x xs) ≡ ys → if_some_kept (λ zs. put_at t.place zs n) ys ≡ Some m
        → map (kept_along (t ∷ c) test) (map (λ xs. put_at t.place xs n) (each_kept_rows (kept_instance_rows (kept_rows p c) (λ x. put_at t.place (single x) n) test) (instance x xs)))
        ≡ map (λ (r : Node). Some r) (map (λ (zs : Instances). put_at t.place zs m) (field_rows (rows p) (instances_at t.place m)))
    by_kept x xs no_instances a k e = absurd (cc)
    by_kept x xs (instance y ys) a k e =
        let z : put_at t.place (instance y ys) n ≡ m = cc in
        map-map (kept_along (t ∷ c) test) (λ (zs : Instances). put_at t.place zs n) (each_kept_rows (kept_instance_rows (kept_rows p c) (λ x. put_at t.place (single x) n) test) (instance x xs))
        ∙ each_cut t p c ih test n x xs a (instance x xs) (each_local t c test n x xs a h (instance x xs) (λ q w. w))
        ∙ ap (λ (us : Instances). map (λ (zs : Instances). Some (put_at t.place zs n)) (each_instance_rows (rows p) us)) k
        ∙ map_same (λ (zs : Instances). Some (put_at t.place zs n)) (λ (zs : Instances). Some (put_at t.place zs m)) (λ zs. ap (λ (r : Node). Some r) (sym (put_twice t.place zs (instance y ys) n) ∙ ap (put_at t.place zs) z)) (each_instance_rows (rows p) (instance y ys))
        ∙ ap (λ (us : Instances). map (λ (zs : Instances). Some (put_at t.place zs m)) (field_rows (rows p) us)) (sym (ap (instances_at t.place) (sym z) ∙ put_there t.place x xs (instance y ys) n a))
        ∙ sym (map-map (λ (r : Node). Some r) (λ (zs : Instances). put_at t.place zs m) (field_rows (rows p) (instances_at t.place m)))

    by_slot : (xs : Instances) → instances_at t.place n ≡ xs → keep_below test (λ ys. put_at t.place ys n) (keep_instance (kept_along c) (λ x. put_at t.place (single x) n) test) n xs ≡ Some m
        → map (kept_along (t ∷ c) test) (map (λ xs. put_at t.place xs n) (kept_field_rows (test n) (kept_instance_rows (kept_rows p c) (λ x. put_at t.place (single x) n) test) xs))
        ≡ map (λ (r : Node). Some r) (map (λ (zs : Instances). put_at t.place zs m) (field_rows (rows p) (instances_at t.place m)))
    by_slot no_instances a k =
        let b : (test n ≡ true) × (n ≡ m) = kept_same (test n) n m k in
        ap (λ (x : Bool). map (kept_along (t ∷ c) test) (map (λ xs. put_at t.place xs n) (if x then no_instances ∷ [] else []))) b.0
        ∙ ap (λ (r : Node). kept_along (t ∷ c) test r ∷ []) (put_none t.place n a) ∙ ap (λ (o : Option Node). o ∷ []) e
        ∙ ap (λ (r : Node). Some r ∷ []) (sym (put_none t.place m (ap (instances_at t.place) (sym b.1) ∙ a)))
        ∙ ap (λ (us : Instances). map (λ (r : Node). Some r) (map (λ (zs : Instances). put_at t.place zs m) (field_rows (rows p) us))) (sym (ap (instances_at t.place) (sym b.1) ∙ a))
    by_slot (instance x xs) a k = by_kept x xs (keep_each (keep_instance (kept_along c) (λ y. put_at t.place (single y) n) test) (instance x xs)) a refl k

-- what is kept of the kept rows, one by one, is the rows of what is kept
pub cut_alike : (p c : List Step) → CutAlike p c
cut_alike [] c test n m h e = ended_cut [] c test n m e (ap (λ (o : Option Node). o ∷ []) e)
cut_alike (s ∷ p) [] test n m h e = ended_cut (s ∷ p) [] test n m e (whole_cut (s ∷ p) test n m h e)
cut_alike (s ∷ p) (t ∷ c) test n m h e = by_place (s.place == t.place) refl (cut_alike p c)
  where
    by_place : (d : Bool) → (s.place == t.place) ≡ d → CutAlike p c
        → map (kept_along (t ∷ c) test) (if d then map (λ xs. put_at t.place xs n) (kept_field_rows (test n) (kept_instance_rows (kept_rows p c) (λ x. put_at t.place (single x) n) test) (instances_at t.place n))
        else rows_where_any (s ∷ p) (t ∷ c) test n) ≡ map (λ (r : Node). Some r) (rows (s ∷ p) m)
    by_place true d f = along_cut s t p c f (eqb-true s.place t.place d) test n m h e
    by_place false d f = ended_cut (s ∷ p) (t ∷ c) test n m e (apart_cut s t p c test n m d h e)

pub is_local : (fs : Fields) (c : List Step) (test : Node → Bool) (n : Node) → is_record fs n ≡ true → IsOfChain fs c test → IsLocal c test n
is_local fs c test n z h a b g = h a b (λ q u l. g q l (record_few fs q n u z))

pub kept_of_rows : KeptOfRows
kept_of_rows fs n p c test z h = by_kept (kept_along c test n) refl
  where
    by_kept : (o : Option Node) → kept_along c test n ≡ o → map (kept_along c test) (kept_rows p c test n) ≡ map (λ (r : Node). Some r) (rows_left p o)
    by_kept None e = ap (map (kept_along c test)) (none_kept p c test n e)
    by_kept (Some m) e = cut_alike p c test n m (is_local fs c test n z h) e
