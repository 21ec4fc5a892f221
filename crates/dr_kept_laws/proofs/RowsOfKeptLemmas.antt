-- What is kept of a record has the record's kept rows: whatever is looked up in them by a path whose repeated fields are on the rows' path is the same.
use Rattle.std.proofs.Common.{◌≡◌, ℕ, ◌≤◌, List, [], ◌∷◌, ◌++◌, length, Bool, true, false, Option, None, Some, refl, sym, ap, ap₂, subst, ◌∙◌, arith}
use Rattle.std.specs.Prelude.{map, ◌==◌, if◌then◌else◌, option_map, is_some}
use Rattle.std.proofs.lemmas.List.{map-append, length-map}
use Rattle.std.proofs.lemmas.Simd.{map-map}
use Rattle.std.proofs.lemmas.Bool.{eqb-true}
use Rattle.dr_meaning.specs.Schema.{Repetition, is_repeated}
use Rattle.dr_meaning.specs.Path.{Step, chain_end, begins_with}
use Rattle.dr_meaning.specs.Record.{Value, Node, Instances, no_instances, instance, Instance, atom, inner, single, count_instances, instances_at, instances_in, put_at}
use Rattle.dr_meaning.specs.Rows.{each_instance_rows, field_rows, rows}
use Rattle.dr_meaning.specs.Kept.{with_kept, keep_each, if_some_kept, keep_below, keep_instance, kept_along}
use Rattle.dr_meaning.proofs.Blocks.{EachInstance}
use Rattle.dr_kept_laws.specs.RowsOfKept.{rows_where_any, kept_instance_rows, each_kept_rows, kept_field_rows, kept_rows}
use Rattle.dr_kept_laws.proofs.PutLemmas.{put_there, put_apart, put_twice, put_swap}
use Rattle.dr_kept_laws.proofs.RowLists.{not_same, constant_maps}
use Rattle.dr_kept_laws.proofs.LevelLemmas.{none_repeated, on_root, on_below, on_apart}
use Rattle.dr_moves.proofs.KeptRows.{kept_any}
use Rattle.dr_moves.proofs.RowsRead.{map_same}

-- ---- what is kept

-- what passes a test as it is
pub kept_same : {X : Type 0} (b : Bool) (x y : X) → (if b then Some x else None) ≡ Some y → (b ≡ true) × (x ≡ y)
kept_same true x y h = (refl, cc)
kept_same false x y h = absurd (cc)

not_kept : {X : Type 0} (b : Bool) (x : X) → (if b then Some x else None) ≡ None → b ≡ false
not_kept true x h = absurd (cc)
not_kept false x h = refl

-- all rows, or none, where the chain goes no further along the path
pub all_rows : (p c : List Step) (test : Node → Bool) (n m : Node) → kept_along c test n ≡ Some m → rows_where_any p c test n ≡ rows p n
all_rows p c test n m e = ap (λ (b : Bool). if b then rows p n else []) (sym (kept_any c test n) ∙ ap is_some e)

no_rows : (p c : List Step) (test : Node → Bool) (n : Node) → kept_along c test n ≡ None → rows_where_any p c test n ≡ []
no_rows p c test n e = ap (λ (b : Bool). if b then rows p n else []) (sym (kept_any c test n) ∙ ap is_some e)

-- ---- nothing is kept

abbrev NoneKept : List Step → List Step → Type 0
NoneKept p c = (test : Node → Bool) (n : Node) → kept_along c test n ≡ None → kept_rows p c test n ≡ []

-- an instance that isn't kept has no kept rows
pub instance_none : (p c : List Step) → NoneKept p c → (row : Instance → Node) (test : Node → Bool) (x : Instance) → keep_instance (kept_along c) row test x ≡ None → kept_instance_rows (kept_rows p c) row test x ≡ []
instance_none p c f row test (atom v) e = ap (λ (b : Bool). if b then single (atom v) ∷ [] else []) (not_kept (test (row (atom v))) (atom v) e)
instance_none p c f row test (inner n) e = ap (map (λ m. single (inner m))) (f (λ m. test (row (inner m))) n (none_below (kept_along c (λ m. test (row (inner m))) n) e))
  where
    none_below : (o : Option Node) → option_map inner o ≡ None → o ≡ None
    none_below None e = refl
    none_below (Some m) e = absurd (cc)

each_none : (p c : List Step) → NoneKept p c → (row : Instance → Node) (test : Node → Bool) (xs : Instances) → keep_each (keep_instance (kept_along c) row test) xs ≡ no_instances
    → each_kept_rows (kept_instance_rows (kept_rows p c) row test) xs ≡ []
each_none p c f row test no_instances e = refl
each_none p c f row test (instance x xs) e = by_first (keep_instance (kept_along c) row test x) refl e (λ h. each_none p c f row test xs h)
  where
    by_first : (o : Option Instance) → keep_instance (kept_along c) row test x ≡ o → with_kept o (keep_each (keep_instance (kept_along c) row test) xs) ≡ no_instances
        → (keep_each (keep_instance (kept_along c) row test) xs ≡ no_instances → each_kept_rows (kept_instance_rows (kept_rows p c) row test) xs ≡ [])
        → kept_instance_rows (kept_rows p c) row test x ++ each_kept_rows (kept_instance_rows (kept_rows p c) row test) xs ≡ []
    by_first None h e g = ap₂ (λ (a b : List Instances). a ++ b) (instance_none p c f row test x h) (g e)
    by_first (Some y) h e g = absurd (cc)

some_none : (f : Instances → Node) (xs : Instances) → if_some_kept f xs ≡ None → xs ≡ no_instances
some_none f no_instances e = refl
some_none f (instance x xs) e = absurd (cc)

-- where nothing of a node is kept it has no kept rows
pub none_kept : (p c : List Step) → NoneKept p c
none_kept [] c test n e = no_rows [] c test n e
none_kept (s ∷ p) [] test n e = no_rows (s ∷ p) [] test n e
none_kept (s ∷ p) (t ∷ c) test n e = by_place (s.place == t.place) (none_kept p c)
  where
    by_slot : (xs : Instances) → NoneKept p c → keep_below test (λ ys. put_at t.place ys n) (keep_instance (kept_along c) (λ x. put_at t.place (single x) n) test) n xs ≡ None
        → kept_field_rows (test n) (kept_instance_rows (kept_rows p c) (λ x. put_at t.place (single x) n) test) xs ≡ []
    by_slot no_instances f e = ap (λ (b : Bool). if b then no_instances ∷ [] else []) (not_kept (test n) n e)
    by_slot (instance x xs) f e = each_none p c f (λ x. put_at t.place (single x) n) test (instance x xs)
        (some_none (λ ys. put_at t.place ys n) (keep_each (keep_instance (kept_along c) (λ x. put_at t.place (single x) n) test) (instance x xs)) e)

    by_place : (b : Bool) → NoneKept p c → (if b then map (λ xs. put_at t.place xs n) (kept_field_rows (test n) (kept_instance_rows (kept_rows p c) (λ x. put_at t.place (single x) n) test) (instances_at t.place n))
        else rows_where_any (s ∷ p) (t ∷ c) test n) ≡ []
    by_place true f = ap (map (λ xs. put_at t.place xs n)) (by_slot (instances_at t.place n) f e)
    by_place false f = no_rows (s ∷ p) (t ∷ c) test n e

-- ---- a path with few instances

-- at most one where the field isn't repeated
abbrev pub FewIn : Repetition → (Instance → Type 0) → Instances → Type 0
FewIn r P xs = (is_repeated r ≡ false → count_instances xs ≤ 1) × EachInstance P xs

-- at each field of the path
abbrev pub FewOn : List Step → Instance → Type 0
FewOn [] x = Unit {0}
FewOn (s ∷ q) x = FewIn s.repetition (FewOn q) (instances_in s.place x)

each_trivial : (xs : Instances) → EachInstance (FewOn []) xs
each_trivial no_instances = tt
each_trivial (instance x xs) = (tt, each_trivial xs)

-- ---- looking into a row

module _ (A : Type 0) (absent : A) (of_value : Value → A) (of_group : A) where
  abbrev look_first : (Instance → A) → Instances → A
  look_first f no_instances = absent
  look_first f (instance x xs) = f x

  -- what is found at a path's end, by the first instance of each field
  abbrev pub look : List Step → Instance → A
  look [] (atom v) = of_value v
  look [] (inner n) = of_group
  look (s ∷ q) x = look_first (look q) (instances_in s.place x)

  -- ---- without repeated fields: in a node and in what is kept of it

  abbrev SameBelow : List Step → List Step → Type 0
  SameBelow c q = (test : Node → Bool) (n m : Node) → FewOn q (inner n) → kept_along c test n ≡ Some m → look q (inner m) ≡ look q (inner n)

  instance_same : (c q : List Step) → SameBelow c q → (row : Instance → Node) (test : Node → Bool) (x y : Instance) → FewOn q x → keep_instance (kept_along c) row test x ≡ Some y → look q y ≡ look q x
  instance_same c q f row test (atom v) y w e = ap (look q) (sym (kept_same (test (row (atom v))) (atom v) y e).1)
  instance_same c q f row test (inner n) y w e = by_kept (kept_along c (λ m. test (row (inner m))) n) refl e
    where
      by_kept : (o : Option Node) → kept_along c (λ m. test (row (inner m))) n ≡ o → option_map inner o ≡ Some y → look q y ≡ look q (inner n)
      by_kept None h e = absurd (cc)
      by_kept (Some m) h e = let z : inner m ≡ y = cc in ap (look q) (sym z) ∙ f (λ m. test (row (inner m))) n m w h

  -- of the one instance that is kept
  one_same : (c q : List Step) → SameBelow c q → (row : Instance → Node) (test : Node → Bool) (xs ys : Instances) → count_instances xs ≤ 1 → EachInstance (FewOn q) xs
      → keep_each (keep_instance (kept_along c) row test) xs ≡ ys → ((y : Instance) (zs : Instances) → ys ≡ instance y zs → look_first (look q) ys ≡ look_first (look q) xs)
  one_same c q f row test no_instances ys l w e y zs h = absurd (cc)
  one_same c q f row test (instance x (instance u us)) ys l w e y zs h = absurd (omega (arith, l))
  one_same c q f row test (instance x no_instances) ys l w e y zs h = by_kept (keep_instance (kept_along c) row test x) refl e
    where
      by_kept : (o : Option Instance) → keep_instance (kept_along c) row test x ≡ o → with_kept o no_instances ≡ ys → look_first (look q) ys ≡ look q x
      by_kept None k e = absurd (cc)
      by_kept (Some z) k e = ap (look_first (look q)) (sym e) ∙ instance_same c q f row test x z w.0 k

  same_below : (c q : List Step) → chain_end q ≡ [] → SameBelow c q
  same_below [] q l test n m w e = ap (λ (x : Node). look q (inner x)) (sym (kept_same (test n) n m e).1)
  same_below (t ∷ c) [] l test n m w e = refl
  same_below (t ∷ c) (s ∷ q) l test n m w e = by_slot (instances_at t.place n) refl e (same_below c q (none_repeated s q l).1)
    where
      by_kept : (x : Instance) (xs ys : Instances) → instances_at t.place n ≡ instance x xs → SameBelow c q
          → keep_each (keep_instance (kept_along c) (λ y. put_at t.place (single y) n) test) (instance x xs) ≡ ys → if_some_kept (λ zs. put_at t.place zs n) ys ≡ Some m
          → look (s ∷ q) (inner m) ≡ look (s ∷ q) (inner n)
      by_kept x xs no_instances h f k e = absurd (cc)
      by_kept x xs (instance y ys) h f k e = let z : put_at t.place (instance y ys) n ≡ m = cc in ap (λ (r : Node). look (s ∷ q) (inner r)) (sym z) ∙ by_place (s.place == t.place) refl
        where
          by_place : (b : Bool) → (s.place == t.place) ≡ b → look (s ∷ q) (inner (put_at t.place (instance y ys) n)) ≡ look (s ∷ q) (inner n)
          by_place false a = ap (look_first (look q)) (put_apart s.place t.place (instance y ys) n (not_same s.place t.place a))
          by_place true a =
              let i : s.place ≡ t.place = eqb-true s.place t.place a in
              let u : instances_at s.place n ≡ instance x xs = ap (λ (j : ℕ). instances_at j n) i ∙ h in
              let v : FewIn s.repetition (FewOn q) (instance x xs) = subst (FewIn s.repetition (FewOn q)) u w in
              ap (λ (j : ℕ). look_first (look q) (instances_at j (put_at t.place (instance y ys) n))) i
              ∙ ap (look_first (look q)) (put_there t.place x xs (instance y ys) n h)
              ∙ one_same c q f (λ y. put_at t.place (single y) n) test (instance x xs) (instance y ys) (v.0 (none_repeated s q l).0) v.1 k y ys refl
              ∙ ap (look_first (look q)) (sym u)

      by_slot : (xs : Instances) → instances_at t.place n ≡ xs → keep_below test (λ ys. put_at t.place ys n) (keep_instance (kept_along c) (λ x. put_at t.place (single x) n) test) n xs ≡ Some m
          → SameBelow c q → look (s ∷ q) (inner m) ≡ look (s ∷ q) (inner n)
      by_slot no_instances h e f = ap (λ (x : Node). look (s ∷ q) (inner x)) (sym (kept_same (test n) n m e).1)
      by_slot (instance x xs) h e f = by_kept x xs (keep_each (keep_instance (kept_along c) (λ y. put_at t.place (single y) n) test) (instance x xs)) h f refl e

  -- ---- in the rows of a path

  abbrev SameRows : List Step → List Step → Type 0
  SameRows p c = (q : List Step) (test : Node → Bool) (n m : Node) → begins_with (chain_end q) p ≡ true → FewOn q (inner n) → kept_along c test n ≡ Some m
      → map (λ (r : Node). look q (inner r)) (rows p m) ≡ map (λ (r : Node). look q (inner r)) (kept_rows p c test n)

  -- instances of another field were put
  apart_rows : (s t : Step) (p q : List Step) (ys : Instances) (n : Node) → (s.place == t.place) ≡ false → begins_with (chain_end q) (s ∷ p) ≡ true
      → (chain_end q ≡ [] → look q (inner (put_at t.place ys n)) ≡ look q (inner n))
      → map (λ (r : Node). look q (inner r)) (rows (s ∷ p) (put_at t.place ys n)) ≡ map (λ (r : Node). look q (inner r)) (rows (s ∷ p) n)
  apart_rows s t p q ys n d h g =
      ap (λ (xs : Instances). map (λ (r : Node). look q (inner r)) (map (λ (zs : Instances). put_at s.place zs (put_at t.place ys n)) (field_rows (rows p) xs))) (put_apart s.place t.place ys n (not_same s.place t.place d))
      ∙ map-map (λ (r : Node). look q (inner r)) (λ (zs : Instances). put_at s.place zs (put_at t.place ys n)) (field_rows (rows p) (instances_at s.place n))
      ∙ map_same (λ (zs : Instances). look q (inner (put_at s.place zs (put_at t.place ys n)))) (λ (zs : Instances). look q (inner (put_at s.place zs n))) (λ zs. in_row zs q h g) (field_rows (rows p) (instances_at s.place n))
      ∙ sym (map-map (λ (r : Node). look q (inner r)) (λ (zs : Instances). put_at s.place zs n) (field_rows (rows p) (instances_at s.place n)))
    where
      in_row : (zs : Instances) (q : List Step) → begins_with (chain_end q) (s ∷ p) ≡ true → (chain_end q ≡ [] → look q (inner (put_at t.place ys n)) ≡ look q (inner n))
          → look q (inner (put_at s.place zs (put_at t.place ys n))) ≡ look q (inner (put_at s.place zs n))
      in_row zs [] h g = refl
      in_row zs (u ∷ q) h g = by_place (u.place == s.place) refl
        where
          by_place : (b : Bool) → (u.place == s.place) ≡ b → look (u ∷ q) (inner (put_at s.place zs (put_at t.place ys n))) ≡ look (u ∷ q) (inner (put_at s.place zs n))
          by_place true a =
              let i : u.place ≡ s.place = eqb-true u.place s.place a in
              ap (λ (r : Node). look_first (look q) (instances_at u.place r)) (put_swap s.place t.place zs ys n (not_same s.place t.place d))
              ∙ ap (λ (j : ℕ). look_first (look q) (instances_at j (put_at t.place ys (put_at s.place zs n)))) i
              ∙ ap (look_first (look q)) (put_apart s.place t.place ys (put_at s.place zs n) (not_same s.place t.place d))
              ∙ ap (λ (j : ℕ). look_first (look q) (instances_at j (put_at s.place zs n))) (sym i)
          by_place false a =
              ap (look_first (look q)) (put_apart u.place s.place zs (put_at t.place ys n) (not_same u.place s.place a))
              ∙ g (on_apart u s q p a h)
              ∙ sym (ap (look_first (look q)) (put_apart u.place s.place zs n (not_same u.place s.place a)))

  -- the rows of each kept instance, at a path within it
  first_rows : (p c : List Step) → SameRows p c → (q : List Step) → begins_with (chain_end q) p ≡ true → (row : Instance → Node) (test : Node → Bool) (x : Instance) → FewOn q x → (zs : Instances)
      → map (look_first (look q)) (each_instance_rows (rows p) (with_kept (keep_instance (kept_along c) row test x) zs))
      ≡ map (look_first (look q)) (kept_instance_rows (kept_rows p c) row test x) ++ map (look_first (look q)) (each_instance_rows (rows p) zs)
  first_rows p c f q h row test (atom v) w zs = by_test (test (row (atom v)))
    where
      by_test : (b : Bool) → map (look_first (look q)) (each_instance_rows (rows p) (with_kept (if b then Some (atom v) else None) zs))
          ≡ map (look_first (look q)) (if b then single (atom v) ∷ [] else []) ++ map (look_first (look q)) (each_instance_rows (rows p) zs)
      by_test true = refl
      by_test false = refl
  first_rows p c f q h row test (inner n) w zs = by_kept (kept_along c (λ m. test (row (inner m))) n) refl
    where
      by_kept : (o : Option Node) → kept_along c (λ m. test (row (inner m))) n ≡ o
          → map (look_first (look q)) (each_instance_rows (rows p) (with_kept (option_map inner o) zs))
          ≡ map (look_first (look q)) (map (λ m. single (inner m)) (kept_rows p c (λ m. test (row (inner m))) n)) ++ map (look_first (look q)) (each_instance_rows (rows p) zs)
      by_kept None e = ap (λ (rs : List Node). map (look_first (look q)) (map (λ m. single (inner m)) rs) ++ map (look_first (look q)) (each_instance_rows (rows p) zs)) (sym (none_kept p c (λ m. test (row (inner m))) n e))
      by_kept (Some m) e =
          map-append (look_first (look q)) (map (λ r. single (inner r)) (rows p m)) (each_instance_rows (rows p) zs)
          ∙ ap (λ (vs : List A). vs ++ map (look_first (look q)) (each_instance_rows (rows p) zs))
          (map-map (look_first (look q)) (λ (r : Node). single (inner r)) (rows p m) ∙ f q (λ m. test (row (inner m))) n m h w e
          ∙ sym (map-map (look_first (look q)) (λ (r : Node). single (inner r)) (kept_rows p c (λ m. test (row (inner m))) n)))

  each_rows : (p c : List Step) → SameRows p c → (q : List Step) → begins_with (chain_end q) p ≡ true → (row : Instance → Node) (test : Node → Bool) (xs : Instances) → EachInstance (FewOn q) xs
      → map (look_first (look q)) (each_instance_rows (rows p) (keep_each (keep_instance (kept_along c) row test) xs)) ≡ map (look_first (look q)) (each_kept_rows (kept_instance_rows (kept_rows p c) row test) xs)
  each_rows p c f q h row test no_instances w = refl
  each_rows p c f q h row test (instance x xs) w =
      first_rows p c f q h row test x w.0 (keep_each (keep_instance (kept_along c) row test) xs)
      ∙ ap (λ (vs : List A). map (look_first (look q)) (kept_instance_rows (kept_rows p c) row test x) ++ vs) (each_rows p c f q h row test xs w.1)
      ∙ sym (map-append (look_first (look q)) (kept_instance_rows (kept_rows p c) row test x) (each_kept_rows (kept_instance_rows (kept_rows p c) row test) xs))

  -- what is known of the rows of a field's instances serves the rows of the node
  through_field : (s : Step) (p : List Step) (j : ℕ) (n : Node) (x : Instance) (xs : Instances) (us vs : List Instances) → s.place ≡ j → instances_at j n ≡ instance x xs
      → ((q : List Step) → begins_with (chain_end q) p ≡ true → EachInstance (FewOn q) (instance x xs) → map (look_first (look q)) us ≡ map (look_first (look q)) vs)
      → (q : List Step) → begins_with (chain_end q) (s ∷ p) ≡ true → FewOn q (inner n)
      → map (λ (r : Node). look q (inner r)) (map (λ (zs : Instances). put_at j zs n) us) ≡ map (λ (r : Node). look q (inner r)) (map (λ (zs : Instances). put_at j zs n) vs)
  through_field s p j n x xs us vs i h g q b w =
      map-map (λ (r : Node). look q (inner r)) (λ (zs : Instances). put_at j zs n) us ∙ by_path q b w ∙ sym (map-map (λ (r : Node). look q (inner r)) (λ (zs : Instances). put_at j zs n) vs)
    where
      as_many : length us ≡ length vs
      as_many = sym (length-map us (look_first (look []))) ∙ ap length (g [] refl (each_trivial (instance x xs))) ∙ length-map vs (look_first (look []))

      constant : (q : List Step) (v : A) → ((zs : Instances) → look q (inner (put_at j zs n)) ≡ v)
          → map (λ (zs : Instances). look q (inner (put_at j zs n))) us ≡ map (λ (zs : Instances). look q (inner (put_at j zs n))) vs
      constant q v e = map_same (λ zs. look q (inner (put_at j zs n))) (λ zs. v) e us ∙ constant_maps v us vs as_many ∙ sym (map_same (λ zs. look q (inner (put_at j zs n))) (λ zs. v) e vs)

      by_place : (u : Step) (q : List Step) → begins_with (chain_end (u ∷ q)) (s ∷ p) ≡ true → FewOn (u ∷ q) (inner n) → (b : Bool) → (u.place == j) ≡ b
          → map (λ (zs : Instances). look (u ∷ q) (inner (put_at j zs n))) us ≡ map (λ (zs : Instances). look (u ∷ q) (inner (put_at j zs n))) vs
      by_place u q b w false a = constant (u ∷ q) (look (u ∷ q) (inner n)) (λ zs. ap (look_first (look q)) (put_apart u.place j zs n (not_same u.place j a)))
      by_place u q b w true a =
          let k : u.place ≡ j = eqb-true u.place j a in
          let v : FewIn u.repetition (FewOn q) (instance x xs) = subst (FewIn u.repetition (FewOn q)) (ap (λ (l : ℕ). instances_at l n) k ∙ h) w in
          let e : (zs : Instances) → look (u ∷ q) (inner (put_at j zs n)) ≡ look_first (look q) zs = λ zs. ap (λ (l : ℕ). look_first (look q) (instances_at l (put_at j zs n))) k ∙ ap (look_first (look q)) (put_there j x xs zs n h) in
          map_same (λ zs. look (u ∷ q) (inner (put_at j zs n))) (look_first (look q)) e us ∙ g q (on_below u s q p b) v.1 ∙ sym (map_same (λ zs. look (u ∷ q) (inner (put_at j zs n))) (look_first (look q)) e vs)

      by_path : (q : List Step) → begins_with (chain_end q) (s ∷ p) ≡ true → FewOn q (inner n)
          → map (λ (zs : Instances). look q (inner (put_at j zs n))) us ≡ map (λ (zs : Instances). look q (inner (put_at j zs n))) vs
      by_path [] b w = constant [] of_group (λ zs. refl)
      by_path (u ∷ q) b w = by_place u q b w (u.place == j) refl

  -- both go through the same field
  along_rows : (s t : Step) (p c q : List Step) → SameRows p c → s.place ≡ t.place → (test : Node → Bool) (n m : Node) → begins_with (chain_end q) (s ∷ p) ≡ true → FewOn q (inner n) → kept_along (t ∷ c) test n ≡ Some m
      → map (λ (r : Node). look q (inner r)) (rows (s ∷ p) m)
      ≡ map (λ (r : Node). look q (inner r)) (map (λ xs. put_at t.place xs n) (kept_field_rows (test n) (kept_instance_rows (kept_rows p c) (λ x. put_at t.place (single x) n) test) (instances_at t.place n)))
  along_rows s t p c q f i test n m b w e =
      ap (λ (j : ℕ). map (λ (r : Node). look q (inner r)) (map (λ (zs : Instances). put_at j zs m) (field_rows (rows p) (instances_at j m)))) i
      ∙ by_slot (instances_at t.place n) refl e
    where
      row : Instance → Node
      row = λ x. put_at t.place (single x) n

      by_kept : (x : Instance) (xs ys : Instances) → instances_at t.place n ≡ instance x xs
          → keep_each (keep_instance (kept_along c) (λ y. put_at t.place (single y) n) test) (instance x xs) ≡ ys → if_some_kept (λ zs. put_at t.place zs n) ys ≡ Some m
          → map (λ (r : Node). look q (inner r)) (map (λ (zs : Instances). put_at t.place zs m) (field_rows (rows p) (instances_at t.place m)))
          ≡ map (λ (r : Node). look q (inner r)) (map (λ xs. put_at t.place xs n) (each_kept_rows (kept_instance_rows (kept_rows p c) (λ x. put_at t.place (single x) n) test) (instance x xs)))
      by_kept x xs no_instances h k e = absurd (cc)
      by_kept x xs (instance y ys) h k e =
          let z : put_at t.place (instance y ys) n ≡ m = cc in
          ap (λ (m : Node). map (λ (r : Node). look q (inner r)) (map (λ (zs : Instances). put_at t.place zs m) (field_rows (rows p) (instances_at t.place m)))) (sym z)
          ∙ ap (λ (us : Instances). map (λ (r : Node). look q (inner r)) (map (λ (zs : Instances). put_at t.place zs (put_at t.place (instance y ys) n)) (field_rows (rows p) us))) (put_there t.place x xs (instance y ys) n h)
          ∙ ap (map (λ (r : Node). look q (inner r)))
          (map_same (λ (zs : Instances). put_at t.place zs (put_at t.place (instance y ys) n)) (λ (zs : Instances). put_at t.place zs n) (λ zs. put_twice t.place zs (instance y ys) n) (each_instance_rows (rows p) (instance y ys)))
          ∙ through_field s p t.place n x xs (each_instance_rows (rows p) (instance y ys)) (each_kept_rows (kept_instance_rows (kept_rows p c) (λ x. put_at t.place (single x) n) test) (instance x xs)) i h
          (λ q d v. ap (λ (us : Instances). map (look_first (look q)) (each_instance_rows (rows p) us)) (sym k) ∙ each_rows p c f q d (λ y. put_at t.place (single y) n) test (instance x xs) v)
          q b w

      by_slot : (xs : Instances) → instances_at t.place n ≡ xs → keep_below test (λ ys. put_at t.place ys n) (keep_instance (kept_along c) (λ x. put_at t.place (single x) n) test) n xs ≡ Some m
          → map (λ (r : Node). look q (inner r)) (map (λ (zs : Instances). put_at t.place zs m) (field_rows (rows p) (instances_at t.place m)))
          ≡ map (λ (r : Node). look q (inner r)) (map (λ xs. put_at t.place xs n) (kept_field_rows (test n) (kept_instance_rows (kept_rows p c) (λ x. put_at t.place (single x) n) test) xs))
      by_slot no_instances h e =
          let k : (test n ≡ true) × (n ≡ m) = kept_same (test n) n m e in
          ap (λ (m : Node). map (λ (r : Node). look q (inner r)) (map (λ (zs : Instances). put_at t.place zs m) (field_rows (rows p) (instances_at t.place m)))) (sym k.1)
          ∙ ap (λ (us : Instances). map (λ (r : Node). look q (inner r)) (map (λ (zs : Instances). put_at t.place zs n) (field_rows (rows p) us))) h
          ∙ ap (λ (y : Bool). map (λ (r : Node). look q (inner r)) (map (λ (zs : Instances). put_at t.place zs n) (if y then no_instances ∷ [] else []))) (sym k.0)
      by_slot (instance x xs) h e = by_kept x xs (keep_each (keep_instance (kept_along c) (λ y. put_at t.place (single y) n) test) (instance x xs)) h refl e

  -- the chain goes no further along the path
  ended_rows : (p c q : List Step) (test : Node → Bool) (n m : Node) → kept_along c test n ≡ Some m → map (λ (r : Node). look q (inner r)) (rows p m) ≡ map (λ (r : Node). look q (inner r)) (rows p n)
      → map (λ (r : Node). look q (inner r)) (rows p m) ≡ map (λ (r : Node). look q (inner r)) (rows_where_any p c test n)
  ended_rows p c q test n m e g = g ∙ ap (map (λ (r : Node). look q (inner r))) (sym (all_rows p c test n m e))

  apart_same : (s t : Step) (p c q : List Step) (test : Node → Bool) (n m : Node) → (s.place == t.place) ≡ false → begins_with (chain_end q) (s ∷ p) ≡ true → FewOn q (inner n) → kept_along (t ∷ c) test n ≡ Some m
      → map (λ (r : Node). look q (inner r)) (rows (s ∷ p) m) ≡ map (λ (r : Node). look q (inner r)) (rows (s ∷ p) n)
  apart_same s t p c q test n m d b w e = by_slot (instances_at t.place n) e
    where
      by_kept : (ys : Instances) → if_some_kept (λ zs. put_at t.place zs n) ys ≡ Some m → map (λ (r : Node). look q (inner r)) (rows (s ∷ p) m) ≡ map (λ (r : Node). look q (inner r)) (rows (s ∷ p) n)
      by_kept no_instances k = absurd (cc)
      by_kept (instance y ys) k =
          let z : put_at t.place (instance y ys) n ≡ m = cc in
          ap (λ (m : Node). map (λ (r : Node). look q (inner r)) (rows (s ∷ p) m)) (sym z)
          ∙ apart_rows s t p q (instance y ys) n d b (λ l. ap (λ (m : Node). look q (inner m)) z ∙ same_below (t ∷ c) q l test n m w e)

      by_slot : (xs : Instances) → keep_below test (λ ys. put_at t.place ys n) (keep_instance (kept_along c) (λ x. put_at t.place (single x) n) test) n xs ≡ Some m
          → map (λ (r : Node). look q (inner r)) (rows (s ∷ p) m) ≡ map (λ (r : Node). look q (inner r)) (rows (s ∷ p) n)
      by_slot no_instances k = ap (λ (m : Node). map (λ (r : Node). look q (inner r)) (rows (s ∷ p) m)) (sym (kept_same (test n) n m k).1)
      by_slot (instance x xs) k = by_kept (keep_each (keep_instance (kept_along c) (λ y. put_at t.place (single y) n) test) (instance x xs)) k

  -- the rows of what is kept are the kept rows, as far as is looked by a path whose repeated fields are on theirs
  pub same_rows : (p c : List Step) → SameRows p c
  same_rows [] c q test n m b w e = ended_rows [] c q test n m e (ap (λ (x : A). x ∷ []) (same_below c q (on_root (chain_end q) b) test n m w e))
  same_rows (s ∷ p) [] q test n m b w e = ended_rows (s ∷ p) [] q test n m e (ap (λ (m : Node). map (λ (r : Node). look q (inner r)) (rows (s ∷ p) m)) (sym (kept_same (test n) n m e).1))
  same_rows (s ∷ p) (t ∷ c) q test n m b w e = by_place (s.place == t.place) refl (same_rows p c)
    where
      by_place : (d : Bool) → (s.place == t.place) ≡ d → SameRows p c → map (λ (r : Node). look q (inner r)) (rows (s ∷ p) m)
          ≡ map (λ (r : Node). look q (inner r)) (if d then map (λ xs. put_at t.place xs n) (kept_field_rows (test n) (kept_instance_rows (kept_rows p c) (λ x. put_at t.place (single x) n) test) (instances_at t.place n))
          else rows_where_any (s ∷ p) (t ∷ c) test n)
      by_place true d f = along_rows s t p c q f (eqb-true s.place t.place d) test n m b w e
      by_place false d f = ended_rows (s ∷ p) (t ∷ c) q test n m e (apart_same s t p c q test n m d b w e)
