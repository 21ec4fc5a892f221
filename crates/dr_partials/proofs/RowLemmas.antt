-- The key tuples of the rows of a longer chain are among those of the rows of the keys' chain.
use Rattle.std.proofs.Common.{◌≡◌, ◌≤◌, inl, inr, ℕ, zero, suc, List, [], ◌∷◌, ◌++◌, map, Bool, true, false, ◌&&◌, ◌||◌, Option, Some, None, cond, refl, sym, ap, ap₂, ◌∙◌, subst, true≢false, arith}
use Rattle.std.specs.Prelude.{if◌then◌else◌, ◌⊎◌, ◌==◌, option_map, filter, nat_le}
use Rattle.std.specs.List.{list_all, flat_map, filter_map, cons_option}
use Rattle.std.specs.Ordering.{is_eq}
use Rattle.std.proofs.lemmas.Bool.{and_parts, eqb-true}
use Rattle.std.proofs.lemmas.Bool.Decides.{nat_tests}
use Rattle.dr_meaning.specs.Schema.{Repetition, required, optional, repeated, Fields, no_fields, field, Shape, leaf, group, is_repeated}
use Rattle.dr_meaning.specs.Path.{Step, begins_with, chain_end, up_to, is_leaf_path, is_shape_path, same_repetition}
use Rattle.dr_meaning.specs.Record.{Value, Node, no_slots, slot, gap, Instances, no_instances, instance, Instance, atom, inner, count_instances, fits_repetition, all_instances, is_record, is_instance, instances_at, instances_in, put_at, single}
use Rattle.dr_meaning.specs.Rows.{instance_rows, each_instance_rows, field_rows, rows, first_value, value_in, value_at}
use Rattle.dr_meaning.specs.Expression.{Expression, expression_chain, evaluate, is_true}
use Rattle.dr_meaning.specs.Kept.{with_kept, keep_each, if_some_kept, keep_below, keep_instance, kept_along, kept}
use Rattle.dr_meaning.specs.Query.{key_tuple, tuple_order}
use Rattle.dr_meaning.proofs.ProjectionLemmas.{step}
use Rattle.dr_partials.proofs.GroupLemmas.{Tuple, same_tuple, same_itself, same_is, among}

-- ---- lists

abbrev pub Each : {A : Type 0} → (A → Type 0) → List A → Type 0
Each P [] = Unit {0}
Each P (x ∷ xs) = P x × Each P xs

pub each_append : {A : Type 0} (P : A → Type 0) (xs ys : List A) → Each P xs → Each P ys → Each P (xs ++ ys)
each_append P [] ys h k = k
each_append P (x ∷ xs) ys h k = (h.0, each_append P xs ys h.1 k)

pub each_weaker : {A : Type 0} (P Q : A → Type 0) → ((x : A) → P x → Q x) → (xs : List A) → Each P xs → Each Q xs
each_weaker P Q f [] h = tt
each_weaker P Q f (x ∷ xs) h = (f x h.0, each_weaker P Q f xs h.1)

pub each_map : {A B : Type 0} (P : A → Type 0) (Q : B → Type 0) (f : A → B) → ((x : A) → P x → Q (f x)) → (xs : List A) → Each P xs → Each Q (map f xs)
each_map P Q f g [] h = tt
each_map P Q f g (x ∷ xs) h = (g x h.0, each_map P Q f g xs h.1)

each_any : {A : Type 0} (P : A → Type 0) → ((x : A) → P x) → (xs : List A) → Each P xs
each_any P f [] = tt
each_any P f (x ∷ xs) = (f x, each_any P f xs)

abbrev In : {A : Type 0} → A → List A → Type 0
In x [] = ⊥
In x (y ∷ ys) = (y ≡ x) ⊎ In x ys

in_left : {A : Type 0} (x : A) (xs ys : List A) → In x xs → In x (xs ++ ys)
in_left x [] ys h = absurd h
in_left x (y ∷ xs) ys (inl h) = inl h
in_left x (y ∷ xs) ys (inr h) = inr (in_left x xs ys h)

in_right : {A : Type 0} (x : A) (xs ys : List A) → In x ys → In x (xs ++ ys)
in_right x [] ys h = h
in_right x (y ∷ xs) ys h = inr (in_right x xs ys h)

in_map : {A B : Type 0} (f : A → B) (x : A) (xs : List A) → In x xs → In (f x) (map f xs)
in_map f x [] h = absurd h
in_map f x (y ∷ xs) (inl h) = inl (ap f h)
in_map f x (y ∷ xs) (inr h) = inr (in_map f x xs h)

-- ---- at most one instance where a path's fields aren't repeated

abbrev FewAt : Repetition → Instances → Type 0
FewAt required xs = count_instances xs ≤ 1
FewAt optional xs = count_instances xs ≤ 1
FewAt repeated xs = Unit {0}

abbrev EachIn : (Instance → Type 0) → Instances → Type 0
EachIn P no_instances = Unit {0}
EachIn P (instance x xs) = P x × EachIn P xs

abbrev pub SingleIn : List Step → Instance → Type 0
SingleIn [] x = Unit {0}
SingleIn (s ∷ p) x = FewAt s.repetition (instances_in s.place x) × EachIn (SingleIn p) (instances_in s.place x)

-- of each of these paths
abbrev pub SingleAll : List (List Step) → Node → Type 0
SingleAll ks n = Each (λ (k : List Step). SingleIn k (inner n)) ks

-- ---- the first value where a field is put

first_put : (f : Instance → Option Value) (i j : ℕ) (xs ys : Instances) (n : Node) → (j ≡ i → first_value f xs ≡ first_value f ys) → first_value f (instances_at j (put_at i xs n)) ≡ first_value f (instances_at j (put_at i ys n))
first_put f i j xs ys no_slots h = refl
first_put f zero zero xs ys (slot zs n) h = h refl
first_put f zero (suc j) xs ys (slot zs n) h = refl
first_put f (suc i) zero xs ys (slot zs n) h = refl
first_put f (suc i) (suc j) xs ys (slot zs n) h = first_put f i j xs ys n (λ e. h (ap suc e))
first_put f zero zero xs ys (gap n) h = refl
first_put f zero (suc j) xs ys (gap n) h = refl
first_put f (suc i) zero xs ys (gap n) h = refl
first_put f (suc i) (suc j) xs ys (gap n) h = first_put f i j xs ys n (λ e. h (ap suc e))

first_kept : (f : Instance → Option Value) (i j : ℕ) (ys : Instances) (n : Node) → (j ≡ i → first_value f (instances_at i n) ≡ first_value f ys) → first_value f (instances_at j n) ≡ first_value f (instances_at j (put_at i ys n))
first_kept f i j ys no_slots h = refl
first_kept f zero zero ys (slot zs n) h = h refl
first_kept f zero (suc j) ys (slot zs n) h = refl
first_kept f (suc i) zero ys (slot zs n) h = refl
first_kept f (suc i) (suc j) ys (slot zs n) h = first_kept f i j ys n (λ e. h (ap suc e))
first_kept f zero zero ys (gap n) h = refl
first_kept f zero (suc j) ys (gap n) h = refl
first_kept f (suc i) zero ys (gap n) h = refl
first_kept f (suc i) (suc j) ys (gap n) h = first_kept f i j ys n (λ e. h (ap suc e))

-- ---- a path without repeated fields has in a row the value that it has in the node

no_level : (t : Step) (l : List Step) → begins_with (up_to t l) [] ≡ true → (is_repeated t.repetition ≡ false) × (begins_with l [] ≡ true)
no_level t [] h = by_test (is_repeated t.repetition) h
  where
    by_test : (b : Bool) → begins_with (if b then t ∷ [] else []) [] ≡ true → (b ≡ false) × (true ≡ true)
    by_test true e = absurd (true≢false (sym e))
    by_test false e = (refl, refl)
no_level t (u ∷ l) h = absurd (true≢false (sym h))

few_two : (r : Repetition) (x y : Instance) (xs : Instances) → is_repeated r ≡ false → FewAt r (instance x (instance y xs)) → ⊥
few_two required x y xs h f = omega (arith, f)
few_two optional x y xs h f = omega (arith, f)
few_two repeated x y xs h f = true≢false h

abbrev SameAbove : Node → Node → Type 0
SameAbove n r = (k : List Step) → begins_with (chain_end k) [] ≡ true → SingleIn k (inner n) → value_at k n ≡ value_at k r

abbrev CutSame : Instances → Instances → Type 0
CutSame xs ys = (r : Repetition) (k : List Step) → is_repeated r ≡ false → begins_with (chain_end k) [] ≡ true → FewAt r xs → EachIn (SingleIn k) xs
    → first_value (value_in k) xs ≡ first_value (value_in k) ys

one_same : (f : Node → List Node) → ((n : Node) → Each (SameAbove n) (f n)) → (x : Instance) (xs : Instances) → Each (CutSame (instance x xs)) (instance_rows f x)
one_same f h (atom v) xs = (λ r k e b w s. refl, tt)
one_same f h (inner m) xs = each_map (SameAbove m) (CutSame (instance (inner m) xs)) (λ (m : Node). single (inner m)) (λ (n : Node) (g : SameAbove m n) r k e b w s. g k b s.0) (f m) (h m)

others_same : (f : Node → List Node) (x : Instance) (xs : Instances) → Each (CutSame (instance x xs)) (each_instance_rows f xs)
others_same f x no_instances = tt
others_same f x (instance y xs) = each_any (CutSame (instance x (instance y xs))) (λ (ys : Instances) r k e b w s. absurd (few_two r x y xs e w)) (each_instance_rows f (instance y xs))

cuts_same : (f : Node → List Node) → ((n : Node) → Each (SameAbove n) (f n)) → (xs : Instances) → Each (CutSame xs) (field_rows f xs)
cuts_same f h no_instances = (λ r k e b w s. refl, tt)
cuts_same f h (instance x xs) = each_append (CutSame (instance x xs)) (instance_rows f x) (each_instance_rows f xs) (one_same f h x xs) (others_same f x xs)

put_same : (i : ℕ) (n : Node) (ys : Instances) → CutSame (instances_at i n) ys → SameAbove n (put_at i ys n)
put_same i n ys h [] b s = refl
put_same i n ys h (t ∷ k) b s =
    let w = no_level t (chain_end k) b in
    first_kept (value_in k) i t.place ys n (λ e. h t.repetition k w.0 w.1 (subst (λ j. FewAt t.repetition (instances_at j n)) e s.0) (subst (λ j. EachIn (SingleIn k) (instances_at j n)) e s.1))

rows_same : (q : List Step) (n : Node) → Each (SameAbove n) (rows q n)
rows_same [] n = (λ k b s. refl, tt)
rows_same (s ∷ q) n = each_map (CutSame (instances_at s.place n)) (SameAbove n) (λ xs. put_at s.place xs n) (put_same s.place n) (field_rows (rows q) (instances_at s.place n))
    (cuts_same (rows q) (rows_same q) (instances_at s.place n))

-- ---- each row of a longer chain has above it a row of the shorter one, with the same values of paths within the shorter one

abbrev RowAbove : List Step → Node → Node → Type 0
RowAbove p n r = (u : Node) × In u (rows p n) × ((k : List Step) → begins_with (chain_end k) p ≡ true → SingleIn k (inner n) → value_at k u ≡ value_at k r)

abbrev CutAbove : List Step → Instances → List Instances → Instances → Type 0
CutAbove p xs among_them ys = (zs : Instances) × In zs among_them × ((k : List Step) → begins_with (chain_end k) p ≡ true → EachIn (SingleIn k) xs → first_value (value_in k) zs ≡ first_value (value_in k) ys)

each_above : (p : List Step) (f : Node → List Node) → ((n : Node) → Each (RowAbove p n) (f n)) → (xs : Instances) → Each (CutAbove p xs (each_instance_rows (rows p) xs)) (each_instance_rows f xs)
each_above p f h no_instances = tt
each_above p f h (instance x xs) =
    each_append (CutAbove p (instance x xs) (each_instance_rows (rows p) (instance x xs))) (instance_rows f x) (each_instance_rows f xs) (first x)
    (each_weaker (CutAbove p xs (each_instance_rows (rows p) xs)) (CutAbove p (instance x xs) (each_instance_rows (rows p) (instance x xs)))
    (λ (ys : Instances) (c : CutAbove p xs (each_instance_rows (rows p) xs) ys). (c.0, in_right c.0 (instance_rows (rows p) x) (each_instance_rows (rows p) xs) c.1, λ k b s. c.2 k b s.1))
    (each_instance_rows f xs) (each_above p f h xs))
  where
    first : (y : Instance) → Each (CutAbove p (instance y xs) (instance_rows (rows p) y ++ each_instance_rows (rows p) xs)) (instance_rows f y)
    first (atom v) = ((single (atom v), inl refl, λ k b s. refl), tt)
    first (inner m) = each_map (RowAbove p m) (CutAbove p (instance (inner m) xs) (instance_rows (rows p) (inner m) ++ each_instance_rows (rows p) xs)) (λ (m : Node). single (inner m))
        (λ (r : Node) (a : RowAbove p m r). (single (inner a.0), in_left (single (inner a.0)) (instance_rows (rows p) (inner m)) (each_instance_rows (rows p) xs) (in_map (λ (m : Node). single (inner m)) a.0 (rows p m) a.1), λ k b s. a.2 k b s.0))
        (f m) (h m)

cuts_above : (p : List Step) (f : Node → List Node) → ((n : Node) → Each (RowAbove p n) (f n)) → (xs : Instances) → Each (CutAbove p xs (field_rows (rows p) xs)) (field_rows f xs)
cuts_above p f h no_instances = ((no_instances, inl refl, λ k b s. refl), tt)
cuts_above p f h (instance x xs) = each_above p f h (instance x xs)

level_below : (t s : Step) (l p : List Step) → begins_with (up_to t l) (s ∷ p) ≡ true → begins_with l p ≡ true
level_below t s [] p h = refl
level_below t s (u ∷ l) p h = (and_parts (t.place == s.place) (begins_with (u ∷ l) p) h).1

put_above : (s : Step) (p : List Step) (n : Node) (ys : Instances) → CutAbove p (instances_at s.place n) (field_rows (rows p) (instances_at s.place n)) ys → RowAbove (s ∷ p) n (put_at s.place ys n)
put_above s p n ys c = (put_at s.place c.0 n, in_map (λ xs. put_at s.place xs n) c.0 (field_rows (rows p) (instances_at s.place n)) c.1, same)
  where
    same : (k : List Step) → begins_with (chain_end k) (s ∷ p) ≡ true → SingleIn k (inner n) → value_at k (put_at s.place c.0 n) ≡ value_at k (put_at s.place ys n)
    same [] b w = refl
    same (t ∷ k) b w = first_put (value_in k) s.place t.place c.0 ys n (λ e. c.2 k (level_below t s (chain_end k) p b) (subst (λ j. EachIn (SingleIn k) (instances_at j n)) e w.1))

abbrev rows_at : ℕ → List Step → Node → List Node
rows_at i q n = map (λ xs. put_at i xs n) (field_rows (rows q) (instances_at i n))

rows_above : (p q : List Step) → begins_with p q ≡ true → (n : Node) → Each (RowAbove p n) (rows q n)
rows_above [] q h n = each_weaker (SameAbove n) (RowAbove [] n) (λ (r : Node) (g : SameAbove n r). (n, inl refl, g)) (rows q n) (rows_same q n)
rows_above (s ∷ p) [] h n = absurd (true≢false (sym h))
rows_above (s ∷ p) (t ∷ q) h n =
    let k = and_parts (s.place == t.place) (begins_with p q) h in
    subst (λ j. Each (RowAbove (s ∷ p) n) (rows_at j q n)) (eqb-true s.place t.place k.0)
    (each_map (CutAbove p (instances_at s.place n) (field_rows (rows p) (instances_at s.place n))) (RowAbove (s ∷ p) n) (λ xs. put_at s.place xs n) (put_above s p n) (field_rows (rows q) (instances_at s.place n))
    (cuts_above p (rows q) (rows_above p q k.1) (instances_at s.place n)))

-- ---- key tuples

abbrev WithinAll : List (List Step) → List Step → Type 0
WithinAll ks p = Each (λ (k : List Step). begins_with (chain_end k) p ≡ true) ks

same_keys : (p : List Step) (n u r : Node) → ((k : List Step) → begins_with (chain_end k) p ≡ true → SingleIn k (inner n) → value_at k u ≡ value_at k r)
    → (ks : List (List Step)) → WithinAll ks p → SingleAll ks n → key_tuple ks u ≡ key_tuple ks r
same_keys p n u r h [] w s = refl
same_keys p n u r h (k ∷ ks) w s = ap₂ (λ v vs. v ∷ vs) (h k w.0 s.0) (same_keys p n u r h ks w.1 s.1)

or_right : (a b : Bool) → b ≡ true → (a || b) ≡ true
or_right true b h = refl
or_right false b h = h

in_among : (f : Node → Tuple) (u : Node) (ns : List Node) → In u ns → among (f u) (map f ns) ≡ true
in_among f u [] h = absurd h
in_among f u (n ∷ ns) (inl h) = ap (λ b. b || among (f u) (map f ns)) (ap (λ m. same_tuple (f u) (f m)) h ∙ same_itself (f u))
in_among f u (n ∷ ns) (inr h) = or_right (same_tuple (f u) (f n)) (among (f u) (map f ns)) (in_among f u ns h)

in_rows : (p : List Step) (u n : Node) (ns : List Node) → In n ns → In u (rows p n) → In u (flat_map (rows p) ns)
in_rows p u n [] h k = absurd h
in_rows p u n (m ∷ ns) (inl h) k = in_left u (rows p m) (flat_map (rows p) ns) (subst (λ (x : Node). In u (rows p x)) (sym h) k)
in_rows p u n (m ∷ ns) (inr h) k = in_right u (rows p m) (flat_map (rows p) ns) (in_rows p u n ns h k)

abbrev pub tuples_of : List (List Step) → List Step → List Node → List Tuple
tuples_of ks p ns = map (key_tuple ks) (flat_map (rows p) ns)

-- of some of the nodes, among those of all
abbrev TupleAmong : List (List Step) → List Step → List Node → Node → Type 0
TupleAmong ks p ns r = among (key_tuple ks r) (tuples_of ks p ns) ≡ true

tuples_above : (ks : List (List Step)) (p q : List Step) → begins_with p q ≡ true → WithinAll ks p → (all ns : List Node) → ((n : Node) → In n ns → In n all) → Each (SingleAll ks) ns
    → Each (TupleAmong ks p all) (flat_map (rows q) ns)
tuples_above ks p q h w all [] i s = tt
tuples_above ks p q h w all (n ∷ ns) i s =
    each_append (TupleAmong ks p all) (rows q n) (flat_map (rows q) ns)
    (each_weaker (RowAbove p n) (TupleAmong ks p all)
    (λ (r : Node) (a : RowAbove p n r). subst (λ (t : Tuple). among t (tuples_of ks p all) ≡ true) (same_keys p n a.0 r a.2 ks w s.0) (in_among (key_tuple ks) a.0 (flat_map (rows p) all) (in_rows p a.0 n all (i n (inl refl)) a.1)))
    (rows q n) (rows_above p q h n))
    (tuples_above ks p q h w all ns (λ m j. i m (inr j)) s.1)

filter_none : (f : Node → Bool) (ns : List Node) → Each (λ (n : Node). f n ≡ false) ns → filter f ns ≡ []
filter_none f [] h = refl
filter_none f (n ∷ ns) h = ap (λ b. cond b (n ∷ filter f ns) (filter f ns)) h.0 ∙ filter_none f ns h.1

-- no row of the longer chain has a key tuple that no row of the keys' chain has
pub no_rows_elsewhere : (ks : List (List Step)) (p q : List Step) → begins_with p q ≡ true → WithinAll ks p → (ns : List Node) → Each (SingleAll ks) ns → (t : Tuple)
    → among t (tuples_of ks p ns) ≡ false → filter (λ row. is_eq (tuple_order (key_tuple ks row) t)) (flat_map (rows q) ns) ≡ []
no_rows_elsewhere ks p q h w ns s t a =
    filter_none (λ row. is_eq (tuple_order (key_tuple ks row) t)) (flat_map (rows q) ns)
    (each_weaker (TupleAmong ks p ns) (λ (r : Node). same_tuple (key_tuple ks r) t ≡ false) other (flat_map (rows q) ns) (tuples_above ks p q h w ns ns (λ n i. i) s))
  where
    other : (r : Node) → TupleAmong ks p ns r → same_tuple (key_tuple ks r) t ≡ false
    other r m = by_test (same_tuple (key_tuple ks r) t) refl
      where
        by_test : (b : Bool) → same_tuple (key_tuple ks r) t ≡ b → b ≡ false
        by_test true e = absurd (true≢false (sym m ∙ (ap (λ u. among u (tuples_of ks p ns)) (same_is (key_tuple ks r) t e) ∙ a)))
        by_test false e = refl

-- ---- kept branches

abbrev KeepsSingle : Node → Node → Type 0
KeepsSingle n m = (k : List Step) → SingleIn k (inner n) → SingleIn k (inner m)

abbrev KeepsOne : Instance → Instance → Type 0
KeepsOne x y = (k : List Step) → SingleIn k x → SingleIn k y

abbrev KeepsAll : Instances → Instances → Type 0
KeepsAll xs ys = (count_instances ys ≤ count_instances xs) × ((k : List Step) → EachIn (SingleIn k) xs → EachIn (SingleIn k) ys)

at_put : (P : Instances → Type 0) (i j : ℕ) (xs : Instances) (n : Node) → P (instances_at j n) → (j ≡ i → P (instances_at i n) → P xs) → P (instances_at j (put_at i xs n))
at_put P i j xs no_slots p h = p
at_put P zero zero xs (slot ys n) p h = h refl p
at_put P zero (suc j) xs (slot ys n) p h = p
at_put P (suc i) zero xs (slot ys n) p h = p
at_put P (suc i) (suc j) xs (slot ys n) p h = at_put P i j xs n p (λ e. h (ap suc e))
at_put P zero zero xs (gap n) p h = p
at_put P zero (suc j) xs (gap n) p h = p
at_put P (suc i) zero xs (gap n) p h = p
at_put P (suc i) (suc j) xs (gap n) p h = at_put P i j xs n p (λ e. h (ap suc e))

fewer : (r : Repetition) (xs ys : Instances) → count_instances ys ≤ count_instances xs → FewAt r xs → FewAt r ys
fewer required xs ys h f = omega (arith, h, f)
fewer optional xs ys h f = omega (arith, h, f)
fewer repeated xs ys h f = tt

put_keeps : (i : ℕ) (n : Node) (xs : Instances) → KeepsAll (instances_at i n) xs → KeepsSingle n (put_at i xs n)
put_keeps i n xs h [] s = tt
put_keeps i n xs h (t ∷ k) s = at_put (λ (ys : Instances). FewAt t.repetition ys × EachIn (SingleIn k) ys) i t.place xs n s
    (λ e p. (fewer t.repetition (instances_at i n) xs h.0 p.0, h.1 k p.1))

inner_keeps : (n m : Node) → KeepsSingle n m → KeepsOne (inner n) (inner m)
inner_keeps n m h k s = h k s

abbrev KeptOf : Node → Option Node → Type 0
KeptOf n None = Unit {0}
KeptOf n (Some m) = KeepsSingle n m

abbrev KeptOfOne : Instance → Option Instance → Type 0
KeptOfOne x None = Unit {0}
KeptOfOne x (Some y) = KeepsOne x y

if_itself : (n : Node) (b : Bool) → KeptOf n (if b then Some n else None)
if_itself n true = λ k s. s
if_itself n false = tt

atom_itself : (x : Instance) (b : Bool) → KeptOfOne x (if b then Some x else None)
atom_itself x true = λ k s. s
atom_itself x false = tt

inner_kept : (n : Node) (o : Option Node) → KeptOf n o → KeptOfOne (inner n) (option_map inner o)
inner_kept n None h = tt
inner_kept n (Some m) h = inner_keeps n m h

one_kept : (p : List Step) → ((test : Node → Bool) (n : Node) → KeptOf n (kept_along p test n)) → (row : Instance → Node) (test : Node → Bool) (x : Instance) → KeptOfOne x (keep_instance (kept_along p) row test x)
one_kept p h row test (atom v) = atom_itself (atom v) (test (row (atom v)))
one_kept p h row test (inner n) = inner_kept n (kept_along p (λ m. test (row (inner m))) n) (h (λ m. test (row (inner m))) n)

with_kept_keeps : (x : Instance) (o : Option Instance) (xs ys : Instances) → KeptOfOne x o → KeepsAll xs ys → KeepsAll (instance x xs) (with_kept o ys)
with_kept_keeps x None xs ys h a = (omega (arith, a.0), λ k s. a.1 k s.1)
with_kept_keeps x (Some y) xs ys h a = (omega (arith, a.0), λ k s. (h k s.0, a.1 k s.1))

each_kept : (f : Instance → Option Instance) → ((x : Instance) → KeptOfOne x (f x)) → (xs : Instances) → KeepsAll xs (keep_each f xs)
each_kept f h no_instances = (omega arith, λ k s. s)
each_kept f h (instance x xs) = with_kept_keeps x (f x) xs (keep_each f xs) (h x) (each_kept f h xs)

some_kept : (n : Node) (put : Instances → Node) (xs ys : Instances) → ((zs : Instances) → KeepsAll xs zs → KeepsSingle n (put zs)) → KeepsAll xs ys → KeptOf n (if_some_kept put ys)
some_kept n put xs no_instances h k = tt
some_kept n put xs (instance y ys) h k = h (instance y ys) k

below_kept : (test : Node → Bool) (put : Instances → Node) (f : Instance → Option Instance) (n : Node) (xs : Instances) → ((x : Instance) → KeptOfOne x (f x)) → ((zs : Instances) → KeepsAll xs zs → KeepsSingle n (put zs))
    → KeptOf n (keep_below test put f n xs)
below_kept test put f n no_instances h k = if_itself n (test n)
below_kept test put f n (instance x xs) h k = some_kept n put (instance x xs) (keep_each f (instance x xs)) k (each_kept f h (instance x xs))

along_kept : (p : List Step) (test : Node → Bool) (n : Node) → KeptOf n (kept_along p test n)
along_kept [] test n = if_itself n (test n)
along_kept (s ∷ p) test n = below_kept test (λ xs. put_at s.place xs n) (keep_instance (kept_along p) (λ x. put_at s.place (single x) n) test) n (instances_at s.place n)
    (one_kept p (along_kept p) (λ x. put_at s.place (single x) n) test) (put_keeps s.place n)

kept_of : (c : Option Expression) (n : Node) → KeptOf n (kept c n)
kept_of None n = λ k s. s
kept_of (Some e) n = along_kept (expression_chain e) (λ row. is_true (evaluate e row)) n

all_kept : (ks : List (List Step)) (n m : Node) → KeepsSingle n m → SingleAll ks n → SingleAll ks m
all_kept [] n m h s = tt
all_kept (k ∷ ks) n m h s = (h k s.0, all_kept ks n m h s.1)

pub single_kept : (ks : List (List Step)) (c : Option Expression) (ns : List Node) → Each (SingleAll ks) ns → Each (SingleAll ks) (filter_map (kept c) ns)
single_kept ks c [] s = tt
single_kept ks c (n ∷ ns) s = by_kept (kept c n) (kept_of c n) (single_kept ks c ns s.1)
  where
    by_kept : (o : Option Node) → KeptOf n o → Each (SingleAll ks) (filter_map (kept c) ns) → Each (SingleAll ks) (cons_option o (filter_map (kept c) ns))
    by_kept None h r = r
    by_kept (Some m) h r = (all_kept ks n m h s.0, r)

-- ---- records

few_of_record : (q r : Repetition) (xs : Instances) → same_repetition q r ≡ true → fits_repetition r (count_instances xs) ≡ true → FewAt q xs
few_of_record required required xs h f = let e : count_instances xs ≡ 1 = eqb-true (count_instances xs) 1 f in omega (arith, e)
few_of_record optional optional xs h f = few (count_instances xs) f
  where
    few : (n : ℕ) → nat_le n 1 ≡ true → n ≤ 1
    few n k = grind (arith, nat_tests)
few_of_record repeated r xs h f = tt
few_of_record required optional xs h f = absurd (true≢false (sym h))
few_of_record required repeated xs h f = absurd (true≢false (sym h))
few_of_record optional required xs h f = absurd (true≢false (sym h))
few_of_record optional repeated xs h f = absurd (true≢false (sym h))

each_single : (s : Shape) (k : List Step) → ((x : Instance) → is_instance s x ≡ true → SingleIn k x) → (xs : Instances) → all_instances (is_instance s) xs ≡ true → EachIn (SingleIn k) xs
each_single s k f no_instances h = tt
each_single s k f (instance x xs) h = let p = and_parts (is_instance s x) (all_instances (is_instance s) xs) h in (f x p.0, each_single s k f xs p.1)

mutual
  field_single : (fs : Fields) (i : ℕ) (q : Repetition) (k : List Step) (n : Node) → is_record fs n ≡ true → is_leaf_path fs (step i q ∷ k) ≡ true → FewAt q (instances_at i n) × EachIn (SingleIn k) (instances_at i n)
  field_single no_fields i q k n h g = absurd (true≢false (sym g))
  field_single (field m r s fs) i q k no_slots h g = absurd (true≢false (sym h))
  field_single (field m r s fs) i q k (gap n) h g = absurd (true≢false (sym h))
  field_single (field m r s fs) zero q k (slot xs n) h g =
      let p = and_parts (fits_repetition r (count_instances xs) && all_instances (is_instance s) xs) (is_record fs n) h in
      let o = and_parts (fits_repetition r (count_instances xs)) (all_instances (is_instance s) xs) p.0 in
      let w = and_parts (same_repetition q r) (is_shape_path s k) g in
      (few_of_record q r xs w.0 o.0, each_single s k (λ (x : Instance) (e : is_instance s x ≡ true). shape_single s k x e w.1) xs o.1)
  field_single (field m r s fs) (suc i) q k (slot xs n) h g =
      let p = and_parts (fits_repetition r (count_instances xs) && all_instances (is_instance s) xs) (is_record fs n) h in
      field_single fs i q k n p.1 g

  shape_single : (s : Shape) (k : List Step) (x : Instance) → is_instance s x ≡ true → is_shape_path s k ≡ true → SingleIn k x
  shape_single s [] x h g = tt
  shape_single (leaf j) (t ∷ k) x h g = absurd (true≢false (sym g))
  shape_single (group fs) (t ∷ k) (atom v) h g = absurd (true≢false (sym h))
  shape_single (group fs) (t ∷ k) (inner n) h g = field_single fs t.place t.repetition k n h g

record_single : (fs : Fields) (ks : List (List Step)) (n : Node) → list_all (is_leaf_path fs) ks ≡ true → is_record fs n ≡ true → SingleAll ks n
record_single fs [] n h g = tt
record_single fs (k ∷ ks) n h g = let p = and_parts (is_leaf_path fs k) (list_all (is_leaf_path fs) ks) h in (shape_single (group fs) k (inner n) g p.0, record_single fs ks n p.1 g)

pub records_single : (fs : Fields) (ks : List (List Step)) (ns : List Node) → list_all (is_leaf_path fs) ks ≡ true → list_all (is_record fs) ns ≡ true → Each (SingleAll ks) ns
records_single fs ks [] h g = tt
records_single fs ks (n ∷ ns) h g = let p = and_parts (is_record fs n) (list_all (is_record fs) ns) g in (record_single fs ks n h p.0, records_single fs ks ns h p.1)
