-- A leaf is found by a text exactly where it is among the leaves and its names, joined by dots, are the text.
use Rattle.std.proofs.Common.{◌≡◌, ◌⊎◌, inl, inr, ℕ, zero, suc, List, [], ◌∷◌, ◌++◌, map, Bool, true, false, Option, Some, None, refl, sym, ap, ◌∙◌, subst, true≢false}
use Rattle.std.specs.Prelude.{◌==◌, if◌then◌else◌, bytes_eq, option_map, option_and_then, Ok}
use Rattle.std.specs.List.{list_all, list_any, slice_get, join_with_byte}
use Rattle.std.proofs.lemmas.Bool.{and_parts, or_parts, eqb-true}
use Rattle.std.proofs.lemmas.Slice.Eq.{bytes_eq-Decides}
use Rattle.dr_meaning.specs.Schema.{Repetition, Kind, Fields, no_fields, field, Shape, leaf, group, field_names, begins_name, continues_name, is_name, is_group, is_shape}
use Rattle.dr_meaning.specs.Path.{Step, Leaf, Found, named_field, found_below, resolve, find_path, cut_at_dots, leaf_at, found_leaf, find_leaf, leaf_below, leaves_from, shape_leaves, leaves}
use Rattle.dr_meaning.specs.PathLaws.{IsNamedLeaf, FindLeafIsExact}
use Rattle.dr_meaning.proofs.SchemaReadsBack.{FirstField, first_of_group, other_way}
use Rattle.dr_meaning.specs.Lists.{onto_first}

-- ---- among leaves

abbrev pub In : Leaf → List Leaf → Type 0
In l [] = ⊥
In l (m ∷ ls) = (m ≡ l) ⊎ In l ls

in_left : (l : Leaf) (xs ys : List Leaf) → In l xs → In l (xs ++ ys)
in_left l [] ys h = absurd h
in_left l (x ∷ xs) ys (inl h) = inl h
in_left l (x ∷ xs) ys (inr h) = inr (in_left l xs ys h)

in_right : (l : Leaf) (xs ys : List Leaf) → In l ys → In l (xs ++ ys)
in_right l [] ys h = h
in_right l (x ∷ xs) ys h = inr (in_right l xs ys h)

in_either : (l : Leaf) (xs ys : List Leaf) → In l (xs ++ ys) → In l xs ⊎ In l ys
in_either l [] ys h = inr h
in_either l (x ∷ xs) ys (inl h) = inl (inl h)
in_either l (x ∷ xs) ys (inr h) = by_part (in_either l xs ys h)
  where
    by_part : In l xs ⊎ In l ys → In l (x ∷ xs) ⊎ In l ys
    by_part (inl g) = inl (inr g)
    by_part (inr g) = inr g

in_map : (f : Leaf → Leaf) (l : Leaf) (ls : List Leaf) → In l ls → In (f l) (map f ls)
in_map f l [] h = absurd h
in_map f l (m ∷ ls) (inl h) = inl (ap f h)
in_map f l (m ∷ ls) (inr h) = inr (in_map f l ls h)

of_map : (f : Leaf → Leaf) (l : Leaf) (ls : List Leaf) → In l (map f ls) → (m : Leaf) × In m ls × (f m ≡ l)
of_map f l [] h = absurd h
of_map f l (m ∷ ls) (inl h) = (m, inl refl, h)
of_map f l (m ∷ ls) (inr h) = let q : (n : Leaf) × In n ls × (f n ≡ l) = of_map f l ls h in (q.0, inr q.1, q.2)

pub in_at : (l : Leaf) (ls : List Leaf) → In l ls → (i : ℕ) × (slice_get ls i ≡ Some l)
in_at l [] h = absurd h
in_at l (m ∷ ls) (inl h) = (0, ap Some h)
in_at l (m ∷ ls) (inr h) = let q : (i : ℕ) × (slice_get ls i ≡ Some l) = in_at l ls h in (suc q.0, q.1)

pub at_in : (l : Leaf) (ls : List Leaf) (i : ℕ) → slice_get ls i ≡ Some l → In l ls
at_in l [] i h = absurd (cc)
at_in l (m ∷ ls) zero h = inl (same m h)
  where
    same : (m : Leaf) → Some m ≡ Some l → m ≡ l
    same m e = cc
at_in l (m ∷ ls) (suc i) h = inr (at_in l ls i h)

-- ---- names that lead to a field

abbrev found : List Step → Shape → Found
found p s = record { path = p; shape = s }

abbrev leaf_of : List (List ℕ) → List Step → Kind → Leaf
leaf_of ns p k = record { names = ns; path = p; kind = k }

no_found : (f : Found) → None ≡ Some f → ⊥
no_found f e = cc

same_found : (f g : Found) → Some f ≡ Some g → f ≡ g
same_found f g e = cc

equal_names : (n m : List ℕ) → bytes_eq n m ≡ true → n ≡ m
equal_names n m h = (bytes_eq-Decides n m).0 h

own_name : (n : List ℕ) → bytes_eq n n ≡ true
own_name n = (bytes_eq-Decides n n).1 refl

named_in : (n : List ℕ) (i : ℕ) (fs : Fields) (g : Found) → named_field n i fs ≡ Some g → (l : Leaf) → In l (shape_leaves g.shape) → In (leaf_of (n ∷ l.names) (g.path ++ l.path) l.kind) (leaves_from fs i)
named_in n i no_fields g e l h = absurd (no_found g e)
named_in n i (field m r s fs) g e l h = by_name (bytes_eq n m) refl e (named_in n (suc i) fs g)
  where
    first : (f : Found) → found (record { place = i; repetition = r } ∷ []) s ≡ f → n ≡ m → In l (shape_leaves f.shape) → In (leaf_of (n ∷ l.names) (f.path ++ l.path) l.kind) (leaves_from (field m r s fs) i)
    first f q w k = subst (λ (x : Found). In l (shape_leaves x.shape) → In (leaf_of (n ∷ l.names) (x.path ++ l.path) l.kind) (leaves_from (field m r s fs) i)) q
        (λ k. in_left (leaf_of (n ∷ l.names) (record { place = i; repetition = r } ∷ l.path) l.kind) (map (leaf_below m (record { place = i; repetition = r })) (shape_leaves s)) (leaves_from fs (suc i))
        (subst (λ (x : List ℕ). In (leaf_of (x ∷ l.names) (record { place = i; repetition = r } ∷ l.path) l.kind) (map (leaf_below m (record { place = i; repetition = r })) (shape_leaves s))) (sym w) (in_map (leaf_below m (record { place = i; repetition = r })) l (shape_leaves s) k))) k

    by_name : (b : Bool) → bytes_eq n m ≡ b → (if b then Some (found (record { place = i; repetition = r } ∷ []) s) else named_field n (suc i) fs) ≡ Some g → (named_field n (suc i) fs ≡ Some g → (l : Leaf) → In l (shape_leaves g.shape) → In (leaf_of (n ∷ l.names) (g.path ++ l.path) l.kind) (leaves_from fs (suc i))) → In (leaf_of (n ∷ l.names) (g.path ++ l.path) l.kind) (leaves_from (field m r s fs) i)
    by_name true w e f = first g (same_found (found (record { place = i; repetition = r } ∷ []) s) g e) (equal_names n m w) h
    by_name false w e f = in_right (leaf_of (n ∷ l.names) (g.path ++ l.path) l.kind) (map (leaf_below m (record { place = i; repetition = r })) (shape_leaves s)) (leaves_from fs (suc i)) (f e l h)

-- what names lead to, if it is a leaf, is among the leaves
abbrev ResolvedIn : List (List ℕ) → Type 0
ResolvedIn ns = (s : Shape) (f : Found) (k : Kind) → resolve ns s ≡ Some f → f.shape ≡ leaf k → In (leaf_of ns f.path k) (shape_leaves s)

resolved_empty : (s : Shape) (f : Found) (k : Kind) → found [] s ≡ f → f.shape ≡ leaf k → In (leaf_of [] f.path k) (shape_leaves s)
resolved_empty s f k e h = subst (λ (x : Found). x.shape ≡ leaf k → In (leaf_of [] x.path k) (shape_leaves s)) e (λ g. subst (λ (x : Shape). In (leaf_of [] [] k) (shape_leaves x)) (sym g) (inl refl)) h

resolved_below : (n : List ℕ) (ns : List (List ℕ)) (fs : Fields) (f : Found) (k : Kind) → ResolvedIn ns → (g : Found) → named_field n 0 fs ≡ Some g → (o : Option Found) → resolve ns g.shape ≡ o → option_map (found_below g) o ≡ Some f → f.shape ≡ leaf k → In (leaf_of (n ∷ ns) f.path k) (leaves_from fs 0)
resolved_below n ns fs f k r g e None w h z = absurd (no_found f h)
resolved_below n ns fs f k r g e (Some q) w h z =
    subst (λ (x : Found). x.shape ≡ leaf k → In (leaf_of (n ∷ ns) x.path k) (leaves_from fs 0)) (same_found (found_below g q) f h)
    (λ y. named_in n 0 fs g e (leaf_of ns q.path k) (r g.shape q k w y)) z

resolved_field : (n : List ℕ) (ns : List (List ℕ)) (fs : Fields) (f : Found) (k : Kind) → ResolvedIn ns → (o : Option Found) → named_field n 0 fs ≡ o → option_and_then (λ (g : Found). option_map (found_below g) (resolve ns g.shape)) o ≡ Some f → f.shape ≡ leaf k → In (leaf_of (n ∷ ns) f.path k) (leaves_from fs 0)
resolved_field n ns fs f k r None e h z = absurd (no_found f h)
resolved_field n ns fs f k r (Some g) e h z = resolved_below n ns fs f k r g e (resolve ns g.shape) refl h z

resolved_in : (ns : List (List ℕ)) → ResolvedIn ns
resolved_in [] s f k e h = resolved_empty s f k (same_found (found [] s) f e) h
resolved_in (n ∷ ns) (leaf j) f k e h = absurd (no_found f e)
resolved_in (n ∷ ns) (group fs) f k e h = resolved_field n ns fs f k (resolved_in ns) (named_field n 0 fs) refl e h

-- ---- each leaf is what its names lead to

-- a name that leads to a field of these isn't one that none of them has
other_name : (m n : List ℕ) (i : ℕ) (fs : Fields) (g : Found) → named_field n i fs ≡ Some g → list_any (bytes_eq m) (field_names fs) ≡ false → bytes_eq n m ≡ false
other_name m n i no_fields g e h = absurd (no_found g e)
other_name m n i (field x r s fs) g e h = by_name (bytes_eq n x) refl e (other_name m n (suc i) fs g)
  where
    by_name : (b : Bool) → bytes_eq n x ≡ b → (if b then Some (found (record { place = i; repetition = r } ∷ []) s) else named_field n (suc i) fs) ≡ Some g → (named_field n (suc i) fs ≡ Some g → list_any (bytes_eq m) (field_names fs) ≡ false → bytes_eq n m ≡ false) → bytes_eq n m ≡ false
    by_name true w e f = ap (λ y. bytes_eq y m) (equal_names n x w) ∙ other_way m x (or_parts _ _ h).0
    by_name false w e f = f e (or_parts _ _ h).1

abbrev Reached : ℕ → Fields → Leaf → Type 0
Reached i fs l = (n : List ℕ) × (ns : List (List ℕ)) × (g : Found) × (q : List Step) × (l.names ≡ n ∷ ns) × (named_field n i fs ≡ Some g) × (resolve ns g.shape ≡ Some (found q (leaf l.kind))) × (l.path ≡ g.path ++ q)

reached_first : (m : List ℕ) (r : Repetition) (s : Shape) (fs : Fields) (i : ℕ) (l x : Leaf) → resolve x.names s ≡ Some (found x.path (leaf x.kind)) → leaf_below m (record { place = i; repetition = r }) x ≡ l → Reached i (field m r s fs) l
reached_first m r s fs i l x h e = subst (Reached i (field m r s fs)) e (m, x.names, found (record { place = i; repetition = r } ∷ []) s, x.path, refl, rw (own_name m) refl, h, refl)

reached_later : (m : List ℕ) (r : Repetition) (s : Shape) (fs : Fields) (i : ℕ) (l : Leaf) → list_any (bytes_eq m) (field_names fs) ≡ false → Reached (suc i) fs l → Reached i (field m r s fs) l
reached_later m r s fs i l d h = (h.0, h.1, h.2, h.3, h.4, rw (other_name m h.0 (suc i) fs h.2 h.5 d) h.5, h.6, h.7)

resolve_reached : (fs : Fields) (l : Leaf) → Reached 0 fs l → resolve l.names (group fs) ≡ Some (found l.path (leaf l.kind))
resolve_reached fs l h = rw (h.4, h.7, h.5, h.6) refl

in_field : (m : List ℕ) (r : Repetition) (s : Shape) (fs : Fields) (i : ℕ) (l : Leaf) → FirstField m s fs → ((x : Leaf) → In x (shape_leaves s) → resolve x.names s ≡ Some (found x.path (leaf x.kind))) → (In l (leaves_from fs (suc i)) → Reached (suc i) fs l) → In l (map (leaf_below m (record { place = i; repetition = r })) (shape_leaves s)) ⊎ In l (leaves_from fs (suc i)) → Reached i (field m r s fs) l
in_field m r s fs i l p f g (inl h) = let q : (x : Leaf) × In x (shape_leaves s) × (leaf_below m (record { place = i; repetition = r }) x ≡ l) = of_map (leaf_below m (record { place = i; repetition = r })) l (shape_leaves s) h in reached_first m r s fs i l q.0 (f q.0 q.1) q.2
in_field m r s fs i l p f g (inr h) = reached_later m r s fs i l p.1 (g h)

mutual
  in_reached : (fs : Fields) (i : ℕ) (l : Leaf) → is_group fs ≡ true → In l (leaves_from fs i) → Reached i fs l
  in_reached no_fields i l v h = absurd h
  in_reached (field m r s fs) i l v h =
      let p : FirstField m s fs = first_of_group m r s fs v in
      in_field m r s fs i l p (λ x g. in_resolved s x p.2 g) (λ g. in_reached fs (suc i) l p.3 g) (in_either l (map (leaf_below m (record { place = i; repetition = r })) (shape_leaves s)) (leaves_from fs (suc i)) h)

  in_resolved : (s : Shape) (l : Leaf) → is_shape s ≡ true → In l (shape_leaves s) → resolve l.names s ≡ Some (found l.path (leaf l.kind))
  in_resolved (leaf k) l v (inl h) = subst (λ (x : Leaf). resolve x.names (leaf k) ≡ Some (found x.path (leaf x.kind))) h refl
  in_resolved (leaf k) l v (inr h) = absurd h
  in_resolved (group fs) l v h = resolve_reached fs l (in_reached fs 0 l (and_parts _ _ v).1 h)

-- ---- names joined by dots

no_dot : (b : ℕ) → continues_name b ≡ true → (b == 46) ≡ false
no_dot b h = by_test (b == 46) refl
  where
    by_test : (t : Bool) → (b == 46) ≡ t → t ≡ false
    by_test false e = refl
    by_test true e = absurd (true≢false (sym (subst (λ (x : ℕ). continues_name x ≡ true) (eqb-true b 46 e) h)))

first_no_dot : (b : ℕ) → begins_name b ≡ true → (b == 46) ≡ false
first_no_dot b h = by_test (b == 46) refl
  where
    by_test : (t : Bool) → (b == 46) ≡ t → t ≡ false
    by_test false e = refl
    by_test true e = absurd (true≢false (sym (subst (λ (x : ℕ). begins_name x ≡ true) (eqb-true b 46 e) h)))

abbrev Undotted : List ℕ → Type 0
Undotted [] = Unit {0}
Undotted (b ∷ n) = ((b == 46) ≡ false) × Undotted n

rest_undotted : (n : List ℕ) → list_all continues_name n ≡ true → Undotted n
rest_undotted [] h = tt
rest_undotted (b ∷ n) h = let g : (continues_name b ≡ true) × (list_all continues_name n ≡ true) = and_parts _ _ h in (no_dot b g.0, rest_undotted n g.1)

name_undotted : (n : List ℕ) → is_name n ≡ true → Undotted n
name_undotted [] h = tt
name_undotted (b ∷ n) h = let g : (begins_name b ≡ true) × (list_all continues_name n ≡ true) = and_parts _ _ h in (first_no_dot b g.0, rest_undotted n g.1)

-- a name is cut whole, before what is behind its dot, or at the end
cut_name : (n : List ℕ) → Undotted n → cut_at_dots n ≡ n ∷ []
cut_name [] h = refl
cut_name (b ∷ n) h = rw (h.0, cut_name n h.1) refl

cut_before : (n t : List ℕ) → Undotted n → cut_at_dots (n ++ 46 ∷ t) ≡ n ∷ cut_at_dots t
cut_before [] t h = refl
cut_before (b ∷ n) t h = rw (h.0, cut_before n t h.1) refl

abbrev AllUndotted : List (List ℕ) → Type 0
AllUndotted [] = Unit {0}
AllUndotted (n ∷ ns) = Undotted n × AllUndotted ns

cut_joined : (n : List ℕ) (ns : List (List ℕ)) → AllUndotted (n ∷ ns) → cut_at_dots (join_with_byte 46 (n ∷ ns)) ≡ n ∷ ns
cut_joined n [] h = cut_name n h.0
cut_joined n (m ∷ ns) h = cut_before n (join_with_byte 46 (m ∷ ns)) h.0 ∙ ap (λ x. n ∷ x) (cut_joined m ns h.1)

joined_more : (b : ℕ) (n : List ℕ) (ns : List (List ℕ)) → join_with_byte 46 ((b ∷ n) ∷ ns) ≡ b ∷ join_with_byte 46 (n ∷ ns)
joined_more b n [] = refl
joined_more b n (m ∷ ns) = refl

abbrev Some_names : List (List ℕ) → Type 0
Some_names ns = (n : List ℕ) × (ms : List (List ℕ)) × (ns ≡ n ∷ ms)

cut_step : (b : ℕ) (bs : List ℕ) (t : Bool) → (b == 46) ≡ t → Some_names (cut_at_dots bs) × (join_with_byte 46 (cut_at_dots bs) ≡ bs) → Some_names (if t then [] ∷ cut_at_dots bs else onto_first b (cut_at_dots bs)) × (join_with_byte 46 (if t then [] ∷ cut_at_dots bs else onto_first b (cut_at_dots bs)) ≡ b ∷ bs)
cut_step b bs true e h =
    (([], cut_at_dots bs, refl), ap (λ ns. join_with_byte 46 ([] ∷ ns)) h.0.2 ∙ ap (λ x. 46 ∷ x) (ap (join_with_byte 46) (sym h.0.2) ∙ h.1) ∙ ap (λ x. x ∷ bs) (sym (eqb-true b 46 e)))
cut_step b bs false e h =
    ((b ∷ h.0.0, h.0.1, ap (onto_first b) h.0.2), ap (λ ns. join_with_byte 46 (onto_first b ns)) h.0.2 ∙ joined_more b h.0.0 h.0.1 ∙ ap (λ x. b ∷ x) (ap (join_with_byte 46) (sym h.0.2) ∙ h.1))

join_cut : (t : List ℕ) → Some_names (cut_at_dots t) × (join_with_byte 46 (cut_at_dots t) ≡ t)
join_cut [] = (([], [], refl), refl)
join_cut (b ∷ bs) = cut_step b bs (b == 46) refl (join_cut bs)

-- the names of leaves have no dots
below_undotted : (m : List ℕ) (s : Step) → Undotted m → (ls : List Leaf) → ((x : Leaf) → In x ls → AllUndotted x.names) → (l : Leaf) → In l (map (leaf_below m s) ls) → AllUndotted l.names
below_undotted m s u ls h l g = let q : (x : Leaf) × In x ls × (leaf_below m s x ≡ l) = of_map (leaf_below m s) l ls g in subst (λ (x : Leaf). AllUndotted x.names) q.2 (u, h q.0 q.1)

field_undotted : (m : List ℕ) (r : Repetition) (s : Shape) (fs : Fields) (i : ℕ) (l : Leaf) → FirstField m s fs → ((x : Leaf) → In x (shape_leaves s) → AllUndotted x.names) → ((x : Leaf) → In x (leaves_from fs (suc i)) → AllUndotted x.names) → In l (map (leaf_below m (record { place = i; repetition = r })) (shape_leaves s)) ⊎ In l (leaves_from fs (suc i)) → AllUndotted l.names
field_undotted m r s fs i l p f g (inl h) = below_undotted m (record { place = i; repetition = r }) (name_undotted m (and_parts _ _ p.0).0) (shape_leaves s) f l h
field_undotted m r s fs i l p f g (inr h) = g l h

mutual
  fields_undotted : (fs : Fields) (i : ℕ) → is_group fs ≡ true → (l : Leaf) → In l (leaves_from fs i) → AllUndotted l.names
  fields_undotted no_fields i v l h = absurd h
  fields_undotted (field m r s fs) i v l h =
      let p : FirstField m s fs = first_of_group m r s fs v in
      field_undotted m r s fs i l p (λ x g. shape_undotted s p.2 x g) (λ x g. fields_undotted fs (suc i) p.3 x g) (in_either l (map (leaf_below m (record { place = i; repetition = r })) (shape_leaves s)) (leaves_from fs (suc i)) h)

  shape_undotted : (s : Shape) → is_shape s ≡ true → (l : Leaf) → In l (shape_leaves s) → AllUndotted l.names
  shape_undotted (leaf k) v l (inl h) = subst (λ (x : Leaf). AllUndotted x.names) h tt
  shape_undotted (leaf k) v l (inr h) = absurd h
  shape_undotted (group fs) v l h = fields_undotted fs 0 (and_parts _ _ v).1 l h

-- ---- the law

same_leaf : (m l : Leaf) → leaf_at m.names m.path (leaf m.kind) ≡ Ok l → m ≡ l
same_leaf m l e = cc

of_shape : (ns : List (List ℕ)) (p : List Step) (s : Shape) (l : Leaf) → leaf_at ns p s ≡ Ok l → (k : Kind) × (s ≡ leaf k) × (leaf_of ns p k ≡ l)
of_shape ns p (leaf k) l h = (k, refl, same_leaf (leaf_of ns p k) l h)
of_shape ns p (group fs) l h = absurd (cc)

pub of_found : (ns : List (List ℕ)) (fs : Fields) (o : Option Found) (l : Leaf) → find_path ns fs ≡ o → found_leaf ns o ≡ Ok l → In l (leaves fs) × (l.names ≡ ns)
of_found ns fs None l e h = absurd (cc)
of_found ns fs (Some f) l e h =
    let q : (k : Kind) × (f.shape ≡ leaf k) × (leaf_of ns f.path k ≡ l) = of_shape ns f.path f.shape l h in
    (subst (λ (x : Leaf). In x (leaves fs)) q.2 (resolved_in ns (group fs) f q.0 e q.1), ap (λ (x : Leaf). x.names) (sym q.2))

find_among : (text : List ℕ) (fs : Fields) (l : Leaf) → find_leaf text fs ≡ Ok l → IsNamedLeaf text fs l
find_among text fs l h =
    let q : In l (leaves fs) × (l.names ≡ cut_at_dots text) = of_found (cut_at_dots text) fs (find_path (cut_at_dots text) fs) l refl h in
    let i : (i : ℕ) × (slice_get (leaves fs) i ≡ Some l) = in_at l (leaves fs) q.0 in
    (i.0, i.1, ap (join_with_byte 46) q.1 ∙ (join_cut text).1)

among_found : (text : List ℕ) (fs : Fields) (l : Leaf) → is_group fs ≡ true → IsNamedLeaf text fs l → find_leaf text fs ≡ Ok l
among_found text fs l v h =
    let a : In l (leaves fs) = at_in l (leaves fs) h.0 h.1 in
    let r : Reached 0 fs l = in_reached fs 0 l v a in
    let u : AllUndotted l.names = fields_undotted fs 0 v l a in
    let c : cut_at_dots text ≡ l.names = ap cut_at_dots (sym h.2 ∙ ap (join_with_byte 46) r.4) ∙ cut_joined r.0 r.1 (subst AllUndotted r.4 u) ∙ sym r.4 in
    rw (c, resolve_reached fs l r) refl

pub find_leaf_is_exact : FindLeafIsExact
find_leaf_is_exact text fs l v = (find_among text fs l, among_found text fs l v)
