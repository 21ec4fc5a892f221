-- The numbers of the groups of rows, and what is put into groups by them.
use Rattle.std.proofs.Common.{◌≡◌, ℕ, zero, suc, ◌+◌, ◌<◌, ◌≤◌, List, [], ◌∷◌, ◌++◌, map, length, get_or, drop, replicate, true, Option, Some, None, refl, sym, ap, ap₂, ◌∙◌, arith, add-one}
use Rattle.std.specs.Prelude.{nat_lt, Result, Ok, Err, IfOk}
use Rattle.dr_memory.specs.declared.NoMemory.{NoMemory}
use Rattle.std.specs.List.{slice_get, slice_index_or}
use Rattle.std.proofs.lemmas.Bool.{and_from, and_parts, leb-true}
use Rattle.std.proofs.lemmas.Bool.Decides.{nat_tests}
use Rattle.std.proofs.lemmas.List.{append_assoc, map-append, length-map, drop_more, drop_all}
use Rattle.std.proofs.lemmas.List.Folds.{list_all-append}
use Rattle.dr_meaning.specs.Record.{Value}
use Rattle.dr_meaning.specs.Query.{GroupItem}
use Rattle.dr_partials.specs.Partials.{Group}
use Rattle.dr_partials.specs.Putting.{Put, put_group}
use Rattle.dr_partials.specs.GroupPuts.{put_each}
use Rattle.dr_group.specs.Gathering.{Becomes, gatherings_of}
use Rattle.dr_group.specs.Groups.{put_of, group_view}
use Rattle.dr_group.specs.declared.group.Group as held
use Rattle.dr_group.specs.Maps.{groups_view, gatherings_view, tuples_view}
use Rattle.dr_group.specs.Distinct.{tuples_of}
use Rattle.dr_group.specs.declared.group_map.GroupMap.{GroupMap}
use Rattle.dr_group.proofs.NumberLemmas.{numbered_found, items_put, nothing_put}
use Rattle.dr_rows_beside.specs.Rows.{Row, NextRow}
use Rattle.dr_columns.specs.RowPuts.{keys_in, puts_in}
use Rattle.dr_columns.specs.Numbers.{tuples_at, are_among, Stay, put_at, row_puts, value_puts, LeavesToPut, HasPut}

abbrev Tuples : Type 0
Tuples = List (List (Option Value))

-- ---- what is put

pub one_put : (old now next : GroupMap) (all rest : List Put) (p : Put) → gatherings_view now ≡ gatherings_view old → LeavesToPut old all now (p ∷ rest) → HasPut now (p ∷ []) next → LeavesToPut old all next rest
one_put old now next all rest p g h s items e = ap (put_each items rest) (s items (e ∙ sym g)) ∙ h items e

each_of_both : (items : List GroupItem) (ps qs : List Put) (gs : List Group) → put_each items (ps ++ qs) gs ≡ put_each items qs (put_each items ps gs)
each_of_both items [] qs gs = refl
each_of_both items (p ∷ ps) qs gs = each_of_both items ps qs _

-- more is put
pub more_put : (old now next : GroupMap) (ps qs : List Put) → gatherings_view now ≡ gatherings_view old → HasPut old ps now → HasPut now qs next → HasPut old (ps ++ qs) next
more_put old now next ps qs g h s items e = s items (e ∙ sym g) ∙ (ap (put_each items qs) (h items e) ∙ sym (each_of_both items ps qs (groups_view old)))

-- ---- the key tuples of numbers

less : (a b : ℕ) → nat_lt a b ≡ true → a < b
less a b e = omega (arith, leb-true _ _ e)

less_test : (a b : ℕ) → a < b → nat_lt a b ≡ true
less_test a b h = grind (arith, nat_tests)

pub tuple_there : (T : Tuples) (n : ℕ) → n < length T → slice_get T n ≡ Some (slice_index_or T n [])
tuple_there [] n h = absurd (omega (arith, h))
tuple_there (t ∷ T) zero h = refl
tuple_there (t ∷ T) (suc n) h = tuple_there T n (omega (arith, h))

pub is_among : (T : Tuples) (n : ℕ) (t : List (Option Value)) → slice_get T n ≡ Some t → n < length T
is_among [] n t e = absurd (cc)
is_among (x ∷ T) zero t e = omega arith
is_among (x ∷ T) (suc n) t e = omega (arith, is_among T n t e)

pub tuple_got : (T : Tuples) (n : ℕ) (t : List (Option Value)) → slice_get T n ≡ Some t → slice_index_or T n [] ≡ t
tuple_got [] n t e = absurd (cc)
tuple_got (x ∷ T) zero t e = cc
tuple_got (x ∷ T) (suc n) t e = tuple_got T n t e

pub tuples_stay : (T U : Tuples) (ns : List ℕ) → Stay T U → are_among (length T) ns ≡ true → tuples_at U ns ≡ tuples_at T ns
tuples_stay T U [] s h = refl
tuples_stay T U (n ∷ ns) s h =
    let w : (nat_lt n (length T) ≡ true) × (are_among (length T) ns ≡ true) = and_parts _ _ h in
    ap₂ (λ (t : List (Option Value)) (ts : Tuples). t ∷ ts) (tuple_got U n (slice_index_or T n []) (s n (slice_index_or T n []) (tuple_there T n (less n (length T) w.0)))) (tuples_stay T U ns s w.1)

pub among_stay : (T U : Tuples) (ns : List ℕ) → Stay T U → are_among (length T) ns ≡ true → are_among (length U) ns ≡ true
among_stay T U [] s h = refl
among_stay T U (n ∷ ns) s h =
    let w : (nat_lt n (length T) ≡ true) × (are_among (length T) ns ≡ true) = and_parts _ _ h in
    and_from _ _ (less_test n (length U) (is_among U n (slice_index_or T n []) (s n (slice_index_or T n []) (tuple_there T n (less n (length T) w.0))))) (among_stay T U ns s w.1)

-- one number more
pub numbered : (T U : Tuples) (ns ms : List ℕ) (n : ℕ) (t : List (Option Value)) (rest whole : Tuples) → Stay T U → are_among (length T) ns ≡ true → slice_get U n ≡ Some t → ms ≡ ns ++ n ∷ []
    → tuples_at T ns ++ t ∷ rest ≡ whole → tuples_at U ms ++ rest ≡ whole
numbered T U ns ms n t rest whole s h f p e =
    ap (λ (js : List ℕ). tuples_at U js ++ rest) p
    ∙ (ap (λ (ts : Tuples). ts ++ rest) (map-append (λ (j : ℕ). slice_index_or U j []) ns (n ∷ []))
    ∙ (append_assoc (tuples_at U ns) (slice_index_or U n [] ∷ []) rest
    ∙ (ap₂ (λ (ts : Tuples) (x : List (Option Value)). ts ++ x ∷ rest) (tuples_stay T U ns s h) (tuple_got U n t f) ∙ e)))

pub one_among : (T U : Tuples) (ns ms : List ℕ) (n : ℕ) (t : List (Option Value)) → Stay T U → are_among (length T) ns ≡ true → slice_get U n ≡ Some t → ms ≡ ns ++ n ∷ [] → are_among (length U) ms ≡ true
one_among T U ns ms n t s h f p =
    ap (are_among (length U)) p
    ∙ (list_all-append (λ (j : ℕ). nat_lt j (length U)) ns (n ∷ [])
    ∙ and_from _ _ (among_stay T U ns s h) (and_from _ _ (less_test n (length U) (is_among U n t f)) refl))

-- the number at a place
pub among_at : (count : ℕ) (ns : List ℕ) (i d : ℕ) → i < length ns → are_among count ns ≡ true → get_or ns i d < count
among_at count [] i d h e = absurd (omega (arith, h))
among_at count (n ∷ ns) zero d h e = less n count (and_parts _ _ e).0
among_at count (n ∷ ns) (suc i) d h e = among_at count ns i d (omega (arith, h)) (and_parts _ _ e).1

-- ---- one number after another

pub next_row_put : (T : Tuples) (i : ℕ) (ns : List ℕ) (k d : ℕ) → k < length ns
    → row_puts i (tuples_at T (drop k ns)) ≡ put_at T (get_or ns k d) i None ∷ row_puts i (tuples_at T (drop (k + 1) ns))
next_row_put T i ns k d h = ap (λ (js : List ℕ). row_puts i (tuples_at T js)) (drop_more ns k d h)

pub next_value_put : (T : Tuples) (i : ℕ) (ns : List ℕ) (k d : ℕ) (v : Option Value) (vs : List (Option Value)) → k < length ns
    → value_puts i (tuples_at T (drop k ns)) (v ∷ vs) ≡ put_at T (get_or ns k d) i v ∷ value_puts i (tuples_at T (drop (k + 1) ns)) vs
next_value_put T i ns k d v vs h = ap (λ (js : List ℕ). value_puts i (tuples_at T js) (v ∷ vs)) (drop_more ns k d h)

-- no values are left
pub no_values : (i : ℕ) (ts : Tuples) → value_puts i ts [] ≡ []
no_values i [] = refl
no_values i (t ∷ ts) = refl

pub no_rows : (T : Tuples) (i : ℕ) (ns : List ℕ) (k : ℕ) → length ns ≤ k → row_puts i (tuples_at T (drop k ns)) ≡ []
no_rows T i ns k h = ap (λ (js : List ℕ). row_puts i (tuples_at T js)) (drop_all k ns h)

pub no_numbers : (T : Tuples) (i : ℕ) (ns : List ℕ) (k : ℕ) (vs : List (Option Value)) → length ns ≤ k → value_puts i (tuples_at T (drop k ns)) vs ≡ []
no_numbers T i ns k vs h = ap (λ (js : List ℕ). value_puts i (tuples_at T js) vs) (drop_all k ns h)

pub as_many_tuples : (gs : List held.Group) → length (tuples_of (map group_view gs)) ≡ length gs
as_many_tuples gs = length-map (map group_view gs) (λ (g : Group). g.keys) ∙ length-map gs group_view

-- more of them: a list of puts, then the rest
pub list_put : (old now next : GroupMap) (all ps rest : List Put) → gatherings_view now ≡ gatherings_view old → LeavesToPut old all now (ps ++ rest) → HasPut now ps next → LeavesToPut old all next rest
list_put old now next all ps rest g h s items e = ap (put_each items rest) (s items (e ∙ sym g)) ∙ (sym (each_of_both items ps rest (groups_view now)) ∙ h items e)

-- ---- rows

pub rows_put : (ks : List ℕ) (i : ℕ) (rs : List Row) → row_puts i (map (keys_in ks) rs) ≡ puts_in ks i (λ (r : Row). None) rs
rows_put ks i [] = refl
rows_put ks i (r ∷ rs) = ap (λ (ps : List Put). put_of (keys_in ks r) (Some (record { aggregate = i; value = None })) ∷ ps) (rows_put ks i rs)

pub values_put : (ks : List ℕ) (i : ℕ) (f : Row → Option Value) (rs : List Row) → value_puts i (map (keys_in ks) rs) (map f rs) ≡ puts_in ks i f rs
values_put ks i f [] = refl
values_put ks i f (r ∷ rs) = ap (λ (ps : List Put). put_of (keys_in ks r) (Some (record { aggregate = i; value = f r })) ∷ ps) (values_put ks i f rs)

-- a value that is put by a number
pub value_is_put : (r : Result (Unit {0}) NoMemory) (old new : GroupMap) (n i : ℕ) (v : Option Value) → n < length (tuples_view old)
    → ((items : List GroupItem) (tuple : List (Option Value)) → gatherings_of items ≡ gatherings_view old → slice_get (tuples_view old) n ≡ Some tuple
    → Becomes (groups_view old) (groups_view new) (put_group items (put_of tuple (Some (record { aggregate = i; value = v }))) (groups_view old)) r)
    → IfOk r (λ done. HasPut old (put_at (tuples_view old) n i v ∷ []) new)
value_is_put (Ok done) old new n i v l h = λ items e. h items (slice_index_or (tuples_view old) n []) e (tuple_there (tuples_view old) n l)
value_is_put (Err e) old new n i v l h = tt

-- the key tuple of a group that is there, with which nothing is taken, leaves the groups as they are
pub put_again : (m : GroupMap) (n : ℕ) (t : List (Option Value)) → slice_get (tuples_view m) n ≡ Some t → HasPut m (put_of t None ∷ []) m
put_again m n t f = λ items e.
    let gs : List Group = map group_view m.groups.items in
    items_put items m.gatherings.items (put_of t None) (groups_view m) (groups_view m) e (nothing_put m.gatherings.items gs n t m.distinct (numbered_found gs n t f))

-- a put once more
repeated_behind : (p : Put) (k : ℕ) → replicate k p ++ p ∷ [] ≡ p ∷ replicate k p
repeated_behind p zero = refl
repeated_behind p (suc k) = ap (λ (ps : List Put). p ∷ ps) (repeated_behind p k)

pub repeated_more : (p : Put) (k : ℕ) → replicate k p ++ p ∷ [] ≡ replicate (k + 1) p
repeated_more p k = repeated_behind p k ∙ ap (λ (n : ℕ). replicate n p) (sym (add-one k))

-- no rows are left
pub no_more_values : (i : ℕ) (e : Row → Option Value) (ts : Tuples) (before after : List Row) (slots : List (Option Value)) (o : Option ℕ) → NextRow before after slots o → ((r : ℕ) → o ≡ Some r → ⊥)
    → value_puts i ts (map e before) ≡ []
no_more_values i e ts before after slots None n h = ap (λ (rs : List Row). value_puts i ts (map e rs)) n ∙ no_values i ts
no_more_values i e ts before after slots (Some r) n h = absurd (h r refl)
