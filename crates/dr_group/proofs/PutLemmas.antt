-- What is put into groups of distinct key tuples, in any order, is put into them in order.
use Rattle.std.specs.Prelude.{◌≡◌, ◌<◌, ℕ, zero, suc, List, [], ◌∷◌, ◌++◌, map, length, get_or, Bool, true, false, if◌then◌else◌, Option, Some, None}
use Rattle.std.specs.Ordering.{is_eq, match_ordering}
use Rattle.std.specs.declared.cmp.Ordering.{Ordering}
use Rattle.std.specs.declared.cmp.Ordering.TheVariants.{Less, Equal, Greater}
use Rattle.std.proofs.Common.{refl, sym, ap, ◌∙◌, subst, arith}
use Rattle.std.proofs.Math.ListN.{set}
use Rattle.dr_meaning.specs.Query.{tuple_order}
use Rattle.dr_partials.specs.Accumulators.{Accumulator}
use Rattle.dr_partials.specs.Partials.{Group}
use Rattle.dr_partials.specs.Putting.{Put}
use Rattle.dr_partials.proofs.ValueOrders.{tuple_order_exact}
use Rattle.dr_partials.proofs.GroupLemmas.{Tuple, same_tuple, same_is, AllAbove, Ascending, above_greater, less_back, find, find_above, find_later, found_alike}
use Rattle.dr_group.specs.Gathering.{empty_of, taken_by, group_by, new_group_by, put_by}
use Rattle.dr_group.specs.Groups.{no_group, with_accumulators, taken_at}
use Rattle.dr_group.specs.Distinct.{times, AreDistinct}
use Rattle.dr_group.specs.Maps.{in_order}
use Rattle.dr_group.specs.declared.gathering.Gathering.{Gathering}
use Rattle.dr_group.proofs.DistinctLemmas.{once_same, rest_distinct, none_left, times_there, push_distinct, set_distinct, none_found, find_there, order_ascends, find_ordered}

-- ---- put into ascending groups

abbrev or_empty : List Gathering → Option (List Accumulator) → List Accumulator
or_empty ks None = map empty_of ks
or_empty ks (Some xs) = xs

abbrev found_put : List Gathering → Tuple → Put → Option (List Accumulator) → Option (List Accumulator)
found_put ks t p o = if same_tuple t p.keys then Some (taken_by ks p.taken (or_empty ks o)) else o

above_put : (s : Tuple) (ks : List Gathering) (p : Put) (gs : List Group) → tuple_order s p.keys ≡ Less → AllAbove s gs → AllAbove s (put_by ks p gs)
above_put s ks p [] h a = (h, tt)
above_put s ks p (g ∷ gs) h a = by_order (tuple_order p.keys g.keys) (above_put s ks p gs h a.1)
  where
    by_order : (o : Ordering) → AllAbove s (put_by ks p gs) → AllAbove s (match_ordering o (new_group_by ks p ∷ g ∷ gs) (group_by ks p g.accumulators ∷ gs) (g ∷ put_by ks p gs))
    by_order Less r = (h, a)
    by_order Equal r = (h, a.1)
    by_order Greater r = (a.0, r)

put_ascends : (ks : List Gathering) (p : Put) (gs : List Group) → Ascending gs → Ascending (put_by ks p gs)
put_ascends ks p [] a = (tt, tt)
put_ascends ks p (g ∷ gs) a = by_order (tuple_order p.keys g.keys) refl (put_ascends ks p gs a.1)
  where
    by_order : (o : Ordering) → tuple_order p.keys g.keys ≡ o → Ascending (put_by ks p gs) → Ascending (match_ordering o (new_group_by ks p ∷ g ∷ gs) (group_by ks p g.accumulators ∷ gs) (g ∷ put_by ks p gs))
    by_order Less e r = ((e, above_greater p.keys g.keys gs e a.0), a)
    by_order Equal e r = (subst (λ (t : Tuple). AllAbove t gs) (sym (tuple_order_exact p.keys g.keys e)) a.0, a.1)
    by_order Greater e r = (above_put g.keys ks p gs (less_back p.keys g.keys e) a.0, r)

find_put : (ks : List Gathering) (t : Tuple) (p : Put) (gs : List Group) → Ascending gs → find t (put_by ks p gs) ≡ found_put ks t p (find t gs)
find_put ks t p [] a = refl
find_put ks t p (g ∷ gs) a = by_order (tuple_order p.keys g.keys) refl (find_put ks t p gs a.1)
  where
    before : tuple_order p.keys g.keys ≡ Less → (b : Bool) → same_tuple t p.keys ≡ b
        → (if b then Some (taken_by ks p.taken (map empty_of ks)) else find t (g ∷ gs)) ≡ (if b then Some (taken_by ks p.taken (or_empty ks (find t (g ∷ gs)))) else find t (g ∷ gs))
    before e true f =
        let q : tuple_order t g.keys ≡ Less = subst (λ (u : Tuple). tuple_order u g.keys ≡ Less) (sym (same_is t p.keys f)) e in
        ap (λ o. Some (taken_by ks p.taken (or_empty ks o))) (sym (find_above t (g ∷ gs) (q, above_greater t g.keys gs q a.0)))
    before e false f = refl

    at : p.keys ≡ g.keys → (b : Bool) → same_tuple t p.keys ≡ b
        → (if b then Some (taken_by ks p.taken g.accumulators) else find t gs) ≡ (if b then Some (taken_by ks p.taken (or_empty ks (find t (g ∷ gs)))) else find t (g ∷ gs))
    at q true f = ap (λ x. Some (taken_by ks p.taken (or_empty ks (if x then Some g.accumulators else find t gs)))) (sym (ap (same_tuple t) (sym q) ∙ f))
    at q false f = sym (find_later t g gs (ap (same_tuple t) (sym q) ∙ f))

    behind : tuple_order p.keys g.keys ≡ Greater → (b : Bool) → same_tuple t g.keys ≡ b → find t (put_by ks p gs) ≡ found_put ks t p (find t gs)
        → (if b then Some g.accumulators else find t (put_by ks p gs)) ≡ found_put ks t p (if b then Some g.accumulators else find t gs)
    behind e true f r =
        let q : tuple_order t p.keys ≡ Less = subst (λ (u : Tuple). tuple_order u p.keys ≡ Less) (sym (same_is t g.keys f)) (less_back p.keys g.keys e) in
        ap (λ o. if is_eq o then Some (taken_by ks p.taken g.accumulators) else Some g.accumulators) (sym q)
    behind e false f r = r

    by_order : (o : Ordering) → tuple_order p.keys g.keys ≡ o → find t (put_by ks p gs) ≡ found_put ks t p (find t gs)
        → find t (match_ordering o (new_group_by ks p ∷ g ∷ gs) (group_by ks p g.accumulators ∷ gs) (g ∷ put_by ks p gs)) ≡ found_put ks t p (find t (g ∷ gs))
    by_order Less e r = before e (same_tuple t p.keys) refl
    by_order Equal e r = at (tuple_order_exact p.keys g.keys e) (same_tuple t p.keys) refl
    by_order Greater e r = behind e (same_tuple t g.keys) refl r

-- ---- a new group

find_more : (t : Tuple) (gs : List Group) (n : Group) → times n.keys gs ≡ 0 → find t (gs ++ n ∷ []) ≡ (if same_tuple t n.keys then Some n.accumulators else find t gs)
find_more t [] n z = refl
find_more t (g ∷ gs) n z = by_test (same_tuple t g.keys) refl (find_more t gs n (omega (arith, z)))
  where
    other : same_tuple t g.keys ≡ true → (b : Bool) → same_tuple t n.keys ≡ b → Some g.accumulators ≡ (if b then Some n.accumulators else Some g.accumulators)
    other e true f = absurd (omega (arith, z, once_same n.keys g.keys (sym (same_is t n.keys f) ∙ same_is t g.keys e)))
    other e false f = refl

    by_test : (b : Bool) → same_tuple t g.keys ≡ b → find t (gs ++ n ∷ []) ≡ (if same_tuple t n.keys then Some n.accumulators else find t gs)
        → (if b then Some g.accumulators else find t (gs ++ n ∷ [])) ≡ (if same_tuple t n.keys then Some n.accumulators else (if b then Some g.accumulators else find t gs))
    by_test true e r = other e (same_tuple t n.keys) refl
    by_test false e r = r

pub put_new : (ks : List Gathering) (p : Put) (gs : List Group) → AreDistinct gs → times p.keys gs ≡ 0 → in_order (gs ++ new_group_by ks p ∷ []) ≡ put_by ks p (in_order gs)
put_new ks p gs d z =
    found_alike (in_order (gs ++ new_group_by ks p ∷ [])) (put_by ks p (in_order gs)) (order_ascends (gs ++ new_group_by ks p ∷ [])) (put_ascends ks p (in_order gs) (order_ascends gs))
    (λ t. find_ordered t (gs ++ new_group_by ks p ∷ []) (push_distinct gs (new_group_by ks p) d z)
    ∙ (find_more t gs (new_group_by ks p) z
    ∙ (by_test t (same_tuple t p.keys) refl
    ∙ (ap (found_put ks t p) (sym (find_ordered t gs d)) ∙ sym (find_put ks t p (in_order gs) (order_ascends gs))))))
  where
    by_test : (t : Tuple) (b : Bool) → same_tuple t p.keys ≡ b
        → (if b then Some (taken_by ks p.taken (map empty_of ks)) else find t gs) ≡ (if b then Some (taken_by ks p.taken (or_empty ks (find t gs))) else find t gs)
    by_test t true e = ap (λ o. Some (taken_by ks p.taken (or_empty ks o))) (sym (none_found t gs (ap (λ (u : Tuple). times u gs) (same_is t p.keys e) ∙ z)))
    by_test t false e = refl

-- ---- the group that is there

find_set : (t : Tuple) (gs : List Group) (n : ℕ) (h : Group) → AreDistinct gs → n < length gs → h.keys ≡ (get_or gs n no_group).keys → find t (set gs n h) ≡ (if same_tuple t h.keys then Some h.accumulators else find t gs)
find_set t [] n h d k e = absurd (omega (arith, k))
find_set t (g ∷ gs) zero h d k e = by_test (same_tuple t h.keys) refl
  where
    by_test : (b : Bool) → same_tuple t h.keys ≡ b → (if b then Some h.accumulators else find t gs) ≡ (if b then Some h.accumulators else find t (g ∷ gs))
    by_test true f = refl
    by_test false f = sym (find_later t g gs (ap (same_tuple t) (sym e) ∙ f))
find_set t (g ∷ gs) (suc n) h d k e =
    by_test (same_tuple t g.keys) refl (find_set t gs n h (rest_distinct g gs d) (omega (arith, k)) e)
  where
    other : same_tuple t g.keys ≡ true → (b : Bool) → same_tuple t h.keys ≡ b → Some g.accumulators ≡ (if b then Some h.accumulators else Some g.accumulators)
    other q true f = absurd (omega (arith, none_left t g gs d q, times_there t gs n (omega (arith, k)) (same_is t h.keys f ∙ e)))
    other q false f = refl

    by_test : (b : Bool) → same_tuple t g.keys ≡ b → find t (set gs n h) ≡ (if same_tuple t h.keys then Some h.accumulators else find t gs)
        → (if b then Some g.accumulators else find t (set gs n h)) ≡ (if same_tuple t h.keys then Some h.accumulators else (if b then Some g.accumulators else find t gs))
    by_test true q r = other q (same_tuple t h.keys) refl
    by_test false q r = r

pub put_old : (ks : List Gathering) (p : Put) (gs : List Group) (n : ℕ) → AreDistinct gs → n < length gs → (get_or gs n no_group).keys ≡ p.keys → in_order (taken_at ks n p.taken gs) ≡ put_by ks p (in_order gs)
put_old ks p gs n d k e =
    let g : Group = get_or gs n no_group in
    let h : Group = with_accumulators g (taken_by ks p.taken g.accumulators) in
    found_alike (in_order (set gs n h)) (put_by ks p (in_order gs)) (order_ascends (set gs n h)) (put_ascends ks p (in_order gs) (order_ascends gs))
    (λ t. find_ordered t (set gs n h) (set_distinct gs n h k refl d)
    ∙ (find_set t gs n h d k refl
    ∙ (ap (λ (u : Tuple). if same_tuple t u then Some h.accumulators else find t gs) e
    ∙ (by_test t (same_tuple t p.keys) refl
    ∙ (ap (found_put ks t p) (sym (find_ordered t gs d)) ∙ sym (find_put ks t p (in_order gs) (order_ascends gs)))))))
  where
    by_test : (t : Tuple) (b : Bool) → same_tuple t p.keys ≡ b
        → (if b then Some (taken_by ks p.taken (get_or gs n no_group).accumulators) else find t gs) ≡ (if b then Some (taken_by ks p.taken (or_empty ks (find t gs))) else find t gs)
    by_test t true f =
        let found : find t gs ≡ Some (get_or gs n no_group).accumulators = ap (λ (u : Tuple). find u gs) (same_is t p.keys f ∙ sym e) ∙ find_there gs n d k in
        ap (λ o. Some (taken_by ks p.taken (or_empty ks o))) (sym found)
    by_test t false f = refl
