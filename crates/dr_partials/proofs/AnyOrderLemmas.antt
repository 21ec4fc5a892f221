-- Puts in any order make the same of a partial.
use Rattle.std.proofs.Common.{◌≡◌, ℕ, zero, suc, ◌<◌, List, [], ◌∷◌, length, get_or, Option, Some, None, refl, sym, ap, ap₂, ◌∙◌, arith}
use Rattle.std.proofs.Math.ListN.{set}
use Rattle.std.specs.List.{swap}
use Rattle.std.specs.Ordering.{match_ordering, ordering_reverse}
use Rattle.std.specs.declared.cmp.Ordering.{Ordering}
use Rattle.std.specs.declared.cmp.Ordering.TheVariants.{Less, Equal, Greater}
use Rattle.std.proofs.lemmas.List.Sorted.{IsPermutation-keeps}
use Rattle.dr_meaning.specs.Record.{Value}
use Rattle.dr_meaning.specs.Query.{GroupTerm, key, count_rows, aggregate, GroupItem, Selection, objects, groups, Query, tuple_order}
use Rattle.dr_partials.specs.Accumulators.{Accumulator, counted, summed, least_of, greatest_of, aggregate_of, accumulator_of_cell, join}
use Rattle.dr_partials.specs.Partials.{Group, Partial, lines, grouped}
use Rattle.dr_partials.specs.PartialTypes.{aggregates_among}
use Rattle.dr_partials.specs.Putting.{Taken, Put, take_one, take_at, taken_into, empty_accumulators, put_into, put_group, put_selected, put, put_all}
use Rattle.dr_partials.proofs.ValueOrders.{tuple_order_total, tuple_order_exact}
use Rattle.dr_partials.proofs.GroupLemmas.{Tuple, less_back}
use Rattle.dr_partials.proofs.AccumulatorLemmas.{join_is_associative, join_is_commutative, cell_aggregate}
use Rattle.dr_partials.specs.AnyOrder.{PutsInAnyOrder}

-- ---- two values that are taken into one group

stays : (x y : Accumulator) → aggregate_of (join x y) ≡ aggregate_of x
stays (counted m) (counted n) = refl
stays (summed s) (summed t) = refl
stays (least_of v) (least_of w) = refl
stays (greatest_of v) (greatest_of w) = refl
stays _ _ = refl

-- two of x's aggregate are joined to x in either order
joined : (x c d : Accumulator) → aggregate_of c ≡ aggregate_of x → aggregate_of d ≡ aggregate_of x → join (join x c) d ≡ join (join x d) c
joined x c d ec ed =
    join_is_associative x c d (sym ec) (ec ∙ sym ed)
    ∙ (ap (join x) (join_is_commutative c d (ec ∙ sym ed)) ∙ sym (join_is_associative x d c (sym ed) (ed ∙ sym ec)))

one_commutes : (t : GroupTerm) (v w : Option Value) (x : Accumulator) → take_one t v (take_one t w x) ≡ take_one t w (take_one t v x)
one_commutes (key i) v w x = refl
one_commutes count_rows v w x = refl
one_commutes (aggregate a e) v w x =
    let c : Accumulator = accumulator_of_cell (aggregate_of x) w in
    let d : Accumulator = accumulator_of_cell (aggregate_of x) v in
    ap (λ b. join (join x c) (accumulator_of_cell b v)) (stays x c)
    ∙ (joined x c d (cell_aggregate (aggregate_of x) w) (cell_aggregate (aggregate_of x) v)
    ∙ ap (λ b. join (join x d) (accumulator_of_cell b w)) (sym (stays x d)))

places_commute : (ts : List GroupTerm) (i j : ℕ) (v w : Option Value) (xs : List Accumulator)
    → take_at ts i v (take_at ts j w xs) ≡ take_at ts j w (take_at ts i v xs)
places_commute [] i j v w xs = refl
places_commute (t ∷ ts) zero zero v w [] = refl
places_commute (t ∷ ts) zero (suc j) v w [] = refl
places_commute (t ∷ ts) (suc i) zero v w [] = refl
places_commute (t ∷ ts) (suc i) (suc j) v w [] = refl
places_commute (t ∷ ts) zero zero v w (x ∷ xs) = ap (λ y. y ∷ xs) (one_commutes t v w x)
places_commute (t ∷ ts) zero (suc j) v w (x ∷ xs) = refl
places_commute (t ∷ ts) (suc i) zero v w (x ∷ xs) = refl
places_commute (t ∷ ts) (suc i) (suc j) v w (x ∷ xs) = ap (λ ys. x ∷ ys) (places_commute ts i j v w xs)

taken_commute : (ts : List GroupTerm) (a b : Option Taken) (xs : List Accumulator)
    → taken_into ts a (taken_into ts b xs) ≡ taken_into ts b (taken_into ts a xs)
taken_commute ts None None xs = refl
taken_commute ts None (Some b) xs = refl
taken_commute ts (Some a) None xs = refl
taken_commute ts (Some a) (Some b) xs = places_commute ts a.aggregate b.aggregate a.value b.value xs

-- ---- two puts into groups

turned : (t u : Tuple) (o : Ordering) → tuple_order t u ≡ o → tuple_order u t ≡ ordering_reverse o
turned t u o e = tuple_order_total.antisymm u t ∙ ap ordering_reverse e

pub same_order : (t : Tuple) → tuple_order t t ≡ Equal
same_order t = by_order (tuple_order t t) (turned t t (tuple_order t t) refl)
  where
    by_order : (o : Ordering) → o ≡ ordering_reverse o → o ≡ Equal
    by_order Less e = absurd (cc)
    by_order Equal e = refl
    by_order Greater e = absurd (cc)

module _ (items : List GroupItem) where
  abbrev into : Put → List Accumulator → Group
  into p xs = put_into items p xs

  -- the group that a put makes
  abbrev made : Put → Group
  made p = into p (empty_accumulators items)

  -- into groups of which g is the first, by the order of the keys
  abbrev placed : Ordering → Put → Group → List Group → List Group
  placed o p g gs = match_ordering o (made p ∷ g ∷ gs) (into p g.accumulators ∷ gs) (g ∷ put_group items p gs)

  both_into : (p r : Put) (xs : List Accumulator) → p.keys ≡ r.keys → into p (into r xs).accumulators ≡ into r (into p xs).accumulators
  both_into p r xs e =
      ap₂ (λ (t : Tuple) (ys : List Accumulator). let g : Group = record { keys = t; accumulators = ys } in g) e
      (taken_commute (aggregates_among items) p.taken r.taken xs)

  -- where either makes a group before all others
  both_made : (p r : Put) (gs : List Group) → put_group items p gs ≡ made p ∷ gs → put_group items r gs ≡ made r ∷ gs
      → put_group items p (made r ∷ gs) ≡ put_group items r (made p ∷ gs)
  both_made p r gs ep er = by_order (tuple_order p.keys r.keys) refl
    where
      by_order : (o : Ordering) → tuple_order p.keys r.keys ≡ o
          → placed (tuple_order p.keys r.keys) p (made r) gs ≡ placed (tuple_order r.keys p.keys) r (made p) gs
      by_order Less e =
          ap (λ o. placed o p (made r) gs) e
          ∙ (ap (λ hs. made p ∷ hs) (sym er) ∙ ap (λ o. placed o r (made p) gs) (sym (turned p.keys r.keys Less e)))
      by_order Equal e =
          ap (λ o. placed o p (made r) gs) e
          ∙ (ap (λ g. g ∷ gs) (both_into p r (empty_accumulators items) (tuple_order_exact p.keys r.keys e))
          ∙ ap (λ o. placed o r (made p) gs) (sym (turned p.keys r.keys Equal e)))
      by_order Greater e =
          ap (λ o. placed o p (made r) gs) e ∙ (ap (λ hs. made r ∷ hs) ep ∙ ap (λ o. placed o r (made p) gs) (sym (turned p.keys r.keys Greater e)))

  -- the first makes a group before g, into which the second goes
  made_before : (p r : Put) (g : Group) (gs : List Group) → tuple_order p.keys g.keys ≡ Less → tuple_order r.keys g.keys ≡ Equal
      → put_group items p (into r g.accumulators ∷ gs) ≡ put_group items r (made p ∷ g ∷ gs)
  made_before p r g gs ep er =
      let e : tuple_order p.keys r.keys ≡ Less = ap (tuple_order p.keys) (tuple_order_exact r.keys g.keys er) ∙ ep in
      ap (λ o. placed o p (into r g.accumulators) gs) e
      ∙ (ap (λ o. made p ∷ placed o r g gs) (sym er) ∙ ap (λ o. placed o r (made p) (g ∷ gs)) (sym (turned p.keys r.keys Less e)))

  -- the second goes behind g
  made_far_before : (p r : Put) (g : Group) (gs : List Group) → tuple_order p.keys g.keys ≡ Less → tuple_order r.keys g.keys ≡ Greater
      → put_group items p (g ∷ put_group items r gs) ≡ put_group items r (made p ∷ g ∷ gs)
  made_far_before p r g gs ep er =
      let e : tuple_order p.keys r.keys ≡ Less = tuple_order_total.trans p.keys g.keys r.keys ep (less_back r.keys g.keys er) in
      ap (λ o. placed o p g (put_group items r gs)) ep
      ∙ (ap (λ o. made p ∷ placed o r g gs) (sym er) ∙ ap (λ o. placed o r (made p) (g ∷ gs)) (sym (turned p.keys r.keys Less e)))

  -- the first goes into g, and the second behind it
  into_before : (p r : Put) (g : Group) (gs : List Group) → tuple_order p.keys g.keys ≡ Equal → tuple_order r.keys g.keys ≡ Greater
      → put_group items p (g ∷ put_group items r gs) ≡ put_group items r (into p g.accumulators ∷ gs)
  into_before p r g gs ep er =
      let e : tuple_order r.keys p.keys ≡ Greater = ap (tuple_order r.keys) (tuple_order_exact p.keys g.keys ep) ∙ er in
      ap (λ o. placed o p g (put_group items r gs)) ep ∙ ap (λ o. placed o r (into p g.accumulators) gs) (sym e)

  into_both : (p r : Put) (g : Group) (gs : List Group) → tuple_order p.keys g.keys ≡ Equal → tuple_order r.keys g.keys ≡ Equal
      → put_group items p (into r g.accumulators ∷ gs) ≡ put_group items r (into p g.accumulators ∷ gs)
  into_both p r g gs ep er =
      let k : p.keys ≡ r.keys = tuple_order_exact p.keys g.keys ep ∙ sym (tuple_order_exact r.keys g.keys er) in
      let e : tuple_order p.keys r.keys ≡ Equal = ap (tuple_order p.keys) (sym k) ∙ same_order p.keys in
      ap (λ o. placed o p (into r g.accumulators) gs) e
      ∙ (ap (λ h. h ∷ gs) (both_into p r g.accumulators k) ∙ ap (λ o. placed o r (into p g.accumulators) gs) (sym (turned p.keys r.keys Equal e)))

  groups_commute : (p r : Put) (gs : List Group) → put_group items p (put_group items r gs) ≡ put_group items r (put_group items p gs)
  groups_commute p r [] = both_made p r [] refl refl
  groups_commute p r (g ∷ gs) = by_orders (tuple_order p.keys g.keys) (tuple_order r.keys g.keys) refl refl (groups_commute p r gs)
    where
      by_orders : (o v : Ordering) → tuple_order p.keys g.keys ≡ o → tuple_order r.keys g.keys ≡ v
          → put_group items p (put_group items r gs) ≡ put_group items r (put_group items p gs)
          → put_group items p (placed v r g gs) ≡ put_group items r (placed o p g gs)
      by_orders Less Less ep er h = both_made p r (g ∷ gs) (ap (λ o. placed o p g gs) ep) (ap (λ o. placed o r g gs) er)
      by_orders Less Equal ep er h = made_before p r g gs ep er
      by_orders Less Greater ep er h = made_far_before p r g gs ep er
      by_orders Equal Less ep er h = sym (made_before r p g gs er ep)
      by_orders Equal Equal ep er h = into_both p r g gs ep er
      by_orders Equal Greater ep er h = into_before p r g gs ep er
      by_orders Greater Less ep er h = sym (made_far_before r p g gs er ep)
      by_orders Greater Equal ep er h = sym (into_before r p g gs er ep)
      by_orders Greater Greater ep er h =
          ap (λ o. placed o p g (put_group items r gs)) ep ∙ (ap (λ hs. g ∷ hs) h ∙ ap (λ o. placed o r g (put_group items p gs)) (sym er))

selected_commute : (s : Selection) (p r : Put) (x : Partial) → put_selected s p (put_selected s r x) ≡ put_selected s r (put_selected s p x)
selected_commute (objects items) p r x = refl
selected_commute (groups keys items) p r (lines os) = refl
selected_commute (groups keys items) p r (grouped gs) = ap grouped (groups_commute items p r gs)

pub puts_commute : (q : Query) (p r : Put) (x : Partial) → put q p (put q r x) ≡ put q r (put q p x)
unfolding put
puts_commute q p r x = selected_commute q.selection p r x

-- ---- any order

module _ (q : Query) where
  abbrev Same : List Put → List Put → Type 0
  Same ps rs = (r : Partial) → put_all q ps r ≡ put_all q rs r

  turn : (p s : Put) (ps : List Put) → Same (p ∷ s ∷ ps) (s ∷ p ∷ ps)
  turn p s ps r = ap (put_all q ps) (puts_commute q s p r)

  to_head : (l : List Put) (j : ℕ) (x d : Put) → j < length l → Same (x ∷ l) (get_or l j d ∷ set l j x)
  to_head [] j x d h = absurd (omega arith)
  to_head (y ∷ l) zero x d h = turn x y l
  to_head (y ∷ l) (suc j) x d h =
      λ r. turn x y l r ∙ (to_head l j x d (omega arith) (put q y r) ∙ turn y (get_or l j d) (set l j x) r)

  exchanged : (l : List Put) (i j : ℕ) (d : Put) → i < length l → j < length l → Same l (set (set l i (get_or l j d)) j (get_or l i d))
  exchanged [] i j d a b = absurd (omega arith)
  exchanged (x ∷ l) zero zero d a b = λ r. refl
  exchanged (x ∷ l) zero (suc j) d a b = to_head l j x d (omega arith)
  exchanged (x ∷ l) (suc i) zero d a b = to_head l i x d (omega arith)
  exchanged (x ∷ l) (suc i) (suc j) d a b = λ r. exchanged l i j d (omega arith) (omega arith) (put q x r)

  swapped : (l : List Put) (i j : ℕ) → i < length l → j < length l → Same l (swap l i j)
  swapped [] i j a b = λ r. refl
  swapped (x ∷ l) i j a b = exchanged (x ∷ l) i j x a b

pub puts_in_any_order : PutsInAnyOrder
puts_in_any_order q ps rs r h = IsPermutation-keeps ps (Same q ps) (λ r. refl) (λ l i j a b s r. s r ∙ swapped q l i j a b r) rs h r
