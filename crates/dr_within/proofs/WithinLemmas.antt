-- What is gathered for items, as more is joined to it.
use Rattle.std.proofs.Common.{◌≡◌, ◌<◌, ◌≤◌, ◌+◌, ℕ, zero, suc, List, [], ◌∷◌, ◌++◌, length, get_or, drop, set, Bool, true, false, Option, Some, None, refl, sym, ap, ap₂, subst, ◌∙◌, arith}
use Rattle.std.specs.Prelude.{◌==◌, if◌then◌else◌, option_map, OnOk, Result, Ok, Err}
use Rattle.dr_memory.specs.declared.NoMemory.{NoMemory}
use Rattle.dr_group.specs.Gathering.{Becomes}
use Rattle.std.specs.List.{slice_get}
use Rattle.std.proofs.lemmas.Bool.{eqb-true, eq-eqb}
use Rattle.std.proofs.Math.Seq.{drop-cons}
use Rattle.std.proofs.lemmas.Option.{get_or_from_slice_get}
use Rattle.dr_meaning.specs.Query.{Aggregate, RecordItem as MeantItem}
use Rattle.dr_partials.specs.Accumulators.{Accumulator, counted, summed, least_of, greatest_of, aggregate_of, empty_accumulator, join}
use Rattle.dr_partials.proofs.AccumulatorLemmas.{join_is_associative, join_is_commutative, cell_aggregate, empty_left, empty_right}
use Rattle.dr_group.specs.Views.{accumulator_view}
use Rattle.dr_within.specs.ObjectFraming.{aggregate_at, gathered_for, AreOfItems}
use Rattle.dr_within.specs.WithinValues.{is_among, SameValues, JoinsAt, gathered_for_others, JoinsOthers}
use Rattle.dr_within.specs.declared.within_values.ItemValues.{ItemValues}

pub joined_aggregate : (x y : Accumulator) → aggregate_of (join x y) ≡ aggregate_of x
joined_aggregate (counted m) (counted n) = refl
joined_aggregate (counted m) (summed s) = refl
joined_aggregate (counted m) (least_of v) = refl
joined_aggregate (counted m) (greatest_of v) = refl
joined_aggregate (summed s) (counted n) = refl
joined_aggregate (summed s) (summed t) = refl
joined_aggregate (summed s) (least_of v) = refl
joined_aggregate (summed s) (greatest_of v) = refl
joined_aggregate (least_of v) (counted n) = refl
joined_aggregate (least_of v) (summed t) = refl
joined_aggregate (least_of v) (least_of w) = refl
joined_aggregate (least_of v) (greatest_of w) = refl
joined_aggregate (greatest_of v) (counted n) = refl
joined_aggregate (greatest_of v) (summed t) = refl
joined_aggregate (greatest_of v) (least_of w) = refl
joined_aggregate (greatest_of v) (greatest_of w) = refl

pub empty_aggregate : (a : Aggregate) → aggregate_of (empty_accumulator a) ≡ a
empty_aggregate a = cell_aggregate a None

-- joined to the first of two
pub join_first : (x y z : Accumulator) → aggregate_of x ≡ aggregate_of y → aggregate_of y ≡ aggregate_of z → join (join x z) y ≡ join (join x y) z
join_first x y z e f =
    join_is_associative x z y (e ∙ f) (sym f) ∙ ap (join x) (join_is_commutative z y (sym f)) ∙ sym (join_is_associative x y z e f)

-- of the item's aggregate
one_aggregate : (items : List MeantItem) (i j : ℕ) (a b : Aggregate) → i ≡ j → aggregate_at items i ≡ Some b → aggregate_at items j ≡ Some a → b ≡ a
one_aggregate items i j a b e f g = let h : Some b ≡ Some a = sym f ∙ ap (aggregate_at items) e ∙ g in cc

pub gathered_aggregate : (items : List MeantItem) (j : ℕ) (a : Aggregate) (es : List ItemValues) → AreOfItems items es → aggregate_at items j ≡ Some a → aggregate_of (gathered_for a j es) ≡ a
gathered_aggregate items j a [] t h = empty_aggregate a
gathered_aggregate items j a (e ∷ es) t h = by_test (e.item == j) refl (gathered_aggregate items j a es t.1 h)
  where
    by_test : (b : Bool) → (e.item == j) ≡ b → aggregate_of (gathered_for a j es) ≡ a → aggregate_of (if b then join (accumulator_view e.gathered) (gathered_for a j es) else gathered_for a j es) ≡ a
    by_test true f rest = joined_aggregate (accumulator_view e.gathered) (gathered_for a j es) ∙ one_aggregate items e.item j a (aggregate_of (accumulator_view e.gathered)) (eqb-true e.item j f) t.0 h
    by_test false f rest = rest

-- ---- an item for which nothing is gathered yet

push_typed : (items : List MeantItem) (es : List ItemValues) (e : ItemValues) → AreOfItems items es → aggregate_at items e.item ≡ Some (aggregate_of (accumulator_view e.gathered)) → AreOfItems items (es ++ e ∷ [])
push_typed items [] e t h = (h, tt)
push_typed items (d ∷ es) e t h = (t.0, push_typed items es e t.1 h)

push_gathers : (items : List MeantItem) (es : List ItemValues) (e : ItemValues) (b : Aggregate) → accumulator_view e.gathered ≡ empty_accumulator b → aggregate_at items e.item ≡ Some b
    → (i : ℕ) (a : Aggregate) → aggregate_at items i ≡ Some a → gathered_for a i (es ++ e ∷ []) ≡ gathered_for a i es
push_gathers items [] e b x h i a g = by_test (e.item == i) refl
  where
    by_test : (t : Bool) → (e.item == i) ≡ t → (if t then join (accumulator_view e.gathered) (empty_accumulator a) else empty_accumulator a) ≡ empty_accumulator a
    by_test true f =
        ap (λ (y : Accumulator). join y (empty_accumulator a)) (x ∙ ap empty_accumulator (one_aggregate items e.item i a b (eqb-true e.item i f) h g)) ∙ empty_left a (empty_accumulator a) (empty_aggregate a)
    by_test false f = refl
push_gathers items (d ∷ es) e b x h i a g =
    ap (λ (y : Accumulator). if d.item == i then join (accumulator_view d.gathered) y else y) (push_gathers items es e b x h i a g)

pub same_pushed : (items : List MeantItem) (es : List ItemValues) (e : ItemValues) (b : Aggregate) → accumulator_view e.gathered ≡ empty_accumulator b → aggregate_at items e.item ≡ Some b
    → AreOfItems items es → SameValues items es (es ++ e ∷ [])
same_pushed items es e b x h t = record {
  typed = push_typed items es e t (h ∙ ap Some (sym (ap aggregate_of x ∙ empty_aggregate b)));
  gathers = push_gathers items es e b x h;
}

-- ---- joined in its place

set_typed : (items : List MeantItem) (es : List ItemValues) (k : ℕ) (e : ItemValues) → AreOfItems items es → aggregate_at items e.item ≡ Some (aggregate_of (accumulator_view e.gathered)) → AreOfItems items (set es k e)
set_typed items [] k e t h = t
set_typed items (d ∷ es) zero e t h = (h, t.1)
set_typed items (d ∷ es) (suc k) e t h = (t.0, set_typed items es k e t.1 h)

pub typed_at : (items : List MeantItem) (es : List ItemValues) (k : ℕ) (e : ItemValues) → AreOfItems items es → slice_get es k ≡ Some e → aggregate_at items e.item ≡ Some (aggregate_of (accumulator_view e.gathered))
typed_at items [] k e t h = absurd (cc)
typed_at items (d ∷ es) zero e t h = let same : d ≡ e = cc in subst (λ (x : ItemValues). aggregate_at items x.item ≡ Some (aggregate_of (accumulator_view x.gathered))) same t.0
typed_at items (d ∷ es) (suc k) e t h = typed_at items es k e t.1 h

module _ (items : List MeantItem) (z : Accumulator) (i : ℕ) (a : Aggregate) (g : aggregate_at items i ≡ Some a) where
  -- in front of others
  joined_front : (x : Accumulator) (es : List ItemValues) → AreOfItems items es → aggregate_of x ≡ a → aggregate_of z ≡ a
      → join (join x z) (gathered_for a i es) ≡ join (join x (gathered_for a i es)) z
  joined_front x es t e f =
      let y : aggregate_of (gathered_for a i es) ≡ a = gathered_aggregate items i a es t g in
      join_first x (gathered_for a i es) z (e ∙ sym y) (y ∙ sym f)

  set_gathers : (j : ℕ) (es : List ItemValues) (k : ℕ) (e new : ItemValues) → slice_get es k ≡ Some e → e.item ≡ j → new.item ≡ j
      → accumulator_view new.gathered ≡ join (accumulator_view e.gathered) z → aggregate_of z ≡ aggregate_of (accumulator_view e.gathered) → AreOfItems items es
      → gathered_for a i (set es k new) ≡ (if j == i then join (gathered_for a i es) z else gathered_for a i es)
  set_gathers j [] k e new s n m v f t = absurd (cc)
  set_gathers j (d ∷ es) zero e new s n m v f t = by_test (j == i) refl
    where
      same : d ≡ e
      same = cc

      rest : Accumulator
      rest = gathered_for a i es

      at_new : (b : Bool) → (j == i) ≡ b → gathered_for a i (new ∷ es) ≡ (if b then join (accumulator_view new.gathered) rest else rest)
      at_new b q = ap (λ (p : ℕ). if p == i then join (accumulator_view new.gathered) rest else rest) m ∙ ap (λ (p : Bool). if p then join (accumulator_view new.gathered) rest else rest) q

      at_old : (b : Bool) → (j == i) ≡ b → gathered_for a i (d ∷ es) ≡ (if b then join (accumulator_view d.gathered) rest else rest)
      at_old b q = ap (λ (p : ℕ). if p == i then join (accumulator_view d.gathered) rest else rest) (ap (λ (x : ItemValues). x.item) same ∙ n) ∙ ap (λ (p : Bool). if p then join (accumulator_view d.gathered) rest else rest) q

      by_test : (b : Bool) → (j == i) ≡ b → gathered_for a i (new ∷ es) ≡ (if b then join (gathered_for a i (d ∷ es)) z else gathered_for a i (d ∷ es))
      by_test true q =
          let own : aggregate_of (accumulator_view d.gathered) ≡ a = one_aggregate items d.item i a (aggregate_of (accumulator_view d.gathered)) (ap (λ (x : ItemValues). x.item) same ∙ n ∙ eqb-true j i q) t.0 g in
          let more : aggregate_of z ≡ a = f ∙ ap (λ (x : ItemValues). aggregate_of (accumulator_view x.gathered)) (sym same) ∙ own in
          at_new true q ∙ ap (λ (x : Accumulator). join x rest) (v ∙ ap (λ (x : ItemValues). join (accumulator_view x.gathered) z) (sym same))
          ∙ joined_front (accumulator_view d.gathered) es t.1 own more ∙ ap (λ (x : Accumulator). join x z) (sym (at_old true q))
      by_test false q = at_new false q ∙ sym (at_old false q)
  set_gathers j (d ∷ es) (suc k) e new s n m v f t =
      ap (λ (y : Accumulator). if d.item == i then join (accumulator_view d.gathered) y else y) (set_gathers j es k e new s n m v f t.1) ∙ by_tests (d.item == i) (j == i) refl refl
    where
      rest : Accumulator
      rest = gathered_for a i es

      x : Accumulator
      x = accumulator_view d.gathered

      by_tests : (p q : Bool) → (d.item == i) ≡ p → (j == i) ≡ q
          → (if p then join x (if q then join rest z else rest) else (if q then join rest z else rest)) ≡ (if q then join (if p then join x rest else rest) z else (if p then join x rest else rest))
      by_tests true true u w =
          let own : aggregate_of x ≡ a = one_aggregate items d.item i a (aggregate_of x) (eqb-true d.item i u) t.0 g in
          let y : aggregate_of rest ≡ a = gathered_aggregate items i a es t.1 g in
          let at : aggregate_of (accumulator_view e.gathered) ≡ a = one_aggregate items e.item i a (aggregate_of (accumulator_view e.gathered)) (n ∙ eqb-true j i w) (typed_at items es k e t.1 s) g in
          sym (join_is_associative x rest z (own ∙ sym y) (y ∙ sym at ∙ sym f))
      by_tests true false u w = refl
      by_tests false true u w = refl
      by_tests false false u w = refl

pub joins_set : (items : List MeantItem) (j : ℕ) (z : Accumulator) (es : List ItemValues) (k : ℕ) (e new : ItemValues) → slice_get es k ≡ Some e → e.item ≡ j → new.item ≡ j
    → accumulator_view new.gathered ≡ join (accumulator_view e.gathered) z → aggregate_of z ≡ aggregate_of (accumulator_view e.gathered) → AreOfItems items es → JoinsAt items j z es (set es k new)
joins_set items j z es k e new s n m v f t =
    let at : aggregate_at items e.item ≡ Some (aggregate_of (accumulator_view e.gathered)) = typed_at items es k e t s in
    record {
      typed = set_typed items es k new t (ap (aggregate_at items) (m ∙ sym n) ∙ at ∙ ap Some (sym (ap aggregate_of v ∙ joined_aggregate (accumulator_view e.gathered) z)));
      gathers = λ i a g. set_gathers items z i a g j es k e new s n m v f t;
    }

-- behind a change that gathers nothing more
pub joins_behind_same : (items : List MeantItem) (j : ℕ) (z : Accumulator) (es fs gs : List ItemValues) → SameValues items es fs → JoinsAt items j z fs gs → JoinsAt items j z es gs
joins_behind_same items j z es fs gs s h = record {
  typed = h.typed;
  gathers = λ i a g. h.gathers i a g ∙ ap (λ (x : Accumulator). if j == i then join x z else x) (s.gathers i a g);
}

-- ---- those of another branch

-- so many of them are joined
pub record JoinsFront (items : List MeantItem) (own : List ℕ) (more before : List ItemValues) (k : ℕ) (after : List ItemValues) : Type 0 where
  pub typed : AreOfItems items after
  pub gathers : (i : ℕ) (a : Aggregate) → aggregate_at items i ≡ Some a
      → join (gathered_for a i after) (gathered_for_others own a i (drop k more)) ≡ join (gathered_for a i before) (gathered_for_others own a i more)

pub front_start : (items : List MeantItem) (own : List ℕ) (more before : List ItemValues) → AreOfItems items before → JoinsFront items own more before 0 before
front_start items own more before t = record { typed = t; gathers = λ i a g. refl }

drop_typed : (items : List MeantItem) (es : List ItemValues) (k : ℕ) → AreOfItems items es → AreOfItems items (drop k es)
drop_typed items [] zero t = t
drop_typed items [] (suc k) t = t
drop_typed items (e ∷ es) zero t = t
drop_typed items (e ∷ es) (suc k) t = drop_typed items es k t.1

none_for_others : (own : List ℕ) (a : Aggregate) (i : ℕ) → gathered_for_others own a i [] ≡ empty_accumulator a
none_for_others own a i = by_test (is_among own i)
  where
    by_test : (b : Bool) → (if b then empty_accumulator a else empty_accumulator a) ≡ empty_accumulator a
    by_test true = refl
    by_test false = refl

nothing_left : (es : List ItemValues) (k : ℕ) → length es ≤ k → drop k es ≡ []
nothing_left [] zero h = refl
nothing_left [] (suc k) h = refl
nothing_left (e ∷ es) zero h = absurd (omega (arith, h))
nothing_left (e ∷ es) (suc k) h = nothing_left es k (omega (arith, h))

pub front_end : (items : List MeantItem) (own : List ℕ) (more before : List ItemValues) (k : ℕ) (after : List ItemValues) → length more ≤ k → JoinsFront items own more before k after → JoinsOthers items own more before after
front_end items own more before k after l h = record {
  typed = h.typed;
  gathers = λ i a g.
      sym (ap (join (gathered_for a i after)) (ap (gathered_for_others own a i) (nothing_left more k l) ∙ none_for_others own a i) ∙ empty_right a (gathered_for a i after) (gathered_aggregate items i a after h.typed g)) ∙ h.gathers i a g;
}

-- one of them that is left out
pub front_skips : (items : List MeantItem) (own : List ℕ) (more before : List ItemValues) (k m : ℕ) (e : ItemValues) (after : List ItemValues) → drop k more ≡ e ∷ drop m more → is_among own e.item ≡ true
    → JoinsFront items own more before k after → JoinsFront items own more before m after
front_skips items own more before k m e after d o h = record {
  typed = h.typed;
  gathers = λ i a g. ap (join (gathered_for a i after)) (sym (ap (gathered_for_others own a i) d ∙ skipped a i)) ∙ h.gathers i a g;
}
  where
    skipped : (a : Aggregate) (i : ℕ) → gathered_for_others own a i (e ∷ drop m more) ≡ gathered_for_others own a i (drop m more)
    skipped a i = by_test (e.item == i) refl
      where
        rest : Accumulator
        rest = gathered_for a i (drop m more)

        by_test : (b : Bool) → (e.item == i) ≡ b
            → (if is_among own i then empty_accumulator a else (if b then join (accumulator_view e.gathered) rest else rest)) ≡ (if is_among own i then empty_accumulator a else rest)
        by_test true q =
            let among : is_among own i ≡ true = ap (is_among own) (sym (eqb-true e.item i q)) ∙ o in
            ap (λ (b : Bool). if b then empty_accumulator a else join (accumulator_view e.gathered) rest) among ∙ ap (λ (b : Bool). if b then empty_accumulator a else rest) (sym among)
        by_test false q = refl

-- one that is joined
pub front_joins : (items : List MeantItem) (own : List ℕ) (more before : List ItemValues) (k m : ℕ) (e : ItemValues) (after new : List ItemValues) → AreOfItems items more → drop k more ≡ e ∷ drop m more
    → is_among own e.item ≡ false → JoinsAt items e.item (accumulator_view e.gathered) after new → JoinsFront items own more before k after → JoinsFront items own more before m new
front_joins items own more before k m e after new t d o j h = record {
  typed = j.typed;
  gathers = λ i a g. ap (λ (x : Accumulator). join x (gathered_for_others own a i (drop m more))) (j.gathers i a g) ∙ joined i a g (e.item == i) refl ∙ ap (join (gathered_for a i after)) (sym (ap (gathered_for_others own a i) d)) ∙ h.gathers i a g;
}
  where
    typed : AreOfItems items (e ∷ drop m more)
    typed = subst (AreOfItems items) d (drop_typed items more k t)

    joined : (i : ℕ) (a : Aggregate) → aggregate_at items i ≡ Some a → (b : Bool) → (e.item == i) ≡ b
        → join (if b then join (gathered_for a i after) (accumulator_view e.gathered) else gathered_for a i after) (gathered_for_others own a i (drop m more))
        ≡ join (gathered_for a i after) (if is_among own i then empty_accumulator a else (if b then join (accumulator_view e.gathered) (gathered_for a i (drop m more)) else gathered_for a i (drop m more)))
    joined i a g true q =
        let here : e.item ≡ i = eqb-true e.item i q in
        let among : is_among own i ≡ false = ap (is_among own) (sym here) ∙ o in
        let x = accumulator_view e.gathered in
        let y = gathered_for a i after in
        let z = gathered_for a i (drop m more) in
        let p : aggregate_of y ≡ a = gathered_aggregate items i a after h.typed g in
        let r : aggregate_of x ≡ a = one_aggregate items e.item i a (aggregate_of x) here typed.0 g in
        let s : aggregate_of z ≡ a = gathered_aggregate items i a (drop m more) typed.1 g in
        ap (λ (b : Bool). join (join y x) (if b then empty_accumulator a else z)) among
        ∙ join_is_associative y x z (p ∙ sym r) (r ∙ sym s)
        ∙ ap (λ (b : Bool). join y (if b then empty_accumulator a else join x z)) (sym among)
    joined i a g false q = refl

-- ---- all of one item

-- so many of them are joined
pub record GathersFront (items : List MeantItem) (j : ℕ) (a : Aggregate) (es : List ItemValues) (k : ℕ) (total : Accumulator) : Type 0 where
  pub typed : aggregate_of total ≡ a
  pub gathers : join total (gathered_for a j (drop k es)) ≡ gathered_for a j es

pub gathers_start : (items : List MeantItem) (j : ℕ) (a : Aggregate) (es : List ItemValues) (total : Accumulator) → total ≡ empty_accumulator a → AreOfItems items es → aggregate_at items j ≡ Some a → GathersFront items j a es 0 total
gathers_start items j a es total e t g = record {
  typed = ap aggregate_of e ∙ empty_aggregate a;
  gathers = ap (λ (x : Accumulator). join x (gathered_for a j es)) e ∙ empty_left a (gathered_for a j es) (gathered_aggregate items j a es t g);
}

pub gathers_end : (items : List MeantItem) (j : ℕ) (a : Aggregate) (es : List ItemValues) (k : ℕ) (total : Accumulator) → length es ≤ k → GathersFront items j a es k total → total ≡ gathered_for a j es
gathers_end items j a es k total l h = sym (ap (λ (fs : List ItemValues). join total (gathered_for a j fs)) (nothing_left es k l) ∙ empty_right a total h.typed) ∙ h.gathers

pub gathers_more : (items : List MeantItem) (j : ℕ) (a : Aggregate) (es : List ItemValues) (k m : ℕ) (e : ItemValues) (total new : Accumulator) → drop k es ≡ e ∷ drop m es → AreOfItems items es → aggregate_at items j ≡ Some a → e.item ≡ j
    → (aggregate_of total ≡ aggregate_of (accumulator_view e.gathered) → new ≡ join total (accumulator_view e.gathered)) → GathersFront items j a es k total → GathersFront items j a es m new
gathers_more items j a es k m e total new d t g i n h =
    let typed : AreOfItems items (e ∷ drop m es) = subst (AreOfItems items) d (drop_typed items es k t) in
    let x = accumulator_view e.gathered in
    let z = gathered_for a j (drop m es) in
    let r : aggregate_of x ≡ a = one_aggregate items e.item j a (aggregate_of x) i typed.0 g in
    let s : aggregate_of z ≡ a = gathered_aggregate items j a (drop m es) typed.1 g in
    let is : new ≡ join total x = n (h.typed ∙ sym r) in
    let here : gathered_for a j (e ∷ drop m es) ≡ join x z = ap (λ (b : Bool). if b then join x z else z) (eq-eqb e.item j i) in
    record {
      typed = ap aggregate_of is ∙ joined_aggregate total x ∙ h.typed;
      gathers = ap (λ (y : Accumulator). join y z) is ∙ join_is_associative total x z (h.typed ∙ sym r) (r ∙ sym s) ∙ ap (join total) (sym (ap (gathered_for a j) d ∙ here)) ∙ h.gathers;
    }

pub gathers_same : (items : List MeantItem) (j : ℕ) (a : Aggregate) (es : List ItemValues) (k m : ℕ) (e : ItemValues) (total : Accumulator) → drop k es ≡ e ∷ drop m es → (e.item == j) ≡ false
    → GathersFront items j a es k total → GathersFront items j a es m total
gathers_same items j a es k m e total d i h =
    let here : gathered_for a j (e ∷ drop m es) ≡ gathered_for a j (drop m es) = ap (λ (b : Bool). if b then join (accumulator_view e.gathered) (gathered_for a j (drop m es)) else gathered_for a j (drop m es)) i in
    record { typed = h.typed; gathers = ap (join total) (sym (ap (gathered_for a j) d ∙ here)) ∙ h.gathers }

-- the next of them
pub next_entry : (es xs : List ItemValues) (k : ℕ) (e : ItemValues) → xs ≡ es → k < length xs → e ≡ get_or xs k e → drop k es ≡ e ∷ drop (k + 1) es
next_entry es xs k e s l i =
    let one : k + 1 ≡ suc k = omega arith in
    ap (drop k) (sym s) ∙ drop-cons xs k e l ∙ ap₂ (λ (x : ItemValues) (n : ℕ). x ∷ drop n xs) (sym i) (sym one) ∙ ap (λ (ys : List ItemValues). e ∷ drop (k + 1) ys) s

pub next_typed : (items : List MeantItem) (es : List ItemValues) (k m : ℕ) (e : ItemValues) → AreOfItems items es → drop k es ≡ e ∷ drop m es → aggregate_at items e.item ≡ Some (aggregate_of (accumulator_view e.gathered))
next_typed items es k m e t d = let here : AreOfItems items (e ∷ drop m es) = subst (AreOfItems items) d (drop_typed items es k t) in here.0

-- the one at a place, of which the item is known
pub record EntryAt (es : List ItemValues) (k j : ℕ) : Type 0 where
  pub entry : ItemValues
  pub there : slice_get es k ≡ Some entry
  pub item : entry.item ≡ j

pub entry_at : (es : List ItemValues) (k j : ℕ) → option_map (λ (e : ItemValues). e.item) (slice_get es k) ≡ Some j → EntryAt es k j
entry_at es k j h = by_entry (slice_get es k) refl h
  where
    by_entry : (o : Option ItemValues) → slice_get es k ≡ o → option_map (λ (e : ItemValues). e.item) o ≡ Some j → EntryAt es k j
    by_entry None e f = absurd (cc)
    by_entry (Some x) e f = record { entry = x; there = e; item = cc }

-- the one at a place is joined with more, which is of the item's aggregate
pub joined_at : (items : List MeantItem) (j : ℕ) (a : Aggregate) (z : Accumulator) (es fs gs : List ItemValues) (k : ℕ) (e new : ItemValues) → SameValues items es fs → aggregate_at items j ≡ Some a → aggregate_of z ≡ a
    → option_map (λ (x : ItemValues). x.item) (slice_get fs k) ≡ Some j → e ≡ get_or fs k e → new.item ≡ e.item
    → (aggregate_of (accumulator_view e.gathered) ≡ aggregate_of z → accumulator_view new.gathered ≡ join (accumulator_view e.gathered) z) → gs ≡ set fs k new → JoinsAt items j z es gs
joined_at items j a z es fs gs k e new s g f at i n v q =
    let x : EntryAt fs k j = entry_at fs k j at in
    let same : e ≡ x.entry = i ∙ get_or_from_slice_get fs k x.entry e x.there in
    let there : slice_get fs k ≡ Some e = x.there ∙ ap Some (sym same) in
    let item : e.item ≡ j = ap (λ (y : ItemValues). y.item) same ∙ x.item in
    let typed : aggregate_of (accumulator_view e.gathered) ≡ a = one_aggregate items e.item j a (aggregate_of (accumulator_view e.gathered)) item (typed_at items fs k e s.typed there) g in
    subst (JoinsAt items j z es) (sym q) (joins_behind_same items j z es fs (set fs k new) s
    (joins_set items j z fs k e new there item (n ∙ item) (v (typed ∙ sym f)) (f ∙ sym typed) s.typed))

-- where a call succeeds
pub becomes_then : {A : Type 0} (r : Result (Unit {0}) NoMemory) (before after meant : A) (P : Type 0) → (after ≡ meant → P) → Becomes before after meant r → OnOk r P
becomes_then (Ok done) before after meant P f h = f h
becomes_then (Err e) before after meant P f h = tt
