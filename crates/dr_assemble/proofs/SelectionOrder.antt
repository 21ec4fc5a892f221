-- Paths in schema order are in order at every depth; and a selection in another order selects the same.
use Rattle.std.proofs.Common.{◌≡◌, inl, inr, ℕ, zero, suc, ◌+◌, ◌<◌, ◌≤◌, ◌⊎◌, List, [], ◌∷◌, ◌++◌, map, length, get_or, Bool, true, false, Some, refl, sym, ap, ap₂, ◌∙◌, subst, arith}
use Rattle.std.specs.Prelude.{◌==◌}
use Rattle.std.specs.List.{slice_get, list_all}
use Rattle.std.proofs.lemmas.Bool.{and_parts}
use Rattle.std.proofs.lemmas.Bool.Decides.{nat_tests}
use Rattle.dr_meaning.specs.Schema.{Repetition, Fields, no_fields, field, Shape, leaf, group}
use Rattle.dr_meaning.specs.Path.{Step, is_leaf_path}
use Rattle.dr_meaning.specs.Record.{Node, no_slots, slot, gap, Instances, no_instances, instance, Instance, atom, inner, through_first, through_first_if, through_later, through_later_if, slot_for, project, project_all, project_one}
use Rattle.dr_meaning.specs.Automaton.{Pick, picks, picks_from, first_picks, first_picks_if, first_picks_and, later_picks, later_picks_if, later_picks_and, indexes, schema_order, schema_order_in, shape_schema_order}
use Rattle.dr_meaning.specs.OrderLaws.{times, OrdersHaveEachOnce}
use Rattle.dr_assemble.specs.Restoring.{behind_step}
use Rattle.dr_assemble.proofs.OrderedLemmas.{heads_weaken}
use Rattle.dr_assemble.specs.Ordered.{HeadsFrom, EachOrdered, OrderedIn}

-- ---- what holds of each place of an order

abbrev pub Each : (ℕ → Type 0) → List ℕ → Type 0
Each P [] = Unit {0}
Each P (i ∷ is) = P i × Each P is

each-append : (P : ℕ → Type 0) (is js : List ℕ) → Each P is → Each P js → Each P (is ++ js)
each-append P [] js h g = g
each-append P (i ∷ is) js h g = (h.0, each-append P is js h.1 g)

abbrev EachPick : (ℕ → Type 0) → List Pick → Type 0
EachPick P [] = Unit {0}
EachPick P (f ∷ G) = P f.index × EachPick P G

each_behind_if : (P : ℕ → Type 0) (k : ℕ) (p : List Step) (i : ℕ) (G : List Pick) → P i → EachPick P G → EachPick P (first_picks_if k p i G)
each_behind_if P zero p i G h g = (h, g)
each_behind_if P (suc k) p i G h g = g

each_behind_pick : (P : ℕ → Type 0) (p : List Step) (i : ℕ) (G : List Pick) → P i → EachPick P G → EachPick P (first_picks_and p i G)
each_behind_pick P [] i G h g = g
each_behind_pick P (s ∷ p) i G h g = each_behind_if P s.place p i G h g

each_behind : (P : ℕ → Type 0) (G : List Pick) → EachPick P G → EachPick P (first_picks G)
each_behind P [] h = tt
each_behind P (f ∷ G) h = each_behind_pick P f.rest f.index (first_picks G) h.0 (each_behind P G h.1)

each_beside_if : (P : ℕ → Type 0) (k : ℕ) (s : Step) (p : List Step) (i : ℕ) (G : List Pick) → P i → EachPick P G → EachPick P (later_picks_if k s p i G)
each_beside_if P zero s p i G h g = g
each_beside_if P (suc k) s p i G h g = (h, g)

each_beside_pick : (P : ℕ → Type 0) (p : List Step) (i : ℕ) (G : List Pick) → P i → EachPick P G → EachPick P (later_picks_and p i G)
each_beside_pick P [] i G h g = g
each_beside_pick P (s ∷ p) i G h g = each_beside_if P s.place s p i G h g

each_beside : (P : ℕ → Type 0) (G : List Pick) → EachPick P G → EachPick P (later_picks G)
each_beside P [] h = tt
each_beside P (f ∷ G) h = each_beside_pick P f.rest f.index (later_picks G) h.0 (each_beside P G h.1)

each_index : (P : ℕ → Type 0) (G : List Pick) → EachPick P G → Each P (indexes G)
each_index P [] h = tt
each_index P (f ∷ G) h = (h.0, each_index P G h.1)

mutual
  each_in_schema : (P : ℕ → Type 0) (fs : Fields) (G : List Pick) → EachPick P G → Each P (schema_order_in fs G)
  each_in_schema P no_fields G h = tt
  each_in_schema P (field m r s fs) G h = each-append P _ _ (each_in_shape P s (first_picks G) (each_behind P G h)) (each_in_schema P fs (later_picks G) (each_beside P G h))

  each_in_shape : (P : ℕ → Type 0) (s : Shape) (G : List Pick) → EachPick P G → Each P (shape_schema_order s G)
  each_in_shape P (leaf k) G h = each_index P G h
  each_in_shape P (group fs) G h = each_in_schema P fs G h

-- ---- the paths of picks, found by their places

-- a later field's path, as the rest of the group counts its fields
abbrev lowered_if : ℕ → Repetition → List Step → List Step
lowered_if zero r p = []
lowered_if (suc k) r p = record { place = k; repetition = r } ∷ p

abbrev lowered : List Step → List Step
lowered [] = []
lowered (s ∷ p) = lowered_if s.place s.repetition p

abbrev IsZero : ℕ → Type 0
IsZero zero = Unit {0}
IsZero (suc k) = ⊥

abbrev IsAbove : ℕ → Type 0
IsAbove zero = ⊥
IsAbove (suc k) = Unit {0}

-- a path through the first field; through a later one
abbrev IsFirst : List Step → Type 0
IsFirst [] = ⊥
IsFirst (s ∷ p) = IsZero s.place

abbrev IsLater : List Step → Type 0
IsLater [] = ⊥
IsLater (s ∷ p) = IsAbove s.place

abbrev AllAt : (ℕ → List Step) → List Pick → Type 0
AllAt look [] = Unit {0}
AllAt look (f ∷ G) = (look f.index ≡ f.rest) × AllAt look G

here_if-first : (k : ℕ) (p : List Step) (F : List (List Step)) → IsZero k → through_first_if k p F ≡ p ∷ F
here_if-first zero p F h = refl
here_if-first (suc k) p F h = absurd h

here_if-later : (k : ℕ) (p : List Step) (F : List (List Step)) → IsAbove k → through_first_if k p F ≡ F
here_if-later zero p F h = absurd h
here_if-later (suc k) p F h = refl

there_if-first : (k : ℕ) (s : Step) (p : List Step) (F : List (List Step)) → IsZero k → through_later_if k s p F ≡ F
there_if-first zero s p F h = refl
there_if-first (suc k) s p F h = absurd h

there_if-later : (k : ℕ) (s : Step) (p : List Step) (F : List (List Step)) → IsAbove k → through_later_if k s p F ≡ lowered_if k s.repetition p ∷ F
there_if-later zero s p F h = absurd h
there_if-later (suc k) s p F h = refl

zero_least : (k b : ℕ) → IsZero k → k ≤ b
zero_least zero b h = omega arith
zero_least (suc k) b h = absurd h

module _ (look : ℕ → List Step) where
  at_behind_if : (k : ℕ) (r : Repetition) (p : List Step) (i : ℕ) (G : List Pick) → look i ≡ record { place = k; repetition = r } ∷ p → AllAt (λ i. behind_step (look i)) G → AllAt (λ i. behind_step (look i)) (first_picks_if k p i G)
  at_behind_if zero r p i G h g = (ap behind_step h, g)
  at_behind_if (suc k) r p i G h g = g

  at_behind_pick : (p : List Step) (i : ℕ) (G : List Pick) → look i ≡ p → AllAt (λ i. behind_step (look i)) G → AllAt (λ i. behind_step (look i)) (first_picks_and p i G)
  at_behind_pick [] i G h g = g
  at_behind_pick (s ∷ p) i G h g = at_behind_if s.place s.repetition p i G h g

  at_behind : (G : List Pick) → AllAt look G → AllAt (λ i. behind_step (look i)) (first_picks G)
  at_behind [] h = tt
  at_behind (f ∷ G) h = at_behind_pick f.rest f.index (first_picks G) h.0 (at_behind G h.1)

  first_behind_if : (k : ℕ) (r : Repetition) (p : List Step) (i : ℕ) (G : List Pick) → look i ≡ record { place = k; repetition = r } ∷ p → EachPick (λ i. IsFirst (look i)) G → EachPick (λ i. IsFirst (look i)) (first_picks_if k p i G)
  first_behind_if zero r p i G h g = (subst IsFirst (sym h) tt, g)
  first_behind_if (suc k) r p i G h g = g

  first_behind_pick : (p : List Step) (i : ℕ) (G : List Pick) → look i ≡ p → EachPick (λ i. IsFirst (look i)) G → EachPick (λ i. IsFirst (look i)) (first_picks_and p i G)
  first_behind_pick [] i G h g = g
  first_behind_pick (s ∷ p) i G h g = first_behind_if s.place s.repetition p i G h g

  first_behind : (G : List Pick) → AllAt look G → EachPick (λ i. IsFirst (look i)) (first_picks G)
  first_behind [] h = tt
  first_behind (f ∷ G) h = first_behind_pick f.rest f.index (first_picks G) h.0 (first_behind G h.1)

  at_beside_if : (k : ℕ) (s : Step) (p : List Step) (i : ℕ) (G : List Pick) → look i ≡ record { place = k; repetition = s.repetition } ∷ p → AllAt (λ i. lowered (look i)) G → AllAt (λ i. lowered (look i)) (later_picks_if k s p i G)
  at_beside_if zero s p i G h g = g
  at_beside_if (suc k) s p i G h g = (ap lowered h, g)

  at_beside_pick : (p : List Step) (i : ℕ) (G : List Pick) → look i ≡ p → AllAt (λ i. lowered (look i)) G → AllAt (λ i. lowered (look i)) (later_picks_and p i G)
  at_beside_pick [] i G h g = g
  at_beside_pick (s ∷ p) i G h g = at_beside_if s.place s p i G h g

  at_beside : (G : List Pick) → AllAt look G → AllAt (λ i. lowered (look i)) (later_picks G)
  at_beside [] h = tt
  at_beside (f ∷ G) h = at_beside_pick f.rest f.index (later_picks G) h.0 (at_beside G h.1)

  later_beside_if : (k : ℕ) (s : Step) (p : List Step) (i : ℕ) (G : List Pick) → look i ≡ record { place = k; repetition = s.repetition } ∷ p → EachPick (λ i. IsLater (look i)) G → EachPick (λ i. IsLater (look i)) (later_picks_if k s p i G)
  later_beside_if zero s p i G h g = g
  later_beside_if (suc k) s p i G h g = (subst IsLater (sym h) tt, g)

  later_beside_pick : (p : List Step) (i : ℕ) (G : List Pick) → look i ≡ p → EachPick (λ i. IsLater (look i)) G → EachPick (λ i. IsLater (look i)) (later_picks_and p i G)
  later_beside_pick [] i G h g = g
  later_beside_pick (s ∷ p) i G h g = later_beside_if s.place s p i G h g

  later_beside : (G : List Pick) → AllAt look G → EachPick (λ i. IsLater (look i)) (later_picks G)
  later_beside [] h = tt
  later_beside (f ∷ G) h = later_beside_pick f.rest f.index (later_picks G) h.0 (later_beside G h.1)

  -- ---- paths through the first field, and then paths through later ones

  here_first : (p : List Step) (F : List (List Step)) → IsFirst p → through_first (p ∷ F) ≡ behind_step p ∷ through_first F
  here_first [] F h = absurd h
  here_first (s ∷ p) F h = here_if-first s.place p (through_first F) h

  here_later : (p : List Step) (F : List (List Step)) → IsLater p → through_first (p ∷ F) ≡ through_first F
  here_later [] F h = absurd h
  here_later (s ∷ p) F h = here_if-later s.place p (through_first F) h

  there_first : (p : List Step) (F : List (List Step)) → IsFirst p → through_later (p ∷ F) ≡ through_later F
  there_first [] F h = absurd h
  there_first (s ∷ p) F h = there_if-first s.place s p (through_later F) h

  there_later : (p : List Step) (F : List (List Step)) → IsLater p → through_later (p ∷ F) ≡ lowered p ∷ through_later F
  there_later [] F h = absurd h
  there_later (s ∷ p) F h = there_if-later s.place s p (through_later F) h

  heads_first : (p : List Step) (F : List (List Step)) → IsFirst p → HeadsFrom 0 F → HeadsFrom 0 (p ∷ F)
  heads_first [] F h g = absurd h
  heads_first (s ∷ p) F h g = (omega arith, heads_weaken s.place 0 F (zero_least s.place 0 h) g)

  heads_lifted_if : (b k : ℕ) (r : Repetition) (p : List Step) (F : List (List Step)) → IsAbove k → ((c : ℕ) → b ≤ c → HeadsFrom c (through_later F) → HeadsFrom (suc c) F)
      → HeadsFrom b (lowered_if k r p ∷ through_later F) → (suc b ≤ k) × HeadsFrom k F
  heads_lifted_if b zero r p F h f g = absurd h
  heads_lifted_if b (suc k) r p F h f g = let less : suc b ≤ suc k = omega (arith, g.0) in (less, f k g.0 g.1)

  heads_lifted : (b : ℕ) (p : List Step) (F : List (List Step)) → IsLater p → ((c : ℕ) → b ≤ c → HeadsFrom c (through_later F) → HeadsFrom (suc c) F) → HeadsFrom b (lowered p ∷ through_later F) → HeadsFrom (suc b) (p ∷ F)
  heads_lifted b [] F h f g = absurd h
  heads_lifted b (s ∷ p) F h f g = heads_lifted_if b s.place s.repetition p F h f g

  here_of_later : (js : List ℕ) → Each (λ i. IsLater (look i)) js → through_first (map look js) ≡ []
  here_of_later [] h = refl
  here_of_later (j ∷ js) h = here_later (look j) (map look js) h.0 ∙ here_of_later js h.1

  there_of_later : (js : List ℕ) → Each (λ i. IsLater (look i)) js → through_later (map look js) ≡ map (λ i. lowered (look i)) js
  there_of_later [] h = refl
  there_of_later (j ∷ js) h = there_later (look j) (map look js) h.0 ∙ ap (λ (F : List (List Step)). lowered (look j) ∷ F) (there_of_later js h.1)

  here_of_both : (is js : List ℕ) → Each (λ i. IsFirst (look i)) is → Each (λ i. IsLater (look i)) js → through_first (map look (is ++ js)) ≡ map (λ i. behind_step (look i)) is
  here_of_both [] js h g = here_of_later js g
  here_of_both (i ∷ is) js h g = here_first (look i) (map look (is ++ js)) h.0 ∙ ap (λ (F : List (List Step)). behind_step (look i) ∷ F) (here_of_both is js h.1 g)

  there_of_both : (is js : List ℕ) → Each (λ i. IsFirst (look i)) is → Each (λ i. IsLater (look i)) js → through_later (map look (is ++ js)) ≡ map (λ i. lowered (look i)) js
  there_of_both [] js h g = there_of_later js g
  there_of_both (i ∷ is) js h g = there_first (look i) (map look (is ++ js)) h.0 ∙ there_of_both is js h.1 g

  heads_of_later : (b : ℕ) (js : List ℕ) → Each (λ i. IsLater (look i)) js → HeadsFrom b (through_later (map look js)) → HeadsFrom (suc b) (map look js)
  heads_of_later b [] h g = tt
  heads_of_later b (j ∷ js) h g =
      heads_lifted b (look j) (map look js) h.0 (λ (c : ℕ) (less : b ≤ c) (k : HeadsFrom c (through_later (map look js))). heads_of_later c js h.1 k)
      (subst (HeadsFrom b) (there_later (look j) (map look js) h.0) g)

  heads_from_zero : (F : List (List Step)) → HeadsFrom 1 F → HeadsFrom 0 F
  heads_from_zero [] h = tt
  heads_from_zero ([] ∷ F) h = absurd h
  heads_from_zero ((s ∷ p) ∷ F) h = (omega arith, h.1)

  heads_of_both : (is js : List ℕ) → Each (λ i. IsFirst (look i)) is → Each (λ i. IsLater (look i)) js → HeadsFrom 0 (through_later (map look js)) → HeadsFrom 0 (map look (is ++ js))
  heads_of_both [] js h g k = heads_from_zero (map look js) (heads_of_later 0 js g k)
  heads_of_both (i ∷ is) js h g k = heads_first (look i) (map look (is ++ js)) h.0 (heads_of_both is js h.1 g k)

mutual
  schema_ordered : (look : ℕ → List Step) (fs : Fields) (G : List Pick) → AllAt look G → OrderedIn (group fs) (map look (schema_order_in fs G))
  schema_ordered look no_fields G h = (tt, tt)
  schema_ordered look (field m r s fs) G h =
      let is : List ℕ = shape_schema_order s (first_picks G) in
      let js : List ℕ = schema_order_in fs (later_picks G) in
      let firsts : Each (λ i. IsFirst (look i)) is = each_in_shape (λ i. IsFirst (look i)) s (first_picks G) (first_behind look G h) in
      let laters : Each (λ i. IsLater (look i)) js = each_in_schema (λ i. IsLater (look i)) fs (later_picks G) (later_beside look G h) in
      let below : OrderedIn s (map (λ i. behind_step (look i)) is) = shape_ordered (λ i. behind_step (look i)) s (first_picks G) (at_behind look G h) in
      let later : OrderedIn (group fs) (map (λ i. lowered (look i)) js) = schema_ordered (λ i. lowered (look i)) fs (later_picks G) (at_beside look G h) in (
        heads_of_both look is js firsts laters (subst (HeadsFrom 0) (sym (there_of_later look js laters)) later.0),
        (
          subst (OrderedIn s) (sym (here_of_both look is js firsts laters)) below,
          subst (EachOrdered fs) (sym (there_of_both look is js firsts laters)) later.1,
        ),
      )

  shape_ordered : (look : ℕ → List Step) (s : Shape) (G : List Pick) → AllAt look G → OrderedIn s (map look (shape_schema_order s G))
  shape_ordered look (leaf k) G h = tt
  shape_ordered look (group fs) G h = schema_ordered look fs G h

-- a selection's paths by their places
abbrev pub path_at : List (List Step) → ℕ → List Step
path_at F i = get_or F i []

picks_at : (look : ℕ → List Step) (k : ℕ) (F : List (List Step)) → ((j : ℕ) → look (k + j) ≡ get_or F j []) → AllAt look (picks_from k F)
picks_at look k [] h = tt
picks_at look k (p ∷ F) h =
    let first : k + 0 ≡ k = omega arith in
    (ap look (sym first) ∙ h 0, picks_at look (suc k) F (λ (j : ℕ). let next : suc k + j ≡ k + suc j = omega arith in ap look next ∙ h (suc j)))

pub ordered_in_schema_order : (fs : Fields) (F : List (List Step)) → OrderedIn (group fs) (map (path_at F) (schema_order fs F))
ordered_in_schema_order fs F = schema_ordered (path_at F) fs (picks F) (picks_at (path_at F) 0 F (λ (j : ℕ). let same : 0 + j ≡ j = omega arith in ap (path_at F) same))

-- ---- which paths are selected

abbrev pub Among : List Step → List (List Step) → Type 0
Among p [] = ⊥
Among p (q ∷ F) = (q ≡ p) ⊎ Among p F

-- each path of the one is among the others
abbrev pub Within : List (List Step) → List (List Step) → Type 0
Within F G = (p : List Step) → Among p F → Among p G

keep_here : (k : ℕ) (o p : List Step) (G : List (List Step)) → Among p G → Among p (through_first_if k o G)
keep_here zero o p G h = inr h
keep_here (suc k) o p G h = h

keep_there : (k : ℕ) (s : Step) (o p : List Step) (G : List (List Step)) → Among p G → Among p (through_later_if k s o G)
keep_there zero s o p G h = h
keep_there (suc k) s o p G h = inr h

from_here : (k : ℕ) (o p : List Step) (G : List (List Step)) → Among p (through_first_if k o G) → ((k ≡ 0) × (o ≡ p)) ⊎ Among p G
from_here zero o p G (inl h) = inl (refl, h)
from_here zero o p G (inr h) = inr h
from_here (suc k) o p G h = inr h

-- a path among those of later fields is that of one of them
abbrev raised : List Step → List Step
raised [] = []
raised (s ∷ p) = record { place = suc s.place; repetition = s.repetition } ∷ p

from_there : (k : ℕ) (s : Step) (o p : List Step) (G : List (List Step)) → Among p (through_later_if k s o G) → (record { place = k; repetition = s.repetition } ∷ o ≡ raised p) ⊎ Among p G
from_there zero s o p G h = inr h
from_there (suc k) s o p G (inl h) = inl (ap raised h)
from_there (suc k) s o p G (inr h) = inr h

first_step : (s t : Step) (o p : List Step) → s ∷ o ≡ t ∷ p → s ≡ t
first_step s t o p e = cc

later_steps : (s t : Step) (o p : List Step) → s ∷ o ≡ t ∷ p → o ≡ p
later_steps s t o p e = cc

among_first : (r : Repetition) (p : List Step) (F : List (List Step)) → Among (record { place = zero; repetition = r } ∷ p) F → Among p (through_first F)
among_first r p [] h = h
among_first r p ([] ∷ F) (inl h) = absurd (cc)
among_first r p ([] ∷ F) (inr h) = among_first r p F h
among_first r p ((s ∷ o) ∷ F) (inl h) =
    let e : s ≡ record { place = zero; repetition = r } = first_step s (record { place = zero; repetition = r }) o p h in
    subst (λ (t : Step). Among p (through_first_if t.place o (through_first F))) (sym e) (inl (later_steps s (record { place = zero; repetition = r }) o p h))
among_first r p ((s ∷ o) ∷ F) (inr h) = keep_here s.place o p (through_first F) (among_first r p F h)

first_of_either : (s : Step) (o p : List Step) (F G : List (List Step)) → ((s.place ≡ 0) × (o ≡ p)) ⊎ Among p G → (Among p G → (r : Repetition) × Among (record { place = zero; repetition = r } ∷ p) F)
    → (r : Repetition) × Among (record { place = zero; repetition = r } ∷ p) ((s ∷ o) ∷ F)
first_of_either s o p F G (inl h) f = (s.repetition, inl (ap₂ (λ (k : ℕ) (q : List Step). record { place = k; repetition = s.repetition } ∷ q) h.0 h.1))
first_of_either s o p F G (inr h) f = let k : (r : Repetition) × Among (record { place = zero; repetition = r } ∷ p) F = f h in (k.0, inr k.1)

first_among : (p : List Step) (F : List (List Step)) → Among p (through_first F) → (r : Repetition) × Among (record { place = zero; repetition = r } ∷ p) F
first_among p [] h = absurd h
first_among p ([] ∷ F) h = let k : (r : Repetition) × Among (record { place = zero; repetition = r } ∷ p) F = first_among p F h in (k.0, inr k.1)
first_among p ((s ∷ o) ∷ F) h = first_of_either s o p F (through_first F) (from_here s.place o p (through_first F) h) (first_among p F)

among_later : (k : ℕ) (r : Repetition) (p : List Step) (F : List (List Step)) → Among (record { place = suc k; repetition = r } ∷ p) F → Among (record { place = k; repetition = r } ∷ p) (through_later F)
among_later k r p [] h = h
among_later k r p ([] ∷ F) (inl h) = absurd (cc)
among_later k r p ([] ∷ F) (inr h) = among_later k r p F h
among_later k r p ((s ∷ o) ∷ F) (inl h) =
    let e : s ≡ record { place = suc k; repetition = r } = first_step s (record { place = suc k; repetition = r }) o p h in
    subst (λ (t : Step). Among (record { place = k; repetition = r } ∷ p) (through_later_if t.place t o (through_later F))) (sym e)
    (inl (ap (λ (q : List Step). record { place = k; repetition = r } ∷ q) (later_steps s (record { place = suc k; repetition = r }) o p h)))
among_later k r p ((s ∷ o) ∷ F) (inr h) = keep_there s.place s o (record { place = k; repetition = r } ∷ p) (through_later F) (among_later k r p F h)

either_later : (s : Step) (o p : List Step) (F : List (List Step)) → (s ∷ o ≡ raised p) ⊎ Among p (through_later F) → (Among p (through_later F) → Among (raised p) F) → Among (raised p) ((s ∷ o) ∷ F)
either_later s o p F (inl h) f = inl h
either_later s o p F (inr h) f = inr (f h)

later_among : (p : List Step) (F : List (List Step)) → Among p (through_later F) → Among (raised p) F
later_among p [] h = absurd h
later_among p ([] ∷ F) h = inr (later_among p F h)
later_among p ((s ∷ o) ∷ F) h = either_later s o p F (from_there s.place s o p (through_later F) h) (later_among p F)

within_here : (F G : List (List Step)) → Within F G → Within (through_first F) (through_first G)
within_here F G h p a = let k : (r : Repetition) × Among (record { place = zero; repetition = r } ∷ p) F = first_among p F a in among_first k.0 p G (h _ k.1)

none_raised : (s : Step) (o : List Step) (G : List (List Step)) → (s ∷ o ≡ []) ⊎ Among [] G → (Among [] G → ⊥) → ⊥
none_raised s o G (inl h) f = cc
none_raised s o G (inr h) f = f h

none_there : (F : List (List Step)) → Among [] (through_later F) → ⊥
none_there [] h = h
none_there ([] ∷ F) h = none_there F h
none_there ((s ∷ o) ∷ F) h = none_raised s o (through_later F) (from_there s.place s o [] (through_later F) h) (none_there F)

within_there : (F G : List (List Step)) → Within F G → Within (through_later F) (through_later G)
within_there F G h [] a = absurd (none_there F a)
within_there F G h (s ∷ p) a = among_later s.place s.repetition p G (h _ (later_among (s ∷ p) F a))

none_within : (p : List Step) (F : List (List Step)) → Within (p ∷ F) [] → ⊥
none_within p F h = h p (inl refl)

slot_same : (F G : List (List Step)) (xs ys : Instances) (n m : Node) → Within F G → Within G F → xs ≡ ys → n ≡ m → slot_for F xs n ≡ slot_for G ys m
slot_same [] [] xs ys n m f g e i = ap gap i
slot_same [] (q ∷ G) xs ys n m f g e i = absurd (none_within q G g)
slot_same (p ∷ F) [] xs ys n m f g e i = absurd (none_within p F f)
slot_same (p ∷ F) (q ∷ G) xs ys n m f g e i = ap₂ slot e i

-- the projection depends on which paths there are, and not on their order
mutual
  pub project_same : (F G : List (List Step)) (n : Node) → Within F G → Within G F → project F n ≡ project G n
  project_same F G no_slots f g = refl
  project_same F G (slot xs n) f g =
      slot_same (through_first F) (through_first G) (project_all (through_first F) xs) (project_all (through_first G) xs) (project (through_later F) n) (project (through_later G) n) (within_here F G f) (within_here G F g)
      (all_same (through_first F) (through_first G) xs (within_here F G f) (within_here G F g)) (project_same (through_later F) (through_later G) n (within_there F G f) (within_there G F g))
  project_same F G (gap n) f g = ap gap (project_same (through_later F) (through_later G) n (within_there F G f) (within_there G F g))

  all_same : (F G : List (List Step)) (xs : Instances) → Within F G → Within G F → project_all F xs ≡ project_all G xs
  all_same F G no_instances f g = refl
  all_same F G (instance x xs) f g = ap₂ instance (one_same F G x f g) (all_same F G xs f g)

  one_same : (F G : List (List Step)) (x : Instance) → Within F G → Within G F → project_one F x ≡ project_one G x
  one_same F G (atom v) f g = refl
  one_same F G (inner n) f g = ap inner (project_same F G n f g)

pub projects_same : (F G : List (List Step)) (R : List Node) → Within F G → Within G F → map (project F) R ≡ map (project G) R
projects_same F G [] f g = refl
projects_same F G (n ∷ R) f g = ap₂ (λ (x : Node) (xs : List Node). x ∷ xs) (project_same F G n f g) (projects_same F G R f g)

-- ---- the paths in schema order are those that are selected

one_of : (i : ℕ) (b : Bool) (P Q : Type 0) → (b ≡ true → P) → (b ≡ false → Q) → P ⊎ Q
one_of i true P Q f g = inl (f refl)
one_of i false P Q f g = inr (g refl)

same_number : (j i : ℕ) → (j == i) ≡ true → j ≡ i
same_number j i e = grind (arith, nat_tests)

-- a place that is among some is that of a path there
found_at : (F : List (List Step)) (i n : ℕ) (p : List Step) (js : List ℕ) → get_or F i [] ≡ p → times i js ≡ suc n → Among p (map (path_at F) js)
found_at F i n p [] e h = absurd (omega arith)
found_at F i n p (j ∷ js) e h =
    one_of i (j == i) (path_at F j ≡ p) (Among p (map (path_at F) js))
    (λ (t : (j == i) ≡ true). ap (path_at F) (same_number j i t) ∙ e)
    (λ (t : (j == i) ≡ false). found_at F i n p js e (omega (arith, rw t at h)))

slice_get_get : (F : List (List Step)) (i : ℕ) → i < length F → slice_get F i ≡ Some (get_or F i [])
slice_get_get [] i h = absurd (omega arith)
slice_get_get (p ∷ F) zero h = refl
slice_get_get (p ∷ F) (suc i) h = slice_get_get F i (omega arith)

leaf_at : (f : List Step → Bool) (F : List (List Step)) (i : ℕ) → i < length F → list_all f F ≡ true → f (get_or F i []) ≡ true
leaf_at f [] i h e = absurd (omega arith)
leaf_at f (p ∷ F) zero h e = (and_parts (f p) (list_all f F) e).0
leaf_at f (p ∷ F) (suc i) h e = leaf_at f F i (omega arith) (and_parts (f p) (list_all f F) e).1

place_of : (p : List Step) (F : List (List Step)) → Among p F → (i : ℕ) × (i < length F) × (get_or F i [] ≡ p)
place_of p [] h = absurd h
place_of p (q ∷ F) (inl h) = (0, omega arith, h)
place_of p (q ∷ F) (inr h) = let k : (i : ℕ) × (i < length F) × (get_or F i [] ≡ p) = place_of p F h in (suc k.0, omega (arith, k.1), k.2)

among_at : (F : List (List Step)) (i : ℕ) → i < length F → Among (get_or F i []) F
among_at [] i h = absurd (omega arith)
among_at (p ∷ F) zero h = inl refl
among_at (p ∷ F) (suc i) h = inr (among_at F i (omega arith))

picks_below : (k n : ℕ) (F : List (List Step)) → k + length F ≤ n → EachPick (λ i. i < n) (picks_from k F)
picks_below k n [] h = tt
picks_below k n (p ∷ F) h = (omega arith, picks_below (suc k) n F (omega arith))

order_below : (fs : Fields) (F : List (List Step)) → Each (λ i. i < length F) (schema_order fs F)
order_below fs F = each_in_schema (λ i. i < length F) fs (picks F) (picks_below 0 (length F) F (omega arith))

among_each : (F : List (List Step)) (js : List ℕ) → Each (λ i. i < length F) js → Within (map (path_at F) js) F
among_each F [] h p a = absurd a
among_each F (j ∷ js) h p (inl e) = subst (λ (q : List Step). Among q F) e (among_at F j h.0)
among_each F (j ∷ js) h p (inr a) = among_each F js h.1 p a

pub order_within : (fs : Fields) (F : List (List Step)) → Within (map (path_at F) (schema_order fs F)) F
order_within fs F = among_each F (schema_order fs F) (order_below fs F)

pub within_order : OrdersHaveEachOnce → (fs : Fields) (F : List (List Step)) → list_all (is_leaf_path fs) F ≡ true → Within F (map (path_at F) (schema_order fs F))
within_order once fs F h p a =
    let k : (i : ℕ) × (i < length F) × (get_or F i [] ≡ p) = place_of p F a in
    found_at F k.0 0 p (schema_order fs F) k.2 (once fs F k.0 (get_or F k.0 []) (slice_get_get F k.0 k.1) (leaf_at (is_leaf_path fs) F k.0 k.1 h)).0

-- ---- the columns of the paths in schema order

column_at : {A B : Type 0} (g : A → List B) (F : List A) (i : ℕ) (d : A) → i < length F → get_or (map g F) i [] ≡ g (get_or F i d)
column_at g [] i d h = absurd (omega arith)
column_at g (p ∷ F) zero d h = refl
column_at g (p ∷ F) (suc i) d h = column_at g F i d (omega arith)

pub columns_in_order : {B : Type 0} (g : List Step → List B) (F : List (List Step)) (js : List ℕ) → Each (λ i. i < length F) js
    → map g (map (path_at F) js) ≡ map (λ i. get_or (map g F) i []) js
columns_in_order g F [] h = refl
columns_in_order g F (j ∷ js) h = ap₂ (λ x xs. x ∷ xs) (sym (column_at g F j [] h.0)) (columns_in_order g F js h.1)

pub columns_of_order : {B : Type 0} (g : List Step → List B) (fs : Fields) (F : List (List Step)) (C : List (List B)) → map g F ≡ C
    → map g (map (path_at F) (schema_order fs F)) ≡ map (λ i. get_or C i []) (schema_order fs F)
columns_of_order g fs F C e = columns_in_order g F (schema_order fs F) (order_below fs F) ∙ ap (λ (D : List _). map (λ i. get_or D i []) (schema_order fs F)) e

-- ---- and back

maps_at : {B : Type 0} (g : List Step → List B) (F : List (List Step)) (js : List ℕ) → map g (map (path_at F) js) ≡ map (λ i. g (path_at F i)) js
maps_at g F [] = refl
maps_at g F (j ∷ js) = ap (λ (xs : List _). g (path_at F j) ∷ xs) (maps_at g F js)

-- what is the same along places is the same at each of them
same_at_each : {B : Type 0} (g h : ℕ → List B) (js : List ℕ) (i n : ℕ) → map g js ≡ map h js → times i js ≡ suc n → g i ≡ h i
same_at_each g h [] i n e t = absurd (omega (arith, t))
same_at_each g h (j ∷ js) i n e t = by_place (j == i) refl (λ (b : (j == i) ≡ false). same_at_each g h js i n others (again b))
  where
    first : g j ≡ h j
    first = cc

    others : map g js ≡ map h js
    others = cc

    again : (j == i) ≡ false → times i js ≡ suc n
    again b = omega (arith, rw b at t)

    by_place : (b : Bool) → (j == i) ≡ b → ((j == i) ≡ false → g i ≡ h i) → g i ≡ h i
    by_place true b later = let same : j ≡ i = same_number j i b in ap g (sym same) ∙ (first ∙ ap h same)
    by_place false b later = later b

same_everywhere : {B : Type 0} (g : List Step → List B) (F : List (List Step)) (C : List (List B)) → length C ≡ length F → ((i : ℕ) → i < length F → g (get_or F i []) ≡ get_or C i []) → map g F ≡ C
same_everywhere g [] [] e h = refl
same_everywhere g [] (c ∷ C) e h = absurd (omega (arith, e))
same_everywhere g (p ∷ F) [] e h = absurd (omega (arith, e))
same_everywhere g (p ∷ F) (c ∷ C) e h =
    ap₂ (λ x xs. x ∷ xs) (h 0 (omega arith)) (same_everywhere g F C (omega (arith, e)) (λ (i : ℕ) (l : i < length F). h (suc i) (omega (arith, l))))

-- the columns of the paths in schema order are those of all paths
pub columns_from_order : {B : Type 0} (g : List Step → List B) (fs : Fields) (F : List (List Step)) (C : List (List B)) → list_all (is_leaf_path fs) F ≡ true → OrdersHaveEachOnce → length C ≡ length F
    → map g (map (path_at F) (schema_order fs F)) ≡ map (λ i. get_or C i []) (schema_order fs F) → map g F ≡ C
columns_from_order g fs F C leaves once e h =
    same_everywhere g F C e (λ (i : ℕ) (l : i < length F).
    same_at_each (λ i. g (path_at F i)) (λ i. get_or C i []) (schema_order fs F) i 0 (sym (maps_at g F (schema_order fs F)) ∙ h)
    (once fs F i (get_or F i []) (slice_get_get F i l) (leaf_at (is_leaf_path fs) F i l leaves)).0)
