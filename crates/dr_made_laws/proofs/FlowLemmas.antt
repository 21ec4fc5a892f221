-- What is made over tours: objects whose numbers are those of the tour's branches, and for each item what its reading fires.
use Rattle.std.proofs.Common.{◌≡◌, ◌⊎◌, inl, inr, ℕ, zero, suc, ◌+◌, ◌<◌, ◌≤◌, List, [], ◌∷◌, ◌++◌, Bool, true, false, Option, None, Some, refl, sym, ap, ap₂, ◌∙◌, arith}
use Rattle.std.specs.Prelude.{◌==◌, if◌then◌else◌}
use Rattle.std.specs.List.{slice_get}
use Rattle.std.proofs.lemmas.Bool.{ne_eqb}
use Rattle.dr_meaning.specs.Record.{Value}
use Rattle.dr_meaning.specs.Query.{Levels, leads_to_items}
use Rattle.dr_moves.specs.Context.{Context, with_value}
use Rattle.dr_moves.specs.Tour.{Tour, over, saw, inside, after}
use Rattle.dr_moves.specs.Condition.{Watch, some_true, rest_below, is_dropped}
use Rattle.dr_moves.specs.Cutting.{flow}
use Rattle.dr_kept_laws.specs.GroupFlow.{fired_if, left_alone}
use Rattle.dr_kept_laws.specs.Leavings.{Leaving, tour_leavings}
use Rattle.dr_kept_laws.specs.Tours.{joined}
use Rattle.dr_kept_laws.proofs.ChainHeads.{HeadApart, apart_below}
use Rattle.dr_made_laws.specs.ObjectFlow.{Made, built, ReadItem, items_of, values_for, objects_for, taken_from, seen_items, Level, object_made, level_from, is_own, passed_on, left_level, left_items}
use Rattle.dr_made_laws.proofs.MadeLemmas.{values_append, objects_append, passed_objects, passed_values, seen_objects, IsWithin, taken_at}

-- ---- the numbers of all branches of a tour, from one on, below another; those within a branch are greater

abbrev pub AllWithin : ℕ → ℕ → Tour → Type 0
AllWithin low high over = Unit {0}
AllWithin low high (saw i t T) = AllWithin low high T
AllWithin low high (inside k B T) = (low ≤ k) × (k < high) × AllWithin (suc k) high B × AllWithin low high T

pub joined_within : (low high : ℕ) (T U : Tour) → AllWithin low high T → AllWithin low high U → AllWithin low high (joined T U)
joined_within low high over U h g = g
joined_within low high (saw i t T) U h g = joined_within low high T U h g
joined_within low high (inside k B T) U h g = (h.0, h.1, h.2, joined_within low high T U h.3 g)

pub wider_within : (low high lower higher : ℕ) → lower ≤ low → high ≤ higher → (T : Tour) → AllWithin low high T → AllWithin lower higher T
wider_within low high lower higher a b over h = tt
wider_within low high lower higher a b (saw i t T) h = wider_within low high lower higher a b T h
wider_within low high lower higher a b (inside k B T) h =
    (omega (arith, a, h.0), omega (arith, b, h.1), wider_within (suc k) high (suc k) higher (omega arith) b B h.2, wider_within low high lower higher a b T h.3)

-- without branches
abbrev pub IsBare : Tour → Type 0
IsBare over = Unit {0}
IsBare (saw i t T) = IsBare T
IsBare (inside k B T) = ⊥

pub bare_within : (low high : ℕ) (T : Tour) → IsBare T → AllWithin low high T
bare_within low high over h = tt
bare_within low high (saw i t T) h = bare_within low high T h
bare_within low high (inside k B T) h = absurd h

pub bare_tour : (w : Watch) (r : Option (List ℕ)) (c : Context) (T : Tour) → tour_leavings w r c T ≡ [] → IsBare T
bare_tour w r c over h = tt
bare_tour w r c (saw i t T) h = bare_tour w r (with_value i t.value c) T h
bare_tour w r c (inside k B T) h = not_empty (tour_leavings w (rest_below k r) c B) _ _ h
  where
    not_empty : (xs : List Leaving) (y : Leaving) (ys : List Leaving) → xs ++ y ∷ ys ≡ [] → ⊥
    not_empty [] y ys e = cc
    not_empty (x ∷ xs) y ys e = cc

-- a chain that goes on by none of these numbers
abbrev pub IsApart : ℕ → ℕ → Option (List ℕ) → Type 0
IsApart low high None = Unit {0}
IsApart low high (Some N) = HeadApart low high N

either_nothing : {A : Type 0} (b : Bool) (xs : List A) → xs ≡ [] → (if b then [] else xs) ≡ []
either_nothing true xs h = refl
either_nothing false xs h = h

none_both : {A : Type 0} (xs ys : List A) → xs ≡ [] → ys ≡ [] → xs ++ ys ≡ []
none_both xs ys h g = ap₂ (λ a b. a ++ b) h g

module _ {A : Type 0} (seen : ℕ → Context → List A) (left : ℕ → Context → List A → List A) (w : Watch) where
  -- there all is kept
  pub apart_flow : (low high : ℕ) (r : Option (List ℕ)) → IsApart low high r → (T : Tour) → AllWithin low high T → (c : Context) → flow seen left w r c T ≡ flow seen left w None c T
  apart_flow low high None h T v c = refl
  apart_flow low high (Some N) h over v c = refl
  apart_flow low high (Some N) h (saw j t T) v c = ap (λ (x : List A). seen j (with_value j t.value c) ++ x) (apart_flow low high (Some N) h T v (with_value j t.value c))
  apart_flow low high (Some N) h (inside k B T) v c =
      ap₂ (λ (x : Option (List ℕ)) (y : List A). (if is_dropped x (some_true w c B) then [] else left k (after c B) (flow seen left w x c B)) ++ y) (apart_below low high k v.0 v.1 N h) (apart_flow low high (Some N) h T v.3 (after c B))

-- ---- over the moves of a record query

module _ (rs : List ReadItem) (levels : Levels) (w : Watch) where
  -- what is made
  abbrev pub makes : Option (List ℕ) → Context → Tour → List Made
  makes r c T = flow (seen_items rs) (left_items rs levels) w r c T

  -- an object with another number is none of an instance
  left_objects : (i k : ℕ) (c : Context) (inner : List Made) → (k == i) ≡ false → objects_for i inner ≡ [] → objects_for i (left_items rs levels k c inner) ≡ []
  left_objects i zero c inner h e = ap (λ (b : Bool). if b then object_made rs 1 (record { path = []; below = levels }) c inner ∷ [] else []) h
  left_objects i (suc k) c inner h e = by_level (level_from 1 levels (suc k))
    where
      by_lead : (b : Bool) (l : Level) → objects_for i (if b then built (suc k) (object_made rs (suc (suc k)) l c inner) ∷ passed_on (items_of rs) l.path inner else inner) ≡ []
      by_lead true l = ap (λ (b : Bool). if b then object_made rs (suc (suc k)) l c inner ∷ objects_for i (passed_on (items_of rs) l.path inner) else objects_for i (passed_on (items_of rs) l.path inner)) h ∙ passed_objects (items_of rs) l.path i inner
      by_lead false l = e

      by_level : (l : Option Level) → objects_for i (left_level rs (suc k) c inner l) ≡ []
      by_level None = e
      by_level (Some l) = by_lead (leads_to_items (items_of rs) l.path) l

  -- the numbers of objects are those of branches
  pub other_objects : (i low high : ℕ) → (i < low) ⊎ (high ≤ i) → (T : Tour) → AllWithin low high T → (r : Option (List ℕ)) (c : Context) → objects_for i (makes r c T) ≡ []
  other_objects i low high h over v r c = refl
  other_objects i low high h (saw j t T) v r c =
      objects_append i (taken_from 0 rs j (with_value j t.value c)) (makes r (with_value j t.value c) T)
      ∙ none_both (objects_for i (taken_from 0 rs j (with_value j t.value c))) (objects_for i (makes r (with_value j t.value c) T)) (seen_objects i 0 rs j (with_value j t.value c)) (other_objects i low high h T v r (with_value j t.value c))
  other_objects i low high h (inside k B T) v r c =
      objects_append i (if is_dropped (rest_below k r) (some_true w c B) then [] else left_items rs levels k (after c B) (makes (rest_below k r) c B)) (makes r (after c B) T)
      ∙ none_both (objects_for i (if is_dropped (rest_below k r) (some_true w c B) then [] else left_items rs levels k (after c B) (makes (rest_below k r) c B))) (objects_for i (makes r (after c B) T))
      (by_drop (is_dropped (rest_below k r) (some_true w c B)) (left_objects i k (after c B) (makes (rest_below k r) c B) (ne_eqb k i (apart h)) (other_objects i (suc k) high (deeper h) B v.2 (rest_below k r) c)))
      (other_objects i low high h T v.3 r (after c B))
    where
      apart : (i < low) ⊎ (high ≤ i) → k ≡ i → ⊥
      apart (inl x) e = omega (arith, x, v.0, e)
      apart (inr x) e = omega (arith, x, v.1, e)

      deeper : (i < low) ⊎ (high ≤ i) → (i < suc k) ⊎ (high ≤ i)
      deeper (inl x) = inl (omega (arith, x, v.0))
      deeper (inr x) = inr x

      by_drop : (b : Bool) → objects_for i (left_items rs levels k (after c B) (makes (rest_below k r) c B)) ≡ [] → objects_for i (if b then [] else left_items rs levels k (after c B) (makes (rest_below k r) c B)) ≡ []
      by_drop true e = refl
      by_drop false e = e

  -- without branches there is none
  pub bare_objects : (i : ℕ) (T : Tour) → IsBare T → (r : Option (List ℕ)) (c : Context) → objects_for i (makes r c T) ≡ []
  bare_objects i T h r c = other_objects i i i (inr (omega arith)) T (bare_within i i T h) r c

  -- ---- the values that are taken for an item

  -- the levels with these numbers aren't the item's
  abbrev pub NotOwn : ℕ → ℕ → ℕ → Type 0
  NotOwn j low high = (k : ℕ) → low ≤ k → k < high → (l : Level) → level_from 1 levels k ≡ Some l → is_own (items_of rs) l.path j ≡ false

  left_values : (j k : ℕ) → ((l : Level) → level_from 1 levels (suc k) ≡ Some l → is_own (items_of rs) l.path j ≡ false) → (c : Context) (inner : List Made) → values_for j (left_items rs levels (suc k) c inner) ≡ values_for j inner
  left_values j k h c inner = by_level (level_from 1 levels (suc k)) refl
    where
      by_lead : (b : Bool) (l : Level) → is_own (items_of rs) l.path j ≡ false → values_for j (if b then built (suc k) (object_made rs (suc (suc k)) l c inner) ∷ passed_on (items_of rs) l.path inner else inner) ≡ values_for j inner
      by_lead true l e = passed_values (items_of rs) l.path j e inner
      by_lead false l e = refl

      by_level : (l : Option Level) → level_from 1 levels (suc k) ≡ l → values_for j (left_level rs (suc k) c inner l) ≡ values_for j inner
      by_level None e = refl
      by_level (Some l) e = by_lead (leads_to_items (items_of rs) l.path) l (h l e)

  -- are what its reading fires
  pub fired_values : (j : ℕ) (r : ReadItem) → slice_get rs j ≡ Some r → IsWithin r.item.term → (low high : ℕ) → 0 < low → NotOwn j low high → (T : Tour) → AllWithin low high T → (q : Option (List ℕ)) (c : Context)
      → values_for j (makes q c T) ≡ flow (fired_if r.reading.leaf r.reading.fires) left_alone w q c T
  fired_values j r e u low high z h over v q c = refl
  fired_values j r e u low high z h (saw i t T) v q c =
      let d : Context = with_value i t.value c in
      let n : 0 + j ≡ j = omega arith in
      values_append j (taken_from 0 rs i d) (makes q d T)
      ∙ ap₂ (λ (x y : List (Option Value)). x ++ y) (ap (λ (k : ℕ). values_for k (taken_from 0 rs i d)) (sym n) ∙ taken_at 0 j rs r e u i d) (fired_values j r e u low high z h T v q d)
  fired_values j r e u low high z h (inside zero B T) v q c = absurd (omega (arith, z, v.0))
  fired_values j r e u low high z h (inside (suc k) B T) v q c =
      values_append j (if is_dropped (rest_below (suc k) q) (some_true w c B) then [] else left_items rs levels (suc k) (after c B) (makes (rest_below (suc k) q) c B)) (makes q (after c B) T)
      ∙ ap₂ (λ (x y : List (Option Value)). x ++ y)
      (by_drop (is_dropped (rest_below (suc k) q) (some_true w c B))
      (left_values j k (h (suc k) v.0 v.1) (after c B) (makes (rest_below (suc k) q) c B)
      ∙ fired_values j r e u (suc (suc k)) high (omega arith) (λ i a b. h i (omega (arith, a, v.0)) b) B v.2 (rest_below (suc k) q) c))
      (fired_values j r e u low high z h T v.3 q (after c B))
    where
      by_drop : (b : Bool) → values_for j (left_items rs levels (suc k) (after c B) (makes (rest_below (suc k) q) c B)) ≡ flow (fired_if r.reading.leaf r.reading.fires) left_alone w (rest_below (suc k) q) c B
          → values_for j (if b then [] else left_items rs levels (suc k) (after c B) (makes (rest_below (suc k) q) c B)) ≡ (if b then [] else flow (fired_if r.reading.leaf r.reading.fires) left_alone w (rest_below (suc k) q) c B)
      by_drop true e = refl
      by_drop false e = e
