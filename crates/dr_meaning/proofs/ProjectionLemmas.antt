-- A projection to leaves keeps the rows and the values along the paths that lead on to these leaves.
use Rattle.std.proofs.Common.{◌≡◌, ℕ, zero, suc, List, [], ◌∷◌, ◌++◌, map, Bool, true, false, ◌&&◌, ◌||◌, Option, refl, sym, ap, ap₂, ◌∙◌, true≢false}
use Rattle.std.specs.Prelude.{◌==◌}
use Rattle.std.specs.List.{list_any}
use Rattle.std.proofs.lemmas.List.{map-append}
use Rattle.std.proofs.lemmas.Simd.{map-map}
use Rattle.std.proofs.Math.Dec.{eqb-suc-suc, eqb-zero-suc, eqb-suc-zero}
use Rattle.dr_meaning.specs.Schema.{Repetition}
use Rattle.dr_meaning.specs.Path.{Step, begins_with}
use Rattle.dr_meaning.specs.Record.{Value, Node, no_slots, slot, gap, Instances, no_instances, instance, Instance, atom, inner, instances_at, put_at, through_first, through_first_if, through_later, through_later_if, slot_for, project, project_all, project_one}
use Rattle.dr_meaning.specs.Rows.{single, instance_rows, each_instance_rows, field_rows, rows, first_value, value_in, first_present, is_present_in}
use Rattle.dr_meaning.specs.ProjectionLaws.{leads, RowsOfProjection, ValuesOfProjection, PresentInProjection}

-- ---- the paths below a place

abbrev pub step : ℕ → Repetition → Step
step i r = record { place = i; repetition = r }

-- the paths that begin with the field at this place, without that step
abbrev pub below : ℕ → List (List Step) → List (List Step)
below zero F = through_first F
below (suc i) F = below i (through_later F)

-- one member of F more, at the place j
leads-here_if : (q f : List Step) (G : List (List Step)) (j : ℕ) → ((0 == j) && begins_with q f) || list_any (begins_with q) G ≡ true → list_any (begins_with q) (through_first_if j f G) ≡ true
leads-here_if q f G zero h = h
leads-here_if q f G (suc j) h = rw eqb-zero-suc at h

leads-there_if : (i : ℕ) (r t : Repetition) (q f : List Step) (G : List (List Step)) (j : ℕ) → ((suc i == j) && begins_with q f) || list_any (begins_with (step i r ∷ q)) G ≡ true → list_any (begins_with (step i r ∷ q)) (through_later_if j (step j t) f G) ≡ true
leads-there_if i r t q f G zero h = rw eqb-suc-zero at h
leads-there_if i r t q f G (suc j) h = rw eqb-suc-suc at h

or_later : (a b c : Bool) → (b ≡ true → c ≡ true) → (a || b) ≡ true → (a || c) ≡ true
or_later true b c f h = refl
or_later false b c f h = f h

leads-here : (r : Repetition) (q : List Step) (F : List (List Step)) → list_any (begins_with (step 0 r ∷ q)) F ≡ true → list_any (begins_with q) (through_first F) ≡ true
leads-here r q [] h = h
leads-here r q ([] ∷ F) h = leads-here r q F h
leads-here r q ((s ∷ f) ∷ F) h = leads-here_if q f (through_first F) s.place (or_later _ _ _ (leads-here r q F) h)

leads-there : (i : ℕ) (r : Repetition) (q : List Step) (F : List (List Step)) → list_any (begins_with (step (suc i) r ∷ q)) F ≡ true → list_any (begins_with (step i r ∷ q)) (through_later F) ≡ true
leads-there i r q [] h = h
leads-there i r q ([] ∷ F) h = leads-there i r q F h
leads-there i r q ((s ∷ f) ∷ F) h = leads-there_if i r s.repetition q f (through_later F) s.place (or_later _ _ _ (leads-there i r q F) h)

pub leads-below : (i : ℕ) (r : Repetition) (q : List Step) (F : List (List Step)) → list_any (begins_with (step i r ∷ q)) F ≡ true → list_any (begins_with q) (below i F) ≡ true
leads-below zero r q F h = leads-here r q F h
leads-below (suc i) r q F h = leads-below i r q (through_later F) (leads-there i r q F h)

pub leads_from_front : (q : List Step) (G : List (List Step)) → list_any (begins_with q) G ≡ true → leads q G ≡ true
leads_from_front [] G h = refl
leads_from_front (s ∷ q) G h = h

-- ---- looking into a projection

-- the slot stays where a path leads on
slot_for-kept : (q : List Step) (G : List (List Step)) (xs : Instances) (n : Node) → list_any (begins_with q) G ≡ true → slot_for G xs n ≡ slot xs n
slot_for-kept q [] xs n h = absurd (true≢false (sym h))
slot_for-kept q (f ∷ G) xs n h = refl

later-slot_for : (i : ℕ) (G : List (List Step)) (xs : Instances) (n : Node) → instances_at (suc i) (slot_for G xs n) ≡ instances_at i n
later-slot_for i [] xs n = refl
later-slot_for i (f ∷ G) xs n = refl

pub at-project : (i : ℕ) (q : List Step) (F : List (List Step)) (n : Node) → list_any (begins_with q) (below i F) ≡ true → instances_at i (project F n) ≡ project_all (below i F) (instances_at i n)
at-project i q F no_slots h = refl
at-project zero q F (slot xs n) h = ap (instances_at zero) (slot_for-kept q (through_first F) _ _ h)
at-project (suc i) q F (slot xs n) h = later-slot_for i (through_first F) _ _ ∙ at-project i q (through_later F) n h
at-project zero q F (gap n) h = refl
at-project (suc i) q F (gap n) h = at-project i q (through_later F) n h

put-slot_for : (G : List (List Step)) (xs ys : Instances) (n : Node) → put_at zero ys (slot_for G xs n) ≡ slot_for G ys n
put-slot_for [] xs ys n = refl
put-slot_for (f ∷ G) xs ys n = refl

put_later-slot_for : (i : ℕ) (G : List (List Step)) (xs ys : Instances) (n : Node) → put_at (suc i) ys (slot_for G xs n) ≡ slot_for G xs (put_at i ys n)
put_later-slot_for i [] xs ys n = refl
put_later-slot_for i (f ∷ G) xs ys n = refl

pub put-project : (i : ℕ) (F : List (List Step)) (xs : Instances) (n : Node) → put_at i (project_all (below i F) xs) (project F n) ≡ project F (put_at i xs n)
put-project i F xs no_slots = refl
put-project zero F xs (slot ys n) = put-slot_for (through_first F) _ _ _
put-project (suc i) F xs (slot ys n) = put_later-slot_for i (through_first F) _ _ _ ∙ ap (slot_for (through_first F) (project_all (through_first F) ys)) (put-project i (through_later F) xs n)
put-project zero F xs (gap n) = refl
put-project (suc i) F xs (gap n) = ap gap (put-project i (through_later F) xs n)

-- ---- values and presence

first_value-project : (f : Instance → Option Value) (G : List (List Step)) (xs : Instances) → ((x : Instance) → f (project_one G x) ≡ f x) → first_value f (project_all G xs) ≡ first_value f xs
first_value-project f G no_instances h = refl
first_value-project f G (instance x xs) h = h x

pub value-project : (F : List (List Step)) (p : List Step) (x : Instance) → leads p F ≡ true → value_in p (project_one F x) ≡ value_in p x
value-project F [] (atom v) h = refl
value-project F [] (inner n) h = refl
value-project F (s ∷ p) (atom v) h = refl
value-project F (s ∷ p) (inner n) h =
    let k : list_any (begins_with p) (below s.place F) ≡ true = leads-below s.place s.repetition p F h in
    ap (first_value (value_in p)) (at-project s.place p F n k)
    ∙ first_value-project (value_in p) (below s.place F) (instances_at s.place n) (λ (x : Instance). value-project (below s.place F) p x (leads_from_front p (below s.place F) k))

first_present-project : (f : Instance → Bool) (G : List (List Step)) (xs : Instances) → ((x : Instance) → f (project_one G x) ≡ f x) → first_present f (project_all G xs) ≡ first_present f xs
first_present-project f G no_instances h = refl
first_present-project f G (instance x xs) h = h x

pub present-project : (F : List (List Step)) (p : List Step) (x : Instance) → leads p F ≡ true → is_present_in p (project_one F x) ≡ is_present_in p x
present-project F [] x h = refl
present-project F (s ∷ p) (atom v) h = refl
present-project F (s ∷ p) (inner n) h =
    let k : list_any (begins_with p) (below s.place F) ≡ true = leads-below s.place s.repetition p F h in
    ap (first_present (is_present_in p)) (at-project s.place p F n k)
    ∙ first_present-project (is_present_in p) (below s.place F) (instances_at s.place n) (λ (x : Instance). present-project (below s.place F) p x (leads_from_front p (below s.place F) k))

pub values_of_projection : ValuesOfProjection
values_of_projection F p n h = value-project F p (inner n) h

pub present_in_projection : PresentInProjection
present_in_projection F p n h = present-project F p (inner n) h

-- ---- rows

map-same : {A B : Type 0} (f g : A → B) (xs : List A) → ((a : A) → f a ≡ g a) → map f xs ≡ map g xs
map-same f g [] h = refl
map-same f g (x ∷ xs) h = ap₂ (λ b l. b ∷ l) (h x) (map-same f g xs h)

instance_rows-project : (f : Node → List Node) (G : List (List Step)) → ((m : Node) → f (project G m) ≡ map (project G) (f m)) → (x : Instance) → instance_rows f (project_one G x) ≡ map (project_all G) (instance_rows f x)
instance_rows-project f G h (atom v) = refl
instance_rows-project f G h (inner n) = ap (map (λ (m : Node). single (inner m))) (h n) ∙ map-map _ _ (f n) ∙ sym (map-map _ _ (f n))

each_instance_rows-project : (f : Node → List Node) (G : List (List Step)) → ((m : Node) → f (project G m) ≡ map (project G) (f m)) → (xs : Instances) → each_instance_rows f (project_all G xs) ≡ map (project_all G) (each_instance_rows f xs)
each_instance_rows-project f G h no_instances = refl
each_instance_rows-project f G h (instance x xs) = ap₂ (λ a b. a ++ b) (instance_rows-project f G h x) (each_instance_rows-project f G h xs) ∙ sym (map-append (project_all G) (instance_rows f x) (each_instance_rows f xs))

field_rows-project : (f : Node → List Node) (G : List (List Step)) → ((m : Node) → f (project G m) ≡ map (project G) (f m)) → (xs : Instances) → field_rows f (project_all G xs) ≡ map (project_all G) (field_rows f xs)
field_rows-project f G h no_instances = refl
field_rows-project f G h (instance x xs) = each_instance_rows-project f G h (instance x xs)

pub rows_of_projection : RowsOfProjection
rows_of_projection F [] n h = refl
rows_of_projection F (s ∷ p) n h =
    let G : List (List Step) = below s.place F in
    let k : list_any (begins_with p) G ≡ true = leads-below s.place s.repetition p F h in
    let f : Instances → Node = λ (xs : Instances). put_at s.place xs (project F n) in
    ap (λ (xs : Instances). map f (field_rows (rows p) xs)) (at-project s.place p F n k)
    ∙ ap (map f) (field_rows-project (rows p) G (λ (m : Node). rows_of_projection G p m (leads_from_front p G k)) (instances_at s.place n))
    ∙ map-map f (project_all G) (field_rows (rows p) (instances_at s.place n))
    ∙ map-same _ _ (field_rows (rows p) (instances_at s.place n)) (λ (xs : Instances). put-project s.place F xs n)
    ∙ sym (map-map (project F) (λ (xs : Instances). put_at s.place xs n) (field_rows (rows p) (instances_at s.place n)))
