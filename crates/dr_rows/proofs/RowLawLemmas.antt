-- Rows are cut; what is present has an end; places alone matter.
use Rattle.std.specs.Prelude.{◌≡◌, ℕ, List, [], ◌∷◌, ◌++◌, map, Bool, true, ◌&&◌, ◌==◌, Option, is_some}
use Rattle.std.specs.List.{list_all}
use Rattle.std.proofs.Common.{refl, sym, ap, ap₂, ◌∙◌, arith}
use Rattle.std.proofs.Math.Path.{fun_ext}
use Rattle.std.proofs.lemmas.Bool.{and_parts}
use Rattle.std.proofs.lemmas.Bool.Decides.{nat_tests}
use Rattle.dr_meaning.specs.Path.{Step, begins_with, same_path}
use Rattle.dr_meaning.specs.Record.{Node, Instances, no_instances, instance, Instance, atom, inner, single, instances_at, instances_in, put_at}
use Rattle.dr_meaning.specs.Rows.{instance_rows, each_instance_rows, field_rows, rows, is_present_in, first_present}
use Rattle.dr_rows.specs.Known.{end_in, first_end, is_cut, is_cut_in, only_one, values_at}
use Rattle.dr_rows.specs.RowLaws.{RowsAreCut, PresentHasEnd, PlacesTell}
use Rattle.dr_rows.proofs.PuttingLemmas.{put_there, put_same}

-- ---- rows are cut

all_append : {A : Type 0} (f : A → Bool) (xs ys : List A) → list_all f xs ≡ true → list_all f ys ≡ true → list_all f (xs ++ ys) ≡ true
all_append f [] ys h k = k
all_append f (x ∷ xs) ys h k =
    let b : (f x ≡ true) × (list_all f xs ≡ true) = and_parts _ _ h in
    ap₂ ◌&&◌ b.0 (all_append f xs ys b.1 k)

all_mapped : {A B : Type 0} (f : B → Bool) (g : A → Bool) (m : A → B) (xs : List A) → ((x : A) → g x ≡ true → f (m x) ≡ true) → list_all g xs ≡ true → list_all f (map m xs) ≡ true
all_mapped f g m [] h k = refl
all_mapped f g m (x ∷ xs) h k =
    let b : (g x ≡ true) × (list_all g xs ≡ true) = and_parts _ _ k in
    ap₂ ◌&&◌ (h x b.0) (all_mapped f g m xs h b.1)

-- an instance alone, in which the rest of the level is cut
abbrev is_cut_one : List Step → Instances → Bool
is_cut_one p xs = only_one (is_cut_in p) xs

one_cut : (p : List Step) (x : Instance) → ((m : Node) → list_all (is_cut p) (rows p m) ≡ true) → list_all (is_cut_one p) (instance_rows (rows p) x) ≡ true
one_cut p (atom v) ih = ap (λ (b : Bool). b && true) (atom_cut p)
  where
    atom_cut : (q : List Step) → is_cut_in q (atom v) ≡ true
    atom_cut [] = refl
    atom_cut (s ∷ q) = refl
one_cut p (inner m) ih = all_mapped (is_cut_one p) (is_cut p) (λ k. single (inner k)) (rows p m) (λ k h. h) (ih m)

each_cut : (p : List Step) (xs : Instances) → ((m : Node) → list_all (is_cut p) (rows p m) ≡ true) → list_all (is_cut_one p) (each_instance_rows (rows p) xs) ≡ true
each_cut p no_instances ih = refl
each_cut p (instance x xs) ih = all_append (is_cut_one p) (instance_rows (rows p) x) (each_instance_rows (rows p) xs) (one_cut p x ih) (each_cut p xs ih)

field_cut : (s : Step) (p : List Step) (n : Node) (xs : Instances) → instances_at s.place n ≡ xs → ((m : Node) → list_all (is_cut p) (rows p m) ≡ true)
    → list_all (is_cut (s ∷ p)) (map (λ ys. put_at s.place ys n) (field_rows (rows p) xs)) ≡ true
field_cut s p n no_instances e ih =
    let same : put_at s.place no_instances n ≡ n = ap (λ (ys : Instances). put_at s.place ys n) (sym e) ∙ put_same s.place n in
    ap (λ (ys : Instances). only_one (is_cut_in p) ys && true) (ap (instances_at s.place) same ∙ e)
field_cut s p n (instance x xs) e ih =
    all_mapped (is_cut (s ∷ p)) (is_cut_one p) (λ ys. put_at s.place ys n) (each_instance_rows (rows p) (instance x xs))
    (λ ys h. ap (only_one (is_cut_in p)) (put_there s.place ys xs x n e) ∙ h) (each_cut p (instance x xs) ih)

pub rows_cut : RowsAreCut
rows_cut [] n = refl
rows_cut (s ∷ p) n = field_cut s p n (instances_at s.place n) refl (rows_cut p)

-- ---- what is present has an end

first_present_end : (f : Instance → Bool) (g : Instance → Option Instance) (xs : Instances) → ((x : Instance) → f x ≡ is_some (g x)) → first_present f xs ≡ is_some (first_end g xs)
first_present_end f g no_instances h = refl
first_present_end f g (instance x xs) h = h x

present_in_end : (p : List Step) (x : Instance) → is_present_in p x ≡ is_some (end_in p x)
present_in_end [] x = refl
present_in_end (s ∷ p) x = first_present_end (is_present_in p) (end_in p) (instances_in s.place x) (present_in_end p)

pub present_end : PresentHasEnd
present_end p row = present_in_end p (inner row)

-- ---- places alone matter

same_number : (i j : ℕ) → (i == j) ≡ true → i ≡ j
same_number i j h = grind (arith, nat_tests)

same_first : (s t : Step) (p q : List Step) → same_path (s ∷ p) (t ∷ q) ≡ true → s.place ≡ t.place
same_first s t p q h =
    let b : (begins_with (s ∷ p) (t ∷ q) ≡ true) × (begins_with (t ∷ q) (s ∷ p) ≡ true) = and_parts _ _ h in
    let d : ((s.place == t.place) ≡ true) × (begins_with p q ≡ true) = and_parts _ _ b.0 in
    same_number s.place t.place d.0

same_rest : (s t : Step) (p q : List Step) → same_path (s ∷ p) (t ∷ q) ≡ true → same_path p q ≡ true
same_rest s t p q h =
    let b : (begins_with (s ∷ p) (t ∷ q) ≡ true) × (begins_with (t ∷ q) (s ∷ p) ≡ true) = and_parts _ _ h in
    let d : ((s.place == t.place) ≡ true) × (begins_with p q ≡ true) = and_parts _ _ b.0 in
    let e : ((t.place == s.place) ≡ true) × (begins_with q p ≡ true) = and_parts _ _ b.1 in
    ap₂ ◌&&◌ d.1 e.1

same_rows : (p q : List Step) → same_path p q ≡ true → rows p ≡ rows q
same_rows [] [] h = refl
same_rows [] (t ∷ q) h = cc
same_rows (s ∷ p) [] h = cc
same_rows (s ∷ p) (t ∷ q) h =
    fun_ext (λ n. ap₂ (λ (k : ℕ) (f : Node → List Node). map (λ xs. put_at k xs n) (field_rows f (instances_at k n))) (same_first s t p q h) (same_rows p q (same_rest s t p q h)))

same_end : (p q : List Step) → same_path p q ≡ true → end_in p ≡ end_in q
same_end [] [] h = refl
same_end [] (t ∷ q) h = cc
same_end (s ∷ p) [] h = cc
same_end (s ∷ p) (t ∷ q) h =
    fun_ext (λ x. ap₂ (λ (k : ℕ) (f : Instance → Option Instance). first_end f (instances_in k x)) (same_first s t p q h) (same_end p q (same_rest s t p q h)))

same_cut : (p q : List Step) → same_path p q ≡ true → is_cut_in p ≡ is_cut_in q
same_cut [] [] h = refl
same_cut [] (t ∷ q) h = cc
same_cut (s ∷ p) [] h = cc
same_cut (s ∷ p) (t ∷ q) h =
    fun_ext (λ x. ap₂ (λ (k : ℕ) (f : Instance → Bool). only_one f (instances_in k x)) (same_first s t p q h) (same_cut p q (same_rest s t p q h)))

pub places_tell : PlacesTell
places_tell ps p q n h = (
  ap (λ (f : Node → List Node). f n) (same_rows p q h),
  ap (λ (f : Instance → Option Instance). record { values = values_at ps n; end = f (inner n) }) (same_end p q h),
  ap (λ (f : Instance → Bool). f (inner n)) (same_cut p q h),
)
