-- Leaves and their neighbours, by computation: fronts of paths, outlines of columns up to them, and columns that agree there.
use Rattle.std.specs.Prelude.{◌≡◌, ◌<◌, ◌≤◌, ℕ, zero, suc, List, [], ◌∷◌, length, true, pos, Option, Some, None, codes, refl}
use Rattle.std.specs.List.{slice_get}
use Rattle.std.proofs.Common.{arith, subst, inl, inr}
use Rattle.dr_meaning.specs.Schema.{optional, text_kind}
use Rattle.dr_meaning.specs.Path.{Step, Leaf, leaves}
use Rattle.dr_meaning.specs.Record.{Value, int_value, Node}
use Rattle.dr_meaning.specs.Column.{Triplet, triplet, column}
use Rattle.dr_meaning.specs.OneColumn.{is_column}
use Rattle.dr_meaning.proofs.WorkedSchemas.{document}
use Rattle.dr_meaning.proofs.WorkedRecords.{record_10, record_20, record_30}
use Rattle.dr_meaning.proofs.WorkedPaths.{doc_id, backward, forward, name, language_level, code, country, url}
use Rattle.dr_beside.specs.Outlines.{outline}
use Rattle.dr_beside.specs.Neighbours.{shared, front, AreNearest, Neighbours, AreNeighbours, HasNeighbours, AreAllNeighbours, column_at, Agree, EachAlone, NeighboursAgree, NeighboursDisagree, TestedAlone}
use Rattle.dr_beside.specs.Chunks.{HasColumns, NoneHas}

abbrev both : List Node
both = record_10 ∷ record_20 ∷ []

abbrev all_three : List Node
all_three = record_10 ∷ record_20 ∷ record_30 ∷ []

abbrev or_none : Option (List Step) → List Step
or_none None = []
or_none (Some p) = p

abbrev levels : ℕ → ℕ → Triplet
levels r d = triplet r d None

-- ---- outlines

-- of records alone
pub records_outlined : (outline 0 0 (column country both) ≡ levels 0 0 ∷ levels 0 0 ∷ []) × (outline 0 0 (column doc_id both) ≡ levels 0 0 ∷ levels 0 0 ∷ [])
records_outlined = (refl, refl)

-- of names, and of languages
pub names_outlined : (outline 1 1 (column country all_three) ≡ levels 0 1 ∷ levels 1 1 ∷ levels 1 1 ∷ levels 0 1 ∷ levels 0 0 ∷ []) × (outline 1 1 (column url all_three) ≡ outline 1 1 (column country all_three))
names_outlined = (refl, refl)

pub languages_outlined : (outline 2 2 (column country both) ≡ levels 0 2 ∷ levels 2 2 ∷ levels 1 1 ∷ levels 1 2 ∷ levels 0 1 ∷ []) × (outline 2 2 (column code both) ≡ outline 2 2 (column country both))
languages_outlined = (refl, refl)

-- of an optional group with repeated fields below it
pub links_outlined : (outline 0 1 (column forward all_three) ≡ levels 0 1 ∷ levels 0 1 ∷ levels 0 0 ∷ []) × (outline 0 1 (column backward all_three) ≡ levels 0 1 ∷ levels 0 1 ∷ levels 0 0 ∷ [])
links_outlined = (refl, refl)

pub nothing_outlined : outline 1 1 [] ≡ []
nothing_outlined = refl

-- ---- fronts

pub fields_shared : (shared doc_id url ≡ 0) × (shared forward backward ≡ 1) × (shared url code ≡ 1) × (shared code country ≡ 2) × (shared code code ≡ 3) × (shared code language_level ≡ 2) × (shared language_level code ≡ 2) × (shared [] code ≡ 0)
fields_shared = (refl, refl, refl, refl, refl, refl, refl, refl)

pub fronts : (front doc_id url ≡ []) × (front code url ≡ name) × (front code country ≡ language_level) × (front backward forward ≡ record { place = 1; repetition = optional } ∷ [])
fronts = (refl, refl, refl, refl)

-- ---- neighbours

-- addresses, codes and countries
abbrev three : List (List Step)
three = url ∷ code ∷ country ∷ []

-- the code is the country's neighbour, the address isn't, nor is the country the code's, which comes before it
pub code_is_nearest : AreNearest three 2 1
code_is_nearest = record { path = country; other = code; is_path = refl; is_other = refl; earlier = omega arith; most = most }
  where
    most : (k : ℕ) (e : List Step) → k < 2 → slice_get three k ≡ Some e → shared country e ≤ 2
    most zero e h q = subst (λ (o : Option (List Step)). shared country (or_none o) ≤ 2) q (omega arith)
    most (suc zero) e h q = subst (λ (o : Option (List Step)). shared country (or_none o) ≤ 2) q (omega arith)
    most (suc (suc k)) e h q = absurd (omega (arith, h))

pub what_nearest_says : (F : List (List Step)) (i j : ℕ) (w : AreNearest F i j) → (slice_get F i ≡ Some w.path) × (slice_get F j ≡ Some w.other) × (j < i) × ((k : ℕ) (e : List Step) → k < i → slice_get F k ≡ Some e → shared w.path e ≤ shared w.path w.other)
what_nearest_says F i j w = (w.is_path, w.is_other, w.earlier, w.most)

abbrev country_code : Neighbours
country_code = record { leaf = 2; earlier = 1; repeated = 2; defined = 2 }

pub are_neighbours : AreNeighbours three country_code
unfolding code_is_nearest
are_neighbours = (code_is_nearest, refl, refl)

-- they are among those that are looked at; two leaves that share no field need not be
pub has_neighbours : HasNeighbours three (country_code ∷ []) 2
has_neighbours = (country_code, refl, are_neighbours, inr (0, refl))

abbrev apart : List (List Step)
apart = doc_id ∷ url ∷ []

abbrev id_url : Neighbours
id_url = record { leaf = 1; earlier = 0; repeated = 0; defined = 0 }

pub id_is_nearest : AreNearest apart 1 0
id_is_nearest = record { path = url; other = doc_id; is_path = refl; is_other = refl; earlier = omega arith; most = most }
  where
    most : (k : ℕ) (e : List Step) → k < 1 → slice_get apart k ≡ Some e → shared url e ≤ 0
    most zero e h q = subst (λ (o : Option (List Step)). shared url (or_none o) ≤ 0) q (omega arith)
    most (suc k) e h q = absurd (omega (arith, h))

pub has_none_to_look_at : HasNeighbours apart [] 1
unfolding id_is_nearest
has_none_to_look_at = (id_url, refl, (id_is_nearest, refl, refl), inl refl)

pub all_neighbours : AreAllNeighbours apart []
all_neighbours = record { each = each; for_each = for_each }
  where
    each : (k : ℕ) (n : Neighbours) → slice_get [] k ≡ Some n → AreNeighbours apart n
    each k n h = cc

    for_each : (i : ℕ) → 0 < i → i < 2 → HasNeighbours apart [] i
    for_each zero z h = absurd (omega (arith, z))
    for_each (suc zero) z h = has_none_to_look_at
    for_each (suc (suc i)) z h = absurd (omega (arith, h))

-- ---- columns that agree, and columns that don't

abbrev number : ℕ → Option Value
number n = Some (int_value (pos n))

pub columns_at : (column_at (column url both ∷ column code both ∷ []) 0 ≡ column url both) × (column_at (column url both ∷ column code both ∷ []) 1 ≡ column code both) × (column_at (column url both ∷ []) 1 ≡ []) × (column_at [] 0 ≡ [])
columns_at = (refl, refl, refl, refl)

pub agree : Agree (column url both ∷ column code both ∷ column country both ∷ []) country_code
agree = refl

-- a language too few
pub disagree : Agree (column url both ∷ column code both ∷ (levels 0 3 ∷ levels 1 1 ∷ levels 1 3 ∷ levels 0 1 ∷ []) ∷ []) country_code → ⊥
disagree e = cc

pub alone_said : (C : List (List Triplet)) → EachAlone document apart C 2 → (R : List Node) × HasColumns document (url ∷ []) (column_at C 1 ∷ []) 2 R
alone_said C alone = alone 1 url refl

-- ---- the laws, of numbers and addresses

pub agree_said : NeighboursAgree → (C : List (List Triplet)) (rows : ℕ) → length C ≡ 2 → EachAlone document apart C rows → (R : List Node) × HasColumns document apart C rows R
agree_said law C rows many alone = law document apart C rows [] refl refl all_neighbours many alone none_looked_at
  where
    none_looked_at : (k : ℕ) (n : Neighbours) → slice_get [] k ≡ Some n → Agree C n
    none_looked_at k n h = cc

pub disagree_said : NeighboursDisagree → (C : List (List Triplet)) (rows : ℕ) → (Agree C country_code → ⊥) → NoneHas document three C rows
disagree_said law C rows differ = law document three C rows country_code refl refl are_neighbours differ

abbrev url_leaf : Leaf
url_leaf = record { names = codes "Name" ∷ codes "Url" ∷ []; path = url; kind = text_kind }

pub tested_said : TestedAlone → (ts : List Triplet) (rows : ℕ) → is_column url_leaf rows ts ≡ true → EachAlone document (url ∷ []) (ts ∷ []) rows
tested_said law ts rows ok = law document (url_leaf ∷ []) (ts ∷ []) rows of_schema passes
  where
    same_leaf : {l : Leaf} → Some url_leaf ≡ Some l → url_leaf ≡ l
    same_leaf e = cc

    of_schema : (k : ℕ) (l : Leaf) → slice_get (url_leaf ∷ []) k ≡ Some l → (i : ℕ) × (slice_get (leaves document) i ≡ Some l)
    of_schema zero l h = (5, h)
    of_schema (suc k) l h = cc

    passes : (k : ℕ) (l : Leaf) → slice_get (url_leaf ∷ []) k ≡ Some l → is_column l rows (column_at (ts ∷ []) k) ≡ true
    passes zero l h = subst (λ (m : Leaf). is_column m rows ts ≡ true) (same_leaf h) ok
    passes (suc k) l h = cc
