-- Columns that records have, and columns that no records have, by computation: their course is gone through, turn by turn.
use Rattle.std.specs.Prelude.{◌≡◌, ◌≢◌, ◌⊎◌, ℕ, zero, suc, List, [], ◌∷◌, Bool, true, false, ◌||◌, Option, Some, None, pos, codes, refl}
use Rattle.std.proofs.Common.{inl, inr, sym, true≢false}
use Rattle.std.specs.Str.{is_utf8, chars}
use Rattle.std.specs.List.{list_all}
use Rattle.dr_meaning.specs.Schema.{Fields, no_fields, field, leaf, group, required, repeated, int64_kind}
use Rattle.dr_meaning.specs.Path.{Step, is_leaf_path}
use Rattle.dr_meaning.specs.Record.{Value, int_value, text_value, bool_value, no_slots, slot, no_instances, instance, Instance, atom, inner, single}
use Rattle.dr_meaning.specs.Column.{Triplet, triplet}
use Rattle.dr_meaning.specs.Walk.{Move}
use Rattle.dr_meaning.proofs.WorkedSchemas.{document}
use Rattle.dr_meaning.proofs.WorkedRecords.{record_10, record_20, numbers}
use Rattle.dr_meaning.proofs.WorkedPaths.{step, doc_id, country, url}
use Rattle.dr_moves.specs.Course.{Items, course}
use Rattle.dr_moves.specs.Turning.{Stack, between, Turn, gives, goes_on, done, stops, turn}
use Rattle.dr_moves.specs.Leading.{Left, Leads, stays, moves, turns, columns_of, heads, behind_move}
use Rattle.dr_walk.specs.Walking.{HasColumns, NoneHas}
use Rattle.dr_walk.proofs.AnswerLemmas.{none_has}

-- ---- whether turns come to a stop, or to the end where something is left of one of the first columns

abbrev is_left : List Triplet → Bool
is_left [] = false
is_left (t ∷ ts) = true

abbrev refused_by : (Stack → Left → Bool) → Left → Turn → Bool
refused_by go left (gives m S) = go S (behind_move m left)
refused_by go left (goes_on S) = go S left
refused_by go left done = is_left (left 0) || is_left (left 1)
refused_by go left stops = true

abbrev refused : Items → ℕ → Stack → Left → Bool
refused T zero S left = false
refused T (suc n) S left = refused_by (refused T n) left (turn T S (heads left))

abbrev Found : Items → Stack → Left → Type 0
Found T S left = (ms : List Move) × (V : Stack) × (end : Left) × Leads T S left ms V end × ((turn T V (heads end) ≡ stops) ⊎ ((turn T V (heads end) ≡ done) × ((i : ℕ) × (end i ≢ []))))

left_is : (ts : List Triplet) → is_left ts ≡ true → ts ≢ []
left_is [] e q = true≢false (sym e)
left_is (t ∷ ts) e q = cc

one_left : (left : Left) (b c : Bool) → is_left (left 0) ≡ b → is_left (left 1) ≡ c → (b || c) ≡ true → (i : ℕ) × (left i ≢ [])
one_left left true c e f h = (0, left_is (left 0) e)
one_left left false true e f h = (1, left_is (left 1) f)
one_left left false false e f h = absurd (true≢false (sym h))

found_by : (T : Items) (go : Stack → Left → Bool) (S : Stack) (left : Left) (t : Turn) → ((U : Stack) (l : Left) → go U l ≡ true → Found T U l) → turn T S (heads left) ≡ t → refused_by go left t ≡ true → Found T S left
found_by T go S left (gives m U) rec q e = let r = rec U (behind_move m left) e in (m ∷ r.0, r.1, r.2, moves S U r.1 left r.2 m r.0 q r.3, r.4)
found_by T go S left (goes_on U) rec q e = let r = rec U left e in (r.0, r.1, r.2, turns S U r.1 left r.2 r.0 q r.3, r.4)
found_by T go S left done rec q e = ([], S, left, stays S left, inr (q, one_left left (is_left (left 0)) (is_left (left 1)) refl refl e))
found_by T go S left stops rec q e = ([], S, left, stays S left, inl q)

found : (T : Items) (n : ℕ) (S : Stack) (left : Left) → refused T n S left ≡ true → Found T S left
found T zero S left e = absurd (true≢false (sym e))
found T (suc n) S left e = found_by T (refused T n) S left (turn T S (heads left)) (found T n) refl e

-- such columns no records have
none_with : (fs : Fields) (F : List (List Step)) (C : List (List Triplet)) (rows : ℕ) → list_all (is_leaf_path fs) F ≡ true → refused (course fs F) 100 (between rows) (columns_of C) ≡ true → NoneHas fs F C rows
none_with fs F C rows p e = let r = found (course fs F) 100 (between rows) (columns_of C) e in none_has fs F rows C r.0 r.2 (record { stack = r.1; leads = r.3; why = r.4 }) p

abbrev word : List ℕ → Option Value
word t = Some (text_value t)

abbrev number : ℕ → Option Value
number n = Some (int_value (pos n))

abbrev null : ℕ → ℕ → Triplet
null r d = triplet r d None

-- ---- an empty list, and then one more instance

abbrev ten : List Triplet
ten = triplet 0 0 (number 10) ∷ []

pub no_names : HasColumns document (doc_id ∷ url ∷ []) (ten ∷ (null 0 0 ∷ []) ∷ []) 1 (slot (numbers (10 ∷ [])) (slot no_instances (slot no_instances no_slots)) ∷ [])
no_names = (refl, refl, refl)

pub a_null_more : NoneHas document (doc_id ∷ url ∷ []) (ten ∷ (null 0 0 ∷ null 0 0 ∷ []) ∷ []) 1
a_null_more = none_with document (doc_id ∷ url ∷ []) (ten ∷ (null 0 0 ∷ null 0 0 ∷ []) ∷ []) 1 refl refl

-- ---- two columns of two records, and what differs from them in one place

abbrev two : List (List Step)
two = doc_id ∷ country ∷ []

abbrev ids : List Triplet
ids = triplet 0 0 (number 10) ∷ triplet 0 0 (number 20) ∷ []

abbrev us : Triplet
us = triplet 0 3 (word (codes "us"))

abbrev gb : Triplet
gb = triplet 1 3 (word (codes "gb"))

pub of_two_records : HasColumns document two (ids ∷ (us ∷ null 2 2 ∷ null 1 1 ∷ gb ∷ null 0 1 ∷ []) ∷ []) 2 (record_10 ∷ record_20 ∷ [])
unfolding is_utf8 chars lib.Utf8.encode
of_two_records = (refl, refl, refl)

abbrev NoneWith : List Triplet → List Triplet → ℕ → Type 0
NoneWith xs ys rows = NoneHas document two (xs ∷ ys ∷ []) rows

abbrev none : (xs ys : List Triplet) (rows : ℕ) → refused (course document two) 100 (between rows) (columns_of (xs ∷ ys ∷ [])) ≡ true → NoneWith xs ys rows
none xs ys rows e = none_with document two (xs ∷ ys ∷ []) rows refl e

-- a definition level
pub other_definition : NoneWith ids (triplet 0 2 (word (codes "us")) ∷ null 2 2 ∷ null 1 1 ∷ gb ∷ null 0 1 ∷ []) 2 × NoneWith ids (us ∷ null 2 3 ∷ null 1 1 ∷ gb ∷ null 0 1 ∷ []) 2 × NoneWith (triplet 0 0 (number 10) ∷ triplet 0 1 (number 20) ∷ []) (us ∷ null 2 2 ∷ null 1 1 ∷ gb ∷ null 0 1 ∷ []) 2
unfolding is_utf8 chars lib.Utf8.encode
other_definition = (none _ _ 2 refl, none _ _ 2 refl, none _ _ 2 refl)

-- a repetition level: of the first, above the greatest, and one that begins a record more
pub other_repetition : NoneWith ids (triplet 1 3 (word (codes "us")) ∷ null 2 2 ∷ null 1 1 ∷ gb ∷ null 0 1 ∷ []) 2 × NoneWith ids (us ∷ null 3 2 ∷ null 1 1 ∷ gb ∷ null 0 1 ∷ []) 2 × NoneWith ids (us ∷ null 2 2 ∷ null 0 1 ∷ gb ∷ null 0 1 ∷ []) 2
unfolding is_utf8 chars lib.Utf8.encode
other_repetition = (none _ _ 2 refl, none _ _ 2 refl, none _ _ 2 refl)

-- a value: of another kind, missing, too many
pub other_value : NoneWith ids (triplet 0 3 (Some (bool_value true)) ∷ null 2 2 ∷ null 1 1 ∷ gb ∷ null 0 1 ∷ []) 2 × NoneWith ids (null 0 3 ∷ null 2 2 ∷ null 1 1 ∷ gb ∷ null 0 1 ∷ []) 2 × NoneWith ids (us ∷ triplet 2 2 (word (codes "us")) ∷ null 1 1 ∷ gb ∷ null 0 1 ∷ []) 2
unfolding is_utf8 chars lib.Utf8.encode
other_value = (none _ _ 2 refl, none _ _ 2 refl, none _ _ 2 refl)

-- a triplet: the last is missing, one follows, and a column is empty; and the number of records
pub other_count : NoneWith ids (us ∷ null 2 2 ∷ null 1 1 ∷ gb ∷ []) 2 × NoneWith ids (us ∷ null 2 2 ∷ null 1 1 ∷ gb ∷ null 0 1 ∷ null 0 1 ∷ []) 2 × NoneWith ids [] 2 × NoneWith ids (us ∷ null 2 2 ∷ null 1 1 ∷ gb ∷ null 0 1 ∷ []) 1
    × NoneWith ids (us ∷ null 2 2 ∷ null 1 1 ∷ gb ∷ null 0 1 ∷ []) 3
unfolding is_utf8 chars lib.Utf8.encode
other_count = (none _ _ 2 refl, none _ _ 2 refl, none _ _ 2 refl, none _ _ 1 refl, none _ _ 3 refl)

-- ---- message T { repeated group g { required int64 a; required int64 b; } }: two instances by the one column, one by the other

abbrev pairs : Fields
pairs = field [] repeated (group (field [] required (leaf int64_kind) (field [] required (leaf int64_kind) no_fields))) no_fields

abbrev a : List Step
a = step 0 repeated ∷ step 0 required ∷ []

abbrev b : List Step
b = step 0 repeated ∷ step 1 required ∷ []

abbrev xs : List Triplet
xs = triplet 0 1 (number 1) ∷ triplet 1 1 (number 2) ∷ []

abbrev ys : List Triplet
ys = triplet 0 1 (number 3) ∷ []

pub instances_disagree : NoneHas pairs (a ∷ b ∷ []) (xs ∷ ys ∷ []) 1
instances_disagree = none_with pairs (a ∷ b ∷ []) (xs ∷ ys ∷ []) 1 refl refl

abbrev pair : ℕ → ℕ → Instance
pair x y = inner (slot (single (atom (int_value (pos x)))) (slot (single (atom (int_value (pos y)))) no_slots))

-- each of them alone is a record's
pub each_alone : HasColumns pairs (a ∷ []) (xs ∷ []) 1 (slot (instance (pair 1 0) (single (pair 2 0))) no_slots ∷ []) × HasColumns pairs (b ∷ []) (ys ∷ []) 1 (slot (single (pair 0 3)) no_slots ∷ [])
each_alone = ((refl, refl, refl), (refl, refl, refl))

-- no leaf: any number of records; no record: columns without triplets alone
pub of_nothing : HasColumns document [] [] 2 (record_10 ∷ record_20 ∷ []) × HasColumns document two ([] ∷ [] ∷ []) 0 [] × NoneWith ids [] 0
unfolding is_utf8 chars lib.Utf8.encode
of_nothing = ((refl, refl, refl), (refl, refl, refl), none _ _ 0 refl)
