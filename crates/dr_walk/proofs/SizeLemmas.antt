-- How many repeated fields a schema has at most, and how many leaves can be selected.
use Rattle.std.proofs.Common.{◌≡◌, ℕ, zero, suc, ◌+◌, ◌*◌, ◌≤◌, List, [], ◌∷◌, length, true, ◌&&◌, refl, sym, ap, true≢false, arith}
use Rattle.std.specs.Prelude.{not, nat_le, bytes_eq}
use Rattle.std.specs.List.{list_all, list_any}
use Rattle.std.proofs.lemmas.Bool.{and_parts, leb-true}
use Rattle.dr_meaning.specs.Schema.{Repetition, required, optional, repeated, Fields, no_fields, field, Shape, leaf, group, Schema, repetition_count, repeated_fields, shape_repeated_fields, leaf_count, shape_leaf_count, depth, shape_depth, greatest_depth, most_leaves, is_schema, is_group, is_shape, is_nonempty, is_short_name, field_names}
use Rattle.dr_meaning.specs.Path.{Step, is_leaf_path}
use Rattle.dr_meaning.specs.Automaton.{Pick, picks, picks_from, first_picks, first_picks_and, first_picks_if, later_picks, later_picks_and, later_picks_if}
use Rattle.dr_moves.specs.Selection.{all_differ}
use Rattle.dr_moves.proofs.Apart.{Apart, ShapeApart, AtMostOne}
use Rattle.dr_moves.proofs.ApartLemmas.{leaves_apart}
use Rattle.dr_moves.proofs.FollowsWalk.{Paths, ShapePaths, field_paths}
use Rattle.dr_moves.proofs.WalkFollows.{group_paths, paths_from}

one_more : (r : Repetition) → repetition_count r ≤ 1
one_more required = omega arith
one_more optional = omega arith
one_more repeated = omega arith

pub record Few (s : Shape) : Type 0 where
  pub leaves : 1 ≤ shape_leaf_count s
  pub fields : shape_repeated_fields s + 32 ≤ shape_depth s + 32 * shape_leaf_count s

pub record Parts (n : List ℕ) (r : Repetition) (s : Shape) (fs : Fields) : Type 0 where
  pub shape : is_shape s ≡ true
  pub others : is_group fs ≡ true

parts : (n : List ℕ) (r : Repetition) (s : Shape) (fs : Fields) → is_group (field n r s fs) ≡ true → Parts n r s fs
parts n r s fs g =
    let a = and_parts ((is_short_name n && not (list_any (bytes_eq n) (field_names fs))) && is_shape s) (is_group fs) g in
    let b = and_parts (is_short_name n && not (list_any (bytes_eq n) (field_names fs))) (is_shape s) a.0 in
    record { shape = b.1; others = a.1 }

mutual
  few_in : (fs : Fields) → is_group fs ≡ true → depth fs ≤ 32 → repeated_fields fs ≤ 32 * leaf_count fs
  few_in no_fields g d = omega arith
  few_in (field n r s fs) g d =
      let p = parts n r s fs g in
      let q = few_of s p.shape (omega (arith, d)) in
      let w = few_in fs p.others (omega (arith, d)) in
      omega (arith, q.leaves, q.fields, w, d, one_more r)

  few_of : (s : Shape) → is_shape s ≡ true → shape_depth s ≤ 32 → Few s
  few_of (leaf k) g d = record { leaves = omega arith; fields = omega arith }
  few_of (group no_fields) g d = absurd (true≢false (sym g))
  few_of (group (field n r s fs)) g d =
      let p = parts n r s fs g in
      let q = few_of s p.shape (omega (arith, d)) in
      let w = few_in fs p.others (omega (arith, d)) in
      record { leaves = omega (arith, q.leaves); fields = omega (arith, q.leaves, q.fields, w, d, one_more r) }

pub record Limits (s : Schema) : Type 0 where
  pub deep : depth s.fields ≤ 32
  pub leaves : leaf_count s.fields ≤ 1024
  pub numbers : repeated_fields s.fields ≤ 32768

pub limits : (s : Schema) → is_schema s ≡ true → Limits s
limits s v =
    let a = and_parts ((is_short_name s.name && is_shape (group s.fields)) && nat_le (depth s.fields) greatest_depth) (nat_le (leaf_count s.fields) most_leaves) v in
    let b = and_parts (is_short_name s.name && is_shape (group s.fields)) (nat_le (depth s.fields) greatest_depth) a.0 in
    let c = and_parts (is_short_name s.name) (is_shape (group s.fields)) b.0 in
    let g = and_parts (is_nonempty s.fields) (is_group s.fields) c.1 in
    let d : depth s.fields ≤ 32 = leb-true (depth s.fields) greatest_depth b.1 in
    let l : leaf_count s.fields ≤ 1024 = leb-true (leaf_count s.fields) most_leaves a.1 in
    let n = few_in s.fields g.1 d in
    record { deep = d; leaves = l; numbers = omega (arith, n, l) }

-- ---- leaves that differ are at most as many as the schema has

pub split_in_two : (n : List ℕ) (r : Repetition) (s : Shape) (fs : Fields) (F : List Pick) → Paths (field n r s fs) F → length F ≡ length (first_picks F) + length (later_picks F)
split_in_two n r s fs [] h = refl
split_in_two n r s fs (f ∷ F) h = by_rest f.rest f.index h.0 (split_in_two n r s fs F h.1)
  where
    by_place : (k : ℕ) (t : Step) (p : List Step) (i : ℕ) (A B : List Pick) (m : ℕ) → m ≡ length A + length B → suc m ≡ length (first_picks_if k p i A) + length (later_picks_if k t p i B)
    by_place zero t p i A B m e = omega (arith, e)
    by_place (suc k) t p i A B m e = omega (arith, e)

    by_rest : (p : List Step) (i : ℕ) → is_leaf_path (field n r s fs) p ≡ true → length F ≡ length (first_picks F) + length (later_picks F) → suc (length F) ≡ length (first_picks_and p i (first_picks F)) + length (later_picks_and p i (later_picks F))
    by_rest [] i o e = absurd (true≢false (sym o))
    by_rest (t ∷ p) i o e = by_place t.place t p i (first_picks F) (later_picks F) (length F) e

nowhere : (F : List Pick) → Paths no_fields F → length F ≤ 0
nowhere [] h = omega arith
nowhere (f ∷ F) h = absurd (true≢false (sym h.0))

at_most_one : (F : List Pick) → AtMostOne F → length F ≤ 1
at_most_one [] h = omega arith
at_most_one (f ∷ []) h = omega arith
at_most_one (f ∷ g ∷ F) h = absurd h

mutual
  apart_count : (fs : Fields) (F : List Pick) → Paths fs F → Apart fs F → length F ≤ leaf_count fs
  apart_count no_fields F h a = nowhere F h
  apart_count (field n r s fs) F h a =
      let p = field_paths n r s fs F h in
      let e = split_in_two n r s fs F h in
      let x = shape_apart_count s (first_picks F) p.first a.0 in
      let y = apart_count fs (later_picks F) p.others a.1 in
      omega (arith, e, x, y)

  shape_apart_count : (s : Shape) (F : List Pick) → ShapePaths s F → ShapeApart s F → length F ≤ shape_leaf_count s
  shape_apart_count (leaf k) F h a = at_most_one F a
  shape_apart_count (group fs) F h a = apart_count fs F (group_paths fs F h) a

picks_length : (i : ℕ) (F : List (List Step)) → length (picks_from i F) ≡ length F
picks_length i [] = refl
picks_length i (p ∷ F) = ap suc (picks_length (suc i) F)

pub selected_count : (fs : Fields) (F : List (List Step)) → list_all (is_leaf_path fs) F ≡ true → all_differ F ≡ true → length F ≤ leaf_count fs
selected_count fs F h a =
    let e = picks_length 0 F in
    let c = apart_count fs (picks F) (group_paths fs (picks F) (paths_from fs 0 F h)) (leaves_apart fs F h a) in
    omega (arith, e, c)
