-- Leaves that are named or used stand among those of the schema.
use Rattle.std.specs.Prelude.{◌≡◌, ℕ, suc, zero, List, [], ◌∷◌, ◌++◌, Bool, true, false, if◌then◌else◌, filter, map, Option, Some, None, Result, Ok, Err}
use Rattle.std.specs.List.{slice_get, filter_map, list_any, cons_option}
use Rattle.std.proofs.Common.{cond, refl, subst}
use Rattle.dr_meaning.specs.Schema.{Fields}
use Rattle.dr_meaning.specs.Path.{Leaf, PathFault, find_path, find_leaf, cut_at_dots, leaves, same_path}
use Rattle.dr_meaning.specs.Fsm.{named_leaves, with_leaf, or_field_refusal}
use Rattle.dr_meaning.specs.Refusals.{CommandRefusal}
use Rattle.dr_meaning.specs.Automaton.{reading_order}
use Rattle.dr_meaning.specs.QueryLeaves.{query_leaves, used_paths}
use Rattle.dr_meaning.proofs.FindingLemmas.{of_found, in_at}
use Rattle.dr_scan.specs.FileRecords.{AreLeavesOf}
use Rattle.dr_scan.specs.LeafLaws.{FoundAreLeaves, NamedAreLeaves, UsedAreLeaves}

-- ---- the leaves that words name

abbrev IsAt : List Leaf → Leaf → Type 0
IsAt ls l = (i : ℕ) × (slice_get ls i ≡ Some l)

with_leaf_too : (fs : Fields) (ls : List Leaf) (l : Leaf) → AreLeavesOf fs ls → IsAt (leaves fs) l → AreLeavesOf fs (ls ++ l ∷ [])
with_leaf_too fs [] l h at = (at, tt)
with_leaf_too fs (m ∷ ls) l h at = (h.0, with_leaf_too fs ls l h.1 at)

one_more : (b : Bool) (fs : Fields) (ls : List Leaf) (l : Leaf) → AreLeavesOf fs ls → IsAt (leaves fs) l → AreLeavesOf fs (if b then ls else ls ++ l ∷ [])
one_more true fs ls l h at = h
one_more false fs ls l h at = with_leaf_too fs ls l h at

found_at : (text : List ℕ) (fs : Fields) (l : Leaf) → find_leaf text fs ≡ Ok l → IsAt (leaves fs) l
found_at text fs l e = in_at l (leaves fs) (of_found (cut_at_dots text) fs (find_path (cut_at_dots text) fs) l refl e).0

pub found_are_leaves : FoundAreLeaves
found_are_leaves fs F text l h e = with_leaf_too fs F l h (found_at text fs l e)

-- the first text names a leaf, or none is named
by_first : (fs : Fields) (n : ℕ) (next : Leaf → Result (List Leaf) CommandRefusal) (F : List Leaf) (r : Result Leaf PathFault) → ((l : Leaf) → r ≡ Ok l → next l ≡ Ok F → AreLeavesOf fs F) → or_field_refusal n next r ≡ Ok F → AreLeavesOf fs F
by_first fs n next F (Ok l) rec e = rec l refl e
by_first fs n next F (Err x) rec e = absurd (cc)

named_from : (fs : Fields) (ls : List Leaf) (n : ℕ) (texts : List (List ℕ)) (F : List Leaf) → AreLeavesOf fs ls → named_leaves fs ls n texts ≡ Ok F → AreLeavesOf fs F
named_from fs ls n [] F h e = let is : ls ≡ F = cc in subst (AreLeavesOf fs) is h
named_from fs ls n (w ∷ ws) F h e =
    by_first fs n (λ (l : Leaf). named_leaves fs (with_leaf ls l) (suc n) ws) F (find_leaf w fs)
    (λ l q k. named_from fs (with_leaf ls l) (suc n) ws F (one_more (list_any (λ (m : Leaf). same_path l.path m.path) ls) fs ls l h (found_at w fs l q)) k) e

pub named_are_leaves : NamedAreLeaves
named_are_leaves fs texts F e = named_from fs [] 0 texts F tt e

-- ---- the leaves that a query uses

filtered_at : (f : Leaf → Bool) (ls : List Leaf) (i : ℕ) (l : Leaf) → slice_get (filter f ls) i ≡ Some l → IsAt ls l
filtered_at f [] i l e = (i, e)
filtered_at f (m ∷ ls) i l e = go (f m) i e (λ k h. let at = filtered_at f ls k l h in (suc at.0, at.1))
  where
    go : (b : Bool) (i : ℕ) → slice_get (cond b (m ∷ filter f ls) (filter f ls)) i ≡ Some l → ((k : ℕ) → slice_get (filter f ls) k ≡ Some l → IsAt (m ∷ ls) l) → IsAt (m ∷ ls) l
    go true zero e behind = (0, e)
    go true (suc i) e behind = behind i e
    go false i e behind = behind i e

picked_are : (fs : Fields) (ls : List Leaf) (is : List ℕ) → ((i : ℕ) (l : Leaf) → slice_get ls i ≡ Some l → IsAt (leaves fs) l) → AreLeavesOf fs (filter_map (slice_get ls) is)
picked_are fs ls [] h = tt
picked_are fs ls (i ∷ is) h = go (slice_get ls i) refl (picked_are fs ls is h)
  where
    go : (o : Option Leaf) → slice_get ls i ≡ o → AreLeavesOf fs (filter_map (slice_get ls) is) → AreLeavesOf fs (cons_option o (filter_map (slice_get ls) is))
    go None e rest = rest
    go (Some l) e rest = (h i l e, rest)

pub used_are_leaves : UsedAreLeaves
unfolding query_leaves
used_are_leaves fs q =
    let f : Leaf → Bool = λ (l : Leaf). list_any (same_path l.path) (used_paths q) in
    let used : List Leaf = filter f (leaves fs) in
    picked_are fs used (reading_order fs (map (λ (l : Leaf). l.path) used)) (λ i l e. filtered_at f (leaves fs) i l e)
