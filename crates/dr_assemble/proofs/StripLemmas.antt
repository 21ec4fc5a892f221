-- The strips of columns of records: those of a field, and their pieces.
use Rattle.std.proofs.Common.{◌≡◌, ℕ, zero, suc, ◌+◌, ◌<◌, ◌≤◌, List, [], ◌∷◌, ◌++◌, map, Bool, true, false, ◌&&◌, refl, sym, ap, ap₂, true≢false, arith}
use Rattle.std.specs.Prelude.{nat_lt}
use Rattle.std.specs.List.{list_all}
use Rattle.std.proofs.lemmas.Bool.{and_parts}
use Rattle.std.proofs.lemmas.Bool.Decides.{nat_tests}
use Rattle.dr_meaning.specs.Schema.{Repetition, Fields, field, Shape, repetition_count, definition_count}
use Rattle.dr_meaning.specs.Path.{Step, is_leaf_path, is_shape_path, same_repetition}
use Rattle.dr_meaning.specs.Record as record_tree
use Rattle.dr_meaning.specs.Record.{Node, slot, Instances, inner}
use Rattle.dr_meaning.specs.Column.{Triplet, spread, instance_column}
use Rattle.dr_meaning.proofs.ProjectionLemmas.{step}
use Rattle.dr_meaning.proofs.Blocks.{IsAbove, BeginsBelow, IsBlock, same_repetition-true}
use Rattle.dr_assemble.specs.Restoring.{Strip, strip, above, from_below, first_piece, later_pieces, count_below, count_pieces, first_pieces, other_pieces, first_definition, strips}
use Rattle.dr_assemble.proofs.ByPaths.{here_if, strips_here, there_if, strips_there}

-- ---- the strips of some paths, given the triplets of each

abbrev pub strips_of : (List Step → List Triplet) → List (List Step) → List Strip
strips_of c F = map (λ (p : List Step). strip p (c p)) F

-- both parts of a test of a list
all_parts : {A : Type 0} (test : A → Bool) (x : A) (xs : List A) → list_all test (x ∷ xs) ≡ true → (test x ≡ true) × (list_all test xs ≡ true)
all_parts test x xs h = and_parts _ _ h

pub strips_same : (test : List Step → Bool) (c e : List Step → List Triplet) (F : List (List Step)) → list_all test F ≡ true → ((p : List Step) → test p ≡ true → c p ≡ e p) → strips_of c F ≡ strips_of e F
strips_same test c e [] h g = refl
strips_same test c e (p ∷ F) h g =
    let k : (test p ≡ true) × (list_all test F ≡ true) = and_parts _ _ h in
    ap₂ (λ (ts : List Triplet) (S : List Strip). strip p ts ∷ S) (g p k.0) (strips_same test c e F k.1 g)

pub strips_of_map : (c : List Step → List Triplet) (F : List (List Step)) → strips F (map c F) ≡ strips_of c F
strips_of_map c [] = refl
strips_of_map c (p ∷ F) = ap (λ (S : List Strip). strip p (c p) ∷ S) (strips_of_map c F)

-- ---- the strips of a field

-- the column of a field's instances, at a path below the field
abbrev pub field_column : Repetition → ℕ → ℕ → ℕ → Instances → List Step → List Triplet
field_column r l d q xs p = spread (instance_column p (l + repetition_count r) (d + definition_count r)) (l + repetition_count r) d q xs

here_if-strips : (m : List ℕ) (r : Repetition) (s : Shape) (fs : Fields) (xs : Instances) (n : Node) (l d q i : ℕ) (t : Repetition) (p : List Step) (F : List (List Step)) (S : List Strip)
    → is_leaf_path (field m r s fs) (step i t ∷ p) ≡ true → S ≡ strips_of (field_column r l d q xs) F
    → here_if i p (instance_column (step i t ∷ p) l d q (inner (slot xs n))) S ≡ strips_of (field_column r l d q xs) (record_tree.through_first_if i p F)
here_if-strips m r s fs xs n l d q zero t p F S h e =
    let w : (same_repetition t r ≡ true) × (is_shape_path s p ≡ true) = and_parts _ _ h in
    ap₂ (λ (u : Repetition) (T : List Strip). strip p (field_column u l d q xs p) ∷ T) (same_repetition-true t r w.0) e
here_if-strips m r s fs xs n l d q (suc i) t p F S h e = e

pub here-strips : (m : List ℕ) (r : Repetition) (s : Shape) (fs : Fields) (xs : Instances) (n : Node) (l d q : ℕ) (F : List (List Step)) → list_all (is_leaf_path (field m r s fs)) F ≡ true
    → strips_here (strips_of (λ (p : List Step). instance_column p l d q (inner (slot xs n))) F) ≡ strips_of (field_column r l d q xs) (record_tree.through_first F)
here-strips m r s fs xs n l d q [] h = refl
here-strips m r s fs xs n l d q ([] ∷ F) h = absurd (true≢false (sym h))
here-strips m r s fs xs n l d q ((t ∷ p) ∷ F) h =
    let k : (is_leaf_path (field m r s fs) (t ∷ p) ≡ true) × (list_all (is_leaf_path (field m r s fs)) F ≡ true) = and_parts _ _ h in
    here_if-strips m r s fs xs n l d q t.place t.repetition p (record_tree.through_first F) (strips_here (strips_of (λ (p : List Step). instance_column p l d q (inner (slot xs n))) F)) k.0 (here-strips m r s fs xs n l d q F k.1)

there_if-strips : (xs : Instances) (n : Node) (l d q i : ℕ) (t : Repetition) (p : List Step) (F : List (List Step)) (S : List Strip)
    → S ≡ strips_of (λ (o : List Step). instance_column o l d q (inner n)) F
    → there_if i (step i t) p (instance_column (step i t ∷ p) l d q (inner (slot xs n))) S ≡ strips_of (λ (o : List Step). instance_column o l d q (inner n)) (record_tree.through_later_if i (step i t) p F)
there_if-strips xs n l d q zero t p F S e = e
there_if-strips xs n l d q (suc i) t p F S e = ap (λ (T : List Strip). strip (step i t ∷ p) (instance_column (step i t ∷ p) l d q (inner n)) ∷ T) e

pub there-strips : (xs : Instances) (n : Node) (l d q : ℕ) (F : List (List Step))
    → strips_there (strips_of (λ (p : List Step). instance_column p l d q (inner (slot xs n))) F) ≡ strips_of (λ (p : List Step). instance_column p l d q (inner n)) (record_tree.through_later F)
there-strips xs n l d q [] = refl
there-strips xs n l d q ([] ∷ F) = there-strips xs n l d q F
there-strips xs n l d q ((t ∷ p) ∷ F) =
    there_if-strips xs n l d q t.place t.repetition p (record_tree.through_later F) (strips_there (strips_of (λ (o : List Step). instance_column o l d q (inner (slot xs n))) F)) (there-strips xs n l d q F)

-- ---- the paths of a field

here_if-all : (m : List ℕ) (r : Repetition) (s : Shape) (fs : Fields) (i : ℕ) (t : Repetition) (p : List Step) (F : List (List Step))
    → is_leaf_path (field m r s fs) (step i t ∷ p) ≡ true → list_all (is_shape_path s) F ≡ true → list_all (is_shape_path s) (record_tree.through_first_if i p F) ≡ true
here_if-all m r s fs zero t p F h e =
    let w : (same_repetition t r ≡ true) × (is_shape_path s p ≡ true) = and_parts _ _ h in
    ap₂ (λ a b. a && b) w.1 e
here_if-all m r s fs (suc i) t p F h e = e

pub here-all : (m : List ℕ) (r : Repetition) (s : Shape) (fs : Fields) (F : List (List Step)) → list_all (is_leaf_path (field m r s fs)) F ≡ true → list_all (is_shape_path s) (record_tree.through_first F) ≡ true
here-all m r s fs [] h = refl
here-all m r s fs ([] ∷ F) h = absurd (true≢false (sym h))
here-all m r s fs ((t ∷ p) ∷ F) h =
    let k : (is_leaf_path (field m r s fs) (t ∷ p) ≡ true) × (list_all (is_leaf_path (field m r s fs)) F ≡ true) = and_parts _ _ h in
    here_if-all m r s fs t.place t.repetition p (record_tree.through_first F) k.0 (here-all m r s fs F k.1)

there_if-all : (m : List ℕ) (r : Repetition) (s : Shape) (fs : Fields) (i : ℕ) (t : Repetition) (p : List Step) (F : List (List Step))
    → is_leaf_path (field m r s fs) (step i t ∷ p) ≡ true → list_all (is_leaf_path fs) F ≡ true → list_all (is_leaf_path fs) (record_tree.through_later_if i (step i t) p F) ≡ true
there_if-all m r s fs zero t p F h e = e
there_if-all m r s fs (suc i) t p F h e = ap₂ (λ a b. a && b) h e

pub there-all : (m : List ℕ) (r : Repetition) (s : Shape) (fs : Fields) (F : List (List Step)) → list_all (is_leaf_path (field m r s fs)) F ≡ true → list_all (is_leaf_path fs) (record_tree.through_later F) ≡ true
there-all m r s fs [] h = refl
there-all m r s fs ([] ∷ F) h = absurd (true≢false (sym h))
there-all m r s fs ((t ∷ p) ∷ F) h =
    let k : (is_leaf_path (field m r s fs) (t ∷ p) ≡ true) × (list_all (is_leaf_path (field m r s fs)) F ≡ true) = and_parts _ _ h in
    there_if-all m r s fs t.place t.repetition p (record_tree.through_later F) k.0 (there-all m r s fs F k.1)

-- ---- the pieces of blocks

lt_true : (l r : ℕ) → l < r → nat_lt l r ≡ true
lt_true l r h = grind (arith, nat_tests)

lt_false : (l r : ℕ) → r ≤ l → nat_lt l r ≡ false
lt_false l r h = grind (arith, nat_tests)

above-begin : (l : ℕ) (us : List Triplet) → BeginsBelow l us → above l us ≡ []
above-begin l [] h = refl
above-begin l (u ∷ us) h = rw (lt_false l u.repetition h) refl

above-is : (l : ℕ) (ts us : List Triplet) → IsAbove l ts → BeginsBelow l us → above l (ts ++ us) ≡ ts
above-is l [] us a h = above-begin l us h
above-is l (t ∷ ts) us a h = rw (lt_true l t.repetition a.0) (ap (λ (xs : List Triplet). t ∷ xs) (above-is l ts us a.1 h))

from_below-begin : (l : ℕ) (us : List Triplet) → BeginsBelow l us → from_below l us ≡ us
from_below-begin l [] h = refl
from_below-begin l (u ∷ us) h = rw (lt_false l u.repetition h) refl

from_below-is : (l : ℕ) (ts us : List Triplet) → IsAbove l ts → BeginsBelow l us → from_below l (ts ++ us) ≡ us
from_below-is l [] us a h = from_below-begin l us h
from_below-is l (t ∷ ts) us a h = rw (lt_true l t.repetition a.0) (from_below-is l ts us a.1 h)

count_below-is : (l : ℕ) (ts us : List Triplet) → IsAbove l ts → count_below l (ts ++ us) ≡ count_below l us
count_below-is l [] us a = refl
count_below-is l (t ∷ ts) us a = rw (lt_true l t.repetition a.0) (count_below-is l ts us a.1)

pub first_piece-block : (l r d : ℕ) (ts us : List Triplet) → IsBlock l r d ts → BeginsBelow l us → first_piece l (ts ++ us) ≡ ts
first_piece-block l r d [] us b h = absurd b
first_piece-block l r d (t ∷ ts) us b h = ap (λ (xs : List Triplet). t ∷ xs) (above-is l ts us b.2 h)

pub later_pieces-block : (l r d : ℕ) (ts us : List Triplet) → IsBlock l r d ts → BeginsBelow l us → later_pieces l (ts ++ us) ≡ us
later_pieces-block l r d [] us b h = absurd b
later_pieces-block l r d (t ∷ ts) us b h = from_below-is l ts us b.2 h

pub count_pieces-block : (l r d : ℕ) (ts us : List Triplet) → IsBlock l r d ts → count_pieces l (ts ++ us) ≡ suc (count_below l us)
count_pieces-block l r d [] us b = absurd b
count_pieces-block l r d (t ∷ ts) us b = ap (λ (n : ℕ). suc n) (count_below-is l ts us b.2)

-- a block that begins below adds one
pub count_below-block : (l r d : ℕ) (ts us : List Triplet) → r ≤ l → IsBlock l r d ts → count_below l (ts ++ us) ≡ suc (count_below l us)
count_below-block l r d [] us h b = absurd b
count_below-block l r d (t ∷ ts) us h b =
    let g : t.repetition ≤ l = omega (arith, b.0) in
    rw (lt_false l t.repetition g) (ap (λ (n : ℕ). suc n) (count_below-is l ts us b.2))

pub first_definition-block : (l r d : ℕ) (ts us : List Triplet) → IsBlock l r d ts → d ≤ first_definition (ts ++ us)
first_definition-block l r d [] us b = absurd b
first_definition-block l r d (t ∷ ts) us b = b.1

-- ---- the pieces of strips

pub first_pieces-of : (l : ℕ) (c : List Step → List Triplet) (F : List (List Step)) → first_pieces l (strips_of c F) ≡ strips_of (λ (p : List Step). first_piece l (c p)) F
first_pieces-of l c [] = refl
first_pieces-of l c (p ∷ F) = ap (λ (S : List Strip). strip p (first_piece l (c p)) ∷ S) (first_pieces-of l c F)

pub other_pieces-of : (l : ℕ) (c : List Step → List Triplet) (F : List (List Step)) → other_pieces l (strips_of c F) ≡ strips_of (λ (p : List Step). later_pieces l (c p)) F
other_pieces-of l c [] = refl
other_pieces-of l c (p ∷ F) = ap (λ (S : List Strip). strip p (later_pieces l (c p)) ∷ S) (other_pieces-of l c F)
