-- What was read of leaves, by the lists of their numbers.
use Rattle.std.proofs.Common.{◌≡◌, ◌≤◌, ℕ, max, List, [], ◌∷◌, ◌++◌, Bool, true, false, ◌||◌, ◌==◌, Option, Some, None, refl, sym, ap, subst, arith}
use Rattle.std.specs.List.{list_all, list_any, slice_get}
use Rattle.std.proofs.lemmas.Bool.{eqb-true}
use Rattle.std.proofs.lemmas.Bool.Decides.{nat_tests}
use Rattle.dr_meaning.specs.Path.{Leaf}
use Rattle.dr_meaning.specs.Record.{Value, Node}
use Rattle.dr_meaning.specs.Rows.{value_at}
use Rattle.dr_plan.specs.Views.{path_of}
use Rattle.dr_scalar.specs.Leaves.{greater, greatest}
use Rattle.dr_scalar.specs.LeafLaws.{AreRead}
use Rattle.dr_scalar.proofs.LeafLemmas.{first_holds, second_holds}

-- ---- of two lists

pub first_read : (ls : List Leaf) (ks js : List ℕ) (read : ℕ → Option Value) (row : Node) → AreRead ls (ks ++ js) read row → AreRead ls ks read row
first_read ls [] js read row h = tt
first_read ls (k ∷ ks) js read row h = (h.0, first_read ls ks js read row h.1)

pub second_read : (ls : List Leaf) (ks js : List ℕ) (read : ℕ → Option Value) (row : Node) → AreRead ls (ks ++ js) read row → AreRead ls js read row
second_read ls [] js read row h = h
second_read ls (k ∷ ks) js read row h = second_read ls ks js read row h.1

pub both_read : (ls : List Leaf) (ks js : List ℕ) (read : ℕ → Option Value) (row : Node) → AreRead ls ks read row → AreRead ls js read row → AreRead ls (ks ++ js) read row
both_read ls [] js read row h g = g
both_read ls (k ∷ ks) js read row h g = (h.0, both_read ls ks js read row h.1 g)

-- ---- one by one

-- what was read of a leaf is its value in the row
abbrev pub IsRead : List Leaf → (ℕ → Option Value) → Node → ℕ → Type 0
IsRead ls read row k = read k ≡ value_at (path_of (slice_get ls k)) row

abbrev pub is_among : ℕ → List ℕ → Bool
is_among k ks = list_any (λ j. k == j) ks

pub one_read : (ls : List Leaf) (ks : List ℕ) (read : ℕ → Option Value) (row : Node) (k : ℕ) → AreRead ls ks read row → is_among k ks ≡ true → IsRead ls read row k
one_read ls [] read row k h g = cc
one_read ls (j ∷ ks) read row k h g = by (k == j) refl g (one_read ls ks read row k h.1)
  where
    by : (b : Bool) → (k == j) ≡ b → (b || is_among k ks) ≡ true → (is_among k ks ≡ true → IsRead ls read row k) → IsRead ls read row k
    by true e m r = subst (IsRead ls read row) (sym (eqb-true k j e)) h.0
    by false e m r = r m

same_number : (k : ℕ) → (k == k) ≡ true
same_number k = grind (arith, nat_tests)

or_second : (a b : Bool) → b ≡ true → (a || b) ≡ true
or_second true b h = refl
or_second false b h = h

pub each_read : (ls : List Leaf) (ks : List ℕ) (read : ℕ → Option Value) (row : Node) → ((k : ℕ) → is_among k ks ≡ true → IsRead ls read row k) → AreRead ls ks read row
each_read ls [] read row h = tt
each_read ls (j ∷ ks) read row h =
    (h j (ap (λ b. b || is_among j ks) (same_number j)), each_read ls ks read row (λ k m. h k (or_second (k == j) (is_among k ks) m)))

-- those of a list all of whose numbers are in another
pub part_read : (ls : List Leaf) (ks js : List ℕ) (read : ℕ → Option Value) (row : Node) → list_all (λ k. is_among k js) ks ≡ true → AreRead ls js read row → AreRead ls ks read row
part_read ls [] js read row h g = tt
part_read ls (k ∷ ks) js read row h g =
    (one_read ls js read row k g (first_holds (is_among k js) (list_all (λ k. is_among k js) ks) h), part_read ls ks js read row (second_holds (is_among k js) (list_all (λ k. is_among k js) ks) h) g)

-- ---- up to the leaf that is read last

some_greatest : (k : ℕ) (o : Option ℕ) → greater (Some k) o ≡ None → ⊥
some_greatest k None h = cc
some_greatest k (Some j) h = cc

pub none_to_read : (ls : List Leaf) (ks : List ℕ) (read : ℕ → Option Value) (row : Node) → greatest ks ≡ None → AreRead ls ks read row
none_to_read ls [] read row h = tt
none_to_read ls (k ∷ ks) read row h = absurd (some_greatest k (greatest ks) h)

-- where each leaf was read up to the last of these, all of these were
pub read_to_last : (ls : List Leaf) (ks : List ℕ) (n : ℕ) (read : ℕ → Option Value) (row : Node) → greatest ks ≡ Some n → ((k : ℕ) → k ≤ n → IsRead ls read row k) → AreRead ls ks read row
read_to_last ls [] n read row e h = tt
read_to_last ls (k ∷ ks) n read row e h = by (greatest ks) refl e (none_to_read ls ks read row) (λ m. read_to_last ls ks m read row)
  where
    by : (o : Option ℕ) → greatest ks ≡ o → greater (Some k) o ≡ Some n → (greatest ks ≡ None → AreRead ls ks read row)
        → ((m : ℕ) → greatest ks ≡ Some m → ((j : ℕ) → j ≤ m → IsRead ls read row j) → AreRead ls ks read row) → AreRead ls (k ∷ ks) read row
    by None f g a b = let q : k ≡ n = cc in (h k (omega (arith, q)), a f)
    by (Some m) f g a b = let q : max k m ≡ n = cc in (h k (omega (arith, q)), b m f (λ j l. h j (omega (arith, q, l))))
