-- Levels and their numbers: each level comes before those below it, and these before those beside it.
use Rattle.std.proofs.Common.{◌≡◌, ℕ, suc, ◌+◌, ◌<◌, ◌≤◌, List, [], ◌∷◌, ◌++◌, Bool, true, false, Option, Some, refl, sym, ap, ap₂, ◌∙◌, append_assoc, append-nil, arith}
use Rattle.std.specs.Prelude.{◌==◌, nat_lt, if◌then◌else◌}
use Rattle.std.proofs.lemmas.Bool.{eq-eqb, ne_eqb, ltb-true, ltb-false}
use Rattle.dr_meaning.specs.Schema.{Repetition, required, optional, repeated, Fields, no_fields, field, Shape, leaf, group, repetition_count, repeated_fields, shape_repeated_fields}
use Rattle.dr_meaning.specs.Path.{Step}
use Rattle.dr_meaning.specs.Query.{Levels, no_levels, deeper, append_levels, as_level, levels_in, shape_levels}
use Rattle.dr_made_laws.specs.ObjectFlow.{Level, level_count, level_from}

-- ---- how many

pub count_append : (A B : Levels) → level_count (append_levels A B) ≡ level_count A + level_count B
count_append no_levels B = omega arith
count_append (deeper n p below A) B = omega (arith, count_append A B)

count_as : (r : Repetition) (n : List (List ℕ)) (p : List Step) (own passed : Levels) (c : ℕ) → level_count own ≡ c → level_count passed ≡ c → level_count (as_level r n p own passed) ≡ repetition_count r + c
count_as required n p own passed c e f = omega (arith, f)
count_as optional n p own passed c e f = omega (arith, f)
count_as repeated n p own passed c e f = omega (arith, e)

mutual
  pub count_levels : (fs : Fields) (i : ℕ) (ns : List (List ℕ)) (p : List Step) → level_count (levels_in fs i ns p) ≡ repeated_fields fs
  count_levels no_fields i ns p = refl
  count_levels (field m r s fs) i ns p =
      let q : List Step = p ++ record { place = i; repetition = r } ∷ [] in
      count_append (as_level r (ns ++ m ∷ []) q (shape_levels s [] q) (shape_levels s (ns ++ m ∷ []) q)) (levels_in fs (suc i) ns p)
      ∙ ap₂ (λ (a b : ℕ). a + b) (count_as r (ns ++ m ∷ []) q (shape_levels s [] q) (shape_levels s (ns ++ m ∷ []) q) (shape_repeated_fields s) (count_shape s [] q) (count_shape s (ns ++ m ∷ []) q))
      (count_levels fs (suc i) ns p)

  pub count_shape : (s : Shape) (ns : List (List ℕ)) (p : List Step) → level_count (shape_levels s ns p) ≡ shape_repeated_fields s
  count_shape (leaf k) ns p = refl
  count_shape (group fs) ns p = count_levels fs 0 ns p

-- how many are in a field
pub count_field : (m : List ℕ) (r : Repetition) (s : Shape) (i : ℕ) (ns : List (List ℕ)) (q : List Step) → level_count (as_level r (ns ++ m ∷ []) q (shape_levels s [] q) (shape_levels s (ns ++ m ∷ []) q)) ≡ repetition_count r + shape_repeated_fields s
count_field m r s i ns q = count_as r (ns ++ m ∷ []) q (shape_levels s [] q) (shape_levels s (ns ++ m ∷ []) q) (shape_repeated_fields s) (count_shape s [] q) (count_shape s (ns ++ m ∷ []) q)

-- ---- the level with a number

abbrev pub chosen : Bool → Bool → Option Level → Option Level → Option Level → Option Level
chosen here inside a b c = if here then a else if inside then b else c

pub from_first : (A B : Levels) (k i : ℕ) → k ≤ i → i < k + level_count A → level_from k (append_levels A B) i ≡ level_from k A i
from_first no_levels B k i h g = absurd (omega (arith, h, g))
from_first (deeper n p below A) B k i h g = by_place (i == k) (nat_lt i (suc k + level_count below)) refl (λ l. from_first A B (suc k + level_count below) i l (omega (arith, g)))
  where
    by_place : (b d : Bool) → nat_lt i (suc k + level_count below) ≡ d → (suc k + level_count below ≤ i → level_from (suc k + level_count below) (append_levels A B) i ≡ level_from (suc k + level_count below) A i)
        → chosen b d (Some (record { path = p; below = below })) (level_from (suc k) below i) (level_from (suc k + level_count below) (append_levels A B) i)
        ≡ chosen b d (Some (record { path = p; below = below })) (level_from (suc k) below i) (level_from (suc k + level_count below) A i)
    by_place true d f r = refl
    by_place false true f r = refl
    by_place false false f r = r (ltb-false _ _ f)

pub from_second : (A B : Levels) (k i : ℕ) → k + level_count A ≤ i → level_from k (append_levels A B) i ≡ level_from (k + level_count A) B i
from_second no_levels B k i h = ap (λ (j : ℕ). level_from j B i) (omega arith)
from_second (deeper n p below A) B k i h =
    ap₂ (λ (b d : Bool). chosen b d (Some (record { path = p; below = below })) (level_from (suc k) below i) (level_from (suc k + level_count below) (append_levels A B) i))
    (ne_eqb i k (omega (arith, h))) (not_below i (suc k + level_count below) (omega (arith, h)))
    ∙ from_second A B (suc k + level_count below) i (omega (arith, h))
    ∙ ap (λ (j : ℕ). level_from j B i) (omega arith)
  where
    not_below : (a b : ℕ) → b ≤ a → nat_lt a b ≡ false
    not_below a b h = by_test (nat_lt a b) refl
      where
        by_test : (d : Bool) → nat_lt a b ≡ d → d ≡ false
        by_test false e = refl
        by_test true e = absurd (omega (arith, h, ltb-true a b e))

-- these levels have their numbers among all, from k on
abbrev pub Numbered : Levels → ℕ → Levels → Type 0
Numbered all k ls = (i : ℕ) → k ≤ i → i < k + level_count ls → level_from 1 all i ≡ level_from k ls i

pub numbered_first : (all A B : Levels) (k : ℕ) → Numbered all k (append_levels A B) → Numbered all k A
numbered_first all A B k f i h g = f i h (omega (arith, g, count_append A B)) ∙ from_first A B k i h g

pub numbered_second : (all A B : Levels) (k : ℕ) → Numbered all k (append_levels A B) → Numbered all (k + level_count A) B
numbered_second all A B k f i h g = f i (omega (arith, h)) (omega (arith, g, count_append A B)) ∙ from_second A B k i h

pub numbered_here : (all : Levels) (k : ℕ) (n : List (List ℕ)) (p : List Step) (below beside : Levels) → Numbered all k (deeper n p below beside) → level_from 1 all k ≡ Some (record { path = p; below = below })
numbered_here all k n p below beside f =
    f k (omega arith) (omega arith)
    ∙ ap (λ (b : Bool). chosen b (nat_lt k (suc k + level_count below)) (Some (record { path = p; below = below })) (level_from (suc k) below k) (level_from (suc k + level_count below) beside k)) (eq-eqb k k refl)

pub numbered_below : (all : Levels) (k : ℕ) (n : List (List ℕ)) (p : List Step) (below beside : Levels) → Numbered all k (deeper n p below beside) → Numbered all (suc k) below
numbered_below all k n p below beside f i h g =
    f i (omega (arith, h)) (omega (arith, g))
    ∙ ap₂ (λ (b d : Bool). chosen b d (Some (record { path = p; below = below })) (level_from (suc k) below i) (level_from (suc k + level_count below) beside i))
    (ne_eqb i k (omega (arith, h))) (is_below i (suc k + level_count below) g)
  where
    is_below : (a b : ℕ) → a < b → nat_lt a b ≡ true
    is_below a b h = by_test (nat_lt a b) refl
      where
        by_test : (d : Bool) → nat_lt a b ≡ d → d ≡ true
        by_test true e = refl
        by_test false e = absurd (omega (arith, h, ltb-false a b e))

-- ---- their paths

-- each path goes on from this one, or is it
abbrev pub AllFrom : List Step → Levels → Type 0
AllFrom pre no_levels = Unit {0}
AllFrom pre (deeper n p below beside) = ((q : List Step) × (p ≡ pre ++ q)) × AllFrom pre below × AllFrom pre beside

-- each goes on further
abbrev pub AllBelow : List Step → Levels → Type 0
AllBelow pre no_levels = Unit {0}
AllBelow pre (deeper n p below beside) = ((s : Step) × (q : List Step) × (p ≡ pre ++ s ∷ q)) × AllBelow pre below × AllBelow pre beside

from_below : (pre : List Step) (ls : Levels) → AllBelow pre ls → AllFrom pre ls
from_below pre no_levels h = tt
from_below pre (deeper n p below beside) h = ((h.0.0 ∷ h.0.1, h.0.2), from_below pre below h.1, from_below pre beside h.2)

below_from : (pre : List Step) (s : Step) (ls : Levels) → AllFrom (pre ++ s ∷ []) ls → AllBelow pre ls
below_from pre s no_levels h = tt
below_from pre s (deeper n p below beside) h = ((s, h.0.0, h.0.1 ∙ append_assoc pre (s ∷ []) h.0.0), below_from pre s below h.1, below_from pre s beside h.2)

below_append : (pre : List Step) (A B : Levels) → AllBelow pre A → AllBelow pre B → AllBelow pre (append_levels A B)
below_append pre no_levels B h g = g
below_append pre (deeper n p below A) B h g = (h.0, h.1, below_append pre A B h.2 g)

from_as : (r : Repetition) (n : List (List ℕ)) (p : List Step) (own passed : Levels) → AllBelow p own → AllBelow p passed → AllFrom p (as_level r n p own passed)
from_as required n p own passed h g = from_below p passed g
from_as optional n p own passed h g = from_below p passed g
from_as repeated n p own passed h g = (([], sym (append-nil p)), from_below p own h, tt)

mutual
  pub levels_below : (fs : Fields) (i : ℕ) (ns : List (List ℕ)) (p : List Step) → AllBelow p (levels_in fs i ns p)
  levels_below no_fields i ns p = tt
  levels_below (field m r s fs) i ns p =
      let t : Step = record { place = i; repetition = r } in
      let q : List Step = p ++ record { place = i; repetition = r } ∷ [] in
      below_append p (as_level r (ns ++ m ∷ []) q (shape_levels s [] q) (shape_levels s (ns ++ m ∷ []) q)) (levels_in fs (suc i) ns p)
      (below_from p t (as_level r (ns ++ m ∷ []) q (shape_levels s [] q) (shape_levels s (ns ++ m ∷ []) q))
      (from_as r (ns ++ m ∷ []) q (shape_levels s [] q) (shape_levels s (ns ++ m ∷ []) q) (shape_below s [] q) (shape_below s (ns ++ m ∷ []) q)))
      (levels_below fs (suc i) ns p)

  pub shape_below : (s : Shape) (ns : List (List ℕ)) (p : List Step) → AllBelow p (shape_levels s ns p)
  shape_below (leaf k) ns p = tt
  shape_below (group fs) ns p = levels_below fs 0 ns p

-- those in a field
pub field_from : (m : List ℕ) (r : Repetition) (s : Shape) (ns : List (List ℕ)) (q : List Step) → AllFrom q (as_level r (ns ++ m ∷ []) q (shape_levels s [] q) (shape_levels s (ns ++ m ∷ []) q))
field_from m r s ns q = from_as r (ns ++ m ∷ []) q (shape_levels s [] q) (shape_levels s (ns ++ m ∷ []) q) (shape_below s [] q) (shape_below s (ns ++ m ∷ []) q)

-- the path of one of them that has a number
pub numbered_deeper : (pre : List Step) (ls : Levels) → AllBelow pre ls → (k i : ℕ) (l : Level) → level_from k ls i ≡ Some l → (s : Step) × (q : List Step) × (l.path ≡ pre ++ s ∷ q)
numbered_deeper pre no_levels h k i l e = absurd (cc)
numbered_deeper pre (deeper n p below beside) h k i l e = by_place (i == k) (nat_lt i (suc k + level_count below)) e (λ f. numbered_deeper pre below h.1 (suc k) i l f) (λ f. numbered_deeper pre beside h.2 (suc k + level_count below) i l f)
  where
    same : (a b : Level) → Some a ≡ Some b → a ≡ b
    same a b e = cc

    by_place : (b d : Bool) → chosen b d (Some (record { path = p; below = below })) (level_from (suc k) below i) (level_from (suc k + level_count below) beside i) ≡ Some l
        → (level_from (suc k) below i ≡ Some l → (s : Step) × (q : List Step) × (l.path ≡ pre ++ s ∷ q)) → (level_from (suc k + level_count below) beside i ≡ Some l → (s : Step) × (q : List Step) × (l.path ≡ pre ++ s ∷ q))
        → (s : Step) × (q : List Step) × (l.path ≡ pre ++ s ∷ q)
    by_place true d e f g = (h.0.0, h.0.1, ap (λ (x : Level). x.path) (sym (same (record { path = p; below = below }) l e)) ∙ h.0.2)
    by_place false true e f g = f e
    by_place false false e f g = g e
