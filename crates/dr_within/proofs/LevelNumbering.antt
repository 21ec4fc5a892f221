-- The numbers of levels by their paths are those that they have among the levels.
use Rattle.std.proofs.Common.{◌≡◌, ℕ, suc, ◌+◌, List, [], ◌∷◌, ◌++◌, refl, sym, ap, subst, ◌∙◌, append_assoc, append-nil, arith}
use Rattle.std.specs.Prelude.{⊤}
use Rattle.dr_meaning.specs.Schema.{Repetition, required, optional, repeated, Fields, no_fields, field, Shape, leaf, group, repetition_count, shape_repeated_fields}
use Rattle.dr_meaning.specs.Path.{Step}
use Rattle.dr_meaning.specs.Query.{Levels, no_levels, deeper, append_levels, as_level, levels_in, shape_levels, levels_of}
use Rattle.dr_made_laws.specs.ObjectFlow.{level_count}
use Rattle.dr_made_laws.proofs.LevelLemmas.{count_field, AllBelow, shape_below}
use Rattle.dr_kept_laws.specs.ChainNumbers.{numbers_in, shape_numbers, own_number}
use Rattle.dr_within.specs.LevelTable.{last_or, level_number}

-- each of these levels, of which the first has the number k, has its number by its path
abbrev pub HaveNumbers : (List Step → ℕ) → ℕ → Levels → Type 0
HaveNumbers N k no_levels = ⊤
HaveNumbers N k (deeper n p below beside) = (N p ≡ k) × HaveNumbers N (suc k) below × HaveNumbers N (suc k + level_count below) beside

-- the paths below a level go on from its own
abbrev pub AreInside : Levels → Type 0
AreInside no_levels = ⊤
AreInside (deeper n p below beside) = AllBelow p below × AreInside below × AreInside beside

-- ---- numbers

numbers_append : (N : List Step → ℕ) (A B : Levels) (k : ℕ) → HaveNumbers N k A → HaveNumbers N (k + level_count A) B → HaveNumbers N k (append_levels A B)
numbers_append N no_levels B k a b = let z : k + 0 ≡ k = omega arith in subst (λ (j : ℕ). HaveNumbers N j B) z b
numbers_append N (deeper n p below A) B k a b =
    let z : k + suc (level_count below + level_count A) ≡ suc k + level_count below + level_count A = omega arith in
    (a.0, a.1, numbers_append N A B (suc k + level_count below) a.2 (subst (λ (j : ℕ). HaveNumbers N j B) z b))

no_further : (s : Shape) (k d : ℕ) → last_or d (shape_numbers s k []) ≡ d
no_further (leaf j) k d = refl
no_further (group no_fields) k d = refl
no_further (group (field m r s fs)) k d = refl

number_as : (N : List Step → ℕ) (r : Repetition) (s : Shape) (names : List (List ℕ)) (q : List Step) (k d : ℕ) (own passed : Levels)
    → ((f : List Step) → N (q ++ f) ≡ last_or d (own_number r k (λ j. shape_numbers s j f)))
    → (((f : List Step) → N (q ++ f) ≡ last_or k (shape_numbers s (suc k) f)) → HaveNumbers N (suc k) own)
    → (((f : List Step) → N (q ++ f) ≡ last_or d (shape_numbers s k f)) → HaveNumbers N k passed)
    → HaveNumbers N k (as_level r names q own passed)
number_as N required s names q k d own passed h f g = g h
number_as N optional s names q k d own passed h f g = g h
number_as N repeated s names q k d own passed h f g = (ap N (sym (append-nil q)) ∙ h [] ∙ no_further s (suc k) k, f h, tt)

mutual
  -- in a group below a path, from its field at place i on: what a path adds from there gives its number
  number_levels : (fs : Fields) (N : List Step → ℕ) (i : ℕ) (ns : List (List ℕ)) (p : List Step) (k d : ℕ)
      → ((j : ℕ) (r : Repetition) (f : List Step) → N (p ++ record { place = i + j; repetition = r } ∷ f) ≡ last_or d (numbers_in fs k (record { place = j; repetition = r } ∷ f)))
      → HaveNumbers N k (levels_in fs i ns p)
  number_levels no_fields N i ns p k d h = tt
  number_levels (field m r s fs) N i ns p k d h =
      let t : Step = record { place = i; repetition = r } in
      let q : List Step = p ++ record { place = i; repetition = r } ∷ [] in
      let own : Levels = shape_levels s [] q in
      let passed : Levels = shape_levels s (ns ++ m ∷ []) q in
      let first : i + 0 ≡ i = omega arith in
      let here : (f : List Step) → N (q ++ f) ≡ last_or d (own_number r k (λ j. shape_numbers s j f)) =
      λ f. ap N (append_assoc p (t ∷ []) f) ∙ (ap (λ (x : ℕ). N (p ++ record { place = x; repetition = r } ∷ f)) (sym first) ∙ h 0 r f) in
      let later : (j : ℕ) (x : Repetition) (f : List Step) → N (p ++ record { place = suc i + j; repetition = x } ∷ f)
      ≡ last_or d (numbers_in fs (k + (repetition_count r + shape_repeated_fields s)) (record { place = j; repetition = x } ∷ f)) =
      λ j x f. let e : suc i + j ≡ i + suc j = omega arith in ap (λ (y : ℕ). N (p ++ record { place = y; repetition = x } ∷ f)) e ∙ h (suc j) x f in
      numbers_append N (as_level r (ns ++ m ∷ []) q own passed) (levels_in fs (suc i) ns p) k
      (number_as N r s (ns ++ m ∷ []) q k d own passed here (λ g. number_shape s N [] q (suc k) k g) (λ g. number_shape s N (ns ++ m ∷ []) q k d g))
      (subst (λ (c : ℕ). HaveNumbers N (k + c) (levels_in fs (suc i) ns p)) (sym (count_field m r s i ns q))
      (number_levels fs N (suc i) ns p (k + (repetition_count r + shape_repeated_fields s)) d later))

  number_shape : (s : Shape) (N : List Step → ℕ) (ns : List (List ℕ)) (p : List Step) (k d : ℕ)
      → ((f : List Step) → N (p ++ f) ≡ last_or d (shape_numbers s k f)) → HaveNumbers N k (shape_levels s ns p)
  number_shape (leaf j) N ns p k d h = tt
  number_shape (group fs) N ns p k d h =
      number_levels fs N 0 ns p k d (λ j r f. let e : 0 + j ≡ j = omega arith in ap (λ (x : ℕ). N (p ++ record { place = x; repetition = r } ∷ f)) e ∙ h (record { place = j; repetition = r } ∷ f))

pub levels_have_numbers : (fs : Fields) → HaveNumbers (level_number fs) 1 (levels_of fs)
levels_have_numbers fs =
    number_levels fs (level_number fs) 0 [] [] 1 0
    (λ j r f. let e : 0 + j ≡ j = omega arith in ap (λ (x : ℕ). level_number fs (record { place = x; repetition = r } ∷ f)) e)

-- ---- paths

inside_append : (A B : Levels) → AreInside A → AreInside B → AreInside (append_levels A B)
inside_append no_levels B a b = b
inside_append (deeper n p below A) B a b = (a.0, a.1, inside_append A B a.2 b)

inside_as : (r : Repetition) (names : List (List ℕ)) (q : List Step) (own passed : Levels) → AllBelow q own → AreInside own → AreInside passed → AreInside (as_level r names q own passed)
inside_as required names q own passed b f g = g
inside_as optional names q own passed b f g = g
inside_as repeated names q own passed b f g = (b, f, tt)

mutual
  inside_levels : (fs : Fields) (i : ℕ) (ns : List (List ℕ)) (p : List Step) → AreInside (levels_in fs i ns p)
  inside_levels no_fields i ns p = tt
  inside_levels (field m r s fs) i ns p =
      let q : List Step = p ++ record { place = i; repetition = r } ∷ [] in
      inside_append (as_level r (ns ++ m ∷ []) q (shape_levels s [] q) (shape_levels s (ns ++ m ∷ []) q)) (levels_in fs (suc i) ns p)
      (inside_as r (ns ++ m ∷ []) q (shape_levels s [] q) (shape_levels s (ns ++ m ∷ []) q) (shape_below s [] q) (inside_shape s [] q) (inside_shape s (ns ++ m ∷ []) q))
      (inside_levels fs (suc i) ns p)

  inside_shape : (s : Shape) (ns : List (List ℕ)) (p : List Step) → AreInside (shape_levels s ns p)
  inside_shape (leaf j) ns p = tt
  inside_shape (group fs) ns p = inside_levels fs 0 ns p

pub levels_are_inside : (fs : Fields) → AreInside (levels_of fs)
levels_are_inside fs = inside_levels fs 0 [] []
