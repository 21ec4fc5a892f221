-- What lies behind the columns of the first records: where records have it, all have what was given; where none have it, none have that.
use Rattle.std.proofs.Common.{◌≡◌, ◌<◌, ◌≤◌, ◌+◌, ◌⊎◌, inl, inr, ℕ, zero, suc, List, [], ◌∷◌, ◌++◌, map, length, drop, Bool, true, false, refl, sym, ap, ap₂, subst, ◌∙◌, append_assoc, length-append, length-drop, arith}
use Rattle.std.specs.Prelude.{◌==◌, if◌then◌else◌}
use Rattle.std.specs.List.{list_all}
use Rattle.std.proofs.lemmas.Bool.{and_parts, and_from, cases_lt}
use Rattle.std.proofs.lemmas.List.{get_or_past, length-map}
use Rattle.dr_meaning.specs.Schema.{Fields}
use Rattle.dr_meaning.specs.Path.{Step, is_leaf_path}
use Rattle.dr_meaning.specs.Record.{Node, is_record}
use Rattle.dr_meaning.specs.Column.{Triplet, column}
use Rattle.dr_meaning.specs.OneColumn.{starts, begins_record}
use Rattle.dr_meaning.proofs.ColumnStarts.{column_rows}
use Rattle.dr_moves.specs.Leading.{Left, columns_of, has_columns}
use Rattle.dr_beside.specs.Chunks.{HasColumns, NoneHas}
use Rattle.dr_beside.proofs.ChunkLemmas.{column_of_both, column_of_cut}
use Rattle.dr_agreement.specs.Behind.{GoesOn, IsBehind}

-- ---- columns of records by their numbers

abbrev pub path_columns : List (List Step) → List Node → List (List Triplet)
path_columns F R = map (λ (p : List Step). column p R) F

nil_of : (i : ℕ) → columns_of [] i ≡ []
nil_of zero = refl
nil_of (suc i) = refl

pub columns_of_both : (F : List (List Step)) (R S : List Node) (i : ℕ) → has_columns F (R ++ S) i ≡ has_columns F R i ++ has_columns F S i
columns_of_both [] R S i = nil_of i ∙ sym (ap₂ (λ (xs ys : List Triplet). xs ++ ys) (nil_of i) (nil_of i))
columns_of_both (p ∷ F) R S zero = column_of_both p R S
columns_of_both (p ∷ F) R S (suc i) = columns_of_both F R S i

-- a column of records begins as many records
starts_of_records : (fs : Fields) (F : List (List Step)) (R : List Node) (i : ℕ) → list_all (is_leaf_path fs) F ≡ true → list_all (is_record fs) R ≡ true → i < length F → starts (has_columns F R i) ≡ length R
starts_of_records fs [] R i h v l = absurd (omega (arith, l))
starts_of_records fs (p ∷ F) R zero h v l = (column_rows fs p R (and_parts (is_leaf_path fs p) (list_all (is_leaf_path fs) F) h).0 v).0
starts_of_records fs (p ∷ F) R (suc i) h v l = starts_of_records fs F R i (and_parts (is_leaf_path fs p) (list_all (is_leaf_path fs) F) h).1 v (omega (arith, l))

-- and has at least one triplet of each
one_start : (b : Bool) (m n : ℕ) → m ≤ n → (if b then 1 else 0) + m ≤ suc n
one_start true m n h = omega (arith, h)
one_start false m n h = omega (arith, h)

as_many_starts : (ts : List Triplet) → starts ts ≤ length ts
as_many_starts [] = omega arith
as_many_starts (t ∷ ts) = one_start (t.repetition == 0) (starts ts) (length ts) (as_many_starts ts)

pub records_within : (fs : Fields) (F : List (List Step)) (R : List Node) (n : ℕ) → list_all (is_leaf_path fs) F ≡ true → list_all (is_record fs) R ≡ true → 0 < length F → ((i : ℕ) → length (has_columns F R i) ≤ n) → length R ≤ n
records_within fs F R n h v l few = let a = starts_of_records fs F R 0 h v l in let b = as_many_starts (has_columns F R 0) in let c = few 0 in omega (arith, a, b, c)

-- behind so many records, where one begins, the others have what comes
cut_at : (fs : Fields) (F : List (List Step)) (Q : List Node) (i : ℕ) (ts us : List Triplet) → list_all (is_leaf_path fs) F ≡ true → list_all (is_record fs) Q ≡ true → i < length F → has_columns F Q i ≡ ts ++ us → begins_record us ≡ true
    → has_columns F (drop (starts ts) Q) i ≡ us
cut_at fs [] Q i ts us h v l e b = absurd (omega (arith, l))
cut_at fs (p ∷ F) Q zero ts us h v l e b = (column_of_cut fs p Q ts us (and_parts (is_leaf_path fs p) (list_all (is_leaf_path fs) F) h).0 v e b).1
cut_at fs (p ∷ F) Q (suc i) ts us h v l e b = cut_at fs F Q i ts us (and_parts (is_leaf_path fs p) (list_all (is_leaf_path fs) F) h).1 v (omega (arith, l)) e b

all_drop : {A : Type 0} (test : A → Bool) (k : ℕ) (xs : List A) → list_all test xs ≡ true → list_all test (drop k xs) ≡ true
all_drop test zero xs h = h
all_drop test (suc k) [] h = refl
all_drop test (suc k) (x ∷ xs) h = all_drop test k xs (and_parts (test x) (list_all test xs) h).1

all_both : {A : Type 0} (test : A → Bool) (xs ys : List A) → list_all test xs ≡ true → list_all test ys ≡ true → list_all test (xs ++ ys) ≡ true
all_both test [] ys h g = g
all_both test (x ∷ xs) ys h g = let k = and_parts (test x) (list_all test xs) h in and_from _ _ k.0 (all_both test xs ys k.1 g)

nothing_at : (F : List (List Step)) (R : List Node) (i : ℕ) → length F ≤ i → has_columns F R i ≡ []
nothing_at F R i l = let n = length-map F (λ (p : List Step). column p R) in get_or_past (path_columns F R) i [] (omega (arith, l, n))

-- ---- behind a front

-- records that have what lies behind it, and those of the front, have all
pub both_have : (fs : Fields) (F : List (List Step)) (rows : ℕ) (given back : Left) (ends : ℕ → Bool) (R S : List Node) (left : ℕ) (C : List (List Triplet)) → IsBehind fs F rows given back ends R left → HasColumns fs F C left S
    → ((i : ℕ) → columns_of C i ≡ back i) → HasColumns fs F (path_columns F (R ++ S)) rows (R ++ S) × ((i : ℕ) → columns_of (path_columns F (R ++ S)) i ≡ given i)
both_have fs F rows given back ends R S left C h has is = (
  (all_both (is_record fs) R S h.are_records has.0, (let c = h.count in let n = length-append R S in let m = has.1 in omega (arith, c, n, m)), refl),
  λ i. columns_of_both F R S i ∙ (ap (λ (xs : List Triplet). has_columns F R i ++ xs) (ap (λ (D : List (List Triplet)). columns_of D i) has.2 ∙ is i) ∙ sym (h.lies i)),
)

-- where none have what lies behind it, however it goes on, none have all
pub none_before : (fs : Fields) (F : List (List Step)) (rows : ℕ) (given back : Left) (ends : ℕ → Bool) (R : List Node) (left : ℕ) → IsBehind fs F rows given back ends R left → list_all (is_leaf_path fs) F ≡ true
    → ((C : List (List Triplet)) (later : Left) → GoesOn (length F) back ends C later → NoneHas fs F C left) → (C : List (List Triplet)) (later : Left) → GoesOn (length F) given ends C later → NoneHas fs F C rows
none_before fs F rows given back ends R left h leaf none C later on Q has =
    none (path_columns F rest) later (length-map F (λ (p : List Step). column p rest), λ i. by_side i (cases_lt i (length F)), on.2) rest (
      all_drop (is_record fs) (length R) Q has.0,
      (let n = length-drop (length R) Q in let m = has.1 in let c = h.count in omega (arith, n, m, c)),
      refl,
    )
  where
    rest : List Node
    rest = drop (length R) Q

    whole : (i : ℕ) → has_columns F Q i ≡ has_columns F R i ++ (back i ++ later i)
    whole i = ap (λ (D : List (List Triplet)). columns_of D i) has.2 ∙ (on.1 i ∙ (ap (λ (xs : List Triplet). xs ++ later i) (h.lies i) ∙ append_assoc (has_columns F R i) (back i) (later i)))

    by_side : (i : ℕ) → (i < length F) ⊎ (length F ≤ i) → has_columns F (drop (length R) Q) i ≡ back i ++ later i
    by_side i (inl l) =
        subst (λ (n : ℕ). has_columns F (drop n Q) i ≡ back i ++ later i) (starts_of_records fs F R i leaf h.are_records l)
        (cut_at fs F Q i (has_columns F R i) (back i ++ later i) leaf has.0 l (whole i) (h.begins C later on Q has i l))
    by_side i (inr l) = nothing_at F (drop (length R) Q) i l ∙ back_none (has_columns F R i) (back i) (later i) (nothing_at F R i l) (sym (whole i) ∙ nothing_at F Q i l)
      where
        back_none : (xs ys zs : List Triplet) → xs ≡ [] → xs ++ (ys ++ zs) ≡ [] → [] ≡ ys ++ zs
        back_none [] ys zs e q = sym q
        back_none (x ∷ xs) ys zs e q = absurd (cc)
