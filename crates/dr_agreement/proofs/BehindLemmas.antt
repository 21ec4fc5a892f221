-- Columns of which a front was taken.
use Rattle.std.proofs.Common.{◌≡◌, ◌≢◌, ◌<◌, ◌≤◌, ◌+◌, ◌⊎◌, inl, inr, ℕ, zero, suc, List, [], ◌∷◌, ◌++◌, map, length, Bool, true, false, refl, sym, ap, ap₂, subst, ◌∙◌, append-nil, append_assoc, length-append, true≢false, arith}
use Rattle.std.specs.Prelude.{◌==◌, if◌then◌else◌}
use Rattle.std.specs.List.{list_all}
use Rattle.std.proofs.lemmas.Bool.{and_parts, and_from, eqb-true, cases_lt}
use Rattle.std.proofs.lemmas.Bool.Decides.{nat_tests}
use Rattle.std.proofs.lemmas.List.{get_or_past, length-map}
use Rattle.dr_meaning.specs.Schema.{Fields}
use Rattle.dr_meaning.specs.Path.{Step, is_leaf_path}
use Rattle.dr_meaning.specs.Record.{Node, is_record}
use Rattle.dr_meaning.specs.Column.{Triplet, column}
use Rattle.dr_meaning.specs.OneColumn.{starts, begins_record}
use Rattle.dr_meaning.proofs.ColumnStarts.{starts_append, column_rows}
use Rattle.dr_moves.specs.Leading.{Left, columns_of, has_columns}
use Rattle.dr_beside.specs.Chunks.{HasColumns, NoneHas, IsChunk, AreChunks}
use Rattle.dr_beside.proofs.ChunkLemmas.{column_of_both, none_has_chunk}
use Rattle.dr_agreement.specs.Behind.{GoesOn, IsMore, IsBehind, IsFront}

-- ---- columns of records by their numbers

abbrev path_columns : List (List Step) → List Node → List (List Triplet)
path_columns F R = map (λ (p : List Step). column p R) F

none_of_none : (F : List (List Step)) (i : ℕ) → has_columns F [] i ≡ []
none_of_none [] i = nil_at i
  where
    nil_at : (i : ℕ) → columns_of [] i ≡ []
    nil_at zero = refl
    nil_at (suc i) = refl
none_of_none (p ∷ F) zero = refl
none_of_none (p ∷ F) (suc i) = none_of_none F i

nil_of : (i : ℕ) → columns_of [] i ≡ []
nil_of zero = refl
nil_of (suc i) = refl

both_at : (F : List (List Step)) (R S : List Node) (i : ℕ) → has_columns F (R ++ S) i ≡ has_columns F R i ++ has_columns F S i
both_at [] R S i = nil_of i ∙ sym (ap₂ (λ (xs ys : List Triplet). xs ++ ys) (nil_of i) (nil_of i))
both_at (p ∷ F) R S zero = column_of_both p R S
both_at (p ∷ F) R S (suc i) = both_at F R S i

-- a column of records begins as many records
rows_at : (fs : Fields) (F : List (List Step)) (R : List Node) (i : ℕ) → list_all (is_leaf_path fs) F ≡ true → list_all (is_record fs) R ≡ true → i < length F
    → (starts (has_columns F R i) ≡ length R) × (begins_record (has_columns F R i) ≡ true)
rows_at fs [] R i h v l = absurd (omega (arith, l))
rows_at fs (p ∷ F) R zero h v l = column_rows fs p R (and_parts (is_leaf_path fs p) (list_all (is_leaf_path fs) F) h).0 v
rows_at fs (p ∷ F) R (suc i) h v l = rows_at fs F R i (and_parts (is_leaf_path fs p) (list_all (is_leaf_path fs) F) h).1 v (omega (arith, l))

of_records : (F : List (List Step)) (C : List (List Triplet)) (R : List Node) (i : ℕ) → path_columns F R ≡ C → columns_of C i ≡ has_columns F R i
of_records F C R i e = ap (λ (D : List (List Triplet)). columns_of D i) (sym e)

-- ---- the beginning

abbrev nothing : Left
nothing i = []

pub behind_nothing : (fs : Fields) (F : List (List Step)) (rows : ℕ) (here : Left) (ends : ℕ → Bool) → list_all (is_leaf_path fs) F ≡ true → ((i : ℕ) → here i ≡ []) → IsBehind fs F rows nothing here ends [] rows
behind_nothing fs F rows here ends h none = record {
  are_records = refl;
  count = omega arith;
  lies = λ i. sym (ap₂ (λ (xs ys : List Triplet). xs ++ ys) (none_of_none F i) (none i));
  begins = λ C later on Q has i l.
      let whole : here i ++ later i ≡ has_columns F Q i = ap (λ (xs : List Triplet). xs ++ later i) (none i) ∙ (sym (on.1 i) ∙ of_records F C Q i has.2) in
      ap begins_record whole ∙ (rows_at fs F Q i h has.0 l).1;
  past = λ i l. refl;
}

-- ---- more of one leaf at hand

never : 1 ≤ 0 → ⊥
never z = omega (arith, z)

pub behind_more : (fs : Fields) (F : List (List Step)) (rows : ℕ) (given here now at : Left) (ends others : ℕ → Bool) (R : List Node) (left k : ℕ) (more : List Triplet) → IsBehind fs F rows given here ends R left → IsMore k more given now → IsMore k more here at
    → k < length F → ends k ≡ false → ((i : ℕ) → i ≢ k → others i ≡ ends i) → IsBehind fs F rows now at others R left
behind_more fs F rows given here now at ends others R left k more h g m l goes_on same = record {
  are_records = h.are_records;
  count = h.count;
  lies = λ i. by_leaf_lies i (i == k) refl;
  begins = λ C later on Q has i n. by_leaf_begins later i (i == k) refl (h.begins C (with_front later) (front C later on) Q has i n);
  past = λ i n. g.1 i (λ z. never (omega (arith, l, n, z))) ∙ h.past i n;
}
  where
    apart : (i : ℕ) → (i == k) ≡ false → i ≢ k
    apart i z y = true≢false (sym (itself i k y) ∙ z)
      where
        itself : (a b : ℕ) → a ≡ b → (a == b) ≡ true
        itself a b q = grind (arith, nat_tests)

    by_leaf_lies : (i : ℕ) (b : Bool) → (i == k) ≡ b → now i ≡ has_columns F R i ++ at i
    by_leaf_lies i true z = subst (λ (j : ℕ). now j ≡ has_columns F R j ++ at j) (sym (eqb-true i k z))
        (g.0 ∙ (ap (λ (xs : List Triplet). xs ++ more) (h.lies k) ∙ (append_assoc (has_columns F R k) (here k) more ∙ ap (λ (xs : List Triplet). has_columns F R k ++ xs) (sym m.0))))
    by_leaf_lies i false z = g.1 i (apart i z) ∙ (h.lies i ∙ ap (λ (xs : List Triplet). has_columns F R i ++ xs) (sym (m.1 i (apart i z))))

    with_front : Left → Left
    with_front later i = if i == k then more ++ later i else later i

    front : (C : List (List Triplet)) (later : Left) → GoesOn (length F) now others C later → GoesOn (length F) given ends C (with_front later)
    front C later on = (on.0, λ i. by_leaf i (i == k) refl, λ i e. by_end i (i == k) refl e)
      where
        by_leaf : (i : ℕ) (b : Bool) → (i == k) ≡ b → columns_of C i ≡ given i ++ (if b then more ++ later i else later i)
        by_leaf i true z = on.1 i ∙ (ap (λ (xs : List Triplet). xs ++ later i) (subst (λ (j : ℕ). now j ≡ given j ++ more) (sym (eqb-true i k z)) g.0) ∙ append_assoc (given i) more (later i))
        by_leaf i false z = on.1 i ∙ ap (λ (xs : List Triplet). xs ++ later i) (g.1 i (apart i z))

        by_end : (i : ℕ) (b : Bool) → (i == k) ≡ b → ends i ≡ true → (if b then more ++ later i else later i) ≡ []
        by_end i true z e = absurd (true≢false (sym e ∙ (ap ends (eqb-true i k z) ∙ goes_on)))
        by_end i false z e = on.2 i (same i (apart i z) ∙ e)

    by_leaf_begins : (later : Left) (i : ℕ) (b : Bool) → (i == k) ≡ b → begins_record (here i ++ (if b then more ++ later i else later i)) ≡ true → begins_record (at i ++ later i) ≡ true
    by_leaf_begins later i true z e =
        ap begins_record (ap (λ (xs : List Triplet). xs ++ later i) (subst (λ (j : ℕ). at j ≡ here j ++ more) (sym (eqb-true i k z)) m.0) ∙ append_assoc (here i) more (later i)) ∙ e
    by_leaf_begins later i false z e = ap (λ (xs : List Triplet). begins_record (xs ++ later i)) (m.1 i (apart i z)) ∙ e

-- ---- a chunk

begins_front : (ts us : List Triplet) → 0 < starts ts → begins_record (ts ++ us) ≡ true → begins_record ts ≡ true
begins_front [] us l h = absurd (omega (arith, l))
begins_front (t ∷ ts) us l h = h

begins_rest : (rest later : List Triplet) → begins_record rest ≡ true → (rest ≡ [] → later ≡ []) → begins_record (rest ++ later) ≡ true
begins_rest [] later h e = ap begins_record (e refl)
begins_rest (t ∷ rest) later h e = h

chunk_at : (fs : Fields) (F : List (List Step)) (rows : ℕ) (given here rest chunk : Left) (ends : ℕ → Bool) (R : List Node) (left records : ℕ) → IsBehind fs F rows given here ends R left → IsFront (length F) records here rest chunk ends → 0 < records
    → list_all (is_leaf_path fs) F ≡ true → (C : List (List Triplet)) (later : Left) → GoesOn (length F) given ends C later → (Q : List Node) → HasColumns fs F C rows Q → (i : ℕ) → i < length F → IsChunk (length R) records (chunk i) (columns_of C i)
chunk_at fs F rows given here rest chunk ends R left records h f some leaf C later on Q has i l = record {
  front = has_columns F R i;
  back = rest i ++ later i;
  lies = on.1 i ∙ (ap (λ (xs : List Triplet). xs ++ later i) (h.lies i) ∙ (append_assoc (has_columns F R i) (here i) (later i)
      ∙ ap (λ (xs : List Triplet). has_columns F R i ++ xs) (ap (λ (xs : List Triplet). xs ++ later i) (f.lies i l) ∙ append_assoc (chunk i) (rest i) (later i))));
  behind = (rows_at fs F R i leaf h.are_records l).0;
  so_many = f.so_many i l;
  begins = begins_front (chunk i) (rest i ++ later i) (let n = f.so_many i l in omega (arith, n, some))
      (ap begins_record (sym (append_assoc (chunk i) (rest i) (later i)) ∙ ap (λ (xs : List Triplet). xs ++ later i) (sym (f.lies i l))) ∙ h.begins C later on Q has i l);
  ends = begins_rest (rest i) (later i) (f.begins i l) (λ e. on.2 i (f.whole i l e));
}

are_chunks : (before records : ℕ) (K C : List (List Triplet)) → length K ≡ length C → ((i : ℕ) → i < length C → IsChunk before records (columns_of K i) (columns_of C i)) → AreChunks before records K C
are_chunks before records [] [] n h = tt
are_chunks before records [] (c ∷ C) n h = absurd (never (omega (arith, n)))
are_chunks before records (k ∷ K) [] n h = absurd (never (omega (arith, n)))
are_chunks before records (k ∷ K) (c ∷ C) n h = (h 0 (omega arith), are_chunks before records K C (omega (arith, n)) (λ i l. h (suc i) (omega (arith, l))))

-- where none have it, none have columns that begin so
pub none_behind : (fs : Fields) (F : List (List Step)) (rows : ℕ) (given here rest : Left) (K : List (List Triplet)) (ends : ℕ → Bool) (R : List Node) (left records : ℕ) → IsBehind fs F rows given here ends R left
    → IsFront (length F) records here rest (columns_of K) ends → 0 < records → records ≤ left → list_all (is_leaf_path fs) F ≡ true → length K ≡ length F → NoneHas fs F K records
    → (C : List (List Triplet)) (later : Left) → GoesOn (length F) given ends C later → NoneHas fs F C rows
none_behind fs F rows given here rest K ends R left records h f some few leaf n none C later on Q has =
    none_has_chunk fs F K C (length R) records rows leaf (let c = h.count in omega (arith, c, few))
    (are_chunks (length R) records K C (n ∙ sym on.0) (λ i l. chunk_at fs F rows given here rest (columns_of K) ends R left records h f some leaf C later on Q has i (let m = on.0 in omega (arith, l, m)))) none Q has

-- where records have it, it is taken
pub behind_chunk : (fs : Fields) (F : List (List Step)) (rows : ℕ) (given here rest : Left) (K : List (List Triplet)) (ends : ℕ → Bool) (R S : List Node) (left records now : ℕ) → IsBehind fs F rows given here ends R left
    → IsFront (length F) records here rest (columns_of K) ends → now + records ≡ left → HasColumns fs F K records S → ((i : ℕ) → length F ≤ i → rest i ≡ []) → IsBehind fs F rows given rest ends (R ++ S) now
behind_chunk fs F rows given here rest K ends R S left records now h f few has none = record {
  are_records = all_of_both (is_record fs) R S h.are_records has.0;
  count = let c = h.count in let n = length-append R S in let m = has.1 in omega (arith, c, n, m, few);
  lies = λ i. by_side i (cases_lt i (length F));
  begins = λ C later on Q q i l. begins_rest (rest i) (later i) (f.begins i l) (λ e. on.2 i (f.whole i l e));
  past = h.past;
}
  where
    all_of_both : {A : Type 0} (test : A → Bool) (xs ys : List A) → list_all test xs ≡ true → list_all test ys ≡ true → list_all test (xs ++ ys) ≡ true
    all_of_both test [] ys h g = g
    all_of_both test (x ∷ xs) ys h g = let k = and_parts (test x) (list_all test xs) h in and_from _ _ k.0 (all_of_both test xs ys k.1 g)

    nothing_at : (G : List (List Step)) (P : List Node) (i : ℕ) → length G ≤ i → has_columns G P i ≡ []
    nothing_at G P i l = let n = length-map G (λ (p : List Step). column p P) in get_or_past (path_columns G P) i [] (omega (arith, l, n))

    by_side : (i : ℕ) → (i < length F) ⊎ (length F ≤ i) → given i ≡ has_columns F (R ++ S) i ++ rest i
    by_side i (inl l) =
        h.lies i ∙ (ap (λ (xs : List Triplet). has_columns F R i ++ xs) (f.lies i l ∙ ap (λ (xs : List Triplet). xs ++ rest i) (of_records F K S i has.2))
        ∙ (sym (append_assoc (has_columns F R i) (has_columns F S i) (rest i)) ∙ ap (λ (xs : List Triplet). xs ++ rest i) (sym (both_at F R S i))))
    by_side i (inr l) = h.past i l ∙ sym (ap₂ (λ (xs ys : List Triplet). xs ++ ys) (nothing_at F (R ++ S) i l) (none i l))

-- ---- the end

abbrev counted : Bool → ℕ
counted b = if b then 1 else 0

starts_of_begun : (ts : List Triplet) → begins_record ts ≡ true → starts ts ≡ 0 → ts ≡ []
starts_of_begun [] h e = refl
starts_of_begun (t ∷ ts) h e = absurd (never (let k : counted (t.repetition == 0) ≡ counted true = ap counted h in omega (arith, e, k)))

front_nil : (ts us : List Triplet) → ts ++ us ≡ [] → ts ≡ []
front_nil [] us e = refl
front_nil (t ∷ ts) us e = absurd (cc)

-- how many records begin in what is left
left_starts : (fs : Fields) (F : List (List Step)) (rows : ℕ) (given here : Left) (ends : ℕ → Bool) (R : List Node) (left : ℕ) → IsBehind fs F rows given here ends R left → list_all (is_leaf_path fs) F ≡ true
    → (C : List (List Triplet)) (later : Left) → GoesOn (length F) given ends C later → (Q : List Node) → HasColumns fs F C rows Q → (i : ℕ) → i < length F → starts (here i ++ later i) ≡ left
left_starts fs F rows given here ends R left h leaf C later on Q has i l =
    let whole : has_columns F R i ++ (here i ++ later i) ≡ has_columns F Q i =
    sym (append_assoc (has_columns F R i) (here i) (later i)) ∙ (ap (λ (xs : List Triplet). xs ++ later i) (sym (h.lies i)) ∙ (sym (on.1 i) ∙ of_records F C Q i has.2)) in
    let a = starts_append (has_columns F R i) (here i ++ later i) in
    let b = (rows_at fs F R i leaf h.are_records l).0 in
    let c = (rows_at fs F Q i leaf has.0 l).0 in
    let d = ap starts whole in
    let e = has.1 in
    let k = h.count in
    omega (arith, a, b, c, d, e, k)

-- no record is left, and something is at hand
pub none_left_over : (fs : Fields) (F : List (List Step)) (rows : ℕ) (given here : Left) (ends : ℕ → Bool) (R : List Node) (left i : ℕ) → IsBehind fs F rows given here ends R left → list_all (is_leaf_path fs) F ≡ true → left ≡ 0 → i < length F
    → 0 < length (here i) → (C : List (List Triplet)) (later : Left) → GoesOn (length F) given ends C later → NoneHas fs F C rows
none_left_over fs F rows given here ends R left i h leaf e l some C later on Q has =
    let n = left_starts fs F rows given here ends R left h leaf C later on Q has i l in
    let none = front_nil (here i) (later i) (starts_of_begun (here i ++ later i) (h.begins C later on Q has i l) (n ∙ e)) in
    let k = ap length none in
    never (omega (arith, some, k))

-- records are left, and a leaf that has none is at its end
pub none_to_come : (fs : Fields) (F : List (List Step)) (rows : ℕ) (given here : Left) (ends : ℕ → Bool) (R : List Node) (left i : ℕ) → IsBehind fs F rows given here ends R left → list_all (is_leaf_path fs) F ≡ true → 0 < left → i < length F
    → ends i ≡ true → starts (here i) ≡ 0 → (C : List (List Triplet)) (later : Left) → GoesOn (length F) given ends C later → NoneHas fs F C rows
none_to_come fs F rows given here ends R left i h leaf some l ended none C later on Q has =
    let n = left_starts fs F rows given here ends R left h leaf C later on Q has i l in
    let k : starts (here i ++ later i) ≡ 0 = ap (λ (xs : List Triplet). starts (here i ++ xs)) (on.2 i ended) ∙ (ap starts (append-nil (here i)) ∙ none) in
    never (omega (arith, n, k, some))

-- nothing is left: the records have the columns
pub behind_all : (fs : Fields) (F : List (List Step)) (rows : ℕ) (given here : Left) (ends : ℕ → Bool) (R : List Node) (left : ℕ) → IsBehind fs F rows given here ends R left → left ≡ 0 → ((i : ℕ) → i < length F → here i ≡ [])
    → HasColumns fs F (path_columns F R) rows R × ((i : ℕ) → has_columns F R i ≡ given i)
behind_all fs F rows given here ends R left h e none = ((h.are_records, (let c = h.count in omega (arith, c, e)), refl), λ i. by_side i (cases_lt i (length F)))
  where
    nothing_at : (i : ℕ) → length F ≤ i → has_columns F R i ≡ []
    nothing_at i l = let n = length-map F (λ (p : List Step). column p R) in get_or_past (path_columns F R) i [] (omega (arith, l, n))

    by_side : (i : ℕ) → (i < length F) ⊎ (length F ≤ i) → has_columns F R i ≡ given i
    by_side i (inl l) = sym (h.lies i ∙ (ap (λ (xs : List Triplet). has_columns F R i ++ xs) (none i l) ∙ append-nil (has_columns F R i)))
    by_side i (inr l) = nothing_at i l ∙ sym (h.past i l)
