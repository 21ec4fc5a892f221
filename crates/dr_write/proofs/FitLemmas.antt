-- The columns of records can be written.
use Rattle.std.proofs.Common.{◌≡◌, ◌∙◌, ℕ, ◌+◌, ◌^◌, List, [], ◌∷◌, ◌++◌, map, Bool, true, refl, ap, subst, arith}
use Rattle.std.specs.Prelude.{nat_lt}
use Rattle.std.specs.List.{list_all}
use Rattle.std.proofs.lemmas.Bool.{and_parts, and_from, ltb-true}
use Rattle.dr_meaning.specs.Schema.{Fields}
use Rattle.dr_meaning.specs.Path.{Leaf, leaves, max_repetition, max_definition}
use Rattle.dr_meaning.specs.Record.{Node, is_record, inner, instances_at, text_bytes}
use Rattle.dr_meaning.specs.Column.{Triplet, record_column, column}
use Rattle.dr_formats.specs.Page.{is_triplet}
use Rattle.dr_formats.proofs.ColumnsFit.{Good, ColumnGood, EachLeaf, fields_good}
use Rattle.dr_levels.specs.declared.column.Column as columns
use Rattle.dr_levels.specs.Views.{form, column_view, columns_view, column_form}
use Rattle.dr_write.specs.Chunks.{written_leaf, AreFor}
use Rattle.dr_write.specs.Files.{RecordColumnsFit}

abbrev GoodAt : List Node → Leaf → Type 0
GoodAt R l = Good l.kind (max_repetition l.path) (max_definition l.path) (column l.path R)

good_both : (p : Triplet → Bool) (ts us : List Triplet) → list_all p ts ≡ true → list_all p us ≡ true → list_all p (ts ++ us) ≡ true
good_both p [] us h g = g
good_both p (t ∷ ts) us h g = let q : (p t ≡ true) × (list_all p ts ≡ true) = and_parts _ _ h in and_from _ _ q.0 (good_both p ts us q.1 g)

none_more : (n : ℕ) → 0 + n ≡ n
none_more n = omega arith

record_good : (l : Leaf) (n : Node) → ColumnGood l (inner n) → Good l.kind (max_repetition l.path) (max_definition l.path) (record_column l.path n)
record_good l n h =
    let g : Good l.kind (0 + max_repetition l.path) (0 + max_definition l.path) (record_column l.path n) = h 0 0 0 (omega arith) in
    subst (λ (r : ℕ). Good l.kind r (max_definition l.path) (record_column l.path n)) (none_more (max_repetition l.path)) (subst (λ (d : ℕ). Good l.kind (0 + max_repetition l.path) d (record_column l.path n)) (none_more (max_definition l.path)) g)

one_record_more : (ls : List Leaf) (n : Node) (R : List Node) → EachLeaf (λ l. ColumnGood l (inner n)) ls → EachLeaf (GoodAt R) ls → EachLeaf (GoodAt (n ∷ R)) ls
one_record_more [] n R h g = tt
one_record_more (l ∷ ls) n R h g =
    (good_both (is_triplet l.kind (max_repetition l.path) (max_definition l.path)) (record_column l.path n) (column l.path R) (record_good l n h.0) g.0, one_record_more ls n R h.1 g.1)

no_records : (ls : List Leaf) → EachLeaf (GoodAt []) ls
no_records [] = tt
no_records (l ∷ ls) = (refl, no_records ls)

all_good : (fs : Fields) (R : List Node) → list_all (is_record fs) R ≡ true → list_all (λ (n : Node). nat_lt (text_bytes n) (2 ^ 32)) R ≡ true → EachLeaf (GoodAt R) (leaves fs)
all_good fs [] v t = no_records (leaves fs)
all_good fs (n ∷ R) v t =
    let p : (is_record fs n ≡ true) × (list_all (is_record fs) R ≡ true) = and_parts _ _ v in
    let q : (nat_lt (text_bytes n) (2 ^ 32) ≡ true) × (list_all (λ (m : Node). nat_lt (text_bytes m) (2 ^ 32)) R ≡ true) = and_parts _ _ t in
    one_record_more (leaves fs) n R (fields_good fs 0 n n (λ j. ap (λ k. instances_at k n) (none_more j)) p.0 (ltb-true _ _ q.0)) (all_good fs R p.1 q.1)

fit : (R : List Node) (ls : List Leaf) (cs : List columns.Column) → columns_view cs ≡ map (λ (l : Leaf). column l.path R) ls → map column_form cs ≡ map (λ (l : Leaf). form l.kind (max_definition l.path)) ls
    → EachLeaf (GoodAt R) ls → AreFor (map written_leaf ls) cs
fit R [] [] e f g = tt
fit R [] (c ∷ cs) e f g = absurd (cc)
fit R (l ∷ ls) [] e f g = absurd (cc)
fit R (l ∷ ls) (c ∷ cs) e f g =
    let a : column_view c ≡ column l.path R = cc in
    let b : columns_view cs ≡ map (λ (x : Leaf). column x.path R) ls = cc in
    let d : column_form c ≡ form l.kind (max_definition l.path) = cc in
    let h : map column_form cs ≡ map (λ (x : Leaf). form x.kind (max_definition x.path)) ls = cc in
    ((d, ap (list_all (is_triplet l.kind (max_repetition l.path) (max_definition l.path))) a ∙ g.0), fit R ls cs b h g.1)

pub record_columns_fit : RecordColumnsFit
record_columns_fit s R cs h t f = fit R (leaves s.fields) cs h.1 f (all_good s.fields R h.0 t)
