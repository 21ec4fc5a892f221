-- A column of records has one start for each record.
use Rattle.std.proofs.Common.{◌≡◌, ◌+◌, List, [], ◌∷◌, ◌++◌, length, true, false, refl, arith}
use Rattle.std.specs.Prelude.{◌==◌}
use Rattle.std.specs.List.{list_all}
use Rattle.std.proofs.lemmas.Bool.{and_parts, eq-eqb, ne_eqb}
use Rattle.dr_meaning.specs.Schema.{Fields, group}
use Rattle.dr_meaning.specs.Path.{Step, is_leaf_path}
use Rattle.dr_meaning.specs.Record.{Node, is_record, inner}
use Rattle.dr_meaning.specs.Column.{Triplet, record_column, column}
use Rattle.dr_meaning.specs.OneColumn.{starts, begins_record}
use Rattle.dr_meaning.proofs.Blocks.{IsAbove, IsBlock, block-instance}

none_above : (ts : List Triplet) → IsAbove 0 ts → starts ts ≡ 0
none_above [] h = refl
none_above (t ∷ ts) h =
    let e : (t.repetition == 0) ≡ false = ne_eqb t.repetition 0 (omega (arith, h.0)) in
    rw e (omega (arith, none_above ts h.1))

pub starts_append : (ts us : List Triplet) → starts (ts ++ us) ≡ starts ts + starts us
starts_append [] us = omega arith
starts_append (t ∷ ts) us = omega (arith, starts_append ts us)

one_start : (ts : List Triplet) → IsBlock 0 0 0 ts → (starts ts ≡ 1) × (begins_record ts ≡ true)
one_start [] h = absurd h
one_start (t ∷ ts) h =
    let e : (t.repetition == 0) ≡ true = eq-eqb t.repetition 0 h.0 in
    (rw e (omega (arith, none_above ts h.2)), e)

begins_with_first : (ts us : List Triplet) → IsBlock 0 0 0 ts → begins_record (ts ++ us) ≡ true
begins_with_first [] us h = absurd h
begins_with_first (t ∷ ts) us h = eq-eqb t.repetition 0 h.0

-- as many starts as records, and the first triplet is one
pub column_rows : (fs : Fields) (p : List Step) (R : List Node) → is_leaf_path fs p ≡ true → list_all (is_record fs) R ≡ true → (starts (column p R) ≡ length R) × (begins_record (column p R) ≡ true)
column_rows fs p [] h v = (refl, refl)
column_rows fs p (n ∷ R) h v =
    let k : (is_record fs n ≡ true) × (list_all (is_record fs) R ≡ true) = and_parts _ _ v in
    let b : IsBlock 0 0 0 (record_column p n) = block-instance (group fs) p (inner n) 0 0 0 h k.0 in
    (omega (arith, starts_append (record_column p n) (column p R), (one_start (record_column p n) b).0, (column_rows fs p R h k.1).0), begins_with_first (record_column p n) (column p R) b)
