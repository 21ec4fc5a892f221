-- Tests of a condition, one after another.
use Rattle.std.proofs.Common.{◌≡◌, ℕ, zero, suc, ◌+◌, ◌<◌, List, [], ◌∷◌, length, take, get_or, map, Bool, true, false, refl, sym, ap, ◌∙◌, subst, true≢false, arith, add-one}
use Rattle.std.specs.Prelude.{◌==◌, slice_set}
use Rattle.std.specs.List.{slice_index_or}
use Rattle.std.specs.declared.vec.Vec.{Vec}
use Rattle.std.specs.declared.alloc.Global.{Global}
use Rattle.std.proofs.lemmas.Bool.{eqb-true, eq-eqb}
use Rattle.dr_rows_beside.specs.Bits.{gathered}
use Rattle.dr_meaning.specs.Column.{Triplet}
use Rattle.dr_rows_beside.specs.declared.judging.Test.{Test}
use Rattle.dr_rows_beside.specs.Judging.{AreGathered, CanAnswer, CanAnswerEach, narrowed, narrowed_by}

pub can_answer_at : (C : List (List Triplet)) (rs : List ℕ) (ts : List Test) (i : ℕ) (x : Test) → i < length ts → x ≡ get_or ts i x → CanAnswerEach C rs ts → CanAnswer C rs x
can_answer_at C rs [] i x h e a = absurd (omega (arith, h))
can_answer_at C rs (t ∷ ts) zero x h e a = subst (CanAnswer C rs) (sym e) a.0
can_answer_at C rs (t ∷ ts) (suc i) x h e a = can_answer_at C rs ts i x (omega (arith, h)) e a.1

one_narrowed : (C : List (List Triplet)) (rs : List ℕ) (ts : List Test) (i : ℕ) (x : Test) (bs : List Bool) → i < length ts → x ≡ get_or ts i x → narrowed_by C rs (take (suc i) ts) bs ≡ narrowed C rs x (narrowed_by C rs (take i ts) bs)
one_narrowed C rs [] i x bs h e = absurd (omega (arith, h))
one_narrowed C rs (t ∷ ts) zero x bs h e = ap (λ (y : Test). narrowed C rs y bs) (sym e)
one_narrowed C rs (t ∷ ts) (suc i) x bs h e = one_narrowed C rs ts i x (narrowed C rs t bs) (omega (arith, h)) e

pub narrowed_more : (C : List (List Triplet)) (rs : List ℕ) (ts : List Test) (i : ℕ) (x : Test) (first before after : List Bool) → i < length ts → x ≡ get_or ts i x → before ≡ narrowed_by C rs (take i ts) first → after ≡ narrowed C rs x before
    → after ≡ narrowed_by C rs (take (i + 1) ts) first
narrowed_more C rs ts i x first before after h e b a =
    a ∙ ap (narrowed C rs x) b ∙ sym (one_narrowed C rs ts i x first h e) ∙ ap (λ (n : ℕ). narrowed_by C rs (take n ts) first) (sym (add-one i))

abbrev items_of : List (Vec Bool Global) → List (List Bool)
items_of out = map (λ (v : Vec Bool Global). v.items) out

put_there : (out : List (Vec Bool Global)) (i : ℕ) (v : Vec Bool Global) → i < length out → slice_index_or (items_of (slice_set out i v)) i [] ≡ v.items
put_there [] i v h = absurd (omega (arith, h))
put_there (x ∷ out) zero v h = refl
put_there (x ∷ out) (suc i) v h = put_there out i v (omega (arith, h))

put_apart : (out : List (Vec Bool Global)) (i d : ℕ) (v : Vec Bool Global) → d < i → slice_index_or (items_of (slice_set out i v)) d [] ≡ slice_index_or (items_of out) d []
put_apart [] i d v h = refl
put_apart (x ∷ out) zero d v h = absurd (omega (arith, h))
put_apart (x ∷ out) (suc i) zero v h = refl
put_apart (x ∷ out) (suc i) (suc d) v h = put_apart out i d v (omega (arith, h))

pub gathered_more : (rs : List ℕ) (bs : List Bool) (i : ℕ) (out : List (Vec Bool Global)) (v : Vec Bool Global) → i < length out → AreGathered rs bs i out → v.items ≡ gathered i rs bs → AreGathered rs bs (i + 1) (slice_set out i v)
gathered_more rs bs i out v h a e d l = by_test (d == i) refl
  where
    by_test : (b : Bool) → (d == i) ≡ b → slice_index_or (items_of (slice_set out i v)) d [] ≡ gathered d rs bs
    by_test true t =
        let z : d ≡ i = eqb-true d i t in
        subst (λ (k : ℕ). slice_index_or (items_of (slice_set out i v)) k [] ≡ gathered k rs bs) (sym z) (put_there out i v h ∙ e)
    by_test false t =
        let n : d ≡ i → ⊥ = (λ (z : d ≡ i). true≢false (sym (eq-eqb d i z) ∙ t)) in
        let m : d < i = omega (arith, l, n) in
        put_apart out i d v m ∙ a d m
