-- The items of a plan by their places, and what is taken for them at a leaf.
use Rattle.std.proofs.Common.{◌≡◌, ◌+◌, ℕ, zero, suc, List, [], ◌∷◌, ◌++◌, Bool, true, false, Option, Some, None, refl, sym, ap, ap₂, subst, ◌∙◌, arith}
use Rattle.std.specs.Prelude.{map, ◌==◌, if◌then◌else◌}
use Rattle.std.specs.List.{slice_get, flat_map}
use Rattle.dr_meaning.specs.Path.{Leaf}
use Rattle.dr_meaning.specs.Record.{Value}
use Rattle.dr_meaning.specs.Query.{RecordTerm as MeantTerm, expression, within, RecordItem as MeantItem}
use Rattle.dr_moves.specs.Context.{Context}
use Rattle.dr_kept_laws.specs.GroupFlow.{Reading, fired_if}
use Rattle.dr_made_laws.specs.ObjectFlow.{Made, taken, ReadItem, items_of, taken_for, taken_from, seen_items}
use Rattle.dr_plan.specs.Views.{record_term_view, fold_view}
use Rattle.dr_plan.specs.declared.aggregate.Within.{Within}
use Rattle.dr_plan.specs.declared.expression.Expr.{Expr}
use Rattle.dr_plan.specs.declared.plan.RecordTerm.{RecordTerm}
use Rattle.dr_plan.specs.declared.plan.RecordItem.{RecordItem}
use Rattle.dr_scalar.specs.OverSlots.{expr_over}
use Rattle.dr_within.specs.ObjectFraming.{argument_of, IsReadItem, AreReadItems, is_fired, fired_places, term_aggregate, aggregate_at}
use Rattle.dr_within.specs.OwnCells.{taken_by, taken_of, taken_at}

-- ---- by their places

pub record ReadAt (ls : List Leaf) (i : RecordItem) (rs : List ReadItem) (j : ℕ) : Type 0 where
  pub read : ReadItem
  pub there : slice_get rs j ≡ Some read
  pub is : IsReadItem ls i read

pub read_at : (ls : List Leaf) (is : List RecordItem) (rs : List ReadItem) (j : ℕ) (i : RecordItem) → AreReadItems ls is rs → slice_get is j ≡ Some i → ReadAt ls i rs j
read_at ls [] [] j i h e = absurd (cc)
read_at ls [] (r ∷ rs) j i h e = absurd h
read_at ls (d ∷ is) [] j i h e = absurd h
read_at ls (d ∷ is) (r ∷ rs) zero i h e = let same : d ≡ i = cc in record { read = r; there = refl; is = subst (λ (x : RecordItem). IsReadItem ls x r) same h.0 }
read_at ls (d ∷ is) (r ∷ rs) (suc j) i h e = let a : ReadAt ls i rs j = read_at ls is rs j i h.1 e in record { read = a.read; there = a.there; is = a.is }

pub none_at : (ls : List Leaf) (is : List RecordItem) (rs : List ReadItem) (j : ℕ) → AreReadItems ls is rs → slice_get is j ≡ None → slice_get rs j ≡ None
none_at ls [] [] j h e = refl
none_at ls [] (r ∷ rs) j h e = absurd h
none_at ls (d ∷ is) [] j h e = absurd h
none_at ls (d ∷ is) (r ∷ rs) zero h e = absurd (cc)
none_at ls (d ∷ is) (r ∷ rs) (suc j) h e = none_at ls is rs j h.1 e

pub aggregate_there : (rs : List ReadItem) (j : ℕ) (r : ReadItem) → slice_get rs j ≡ Some r → aggregate_at (items_of rs) j ≡ term_aggregate r.item.term
aggregate_there [] j r e = absurd (cc)
aggregate_there (d ∷ rs) zero r e = let same : d ≡ r = cc in ap (λ (x : ReadItem). term_aggregate x.item.term) same
aggregate_there (d ∷ rs) (suc j) r e = aggregate_there rs j r e

pub term_of : (ls : List Leaf) (i : RecordItem) (r : ReadItem) (t : RecordTerm) → IsReadItem ls i r → i.term ≡ t → r.item.term ≡ record_term_view ls t
term_of ls i r t h e = ap (λ (x : MeantItem). x.term) h.item ∙ ap (record_term_view ls) e

-- the aggregate of an item with WITHIN
pub within_aggregate : (ls : List Leaf) (i : RecordItem) (rs : List ReadItem) (j : ℕ) (w : Within) (a : ReadAt ls i rs j) → i.term ≡ RecordTerm.Within w → aggregate_at (items_of rs) j ≡ Some (fold_view w.fold)
within_aggregate ls i rs j w a e = aggregate_there rs j a.read a.there ∙ ap term_aggregate (term_of ls i a.read (RecordTerm.Within w) a.is e)

-- ---- what is taken

pub taken_none : (rs : List ReadItem) (c : Context) (j : ℕ) → slice_get rs j ≡ None → taken_at rs c j ≡ []
taken_none rs c j e = ap (taken_of c j) e

taken_term : (ls : List Leaf) (i : RecordItem) (rs : List ReadItem) (c : Context) (j : ℕ) (t : RecordTerm) (a : ReadAt ls i rs j) → i.term ≡ t → taken_at rs c j ≡ taken_by (record_term_view ls t) a.read.reading c j
taken_term ls i rs c j t a e = ap (taken_of c j) a.there ∙ ap (λ (x : MeantTerm). taken_by x a.read.reading c j) (term_of ls i a.read t a.is e)

pub taken_value : (ls : List Leaf) (i : RecordItem) (rs : List ReadItem) (c : Context) (j : ℕ) (x : Expr) (a : ReadAt ls i rs j) → i.term ≡ RecordTerm.Value x → taken_at rs c j ≡ []
taken_value ls i rs c j x a e = taken_term ls i rs c j (RecordTerm.Value x) a e

pub taken_within : (ls : List Leaf) (i : RecordItem) (rs : List ReadItem) (c : Context) (j : ℕ) (w : Within) (a : ReadAt ls i rs j) → i.term ≡ RecordTerm.Within w
    → taken_at rs c j ≡ taken j (expr_over c w.argument) ∷ []
taken_within ls i rs c j w a e =
    taken_term ls i rs c j (RecordTerm.Within w) a e ∙ ap (λ (v : Option Value). taken j v ∷ []) (a.is.fires c ∙ ap (λ (t : RecordTerm). expr_over c (argument_of t)) e)

-- ---- at a leaf

fired_first : (t : MeantTerm) (rd : Reading (Option Value)) (n i : ℕ) (c : Context) (ps : List ℕ) (X : List Made) (g : ℕ → List Made) → g n ≡ taken_by t rd c n → flat_map g ps ≡ X
    → flat_map g (if is_fired t rd.leaf i then n ∷ ps else ps) ≡ taken_for t rd n i c ++ X
fired_first (expression e) rd n i c ps X g h p = p
fired_first (within a e node) rd n i c ps X g h p = by_leaf rd.leaf
  where
    by_leaf : (o : Option ℕ) → flat_map g (if is_fired (within a e node) o i then n ∷ ps else ps) ≡ map (taken n) (fired_if o rd.fires i c) ++ X
    by_leaf None = p
    by_leaf (Some k) = by_test (i == k)
      where
        by_test : (b : Bool) → flat_map g (if b then n ∷ ps else ps) ≡ map (taken n) (if b then rd.fires c ∷ [] else []) ++ X
        by_test true = ap₂ (λ (x y : List Made). x ++ y) h p
        by_test false = p

fired_from : (all : List ReadItem) (n : ℕ) (rs : List ReadItem) (i : ℕ) (c : Context) → ((k : ℕ) → slice_get all (n + k) ≡ slice_get rs k) → flat_map (taken_at all c) (fired_places n rs i) ≡ taken_from n rs i c
fired_from all n [] i c h = refl
fired_from all n (r ∷ rs) i c h =
    let z : n + 0 ≡ n = omega arith in
    let here : slice_get all n ≡ Some r = ap (slice_get all) (sym z) ∙ h 0 in
    fired_first r.item.term r.reading n i c (fired_places (suc n) rs i) (taken_from (suc n) rs i c) (taken_at all c) (ap (taken_of c n) here)
    (fired_from all (suc n) rs i c (λ k. let s : suc n + k ≡ n + suc k = omega arith in ap (slice_get all) s ∙ h (suc k)))

pub fired_seen : (rs : List ReadItem) (i : ℕ) (c : Context) → flat_map (taken_at rs c) (fired_places 0 rs i) ≡ seen_items rs i c
fired_seen rs i c = fired_from rs 0 rs i c (λ k. let z : 0 + k ≡ k = omega arith in ap (slice_get rs) z)
