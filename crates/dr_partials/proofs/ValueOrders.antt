-- The orders of values, of cells and of key tuples are total, and only equal ones are equal by them.
use Rattle.std.proofs.Common.{◌≡◌, [], ◌∷◌, Bool, true, false, Option, Some, None, refl, ap}
use Rattle.std.specs.Cmp.{IsTotalOrder, bool_cmp_total}
use Rattle.std.specs.Cmp.Lexicographic.{slice_cmp}
use Rattle.std.specs.Ordering.{bool_cmp, ordering_reverse, ordering_then}
use Rattle.std.specs.declared.cmp.Ordering.{Ordering}
use Rattle.std.specs.declared.cmp.Ordering.TheVariants.{Less, Equal, Greater}
use Rattle.std.proofs.lemmas.Cmp.{int_cmp_total, nat_list_cmp_total, lists_total}
use Rattle.std.proofs.lemmas.Map.Lookups.{exact_signed, exact_bytes, CmpEqualImpliesEq}
use Rattle.dr_meaning.specs.Record.{Value, bool_value, int_value, text_value}
use Rattle.dr_meaning.specs.Query.{value_order, cell_order, tuple_order}

-- ---- values

value_antisymm : (x y : Value) → value_order x y ≡ ordering_reverse (value_order y x)
value_antisymm (bool_value a) (bool_value b) = bool_cmp_total.antisymm a b
value_antisymm (bool_value a) (int_value b) = refl
value_antisymm (bool_value a) (text_value b) = refl
value_antisymm (int_value a) (bool_value b) = refl
value_antisymm (int_value a) (int_value b) = int_cmp_total.antisymm a b
value_antisymm (int_value a) (text_value b) = refl
value_antisymm (text_value a) (bool_value b) = refl
value_antisymm (text_value a) (int_value b) = refl
value_antisymm (text_value a) (text_value b) = nat_list_cmp_total.antisymm a b

value_trans : (x y z : Value) → value_order x y ≡ Less → value_order y z ≡ Less → value_order x z ≡ Less
value_trans (bool_value a) (bool_value b) (bool_value c) h g = bool_cmp_total.trans a b c h g
value_trans (bool_value a) y (int_value c) h g = refl
value_trans (bool_value a) y (text_value c) h g = refl
value_trans (int_value a) (int_value b) (int_value c) h g = int_cmp_total.trans a b c h g
value_trans (int_value a) y (text_value c) h g = refl
value_trans (text_value a) (text_value b) (text_value c) h g = nat_list_cmp_total.trans a b c h g
value_trans (bool_value a) (int_value b) (bool_value c) h g = absurd (cc)
value_trans (bool_value a) (text_value b) (bool_value c) h g = absurd (cc)
value_trans (int_value a) (bool_value b) z h g = absurd (cc)
value_trans (int_value a) (int_value b) (bool_value c) h g = absurd (cc)
value_trans (int_value a) (text_value b) (bool_value c) h g = absurd (cc)
value_trans (int_value a) (text_value b) (int_value c) h g = absurd (cc)
value_trans (text_value a) (bool_value b) z h g = absurd (cc)
value_trans (text_value a) (int_value b) z h g = absurd (cc)
value_trans (text_value a) (text_value b) (bool_value c) h g = absurd (cc)
value_trans (text_value a) (text_value b) (int_value c) h g = absurd (cc)

value_congr : (x y z : Value) → value_order x y ≡ Equal → value_order x z ≡ value_order y z
value_congr (bool_value a) (bool_value b) (bool_value c) h = bool_cmp_total.congr a b c h
value_congr (bool_value a) (bool_value b) (int_value c) h = refl
value_congr (bool_value a) (bool_value b) (text_value c) h = refl
value_congr (int_value a) (int_value b) (bool_value c) h = refl
value_congr (int_value a) (int_value b) (int_value c) h = int_cmp_total.congr a b c h
value_congr (int_value a) (int_value b) (text_value c) h = refl
value_congr (text_value a) (text_value b) (bool_value c) h = refl
value_congr (text_value a) (text_value b) (int_value c) h = refl
value_congr (text_value a) (text_value b) (text_value c) h = nat_list_cmp_total.congr a b c h
value_congr (bool_value a) (int_value b) z h = absurd (cc)
value_congr (bool_value a) (text_value b) z h = absurd (cc)
value_congr (int_value a) (bool_value b) z h = absurd (cc)
value_congr (int_value a) (text_value b) z h = absurd (cc)
value_congr (text_value a) (bool_value b) z h = absurd (cc)
value_congr (text_value a) (int_value b) z h = absurd (cc)

pub value_order_total : IsTotalOrder value_order
value_order_total = record { antisymm = value_antisymm; trans = value_trans; congr = value_congr }

bool_exact : (a b : Bool) → bool_cmp a b ≡ Equal → a ≡ b
bool_exact true true h = refl
bool_exact false false h = refl
bool_exact true false h = absurd (cc)
bool_exact false true h = absurd (cc)

pub value_order_exact : CmpEqualImpliesEq value_order
value_order_exact (bool_value a) (bool_value b) h = ap bool_value (bool_exact a b h)
value_order_exact (int_value a) (int_value b) h = ap int_value (exact_signed a b h)
value_order_exact (text_value a) (text_value b) h = ap text_value (exact_bytes a b h)
value_order_exact (bool_value a) (int_value b) h = absurd (cc)
value_order_exact (bool_value a) (text_value b) h = absurd (cc)
value_order_exact (int_value a) (bool_value b) h = absurd (cc)
value_order_exact (int_value a) (text_value b) h = absurd (cc)
value_order_exact (text_value a) (bool_value b) h = absurd (cc)
value_order_exact (text_value a) (int_value b) h = absurd (cc)

-- ---- cells

cell_antisymm : (x y : Option Value) → cell_order x y ≡ ordering_reverse (cell_order y x)
cell_antisymm None None = refl
cell_antisymm None (Some b) = refl
cell_antisymm (Some a) None = refl
cell_antisymm (Some a) (Some b) = value_antisymm a b

cell_trans : (x y z : Option Value) → cell_order x y ≡ Less → cell_order y z ≡ Less → cell_order x z ≡ Less
cell_trans None y (Some c) h g = refl
cell_trans (Some a) (Some b) (Some c) h g = value_trans a b c h g
cell_trans None None None h g = absurd (cc)
cell_trans None (Some b) None h g = absurd (cc)
cell_trans (Some a) None z h g = absurd (cc)
cell_trans (Some a) (Some b) None h g = absurd (cc)

cell_congr : (x y z : Option Value) → cell_order x y ≡ Equal → cell_order x z ≡ cell_order y z
cell_congr None None z h = refl
cell_congr (Some a) (Some b) None h = refl
cell_congr (Some a) (Some b) (Some c) h = value_congr a b c h
cell_congr None (Some b) z h = absurd (cc)
cell_congr (Some a) None z h = absurd (cc)

cell_exact : (x y : Option Value) → cell_order x y ≡ Equal → x ≡ y
cell_exact None None h = refl
cell_exact (Some a) (Some b) h = ap Some (value_order_exact a b h)
cell_exact None (Some b) h = absurd (cc)
cell_exact (Some a) None h = absurd (cc)

-- ---- key tuples

pub tuple_order_total : IsTotalOrder tuple_order
tuple_order_total = lists_total (record { antisymm = cell_antisymm; trans = cell_trans; congr = cell_congr })

lists_exact : {K : Type 0} (R : K → K → Ordering) → CmpEqualImpliesEq R → CmpEqualImpliesEq (slice_cmp R)
lists_exact R h [] [] e = refl
lists_exact R h [] (y ∷ ys) e = absurd (cc)
lists_exact R h (x ∷ xs) [] e = absurd (cc)
lists_exact R h (x ∷ xs) (y ∷ ys) e = by_first (R x y) refl e (lists_exact R h xs ys)
  where
    by_first : (o : Ordering) → R x y ≡ o → ordering_then o (slice_cmp R xs ys) ≡ Equal → (slice_cmp R xs ys ≡ Equal → xs ≡ ys) → x ∷ xs ≡ y ∷ ys
    by_first Less f g rest = absurd (cc)
    by_first Equal f g rest = let k : x ≡ y = h x y f in let l : xs ≡ ys = rest g in cc
    by_first Greater f g rest = absurd (cc)

pub tuple_order_exact : CmpEqualImpliesEq tuple_order
tuple_order_exact = lists_exact cell_order cell_exact
