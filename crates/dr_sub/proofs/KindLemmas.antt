-- The types of a plan's expressions are those of the expressions that they stand for.
use Rattle.std.proofs.Common.{◌≡◌, inl, inr, ℕ, zero, suc, List, [], ◌∷◌, map, Bool, true, false, ◌&&◌, Option, Some, None, cond, refl, sym, ap, ap₂, ◌∙◌, subst, true≢false, arith}
use Rattle.std.specs.Prelude.{if◌then◌else◌, ◌==◌, filter}
use Rattle.std.specs.List.{slice_get, list_any, filter_map, cons_option}
use Rattle.std.proofs.lemmas.Bool.{and_parts, eqb-true}
use Rattle.std.proofs.lemmas.Bool.Decides.{nat_tests}
use Rattle.dr_meaning.specs.Schema.{Repetition, Kind, Fields, no_fields, field, Shape, leaf, group}
use Rattle.dr_meaning.specs.Path.{Step, Leaf, leaves, same_path, begins_with}
use Rattle.dr_meaning.specs.Expression.{Expression}
use Rattle.dr_meaning.specs.Query.{Query}
use Rattle.dr_meaning.specs.QueryLeaves.{query_leaves, used_paths}
use Rattle.dr_meaning.specs.Automaton.{reading_order}
use Rattle.dr_meaning.specs.BoundExpression.{ValueType, truth_type, number_type, text_type, kind_type, same_type}
use Rattle.dr_meaning.proofs.FindingLemmas.{In, in_at, at_in}
use Rattle.dr_meaning.proofs.LeafKinds.{kind_if_some, leaf_kind, shape_kind, kind_of_leaf}
use Rattle.dr_meaning.proofs.ProjectionLemmas.{step}
use Rattle.dr_partials.specs.PartialTypes.{type_among, path_type, expression_type}
use Rattle.dr_plan.specs.declared.expression.Number as numbers
use Rattle.dr_plan.specs.declared.expression.Number.{Number}
use Rattle.dr_plan.specs.declared.expression.Number.TheOpen.{Number-F}
use Rattle.dr_plan.specs.declared.expression.Number.TheFolds as number_folds
use Rattle.dr_plan.specs.declared.expression.TextOf as texts
use Rattle.dr_plan.specs.declared.expression.TextOf.{TextOf}
use Rattle.dr_plan.specs.declared.expression.TextOf.TheOpen.{TextOf-F}
use Rattle.dr_plan.specs.declared.expression.TextOf.TheFolds as text_folds
use Rattle.dr_plan.specs.declared.expression.Truth as truths
use Rattle.dr_plan.specs.declared.expression.Truth.{Truth}
use Rattle.dr_plan.specs.declared.expression.Truth.TheOpen.{Truth-F}
use Rattle.dr_plan.specs.declared.expression.Truth.TheFolds as truth_folds
use Rattle.dr_plan.specs.declared.expression.Expr.{Expr}
use Rattle.dr_plan.specs.declared.aggregate.Fold.{Fold}
use Rattle.dr_plan.specs.declared.plan.RecordTerm.{RecordTerm}
use Rattle.dr_plan.specs.Fitting.{leaf_has_type, number_fits, number_fits_step, text_fits, text_fits_step, truth_fits, truth_fits_step, expr_fits, record_term_fits}
use Rattle.dr_plan.specs.Views.{number_view, number_step, text_view, text_step, truth_view, truth_step, expr_view, record_term_view, path_of, fold_view}
use Rattle.dr_sub_meaning.specs.ResultRecords.{kind_of_type, term_type, aggregate_type}
use Rattle.dr_sub.specs.ResultFields.{value_kind, folded_kind, term_kind}

-- ---- the type of a leaf

both_begin : (s t : Step) (p q : List Step) → same_path (s ∷ p) (t ∷ q) ≡ true → (s.place ≡ t.place) × (same_path p q ≡ true)
both_begin s t p q h =
    let k = and_parts (begins_with (s ∷ p) (t ∷ q)) (begins_with (t ∷ q) (s ∷ p)) h in
    let a = and_parts (s.place == t.place) (begins_with p q) k.0 in
    let b = and_parts (t.place == s.place) (begins_with q p) k.1 in
    (eqb-true s.place t.place a.0, ap₂ (λ x y. x && y) a.1 b.1)

begins_itself : (p : List Step) → begins_with p p ≡ true
begins_itself [] = refl
begins_itself (s ∷ p) = ap₂ (λ a b. a && b) (same_place s.place) (begins_itself p)
  where
    same_place : (m : ℕ) → (m == m) ≡ true
    same_place m = grind (arith, nat_tests)

-- paths through the same fields lead to the same kind
mutual
  field_kind_same : (fs : Fields) (i : ℕ) (r w : Repetition) (p q : List Step) (k j : Kind) → leaf_kind fs (step i r ∷ p) ≡ Some k → leaf_kind fs (step i w ∷ q) ≡ Some j → same_path p q ≡ true → k ≡ j
  field_kind_same no_fields i r w p q k j a b h = absurd (cc)
  field_kind_same (field n v s fs) zero r w p q k j a b h =
      shape_kind_same s p q k j (kind_if_some _ (shape_kind s p) k a).1 (kind_if_some _ (shape_kind s q) j b).1 h
  field_kind_same (field n v s fs) (suc i) r w p q k j a b h = field_kind_same fs i r w p q k j a b h

  shape_kind_same : (s : Shape) (p q : List Step) (k j : Kind) → shape_kind s p ≡ Some k → shape_kind s q ≡ Some j → same_path p q ≡ true → k ≡ j
  shape_kind_same (leaf l) [] [] k j a b h = let x : l ≡ k = cc in let y : l ≡ j = cc in sym x ∙ y
  shape_kind_same (leaf l) [] (t ∷ q) k j a b h = absurd (cc)
  shape_kind_same (leaf l) (s ∷ p) q k j a b h = absurd (cc)
  shape_kind_same (group no_fields) [] q k j a b h = absurd (cc)
  shape_kind_same (group (field n v s fs)) [] q k j a b h = absurd (cc)
  shape_kind_same (group fs) (s ∷ p) [] k j a b h = absurd (true≢false (sym h))
  shape_kind_same (group fs) (s ∷ p) (t ∷ q) k j a b h =
      let e = both_begin s t p q h in
      field_kind_same fs s.place s.repetition t.repetition p q k j a (subst (λ i. leaf_kind fs (step i t.repetition ∷ q) ≡ Some j) (sym e.0) b) e.1

abbrev HasKind : Fields → Leaf → Type 0
HasKind fs m = leaf_kind fs m.path ≡ Some m.kind

kind_in : (fs : Fields) (m : Leaf) → In m (leaves fs) → HasKind fs m
kind_in fs m h = let a = in_at m (leaves fs) h in kind_of_leaf fs a.0 m a.1

type_found : (fs : Fields) (l : Leaf) → HasKind fs l → (ls : List Leaf) → ((m : Leaf) → In m ls → HasKind fs m) → In l ls → type_among l.path ls ≡ Some (kind_type l.kind)
type_found fs l k [] h i = absurd i
type_found fs l k (m ∷ ls) h i = by_test (same_path l.path m.path) refl i (type_found fs l k ls (λ n j. h n (inr j)))
  where
    by_test : (b : Bool) → same_path l.path m.path ≡ b → In l (m ∷ ls) → (In l ls → type_among l.path ls ≡ Some (kind_type l.kind)) → (if b then Some (kind_type m.kind) else type_among l.path ls) ≡ Some (kind_type l.kind)
    by_test true g j r = ap (λ x. Some (kind_type x)) (shape_kind_same (group fs) m.path l.path m.kind l.kind (h m (inl refl)) k (swapped g))
      where
        swapped : same_path l.path m.path ≡ true → same_path m.path l.path ≡ true
        swapped e = let p = and_parts (begins_with l.path m.path) (begins_with m.path l.path) e in ap₂ (λ x y. x && y) p.1 p.0
    by_test false g (inl j) r = absurd (true≢false (sym (ap₂ (λ x y. x && y) (begins_itself l.path) (begins_itself l.path)) ∙ (ap (λ (x : Leaf). same_path l.path x.path) (sym j) ∙ g)))
    by_test false g (inr j) r = r j

-- each of these leaves has the type of its kind
abbrev pub LeavesTyped : Fields → List Leaf → Type 0
LeavesTyped fs ls = (i : ℕ) (l : Leaf) → slice_get ls i ≡ Some l → path_type fs l.path ≡ Some (kind_type l.kind)

filter_in : (f : Leaf → Bool) (l : Leaf) (ls : List Leaf) → In l (filter f ls) → In l ls
filter_in f l [] h = h
filter_in f l (m ∷ ls) h = by_test (f m) h (filter_in f l ls)
  where
    by_test : (b : Bool) → In l (cond b (m ∷ filter f ls) (filter f ls)) → (In l (filter f ls) → In l ls) → In l (m ∷ ls)
    by_test true (inl e) r = inl e
    by_test true (inr g) r = inr (r g)
    by_test false g r = inr (r g)

picked_in : (ls : List Leaf) (js : List ℕ) (l : Leaf) → In l (filter_map (slice_get ls) js) → In l ls
picked_in ls [] l h = absurd h
picked_in ls (j ∷ js) l h = by_item (slice_get ls j) refl (picked_in ls js l) h
  where
    by_item : (o : Option Leaf) → slice_get ls j ≡ o → (In l (filter_map (slice_get ls) js) → In l ls) → In l (cons_option o (filter_map (slice_get ls) js)) → In l ls
    by_item None e r g = r g
    by_item (Some m) e r (inl g) = subst (λ (x : Leaf). In x ls) g (at_in m ls j e)
    by_item (Some m) e r (inr g) = r g

pub query_leaves_typed : (fs : Fields) (q : Query) → LeavesTyped fs (query_leaves fs q)
unfolding query_leaves
query_leaves_typed fs q i l e =
    let used : Leaf → Bool = λ (m : Leaf). list_any (same_path m.path) (used_paths q) in
    let there : In l (leaves fs) =
    filter_in used l (leaves fs) (picked_in (filter used (leaves fs)) (reading_order fs (map (λ (m : Leaf). m.path) (filter used (leaves fs)))) l (at_in l (query_leaves fs q) i e)) in
    type_found fs l (kind_in fs l there) (leaves fs) (kind_in fs) there

-- ---- leaves among a plan's

same_type_is : (t u : ValueType) → same_type t u ≡ true → t ≡ u
same_type_is truth_type truth_type h = refl
same_type_is number_type number_type h = refl
same_type_is text_type text_type h = refl
same_type_is truth_type number_type h = absurd (true≢false (sym h))
same_type_is truth_type text_type h = absurd (true≢false (sym h))
same_type_is number_type truth_type h = absurd (true≢false (sym h))
same_type_is number_type text_type h = absurd (true≢false (sym h))
same_type_is text_type truth_type h = absurd (true≢false (sym h))
same_type_is text_type number_type h = absurd (true≢false (sym h))

leaf_typed : (fs : Fields) (ls : List Leaf) (t : ValueType) (i : ℕ) → LeavesTyped fs ls → leaf_has_type t (slice_get ls i) ≡ true → path_type fs (path_of (slice_get ls i)) ≡ Some t
leaf_typed fs ls t i k h = by_leaf (slice_get ls i) refl h
  where
    by_leaf : (o : Option Leaf) → slice_get ls i ≡ o → leaf_has_type t o ≡ true → path_type fs (path_of o) ≡ Some t
    by_leaf None e g = absurd (true≢false (sym g))
    by_leaf (Some l) e g = k i l e ∙ ap Some (same_type_is (kind_type l.kind) t g)

-- ---- numbers

abbrev NumberTyped : Fields → List Leaf → Number → Type 0
NumberTyped fs ls n = number_fits ls n ≡ true → expression_type fs (number_view ls n) ≡ Some number_type

abbrev NumberNode : Fields → List Leaf → Type 0
NumberNode fs ls = Number-F ((n : Number) × NumberTyped fs ls n)

abbrev bare_number : (fs : Fields) (ls : List Leaf) → NumberNode fs ls → Number-F Number
bare_number fs ls y = number_folds.map-Number ((n : Number) × NumberTyped fs ls n) Number (λ e. e.0) y

number_node : (fs : Fields) (ls : List Leaf) → LeavesTyped fs ls → (y : NumberNode fs ls) → number_fits_step ls (number_folds.map-Number Number Bool (number_fits ls) (bare_number fs ls y)) ≡ true
    → expression_type fs (number_step ls (number_folds.map-Number Number Expression (number_view ls) (bare_number fs ls y))) ≡ Some number_type
number_node fs ls k (Number-F.Literal z) h = refl
number_node fs ls k (Number-F.Leaf i) h = leaf_typed fs ls number_type i k h
number_node fs ls k (Number-F.Negative a) h = refl
number_node fs ls k (Number-F.Add a b) h = a.value.1 (and_parts _ _ h).0
number_node fs ls k (Number-F.Subtract a b) h = refl
number_node fs ls k (Number-F.Multiply a b) h = refl

number_rolled : (fs : Fields) (ls : List Leaf) → LeavesTyped fs ls → (y : NumberNode fs ls) → NumberTyped fs ls (numbers.roll-Number (bare_number fs ls y))
number_rolled fs ls k y h =
    let x = bare_number fs ls y in
    ap (expression_type fs) (number_folds.fold-roll-Number Expression (number_step ls) x)
    ∙ number_node fs ls k y (sym (number_folds.fold-roll-Number Bool (number_fits_step ls) x) ∙ h)

number_typed : (fs : Fields) (ls : List Leaf) → LeavesTyped fs ls → (n : Number) → NumberTyped fs ls n
number_typed fs ls k = number_folds.ind-Number (NumberTyped fs ls) (λ x y is. subst (λ z. NumberTyped fs ls (numbers.roll-Number z)) is (number_rolled fs ls k y))

-- ---- texts

abbrev TextTyped : Fields → List Leaf → TextOf → Type 0
TextTyped fs ls n = text_fits ls n ≡ true → expression_type fs (text_view ls n) ≡ Some text_type

abbrev TextNode : Fields → List Leaf → Type 0
TextNode fs ls = TextOf-F ((n : TextOf) × TextTyped fs ls n)

abbrev bare_text : (fs : Fields) (ls : List Leaf) → TextNode fs ls → TextOf-F TextOf
bare_text fs ls y = text_folds.map-TextOf ((n : TextOf) × TextTyped fs ls n) TextOf (λ e. e.0) y

text_node : (fs : Fields) (ls : List Leaf) → LeavesTyped fs ls → (y : TextNode fs ls) → text_fits_step ls (text_folds.map-TextOf TextOf Bool (text_fits ls) (bare_text fs ls y)) ≡ true
    → expression_type fs (text_step ls (text_folds.map-TextOf TextOf Expression (text_view ls) (bare_text fs ls y))) ≡ Some text_type
text_node fs ls k (TextOf-F.Literal s) h = refl
text_node fs ls k (TextOf-F.Leaf i) h = leaf_typed fs ls text_type i k h
text_node fs ls k (TextOf-F.Join a b) h = a.value.1 (and_parts _ _ h).0

text_rolled : (fs : Fields) (ls : List Leaf) → LeavesTyped fs ls → (y : TextNode fs ls) → TextTyped fs ls (texts.roll-TextOf (bare_text fs ls y))
text_rolled fs ls k y h =
    let x = bare_text fs ls y in
    ap (expression_type fs) (text_folds.fold-roll-TextOf Expression (text_step ls) x)
    ∙ text_node fs ls k y (sym (text_folds.fold-roll-TextOf Bool (text_fits_step ls) x) ∙ h)

text_typed : (fs : Fields) (ls : List Leaf) → LeavesTyped fs ls → (n : TextOf) → TextTyped fs ls n
text_typed fs ls k = text_folds.ind-TextOf (TextTyped fs ls) (λ x y is. subst (λ z. TextTyped fs ls (texts.roll-TextOf z)) is (text_rolled fs ls k y))

-- ---- truth values

abbrev TruthTyped : Fields → List Leaf → Truth → Type 0
TruthTyped fs ls n = truth_fits ls n ≡ true → expression_type fs (truth_view ls n) ≡ Some truth_type

abbrev TruthNode : Fields → List Leaf → Type 0
TruthNode fs ls = Truth-F ((n : Truth) × TruthTyped fs ls n)

abbrev bare_truth : (fs : Fields) (ls : List Leaf) → TruthNode fs ls → Truth-F Truth
bare_truth fs ls y = truth_folds.map-Truth ((n : Truth) × TruthTyped fs ls n) Truth (λ e. e.0) y

truth_node : (fs : Fields) (ls : List Leaf) → LeavesTyped fs ls → (y : TruthNode fs ls) → truth_fits_step ls (truth_folds.map-Truth Truth Bool (truth_fits ls) (bare_truth fs ls y)) ≡ true
    → expression_type fs (truth_step ls (truth_folds.map-Truth Truth Expression (truth_view ls) (bare_truth fs ls y))) ≡ Some truth_type
truth_node fs ls k (Truth-F.Literal b) h = refl
truth_node fs ls k (Truth-F.Leaf i) h = leaf_typed fs ls truth_type i k h
truth_node fs ls k (Truth-F.Not a) h = refl
truth_node fs ls k (Truth-F.And a b) h = refl
truth_node fs ls k (Truth-F.Or a b) h = refl
truth_node fs ls k (Truth-F.Numbers c a b) h = refl
truth_node fs ls k (Truth-F.Texts c a b) h = refl
truth_node fs ls k (Truth-F.Truths c a b) h = refl
truth_node fs ls k (Truth-F.Like a p) h = refl
truth_node fs ls k (Truth-F.Contains a s) h = refl
truth_node fs ls k (Truth-F.NumberIsNull a) h = refl
truth_node fs ls k (Truth-F.TextIsNull a) h = refl
truth_node fs ls k (Truth-F.TruthIsNull a) h = refl

truth_rolled : (fs : Fields) (ls : List Leaf) → LeavesTyped fs ls → (y : TruthNode fs ls) → TruthTyped fs ls (truths.roll-Truth (bare_truth fs ls y))
truth_rolled fs ls k y h =
    let x = bare_truth fs ls y in
    ap (expression_type fs) (truth_folds.fold-roll-Truth Expression (truth_step ls) x)
    ∙ truth_node fs ls k y (sym (truth_folds.fold-roll-Truth Bool (truth_fits_step ls) x) ∙ h)

truth_typed : (fs : Fields) (ls : List Leaf) → LeavesTyped fs ls → (n : Truth) → TruthTyped fs ls n
truth_typed fs ls k = truth_folds.ind-Truth (TruthTyped fs ls) (λ x y is. subst (λ z. TruthTyped fs ls (truths.roll-Truth z)) is (truth_rolled fs ls k y))

-- ---- terms

value_typed : (fs : Fields) (ls : List Leaf) → LeavesTyped fs ls → (e : Expr) → expr_fits ls e ≡ true → kind_of_type (expression_type fs (expr_view ls e)) ≡ value_kind e
value_typed fs ls k (Expr.Truth a) h = ap kind_of_type (truth_typed fs ls k a h)
value_typed fs ls k (Expr.Number a) h = ap kind_of_type (number_typed fs ls k a h)
value_typed fs ls k (Expr.Text a) h = ap kind_of_type (text_typed fs ls k a h)

-- the kind of a term's values is that of its type
pub term_typed : (fs : Fields) (ls : List Leaf) → LeavesTyped fs ls → (t : RecordTerm) → record_term_fits ls t ≡ true → kind_of_type (term_type fs (record_term_view ls t)) ≡ term_kind t
term_typed fs ls k (RecordTerm.Value e) h = value_typed fs ls k e h
term_typed fs ls k (RecordTerm.Within w) h = by_fold w.fold
  where
    argument : kind_of_type (expression_type fs (expr_view ls w.argument)) ≡ value_kind w.argument
    argument = value_typed fs ls k w.argument (and_parts _ _ h).0

    by_fold : (f : Fold) → kind_of_type (aggregate_type (fold_view f) (expression_type fs (expr_view ls w.argument))) ≡ folded_kind f (value_kind w.argument)
    by_fold Fold.Count = refl
    by_fold Fold.Sum = refl
    by_fold Fold.Least = argument
    by_fold Fold.Greatest = argument
