-- Conditions cut at their top.
use Rattle.std.proofs.Common.{◌≡◌, ℕ, ◌+◌, length, length-append, List, [], ◌∷◌, ◌++◌, map, Bool, true, false, ◌&&◌, refl, sym, ap, ap₂, ◌∙◌, append_assoc, rules}
use Rattle.std.specs.Prelude.{Box, Result, Ok, Err, OnOk}
use Rattle.std.specs.List.{list_all}
use Rattle.std.specs.declared.alloc.Global.{Global}
use Rattle.std.proofs.lemmas.List.{length-map, map_push}
use Rattle.std.proofs.lemmas.List.Folds.{list_all-append}
use Rattle.dr_meaning.specs.Path.{Leaf}
use Rattle.dr_meaning.specs.Expression.{Expression, conjunction}
use Rattle.dr_plan.specs.Conjuncts.{conjuncts, Joining, by_number, by_and, joining_from}
use Rattle.dr_plan.specs.Views.{joining_view, truth_view}
use Rattle.dr_plan.specs.Fitting.{truth_fits}
use Rattle.dr_plan.specs.declared.expression.Truth as truths
use Rattle.dr_plan.specs.declared.expression.Truth.TheOpen.{Truth-F}
use Rattle.dr_plan.specs.declared.expression.Truth.TheVariants as variants
use Rattle.dr_plan.specs.declared.joining.Joining as joinings
use Rattle.dr_plan.specs.declared.joining.Joining.TheVariants as joining_variants

pub view-and : (ls : List Leaf) (a b : Box truths.Truth Global) → truth_view ls (variants.And a b) ≡ conjunction (truth_view ls a.value) (truth_view ls b.value)
view-and ls a b = search (rules, truths.the_lemmas)

pub fits-and : (ls : List Leaf) (a b : Box truths.Truth Global) → truth_fits ls (variants.And a b) ≡ (truth_fits ls a.value && truth_fits ls b.value)
fits-and ls a b = search (rules, truths.the_lemmas)

-- what isn't an AND is one part
pub one_part : (ls : List Leaf) (t : truths.Truth) → ((a b : Box truths.Truth Global) → t ≡ variants.And a b → ⊥) → conjuncts (truth_view ls t) ≡ truth_view ls t ∷ []
one_part ls t h = by (truths.out-Truth t) refl
  where
    by : (y : _) → truths.out-Truth t ≡ y → conjuncts (truth_view ls t) ≡ truth_view ls t ∷ []
    by (Truth-F.And a b) e = absurd (h a b (sym (truths.roll-out-Truth t) ∙ (ap truths.roll-Truth e ∙ variants.rolls-And a b)))
    by y e = search (rules, truths.the_lemmas)

-- ---- the parts of an AND are those of its operands

abbrev views : List Leaf → List truths.Truth → List Expression
views ls ts = map (truth_view ls) ts

pub both_parts : (ls : List Leaf) (t : truths.Truth) (a b : Box truths.Truth Global) (x y : truths.Truth) (before between after : List truths.Truth)
    → t ≡ variants.And a b → x ≡ a.value → y ≡ b.value → views ls between ≡ views ls before ++ conjuncts (truth_view ls x) → views ls after ≡ views ls between ++ conjuncts (truth_view ls y)
    → views ls after ≡ views ls before ++ conjuncts (truth_view ls t)
both_parts ls t a b x y before between after e f g p q =
    q ∙ (ap (λ (es : List Expression). es ++ conjuncts (truth_view ls y)) p
    ∙ (append_assoc (views ls before) (conjuncts (truth_view ls x)) (conjuncts (truth_view ls y))
    ∙ (ap₂ (λ (u v : truths.Truth). views ls before ++ (conjuncts (truth_view ls u) ++ conjuncts (truth_view ls v))) f g
    ∙ ap (λ (w : Expression). views ls before ++ conjuncts w) (sym (ap (truth_view ls) e ∙ view-and ls a b)))))

and_assoc : (a b c : Bool) → ((a && b) && c) ≡ (a && (b && c))
and_assoc true b c = refl
and_assoc false b c = refl

pub both_fit : (ls : List Leaf) (t : truths.Truth) (a b : Box truths.Truth Global) (x y : truths.Truth) (before between after : List truths.Truth)
    → t ≡ variants.And a b → x ≡ a.value → y ≡ b.value → list_all (truth_fits ls) between ≡ (list_all (truth_fits ls) before && truth_fits ls x)
    → list_all (truth_fits ls) after ≡ (list_all (truth_fits ls) between && truth_fits ls y) → list_all (truth_fits ls) after ≡ (list_all (truth_fits ls) before && truth_fits ls t)
both_fit ls t a b x y before between after e f g p q =
    q ∙ (ap (λ (z : Bool). z && truth_fits ls y) p
    ∙ (and_assoc (list_all (truth_fits ls) before) (truth_fits ls x) (truth_fits ls y)
    ∙ (ap₂ (λ (u v : truths.Truth). list_all (truth_fits ls) before && (truth_fits ls u && truth_fits ls v)) f g
    ∙ ap (λ (z : Bool). list_all (truth_fits ls) before && z) (sym (ap (truth_fits ls) e ∙ fits-and ls a b)))))

-- ---- one more part

pub part_pushed : (ls : List Leaf) (t : truths.Truth) (before after : List truths.Truth) → ((a b : Box truths.Truth Global) → t ≡ variants.And a b → ⊥) → after ≡ before ++ t ∷ []
    → views ls after ≡ views ls before ++ conjuncts (truth_view ls t)
part_pushed ls t before after h e =
    ap (views ls) e ∙ (map_push (truth_view ls) before t ∙ ap (λ (es : List Expression). views ls before ++ es) (sym (one_part ls t h)))

and_true : (b : Bool) → (b && true) ≡ b
and_true true = refl
and_true false = refl

pub fit_pushed : (ls : List Leaf) (t : truths.Truth) (before after : List truths.Truth) → after ≡ before ++ t ∷ [] → list_all (truth_fits ls) after ≡ (list_all (truth_fits ls) before && truth_fits ls t)
fit_pushed ls t before after e =
    ap (list_all (truth_fits ls)) e ∙ (list_all-append (truth_fits ls) before (t ∷ []) ∙ ap (λ (z : Bool). list_all (truth_fits ls) before && z) (and_true (truth_fits ls t)))

-- ---- how they are joined

view-conjunct : (n : ℕ) → joining_view (joining_variants.Conjunct n) ≡ by_number n
view-conjunct n = search (rules, joinings.the_lemmas)

-- what isn't an AND is joined to nothing
one_number : (ls : List Leaf) (t : truths.Truth) → ((a b : Box truths.Truth Global) → t ≡ variants.And a b → ⊥) → (n : ℕ) → joining_from n (truth_view ls t) ≡ by_number n
one_number ls t h n = by (truths.out-Truth t) refl
  where
    by : (y : _) → truths.out-Truth t ≡ y → joining_from n (truth_view ls t) ≡ by_number n
    by (Truth-F.And a b) e = absurd (h a b (sym (truths.roll-out-Truth t) ∙ (ap truths.roll-Truth e ∙ variants.rolls-And a b)))
    by y e = search (rules, truths.the_lemmas)

pub number_joined : (ls : List Leaf) (t : truths.Truth) (before : List truths.Truth) (n : ℕ) → ((a b : Box truths.Truth Global) → t ≡ variants.And a b → ⊥) → n ≡ length before
    → joining_view (joining_variants.Conjunct n) ≡ joining_from (length before) (truth_view ls t)
number_joined ls t before n h e = view-conjunct n ∙ (ap by_number e ∙ sym (one_number ls t h (length before)))

pub both_joined : (ls : List Leaf) (t : truths.Truth) (a b : Box truths.Truth Global) (x y : truths.Truth) (before between : List truths.Truth) (l r j : Joining)
    → t ≡ variants.And a b → x ≡ a.value → y ≡ b.value → views ls between ≡ views ls before ++ conjuncts (truth_view ls x)
    → l ≡ joining_from (length before) (truth_view ls x) → r ≡ joining_from (length between) (truth_view ls y) → j ≡ by_and l r
    → j ≡ joining_from (length before) (truth_view ls t)
both_joined ls t a b x y before between l r j e f g p m q k =
    let u = truth_view ls x in
    let v = truth_view ls y in
    let count : length between ≡ length before + length (conjuncts u) =
    sym (length-map between (truth_view ls)) ∙ (ap length p ∙ (length-append (views ls before) (conjuncts u) ∙ ap (λ n. n + length (conjuncts u)) (length-map before (truth_view ls)))) in
    let seen : truth_view ls t ≡ conjunction u v =
    ap (truth_view ls) e ∙ (view-and ls a b ∙ sym (ap₂ (λ (w z : truths.Truth). conjunction (truth_view ls w) (truth_view ls z)) f g)) in
    k ∙ (ap₂ by_and m q ∙ (ap (λ n. by_and (joining_from (length before) u) (joining_from n v)) count ∙ sym (ap (joining_from (length before)) seen)))

pub on_ok : {A E : Type 0} (r : Result A E) (P : Type 0) → P → OnOk r P
on_ok (Ok v) P p = p
on_ok (Err e) P p = tt
