-- The condition and what items give.
use Rattle.std.proofs.Common.{◌≡◌, ℕ, List, [], ◌∷◌, ◌++◌, map, true, false, Option, Some, None, refl, sym, ap, ◌∙◌, subst, append-nil}
use Rattle.std.specs.Prelude.{Vec, Result, Ok, Err, IfOk, OnOk}
use Rattle.std.specs.declared.alloc.Global.{Global}
use Rattle.dr_meaning.specs.Schema.{Fields}
use Rattle.dr_meaning.specs.Path.{Leaf}
use Rattle.dr_meaning.specs.BoundExpression as meant
use Rattle.dr_meaning.specs.BoundExpression.{BindFault, Checked, passes, fails, ValueType, truth_type, same_type, of_type, then_check, together, checked_map, type_mismatch}
use Rattle.dr_meaning.specs.Binding as binding
use Rattle.dr_meaning.specs.Binding.{first_fault}
use Rattle.dr_meaning.specs.Query.{Aggregate}
use Rattle.dr_plan.specs.declared.expression.Truth.{Truth}
use Rattle.dr_plan.specs.declared.expression.Expr.{Expr}
use Rattle.dr_plan.specs.declared.aggregate.Fold.{Fold}
use Rattle.dr_plan.specs.Views.{fold_view, expr_view}
use Rattle.dr_plan.specs.Fitting.{expr_fits}
use Rattle.dr_resolve.specs.Faults.{earlier}
use Rattle.dr_resolve.specs.Bound.{type_of, IsExpression}
use Rattle.dr_resolve.specs.Outcomes.{Appends, BindsAs}
use Rattle.dr_paths.specs.declared.bound.BoundPath.{BoundPath}
use Rattle.dr_paths.specs.Views.{bound_path_view}
use Rattle.dr_resolve.specs.Items.{AreExpressions, IsTruth, IsWithin, IsTerm}
use Rattle.dr_resolve.specs.declared.bound.BoundExpression.{BoundExpression}
use Rattle.dr_resolve.specs.declared.bound.BoundCondition.{BoundCondition}
use Rattle.dr_resolve.specs.declared.bound.BoundWithin.{BoundWithin}
use Rattle.dr_resolve.specs.declared.bound.BoundTerm.{BoundTerm}
use Rattle.dr_resolve.proofs.FaultLemmas.{noted_behind}

-- ---- a wanted type

-- nothing could be bound
pub none_checked : {A B C D : Type 0} (Is : A → C → Type 0) (Is' : B → D → Type 0) (rule : A → Checked B) (c : Checked A) (before now : Option BindFault) → BindsAs Is before now c None → BindsAs Is' before now (then_check rule c) None
none_checked Is Is' rule (passes b) before now h = absurd h
none_checked Is Is' rule (fails e es) before now h = h

pub none_mapped : {A B C D : Type 0} (Is : A → C → Type 0) (Is' : B → D → Type 0) (f : A → B) (c : Checked A) (before now : Option BindFault) → BindsAs Is before now c None → BindsAs Is' before now (checked_map f c) None
none_mapped Is Is' f (passes b) before now h = absurd h
none_mapped Is Is' f (fails e es) before now h = h

pub mapped : {A B C D : Type 0} (Is : A → C → Type 0) (Is' : B → D → Type 0) (f : A → B) (y : C) (z : D) (c : Checked A) (before now : Option BindFault) → ((b : A) → Is b y → Is' (f b) z) → BindsAs Is before now c (Some y) → BindsAs Is' before now (checked_map f c) (Some z)
mapped Is Is' f y z (passes b) before now g h = (h.0, g b h.1)
mapped Is Is' f y z (fails e es) before now g h = absurd h

-- a value of the wanted type
pub of_wanted : (fs : Fields) (ls : List Leaf) (wanted : ValueType) (i : ℕ) (c : Checked meant.BoundExpression) (before now : Option BindFault) (x : BoundExpression) → same_type (type_of x.expression.value) wanted ≡ true
    → BindsAs (IsExpression fs ls) before now c (Some x) → BindsAs (IsExpression fs ls) before now (then_check (of_type wanted i) c) (Some x)
of_wanted fs ls wanted i (fails e es) before now x t h = absurd h
of_wanted fs ls wanted i (passes b) before now x t h = let s : same_type b.gives wanted ≡ true = ap (λ y. same_type y wanted) (sym h.1.gives) ∙ t in rw s h

-- a value of another type
pub of_other : {D : Type 0} (Is : meant.BoundExpression → D → Type 0) (fs : Fields) (ls : List Leaf) (wanted : ValueType) (i : ℕ) (c : Checked meant.BoundExpression) (before between now : Option BindFault) (x : BoundExpression)
    → same_type (type_of x.expression.value) wanted ≡ false → now ≡ earlier between (Some (record { place = i; problem = type_mismatch }))
    → BindsAs (IsExpression fs ls) before between c (Some x) → BindsAs Is before now (then_check (of_type wanted i) c) None
of_other Is fs ls wanted i (fails e es) before between now x t n h = absurd h
of_other Is fs ls wanted i (passes b) before between now x t n h =
    let s : same_type b.gives wanted ≡ false = ap (λ y. same_type y wanted) (sym h.1.gives) ∙ t in
    rw s (n ∙ ap (λ y. earlier y (Some (record { place = i; problem = type_mismatch }))) h.0)

-- a truth value
pub of_truth : (fs : Fields) (ls : List Leaf) (i : ℕ) (c : Checked meant.BoundExpression) (before now : Option BindFault) (x : BoundExpression) (t : Truth) (y : BoundCondition) → x.expression.value ≡ Expr.Truth t
    → y.truth.value ≡ t → y.paths ≡ x.paths → BindsAs (IsExpression fs ls) before now c (Some x) → BindsAs (IsTruth fs ls) before now (then_check (of_type truth_type i) c) (Some y)
of_truth fs ls i (fails e es) before now x t y e' t' p h = absurd h
of_truth fs ls i (passes b) before now x t y e' t' p h =
    let s : same_type b.gives truth_type ≡ true = ap (λ z. same_type z truth_type) (sym h.1.gives ∙ ap type_of e') in
    let same : Expr.Truth y.truth.value ≡ x.expression.value = ap Expr.Truth t' ∙ sym e' in
    rw s (
      h.0,
      record {
        paths = ap (λ (ps : Vec BoundPath Global). map bound_path_view ps.items) p ∙ h.1.paths;
        own = h.1.own;
        real = h.1.real;
        view = λ z. ap (expr_view ls) same ∙ (h.1.means z).view;
        fits = λ z. ap (expr_fits ls) same ∙ (h.1.means z).fits;
      },
    )

-- ---- aggregates

pub no_argument : (fs : Fields) (ls : List Leaf) (a : Aggregate) (c : Checked meant.BoundExpression) (d : Checked (Option binding.BoundWithin)) (before between now : Option BindFault) (w : Option (Option BoundWithin))
    → BindsAs (IsExpression fs ls) before between c None → BindsAs IsWithin between now d w → BindsAs (IsTerm fs ls) before now (together (binding.aggregated a) c d) None
no_argument fs ls a (passes b) d before between now w h k = absurd h
no_argument fs ls a (fails e es) (passes v) before between now None h k = absurd k
no_argument fs ls a (fails e es) (passes v) before between now (Some w) h k = k.0 ∙ h
no_argument fs ls a (fails e es) (fails g gs) before between now None h k = noted_behind before between now (e ∷ es) (g ∷ gs) h k
no_argument fs ls a (fails e es) (fails g gs) before between now (Some w) h k = absurd k

pub no_node : (fs : Fields) (ls : List Leaf) (a : Aggregate) (c : Checked meant.BoundExpression) (d : Checked (Option binding.BoundWithin)) (before between now : Option BindFault) (x : BoundExpression)
    → BindsAs (IsExpression fs ls) before between c (Some x) → BindsAs IsWithin between now d None → BindsAs (IsTerm fs ls) before now (together (binding.aggregated a) c d) None
no_node fs ls a (fails e es) d before between now x h k = absurd h
no_node fs ls a (passes b) (passes v) before between now x h k = absurd k
no_node fs ls a (passes b) (fails g gs) before between now x h k = k ∙ ap (λ y. earlier y (first_fault (g ∷ gs))) h.0

pub both_bound : (fs : Fields) (ls : List Leaf) (f : Fold) (c : Checked meant.BoundExpression) (d : Checked (Option binding.BoundWithin)) (before between now : Option BindFault) (x : BoundExpression) (w : Option BoundWithin)
    → BindsAs (IsExpression fs ls) before between c (Some x) → BindsAs IsWithin between now d (Some w) → BindsAs (IsTerm fs ls) before now (together (binding.aggregated (fold_view f)) c d) (Some (BoundTerm.Aggregated f x w))
both_bound fs ls f (fails e es) d before between now x w h k = absurd h
both_bound fs ls f (passes b) (fails g gs) before between now x w h k = absurd k
both_bound fs ls f (passes b) (passes v) before between now x w h k = (k.0 ∙ h.0, (refl, h.1, k.1))

-- ---- arguments that stand alone

pub expressions_more : (fs : Fields) (ls : List Leaf) (bs : List meant.BoundExpression) (xs : List BoundExpression) (b : meant.BoundExpression) (x : BoundExpression) → AreExpressions fs ls bs xs → IsExpression fs ls b x
    → AreExpressions fs ls (bs ++ b ∷ []) (xs ++ x ∷ [])
expressions_more fs ls [] [] b x h k = (k, tt)
expressions_more fs ls [] (y ∷ ys) b x h k = absurd h
expressions_more fs ls (c ∷ cs) [] b x h k = absurd h
expressions_more fs ls (c ∷ cs) (y ∷ ys) b x h k = (h.0, expressions_more fs ls cs ys b x h.1 k)

-- none more
pub nothing_more : (fs : Fields) (ls : List Leaf) (xs : List BoundExpression) → Appends fs ls [] xs xs
nothing_more fs ls xs bs h = subst (λ cs. AreExpressions fs ls cs xs) (sym (append-nil bs)) h

-- beside an argument that fails
pub alone_without : (fs : Fields) (ls : List Leaf) (c : Checked meant.BoundExpression) (d : Checked (Option binding.BoundWithin)) (before between : Option BindFault) (xs : List BoundExpression)
    → BindsAs (IsExpression fs ls) before between c None → Appends fs ls (binding.alone c d) xs xs
alone_without fs ls (passes b) d before between xs h = absurd h
alone_without fs ls (fails e es) d before between xs h = nothing_more fs ls xs

-- beside a WITHIN that passes
pub alone_with_node : (fs : Fields) (ls : List Leaf) (c : Checked meant.BoundExpression) (d : Checked (Option binding.BoundWithin)) (between now : Option BindFault) (w : Option BoundWithin) (xs : List BoundExpression)
    → BindsAs IsWithin between now d (Some w) → Appends fs ls (binding.alone c d) xs xs
alone_with_node fs ls (passes b) (passes v) between now w xs h = nothing_more fs ls xs
alone_with_node fs ls (fails e es) (passes v) between now w xs h = nothing_more fs ls xs
alone_with_node fs ls c (fails g gs) between now w xs h = absurd h

-- an argument that passes beside a WITHIN that doesn't
pub alone_here : (fs : Fields) (ls : List Leaf) (c : Checked meant.BoundExpression) (d : Checked (Option binding.BoundWithin)) (before between now : Option BindFault) (x : BoundExpression) (xs ys : List BoundExpression)
    → ys ≡ xs ++ x ∷ [] → BindsAs (IsExpression fs ls) before between c (Some x) → BindsAs IsWithin between now d None → Appends fs ls (binding.alone c d) xs ys
alone_here fs ls (fails e es) d before between now x xs ys p h k = absurd h
alone_here fs ls (passes b) (passes v) before between now x xs ys p h k = absurd k
alone_here fs ls (passes b) (fails g gs) before between now x xs ys p h k = λ bs r. subst (AreExpressions fs ls (bs ++ b ∷ [])) (sym p) (expressions_more fs ls bs xs b x r h.1)

-- of an answer without a value what follows
pub on_ok_weaker : {A E : Type 0} (r : Result A E) (P Q : Type 0) → (P → Q) → OnOk r P → OnOk r Q
on_ok_weaker (Ok a) P Q f h = f h
on_ok_weaker (Err e) P Q f h = tt

-- of an answer with a value what follows from it
pub on_ok_if : {A E : Type 0} (r : Result A E) (P : A → Type 0) (Q : Type 0) → ((a : A) → P a → Q) → IfOk r P → OnOk r Q
on_ok_if (Ok a) P Q f h = f a h
on_ok_if (Err e) P Q f h = tt
