-- Operators over operands that have been bound.
use Rattle.std.proofs.Common.{◌≡◌, ℕ, List, ◌∷◌, ◌++◌, map, false, ◌&&◌, Option, Some, None, refl, sym, ap, ap₂, ◌∙◌, subst}
use Rattle.std.specs.Prelude.{option_map, IfSome, Vec}
use Rattle.std.specs.Option.{option_zip}
use Rattle.std.specs.declared.alloc.Global.{Global}
use Rattle.std.proofs.lemmas.List.{map-append}
use Rattle.dr_meaning.specs.Schema.{Fields}
use Rattle.dr_meaning.specs.Path.{Leaf}
use Rattle.dr_meaning.specs.Expression.{Expression, paths_of}
use Rattle.dr_meaning.specs.BoundExpression as meant
use Rattle.dr_meaning.specs.BoundExpression.{BindFault, Checked, passes, fails, ValueType, one_operand, two_operands}
use Rattle.dr_meaning.specs.Binding.{first_fault}
use Rattle.dr_plan.specs.Views.{expr_view}
use Rattle.dr_plan.specs.Fitting.{expr_fits}
use Rattle.dr_plan.specs.declared.expression.Expr.{Expr}
use Rattle.dr_resolve.specs.Faults.{earlier}
use Rattle.dr_resolve.specs.Bound.{Covers, is_path_value, type_of, Means, IsExpression}
use Rattle.dr_resolve.specs.Outcomes.{BindsAs, MadeAt}
use Rattle.dr_resolve.specs.Operators.{unary_of, binary_of}
use Rattle.dr_paths.specs.declared.bound.BoundPath.{BoundPath}
use Rattle.dr_paths.specs.Views.{bound_path_view}
use Rattle.dr_resolve.specs.declared.bound.BoundExpression.{BoundExpression}
use Rattle.dr_resolve.specs.declared.operators.Unary.{Unary}
use Rattle.dr_resolve.specs.declared.operators.Binary.{Binary}
use Rattle.dr_resolve.proofs.FaultLemmas.{noted_behind}
use Rattle.dr_resolve.proofs.BoundLemmas.{covers_parts, real_joined}

-- ---- one operand

-- what is made of an expression has its paths
abbrev KeepsPaths : (Expression → Expression) → Type 0
KeepsPaths make = (e : Expression) → paths_of (make e) ≡ paths_of e

pub unary_keeps : (o : Unary) → KeepsPaths (unary_of o)
unary_keeps Unary.Negative e = refl
unary_keeps (Unary.Like t) e = refl
unary_keeps (Unary.Contains t) e = refl
unary_keeps Unary.IsNull e = refl
unary_keeps Unary.Not e = refl

-- what is made of an expression is no path
abbrev IsNoPath : (Expression → Expression) → Type 0
IsNoPath make = (e : Expression) → is_path_value (make e) ≡ false

pub unary_is_no_path : (o : Unary) → IsNoPath (unary_of o)
unary_is_no_path Unary.Negative e = refl
unary_is_no_path (Unary.Like t) e = refl
unary_is_no_path (Unary.Contains t) e = refl
unary_is_no_path Unary.IsNull e = refl
unary_is_no_path Unary.Not e = refl

-- an operand that couldn't be bound
pub no_operand : (fs : Fields) (ls : List Leaf) (i : ℕ) (type : ValueType → Option ValueType) (make : Expression → Expression) (c : Checked meant.BoundExpression) (before now : Option BindFault)
    → BindsAs (IsExpression fs ls) before now c None → BindsAs (IsExpression fs ls) before now (one_operand i type make c) None
no_operand fs ls i type make (passes b) before now h = absurd h
no_operand fs ls i type make (fails e es) before now h = h

abbrev ViewIs : (Expression → Expression) → Expr → Option Expr → Type 0
ViewIs make a made = IfSome made (λ e. (ls : List Leaf) → expr_view ls e ≡ make (expr_view ls a))

abbrev FitsAs : Expr → Option Expr → Type 0
FitsAs a made = IfSome made (λ e. (ls : List Leaf) → expr_fits ls e ≡ expr_fits ls a)

pub one_made : (fs : Fields) (ls : List Leaf) (i : ℕ) (type : ValueType → Option ValueType) (make : Expression → Expression) (c : Checked meant.BoundExpression)
    (before between now : Option BindFault) (x : BoundExpression) (made : Option Expr) (o : Option BoundExpression) → KeepsPaths make → IsNoPath make
    → option_map type_of made ≡ type (type_of x.expression.value) → ViewIs make x.expression.value made → FitsAs x.expression.value made → MadeAt i made x.paths between now o
    → BindsAs (IsExpression fs ls) before between c (Some x) → BindsAs (IsExpression fs ls) before now (one_operand i type make c) o
one_made fs ls i type make (fails e es) before between now x made o k np t v f m h = absurd h
one_made fs ls i type make (passes b) before between now x None None k np t v f m h =
    let none : type b.gives ≡ None = ap type (sym h.1.gives) ∙ sym t in
    rw none (m.1 ∙ ap (λ y. earlier y (Some (record { place = i; problem = meant.type_mismatch }))) h.0)
one_made fs ls i type make (passes b) before between now x (Some e) None k np t v f m h = absurd (cc)
one_made fs ls i type make (passes b) before between now x None (Some y) k np t v f m h = absurd (cc)
one_made fs ls i type make (passes b) before between now x (Some e) (Some y) k np t v f m h =
    let some : type b.gives ≡ Some (type_of e) = ap type (sym h.1.gives) ∙ sym t in
    let same : e ≡ y.expression.value = cc in
    let means : Covers ls b.paths → Means ls (record { expression = make b.expression; gives = type_of e; paths = b.paths }) y.expression.value =
    λ z. let n = h.1.means z in record { view = ap (expr_view ls) (sym same) ∙ v ls ∙ ap make n.view; fits = ap (expr_fits ls) (sym same) ∙ f ls ∙ n.fits } in
    rw some (
      m.2 ∙ h.0,
      record {
        gives = ap type_of (sym same);
        paths = ap (λ (ps : Vec BoundPath Global). map bound_path_view ps.items) m.1 ∙ h.1.paths;
        own = k b.expression ∙ h.1.own;
        alone = m.3 ∙ sym (np b.expression);
        real = h.1.real;
        means = means;
      },
    )

-- ---- two operands

abbrev JoinsPaths : (Expression → Expression → Expression) → Type 0
JoinsPaths make = (a b : Expression) → paths_of (make a b) ≡ paths_of a ++ paths_of b

pub binary_joins : (o : Binary) → JoinsPaths (binary_of o)
binary_joins (Binary.Arithmetic o) a b = refl
binary_joins (Binary.Comparison o) a b = refl
binary_joins Binary.And a b = refl
binary_joins Binary.Or a b = refl

abbrev AreNoPath : (Expression → Expression → Expression) → Type 0
AreNoPath make = (a b : Expression) → is_path_value (make a b) ≡ false

pub binary_is_no_path : (o : Binary) → AreNoPath (binary_of o)
binary_is_no_path (Binary.Arithmetic o) a b = refl
binary_is_no_path (Binary.Comparison o) a b = refl
binary_is_no_path Binary.And a b = refl
binary_is_no_path Binary.Or a b = refl

-- one of the operands couldn't be bound
no_left : (fs : Fields) (ls : List Leaf) (i : ℕ) (type : ValueType → ValueType → Option ValueType) (make : Expression → Expression → Expression) (c d : Checked meant.BoundExpression)
    (before between now : Option BindFault) (right : Option BoundExpression) → BindsAs (IsExpression fs ls) before between c None → BindsAs (IsExpression fs ls) between now d right
    → BindsAs (IsExpression fs ls) before now (two_operands i type make c d) None
no_left fs ls i type make (passes a) d before between now right h k = absurd h
no_left fs ls i type make (fails e es) (passes b) before between now None h k = absurd k
no_left fs ls i type make (fails e es) (passes b) before between now (Some y) h k = k.0 ∙ h
no_left fs ls i type make (fails e es) (fails g gs) before between now None h k = noted_behind before between now (e ∷ es) (g ∷ gs) h k
no_left fs ls i type make (fails e es) (fails g gs) before between now (Some y) h k = absurd k

no_right : (fs : Fields) (ls : List Leaf) (i : ℕ) (type : ValueType → ValueType → Option ValueType) (make : Expression → Expression → Expression) (c d : Checked meant.BoundExpression)
    (before between now : Option BindFault) (x : BoundExpression) → BindsAs (IsExpression fs ls) before between c (Some x) → BindsAs (IsExpression fs ls) between now d None
    → BindsAs (IsExpression fs ls) before now (two_operands i type make c d) None
no_right fs ls i type make (fails e es) d before between now x h k = absurd h
no_right fs ls i type make (passes a) (passes b) before between now x h k = absurd k
no_right fs ls i type make (passes a) (fails g gs) before between now x h k = k ∙ ap (λ y. earlier y (first_fault (g ∷ gs))) h.0

-- not both of the operands could be bound
pub no_pair : (fs : Fields) (ls : List Leaf) (i : ℕ) (type : ValueType → ValueType → Option ValueType) (make : Expression → Expression → Expression) (c d : Checked meant.BoundExpression)
    (before between now : Option BindFault) (left right : Option BoundExpression) → option_zip left right ≡ None → BindsAs (IsExpression fs ls) before between c left
    → BindsAs (IsExpression fs ls) between now d right → BindsAs (IsExpression fs ls) before now (two_operands i type make c d) None
no_pair fs ls i type make c d before between now None right z h k = no_left fs ls i type make c d before between now right h k
no_pair fs ls i type make c d before between now (Some x) None z h k = no_right fs ls i type make c d before between now x h k
no_pair fs ls i type make c d before between now (Some x) (Some y) z h k = absurd (cc)

-- of a pair of operands, each could be bound
pub left_of_pair : (left right : Option BoundExpression) (x y : BoundExpression) → option_zip left right ≡ Some (x, y) → left ≡ Some x
left_of_pair None right x y z = absurd (cc)
left_of_pair (Some a) None x y z = absurd (cc)
left_of_pair (Some a) (Some b) x y z = ap (option_map (λ (p : BoundExpression × BoundExpression). p.0)) z

pub right_of_pair : (left right : Option BoundExpression) (x y : BoundExpression) → option_zip left right ≡ Some (x, y) → right ≡ Some y
right_of_pair None right x y z = absurd (cc)
right_of_pair (Some a) None x y z = absurd (cc)
right_of_pair (Some a) (Some b) x y z = ap (option_map (λ (p : BoundExpression × BoundExpression). p.1)) z

abbrev ViewJoins : (Expression → Expression → Expression) → Expr → Expr → Option Expr → Type 0
ViewJoins make a b made = IfSome made (λ e. (ls : List Leaf) → expr_view ls e ≡ make (expr_view ls a) (expr_view ls b))

abbrev FitsBoth : Expr → Expr → Option Expr → Type 0
FitsBoth a b made = IfSome made (λ e. (ls : List Leaf) → expr_fits ls e ≡ (expr_fits ls a && expr_fits ls b))

pub two_made : (fs : Fields) (ls : List Leaf) (i : ℕ) (type : ValueType → ValueType → Option ValueType) (make : Expression → Expression → Expression) (c d : Checked meant.BoundExpression)
    (before between next now : Option BindFault) (x y : BoundExpression) (made : Option Expr) (ps : Vec BoundPath Global) (o : Option BoundExpression) → JoinsPaths make → AreNoPath make
    → option_map type_of made ≡ type (type_of x.expression.value) (type_of y.expression.value) → ViewJoins make x.expression.value y.expression.value made → FitsBoth x.expression.value y.expression.value made
    → ps.items ≡ x.paths.items ++ y.paths.items → MadeAt i made ps next now o
    → BindsAs (IsExpression fs ls) before between c (Some x) → BindsAs (IsExpression fs ls) between next d (Some y) → BindsAs (IsExpression fs ls) before now (two_operands i type make c d) o
two_made fs ls i type make (fails e es) d before between next now x y made ps o k np t v f p m h g = absurd h
two_made fs ls i type make (passes a) (fails e es) before between next now x y made ps o k np t v f p m h g = absurd g
two_made fs ls i type make (passes a) (passes b) before between next now x y None ps None k np t v f p m h g =
    let none : type a.gives b.gives ≡ None = ap₂ type (sym h.1.gives) (sym g.1.gives) ∙ sym t in
    rw none (m.1 ∙ ap (λ z. earlier z (Some (record { place = i; problem = meant.type_mismatch }))) (g.0 ∙ h.0))
two_made fs ls i type make (passes a) (passes b) before between next now x y (Some e) ps None k np t v f p m h g = absurd (cc)
two_made fs ls i type make (passes a) (passes b) before between next now x y None ps (Some z) k np t v f p m h g = absurd (cc)
two_made fs ls i type make (passes a) (passes b) before between next now x y (Some e) ps (Some z) k np t v f p m h g =
    let some : type a.gives b.gives ≡ Some (type_of e) = ap₂ type (sym h.1.gives) (sym g.1.gives) ∙ sym t in
    let same : e ≡ z.expression.value = cc in
    let means : Covers ls (a.paths ++ b.paths) → Means ls (record { expression = make a.expression b.expression; gives = type_of e; paths = a.paths ++ b.paths }) z.expression.value =
    λ w. let u = covers_parts ls a.paths b.paths w in let n = h.1.means u.0 in let q = g.1.means u.1 in record {
      view = ap (expr_view ls) (sym same) ∙ v ls ∙ ap₂ make n.view q.view;
      fits = ap (expr_fits ls) (sym same) ∙ f ls ∙ ap₂ (λ r s. r && s) n.fits q.fits;
    } in
    rw some (
      m.2 ∙ g.0 ∙ h.0,
      record {
        gives = ap type_of (sym same);
        paths = ap (λ (qs : Vec BoundPath Global). map bound_path_view qs.items) m.1 ∙ ap (map bound_path_view) p ∙ map-append bound_path_view x.paths.items y.paths.items ∙ ap₂ (λ r s. r ++ s) h.1.paths g.1.paths;
        own = k a.expression b.expression ∙ ap₂ (λ r s. r ++ s) h.1.own g.1.own ∙ sym (map-append (λ (q : meant.BoundPath). q.leaf.path) a.paths b.paths);
        alone = m.3 ∙ sym (np a.expression b.expression);
        real = real_joined fs a.paths b.paths h.1.real g.1.real;
        means = means;
      },
    )

-- the same, where what was made is of the operands out of their boxes
pub both_made : (fs : Fields) (ls : List Leaf) (i : ℕ) (type : ValueType → ValueType → Option ValueType) (make : Expression → Expression → Expression) (c d : Checked meant.BoundExpression)
    (before between next now : Option BindFault) (x y : BoundExpression) (a b : Expr) (made : Option Expr) (ps : Vec BoundPath Global) (o : Option BoundExpression) → a ≡ x.expression.value → b ≡ y.expression.value
    → JoinsPaths make → AreNoPath make → option_map type_of made ≡ type (type_of a) (type_of b) → ViewJoins make a b made → FitsBoth a b made
    → ps.items ≡ x.paths.items ++ y.paths.items → MadeAt i made ps next now o
    → BindsAs (IsExpression fs ls) before between c (Some x) → BindsAs (IsExpression fs ls) between next d (Some y) → BindsAs (IsExpression fs ls) before now (two_operands i type make c d) o
both_made fs ls i type make c d before between next now x y a b made ps o e g k np t v f =
    two_made fs ls i type make c d before between next now x y made ps o k np (t ∙ ap₂ (λ (p q : Expr). type (type_of p) (type_of q)) e g)
    (subst (λ (p : Expr). ViewJoins make p y.expression.value made) e (subst (λ (q : Expr). ViewJoins make a q made) g v))
    (subst (λ (p : Expr). FitsBoth p y.expression.value made) e (subst (λ (q : Expr). FitsBoth a q made) g f))
