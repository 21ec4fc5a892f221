-- What comes of binding a part of a query, against what the definitions make of it.
use Rattle.std.specs.Prelude.{◌≡◌, ℕ, List, [], ◌∷◌, ◌++◌, map, false, Option, Some, None, Vec}
use Rattle.std.specs.declared.alloc.Global.{Global}
use Rattle.dr_meaning.specs.Schema.{Fields}
use Rattle.dr_meaning.specs.Path.{Leaf}
use Rattle.dr_meaning.specs.BoundExpression as meant
use Rattle.dr_meaning.specs.BoundExpression.{Checked, passes, fails}
use Rattle.dr_meaning.specs.Binding as binding
use Rattle.dr_meaning.specs.Binding.{first_fault}
use Rattle.dr_nested.specs.PathView.{path_view}
use Rattle.dr_nested.specs.Views.{fields_view}
use Rattle.dr_plan.specs.declared.expression.Expr.{Expr}
use Rattle.dr_paths.specs.declared.bound.BoundPath.{BoundPath}
use Rattle.dr_paths.specs.Views.{bound_path_view}
use Rattle.dr_sql.specs.Views.{expression_view}
use Rattle.dr_sql.specs.declared.expression.Expression.{Expression}
use Rattle.dr_plan.specs.declared.aggregate.Fold.{Fold}
use Rattle.dr_plan.specs.Views.{fold_view}
use Rattle.dr_resolve.specs.Faults.{earlier, first_view}
use Rattle.dr_resolve.specs.Bound.{IsExpression}
use Rattle.dr_resolve.specs.Items.{AreExpressions, IsTerm, IsWithin}
use Rattle.dr_resolve.specs.declared.bound.BoundExpression.{BoundExpression}
use Rattle.dr_resolve.specs.declared.bound.BoundTerm.{BoundTerm}
use Rattle.dr_resolve.specs.declared.bound.BoundWithin.{BoundWithin}
use Rattle.dr_resolve.specs.declared.fault.FirstFault.{FirstFault}
use Rattle.dr_resolve.specs.declared.names.Binder.{Binder}
use Rattle.dr_resolve.specs.declared.terms.WithinPart.{WithinPart}

-- ---- what names are bound to

abbrev pub fields_in : Binder → Fields
fields_in b = fields_view (b.schema.now).fields.items

abbrev pub leaves_in : Binder → List Leaf
leaves_in b = map path_view b.leaves.now

-- ---- outcomes

-- a part that passes is bound, and the first fault so far stays; of one that doesn't, its faults are noted behind those so far
abbrev pub BindsAs : {A B : Type 0} → (B → A → Type 0) → Option meant.BindFault → Option meant.BindFault → Checked B → Option A → Type 0
BindsAs Is before now (passes b) (Some a) = (now ≡ before) × Is b a
BindsAs Is before now (passes b) None = ⊥
BindsAs Is before now (fails e es) (Some a) = ⊥
BindsAs Is before now (fails e es) None = now ≡ earlier before (first_fault (e ∷ es))

-- whatever an operand was bound as, this is what a rule makes of it
abbrev pub BindsBy : {B C : Type 0} → (Checked meant.BoundExpression → Checked B) → (Fields → List Leaf → B → C → Type 0) → FirstFault → FirstFault → Option BoundExpression → Option C → Type 0
BindsBy rule Is between now x o = (fs : Fields) (ls : List Leaf) (c : Checked meant.BoundExpression) (before : Option meant.BindFault) → BindsAs (IsExpression fs ls) before (first_view between) c x
    → BindsAs (Is fs ls) before (first_view now) (rule c) o

-- whatever two operands were bound as, one behind the other, this is what a rule makes of them
abbrev pub BindsByBoth : (Checked meant.BoundExpression → Checked meant.BoundExpression → Checked meant.BoundExpression) → FirstFault → FirstFault → Option BoundExpression → Option BoundExpression
    → Option BoundExpression → Type 0
BindsByBoth rule next now x y o = (fs : Fields) (ls : List Leaf) (c d : Checked meant.BoundExpression) (before between : Option meant.BindFault) → BindsAs (IsExpression fs ls) before between c x
    → BindsAs (IsExpression fs ls) between (first_view next) d y → BindsAs (IsExpression fs ls) before (first_view now) (rule c d) o

-- an expression of a query over the fields of a binder
abbrev pub bound_in : Binder → Expression → Checked meant.BoundExpression
bound_in b e = meant.bind_expression (fields_in b) (expression_view e)

-- what comes of binding a part over the fields and leaves of a binder
abbrev pub Binds : {B C : Type 0} → Binder → (Fields → List Leaf → B → C → Type 0) → FirstFault → FirstFault → Checked B → Option C → Type 0
Binds b Is before now c o = BindsAs (Is (fields_in b) (leaves_in b)) (first_view before) (first_view now) c o

-- a part of which nothing is noted, whatever the first fault so far
abbrev pub BindsQuietly : {B C : Type 0} → Binder → (Fields → List Leaf → B → C → Type 0) → Checked B → Option C → Type 0
BindsQuietly b Is c o = (before : Option meant.BindFault) → BindsAs (Is (fields_in b) (leaves_in b)) before before c o

-- ---- paths

abbrev pub IsPath : meant.BoundPath → BoundPath → Type 0
IsPath b p = bound_path_view p ≡ b

-- ---- operators

-- what an operator at a place made of its operands, whose paths these are: an expression; or nothing, where they are of wrong types, which is noted
abbrev pub MadeAt : ℕ → Option Expr → Vec BoundPath Global → Option meant.BindFault → Option meant.BindFault → Option BoundExpression → Type 0
MadeAt i made paths before now None = (made ≡ None) × (now ≡ earlier before (Some (record { place = i; problem = meant.type_mismatch })))
MadeAt i made paths before now (Some x) = (made ≡ Some x.expression.value) × (x.paths ≡ paths) × (now ≡ before) × (x.is_path ≡ false)

-- ---- parts

-- a WITHIN that could be bound, with its node if it stands there
abbrev pub part_of : WithinPart → Option (Option BoundWithin)
part_of WithinPart.Failed = None
part_of WithinPart.Absent = Some None
part_of (WithinPart.Bound w) = Some (Some w)

-- whatever the expressions before stood for, those after stand for the same and for these behind
abbrev pub Appends : Fields → List Leaf → List meant.BoundExpression → List BoundExpression → List BoundExpression → Type 0
Appends fs ls more before after = (bs : List meant.BoundExpression) → AreExpressions fs ls bs before → AreExpressions fs ls (bs ++ more) after

-- the same over the fields and leaves of a binder
abbrev pub AppendsIn : Binder → List meant.BoundExpression → List BoundExpression → List BoundExpression → Type 0
AppendsIn b more before after = Appends (fields_in b) (leaves_in b) more before after

-- whatever an argument and a WITHIN were bound as, one behind the other, this is their aggregate
abbrev pub BindsAggregate : Fold → Option BoundExpression → WithinPart → Option BoundTerm → Type 0
BindsAggregate f x w o = (fs : Fields) (ls : List Leaf) (c : Checked meant.BoundExpression) (d : Checked (Option binding.BoundWithin)) (before between now : Option meant.BindFault)
    → BindsAs (IsExpression fs ls) before between c x → BindsAs IsWithin between now d (part_of w) → BindsAs (IsTerm fs ls) before now (meant.together (binding.aggregated (fold_view f)) c d) o

-- whatever they were bound as, an argument that passes is appended where the WITHIN fails
abbrev pub AppendsAlone : Option BoundExpression → WithinPart → List BoundExpression → List BoundExpression → Type 0
AppendsAlone x w xs ys = (fs : Fields) (ls : List Leaf) (c : Checked meant.BoundExpression) (d : Checked (Option binding.BoundWithin)) (before between now : Option meant.BindFault)
    → BindsAs (IsExpression fs ls) before between c x → BindsAs IsWithin between now d (part_of w) → Appends fs ls (binding.alone c d) xs ys

-- a part, if it could be bound
abbrev pub present : {A : Type 0} → Option A → List A
present None = []
present (Some a) = a ∷ []
