-- An operator makes nothing of two operands of unlike types.
use Rattle.std.specs.Prelude.{◌≡◌, ◌⊎◌, false, None}
use Rattle.std.proofs.Common.{refl, sym, inl, inr}
use Rattle.dr_meaning.specs.Expression as meant
use Rattle.dr_meaning.specs.BoundExpression.{ValueType, truth_type, number_type, text_type, same_type, arithmetic_type}
use Rattle.dr_plan.specs.declared.expression.Expr.{Expr}
use Rattle.dr_plan.specs.declared.expression.Number.{Number}
use Rattle.dr_plan.specs.declared.expression.TextOf.{TextOf}
use Rattle.dr_plan.specs.declared.expression.Truth.{Truth}
use Rattle.dr_sql.specs.Views.{arithmetic_view}
use Rattle.dr_resolve.specs.Bound.{type_of}
use Rattle.dr_resolve.specs.Operators.{binary_type}
use Rattle.dr_resolve.specs.declared.operators.Binary.{Binary}

arithmetic_of_unlike : (o : meant.Arithmetic) (s t : ValueType) → same_type s t ≡ false → arithmetic_type o s t ≡ None
arithmetic_of_unlike o truth_type t h = refl
arithmetic_of_unlike o number_type truth_type h = refl
arithmetic_of_unlike o number_type number_type h = cc
arithmetic_of_unlike o number_type text_type h = refl
arithmetic_of_unlike meant.plus text_type truth_type h = refl
arithmetic_of_unlike meant.plus text_type number_type h = refl
arithmetic_of_unlike meant.plus text_type text_type h = cc
arithmetic_of_unlike meant.minus text_type t h = refl
arithmetic_of_unlike meant.times text_type t h = refl

pub of_unlike : (o : Binary) (s t : ValueType) → same_type s t ≡ false → binary_type o s t ≡ None
of_unlike (Binary.Arithmetic a) s t h = arithmetic_of_unlike (arithmetic_view a) s t h
of_unlike (Binary.Comparison c) s t h = rw h refl
of_unlike Binary.And truth_type truth_type h = cc
of_unlike Binary.And truth_type number_type h = refl
of_unlike Binary.And truth_type text_type h = refl
of_unlike Binary.And number_type t h = refl
of_unlike Binary.And text_type t h = refl
of_unlike Binary.Or truth_type truth_type h = cc
of_unlike Binary.Or truth_type number_type h = refl
of_unlike Binary.Or truth_type text_type h = refl
of_unlike Binary.Or number_type t h = refl
of_unlike Binary.Or text_type t h = refl

-- ---- a number and another value; a text and another value

pub number_and_other : (o : Binary) (a b : Expr) (n : Number) → a ≡ Expr.Number n
    → ((x : Truth) × (b ≡ Expr.Truth x)) ⊎ ((x : TextOf) × (b ≡ Expr.Text x)) → None ≡ binary_type o (type_of a) (type_of b)
number_and_other o a b n p (inl (x, q)) = rw (p, q) (sym (of_unlike o number_type truth_type refl))
number_and_other o a b n p (inr (x, q)) = rw (p, q) (sym (of_unlike o number_type text_type refl))

pub text_and_other : (o : Binary) (a b : Expr) (t : TextOf) → a ≡ Expr.Text t
    → ((x : Truth) × (b ≡ Expr.Truth x)) ⊎ ((x : Number) × (b ≡ Expr.Number x)) → None ≡ binary_type o (type_of a) (type_of b)
text_and_other o a b t p (inl (x, q)) = rw (p, q) (sym (of_unlike o text_type truth_type refl))
text_and_other o a b t p (inr (x, q)) = rw (p, q) (sym (of_unlike o text_type number_type refl))
