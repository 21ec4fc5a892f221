-- The values of expressions by what was read of their leaves, operator by operator.
use Rattle.std.proofs.Common.{◌≡◌, ℕ, List, ◌++◌, Bool, true, false, Option, Some, None, option_map, is_some, not, Bor, sym, ap, subst, rules}
use Rattle.std.specs.Prelude.{Box}
use Rattle.std.specs.declared.alloc.Global.{Global}
use Rattle.dr_meaning.specs.Record.{Value, text_value}
use Rattle.dr_meaning.specs.Expression.{plus, combine, on_both}
use Rattle.dr_plan.specs.declared.expression.TextOf as texts
use Rattle.dr_plan.specs.declared.expression.TextOf.TheVariants as text_variants
use Rattle.dr_meaning.specs.BoundExpression.{text_type}
use Rattle.dr_scalar.specs.Slots.{of_type}
use Rattle.dr_scalar.specs.Appending.{IsNullOrText}
use Rattle.dr_scalar.specs.OverSlots.{text_over}

pub over-join : (read : ℕ → Option Value) (a b : Box texts.TextOf Global) → text_over read (text_variants.Join a b) ≡ on_both (combine plus) (text_over read a.value) (text_over read b.value)
over-join read a b = search (rules, texts.the_lemmas)

pub over-text_leaf : (read : ℕ → Option Value) (i : ℕ) → text_over read (text_variants.Leaf i) ≡ of_type text_type (read i)
over-text_leaf read i = search (rules, texts.the_lemmas)

pub null_or_lent : (o : Option (Bor (List ℕ))) (v : Option Value) (null : Bool) → is_some o ≡ not null → option_map (λ t. text_value t.now) o ≡ v → IsNullOrText v null
null_or_lent None v true h e = sym e
null_or_lent None v false h e = cc
null_or_lent (Some t) v true h e = cc
null_or_lent (Some t) v false h e = (t.now, sym e)

joined_or_null : (s : List ℕ) (w : Option Value) (null : Bool) → IsNullOrText w null → IsNullOrText (on_both (combine plus) (Some (text_value s)) w) null
joined_or_null s w true h = ap (on_both (combine plus) (Some (text_value s))) h
joined_or_null s w false h = (s ++ h.0, ap (on_both (combine plus) (Some (text_value s))) h.1)

pub null_as_right : (v w : Option Value) (null : Bool) → IsNullOrText v false → IsNullOrText w null → IsNullOrText (on_both (combine plus) v w) null
null_as_right v w null h g = subst (λ x. IsNullOrText (on_both (combine plus) x w) null) (sym h.1) (joined_or_null h.0 w null g)
