-- What the values of expressions stand for.
use Rattle.std.specs.Cow.{cow_str_bytes}
use Rattle.std.specs.declared.alloc.Global.{Global}
use Rattle.std.specs.declared.borrow.CowStr.{CowStr}
use Rattle.dr_meaning.specs.Record.{Value, bool_value, int_value, text_value}
use Rattle.dr_scalar.specs.declared.evaluated.Evaluated.{Evaluated}

-- a text, lent or made
abbrev pub text_value_view : CowStr Global → Value
text_value_view t = text_value (cow_str_bytes t)

-- the value of an expression that isn't NULL
abbrev pub evaluated_view : Evaluated → Value
evaluated_view (Evaluated.Bool b) = bool_value b
evaluated_view (Evaluated.Int z) = int_value z
evaluated_view (Evaluated.Text t) = text_value_view t
