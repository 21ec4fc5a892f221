-- What holds of an error.
use Rattle.std.specs.Prelude.{Result, Ok, Err, OnErr}
use Rattle.std.specs.Result.{IsErrAnd}

pub err_on : {A E : Type 0} (P : Type 0) (r : Result A E) (Q : E → Type 0) → IsErrAnd r Q → P → OnErr r P
err_on P (Ok a) Q e p = tt
err_on P (Err y) Q e p = p
