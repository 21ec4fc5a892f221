-- What an aggregate gathers, value by value.
use Rattle.std.specs.Prelude.{◌≡◌, List, [], ◌∷◌, ◌++◌, Option}
use Rattle.std.proofs.Common.{sym, ap, ◌∙◌, append_assoc, append-nil}
use Rattle.dr_meaning.specs.Record.{Value}
use Rattle.dr_meaning.specs.Query.{Aggregate}
use Rattle.dr_partials.specs.Accumulators.{Accumulator, empty_accumulator, accumulated, take_value}
use Rattle.dr_partials.proofs.AccumulatorLemmas.{takes_next_value}

-- values are taken one after another
abbrev pub taken_all : Accumulator → List (Option Value) → Accumulator
taken_all x [] = x
taken_all x (v ∷ vs) = taken_all (take_value x v) vs

taken_more : (a : Aggregate) (us vs : List (Option Value)) → taken_all (accumulated a us) vs ≡ accumulated a (us ++ vs)
taken_more a us [] = ap (accumulated a) (sym (append-nil us))
taken_more a us (v ∷ vs) =
    ap (λ (x : Accumulator). taken_all x vs) (sym (takes_next_value a us v)) ∙ taken_more a (us ++ v ∷ []) vs ∙ ap (accumulated a) (append_assoc us (v ∷ []) vs)

pub taken_from_none : (a : Aggregate) (vs : List (Option Value)) → taken_all (empty_accumulator a) vs ≡ accumulated a vs
taken_from_none a vs = taken_more a [] vs
