use Rattle.std.proofs.Common.{◌∙◌, ◌∷◌, [], subst, refl, ℕ, List}
use Rattle.std.specs.Prelude.{OnOk, IfErr}
use Rattle.dr_load.specs.Faults.{is_told}
use Rattle.dr_load.specs.Puts.{HasPut, HasFailed}
use Rattle.dr_load.proofs.PutLemmas.{none_failed}
use Rattle.dr_load.proofs.copies.put_copy.Goals as goal

pub returns-in-Err-clause-broken : goal.returns-in-Err-clause-broken
returns-in-Err-clause-broken g c = none_failed (g.K.Link.shows c.args.keeper.now) (g.K.Link.shows c.args.keeper.now) _ refl refl

pub returns-in-Ok-clause-put : goal.returns-in-Ok-clause-put
returns-in-Ok-clause-put g c =
    subst (λ (path : List ℕ). OnOk c.put_file.result (HasPut (record { path = path; bytes = c.args.bytes.now } ∷ []) (g.K.Link.shows c.args.keeper.now) (g.K.Link.shows c.put_file.new.keeper)))
    (c.as_str.ensures.value ∙ c.in-Ok.ensures) c.put_file.ensures.put

pub returns-in-Ok-clause-broken : goal.returns-in-Ok-clause-broken
returns-in-Ok-clause-broken g c =
    subst (λ (path : List ℕ). IfErr c.put_file.result (λ e. HasFailed (is_told e) [] (record { path = path; bytes = c.args.bytes.now }) (g.K.Link.shows c.args.keeper.now) (g.K.Link.shows c.put_file.new.keeper)))
    (c.as_str.ensures.value ∙ c.in-Ok.ensures) c.put_file.ensures.failed
