use Rattle.std.proofs.Common.{◌≡◌, ◌+◌, ◌∷◌, [], ℕ, ap, subst, sym, refl, ◌∙◌, map, Bool, true, false, Ok, ◌&&◌, arith, rules}
use Rattle.std.specs.Prelude.{Result}
use Rattle.std.specs.List.{list_all}
use Rattle.dr_meaning.specs.Schema.{Fields}
use Rattle.dr_meaning.specs.Path.{Leaf}
use Rattle.dr_meaning.specs.Record.{is_record}
use Rattle.dr_meaning.specs.Stripe.{most_striped}
use Rattle.dr_nested.specs.Views.{fields_view}
use Rattle.dr_nested.specs.PathView.{path_view}
use Rattle.dr_lines.specs.Cutting.{pending}
use Rattle.dr_input.specs.Taken.{HasTaken}
use Rattle.dr_input.specs.declared.fault.InputFault.{InputFault}
use Rattle.dr_input.specs.Records.{fields_of, number_of, left_of}
use Rattle.dr_striper.specs.Leaves.{is_leaf}
use Rattle.dr_striper.specs.Stripers.{striped, striped_paths, fits_leaf}
use Rattle.dr_striper.specs.Striping.{leaves_of}
use Rattle.dr_striper.proofs.FitLemmas.{record_fits}
use Rattle.dr_top.specs.Records.{AreColumns, HasColumns, HasRead}
use Rattle.dr_top.proofs.InputLemmas.{read_start, read_more, read_all, all_ended, reader_stops}
use Rattle.dr_top.proofs.OutcomeLemmas.{err_is}
use Rattle.dr_top.proofs.StripeLemmas.{more_columns, paths_from_leaves}
use Rattle.dr_top.proofs.commands.stripe.stripe_records.Goals as goal

pub new-requires : goal.new-requires
new-requires g c =
    let fs = fields_view c.args.schema.now.fields.items in
    let one : leaves_of c.from_ref.result.now ≡ path_view c.args.field.now ∷ [] = ap leaves_of c.from_ref.ensures.value in
    (fs, ap (list_all (is_leaf fs)) one ∙ ap (λ b. b && true) c.requires)

pub lines-init : goal.lines-init
lines-init g c =
    let fs = fields_view c.args.schema.now.fields.items in
    let columns = striped c.in_ok-striper.striper in
    let F = (path_view c.args.field.now).path ∷ [] in
    let left = (g.S.Source.shows c.args.source.now).left in
    record {
      has_read = subst (λ (j : ℕ). HasRead (fields_view c.args.schema.now.fields.items) most_striped (AreColumns ((path_view c.args.field.now).path ∷ []) (striped c.in_ok-striper.striper)) (g.S.Source.shows c.args.source.now).left (left_of c.in_ok-records.records (g.S.Source.shows c.args.source.now).left) j)
          (sym c.in_ok-records.ensures.number)
          (read_start fs most_striped (AreColumns F columns) left (left_of c.in_ok-records.records left) (c.in_ok-records.ensures.left left) (search rules));
      fields_are = c.in_ok-records.ensures.fields;
      most_is = c.in_ok-records.ensures.most;
      leaves = search rules;
      not_stopped = c.in_ok-records.ensures.fault;
      within = omega (arith, c.in_ok-records.ensures.number);
      calm = refl;
    }

pub returns-in_err-stripe_next-clause-stops : goal.returns-in_err-stripe_next-clause-stops
returns-in_err-stripe_next-clause-stops g c =
    err_is _ _ _ c.from_residual-in_err-stripe_next.ensures.1
    (reader_stops (AreColumns ((path_view c.args.field.now).path ∷ []) (striped c.lines.striper)) (left_of c.lines.records (g.S.Source.shows c.lines.source).left)
    (g.S.Source.shows c.args.source.now) (g.S.Source.shows c.lines.source) (g.S.Source.shows c.stripe_next.new.source) c.in_err-stripe_next.field-0.0 _ _ _ _ (number_of c.lines.records) c.lines.invariant.fields_are c.lines.invariant.most_is
    c.lines.invariant.has_read c.lines.invariant.calm (c.in_err-stripe_next.ensures.stops c.lines.invariant.not_stopped))

pub stripe_next-requires : goal.stripe_next-requires
stripe_next-requires g c =
    let fs = fields_view c.args.schema.now.fields.items in
    record {
      fits = λ n form. ap (list_all (fits_leaf n)) c.lines.invariant.leaves ∙ ap (λ b. b && true) (record_fits fs (path_view c.args.field.now) n c.requires (ap (λ (x : Fields). is_record x n) (sym c.lines.invariant.fields_are) ∙ form));
    }

pub lines-preserved : goal.lines-preserved
lines-preserved g c =
    let fs = fields_view c.args.schema.now.fields.items in
    let F = (path_view c.args.field.now).path ∷ [] in
    let before = left_of c.lines.records (g.S.Source.shows c.lines.source).left in
    let now = left_of c.stripe_next.new.self (g.S.Source.shows c.stripe_next.new.source).left in
    let next = c.in_ok-stripe_next.ensures.record c.if-branch.true in
    let n = next.node in
    let counts : number_of c.stripe_next.new.self ≡ number_of c.lines.records + 1 = c.in_ok-stripe_next.ensures.counts c.if-branch.true in
    record {
      has_read = subst (λ (j : ℕ). HasRead fs most_striped (AreColumns F (striped c.stripe_next.new.striper)) (g.S.Source.shows c.args.source.now).left now j) (sym counts)
          (read_more fs most_striped (AreColumns F (striped c.lines.striper)) (AreColumns F (striped c.stripe_next.new.striper)) (g.S.Source.shows c.args.source.now).left before now (number_of c.lines.records) n
          c.lines.invariant.has_read
          (subst (λ (x : Fields). HasTaken x most_striped (number_of c.lines.records) (n ∷ []) before now) c.lines.invariant.fields_are
          (subst (λ (most : ℕ). HasTaken (fields_of c.lines.records) most (number_of c.lines.records) (n ∷ []) before now) c.lines.invariant.most_is next.taken))
          (more_columns F (striped_paths c.lines.striper) (striped c.lines.striper) (striped c.stripe_next.new.striper) n (paths_from_leaves c.lines.striper ∙ ap (map (λ (l : Leaf). l.path)) c.lines.invariant.leaves) next.gains));
      fields_are = c.in_ok-stripe_next.ensures.same_fields ∙ c.lines.invariant.fields_are;
      most_is = c.in_ok-stripe_next.ensures.same_most ∙ c.lines.invariant.most_is;
      leaves = c.in_ok-stripe_next.ensures.leaves ∙ c.lines.invariant.leaves;
      not_stopped = c.in_ok-stripe_next.ensures.goes_on;
      within = omega (arith, c.in_ok-stripe_next.ensures.within, c.in_ok-stripe_next.ensures.same_most, c.lines.invariant.most_is);
      calm = c.in_ok-stripe_next.ensures.calm ∙ c.lines.invariant.calm;
    }

-- where no line is left, the columns are as they were
ok_other : (b : Bool) → b ≡ false → (r : Result Bool InputFault) → r ≡ Ok b → r ≡ Ok true → ⊥
ok_other b e r is h = cc

pub returns-clause-columns : goal.returns-clause-columns
returns-clause-columns g c =
    let fs = fields_view c.args.schema.now.fields.items in
    let F = (path_view c.args.field.now).path ∷ [] in
    let left = (g.S.Source.shows c.args.source.now).left in
    let kept : striped c.stripe_next.new.striper ≡ striped c.lines.striper = c.in_ok-stripe_next.ensures.kept (ok_other c.in_ok-stripe_next.field-0 c.if-branch.false _ refl) in
    subst (HasColumns fs F left) (sym kept ∙ c.in_ok-only_column.ensures)
    (read_all fs most_striped (AreColumns F (striped c.lines.striper)) left (left_of c.lines.records (g.S.Source.shows c.lines.source).left) (left_of c.stripe_next.new.self (g.S.Source.shows c.stripe_next.new.source).left) (number_of c.lines.records)
    c.lines.invariant.has_read (c.in_ok-stripe_next.ensures.end c.if-branch.false))

pub returns-clause-end : goal.returns-clause-end
returns-clause-end g c =
    let F = (path_view c.args.field.now).path ∷ [] in
    all_ended (fields_view c.args.schema.now.fields.items) most_striped (AreColumns F (striped c.lines.striper)) (g.S.Source.shows c.args.source.now).left (left_of c.lines.records (g.S.Source.shows c.lines.source).left) (g.S.Source.shows c.stripe_next.new.source).left (pending c.stripe_next.new.self.lines) (number_of c.lines.records)
    c.lines.invariant.has_read (c.in_ok-stripe_next.ensures.end c.if-branch.false)
