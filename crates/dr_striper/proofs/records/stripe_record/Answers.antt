use Rattle.std.proofs.Common.{◌≡◌, ◌∷◌, [], ◌++◌, length, ap, sym, ◌∙◌, None, arith}
use Rattle.std.proofs.lemmas.List.{map-append, length-map}
use Rattle.dr_meaning.specs.Column.{triplet}
use Rattle.dr_striper.specs.Striping.{leaves_of}
use Rattle.dr_striper.specs.Views.{null_of, nulls, before, twigs_view, shapes_view}
use Rattle.dr_striper.proofs.PassingLemmas.{before_snoc, some_snoc}
use Rattle.dr_striper.proofs.RecordLemmas.{record_ready, record_grows, record_columns, cut_last, back_columns, back_grows}
use Rattle.dr_striper.proofs.records.stripe_record.Goals as goal

pub stripe_group-requires-clause-some : goal.stripe_group-requires-clause-some
stripe_group-requires-clause-some g c =
    some_snoc c.deref.result.now (nulls c.args.levels.now.items) (triplet 0 0 None) (ap nulls (c.deref.ensures.value ∙ c.in_ok-push.ensures.items) ∙ map-append null_of c.args.levels.now.items (record { repetition = 0; definition = 0 } ∷ []))

pub stripe_group-requires-clause-ready : goal.stripe_group-requires-clause-ready
stripe_group-requires-clause-ready g c =
    record_ready (g.H.Held.shows c.args.held) (leaves_of c.args.fields.now) (nulls c.args.levels.now.items) (before c.deref.result.now) (shapes_view c.args.branches.now) (twigs_view c.args.branches.now)
    c.requires.group c.requires.fits c.requires.grows
    (before_snoc c.deref.result.now (nulls c.args.levels.now.items) (triplet 0 0 None) (ap nulls (c.deref.ensures.value ∙ c.in_ok-push.ensures.items) ∙ map-append null_of c.args.levels.now.items (record { repetition = 0; definition = 0 } ∷ [])))

pub returns-in-Ok-clause-columns : goal.returns-in-Ok-clause-columns
returns-in-Ok-clause-columns g c =
    let l : nulls c.push.new.self.items ≡ nulls c.args.levels.now.items ++ triplet 0 0 None ∷ [] = ap nulls c.in_ok-push.ensures.items ∙ map-append null_of c.args.levels.now.items (record { repetition = 0; definition = 0 } ∷ []) in
    record_columns (g.H.Held.shows c.args.held) c.args.fields.now (nulls c.args.levels.now.items) (nulls c.push.new.self.items) (before c.deref.result.now) (shapes_view c.args.branches.now) (twigs_view c.args.branches.now) (twigs_view c.stripe_group.new.branches)
    c.requires.group c.requires.grows (before_snoc c.deref.result.now (nulls c.args.levels.now.items) (triplet 0 0 None) (ap nulls c.deref.ensures.value ∙ l)) l c.in-Ok.ensures.added

pub returns-in-Ok-clause-grows : goal.returns-in-Ok-clause-grows
returns-in-Ok-clause-grows g c =
    let l : nulls c.push.new.self.items ≡ nulls c.args.levels.now.items ++ triplet 0 0 None ∷ [] = ap nulls c.in_ok-push.ensures.items ∙ map-append null_of c.args.levels.now.items (record { repetition = 0; definition = 0 } ∷ []) in
    record_grows (g.H.Held.shows c.args.held) (leaves_of c.args.fields.now) (nulls c.args.levels.now.items) (nulls c.push.new.self.items) (before c.deref.result.now) (shapes_view c.args.branches.now) (shapes_view c.stripe_group.new.branches)
    (twigs_view c.args.branches.now) (twigs_view c.stripe_group.new.branches)
    c.requires.group c.requires.fits c.requires.grows (before_snoc c.deref.result.now (nulls c.args.levels.now.items) (triplet 0 0 None) (ap nulls c.deref.ensures.value ∙ l)) l c.stripe_group.ensures.shapes c.in-Ok.ensures.added

pub returns-in-Err-clause-columns : goal.returns-in-Err-clause-columns
returns-in-Err-clause-columns g c =
    let old = c.args.levels.now.items in
    let n : c.len-kept.result ≡ length old = omega (arith, c.len-kept.ensures, c.args.levels.now.ok.0) in
    let e : c.take_record_back.new.levels.items ≡ old = cut_last c.len-kept.result old c.push.new.self.items c.take_record_back.new.levels.items (record { repetition = 0; definition = 0 }) n c.in_ok-push.ensures.items c.take_record_back.ensures.levels in
    back_columns c.args.fields.now (nulls old) (nulls c.take_record_back.new.levels.items) (shapes_view c.args.branches.now) c.args.branches.now c.stripe_group.new.branches (twigs_view c.take_record_back.new.branches) c.len-kept.result
    c.requires.grows (n ∙ sym (length-map old null_of)) (ap nulls e) c.stripe_group.ensures.kept c.take_record_back.ensures.back

pub returns-in-Err-clause-grows : goal.returns-in-Err-clause-grows
returns-in-Err-clause-grows g c =
    let old = c.args.levels.now.items in
    let n : c.len-kept.result ≡ length old = omega (arith, c.len-kept.ensures, c.args.levels.now.ok.0) in
    let e : c.take_record_back.new.levels.items ≡ old = cut_last c.len-kept.result old c.push.new.self.items c.take_record_back.new.levels.items (record { repetition = 0; definition = 0 }) n c.in_ok-push.ensures.items c.take_record_back.ensures.levels in
    back_grows (leaves_of c.args.fields.now) (nulls old) (nulls c.take_record_back.new.levels.items) (shapes_view c.args.branches.now) (shapes_view c.take_record_back.new.branches) c.args.branches.now c.stripe_group.new.branches (twigs_view c.take_record_back.new.branches) c.len-kept.result
    c.requires.grows (n ∙ sym (length-map old null_of)) (ap nulls e) (c.take_record_back.ensures.shapes ∙ c.stripe_group.ensures.shapes) c.stripe_group.ensures.kept c.take_record_back.ensures.back
