use Rattle.std.proofs.Common.{refl, ◌<◌, arith}
use Rattle.dr_nested.specs.SchemaView.{schema_view}
use Rattle.dr_striper.specs.Stripers.{striped_leaves}
use Rattle.dr_sub_meaning.specs.Session.{most_kept}
use Rattle.dr_session.proofs.KeptLemmas.{record_fits, kept_line, refused_line}
use Rattle.dr_session.proofs.kept.Kept.keep.Goals as goal

pub stripe_line-requires : goal.stripe_line-requires
stripe_line-requires c =
    let fs = (schema_view c.args.schema.now).fields in
    record { fits = λ n form. record_fits fs (striped_leaves c.args.self.now.striper) n c.requires.kept.1.leaves_are form }

pub returns-in-Ok : goal.returns-in-Ok
returns-in-Ok c = λ R h.
    let few : c.args.self.now.count < most_kept = first_of (omega arith, grind arith) in
    kept_line (schema_view c.args.schema.now) R c.args.line.now c.args.self.now _ _ h few refl refl c.in-Ok.ensures.leaves c.in-Ok.ensures.record

pub returns-in-Err : goal.returns-in-Err
returns-in-Err c = λ R h.
    let few : c.args.self.now.count < most_kept = first_of (omega arith, grind arith) in
    refused_line (schema_view c.args.schema.now) R _ c.args.self.now _ h few c.in-Err.ensures.record
