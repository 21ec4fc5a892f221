use Rattle.dr_nested.specs.SchemaView.{schema_view}
use Rattle.dr_session.proofs.talking.talk.Given as goal

abbrev pub ghosts-talk_on : goal.ghosts-talk_on
ghosts-talk_on g a = record { table = a.ground; schema = schema_view a.schema.now }
