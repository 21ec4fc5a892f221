use Rattle.dr_nested.specs.SchemaView.{schema_view}
use Rattle.dr_test_service.proofs.embedding.answer_of_files.Given as goal

abbrev pub ghosts-publish_and_ask : goal.ghosts-publish_and_ask
ghosts-publish_and_ask g a = record { table = a.ground; schema = schema_view a.schema.now }
