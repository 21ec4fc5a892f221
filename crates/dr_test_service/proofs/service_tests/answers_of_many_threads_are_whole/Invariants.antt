use Rattle.dr_nested.specs.SchemaView.{schema_view}
use Rattle.dr_test_service.proofs.service_tests.answers_of_many_threads_are_whole.Given as goal

abbrev pub ghosts-many : goal.ghosts-many
ghosts-many a = λ b. record { table = b.ground; schema = schema_view b.schema.now }
