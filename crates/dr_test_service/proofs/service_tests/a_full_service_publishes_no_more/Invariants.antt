use Rattle.dr_nested.specs.SchemaView.{schema_view}
use Rattle.dr_test_service.proofs.service_tests.a_full_service_publishes_no_more.Given as goal

abbrev pub ghosts-filled : goal.ghosts-filled
ghosts-filled a = λ b. record { table = b.ground; schema = schema_view b.schema.now }
