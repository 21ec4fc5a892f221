use Rattle.dr_nested.specs.SchemaView.{schema_view}
use Rattle.dr_test_service.proofs.service_tests.a_publish_does_not_wait_for_a_scan.Given as goal

abbrev pub ghosts-beside_a_scan : goal.ghosts-beside_a_scan
ghosts-beside_a_scan a = λ b. record { table = b.ground; schema = schema_view b.schema.now }
