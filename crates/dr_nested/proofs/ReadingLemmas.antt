-- The problems of a field's name, test by test.
use Rattle.std.specs.Prelude.{◌≡◌, ℕ, ◌≤◌, ◌<◌, List, length, true, false, bytes_eq, Some, None}
use Rattle.std.specs.List.{list_any}
use Rattle.std.proofs.Common.{arith}
use Rattle.std.proofs.lemmas.Bool.Decides.{nat_tests}
use Rattle.dr_meaning.specs.Schema.{field_names}
use Rattle.dr_meaning.specs.SchemaText.{Reading, name_problem, duplicate_name, too_deep}

pub name_is_duplicate : (m : Reading) (n : List ℕ) → length n ≤ 64 → list_any (bytes_eq n) (field_names m.fields) ≡ true → name_problem m n ≡ Some duplicate_name
name_is_duplicate m n h e = grind (arith, nat_tests)

pub name_is_too_deep : (m : Reading) (n : List ℕ) → length n ≤ 64 → list_any (bytes_eq n) (field_names m.fields) ≡ false → 32 ≤ length m.groups → name_problem m n ≡ Some too_deep
name_is_too_deep m n h e g = grind (arith, nat_tests)

pub name_is_good : (m : Reading) (n : List ℕ) → length n ≤ 64 → list_any (bytes_eq n) (field_names m.fields) ≡ false → length m.groups < 32 → name_problem m n ≡ None
name_is_good m n h e g = grind (arith, nat_tests)
