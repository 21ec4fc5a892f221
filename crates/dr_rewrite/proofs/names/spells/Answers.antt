use Rattle.std.specs.Str.{bytes_eq, str_to_ascii_uppercase as capitals_of}
use Rattle.std.proofs.lemmas.Slice.Eq.{bytes_eq-Decides}
use Rattle.dr_sql.proofs.WordLemmas.{same_capitals, same_lower, same_test}
use Rattle.dr_rewrite.proofs.names.spells.Goals as goal

pub returns : goal.returns
returns c =
    let n = c.args.name.now in
    let k = c.args.capitals.now in
    let test = c.eq_ignore_ascii_case.ensures.test in
    let d = bytes_eq-Decides (capitals_of n) k in
    same_test c.eq_ignore_ascii_case.result (bytes_eq (capitals_of n) k) (λ h. d.1 (same_capitals n k c.requires (test.0 h))) (λ h. test.1 (same_lower n k c.requires (d.0 h)))
