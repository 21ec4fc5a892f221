-- Examples, computed.
use Rattle.std.specs.Prelude.{◌≡◌, codes}
use Rattle.std.specs.Str.{chars}
use Rattle.std.proofs.Common.{refl, []}
use Rattle.dr_input.specs.Whole.{whole_lines}

-- nothing; no LF; bytes behind the last LF; none behind it; empty lines, alone and behind others
nothing : whole_lines [] ≡ []
nothing = refl

begun : whole_lines (codes "ab") ≡ []
unfolding chars
begun = refl

behind_last : whole_lines (codes "ab\nc\nde") ≡ codes "ab\nc\n"
unfolding chars
behind_last = refl

ended : whole_lines (codes "ab\ncd\n") ≡ codes "ab\ncd\n"
unfolding chars
ended = refl

empty_line : whole_lines (codes "\n") ≡ codes "\n"
unfolding chars
empty_line = refl

empty_last : whole_lines (codes "a\n\nb") ≡ codes "a\n\n"
unfolding chars
empty_last = refl
