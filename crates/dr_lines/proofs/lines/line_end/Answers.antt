use Rattle.std.proofs.Common.{arith, ◌≡◌, ◌<◌, ◌≤◌, ℕ, List, length, take, drop, true, ◌++◌, ◌∷◌, ◌+◌, Option, Some, None}
use Rattle.std.specs.Prelude.{IfSome, IfNone}
use Rattle.memchr.specs.Find.{IsFirstByte, is_byte}
use Rattle.dr_lines.specs.Cutting.{no_lf}
use Rattle.dr_lines.proofs.CutLemmas.{none_there, none_before, split_there}
use Rattle.dr_lines.proofs.lines.line_end.Goals as goal

none_of : (xs : List ℕ) (r : Option ℕ) → IsFirstByte (is_byte 10) xs r → IfNone r (no_lf xs ≡ true)
none_of xs None h = none_there xs h
none_of xs (Some k) h = tt

first_of : (xs : List ℕ) (r : Option ℕ) → IsFirstByte (is_byte 10) xs r → IfSome r (λ k. no_lf (take k xs) ≡ true)
first_of xs None h = tt
first_of xs (Some k) h = let l : k ≤ length xs = omega (arith, h.0) in none_before xs k l h.0.before

there_of : (xs : List ℕ) (r : Option ℕ) → IsFirstByte (is_byte 10) xs r → IfSome r (λ k. xs ≡ take k xs ++ 10 ∷ drop (k + 1) xs)
there_of xs None h = tt
there_of xs (Some k) h = split_there xs k h.0.high h.1

within_of : (xs : List ℕ) (r : Option ℕ) → IsFirstByte (is_byte 10) xs r → IfSome r (λ k. k < length xs)
within_of xs None h = tt
within_of xs (Some k) h = h.0.high

pub returns : goal.returns
returns c = record {
  none = none_of c.args.ahead.now c.memchr.result c.memchr.ensures;
  first = first_of c.args.ahead.now c.memchr.result c.memchr.ensures;
  there = there_of c.args.ahead.now c.memchr.result c.memchr.ensures;
  within = within_of c.args.ahead.now c.memchr.result c.memchr.ensures;
}
