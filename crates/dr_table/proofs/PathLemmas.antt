-- The paths of tablets.
use Rattle.std.proofs.Common.{◌≡◌, ℕ, zero, suc, ◌-◌, ◌^◌, ◌<◌, List, [], ◌∷◌, ◌++◌, length, map, get_or, false, refl, sym, ap, ◌∙◌, arith, append-nil, string_bytes, Global}
use Rattle.std.specs.Prelude.{String, codes}
use Rattle.std.specs.Fmt.{decimal, padded_integral, char_count, format_spec}
use Rattle.dr_formats.specs.Tablets.{six_digits, tablet_path}
use Rattle.dr_meaning.specs.Lists.{nth_text}

-- a number in six digits, with zeros before it
padded_to_six : (n : ℕ) → padded_integral (format_spec 32 0 4 6 (2 ^ 64 - 1)) false [] (decimal n) ≡ six_digits n
unfolding padded_integral char_count
padded_to_six n =
    let e : 6 - length (decimal n) - 0 - 0 ≡ 6 - length (decimal n) = omega arith in
    rw (e, append-nil) refl

pub path_is_written : (d : List ℕ) (n : ℕ) (shown text : List ℕ) → shown ≡ padded_integral (format_spec 32 0 4 6 (2 ^ 64 - 1)) false [] (decimal n) → text ≡ d ++ (codes "/t" ++ (shown ++ codes ".parquet")) → text ≡ tablet_path d n
path_is_written d n shown text e h = h ∙ ap (λ (x : List ℕ). d ++ (codes "/t" ++ (x ++ codes ".parquet"))) (e ∙ padded_to_six n)

-- the directory of a leaf
pub directory_at : (leaves : List (String Global)) (i : ℕ) (leaf : String Global) → i < length leaves → leaf ≡ get_or leaves i leaf → nth_text (map string_bytes leaves) i ≡ string_bytes leaf
directory_at [] i leaf h e = absurd (omega (arith, h))
directory_at (l ∷ ls) zero leaf h e = ap string_bytes (sym e)
directory_at (l ∷ ls) (suc i) leaf h e = directory_at ls i leaf (omega (arith, h)) e
