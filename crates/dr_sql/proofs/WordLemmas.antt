-- Names that spell a reserved word.
use Rattle.std.specs.Prelude.{◌≡◌, ℕ, List, [], ◌∷◌, map, Bool, true, false, ◌&&◌}
use Rattle.std.specs.List.{list_all}
use Rattle.std.specs.Char.{to_ascii_lowercase, to_ascii_uppercase}
use Rattle.std.proofs.Common.{refl, sym, ap₂, arith}
use Rattle.std.proofs.lemmas.Bool.Decides.{nat_tests}
use Rattle.dr_sql.specs.Lexing.{is_capital}

same_letter : (b c : ℕ) → is_capital c ≡ true → to_ascii_lowercase b ≡ to_ascii_lowercase c → to_ascii_uppercase b ≡ c
same_letter b c h e = grind (arith, nat_tests)

lower_letter : (b c : ℕ) → is_capital c ≡ true → to_ascii_uppercase b ≡ c → to_ascii_lowercase b ≡ to_ascii_lowercase c
lower_letter b c h e = grind (arith, nat_tests)

both_pass : (a b : Bool) → (a && b) ≡ true → (a ≡ true) × (b ≡ true)
both_pass true b h = (refl, h)
both_pass false b h = absurd (cc h)

pub same_capitals : (bs cs : List ℕ) → list_all is_capital cs ≡ true → map to_ascii_lowercase bs ≡ map to_ascii_lowercase cs → map to_ascii_uppercase bs ≡ cs
same_capitals [] [] h e = refl
same_capitals [] (c ∷ cs) h e = absurd (cc e)
same_capitals (b ∷ bs) [] h e = absurd (cc e)
same_capitals (b ∷ bs) (c ∷ cs) h e =
    let p = both_pass (is_capital c) (list_all is_capital cs) h in
    let first : to_ascii_lowercase b ≡ to_ascii_lowercase c = cc in
    let rest : map to_ascii_lowercase bs ≡ map to_ascii_lowercase cs = cc in
    ap₂ (λ x xs. x ∷ xs) (same_letter b c p.0 first) (same_capitals bs cs p.1 rest)

pub same_lower : (bs cs : List ℕ) → list_all is_capital cs ≡ true → map to_ascii_uppercase bs ≡ cs → map to_ascii_lowercase bs ≡ map to_ascii_lowercase cs
same_lower [] [] h e = refl
same_lower [] (c ∷ cs) h e = absurd (cc e)
same_lower (b ∷ bs) [] h e = absurd (cc e)
same_lower (b ∷ bs) (c ∷ cs) h e =
    let p = both_pass (is_capital c) (list_all is_capital cs) h in
    let first : to_ascii_uppercase b ≡ c = cc in
    let rest : map to_ascii_uppercase bs ≡ cs = cc in
    ap₂ (λ x xs. x ∷ xs) (lower_letter b c p.0 first) (same_lower bs cs p.1 rest)

pub same_test : (a b : Bool) → (a ≡ true → b ≡ true) → (b ≡ true → a ≡ true) → a ≡ b
same_test true b f g = sym (f refl)
same_test false true f g = g refl
same_test false false f g = refl
