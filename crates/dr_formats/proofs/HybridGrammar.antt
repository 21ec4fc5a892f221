-- Hybrid data is read exactly where runs spell it.
use Rattle.std.proofs.Common.{◌≡◌, ℕ, zero, suc, ◌*◌, ◌/◌, ◌%◌, ◌^◌, ◌≤◌, ◌<◌, List, [], ◌∷◌, ◌++◌, length, Bool, true, false, refl, sym, ap, ◌∙◌, arith, Option, Some, None, ◌⊎◌, inl, inr, true≢false}
use Rattle.std.specs.Prelude.{◌-◌, min, replicate, ◌==◌, if◌then◌else◌}
use Rattle.std.proofs.lemmas.Bool.{eqb-true}
use Rattle.std.proofs.lemmas.List.{length-append, length-replicate}
use Rattle.dr_formats.specs.Reading.{Reading, got, refused, give, goes_on, ◌>>=◌, bytes_of}
use Rattle.dr_formats.specs.Varint.{varint, SpellsNumber, is_chain}
use Rattle.dr_formats.specs.LittleEndian.{little_endian, unpacked, bytes_for}
use Rattle.dr_formats.specs.Hybrid.{HybridFault, short, repeat_run, packed_run, run, runs, values_read, hybrid, SpellsRepeat, SpellsPacked, SpellsRuns, hybrid_bytes}
use Rattle.dr_formats.specs.HybridLaws.{RunsAreReadExactly, OneListOfValues, WrittenRunsAreSpelled}
use Rattle.dr_formats.proofs.ReadingLemmas.{spells_bytes, not_refused, same_got}
use Rattle.dr_formats.proofs.SoundLemmas.{IsSound, sound_made, sound_bytes, sound_below}
use Rattle.dr_formats.proofs.VarintLemmas.{varint_reads}
use Rattle.dr_formats.proofs.HybridLemmas.{one_run, written_runs_are_read}

-- ---- one run

abbrev OneRun : ℕ → ℕ → ℕ → List ℕ → List ℕ → Type 0
OneRun w n h part us = SpellsRepeat w n h part us ⊎ SpellsPacked w n h part us

run_reads : (w n h : ℕ) (part us d : List ℕ) → OneRun w n h part us → run w n h (part ++ d) ≡ got us d
run_reads w n h part us d (inl p) =
    let e : h % 2 ≡ 0 = omega (arith, p.1) in
    let f : h / 2 ≡ p.0 = omega (arith, p.1) in
    rw (e, f, spells_bytes short (bytes_for w) part p.2 d) (ap (λ x. got x d) (sym p.3))
run_reads w n h part us d (inr p) =
    let e : h % 2 ≡ 1 = omega (arith, p.1) in
    let f : h / 2 ≡ p.0 = omega (arith, p.1) in
    rw (e, f, ← p.2, spells_bytes short (bytes_for (length us * w)) part p.3 d) (ap (λ x. got x d) (sym p.4))

length_unpacked : (m w x : ℕ) → length (unpacked m w x) ≡ m
length_unpacked zero w x = refl
length_unpacked (suc m) w x = ap suc (length_unpacked m w (x / 2 ^ w))

run_sound : (w n h : ℕ) (b : Bool) → (h % 2 == 0) ≡ b → IsSound HybridFault (List ℕ) (if b then repeat_run w (h / 2) n else packed_run w (h / 2) n) (OneRun w n h)
run_sound w n h true e = sound_made (bytes_of short (bytes_for w)) (λ b. replicate (min (h / 2) n) (little_endian b)) (λ u b. (u ≡ b) × (length b ≡ bytes_for w)) (OneRun w n h) (sound_bytes short (bytes_for w)) (λ u b p. inl (h / 2, even (eqb-true (h % 2) 0 e), ap length p.0 ∙ p.1, ap (λ x. replicate (min (h / 2) n) (little_endian x)) (sym p.0)))
  where
    even : h % 2 ≡ 0 → h ≡ 2 * (h / 2)
    even g = omega (arith, g)
run_sound w n h false e = sound_made (bytes_of short (bytes_for (m * w))) (λ b. unpacked m w (little_endian b)) (λ u b. (u ≡ b) × (length b ≡ bytes_for (m * w))) (OneRun w n h) (sound_bytes short (bytes_for (m * w))) (λ u b p. packed u b p.0 p.1)
  where
    m : ℕ
    m = min (8 * (h / 2)) n

    is_odd : (x : ℕ) → (x == 0) ≡ false → x < 2 → x ≡ 1
    is_odd zero f l = absurd (true≢false f)
    is_odd (suc x) f l = omega (arith, l)

    packed : (u b : List ℕ) → u ≡ b → length b ≡ bytes_for (min (8 * (h / 2)) n * w) → OneRun w n h u (unpacked (min (8 * (h / 2)) n) w (little_endian b))
    packed u b f l =
        let g : length (unpacked (min (8 * (h / 2)) n) w (little_endian b)) ≡ min (8 * (h / 2)) n = length_unpacked (min (8 * (h / 2)) n) w (little_endian b) in
        inr (h / 2, omega (arith, is_odd (h % 2) e (omega arith)), g, rw g (ap length f ∙ l), rw (g, f) refl)

-- ---- all runs

chain_there : (h : List ℕ) → is_chain h ≡ true → 1 ≤ length h
chain_there [] c = absurd (true≢false (sym c))
chain_there (b ∷ h) c = omega arith

runs_read : (k w n : ℕ) (bytes vs : List ℕ) → SpellsRuns k w n bytes vs → (j : ℕ) → length bytes ≤ j → (left : List ℕ) × (runs j w n bytes ≡ got vs left)
runs_read zero w n bytes vs p j l = (bytes, rw (p.0, p.1) refl)
runs_read (suc k) w zero bytes vs p j l = absurd (omega (arith, p.0))
runs_read (suc k) w (suc n) bytes vs p zero l = absurd (omega (arith, l, ap length p.7, length-append p.1 (p.2 ++ p.3), chain_there p.1 p.8.0))
runs_read (suc k) w (suc n) bytes vs p (suc j) l =
    let m : length p.3 ≤ j = omega (arith, l, ap length p.7, length-append p.1 (p.2 ++ p.3), length-append p.2 p.3, chain_there p.1 p.8.0) in
    let r = runs_read k w (suc n - length p.5) p.3 p.6 p.10 j m in
    let e : varint short short bytes ≡ got p.4 (p.2 ++ p.3) = ap (varint short short) p.7 ∙ varint_reads (2 ^ 64) short short p.1 p.4 p.8 (p.2 ++ p.3) in
    (r.0, one_run j w n p.4 p.5 p.6 r.0 bytes (p.2 ++ p.3) p.3 e (run_reads w (suc n) p.4 p.2 p.5 p.3 p.9) r.1 ∙ ap (λ x. got x r.0) (sym p.11))

abbrev Spelled : ℕ → ℕ → List ℕ → List ℕ → Type 0
Spelled w n bytes vs = (k : ℕ) × SpellsRuns k w n bytes vs

abbrev RunsSound : ℕ → ℕ → Type 0
RunsSound w j = (n : ℕ) (bytes vs left : List ℕ) → runs j w n bytes ≡ got vs left → Spelled w n bytes vs

more_sound : (w j n h : ℕ) (bytes u part us d vs left : List ℕ) → RunsSound w j → bytes ≡ u ++ (part ++ d) → SpellsNumber u h → OneRun w (suc n) h part us → (r : Reading HybridFault (List ℕ)) → runs j w (suc n - length us) d ≡ r → goes_on r (λ more. give (us ++ more)) ≡ got vs left → Spelled w (suc n) bytes vs
more_sound w j n h bytes u part us d vs left s e p q (refused x y) f g = absurd (not_refused x y vs left g)
more_sound w j n h bytes u part us d vs left s e p q (got ws l) f g =
    let m = s (suc n - length us) d ws l f in
    let o : (us ++ ws ≡ vs) × (l ≡ left) = same_got {E = HybridFault} (us ++ ws) vs l left g in
    (suc m.0, (omega arith, u, part, d, h, us, ws, e, p, q, m.1, sym o.0))

next_sound : (w j n h : ℕ) (bytes u c vs left : List ℕ) → RunsSound w j → bytes ≡ u ++ c → SpellsNumber u h → (r : Reading HybridFault (List ℕ)) → run w (suc n) h c ≡ r → goes_on r (λ us. runs j w (suc n - length us) >>= (λ more. give (us ++ more))) ≡ got vs left → Spelled w (suc n) bytes vs
next_sound w j n h bytes u c vs left s e p (refused x y) f g = absurd (not_refused x y vs left g)
next_sound w j n h bytes u c vs left s e p (got us d) f g =
    let q = run_sound w (suc n) h (h % 2 == 0) refl c us d f in
    more_sound w j n h bytes u q.0 us d vs left s (e ∙ ap (λ x. u ++ x) q.1) p q.2 (runs j w (suc n - length us) d) refl g

header_sound : (w j n : ℕ) (bytes vs left : List ℕ) → RunsSound w j → (r : Reading HybridFault ℕ) → varint short short bytes ≡ r → goes_on r (λ h. run w (suc n) h >>= (λ us. runs j w (suc n - length us) >>= (λ more. give (us ++ more)))) ≡ got vs left → Spelled w (suc n) bytes vs
header_sound w j n bytes vs left s (refused x y) e g = absurd (not_refused x y vs left g)
header_sound w j n bytes vs left s (got h c) e g =
    let p = sound_below (2 ^ 64) short short bytes h c e in
    next_sound w j n h bytes p.0 c vs left s p.1 p.2 (run w (suc n) h c) refl g

runs_sound : (w j : ℕ) → RunsSound w j
runs_sound w j zero bytes vs left h = (0, (refl, sym (same_got {E = HybridFault} [] vs bytes left h).0))
runs_sound w zero (suc n) bytes vs left h = absurd (not_refused short bytes vs left h)
runs_sound w (suc j) (suc n) bytes vs left h = header_sound w j n bytes vs left (runs_sound w j) (varint short short bytes) refl h

-- ---- the laws

abbrev Read : ℕ → ℕ → List ℕ → List ℕ → Type 0
Read w n bytes vs = (left : List ℕ) × (runs (length bytes) w n bytes ≡ got vs left)

was_read : (r : Reading HybridFault (List ℕ)) (vs : List ℕ) → values_read r ≡ Some vs → (left : List ℕ) × (r ≡ got vs left)
was_read (got us left) vs h = (left, ap (λ x. got x left) (same us vs h))
  where
    same : (us vs : List ℕ) → Some us ≡ Some vs → us ≡ vs
    same us vs e = cc
was_read (refused e left) vs h = absurd (nothing vs h)
  where
    nothing : (vs : List ℕ) → None ≡ Some vs → ⊥
    nothing vs k = cc

pub runs_are_read_exactly : RunsAreReadExactly
unfolding hybrid
runs_are_read_exactly bytes w n vs = (
  λ h. let r = was_read (runs (length bytes) w n bytes) vs h in runs_sound w (length bytes) n bytes vs r.0 r.1,
  λ p. ap values_read (runs_read p.0 w n bytes vs p.1 (length bytes) (omega arith)).1,
)

how_many : (k w n : ℕ) (bytes vs : List ℕ) → SpellsRuns k w n bytes vs → length vs ≡ n
how_many zero w n bytes vs p = ap length p.1 ∙ sym p.0
how_many (suc k) w n bytes vs p = omega (arith, ap length p.11, length-append p.5 p.6, how_many k w (n - length p.5) p.3 p.6 p.10, at_most p.9)
  where
    at_most : OneRun w n p.4 p.2 p.5 → length p.5 ≤ n
    at_most (inl q) = omega (arith, ap length q.3, length-replicate (min q.0 n) (little_endian p.2))
    at_most (inr q) = omega (arith, q.2)

one_value : (o : Option (List ℕ)) (us vs : List ℕ) → o ≡ Some us → o ≡ Some vs → us ≡ vs
one_value o us vs e f = cc

pub one_list_of_values : OneListOfValues
one_list_of_values bytes w n us vs h k = (one_value (hybrid w n bytes) us vs ((runs_are_read_exactly bytes w n us).1 h) ((runs_are_read_exactly bytes w n vs).1 k), how_many h.0 w n bytes us h.1)

pub written_runs_are_spelled : WrittenRunsAreSpelled
written_runs_are_spelled w vs rest h l = (runs_are_read_exactly (hybrid_bytes w vs ++ rest) w (length vs) vs).0 (written_runs_are_read w vs rest h l)
