-- Runs, one after another.
use Rattle.std.proofs.Common.{◌≡◌, ℕ, zero, suc, ◌-◌, ◌*◌, ◌/◌, ◌%◌, ◌^◌, ◌≤◌, ◌<◌, List, [], ◌∷◌, ◌++◌, length, take, drop, Bool, true, false, refl, sym, ap, ◌∙◌, arith, Some, None, true≢false}
use Rattle.std.specs.Prelude.{min, replicate, option_map, ◌==◌, nat_le, if◌then◌else◌}
use Rattle.std.proofs.lemmas.Bool.{ne_eqb}
use Rattle.std.proofs.lemmas.List.{length-append, length-drop, length-replicate}
use Rattle.dr_formats.specs.Reading.{Reading, got, refused, Reader, give, goes_on, ◌>>=◌, bytes_of}
use Rattle.dr_formats.specs.Varint.{varint, is_chain}
use Rattle.dr_formats.specs.LittleEndian.{little_endian, unpacked, bytes_for}
use Rattle.dr_formats.specs.Hybrid.{HybridFault, short, repeat_run, packed_run, run, runs, values_read, hybrid}
use Rattle.dr_formats.proofs.SoundLemmas.{sound_below}
use Rattle.dr_formats.proofs.ReadingLemmas.{not_refused, same_got}
use Rattle.dr_hybrid.specs.Views.{repeated, packed_ahead, run_ahead}
use Rattle.dr_bytes.proofs.BitLemmas.{length_unpacked}

-- ---- the next run, by its header

pub even_run : (w n h count : ℕ) (bs : List ℕ) → h % 2 ≡ 0 → count ≡ min (h / 2) n → run w n h bs ≡ repeated w count bs
even_run w n h count bs e c = rw (e, c) refl

pub odd_run : (w n h count : ℕ) (bs : List ℕ) → (h % 2 ≡ 0 → ⊥) → count ≡ min (8 * (h / 2)) n → run w n h bs ≡ packed_ahead w count bs
odd_run w n h count bs e c = rw (ne_eqb (h % 2) 0 e, c) refl

pub header_ahead : (w n h : ℕ) (bs rest : List ℕ) → varint short short bs ≡ got h rest → run_ahead w n bs ≡ run w n h rest
unfolding run_ahead
header_ahead w n h bs rest v = rw v refl

pub none_ahead : (w n : ℕ) (bs rest : List ℕ) → varint short short bs ≡ refused short rest → run_ahead w n bs ≡ refused short rest
unfolding run_ahead
none_ahead w n bs rest v = rw v refl

-- ---- each run takes a byte at least

chain_there : (h : List ℕ) → is_chain h ≡ true → 1 ≤ length h
chain_there [] c = absurd (true≢false (sym c))
chain_there (b ∷ h) c = omega arith

pub header_shortens : (bs rest : List ℕ) (h : ℕ) → varint short short bs ≡ got h rest → length rest < length bs
header_shortens bs rest h e =
    let p = sound_below (2 ^ 64) short short bs h rest e in
    omega (arith, ap length p.1, length-append p.0 rest, chain_there p.0 p.2.0)

made_shortens : {A B : Type 0} (r : Reading HybridFault A) (f : A → B) (b : B) (rest : List ℕ) (most : ℕ) → ((a : A) (q : List ℕ) → r ≡ got a q → length q ≤ most) → goes_on r (λ a. give (f a)) ≡ got b rest → length rest ≤ most
made_shortens (refused x y) f b rest most h e = absurd (not_refused x y b rest e)
made_shortens (got a q) f b rest most h e = let s : q ≡ rest = (same_got {E = HybridFault} (f a) b q rest e).1 in omega (arith, ap length s, h a q refl)

bytes_shorten : (n : ℕ) (bs b rest : List ℕ) (t : Bool) → (if t then got (take n bs) (drop n bs) else refused short []) ≡ got b rest → length rest ≤ length bs
bytes_shorten n bs b rest true e = let s : drop n bs ≡ rest = (same_got {E = HybridFault} (take n bs) b (drop n bs) rest e).1 in omega (arith, ap length s, length-drop n bs)
bytes_shorten n bs b rest false e = absurd (not_refused short [] b rest e)

run_shortens : (w n h : ℕ) (bs vs rest : List ℕ) (t : Bool) → (if t then repeat_run w (h / 2) n else packed_run w (h / 2) n) bs ≡ got vs rest → length rest ≤ length bs
run_shortens w n h bs vs rest true e = made_shortens (bytes_of short (bytes_for w) bs) (λ b. replicate (min (h / 2) n) (little_endian b)) vs rest (length bs) (λ b q. bytes_shorten (bytes_for w) bs b q (nat_le (bytes_for w) (length bs))) e
run_shortens w n h bs vs rest false e = made_shortens (bytes_of short (bytes_for (min (8 * (h / 2)) n * w)) bs) (λ b. unpacked (min (8 * (h / 2)) n) w (little_endian b)) vs rest (length bs) (λ b q. bytes_shorten (bytes_for (min (8 * (h / 2)) n * w)) bs b q (nat_le (bytes_for (min (8 * (h / 2)) n * w)) (length bs))) e

ahead_shortens : (w n : ℕ) (bs vs rest : List ℕ) (r : Reading HybridFault ℕ) → varint short short bs ≡ r → goes_on r (run w n) ≡ got vs rest → length rest < length bs
ahead_shortens w n bs vs rest (refused x y) v e = absurd (not_refused x y vs rest e)
ahead_shortens w n bs vs rest (got h q) v e = omega (arith, header_shortens bs q h v, run_shortens w n h q vs rest (h % 2 == 0) e)

pub shortens : (w n : ℕ) (bs vs rest : List ℕ) → run_ahead w n bs ≡ got vs rest → length rest < length bs
unfolding run_ahead
shortens w n bs vs rest e = ahead_shortens w n bs vs rest (varint short short bs) refl e

-- ---- no run has more values than are wanted

made_of : {A B : Type 0} (r : Reading HybridFault A) (f : A → B) (b : B) (rest : List ℕ) → goes_on r (λ a. give (f a)) ≡ got b rest → (a : A) × (f a ≡ b)
made_of (refused x y) f b rest e = absurd (not_refused x y b rest e)
made_of (got a q) f b rest e = (a, (same_got {E = HybridFault} (f a) b q rest e).0)

run_wanted : (w n h : ℕ) (bs vs rest : List ℕ) (t : Bool) → (if t then repeat_run w (h / 2) n else packed_run w (h / 2) n) bs ≡ got vs rest → length vs ≤ n
run_wanted w n h bs vs rest true e =
    let m = made_of (bytes_of short (bytes_for w) bs) (λ b. replicate (min (h / 2) n) (little_endian b)) vs rest e in
    omega (arith, ap length m.1, length-replicate (min (h / 2) n) (little_endian m.0))
run_wanted w n h bs vs rest false e =
    let m = made_of (bytes_of short (bytes_for (min (8 * (h / 2)) n * w)) bs) (λ b. unpacked (min (8 * (h / 2)) n) w (little_endian b)) vs rest e in
    omega (arith, ap length m.1, length_unpacked (min (8 * (h / 2)) n) w (little_endian m.0))

ahead_wanted : (w n : ℕ) (bs vs rest : List ℕ) (r : Reading HybridFault ℕ) → goes_on r (run w n) ≡ got vs rest → length vs ≤ n
ahead_wanted w n bs vs rest (refused x y) e = absurd (not_refused x y vs rest e)
ahead_wanted w n bs vs rest (got h q) e = run_wanted w n h q vs rest (h % 2 == 0) e

pub no_more_than_wanted : (w n : ℕ) (bs vs rest : List ℕ) → run_ahead w n bs ≡ got vs rest → length vs ≤ n
unfolding run_ahead
no_more_than_wanted w n bs vs rest e = ahead_wanted w n bs vs rest (varint short short bs) e

-- ---- any fuel that is enough gives the same runs

regroup : {E A B C : Type 0} (r : Reading E A) (f : A → Reader E B) (g : B → Reader E C) → goes_on r (λ a bs. goes_on (f a bs) g) ≡ goes_on (goes_on r f) g
regroup (got a bs) f g = refl
regroup (refused e bs) f g = refl

-- the runs behind the first
abbrev behind : ℕ → ℕ → ℕ → List ℕ → Reader HybridFault (List ℕ)
behind k w n vs = runs k w (suc n - length vs) >>= (λ more. give (vs ++ more))

first_run : (k w n : ℕ) (bs : List ℕ) → runs (suc k) w (suc n) bs ≡ goes_on (run_ahead w (suc n) bs) (behind k w n)
unfolding run_ahead
first_run k w n bs = regroup (varint short short bs) (run w (suc n)) (behind k w n)

values_joined : (vs : List ℕ) (r : Reading HybridFault (List ℕ)) → values_read (goes_on r (λ more. give (vs ++ more))) ≡ option_map (λ more. vs ++ more) (values_read r)
values_joined vs (got more rest) = refl
values_joined vs (refused e rest) = refl

no_run_in_none : (w n : ℕ) → (rest : List ℕ) × (run_ahead w n [] ≡ refused short rest)
unfolding run_ahead
no_run_in_none w n = ([], refl)

abbrev Enough : ℕ → ℕ → ℕ → Type 0
Enough w j k = (n : ℕ) (bs : List ℕ) → length bs ≤ j → length bs ≤ k → values_read (runs j w n bs) ≡ values_read (runs k w n bs)

enough_by : (w j k n : ℕ) (bs : List ℕ) → length bs ≤ suc j → length bs ≤ suc k → Enough w j k → (r : Reading HybridFault (List ℕ)) → run_ahead w (suc n) bs ≡ r → values_read (goes_on r (behind j w n)) ≡ values_read (goes_on r (behind k w n))
enough_by w j k n bs l m h (refused e rest) f = refl
enough_by w j k n bs l m h (got vs rest) f =
    let s : length rest < length bs = shortens w (suc n) bs vs rest f in
    values_joined vs (runs j w (suc n - length vs) rest) ∙ (ap (option_map (λ more. vs ++ more)) (h (suc n - length vs) rest (omega (arith, l, s)) (omega (arith, m, s))) ∙ sym (values_joined vs (runs k w (suc n - length vs) rest)))

empty_runs : (k w n : ℕ) → values_read (runs k w (suc n) []) ≡ None
empty_runs zero w n = refl
empty_runs (suc k) w n = refl

-- any fuel at least the length gives the same
pub enough : (w j k : ℕ) → Enough w j k
enough w j k zero bs l m = refl
enough w zero k (suc n) [] l m = sym (empty_runs k w n)
enough w zero k (suc n) (b ∷ bs) l m = absurd (omega (arith, l))
enough w (suc j) zero (suc n) [] l m = empty_runs (suc j) w n
enough w (suc j) zero (suc n) (b ∷ bs) l m = absurd (omega (arith, m))
enough w (suc j) (suc k) (suc n) bs l m = ap values_read (first_run j w n bs) ∙ (enough_by w j k n bs l m (enough w j k) (run_ahead w (suc n) bs) refl ∙ sym (ap values_read (first_run k w n bs)))

-- ---- the first run, and then the others

by_length : (w n : ℕ) (bs vs rest : List ℕ) (j : ℕ) → length bs ≡ j → run_ahead w (suc n) bs ≡ got vs rest → values_read (runs j w (suc n) bs) ≡ option_map (λ more. vs ++ more) (values_read (runs (length rest) w (suc n - length vs) rest))
by_length w n bs vs rest zero l e = absurd (omega (arith, l, shortens w (suc n) bs vs rest e))
by_length w n bs vs rest (suc j) l e = ap values_read (first_run j w n bs ∙ ap (λ r. goes_on r (behind j w n)) e) ∙ (values_joined vs (runs j w (suc n - length vs) rest) ∙ ap (option_map (λ more. vs ++ more)) (enough w j (length rest) (suc n - length vs) rest (omega (arith, l, shortens w (suc n) bs vs rest e)) (omega arith)))

pub hybrid_more : (w n : ℕ) (bs vs rest : List ℕ) → 0 < n → run_ahead w n bs ≡ got vs rest → hybrid w n bs ≡ option_map (λ more. vs ++ more) (hybrid w (n - length vs) rest)
unfolding hybrid
hybrid_more w zero bs vs rest h e = absurd (omega (arith, h))
hybrid_more w (suc n) bs vs rest h e = by_length w n bs vs rest (length bs) refl e

short_by : (w n : ℕ) (bs rest : List ℕ) (j : ℕ) → run_ahead w (suc n) bs ≡ refused short rest → values_read (runs j w (suc n) bs) ≡ None
short_by w n bs rest zero e = refl
short_by w n bs rest (suc j) e = ap values_read (first_run j w n bs ∙ ap (λ r. goes_on r (behind j w n)) e)

pub hybrid_short : (w n : ℕ) (bs rest : List ℕ) → 0 < n → run_ahead w n bs ≡ refused short rest → hybrid w n bs ≡ None
unfolding hybrid
hybrid_short w zero bs rest h e = absurd (omega (arith, h))
hybrid_short w (suc n) bs rest h e = short_by w n bs rest (length bs) e

pub hybrid_none : (w : ℕ) (bs : List ℕ) → hybrid w 0 bs ≡ Some []
unfolding hybrid
hybrid_none w bs = refl
