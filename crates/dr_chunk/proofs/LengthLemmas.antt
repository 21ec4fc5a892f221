-- A page has as many triplets as its header says.
use Rattle.std.proofs.Common.{◌≡◌, ℕ, zero, suc, List, [], ◌∷◌, length, Bool, true, false, refl, sym, ap, ◌∙◌, arith}
use Rattle.std.specs.Prelude.{Option, Some, None, if◌then◌else◌, option_and_then, replicate, nat_le}
use Rattle.std.specs.List.{list_all}
use Rattle.std.proofs.lemmas.List.{length-replicate}
use Rattle.dr_meaning.specs.Record.{Value}
use Rattle.dr_meaning.specs.Column.{Triplet}
use Rattle.dr_formats.specs.Reading.{Reading, got, refused, give, goes_on, ◌>>=◌}
use Rattle.dr_formats.specs.Hybrid.{hybrid}
use Rattle.dr_formats.specs.Page.{PageShape, PageFault, LevelParts, found, level_parts_by, level_width, none_above, levels, values, count_equal, join_triplets, triplets_read, page_triplets}
use Rattle.dr_formats.proofs.HybridGrammar.{runs_are_read_exactly, one_list_of_values}

hybrid_count : (w n : ℕ) (bs vs : List ℕ) → hybrid w n bs ≡ Some vs → length vs ≡ n
hybrid_count w n bs vs e = let r = (runs_are_read_exactly bs w n vs).0 e in (one_list_of_values bs w n vs vs r r).1

kept_count : (b : Bool) (n : ℕ) (us vs : List ℕ) → length us ≡ n → (if b then Some us else None) ≡ Some vs → length vs ≡ n
kept_count true n us vs h e = let f : us ≡ vs = cc in sym (ap length f) ∙ h
kept_count false n us vs h e = absurd (cc)

within_count : (g n : ℕ) (o : Option (List ℕ)) (vs : List ℕ) → ((us : List ℕ) → o ≡ Some us → length us ≡ n) → option_and_then (none_above g) o ≡ Some vs → length vs ≡ n
within_count g n None vs h e = absurd (cc)
within_count g n (Some us) vs h e = kept_count (list_all (λ l. nat_le l g) us) n us vs (h us refl) e

levels_count : (g n : ℕ) (part ls : List ℕ) → levels g n part ≡ Some ls → length ls ≡ n
levels_count zero n part ls e = let f : replicate n 0 ≡ ls = cc in sym (ap length f) ∙ length-replicate n 0
levels_count (suc g) n part ls e = within_count (suc g) n (hybrid (level_width (suc g)) n part) ls (λ us f. hybrid_count (level_width (suc g)) n part us f) e

join_count : (g : ℕ) (rs ds : List ℕ) (vs : List Value) → length ds ≡ length rs → length (join_triplets g rs ds vs) ≡ length rs
join_count g [] ds vs h = refl
join_count g (r ∷ rs) [] vs h = absurd (omega (arith, h))
join_count g (r ∷ rs) (d ∷ ds) vs h = ap suc (join_count g rs ds _ (omega (arith, h)))

valued_count : (g : ℕ) (rs ds : List ℕ) (r : Reading PageFault (List Value)) (ts : List Triplet) → length ds ≡ length rs → triplets_read (goes_on r (λ vs. give (join_triplets g rs ds vs))) ≡ Some ts → length ts ≡ length rs
valued_count g rs ds (refused e q) ts h f = absurd (cc)
valued_count g rs ds (got vs q) ts h f = let k : join_triplets g rs ds vs ≡ ts = cc in sym (ap length k) ∙ join_count g rs ds vs h

defined_count : (s : PageShape) (d : List Value) (rs : List ℕ) (o : Option (List ℕ)) (q : List ℕ) (ts : List Triplet) → length rs ≡ s.triplets → ((ls : List ℕ) → o ≡ Some ls → length ls ≡ s.triplets)
    → triplets_read (goes_on (found o q) (λ ds. values s.encoding s.kind d (count_equal s.max_definition ds) >>= (λ vs. give (join_triplets s.max_definition rs ds vs)))) ≡ Some ts → length ts ≡ s.triplets
defined_count s d rs None q ts n h f = absurd (cc)
defined_count s d rs (Some ds) q ts n h f = valued_count s.max_definition rs ds (values s.encoding s.kind d (count_equal s.max_definition ds) q) ts (h ds refl ∙ sym n) f ∙ n

repeated_count : (s : PageShape) (d : List Value) (part : List ℕ) (o : Option (List ℕ)) (q : List ℕ) (ts : List Triplet) → ((ls : List ℕ) → o ≡ Some ls → length ls ≡ s.triplets)
    → triplets_read (goes_on (found o q) (λ rs. found (levels s.max_definition s.triplets part) >>= (λ ds. values s.encoding s.kind d (count_equal s.max_definition ds) >>= (λ vs. give (join_triplets s.max_definition rs ds vs))))) ≡ Some ts
    → length ts ≡ s.triplets
repeated_count s d part None q ts h f = absurd (cc)
repeated_count s d part (Some rs) q ts h f = defined_count s d rs (levels s.max_definition s.triplets part) q ts (h rs refl) (λ ls e. levels_count s.max_definition s.triplets part ls e) f

body_count : (s : PageShape) (d : List Value) (r : Reading PageFault LevelParts) (ts : List Triplet)
    → triplets_read (goes_on r (λ p. found (levels s.max_repetition s.triplets p.repetitions) >>= (λ rs. found (levels s.max_definition s.triplets p.definitions) >>= (λ ds. values s.encoding s.kind d (count_equal s.max_definition ds) >>= (λ vs. give (join_triplets s.max_definition rs ds vs)))))) ≡ Some ts
    → length ts ≡ s.triplets
body_count s d (refused e q) ts f = absurd (cc)
body_count s d (got p q) ts f = repeated_count s d p.definitions (levels s.max_repetition s.triplets p.repetitions) q ts (λ ls e. levels_count s.max_repetition s.triplets p.repetitions ls e) f

-- the triplets of a page are as many as its header says
pub page_count : (s : PageShape) (d : List Value) (bytes : List ℕ) (ts : List Triplet) → page_triplets s d bytes ≡ Some ts → length ts ≡ s.triplets
unfolding page_triplets
page_count s d bytes ts e = body_count s d (level_parts_by s.form s bytes) ts e
