-- How many values are read: as many as are wanted.
use Rattle.std.proofs.Common.{◌≡◌, ℕ, zero, suc, List, [], ◌∷◌, length, map, refl, sym, ap, ◌∙◌, Some}
use Rattle.std.proofs.lemmas.List.{length-map}
use Rattle.dr_meaning.specs.Schema as tree
use Rattle.dr_meaning.specs.Record.{Value}
use Rattle.dr_formats.specs.Reading.{Reading, got, refused, Reader, give, goes_on, ◌>>=◌, bytes_of}
use Rattle.dr_formats.specs.LittleEndian.{little_endian, unpacked, bytes_for}
use Rattle.dr_formats.specs.Plain.{PlainFault, too_short, repeatedly, plain_number, plain_text, truth_of_bit, plain, plain_read, plain_values}
use Rattle.dr_formats.proofs.ReadingLemmas.{not_refused, same_got}
use Rattle.dr_bytes.proofs.BitLemmas.{length_unpacked}

last_count : {E A : Type 0} (x : A) (n : ℕ) (r : Reading E (List A)) (vs : List A) (rest : List ℕ) → ((us : List A) (q : List ℕ) → r ≡ got us q → length us ≡ n) → goes_on r (λ xs. give (x ∷ xs)) ≡ got vs rest → length vs ≡ suc n
last_count x n (refused e q) vs rest h f = absurd (not_refused e q vs rest f)
last_count {E} x n (got us q) vs rest h f = sym (ap length (same_got {E = E} (x ∷ us) vs q rest f).0) ∙ ap suc (h us q refl)

first_count : {E A : Type 0} (read : Reader E A) (n : ℕ) (r : Reading E A) (vs : List A) (rest : List ℕ) → ((bs : List ℕ) (us : List A) (q : List ℕ) → repeatedly read n bs ≡ got us q → length us ≡ n)
    → goes_on r (λ x. repeatedly read n >>= (λ xs. give (x ∷ xs))) ≡ got vs rest → length vs ≡ suc n
first_count read n (refused e q) vs rest h f = absurd (not_refused e q vs rest f)
first_count read n (got x q) vs rest h f = last_count x n (repeatedly read n q) vs rest (h q) f

pub repeated_count : {E A : Type 0} (read : Reader E A) (n : ℕ) (bs : List ℕ) (vs : List A) (rest : List ℕ) → repeatedly read n bs ≡ got vs rest → length vs ≡ n
repeated_count {E} {A} read zero bs vs rest e = let none : List A = [] in sym (ap length (same_got {E = E} none vs bs rest e).0)
repeated_count read (suc n) bs vs rest e = first_count read n (read bs) vs rest (λ cs us q f. repeated_count read n cs us q f) e

truths_count : (n : ℕ) (r : Reading PlainFault (List ℕ)) (vs : List Value) (rest : List ℕ) → goes_on r (λ b. give (map truth_of_bit (unpacked n 1 (little_endian b)))) ≡ got vs rest → length vs ≡ n
truths_count n (refused e q) vs rest f = absurd (not_refused e q vs rest f)
truths_count n (got b q) vs rest f = sym (ap length (same_got {E = PlainFault} (map truth_of_bit (unpacked n 1 (little_endian b))) vs q rest f).0) ∙ (length-map (unpacked n 1 (little_endian b)) truth_of_bit ∙ length_unpacked n 1 (little_endian b))

pub plain_count : (k : tree.Kind) (n : ℕ) (bs : List ℕ) (vs : List Value) (rest : List ℕ) → plain k n bs ≡ got vs rest → length vs ≡ n
plain_count tree.bool_kind n bs vs rest e = truths_count n (bytes_of too_short (bytes_for n) bs) vs rest e
plain_count tree.int32_kind n bs vs rest e = repeated_count (plain_number 32) n bs vs rest e
plain_count tree.int64_kind n bs vs rest e = repeated_count (plain_number 64) n bs vs rest e
plain_count tree.text_kind n bs vs rest e = repeated_count plain_text n bs vs rest e

read_count : (n : ℕ) (r : Reading PlainFault (List Value)) (vs : List Value) → ((us : List Value) (q : List ℕ) → r ≡ got us q → length us ≡ n) → plain_read r ≡ Some vs → length vs ≡ n
read_count n (got us q) vs h e = let f : us ≡ vs = cc in sym (ap length f) ∙ h us q refl
read_count n (refused x q) vs h e = absurd (cc)

pub plain_values_count : (k : tree.Kind) (n : ℕ) (bs : List ℕ) (vs : List Value) → plain_values k n bs ≡ Some vs → length vs ≡ n
plain_values_count k n bs vs e = read_count n (plain k n bs) vs (λ us q f. plain_count k n bs us q f) e
