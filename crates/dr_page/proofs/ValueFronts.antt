-- Where so many values are there, fewer of them are there, too: by each encoding.
use Rattle.std.proofs.Common.{◌≡◌, ℕ, zero, suc, ◌*◌, ◌≤◌, List, [], ◌∷◌, length, map, take, drop, Bool, true, false, refl, sym, ap, ◌∙◌, arith, ℤ, Option, Some, None}
use Rattle.std.specs.Prelude.{◌||◌, nat_le, if◌then◌else◌, option_map, option_and_then}
use Rattle.std.proofs.lemmas.Bool.{le-leb, leb-true}
use Rattle.std.proofs.lemmas.List.{take-map}
use Rattle.dr_meaning.specs.Schema as tree
use Rattle.dr_meaning.specs.Record.{Value}
use Rattle.dr_formats.specs.Reading.{Reading, got, refused, Reader, give, goes_on, ◌>>=◌}
use Rattle.dr_formats.specs.LittleEndian.{little_endian, unpacked, bytes_for}
use Rattle.dr_formats.specs.Hybrid.{hybrid}
use Rattle.dr_formats.specs.Plain.{PlainFault, too_short, repeatedly, plain_number, plain_text, truth_of_bit, plain_truths, plain, plain_read, plain_values, nth_value, pick, dictionary_values}
use Rattle.dr_formats.specs.Page.{is_number, levels, sized_part, part_read, rle_truths, rle_values, encoded_values}
use Rattle.dr_formats.proofs.ReadingLemmas.{not_refused, same_got}
use Rattle.dr_bytes.proofs.BitLemmas.{unpacked_front}
use Rattle.dr_plain.proofs.ReadSteps.{unpacked_in}
use Rattle.dr_page.proofs.FrontLemmas.{Fronts, hybrid_fronts, levels_fronts}

-- ---- values one after another

-- the first m items are read
abbrev Reads : {E A : Type 0} → ℕ → List A → Reading E (List A) → Type 0
Reads m vs r = (other : List ℕ) × (r ≡ got (take m vs) other)

behind_first : {E A : Type 0} (x : A) (m : ℕ) (r q : Reading E (List A)) (vs : List A) (rest : List ℕ) → ((us : List A) (p : List ℕ) → r ≡ got us p → Reads m us q)
    → goes_on r (λ xs. give (x ∷ xs)) ≡ got vs rest → Reads (suc m) vs (goes_on q (λ xs. give (x ∷ xs)))
behind_first x m (refused e p) q vs rest h f = absurd (not_refused e p vs rest f)
behind_first {E} x m (got us p) q vs rest h f =
    let k = h us p refl in
    let s = (same_got {E = E} (x ∷ us) vs p rest f).0 in
    (k.0, ap (λ r. goes_on r (λ xs. give (x ∷ xs))) k.1 ∙ ap (λ xs. got (take (suc m) xs) k.0) s)

from_first : {E A : Type 0} (read : Reader E A) (m n : ℕ) (r : Reading E A) (vs : List A) (rest : List ℕ) → ((bs : List ℕ) (us : List A) (p : List ℕ) → repeatedly read n bs ≡ got us p → Reads m us (repeatedly read m bs))
    → goes_on r (λ x. repeatedly read n >>= (λ xs. give (x ∷ xs))) ≡ got vs rest → Reads (suc m) vs (goes_on r (λ x. repeatedly read m >>= (λ xs. give (x ∷ xs))))
from_first read m n (refused e p) vs rest h f = absurd (not_refused e p vs rest f)
from_first read m n (got x p) vs rest h f = behind_first x m (repeatedly read n p) (repeatedly read m p) vs rest (h p) f

repeated_front : {E A : Type 0} (read : Reader E A) (m n : ℕ) (bs : List ℕ) (vs : List A) (rest : List ℕ) → m ≤ n → repeatedly read n bs ≡ got vs rest → Reads m vs (repeatedly read m bs)
repeated_front read zero n bs vs rest l e = (bs, refl)
repeated_front read (suc m) zero bs vs rest l e = absurd (omega (arith, l))
repeated_front read (suc m) (suc n) bs vs rest l e = from_first read m n (read bs) vs rest (λ cs us p f. repeated_front read m n cs us p (omega (arith, l)) f) e

-- ---- truth values

truths_by : (b c : Bool) (m n : ℕ) (bs : List ℕ) (vs : List Value) (rest : List ℕ) → m ≤ n → (b ≡ true → c ≡ true)
    → goes_on (if b then got (take (bytes_for n) bs) (drop (bytes_for n) bs) else refused too_short []) (λ x. give (map truth_of_bit (unpacked n 1 (little_endian x)))) ≡ got vs rest
    → Reads m vs (goes_on (if c then got (take (bytes_for m) bs) (drop (bytes_for m) bs) else refused too_short []) (λ x. give (map truth_of_bit (unpacked m 1 (little_endian x)))))
truths_by false c m n bs vs rest l k e = absurd (not_refused too_short [] vs rest e)
truths_by true false m n bs vs rest l k e = let f : false ≡ true = k refl in absurd (cc)
truths_by true true m n bs vs rest l k e =
    let x : ℕ = little_endian (take (bytes_for n) bs) in
    let s = (same_got {E = PlainFault} (map truth_of_bit (unpacked n 1 x)) vs (drop (bytes_for n) bs) rest e).0 in
    let i : m * 1 ≤ 8 * bytes_for m = omega arith in
    let j : m * 1 ≤ 8 * bytes_for n = omega (arith, l) in
    let t : take m (unpacked n 1 x) ≡ unpacked m 1 (little_endian (take (bytes_for m) bs)) = unpacked_front m n 1 x l ∙ (unpacked_in m 1 (bytes_for n) bs j ∙ sym (unpacked_in m 1 (bytes_for m) bs i)) in
    (drop (bytes_for m) bs, ap (λ us. got us (drop (bytes_for m) bs)) (ap (map truth_of_bit) (sym t) ∙ (sym (take-map truth_of_bit m (unpacked n 1 x)) ∙ ap (take m) s)))

truths_front : (m n : ℕ) (bs : List ℕ) (vs : List Value) (rest : List ℕ) → m ≤ n → plain_truths n bs ≡ got vs rest → Reads m vs (plain_truths m bs)
truths_front m n bs vs rest l e = truths_by (nat_le (bytes_for n) (length bs)) (nat_le (bytes_for m) (length bs)) m n bs vs rest l (λ t. le-leb (bytes_for m) (length bs) (omega (arith, l, leb-true (bytes_for n) (length bs) t))) e

-- ---- PLAIN

plain_front : (k : tree.Kind) (m n : ℕ) (bs : List ℕ) (vs : List Value) (rest : List ℕ) → m ≤ n → plain k n bs ≡ got vs rest → Reads m vs (plain k m bs)
plain_front tree.bool_kind m n bs vs rest l e = truths_front m n bs vs rest l e
plain_front tree.int32_kind m n bs vs rest l e = repeated_front (plain_number 32) m n bs vs rest l e
plain_front tree.int64_kind m n bs vs rest l e = repeated_front (plain_number 64) m n bs vs rest l e
plain_front tree.text_kind m n bs vs rest l e = repeated_front plain_text m n bs vs rest l e

was_read : (r : Reading PlainFault (List Value)) (vs : List Value) → plain_read r ≡ Some vs → (rest : List ℕ) × (r ≡ got vs rest)
was_read (refused e p) vs f = absurd (cc)
was_read (got us p) vs f = let s : us ≡ vs = cc in (p, ap (λ xs. got xs p) s)

pub plain_fronts : (k : tree.Kind) (bs : List ℕ) → Fronts (λ n. plain_values k n bs)
plain_fronts k bs m n vs l e =
    let r = was_read (plain k n bs) vs e in
    let s = plain_front k m n bs vs r.0 l r.1 in
    ap plain_read s.1

-- ---- values of a dictionary

first_picked : (i m : ℕ) (o : Option Value) (p q : Option (List Value)) (vs : List Value) → ((us : List Value) → p ≡ Some us → q ≡ Some (take m us))
    → option_and_then (λ (v : Value). option_map (λ us. v ∷ us) p) o ≡ Some vs → option_and_then (λ (v : Value). option_map (λ us. v ∷ us) q) o ≡ Some (take (suc m) vs)
first_picked i m None p q vs h e = absurd (cc)
first_picked i m (Some v) None q vs h e = absurd (cc)
first_picked i m (Some v) (Some us) q vs h e = let f : v ∷ us ≡ vs = cc in ap (option_map (λ xs. v ∷ xs)) (h us refl) ∙ ap (λ xs. Some (take (suc m) xs)) f

pub pick_front : (d : List Value) (m : ℕ) (is : List ℕ) (vs : List Value) → pick d is ≡ Some vs → pick d (take m is) ≡ Some (take m vs)
pick_front d zero is vs e = refl
pick_front d (suc m) [] vs e = let none : List Value = [] in let f : none ≡ vs = cc in ap (λ xs. Some (take (suc m) xs)) f
pick_front d (suc m) (i ∷ is) vs e = first_picked i m (nth_value d i) (pick d is) (pick d (take m is)) vs (λ us f. pick_front d m is us f) e

picked_by : (d : List Value) (m : ℕ) (o p : Option (List ℕ)) (vs : List Value) → ((is : List ℕ) → o ≡ Some is → p ≡ Some (take m is)) → option_and_then (pick d) o ≡ Some vs → option_and_then (pick d) p ≡ Some (take m vs)
picked_by d m None p vs h e = absurd (cc)
picked_by d m (Some is) p vs h e = ap (option_and_then (pick d)) (h is refl) ∙ pick_front d m is vs e

narrow_by : (b : Bool) (d : List Value) (m : ℕ) (o p : Option (List ℕ)) (vs : List Value) → ((is : List ℕ) → o ≡ Some is → p ≡ Some (take m is))
    → (if b then option_and_then (pick d) o else None) ≡ Some vs → (if b then option_and_then (pick d) p else None) ≡ Some (take m vs)
narrow_by false d m o p vs h e = absurd (cc)
narrow_by true d m o p vs h e = picked_by d m o p vs h e

pub dictionary_fronts : (d : List Value) (bs : List ℕ) → Fronts (λ n. dictionary_values d n bs)
dictionary_fronts d bs zero n vs l e = refl
dictionary_fronts d bs (suc m) zero vs l e = absurd (omega (arith, l))
dictionary_fronts d [] (suc m) (suc n) vs l e = absurd (cc)
dictionary_fronts d (w ∷ bs) (suc m) (suc n) vs l e = narrow_by (nat_le w 32) d (suc m) (hybrid w (suc n) bs) (hybrid w (suc m) bs) vs (λ is f. hybrid_fronts w bs (suc m) (suc n) is l f) e

-- ---- truth values in RLE

bits_by : (m : ℕ) (o p : Option (List ℕ)) (vs : List Value) → ((ls : List ℕ) → o ≡ Some ls → p ≡ Some (take m ls)) → option_map (map truth_of_bit) o ≡ Some vs → option_map (map truth_of_bit) p ≡ Some (take m vs)
bits_by m None p vs h e = absurd (cc)
bits_by m (Some ls) p vs h e =
    let f : map truth_of_bit ls ≡ vs = cc in
    ap (option_map (map truth_of_bit)) (h ls refl) ∙ ap Some (sym (take-map truth_of_bit m ls) ∙ ap (take m) f)

part_levels : (m n : ℕ) (o : Option (List ℕ)) (ls : List ℕ) → m ≤ n → option_and_then (levels 1 n) o ≡ Some ls → option_and_then (levels 1 m) o ≡ Some (take m ls)
part_levels m n None ls l e = absurd (cc)
part_levels m n (Some part) ls l e = levels_fronts 1 part m n ls l e

truths_fronts : (bs : List ℕ) → Fronts (λ n. rle_truths n bs)
truths_fronts bs zero n vs l e = refl
truths_fronts bs (suc m) zero vs l e = absurd (omega (arith, l))
truths_fronts bs (suc m) (suc n) vs l e =
    let o : Option (List ℕ) = part_read (sized_part bs) in
    bits_by (suc m) (option_and_then (levels 1 (suc n)) o) (option_and_then (levels 1 (suc m)) o) vs (λ ls f. part_levels (suc m) (suc n) o ls l f) e

pub rle_fronts : (k : tree.Kind) (bs : List ℕ) → Fronts (λ n. rle_values k n bs)
rle_fronts tree.bool_kind bs m n vs l e = truths_fronts bs m n vs l e
rle_fronts tree.int32_kind bs m n vs l e = absurd (cc)
rle_fronts tree.int64_kind bs m n vs l e = absurd (cc)
rle_fronts tree.text_kind bs m n vs l e = absurd (cc)

-- ---- values by their encoding

either_fronts : (a b c : Bool) (f g h : ℕ → Option (List Value)) → Fronts f → Fronts g → Fronts h → Fronts (λ n. if a then f n else (if b then g n else (if c then h n else None)))
either_fronts true b c f g h p q r m n vs l e = p m n vs l e
either_fronts false true c f g h p q r m n vs l e = q m n vs l e
either_fronts false false true f g h p q r m n vs l e = r m n vs l e
either_fronts false false false f g h p q r m n vs l e = absurd (cc)

pub encoded_fronts : (z : ℤ) (k : tree.Kind) (d : List Value) (bs : List ℕ) → Fronts (λ n. encoded_values z k d n bs)
encoded_fronts z k d bs =
    either_fronts (is_number 0 z) (is_number 2 z || is_number 8 z) (is_number 3 z) (λ n. plain_values k n bs) (λ n. dictionary_values d n bs) (λ n. rle_values k n bs)
    (plain_fronts k bs) (dictionary_fronts d bs) (rle_fronts k bs)
