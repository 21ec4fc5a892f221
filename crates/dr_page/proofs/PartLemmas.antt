-- The parts of bodies by their places.
use Rattle.std.proofs.Common.{◌≡◌, ℕ, zero, suc, ◌+◌, ◌-◌, ◌≤◌, ◌<◌, List, [], length, take, drop, Bool, true, false, refl, sym, ap, ap₂, subst, ◌∙◌, arith, ℤ, Result}
use Rattle.std.specs.Prelude.{nat_le, if◌then◌else◌, IfOk, IfErr}
use Rattle.std.proofs.lemmas.Bool.{le-leb, lt-leb}
use Rattle.std.proofs.lemmas.List.{drop-drop}
use Rattle.dr_formats.specs.Reading.{Reading, got, refused, Reader, give, goes_on, ◌>>=◌, bytes_of}
use Rattle.dr_formats.specs.LittleEndian.{little_endian}
use Rattle.dr_formats.specs.Page as page
use Rattle.dr_formats.specs.Page.{bad_page, is_number, rle_encoding, PageShape, LevelParts, level_parts_of, sized_part, level_part, level_parts_v1, level_parts_v2}
use Rattle.dr_bytes.specs.Numbers.{IsFault}
use Rattle.dr_page.specs.declared.fault.PageFault.{PageFault}
use Rattle.dr_page.specs.declared.part.Part.{Part}
use Rattle.dr_page.specs.Parts.{part_in}
use Rattle.dr_page.specs.Reads.{WhereBad}

-- ---- a part behind its length

sized_by : (b : Bool) (bs : List ℕ) → b ≡ true → goes_on (if b then got (take 4 bs) (drop 4 bs) else refused bad_page []) (λ c. bytes_of bad_page (little_endian c)) ≡ bytes_of bad_page (little_endian (take 4 bs)) (drop 4 bs)
sized_by true bs h = refl
sized_by false bs h = absurd (cc)

sized_is : (bs front : List ℕ) (start n : ℕ) → front ≡ drop start bs → (length front < 4 → ⊥) → n ≡ little_endian (take 4 front) → sized_part (drop start bs) ≡ bytes_of bad_page n (drop (start + 4) bs)
sized_is bs front start n a h e =
    let k : 4 ≤ length (drop start bs) = omega (arith, h, ap length a) in
    sized_by (nat_le 4 (length (drop start bs))) (drop start bs) (le-leb 4 (length (drop start bs)) k)
    ∙ ap₂ (λ (m : ℕ) (xs : List ℕ). bytes_of bad_page m xs) (sym (e ∙ ap (λ xs. little_endian (take 4 xs)) a)) (drop-drop 4 start bs)

pub sized_found : (bs front : List ℕ) (start n : ℕ) (r : Result Part PageFault) → front ≡ drop start bs → (length front < 4 → ⊥) → n ≡ little_endian (take 4 front)
    → IfOk r (λ p. bytes_of bad_page n (drop (start + 4) bs) ≡ got (part_in bs p) (drop p.end bs)) → IfOk r (λ p. sized_part (drop start bs) ≡ got (part_in bs p) (drop p.end bs))
sized_found bs front start n r a h e f = subst (λ (q : Reading page.PageFault (List ℕ)). IfOk r (λ p. q ≡ got (part_in bs p) (drop p.end bs))) (sym (sized_is bs front start n a h e)) f

pub sized_bad : (bs front : List ℕ) (start n : ℕ) (r : Result Part PageFault) → front ≡ drop start bs → (length front < 4 → ⊥) → n ≡ little_endian (take 4 front)
    → IfErr r (λ x. WhereBad x (bytes_of bad_page n (drop (start + 4) bs))) → IfErr r (λ x. WhereBad x (sized_part (drop start bs)))
sized_bad bs front start n r a h e f = subst (λ (q : Reading page.PageFault (List ℕ)). IfErr r (λ x. WhereBad x q)) (sym (sized_is bs front start n a h e)) f

unsized_by : (b : Bool) (bs : List ℕ) → b ≡ false → IsFault bad_page (goes_on (if b then got (take 4 bs) (drop 4 bs) else refused bad_page []) (λ c. bytes_of bad_page (little_endian c)))
unsized_by true bs h = absurd (cc)
unsized_by false bs h = refl

pub no_length : (bs front : List ℕ) → front ≡ bs → length front < 4 → IsFault bad_page (sized_part bs)
no_length bs front a h =
    let k : length bs < 4 = omega (arith, h, ap length a) in
    unsized_by (nat_le 4 (length bs)) bs (lt-leb 4 (length bs) k)

-- ---- a level part of a V1 page

pub no_part : (g : ℕ) (z : ℤ) (bs : List ℕ) (start : ℕ) → g ≡ 0 → level_part g z (drop start bs) ≡ got (take (start - start) (drop start bs)) (drop start bs)
no_part g z bs start e =
    let n : 0 ≡ start - start = omega arith in
    ap (λ m. level_part m z (drop start bs)) e ∙ ap (λ m. got (take m (drop start bs)) (drop start bs)) n

pub is_sized : (g : ℕ) (z : ℤ) (bs : List ℕ) → (g ≡ 0 → ⊥) → is_number rle_encoding z ≡ true → level_part g z bs ≡ sized_part bs
is_sized zero z bs h e = absurd (h refl)
is_sized (suc g) z bs h e = ap (λ b. (if b then sized_part else refused bad_page) bs) e

pub other_encoding : (g : ℕ) (z : ℤ) (bs : List ℕ) → (g ≡ 0 → ⊥) → is_number rle_encoding z ≡ false → IsFault bad_page (level_part g z bs)
other_encoding zero z bs h e = absurd (h refl)
other_encoding (suc g) z bs h e = subst (λ (b : Bool). IsFault bad_page ((if b then sized_part else refused bad_page) bs)) (sym e) refl

-- ---- one part behind the other

abbrev both : Reading page.PageFault (List ℕ) → Reader page.PageFault (List ℕ) → Reading page.PageFault LevelParts
both r second = goes_on r (λ rs. second >>= (λ ds. give (level_parts_of rs ds)))

both_found : (r : Reading page.PageFault (List ℕ)) (second : Reader page.PageFault (List ℕ)) (one two rest behind : List ℕ) → r ≡ got one rest → second rest ≡ got two behind → both r second ≡ got (level_parts_of one two) behind
both_found r second one two rest behind e f = ap (λ q. both q second) e ∙ ap (λ q. goes_on q (λ ds. give (level_parts_of one ds))) f

first_bad : (e : PageFault) (r : Reading page.PageFault (List ℕ)) (second : Reader page.PageFault (List ℕ)) → WhereBad e r → WhereBad e (both r second)
first_bad PageFault.NoMemory r second h = tt
first_bad PageFault.BadData (got a rest) second h = absurd h
first_bad PageFault.BadData (refused x rest) second h = h

second_on : (one : List ℕ) (q : Reading page.PageFault (List ℕ)) → IsFault bad_page q → IsFault bad_page (goes_on q (λ ds. give (level_parts_of one ds)))
second_on one (got a rest) h = absurd h
second_on one (refused x rest) h = h

second_bad : (e : PageFault) (r : Reading page.PageFault (List ℕ)) (second : Reader page.PageFault (List ℕ)) (one rest : List ℕ) → r ≡ got one rest → WhereBad e (second rest) → WhereBad e (both r second)
second_bad PageFault.NoMemory r second one rest e h = tt
second_bad PageFault.BadData r second one rest e h = subst (λ (q : Reading page.PageFault (List ℕ)). IsFault bad_page (both q second)) (sym e) (second_on one (second rest) h)

-- the parts of a V1 page; encodings are those of the shape
pub v1_found : (s : PageShape) (y z : ℤ) (bs one two rest behind : List ℕ) → y ≡ s.repetition_encoding → z ≡ s.definition_encoding
    → level_part s.max_repetition y bs ≡ got one rest → level_part s.max_definition z rest ≡ got two behind → level_parts_v1 s bs ≡ got (level_parts_of one two) behind
v1_found s y z bs one two rest behind a b e f =
    both_found (level_part s.max_repetition s.repetition_encoding bs) (level_part s.max_definition s.definition_encoding) one two rest behind
    (ap (λ x. level_part s.max_repetition x bs) (sym a) ∙ e) (ap (λ x. level_part s.max_definition x rest) (sym b) ∙ f)

pub v1_first_bad : (s : PageShape) (y : ℤ) (bs : List ℕ) (e : PageFault) → y ≡ s.repetition_encoding → WhereBad e (level_part s.max_repetition y bs) → WhereBad e (level_parts_v1 s bs)
v1_first_bad s y bs e a h =
    first_bad e (level_part s.max_repetition s.repetition_encoding bs) (level_part s.max_definition s.definition_encoding) (subst (λ (x : ℤ). WhereBad e (level_part s.max_repetition x bs)) a h)

pub v1_second_bad : (s : PageShape) (y z : ℤ) (bs one rest : List ℕ) (e : PageFault) → y ≡ s.repetition_encoding → z ≡ s.definition_encoding
    → level_part s.max_repetition y bs ≡ got one rest → WhereBad e (level_part s.max_definition z rest) → WhereBad e (level_parts_v1 s bs)
v1_second_bad s y z bs one rest e a b f h =
    second_bad e (level_part s.max_repetition s.repetition_encoding bs) (level_part s.max_definition s.definition_encoding) one rest
    (ap (λ x. level_part s.max_repetition x bs) (sym a) ∙ f) (subst (λ (x : ℤ). WhereBad e (level_part s.max_definition x rest)) b h)

-- those of a V2 page
pub v2_found : (s : PageShape) (bs one two rest behind : List ℕ) → bytes_of bad_page s.repetition_bytes bs ≡ got one rest → bytes_of bad_page s.definition_bytes rest ≡ got two behind → level_parts_v2 s bs ≡ got (level_parts_of one two) behind
v2_found s bs one two rest behind e f = both_found (bytes_of bad_page s.repetition_bytes bs) (bytes_of bad_page s.definition_bytes) one two rest behind e f

pub v2_first_bad : (s : PageShape) (bs : List ℕ) (e : PageFault) → WhereBad e (bytes_of bad_page s.repetition_bytes bs) → WhereBad e (level_parts_v2 s bs)
v2_first_bad s bs e h = first_bad e (bytes_of bad_page s.repetition_bytes bs) (bytes_of bad_page s.definition_bytes) h

pub v2_second_bad : (s : PageShape) (bs one rest : List ℕ) (e : PageFault) → bytes_of bad_page s.repetition_bytes bs ≡ got one rest → WhereBad e (bytes_of bad_page s.definition_bytes rest) → WhereBad e (level_parts_v2 s bs)
v2_second_bad s bs one rest e f h = second_bad e (bytes_of bad_page s.repetition_bytes bs) (bytes_of bad_page s.definition_bytes) one rest f h
