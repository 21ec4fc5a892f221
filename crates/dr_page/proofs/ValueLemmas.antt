-- Values by their encoding; values of dictionaries; places of texts.
use Rattle.std.proofs.Common.{◌≡◌, ℕ, zero, suc, ◌+◌, List, [], ◌∷◌, length, map, Bool, true, false, refl, sym, ap, ◌∙◌, ℤ, Option, Some, None}
use Rattle.std.specs.Prelude.{◌||◌, ◌==◌, nat_le, if◌then◌else◌, option_map, option_and_then}
use Rattle.std.specs.List.{list_all, All}
use Rattle.std.proofs.lemmas.Bool.{and_parts, and_from, le-leb}
use Rattle.std.proofs.lemmas.List.Elements.{All-nil, All-cons, All-head, All-tail}
use Rattle.std.proofs.lemmas.Str.{is_utf8-from_IsUtf8}
use Rattle.dr_meaning.specs.Record.{Value, bool_value, text_value}
use Rattle.dr_meaning.specs.Schema as tree
use Rattle.dr_formats.specs.Hybrid.{hybrid}
use Rattle.dr_formats.specs.Plain as plain
use Rattle.dr_formats.specs.Plain.{plain_values, dictionary_values}
use Rattle.dr_formats.specs.Reading.{got, refused}
use Rattle.dr_formats.specs.Page.{bad_page, is_number, sized_part, part_read, levels, rle_truths, rle_values, encoded_values}
use Rattle.dr_levels.specs.declared.text_place.TextPlace.{TextPlace}
use Rattle.dr_levels.specs.Texts.{is_text, bytes_at}
use Rattle.dr_levels.specs.Dense.{text_values}
use Rattle.dr_plain.specs.declared.values.TextPlace as dense
use Rattle.dr_plain.specs.Views as dense_views
use Rattle.dr_plain.specs.Picking.{picked}
use Rattle.dr_plain.proofs.PickSteps.{picked_hold}
use Rattle.dr_bytes.proofs.FaultLemmas.{was_fault}
use Rattle.dr_page.specs.declared.encoding.ValueEncoding.{ValueEncoding}
use Rattle.dr_page.specs.declared.fault.PageFault.{PageFault}
use Rattle.dr_page.specs.Encodings.{encoding_of}
use Rattle.dr_page.specs.Indices.{indices_ahead}
use Rattle.dr_page.specs.Places.{column_place}
use Rattle.dr_page.specs.Reads.{WhereNone, WhereBad}

-- ---- encodings

abbrev encoded : Bool → Bool → Bool → Option ValueEncoding
encoded a b c = if a then Some ValueEncoding.Plain else (if b then Some ValueEncoding.Dictionary else (if c then Some ValueEncoding.Hybrid else None))

abbrev either : Bool → Bool → Bool → Option (List Value) → Option (List Value) → Option (List Value) → Option (List Value)
either a b c p q r = if a then p else (if b then q else (if c then r else None))

by_first : (a b c : Bool) (p q r : Option (List Value)) → encoded a b c ≡ Some ValueEncoding.Plain → either a b c p q r ≡ p
by_first true b c p q r e = refl
by_first false true c p q r e = absurd (cc)
by_first false false true p q r e = absurd (cc)
by_first false false false p q r e = absurd (cc)

by_second : (a b c : Bool) (p q r : Option (List Value)) → encoded a b c ≡ Some ValueEncoding.Dictionary → either a b c p q r ≡ q
by_second true b c p q r e = absurd (cc)
by_second false true c p q r e = refl
by_second false false true p q r e = absurd (cc)
by_second false false false p q r e = absurd (cc)

by_third : (a b c : Bool) (p q r : Option (List Value)) → encoded a b c ≡ Some ValueEncoding.Hybrid → either a b c p q r ≡ r
by_third true b c p q r e = absurd (cc)
by_third false true c p q r e = absurd (cc)
by_third false false true p q r e = refl
by_third false false false p q r e = absurd (cc)

by_none : (a b c : Bool) (p q r : Option (List Value)) → encoded a b c ≡ None → either a b c p q r ≡ None
by_none true b c p q r e = absurd (cc)
by_none false true c p q r e = absurd (cc)
by_none false false true p q r e = absurd (cc)
by_none false false false p q r e = refl

pub by_plain : (z : ℤ) (k : tree.Kind) (d : List Value) (n : ℕ) (bs : List ℕ) → encoding_of z ≡ Some ValueEncoding.Plain → encoded_values z k d n bs ≡ plain_values k n bs
by_plain z k d n bs e = by_first (is_number 0 z) (is_number 2 z || is_number 8 z) (is_number 3 z) (plain_values k n bs) (dictionary_values d n bs) (rle_values k n bs) e

pub by_dictionary : (z : ℤ) (k : tree.Kind) (d : List Value) (n : ℕ) (bs : List ℕ) → encoding_of z ≡ Some ValueEncoding.Dictionary → encoded_values z k d n bs ≡ dictionary_values d n bs
by_dictionary z k d n bs e = by_second (is_number 0 z) (is_number 2 z || is_number 8 z) (is_number 3 z) (plain_values k n bs) (dictionary_values d n bs) (rle_values k n bs) e

pub by_rle : (z : ℤ) (k : tree.Kind) (d : List Value) (n : ℕ) (bs : List ℕ) → encoding_of z ≡ Some ValueEncoding.Hybrid → encoded_values z k d n bs ≡ rle_values k n bs
by_rle z k d n bs e = by_third (is_number 0 z) (is_number 2 z || is_number 8 z) (is_number 3 z) (plain_values k n bs) (dictionary_values d n bs) (rle_values k n bs) e

pub by_no_encoding : (z : ℤ) (k : tree.Kind) (d : List Value) (n : ℕ) (bs : List ℕ) → encoding_of z ≡ None → encoded_values z k d n bs ≡ None
by_no_encoding z k d n bs e = by_none (is_number 0 z) (is_number 2 z || is_number 8 z) (is_number 3 z) (plain_values k n bs) (dictionary_values d n bs) (rle_values k n bs) e

-- ---- dictionaries

narrow_enough : (b : Bool) (d : List Value) (o : Option (List ℕ)) → (if b then option_and_then (plain.pick d) o else None) ≡ option_and_then (plain.pick d) (if b then o else None)
narrow_enough true d o = refl
narrow_enough false d o = refl

-- values of a dictionary are those at the indices
pub by_indices : (d : List Value) (n : ℕ) (bs : List ℕ) → dictionary_values d n bs ≡ option_and_then (plain.pick d) (indices_ahead n bs)
by_indices d zero bs = refl
by_indices d (suc n) [] = refl
by_indices d (suc n) (w ∷ bs) = narrow_enough (nat_le w 32) d (hybrid w (suc n) bs)

-- ---- texts

pub same_texts : (bytes : List ℕ) (ps : List dense.TextPlace) → text_values bytes (map column_place ps) ≡ dense_views.text_values bytes ps
same_texts bytes [] = refl
same_texts bytes (p ∷ ps) = ap (λ vs. text_value (bytes_at bytes (column_place p)) ∷ vs) (same_texts bytes ps)

pub still_texts : (bytes : List ℕ) (ps : List dense.TextPlace) → dense_views.AreTexts bytes ps → list_all (is_text bytes) (map column_place ps) ≡ true
still_texts bytes [] h = refl
still_texts bytes (p ∷ ps) h =
    let t : dense_views.IsText bytes p = All-head (dense_views.IsText bytes) p ps h in
    and_from _ _ (and_from _ _ (le-leb (p.start + p.length) (length bytes) t.0) (is_utf8-from_IsUtf8 _ t.1)) (still_texts bytes ps (All-tail (dense_views.IsText bytes) p ps h))

all_pass : {A : Type 0} (p : A → Bool) (xs : List A) → list_all p xs ≡ true → All (λ x. p x ≡ true) xs
all_pass p [] h = All-nil (λ x. p x ≡ true)
all_pass p (x ∷ xs) h = All-cons (λ y. p y ≡ true) x xs (and_parts _ _ h).0 (all_pass p xs (and_parts _ _ h).1)

pass_all : {A : Type 0} (p : A → Bool) (xs : List A) → All (λ x. p x ≡ true) xs → list_all p xs ≡ true
pass_all p [] h = refl
pass_all p (x ∷ xs) h = and_from _ _ (All-head (λ y. p y ≡ true) x xs h) (pass_all p xs (All-tail (λ y. p y ≡ true) x xs h))

pub picked_by : {A : Type 0} (p : A → Bool) (items found : List A) (o : Option (List ℕ)) → list_all p items ≡ true → option_and_then (picked items) o ≡ Some found → list_all p found ≡ true
picked_by p items found None h e = absurd (cc)
picked_by p items found (Some is) h e = pass_all p found (picked_hold (λ x. p x ≡ true) items is found (all_pass p items h) e)

-- texts that stand in a buffer
pub text_places : (bytes : List ℕ) (ps : List dense.TextPlace) (items : List dense.TextPlace) (out : List TextPlace) → items ≡ ps → out ≡ map column_place items → dense_views.text_values bytes ps ≡ text_values bytes out
text_places bytes ps items out e f = sym (ap (text_values bytes) (f ∙ ap (map column_place) e) ∙ same_texts bytes ps)

pub text_places_hold : (bytes : List ℕ) (ps : List dense.TextPlace) (items : List dense.TextPlace) (out : List TextPlace) → items ≡ ps → out ≡ map column_place items → dense_views.AreTexts bytes ps → list_all (is_text bytes) out ≡ true
text_places_hold bytes ps items out e f h = ap (list_all (is_text bytes)) (f ∙ ap (map column_place) e) ∙ still_texts bytes ps h

-- ---- truth values in RLE

pub truths_seen : (ls : List ℕ) → map bool_value (map (λ (l : ℕ). l == 1) ls) ≡ map plain.truth_of_bit ls
truths_seen [] = refl
truths_seen (l ∷ ls) = ap (λ vs. bool_value (l == 1) ∷ vs) (truths_seen ls)

-- there are none where there is no part, or its levels aren't
no_part : (n : ℕ) (bs rest : List ℕ) → (n ≡ 0 → ⊥) → sized_part bs ≡ refused bad_page rest → rle_truths n bs ≡ None
no_part zero bs rest h p = absurd (h refl)
no_part (suc n) bs rest h p = ap (λ r. option_map (map plain.truth_of_bit) (option_and_then (levels 1 (suc n)) (part_read r))) p

pub no_part_none : (n : ℕ) (bs : List ℕ) (e : PageFault) → (n ≡ 0 → ⊥) → WhereBad e (sized_part bs) → WhereNone e (rle_truths n bs)
no_part_none n bs PageFault.NoMemory h w = tt
no_part_none n bs PageFault.BadData h w = let p = was_fault bad_page (sized_part bs) w in no_part n bs p.0 h p.1

no_bits : (n : ℕ) (bs part rest : List ℕ) → (n ≡ 0 → ⊥) → sized_part bs ≡ got part rest → levels 1 n part ≡ None → rle_truths n bs ≡ None
no_bits zero bs part rest h p l = absurd (h refl)
no_bits (suc n) bs part rest h p l = ap (λ r. option_map (map plain.truth_of_bit) (option_and_then (levels 1 (suc n)) (part_read r))) p ∙ ap (option_map (map plain.truth_of_bit)) l

pub no_bits_none : (n : ℕ) (bs part rest : List ℕ) (e : PageFault) → (n ≡ 0 → ⊥) → sized_part bs ≡ got part rest → WhereNone e (levels 1 n part) → WhereNone e (rle_truths n bs)
no_bits_none n bs part rest PageFault.NoMemory h p w = tt
no_bits_none n bs part rest PageFault.BadData h p w = no_bits n bs part rest h p w
