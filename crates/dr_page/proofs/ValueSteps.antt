-- A cursor over values: what each piece leaves.
use Rattle.std.proofs.Common.{◌≡◌, ℕ, ◌+◌, ◌≤◌, List, [], ◌∷◌, ◌++◌, length, map, true, refl, sym, ap, subst, arith, ◌∙◌, ℤ, Some, None, Result, Ok, Err}
use Rattle.std.specs.Prelude.{OnOk}
use Rattle.std.proofs.lemmas.List.{append-nil, length-append, length-map}
use Rattle.dr_meaning.specs.Schema.{Kind, bool_kind, int32_kind, int64_kind, text_kind}
use Rattle.dr_meaning.specs.Record.{Value}
use Rattle.dr_meaning.specs.Column.{Triplet}
use Rattle.dr_levels.specs.declared.triplet.Levels.{Levels}
use Rattle.dr_levels.specs.Dense.{is_integer_kind, joined}
use Rattle.dr_levels.proofs.DenseLemmas.{joined_length}
use Rattle.dr_formats.specs.Reading.{got}
use Rattle.dr_formats.specs.Plain.{plain, truth_of_bit, pick}
use Rattle.dr_formats.specs.Page.{rle_values, encoded_values}
use Rattle.dr_plain.specs.Picking.{picked}
use Rattle.dr_plain.specs.Pieces.{HasGiven}
use Rattle.dr_page.specs.declared.encoding.ValueEncoding.{ValueEncoding}
use Rattle.dr_page.specs.declared.fault.PageFault.{PageFault}
use Rattle.dr_page.specs.declared.index_cursor.IndexCursor.{IndexCursor}
use Rattle.dr_page.specs.declared.value_cursor.ValueCursor.{ValueCursor}
use Rattle.dr_page.specs.Encodings.{IsFor}
use Rattle.dr_page.specs.Indices.{indices_ahead}
use Rattle.dr_page.specs.Reads.{WhereNone, Reads}
use Rattle.dr_page.specs.RunReading.{HasRead}
use Rattle.dr_page.specs.PageReading.{Lengthens}
use Rattle.dr_page.specs.ValuePieces.{indices_of, HasIndices, HasBits, HasValues, TakesValues}
use Rattle.dr_page.proofs.CountLemmas.{pick_count}
use Rattle.dr_page.proofs.ValueLemmas.{by_rle}
use Rattle.dr_page.proofs.CursorLemmas.{plain_there, dictionary_there, indices_there, indices_missing, picked_behind, not_picked_behind, picked_count, bits_there}

-- values in PLAIN came
pub plain_step : (z : ℤ) (k : Kind) (d : List Value) (bytes : List ℕ) (given more : List Value) (c new : ValueCursor) → HasValues z k d bytes given c → c.encoding ≡ ValueEncoding.Plain → new.encoding ≡ c.encoding
    → HasGiven k bytes (given ++ more) new.plain → HasValues z k d bytes (given ++ more) new
plain_step z k d bytes given more c new h e s g =
    let is : new.encoding ≡ ValueEncoding.Plain = s ∙ e in
    record {
      encoding = h.encoding ∙ ap Some (sym s);
      front = plain_there z k d (length (given ++ more)) bytes g.rest (given ++ more) (h.encoding ∙ ap Some e) g.read;
      plain = λ f. g;
      indices = λ f. let x : ValueEncoding.Plain ≡ ValueEncoding.Dictionary = sym is ∙ f in absurd (cc);
      bits = λ f. let x : ValueEncoding.Plain ≡ ValueEncoding.Hybrid = sym is ∙ f in absurd (cc);
    }

-- values of a dictionary came
pub dictionary_step : (z : ℤ) (k : Kind) (d : List Value) (bytes : List ℕ) (given more : List Value) (is : List ℕ) (c new : ValueCursor) → HasValues z k d bytes given c → c.encoding ≡ ValueEncoding.Dictionary → new.encoding ≡ c.encoding
    → HasIndices bytes is new.indices → pick d is ≡ Some (given ++ more) → HasValues z k d bytes (given ++ more) new
dictionary_step z k d bytes given more is c new h e s i p =
    let same : new.encoding ≡ ValueEncoding.Dictionary = s ∙ e in
    let l : length (given ++ more) ≡ length is = pick_count d is (given ++ more) p in
    record {
      encoding = h.encoding ∙ ap Some (sym s);
      front = dictionary_there z k d (length (given ++ more)) bytes is (given ++ more) (h.encoding ∙ ap Some e) (ap (λ n. indices_ahead n bytes) l ∙ i.front) p;
      plain = λ f. let x : ValueEncoding.Dictionary ≡ ValueEncoding.Plain = sym same ∙ f in absurd (cc);
      indices = λ f. (is, p, i);
      bits = λ f. let x : ValueEncoding.Dictionary ≡ ValueEncoding.Hybrid = sym same ∙ f in absurd (cc);
    }

pub indices_refused : (e : PageFault) (z : ℤ) (k : Kind) (d : List Value) (bytes : List ℕ) (given : List Value) (n : ℕ) (is : List ℕ) (c : ValueCursor) → HasValues z k d bytes given c → c.encoding ≡ ValueEncoding.Dictionary → pick d is ≡ Some given
    → WhereNone e (indices_ahead (length is + n) bytes) → WhereNone e (encoded_values z k d (length given + n) bytes)
indices_refused e z k d bytes given n is c h f p w =
    let l : length is + n ≡ length given + n = ap (λ m. m + n) (sym (pick_count d is given p)) in
    indices_missing e z k d (length given + n) bytes (h.encoding ∙ ap Some f) (subst (λ m. WhereNone e (indices_ahead m bytes)) l w)

-- truth values in RLE came
pub bits_step : (z : ℤ) (d : List Value) (bytes : List ℕ) (given more : List Value) (ls : List ℕ) (c new : ValueCursor) → HasValues z bool_kind d bytes given c → c.encoding ≡ ValueEncoding.Hybrid → new.encoding ≡ c.encoding
    → HasBits bytes ls new.bits → given ++ more ≡ map truth_of_bit ls → HasValues z bool_kind d bytes (given ++ more) new
bits_step z d bytes given more ls c new h e s b m =
    let same : new.encoding ≡ ValueEncoding.Hybrid = s ∙ e in
    let l : length (given ++ more) ≡ length ls = ap length m ∙ length-map ls truth_of_bit in
    record {
      encoding = h.encoding ∙ ap Some (sym s);
      front = ap (λ n. encoded_values z bool_kind d n bytes) l ∙ (bits_there z d (length ls) bytes (map truth_of_bit ls) (h.encoding ∙ ap Some e) b.front ∙ ap Some (sym m));
      plain = λ f. let x : ValueEncoding.Hybrid ≡ ValueEncoding.Plain = sym same ∙ f in absurd (cc);
      indices = λ f. let x : ValueEncoding.Hybrid ≡ ValueEncoding.Dictionary = sym same ∙ f in absurd (cc);
      bits = λ f. (ls, m, b);
    }

no_rle_integers : (k : Kind) (n : ℕ) (bytes : List ℕ) → is_integer_kind k ≡ true → rle_values k n bytes ≡ None
no_rle_integers bool_kind n bytes e = absurd (cc)
no_rle_integers int32_kind n bytes e = refl
no_rle_integers int64_kind n bytes e = refl
no_rle_integers text_kind n bytes e = absurd (cc)

-- no whole numbers and no texts are in RLE
pub integers_not_rle : (z : ℤ) (k : Kind) (d : List Value) (bytes : List ℕ) (given : List Value) (n : ℕ) (c : ValueCursor) → is_integer_kind k ≡ true → HasValues z k d bytes given c → c.encoding ≡ ValueEncoding.Hybrid → encoded_values z k d n bytes ≡ None
integers_not_rle z k d bytes given n c i h e = by_rle z k d n bytes (h.encoding ∙ ap Some e) ∙ no_rle_integers k n bytes i

pub texts_not_rle : (z : ℤ) (d : List Value) (bytes : List ℕ) (given : List Value) (n : ℕ) (c : ValueCursor) → HasValues z text_kind d bytes given c → c.encoding ≡ ValueEncoding.Hybrid → encoded_values z text_kind d n bytes ≡ None
texts_not_rle z d bytes given n c h e = by_rle z text_kind d n bytes (h.encoding ∙ ap Some e)

-- ---- indices, and items at them

same_head : (v w : ℕ) (us bs : List ℕ) → v ∷ us ≡ w ∷ bs → (v ≡ w) × (us ≡ bs)
same_head v w us bs e = (cc, cc)

-- indices that came
pub indices_read : (w : ℕ) (bytes bs given ws : List ℕ) (new : IndexCursor) → bytes ≡ w ∷ bs → w ≤ 32 → indices_of new ≡ ws → HasRead w bs (given ++ ws) new.runs → HasIndices bytes (given ++ indices_of new) new
indices_read w bytes bs given ws new e l s g =
    let t : indices_ahead (length (given ++ ws)) bytes ≡ Some (given ++ ws) = ap (indices_ahead (length (given ++ ws))) e ∙ indices_there w bs (given ++ ws) l g.front in
    record {
      front = subst (λ (xs : List ℕ). indices_ahead (length (given ++ xs)) bytes ≡ Some (given ++ xs)) (sym s) t;
      runs = λ v us f m.
          let q = same_head w v bs us (sym e ∙ f) in
          subst (λ (xs : List ℕ). HasRead v us (given ++ xs) new.runs) (sym s) (subst (λ (j : ℕ). HasRead j us (given ++ ws) new.runs) q.0 (subst (λ (xs : List ℕ). HasRead w xs (given ++ ws) new.runs) q.1 g));
    }

pub no_items : (xs : List ℕ) → length xs ≡ 0 → xs ≡ []
no_items [] e = refl
no_items (x ∷ xs) e = absurd (omega (arith, e))

-- none came
pub indices_same : (bytes given : List ℕ) (c new : IndexCursor) → new.runs ≡ c.runs → indices_of new ≡ [] → HasIndices bytes given c → HasIndices bytes (given ++ indices_of new) new
indices_same bytes given c new r e h =
    subst (λ (xs : List ℕ). HasIndices bytes xs new) (sym (ap (λ xs. given ++ xs) e ∙ append-nil given)) (record {
      front = h.front;
      runs = λ w bs f l. subst (HasRead w bs given) (sym r) (h.runs w bs f l);
    })

-- items that came, or that there aren't so many
pub picked_taken : {A B : Type 0} (f : A → Value) (z : ℤ) (k : Kind) (items found : List A) (bytes : List ℕ) (given : List Value) (n : ℕ) (is js indices : List ℕ) (c new : ValueCursor) (r : Result B PageFault)
    → HasValues z k (map f items) bytes given c → c.encoding ≡ ValueEncoding.Dictionary → new.encoding ≡ c.encoding → pick (map f items) is ≡ Some given → HasIndices bytes (is ++ js) new.indices → length js ≡ n → indices ≡ js
    → Reads (picked items indices) found r → TakesValues z k (map f items) bytes given n (map f found) new r
picked_taken f z k items found bytes given n is js indices c new (Ok b) h e s p i l j w =
    dictionary_step z k (map f items) bytes given (map f found) (is ++ js) c new h e s i (picked_behind f items found is js given p (ap (picked items) (sym j) ∙ w))
picked_taken f z k items found bytes given n is js indices c new (Err x) h e s p i l j w =
    let m : length given + n ≡ length (is ++ js) = omega (arith, length-append is js, l, pick_count (map f items) is given p) in
    not_picked_behind f x z k items (length given + n) bytes is js (h.encoding ∙ ap Some e) (ap (λ q. indices_ahead q bytes) m ∙ i.front) (subst (λ (q : List ℕ). WhereNone x (picked items q)) j w)

-- an index is not below the number of items
pub picked_refused : {A : Type 0} (f : A → Value) (e : PageFault) (z : ℤ) (k : Kind) (items : List A) (bytes : List ℕ) (given : List Value) (n : ℕ) (is js : List ℕ) (c : ValueCursor) (i : IndexCursor) → HasValues z k (map f items) bytes given c
    → c.encoding ≡ ValueEncoding.Dictionary → pick (map f items) is ≡ Some given → HasIndices bytes (is ++ js) i → length js ≡ n → WhereNone e (picked items js) → WhereNone e (encoded_values z k (map f items) (length given + n) bytes)
picked_refused f e z k items bytes given n is js c i h s p j l w =
    let m : length given + n ≡ length (is ++ js) = omega (arith, length-append is js, l, pick_count (map f items) is given p) in
    not_picked_behind f e z k items (length given + n) bytes is js (h.encoding ∙ ap Some s) (ap (λ q. indices_ahead q bytes) m ∙ j.front) w

-- how many items came
pub picked_many : {A B : Type 0} (items found : List A) (indices js : List ℕ) (n : ℕ) (r : Result B PageFault) → indices ≡ js → length js ≡ n → Reads (picked items indices) found r → OnOk r (length found ≡ n)
picked_many items found indices js n (Ok b) e l w = picked_count items found indices w ∙ (ap length e ∙ l)
picked_many items found indices js n (Err x) e l w = tt

-- triplets that joined a column are as many as their levels
pub longer_by : (g : ℕ) (pairs : List Levels) (vs : List Value) (before after : List Triplet) → after ≡ before ++ joined g pairs vs → Lengthens before after (length pairs)
longer_by g pairs vs before after e = (joined g pairs vs, joined_length g pairs vs, e)

-- none came yet
none_there : (e : ValueEncoding) (z : ℤ) (k : Kind) (d : List Value) (bytes rest : List ℕ) → IsFor e k z → plain k 0 bytes ≡ got [] rest → encoded_values z k d 0 bytes ≡ Some []
none_there ValueEncoding.Plain z k d bytes rest f r = plain_there z k d 0 bytes rest [] f.0 r
none_there ValueEncoding.Dictionary z k d bytes rest f r = dictionary_there z k d 0 bytes [] [] f.0 refl refl
none_there ValueEncoding.Hybrid z k d bytes rest f r = let q : k ≡ bool_kind = f.1 refl in ap (λ j. encoded_values z j d 0 bytes) q ∙ bits_there z d 0 bytes [] f.0 refl

pub none_given : (e : ValueEncoding) (z : ℤ) (k : Kind) (d : List Value) (bytes : List ℕ) (c : ValueCursor) → IsFor e k z → c.encoding ≡ e → HasGiven k bytes [] c.plain → HasIndices bytes [] c.indices → HasBits bytes [] c.bits → HasValues z k d bytes [] c
none_given e z k d bytes c f s p i b = record {
  encoding = f.0 ∙ ap Some (sym s);
  front = none_there e z k d bytes p.rest f p.read;
  plain = λ g. p;
  indices = λ g. ([], refl, i);
  bits = λ g. ([], refl, b);
}
