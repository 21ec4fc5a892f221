-- The copies that were tried, told one after another.
use Rattle.std.proofs.Common.{◌≡◌, ◌≢◌, ℕ, zero, suc, ◌<◌, ◌+◌, ◌-◌, ◌^◌, List, [], ◌∷◌, ◌++◌, length, map, take, get_or, Bool, true, false, refl, sym, ap, ◌∙◌, add-one, append_assoc, append-nil, arith}
use Rattle.std.proofs.lemmas.Bool.{eqb-true, eq-eqb}
use Rattle.std.proofs.lemmas.List.{take_more, map-append}
use Rattle.std.proofs.lemmas.List.Elements.{filter-append}
use Rattle.std.specs.Prelude.{codes, ◌==◌, if◌then◌else◌, Result, Ok, Err, OnOk, is_ok}
use Rattle.std.specs.List.{flat_map, range_with_len}
use Rattle.std.specs.Fmt.{decimal, padded_integral, char_count, format_spec}
use Rattle.dr_formats.specs.TableFile.{most_leaf_lines}
use Rattle.dr_formats.specs.Tablets.{six_digits}
use Rattle.dr_outside.specs.Cause.{name_of}
use Rattle.dr_outside.specs.declared.cause.Cause.{Cause}
use Rattle.dr_formats.specs.Reports.{left_leaf_text, left_leaves_text, leaf_cause_name}
use Rattle.dr_reading.specs.Left.{Tried}
use Rattle.dr_reading.specs.LeftText.{told_cause, told_leaf, in_directory, ascending}
use Rattle.dr_table.specs.declared.left.Tried as code
use Rattle.dr_table.specs.LeftViews.{tried_view, all_tried_view}
use Rattle.dr_table.specs.Reports.{tried_text, leaves_text, still}

pub cause_name : (c : Cause) → name_of c ≡ leaf_cause_name (told_cause c)
cause_name (Cause.ReadFailed before after) = refl
cause_name Cause.BadFooter = refl
cause_name Cause.BadSchema = refl
cause_name Cause.BadCodec = refl
cause_name Cause.BadData = refl

-- leaves behind others
pub leaves_append : (first : Bool) (ts us : List Tried) → leaves_text first (ts ++ us) ≡ leaves_text first ts ++ leaves_text (still first ts) us
leaves_append first [] us = refl
leaves_append first (t ∷ ts) us = ap (λ x. tried_text first t ++ x) (go ts us) ∙ sym (append_assoc (tried_text first t) (leaves_text false ts) (leaves_text false us))
  where
    go : (ts us : List Tried) → leaves_text false (ts ++ us) ≡ leaves_text false ts ++ leaves_text false us
    go [] us = refl
    go (t ∷ ts) us = ap (λ x. tried_text false t ++ x) (go ts us) ∙ sym (append_assoc (tried_text false t) (leaves_text false ts) (leaves_text false us))

pub still_append : (first : Bool) (ts us : List Tried) → still first (ts ++ us) ≡ still (still first ts) us
still_append first [] us = refl
still_append first (t ∷ ts) [] = refl
still_append first (t ∷ ts) (u ∷ us) = refl

-- all of them are as they are told
behind : (ts : List Tried) (t : Tried) → left_leaf_text (told_leaf t) ++ leaves_text false ts ≡ left_leaves_text (map told_leaf (t ∷ ts))
behind [] t = append-nil (left_leaf_text (told_leaf t))
behind (u ∷ ts) t = ap (λ x. left_leaf_text (told_leaf t) ++ x) (append_assoc (codes "; ") (left_leaf_text (told_leaf u)) (leaves_text false ts) ∙ ap (λ x. codes "; " ++ x) (behind ts u))

pub leaves_told : (ts : List Tried) → leaves_text true ts ≡ left_leaves_text (map told_leaf ts)
leaves_told [] = refl
leaves_told (t ∷ ts) = behind ts t

-- ---- one copy more

pub views_next : (ts : List code.Tried) (i : ℕ) (t : code.Tried) → i < length ts → all_tried_view (take (i + 1) ts) ≡ all_tried_view (take i ts) ++ tried_view (get_or ts i t) ∷ []
views_next ts i t h = ap all_tried_view (take_more ts i t h) ∙ map-append tried_view (take i ts) (get_or ts i t ∷ [])

one_more : (b : Bool) (ts : List Tried) (t : Tried) (d : ℕ) → (t.directory == d) ≡ b → in_directory (ts ++ t ∷ []) d ≡ in_directory ts d ++ (if b then t ∷ [] else [])
one_more b ts t d e = filter-append (λ (u : Tried). u.directory == d) ts (t ∷ []) ∙ ap (λ (x : Bool). in_directory ts d ++ (if x then t ∷ [] else [])) e

differ : (a d : ℕ) → a ≢ d → (a == d) ≡ false
differ a d h = go (a == d) refl
  where
    go : (b : Bool) → (a == d) ≡ b → (a == d) ≡ false
    go true e = absurd (h (eqb-true a d e))
    go false e = e

-- it lies there, and is told
pub told_there : (first now : Bool) (start old new : List ℕ) (ts us : List Tried) (t : Tried) (d : ℕ) → us ≡ ts ++ t ∷ [] → t.directory ≡ d
    → old ≡ start ++ leaves_text first (in_directory ts d) → now ≡ still first (in_directory ts d) → new ≡ old ++ tried_text now t
    → (new ≡ start ++ leaves_text first (in_directory us d)) × (false ≡ still first (in_directory us d))
told_there first now start old new ts us t d e b o n w =
    let f : in_directory us d ≡ in_directory ts d ++ t ∷ [] = ap (λ x. in_directory x d) e ∙ one_more true ts t d (eq-eqb t.directory d b) in
    let g : leaves_text first (in_directory us d) ≡ leaves_text first (in_directory ts d) ++ tried_text (still first (in_directory ts d)) t =
    ap (leaves_text first) f ∙ (leaves_append first (in_directory ts d) (t ∷ []) ∙ ap (λ x. leaves_text first (in_directory ts d) ++ x) (append-nil (tried_text (still first (in_directory ts d)) t))) in (
      w ∙ (ap (λ x. x ++ tried_text now t) o ∙ (append_assoc start (leaves_text first (in_directory ts d)) (tried_text now t)
          ∙ ap (λ x. start ++ x) (ap (λ x. leaves_text first (in_directory ts d) ++ tried_text x t) n ∙ sym g))),
      sym (ap (still first) f ∙ still_append first (in_directory ts d) (t ∷ [])),
    )

-- it lies elsewhere
pub passed_over : (first now : Bool) (start old : List ℕ) (ts us : List Tried) (t : Tried) (d : ℕ) → us ≡ ts ++ t ∷ [] → t.directory ≢ d
    → old ≡ start ++ leaves_text first (in_directory ts d) → now ≡ still first (in_directory ts d)
    → (old ≡ start ++ leaves_text first (in_directory us d)) × (now ≡ still first (in_directory us d))
passed_over first now start old ts us t d e b o n =
    let f : in_directory us d ≡ in_directory ts d = ap (λ x. in_directory x d) e ∙ (one_more false ts t d (differ t.directory d b) ∙ append-nil (in_directory ts d)) in
    (o ∙ ap (λ x. start ++ leaves_text first x) (sym f), n ∙ ap (still first) (sym f))

-- ---- one directory more

directories_from : (ts : List Tried) (a n m : ℕ) → a + n ≡ m → flat_map (in_directory ts) (range_with_len a (suc n)) ≡ flat_map (in_directory ts) (range_with_len a n) ++ in_directory ts m
directories_from ts a zero m e = append-nil (in_directory ts a) ∙ ap (in_directory ts) (let h : a ≡ m = omega (arith, e) in h)
directories_from ts a (suc n) m e =
    ap (λ x. in_directory ts a ++ x) (directories_from ts (a + 1) n m (omega (arith, e))) ∙ sym (append_assoc (in_directory ts a) (flat_map (in_directory ts) (range_with_len (a + 1) n)) (in_directory ts m))

directories_more : (ts : List Tried) (n : ℕ) → flat_map (in_directory ts) (range_with_len 0 (n + 1)) ≡ flat_map (in_directory ts) (range_with_len 0 n) ++ in_directory ts n
directories_more ts n = ap (λ (m : ℕ). flat_map (in_directory ts) (range_with_len 0 m)) (add-one n) ∙ directories_from ts 0 n n (let e : 0 + n ≡ n = omega arith in e)

pub next_directory : (first now : Bool) (start old new : List ℕ) (ts : List Tried) (d : ℕ) → old ≡ start ++ leaves_text true (flat_map (in_directory ts) (range_with_len 0 d)) → first ≡ still true (flat_map (in_directory ts) (range_with_len 0 d))
    → new ≡ old ++ leaves_text first (in_directory ts d) → now ≡ still first (in_directory ts d)
    → (new ≡ start ++ leaves_text true (flat_map (in_directory ts) (range_with_len 0 (d + 1)))) × (now ≡ still true (flat_map (in_directory ts) (range_with_len 0 (d + 1))))
next_directory first now start old new ts d o f w n =
    let before : List Tried = flat_map (in_directory ts) (range_with_len 0 d) in
    let here : List Tried = in_directory ts d in (
      w ∙ (ap (λ x. x ++ leaves_text first here) o ∙ (append_assoc start (leaves_text true before) (leaves_text first here)
          ∙ ap (λ x. start ++ x) (ap (λ x. leaves_text true before ++ leaves_text x here) f ∙ (sym (leaves_append true before here) ∙ ap (leaves_text true) (sym (directories_more ts d)))))),
      n ∙ (ap (λ x. still x here) f ∙ (sym (still_append true before here) ∙ ap (still true) (sym (directories_more ts d)))),
    )

-- all directories
pub told_ascending : (n : ℕ) (start text : List ℕ) (ts : List Tried) → n ≡ most_leaf_lines → text ≡ start ++ leaves_text true (flat_map (in_directory ts) (range_with_len 0 n)) → text ≡ start ++ left_leaves_text (map told_leaf (ascending ts))
unfolding ascending
told_ascending n start text ts e h = h ∙ ap (λ x. start ++ x) (ap (λ m. leaves_text true (flat_map (in_directory ts) (range_with_len 0 m))) e ∙ leaves_told (ascending ts))

-- ---- the head of a line

padded_to_six : (n : ℕ) → padded_integral (format_spec 32 0 4 6 (2 ^ 64 - 1)) false [] (decimal n) ≡ six_digits n
unfolding padded_integral char_count
padded_to_six n =
    let e : 6 - length (decimal n) - 0 - 0 ≡ 6 - length (decimal n) = omega arith in
    rw (e, append-nil) refl

line_told : (old head middle leaves new shown : List ℕ) (n : ℕ) → shown ≡ padded_integral (format_spec 32 0 4 6 (2 ^ 64 - 1)) false [] (decimal n) → head ≡ codes "left t" ++ (shown ++ codes ": ") → middle ≡ (old ++ head) ++ leaves → new ≡ middle ++ 10 ∷ []
    → new ≡ old ++ (codes "left t" ++ (six_digits n ++ (codes ": " ++ (leaves ++ 10 ∷ []))))
line_told old head middle leaves new shown n s h m w =
    w ∙ (ap (λ x. x ++ 10 ∷ []) (m ∙ ap (λ x. (old ++ x) ++ leaves) (h ∙ ap (λ x. codes "left t" ++ (x ++ codes ": ")) (s ∙ padded_to_six n))) ∙ done old (six_digits n) leaves)
  where
    done : (old six leaves : List ℕ) → ((old ++ (codes "left t" ++ (six ++ codes ": "))) ++ leaves) ++ 10 ∷ [] ≡ old ++ (codes "left t" ++ (six ++ (codes ": " ++ (leaves ++ 10 ∷ []))))
    done old six leaves =
        append_assoc (old ++ (codes "left t" ++ (six ++ codes ": "))) leaves (10 ∷ []) ∙ (append_assoc old (codes "left t" ++ (six ++ codes ": ")) (leaves ++ 10 ∷ [])
        ∙ ap (λ x. old ++ (codes "left t" ++ x)) (append_assoc six (codes ": ") (leaves ++ 10 ∷ [])))

pub line_done : {E : Type 0} (r : Result (Unit {0}) E) (old head began middle leaves new shown : List ℕ) (n : ℕ) → shown ≡ padded_integral (format_spec 32 0 4 6 (2 ^ 64 - 1)) false [] (decimal n) → head ≡ codes "left t" ++ (shown ++ codes ": ")
    → began ≡ old ++ head → middle ≡ began ++ leaves → new ≡ (if is_ok r then middle ++ 10 ∷ [] else middle) → OnOk r (new ≡ old ++ (codes "left t" ++ (six_digits n ++ (codes ": " ++ (leaves ++ 10 ∷ [])))))
line_done (Ok u) old head began middle leaves new shown n s h b m w = line_told old head middle leaves new shown n s h (m ∙ ap (λ x. x ++ leaves) b) w
line_done (Err e) old head began middle leaves new shown n s h b m w = tt
