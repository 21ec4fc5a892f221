-- What is read behind what is read ahead.
use Rattle.std.proofs.Common.{◌≡◌, ℕ, ◌+◌, ◌-◌, ◌≤◌, List, ◌++◌, length, take, drop, replicate, sym, ap, ap₂, subst, ◌∙◌, arith, append_assoc}
use Rattle.std.specs.Prelude.{Option, Some, None, Result, Ok, Err, is_ok, is_err, false, if◌then◌else◌}
use Rattle.std.proofs.lemmas.Bool.{false≢true}
use Rattle.std.proofs.lemmas.List.{take_all, take_at, drop-drop, drop-append-le, length-append, length-take}
use Rattle.std.proofs.Math.Seq.{take-add}
use Rattle.dr_outside.specs.Link.{Files, HasBytes, IsPartAt}
use Rattle.dr_chunk.specs.declared.stretch.Stretch.{Stretch}
use Rattle.dr_chunk.specs.Stretches.{pending, left_count, rest_in}
use Rattle.dr_outside.specs.Telling.{TellsFile}

-- what was put into the room behind the others
pub put_behind : {A : Type 0} (old D R F P Q : List A) (z : A) (l k m start count : ℕ) → D ≡ R → R ≡ take m old ++ replicate k z → length old ≤ m → start ≡ length old → l ≡ start + count → length F ≡ count → take l ((take start D ++ (F ++ P)) ++ Q) ≡ old ++ F
put_behind old D R F P Q z l k m start count d r w s n f =
    let a : take start D ≡ old = ap (take start) (d ∙ (r ∙ ap (λ xs. xs ++ replicate k z) (take_all m old w))) ∙ take_at old (replicate k z) start (sym s) in
    ap (λ xs. take l ((xs ++ (F ++ P)) ++ Q)) a ∙ (ap (λ xs. take l (xs ++ Q)) (sym (append_assoc old F P)) ∙ (ap (take l) (append_assoc (old ++ F) P Q) ∙ take_at (old ++ F) (P ++ Q) l (length-append old F ∙ omega (arith, s, n, f))))

-- what the call gave, where it gave no error
pub where_no_error : {X T E : Type 0} (r : Result T E) (new some old : X) → false ≡ is_err r → new ≡ (if is_ok r then some else old) → new ≡ some
where_no_error (Ok t) new some old h e = e
where_no_error (Err t) new some old h e = absurd (false≢true h)

-- the part that a link gave, of the file that it tells
part_told : (held : Option Files) (path bytes part : List ℕ) (at : ℕ) → TellsFile held path bytes → HasBytes held path at part → IsPartAt (Some bytes) at part
part_told None path bytes part at t h = elim t [ ]
part_told (Some files) path bytes part at t h = let P : Option (List ℕ) → Type 0 = λ o. IsPartAt o at part in subst P t h

-- what is left stays, where the next bytes are read ahead
pub rest_stays : (held : Option Files) (path bytes old part : List ℕ) (from at n end : ℕ) → TellsFile held path bytes → HasBytes held path at part → length part ≡ n
    → from ≤ length old → at + n ≤ end
    → drop from (old ++ part) ++ take (end - (at + n)) (drop (at + n) bytes) ≡ drop from old ++ take (end - at) (drop at bytes)
rest_stays held path bytes old part from at n end t h m f e =
    let p : part ≡ take (length part) (drop at bytes) = (part_told held path bytes part at t h).1 in
    let q : part ≡ take n (drop at bytes) = p ∙ ap (λ k. take k (drop at bytes)) m in
    let k : ℕ = end - (at + n) in
    let s : end - at ≡ n + k = omega arith in
    let r : take (end - at) (drop at bytes) ≡ part ++ take k (drop (at + n) bytes) =
    ap (λ j. take j (drop at bytes)) s ∙ (take-add n k (drop at bytes) ∙ ap₂ (λ xs ys. xs ++ take k ys) (sym q) (drop-drop n at bytes)) in
    ap (λ xs. xs ++ take k (drop (at + n) bytes)) (drop-append-le from old part f) ∙ (append_assoc (drop from old) part (take k (drop (at + n) bytes)) ∙ ap (λ xs. drop from old ++ xs) (sym r))

-- no more bytes are left than are counted
pub rest_few : (bytes : List ℕ) (s : Stretch) → length (rest_in bytes s) ≤ left_count s
rest_few bytes s =
    let k : ℕ = s.range.start + s.range.size - s.at in
    omega (arith, length-append (pending s) (take k (drop s.at bytes)), length-take k (drop s.at bytes))
