-- Lines of table texts: what is read of a line is what it spells.
use Rattle.std.proofs.Common.{◌≡◌, ℕ, ◌++◌, ◌≤◌, ◌<◌, ◌^◌, List, [], refl, sym, ap, ◌∙◌, subst, arith, Option, Some, None, ◌⊎◌, inl, inr}
use Rattle.std.specs.Prelude.{codes}
use Rattle.std.specs.Fmt.{decimal}
use Rattle.std.proofs.lemmas.Slice.Eq.{bytes_eq-Decides}
use Rattle.dr_formats.specs.Reading.{Reading, got, refused}
use Rattle.dr_formats.specs.TableFile.{TableFault, Line, first_line, number_behind, leaf_line, found, line_read, line_as, exactly, most_tablets, most_leaf_lines}
use Rattle.dr_formats.proofs.ReadingLemmas.{not_refused}
use Rattle.dr_formats.proofs.TableLemmas.{NoEnd, line_as_back, numbered, leaf_back}
use Rattle.dr_formats.proofs.TableTextLemmas.{line_as_is, behind_is, exactly_is, leaf_is}
use Rattle.dr_format_laws.specs.TableFaultLaws.{BeginsWith, IsHeadLine, IsTabletsLine, IsCopiesLine, IsLeafLine, IsSchemaLine}

-- ---- a line is read, or refused

abbrev pub IsReadOrNot : {A : Type 0} → TableFault → Reading TableFault A → Type 0
IsReadOrNot {A} e r = ((a : A) × (rest : List ℕ) × (r ≡ got a rest)) ⊎ (r ≡ refused e [])

pub read_or_not : {A : Type 0} (e : TableFault) (f : List ℕ → Option A) (text : List ℕ) → IsReadOrNot e (line_as e f text)
read_or_not {A} e f text = by_line (first_line text)
  where
    by_found : (o : Option A) (bs : List ℕ) → IsReadOrNot e (found e o bs)
    by_found None bs = inr refl
    by_found (Some a) bs = inl (a, bs, refl)

    by_line : (o : Option Line) → IsReadOrNot e (line_read e f o)
    by_line None = inr refl
    by_line (Some l) = by_found (f l.text) l.behind

-- ---- kinds of lines: what is read of such a line alone

-- the lines of which something is read are the lines that are so
abbrev pub Reads : {A : Type 0} → (List ℕ → Option A) → (List ℕ → Type 0) → Type 0
Reads {A} read IsSuch = ((l : List ℕ) (a : A) → NoEnd l → read l ≡ Some a → IsSuch l) × ((l : List ℕ) → IsSuch l → NoEnd l × (a : A) × (read l ≡ Some a))

begins : {A : Type 0} (e : TableFault) (read : List ℕ → Option A) (IsSuch : List ℕ → Type 0) → Reads read IsSuch → (text : List ℕ) (a : A) (rest : List ℕ) → line_as e read text ≡ got a rest → BeginsWith IsSuch text
begins e read IsSuch r text a rest h = let l = line_as_is e read text a rest h in (l.0, rest, l.1, r.0 l.0 a l.2 l.3)

begun : {A : Type 0} (e : TableFault) (read : List ℕ → Option A) (IsSuch : List ℕ → Type 0) → Reads read IsSuch → (text : List ℕ) → (b : BeginsWith IsSuch text) → (a : A) × (line_as e read text ≡ got a b.1)
begun e read IsSuch r text b = let p = r.1 b.0 b.3 in (p.1, ap (line_as e read) b.2 ∙ line_as_back e read b.0 p.1 b.1 p.0 p.2)

-- a text begins so or doesn't; where it doesn't, its line is refused
pub decided : {A : Type 0} (e : TableFault) (read : List ℕ → Option A) (IsSuch : List ℕ → Type 0) → Reads read IsSuch → (text : List ℕ) → BeginsWith IsSuch text ⊎ (BeginsWith IsSuch text → ⊥)
decided e read IsSuch r text = by_read (read_or_not e read text)
  where
    by_read : IsReadOrNot e (line_as e read text) → BeginsWith IsSuch text ⊎ (BeginsWith IsSuch text → ⊥)
    by_read (inl p) = inl (begins e read IsSuch r text p.0 p.1 p.2)
    by_read (inr g) = inr (λ b. let p = begun e read IsSuch r text b in not_refused e [] p.0 b.1 (sym g ∙ p.1))

pub not_begun : {A : Type 0} (e : TableFault) (read : List ℕ → Option A) (IsSuch : List ℕ → Type 0) → Reads read IsSuch → (text : List ℕ) → (BeginsWith IsSuch text → ⊥) → line_as e read text ≡ refused e []
not_begun e read IsSuch r text h = by_read (read_or_not e read text)
  where
    by_read : IsReadOrNot e (line_as e read text) → line_as e read text ≡ refused e []
    by_read (inl p) = absurd (h (begins e read IsSuch r text p.0 p.1 p.2))
    by_read (inr g) = g

-- ---- the kinds

reads_exactly : (w : List ℕ) → NoEnd w → Reads (exactly w) (λ l. l ≡ w)
reads_exactly w h = (λ l a n e. exactly_is w l a e, λ l e. (subst NoEnd (sym e) h, l, rw ((bytes_eq-Decides l w).1 e) refl))

-- the word and a number from 1 to the greatest
abbrev IsNumbered : List ℕ → ℕ → List ℕ → Type 0
IsNumbered word greatest l = (n : ℕ) × (l ≡ word ++ decimal n) × (0 < n) × (n ≤ greatest)

reads_numbered : (word : List ℕ) (greatest : ℕ) → NoEnd word → greatest < 2 ^ 64 → Reads (number_behind word greatest) (IsNumbered word greatest)
reads_numbered word greatest h g = (λ l n k e. let q = behind_is word greatest l n g e in (n, q.0, q.1, q.2), whole)
  where
    whole : (l : List ℕ) → IsNumbered word greatest l → NoEnd l × (n : ℕ) × (number_behind word greatest l ≡ Some n)
    whole l p =
        let q = numbered word greatest p.0 h g p.2 p.3 in
        (subst NoEnd (sym p.1) q.0, p.0, ap (number_behind word greatest) p.1 ∙ q.1)

abbrev pub head_read : List ℕ → Option (List ℕ)
head_read = exactly (codes "dremel-table 1")

abbrev pub schema_read : List ℕ → Option (List ℕ)
schema_read = exactly (codes "schema")

abbrev pub tablets_read : List ℕ → Option ℕ
tablets_read = number_behind (codes "tablets ") most_tablets

abbrev pub copies_read : List ℕ → Option ℕ
copies_read = number_behind (codes "copies ") most_leaf_lines

pub reads_head : Reads head_read IsHeadLine
reads_head = reads_exactly (codes "dremel-table 1") refl

pub reads_schema : Reads schema_read IsSchemaLine
reads_schema = reads_exactly (codes "schema") refl

pub reads_tablets : Reads tablets_read IsTabletsLine
reads_tablets = reads_numbered (codes "tablets ") most_tablets refl (omega arith)

pub reads_copies : Reads copies_read IsCopiesLine
reads_copies = reads_numbered (codes "copies ") most_leaf_lines refl (omega arith)

pub reads_leaf : Reads leaf_line IsLeafLine
reads_leaf = (λ l d n e. let q = leaf_is l d n e in (d, q.0, q.1), whole)
  where
    whole : (l : List ℕ) → IsLeafLine l → NoEnd l × (d : List ℕ) × (leaf_line l ≡ Some d)
    whole l p = let q = leaf_back p.0 p.2 in (subst NoEnd (sym p.1) q.0, p.0, ap leaf_line p.1 ∙ q.1)
