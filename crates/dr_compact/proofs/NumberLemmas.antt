-- Numbers and ids, and how faults go on.
use Rattle.std.proofs.Common.{◌≡◌, ℕ, ◌^◌, ◌<◌, ◌≤◌, List, refl, sym, ap, subst, ◌∙◌, arith}
use Rattle.dr_formats.specs.Reading.{Reading, got, refused, Reader, give, goes_on}
use Rattle.dr_formats.specs.Varint.{VarintFault, varint, varint_below, from_zigzag, read_varint, varint_short, varint_too_long, varint_from, SpellsVarint}
use Rattle.dr_formats.specs.Compact.{CompactFault, malformed, field_id}
use Rattle.dr_formats.proofs.SoundLemmas.{sound_below}
use Rattle.dr_formats.proofs.VarintLemmas.{varint_reads}
use Rattle.dr_formats.proofs.ReadingLemmas.{same_got}
use Rattle.dr_bytes.specs.Numbers.{IsFault}
use Rattle.dr_bytes.proofs.FaultLemmas.{varint_got, varint_refused, is_fault, with_faults, same_varint_from}
use Rattle.dr_compact.specs.Reads.{IsFaultOf}
use Rattle.dr_compact.specs.declared.fault.CompactFault.{CompactFault as Fault}
use Rattle.dr_compact.specs.declared.fault.CompactFault.TheVariants as faults

-- ---- faults go on

fault_on : {A B : Type 0} (e : CompactFault) (r : Reading CompactFault A) (next : A → Reader CompactFault B) → IsFault e r → IsFault e (goes_on r next)
fault_on e (got a rest) next h = absurd h
fault_on e (refused f rest) next h = h

pub fault_then : {A B : Type 0} (e : Fault) (r : Reading CompactFault A) (next : A → Reader CompactFault B) → IsFaultOf e r → IsFaultOf e (goes_on r next)
fault_then faults.NoMemory r next h = h
fault_then faults.Malformed r next h = fault_on malformed r next h
fault_then faults.TooDeep r next h = fault_on _ r next h

-- what was read has a fault only for want of memory; any claim of one then says nothing
pub no_fault : {A B : Type 0} (e : Fault) (a : A) (rest : List ℕ) (r : Reading CompactFault B) → IsFaultOf e (got a rest) → IsFaultOf e r
no_fault faults.NoMemory a rest r h = h
no_fault faults.Malformed a rest r h = absurd h
no_fault faults.TooDeep a rest r h = absurd h

-- ---- numbers

any_malformed : VarintFault → CompactFault
any_malformed e = malformed

pub number_got : (bytes rest : List ℕ) (n : ℕ) → read_varint bytes ≡ got n rest → varint malformed malformed bytes ≡ got n rest
unfolding any_malformed
number_got bytes rest n h = varint_got any_malformed bytes rest n h

pub number_fault : (bytes : List ℕ) (e : VarintFault) → IsFault e (read_varint bytes) → IsFault malformed (varint malformed malformed bytes)
unfolding any_malformed
number_fault bytes e h = let v = varint_refused any_malformed bytes e h in is_fault malformed (varint malformed malformed bytes) v.0 v.1

-- ---- ids

abbrev pub id_number : List ℕ → Reading CompactFault ℕ
id_number = varint_below (2 ^ 16) malformed malformed

only_malformed : (r : Reading VarintFault ℕ) → ((n : ℕ) (rest : List ℕ) → with_faults any_malformed r ≡ got n rest → ⊥) → IsFault malformed (with_faults any_malformed r)
unfolding any_malformed
only_malformed (got n rest) h = h n rest refl
only_malformed (refused e rest) h = refl

id_refused : (bytes : List ℕ) → ((n : ℕ) (rest : List ℕ) → id_number bytes ≡ got n rest → ⊥) → IsFault malformed (id_number bytes)
unfolding any_malformed
id_refused bytes h =
    let e = same_varint_from any_malformed (2 ^ 16) 9 0 1 bytes in
    subst (IsFault malformed) e (only_malformed (varint_from varint_short varint_too_long (2 ^ 16) 9 0 1 bytes) (λ n rest g. h n rest (sym e ∙ g)))

id_is_number : (bytes rest : List ℕ) (n : ℕ) → id_number bytes ≡ got n rest → (n < 2 ^ 16) × (varint malformed malformed bytes ≡ got n rest)
id_is_number bytes rest n h =
    let p = sound_below (2 ^ 16) malformed malformed bytes n rest h in
    let s = p.2 in
    let w : SpellsVarint (2 ^ 64) p.0 n = (s.0, s.1, s.2, omega (arith, s.3)) in
    (s.3, ap (varint malformed malformed) p.1 ∙ varint_reads (2 ^ 64) malformed malformed p.0 n w rest)

number_is_id : (bytes rest : List ℕ) (n : ℕ) → n < 2 ^ 16 → varint malformed malformed bytes ≡ got n rest → id_number bytes ≡ got n rest
number_is_id bytes rest n l h =
    let p = sound_below (2 ^ 64) malformed malformed bytes n rest h in
    let s = p.2 in
    let w : SpellsVarint (2 ^ 16) p.0 n = (s.0, s.1, s.2, l) in
    ap id_number p.1 ∙ varint_reads (2 ^ 16) malformed malformed p.0 n w rest

pub id_got : (bytes rest : List ℕ) (n : ℕ) → n < 2 ^ 16 → varint malformed malformed bytes ≡ got n rest → field_id bytes ≡ got (from_zigzag n) rest
id_got bytes rest n l h = ap (λ r. goes_on r (λ n. give (from_zigzag n))) (number_is_id bytes rest n l h)

id_fault : (bytes : List ℕ) → IsFault malformed (id_number bytes) → IsFault malformed (field_id bytes)
id_fault bytes h = fault_on malformed (id_number bytes) (λ n. give (from_zigzag n)) h

pub id_too_great : (bytes rest : List ℕ) (n : ℕ) → 2 ^ 16 ≤ n → varint malformed malformed bytes ≡ got n rest → IsFault malformed (field_id bytes)
id_too_great bytes rest n l h = id_fault bytes (id_refused bytes (λ m q g.
    let p = id_is_number bytes q m g in
    let e : n ≡ m = (same_got {E = CompactFault} n m rest q (sym h ∙ p.1)).0 in
    omega (arith, l, p.0, e)))

not_got : (r : Reading CompactFault ℕ) (e : CompactFault) (n : ℕ) (rest : List ℕ) → IsFault e r → r ≡ got n rest → ⊥
not_got r e n rest h g = subst (IsFault e) g h

no_id : (bytes : List ℕ) (e : CompactFault) → IsFault e (varint malformed malformed bytes) → IsFault malformed (field_id bytes)
no_id bytes e h = id_fault bytes (id_refused bytes (λ m q g. not_got (varint malformed malformed bytes) e m q h (id_is_number bytes q m g).1))

all_malformed : (bytes : List ℕ) (e : CompactFault) → IsFault e (varint malformed malformed bytes) → malformed ≡ e
unfolding any_malformed
all_malformed bytes e h = at_refused (varint_from varint_short varint_too_long (2 ^ 64) 9 0 1 bytes) (subst (IsFault e) (sym (same_varint_from any_malformed (2 ^ 64) 9 0 1 bytes)) h)
  where
    at_refused : (r : Reading VarintFault ℕ) → IsFault e (with_faults any_malformed r) → malformed ≡ e
    at_refused (got n rest) g = absurd g
    at_refused (refused f rest) g = g

-- where there is no number there is no id, with the same fault
pub id_fault_of : (bytes : List ℕ) (e : Fault) → IsFaultOf e (varint malformed malformed bytes) → IsFaultOf e (field_id bytes)
id_fault_of bytes faults.NoMemory h = h
id_fault_of bytes faults.Malformed h = no_id bytes malformed h
id_fault_of bytes faults.TooDeep h = let e = all_malformed bytes _ h in absurd (cc)
