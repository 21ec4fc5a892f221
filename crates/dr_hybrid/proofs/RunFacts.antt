-- What runs hold, and what follows of an answer.
use Rattle.std.proofs.Common.{◌≡◌, ℕ, ◌*◌, ◌%◌, ◌^◌, ◌≤◌, length, sym, ap, arith, pow_mono, Result, Ok, Err, OnErr}
use Rattle.dr_formats.specs.LittleEndian.{bytes_for}
use Rattle.dr_hybrid.specs.declared.runs.Packed.{Packed}
use Rattle.dr_hybrid.specs.declared.runs.Run.{Run}
use Rattle.dr_hybrid.specs.Views.{values_of, packed_values, IsOfWidth, IsWithin}
use Rattle.dr_bytes.proofs.BitLemmas.{length_unpacked}

pub packed_count : (r : Run) (p : Packed) → r ≡ Run.Packed p → p.count ≡ length (values_of r)
packed_count r p e = rw e (sym (length_unpacked p.count p.width _))

pub packed_is : (r : Run) (p : Packed) → r ≡ Run.Packed p → packed_values p ≡ values_of r
packed_is r p e = sym (ap values_of e)

pub on_err : {T E : Type 0} (r : Result T E) (P : Type 0) → P → OnErr r P
on_err (Ok x) P h = tt
on_err (Err e) P h = h

pub on_err_by : {T E : Type 0} (r : Result T E) (P Q : Type 0) → OnErr r P → (P → Q) → OnErr r Q
on_err_by (Ok x) P Q h f = tt
on_err_by (Err e) P Q h f = f h

-- a run of a width is within any greater one of whole bytes
pub is_within : (w b : ℕ) (r : Run) → w ≤ b → b % 8 ≡ 0 → IsOfWidth w r → IsWithin b r
is_within w b (Run.Repeat v n) h m k =
    let e : 8 * bytes_for w ≤ b = omega (arith, h, m) in
    let f : 2 ^ (8 * bytes_for w) ≤ 2 ^ b = pow_mono e in
    omega (arith, k, f)
is_within w b (Run.Packed p) h m k = omega (arith, k, h)
