-- A page header is read alike, whatever follows it.
use Rattle.std.proofs.Common.{◌≡◌, ℕ, ◌+◌, ◌≤◌, ◌<◌, List, ◌++◌, length, drop, Bool, true, false, refl, sym, ap, subst, ◌∙◌, arith, append_assoc}
use Rattle.std.specs.Prelude.{Option, Ok, Err, MatchOption, ⊤}
use Rattle.std.proofs.lemmas.List.{drop-append-le}
use Rattle.dr_formats.specs.Reading.{got, refused}
use Rattle.dr_formats.specs.Compact.{Struct, read_struct}
use Rattle.dr_formats.specs.Metadata as metadata
use Rattle.dr_formats.specs.Metadata.{PageHeader, view_page}
use Rattle.dr_formats.specs.Page.{bad_page}
use Rattle.dr_formats.specs.Chunk.{header_viewed, header_read, page_header}
use Rattle.dr_formats.proofs.GrammarSound.{struct_is_read_exactly}
use Rattle.dr_meta.specs.declared.fault.MetaFault.{MetaFault}
use Rattle.dr_meta.specs.Faults.{fault_view}
use Rattle.dr_outside.specs.Link.{Files, LinkShown}
use Rattle.dr_outside.specs.Telling.{Tells, TellsFile}
use Rattle.dr_chunk.specs.Faults.{meta_fault}
use Rattle.dr_chunk.specs.Headers.{IsRefused, IsHeaderFault}

-- a struct is read alike, whatever follows it
struct_goes_on : (bytes more : List ℕ) (n : ℕ) (s : Struct) → n ≤ length bytes → read_struct bytes ≡ got s (drop n bytes) → read_struct (bytes ++ more) ≡ got s (drop n (bytes ++ more))
struct_goes_on bytes more n s w h =
    let f = (struct_is_read_exactly bytes (drop n bytes) s).0 h in
    let e : bytes ++ more ≡ f.0 ++ drop n (bytes ++ more) =
    ap (λ bs. bs ++ more) f.1 ∙ (append_assoc f.0 (drop n bytes) more ∙ ap (λ bs. f.0 ++ bs) (sym (drop-append-le n bytes more w))) in
    (struct_is_read_exactly (bytes ++ more) (drop n (bytes ++ more)) s).1 (f.0, e, f.2)

-- and so is a page header
pub header_goes_on : (bytes more : List ℕ) (n : ℕ) (s : Struct) (h : PageHeader) → n ≤ length bytes → read_struct bytes ≡ got s (drop n bytes) → view_page s ≡ Ok h
    → page_header (bytes ++ more) ≡ got h (drop n (bytes ++ more))
header_goes_on bytes more n s h w r v = ap header_read (struct_goes_on bytes more n s w r) ∙ ap (header_viewed (drop n (bytes ++ more))) v

-- a struct that is no page header is none, whatever follows it
no_header : (bytes more : List ℕ) (n : ℕ) (s : Struct) (e : metadata.MetaFault) → n ≤ length bytes → read_struct bytes ≡ got s (drop n bytes) → view_page s ≡ Err e → IsRefused (page_header (bytes ++ more))
no_header bytes more n s e w r v =
    let q : page_header (bytes ++ more) ≡ refused bad_page (drop n (bytes ++ more)) = ap header_read (struct_goes_on bytes more n s w r) ∙ ap (header_viewed (drop n (bytes ++ more))) v in
    rw q tt

-- the fault of a struct that is no page header
pub view_fault : (bytes : List ℕ) (n : ℕ) (s : Struct) (e : MetaFault) → n ≤ length bytes → read_struct bytes ≡ got s (drop n bytes) → MatchOption (fault_view e) ⊤ (λ f. view_page s ≡ Err f)
    → IsHeaderFault (meta_fault e) bytes
view_fault bytes n s MetaFault.NoMemory w r v = tt
view_fault bytes n s (MetaFault.Missing i) w r v = λ more. no_header bytes more n s (metadata.missing i) w r v
view_fault bytes n s (MetaFault.Range i) w r v = λ more. no_header bytes more n s (metadata.out_of_range i) w r v

-- what the link told before is told still
pub tells_same : (a b : LinkShown) (p q bytes : List ℕ) → b.held ≡ a.held → q ≡ p → Tells a p bytes → Tells b q bytes
tells_same a b p q bytes h e t =
    let P : Option Files → Type 0 = λ o. TellsFile o q bytes in
    let Q : List ℕ → Type 0 = λ r. TellsFile a.held r bytes in
    subst P (sym h) (subst Q (sym e) t)

-- where all that is left was to be read ahead, nothing is left behind it
pub none_behind : (some : Bool) (count p m left : ℕ) → (some ≡ true → count ≤ p) → (some ≡ false → left < count) → p + m ≡ left → count ≡ left → m ≡ 0
none_behind true count p m left e s h c = let q : count ≤ p = e refl in omega arith
none_behind false count p m left e s h c = let q : left < count = s refl in omega arith
