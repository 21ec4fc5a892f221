-- What faults stand for.
use Rattle.std.specs.Prelude.{◌≡◌, Option, Some, None, Result, Ok, Err, MatchOption, ⊤}
use Rattle.dr_formats.specs.Metadata as metadata
use Rattle.dr_meta.specs.declared.fault.MetaFault.{MetaFault}

-- want of memory stands for no fault of the definitions
abbrev pub fault_view : MetaFault → Option metadata.MetaFault
fault_view MetaFault.NoMemory = None
fault_view (MetaFault.Missing i) = Some (metadata.missing i)
fault_view (MetaFault.Range i) = Some (metadata.out_of_range i)

-- the answer is what the definition gives: its value, or its first fault; want of memory may come in place of either
abbrev pub Gives : {A B : Type 0} → (A → B) → Result B metadata.MetaFault → Result A MetaFault → Type 0
Gives see meant (Ok a) = meant ≡ Ok (see a)
Gives see meant (Err e) = MatchOption (fault_view e) ⊤ (λ f. meant ≡ Err f)
