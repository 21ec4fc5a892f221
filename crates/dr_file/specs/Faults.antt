-- Faults of what a file is opened with, as those of opening.
use Rattle.dr_compact.specs.declared.fault.CompactFault.{CompactFault}
use Rattle.dr_meta.specs.declared.fault.MetaFault.{MetaFault}
use Rattle.dr_file.specs.declared.frame.FooterFault.{FooterFault}
use Rattle.dr_file.specs.declared.fault.OpenFault.{OpenFault}

abbrev pub footer_fault : FooterFault → OpenFault
footer_fault FooterFault.NoMemory = OpenFault.NoMemory
footer_fault FooterFault.Failed = OpenFault.Failed
footer_fault FooterFault.BadFooter = OpenFault.BadFooter

abbrev pub compact_fault : CompactFault → OpenFault
compact_fault CompactFault.NoMemory = OpenFault.NoMemory
compact_fault CompactFault.Malformed = OpenFault.BadFooter
compact_fault CompactFault.TooDeep = OpenFault.BadFooter

abbrev pub meta_fault : MetaFault → OpenFault
meta_fault MetaFault.NoMemory = OpenFault.NoMemory
meta_fault (MetaFault.Missing i) = OpenFault.BadFooter
meta_fault (MetaFault.Range i) = OpenFault.BadFooter
