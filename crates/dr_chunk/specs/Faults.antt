-- Faults of what chunks are read with, as those of headers and chunks.
use Rattle.dr_compact.specs.declared.fault.CompactFault.{CompactFault}
use Rattle.dr_meta.specs.declared.fault.MetaFault.{MetaFault}
use Rattle.dr_outside.specs.declared.fault.Fault.{Fault}
use Rattle.dr_page.specs.declared.fault.PageFault.{PageFault}
use Rattle.dr_chunk.specs.declared.header.HeaderFault.{HeaderFault}
use Rattle.dr_chunk.specs.declared.fault.ChunkFault.{ChunkFault}

abbrev pub compact_fault : CompactFault → HeaderFault
compact_fault CompactFault.NoMemory = HeaderFault.NoMemory
compact_fault CompactFault.Malformed = HeaderFault.NoStruct
compact_fault CompactFault.TooDeep = HeaderFault.NoStruct

abbrev pub meta_fault : MetaFault → HeaderFault
meta_fault MetaFault.NoMemory = HeaderFault.NoMemory
meta_fault (MetaFault.Missing i) = HeaderFault.NoHeader
meta_fault (MetaFault.Range i) = HeaderFault.NoHeader

abbrev pub outside_fault : Fault → ChunkFault
outside_fault Fault.Failed = ChunkFault.Failed
outside_fault Fault.NoMemory = ChunkFault.NoMemory

abbrev pub page_fault : PageFault → ChunkFault
page_fault PageFault.NoMemory = ChunkFault.NoMemory
page_fault PageFault.BadData = ChunkFault.BadData
