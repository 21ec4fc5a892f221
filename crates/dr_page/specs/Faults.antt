-- Faults of values, as those of pages.
use Rattle.dr_plain.specs.declared.values.PlainFault.{PlainFault}
use Rattle.dr_page.specs.declared.fault.PageFault.{PageFault}

abbrev pub page_fault : PlainFault → PageFault
page_fault PlainFault.NoMemory = PageFault.NoMemory
page_fault PlainFault.Short = PageFault.BadData
page_fault PlainFault.BadText = PageFault.BadData
