use Rattle.std.proofs.Common.{◌≡◌, List, ℕ}
use Rattle.dr_formats.specs.Reading.{got}
use Rattle.dr_formats.specs.Plain.{repeatedly}
use Rattle.dr_bytes.specs.Cutting.{whole, left}
use Rattle.dr_plain.specs.FrontTexts.{text_bytes}
use Rattle.dr_plain.proofs.texts.front_texts.Given as goal

abbrev pub invariant-texts : goal.invariant-texts
invariant-texts l = record {
  same : whole l.cut ≡ l.bytes;
  read : (ts : List (List ℕ)) × (repeatedly text_bytes l.counter l.bytes ≡ got ts (left l.cut));
}
