use Rattle.std.proofs.Common.{◌≡◌, ◌++◌, map, drop, string_bytes}
use Rattle.dr_rewrite.specs.Lists.{further_commas}
use Rattle.dr_rewrite.proofs.lists.push_further.Given as goal

-- the texts that are left are still to come
abbrev pub invariant-texts : goal.invariant-texts
invariant-texts l = string_bytes l.out ++ further_commas (map string_bytes (drop l.text-index l.texts)) ≡ string_bytes l.fn.out ++ further_commas (map string_bytes l.texts)
