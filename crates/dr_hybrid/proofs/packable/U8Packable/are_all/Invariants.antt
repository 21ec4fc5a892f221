use Rattle.std.proofs.Common.{◌≡◌, ◌==◌, true, drop}
use Rattle.std.specs.List.{list_all}
use Rattle.dr_hybrid.proofs.packable.U8Packable.are_all.Given as goal

-- where none has been another one, those that are left tell of all
abbrev pub invariant-values : goal.invariant-values
invariant-values l = l.same ≡ true → list_all (λ n. n == l.value) (drop l.found-index l.values) ≡ list_all (λ n. n == l.value) l.values
