-- What a keeper is asked to put, computed.
use Rattle.std.proofs.Common.{◌≡◌, ℕ, List, [], ◌∷◌, ◌++◌, length, refl, ap, arith, Some, None, true, false}
use Rattle.std.specs.Prelude.{codes}
use Rattle.std.specs.declared.option.Option.{Option}
use Rattle.dr_formats.specs.Loading.{Put}
use Rattle.dr_outside.specs.Link.{PutShown}
use Rattle.dr_load.specs.Puts.{shown, AsksPuts, if_told}

abbrev a : Put
a = record { path = codes "a"; bytes = codes "1" }

abbrev b : Put
b = record { path = codes "b"; bytes = codes "22" }

-- exactly these, in this order, behind what was asked before
pub asked : AsksPuts (a ∷ b ∷ []) (Some []) (Some (shown (a ∷ b ∷ []))) × AsksPuts (b ∷ []) (Some (shown (a ∷ []))) (Some (shown (a ∷ b ∷ []))) × AsksPuts [] (Some (shown (a ∷ []))) (Some (shown (a ∷ [])))
asked = (refl, refl, refl)

-- not one of them twice, and none less
pub asked_otherwise : (AsksPuts (a ∷ []) (Some []) (Some (shown (a ∷ a ∷ []))) → ⊥) × (AsksPuts (a ∷ b ∷ []) (Some []) (Some (shown (a ∷ []))) → ⊥) × (AsksPuts [] (Some (shown (a ∷ []))) (Some []) → ⊥)
asked_otherwise = (λ h. cc, λ h. cc, λ h. cc)

abbrev first_length : Option (List PutShown) → ℕ
first_length None = 0
first_length (Some []) = 0
first_length (Some (p ∷ ps)) = length p.bytes

-- nor in another order
pub asked_in_reverse : AsksPuts (a ∷ b ∷ []) (Some []) (Some (shown (b ∷ a ∷ []))) → ⊥
asked_in_reverse h = let e : 2 ≡ 1 = ap first_length h in absurd (omega (arith, e))

-- nothing is said of a keeper that doesn't tell, but that it doesn't begin to
pub asked_untold : AsksPuts (a ∷ []) None None × (AsksPuts [] None (Some []) → ⊥)
asked_untold = (refl, λ h. cc)

-- a put that failed is told, unless memory was wanting for it
pub failed : ((a ∷ []) ++ if_told true b ≡ a ∷ b ∷ []) × ((a ∷ []) ++ if_told false b ≡ a ∷ [])
failed = (refl, refl)
