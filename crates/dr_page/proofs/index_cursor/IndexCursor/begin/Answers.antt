use Rattle.std.proofs.Common.{◌≡◌, ℕ, List, [], ◌∷◌, ◌∙◌, refl, sym, subst, arith}
use Rattle.dr_page.specs.RunReading.{HasRead}
use Rattle.dr_page.proofs.RunSteps.{none_read}
use Rattle.dr_page.proofs.index_cursor.IndexCursor.begin.Goals as goal
use Rattle.dr_page.proofs.index_cursor.IndexCursor.begin.Goals.{in-Some, in-None}

same_first : (v w : ℕ) (xs us bs : List ℕ) → xs ≡ v ∷ us → xs ≡ w ∷ bs → v ≡ w
same_first v w xs us bs e f = let g : v ∷ us ≡ w ∷ bs = sym e ∙ f in cc

pub returns : goal.returns
returns c = record {
  front = refl;
  runs = λ w bs e l. elim c.match-index_runs.branch [
    | in-Some b ↦ subst (λ (k : ℕ). HasRead k bs [] c.start-self.result) (b.width-is ∙ same_first _ w c.args.bytes.now _ bs b.in-Some.ensures.some.0 e) (none_read _ bs c.start-self.result c.start-self.ensures.ahead)
    | in-None b ↦ absurd (omega (arith, b.in-None.ensures.none w bs e, l))
  ];
}
