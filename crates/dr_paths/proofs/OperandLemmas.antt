-- The levels of expressions with two operands.
use Rattle.std.specs.Prelude.{◌≡◌, List, Box}
use Rattle.std.specs.declared.alloc.Global.{Global}
use Rattle.std.proofs.Common.{rules, sym, ap, ap₂, ◌∙◌}
use Rattle.dr_meaning.specs.Path.{Step, Leaf, longer}
use Rattle.dr_meaning.specs.Expression.{Expression, plus, minus, times, arithmetic, comparison, conjunction, disjunction, expression_chain}
use Rattle.dr_plan.specs.Views.{number_view, text_view, truth_view, comparison_view}
use Rattle.dr_plan.specs.declared.expression.Comparison.{Comparison}
use Rattle.dr_plan.specs.declared.expression.Number as numbers
use Rattle.dr_plan.specs.declared.expression.Number.TheVariants as number_variants
use Rattle.dr_plan.specs.declared.expression.TextOf as texts
use Rattle.dr_plan.specs.declared.expression.TextOf.TheVariants as text_variants
use Rattle.dr_plan.specs.declared.expression.Truth as truths
use Rattle.dr_plan.specs.declared.expression.Truth.TheVariants as truth_variants
use Rattle.dr_paths.proofs.LongestLemmas.{chain_of_both}

-- the longer of the operands' levels
pub of_operands : (e a b : Expression) (p q r : List Step) → expression_chain e ≡ longer (expression_chain a) (expression_chain b) → p ≡ expression_chain a → q ≡ expression_chain b → r ≡ longer p q → r ≡ expression_chain e
of_operands e a b p q r h f g d = d ∙ ap₂ longer f g ∙ sym h

pub level-add : (ls : List Leaf) (e : numbers.Number) (a b : Box numbers.Number Global) → e ≡ number_variants.Add a b → expression_chain (number_view ls e) ≡ longer (expression_chain (number_view ls a.value)) (expression_chain (number_view ls b.value))
level-add ls e a b h =
    let d : number_view ls (number_variants.Add a b) ≡ arithmetic plus (number_view ls a.value) (number_view ls b.value) = search (rules, numbers.the_lemmas) in
    ap (λ (x : numbers.Number). expression_chain (number_view ls x)) h ∙ ap expression_chain d ∙ chain_of_both (number_view ls a.value) (number_view ls b.value)

pub level-subtract : (ls : List Leaf) (e : numbers.Number) (a b : Box numbers.Number Global) → e ≡ number_variants.Subtract a b → expression_chain (number_view ls e) ≡ longer (expression_chain (number_view ls a.value)) (expression_chain (number_view ls b.value))
level-subtract ls e a b h =
    let d : number_view ls (number_variants.Subtract a b) ≡ arithmetic minus (number_view ls a.value) (number_view ls b.value) = search (rules, numbers.the_lemmas) in
    ap (λ (x : numbers.Number). expression_chain (number_view ls x)) h ∙ ap expression_chain d ∙ chain_of_both (number_view ls a.value) (number_view ls b.value)

pub level-multiply : (ls : List Leaf) (e : numbers.Number) (a b : Box numbers.Number Global) → e ≡ number_variants.Multiply a b → expression_chain (number_view ls e) ≡ longer (expression_chain (number_view ls a.value)) (expression_chain (number_view ls b.value))
level-multiply ls e a b h =
    let d : number_view ls (number_variants.Multiply a b) ≡ arithmetic times (number_view ls a.value) (number_view ls b.value) = search (rules, numbers.the_lemmas) in
    ap (λ (x : numbers.Number). expression_chain (number_view ls x)) h ∙ ap expression_chain d ∙ chain_of_both (number_view ls a.value) (number_view ls b.value)

pub level-join : (ls : List Leaf) (e : texts.TextOf) (a b : Box texts.TextOf Global) → e ≡ text_variants.Join a b → expression_chain (text_view ls e) ≡ longer (expression_chain (text_view ls a.value)) (expression_chain (text_view ls b.value))
level-join ls e a b h =
    let d : text_view ls (text_variants.Join a b) ≡ arithmetic plus (text_view ls a.value) (text_view ls b.value) = search (rules, texts.the_lemmas) in
    ap (λ (x : texts.TextOf). expression_chain (text_view ls x)) h ∙ ap expression_chain d ∙ chain_of_both (text_view ls a.value) (text_view ls b.value)

pub level-and : (ls : List Leaf) (e : truths.Truth) (a b : Box truths.Truth Global) → e ≡ truth_variants.And a b → expression_chain (truth_view ls e) ≡ longer (expression_chain (truth_view ls a.value)) (expression_chain (truth_view ls b.value))
level-and ls e a b h =
    let d : truth_view ls (truth_variants.And a b) ≡ conjunction (truth_view ls a.value) (truth_view ls b.value) = search (rules, truths.the_lemmas) in
    ap (λ (x : truths.Truth). expression_chain (truth_view ls x)) h ∙ ap expression_chain d ∙ chain_of_both (truth_view ls a.value) (truth_view ls b.value)

pub level-or : (ls : List Leaf) (e : truths.Truth) (a b : Box truths.Truth Global) → e ≡ truth_variants.Or a b → expression_chain (truth_view ls e) ≡ longer (expression_chain (truth_view ls a.value)) (expression_chain (truth_view ls b.value))
level-or ls e a b h =
    let d : truth_view ls (truth_variants.Or a b) ≡ disjunction (truth_view ls a.value) (truth_view ls b.value) = search (rules, truths.the_lemmas) in
    ap (λ (x : truths.Truth). expression_chain (truth_view ls x)) h ∙ ap expression_chain d ∙ chain_of_both (truth_view ls a.value) (truth_view ls b.value)

pub level-truths : (ls : List Leaf) (e : truths.Truth) (k : Comparison) (a b : Box truths.Truth Global) → e ≡ truth_variants.Truths k a b → expression_chain (truth_view ls e) ≡ longer (expression_chain (truth_view ls a.value)) (expression_chain (truth_view ls b.value))
level-truths ls e k a b h =
    let d : truth_view ls (truth_variants.Truths k a b) ≡ comparison (comparison_view k) (truth_view ls a.value) (truth_view ls b.value) = search (rules, truths.the_lemmas) in
    ap (λ (x : truths.Truth). expression_chain (truth_view ls x)) h ∙ ap expression_chain d ∙ chain_of_both (truth_view ls a.value) (truth_view ls b.value)

pub level-numbers : (ls : List Leaf) (e : truths.Truth) (k : Comparison) (a b : numbers.Number) → e ≡ truth_variants.Numbers k a b → expression_chain (truth_view ls e) ≡ longer (expression_chain (number_view ls a)) (expression_chain (number_view ls b))
level-numbers ls e k a b h =
    let d : truth_view ls (truth_variants.Numbers k a b) ≡ comparison (comparison_view k) (number_view ls a) (number_view ls b) = search (rules, truths.the_lemmas) in
    ap (λ (x : truths.Truth). expression_chain (truth_view ls x)) h ∙ ap expression_chain d ∙ chain_of_both (number_view ls a) (number_view ls b)

pub level-texts : (ls : List Leaf) (e : truths.Truth) (k : Comparison) (a b : texts.TextOf) → e ≡ truth_variants.Texts k a b → expression_chain (truth_view ls e) ≡ longer (expression_chain (text_view ls a)) (expression_chain (text_view ls b))
level-texts ls e k a b h =
    let d : truth_view ls (truth_variants.Texts k a b) ≡ comparison (comparison_view k) (text_view ls a) (text_view ls b) = search (rules, truths.the_lemmas) in
    ap (λ (x : truths.Truth). expression_chain (truth_view ls x)) h ∙ ap expression_chain d ∙ chain_of_both (text_view ls a) (text_view ls b)
