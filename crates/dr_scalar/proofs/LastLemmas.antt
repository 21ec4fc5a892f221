-- The greatest of several numbers, and the leaf that is read last.
use Rattle.std.proofs.Common.{◌≡◌, ◌<◌, ◌+◌, ℕ, List, [], ◌∷◌, ◌++◌, length, take, get_or, Option, Some, None, refl, sym, ap, ◌∙◌, arith, rules, append-nil}
use Rattle.std.specs.Prelude.{Box}
use Rattle.std.specs.declared.alloc.Global.{Global}
use Rattle.std.proofs.lemmas.List.{take_more}
use Rattle.std.proofs.lemmas.List.Concat.{flat_map-append}
use Rattle.dr_plan.specs.declared.expression.Comparison.{Comparison}
use Rattle.dr_plan.specs.declared.expression.Number as numbers
use Rattle.dr_plan.specs.declared.expression.Number.{Number}
use Rattle.dr_plan.specs.declared.expression.Number.TheVariants as number_variants
use Rattle.dr_plan.specs.declared.expression.TextOf as texts
use Rattle.dr_plan.specs.declared.expression.TextOf.{TextOf}
use Rattle.dr_plan.specs.declared.expression.TextOf.TheVariants as text_variants
use Rattle.dr_plan.specs.declared.expression.Truth as truths
use Rattle.dr_plan.specs.declared.expression.Truth.{Truth}
use Rattle.dr_plan.specs.declared.expression.Truth.TheVariants as truth_variants
use Rattle.dr_scalar.specs.Leaves.{number_leaves, text_leaves, truth_leaves, tests_leaves, greater, greatest}

greater_assoc : (a b c : Option ℕ) → greater a (greater b c) ≡ greater (greater a b) c
greater_assoc None b c = refl
greater_assoc (Some a) None c = refl
greater_assoc (Some a) (Some b) None = refl
greater_assoc (Some a) (Some b) (Some c) = ap Some (omega arith)

pub greatest_append : (ks js : List ℕ) → greatest (ks ++ js) ≡ greater (greatest ks) (greatest js)
greatest_append [] js = refl
greatest_append (k ∷ ks) js = ap (greater (Some k)) (greatest_append ks js) ∙ greater_assoc (Some k) (greatest ks) (greatest js)

-- of the tests up to one and of this one
pub last_more : (ts : List Truth) (i : ℕ) (t : Truth) → i < length ts → t ≡ get_or ts i t
    → greatest (tests_leaves (take (i + 1) ts)) ≡ greater (greatest (tests_leaves (take i ts))) (greatest (truth_leaves t))
last_more ts i t h e =
    ap (λ us. greatest (tests_leaves us)) (take_more ts i t h ∙ ap (λ u. take i ts ++ u ∷ []) (sym e))
    ∙ (ap greatest (flat_map-append truth_leaves (take i ts) (t ∷ []) ∙ ap (λ ks. tests_leaves (take i ts) ++ ks) (append-nil (truth_leaves t)))
    ∙ greatest_append (tests_leaves (take i ts)) (truth_leaves t))

-- ---- operators of two operands

pub leaves-add : (a b : Box Number Global) → number_leaves (number_variants.Add a b) ≡ number_leaves a.value ++ number_leaves b.value
leaves-add a b = search (rules, numbers.the_lemmas)

pub leaves-subtract : (a b : Box Number Global) → number_leaves (number_variants.Subtract a b) ≡ number_leaves a.value ++ number_leaves b.value
leaves-subtract a b = search (rules, numbers.the_lemmas)

pub leaves-multiply : (a b : Box Number Global) → number_leaves (number_variants.Multiply a b) ≡ number_leaves a.value ++ number_leaves b.value
leaves-multiply a b = search (rules, numbers.the_lemmas)

pub leaves-join : (a b : Box TextOf Global) → text_leaves (text_variants.Join a b) ≡ text_leaves a.value ++ text_leaves b.value
leaves-join a b = search (rules, texts.the_lemmas)

pub leaves-and : (a b : Box Truth Global) → truth_leaves (truth_variants.And a b) ≡ truth_leaves a.value ++ truth_leaves b.value
leaves-and a b = search (rules, truths.the_lemmas)

pub leaves-or : (a b : Box Truth Global) → truth_leaves (truth_variants.Or a b) ≡ truth_leaves a.value ++ truth_leaves b.value
leaves-or a b = search (rules, truths.the_lemmas)

pub leaves-truths : (c : Comparison) (a b : Box Truth Global) → truth_leaves (truth_variants.Truths c a b) ≡ truth_leaves a.value ++ truth_leaves b.value
leaves-truths c a b = search (rules, truths.the_lemmas)

pub leaves-numbers : (c : Comparison) (a b : Number) → truth_leaves (truth_variants.Numbers c a b) ≡ number_leaves a ++ number_leaves b
leaves-numbers c a b = search (rules, truths.the_lemmas)

pub leaves-texts : (c : Comparison) (a b : TextOf) → truth_leaves (truth_variants.Texts c a b) ≡ text_leaves a ++ text_leaves b
leaves-texts c a b = search (rules, truths.the_lemmas)

pub ruleset number_operands = (leaves-add, leaves-subtract, leaves-multiply, greatest_append)

pub ruleset text_operands = (leaves-join, greatest_append)

pub ruleset truth_operands = (leaves-and, leaves-or, leaves-truths, leaves-numbers, leaves-texts, greatest_append)
