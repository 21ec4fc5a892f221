-- The object of what is kept of a record is the record's kept object.
use Rattle.std.specs.Prelude.{◌≡◌, List, [], ◌∷◌, Bool, true, Some}
use Rattle.dr_meaning.specs.Schema.{Fields}
use Rattle.dr_meaning.specs.Path.{Step}
use Rattle.dr_meaning.specs.Record.{Node, is_record}
use Rattle.dr_meaning.specs.Expression.{Expression, evaluate, expression_chain}
use Rattle.dr_meaning.specs.Kept.{kept_along}
use Rattle.dr_meaning.specs.Query.{RecordTerm, expression, within, RecordItem, Levels, record_object}
use Rattle.dr_kept_laws.specs.RowsOfKeptLaws.{IsOfChain}
use Rattle.dr_kept_laws.specs.ObjectsOfKept.{kept_object}

-- the expression of an item
abbrev pub term_expression : RecordTerm → Expression
term_expression (expression e) = e
term_expression (within a e node) = e

-- the leaves of each item's expression have their repeated fields on its longest chain
abbrev pub AreOfChains : Fields → List RecordItem → Type 0
AreOfChains fs [] = Unit {0}
AreOfChains fs (i ∷ is) = IsOfChain fs (expression_chain (term_expression i.term)) (evaluate (term_expression i.term)) × AreOfChains fs is

-- the object of what is kept of a record is told by the record
abbrev pub ObjectOfKept : Type 0
ObjectOfKept = (fs : Fields) (items : List RecordItem) (levels : Levels) (c : List Step) (test : Node → Bool) (n m : Node)
    → is_record fs n ≡ true → IsOfChain fs c test → AreOfChains fs items → kept_along c test n ≡ Some m
    → record_object items levels m ≡ kept_object c test items levels n
