-- The rules of a query above its paths and operators.
use Rattle.std.specs.Prelude.{◌≡◌, ◌++◌, List, [], map, Bool, ◌||◌, Option}
use Rattle.std.specs.List.{flat_map, list_any}
use Rattle.dr_meaning.specs.Schema.{Fields}
use Rattle.dr_meaning.specs.Path.{Leaf}
use Rattle.dr_meaning.specs.Query.{Levels, levels_of}
use Rattle.dr_meaning.specs.BoundExpression as meant
use Rattle.dr_meaning.specs.BoundExpression.{BindFault, Checked, passes, fails, unrelated, fault_at, unrelated_among}
use Rattle.dr_meaning.specs.Binding as binding
use Rattle.dr_meaning.specs.Binding.{has_name_of, has_name_of_list, where_passed}
use Rattle.dr_nested.specs.PathView.{step_view}
use Rattle.dr_paths.specs.Related.{Spans, joined_before}
use Rattle.dr_paths.specs.Views.{bound_path_view}
use Rattle.dr_paths.specs.declared.bound.BoundPath.{BoundPath}
use Rattle.dr_resolve.specs.Faults.{Notes}
use Rattle.dr_resolve.specs.Items.{AreExpressions, AreItems, IsItem}
use Rattle.dr_resolve.specs.Parts.{AreParts}
use Rattle.dr_resolve.specs.declared.bound.BoundExpression.{BoundExpression}
use Rattle.dr_resolve.specs.declared.bound.BoundItem.{BoundItem}
use Rattle.dr_resolve.specs.declared.bound.BoundParts.{BoundParts}
use Rattle.dr_resolve.specs.declared.fault.FirstFault.{FirstFault}
use Rattle.dr_planning.specs.NamedLevels.{NamedLevels, joined}
use Rattle.dr_planning.specs.declared.rules.KeyChain.{KeyChain}

-- keys as the definitions bind them
abbrev pub Keys : Type 0
Keys = Checked (List meant.BoundPath)

-- what keys that pass say of paths behind them: their longest chain, or the place of the first that isn't related to an earlier one
abbrev pub IsChain : Keys → KeyChain → Type 0
IsChain (passes ks) KeyChain.Unbound = ⊥
IsChain (passes ks) (KeyChain.Related l) = (unrelated_among ks ≡ []) × Spans (joined_before [] ks) (map step_view l.now)
IsChain (passes ks) (KeyChain.Unrelated i) = unrelated_among ks ≡ fault_at i unrelated
IsChain (fails e es) KeyChain.Unbound = Unit {0}
IsChain (fails e es) (KeyChain.Related l) = ⊥
IsChain (fails e es) (KeyChain.Unrelated i) = ⊥

-- whether an item has the name of one of these earlier ones, or of a list that leads to one of all
abbrev pub name_taken : Levels → Bool → List binding.BoundItem → List binding.BoundItem → binding.BoundItem → Bool
name_taken ls b all before i = list_any (has_name_of b i) before || list_any (has_name_of_list ls b i) all

-- ---- faults of paths

-- among the paths of the condition
abbrev pub unrelated_in_condition : Checked (Option meant.BoundExpression) → List BindFault
unrelated_in_condition c = where_passed (λ (o : Option meant.BoundExpression). unrelated_among (binding.paths_of_condition o)) c

-- among the keys and these paths behind them
abbrev pub unrelated_behind_keys : List meant.BoundPath → Keys → List BindFault
unrelated_behind_keys qs ks = where_passed (λ (ps : List meant.BoundPath). unrelated_among (ps ++ qs)) ks

-- of each item
abbrev pub unrelated_in_items : Keys → List binding.BoundItem → List BindFault
unrelated_in_items ks bs = flat_map (λ (i : binding.BoundItem). binding.unrelated_in_term ks i.term) bs

-- behind whatever keys a chain tells of, those of whatever arguments these stand for are noted
abbrev pub NotesUnrelatedArguments : KeyChain → List BoundExpression → FirstFault → FirstFault → Type 0
NotesUnrelatedArguments chain xs before now = (fs : Fields) (ls : List Leaf) (ks : Keys) (bs : List meant.BoundExpression) → IsChain ks chain → AreExpressions fs ls bs xs
    → Notes (flat_map (binding.unrelated_behind ks) bs) before now

-- ---- faults of items by themselves

abbrev pub within_in_items : List binding.BoundItem → List BindFault
within_in_items bs = flat_map (λ (i : binding.BoundItem). binding.within_faults i.term) bs

-- beside these keys, whatever item this stands for, it is noted where it has no term in an aggregate query
abbrev pub NotesUngroupedItem : List BoundPath → BoundItem → FirstFault → FirstFault → Type 0
NotesUngroupedItem keys x before now = (fs : Fields) (ls : List Leaf) (ks : List meant.BoundPath) (b : binding.BoundItem) → IsItem fs ls b x → map bound_path_view keys ≡ ks
    → Notes (binding.grouping_faults ks b) before now

-- beside these keys, whatever items these stand for, those that have no term in an aggregate query are noted
abbrev pub NotesUngrouped : List BoundPath → List BoundItem → FirstFault → FirstFault → Type 0
NotesUngrouped keys xs before now = (fs : Fields) (ls : List Leaf) (ks : List meant.BoundPath) (bs : List binding.BoundItem) → AreItems fs ls bs xs → map bound_path_view keys ≡ ks
    → Notes (flat_map (binding.grouping_faults ks) bs) before now

-- ---- names of one object

-- whether an item has the name of one of some others of its object, whatever they stand for
abbrev pub TellsItemName : Bool → BoundItem → List BoundItem → Bool → Type 0
TellsItemName b x others told = (fs : Fields) (ls : List Leaf) (i : binding.BoundItem) (ds : List binding.BoundItem) → IsItem fs ls i x → AreItems fs ls ds others
    → told ≡ list_any (has_name_of b i) ds

-- whether an item has the name of a list of its object that leads to another item, whatever they stand for
abbrev pub TellsListName : NamedLevels → Bool → BoundItem → BoundItem → Bool → Type 0
TellsListName levels b x other told = (fs : Fields) (ls : List Leaf) (tree : Levels) (i d : binding.BoundItem) → levels ≡ joined tree → IsItem fs ls i x → IsItem fs ls d other
    → told ≡ has_name_of_list tree b i d

-- whether it has that of a list that leads to one of some others
abbrev pub TellsListNames : NamedLevels → Bool → BoundItem → List BoundItem → Bool → Type 0
TellsListNames levels b x others told = (fs : Fields) (ls : List Leaf) (tree : Levels) (i : binding.BoundItem) (ds : List binding.BoundItem) → levels ≡ joined tree → IsItem fs ls i x
    → AreItems fs ls ds others → told ≡ list_any (has_name_of_list tree b i) ds

-- whether it has the name of one of the items before it, or of a list that leads to one of all
abbrev pub TellsTaken : NamedLevels → Bool → BoundItem → List BoundItem → List BoundItem → Bool → Type 0
TellsTaken levels b x before all told = (fs : Fields) (ls : List Leaf) (tree : Levels) (i : binding.BoundItem) (ds bs : List binding.BoundItem) → levels ≡ joined tree → IsItem fs ls i x
    → AreItems fs ls ds before → AreItems fs ls bs all → told ≡ name_taken tree b bs ds i

-- an item whose name is taken is noted
abbrev pub NotesTaken : NamedLevels → Bool → BoundItem → List BoundItem → List BoundItem → FirstFault → FirstFault → Type 0
NotesTaken levels b x before all old now = (fs : Fields) (ls : List Leaf) (tree : Levels) (i : binding.BoundItem) (ds bs : List binding.BoundItem) → levels ≡ joined tree → IsItem fs ls i x
    → AreItems fs ls ds before → AreItems fs ls bs all → Notes (binding.name_faults tree b bs ds i) old now

-- each item whose name is taken is noted
abbrev pub NotesDuplicates : NamedLevels → Bool → List BoundItem → FirstFault → FirstFault → Type 0
NotesDuplicates levels b xs before now = (fs : Fields) (ls : List Leaf) (tree : Levels) (bs : List binding.BoundItem) → levels ≡ joined tree → AreItems fs ls bs xs
    → Notes (binding.duplicate_faults tree b bs) before now

-- ---- all rules

-- of paths, of items by themselves, and of their names
abbrev pub rule_faults : Levels → binding.BoundParts → List BindFault
rule_faults levels b = binding.unrelated_faults b ++ (binding.item_faults b ++ binding.duplicate_faults levels b.is_record_query (binding.passing b.items))

-- whatever parts of a query over a schema of these levels these stand for, the faults of all rules above paths and operators are noted
abbrev pub NotesRules : NamedLevels → BoundParts → FirstFault → FirstFault → Type 0
NotesRules levels p before now = (fs : Fields) (ls : List Leaf) (b : binding.BoundParts) → AreParts fs ls b p → levels ≡ joined (levels_of fs) → Notes (rule_faults (levels_of fs) b) before now
