-- Every reader of a paper is built from the pieces: conditions, the sheet, the card and the event line.
use Prim.Native.Nat.{ℕ, zero, suc, ◌+◌, ◌-◌}
use Rattle.std.specs.Prelude.{Bool, not, List, [], ◌∷◌, ◌++◌, length, get_or, ltb}
use Rattle.std.proofs.Math.Option.{Option, none, some}
use Rattle.meaning.specs.Text.{text, is_in, find}
use Rattle.meaning.specs.Limits.{field_limit, event_limit, status_limit, rule_limit, leaf_limit, nest_limit}
use Rattle.meaning.specs.Reading.{Reader}
use Rattle.meaning.specs.Name.{Name}
use Rattle.meaning.specs.Condition.{Item, leaves_a, leaves_i}
use Rattle.meaning.specs.ReadCondition.{operator, read_and, read_cond, named, read_leaf, item_with, read_item, condition}
use Rattle.meaning.specs.Sheet.{Heads, Status, Rule, statuses, status_names, event_names, all_names, with_stage, with_mile, leaves}
use Rattle.meaning.specs.ReadSheet.{section, field_row, carried, event_row, under, status, model_line, field_lines, event_lines, status_lines, heads, signs, event_trigger, trigger, change, begun, plain_end, asked_end, ending, rule, rule_row, rules_of, sheet}
use Rattle.meaning.specs.Card.{keyed, field_entry, marks, status_mark, ended, case_line, card, carried_by, spaced, put, happening}
use Rattle.theory.specs.Reading.Built.{BuiltIn, Built, give_built, refuse_built, choose_built, bind_built, not_ended_built, stands_built, line_fault, name_fault_lem, cond_fault, full_fault, demand_built, due_built, one_of_built, line_end_built, each_built, name_built, new_name_built, due_name_built, known_built, number_built, entry_built, end_line_built, closed_built}

-- CONDITIONS

-- an operator
pub operator_built : {e : Bool} → BuiltIn e operator
unfolding operator
operator_built = bind_built not_ended_built λ _. one_of_built _ cond_fault

-- an and-list of items
pub and_built : {e : Bool} (item : ℕ → Reader Item) → ((l : ℕ) → BuiltIn e (item l)) → (m l : ℕ) → BuiltIn e (read_and item m l)
unfolding read_and
and_built item h zero l = refuse_built cond_fault
and_built item h (suc m) l =
    bind_built (h l) λ i.
    bind_built (stands_built (text " and ")) λ more.
    choose_built more (bind_built (and_built item h m (l + length (leaves_i i))) λ a. give_built) give_built

-- a condition of items
pub cond_built : {e : Bool} (item : ℕ → Reader Item) → ((l : ℕ) → BuiltIn e (item l)) → (m l : ℕ) → BuiltIn e (read_cond item m l)
unfolding read_cond
cond_built item h zero l = refuse_built cond_fault
cond_built item h (suc m) l =
    bind_built (and_built item h (suc leaf_limit) l) λ a.
    bind_built (stands_built (text " or ")) λ more.
    choose_built more (bind_built (cond_built item h m (l + length (leaves_a a))) λ c. give_built) give_built

-- what a name stands for
named_built : {e : Bool} (l : ℕ) (x f : Option ℕ) → BuiltIn e (named l x f)
named_built l (some x) f = bind_built (demand_built (ltb l leaf_limit) full_fault) λ _. give_built
named_built l none (some f) =
    bind_built (demand_built (ltb l leaf_limit) full_fault) λ _.
    bind_built operator_built λ o.
    bind_built number_built λ n.
    give_built
named_built l none none = refuse_built name_fault_lem

module _ (sts fields : List Name) where
  -- a leaf
  pub leaf_built : {e : Bool} (l : ℕ) → BuiltIn e (read_leaf sts fields l)
  unfolding read_leaf
  leaf_built l = bind_built name_built λ w. named_built l (find w sts) (find w fields)

  -- an item, over what stands behind `not ` and `(`
  with_built : {e : Bool} (negated grouped : Reader Item) (l : ℕ) → BuiltIn e negated → BuiltIn e grouped → BuiltIn e (item_with sts fields negated grouped l)
  unfolding item_with
  with_built negated grouped l h g =
      bind_built not_ended_built λ _.
      bind_built (stands_built (text "not ")) λ nots.
      choose_built nots h (bind_built (stands_built (text "(")) λ opens.
      choose_built opens g (bind_built (leaf_built l) λ x. give_built))

  -- an item of any depth
  pub item_built : {e : Bool} (d l : ℕ) → BuiltIn e (read_item sts fields d l)
  unfolding read_item
  item_built zero l = with_built _ _ l (refuse_built cond_fault) (refuse_built cond_fault)
  item_built (suc d) l = with_built _ _ l
      (bind_built (item_built d l) λ i. give_built)
      (bind_built (cond_built (read_item sts fields d) (item_built d) (suc leaf_limit) l) λ c.
      bind_built (due_built (text ")") cond_fault) λ _.
      give_built)

  -- a whole condition
  pub condition_built : {e : Bool} (l : ℕ) → BuiltIn e (condition sts fields l)
  unfolding condition
  condition_built l = cond_built (read_item sts fields nest_limit) (item_built nest_limit) (suc leaf_limit) l

-- ROWS OF THE SHEET

-- a section
pub section_built : {A : Type 0} (key : List ℕ) (row : A → Reader A) → ((so : A) → Built (row so)) → (room : ℕ) (so : A) → Built (section key row room so)
unfolding section
section_built key row h zero so =
    bind_built (stands_built key) λ more.
    choose_built more (refuse_built full_fault) give_built
section_built key row h (suc room) so =
    bind_built (stands_built key) λ more.
    choose_built more (bind_built (h so) λ a. section_built key row h room a) give_built

-- a field line
field_built : (hd : Heads) → Built (field_row hd)
unfolding field_row
field_built hd =
    bind_built (new_name_built (all_names hd)) λ n.
    bind_built (line_end_built line_fault) λ _.
    give_built

-- the fields that an event carries
carried_built : (fields : List Name) (m : ℕ) (so : List ℕ) → Built (carried fields m so)
unfolding carried
carried_built fields zero so = refuse_built name_fault_lem
carried_built fields (suc m) so =
    bind_built (stands_built (text " ")) λ more.
    choose_built more
    (bind_built (known_built fields) λ f.
    bind_built (demand_built (not (is_in f so)) name_fault_lem) λ _.
    carried_built fields m (so ++ (f ∷ [])))
    (bind_built (line_end_built line_fault) λ _. give_built)

-- an event line of the sheet
event_built : (hd : Heads) → Built (event_row hd)
unfolding event_row
event_built hd =
    bind_built (new_name_built (all_names hd)) λ n.
    bind_built (carried_built hd.fields (suc (length hd.fields)) []) λ fs.
    give_built

-- what ends a status's line
pub under_built : (stages : List Name) → Built (under stages)
unfolding under
under_built stages =
    bind_built (stands_built (text " ")) λ more.
    bind_built (choose_built more (bind_built (known_built stages) λ i. give_built) give_built) λ p.
    bind_built (line_end_built line_fault) λ _.
    give_built

-- a stage or mile line
status_built : (hd : Heads) → Built (status hd)
unfolding status
status_built hd =
    bind_built (new_name_built (all_names hd)) λ n.
    bind_built (under_built (status_names hd.stages)) λ p.
    give_built

-- THE SECTIONS above the rules
pub model_built : Built model_line
unfolding model_line
model_built =
    bind_built (due_built (text "model=") line_fault) λ _.
    bind_built name_built λ m.
    bind_built (line_end_built line_fault) λ _.
    give_built

pub fields_built : (hd : Heads) → Built (field_lines hd)
fields_built = section_built (text "field=") field_row field_built field_limit

pub events_built : (hd : Heads) → Built (event_lines hd)
events_built = section_built (text "event=") event_row event_built event_limit

pub statuses_built : (key : List ℕ) (put : Heads → Status → Heads) (hd : Heads) → Built (status_lines key put hd)
statuses_built key put hd = section_built key _ (λ hd. bind_built (status_built hd) λ x. give_built) (status_limit - length (statuses hd)) hd

-- what stands above the rules
pub heads_built : Built heads
unfolding heads
heads_built =
    bind_built model_built λ hd.
    bind_built (fields_built hd) λ hd.
    bind_built (events_built hd) λ hd.
    bind_built (statuses_built (text "stage=") with_stage hd) λ hd.
    statuses_built (text "mile=") with_mile hd

-- THE RULES

-- an event as a trigger
event_trigger_built : {e : Bool} (events : List Name) → BuiltIn e (event_trigger events)
unfolding event_trigger
event_trigger_built events = bind_built (known_built events) λ e. give_built

-- a trigger
pub trigger_built : {e : Bool} (events sts : List Name) → BuiltIn e (trigger events sts)
unfolding trigger
trigger_built events sts =
    bind_built (stands_built (text "+")) λ rises.
    choose_built rises (bind_built (known_built sts) λ x. give_built) (bind_built (stands_built (text "-")) λ falls.
    choose_built falls (bind_built (known_built sts) λ x. give_built) (event_trigger_built events))

-- the start of a rule line
pub change_built : {e : Bool} (sts : List Name) → BuiltIn e (change sts)
unfolding change
change_built sts =
    bind_built (one_of_built signs line_fault) λ g.
    bind_built (known_built sts) λ x.
    give_built

pub begun_built : {e : Bool} (events sts : List Name) → BuiltIn e (begun events sts)
unfolding begun
begun_built events sts =
    bind_built (change_built sts) λ b.
    bind_built (stands_built (text " on ")) λ on.
    bind_built (choose_built on (trigger_built events sts) give_built) λ t.
    give_built

-- its end
pub plain_built : (on : Bool) → Built (plain_end on)
unfolding plain_end
plain_built on =
    bind_built (demand_built on line_fault) λ _.
    bind_built (line_end_built line_fault) λ _.
    give_built

pub asked_built : (fields sts : List Name) (l : ℕ) → Built (asked_end fields sts l)
unfolding asked_end
asked_built fields sts l =
    bind_built (condition_built sts fields l) λ c.
    bind_built (line_end_built cond_fault) λ _.
    give_built

pub ending_built : (fields sts : List Name) (on : Bool) (l : ℕ) → Built (ending fields sts on l)
unfolding ending
ending_built fields sts on l =
    bind_built (stands_built (text " if ")) λ asks.
    choose_built asks (asked_built fields sts l) (plain_built on)

module _ (fields events sts : List Name) where
  -- a rule line
  rule_built : (l : ℕ) → Built (rule fields events sts l)
  unfolding rule
  rule_built l =
      bind_built (begun_built events sts) λ b.
      bind_built (ending_built fields sts b.on l) λ c.
      give_built

  row_built : (so : List Rule) → Built (rule_row fields events sts so)
  unfolding rule_row
  row_built so = bind_built (rule_built (length (leaves so))) λ r. give_built

  -- the lines of the rules
  pub rows_built : Built (section (text "rule=") (rule_row fields events sts) rule_limit [])
  rows_built = section_built (text "rule=") (rule_row fields events sts) row_built rule_limit []

  -- the rules, with the last line
  pub rules_built : Built (rules_of fields events sts)
  unfolding rules_of
  rules_built =
      bind_built rows_built λ rules.
      bind_built (end_line_built (length rules)) λ _.
      give_built

-- the whole sheet
pub sheet_built : Built sheet
unfolding sheet
sheet_built =
    bind_built heads_built λ hd.
    bind_built (rules_built hd.fields (event_names hd.events) (status_names (statuses hd))) λ rules.
    give_built

-- THE CARD AND THE EVENT LINE

-- a key
pub keyed_built : {e : Bool} (n : Name) → BuiltIn e (keyed n)
unfolding keyed
keyed_built n =
    bind_built (due_name_built n) λ _.
    due_built (text "=") line_fault

-- a field's line
pub entry_line_built : {e : Bool} (n : Name) → BuiltIn e (field_entry n)
unfolding field_entry
entry_line_built n =
    bind_built (keyed_built n) λ _.
    entry_built

-- a status's line
pub mark_line_built : {e : Bool} (n : Name) → BuiltIn e (status_mark n)
unfolding status_mark
mark_line_built n =
    bind_built (keyed_built n) λ _.
    one_of_built marks line_fault

-- a whole line
pub ended_built : {A : Type 0} {r : Reader A} → Built r → Built (ended r)
unfolding ended
ended_built h =
    bind_built h λ a.
    bind_built (line_end_built line_fault) λ _.
    give_built

-- the first line
pub case_line_built : (n : Name) → Built (case_line n)
unfolding case_line
case_line_built n =
    bind_built (due_built (text "case=") line_fault) λ _.
    ended_built (due_name_built n)

-- the card
pub card_built : (hd : Heads) → Built (card hd)
unfolding card
card_built hd =
    bind_built (case_line_built hd.model) λ _.
    bind_built (each_built (λ n. ended_built (entry_line_built n)) hd.fields) λ es.
    bind_built (each_built (λ n. ended_built (mark_line_built n)) (status_names (statuses hd))) λ ss.
    bind_built (end_line_built (length es + length ss)) λ _.
    give_built

-- a field of the event line
pub spaced_built : {e : Bool} (n : Name) → BuiltIn e (spaced n)
unfolding spaced
spaced_built n =
    bind_built (due_built (text " ") line_fault) λ _.
    entry_line_built n

-- what is put into a field
pub put_built : {e : Bool} (hd : Heads) (f : ℕ) → BuiltIn e (put hd f)
unfolding put
put_built hd f =
    bind_built (spaced_built (get_or hd.fields f [])) λ e.
    give_built

-- the event line
pub happening_built : (hd : Heads) → Built (happening hd)
unfolding happening
happening_built hd =
    bind_built (known_built (event_names hd.events)) λ i.
    bind_built (each_built (put_built hd) (carried_by hd i)) λ ps.
    bind_built closed_built λ _.
    give_built
