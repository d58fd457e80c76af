-- Each turn reads one rule more; a refusal is told with the number of the rules before it.
use mathlib.Core.Path.{refl}
use borrow.Author.Rules.{rules}
use Rattle.text.proofs.Exits.{left_by}
use Rattle.sheet_rules.proofs.Exits.{told_err, told_ok}
use Rattle.sheet_rules.proofs.Scan.{going_room, rows_less, rows_over, rows_full, rows_wrong}
use Rattle.sheet_rules.proofs.read_rows.Goals as goal

pub returns-then-line-ge-RULES : goal.returns-then-line-ge-RULES
returns-then-line-ge-RULES c = search rows_full

pub read_rule-requires : goal.read_rule-requires
read_rule-requires c = search going_room

pub returns-in_err-row : goal.returns-in_err-row
returns-in_err-row c =
    let m = c.map_err.ensures in
    let (e, y, z) = told_err c.read_rule.result c.map_err.result _ m.cases c.in_err-row.was in
    let p = left_by c.from_residual.ensures refl in
    search (rules, rows_wrong)

pub scan-smaller : goal.scan-smaller
scan-smaller c =
    let m = c.map_err.ensures in
    let y = told_ok c.read_rule.result c.map_err.result _ m.cases c.in_ok-row.was in
    search rows_less

pub returns : goal.returns
returns c = search rows_over
