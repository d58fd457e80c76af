-- The line, as the first of the sheet.
use borrow.Author.Rules.{rules}
use Rattle.sheet_fields.proofs.Model.{modelling}
use Rattle.sheet_fields.proofs.read_model.Goals as goal

pub returns-in_err-model : goal.returns-in_err-model
returns-in_err-model c = search (rules, modelling)

pub returns : goal.returns
returns c = search (rules, modelling)
