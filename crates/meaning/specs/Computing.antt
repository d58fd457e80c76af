-- All definitions, for what is computed from them: a theorem that says `unfolding computing` opens them all.
use Rattle.meaning.specs.Text.{same, begins, run, find, among, any, keep, joined, from}
use Rattle.meaning.specs.Reading.{each, not_ended, stands, due, one_of, longest, line_end, paper_end, closed, paper}
use Rattle.meaning.specs.Name.{good_name, name, new_name, due_name, known}
use Rattle.meaning.specs.Number.{amount, in_range, digits, place, number, entry, end_line, written_in, decimal}
use Rattle.meaning.specs.Condition.{answers, compared, value_l, leaves_c, leaves_a, leaves_i, value_c, value_a, value_i}
use Rattle.meaning.specs.ReadCondition.{operator, read_and, read_cond, read_leaf, item_with, read_item, condition}
use Rattle.meaning.specs.Sheet.{event_names, status_names, statuses, all_names, stage_over, leaves_of, leaves}
use Rattle.meaning.specs.ReadSheet.{section, field_row, carried, event_row, under, status, model_line, heads, event_trigger, trigger, change, begun, plain_end, asked_end, ending, rule, rule_row, rules_of, sheet}
use Rattle.meaning.specs.Card.{keyed, field_entry, status_mark, ended, case_line, card, orphan, read_card, carried_by, spaced, put, happening, read_event}
use Rattle.meaning.specs.Graph.{edge, waits, first_free, without, order_of, order_for}
use Rattle.meaning.specs.Tests.{nodes, test_of, rule_tests, rule_line, implied, tests, leaves_in}
use Rattle.meaning.specs.Dependency.{from_trigger, from_leaf, from_home, sources, tests_for, predecessors, testing_order}
use Rattle.meaning.specs.Circle.{along, around, lines_to, stuck, lowest_into, up_to, go_back, circle_for, circle, first_from, edge_line}
use Rattle.meaning.specs.Step.{put_in, moment, allowed, needed, triggered, fulfilled, housed, holds, some_holds, rising, changes, set_if, run_on, leads_to, childless, started_from, started, pattern}
use Rattle.meaning.specs.Outlook.{filled_with, comparisons, cuts_at, is_cut, insert, ascending, cuts, parts, many, tried, choices, patterns}
use Rattle.meaning.specs.Prospect.{yes_in, prospect, yes_names}
use Rattle.meaning.specs.Why.{coded, first_stop, parts_of, lines_for, changed, first_that, reasons_of, reasons}
use Rattle.meaning.specs.Write.{line, lines, card_text}
use Rattle.meaning.specs.Doors.{read_sheet, read_told, read_case, next, outlook, reasons_in, why, fitting, step_answer, outlook_answer, why_answer, replied, written, step_reply, step_space, outlook_reply, outlook_space, why_reply, why_space}
use Rattle.meaning.specs.Desk.{line_length, paper_length, first_paper, after_paper, refusal_text, start_lines, outlook_lines, printed, desk_output}
use Rattle.meaning.specs.Clerk.{behind_lines, line_at, status_name, rule_told, parent_told, why_line, why_printed, why_output, card_printed, card_output, prospect_lines, pattern_line, prospects_told, outlook_printed, outlook_output, sheet_told, node_text, circle_line, check_printed, check_output, blank_card, blank_printed, blank_output}

unfoldable pub of_text : Unit {0}
unfolding same begins run find among any keep joined from
of_text = tt

unfoldable pub of_reading : Unit {0}
unfolding each not_ended stands due one_of longest line_end paper_end closed paper
of_reading = tt

unfoldable pub of_name : Unit {0}
unfolding good_name name new_name due_name known
of_name = tt

unfoldable pub of_number : Unit {0}
unfolding amount in_range digits place number entry end_line written_in decimal
of_number = tt

unfoldable pub of_condition : Unit {0}
unfolding answers compared value_l leaves_c leaves_a leaves_i value_c value_a value_i
of_condition = tt

unfoldable pub of_read_condition : Unit {0}
unfolding operator read_and read_cond read_leaf item_with read_item condition
of_read_condition = tt

unfoldable pub of_sheet : Unit {0}
unfolding event_names status_names statuses all_names stage_over leaves_of leaves
of_sheet = tt

unfoldable pub of_read_sheet : Unit {0}
unfolding section field_row carried event_row under status model_line heads event_trigger trigger change begun plain_end asked_end ending rule rule_row
of_read_sheet = tt

unfoldable pub of_read_sheet2 : Unit {0}
unfolding rules_of sheet
of_read_sheet2 = tt

unfoldable pub of_card : Unit {0}
unfolding keyed field_entry status_mark ended case_line card orphan read_card carried_by spaced put happening read_event
of_card = tt

unfoldable pub of_graph : Unit {0}
unfolding edge waits first_free without order_of order_for
of_graph = tt

unfoldable pub of_tests : Unit {0}
unfolding nodes test_of rule_tests rule_line implied tests leaves_in
of_tests = tt

unfoldable pub of_dependency : Unit {0}
unfolding from_trigger from_leaf from_home sources tests_for predecessors testing_order
of_dependency = tt

unfoldable pub of_circle : Unit {0}
unfolding along around lines_to stuck lowest_into up_to go_back circle_for circle first_from edge_line
of_circle = tt

unfoldable pub of_step : Unit {0}
unfolding put_in moment allowed needed triggered fulfilled housed holds some_holds rising changes set_if run_on leads_to childless started_from started
of_step = tt

unfoldable pub of_step2 : Unit {0}
unfolding pattern
of_step2 = tt

unfoldable pub of_outlook : Unit {0}
unfolding filled_with comparisons cuts_at is_cut insert ascending cuts parts many tried choices patterns
of_outlook = tt

unfoldable pub of_prospect : Unit {0}
unfolding yes_in prospect yes_names
of_prospect = tt

unfoldable pub of_why : Unit {0}
unfolding coded first_stop parts_of lines_for changed first_that reasons_of reasons
of_why = tt

unfoldable pub of_write : Unit {0}
unfolding line lines card_text
of_write = tt

unfoldable pub of_doors : Unit {0}
unfolding read_sheet read_told read_case next outlook reasons_in why fitting step_answer outlook_answer why_answer replied written step_reply step_space
of_doors = tt

unfoldable pub of_doors2 : Unit {0}
unfolding outlook_reply outlook_space why_reply why_space
of_doors2 = tt

unfoldable pub of_desk : Unit {0}
unfolding line_length paper_length first_paper after_paper refusal_text start_lines outlook_lines printed desk_output
of_desk = tt

unfoldable pub of_clerk : Unit {0}
unfolding behind_lines line_at status_name rule_told parent_told why_line why_printed why_output card_printed card_output prospect_lines pattern_line
of_clerk = tt

unfoldable pub of_clerk2 : Unit {0}
unfolding prospects_told outlook_printed outlook_output sheet_told node_text circle_line check_printed check_output blank_card blank_printed blank_output
of_clerk2 = tt

unfoldable pub of_papers : Unit {0}
unfolding of_text of_reading of_name of_number of_condition of_read_condition of_sheet of_read_sheet of_read_sheet2 of_card of_write
of_papers = tt

unfoldable pub of_rules : Unit {0}
unfolding of_graph of_tests of_dependency of_circle of_step of_step2 of_outlook of_prospect of_why
of_rules = tt

unfoldable pub computing : Unit {0}
unfolding of_papers of_rules of_doors of_doors2 of_desk of_clerk of_clerk2
computing = tt
