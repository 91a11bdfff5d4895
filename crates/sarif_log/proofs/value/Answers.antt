use Prim.Native.Nat.{ℕ, suc, ◌+◌, ◌-◌, ◌*◌, ◌≤◌, ◌<◌, min}
use native.Mathlib.Omega.{arith}
use mathlib.Core.Path.{◌≡◌, refl, sym, ap, subst, ◌∙◌}
use mathlib.Core.List.{List, [], ◌∷◌, ◌++◌, append_assoc}
use Rattle.std.proofs.Common.{◌⊎◌, inl, inr}
use mathlib.Core.Bool.{true}
use mathlib.Core.Option.{some}
use lib.ListN.{length, take, drop, get_or, length-take, length-append}
use lib.Dec.{eqb}
use Rattle.tree.specs.Bytes.{value_count}
use Rattle.tree.specs.Values.{value_from}
use Rattle.tree.specs.Table.{table_of}
use Rattle.tree.proofs.TableLaws.{start_at}
use Rattle.rules.specs.Codes.{disabled, short_name}
use Rattle.rules.specs.Record.{width}
use Rattle.rules.specs.Joined.{codes}
use Rattle.rules.specs.Visit.{look}
use Rattle.rules.specs.code.Decoded.{code_number}
use Rattle.rules.specs.Afterwards.{record_in, records_in}
use Rattle.base.specs.Ascii.{ascii}
use Rattle.answer.specs.Note.{span_from, rec_from}
use Rattle.json_text.specs.Utf8.{front}
use Rattle.json_text.specs.Escape.{escape, unit}
use Rattle.json_text.specs.Text.{string, ◌⇒◌, quoted, comma, text, member, lines}
use Rattle.page.proofs.Pages.{added_then, added_retold, nothing_added, from_start}
use Rattle.sarif_log.specs.Words.{phrases, reasons, kinds, seconds, reason, phrase, kind_word, shown, value_of}
use Rattle.sarif_log.specs.Log.{only, level, message_of, nonzeros, index_of, result, results, rule, rules, sarif_log}
use Rattle.sarif_log.specs.Pieces.{open_place, related_place, second_related, all_related, message_end, rule_line, result_rule, result_standing, result_place, result_related, piece_most, head, tail, piece_of, Here, Small}
use Rattle.tree.specs.code.Numbers.{Starts}
use borrow.Author.Rules.{rules as search_rules}
use Rattle.sarif_log.proofs.Plainly.{not_warned, warned, no_reason, no_such_reason, no_phrase, no_kind, no_second, no_reason_words}
use Rattle.sarif_log.proofs.Shapes.{standing_none, standing_warning, place_text, other_text, value_text, no_value_text, message_of_text, rule_text, rule_level_text, result_place_text, result_related_text, result_rule_text, result_text, head_text, log_text}
use Rattle.sarif_log.proofs.Valued.{text_shown, number_shown, text_short, number_short, value_in, value_past}
use Rattle.sarif_log.proofs.Worded.{phrase_short, kind_short, reason_short, second_none, second_some, second_plain, second_short, third_none, third_some}
use Rattle.sarif_log.proofs.Turns.{turning_first, turning_next, turning_last, rules_left, rules_all, rules_next, rules_none, results_left, results_all, results_next, results_none, words_at, nonzeros_next, nonzeros_most, nonzeros_past, rule_absent, rule_present, counts_on, index_met}
use Rattle.codes.proofs.Padded.{short_most}
use borrow.Author.Tests.{lt-ltb, le-ltb}
use Rattle.sarif_log.proofs.InPieces.{head_piece, tail_piece, line_piece}
use Rattle.sarif_log.proofs.value.Goals as goal

pub returns : goal.returns
returns c =
    let v = value_from c.args.t.now c.args.o in
    added_retold 1568 (message_end (some v)) (added_then c.kind_word.ensures (added_then c.raw.ensures (added_then c.shown.ensures c.raw-2.ensures))) (omega arith) (λ rest. rw c.byte_at.ensures.0 (value_text v rest))
