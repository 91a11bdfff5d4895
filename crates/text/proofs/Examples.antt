-- Texts computed from the definitions: 01's "Output whole"; a refusal; of no bytes, where no counts follow; a list with its counts. Assumes nothing.
use mathlib.Core.Path.{◌≡◌, refl}
use mathlib.Core.Bool.{true}
use mathlib.Core.List.{[], ◌∷◌}
use mathlib.Core.Option.{none}
use Rattle.base.specs.Ascii.{ascii}
use Rattle.tree.specs.Search.{first}
use Rattle.tree.specs.Bytes.{u16_at, u32_at, node_count, value_count, global_count, kind_at, role_at, size_at, begin_at, end_at, value_at, last_at}
use Rattle.tree.specs.Forest.{Head, node_spot, node_head, forest_in, forest_of, tree_of}
use Rattle.tree.specs.Values.{offset}
use Rattle.tree.specs.Written.{file}
use Rattle.tree.specs.declared.Mode.TheVariants.{Ordinary}
use Rattle.tree.specs.Judge.{checks, judged}
use Rattle.rules.specs.Record.{plainly}
use Rattle.rules.specs.Outcome.{refusal}
use Rattle.rules.specs.Names.{met_in, names_list}
use Rattle.rules.specs.Flow.{flow_list}
use Rattle.rules.specs.Incompatible.{incompatible_list}
use Rattle.rules.specs.Dubious.{dubious_list}
use Rattle.rules.specs.Joined.{lint_list}
use Rattle.rules.specs.Examples.{one_literal, value_one}
use Rattle.rules.specs.declared.Refusal.TheVariants.{AnswerRoom}
use Rattle.page.specs.Digits.{digits, decimal}
use Rattle.text.specs.Text.{line, records, listing, refused, counts, told, text_of}

-- the literal of 01's example
abbrev here : Head
here = record { kind = 21; role = 4; spot = record { begin = 0; end = 1; value = 0 }; number = 1 }

pub examples :
    (listing (lint_list Ordinary (file one_literal value_one)) ≡ ascii "13 0 1 65535 0 0 0 0 1 65535\ntotal 1\n")
    × (refused (AnswerRoom 2045) ≡ ascii "refused 11 2045\n")
    × (text_of true Ordinary [] [] [] ≡ ascii "refused 1 0\n")
    × (told true none (plainly 13 here ∷ []) ≡ ascii "13 0 1 65535 0 0 0 0 1 65535\ntotal 1\ntally 0 0 0 0 0 0 0 0 0 0 0 0 1 0 0 0 0\n")
unfolding first u16_at u32_at node_count value_count global_count kind_at role_at size_at begin_at end_at value_at last_at node_spot node_head forest_in forest_of tree_of offset met_in names_list flow_list incompatible_list dubious_list lint_list digits decimal line records listing refused counts told text_of judged checks refusal
examples = (refl, refl, refl, refl)
