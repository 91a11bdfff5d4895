-- A record by what it speaks of. Assumes nothing.
use Rattle.std.specs.Prelude.{ℕ, List}
use Rattle.tree.specs.Forest.{number_at, node_spot}
use Rattle.rules.specs.Record.{Rec, Span, no_span, spot_span, no_number, with_value}
use Rattle.rules.specs.Dubious.{reason_span}
use Rattle.answer.specs.declared.Ends.{Ends}
use Rattle.answer.specs.declared.Note.{Note}
use Rattle.answer.specs.declared.Place.{Place}
use Rattle.answer.specs.declared.Place.TheVariants.{Nowhere, Node, Reason}
use Rattle.answer.specs.declared.Words.{Words}

-- "0 0 where absent"
unfoldable pub span_of : List ℕ → Place → Span
span_of t Nowhere = no_span
span_of t (Node i) = spot_span (node_spot t i)
span_of t (Reason l) = reason_span l

-- the span of two words
abbrev pub span_from : Ends → Span
span_from e = record { begin = e.begin; end = e.end }

-- "65535: none"
unfoldable pub value_of : List ℕ → Place → ℕ
value_of t Nowhere = no_number
value_of t (Node i) = (node_spot t i).value
value_of t (Reason l) = no_number

-- "the node that the second span came from, 65535 where none"
unfoldable pub node_of : Place → ℕ
node_of Nowhere = no_number
node_of (Node i) = number_at i
node_of (Reason l) = no_number

unfoldable pub rec_of : List ℕ → Note → Rec
rec_of t n =
    record {
      code = n.code;
      spot = with_value (node_spot t n.at) (value_of t n.value);
      second = span_of t n.second;
      third = span_of t n.third;
      number = number_at n.at;
      number2 = node_of n.second;
    }

-- the record of these words
abbrev pub rec_from : Words → Rec
rec_from w =
    record {
      code = w.code;
      spot = record { begin = w.first.begin; end = w.first.end; value = w.value };
      second = span_from w.second;
      third = span_from w.third;
      number = w.number;
      number2 = w.number2;
    }
