-- How a span grows.
use Rattle.std.specs.Prelude.{ℕ, ◌+◌, ◌==◌, if◌then◌else◌}
use Rattle.transaction_buffer.specs.declared.span.Span.{Span}

-- the span with one more sale, which stands at this place
abbrev pub with_one_more : Span → ℕ → Span
with_one_more span end = record {
  first = if span.count == 0 then end else span.first;
  count = span.count + 1;
}
