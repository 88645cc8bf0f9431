use Rattle.std.proofs.Common.{◌≡◌, ◌+◌, take, drop}
use Rattle.std.specs.VecDeque.{deque_capacity, deque_len}
use Rattle.rope_text.proofs.rope.split.move_front.Given as goal

abbrev pub invariant-loop : goal.invariant-loop
invariant-loop g l = record {
  moved : l.to.items ≡ take l.counter l.initial.from.items;
  left : l.from.items ≡ drop l.counter l.initial.from.items;
  left_len : deque_len l.from + l.counter ≡ deque_len l.initial.from;
  len : deque_len l.to ≡ l.counter;
  room : deque_capacity l.to ≡ deque_capacity l.initial.to;
}
