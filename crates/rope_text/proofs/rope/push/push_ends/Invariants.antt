use Rattle.std.proofs.Common.{◌≡◌, ◌+◌, ◌%◌, ◌^◌, ◌++◌, map, take}
use Rattle.std.specs.VecDeque.{deque_capacity, deque_len}
use Rattle.rope_text.proofs.rope.push.push_ends.Given as goal

abbrev pub invariant-loop-index : goal.invariant-loop-index
invariant-loop-index l = record {
  items : l.ends.items ≡ l.initial.ends.items ++ map (λ e. (e + l.by) % 2 ^ 64) (take l.index l.more.items);
  len : deque_len l.ends ≡ deque_len l.initial.ends + l.index;
  room : deque_capacity l.ends ≡ deque_capacity l.initial.ends;
}
