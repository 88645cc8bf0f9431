use Rattle.std.proofs.Common.{arith, refl, ◌+◌, ◌%◌, ◌^◌}
use Rattle.std.specs.Char.{len_utf8}
use Rattle.rope_text.proofs.Popped.{IsPopped_all, IsPopped_some}
use Rattle.rope_text.proofs.rope.Rope.pop_front_char.Goals as goal
use Rattle.rope_text.proofs.rope.Rope.pop_front_char.Goals.{in-Some-1, in-None-1}

pub invariant_of-self-then-left-eq0 : goal.invariant_of-self-then-left-eq0
invariant_of-self-then-left-eq0 g c =
    let p = IsPopped_all c.self.inside.pieces.items c.index_mut-first.result.now c.pop_front_char.new.self
    c.self.inside.total c.in_ok-character.character c.self.inside.start
    ((c.self.inside.start + len_utf8 c.in_ok-character.character) % 2 ^ 64) c.self.inside.ends.items
    (omega arith) c.index_mut-first.ensures.value c.self.invariant c.in_ok-character.ensures.bytes
    c.in_ok-character.ensures.copied (omega arith) refl in
    rw (c.pop_front.ensures.rest, c.pop_front-then-left-eq0.ensures.rest, c.len_utf8-count.ensures.value) p.rope

pub invariant_of-self-else-left-eq0 : goal.invariant_of-self-else-left-eq0
invariant_of-self-else-left-eq0 g c =
    let p = IsPopped_some c.self.inside.pieces.items c.index_mut-first.result.now c.pop_front_char.new.self
    c.self.inside.total c.in_ok-character.character c.self.inside.start
    ((c.self.inside.start + len_utf8 c.in_ok-character.character) % 2 ^ 64) c.self.inside.ends.items
    (omega arith) c.index_mut-first.ensures.value c.self.invariant c.in_ok-character.ensures.bytes
    c.in_ok-character.ensures.copied (omega arith) refl in
    rw c.len_utf8-count.ensures.value p.rope

pub returns-then-left-eq0-clause-character : goal.returns-then-left-eq0-clause-character
returns-then-left-eq0-clause-character g c =
    let p = IsPopped_all c.self.inside.pieces.items c.index_mut-first.result.now c.pop_front_char.new.self
    c.self.inside.total c.in_ok-character.character c.self.inside.start
    ((c.self.inside.start + len_utf8 c.in_ok-character.character) % 2 ^ 64) c.self.inside.ends.items
    (omega arith) c.index_mut-first.ensures.value c.self.invariant c.in_ok-character.ensures.bytes
    c.in_ok-character.ensures.copied (omega arith) refl in
    rw (← c.self.view_is) (elim c.match-pop_front.branch [
      | in-Some-1 w ↦ rw (w.self-is, c.pop_front-then-left-eq0.ensures.rest) p.characters
      | in-None-1 w ↦ rw (w.self-is, c.pop_front-then-left-eq0.ensures.rest) p.characters
    ])

pub returns-else-left-eq0-clause-character : goal.returns-else-left-eq0-clause-character
returns-else-left-eq0-clause-character g c =
    let p = IsPopped_some c.self.inside.pieces.items c.index_mut-first.result.now c.pop_front_char.new.self
    c.self.inside.total c.in_ok-character.character c.self.inside.start
    ((c.self.inside.start + len_utf8 c.in_ok-character.character) % 2 ^ 64) c.self.inside.ends.items
    (omega arith) c.index_mut-first.ensures.value c.self.invariant c.in_ok-character.ensures.bytes
    c.in_ok-character.ensures.copied (omega arith) refl in
    rw (← c.self.view_is) p.characters

pub returns-then-left-eq0-clause-bytes : goal.returns-then-left-eq0-clause-bytes
returns-then-left-eq0-clause-bytes g c =
    let p = IsPopped_all c.self.inside.pieces.items c.index_mut-first.result.now c.pop_front_char.new.self
    c.self.inside.total c.in_ok-character.character c.self.inside.start
    ((c.self.inside.start + len_utf8 c.in_ok-character.character) % 2 ^ 64) c.self.inside.ends.items
    (omega arith) c.index_mut-first.ensures.value c.self.invariant c.in_ok-character.ensures.bytes
    c.in_ok-character.ensures.copied (omega arith) refl in
    rw (← c.self.view_is) (elim c.match-pop_front.branch [
      | in-Some-1 w ↦ rw (w.self-is, c.pop_front-then-left-eq0.ensures.rest) p.bytes
      | in-None-1 w ↦ rw (w.self-is, c.pop_front-then-left-eq0.ensures.rest) p.bytes
    ])

pub returns-else-left-eq0-clause-bytes : goal.returns-else-left-eq0-clause-bytes
returns-else-left-eq0-clause-bytes g c =
    let p = IsPopped_some c.self.inside.pieces.items c.index_mut-first.result.now c.pop_front_char.new.self
    c.self.inside.total c.in_ok-character.character c.self.inside.start
    ((c.self.inside.start + len_utf8 c.in_ok-character.character) % 2 ^ 64) c.self.inside.ends.items
    (omega arith) c.index_mut-first.ensures.value c.self.invariant c.in_ok-character.ensures.bytes
    c.in_ok-character.ensures.copied (omega arith) refl in
    rw (← c.self.view_is) p.bytes

pub returns-then-left-eq0-clause-pieces : goal.returns-then-left-eq0-clause-pieces
returns-then-left-eq0-clause-pieces g c =
    let p = IsPopped_all c.self.inside.pieces.items c.index_mut-first.result.now c.pop_front_char.new.self
    c.self.inside.total c.in_ok-character.character c.self.inside.start
    ((c.self.inside.start + len_utf8 c.in_ok-character.character) % 2 ^ 64) c.self.inside.ends.items
    (omega arith) c.index_mut-first.ensures.value c.self.invariant c.in_ok-character.ensures.bytes
    c.in_ok-character.ensures.copied (omega arith) refl in
    rw (← c.self.view_is) (elim c.match-pop_front.branch [
      | in-Some-1 w ↦ rw (w.self-is, c.pop_front-then-left-eq0.ensures.rest) p.front
      | in-None-1 w ↦ rw (w.self-is, c.pop_front-then-left-eq0.ensures.rest) p.front
    ])

pub returns-else-left-eq0-clause-pieces : goal.returns-else-left-eq0-clause-pieces
returns-else-left-eq0-clause-pieces g c =
    let p = IsPopped_some c.self.inside.pieces.items c.index_mut-first.result.now c.pop_front_char.new.self
    c.self.inside.total c.in_ok-character.character c.self.inside.start
    ((c.self.inside.start + len_utf8 c.in_ok-character.character) % 2 ^ 64) c.self.inside.ends.items
    (omega arith) c.index_mut-first.ensures.value c.self.invariant c.in_ok-character.ensures.bytes
    c.in_ok-character.ensures.copied (omega arith) refl in
    rw (← c.self.view_is) p.front
