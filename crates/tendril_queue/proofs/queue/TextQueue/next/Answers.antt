use Rattle.std.proofs.Common.{◌<◌, length, arith}
use Rattle.std.specs.Prelude.{encode_utf8}
use Rattle.std.proofs.lemmas.Str.{chars_past_char}
use Rattle.tendril_queue.proofs.Fronts.{all_valid, leaves_first, left_bytes, loses}
use Rattle.tendril_queue.specs.Queues.{all_texts}
use Rattle.tendril_text.specs.TextLists.{bytes_of_all}
use Rattle.tendril_queue.proofs.queue.TextQueue.next.Goals as goal

pub returns-clause-character : goal.returns-clause-character
returns-clause-character g c =
    let t = c.self.inside.first in
    let xs = c.self.inside.rest.items in
    let left = c.pop_front_char.new.self in
    let character = c.in_ok-character.character in
    let shorter = c.in_ok-character.ensures.shorter in
    let some : 0 < length t.bytes = omega (arith, shorter) in
    let ys = all_texts c.refill.new.first c.refill.new.rest.items in
    let l = leaves_first t left xs ys some c.refill.ensures.texts in
    let e = left_bytes (all_texts t xs) ys t left l (encode_utf8 character) c.in_ok-character.ensures.bytes in
    rw (← c.self.view_is) (chars_past_char (bytes_of_all (all_texts t xs)) (bytes_of_all ys) character (all_valid t xs
    c.self.invariant) e)

pub returns-clause-bytes : goal.returns-clause-bytes
returns-clause-bytes g c =
    let t = c.self.inside.first in
    let xs = c.self.inside.rest.items in
    let left = c.pop_front_char.new.self in
    let character = c.in_ok-character.character in
    let shorter = c.in_ok-character.ensures.shorter in
    let some : 0 < length t.bytes = omega (arith, shorter) in
    let ys = all_texts c.refill.new.first c.refill.new.rest.items in
    let l = leaves_first t left xs ys some c.refill.ensures.texts in
    rw (← c.self.view_is) (left_bytes (all_texts t xs) ys t left l
    (encode_utf8 character) c.in_ok-character.ensures.bytes)

pub returns-clause-texts : goal.returns-clause-texts
returns-clause-texts g c =
    let t = c.self.inside.first in
    let xs = c.self.inside.rest.items in
    let left = c.pop_front_char.new.self in
    let character = c.in_ok-character.character in
    let shorter = c.in_ok-character.ensures.shorter in
    let some : 0 < length t.bytes = omega (arith, shorter) in
    let ys = all_texts c.refill.new.first c.refill.new.rest.items in
    let l = leaves_first t left xs ys some c.refill.ensures.texts in
    rw (← c.self.view_is) (loses (all_texts t xs) ys t left l (encode_utf8 character)
    c.in_ok-character.ensures.bytes c.in_ok-character.ensures.copied)
