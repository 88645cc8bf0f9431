use Rattle.std.proofs.Common.{◌++◌, length, sym, ap, ◌∙◌, arith, append_assoc, append-nil, length-append, encode_utf8}
use Rattle.std.specs.Char.Escape.{encode_utf16}
use Rattle.std.proofs.lemmas.Str.{length-encode, len_utf8_bounds}
use Rattle.tendril_fmt.specs.Wtf8.{units}
use Rattle.tendril_fmt.proofs.UnitCounts.{utf16_fits}
use Rattle.tendril_fmt.proofs.UnitSplits.{units-nil}
use Rattle.tendril_fmt.proofs.fmt.decode_units.push_rest.Goals as goal

pub push_units-requires-clause-room : goal.push_units-requires-clause-room
push_units-requires-clause-room c = omega (
  arith,
  c.loop-code.invariant.room,
  utf16_fits c.in-Some.code,
  ap length c.in-Some.ensures.split,
  length-append (encode_utf8 c.in-Some.code) c.in-Some.after.now,
)

pub loop-code-smaller : goal.loop-code-smaller
loop-code-smaller c = omega (
  arith,
  ap length c.in-Some.ensures.split,
  length-append (encode_utf8 c.in-Some.code) c.in-Some.after.now,
  length-encode c.in-Some.code,
  len_utf8_bounds c.in-Some.code,
)

pub loop-code-preserved : goal.loop-code-preserved
loop-code-preserved c =
    let items = c.loop-code.units.items in
    let code = c.in-Some.code in
    let after = c.in-Some.after.now in
    record {
      valid = c.in-Some.ensures.rest_valid;
      room = omega (
        arith,
        c.loop-code.invariant.room,
        utf16_fits code,
        ap length c.in-Some.ensures.split,
        length-append (encode_utf8 code) after,
        c.push_units.ensures.len,
        c.push_units.ensures.capacity,
      );
      given =
          ap (λ l. l ++ units after) c.push_units.ensures.items
          ∙ append_assoc items (encode_utf16 code) (units after)
          ∙ ap (λ l. items ++ l) (sym c.in-Some.ensures.spelt)
          ∙ c.loop-code.invariant.given;
    }

pub returns : goal.returns
returns c =
    let items = c.loop-code.units.items in
    sym (append-nil items) ∙ ap (λ l. items ++ l) (sym (units-nil c.loop-code.rest.now c.in_default.ensures))
    ∙ c.loop-code.invariant.given
