use Rattle.std.proofs.lemmas.Str.{IsUtf8-string_bytes}
use Rattle.tendril_text.proofs.tendril.make.Tendril+UTF8+A.from_string.Goals as goal

pub invariant_of-result : goal.invariant_of-result
invariant_of-result g c = rw (c.in_ok-from_vec.ensures.bytes, c.into_bytes.ensures.value)
    (IsUtf8-string_bytes c.args.string)
