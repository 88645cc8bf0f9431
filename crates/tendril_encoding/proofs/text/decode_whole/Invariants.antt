use Rattle.std.proofs.Common.{◌≡◌, ◌-◌, ◌≤◌, false, length, take}
use Rattle.std.specs.Prelude.{encode_utf8_all}
use Rattle.tendril_encoding.specs.States.{decoding_from}
use Rattle.tendril_lossy.specs.Lossy.{characters, has_marks}
use Rattle.tendril_stream.specs.Compositions.{StandsAt}
use Rattle.tendril_encoding.proofs.text.decode_whole.Given as goal

abbrev pub invariant-loop-at : goal.invariant-loop-at
invariant-loop-at l = record {
  within : l.at ≤ length l.bytes;
  failed : l.decoder.decoder.failed ≡ false;
  stands : StandsAt (decoding_from l.fn.decoder.decoder.kept)
      (λ a t. (a.text.bytes ≡ encode_utf8_all (characters t)) × (a.malformed ≡ has_marks t))
      l.decoder.decoder.inner_sink l.decoder.decoder.kept (take l.at l.bytes);
}

abbrev pub decreases-loop-at : goal.decreases-loop-at
decreases-loop-at l = length l.bytes - l.at
