use Rattle.std.proofs.Common.{◌≡◌, ◌++◌, take, drop}
use Rattle.std.specs.Prelude.{IsAscii}
use Rattle.tendril_encoding.specs.Marks.{seen_bytes}
use Rattle.tendril_encoding.specs.States.{after_sniff, out_sniff}
use Rattle.tendril_encoding.specs.declared.known.Known.{Known}
use Rattle.tendril_encoding.specs.declared.mark.Seen.TheVariants.{Nothing}
use Rattle.tendril_encoding.proofs.search.find_mark.Given as goal

abbrev pub invariant-loop-i : goal.invariant-loop-i
invariant-loop-i l = record {
  seen : seen_bytes l.seen ≡ seen_bytes l.fn.start ++ take l.i l.bytes;
  out : (k : Known) → out_sniff l.marks k l.fn.start l.bytes ≡ out_sniff l.marks k l.seen (drop l.i l.bytes);
  after : (k : Known) → after_sniff l.marks k l.fn.start l.bytes ≡ after_sniff l.marks k l.seen (drop l.i l.bytes);
  ascii : l.fn.start ≡ Nothing → IsAscii l.bytes → l.seen ≡ Nothing;
}
